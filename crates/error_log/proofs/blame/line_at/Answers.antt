use Rattle.error_log.proofs.LineLemmas.{line_cut}
use Rattle.error_log.proofs.blame.line_at.Goals as goal

pub returns : goal.returns
returns c =
    line_cut c.args.text.now _ _ c.args.offset _ _ c.up_to-before.ensures c.last_line_len.ensures.value c.last_line_len.ensures.bound c.after.ensures
    c.first_line_len.ensures.value
