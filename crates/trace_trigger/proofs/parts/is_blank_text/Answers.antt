use Rattle.std.proofs.Common.{◌==◌, length, sym, ap, ◌∙◌}
use Rattle.trace_lex.specs.Blanks.{is_blank}
use Rattle.trace_trigger.proofs.Looking.{all-run}
use Rattle.trace_trigger.proofs.parts.is_blank_text.Goals as goal

pub returns : goal.returns
returns c = ap (λ n. n == length c.args.text.now) c.blanks_len.ensures.value ∙ sym (all-run is_blank c.args.text.now)
