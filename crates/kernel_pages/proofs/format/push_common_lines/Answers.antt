use Rattle.std.proofs.lemmas.Result.{on_ok_weaker}
use Rattle.kernel_pages.proofs.FormatLemmas.{four_pieces}
use Rattle.kernel_pages.proofs.format.push_common_lines.Goals as goal

pub returns : goal.returns
returns c =
    on_ok_weaker c.push_common_line-4.result
    (λ written. four_pieces _ _ _ _ c.args.out.now.items _ _ _ _ c.in_ok-push_common_line.ensures c.in_ok-push_common_line-2.ensures c.in_ok-push_common_line-3.ensures written)
    c.push_common_line-4.ensures
