use Rattle.std.proofs.Common.{rules}
use Rattle.std.proofs.lemmas.Fn.{always_returns_same}
use Rattle.std.proofs.lemmas.Result.{on_ok_weaker}
use Rattle.hist_entries.specs.PrintOrder.{comes_before, row_in}
use Rattle.hist_entries.proofs.Printing.{entry_order, print_order}
use Rattle.trace_hist.proofs.sort.sort_entries.Goals as goal

pub returns : goal.returns
returns c =
    let keys = c.args.rules.now in
    let answers = always_returns_same _ _ _ (λ a r f k. search rules) in
    on_ok_weaker c.sort_by.result
    (λ sorted. print_order keys _ _ c.sort_by.ensures.permutation (sorted (λ x y. comes_before keys (row_in x) (row_in y)) (entry_order keys) answers)
    (c.sort_by.ensures.stable (λ x y. comes_before keys (row_in x) (row_in y)) (entry_order keys) answers))
    c.sort_by.ensures.sorted
