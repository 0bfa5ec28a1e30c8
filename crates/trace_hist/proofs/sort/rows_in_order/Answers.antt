use Rattle.std.proofs.Common.{◌≡◌, map, ap, ◌∙◌, rules}
use Rattle.hist_entries.specs.PrintOrder.{row_in, printed, IsPrintOrder}
use Rattle.hist_entries.proofs.PrintLaws.{printed_is_in_print_order, one_print_order}
use Rattle.trace_hist.proofs.sort.rows_in_order.Goals as goal

pub returns : goal.returns
returns c =
    let rules_now = c.args.rules.now in
    let built = map row_in c.in_ok-rows.rows.items in
    let shown = map row_in c.sort_entries.new.entries.items in
    let all : built ≡ c.args.copy.now = search rules in
    let order : IsPrintOrder rules_now built shown = search rules in
    one_print_order rules_now built (printed rules_now built) shown (printed_is_in_print_order rules_now built) order ∙ ap (printed rules_now) all
