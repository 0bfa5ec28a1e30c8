use Rattle.std.proofs.Common.{sym, ap, ◌∙◌, subst, arith}
use Rattle.std.proofs.lemmas.Int.{ints}
use Rattle.hist_entries.specs.Hits.{number_of, field_cell}
use Rattle.hist_entries.specs.Numbers.{IsFieldNumber}
use Rattle.hist_entries.proofs.Numbers.{row_in_range}
use Rattle.hist_entries.proofs.cell.row_number.Goals as goal

pub new-requires : goal.new-requires
new-requires c =
    let range : IsFieldNumber c.field_number.result =
    subst IsFieldNumber
    (sym (c.field_number.ensures ∙ ap (λ cells. number_of (field_cell cells c.args.index)) c.values-values.ensures.values))
    (row_in_range c.args.row.now.kinds c.args.row.now.values c.args.index c.values-values.ensures.row) in
    (omega (arith, ints), omega (arith, ints))
