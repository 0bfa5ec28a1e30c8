use Rattle.std.proofs.Common.{rules, sym, ap, ◌∙◌, Some, SFits}
use Rattle.std.proofs.lemmas.Int.{to_z-of_z}
use Rattle.std.specs.Int.{w64, w128}
use Rattle.trace_format.specs.Cells.{Whole}
use Rattle.trace_format.proofs.WrittenNumbers.{signed_held}
use Rattle.trace_format.proofs.from_values.put_signed.Goals as goal

pub returns : goal.returns
returns c = λ _.
    let fits : SFits w128 c.from.result = search rules in
    signed_held c.args.number_type c.args.number c.ranges.number (search rules)
    ∙ ap (λ n. Some (Whole n)) (sym (to_z-of_z w128 c.from.result fits ∙ c.from.ensures ∙ to_z-of_z w64 c.args.number c.ranges.number))
