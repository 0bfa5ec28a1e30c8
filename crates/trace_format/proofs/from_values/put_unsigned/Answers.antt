use Rattle.std.proofs.Common.{arith, rules, sym, ap, ◌∙◌, Some, SFits}
use Rattle.std.proofs.lemmas.Int.{to_z-of_z}
use Rattle.std.specs.Int.{w128}
use Rattle.trace_format.specs.Cells.{Whole}
use Rattle.trace_format.proofs.WrittenNumbers.{unsigned_held}
use Rattle.trace_format.proofs.from_values.put_unsigned.Goals as goal

pub returns : goal.returns
returns c = λ _.
    let fits : SFits w128 c.from.result = search rules in
    unsigned_held c.args.number_type c.args.number c.greatest_magnitude.result (omega arith) c.greatest_magnitude.ensures (omega arith)
    ∙ ap (λ n. Some (Whole n)) (sym (to_z-of_z w128 c.from.result fits ∙ c.from.ensures))
