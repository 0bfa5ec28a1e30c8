use Rattle.std.proofs.Common.{rules, arith, ◌≡◌, ◌<◌, Some, length, get_or, sym, ap, ◌∙◌, SFits}
use Rattle.std.proofs.lemmas.Bool.Decides.{nat_tests}
use Rattle.std.proofs.lemmas.Int.{to_z-of_z}
use Rattle.std.specs.Int.{w128}
use Rattle.trace_format.specs.private.NumberPatterns.{magnitude_in}
use Rattle.trace_format.specs.Cells.{Whole}
use Rattle.trace_format.proofs.MagnitudeLemmas.{magnitude_value}
use Rattle.trace_format.proofs.value.put_number.Goals.{in_default-via-then-text-lt1, in_default-via-else-text-lt1+in_default-1}
use Rattle.trace_format.proofs.value.put_number.Goals as goal

pub returns-in-Some : goal.returns-in-Some
returns-in-Some c = λ did.
    let text = c.args.text.now in
    let plain : 0 < length text → get_or text 0 0 ≡ 45 → ⊥ =
    elim c.in_default.branch [
      | in_default-via-then-text-lt1 w ↦ λ some is. absurd (search (rules, arith, nat_tests))
      | in_default-via-else-text-lt1+in_default-1 w ↦ λ some is. absurd (search (rules, arith, nat_tests))
    ] in
    let fits : SFits w128 c.from.result = search rules in
    let read : magnitude_in c.args.number_type text ≡ Some c.in-Some.value = sym c.held_magnitude.ensures ∙ c.in-Some.is in
    magnitude_value c.args.number_type text c.in-Some.value plain read ∙ ap (λ n. Some (Whole n)) (sym (to_z-of_z w128 c.from.result fits ∙ c.from.ensures))
