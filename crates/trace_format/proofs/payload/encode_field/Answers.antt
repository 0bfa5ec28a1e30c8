use Rattle.std.proofs.Common.{◌≡◌, ◌+◌, ◌-◌, ◌++◌, take, drop, sym, ap, ◌∙◌, subst, arith, rules, append_assoc, drop-drop, SFits}
use Rattle.std.proofs.lemmas.Int.{to_z-of_z}
use Rattle.std.specs.Int.{w128}
use Rattle.trace_format.specs.declared.kind.Kind.TheVariants.{Number}
use Rattle.trace_format.specs.Kinds.{size_of}
use Rattle.trace_format.specs.Cells.{Whole, Holds, datum_of, field_bytes}
use Rattle.trace_format.proofs.payload.encode_field.Goals as goal

pub returns-in-Number-Num : goal.returns-in-Number-Num
returns-in-Number-Num c =
    let at = c.args.at in
    let out = c.args.out.now in
    let kind = sym c.in-Number-Num.is-0 in
    let value = sym c.in-Number-Num.is-1 in
    let fits : SFits w128 c.in-Number-Num.number = search rules in
    let written : c.encode_number.new.out ≡ field_bytes c.args.kind (datum_of c.args.value.now) = c.encode_number.ensures ∙ ap (λ n. field_bytes (Number c.in-Number-Num.number_type) (Whole n)) (to_z-of_z w128 c.in-Number-Num.number fits) ∙ (λ i. field_bytes (kind i) (datum_of (value i))) in
    let size : at + c.args.size - at ≡ size_of c.args.kind = omega (arith, c.requires.size) in
    (λ i. take at out ++ (written i ++ drop (size i) (drop at out)))
    ∙ sym (append_assoc (take at out) (field_bytes c.args.kind (datum_of c.args.value.now)) (drop (size_of c.args.kind) (drop at out)))
    ∙ ap (λ rest. take at out ++ field_bytes c.args.kind (datum_of c.args.value.now) ++ rest) (drop-drop (size_of c.args.kind) at out)

pub encode_number-requires-clause-held : goal.encode_number-requires-clause-held
encode_number-requires-clause-held c =
    let number_type = c.in-Number-Num.number_type in
    let number = c.in-Number-Num.number in
    let fits : SFits w128 number = search rules in
    let held = subst (λ value. Holds (Number number_type) (datum_of value)) c.in-Number-Num.is-1 (subst (λ kind. Holds kind (datum_of c.args.value.now)) c.in-Number-Num.is-0 c.requires.held) in
    subst (λ n. Holds (Number number_type) (Whole n)) (sym (to_z-of_z w128 number fits)) held
