use Rattle.std.proofs.Common.{◌≡◌, ℤ, [], ◌∷◌, List, subst, sym, ◌∙◌, to_z, of_z, w32, rules}
use Rattle.std.proofs.lemmas.Int.{to_z-of_z}
use Rattle.trace_format.specs.declared.field_value.FieldValue.{FieldValue}
use Rattle.library_tracer.specs.Consoles.{Comes, said_values}
use Rattle.tracectl_c.proofs.ValueLemmas.{one_read, none_in_one}
use Rattle.tracectl_c.proofs.asking.emit_one.Goals as goal

pub returns-in-Some-clause-asked : goal.returns-in-Some-clause-asked
returns-in-Some-clause-asked c =
    let process : to_z w32 (of_z w32 c.args.process) ≡ c.args.process = to_z-of_z w32 c.args.process (search rules) in
    rw (one_read c.args.value.now c.in-Some.value (sym c.value_in.ensures ∙ c.in-Some.is))
    (subst (λ (p : ℤ). Comes (said_values c.args.event c.args.cpu p (c.in-Some.value ∷ [])) c.args.console.now c.emit_values.new.self
    c.emit_values.result) process
    (subst (λ (values : List FieldValue). Comes (said_values c.args.event c.args.cpu (to_z w32 (of_z w32 c.args.process)) values)
    c.args.console.now c.emit_values.new.self c.emit_values.result)
    c.from_ref.ensures.value c.emit_values.ensures.comes))

pub returns-in-None-clause-asked : goal.returns-in-None-clause-asked
returns-in-None-clause-asked c = rw (none_in_one c.args.value.now (sym c.value_in.ensures ∙ c.in-None.is)) c.refuse.ensures.comes
