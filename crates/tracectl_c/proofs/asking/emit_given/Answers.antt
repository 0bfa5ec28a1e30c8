use Rattle.std.proofs.Common.{◌≡◌, List, Option, inl, subst, to_z, of_z, w32, rules, arith}
use Rattle.std.proofs.lemmas.Int.{to_z-of_z}
use Rattle.trace_format.specs.declared.field_value.FieldValue.{FieldValue}
use Rattle.tracectl_c.specs.Calls.{OrLacksMemory, said_given}
use Rattle.tracectl_c.proofs.ValueLemmas.{lone_read}
use Rattle.tracectl_c.proofs.asking.emit_given.Goals as goal

pub returns-in-len1-clause-asked : goal.returns-in-len1-clause-asked
returns-in-len1-clause-asked c =
    let process : to_z w32 (of_z w32 c.args.process) ≡ c.args.process = to_z-of_z w32 c.args.process (search rules) in
    subst (λ (given : Option (List FieldValue)). OrLacksMemory (said_given c.args.event c.args.cpu c.args.process given) c.args.console.now
    c.emit_one.new.console c.emit_one.result)
    (lone_read c.args.values.now _ (omega (arith, c.in-len1.len_at_least)) (omega (arith, c.in-len1.len_below)))
    (inl (rw process at c.emit_one.ensures.asked))

pub returns-in_default-clause-asked : goal.returns-in_default-clause-asked
returns-in_default-clause-asked c =
    let process : to_z w32 (of_z w32 c.args.process) ≡ c.args.process = to_z-of_z w32 c.args.process (search rules) in rw process at c.emit_several.ensures.asked
