-- The step at what is due is the step.
use Rattle.trace_format.specs.declared.reader.Due.TheVariants as due
use Rattle.trace_format.proofs.ReadingLemmas.{step_is, due_is}
use Rattle.trace_format.proofs.reader.Reader.take.Goals as goal

pub returns-in-Name : goal.returns-in-Name
returns-in-Name c = rw (step_is c.args.self.now c.args.word.now due.Name (due_is c.self.view_is c.in-Name.is)) c.take_name.ensures

pub returns-in-Type : goal.returns-in-Type
returns-in-Type c = rw (step_is c.args.self.now c.args.word.now due.Type (due_is c.self.view_is c.in-Type.is)) c.take_type.ensures

pub returns-in-Unsigned : goal.returns-in-Unsigned
returns-in-Unsigned c = rw (step_is c.args.self.now c.args.word.now due.Unsigned (due_is c.self.view_is c.in-Unsigned.is)) c.take_unsigned.ensures

pub returns-in-NumberField : goal.returns-in-NumberField
returns-in-NumberField c = rw (step_is c.args.self.now c.args.word.now (due.NumberField c.in-NumberField.number) (due_is c.self.view_is c.in-NumberField.is)) c.take_field.ensures

pub returns-in-TextField : goal.returns-in-TextField
returns-in-TextField c = rw (step_is c.args.self.now c.args.word.now due.TextField (due_is c.self.view_is c.in-TextField.is)) c.take_text_field.ensures

pub returns-in-Joint : goal.returns-in-Joint
returns-in-Joint c = rw (step_is c.args.self.now c.args.word.now due.Joint (due_is c.self.view_is c.in-Joint.is)) c.take_joint.ensures
