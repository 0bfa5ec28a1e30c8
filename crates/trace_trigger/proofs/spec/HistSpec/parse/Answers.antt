use Rattle.std.proofs.Common.{◌≡◌, Err, ap, ◌∙◌, rules}
use Rattle.trace_trigger.specs.declared.fault.TriggerFault.{TriggerFault}
use Rattle.trace_trigger.specs.declared.fault.TriggerFault.TheVariants.{BadText}
use Rattle.trace_trigger.proofs.LaterFaults.{known_read, known_told}
use Rattle.trace_trigger.proofs.spec.HistSpec.parse.Goals as goal

pub returns-in_err-written-clause-known : goal.returns-in_err-written-clause-known
returns-in_err-written-clause-known c = λ cause bad.
    let same : c.in_err-written.field-0.0 ≡ BadText cause = search rules in
    known_read c.args.event.now c.args.text.now c.read_written.result cause c.read_written.ensures (c.in_err-written.was ∙ ap (λ (f : TriggerFault). Err f) same)

pub returns-clause-known : goal.returns-clause-known
returns-clause-known c = λ cause. known_told c.args.event.now c.args.text.now _ c.spec_from.result cause c.spec_from.ensures
