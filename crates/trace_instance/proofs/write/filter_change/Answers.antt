use Rattle.std.proofs.Common.{◌≢◌, rules}
use Rattle.trace_filter.specs.declared.fault.FilterFault.TheVariants as filter_fault
use Rattle.trace_instance.proofs.Filtering.{change-takes, change-keeps}
use Rattle.trace_instance.proofs.write.filter_change.Goals as goal

pub returns-in-Ok : goal.returns-in-Ok
returns-in-Ok c = change-takes c.args.text.now c.args.event.now c.in-Ok.filter c.in-Ok.ensures.read c.in-Ok.ensures.exact

pub returns-in-Err : goal.returns-in-Err
returns-in-Err c =
    let other : c.in-Err.field-0 ≢ filter_fault.Memory = search rules in
    change-keeps c.args.text.now c.args.event.now c.in-Err.field-0 c.in-Err.ensures.exact other
