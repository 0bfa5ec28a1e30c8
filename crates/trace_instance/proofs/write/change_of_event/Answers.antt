use Rattle.std.proofs.Common.{◌≡◌, ◌<◌, length, get_or, Ok, Err, rules}
use Rattle.trace_command.specs.declared.refusal.Refusal.TheVariants.{BadValue}
use Rattle.tracer_specification.specs.Settings.{declared_events, written_flag}
use Rattle.trace_instance.specs.private.Commands.{needed_flag}
use Rattle.trace_instance.proofs.Writes.{no-switch, switches-one, sets-one, refuses-one}
use Rattle.trace_instance.proofs.Triggering.{kept-at, trigger-refused, trigger-written}
use Rattle.trace_instance.proofs.write.change_of_event.Goals as goal

pub returns-in-None-clause-change : goal.returns-in-None-clause-change
returns-in-None-clause-change c = λ g name past number events distinct stands.
    let needed : needed_flag (written_flag c.args.written.text.now) ≡ Err BadValue = search rules in
    rw c.in-Enable.is (no-switch c.args.written.text.now BadValue needed)

pub returns-in_err-filter-in-Filter-clause-change : goal.returns-in_err-filter-in-Filter-clause-change
returns-in_err-filter-in-Filter-clause-change c = λ g name past number events distinct stands.
    let index = c.args.event in
    let refused = c.in_err-filter-in-Filter.field-0.0 in
    let inside = c.requires.event in
    let out : c.from_residual.result ≡ Err refused = search rules in
    rw (out, c.in-Filter.is, events)
    (refuses-one past c.args.written.text.now index c.event_at.result.now refused (rw events at distinct) (rw events at inside) (rw events at c.event_at.ensures)
    c.in_err-filter-in-Filter.ensures.filter)

pub returns-in-Some-clause-change : goal.returns-in-Some-clause-change
returns-in-Some-clause-change c = λ g name past number events distinct stands.
    let flag = c.in-Some.flag in
    let needed : needed_flag (written_flag c.args.written.text.now) ≡ Ok flag = search rules in
    let inside = c.requires.event in
    rw (c.in-Enable.is, events)
    (switches-one g name past c.args.written.append c.args.written.text.now c.args.event flag (rw events at distinct) (rw events at inside) needed)

pub returns-in_ok-filter-in-Filter-clause-change : goal.returns-in_ok-filter-in-Filter-clause-change
returns-in_ok-filter-in-Filter-clause-change c = λ g name past number events distinct stands.
    let inside = c.requires.event in
    rw (c.in-Filter.is, events)
    (sets-one g name past c.args.written.append c.args.written.text.now c.args.event c.event_at.result.now c.in_ok-filter-in-Filter.filter (rw events at distinct)
    (rw events at inside) (rw events at c.event_at.ensures) c.in_ok-filter-in-Filter.ensures.filter)

pub returns-in_err-change-in-Trigger-clause-change : goal.returns-in_err-change-in-Trigger-clause-change
returns-in_err-change-in-Trigger-clause-change c = λ g name past number events distinct stands.
    let index = c.args.event in
    let refused = c.in_err-change-in-Trigger.field-0.0 in
    let out : c.from_residual-in_err-change-in-Trigger.result ≡ Err refused = search rules in
    let inside : index < length c.args.catalog.now = c.requires.event in
    let event = c.event_at-in-Trigger.result.now in
    let at : event ≡ get_or (declared_events past) index event = rw events at c.event_at-in-Trigger.ensures in
    let kept = kept-at g name past c.args.instance.now index event c.of-triggers.result stands (rw events at distinct) (rw events at inside) at
    c.of-triggers.ensures.snapshot c.of-triggers.ensures.hists c.of-triggers.ensures.all c.of-triggers.ensures.event in
    rw (out, c.in-Trigger.is, events)
    (trigger-refused g name past index event c.args.written refused (rw events at distinct) (rw events at inside) at
    (c.in_err-change-in-Trigger.ensures.change name past number kept))

pub returns-in_ok-change-in-Trigger-clause-change : goal.returns-in_ok-change-in-Trigger-clause-change
returns-in_ok-change-in-Trigger-clause-change c = λ g name past number events distinct stands.
    let index = c.args.event in
    let inside : index < length c.args.catalog.now = c.requires.event in
    let event = c.event_at-in-Trigger.result.now in
    let at : event ≡ get_or (declared_events past) index event = rw events at c.event_at-in-Trigger.ensures in
    let kept = kept-at g name past c.args.instance.now index event c.of-triggers.result stands (rw events at distinct) (rw events at inside) at
    c.of-triggers.ensures.snapshot c.of-triggers.ensures.hists c.of-triggers.ensures.all c.of-triggers.ensures.event in
    rw (c.in-Trigger.is, events)
    (trigger-written g name past index event c.args.written c.in_ok-change-in-Trigger.change (rw events at distinct) (rw events at inside) at
    (c.in_ok-change-in-Trigger.ensures.change name past number kept))

pub returns-in_err-filter-in-Filter-clause-memory : goal.returns-in_err-filter-in-Filter-clause-memory
returns-in_err-filter-in-Filter-clause-memory c = λ late.
    let refused = c.in_err-filter-in-Filter.field-0.0 in
    let out : c.from_residual.result ≡ Err refused = search rules in
    rw out (c.in_err-filter-in-Filter.ensures.memory (rw c.in-Filter.is at late))

pub returns-in_err-change-in-Trigger-clause-memory : goal.returns-in_err-change-in-Trigger-clause-memory
returns-in_err-change-in-Trigger-clause-memory c = λ late.
    let plain = rw c.in-Trigger.is at late in
    let refused = c.in_err-change-in-Trigger.field-0.0 in
    let out : c.from_residual-in_err-change-in-Trigger.result ≡ Err refused = search rules in
    rw out (c.in_err-change-in-Trigger.ensures.memory plain.0 plain.1)
