use Rattle.std.proofs.Common.{true, false, rules}
use Rattle.trace_command.specs.declared.refusal.Refusal.TheVariants.{BadValue}
use Rattle.trace_instance.proofs.Writes.{clears-trace, no-switch, no-option, no-number, sets-overwrite, sets-option, sets-tracing, switches-all}
use Rattle.trace_instance.proofs.write.change_of_instance.Goals as goal

pub returns-in-None-clause-change : goal.returns-in-None-clause-change
returns-in-None-clause-change c = λ g name past events distinct stands.
    rw c.in-Overwrite.is (no-switch c.args.written.text.now BadValue (search rules))

pub returns-in-None-written_option-clause-change : goal.returns-in-None-written_option-clause-change
returns-in-None-written_option-clause-change c = λ g name past events distinct stands.
    rw c.in-TraceOptions.is (no-option c.args.written.text.now BadValue (search rules))

pub returns-in-None-written_tracing-clause-change : goal.returns-in-None-written_tracing-clause-change
returns-in-None-written_tracing-clause-change c = λ g name past events distinct stands.
    rw c.in-TracingOn.is (no-number c.args.written.text.now BadValue (search rules))

pub returns-in-None-written_flag-clause-change : goal.returns-in-None-written_flag-clause-change
returns-in-None-written_flag-clause-change c = λ g name past events distinct stands.
    rw c.in-EventsEnable.is (no-switch c.args.written.text.now BadValue (search rules))

pub returns-in-Some-clause-change : goal.returns-in-Some-clause-change
returns-in-Some-clause-change c = λ g name past events distinct stands.
    let flag = c.in-Some.flag in
    rw c.in-Overwrite.is (sets-overwrite g name past c.args.written.append c.args.written.text.now flag (search rules))

pub returns-in-Some-written_option-clause-change : goal.returns-in-Some-written_option-clause-change
returns-in-Some-written_option-clause-change c = λ g name past events distinct stands.
    let flag = c.in-Some-written_option.flag in
    rw c.in-TraceOptions.is (sets-option g name past c.args.written.append c.args.written.text.now flag (search rules))

pub returns-in-Some-written_tracing-clause-change : goal.returns-in-Some-written_tracing-clause-change
returns-in-Some-written_tracing-clause-change c = λ g name past events distinct stands.
    let flag = c.in-Some-written_tracing.flag in
    rw c.in-TracingOn.is (sets-tracing g name past c.args.written.append c.args.written.text.now flag (search rules))

pub returns-in-Some-written_flag-clause-change : goal.returns-in-Some-written_flag-clause-change
returns-in-Some-written_flag-clause-change c = λ g name past events distinct stands.
    let flag = c.in-Some-written_flag.flag in
    rw c.in-EventsEnable.is (switches-all g name past c.args.written.append c.args.written.text.now flag (rw events at distinct) (search rules))

pub returns-in-EventsFilter-clause-change : goal.returns-in-EventsFilter-clause-change
returns-in-EventsFilter-clause-change c = λ g name past events distinct stands.
    rw c.in-EventsFilter.is (c.written_filters.ensures.change g name past c.args.written.append events distinct)

pub returns-then-append-clause-change : goal.returns-then-append-clause-change
returns-then-append-clause-change c = λ g name past events distinct stands.
    rw (c.in-Trace.is, c.if-append.true) (clears-trace g name past c.args.written.text.now true)

pub returns-else-append-clause-change : goal.returns-else-append-clause-change
returns-else-append-clause-change c = λ g name past events distinct stands.
    rw (c.in-Trace.is, c.if-append.false) (clears-trace g name past c.args.written.text.now false)

pub returns-in-Snapshot-clause-change : goal.returns-in-Snapshot-clause-change
returns-in-Snapshot-clause-change c = λ g name past events distinct stands.
    rw c.in-Snapshot.is (c.written_snapshot.ensures.change g name past c.args.written.append stands)

pub returns-in-EventsFilter-clause-memory : goal.returns-in-EventsFilter-clause-memory
returns-in-EventsFilter-clause-memory c = λ late. c.written_filters.ensures.memory (rw c.in-EventsFilter.is at late)
