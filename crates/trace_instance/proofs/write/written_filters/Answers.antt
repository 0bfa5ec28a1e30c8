use Rattle.std.proofs.Common.{◌≡◌, true, false, Ok, Err, sym, ◌∙◌, rules}
use Rattle.tracer_specification.specs.History.{filter_of_all_answer}
use Rattle.tracer_specification.specs.Settings.{clears_filter, declared_events}
use Rattle.trace_command.specs.declared.command.Reply.TheVariants.{Done}
use Rattle.trace_command.specs.declared.refusal.Refusal.TheVariants.{Memory}
use Rattle.trace_instance.proofs.Writes.{refuses-all, memory-for-all, clears-all, sets-all}
use Rattle.trace_instance.proofs.write.written_filters.Goals as goal

pub returns-then-is_empty-clause-change : goal.returns-then-is_empty-clause-change
returns-then-is_empty-clause-change c = λ g name past append events distinct.
    refuses-all past c.args.text.now (rw (← events) (search rules))

pub returns-then-clears_filter-clause-change : goal.returns-then-clears_filter-clause-change
returns-then-clears_filter-clause-change c = λ g name past append events distinct.
    let off : clears_filter c.args.text.now ≡ true = sym c.clears_filter.ensures ∙ c.if-clears_filter.true in
    clears-all g name past append c.args.text.now (rw events at distinct) (rw (← events) (search rules)) off

pub returns-in_err-changes-clause-change : goal.returns-in_err-changes-clause-change
returns-in_err-changes-clause-change c = λ g name past append events distinct.
    let out : c.from_residual.result ≡ Err Memory = search rules in
    rw (out, ← events) (memory-for-all c.args.text.now c.args.catalog.now (search rules))

pub returns-clause-change : goal.returns-clause-change
returns-clause-change c = λ g name past append events distinct.
    let done : filter_of_all_answer c.args.text.now (declared_events past) ≡ Ok Done = rw (← events) (search rules) in
    let on : clears_filter c.args.text.now ≡ false = sym c.clears_filter.ensures ∙ c.if-clears_filter.false in
    sets-all g name past append c.args.text.now c.in_ok-changes.field-0.changes (rw events at distinct) on (rw events at c.in_ok-changes.ensures.changes) done
