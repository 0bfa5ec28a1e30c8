use Rattle.std.proofs.Common.{◌≡◌, Err, sym, ◌∙◌, rules}
use Rattle.trace_instance.proofs.Filtering.{taken-by-some, first-takes, first-refuses}
use Rattle.trace_instance.proofs.write.check_filter_of_all.Goals as goal

pub returns-then-some-clause-done : goal.returns-then-some-clause-done
returns-then-some-clause-done c =
    taken-by-some c.args.text.now c.args.events.now c.requires.one (sym c.requires.some ∙ c.if-some.true)

pub returns-in_err-_filter-clause-refused : goal.returns-in_err-_filter-clause-refused
returns-in_err-_filter-clause-refused c =
    let out : c.from_residual.result ≡ Err c.in_err-_filter.field-0.0 = search rules in
    rw out (first-refuses c.args.text.now c.args.events.now c.event_at.result.now c.in_err-_filter.field-0.0 c.requires.one c.event_at.ensures
    (sym c.requires.some ∙ c.if-some.false) c.in_err-_filter.ensures.filter)

pub returns-clause-done : goal.returns-clause-done
returns-clause-done c =
    first-takes c.args.text.now c.args.events.now c.event_at.result.now _ c.requires.one c.event_at.ensures c.in_ok-_filter.ensures.filter
