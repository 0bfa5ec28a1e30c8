use Rattle.std.proofs.Common.{◌≡◌, false, Err, sym, ◌∙◌, rules}
use Rattle.trace_command.specs.Refusals.{refusal_of_filter}
use Rattle.tracer_specification.specs.Settings.{clears_filter}
use Rattle.trace_instance.proofs.Filtering.{filter-clears, filter-reads, filter-refuses}
use Rattle.trace_instance.proofs.write.written_filter.Goals as goal

pub returns-then-clears_filter-clause-filter : goal.returns-then-clears_filter-clause-filter
returns-then-clears_filter-clause-filter c = filter-clears c.args.text.now c.args.event.now (sym c.clears_filter.ensures ∙ c.if-clears_filter.true)

pub returns-in_err-parse-clause-filter : goal.returns-in_err-parse-clause-filter
returns-in_err-parse-clause-filter c =
    let on : clears_filter c.args.text.now ≡ false = sym c.clears_filter.ensures ∙ c.if-clears_filter.false in
    let out : c.from_residual.result ≡ Err (refusal_of_filter c.in_err-parse.field-0.0) = search rules in
    rw out (filter-refuses c.args.text.now c.args.event.now c.in_err-parse.field-0.0 on c.in_err-parse.ensures.exact)

pub returns-clause-filter : goal.returns-clause-filter
returns-clause-filter c =
    let on : clears_filter c.args.text.now ≡ false = sym c.clears_filter.ensures ∙ c.if-clears_filter.false in
    filter-reads c.args.text.now c.args.event.now c.in_ok-parse.field-0 on c.in_ok-parse.ensures.read c.in_ok-parse.ensures.exact
