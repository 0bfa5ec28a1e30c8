use Rattle.std.proofs.Common.{◌≡◌, rules, List, map, refl, ap, ◌∙◌}
use Rattle.trace_filter.specs.declared.token.Comparison.TheVariants as comparisons
use Rattle.trace_filter.specs.Tokens.{spots_of, tokens_of}
use Rattle.trace_format.specs.Operands.{Emission}
use Rattle.trace_filter.specs.Steps.{Move, move_of, moves_about, subjects_tested, evaluated, at_start}
use Rattle.trace_filter.specs.Filters.{Parsed}
use Rattle.trace_filter.proofs.FilterLemmas.{each_holds, some_passes, value_of_filter}
use Rattle.trace_filter.proofs.filter.Filter.passes.Goals as goal

pub returns-clause-truth : goal.returns-clause-truth
returns-clause-truth c = λ definition written is is_row.
    let emission : Emission = record { values = c.args.row.now.values; cpu = c.args.cpu; pid = c.args.pid } in
    let moves : List Move = map move_of c.self.inside.steps.items in
    let found : c.evaluate.result ≡ evaluated emission at_start (map move_of c.deref.result.now) = search rules in
    some_passes definition written c.args.self.now c.args.row.now emission refl is is_row
    moves (ap (λ (f : Parsed). f.subjects) c.self.view_is) (c.self.invariant ∙ ap (λ (f : Parsed). moves_about (subjects_tested moves) comparisons.Eq (tokens_of (spots_of f.text))) c.self.view_is)
    c.evaluate.result
    (found ∙ (λ i. evaluated emission at_start (map move_of (c.deref.ensures.value i))))

pub returns-clause-each : goal.returns-clause-each
returns-clause-each c = λ definition written is is_row.
    let emission : Emission = record { values = c.args.row.now.values; cpu = c.args.cpu; pid = c.args.pid } in
    let moves : List Move = map move_of c.self.inside.steps.items in
    let found : c.evaluate.result ≡ evaluated emission at_start (map move_of c.deref.result.now) = search rules in
    each_holds definition written c.args.self.now c.args.row.now emission refl is is_row
    moves (ap (λ (f : Parsed). f.subjects) c.self.view_is) (c.self.invariant ∙ ap (λ (f : Parsed). moves_about (subjects_tested moves) comparisons.Eq (tokens_of (spots_of f.text))) c.self.view_is)
    c.evaluate.result
    (found ∙ (λ i. evaluated emission at_start (map move_of (c.deref.ensures.value i))))

pub returns-clause-exact : goal.returns-clause-exact
returns-clause-exact c =
    let emission : Emission = record { values = c.args.row.now.values; cpu = c.args.cpu; pid = c.args.pid } in
    let found : c.evaluate.result ≡ evaluated emission at_start (map move_of c.deref.result.now) = search rules in
    found ∙ (λ i. evaluated emission at_start (map move_of (c.deref.ensures.value i)))
    ∙ ap (evaluated emission at_start) (c.self.invariant ∙ ap (λ (f : Parsed). moves_about f.subjects comparisons.Eq (tokens_of (spots_of f.text))) c.self.view_is)
    ∙ value_of_filter c.args.self.now emission
