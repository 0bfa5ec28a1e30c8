use Rattle.std.proofs.Common.{refl, sym, ap, ◌∙◌, subst, arith, option_map, IsSome}
use Rattle.trace_format.specs.Cells.{datum_of}
use Rattle.trace_format.proofs.LoopLemmas.{missing_here, missing_later, given_more, none_missing, all_given}
use Rattle.trace_format.proofs.given.given_values.Goals as goal

pub loop-field-preserved : goal.loop-field-preserved
loop-field-preserved c =
    let fields = c.args.fields.now in
    let pairs = c.args.pairs.now in
    let i = c.loop-field.field-index in
    let field = c.field-item.result in
    let value = ap (option_map datum_of) (sym c.in-Some.is) ∙ c.in_ok-value.ensures in (
      omega (arith, c.loop-field.invariant.0, c.loop-field-test.true, c.push_reserved.ensures.len, c.push_reserved.ensures.capacity),
      missing_later fields pairs i field c.loop-field-test.true c.field-item.is c.loop-field.invariant.1 _ value,
      rw c.push_reserved.ensures.items (given_more fields pairs i field c.loop-field-test.true c.field-item.is _ _ c.loop-field.invariant.2 _ value),
    )

pub returns-in_default-clause-missing : goal.returns-in_default-clause-missing
returns-in_default-clause-missing c =
    λ _. subst IsSome
    (sym (missing_here c.args.fields.now c.args.pairs.now c.loop-field.field-index c.field-item.result c.loop-field-test.true c.field-item.is c.loop-field.invariant.1
    (ap (option_map datum_of) (sym c.in_default.is) ∙ c.in_ok-value.ensures))) refl

pub returns-clause-all : goal.returns-clause-all
returns-clause-all c = λ _. none_missing c.args.fields.now c.args.pairs.now c.loop-field.field-index c.loop-field-test.false c.loop-field.invariant.1

pub returns-clause-values : goal.returns-clause-values
returns-clause-values c = λ _. all_given c.args.fields.now c.args.pairs.now c.loop-field.field-index c.loop-field-test.false _ _ c.loop-field.invariant.2
