use Rattle.std.proofs.Common.{◌≡◌, ◌≢◌, ◌∙◌, ℕ, ◌<◌, false, arith, below_more, get_or, set, length, length-set, get_or-set_same, get_or-set_other, sym, ap, subst}
use Rattle.std.proofs.lemmas.List.{get_or_default}
use Rattle.trace_instance.specs.Plans.{plan_of}
use Rattle.trace_instance.specs.declared.plan.Plan.TheVariants.{Nothing, Ask}
use Rattle.tracer_state.specs.EventPlans.{unasked}
use Rattle.tracer_state.specs.declared.state.Named.{Named}
use Rattle.tracer_state.proofs.EachInstance.{reached_more, unless_more}
use Rattle.tracer_state.proofs.plan.EventPlan.new.Goals as goal

pub loop-i-preserved : goal.loop-i-preserved
loop-i-preserved c =
    let was = c.loop-i.invariant in
    let instances = c.args.instances.now in
    let i = c.loop-i.i in
    let each = c.loop-i.each in
    let reaches = c.loop-i.reaches in
    let plan = c.plan-plan.result in
    let reach = c.unasked-reach.result in
    let inside : i < length each = omega (arith, was.many) in
    let within : i < length reaches = omega (arith, was.places) in
    let here : (n : Named) → plan ≡ plan_of (get_or instances i n).instance c.args.event =
    λ n. subst (λ (m : Named). plan ≡ plan_of m.instance c.args.event) (get_or_default instances i c.index-instances-i.result n (omega arith))
    c.plan-plan.ensures in record {
      many = length-set _ _ _ ∙ was.many;
      places = length-set _ _ _ ∙ was.places;
      each = reached_more Nothing (λ k p. (n : Named) → p ≡ plan_of (get_or instances k n).instance c.args.event) each i plan inside here was.each;
      reaches = λ k below. below_more
          (λ (j : ℕ). get_or (set reaches i reach) j (unasked Nothing) ≡ unasked (get_or (set each i plan) j Nothing)) i
          (λ j before.
          let other : j ≢ i = omega (arith, before) in
          get_or-set_other reaches i j reach (unasked Nothing) other ∙ was.reaches j before
          ∙ ap unasked (sym (get_or-set_other each i j plan Nothing other)))
          (get_or-set_same reaches i reach (unasked Nothing) within ∙ c.unasked-reach.ensures ∙ ap unasked (sym (get_or-set_same each i plan Nothing inside)))
          k below;
      recorded = unless_more (unasked Nothing) (λ k r. r.records ≡ false) reaches i reach c.loop-i.recorded reach.records within (λ off. off) was.recorded;
      asks = unless_more Nothing (λ k p. p ≢ Ask) each i plan c.loop-i.some_asks c.asks-some_asks.result inside c.asks-some_asks.ensures was.asks;
    }

pub returns : goal.returns
returns c =
    let was = c.loop-i.invariant in record {
      each = λ k inside few n. was.each k (omega (arith, inside, few)) n;
      reaches = λ k inside few. was.reaches k (omega (arith, inside, few));
      recorded = λ off k inside few. was.recorded off k (omega (arith, inside, few));
      asks = λ off k inside few. was.asks off k (omega (arith, inside, few));
    }
