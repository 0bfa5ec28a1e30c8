use Rattle.std.proofs.Common.{◌≡◌, ◌≢◌, ℕ, ◌<◌, ◌∙◌, length, get_or, set, arith, length-set, refl, sym, subst, ⊎_elim, get_or-set_same, get_or-set_other}
use Rattle.std.proofs.lemmas.Bool.{cases_eq}
use Rattle.tracer_state.specs.EventPlans.{IsPlanOf}
use Rattle.tracer_state.specs.declared.plan.EventPlan.{EventPlan}
use Rattle.tracer_state.proofs.plan.replan.Goals as goal

pub loop-event-init : goal.loop-event-init
loop-event-init c = record {
  many = refl;
  planned = λ k p from below. absurd (omega (arith, from, below));
  before = λ k p below. refl;
  after = λ k p above. refl;
}

pub loop-event-preserved : goal.loop-event-preserved
loop-event-preserved c =
    let was = c.loop-event.invariant in
    let plans = c.loop-event.plans.items in
    let event = c.loop-event.event in
    let made = c.new.result in
    let instances = c.args.instances.now in
    let inside : event < length plans = omega (arith, was.many, c.requires) in record {
      many = length-set _ _ _ ∙ was.many;
      planned = λ k p from below. ⊎_elim
          (λ (here : k ≡ event). subst (λ (j : ℕ). IsPlanOf j (get_or (set plans event made) j p) instances) (sym here)
          (subst (λ (kept : EventPlan). IsPlanOf event kept instances) (sym (get_or-set_same plans event made p inside)) c.new.ensures))
          (λ (other : k ≡ event → ⊥). subst (λ (kept : EventPlan). IsPlanOf k kept instances) (sym (get_or-set_other plans event k made p other))
          (was.planned k p from (omega (arith, below, other))))
          (cases_eq k event);
      before = λ k p below.
          let other : k ≢ event = omega (arith, below) in
          get_or-set_other plans event k made p other ∙ was.before k p below;
      after = λ k p above.
          let other : k ≢ event = omega (arith, above) in
          get_or-set_other plans event k made p other ∙ was.after k p (omega (arith, above));
    }
