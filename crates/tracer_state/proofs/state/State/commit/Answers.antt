use Rattle.std.proofs.Common.{◌≡◌, ℕ, ◌+◌, ◌≤◌, length, ap, sym, subst, ◌∙◌, arith}
use Rattle.std.specs.Global.{Vec}
use Rattle.trace_instance.specs.declared.plan.Touched.{Touched}
use Rattle.tracer_state.specs.EventPlans.{touched_by}
use Rattle.tracer_state.specs.declared.plan.EventPlan.{EventPlan}
use Rattle.tracer_state.proofs.PlanSteps.{changed-with, plans-after, touched-within}
use Rattle.tracer_state.proofs.state.State.commit.Goals as goal

pub replan-requires : goal.replan-requires
replan-requires c =
    let touched = c.touched-touched.result in
    let are : touched ≡ touched_by (length c.args.self.now.catalog) c.args.change =
    c.touched-touched.ensures ∙ ap (λ (events : ℕ). touched_by events c.args.change) c.len.ensures.len in
    let within : touched.first + touched.count ≤ 64 = subst (λ (t : Touched). t.first + t.count ≤ 64) (sym are)
    (touched-within c.args.config.now c.args.self.now c.args.change c.requires.usable c.requires.ready) in
    rw c.make_change.ensures.plans (omega (arith, within, c.requires.usable.planned.many))

pub returns-clause-done : goal.returns-clause-done
returns-clause-done c =
    let old = c.args.self.now in
    let made = c.make_change.new.self in
    let plans = c.replan.new.plans in
    let done = changed-with old made plans c.args.change c.in_ok-make_change.ensures.done in (
      done,
      plans-after c.args.config.now old (record made { plans = plans }) c.args.change c.touched-touched.result c.requires.usable c.requires.ready done
          (c.touched-touched.ensures ∙ ap (λ (events : ℕ). touched_by events c.args.change) c.len.ensures.len)
          (c.replan.ensures.many ∙ ap (λ (v : Vec EventPlan). length v.items) c.make_change.ensures.plans) (rw c.deref.ensures.value at c.replan.ensures.planned)
          (rw c.make_change.ensures.plans at c.replan.ensures.before) (rw c.make_change.ensures.plans at c.replan.ensures.after),
    )
