-- What a plan says of an emission: where nothing has to be asked, all that is done.
use Rattle.std.proofs.Common.{◌≡◌, ◌≢◌, ℕ, Bool, true, false, ◌&&◌, ◌==◌, List, [], ◌∷◌, length, get_or, is_some, Option, Some, None, refl, ap, ◌∙◌, arith}
use Rattle.std.proofs.lemmas.Bool.{ne_eqb}
use Rattle.trace_filter.specs.Filters.{Parsed}
use Rattle.trace_format.specs.Operands.{Emission}
use Rattle.trace_instance.specs.Instances.{InstanceSeen}
use Rattle.trace_instance.specs.Plans.{plan_of, planned}
use Rattle.trace_instance.specs.Rows.{kept_acts, kept_holds, reach_of}
use Rattle.trace_instance.specs.declared.change.Reach.{Reach}
use Rattle.trace_instance.specs.declared.hists.AttachedHist.{AttachedHist}
use Rattle.trace_instance.specs.declared.plan.Plan.{Plan}
use Rattle.trace_instance.specs.declared.plan.Plan.TheVariants.{Ask}
use Rattle.trace_instance.specs.declared.trigger.AttachedSnapshot.{AttachedSnapshot}
use Rattle.tracer_state.specs.EventPlans.{unasked}

-- an emission does this in an instance, and triggers do nothing there
pub record IsQuiet (i : InstanceSeen) (event : ℕ) (emission : Emission) (does : Reach) : Type 0 where
  pub reach : does ≡ reach_of i event emission
  pub snapshot_fires : does.snapshot_fires ≡ false
  pub hists : get_or i.hists event [] ≡ []

-- by what a plan is made of
by_parts : (tracing enabled : Bool) (filter : Option Parsed) (trigger : Option AttachedSnapshot) (hists : List AttachedHist) (emission : Emission)
    → planned (tracing && enabled) filter (is_some trigger) hists ≢ Ask
    → (unasked (planned (tracing && enabled) filter (is_some trigger) hists)
    ≡ record { records = tracing && (enabled && kept_holds filter emission); snapshot_fires = kept_acts trigger emission })
    × (kept_acts trigger emission ≡ false) × (hists ≡ [])
unfolding kept_holds
by_parts tracing enabled filter (Some t) hists emission known = absurd (known refl)
by_parts tracing enabled filter None (h ∷ hists) emission known =
    let some : (length (h ∷ hists) == 0) ≡ false = ne_eqb (length (h ∷ hists)) 0 (omega arith) in absurd (known (rw some refl))
by_parts true true (Some f) None [] emission known = absurd (known refl)
by_parts true true None None [] emission known = (refl, refl, refl)
by_parts true false filter None [] emission known = (refl, refl, refl)
by_parts false enabled filter None [] emission known = (refl, refl, refl)

pub planned-unasked : (i : InstanceSeen) (event : ℕ) (emission : Emission) (plan : Plan) (reach : Reach) → plan ≡ plan_of i event → plan ≢ Ask
    → reach ≡ unasked plan → IsQuiet i event emission reach
planned-unasked i event emission plan reach is known told =
    let parts = by_parts i.tracing (get_or i.enabled event false) (get_or i.filters event None) (get_or i.triggers event None) (get_or i.hists event []) emission
    (λ e. known (is ∙ e)) in
    let same = told ∙ ap unasked is ∙ parts.0 in
    record { reach = same; snapshot_fires = ap (λ (r : Reach). r.snapshot_fires) same ∙ parts.1; hists = parts.2 }
