-- The plans of events: what the settings of each instance say of each.
use Rattle.std.specs.Prelude.{◌≡◌, ◌≢◌, ℕ, ◌<◌, true, false, List, length, slice_index_or}
use Rattle.trace_instance.specs.Plans.{plan_of, touched}
use Rattle.trace_instance.specs.declared.change.Reach.{Reach}
use Rattle.trace_instance.specs.declared.plan.Plan.{Plan}
use Rattle.trace_instance.specs.declared.plan.Plan.TheVariants.{Nothing, Record, Ask}
use Rattle.trace_instance.specs.declared.plan.Touched.{Touched}
use Rattle.tracer_state.specs.declared.change.Change.{Change}
use Rattle.tracer_state.specs.declared.change.Change.TheVariants.{Declare, Make, Remove, Instance}
use Rattle.tracer_state.specs.declared.plan.EventPlan.{EventPlan}
use Rattle.tracer_state.specs.declared.state.Named.{Named}
use Rattle.tracer_state.specs.declared.state.State.{State}

-- what an emission does where nothing is asked
abbrev pub unasked : Plan → Reach
unasked Record = record { records = true; snapshot_fires = false }
unasked Nothing = record { records = false; snapshot_fires = false }
unasked Ask = record { records = false; snapshot_fires = false }

-- this holds at the index of each of the first eight instances
abbrev pub AtEach : (ℕ → Type 0) → List Named → Type 0
AtEach P instances = (k : ℕ) → k < length instances → k < 8 → P k

-- what is kept of the event at an index is its plan in each instance, and what an emission does there if nothing is asked; if none is said to be asked,
-- none has to be, and if none is said to record it whatever its row, none does
pub record IsPlanOf (event : ℕ) (kept : EventPlan) (instances : List Named) : Type 0 where
  pub each : AtEach (λ k. (n : Named) → slice_index_or kept.each k Nothing ≡ plan_of (slice_index_or instances k n).instance event) instances
  pub reaches : AtEach (λ k. slice_index_or kept.reaches k (unasked Nothing) ≡ unasked (slice_index_or kept.each k Nothing)) instances
  pub recorded : kept.recorded ≡ false → AtEach (λ k. (slice_index_or kept.reaches k (unasked Nothing)).records ≡ false) instances
  pub asks : kept.asks ≡ false → AtEach (λ k. slice_index_or kept.each k Nothing ≢ Ask) instances

-- there is room for the plans of 64 events, and those of so many are there
pub record ArePlans (events : ℕ) (plans : List EventPlan) (instances : List Named) : Type 0 where
  pub many : length plans ≡ 64
  pub each : (event : ℕ) (p : EventPlan) → event < events → IsPlanOf event (slice_index_or plans event p) instances

-- the plans of a state's events are what its instances' settings say
abbrev pub IsPlanned : State → Type 0
IsPlanned state = ArePlans (length state.catalog) state.plans.items state.instances.items

-- the events whose plans a change may change, where so many are declared
abbrev pub touched_by : ℕ → Change → Touched
touched_by events (Declare event) = record { first = events; count = 1 }
touched_by events (Make named) = record { first = 0; count = events }
touched_by events (Remove index) = record { first = 0; count = events }
touched_by events (Instance index change) = touched events change
