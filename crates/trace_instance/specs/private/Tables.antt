-- What a hit does to a table, and a change of triggers to all of them.
use Rattle.std.specs.Prelude.{◌≡◌, ℕ, Bool, Option, Some, None, ⊤}
use Rattle.trace_format.specs.Operands.{Emission}
use Rattle.trace_trigger.specs.HistSpecs.{SpecSeen}
use Rattle.trace_hist.specs.Hists.{IsCountedFor, Seen}
use Rattle.trace_command.specs.declared.command.Config.{Config}
use Rattle.trace_snapshot.specs.Sides as snapshot
use Rattle.trace_snapshot.specs.Sides.{SideFamilies}
use Rattle.trace_instance.specs.Changes.{hists_after, sides_changed, table_changed, triggers_after}
use Rattle.trace_instance.specs.Instances.{InstanceSeen, IsShaped, WereOffered}
use Rattle.trace_instance.specs.KeptHists.{kept_at}
use Rattle.trace_instance.specs.declared.change.InstanceChange.TheVariants.{Triggers}
use Rattle.trace_instance.specs.declared.change.TriggerChange.{TriggerChange}

-- a row was counted in a table, as a trigger reads it, if there is one
abbrev pub IsCounted : SpecSeen → Emission → Option Seen → Option Seen → Type 0
IsCounted by emission None None = ⊤
IsCounted by emission None (Some new) = ⊥
IsCounted by emission (Some old) None = ⊥
IsCounted by emission (Some old) (Some new) = IsCountedFor by emission old new

-- ---- a change of an event's triggers

-- the triggers were changed, and what is asked of a table was done, but tables of no trigger are still there
pub record AreSet (event : ℕ) (append : Bool) (change : TriggerChange) (old new : InstanceSeen) : Type 0 where
  pub enabled : new.enabled ≡ old.enabled
  pub filters : new.filters ≡ old.filters
  pub triggers : new.triggers ≡ triggers_after (Triggers event append change) old.triggers
  pub hists : new.hists ≡ hists_after (Triggers event append change) old.hists
  pub tables : (number : ℕ) → kept_at number new.tables ≡ table_changed change number (kept_at number old.tables)
  pub overwrite : new.overwrite ≡ old.overwrite
  pub tracing : new.tracing ≡ old.tracing
  pub sides : (families : SideFamilies) → snapshot.StandsFor old.sides families
      → snapshot.StandsFor new.sides (sides_changed old.sides.cpus old.sides.live.pages old.sides.live.page_bytes (Triggers event append change) families)
  pub shaped : (g : Config) → IsShaped g old.sides → IsShaped g new.sides
  pub offered : (most : ℕ) → WereOffered most old.sides → WereOffered most new.sides
