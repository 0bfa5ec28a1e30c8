-- What is prepared for a write to a file of an instance, and for a read of one.
use Rattle.std.specs.Prelude.{◌≡◌, ℕ, ◌<◌, Bool, true, List, [], length, slice_index_or, All, is_some, Option, Some, Result, Ok, Err, ⊤}
use Rattle.trace_command.specs.Paths.{File}
use Rattle.trace_buffer.specs.Buffers as buffers
use Rattle.trace_format.specs.Catalogs.{AreEvents}
use Rattle.trace_command.specs.Refusals.{IsRefusal}
use Rattle.trace_command.specs.Requests.{Request, WriteFile}
use Rattle.trace_command.specs.declared.command.Config.{Config}
use Rattle.trace_command.specs.declared.command.Reply.TheVariants.{Done}
use Rattle.trace_command.specs.declared.refusal.Refusal.{Refusal}
use Rattle.tracer_specification.specs.History.{read_answer, write_answer}
use Rattle.tracer_specification.specs.Rings.{rings, rings_after_read}
use Rattle.tracer_specification.specs.Settings.{declared_events, now_of}
use Rattle.trace_instance.specs.Instances.{InstanceSeen, InstanceStandsFor}
use Rattle.trace_instance.specs.KeptHists.{table_numbered}
use Rattle.trace_instance.specs.declared.hists.AttachedHist.{AttachedHist}
use Rattle.trace_instance.specs.declared.tables.Table.{Table}
use Rattle.trace_instance.specs.Changes.{IsEffect, IsLawful, rings_changed}
use Rattle.trace_instance.specs.declared.change.InstanceChange.{InstanceChange}
use Rattle.trace_instance.specs.declared.change.InstanceChange.TheVariants.{Keep, Take, TakeCpu}
use Rattle.trace_instance.specs.declared.read.Shown.{Shown}
use Rattle.trace_instance.specs.declared.read.FileSource.{FileSource}
use Rattle.trace_instance.specs.declared.file.File.{File as Found}
use Rattle.trace_instance.specs.declared.file.File.TheVariants as found

-- the change that a write to a file of this instance makes, or why it is refused
abbrev pub IsWriteChange : Config → Option (List ℕ) → List Request → Bool → List ℕ → File → Result InstanceChange Refusal → Type 0
IsWriteChange g name past append text file (Ok change) =
    (write_answer g name past append text file ≡ Ok Done) × IsEffect g name past (WriteFile name (Some file) append text) change
    × ((i : InstanceSeen) → InstanceStandsFor g name past i → IsLawful i change)
IsWriteChange g name past append text file (Err refusal) = IsRefusal refusal (write_answer g name past append text file)

-- a change that a read makes: it sets nothing
abbrev pub IsReading : ℕ → InstanceChange → Type 0
IsReading cpus Keep = ⊤
IsReading cpus (Take counts) = ⊤
IsReading cpus (TakeCpu cpu most) = cpu < cpus
IsReading cpus change = ⊥

-- what a read of a file shows and changes, or why it is refused
abbrev pub IsRead : Config → Option (List ℕ) → List Request → Option ℕ → File → Result Shown Refusal → Type 0
IsRead g name past limit file (Ok shown) =
    (read_answer g name past limit file ≡ Ok shown.reply) × IsReading g.cpus shown.change
    × (rings_after_read g limit (Some file) (rings g name past) ≡ rings_changed g.pages g.page_bytes shown.change (rings g name past))
IsRead g name past limit file (Err refusal) = IsRefusal refusal (read_answer g name past limit file)

-- the table of each is among these
abbrev pub AreThere : List Table → List AttachedHist → Type 0
AreThere tables hists = All (λ (a : AttachedHist). is_some (table_numbered a.table tables) ≡ true) hists

-- what files are read from agrees with the requests done so far: the events, the clock and the instance of this name
pub record IsSource (g : Config) (name : Option (List ℕ)) (past : List Request) (source : FileSource) : Type 0 where
  pub events : source.catalog.now ≡ declared_events past
  pub distinct : AreEvents [] (declared_events past)
  pub clock : source.clock ≡ now_of past
  pub instance : InstanceStandsFor g name past source.instance.now

-- an event is there for a read: in the catalog, and in each list that the instance has over the events
pub record HasAll (source : FileSource) (event : ℕ) : Type 0 where
  pub declared : event < length source.catalog.now
  pub enabled : event < length source.instance.now.enabled
  pub filters : event < length source.instance.now.filters
  pub triggers : event < length source.instance.now.triggers
  pub hists : event < length source.instance.now.hists
  pub tables : AreThere source.instance.now.tables (slice_index_or source.instance.now.hists event [])

-- the CPU or the event of a file is there for a read
abbrev pub IsReadable : FileSource → Found → Type 0
IsReadable source (found.OfInstance file) = ⊤
IsReadable source (found.OfCpu cpu file) = cpu < buffers.cpus source.instance.now.sides.live
IsReadable source (found.OfEvent event file) = HasAll source event
