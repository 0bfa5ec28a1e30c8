-- What emissions of events that nobody wants change: the clock alone (events.rst, "Using Event Tracing"; ftrace.rst, "The File System"). The newest
-- request comes first.
use Rattle.std.specs.Prelude.{◌≡◌, ◌↔◌, ◌<◌, ℕ, ◌+◌, Bool, true, false, List, ◌∷◌, ◌++◌, length, Option, Some, Result}
use Rattle.std.specs.List.{list_all}
use Rattle.record_text.specs.StatsText.{stats_text}
use Rattle.trace_buffer.specs.Families.{cpu_stats}
use Rattle.trace_command.specs.Paths.{File, OfCpu}
use Rattle.trace_command.specs.Requests.{Request, ReadFile}
use Rattle.trace_command.specs.declared.command.Config.{Config}
use Rattle.trace_command.specs.declared.command.Reply.{Reply}
use Rattle.trace_command.specs.declared.file_name.CpuFile.TheVariants as per_cpu
use Rattle.trace_command.specs.declared.refusal.Refusal.{Refusal}
use Rattle.trace_format.specs.Definitions.{Definition}
use Rattle.tracer_specification.specs.HistTriggers.{HistTrigger, hist_triggers, hits_of, is_paused, table_of}
use Rattle.tracer_specification.specs.History.{answer, answer_with_room, instance_answer, missing_cpu, unless_refused, whole_text}
use Rattle.tracer_specification.specs.IdleEvents.{emits_idle, is_idle, wants}
use Rattle.tracer_specification.specs.Rings.{rings, rings_of_side}
use Rattle.tracer_specification.specs.Settings.{NumberedEvent, declared_events, event_named, filter_of, instance_names, is_enabled, is_there, is_tracing, now_of, overwrites}
use Rattle.tracer_specification.specs.Snapshots.{has_spare, live_side}
use Rattle.tracer_specification.specs.Triggers.{Trigger, snapshot_trigger_of, times_left}
use Rattle.tracer_specification.specs.Waiting.{waiting}

-- an event is idle exactly if none of the instances wants it of which requests find that they are there
abbrev pub IdleIsWantedByNone : Type 0
IdleIsWantedByNone =
    (past : List Request) (event : Definition)
    → (is_idle event past ≡ true) ↔ ((instance : Option (List ℕ)) → is_there instance past ≡ true → wants instance event past ≡ false)

-- ---- the clock alone

-- What is said of an instance is the same after as before: its settings and rings, which side is live, whether there is a spare; its triggers, how many
-- more emissions those for snapshots act on, and the tables of hist triggers, whether they are paused and the rows that they counted.
pub record IsUnchanged (instance : Option (List ℕ)) (past after : List Request) : Type 0 where
  pub tracing : is_tracing instance after ≡ is_tracing instance past
  pub enabled : (name : List ℕ) → is_enabled instance name after ≡ is_enabled instance name past
  pub filters : (name : List ℕ) → filter_of instance name after ≡ filter_of instance name past
  pub overwriting : overwrites instance after ≡ overwrites instance past
  pub sides : (g : Config) (side : ℕ) → rings_of_side g instance side after ≡ rings_of_side g instance side past
  pub live : live_side instance after ≡ live_side instance past
  pub spare : has_spare instance after ≡ has_spare instance past
  pub snapshot_triggers : (event : Definition) → snapshot_trigger_of instance event after ≡ snapshot_trigger_of instance event past
  pub times : (name : List ℕ) (k : NumberedEvent) (t : Trigger) → event_named name past ≡ Some k → snapshot_trigger_of instance k.event past ≡ Some t
      → times_left k.event t after ≡ times_left k.event t past
  pub hists : hist_triggers instance after ≡ hist_triggers instance past
  pub paused : (table : ℕ) → is_paused instance table after ≡ is_paused instance table past
  pub hits : (table : ℕ) → hits_of instance table after ≡ hits_of instance table past
  pub tables : (t : HistTrigger) → table_of instance t after ≡ table_of instance t past

-- The clock is so much later, and all else that is said of events and of the instances that are there is the same. (Of one that was removed no answer shows
-- anything.)
pub record OnlyTicks (count : ℕ) (past after : List Request) : Type 0 where
  pub now : now_of after ≡ now_of past + count
  pub events : declared_events after ≡ declared_events past
  pub names : instance_names after ≡ instance_names past
  pub each : (instance : Option (List ℕ)) → is_there instance past ≡ true → IsUnchanged instance past after

-- An emission of an idle event that is done changes the clock alone, whatever was done before it; and so do any number of them, one after another.
abbrev pub IdleEmissionsOnlyTick : Type 0
IdleEmissionsOnlyTick =
    (past emissions : List Request) → list_all (emits_idle past) emissions ≡ true → OnlyTicks (length emissions) past (emissions ++ past)

-- They make no event wanted, and each that is wanted stays wanted: by each instance that is there, so that the same events are idle.
abbrev pub IdleEmissionsLeaveWants : Type 0
IdleEmissionsLeaveWants =
    (past emissions : List Request) (name : List ℕ) (k : NumberedEvent) → list_all (emits_idle past) emissions ≡ true → event_named name past ≡ Some k
    → (event_named name (emissions ++ past) ≡ Some k)
    × (is_idle k.event (emissions ++ past) ≡ is_idle k.event past)
    × ((instance : Option (List ℕ)) → is_there instance past ≡ true → wants instance k.event (emissions ++ past) ≡ wants instance k.event past)

-- ---- what is answered

-- whether a file shows the clock: only the `stats` of a CPU does
abbrev pub shows_clock : File → Bool
shows_clock (OfCpu cpu per_cpu.Stats) = true
shows_clock file = false

-- whether a request reads it
abbrev pub reads_clock : Request → Bool
reads_clock (ReadFile instance (Some file) limit) = shows_clock file
reads_clock request = false

-- Every other request, a read or not, has the answer after them that it has without them, were there no limit on the history,
abbrev pub IdleEmissionsLeaveAnswers : Type 0
IdleEmissionsLeaveAnswers =
    (g : Config) (past emissions : List Request) (next : Request) → list_all (emits_idle past) emissions ≡ true → reads_clock next ≡ false
    → answer_with_room g (emissions ++ past) next ≡ answer_with_room g past next

-- and with the limit, as long as that leaves room for them too.
abbrev pub IdleEmissionsTakeOnlyRoom : Type 0
IdleEmissionsTakeOnlyRoom =
    (g : Config) (past emissions : List Request) (next : Request) → list_all (emits_idle past) emissions ≡ true → reads_clock next ≡ false
    → length (emissions ++ past) < g.history_limit
    → answer g (emissions ++ past) next ≡ answer g past next

-- the answer to a read of a CPU's `stats`, with this clock
abbrev pub stats_answer : Config → List Request → Option (List ℕ) → ℕ → Option ℕ → ℕ → Result Reply Refusal
stats_answer g past instance cpu limit now =
    instance_answer instance past
    (unless_refused (missing_cpu g cpu) (whole_text limit (stats_text (cpu_stats g.pages g.page_bytes (rings g instance past) cpu) now)))

-- `stats` shows what it shows without them, but for the clock, in the line `now ts`
pub record ShowsTheClock (g : Config) (count : ℕ) (past after : List Request) (instance : Option (List ℕ)) (cpu : ℕ) (limit : Option ℕ) : Type 0 where
  pub before : answer_with_room g past (ReadFile instance (Some (OfCpu cpu per_cpu.Stats)) limit) ≡ stats_answer g past instance cpu limit (now_of past)
  pub later : answer_with_room g after (ReadFile instance (Some (OfCpu cpu per_cpu.Stats)) limit) ≡ stats_answer g past instance cpu limit (now_of past + count)

abbrev pub IdleEmissionsMoveTheClock : Type 0
IdleEmissionsMoveTheClock =
    (g : Config) (past emissions : List Request) (instance : Option (List ℕ)) (cpu : ℕ) (limit : Option ℕ) → list_all (emits_idle past) emissions ≡ true
    → ShowsTheClock g (length emissions) past (emissions ++ past) instance cpu limit

-- A read of any file, a pipe or not, consumes the same: after it each side of each instance is as it is without them.
abbrev pub IdleEmissionsLeaveReads : Type 0
IdleEmissionsLeaveReads =
    (g : Config) (past emissions : List Request) (reader : Option (List ℕ)) (file : Option File) (limit : Option ℕ) (instance : Option (List ℕ)) (side : ℕ)
    → list_all (emits_idle past) emissions ≡ true → is_there instance past ≡ true
    → rings_of_side g instance side (ReadFile reader file limit ∷ emissions ++ past) ≡ rings_of_side g instance side (ReadFile reader file limit ∷ past)

-- and a look at whether a record waits in a pipe tells the same
abbrev pub IdleEmissionsLeaveWaiting : Type 0
IdleEmissionsLeaveWaiting =
    (g : Config) (past emissions : List Request) (instance : Option (List ℕ)) (file : Option File) → list_all (emits_idle past) emissions ≡ true
    → waiting g (emissions ++ past) instance file ≡ waiting g past instance file
