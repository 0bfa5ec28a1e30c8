-- Scripts of settings and refusals with the answers that the definitions give them, worked by hand (ftrace.rst, "The File System", "Instances";
-- events.rst, "Using Event Tracing", "Event filtering"). The checker computes them.
use Rattle.std.specs.Prelude.{ℕ, pos, List, [], ◌∷◌, ◌++◌, map, Some, Result, Err, codes}
use Rattle.trace_format.specs.declared.fault.DeclarationCause.TheVariants.{FieldType}
use Rattle.trace_format.specs.declared.fault.RowCause.TheVariants.{Unknown}
use Rattle.trace_trigger.specs.declared.fault.OperatorCause.TheVariants.{Compared}
use Rattle.trace_command.specs.Commands.{Command}
use Rattle.trace_command.specs.declared.command.CommandOf.TheVariants.{Emit, Mkdir, Rmdir}
use Rattle.trace_command.specs.declared.command.Config.{Config}
use Rattle.trace_command.specs.declared.command.Reply.{Reply}
use Rattle.trace_command.specs.declared.refusal.Limit.TheVariants.{Instances}
use Rattle.trace_command.specs.declared.refusal.Refusal.{Refusal}
use Rattle.trace_command.specs.declared.refusal.Refusal.TheVariants.{NoSuchFile, NotReadable, NotWritable, BadValue, NoSuchEvent, EventExists, BadDefinition, TooBig, WrongOperator, TooMany, InstanceExists, NoSuchInstance, Busy, NoSuchCpu, BadRow, HistoryFull}
use Rattle.tracer_specification.specs.Examples.{Turn, ◌gives◌, echo, append, cat, take, pair, tick, done, shows, with_tick, traced}
use Rattle.tracer_specification.specs.SnapshotExamples.{in_instance}

-- one line
abbrev pub reads : List ℕ → Result Reply Refusal
reads line = shows (line ∷ [])

-- ---- switches and filters of events

abbrev pub all_switches : List ℕ
all_switches = codes "events/enable"

abbrev pub tick_switch : List ℕ
tick_switch = codes "events/synthetic/tick/enable"

abbrev pub tock_switch : List ℕ
tock_switch = codes "events/synthetic/tock/enable"

-- the second event, as its `format` file shows it
abbrev pub tock_format : List (List ℕ)
tock_format =
    codes "name: tock"
    ∷ codes "ID: 2"
    ∷ codes "format:"
    ∷ codes "\tfield:s32 common_pid;\toffset:8;\tsize:4;\tsigned:1;"
    ∷ codes ""
    ∷ codes "\tfield:u8 m;\toffset:16;\tsize:1;\tsigned:0;"
    ∷ []

-- the switch of all events sets those that are declared, and none that is declared later; each has a switch of its own too. Events are
-- numbered from 1.
abbrev pub switched : List Turn
switched =
    cat all_switches gives reads (codes "?")
    ∷ echo (codes "1") all_switches gives done
    ∷ echo (codes "tick u64 n") (codes "synthetic_events") gives done
    ∷ cat all_switches gives reads (codes "0")
    ∷ echo (codes "2") all_switches gives Err BadValue
    ∷ echo (codes "1") all_switches gives done
    ∷ cat all_switches gives reads (codes "1")
    ∷ append (codes "tock u8 m") (codes "synthetic_events") gives done
    ∷ cat (codes "events/synthetic/tock/format") gives shows tock_format
    ∷ cat (codes "events/synthetic/enable") gives reads (codes "X")
    ∷ echo (codes "2") tock_switch gives Err BadValue
    ∷ echo (codes "1") tock_switch gives done
    ∷ echo (codes "0") tick_switch gives done
    ∷ cat tick_switch gives reads (codes "0")
    ∷ cat tock_switch gives reads (codes "1")
    ∷ cat all_switches gives reads (codes "X")
    ∷ []

abbrev pub all_filters : List ℕ
all_filters = codes "events/synthetic/filter"

abbrev pub tick_filter : List ℕ
tick_filter = codes "events/synthetic/tick/filter"

abbrev pub tock_filter : List ℕ
tock_filter = codes "events/synthetic/tock/filter"

-- A filter of all events goes to those that can take it, and 0 clears all. Without an event it is refused before it is read; if no event can take
-- it, it is refused as the first event refuses it.
abbrev pub filters_of_all : List Turn
filters_of_all =
    echo (codes "n ==") all_filters gives Err NoSuchEvent
    ∷ echo (codes "0") all_filters gives Err NoSuchEvent
    ∷ echo (codes "tick u64 n") (codes "synthetic_events") gives done
    ∷ append (codes "tock u8 m") (codes "synthetic_events") gives done
    ∷ echo (codes " n > 5 ") tick_filter gives done
    ∷ cat tick_filter gives reads (codes "n > 5")
    ∷ cat tock_filter gives reads (codes "none")
    ∷ echo (codes "m > 3") all_filters gives done
    ∷ echo (codes "n ~ 1") all_filters gives Err (WrongOperator 2 Compared)
    ∷ cat tick_filter gives reads (codes "n > 5")
    ∷ cat tock_filter gives reads (codes "m > 3")
    ∷ echo (codes "0") all_filters gives done
    ∷ cat tick_filter gives reads (codes "none")
    ∷ cat tock_filter gives reads (codes "none")
    ∷ echo (codes "common_pid == 7") all_filters gives done
    ∷ echo (codes " 0 ") tick_filter gives done
    ∷ cat tick_filter gives reads (codes "none")
    ∷ cat tock_filter gives reads (codes "common_pid == 7")
    ∷ cat all_filters gives Err NotReadable
    ∷ []

-- ---- settings of an instance

abbrev pub overwriting : List ℕ
overwriting = codes "options/overwrite"

-- an instance has options of its own; `trace_options` and `options/overwrite` are one setting, and any number but 0 switches recording on
abbrev pub options_of_an_instance : List Turn
options_of_an_instance =
    Mkdir (codes "instances/a") gives done
    ∷ cat (codes "trace_options") gives reads (codes "overwrite")
    ∷ echo (codes "nooverwrite") (in_instance (codes "trace_options")) gives done
    ∷ cat (in_instance overwriting) gives reads (codes "0")
    ∷ cat overwriting gives reads (codes "1")
    ∷ echo (codes "2") overwriting gives Err BadValue
    ∷ echo (codes " overwrite") (codes "trace_options") gives Err BadValue
    ∷ echo (codes " 0 ") overwriting gives done
    ∷ cat (codes "trace_options") gives reads (codes "nooverwrite")
    ∷ echo (codes "overwrite") (in_instance (codes "trace_options")) gives done
    ∷ cat (in_instance overwriting) gives reads (codes "1")
    ∷ echo (codes "0") (in_instance (codes "tracing_on")) gives done
    ∷ cat (in_instance (codes "tracing_on")) gives reads (codes "0")
    ∷ echo (codes "2") (in_instance (codes "tracing_on")) gives done
    ∷ cat (in_instance (codes "tracing_on")) gives reads (codes "1")
    ∷ echo (codes "x") (codes "tracing_on") gives Err BadValue
    ∷ []

-- what a ring counts: entries, those that were overwritten, bytes, the oldest, the clock, and those that were dropped
abbrev pub counts : List ℕ → List ℕ → List ℕ → List ℕ → List ℕ → List ℕ → List (List ℕ)
counts entries overrun bytes oldest now dropped =
    (codes "entries: " ++ entries)
    ∷ (codes "overrun: " ++ overrun)
    ∷ codes "commit overrun: 0"
    ∷ (codes "bytes: " ++ bytes)
    ∷ (codes "oldest event ts: " ++ oldest)
    ∷ (codes "now ts: " ++ now)
    ∷ (codes "dropped events: " ++ dropped)
    ∷ codes "read events: 0"
    ∷ []

-- what an instance keeps of five emissions that does not overwrite, and what the top one keeps
abbrev pub dropped_last : List (List ℕ)
dropped_last = counts (codes "4") (codes "0") (codes "96") (codes "1") (codes "5") (codes "1")

abbrev pub overwrote_first : List (List ℕ)
overwrote_first = counts (codes "3") (codes "2") (codes "72") (codes "3") (codes "5") (codes "0")

-- whether an instance overwrites, records and filters goes by its own settings, and a snapshot is one of its own
abbrev pub recorded_by_its_settings : List Turn
recorded_by_its_settings =
    with_tick (Mkdir (codes "instances/a") gives done
    ∷ echo (codes "1") (in_instance tick_switch) gives done
    ∷ echo (codes "nooverwrite") (in_instance (codes "trace_options")) gives done
    ∷ map (λ (digit : ℕ). tick 0 (digit ∷ []) gives done) (codes "12345")
    ++ cat (in_instance (codes "per_cpu/cpu0/stats")) gives shows dropped_last
    ∷ echo (codes "1") (in_instance (codes "snapshot")) gives done
    ∷ cat (codes "per_cpu/cpu0/stats") gives shows overwrote_first
    ∷ echo (codes "") (in_instance (codes "trace")) gives done
    ∷ echo (codes "n > 6") (in_instance tick_filter) gives done
    ∷ echo (codes "0") (codes "tracing_on") gives done
    ∷ tick 0 (codes "6") gives done
    ∷ tick 0 (codes "7") gives done
    ∷ cat (in_instance (codes "trace_pipe")) gives reads (codes "7 [000] 7: tick: n=7")
    ∷ take 1 (codes "per_cpu/cpu0/trace_pipe") gives shows (codes "CPU:0 [LOST 2 EVENTS]" ∷ codes "7 [000] 3: tick: n=3" ∷ [])
    ∷ [])

-- ---- writes to `trace`

-- what `trace` shows of two CPUs
abbrev pub of_two : List ℕ → List (List ℕ) → Result Reply Refusal
of_two counts lines = shows (traced counts (codes "2") lines)

-- `>>` to `trace` leaves what is there; `>` empties the rings of all CPUs, or of one
abbrev pub emptied : List Turn
emptied =
    with_tick (tick 0 (codes "1") gives done
    ∷ tick 1 (codes "2") gives done
    ∷ append (codes "tock u8 m") (codes "trace") gives done
    ∷ append (codes "") (codes "per_cpu/cpu1/trace") gives done
    ∷ cat (codes "trace") gives of_two (codes "2/2") (codes "7 [000] 1: tick: n=1" ∷ codes "7 [001] 2: tick: n=2" ∷ [])
    ∷ echo (codes "x") (codes "per_cpu/cpu0/trace") gives done
    ∷ cat (codes "trace") gives of_two (codes "1/1") (codes "7 [001] 2: tick: n=2" ∷ [])
    ∷ tick 0 (codes "3") gives done
    ∷ cat (codes "per_cpu/cpu1/trace_pipe") gives reads (codes "7 [001] 2: tick: n=2")
    ∷ cat (codes "trace") gives of_two (codes "1/1") (codes "7 [000] 3: tick: n=3" ∷ [])
    ∷ tick 1 (codes "4") gives done
    ∷ echo (codes "") (codes "trace") gives done
    ∷ cat (codes "trace") gives of_two (codes "0/0") []
    ∷ cat (codes "synthetic_events") gives reads (codes "tick u64 n")
    ∷ [])

-- ---- which refusal is told

-- an emission of this event with a field `x`
abbrev pub emit_x : ℕ → List ℕ → Command
emit_x cpu event = Emit event cpu (pos 7) (pair (codes "x") (codes "1") ∷ [])

-- why `tick` has no row of it
abbrev pub no_x : Refusal
no_x = BadRow (record { field = codes "x"; cause = Unknown; pair = Some 0 })

-- the first refusal is told: of the CPU, the event, the row; of the instance, the file, the CPU or the event, what the file allows; of what a
-- declaration says, `>`, its name, its size
abbrev pub refused_in_order : List Turn
refused_in_order =
    with_tick (emit_x 9 (codes "none") gives Err NoSuchCpu
    ∷ emit_x 0 (codes "none") gives Err NoSuchEvent
    ∷ emit_x 0 (codes "tick") gives Err no_x
    ∷ cat (in_instance (codes "none")) gives Err NoSuchInstance
    ∷ echo (codes "1") (in_instance (codes "none")) gives Err NoSuchInstance
    ∷ cat (codes "none") gives Err NoSuchFile
    ∷ map (λ (file : List ℕ). take 1 (codes "per_cpu/cpu1/" ++ file) gives Err NoSuchCpu)
    (codes "trace" ∷ codes "trace_pipe" ∷ codes "stats" ∷ [])
    ++ take 1 (codes "per_cpu/cpu0/stats") gives Err BadValue
    ∷ echo (codes "1") (codes "per_cpu/cpu1/trace_pipe") gives Err NoSuchCpu
    ∷ echo (codes "1") (codes "per_cpu/cpu0/trace_pipe") gives Err NotWritable
    ∷ echo (codes "1") (codes "trace_pipe") gives Err NotWritable
    ∷ echo (codes "1") (codes "per_cpu/cpu0/stats") gives Err NotWritable
    ∷ map (λ (file : List ℕ). take 1 (codes "events/synthetic/none/" ++ file) gives Err NoSuchEvent)
    (codes "enable" ∷ codes "filter" ∷ codes "trigger" ∷ codes "hist" ∷ codes "format" ∷ [])
    ++ echo (codes "1") (codes "events/synthetic/none/format") gives Err NoSuchEvent
    ∷ echo (codes "1") (codes "events/synthetic/tick/format") gives Err NotWritable
    ∷ echo (codes "2") (codes "events/synthetic/none/enable") gives Err NoSuchEvent
    ∷ take 1 all_filters gives Err NotReadable
    ∷ echo (codes "tick u65 n") (codes "synthetic_events") gives Err (BadDefinition 5 FieldType)
    ∷ echo (codes "tick u64 n") (codes "synthetic_events") gives Err Busy
    ∷ append (codes "tick char t[64]") (codes "synthetic_events") gives Err EventExists
    ∷ append (codes "wide char t[64]") (codes "synthetic_events") gives Err TooBig
    ∷ cat (codes "synthetic_events") gives reads (codes "tick u64 n")
    ∷ [])

-- seven instances may be made beside the top one; a name that is none or is there already is told first
abbrev pub eight_instances : List Turn
eight_instances =
    map (λ (letter : ℕ). Mkdir (codes "instances/" ++ letter ∷ []) gives done) (codes "abcdefg")
    ++ Mkdir (codes "instances/h") gives Err (TooMany Instances)
    ∷ Mkdir (codes "instances/a") gives Err InstanceExists
    ∷ Mkdir (codes "instances/9") gives Err BadValue
    ∷ Mkdir (codes "a") gives Err NoSuchFile
    ∷ Rmdir (codes "a") gives Err NoSuchFile
    ∷ Rmdir (codes "instances/h") gives Err NoSuchInstance
    ∷ Rmdir (codes "instances/c") gives done
    ∷ Mkdir (codes "instances/h") gives done
    ∷ Mkdir (codes "instances/i") gives Err (TooMany Instances)
    ∷ cat (codes "instances/c/tracing_on") gives Err NoSuchInstance
    ∷ cat (codes "instances/h/tracing_on") gives reads (codes "1")
    ∷ cat (codes "instances/h/synthetic_events") gives Err NoSuchFile
    ∷ []

-- a history of two
abbrev pub short : Config
short = record { cpus = 1; pages = 2; page_bytes = 64; history_limit = 2 }

-- where the history is full, what else would be done is refused for that, reads too
abbrev pub full_history : List Turn
full_history =
    with_tick (tick 0 (codes "1") gives Err HistoryFull
    ∷ cat (codes "tracing_on") gives Err HistoryFull
    ∷ emit_x 0 (codes "tick") gives Err no_x
    ∷ cat (codes "none") gives Err NoSuchFile
    ∷ Mkdir (codes "instances/a") gives Err HistoryFull
    ∷ [])
