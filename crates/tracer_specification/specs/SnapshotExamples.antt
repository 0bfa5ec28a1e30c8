-- Scripts of snapshots and triggers with the answers that the definitions give them, worked by hand (ftrace.rst, "Snapshot"; events.rst, "Event
-- triggers", "snapshot"). The checker computes them.
use Rattle.std.specs.Prelude.{ℕ, List, [], ◌∷◌, ◌++◌, Err, codes}
use Rattle.trace_filter.specs.declared.fault.FilterCause.TheVariants.{Value}
use Rattle.trace_trigger.specs.declared.fault.OperatorCause.TheVariants.{Compared}
use Rattle.trace_trigger.specs.declared.fault.TextCause.TheVariants.{Kind, Count, Filter}
use Rattle.trace_command.specs.declared.command.CommandOf.TheVariants.{Mkdir, Rmdir}
use Rattle.trace_command.specs.declared.refusal.Refusal.TheVariants.{BadValue, BadTrigger, NoSuchEvent, FilterSyntax, NoSuchField, WrongOperator, TriggerExists, NoSuchTrigger, Busy}
use Rattle.tracer_specification.specs.Examples.{Turn, ◌gives◌, echo, append, cat, take, tick, done, shows, with_tick, traced, counted}

-- what a side of one CPU shows that one record came to
abbrev pub one_traced : List ℕ → List (List ℕ)
one_traced line = traced (codes "1/1") (codes "1") (line ∷ [])

-- ---- writes of 1

-- the statistics after two emissions of a side that nothing came to, and after three of one that the first two came to
abbrev pub new_counted : List (List ℕ)
new_counted = counted (codes "0") (codes "0") (codes "0") (codes "2")

abbrev pub two_counted : List (List ℕ)
two_counted = counted (codes "2") (codes "48") (codes "1") (codes "3")

-- a write of 1 to `snapshot` exchanges the sides, and a second one brings back what was live, with its statistics
abbrev pub two_snapshots : List Turn
two_snapshots =
    with_tick (tick 0 (codes "1") gives done
    ∷ tick 0 (codes "2") gives done
    ∷ echo (codes "1") (codes "snapshot") gives done
    ∷ cat (codes "per_cpu/cpu0/stats") gives shows new_counted
    ∷ tick 0 (codes "3") gives done
    ∷ echo (codes "1") (codes "snapshot") gives done
    ∷ cat (codes "per_cpu/cpu0/stats") gives shows two_counted
    ∷ cat (codes "snapshot") gives shows (one_traced (codes "7 [000] 3: tick: n=3"))
    ∷ [])

-- ---- triggers

abbrev pub freed : List (List ℕ)
freed = codes "# * Snapshot is freed *" ∷ []

abbrev pub trigger_file : List ℕ
trigger_file = codes "events/synthetic/tick/trigger"

-- a trigger acts as often as its text says, and while it is attached the spare is not freed
abbrev pub counted_trigger : List Turn
counted_trigger =
    with_tick (echo (codes "2") (codes "snapshot") gives done
    ∷ cat (codes "snapshot") gives shows freed
    ∷ echo (codes "snapshot:1") trigger_file gives done
    ∷ echo (codes "0") (codes "snapshot") gives Err Busy
    ∷ tick 0 (codes "1") gives done
    ∷ tick 0 (codes "2") gives done
    ∷ cat (codes "snapshot") gives shows (one_traced (codes "7 [000] 1: tick: n=1"))
    ∷ cat (codes "trace") gives shows (one_traced (codes "7 [000] 2: tick: n=2"))
    ∷ [])

-- a trigger takes a snapshot after each of three emissions
abbrev pub with_trigger : List Turn → List Turn
with_trigger script =
    with_tick (echo (codes "snapshot") trigger_file gives done
    ∷ tick 0 (codes "1") gives done
    ∷ tick 0 (codes "2") gives done
    ∷ tick 0 (codes "3") gives done
    ∷ script)

abbrev pub two_traced : List (List ℕ)
two_traced = traced (codes "2/2") (codes "1") (codes "7 [000] 1: tick: n=1" ∷ codes "7 [000] 3: tick: n=3" ∷ [])

-- the records fall to the two sides in turn
abbrev pub unlimited_trigger : List Turn
unlimited_trigger =
    with_trigger (cat (codes "trace") gives shows (one_traced (codes "7 [000] 2: tick: n=2"))
    ∷ cat (codes "snapshot") gives shows two_traced
    ∷ cat trigger_file gives shows (codes "snapshot:unlimited" ∷ [])
    ∷ [])

-- a trigger that is removed leaves the spare, which can be freed then
abbrev pub removed_trigger : List Turn
removed_trigger =
    with_trigger (append (codes "!snapshot") trigger_file gives done
    ∷ append (codes "!snapshot") trigger_file gives Err NoSuchTrigger
    ∷ cat trigger_file gives shows (codes "# Available triggers:" ∷ codes "# hist snapshot" ∷ [])
    ∷ cat (codes "snapshot") gives shows two_traced
    ∷ echo (codes "0") (codes "snapshot") gives done
    ∷ cat (codes "snapshot") gives shows freed
    ∷ [])

-- a trigger heeds its own filter alone: it acts though its event is disabled and nothing is recorded, until it has no times left
abbrev pub trigger_of_disabled_event : List Turn
trigger_of_disabled_event =
    with_tick (tick 0 (codes "1") gives done
    ∷ echo (codes "0") (codes "events/synthetic/tick/enable") gives done
    ∷ echo (codes "0") (codes "tracing_on") gives done
    ∷ echo (codes "snapshot:1 if n > 5") trigger_file gives done
    ∷ tick 0 (codes "5") gives done
    ∷ cat trigger_file gives shows (codes "snapshot:count=1 if n > 5" ∷ [])
    ∷ tick 0 (codes "6") gives done
    ∷ tick 0 (codes "7") gives done
    ∷ cat trigger_file gives shows (codes "snapshot:count=0 if n > 5" ∷ [])
    ∷ cat (codes "snapshot") gives shows (one_traced (codes "7 [000] 1: tick: n=1"))
    ∷ [])

-- what is written as no trigger is refused before the event's triggers are looked at; blanks change nothing
abbrev pub refused_triggers : List Turn
refused_triggers =
    with_tick (echo (codes " snapshot") trigger_file gives Err (BadTrigger Kind)
    ∷ echo (codes "! snapshot") trigger_file gives Err (BadTrigger Kind)
    ∷ echo (codes "snapshot:0") trigger_file gives Err (BadTrigger Count)
    ∷ echo (codes "snapshot if") trigger_file gives Err (BadTrigger Filter)
    ∷ echo (codes "snapshot if n == ") trigger_file gives Err (FilterSyntax 17 Value)
    ∷ echo (codes "snapshot if n ~ 1") trigger_file gives Err (WrongOperator 14 Compared)
    ∷ echo (codes "!snapshot if z == 1") trigger_file gives Err (NoSuchField 13)
    ∷ echo (codes "!snapshot") trigger_file gives Err NoSuchTrigger
    ∷ echo (codes "snapshot") (codes "events/synthetic/none/trigger") gives Err NoSuchEvent
    ∷ take 1 trigger_file gives Err BadValue
    ∷ echo (codes "snapshot:3  if   n == 2  ") trigger_file gives done
    ∷ echo (codes "  ") trigger_file gives done
    ∷ echo (codes "snapshot") trigger_file gives Err TriggerExists
    ∷ cat trigger_file gives shows (codes "snapshot:count=3 if n == 2" ∷ [])
    ∷ [])

-- ---- instances

abbrev pub in_instance : List ℕ → List ℕ
in_instance path = codes "instances/a/" ++ path

abbrev pub none_traced : List (List ℕ)
none_traced = traced (codes "0/0") (codes "1") []

-- an instance has sides of its own; `>` to `trace` and a pipe reach the live one, 2 on `snapshot` the other; a trigger that has no times left
-- still keeps the spare; and an instance that is made again has neither trigger nor spare
abbrev pub sides_of_an_instance : List Turn
sides_of_an_instance =
    with_tick (Mkdir (codes "instances/a") gives done
    ∷ echo (codes "1") (in_instance (codes "events/enable")) gives done
    ∷ echo (codes "snapshot:1") (in_instance trigger_file) gives done
    ∷ tick 0 (codes "1") gives done
    ∷ tick 0 (codes "2") gives done
    ∷ cat (in_instance (codes "snapshot")) gives shows (one_traced (codes "7 [000] 1: tick: n=1"))
    ∷ cat (in_instance (codes "trace_pipe")) gives shows (codes "7 [000] 2: tick: n=2" ∷ [])
    ∷ echo (codes "1") (in_instance (codes "snapshot")) gives done
    ∷ cat (in_instance (codes "trace")) gives shows (one_traced (codes "7 [000] 1: tick: n=1"))
    ∷ cat (in_instance (codes "snapshot")) gives shows none_traced
    ∷ echo (codes "1") (in_instance (codes "snapshot")) gives done
    ∷ tick 0 (codes "3") gives done
    ∷ echo (codes "2") (in_instance (codes "snapshot")) gives done
    ∷ cat (in_instance (codes "snapshot")) gives shows none_traced
    ∷ cat (in_instance (codes "trace")) gives shows (one_traced (codes "7 [000] 3: tick: n=3"))
    ∷ echo (codes "0") (in_instance (codes "snapshot")) gives Err Busy
    ∷ cat (codes "snapshot") gives shows freed
    ∷ Rmdir (codes "instances/a") gives done
    ∷ Mkdir (codes "instances/a") gives done
    ∷ cat (in_instance (codes "snapshot")) gives shows freed
    ∷ cat (in_instance trigger_file) gives shows (codes "# Available triggers:" ∷ codes "# hist snapshot" ∷ [])
    ∷ [])
