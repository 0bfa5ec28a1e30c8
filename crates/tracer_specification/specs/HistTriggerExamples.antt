-- Scripts of hist triggers with the answers that the definitions give them, worked by hand (histogram.rst, "hist triggers"). The checker computes
-- them.
use Rattle.std.specs.Prelude.{ℕ, pos, List, [], ◌∷◌, ◌++◌, Err, codes}
use Rattle.trace_trigger.specs.declared.fault.HistCause.TheVariants.{NoKeys, Name}
use Rattle.trace_command.specs.Commands.{Command}
use Rattle.trace_command.specs.declared.command.CommandOf.TheVariants.{Emit, Mkdir, Rmdir}
use Rattle.trace_command.specs.declared.refusal.Limit.TheVariants.{Keys, Triggers}
use Rattle.trace_command.specs.declared.refusal.Refusal.TheVariants.{NotWritable, BadValue, NoSuchField, HistSyntax, BadSize, TriggerExists, NoSuchTrigger, TooMany}
use Rattle.tracer_specification.specs.Examples.{Turn, ◌gives◌, echo, append, cat, take, pair, tick, done, shows, with_tick, counted}
use Rattle.tracer_specification.specs.SnapshotExamples.{freed, trigger_file, in_instance}

-- ---- what is written and shown

abbrev pub hist_file : List ℕ
hist_file = codes "events/synthetic/tick/hist"

-- to the trigger file of `tick`, by `>` and by `>>`
abbrev pub anew : List ℕ → Command
anew text = echo text trigger_file

abbrev pub more : List ℕ → Command
more text = append text trigger_file

-- `hist:keys=n` as its files show it, active or paused
abbrev pub active_line : List ℕ
active_line = codes "hist:keys=n:vals=hitcount:sort=hitcount:size=2048 [active]"

abbrev pub paused_line : List ℕ
paused_line = codes "hist:keys=n:vals=hitcount:sort=hitcount:size=2048 [paused]"

abbrev pub no_triggers : List (List ℕ)
no_triggers = codes "# Available triggers:" ∷ codes "# hist snapshot" ∷ []

-- a histogram that dropped no row: the line of its trigger, the lines of its entries, how many rows it counted, and how many entries it has
abbrev pub histogram : List ℕ → List (List ℕ) → List ℕ → List ℕ → List (List ℕ)
histogram line entries hits count =
    codes "# event histogram"
    ∷ codes "#"
    ∷ (codes "# trigger info: " ++ line)
    ∷ codes "#"
    ∷ codes ""
    ∷ entries
    ++ codes ""
    ∷ codes "Totals:"
    ∷ (codes "    Hits: " ++ hits)
    ∷ (codes "    Entries: " ++ count)
    ∷ codes "    Dropped: 0"
    ∷ []

abbrev pub no_histogram : List ℕ → List (List ℕ)
no_histogram line = histogram line [] (codes "0") (codes "0")

-- ---- attached triggers

-- a trigger that is attached is shown whole; the same one again, with another size, is refused; one that takes snapshots may stand beside it
abbrev pub shown_triggers : List Turn
shown_triggers =
    with_tick (anew (codes "hist:key=n") gives done
    ∷ more (codes "snapshot:2 if n > 5") gives done
    ∷ cat trigger_file gives shows (active_line ∷ codes "snapshot:count=2 if n > 5" ∷ [])
    ∷ more (codes "hist:keys=n:size=256") gives Err TriggerExists
    ∷ more (codes "hist:keys=n:pause") gives done
    ∷ cat trigger_file gives shows (paused_line ∷ codes "snapshot:count=2 if n > 5" ∷ [])
    ∷ more (codes "hist:keys=common_pid:sort=common_pid.descending if n < 3") gives done
    ∷ cat trigger_file gives shows (paused_line
    ∷ codes "snapshot:count=2 if n > 5"
    ∷ codes "hist:keys=common_pid:vals=hitcount:sort=common_pid.descending:size=2048 if n < 3 [active]"
    ∷ [])
    ∷ echo (codes "1") hist_file gives Err NotWritable
    ∷ take 1 hist_file gives Err BadValue
    ∷ [])

-- what is written as no hist trigger is refused before the event's triggers are looked at
abbrev pub refused_hist_triggers : List Turn
refused_hist_triggers =
    with_tick (anew (codes "hist:keys=n:size=64") gives Err BadSize
    ∷ anew (codes "hist:keys=n:size=131073") gives Err BadSize
    ∷ anew (codes "hist:keys=n:size=131072") gives done
    ∷ anew (codes "hist:vals=n") gives Err (HistSyntax 11 NoKeys)
    ∷ anew (codes "hist:keys=n,z") gives Err (NoSuchField 12)
    ∷ append (codes "four u8 a; u8 b; u8 c; u8 d") (codes "synthetic_events") gives done
    ∷ echo (codes "hist:keys=a,b,c,d") (codes "events/synthetic/four/trigger") gives Err (TooMany Keys)
    ∷ cat trigger_file gives shows (codes "hist:keys=n:vals=hitcount:sort=hitcount:size=131072 [active]" ∷ [])
    ∷ [])

-- ---- rows that are counted

abbrev pub one_and_three : List (List ℕ)
one_and_three = codes "{ n:          1 } hitcount:          1" ∷ codes "{ n:          3 } hitcount:          1" ∷ []

-- rows that come during a pause are not counted, also after it; `clear` leaves none and does not end the pause
abbrev pub paused_and_cleared : List Turn
paused_and_cleared =
    with_tick (anew (codes "hist:keys=n") gives done
    ∷ tick 0 (codes "1") gives done
    ∷ more (codes "hist:keys=n:pause") gives done
    ∷ tick 0 (codes "2") gives done
    ∷ more (codes "hist:keys=n:continue") gives done
    ∷ tick 0 (codes "3") gives done
    ∷ cat hist_file gives shows (histogram active_line one_and_three (codes "2") (codes "2"))
    ∷ more (codes "hist:keys=n:pause") gives done
    ∷ more (codes "hist:keys=n:clear") gives done
    ∷ tick 0 (codes "4") gives done
    ∷ cat hist_file gives shows (no_histogram paused_line)
    ∷ [])

-- what keeps an emission from being recorded keeps it from no histogram: recording switched off, the event disabled, its filter
abbrev pub counted_unrecorded : List Turn
counted_unrecorded =
    with_tick (anew (codes "hist:keys=n") gives done
    ∷ echo (codes "0") (codes "tracing_on") gives done
    ∷ tick 0 (codes "1") gives done
    ∷ cat (codes "per_cpu/cpu0/stats") gives shows (counted (codes "0") (codes "0") (codes "0") (codes "1"))
    ∷ cat hist_file gives shows (histogram active_line (codes "{ n:          1 } hitcount:          1" ∷ []) (codes "1") (codes "1"))
    ∷ echo (codes "1") (codes "tracing_on") gives done
    ∷ echo (codes "n > 5") (codes "events/synthetic/tick/filter") gives done
    ∷ tick 0 (codes "1") gives done
    ∷ echo (codes "0") (codes "events/synthetic/tick/enable") gives done
    ∷ tick 0 (codes "1") gives done
    ∷ cat hist_file gives shows (histogram active_line (codes "{ n:          1 } hitcount:          3" ∷ []) (codes "3") (codes "1"))
    ∷ [])

-- a trigger heeds its own filter; two histograms have an empty line between them, and they are those of one instance
abbrev pub histograms_of_an_instance : List Turn
histograms_of_an_instance =
    with_tick (Mkdir (codes "instances/a") gives done
    ∷ append (codes "hist:keys=n if n == 2") (in_instance trigger_file) gives done
    ∷ append (codes "snapshot") (in_instance trigger_file) gives done
    ∷ append (codes "hist:keys=n:pause") (in_instance trigger_file) gives done
    ∷ tick 0 (codes "1") gives done
    ∷ tick 0 (codes "2") gives done
    ∷ cat (in_instance hist_file)
    gives shows (histogram (codes "hist:keys=n:vals=hitcount:sort=hitcount:size=2048 if n == 2 [active]") (codes "{ n:          2 } hitcount:          1" ∷ [])
    (codes "1") (codes "1") ++ codes "" ∷ no_histogram paused_line)
    ∷ cat hist_file gives shows []
    ∷ Rmdir (codes "instances/a") gives done
    ∷ Mkdir (codes "instances/a") gives done
    ∷ cat (in_instance hist_file) gives shows []
    ∷ [])

-- ---- `>` and `>>`

-- by `>>` the same trigger is removed, or there is none to remove; by `>` the hist triggers go, whatever they are
abbrev pub removed_hist_triggers : List Turn
removed_hist_triggers =
    with_tick (more (codes "!hist:keys=n") gives Err NoSuchTrigger
    ∷ anew (codes "!hist:keys=n") gives done
    ∷ anew (codes "!hist:keys=z") gives Err (NoSuchField 11)
    ∷ more (codes "hist:keys=n") gives done
    ∷ more (codes "hist:keys=n if n > 1") gives done
    ∷ more (codes "!hist:keys=n if n > 2") gives Err NoSuchTrigger
    ∷ more (codes "!hist:keys=n:size=128:pause") gives done
    ∷ more (codes "!hist:keys=n") gives Err NoSuchTrigger
    ∷ cat trigger_file gives shows (codes "hist:keys=n:vals=hitcount:sort=hitcount:size=2048 if n > 1 [active]" ∷ [])
    ∷ anew (codes "!hist:keys=common_cpu") gives done
    ∷ cat trigger_file gives shows no_triggers
    ∷ [])

-- Whatever is written by `>` and done takes the hist triggers first: blanks too, and a trigger that takes snapshots, which itself stays. So no
-- trigger is there to go on or to be emptied; and where a write is refused, all of them stay.
abbrev pub hist_triggers_anew : List Turn
hist_triggers_anew =
    with_tick (more (codes "hist:keys=n") gives done
    ∷ more (codes "hist:keys=common_pid") gives done
    ∷ tick 0 (codes "1") gives done
    ∷ anew (codes "hist:keys=n:continue") gives Err NoSuchTrigger
    ∷ anew (codes "hist:keys=n:clear") gives Err NoSuchTrigger
    ∷ anew (codes "!snapshot") gives Err NoSuchTrigger
    ∷ cat trigger_file gives shows (active_line ∷ codes "hist:keys=common_pid:vals=hitcount:sort=hitcount:size=2048 [active]" ∷ [])
    ∷ anew (codes "hist:keys=n:pause") gives done
    ∷ cat hist_file gives shows (no_histogram paused_line)
    ∷ anew (codes "snapshot:1") gives done
    ∷ cat trigger_file gives shows (codes "snapshot:count=1" ∷ [])
    ∷ more (codes "hist:keys=n") gives done
    ∷ anew (codes "snapshot") gives Err TriggerExists
    ∷ cat trigger_file gives shows (codes "snapshot:count=1" ∷ active_line ∷ [])
    ∷ more (codes " ") gives done
    ∷ cat trigger_file gives shows (codes "snapshot:count=1" ∷ active_line ∷ [])
    ∷ anew (codes "") gives done
    ∷ cat trigger_file gives shows (codes "snapshot:count=1" ∷ [])
    ∷ more (codes "hist:keys=n") gives done
    ∷ anew (codes "!snapshot") gives done
    ∷ cat trigger_file gives shows no_triggers
    ∷ [])

-- four triggers are the most, those of all kinds together; by `>` the hist triggers don't count, since they go
abbrev pub four_triggers : List Turn
four_triggers =
    with_tick (more (codes "hist:keys=n") gives done
    ∷ more (codes "hist:keys=common_pid") gives done
    ∷ more (codes "hist:keys=common_cpu") gives done
    ∷ more (codes "hist:keys=n,common_pid") gives done
    ∷ more (codes "hist:keys=n,common_cpu") gives Err (TooMany Triggers)
    ∷ more (codes "snapshot") gives Err (TooMany Triggers)
    ∷ more (codes "!hist:keys=common_cpu") gives done
    ∷ more (codes "snapshot") gives done
    ∷ more (codes "hist:keys=common_cpu") gives Err (TooMany Triggers)
    ∷ more (codes "hist:keys=n:pause") gives done
    ∷ anew (codes "hist:keys=common_cpu") gives done
    ∷ cat trigger_file
    gives shows (codes "snapshot:unlimited" ∷ codes "hist:keys=common_cpu:vals=hitcount:sort=hitcount:size=2048 [active]" ∷ [])
    ∷ [])

-- ---- two events

abbrev pub tock_trigger_file : List ℕ
tock_trigger_file = codes "events/synthetic/tock/trigger"

-- triggers are of one event, and meet what that event emits; a hist trigger makes no spare
abbrev pub triggers_of_two_events : List Turn
triggers_of_two_events =
    with_tick (append (codes "tock u8 m") (codes "synthetic_events") gives done
    ∷ more (codes "hist:keys=n") gives done
    ∷ cat (codes "snapshot") gives shows freed
    ∷ append (codes "snapshot:1") tock_trigger_file gives done
    ∷ append (codes "hist:keys=common_pid:pause") tock_trigger_file gives done
    ∷ cat trigger_file gives shows (active_line ∷ [])
    ∷ tick 0 (codes "1") gives done
    ∷ cat tock_trigger_file
    gives shows (codes "snapshot:count=1" ∷ codes "hist:keys=common_pid:vals=hitcount:sort=hitcount:size=2048 [paused]" ∷ [])
    ∷ Emit (codes "tock") 0 (pos 7) (pair (codes "m") (codes "1") ∷ []) gives done
    ∷ cat hist_file gives shows (histogram active_line (codes "{ n:          1 } hitcount:          1" ∷ []) (codes "1") (codes "1"))
    ∷ [])

-- ---- tables with a name

abbrev pub tock_hist_file : List ℕ
tock_hist_file = codes "events/synthetic/tock/hist"

abbrev pub tock : List ℕ → Command
tock n = Emit (codes "tock") 0 (pos 7) (pair (codes "n") n ∷ [])

-- the line of `hist:keys=n:name=both`, up to its filter and state
abbrev pub line_of_both : List ℕ → List ℕ
line_of_both rest = codes "hist:name=both:keys=n:vals=hitcount:sort=hitcount:size=2048" ++ rest

-- three rows: one of 1, and two of 2
abbrev pub three_rows : List ℕ → List (List ℕ)
three_rows line =
    histogram line (codes "{ n:          1 } hitcount:          1" ∷ codes "{ n:          2 } hitcount:          2" ∷ []) (codes "3") (codes "2")

-- Two triggers of one name share a table, which counts what each of them meets, and is paused through either of them. It is there as long as one of
-- them is: one that is attached then has to fit, and finds its rows. With the last trigger it goes, and the next begins anew.
abbrev pub shared_table : List Turn
shared_table =
    with_tick (append (codes "tock u64 n") (codes "synthetic_events") gives done
    ∷ anew (codes "hist:keys=n:name=both") gives done
    ∷ echo (codes "hist:keys=n:name=both if n > 1") tock_trigger_file gives done
    ∷ tick 0 (codes "1") gives done
    ∷ tock (codes "1") gives done
    ∷ tock (codes "2") gives done
    ∷ tick 0 (codes "2") gives done
    ∷ cat hist_file gives shows (three_rows (line_of_both (codes " [active]")))
    ∷ cat tock_hist_file gives shows (three_rows (line_of_both (codes " if n > 1 [active]")))
    ∷ append (codes "hist:keys=n:name=both:pause if n > 1") tock_trigger_file gives done
    ∷ tick 0 (codes "1") gives done
    ∷ anew (codes "hist:keys=n:name=both") gives done
    ∷ cat hist_file gives shows (three_rows (line_of_both (codes " [paused]")))
    ∷ more (codes "!hist:keys=n:name=both") gives done
    ∷ cat tock_hist_file gives shows (three_rows (line_of_both (codes " if n > 1 [paused]")))
    ∷ more (codes "hist:keys=n:name=both:size=256") gives Err TriggerExists
    ∷ append (codes "!hist:keys=n:name=both if n > 1") tock_trigger_file gives done
    ∷ more (codes "hist:keys=n:name=both:size=256") gives done
    ∷ cat hist_file gives shows (no_histogram (codes "hist:name=both:keys=n:vals=hitcount:sort=hitcount:size=256 [active]"))
    ∷ more (codes "hist:keys=n:name=9x") gives Err (HistSyntax 17 Name)
    ∷ [])

-- An emission that meets two triggers of one table brings two rows. Where `>` takes all triggers of a table away, a new one of that name need not fit.
abbrev pub table_of_one_event : List Turn
table_of_one_event =
    with_tick (more (codes "hist:keys=n:name=t") gives done
    ∷ more (codes "hist:keys=n:name=t if n > 1") gives done
    ∷ tick 0 (codes "1") gives done
    ∷ tick 0 (codes "2") gives done
    ∷ cat hist_file gives shows (three_rows (codes "hist:name=t:keys=n:vals=hitcount:sort=hitcount:size=2048 [active]")
    ++ codes ""
    ∷ three_rows (codes "hist:name=t:keys=n:vals=hitcount:sort=hitcount:size=2048 if n > 1 [active]"))
    ∷ more (codes "hist:keys=common_pid:name=t") gives Err TriggerExists
    ∷ anew (codes "hist:keys=common_pid:name=t") gives done
    ∷ cat hist_file gives shows (no_histogram (codes "hist:name=t:keys=common_pid:vals=hitcount:sort=hitcount:size=2048 [active]"))
    ∷ [])

-- One that says the same as an attached trigger is refused for that, even where there are four. Where there are four, any other is refused for that, even
-- if it does not fit the table that it names; for this it is refused where there is room.
abbrev pub refused_by_two_rules : List Turn
refused_by_two_rules =
    with_tick (more (codes "hist:keys=n:name=t") gives done
    ∷ more (codes "hist:keys=common_pid") gives done
    ∷ more (codes "hist:keys=common_cpu") gives done
    ∷ more (codes "snapshot") gives done
    ∷ more (codes "hist:keys=n:name=t") gives Err TriggerExists
    ∷ more (codes "hist:keys=n,common_pid:name=t") gives Err (TooMany Triggers)
    ∷ more (codes "!snapshot") gives done
    ∷ more (codes "hist:keys=n,common_pid:name=t") gives Err TriggerExists
    ∷ [])
