-- Scripts with the answers that the definitions give them, worked by hand. The checker computes them.
use Rattle.std.specs.Prelude.{◌≡◌, ℕ, pos, true, false, is_ok, if◌then◌else◌, List, [], ◌∷◌, ◌++◌, map, flat_map, Some, None, Result, Ok, Err, codes}
use Rattle.trace_format.specs.declared.pair.Pair.{Pair}
use Rattle.trace_command.specs.Requests.{Request, request_of}
use Rattle.trace_command.specs.Commands.{Command}
use Rattle.trace_command.specs.declared.command.CommandOf.TheVariants.{Emit, Mkdir, Rmdir, Write, Read}
use Rattle.trace_command.specs.declared.command.Config.{Config}
use Rattle.trace_command.specs.declared.command.Reply.{Reply}
use Rattle.trace_command.specs.declared.command.Reply.TheVariants.{Done, Text}
use Rattle.trace_command.specs.declared.refusal.Refusal.{Refusal}
use Rattle.trace_command.specs.declared.refusal.Refusal.TheVariants.{NoSuchField, InstanceExists, NoSuchInstance}
use Rattle.tracer_specification.specs.History.{answer}

-- a command and the answer to it
pub record Turn : Type 0 where
  pub command : Command
  pub answer : Result Reply Refusal

infix 90 ◌gives◌
abbrev pub ◌gives◌ : Command → Result Reply Refusal → Turn
command gives answer = record { command = command; answer = answer }

-- the answers to commands, one after another, after this past: a request that is refused is not done
abbrev pub answers_after : Config → List Request → List Command → List (Result Reply Refusal)
answers_after g past [] = []
answers_after g past (command ∷ commands) =
    let answered = answer g past (request_of command) in
    answered ∷ answers_after g (if is_ok answered then request_of command ∷ past else past) commands

-- a script's commands have the answers that stand beside them
abbrev pub IsAnswered : Config → List Turn → Type 0
IsAnswered g script = answers_after g [] (map (λ x. x.command) script) ≡ map (λ x. x.answer) script

-- ---- commands and answers

-- so many CPUs, each with a ring of two pages of 64 bytes
abbrev pub small : ℕ → Config
small cpus = record { cpus = cpus; pages = 2; page_bytes = 64; history_limit = 100 }

abbrev pub echo : List ℕ → List ℕ → Command
echo text path = Write path false text

-- likewise by `>>`
abbrev pub append : List ℕ → List ℕ → Command
append text path = Write path true text

abbrev pub cat : List ℕ → Command
cat path = Read path None

abbrev pub take : ℕ → List ℕ → Command
take count path = Read path (Some count)

abbrev pub pair : List ℕ → List ℕ → Pair
pair name value = record { name = name; value = value }

-- an emission of the event `tick` with this number, by process 7
abbrev pub tick : ℕ → List ℕ → Command
tick cpu n = Emit (codes "tick") cpu (pos 7) (pair (codes "n") n ∷ [])

-- and one of `tri` with three numbers
abbrev pub tri : List ℕ → List ℕ → List ℕ → Command
tri a b c = Emit (codes "tri") 0 (pos 7) (pair (codes "a") a ∷ pair (codes "b") b ∷ pair (codes "c") c ∷ [])

abbrev pub done : Result Reply Refusal
done = Ok Done

-- lines, each with a newline at its end
abbrev pub shows : List (List ℕ) → Result Reply Refusal
shows lines = Ok (Text (flat_map (λ line. line ++ codes "\n") lines))

-- `tick` is declared and switched on
abbrev pub with_tick : List Turn → List Turn
with_tick script =
    echo (codes "tick u64 n") (codes "synthetic_events") gives done
    ∷ echo (codes "1") (codes "events/synthetic/tick/enable") gives done
    ∷ script

-- what `trace` and `snapshot` show: how many records are kept and were written, how many CPUs there are, and a line for each record
abbrev pub traced : List ℕ → List ℕ → List (List ℕ) → List (List ℕ)
traced counts cpus lines =
    codes "# tracer: nop"
    ∷ codes "#"
    ∷ (codes "# entries-in-buffer/entries-written: " ++ counts ++ codes "   #P:" ++ cpus)
    ∷ codes "#"
    ∷ lines

-- the statistics of a ring that lost and dropped nothing and was not read
abbrev pub counted : List ℕ → List ℕ → List ℕ → List ℕ → List (List ℕ)
counted entries bytes oldest now =
    (codes "entries: " ++ entries)
    ∷ codes "overrun: 0"
    ∷ codes "commit overrun: 0"
    ∷ (codes "bytes: " ++ bytes)
    ∷ (codes "oldest event ts: " ++ oldest)
    ∷ (codes "now ts: " ++ now)
    ∷ codes "dropped events: 0"
    ∷ codes "read events: 0"
    ∷ []

-- ---- scripts

-- what `trace` shows of two CPUs
abbrev pub both_traced : List (List ℕ)
both_traced =
    traced (codes "3/3") (codes "2")
    (codes "7 [001] 1: tick: n=1" ∷ codes "7 [000] 2: tick: n=2" ∷ codes "7 [001] 3: tick: n=3" ∷ [])

-- and what the trace of the second shows after the pipe was read
abbrev pub second_traced : List (List ℕ)
second_traced = traced (codes "1/1") (codes "2") (codes "7 [001] 3: tick: n=3" ∷ [])

-- `trace` shows the records of all CPUs by time, and a pipe consumes them in that order
abbrev pub merged_reads : List Turn
merged_reads =
    with_tick (tick 1 (codes "1") gives done
    ∷ tick 0 (codes "2") gives done
    ∷ tick 1 (codes "3") gives done
    ∷ cat (codes "trace") gives shows both_traced
    ∷ take 2 (codes "trace_pipe") gives shows (codes "7 [001] 1: tick: n=1" ∷ codes "7 [000] 2: tick: n=2" ∷ [])
    ∷ cat (codes "per_cpu/cpu1/trace") gives shows second_traced
    ∷ [])

-- the statistics of a ring that nothing came to, after one emission
abbrev pub nothing_counted : List (List ℕ)
nothing_counted = counted (codes "0") (codes "0") (codes "0") (codes "1")

-- and of one that the second emission came to
abbrev pub one_counted : List (List ℕ)
one_counted = counted (codes "1") (codes "24") (codes "2") (codes "2")

-- an emission reaches each instance that records it, and an instance begins with nothing switched on
abbrev pub instances : List Turn
instances =
    with_tick (Mkdir (codes "instances/a") gives done
    ∷ tick 0 (codes "1") gives done
    ∷ cat (codes "instances/a/per_cpu/cpu0/stats") gives shows nothing_counted
    ∷ echo (codes "1") (codes "instances/a/events/enable") gives done
    ∷ tick 0 (codes "2") gives done
    ∷ cat (codes "instances/a/per_cpu/cpu0/stats") gives shows one_counted
    ∷ Mkdir (codes "instances/a") gives Err InstanceExists
    ∷ Rmdir (codes "instances/a") gives done
    ∷ cat (codes "instances/a/trace") gives Err NoSuchInstance
    ∷ [])

-- an instance that is made again begins anew
abbrev pub instance_made_again : List Turn
instance_made_again =
    with_tick (Mkdir (codes "instances/a") gives done
    ∷ echo (codes "1") (codes "instances/a/events/enable") gives done
    ∷ tick 0 (codes "1") gives done
    ∷ cat (codes "instances/a/trace_pipe") gives shows (codes "7 [000] 1: tick: n=1" ∷ [])
    ∷ tick 0 (codes "2") gives done
    ∷ Rmdir (codes "instances/a") gives done
    ∷ Mkdir (codes "instances/a") gives done
    ∷ cat (codes "instances/a/events/enable") gives shows (codes "0" ∷ [])
    ∷ cat (codes "instances/a/trace_pipe") gives shows []
    ∷ [])

-- nothing is recorded while `tracing_on` is 0, and the clock goes on
abbrev pub recording_off : List Turn
recording_off =
    with_tick (tick 0 (codes "1") gives done
    ∷ echo (codes "0") (codes "tracing_on") gives done
    ∷ tick 0 (codes "2") gives done
    ∷ cat (codes "tracing_on") gives shows (codes "0" ∷ [])
    ∷ echo (codes "1") (codes "tracing_on") gives done
    ∷ tick 0 (codes "3") gives done
    ∷ cat (codes "trace_pipe") gives shows (codes "7 [000] 1: tick: n=1" ∷ codes "7 [000] 3: tick: n=3" ∷ [])
    ∷ [])

-- what a pipe shows where two records were lost between two that it consumes
abbrev pub two_lost : List (List ℕ)
two_lost =
    codes "7 [000] 2: tick: n=2"
    ∷ codes "CPU:0 [LOST 2 EVENTS]"
    ∷ codes "7 [000] 5: tick: n=5"
    ∷ []

-- and the statistics of the ring then
abbrev pub two_left : List (List ℕ)
two_left =
    codes "entries: 2"
    ∷ codes "overrun: 2"
    ∷ codes "commit overrun: 0"
    ∷ codes "bytes: 48"
    ∷ codes "oldest event ts: 6"
    ∷ codes "now ts: 7"
    ∷ codes "dropped events: 0"
    ∷ codes "read events: 3"
    ∷ []

-- records that were lost to overwriting are told before the next one that a pipe shows
abbrev pub lost_line_after_overrun : List Turn
lost_line_after_overrun =
    with_tick (tick 0 (codes "1") gives done
    ∷ tick 0 (codes "2") gives done
    ∷ tick 0 (codes "3") gives done
    ∷ take 1 (codes "trace_pipe") gives shows (codes "7 [000] 1: tick: n=1" ∷ [])
    ∷ tick 0 (codes "4") gives done
    ∷ tick 0 (codes "5") gives done
    ∷ tick 0 (codes "6") gives done
    ∷ tick 0 (codes "7") gives done
    ∷ take 2 (codes "trace_pipe") gives shows two_lost
    ∷ cat (codes "per_cpu/cpu0/stats") gives shows two_left
    ∷ [])

-- what `trace` shows of three emissions where the filter held of the first and the third
abbrev pub two_passed : List (List ℕ)
two_passed = traced (codes "2/2") (codes "1") (codes "7 [000] 1: tri: a=1 b=0 c=4" ∷ codes "7 [000] 3: tri: a=0 b=2 c=3" ∷ [])

-- `&&` binds tighter than `||`, and a filter that is refused leaves the one that stands
abbrev pub precedence_and_kept_filter : List Turn
precedence_and_kept_filter =
    echo (codes "tri u32 a; u32 b; u32 c") (codes "synthetic_events") gives done
    ∷ echo (codes "1") (codes "events/synthetic/tri/enable") gives done
    ∷ echo (codes "a == 1 || b == 2 && !(c & 4)") (codes "events/synthetic/tri/filter") gives done
    ∷ tri (codes "1") (codes "0") (codes "4") gives done
    ∷ tri (codes "0") (codes "2") (codes "4") gives done
    ∷ tri (codes "0") (codes "2") (codes "3") gives done
    ∷ echo (codes "a == 1 || z == 2") (codes "events/synthetic/tri/filter") gives Err (NoSuchField 10)
    ∷ cat (codes "events/synthetic/tri/filter") gives shows (codes "a == 1 || b == 2 && !(c & 4)" ∷ [])
    ∷ cat (codes "trace") gives shows two_passed
    ∷ []
