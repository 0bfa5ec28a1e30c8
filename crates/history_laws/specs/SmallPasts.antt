-- Small pasts, worked by hand, and what they come to. The checker computes them.
use Rattle.std.specs.Prelude.{◌≡◌, ℕ, true, List, [], ◌∷◌, map, reverse, None, codes}
use Rattle.trace_record.specs.Record.{timestamp}
use Rattle.trace_buffer.specs.Families.{CpuReading, cpu_stats}
use Rattle.trace_command.specs.Requests.{Request, request_of}
use Rattle.trace_command.specs.Commands.{Command}
use Rattle.tracer_specification.specs.Examples.{cat, echo, small, take, tick}
use Rattle.tracer_specification.specs.Rings.{rings}
use Rattle.history_laws.specs.AccountedFor.{counted, emissions_of, recorded_count, shown_of, was_emptied}
use Rattle.history_laws.specs.ReadOnce.{read_records}
use Rattle.history_laws.specs.RingTotals.{since_new}

-- what was asked, one after another, as requests
abbrev pub past_of : List Command → List Request
past_of commands = map (λ command. request_of command) (reverse commands)

-- `tick` is declared and switched on
abbrev pub after_tick : List Command → List Command
after_tick commands = echo (codes "tick u64 n") (codes "synthetic_events") ∷ echo (codes "1") (codes "events/synthetic/tick/enable") ∷ commands

-- the times of the records of CPU 0 that were read
abbrev pub times_read : List Request → List ℕ
times_read past = map (λ (r : CpuReading). timestamp r.rec) (read_records (small 1) None 0 past)

-- Two emissions, of which one is read, then `> trace`, and a third one.
abbrev pub emptied : List Request
emptied =
    past_of (after_tick (tick 0 (codes "1") ∷ tick 0 (codes "2") ∷ take 1 (codes "trace_pipe") ∷ echo [] (codes "trace") ∷ tick 0 (codes "3") ∷ []))

-- Three were recorded since the instance was made, but the ring was emptied and tells of the third alone: so do the emissions since then.
pub record IsEmptied : Type 0 where
  pub recorded : recorded_count None 0 emptied ≡ 3
  pub was : was_emptied None 0 emptied ≡ true
  pub counts : counted (cpu_stats 2 64 (rings (small 1) None emptied) 0) ≡ 1
  pub since : since_new (emissions_of None 0) None 0 0 emptied ≡ 1
  pub shown : since_new (shown_of (small 1) None 0) None 0 0 emptied ≡ 0
  pub read : times_read emptied ≡ 1 ∷ []

-- Two readers: each gets a record of its own, whether the first takes one of two and the other the rest, or one takes both.
abbrev pub read_by_two : List Request
read_by_two = past_of (after_tick (tick 0 (codes "1") ∷ tick 0 (codes "2") ∷ take 1 (codes "trace_pipe") ∷ cat (codes "per_cpu/cpu0/trace_pipe") ∷ []))

abbrev pub read_by_one : List Request
read_by_one = past_of (after_tick (tick 0 (codes "1") ∷ tick 0 (codes "2") ∷ cat (codes "trace_pipe") ∷ []))

pub record AreRead : Type 0 where
  pub by_two : times_read read_by_two ≡ 1 ∷ 2 ∷ []
  pub by_one : times_read read_by_one ≡ 1 ∷ 2 ∷ []
  pub left : rings (small 1) None read_by_two ≡ rings (small 1) None read_by_one
