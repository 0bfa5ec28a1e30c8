-- The timestamps that a ring keeps and that pipes show of it.
use Rattle.std.proofs.Common.{◌≡◌, ℕ, ◌+◌, ◌<◌, ◌≤◌, ◌^◌, true, List, [], ◌∷◌, ◌++◌, length, map, replicate, Option, Some, refl, sym, ap, ◌∙◌, arith}
use Rattle.std.proofs.lemmas.Bool.{false≢true}
use Rattle.std.proofs.lemmas.List.{append_assoc, map-append}
use Rattle.trace_record.specs.Record.{head_bytes, padding, timestamp}
use Rattle.trace_record.specs.declared.head.Head.{Head}
use Rattle.trace_record.proofs.HeadBytes.{timestamp-head_bytes}
use Rattle.page_ring.specs.Account.{Reading, readings_of}
use Rattle.page_ring.specs.Events as ring
use Rattle.trace_buffer.specs.Families.{CpuReading, on_cpu, events_of}
use Rattle.trace_buffer.proofs.Consumed.{readings_of-nil}
use Rattle.trace_format.specs.Cells.{payload_of}
use Rattle.trace_command.specs.Requests.{Request, Emission, MakeInstance, RemoveInstance, WriteFile, ReadFile}
use Rattle.trace_command.specs.declared.command.Config.{Config}
use Rattle.tracer_specification.specs.Emissions.{Emitted, emitted, emitted_bytes, record_bytes}
use Rattle.tracer_specification.specs.Rings.{new_rings}
use Rattle.tracer_specification.specs.Settings.{makes, now_of, ticks}
use Rattle.tracer_specification.proofs.Families.{at-replicate}
use Rattle.tracer_specification.proofs.ShownRecords.{emission-is}
use Rattle.history_laws.specs.ReadOnce.{taken_by}
use Rattle.history_laws.proofs.RisingTimes.{kept_times}

ticks-few : (request : Request) → ticks request ≤ 1
ticks-few (Emission event cpu pid pairs) = omega arith
ticks-few (MakeInstance path) = omega arith
ticks-few (RemoveInstance path) = omega arith
ticks-few (WriteFile instance file append text) = omega arith
ticks-few (ReadFile instance file limit) = omega arith

now-few : (past : List Request) → now_of past ≤ length past
now-few [] = omega arith
now-few (request ∷ past) = omega (arith, now-few past, ticks-few request)

pub clock-rises : (past : List Request) (request : Request) → now_of past ≤ now_of (request ∷ past)
clock-rises past request = omega arith

-- an emission's record has the time to which it moves the clock
pub record IsTimed (past : List Request) (request : Request) (bytes : List ℕ) : Type 0 where
  pub time : timestamp bytes ≡ now_of past + 1
  pub clock : now_of (request ∷ past) ≡ now_of past + 1

pub emitted-timed : (past : List Request) (request : Request) (e : Emitted) → length (request ∷ past) < 2 ^ 64 → emitted past request ≡ Some e
    → IsTimed past request (emitted_bytes e)
unfolding record_bytes
emitted-timed past request e few emission =
    let is = emission-is past request e emission in
    let payload = payload_of e.row in
    let head : Head = record { ts = e.timestamp; pid = e.pid; event = e.k.id; payload = length payload } in
    let zeros : List ℕ = replicate (padding (length payload)) 0 in
    let fits : e.timestamp < 2 ^ 64 = omega (arith, is.time, now-few past, few) in
    record {
      time = ap timestamp (append_assoc (head_bytes head) payload zeros) ∙ timestamp-head_bytes head (payload ++ zeros) fits ∙ is.time;
      clock = ap (λ (n : ℕ). now_of past + n) (ap ticks is.emission);
    }

abbrev pub read_time : CpuReading → ℕ
read_time r = timestamp r.rec

times-on_cpu : (cpu : ℕ) (readings : List Reading) → map read_time (map (on_cpu cpu) readings) ≡ map (λ (r : Reading). timestamp r.rec) readings
times-on_cpu cpu [] = refl
times-on_cpu cpu (r ∷ readings) = ap (λ (ts : List ℕ). timestamp r.rec ∷ ts) (times-on_cpu cpu readings)

-- the timestamps that a CPU's ring keeps
abbrev pub ring_times : Config → ℕ → List (List ring.Event) → List ℕ
ring_times g cpu family = kept_times g.pages g.page_bytes (events_of family cpu)

pub no-times : (g : Config) → kept_times g.pages g.page_bytes [] ≡ []
no-times g = ap (map (λ (r : Reading). timestamp r.rec)) (readings_of-nil g.pages g.page_bytes)

pub new-times : (g : Config) (cpu : ℕ) → ring_times g cpu (new_rings g) ≡ []
new-times g cpu =
    let none : List ring.Event = [] in
    ap (kept_times g.pages g.page_bytes) (at-replicate g.cpus cpu none) ∙ no-times g

pub made-none : (g : Config) (instance : Option (List ℕ)) (cpu : ℕ) (past : List Request) (request : Request) → makes instance request ≡ true
    → taken_by g instance cpu past request ≡ []
made-none g instance cpu past (MakeInstance name) new = refl
made-none g instance cpu past _ new = absurd (false≢true new)

-- what a read shows and what is left then is what was there
pub taken-times : (g : Config) (instance : Option (List ℕ)) (cpu : ℕ) (past : List Request) (request : Request) (old new : List ring.Event)
    → map (on_cpu cpu) (readings_of g.pages g.page_bytes old) ≡ taken_by g instance cpu past request ++ map (on_cpu cpu) (readings_of g.pages g.page_bytes new)
    → kept_times g.pages g.page_bytes old ≡ map read_time (taken_by g instance cpu past request) ++ kept_times g.pages g.page_bytes new
taken-times g instance cpu past request old new taken =
    let left = readings_of g.pages g.page_bytes new in
    let shown = taken_by g instance cpu past request in
    sym (times-on_cpu cpu (readings_of g.pages g.page_bytes old)) ∙ ap (map read_time) taken ∙ map-append read_time shown (map (on_cpu cpu) left)
    ∙ ap (λ (ts : List ℕ). map read_time shown ++ ts) (times-on_cpu cpu left)
