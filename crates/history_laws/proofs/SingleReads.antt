-- Over both sides, pipes show each timestamp once at most.
use Rattle.std.proofs.Common.{◌≡◌, ◌⊎◌, inl, inr, ℕ, ◌+◌, ◌^◌, ◌<◌, ◌≤◌, ◌==◌, Bool, true, false, cond, List, [], ◌∷◌, length, map, Option, refl, ap, ◌∙◌, arith, eqb-true}
use Rattle.std.specs.List.{count_by}
use Rattle.std.proofs.lemmas.List.{map-append}
use Rattle.std.proofs.lemmas.List.Sums.{sum_by-cons}
use Rattle.trace_record.specs.Record.{timestamp}
use Rattle.page_ring.specs.Events as ring
use Rattle.trace_buffer.specs.Families.{CpuReading, events_of}
use Rattle.trace_command.specs.Requests.{Request}
use Rattle.trace_command.specs.declared.command.Config.{Config}
use Rattle.tracer_specification.specs.Emissions.{emitted_bytes}
use Rattle.tracer_specification.specs.Rings.{new_rings, rings_after, spare_after, rings, other_rings}
use Rattle.tracer_specification.specs.Settings.{makes, now_of}
use Rattle.tracer_specification.specs.Snapshots.{exchanges}
use Rattle.tracer_specification.proofs.Sides.{rings-stay, rings-exchanged, rings-made}
use Rattle.history_laws.specs.ReadOnce.{taken_by, read_records, NothingIsReadTwice}
use Rattle.history_laws.proofs.RingSteps.{AreConsumed, IsStep, IsSpareStep, live-step, spare-step}
use Rattle.history_laws.proofs.RisingTimes.{kept_times, once_if, times_of, times_of-append, times_of-put}
use Rattle.history_laws.proofs.ReadTimes.{clock-rises, emitted-timed, made-none, new-times, no-times, read_time, ring_times, taken-times}

-- how often a timestamp was read, and how often it is kept
abbrev times_read : Config → Option (List ℕ) → ℕ → ℕ → List Request → ℕ
times_read g instance cpu time past = times_of time (map read_time (read_records g instance cpu past))

abbrev times_in : Config → ℕ → ℕ → List (List ring.Event) → ℕ
times_in g cpu time family = times_of time (ring_times g cpu family)

abbrev times_there : Config → Option (List ℕ) → ℕ → ℕ → List Request → ℕ
times_there g instance cpu time past =
    times_read g instance cpu time past + times_in g cpu time (rings g instance past) + times_in g cpu time (other_rings g instance past)

-- once at most, and not before the clock comes to it
record IsOnce (g : Config) (instance : Option (List ℕ)) (cpu time : ℕ) (past : List Request) : Type 0 where
  once : times_there g instance cpu time past ≤ 1
  later : now_of past < time → times_there g instance cpu time past ≡ 0

-- what a request adds to a ring and to what was read: nothing, or the timestamp of an emission
record IsAdded (past : List Request) (request : Request) (time was is : ℕ) : Type 0 where
  one : is ≤ was + once_if (now_of past + 1 == time)
  clock : now_of (request ∷ past) ≡ now_of past + 1

abbrev Adds : List Request → Request → ℕ → ℕ → ℕ → Type 0
Adds past request time was is = (is ≤ was) ⊎ IsAdded past request time was is

times-live : (g : Config) (past : List Request) (request : Request) (instance : Option (List ℕ)) (cpu time : ℕ) (old new : List ring.Event)
    → length (request ∷ past) < 2 ^ 64 → IsStep g instance cpu past request old new
    → Adds past request time (times_of time (kept_times g.pages g.page_bytes old))
    (times_of time (map read_time (taken_by g instance cpu past request)) + times_of time (kept_times g.pages g.page_bytes new))
times-live g past request instance cpu time old new few (inl read) =
    let shown = taken_by g instance cpu past request in
    let all = ap (times_of time) (taken-times g instance cpu past request old new read.taken) in
    let parts = times_of-append time (map read_time shown) (kept_times g.pages g.page_bytes new) in
    inl (omega (arith, all, parts))
times-live g past request instance cpu time old new few (inr (inl put)) =
    let bytes = emitted_bytes put.e in
    let timed = emitted-timed past request put.e few put.emission in
    let none : times_of time (map read_time (taken_by g instance cpu past request)) ≡ 0 = ap (λ (rs : List CpuReading). times_of time (map read_time rs)) put.none in
    let more = times_of-put g.pages g.page_bytes old bytes put.overwrite time in
    let is = ap (λ (es : List ring.Event). times_of time (kept_times g.pages g.page_bytes es)) put.is in
    let same = ap (λ (n : ℕ). once_if (n == time)) timed.time in
    inr (record { one = omega (arith, none, more, is, same); clock = timed.clock })
times-live g past request instance cpu time old new few (inr (inr emptied)) =
    let none : times_of time (map read_time (taken_by g instance cpu past request)) ≡ 0 =
    ap (λ (rs : List CpuReading). times_of time (map read_time rs)) emptied.none in
    let nothing : times_of time (kept_times g.pages g.page_bytes new) ≡ 0 =
    ap (λ (es : List ring.Event). times_of time (kept_times g.pages g.page_bytes es)) emptied.is ∙ ap (times_of time) (no-times g) in
    inl (omega (arith, none, nothing))

times-spare : (g : Config) (instance : Option (List ℕ)) (request : Request) (time : ℕ) (old new : List ring.Event) → IsSpareStep instance request old new
    → times_of time (kept_times g.pages g.page_bytes new) ≤ times_of time (kept_times g.pages g.page_bytes old)
times-spare g instance request time old new (inl same) =
    let e = ap (λ (es : List ring.Event). times_of time (kept_times g.pages g.page_bytes es)) same.1 in omega (arith, e)
times-spare g instance request time old new (inr emptied) =
    let nothing : times_of time (kept_times g.pages g.page_bytes new) ≡ 0 =
    ap (λ (es : List ring.Event). times_of time (kept_times g.pages g.page_bytes es)) emptied.1 ∙ ap (times_of time) (no-times g) in
    omega (arith, nothing)

-- a request reads what it shows
read-more : (g : Config) (instance : Option (List ℕ)) (cpu time : ℕ) (past : List Request) (request : Request)
    → times_read g instance cpu time (request ∷ past)
    ≡ times_read g instance cpu time past + times_of time (map read_time (taken_by g instance cpu past request))
read-more g instance cpu time past request =
    let shown = taken_by g instance cpu past request in
    let read = read_records g instance cpu past in
    ap (times_of time) (map-append read_time read shown) ∙ times_of-append time (map read_time read) (map read_time shown)

once-after : (g : Config) (instance : Option (List ℕ)) (cpu time : ℕ) (past : List Request) (request : Request) → IsOnce g instance cpu time past
    → Adds past request time (times_there g instance cpu time past) (times_there g instance cpu time (request ∷ past))
    → IsOnce g instance cpu time (request ∷ past)
once-after g instance cpu time past request h (inl fewer) =
    let clock = clock-rises past request in
    record {
      once = omega (arith, fewer, h.once);
      later = λ then_later. let none = h.later (omega (arith, clock, then_later)) in omega (arith, fewer, none);
    }
once-after g instance cpu time past request h (inr more) = by (now_of past + 1 == time) refl
  where
    by : (here : Bool) → (now_of past + 1 == time) ≡ here → IsOnce g instance cpu time (request ∷ past)
    by true is =
        let same : now_of past + 1 ≡ time = eqb-true (now_of past + 1) time is in
        let none = h.later (omega (arith, same)) in
        let one : once_if (now_of past + 1 == time) ≡ 1 = ap once_if is in
        record {
          once = omega (arith, more.one, none, one);
          later = λ then_later. absurd (omega (arith, more.clock, same, then_later));
        }
    by false is =
        let no_one : once_if (now_of past + 1 == time) ≡ 0 = ap once_if is in
        record {
          once = omega (arith, more.one, no_one, h.once);
          later = λ then_later. let none = h.later (omega (arith, more.clock, then_later)) in omega (arith, more.one, no_one, none);
        }

once-step : AreConsumed → (g : Config) (past : List Request) (request : Request) (instance : Option (List ℕ)) (cpu time : ℕ)
    → length (request ∷ past) < 2 ^ 64
    → Adds past request time (times_there g instance cpu time past) (times_there g instance cpu time (request ∷ past))
once-step consumed g past request instance cpu time few = by_life (makes instance request) refl
  where
    after_live : List (List ring.Event)
    after_live = rings_after g instance past request (rings g instance past)

    after_spare : List (List ring.Event)
    after_spare = spare_after g instance request (other_rings g instance past)

    shown : ℕ
    shown = times_of time (map read_time (taken_by g instance cpu past request))

    there : ℕ
    there = times_read g instance cpu time past + shown + (times_in g cpu time after_live + times_in g cpu time after_spare)

    by_parts : Adds past request time (times_in g cpu time (rings g instance past)) (shown + times_in g cpu time after_live)
        → times_in g cpu time after_spare ≤ times_in g cpu time (other_rings g instance past) → times_there g instance cpu time (request ∷ past) ≡ there
        → Adds past request time (times_there g instance cpu time past) (times_there g instance cpu time (request ∷ past))
    by_parts (inl fewer) spare all = inl (omega (arith, fewer, spare, all))
    by_parts (inr more) spare all = inr (record { one = omega (arith, more.one, spare, all); clock = more.clock })

    by_exchange : makes instance request ≡ false → (flips : Bool) → exchanges instance past request ≡ flips
        → times_there g instance cpu time (request ∷ past) ≡ there
    by_exchange alive true is =
        let swapped = rings-exchanged g instance past request alive is in
        let live = ap (times_in g cpu time) swapped.live in
        let spare = ap (times_in g cpu time) swapped.spare in
        omega (arith, live, spare, read-more g instance cpu time past request)
    by_exchange alive false is =
        let stay = rings-stay g instance past request alive is in
        let live = ap (times_in g cpu time) stay.live in
        let spare = ap (times_in g cpu time) stay.spare in
        omega (arith, live, spare, read-more g instance cpu time past request)

    by_life : (new : Bool) → makes instance request ≡ new
        → Adds past request time (times_there g instance cpu time past) (times_there g instance cpu time (request ∷ past))
    by_life true new =
        let made = rings-made g instance past request new in
        let live = ap (times_in g cpu time) made.live ∙ ap (times_of time) (new-times g cpu) in
        let spare = ap (times_in g cpu time) made.spare ∙ ap (times_of time) (new-times g cpu) in
        let none : shown ≡ 0 = ap (λ (rs : List CpuReading). times_of time (map read_time rs)) (made-none g instance cpu past request new) in
        inl (omega (arith, live, spare, none, read-more g instance cpu time past request))
    by_life false alive =
        let old = events_of (rings g instance past) cpu in
        by_parts (times-live g past request instance cpu time old (events_of after_live cpu) few (live-step consumed g instance cpu past request alive))
        (times-spare g instance request time (events_of (other_rings g instance past) cpu) (events_of after_spare cpu)
        (spare-step g instance cpu request (other_rings g instance past) alive))
        (by_exchange alive (exchanges instance past request) refl)

is-once : AreConsumed → (g : Config) (past : List Request) (instance : Option (List ℕ)) (cpu time : ℕ) → length past < 2 ^ 64
    → IsOnce g instance cpu time past
is-once consumed g [] instance cpu time few =
    let none : times_in g cpu time (new_rings g) ≡ 0 = ap (times_of time) (new-times g cpu) in
    record { once = omega (arith, none); later = λ later. omega (arith, none) }
is-once consumed g (request ∷ past) instance cpu time few =
    once-after g instance cpu time past request (is-once consumed g past instance cpu time (omega (arith, few)))
    (once-step consumed g past request instance cpu time few)

count-times : (time : ℕ) (read : List CpuReading) → count_by (λ r. timestamp r.rec == time) read ≡ times_of time (map read_time read)
count-times time [] = refl
count-times time (r ∷ read) =
    let all = sum_by-cons (λ (x : CpuReading). cond (timestamp x.rec == time) 1 0) r read in
    let mapped = sum_by-cons (λ (t : ℕ). cond (t == time) 1 0) (timestamp r.rec) (map read_time read) in
    omega (arith, all, mapped, count-times time read)

pub nothing_is_read_twice : AreConsumed → NothingIsReadTwice
nothing_is_read_twice consumed g past instance cpu time few =
    let h = is-once consumed g past instance cpu time few in
    omega (arith, h.once, count-times time (read_records g instance cpu past))
