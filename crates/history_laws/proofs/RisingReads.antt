-- The timestamps that pipes show of one side rise.
use Rattle.std.proofs.Common.{◌≡◌, inl, inr, ℕ, ◌^◌, ◌<◌, ◌≤◌, ◌==◌, Bool, true, false, if◌then◌else◌, List, [], ◌∷◌, ◌++◌, length, map, Option, refl, sym, ap, ◌∙◌, subst, arith, eqb-true}
use Rattle.std.proofs.lemmas.List.{append_assoc, map-append}
use Rattle.trace_record.specs.Record.{timestamp}
use Rattle.page_ring.specs.Events as ring
use Rattle.trace_buffer.specs.Families.{CpuReading, events_of}
use Rattle.trace_command.specs.Requests.{Request}
use Rattle.trace_command.specs.declared.command.Config.{Config}
use Rattle.tracer_specification.specs.Emissions.{emitted_bytes}
use Rattle.tracer_specification.specs.Rings.{rings_after, spare_after, rings_of_side, rings}
use Rattle.tracer_specification.specs.Settings.{makes, now_of}
use Rattle.tracer_specification.specs.Snapshots.{live_side}
use Rattle.tracer_specification.proofs.Families.{at-replicate}
use Rattle.tracer_specification.proofs.Sides.{side-made}
use Rattle.history_laws.specs.ReadOnce.{taken_by, read_from_side, ReadTimesRise}
use Rattle.history_laws.proofs.RingSteps.{AreConsumed, IsStep, IsSpareStep, live-step, spare-step}
use Rattle.history_laws.proofs.RisingTimes.{Rises, kept_times, pairs-rise, rises-higher, rises-put, rises-tail}
use Rattle.history_laws.proofs.ReadTimes.{clock-rises, emitted-timed, made-none, new-times, no-times, read_time, ring_times, taken-times}

-- a request's part of them
record IsRising (g : Config) (past : List Request) (request : Request) (more : List CpuReading) (old new : List ring.Event) : Type 0 where
  tail : (from : ℕ) → from ≤ now_of past → Rises from (now_of past) (kept_times g.pages g.page_bytes old)
      → Rises from (now_of (request ∷ past)) (map read_time more ++ kept_times g.pages g.page_bytes new)

rises-step : (g : Config) (past : List Request) (request : Request) (read more : List CpuReading) (old new : List ring.Event)
    → IsRising g past request more old new → Rises 0 (now_of past) (map read_time read ++ kept_times g.pages g.page_bytes old)
    → Rises 0 (now_of (request ∷ past)) (map read_time (read ++ more) ++ kept_times g.pages g.page_bytes new)
rises-step g past request read more old new step h =
    let left = kept_times g.pages g.page_bytes new in
    let regrouped : map read_time read ++ (map read_time more ++ left) ≡ map read_time (read ++ more) ++ left =
    sym (append_assoc (map read_time read) (map read_time more) left) ∙ ap (λ (ts : List ℕ). ts ++ left) (sym (map-append read_time read more)) in
    subst (Rises 0 (now_of (request ∷ past))) regrouped
    (rises-tail 0 (now_of past) (now_of (request ∷ past)) (map read_time read) (kept_times g.pages g.page_bytes old) (map read_time more ++ left)
    (clock-rises past request) (omega arith) step.tail h)

rises-emptied : (g : Config) (past : List Request) (request : Request) (more : List CpuReading) (old new : List ring.Event) → more ≡ [] → new ≡ []
    → IsRising g past request more old new
rises-emptied g past request more old new none emptied = record {
  tail = λ from few h.
      let nothing : map read_time more ++ kept_times g.pages g.page_bytes new ≡ [] =
      ap (λ (rs : List CpuReading). map read_time rs ++ kept_times g.pages g.page_bytes new) none ∙ ap (kept_times g.pages g.page_bytes) emptied ∙ no-times g in
      subst (Rises from (now_of (request ∷ past))) (sym nothing) tt;
}

rises-same : (g : Config) (past : List Request) (request : Request) (more : List CpuReading) (old new : List ring.Event)
    → kept_times g.pages g.page_bytes old ≡ map read_time more ++ kept_times g.pages g.page_bytes new → IsRising g past request more old new
rises-same g past request more old new same = record {
  tail = λ from few h.
      subst (Rises from (now_of (request ∷ past))) same
      (rises-higher from (now_of past) (now_of (request ∷ past)) (kept_times g.pages g.page_bytes old) (clock-rises past request) h);
}

rises-live : (g : Config) (past : List Request) (request : Request) (instance : Option (List ℕ)) (cpu : ℕ) (old new : List ring.Event)
    → length (request ∷ past) < 2 ^ 64 → IsStep g instance cpu past request old new
    → IsRising g past request (taken_by g instance cpu past request) old new
rises-live g past request instance cpu old new short (inl read) =
    rises-same g past request (taken_by g instance cpu past request) old new (taken-times g instance cpu past request old new read.taken)
rises-live g past request instance cpu old new short (inr (inl put)) = record {
  tail = λ from few h.
      let bytes = emitted_bytes put.e in
      let timed = emitted-timed past request put.e short put.emission in
      let then_is : timestamp bytes ≡ now_of (request ∷ past) = timed.time ∙ sym timed.clock in
      let put_is : Rises from (timestamp bytes) (kept_times g.pages g.page_bytes (old ++ ring.Put bytes put.overwrite ∷ [])) =
      rises-put g.pages g.page_bytes old bytes put.overwrite from (now_of past) few (omega (arith, timed.time)) h in
      let new_is : Rises from (now_of (request ∷ past)) (kept_times g.pages g.page_bytes new) =
      subst (λ (es : List ring.Event). Rises from (now_of (request ∷ past)) (kept_times g.pages g.page_bytes es)) (sym put.is)
      (subst (λ (n : ℕ). Rises from n (kept_times g.pages g.page_bytes (old ++ ring.Put bytes put.overwrite ∷ []))) then_is put_is) in
      subst (λ (rs : List CpuReading). Rises from (now_of (request ∷ past)) (map read_time rs ++ kept_times g.pages g.page_bytes new)) (sym put.none) new_is;
}
rises-live g past request instance cpu old new short (inr (inr emptied)) =
    rises-emptied g past request (taken_by g instance cpu past request) old new emptied.none emptied.is

rises-spare : (g : Config) (instance : Option (List ℕ)) (past : List Request) (request : Request) (old new : List ring.Event)
    → IsSpareStep instance request old new → IsRising g past request [] old new
rises-spare g instance past request old new (inl same) = rises-same g past request [] old new (ap (kept_times g.pages g.page_bytes) (sym same.1))
rises-spare g instance past request old new (inr emptied) = rises-emptied g past request [] old new refl emptied.1

side-after : AreConsumed → (g : Config) (past : List Request) (request : Request) (instance : Option (List ℕ)) (side cpu : ℕ)
    → length (request ∷ past) < 2 ^ 64
    → Rises 0 (now_of past) (map read_time (read_from_side g instance side cpu past) ++ ring_times g cpu (rings_of_side g instance side past))
    → Rises 0 (now_of (request ∷ past)) (map read_time (read_from_side g instance side cpu (request ∷ past))
    ++ ring_times g cpu (rings_of_side g instance side (request ∷ past)))
side-after consumed g past request instance side cpu few was = by_life (makes instance request) refl
  where
    shown : List CpuReading
    shown = taken_by g instance cpu past request

    old : List ring.Event
    old = events_of (rings_of_side g instance side past) cpu

    step : (more : List CpuReading) (new : List ring.Event) → IsRising g past request more old new
        → Rises 0 (now_of (request ∷ past)) (map read_time (read_from_side g instance side cpu past ++ more) ++ kept_times g.pages g.page_bytes new)
    step more new rising = rises-step g past request (read_from_side g instance side cpu past) more old new rising was

    made_events : makes instance request ≡ true → events_of (rings_of_side g instance side (request ∷ past)) cpu ≡ []
    made_events new =
        let none : List ring.Event = [] in
        ap (λ (f : List (List ring.Event)). events_of f cpu) (side-made g instance side past request new) ∙ at-replicate g.cpus cpu none

    by_made : makes instance request ≡ true → (live : Bool)
        → Rises 0 (now_of (request ∷ past)) (map read_time (read_from_side g instance side cpu past ++ (if live then shown else []))
        ++ ring_times g cpu (rings_of_side g instance side (request ∷ past)))
    by_made new true =
        let events = events_of (rings_of_side g instance side (request ∷ past)) cpu in
        step shown events (rises-emptied g past request shown old events (made-none g instance cpu past request new) (made_events new))
    by_made new false =
        let events = events_of (rings_of_side g instance side (request ∷ past)) cpu in
        step [] events (rises-emptied g past request [] old events refl (made_events new))

    by_side : makes instance request ≡ false → (live : Bool) → (side == live_side instance past) ≡ live
        → Rises 0 (now_of (request ∷ past)) (map read_time (read_from_side g instance side cpu past ++ (if live then shown else []))
        ++ ring_times g cpu (if live then rings_after g instance past request (rings_of_side g instance side past)
        else spare_after g instance request (rings_of_side g instance side past)))
    by_side alive true is =
        let same : rings g instance past ≡ rings_of_side g instance side past =
        ap (λ (s : ℕ). rings_of_side g instance s past) (sym (eqb-true side (live_side instance past) is)) in
        let new = events_of (rings_after g instance past request (rings_of_side g instance side past)) cpu in
        let done : IsStep g instance cpu past request old new =
        subst (λ (f : List (List ring.Event)). IsStep g instance cpu past request (events_of f cpu) (events_of (rings_after g instance past request f) cpu)) same
        (live-step consumed g instance cpu past request alive) in
        step shown new (rises-live g past request instance cpu old new few done)
    by_side alive false is =
        let new = events_of (spare_after g instance request (rings_of_side g instance side past)) cpu in
        step [] new (rises-spare g instance past request old new (spare-step g instance cpu request (rings_of_side g instance side past) alive))

    by_life : (new : Bool) → makes instance request ≡ new
        → Rises 0 (now_of (request ∷ past)) (map read_time (read_from_side g instance side cpu (request ∷ past))
        ++ ring_times g cpu (rings_of_side g instance side (request ∷ past)))
    by_life true new = by_made new (side == live_side instance past)
    by_life false alive = by_side alive (side == live_side instance past) refl

pub side-rises : AreConsumed → (g : Config) (past : List Request) (instance : Option (List ℕ)) (side cpu : ℕ) → length past < 2 ^ 64
    → Rises 0 (now_of past) (map read_time (read_from_side g instance side cpu past) ++ ring_times g cpu (rings_of_side g instance side past))
side-rises consumed g [] instance side cpu few = subst (Rises 0 0) (sym (new-times g cpu)) tt
side-rises consumed g (request ∷ past) instance side cpu few =
    side-after consumed g past request instance side cpu few (side-rises consumed g past instance side cpu (omega (arith, few)))

rises-first : (low high : ℕ) (ts more : List ℕ) → Rises low high (ts ++ more) → Rises low high ts
rises-first low high [] more h = tt
rises-first low high (t ∷ ts) more h = (h.0, h.1, rises-first t high ts more h.2)

pub read_times_rise : AreConsumed → ReadTimesRise
read_times_rise consumed g past instance side cpu few =
    let read = read_from_side g instance side cpu past in
    pairs-rise read_time 0 (now_of past) read
    (rises-first 0 (now_of past) (map read_time read) (ring_times g cpu (rings_of_side g instance side past))
    (side-rises consumed g past instance side cpu few))
