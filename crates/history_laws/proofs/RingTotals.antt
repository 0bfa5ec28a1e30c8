-- What requests come to for one ring.
use Rattle.std.proofs.Common.{◌≡◌, inl, inr, ℕ, ◌+◌, ◌==◌, Bool, true, false, ◌||◌, if◌then◌else◌, List, [], ◌∷◌, length, map, Option, refl, sym, ap, ◌∙◌, subst, arith, eqb-true, length-append}
use Rattle.std.specs.List.{count_by, sum_by}
use Rattle.std.proofs.lemmas.List.{length-map}
use Rattle.std.proofs.lemmas.List.Sums.{sum_by-cons, sum_by-append}
use Rattle.page_ring.specs.Account.{Reading, account, readings_of, stats_of}
use Rattle.page_ring.specs.Events as ring
use Rattle.page_ring.specs.Laws.{is_put, CountsAreOfRecords, OfferedIsPuts}
use Rattle.trace_buffer.specs.Families.{CpuReading, on_cpu, events_of, cpu_readings}
use Rattle.trace_command.specs.Requests.{Request}
use Rattle.trace_command.specs.declared.command.Config.{Config}
use Rattle.tracer_specification.specs.Emissions.{emitted_bytes}
use Rattle.tracer_specification.specs.Rings.{new_rings, rings_after, spare_after, rings_of_side, rings}
use Rattle.tracer_specification.specs.Settings.{makes}
use Rattle.tracer_specification.specs.Snapshots.{live_side}
use Rattle.tracer_specification.proofs.Families.{at-replicate}
use Rattle.tracer_specification.proofs.Sides.{side-made}
use Rattle.history_laws.specs.AccountedFor.{emissions_of, empties_live, empties_spare, shown_of}
use Rattle.history_laws.specs.ReadOnce.{taken_by}
use Rattle.history_laws.specs.RingTotals.{since_new, lost_of, RingsCountEmissions, ReadIsWhatPipesShowed, RingsAreAccountedFor, LossesAreTold, LostAddsUp}
use Rattle.history_laws.proofs.RingCounts.{counted-puts, puts-append}
use Rattle.history_laws.proofs.RingLosses.{lost_in, lost_in-new, lost_in-put}
use Rattle.history_laws.proofs.RingReads.{read-put}
use Rattle.history_laws.proofs.RingSteps.{AreConsumed, IsRead, IsPut, IsStep, IsSpareStep, live-step, spare-step}

-- ---- what holds of a new ring and is kept by what requests add holds of every ring

record IsTotal (g : Config) (instance : Option (List ℕ)) (cpu : ℕ) (adds : List Request → Request → ℕ) (P : ℕ → List ring.Event → Type 0) : Type 0 where
  none : P 0 []
  read : (past : List Request) (request : Request) (n : ℕ) (old new : List ring.Event) → IsRead g instance cpu past request old new → P n old
      → P (n + adds past request) new
  put : (past : List Request) (request : Request) (n : ℕ) (old new : List ring.Event) → IsPut g instance cpu past request old new → P n old
      → P (n + adds past request) new

total-emptied : (P : ℕ → List ring.Event → Type 0) (n : ℕ) (new : List ring.Event) → P 0 [] → n ≡ 0 → new ≡ [] → P n new
total-emptied P n new none zero_is empty_is = subst (P n) (sym empty_is) (subst (λ (k : ℕ). P k []) (sym zero_is) none)

total-same : (P : ℕ → List ring.Event → Type 0) (n m : ℕ) (old new : List ring.Event) → P n old → m ≡ n → new ≡ old → P m new
total-same P n m old new h same_count same = subst (P m) (sym same) (subst (λ (k : ℕ). P k old) (sym same_count) h)

total-after : AreConsumed → (g : Config) (instance : Option (List ℕ)) (cpu : ℕ) (adds : List Request → Request → ℕ) (P : ℕ → List ring.Event → Type 0)
    (side : ℕ) (past : List Request) (request : Request) → IsTotal g instance cpu adds P
    → P (since_new adds instance side cpu past) (events_of (rings_of_side g instance side past) cpu)
    → P (since_new adds instance side cpu (request ∷ past)) (events_of (rings_of_side g instance side (request ∷ past)) cpu)
total-after consumed g instance cpu adds P side past request total was = by_life (makes instance request) refl
  where
    n : ℕ
    n = since_new adds instance side cpu past

    family : List (List ring.Event)
    family = rings_of_side g instance side past

    old : List ring.Event
    old = events_of family cpu

    -- what a request adds to a side that is live or not, which it empties or not
    counts : Bool → Bool → ℕ
    counts live empties = if empties then 0 else n + (if live then adds past request else 0)

    by_live : (new : List ring.Event) → IsStep g instance cpu past request old new → P (counts true (empties_live instance cpu request)) new
    by_live new (inl read) =
        subst (λ (b : Bool). P (counts true b) new) (sym read.keeps) (total.read past request n old new read was)
    by_live new (inr (inl put)) =
        subst (λ (b : Bool). P (counts true b) new) (sym put.keeps) (total.put past request n old new put was)
    by_live new (inr (inr emptied)) =
        total-emptied P (counts true (empties_live instance cpu request)) new total.none (ap (counts true) emptied.empties) emptied.is

    by_spare : (new : List ring.Event) → IsSpareStep instance request old new → P (counts false (empties_spare instance request)) new
    by_spare new (inl same) =
        total-same P n (counts false (empties_spare instance request)) old new was (ap (counts false) same.0 ∙ omega arith) same.1
    by_spare new (inr emptied) =
        total-emptied P (counts false (empties_spare instance request)) new total.none (ap (counts false) emptied.0) emptied.1

    by_side : makes instance request ≡ false → (live : Bool) → (side == live_side instance past) ≡ live
        → P (counts live (if live then empties_live instance cpu request else empties_spare instance request))
        (events_of (if live then rings_after g instance past request family else spare_after g instance request family) cpu)
    by_side alive true is =
        let same : rings g instance past ≡ family = ap (λ (s : ℕ). rings_of_side g instance s past) (sym (eqb-true side (live_side instance past) is)) in
        by_live (events_of (rings_after g instance past request family) cpu)
        (subst (λ (f : List (List ring.Event)). IsStep g instance cpu past request (events_of f cpu) (events_of (rings_after g instance past request f) cpu)) same
        (live-step consumed g instance cpu past request alive))
    by_side alive false is =
        by_spare (events_of (spare_after g instance request family) cpu) (spare-step g instance cpu request family alive)

    empties_here : Bool
    empties_here = if side == live_side instance past then empties_live instance cpu request else empties_spare instance request

    by_life : (new : Bool) → makes instance request ≡ new
        → P (counts (side == live_side instance past) (new || empties_here)) (events_of (rings_of_side g instance side (request ∷ past)) cpu)
    by_life true new =
        let none : List ring.Event = [] in
        total-emptied P 0 (events_of (rings_of_side g instance side (request ∷ past)) cpu) total.none refl
        (ap (λ (f : List (List ring.Event)). events_of f cpu) (side-made g instance side past request new) ∙ at-replicate g.cpus cpu none)
    by_life false alive = by_side alive (side == live_side instance past) refl

total : AreConsumed → (g : Config) (instance : Option (List ℕ)) (cpu : ℕ) (adds : List Request → Request → ℕ) (P : ℕ → List ring.Event → Type 0) (side : ℕ)
    (past : List Request) → IsTotal g instance cpu adds P
    → P (since_new adds instance side cpu past) (events_of (rings_of_side g instance side past) cpu)
total consumed g instance cpu adds P side [] holds =
    let none : List ring.Event = [] in total-emptied P 0 (events_of (new_rings g) cpu) holds.none refl (at-replicate g.cpus cpu none)
total consumed g instance cpu adds P side (request ∷ past) holds =
    total-after consumed g instance cpu adds P side past request holds (total consumed g instance cpu adds P side past holds)

-- ---- emissions

pub rings_count_emissions : AreConsumed → OfferedIsPuts → CountsAreOfRecords → RingsCountEmissions
rings_count_emissions consumed puts counts g past instance side cpu inside =
    counted-puts puts counts g.pages g.page_bytes (events_of (rings_of_side g instance side past) cpu)
    ∙ total consumed g instance cpu (emissions_of instance cpu) (λ n events. count_by is_put events ≡ n) side past (record {
      none = refl;
      read = λ past request n old new read h.
          let none : emissions_of instance cpu past request ≡ 0 = rw (read.unrecorded inside) refl in
          omega (arith, read.only.puts, h, none);
      put = λ past request n old new put h.
          let one : emissions_of instance cpu past request ≡ 1 = rw put.recorded refl in
          let more = ap (count_by is_put) put.is ∙ puts-append old (ring.Put (emitted_bytes put.e) put.overwrite ∷ []) in
          let this : count_by is_put (ring.Put (emitted_bytes put.e) put.overwrite ∷ []) ≡ 1 = refl in
          omega (arith, more, h, one, this);
    })

-- ---- what pipes showed

none-read : (pages page_bytes : ℕ) → (stats_of pages page_bytes []).read ≡ 0
unfolding stats_of account
none-read pages page_bytes = refl

pub read_is_what_pipes_showed : AreConsumed → ReadIsWhatPipesShowed
read_is_what_pipes_showed consumed g past instance side cpu =
    total consumed g instance cpu (shown_of g instance cpu) (λ n events. (stats_of g.pages g.page_bytes events).read ≡ n) side past (record {
      none = none-read g.pages g.page_bytes;
      read = λ past request n old new read h.
          let before = readings_of g.pages g.page_bytes old in
          let left = readings_of g.pages g.page_bytes new in
          let all : length (map (on_cpu cpu) before) ≡ shown_of g instance cpu past request + length (map (on_cpu cpu) left) =
          ap length read.taken ∙ rw length-append refl in
          omega (arith, all, length-map before (on_cpu cpu), length-map left (on_cpu cpu), read.only.unlost, h);
      put = λ past request n old new put h.
          let none : shown_of g instance cpu past request ≡ 0 = ap length put.none in
          let same = ap (λ (es : List ring.Event). (stats_of g.pages g.page_bytes es).read) put.is
          ∙ read-put g.pages g.page_bytes old (emitted_bytes put.e) put.overwrite in
          omega (arith, none, same, h);
    })

pub rings_are_accounted_for : RingsCountEmissions → ReadIsWhatPipesShowed → RingsAreAccountedFor
rings_are_accounted_for counts read g past instance side cpu inside =
    let all = counts g past instance side cpu inside in
    let shown = read g past instance side cpu in
    omega (arith, all, shown)

-- ---- losses

lost-on_cpu : (cpu : ℕ) (readings : List Reading) → sum_by (λ (r : CpuReading). r.lost) (map (on_cpu cpu) readings) ≡ lost_in readings
lost-on_cpu cpu [] = refl
lost-on_cpu cpu (r ∷ readings) =
    let shown = sum_by-cons (λ (x : CpuReading). x.lost) (on_cpu cpu r) (map (on_cpu cpu) readings) in
    let kept = sum_by-cons (λ (x : Reading). x.lost) r readings in
    omega (arith, shown, kept, lost-on_cpu cpu readings)

pub losses_are_told : AreConsumed → CountsAreOfRecords → LossesAreTold
losses_are_told consumed counts g past instance side cpu some =
    total consumed g instance cpu (lost_of g instance cpu)
    (λ n events. (stats_of g.pages g.page_bytes events).overrun ≡ n + lost_in (readings_of g.pages g.page_bytes events)) side past (record {
      none = omega (arith, lost_in-new g.pages g.page_bytes);
      read = λ past request n old new read h.
          let shown = taken_by g instance cpu past request in
          let left = readings_of g.pages g.page_bytes new in
          let all : lost_in (readings_of g.pages g.page_bytes old) ≡ lost_of g instance cpu past request + lost_in left =
          sym (lost-on_cpu cpu (readings_of g.pages g.page_bytes old)) ∙ ap (sum_by (λ (x : CpuReading). x.lost)) read.taken
          ∙ sum_by-append (λ (x : CpuReading). x.lost) shown (map (on_cpu cpu) left)
          ∙ ap (λ (k : ℕ). lost_of g instance cpu past request + k) (lost-on_cpu cpu left) in
          omega (arith, all, read.only.overrun, h);
      put = λ past request n old new put h.
          let none : lost_of g instance cpu past request ≡ 0 = ap (sum_by (λ (x : CpuReading). x.lost)) put.none in
          let bytes = emitted_bytes put.e in
          let more = lost_in-put consumed.least counts g.pages g.page_bytes old bytes put.overwrite some in
          let overrun_is = ap (λ (es : List ring.Event). (stats_of g.pages g.page_bytes es).overrun) put.is in
          let lost_is = ap (λ (es : List ring.Event). lost_in (readings_of g.pages g.page_bytes es)) put.is in
          omega (arith, none, more, overrun_is, lost_is, h);
    })

pub lost_adds_up : AreConsumed → CountsAreOfRecords → LostAddsUp
lost_adds_up consumed counts g past instance side cpu some nothing =
    let none : lost_in (cpu_readings g.pages g.page_bytes (rings_of_side g instance side past) cpu) ≡ 0 = ap lost_in nothing in
    omega (arith, none, losses_are_told consumed counts g past instance side cpu some)
