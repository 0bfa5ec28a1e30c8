-- In which order pipes and traces show what the rings of an instance keep.
use Rattle.std.proofs.Common.{◌≡◌, ℕ, zero, suc, ◌+◌, ◌-◌, ◌^◌, ◌<◌, ◌≤◌, ◌==◌, List, [], ◌∷◌, ◌++◌, filter, length, map, take, Option, refl, sym, ap, ◌∙◌, arith}
use Rattle.std.specs.List.{AllByRecursion, flat_map}
use Rattle.std.proofs.lemmas.List.{append-nil, take_all}
use Rattle.trace_record.specs.Record.{timestamp}
use Rattle.page_ring.specs.Account.{Reading, readings_of}
use Rattle.page_ring.specs.Events as ring
use Rattle.page_ring.specs.Laws.{ReadingsAreAhead}
use Rattle.trace_buffer.specs.Families.{CpuReading, on_cpu, events_of, cpu_readings, kept_count}
use Rattle.trace_buffer.specs.Orders.{Consumed, by_timestamp, consume_any, merged}
use Rattle.trace_buffer.proofs.Consumed.{consumed-min, taken_in_order-consumed}
use Rattle.trace_buffer.proofs.Merges.{AreAtLeast, Rises as NeverFalls, Rises-from_sort}
use Rattle.trace_buffer.proofs.PipeLaws.{reads_consume_what_they_take, reads_take_so_many}
use Rattle.record_text.specs.BufferText.{taken_lines, pipe_text, trace_text, entries_of_all, overrun_of_all}
use Rattle.record_text.specs.TraceText.{trace_head}
use Rattle.trace_command.specs.Requests.{Request}
use Rattle.trace_command.specs.declared.command.Config.{Config}
use Rattle.tracer_specification.specs.FileTexts.{shown_pipe, shown_trace}
use Rattle.tracer_specification.specs.Rings.{rings, rings_of_side}
use Rattle.tracer_specification.specs.Settings.{declared_events, now_of}
use Rattle.tracer_specification.specs.Snapshots.{live_side}
use Rattle.history_laws.specs.OneOrder.{OrdersAreOne, TimesRise, KeptTimesRise, PipesReadTheTrace, ReadsTheTrace, ShowsOneOrder, TraceAndPipeShowOneOrder, EachCpuKeepsItsOrder, trace_records}
use Rattle.history_laws.specs.ReadOnce.{read_from_side}
use Rattle.history_laws.proofs.CpuSums.{length-merged}
use Rattle.history_laws.proofs.MergedReads.{IsUp, all_from-kept, taken_in_order-merged}
use Rattle.history_laws.proofs.ReadTimes.{read_time, ring_times}
use Rattle.history_laws.proofs.RingSteps.{AreConsumed}
use Rattle.history_laws.proofs.RisingReads.{side-rises}
use Rattle.history_laws.proofs.RisingTimes.{Rises, pairs-rise, rises-lower}

-- ---- timestamps of a ring

rises-last : (low high : ℕ) (ts more : List ℕ) → Rises low high (ts ++ more) → Rises low high more
rises-last low high [] more h = h
rises-last low high (t ∷ ts) more h =
    let above : low < t = h.0 in
    rises-lower t low high more (omega (arith, above)) (rises-last t high ts more h.2)

-- those that a ring of a side keeps
kept-rise : AreConsumed → (g : Config) (past : List Request) (instance : Option (List ℕ)) (side cpu : ℕ) → length past < 2 ^ 64
    → Rises 0 (now_of past) (ring_times g cpu (rings_of_side g instance side past))
kept-rise consumed g past instance side cpu few =
    rises-last 0 (now_of past) (map read_time (read_from_side g instance side cpu past)) (ring_times g cpu (rings_of_side g instance side past))
    (side-rises consumed g past instance side cpu few)

times-rise : AreConsumed → (g : Config) (past : List Request) (instance : Option (List ℕ)) (side cpu : ℕ) → length past < 2 ^ 64
    → TimesRise (cpu_readings g.pages g.page_bytes (rings_of_side g instance side past) cpu)
times-rise consumed g past instance side cpu few =
    pairs-rise (λ (r : Reading). timestamp r.rec) 0 (now_of past) (cpu_readings g.pages g.page_bytes (rings_of_side g instance side past) cpu)
    (kept-rise consumed g past instance side cpu few)

pub kept_times_rise : AreConsumed → KeptTimesRise
kept_times_rise consumed g past instance cpu few = (
  times-rise consumed g past instance (live_side instance past) cpu few,
  times-rise consumed g past instance (1 - live_side instance past) cpu few,
)

-- ---- the order of reads

from-time : (low high least : ℕ) (readings : List Reading) → least ≤ low → Rises low high (map (λ (r : Reading). timestamp r.rec) readings)
    → AllByRecursion (λ (s : Reading). least ≤ timestamp s.rec) readings
from-time low high least [] le h = tt
from-time low high least (r ∷ rest) le h =
    let above : low < timestamp r.rec = h.0 in
    (omega (arith, above, le), from-time (timestamp r.rec) high least rest (omega (arith, above, le)) h.2)

up-rising : (low high : ℕ) (readings : List Reading) → Rises low high (map (λ (r : Reading). timestamp r.rec) readings) → IsUp readings
up-rising low high [] h = tt
up-rising low high (r ∷ rest) h = (from-time (timestamp r.rec) high (timestamp r.rec) rest (omega arith) h.2, up-rising (timestamp r.rec) high rest h.2)

all-up : (pages page_bytes : ℕ) (family : List (List ring.Event)) → ((cpu : ℕ) → IsUp (readings_of pages page_bytes (events_of family cpu)))
    → AllByRecursion IsUp (map (readings_of pages page_bytes) family)
all-up pages page_bytes [] h = tt
all-up pages page_bytes (events ∷ family) h = (h zero, all-up pages page_bytes family (λ cpu. h (suc cpu)))

rings-up : AreConsumed → (g : Config) (past : List Request) (instance : Option (List ℕ)) → length past < 2 ^ 64
    → AllByRecursion IsUp (map (readings_of g.pages g.page_bytes) (rings g instance past))
rings-up consumed g past instance few =
    let family = rings g instance past in
    all-up g.pages g.page_bytes family
    (λ cpu. up-rising 0 (now_of past) (cpu_readings g.pages g.page_bytes family cpu)
    (kept-rise consumed g past instance (live_side instance past) cpu few))

consumed-merged : ReadingsAreAhead → (pages page_bytes reads : ℕ) (family : List (List ring.Event))
    → AllByRecursion IsUp (map (readings_of pages page_bytes) family)
    → (consume_any pages page_bytes reads family).taken ≡ take reads (merged pages page_bytes family)
unfolding merged
consumed-merged ahead pages page_bytes reads family up =
    sym (taken_in_order-consumed ahead pages page_bytes reads family)
    ∙ taken_in_order-merged reads (map (readings_of pages page_bytes) family) up
    ∙ ap (λ (l : List CpuReading). take reads (by_timestamp l)) (all_from-kept pages page_bytes 0 family)

from-least : (least : ℕ) (readings : List Reading) → AreAtLeast (λ (r : Reading). timestamp r.rec) least readings
    → AllByRecursion (λ (s : Reading). least ≤ timestamp s.rec) readings
from-least least [] h = tt
from-least least (r ∷ rest) h = (h.0, from-least least rest h.1)

up-sorted : (readings : List Reading) → NeverFalls (λ (r : Reading). timestamp r.rec) readings → IsUp readings
up-sorted [] h = tt
up-sorted (r ∷ rest) h = (from-least (timestamp r.rec) rest h.0, up-sorted rest h.1)

pub orders_are_one : ReadingsAreAhead → OrdersAreOne
orders_are_one ahead pages page_bytes reads family rising =
    consumed-merged ahead pages page_bytes reads family
    (all-up pages page_bytes family
    (λ cpu. let kept = cpu_readings pages page_bytes family cpu in
    up-sorted kept (Rises-from_sort (λ (r : Reading). timestamp r.rec) kept (rising cpu))))

reads-the-trace : ReadingsAreAhead → (g : Config) (past : List Request) (instance : Option (List ℕ))
    → AllByRecursion IsUp (map (readings_of g.pages g.page_bytes) (rings g instance past)) → ReadsTheTrace g past instance
reads-the-trace ahead g past instance up =
    let family = rings g instance past in
    let count = kept_count g.pages g.page_bytes family in
    record {
      whole = consumed-merged ahead g.pages g.page_bytes count family up
          ∙ take_all count (merged g.pages g.page_bytes family) (let all = length-merged g.pages g.page_bytes family in omega (arith, all));
      first = λ limit. ap (λ (c : Consumed). c.taken) (consumed-min ahead g.pages g.page_bytes limit family)
          ∙ consumed-merged ahead g.pages g.page_bytes limit family up;
    }

pub pipes_read_the_trace : AreConsumed → ReadingsAreAhead → PipesReadTheTrace
pipes_read_the_trace consumed ahead g past instance few =
    reads-the-trace ahead g past instance (rings-up consumed g past instance few)

-- ---- what the files show

shows-one-order : (g : Config) (past : List Request) (instance : Option (List ℕ)) → ReadsTheTrace g past instance → ShowsOneOrder g past instance
unfolding shown_trace trace_text shown_pipe pipe_text
shows-one-order g past instance reads =
    let family = rings g instance past in
    let entries = entries_of_all g.pages g.page_bytes family in
    record {
      head = trace_head entries (entries + overrun_of_all g.pages g.page_bytes family) (length family);
      trace = refl;
      pipe = ap (flat_map (taken_lines (declared_events past))) reads.whole;
    }

pub trace_and_pipe_show_one_order : AreConsumed → ReadingsAreAhead → TraceAndPipeShowOneOrder
trace_and_pipe_show_one_order consumed ahead g past instance few =
    shows-one-order g past instance (pipes_read_the_trace consumed ahead g past instance few)

own-order : ReadingsAreAhead → (g : Config) (past : List Request) (instance : Option (List ℕ)) (cpu : ℕ) → ReadsTheTrace g past instance
    → filter (λ (r : CpuReading). r.cpu == cpu) (trace_records g instance past) ≡ map (on_cpu cpu) (cpu_readings g.pages g.page_bytes (rings g instance past) cpu)
own-order ahead g past instance cpu reads =
    let family = rings g instance past in
    let count = kept_count g.pages g.page_bytes family in
    let after = consume_any g.pages g.page_bytes count family in
    let of_cpu : List CpuReading → List CpuReading = filter (λ (r : CpuReading). r.cpu == cpu) in
    let none = (reads_take_so_many ahead g.pages g.page_bytes count family).at_end (omega arith) cpu in
    ap of_cpu (sym reads.whole) ∙ sym (append-nil (of_cpu after.taken))
    ∙ ap (λ (rs : List Reading). of_cpu after.taken ++ map (on_cpu cpu) rs) (sym none)
    ∙ sym (reads_consume_what_they_take ahead g.pages g.page_bytes count cpu family)

pub each_cpu_keeps_its_order : AreConsumed → ReadingsAreAhead → EachCpuKeepsItsOrder
each_cpu_keeps_its_order consumed ahead g past instance cpu few =
    own-order ahead g past instance cpu (pipes_read_the_trace consumed ahead g past instance few)
