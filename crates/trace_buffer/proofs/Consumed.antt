-- Consuming reads of all CPUs, one after another.
use Rattle.std.proofs.Common.{◌≡◌, ℕ, zero, suc, ◌+◌, ◌-◌, ◌<◌, ◌≤◌, min, inl, inr, List, [], ◌∷◌, ◌++◌, length, map, get_or, set, drop, Option, Some, None, refl, sym, ap, ◌∙◌, subst, arith, replicate, add-one}
use Rattle.std.proofs.lemmas.List.{map-set, get_or-map, length-map}
use Rattle.std.proofs.lemmas.List.Sums.{sum_by-set, sum_by-cons}
use Rattle.page_ring.specs.Account.{Reading, account, readings_of, first}
use Rattle.page_ring.specs.Cut.{cut}
use Rattle.page_ring.specs.Events.{Event, Take}
use Rattle.page_ring.specs.Laws.{ReadingsAreAhead}
use Rattle.trace_buffer.specs.Families.{CpuReading, on_cpu, events_of, with_events, cpu_readings, kept_count}
use Rattle.trace_buffer.specs.Orders.{Candidate, Consumed, with_taken, next_from, consume_any}
use Rattle.trace_buffer.specs.private.Nexts.{next_of, without_first_of, taken_in_order}
use Rattle.trace_buffer.specs.declared.times.Next.{Next}
use Rattle.trace_buffer.proofs.NextReads.{cases_Option, candidate_of-map, candidate_of-none, IsEarliestOf, earliest, next_of-none, next_of-some, first_length, taken_in_order-none, taken_in_order-some}

abbrev pub nothing_taken : List (List Event) → Consumed
nothing_taken family = record { taken = []; family = family }

-- the family after a read of a CPU
abbrev pub read_on : ℕ → List (List Event) → List (List Event)
read_on cpu family = with_events cpu (Take ∷ []) family

pub consume-none : (pages page_bytes reads : ℕ) (family : List (List Event)) → next_from pages page_bytes 0 family ≡ None
    → consume_any pages page_bytes reads family ≡ nothing_taken family
consume-none pages page_bytes zero family e = refl
consume-none pages page_bytes (suc reads) family e =
    ap (λ (o : Option Candidate). elim o [
      | None ↦ nothing_taken family
      | Some c ↦ with_taken (on_cpu c.cpu c.first) (consume_any pages page_bytes reads (read_on c.cpu family))
    ]) e

pub consume-some : (pages page_bytes reads : ℕ) (family : List (List Event)) (c : Candidate) → next_from pages page_bytes 0 family ≡ Some c
    → consume_any pages page_bytes (suc reads) family
    ≡ with_taken (on_cpu c.cpu c.first) (consume_any pages page_bytes reads (read_on c.cpu family))
consume-some pages page_bytes reads family c e =
    ap (λ (o : Option Candidate). elim o [
      | None ↦ nothing_taken family
      | Some c ↦ with_taken (on_cpu c.cpu c.first) (consume_any pages page_bytes reads (read_on c.cpu family))
    ]) e

-- what holds of no reads, of reads with nothing kept, and is kept by one read more, holds of all reads
pub consumed_by_reads : (pages page_bytes : ℕ) (P : ℕ → List (List Event) → Consumed → Type 0)
    → ((family : List (List Event)) → P 0 family (nothing_taken family))
    → ((reads : ℕ) (family : List (List Event)) → next_from pages page_bytes 0 family ≡ None → P (suc reads) family (nothing_taken family))
    → ((reads : ℕ) (family : List (List Event)) (c : Candidate) → next_from pages page_bytes 0 family ≡ Some c
    → P reads (read_on c.cpu family) (consume_any pages page_bytes reads (read_on c.cpu family))
    → P (suc reads) family (with_taken (on_cpu c.cpu c.first) (consume_any pages page_bytes reads (read_on c.cpu family))))
    → (reads : ℕ) (family : List (List Event)) → P reads family (consume_any pages page_bytes reads family)
consumed_by_reads pages page_bytes P none over more zero family = none family
consumed_by_reads pages page_bytes P none over more (suc reads) family =
    elim (cases_Option (next_from pages page_bytes 0 family)) [
      | inl e ↦ subst (P (suc reads) family) (sym (consume-none pages page_bytes (suc reads) family e)) (over reads family e)
      | inr found ↦
          subst (P (suc reads) family) (sym (consume-some pages page_bytes reads family found.0 found.1))
          (more reads family found.0 found.1 (consumed_by_reads pages page_bytes P none over more reads (read_on found.0.cpu family)))
    ]

-- ---- one read

-- the read of the earliest record: it is the first that its CPU's ring keeps
pub record IsNext (pages page_bytes : ℕ) (family : List (List Event)) (c : Candidate) : Type 0 where
  pub inside : c.cpu < length family
  pub begins : first (cpu_readings pages page_bytes family c.cpu) ≡ Some c.first

-- a new ring keeps no record
pub readings_of-nil : (pages page_bytes : ℕ) → readings_of pages page_bytes [] ≡ []
unfolding readings_of account cut
readings_of-nil pages page_bytes = refl

-- a CPU's readings among those of all
pub get_or-readings : (pages page_bytes : ℕ) (family : List (List Event)) (cpu : ℕ) → cpu < length family
    → get_or (map (readings_of pages page_bytes) family) cpu [] ≡ cpu_readings pages page_bytes family cpu
get_or-readings pages page_bytes family cpu inside = get_or-map (readings_of pages page_bytes) family cpu [] [] inside

pub earliest_from : (pages page_bytes : ℕ) (family : List (List Event)) (c : Candidate) → next_from pages page_bytes 0 family ≡ Some c
    → IsEarliestOf 0 (map (readings_of pages page_bytes) family) c
earliest_from pages page_bytes family c e =
    earliest 0 (map (readings_of pages page_bytes) family) c (candidate_of-map pages page_bytes 0 family ∙ e)

pub next_is : (pages page_bytes : ℕ) (family : List (List Event)) (c : Candidate) → next_from pages page_bytes 0 family ≡ Some c
    → IsNext pages page_bytes family c
next_is pages page_bytes family c e =
    let found = earliest_from pages page_bytes family c e in
    let inside : found.place < length family = omega (arith, found.inside, length-map family (readings_of pages page_bytes)) in
    let at : found.place ≡ c.cpu = omega (arith, found.cpu) in
    record {
      inside = omega (arith, at, inside);
      begins = ap (λ (k : ℕ). first (cpu_readings pages page_bytes family k)) (sym at)
          ∙ ap first (sym (get_or-readings pages page_bytes family found.place inside)) ∙ found.begins;
    }

-- with no next read no ring keeps a record
pub next_none : (pages page_bytes : ℕ) (family : List (List Event)) (cpu : ℕ) → next_from pages page_bytes 0 family ≡ None → cpu < length family
    → cpu_readings pages page_bytes family cpu ≡ []
next_none pages page_bytes family cpu e inside =
    sym (get_or-readings pages page_bytes family cpu inside)
    ∙ candidate_of-none 0 (map (readings_of pages page_bytes) family) cpu (candidate_of-map pages page_bytes 0 family ∙ e)

-- a read leaves the rest of its CPU's records
pub readings-read_on : ReadingsAreAhead → (pages page_bytes : ℕ) (family : List (List Event)) (cpu : ℕ) → cpu < length family
    → map (readings_of pages page_bytes) (read_on cpu family) ≡ without_first_of cpu (map (readings_of pages page_bytes) family)
readings-read_on ahead pages page_bytes family cpu inside =
    map-set (readings_of pages page_bytes) family cpu (events_of family cpu ++ Take ∷ [])
    ∙ ap (set (map (readings_of pages page_bytes) family) cpu)
    (ahead pages page_bytes (events_of family cpu) ∙ ap (drop 1) (sym (get_or-readings pages page_bytes family cpu inside)))

-- ---- how many records are kept

no_records : (pages page_bytes : ℕ) (family : List (List Event)) → ((cpu : ℕ) → cpu < length family → cpu_readings pages page_bytes family cpu ≡ [])
    → kept_count pages page_bytes family ≡ 0
no_records pages page_bytes [] h = refl
no_records pages page_bytes (events ∷ family) h =
    let first_list : length (readings_of pages page_bytes events) ≡ 0 = ap length (h zero (omega arith)) in
    let rest = no_records pages page_bytes family (λ cpu inside. h (suc cpu) (omega arith)) in
    let sum : length (readings_of pages page_bytes events) + kept_count pages page_bytes family ≡ 0 = omega (arith, first_list, rest) in
    sum_by-cons (λ (es : List Event). length (readings_of pages page_bytes es)) events family ∙ sum

pub kept_count-none : (pages page_bytes : ℕ) (family : List (List Event)) → next_from pages page_bytes 0 family ≡ None
    → kept_count pages page_bytes family ≡ 0
kept_count-none pages page_bytes family e = no_records pages page_bytes family (λ cpu inside. next_none pages page_bytes family cpu e inside)

some_length : (readings : List Reading) (r : Reading) → first readings ≡ Some r → length (drop 1 readings) + 1 ≡ length readings
some_length [] r e = cc
some_length (s ∷ rest) r e = omega arith

pub kept_count-read_on : ReadingsAreAhead → (pages page_bytes : ℕ) (family : List (List Event)) (c : Candidate)
    → next_from pages page_bytes 0 family ≡ Some c → kept_count pages page_bytes (read_on c.cpu family) + 1 ≡ kept_count pages page_bytes family
kept_count-read_on ahead pages page_bytes family c e =
    let next = next_is pages page_bytes family c e in
    let moved = sum_by-set (λ (events : List Event). length (readings_of pages page_bytes events)) family c.cpu
    (events_of family c.cpu ++ Take ∷ []) [] next.inside in
    let left = ap length (ahead pages page_bytes (events_of family c.cpu)) in
    let one = some_length (cpu_readings pages page_bytes family c.cpu) c.first next.begins in
    omega (arith, moved, left, one)

-- ---- so many reads

-- so many reads leave so many records fewer
pub kept_count-consumed : ReadingsAreAhead → (pages page_bytes reads : ℕ) (family : List (List Event))
    → kept_count pages page_bytes (consume_any pages page_bytes reads family).family ≡ kept_count pages page_bytes family - reads
kept_count-consumed ahead pages page_bytes reads family =
    consumed_by_reads pages page_bytes (λ n before after. kept_count pages page_bytes after.family ≡ kept_count pages page_bytes before - n)
    (λ before. omega arith)
    (λ n before e. let none = kept_count-none pages page_bytes before e in omega (arith, none))
    (λ n before c e rest. let one = kept_count-read_on ahead pages page_bytes before c e in omega (arith, one, rest))
    reads family

-- and take so many, or as many as there are
pub length-taken : ReadingsAreAhead → (pages page_bytes reads : ℕ) (family : List (List Event))
    → length (consume_any pages page_bytes reads family).taken ≡ min reads (kept_count pages page_bytes family)
length-taken ahead pages page_bytes reads family =
    consumed_by_reads pages page_bytes (λ n before after. length after.taken ≡ min n (kept_count pages page_bytes before))
    (λ before. let e : 0 ≡ min 0 (kept_count pages page_bytes before) = omega arith in e)
    (λ n before e. let none = kept_count-none pages page_bytes before e in
    let e : 0 ≡ min (suc n) (kept_count pages page_bytes before) = omega (arith, none) in e)
    (λ n before c e rest. let one = kept_count-read_on ahead pages page_bytes before c e in
    let after = consume_any pages page_bytes n (read_on c.cpu before) in
    let e : suc (length after.taken) ≡ min (suc n) (kept_count pages page_bytes before) = omega (arith, one, rest) in e)
    reads family

-- one read more
pub consumed-more : (pages page_bytes reads : ℕ) (family : List (List Event))
    → (consume_any pages page_bytes (suc reads) family).family
    ≡ (consume_any pages page_bytes 1 (consume_any pages page_bytes reads family).family).family
consumed-more pages page_bytes reads family =
    consumed_by_reads pages page_bytes
    (λ n before after. (consume_any pages page_bytes (suc n) before).family ≡ (consume_any pages page_bytes 1 after.family).family)
    (λ before. refl)
    (λ n before e. ap (λ (r : Consumed). r.family) (consume-none pages page_bytes (suc (suc n)) before e ∙ sym (consume-none pages page_bytes 1 before e)))
    (λ n before c e rest. ap (λ (r : Consumed). r.family) (consume-some pages page_bytes (suc n) before c e) ∙ rest)
    reads family

-- reads beyond the last record take nothing
pub consumed-min : ReadingsAreAhead → (pages page_bytes reads : ℕ) (family : List (List Event))
    → consume_any pages page_bytes (min reads (kept_count pages page_bytes family)) family ≡ consume_any pages page_bytes reads family
consumed-min ahead pages page_bytes reads family =
    consumed_by_reads pages page_bytes (λ n before after. consume_any pages page_bytes (min n (kept_count pages page_bytes before)) before ≡ after)
    (λ before. let e : min 0 (kept_count pages page_bytes before) ≡ 0 = omega arith in ap (λ (n : ℕ). consume_any pages page_bytes n before) e)
    (λ n before e. consume-none pages page_bytes (min (suc n) (kept_count pages page_bytes before)) before e)
    (λ n before c e rest.
    let one = kept_count-read_on ahead pages page_bytes before c e in
    let m = min n (kept_count pages page_bytes (read_on c.cpu before)) in
    let count : min (suc n) (kept_count pages page_bytes before) ≡ suc m = omega (arith, one) in
    ap (λ (k : ℕ). consume_any pages page_bytes k before) count ∙ consume-some pages page_bytes m before c e
    ∙ ap (with_taken (on_cpu c.cpu c.first)) rest)
    reads family

-- what reads of the lists of readings take
pub taken_in_order-consumed : ReadingsAreAhead → (pages page_bytes reads : ℕ) (family : List (List Event))
    → taken_in_order reads (map (readings_of pages page_bytes) family) ≡ (consume_any pages page_bytes reads family).taken
taken_in_order-consumed ahead pages page_bytes reads family =
    consumed_by_reads pages page_bytes (λ n before after. taken_in_order n (map (readings_of pages page_bytes) before) ≡ after.taken)
    (λ before. refl)
    (λ n before e. taken_in_order-none (suc n) (map (readings_of pages page_bytes) before) (candidate_of-map pages page_bytes 0 before ∙ e))
    (λ n before c e rest.
    taken_in_order-some n (map (readings_of pages page_bytes) before) c (candidate_of-map pages page_bytes 0 before ∙ e)
    ∙ ap (λ (lists : List (List Reading)). on_cpu c.cpu c.first ∷ taken_in_order n lists)
    (sym (readings-read_on ahead pages page_bytes before c.cpu (next_is pages page_bytes before c e).inside))
    ∙ ap (λ (l : List CpuReading). on_cpu c.cpu c.first ∷ l) rest)
    reads family

-- ---- the loop of `take_any`, whose ring sizes p and b are those that the buffer had

pub none_next : ReadingsAreAhead → (pages page_bytes p b reads : ℕ) (family : List (List Event)) (result : Option Next) → p ≡ pages → b ≡ page_bytes
    → result ≡ next_of 0 (map (readings_of p b) (consume_any pages page_bytes reads family).family) → result ≡ None
    → kept_count pages page_bytes family ≤ reads
none_next ahead pages page_bytes p b reads family result e f is none =
    let after = (consume_any pages page_bytes reads family).family in
    let lists = map (readings_of pages page_bytes) after in
    let next : result ≡ next_of 0 lists =
    is ∙ ap (λ (q : ℕ). next_of 0 (map (readings_of q b) after)) e ∙ ap (λ (q : ℕ). next_of 0 (map (readings_of pages q) after)) f in
    let nothing = next_of-none lists (sym next ∙ none) in
    let left = kept_count-none pages page_bytes after (sym (candidate_of-map pages page_bytes 0 after) ∙ nothing) in
    omega (arith, left, kept_count-consumed ahead pages page_bytes reads family)

pub record IsOneMore (pages page_bytes reads : ℕ) (family : List (List Event)) (cpu : ℕ) (count : ℕ) : Type 0 where
  pub fewer : reads < kept_count pages page_bytes family
  pub after : (consume_any pages page_bytes (reads + 1) family).family
      ≡ with_events cpu (replicate count Take) (consume_any pages page_bytes reads family).family

pub some_next : ReadingsAreAhead → (pages page_bytes p b reads : ℕ) (family : List (List Event)) (result : Option Next) (next : Next) → p ≡ pages
    → b ≡ page_bytes → result ≡ next_of 0 (map (readings_of p b) (consume_any pages page_bytes reads family).family) → result ≡ Some next
    → IsOneMore pages page_bytes reads family next.cpu
    (min 1 (length (cpu_readings p b (consume_any pages page_bytes reads family).family next.cpu)))
some_next ahead pages page_bytes p b reads family result next e f is some =
    let after = (consume_any pages page_bytes reads family).family in
    let lists = map (readings_of pages page_bytes) after in
    let next_is' : result ≡ next_of 0 lists =
    is ∙ ap (λ (q : ℕ). next_of 0 (map (readings_of q b) after)) e ∙ ap (λ (q : ℕ). next_of 0 (map (readings_of pages q) after)) f in
    let found = next_of-some lists next (sym next_is' ∙ some) in
    let c = found.candidate in
    let from : next_from pages page_bytes 0 after ≡ Some c = sym (candidate_of-map pages page_bytes 0 after) ∙ found.is in
    let inside : next.cpu < length after = omega (arith, found.inside, length-map after (readings_of pages page_bytes)) in
    let readings : cpu_readings p b after next.cpu ≡ get_or lists next.cpu [] =
    ap (λ (q : ℕ). readings_of q b (events_of after next.cpu)) e ∙ ap (λ (q : ℕ). readings_of pages q (events_of after next.cpu)) f
    ∙ sym (get_or-readings pages page_bytes after next.cpu inside) in
    let some_reading = first_length (get_or lists next.cpu []) c.first found.begins in
    let one : min 1 (length (cpu_readings p b after next.cpu)) ≡ 1 = omega (arith, some_reading, ap length readings) in
    let less = kept_count-read_on ahead pages page_bytes after c from in
    record {
      fewer = omega (arith, less, kept_count-consumed ahead pages page_bytes reads family);
      after = ap (λ (n : ℕ). (consume_any pages page_bytes n family).family) (add-one reads) ∙ consumed-more pages page_bytes reads family
          ∙ ap (λ (r : Consumed). r.family) (consume-some pages page_bytes 0 after c from)
          ∙ ap (λ (cpu : ℕ). read_on cpu after) found.cpu
          ∙ ap (λ (n : ℕ). with_events next.cpu (replicate n Take) after) (sym one);
    }
