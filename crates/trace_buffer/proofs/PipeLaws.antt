-- What consuming reads take, and what they leave.
use Rattle.std.proofs.Common.{◌≡◌, ◌≢◌, ℕ, zero, suc, ◌<◌, eqb, inl, inr, List, [], ◌∷◌, ◌++◌, length, map, get_or, take, drop, filter, replicate, slice_get, Some, refl, sym, ap, ◌∙◌, subst, arith}
use Rattle.std.proofs.lemmas.Bool.{cond-true, cond-false, cases_eq, eq-eqb, ne_eqb}
use Rattle.std.proofs.lemmas.List.{get_or-set_same, get_or-set_other, length-map, length-take, map-append, take-append-drop, nil_from_length}
use Rattle.std.proofs.lemmas.List.Sums.{sum_by-cons}
use Rattle.page_ring.specs.Account.{Reading, readings_of, first}
use Rattle.page_ring.specs.Events.{Event, Take}
use Rattle.page_ring.specs.Laws.{ReadingsAreAhead, TakesLeaveTheRest}
use Rattle.trace_buffer.specs.Families.{CpuReading, on_cpu, events_of, with_events, cpu_readings, kept_count}
use Rattle.trace_buffer.specs.Orders.{Candidate, Consumed, next_from, consume_any, after_cpu_reads}
use Rattle.trace_buffer.specs.Laws.{IsEarliest, EachReadTakesEarliest, ReadsConsumeWhatTheyTake, CpuReadsConsumeWhatTheyTake, OtherCpusStay, ReadsTakeSoMany, CpuReadsTakeSoMany}
use Rattle.trace_buffer.proofs.Consumed.{read_on, consume-some, consumed_by_reads, next_is, earliest_from, readings_of-nil, length-taken, kept_count-consumed}

-- a CPU that there isn't has no records
pub get_or-all_readings : (pages page_bytes : ℕ) (family : List (List Event)) (cpu : ℕ)
    → get_or (map (readings_of pages page_bytes) family) cpu [] ≡ cpu_readings pages page_bytes family cpu
get_or-all_readings pages page_bytes [] cpu = sym (readings_of-nil pages page_bytes)
get_or-all_readings pages page_bytes (events ∷ family) zero = refl
get_or-all_readings pages page_bytes (events ∷ family) (suc cpu) = get_or-all_readings pages page_bytes family cpu

-- ---- the earliest record

next_is_earliest : (pages page_bytes : ℕ) (family : List (List Event)) (c : Candidate) → next_from pages page_bytes 0 family ≡ Some c
    → IsEarliest pages page_bytes family (on_cpu c.cpu c.first)
next_is_earliest pages page_bytes family c e =
    let found = earliest_from pages page_bytes family c e in
    let place : c.cpu ≡ found.place = omega (arith, found.cpu) in
    record {
      begins = (next_is pages page_bytes family c e).begins;
      none_earlier = λ cpu r h. found.others cpu r (ap first (get_or-all_readings pages page_bytes family cpu) ∙ h);
      lower_later = λ cpu r l h. found.lower cpu r (omega (arith, place, l)) (ap first (get_or-all_readings pages page_bytes family cpu) ∙ h);
    }

pub each_read_takes_the_earliest : EachReadTakesEarliest
each_read_takes_the_earliest pages page_bytes reads i family t =
    consumed_by_reads pages page_bytes
    (λ n before after. (i : ℕ) (t : CpuReading) → slice_get after.taken i ≡ Some t
    → IsEarliest pages page_bytes (consume_any pages page_bytes i before).family t)
    (λ before i t h. cc)
    (λ n before e i t h. cc)
    (λ n before c e rest. later n before c e rest)
    reads family i t
  where
    later : (n : ℕ) (before : List (List Event)) (c : Candidate) → next_from pages page_bytes 0 before ≡ Some c
        → ((i : ℕ) (t : CpuReading) → slice_get (consume_any pages page_bytes n (read_on c.cpu before)).taken i ≡ Some t
        → IsEarliest pages page_bytes (consume_any pages page_bytes i (read_on c.cpu before)).family t)
        → (i : ℕ) (t : CpuReading)
        → slice_get (on_cpu c.cpu c.first ∷ (consume_any pages page_bytes n (read_on c.cpu before)).taken) i ≡ Some t
        → IsEarliest pages page_bytes (consume_any pages page_bytes i before).family t
    later n before c e rest zero t h =
        let same : on_cpu c.cpu c.first ≡ t = cc in
        subst (IsEarliest pages page_bytes before) same (next_is_earliest pages page_bytes before c e)
    later n before c e rest (suc i) t h =
        subst (λ (r : Consumed). IsEarliest pages page_bytes r.family t) (sym (consume-some pages page_bytes i before c e)) (rest i t h)

-- ---- what is consumed

-- the first of some readings, and the others
first_and_rest : (readings : List Reading) (r : Reading) → first readings ≡ Some r → readings ≡ r ∷ drop 1 readings
first_and_rest [] r e = cc
first_and_rest (s ∷ rest) r e = let same : s ≡ r = cc in ap (λ (x : Reading). x ∷ rest) same

pub events_of-with_events : (cpu : ℕ) (more : List Event) (family : List (List Event)) → cpu < length family
    → events_of (with_events cpu more family) cpu ≡ events_of family cpu ++ more
events_of-with_events cpu more family inside = get_or-set_same family cpu (events_of family cpu ++ more) [] inside

pub events_of-other : (cpu other : ℕ) (more : List Event) (family : List (List Event)) → other ≢ cpu
    → events_of (with_events cpu more family) other ≡ events_of family other
events_of-other cpu other more family ne = get_or-set_other family cpu other (events_of family cpu ++ more) [] ne

pub reads_consume_what_they_take : ReadingsAreAhead → ReadsConsumeWhatTheyTake
reads_consume_what_they_take ahead pages page_bytes reads cpu family =
    consumed_by_reads pages page_bytes
    (λ n before after. map (on_cpu cpu) (cpu_readings pages page_bytes before cpu)
    ≡ filter (λ t. eqb t.cpu cpu) after.taken ++ map (on_cpu cpu) (cpu_readings pages page_bytes after.family cpu))
    (λ before. refl)
    (λ n before e. refl)
    (λ n before c e rest. one_more n before c e rest)
    reads family
  where
    one_more : (n : ℕ) (before : List (List Event)) (c : Candidate) → next_from pages page_bytes 0 before ≡ Some c
        → map (on_cpu cpu) (cpu_readings pages page_bytes (read_on c.cpu before) cpu)
        ≡ filter (λ t. eqb t.cpu cpu) (consume_any pages page_bytes n (read_on c.cpu before)).taken
        ++ map (on_cpu cpu) (cpu_readings pages page_bytes (consume_any pages page_bytes n (read_on c.cpu before)).family cpu)
        → map (on_cpu cpu) (cpu_readings pages page_bytes before cpu)
        ≡ filter (λ t. eqb t.cpu cpu) (on_cpu c.cpu c.first ∷ (consume_any pages page_bytes n (read_on c.cpu before)).taken)
        ++ map (on_cpu cpu) (cpu_readings pages page_bytes (consume_any pages page_bytes n (read_on c.cpu before)).family cpu)
    one_more n before c e rest =
        let after = consume_any pages page_bytes n (read_on c.cpu before) in
        let left = map (on_cpu cpu) (cpu_readings pages page_bytes after.family cpu) in
        let others = filter (λ (t : CpuReading). eqb t.cpu cpu) after.taken in
        let next = next_is pages page_bytes before c e in
        elim (cases_eq c.cpu cpu) [
          | inl same ↦
              let inside : cpu < length before = omega (arith, same, next.inside) in
              let left_is : cpu_readings pages page_bytes (read_on c.cpu before) cpu ≡ drop 1 (cpu_readings pages page_bytes before cpu)
              = ap (λ (k : ℕ). cpu_readings pages page_bytes (read_on k before) cpu) same
              ∙ ap (readings_of pages page_bytes) (events_of-with_events cpu (Take ∷ []) before inside)
              ∙ ahead pages page_bytes (events_of before cpu) in
              let begins : first (cpu_readings pages page_bytes before cpu) ≡ Some c.first
              = ap (λ (k : ℕ). first (cpu_readings pages page_bytes before k)) (sym same) ∙ next.begins in
              ap (map (on_cpu cpu)) (first_and_rest (cpu_readings pages page_bytes before cpu) c.first begins)
              ∙ ap (λ (rs : List Reading). on_cpu cpu c.first ∷ map (on_cpu cpu) rs) (sym left_is)
              ∙ ap (λ (l : List CpuReading). on_cpu cpu c.first ∷ l) rest
              ∙ ap (λ (k : ℕ). (on_cpu k c.first ∷ others) ++ left) (sym same)
              ∙ ap (λ (l : List CpuReading). l ++ left) (sym (cond-true _ (on_cpu c.cpu c.first ∷ others) others (eq-eqb c.cpu cpu same)))
          | inr apart ↦
              ap (λ (events : List Event). map (on_cpu cpu) (readings_of pages page_bytes events))
              (sym (events_of-other c.cpu cpu (Take ∷ []) before (λ s. apart (sym s))))
              ∙ rest
              ∙ ap (λ (l : List CpuReading). l ++ left) (sym (cond-false _ (on_cpu c.cpu c.first ∷ others) others (ne_eqb c.cpu cpu apart)))
        ]

pub cpu_reads_consume_what_they_take : TakesLeaveTheRest → CpuReadsConsumeWhatTheyTake
cpu_reads_consume_what_they_take rest pages page_bytes cpu reads family inside =
    let readings = cpu_readings pages page_bytes family cpu in
    let left : cpu_readings pages page_bytes (after_cpu_reads cpu reads family) cpu ≡ drop reads readings
    = ap (readings_of pages page_bytes) (events_of-with_events cpu (replicate reads Take) family inside)
    ∙ rest pages page_bytes (events_of family cpu) reads in
    ap (map (on_cpu cpu)) (sym (take-append-drop reads readings)) ∙ map-append (on_cpu cpu) (take reads readings) (drop reads readings)
    ∙ ap (λ (rs : List Reading). map (on_cpu cpu) (take reads readings) ++ map (on_cpu cpu) rs) (sym left)

pub other_cpus_stay : OtherCpusStay
other_cpus_stay cpu other reads family ne = events_of-other cpu other (replicate reads Take) family ne

-- ---- how many

-- with none kept by all, none is kept by one
none_of_one : (pages page_bytes : ℕ) (family : List (List Event)) (cpu : ℕ) → kept_count pages page_bytes family ≡ 0
    → cpu_readings pages page_bytes family cpu ≡ []
none_of_one pages page_bytes [] cpu e = readings_of-nil pages page_bytes
none_of_one pages page_bytes (events ∷ family) zero e =
    let sum = sum_by-cons (λ (es : List Event). length (readings_of pages page_bytes es)) events family in
    nil_from_length (readings_of pages page_bytes events) (omega (arith, sum, e))
none_of_one pages page_bytes (events ∷ family) (suc cpu) e =
    let sum = sum_by-cons (λ (es : List Event). length (readings_of pages page_bytes es)) events family in
    none_of_one pages page_bytes family cpu (omega (arith, sum, e))

pub reads_take_so_many : ReadingsAreAhead → ReadsTakeSoMany
reads_take_so_many ahead pages page_bytes reads family = record {
  taken = length-taken ahead pages page_bytes reads family;
  left = kept_count-consumed ahead pages page_bytes reads family;
  at_end = λ enough cpu. none_of_one pages page_bytes (consume_any pages page_bytes reads family).family cpu
      (omega (arith, enough, kept_count-consumed ahead pages page_bytes reads family));
}

pub cpu_reads_take_so_many : CpuReadsTakeSoMany
cpu_reads_take_so_many pages page_bytes cpu reads family =
    length-map (take reads (cpu_readings pages page_bytes family cpu)) (on_cpu cpu)
    ∙ length-take reads (cpu_readings pages page_bytes family cpu)
