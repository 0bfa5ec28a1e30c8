-- So many consuming reads of each CPU.
use Rattle.std.proofs.Common.{◌≡◌, ℕ, zero, suc, ◌+◌, ◌<◌, ◌≤◌, eqb, min, inl, inr, List, [], ◌∷◌, ◌++◌, length, map, get_or, set, take, filter, replicate, refl, sym, ap, ◌∙◌, arith, length-set}
use Rattle.std.proofs.lemmas.Bool.{cond-true, cond-false, cases_eq, eq-eqb, ne_eqb}
use Rattle.std.proofs.lemmas.List.{append-nil, append_assoc, ext_get_or, get_or-set_other, get_or-set_same, length-append, length-map, length-take, map_push, take_all, take_more}
use Rattle.std.proofs.lemmas.List.Elements.{filter-append}
use Rattle.page_ring.specs.Account.{readings_of}
use Rattle.page_ring.specs.Events.{Event, Take}
use Rattle.page_ring.specs.Laws.{ReadingsAreAhead}
use Rattle.trace_buffer.specs.CpuReadings.{taken_reading}
use Rattle.trace_buffer.specs.Families.{CpuReading, on_cpu, events_of, cpu_readings}
use Rattle.trace_buffer.specs.Laws.{ReadsOfEachLeaveTheSame}
use Rattle.trace_buffer.specs.Orders.{Candidate, consume_any, after_cpu_reads}
use Rattle.trace_buffer.specs.CpuCounts.{after_reads_of_each, count_of}
use Rattle.trace_buffer.specs.declared.taken.Taken.{Taken}
use Rattle.trace_buffer.proofs.Consumed.{read_on, consumed_by_reads}
use Rattle.trace_buffer.proofs.PipeLaws.{events_of-with_events, events_of-other, reads_consume_what_they_take}

-- ---- the counts of some records

-- one record more
pub count_of-same : (cpu : ℕ) (r : CpuReading) (records : List CpuReading) → r.cpu ≡ cpu → count_of cpu (r ∷ records) ≡ suc (count_of cpu records)
count_of-same cpu r records same =
    let others = filter (λ (t : CpuReading). eqb t.cpu cpu) records in
    ap length (cond-true _ (r ∷ others) others (eq-eqb r.cpu cpu same))

pub count_of-other : (cpu : ℕ) (r : CpuReading) (records : List CpuReading) → (r.cpu ≡ cpu → ⊥) → count_of cpu (r ∷ records) ≡ count_of cpu records
count_of-other cpu r records apart =
    let others = filter (λ (t : CpuReading). eqb t.cpu cpu) records in
    ap length (cond-false _ (r ∷ others) others (ne_eqb r.cpu cpu apart))

-- ---- the events of each CPU

-- after so many reads of each
events_of-each : (pages page_bytes : ℕ) (counts : List ℕ) (family : List (List Event)) (cpu : ℕ) → cpu < length family
    → events_of (after_reads_of_each pages page_bytes counts family) cpu
    ≡ events_of family cpu ++ replicate (min (get_or counts cpu 0) (length (cpu_readings pages page_bytes family cpu))) Take
events_of-each pages page_bytes [] family cpu inside =
    let none : min 0 (length (cpu_readings pages page_bytes family cpu)) ≡ 0 = omega arith in
    sym (append-nil (events_of family cpu)) ∙ ap (λ (n : ℕ). events_of family cpu ++ replicate n Take) (sym none)
events_of-each pages page_bytes (count ∷ counts) [] cpu inside = absurd (omega arith)
events_of-each pages page_bytes (count ∷ counts) (events ∷ family) zero inside = refl
events_of-each pages page_bytes (count ∷ counts) (events ∷ family) (suc cpu) inside =
    events_of-each pages page_bytes counts family cpu (omega arith)

length-each : (pages page_bytes : ℕ) (counts : List ℕ) (family : List (List Event))
    → length (after_reads_of_each pages page_bytes counts family) ≡ length family
length-each pages page_bytes [] family = refl
length-each pages page_bytes (count ∷ counts) [] = refl
length-each pages page_bytes (count ∷ counts) (events ∷ family) = ap suc (length-each pages page_bytes counts family)

-- after so many reads of all
length-consumed : (pages page_bytes reads : ℕ) (family : List (List Event)) → length (consume_any pages page_bytes reads family).family ≡ length family
length-consumed pages page_bytes reads family =
    consumed_by_reads pages page_bytes (λ n before after. length after.family ≡ length before)
    (λ before. refl)
    (λ n before e. refl)
    (λ n before c e rest. rest ∙ length-set before c.cpu (events_of before c.cpu ++ Take ∷ []))
    reads family

events_of-consumed : (pages page_bytes reads : ℕ) (family : List (List Event)) (cpu : ℕ) → cpu < length family
    → events_of (consume_any pages page_bytes reads family).family cpu
    ≡ events_of family cpu ++ replicate (count_of cpu (consume_any pages page_bytes reads family).taken) Take
events_of-consumed pages page_bytes reads family cpu =
    consumed_by_reads pages page_bytes
    (λ n before after. cpu < length before
    → events_of after.family cpu ≡ events_of before cpu ++ replicate (count_of cpu after.taken) Take)
    (λ before inside. sym (append-nil (events_of before cpu)))
    (λ n before e inside. sym (append-nil (events_of before cpu)))
    (λ n before c e rest. one_more n before c rest)
    reads family
  where
    one_more : (n : ℕ) (before : List (List Event)) (c : Candidate)
        → (cpu < length (read_on c.cpu before) → events_of (consume_any pages page_bytes n (read_on c.cpu before)).family cpu
        ≡ events_of (read_on c.cpu before) cpu ++ replicate (count_of cpu (consume_any pages page_bytes n (read_on c.cpu before)).taken) Take)
        → cpu < length before → events_of (consume_any pages page_bytes n (read_on c.cpu before)).family cpu
        ≡ events_of before cpu
        ++ replicate (count_of cpu (on_cpu c.cpu c.first ∷ (consume_any pages page_bytes n (read_on c.cpu before)).taken)) Take
    one_more n before c rest inside =
        let taken = (consume_any pages page_bytes n (read_on c.cpu before)).taken in
        let then = rest (omega (arith, inside, length-set before c.cpu (events_of before c.cpu ++ Take ∷ []))) in
        elim (cases_eq c.cpu cpu) [
          | inl same ↦
              then
              ∙ ap (λ (k : ℕ). events_of (read_on k before) cpu ++ replicate (count_of cpu taken) Take) same
              ∙ ap (λ (events : List Event). events ++ replicate (count_of cpu taken) Take) (events_of-with_events cpu (Take ∷ []) before inside)
              ∙ append_assoc (events_of before cpu) (Take ∷ []) (replicate (count_of cpu taken) Take)
              ∙ ap (λ (k : ℕ). events_of before cpu ++ replicate k Take) (sym (count_of-same cpu (on_cpu c.cpu c.first) taken same))
          | inr apart ↦
              then
              ∙ ap (λ (events : List Event). events ++ replicate (count_of cpu taken) Take)
              (events_of-other c.cpu cpu (Take ∷ []) before (λ s. apart (sym s)))
              ∙ ap (λ (k : ℕ). events_of before cpu ++ replicate k Take) (sym (count_of-other cpu (on_cpu c.cpu c.first) taken apart))
        ]

-- reads take of a CPU what its ring keeps at the most
count_of-few : ReadingsAreAhead → (pages page_bytes reads cpu : ℕ) (family : List (List Event))
    → count_of cpu (consume_any pages page_bytes reads family).taken ≤ length (cpu_readings pages page_bytes family cpu)
count_of-few ahead pages page_bytes reads cpu family =
    let after = consume_any pages page_bytes reads family in
    let all = ap length (reads_consume_what_they_take ahead pages page_bytes reads cpu family) in
    let left = map (on_cpu cpu) (cpu_readings pages page_bytes after.family cpu) in
    let sum = length-append (filter (λ (t : CpuReading). eqb t.cpu cpu) after.taken) left in
    let many = length-map (cpu_readings pages page_bytes family cpu) (on_cpu cpu) in
    omega (arith, all, sum, many)

pub reads_of_each_leave_the_same : ReadingsAreAhead → ReadsOfEachLeaveTheSame
reads_of_each_leave_the_same ahead pages page_bytes reads counts family counted =
    let each = after_reads_of_each pages page_bytes counts family in
    let after = consume_any pages page_bytes reads family in
    ext_get_or [] each after.family
    (length-each pages page_bytes counts family ∙ sym (length-consumed pages page_bytes reads family))
    (λ cpu within.
    let inside : cpu < length family = omega (arith, within, length-each pages page_bytes counts family) in
    let count : min (get_or counts cpu 0) (length (cpu_readings pages page_bytes family cpu)) ≡ count_of cpu after.taken
    = omega (arith, counted cpu inside, count_of-few ahead pages page_bytes reads cpu family) in
    events_of-each pages page_bytes counts family cpu inside
    ∙ ap (λ (n : ℕ). events_of family cpu ++ replicate n Take) count
    ∙ sym (events_of-consumed pages page_bytes reads family cpu inside))

-- ---- the loop of `take_each`

-- the reads of one CPU more
pub one_cpu_more : (pages page_bytes : ℕ) (counts : List ℕ) (family : List (List Event)) (cpu : ℕ) → cpu < length counts → cpu < length family
    → let before = after_reads_of_each pages page_bytes (take cpu counts) family in
    after_cpu_reads cpu (min (get_or counts cpu 0) (length (cpu_readings pages page_bytes before cpu))) before
    ≡ after_reads_of_each pages page_bytes (take (suc cpu) counts) family
one_cpu_more pages page_bytes [] family cpu counted inside = absurd (omega arith)
one_cpu_more pages page_bytes (count ∷ counts) [] cpu counted inside = absurd (omega arith)
one_cpu_more pages page_bytes (count ∷ counts) (events ∷ family) zero counted inside = refl
one_cpu_more pages page_bytes (count ∷ counts) (events ∷ family) (suc cpu) counted inside =
    ap (λ (l : List (List Event)). (events ++ replicate (min count (length (readings_of pages page_bytes events))) Take) ∷ l)
    (one_cpu_more pages page_bytes counts family cpu (omega arith) (omega arith))

-- counts of CPUs that there aren't say nothing
pub first_counts : (pages page_bytes : ℕ) (counts : List ℕ) (family : List (List Event)) (cpus : ℕ) → length family ≤ cpus
    → after_reads_of_each pages page_bytes (take cpus counts) family ≡ after_reads_of_each pages page_bytes counts family
first_counts pages page_bytes [] family cpus all = ap (λ (ns : List ℕ). after_reads_of_each pages page_bytes ns family) (take_all cpus [] (omega arith))
first_counts pages page_bytes (count ∷ counts) [] zero all = refl
first_counts pages page_bytes (count ∷ counts) [] (suc cpus) all = refl
first_counts pages page_bytes (count ∷ counts) (events ∷ family) zero all = absurd (omega arith)
first_counts pages page_bytes (count ∷ counts) (events ∷ family) (suc cpus) all =
    ap (λ (l : List (List Event)). (events ++ replicate (min count (length (readings_of pages page_bytes events))) Take) ∷ l)
    (first_counts pages page_bytes counts family cpus (omega arith))

-- ---- the loop of `count_each`

count_of-append : (cpu : ℕ) (records more : List CpuReading) → count_of cpu (records ++ more) ≡ count_of cpu records + count_of cpu more
count_of-append cpu records more =
    let of_cpu = λ (t : CpuReading). eqb t.cpu cpu in
    ap length (filter-append of_cpu records more) ∙ length-append (filter of_cpu records) (filter of_cpu more)

count_of-all : (cpu : ℕ) (records : List CpuReading) → count_of cpu records ≤ length records
count_of-all cpu [] = omega arith
count_of-all cpu (r ∷ records) =
    let all = count_of-all cpu records in
    elim (cases_eq r.cpu cpu) [
      | inl same ↦ omega (arith, all, count_of-same cpu r records same)
      | inr apart ↦ omega (arith, all, count_of-other cpu r records apart)
    ]

-- of the first n records there are n at the most
count_of-first : (cpu n : ℕ) (records : List Taken) → count_of cpu (map taken_reading (take n records)) ≤ n
count_of-first cpu n records =
    let all = count_of-all cpu (map taken_reading (take n records)) in
    omega (arith, all, length-map (take n records) taken_reading, length-take n records)

pub counted_few : (counts : List ℕ) (n : ℕ) (records : List Taken) (cpu : ℕ) → cpu < 8
    → ((cpu : ℕ) → cpu < 8 → get_or counts cpu 0 ≡ count_of cpu (map taken_reading (take n records))) → get_or counts cpu 0 ≤ n
counted_few counts n records cpu below counted = omega (arith, counted cpu below, count_of-first cpu n records)

-- the record after them
pub count_of-next : (cpu n : ℕ) (records : List Taken) (d : Taken) → n < length records
    → count_of cpu (map taken_reading (take (n + 1) records))
    ≡ count_of cpu (map taken_reading (take n records)) + count_of cpu (taken_reading (get_or records n d) ∷ [])
count_of-next cpu n records d inside =
    ap (λ (rs : List Taken). count_of cpu (map taken_reading rs)) (take_more records n d inside)
    ∙ ap (count_of cpu) (map_push taken_reading (take n records) (get_or records n d))
    ∙ count_of-append cpu (map taken_reading (take n records)) (taken_reading (get_or records n d) ∷ [])

-- it is counted where it is of one of the CPUs
pub one_counted : (counts : List ℕ) (n : ℕ) (records : List Taken) (d : Taken) → n < length records → length counts ≡ 8
    → (get_or records n d).cpu < 8
    → ((cpu : ℕ) → cpu < 8 → get_or counts cpu 0 ≡ count_of cpu (map taken_reading (take n records)))
    → (cpu : ℕ) → cpu < 8
    → get_or (set counts (get_or records n d).cpu (get_or counts (get_or records n d).cpu 0 + 1)) cpu 0
    ≡ count_of cpu (map taken_reading (take (n + 1) records))
one_counted counts n records d inside eight there counted cpu below =
    let r = get_or records n d in
    let more = count_of-next cpu n records d inside in
    elim (cases_eq r.cpu cpu) [
      | inl same ↦
          let one = count_of-same cpu (taken_reading r) [] same in
          let here : get_or (set counts cpu (get_or counts cpu 0 + 1)) cpu 0 ≡ get_or counts cpu 0 + 1
          = get_or-set_same counts cpu (get_or counts cpu 0 + 1) 0 (omega (arith, eight, below)) in
          ap (λ (k : ℕ). get_or (set counts k (get_or counts k 0 + 1)) cpu 0) same ∙ here
          ∙ omega (arith, counted cpu below, more, one)
      | inr apart ↦
          let none = count_of-other cpu (taken_reading r) [] apart in
          get_or-set_other counts r.cpu cpu (get_or counts r.cpu 0 + 1) 0 (λ s. apart (sym s))
          ∙ omega (arith, counted cpu below, more, none)
    ]

pub none_counted : (counts : List ℕ) (n : ℕ) (records : List Taken) (d : Taken) → n < length records
    → 8 ≤ (get_or records n d).cpu
    → ((cpu : ℕ) → cpu < 8 → get_or counts cpu 0 ≡ count_of cpu (map taken_reading (take n records)))
    → (cpu : ℕ) → cpu < 8 → get_or counts cpu 0 ≡ count_of cpu (map taken_reading (take (n + 1) records))
none_counted counts n records d inside beyond counted cpu below =
    let r = get_or records n d in
    let apart : r.cpu ≡ cpu → ⊥ = λ same. absurd (omega (arith, beyond, same, below)) in
    omega (arith, counted cpu below, count_of-next cpu n records d inside, count_of-other cpu (taken_reading r) [] apart)
