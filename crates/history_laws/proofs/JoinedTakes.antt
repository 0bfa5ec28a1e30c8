-- So many consuming reads and then others are all of these reads.
use Rattle.std.proofs.Common.{◌≡◌, ℕ, zero, suc, ◌+◌, List, [], ◌∷◌, ◌++◌, map, replicate, take, drop, refl, sym, ap, ◌∙◌, arith}
use Rattle.std.proofs.lemmas.List.{append_assoc, map-append, replicate-append-replicate}
use Rattle.std.proofs.Math.Seq.{take-add, drop-nil}
use Rattle.page_ring.specs.Account.{Reading}
use Rattle.page_ring.specs.Events.{Event, Take}
use Rattle.page_ring.specs.Laws.{TakesLeaveTheRest}
use Rattle.trace_buffer.specs.Families.{on_cpu, with_events, cpu_readings}
use Rattle.trace_buffer.specs.Orders.{Consumed, with_taken, consume_any, after_cpu_reads}
use Rattle.trace_buffer.proofs.Consumed.{nothing_taken, consume-none, consume-some, consumed_by_reads, readings_of-nil}

-- ---- of all CPUs

-- what reads took, and then others of the rings that they left
abbrev pub joined : Consumed → Consumed → Consumed
joined before after = record { taken = before.taken ++ after.taken; family = after.family }

pub consumed-joined : (pages page_bytes m n : ℕ) (family : List (List Event))
    → consume_any pages page_bytes (m + n) family
    ≡ joined (consume_any pages page_bytes m family) (consume_any pages page_bytes n (consume_any pages page_bytes m family).family)
consumed-joined pages page_bytes m n family =
    consumed_by_reads pages page_bytes
    (λ k before after. consume_any pages page_bytes (k + n) before ≡ joined after (consume_any pages page_bytes n after.family))
    (λ before. let e : 0 + n ≡ n = omega arith in ap (λ (k : ℕ). consume_any pages page_bytes k before) e)
    (λ k before e. consume-none pages page_bytes (suc k + n) before e
    ∙ ap (joined (nothing_taken before)) (sym (consume-none pages page_bytes n before e)))
    (λ k before c e rest.
    let more : suc k + n ≡ suc (k + n) = omega arith in
    ap (λ (reads : ℕ). consume_any pages page_bytes reads before) more ∙ consume-some pages page_bytes (k + n) before c e
    ∙ ap (with_taken (on_cpu c.cpu c.first)) rest)
    m family

-- ---- of one

with_events-twice : (cpu : ℕ) (events more : List Event) (family : List (List Event))
    → with_events cpu more (with_events cpu events family) ≡ with_events cpu (events ++ more) family
with_events-twice cpu events more [] = refl
with_events-twice zero events more (before ∷ family) = ap (λ (l : List Event). l ∷ family) (append_assoc before events more)
with_events-twice (suc cpu) events more (before ∷ family) = ap (λ (f : List (List Event)). before ∷ f) (with_events-twice cpu events more family)

pub cpu_reads-joined : (cpu m n : ℕ) (family : List (List Event)) → after_cpu_reads cpu n (after_cpu_reads cpu m family) ≡ after_cpu_reads cpu (m + n) family
cpu_reads-joined cpu m n family =
    with_events-twice cpu (replicate m Take) (replicate n Take) family
    ∙ ap (λ (more : List Event). with_events cpu more family) (replicate-append-replicate m n Take)

pub readings-left : TakesLeaveTheRest → (pages page_bytes cpu reads : ℕ) (family : List (List Event))
    → cpu_readings pages page_bytes (after_cpu_reads cpu reads family) cpu ≡ drop reads (cpu_readings pages page_bytes family cpu)
readings-left rest pages page_bytes cpu reads [] =
    readings_of-nil pages page_bytes ∙ sym (drop-nil reads) ∙ ap (drop reads) (sym (readings_of-nil pages page_bytes))
readings-left rest pages page_bytes zero reads (events ∷ family) = rest pages page_bytes events reads
readings-left rest pages page_bytes (suc cpu) reads (events ∷ family) = readings-left rest pages page_bytes cpu reads family

pub cpu_taken-joined : (cpu m n : ℕ) (readings : List Reading)
    → map (on_cpu cpu) (take (m + n) readings) ≡ map (on_cpu cpu) (take m readings) ++ map (on_cpu cpu) (take n (drop m readings))
cpu_taken-joined cpu m n readings = ap (map (on_cpu cpu)) (take-add m n readings) ∙ map-append (on_cpu cpu) (take m readings) (take n (drop m readings))
