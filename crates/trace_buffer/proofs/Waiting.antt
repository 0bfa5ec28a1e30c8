-- A record waits where reads would take one.
use Rattle.std.proofs.Common.{◌≡◌, ℕ, zero, suc, ◌+◌, ◌<◌, ◌||◌, nat_lt, min, Bool, List, [], ◌∷◌, length, refl, sym, ap, ◌∙◌, arith, zero-add}
use Rattle.std.proofs.lemmas.Bool.{lt-ltb}
use Rattle.std.proofs.lemmas.List.Sums.{sum_by-cons}
use Rattle.page_ring.specs.Account.{readings_of, has_waiting}
use Rattle.page_ring.specs.Events.{Event}
use Rattle.page_ring.specs.Laws.{ReadingsAreAhead}
use Rattle.trace_buffer.specs.Families.{any_has_waiting, cpu_readings, kept_count}
use Rattle.trace_buffer.specs.Laws.{WaitingIsRead, CpuWaitingIsRead}
use Rattle.trace_buffer.proofs.Consumed.{length-taken}
use Rattle.trace_buffer.proofs.PipeLaws.{cpu_reads_take_so_many}

-- one of two numbers is above 0 where their sum is
above-sum : (m n : ℕ) → (nat_lt 0 m || nat_lt 0 n) ≡ nat_lt 0 (m + n)
above-sum zero n = ap (λ k. nat_lt 0 k) (sym (zero-add n))
above-sum (suc m) n = rw (lt-ltb 0 (suc m) (omega arith), lt-ltb 0 (suc m + n) (omega arith)) refl

above-min : (reads n : ℕ) → 0 < reads → nat_lt 0 n ≡ nat_lt 0 (min reads n)
above-min reads zero some = ap (λ k. nat_lt 0 k) (let e : 0 ≡ min reads 0 = omega arith in e)
above-min reads (suc n) some =
    let least : 0 < min reads (suc n) = omega (arith, some) in
    rw (lt-ltb 0 (suc n) (omega arith), lt-ltb 0 (min reads (suc n)) least) refl

-- some ring has one where some record is kept
waiting-kept : (pages page_bytes : ℕ) (family : List (List Event))
    → any_has_waiting pages page_bytes family ≡ nat_lt 0 (kept_count pages page_bytes family)
unfolding has_waiting
waiting-kept pages page_bytes [] = refl
waiting-kept pages page_bytes (events ∷ family) =
    let own = length (readings_of pages page_bytes events) in
    ap (λ (b : Bool). nat_lt 0 own || b) (waiting-kept pages page_bytes family)
    ∙ above-sum own (kept_count pages page_bytes family)
    ∙ ap (λ k. nat_lt 0 k) (sym (sum_by-cons (λ (es : List Event). length (readings_of pages page_bytes es)) events family))

pub waiting_is_read : ReadingsAreAhead → WaitingIsRead
waiting_is_read ahead pages page_bytes reads family some =
    waiting-kept pages page_bytes family ∙ above-min reads (kept_count pages page_bytes family) some
    ∙ ap (λ k. nat_lt 0 k) (sym (length-taken ahead pages page_bytes reads family))

pub cpu_waiting_is_read : CpuWaitingIsRead
unfolding has_waiting
cpu_waiting_is_read pages page_bytes cpu reads family some =
    above-min reads (length (cpu_readings pages page_bytes family cpu)) some
    ∙ ap (λ k. nat_lt 0 k) (sym (cpu_reads_take_so_many pages page_bytes cpu reads family))
