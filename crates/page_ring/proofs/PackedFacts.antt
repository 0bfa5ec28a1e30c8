-- How records lie in bytes: what one more at the end and one less at the front leave.
use Rattle.std.proofs.Common.{◌≡◌, ℕ, zero, suc, ◌+◌, ◌≤◌, List, [], ◌∷◌, ◌++◌, length, take, drop, refl, sym, ap, ◌∙◌, arith, inl, inr, subst}
use Rattle.std.proofs.lemmas.Bool.{cases_lt, lt-ltb, le-ltb}
use Rattle.std.proofs.lemmas.List.{get_or_append_left, take-append-le, drop-append-le}
use Rattle.std.proofs.Common.{length-append, add-zero, ◌-◌, ◌≢◌}
use Rattle.std.proofs.Math.Nat.{le_refl}
use Rattle.trace_record.specs.Record.{IsRecord, head_of, told_length, record_size}
use Rattle.trace_record.proofs.HeadBytes.{two_at}
use Rattle.page_ring.specs.Packed.{records_in, IsPacked}

-- a record has a head
pub told_length-head : (bytes : List ℕ) → 16 ≤ told_length bytes
told_length-head bytes = omega arith

-- what follows the head doesn't change the length that it tells
pub told_length-append : (bytes more : List ℕ) → 16 ≤ length bytes → told_length (bytes ++ more) ≡ told_length bytes
told_length-append bytes more l =
    ap record_size (two_at 14 (bytes ++ more)
    ∙ rw (get_or_append_left bytes more 0 14 (omega arith), get_or_append_left bytes more 0 15 (omega arith)) (sym (two_at 14 bytes)))

-- a record is as long as its head tells
pub told_length-record : (bytes : List ℕ) → IsRecord bytes → told_length bytes ≡ length bytes
unfolding IsRecord head_of
told_length-record bytes h =
    elim (cases_lt (length bytes) 16) [
      | inl l ↦ absurd (rw (lt-ltb _ _ l) at h)
      | inr g ↦ sym (rw (le-ltb _ _ g) at h)
    ]

pub length-records_in : (number count : ℕ) (bytes : List ℕ) → length (records_in number count bytes) ≡ count
length-records_in number zero bytes = refl
length-records_in number (suc count) bytes = ap suc (length-records_in (number + 1) count (drop (told_length bytes) bytes))

≤-more : (n a b : ℕ) → n ≤ a → n ≤ a + b
≤-more n a b l = omega arith

-- one more record at the end
pub packed_push : (count : ℕ) (bytes rec : List ℕ) → IsPacked count bytes → IsRecord rec → IsPacked (suc count) (bytes ++ rec)
packed_push zero bytes rec h is =
    let told = told_length-record rec is in
    subst (λ (b : List ℕ). IsPacked 1 (b ++ rec)) (sym h) (rw told (le_refl (length rec)), rw told (drop_all rec))
  where
    drop_all : (xs : List ℕ) → drop (length xs) xs ≡ []
    drop_all [] = refl
    drop_all (x ∷ xs) = drop_all xs
packed_push (suc count) bytes rec h is =
    let told = told_length-append bytes rec (let l : told_length bytes ≤ length bytes = h.0 in let k = told_length-head bytes in omega arith) in
    rw (told, drop-append-le (told_length bytes) bytes rec h.0) (le_append, packed_push count (drop (told_length bytes) bytes) rec h.1 is)
  where
    le_append : told_length bytes ≤ length (bytes ++ rec)
    le_append = let l : told_length bytes ≤ length bytes = h.0 in rw (length-append bytes rec) (≤-more (told_length bytes) (length bytes) (length rec) l)

pub records_in_push : (number count : ℕ) (bytes rec : List ℕ) → IsPacked count bytes → IsRecord rec → records_in number (suc count) (bytes ++ rec) ≡ records_in number count bytes ++ record { number = number + count; bytes = rec } ∷ []
records_in_push number zero bytes rec h is =
    let told = told_length-record rec is in
    subst (λ (b : List ℕ). records_in number 1 (b ++ rec) ≡ record { number = number + 0; bytes = rec } ∷ []) (sym h) (rw (told, take_all rec, add-zero number) refl)
  where
    take_all : (xs : List ℕ) → take (length xs) xs ≡ xs
    take_all [] = refl
    take_all (x ∷ xs) = ap (λ (ys : List ℕ). x ∷ ys) (take_all xs)
records_in_push number (suc count) bytes rec h is =
    let told = told_length-append bytes rec (let l : told_length bytes ≤ length bytes = h.0 in let k = told_length-head bytes in omega arith) in
    let rest = records_in_push (number + 1) count (drop (told_length bytes) bytes) rec h.1 is in
    let same : number + 1 + count ≡ number + suc count = omega arith in
    rw (told, drop-append-le (told_length bytes) bytes rec h.0, take-append-le (told_length bytes) bytes rec h.0, rest, same) refl

-- the first record, and the others
pub record BeginsWith (number count : ℕ) (bytes : List ℕ) : Type 0 where
  pub whole : told_length bytes ≤ length bytes
  pub packed : IsPacked (count - 1) (drop (told_length bytes) bytes)
  pub records : records_in number count bytes ≡ record { number = number; bytes = take (told_length bytes) bytes } ∷ records_in (number + 1) (count - 1) (drop (told_length bytes) bytes)

pub packed_first : (number count : ℕ) (bytes : List ℕ) → count ≢ 0 → IsPacked count bytes → BeginsWith number count bytes
packed_first number zero bytes some h = absurd (some refl)
packed_first number (suc count) bytes some h =
    let less : suc count - 1 ≡ count = omega arith in
    record { whole = h.0; packed = rw less h.1; records = rw less refl }
