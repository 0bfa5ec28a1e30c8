-- The step of a put, case by case.
use Rattle.std.proofs.Common.{◌≡◌, ℕ, ◌+◌, ◌<◌, nat_le, Bool, true, false, List, [], length, refl, inl, inr, ◌⊎◌, arith}
use Rattle.std.proofs.lemmas.Bool.{or_left, or_right, ne_eqb, eq-eqb}
use Rattle.page_ring.specs.Shown.{Shown}
use Rattle.page_ring.specs.Account.{kept_losing}
use Rattle.page_ring.specs.private.Step.{after_put, put_answer_shown, overrun_by, left_by, appended, moved, accepts_shown}
use Rattle.page_ring.specs.declared.rings.Put.TheVariants.{Kept, KeptLosing, Dropped}

pub kept_losing-none : (lost : ℕ) → lost ≡ 0 → Kept ≡ kept_losing lost
kept_losing-none lost e = rw e refl

pub kept_losing-some : (n lost : ℕ) → (n ≡ 0 → ⊥) → n ≡ lost → KeptLosing n ≡ kept_losing lost
kept_losing-some n lost ne e = rw (← e, ne_eqb n 0 ne) refl

-- on the last page
pub put_here : (pages page_bytes : ℕ) (s : Shown) (bytes : List ℕ) (overwrite : Bool) → nat_le (s.last_filled + length bytes) page_bytes ≡ true → overrun_by pages s s.last_page ≡ [] → left_by pages s s.last_page ≡ s.kept → (after_put pages page_bytes s bytes overwrite ≡ appended s bytes) × (put_answer_shown pages page_bytes s bytes overwrite ≡ Kept)
unfolding after_put put_answer_shown
put_here pages page_bytes s bytes overwrite fits none all =
    let accepted : accepts_shown pages page_bytes s bytes overwrite ≡ true = rw (fits, none) (or_right overwrite true refl) in
    (rw (accepted, fits, all) refl, rw (accepted, fits, none) refl)

-- on the next page, where nothing is lost or overwriting is allowed
pub put_there : (pages page_bytes : ℕ) (s : Shown) (bytes : List ℕ) (overwrite : Bool) → nat_le (s.last_filled + length bytes) page_bytes ≡ false → (overwrite ≡ true) ⊎ (length (overrun_by pages s (s.last_page + 1)) ≡ 0) → (after_put pages page_bytes s bytes overwrite ≡ appended (moved pages s) bytes) × (put_answer_shown pages page_bytes s bytes overwrite ≡ kept_losing (length (overrun_by pages s (s.last_page + 1))))
unfolding after_put put_answer_shown
put_there pages page_bytes s bytes overwrite full may =
    let accepted : accepts_shown pages page_bytes s bytes overwrite ≡ true = rw full (elim may [
      | inl t ↦ or_left overwrite _ t
      | inr e ↦ or_right overwrite _ (eq-eqb _ 0 e)
    ]) in
    (rw (accepted, full) refl, rw (accepted, full) refl)

-- refused
pub put_refused : (pages page_bytes : ℕ) (s : Shown) (bytes : List ℕ) (overwrite : Bool) → nat_le (s.last_filled + length bytes) page_bytes ≡ false → overwrite ≡ false → 0 < length (overrun_by pages s (s.last_page + 1)) → (after_put pages page_bytes s bytes overwrite ≡ record s { dropped = s.dropped + 1 }) × (put_answer_shown pages page_bytes s bytes overwrite ≡ Dropped)
unfolding after_put put_answer_shown
put_refused pages page_bytes s bytes overwrite full off some =
    let refused : accepts_shown pages page_bytes s bytes overwrite ≡ false = rw (full, off) (ne_eqb _ 0 (λ e. absurd (omega arith))) in
    (rw refused refl, rw refused refl)
