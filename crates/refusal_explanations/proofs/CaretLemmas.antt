-- Offsets found one after the other.
use Rattle.std.proofs.Common.{◌≡◌, ◌<◌, ◌≤◌, ℕ, ◌+◌, Bool, true, false, List, ◌∷◌, ◌++◌, length, drop, get_or, append_assoc, ap, sym, ◌∙◌, refl}
use Rattle.std.proofs.lemmas.List.{drop_all, drop_more}
use Rattle.refusal_explanations.specs.Carets.{begins_word, next_end, next_stand, ends_at, has_offset, one_if, offsets_from, starts_from}
use Rattle.refusal_explanations.specs.declared.caret.Stand.{Stand}

-- the offsets so far, and those of the rest
pub offsets_more : (offsets ended more line : List ℕ) (stand : Stand) (end at : ℕ) (ends there : Bool) → at < length line
    → ends ≡ ends_at stand (get_or line at 0) → there ≡ has_offset stand (get_or line at 0)
    → ended ≡ offsets ++ one_if ends end → more ≡ ended ++ one_if there at
    → more ++ offsets_from (next_stand stand (get_or line at 0)) (next_end stand end at (get_or line at 0)) (at + 1) (drop (at + 1) line)
    ≡ offsets ++ offsets_from stand end at (drop at line)
offsets_more offsets ended more line stand end at ends there within ends_is there_is ended_is more_is =
    let b : ℕ = get_or line at 0 in
    let rest : List ℕ = offsets_from (next_stand stand b) (next_end stand end at b) (at + 1) (drop (at + 1) line) in
    ap (λ (xs : List ℕ). xs ++ rest) (more_is ∙ ap (λ (xs : List ℕ). xs ++ one_if there at) ended_is)
    ∙ (append_assoc (offsets ++ one_if ends end) (one_if there at) rest
    ∙ (append_assoc offsets (one_if ends end) (one_if there at ++ rest)
    ∙ ap (λ (xs : List ℕ). offsets ++ xs)
    (ap (λ (is : Bool). one_if is end ++ (one_if there at ++ rest)) ends_is
    ∙ ap (λ (is : Bool). one_if (ends_at stand b) end ++ (one_if is at ++ rest)) there_is
    ∙ ap (λ (xs : List ℕ). offsets_from stand end at xs) (sym (drop_more line at 0 within)))))

-- at the end of the line
pub offsets_end : (offsets more line : List ℕ) (stand : Stand) (end at : ℕ) → length line ≤ at → more ≡ offsets ++ one_if (ends_at stand 32) end
    → more ≡ offsets ++ offsets_from stand end at (drop at line)
offsets_end offsets more line stand end at past is =
    is ∙ ap (λ (xs : List ℕ). offsets ++ offsets_from stand end at xs) (sym (drop_all at line past))

-- ---- where words begin

module _ (line : List ℕ) (stand : Stand) (at : ℕ) (within : at < length line) where
  starts_step : starts_from stand at (drop at line)
      ≡ one_if (begins_word stand (get_or line at 0)) at ++ starts_from (next_stand stand (get_or line at 0)) (at + 1) (drop (at + 1) line)
  starts_step = rw (drop_more line at 0 within) refl

  -- one begins here, or none
  pub starts_here : begins_word stand (get_or line at 0) ≡ true
      → starts_from stand at (drop at line) ≡ at ∷ starts_from (next_stand stand (get_or line at 0)) (at + 1) (drop (at + 1) line)
  starts_here is = starts_step ∙ rw is refl

  pub starts_later : begins_word stand (get_or line at 0) ≡ false
      → starts_from stand at (drop at line) ≡ starts_from (next_stand stand (get_or line at 0)) (at + 1) (drop (at + 1) line)
  starts_later is = starts_step ∙ rw is refl
