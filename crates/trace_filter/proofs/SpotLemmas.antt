-- Lemmas on the tokens of a text.
use Rattle.std.proofs.Common.{◌≡◌, ℕ, zero, suc, ◌+◌, ◌-◌, ◌≤◌, Bool, false, List, [], ◌∷◌, length, drop, refl, sym, ap, ◌∙◌, subst, add-zero, one-add, arith, length-drop, drop-drop}
use Rattle.std.specs.List.{prefix_len}
use Rattle.std.proofs.lemmas.Bool.{cond-true, cond-false, cond_both}
use Rattle.trace_filter.specs.declared.token.ReadToken as pieces
use Rattle.trace_lex.specs.Blanks.{is_blank}
use Rattle.trace_filter.specs.Tokens.{piece_of, is_comparison, Token, Spot, spots_from}
use Rattle.trace_filter.specs.private.Seen.{token_of, IsPiece, IsNextToken}

-- to skip bytes is to drop them
pub skipped : (value_due : Bool) (n at : ℕ) (bs : List ℕ) → spots_from value_due n at bs ≡ spots_from value_due 0 (at + n) (drop n bs)
skipped value_due zero at bs = ap (λ k. spots_from value_due 0 k bs) (sym (add-zero at))
skipped value_due (suc n) at [] = refl
skipped value_due (suc n) at (b ∷ bs) =
    let e : at + 1 + n ≡ at + suc n = omega arith in
    skipped value_due n (at + 1) bs ∙ ap (λ k. spots_from value_due 0 k (drop n bs)) e

-- leading blanks say nothing
pub blanks : (value_due : Bool) (at : ℕ) (bs : List ℕ) → spots_from value_due 0 at bs ≡ spots_from value_due 0 (at + prefix_len is_blank bs) (drop (prefix_len is_blank bs) bs)
blanks value_due at [] = refl
blanks value_due at (b ∷ bs) =
    cond_both (is_blank b) (1 + prefix_len is_blank bs) 0 (λ n. spots_from value_due 0 at (b ∷ bs) ≡ spots_from value_due 0 (at + n) (drop n (b ∷ bs)))
    (λ e. cond-true _ _ _ e ∙ blanks value_due (at + 1) bs ∙ one_more at b (prefix_len is_blank bs) bs)
    (λ _. ap (λ k. spots_from value_due 0 k (b ∷ bs)) (sym (add-zero at)))
  where
    one_more : (at b n : ℕ) (bs : List ℕ) → spots_from value_due 0 (at + 1 + n) (drop n bs) ≡ spots_from value_due 0 (at + (1 + n)) (drop (1 + n) (b ∷ bs))
    one_more at b n bs =
        let e : at + 1 + n ≡ at + suc n = omega arith in
        rw one-add (ap (λ k. spots_from value_due 0 k (drop n bs)) e)

-- the first byte of a list is no blank
abbrev BeginsUnblank : List ℕ → Type 0
BeginsUnblank [] = Unit {0}
BeginsUnblank (b ∷ bs) = is_blank b ≡ false

unblank : (bs : List ℕ) → BeginsUnblank (drop (prefix_len is_blank bs) bs)
unblank [] = tt
unblank (b ∷ bs) = cond_both (is_blank b) (1 + prefix_len is_blank bs) 0 (λ n. BeginsUnblank (drop n (b ∷ bs))) (λ _. rw one-add (unblank bs)) (λ e. e)

module _ (text : List ℕ) (value_due : Bool) (start n : ℕ) (n_is : n ≡ prefix_len is_blank (drop start text)) where
  from_token : spots_from value_due 0 start (drop start text) ≡ spots_from value_due 0 (start + n) (drop (start + n) text)
  from_token = blanks value_due start (drop start text) ∙ ap (λ k. spots_from value_due 0 (start + k) (drop k (drop start text))) (sym n_is) ∙ ap (spots_from value_due 0 (start + n)) (drop-drop n start text)

  -- with nothing behind the blanks there is no token
  pub no_token : drop (start + n) text ≡ [] → spots_from value_due 0 start (drop start text) ≡ []
  no_token none = from_token ∙ ap (spots_from value_due 0 (start + n)) none

  -- else a token begins there
  pub next_token_at : (b : ℕ) (bs : List ℕ) (found : pieces.ReadToken) → drop (start + n) text ≡ b ∷ bs → IsPiece (piece_of value_due b bs) found bs → start + n ≤ length text
      → IsNextToken text start value_due (record { at = start + n; end = start + n + 1 + found.more; token = found.token })
  next_token_at b bs found rest is within =
      let at = start + n in
      let first_unblank : is_blank b ≡ false = subst BeginsUnblank (ap (λ k. drop k (drop start text)) (sym n_is) ∙ drop-drop n start text ∙ rest) (unblank (drop start text)) in
      let more_is : found.more ≡ (piece_of value_due b bs).more = is.more in
      let left : length text - at ≡ suc (length bs) = sym (length-drop at text) ∙ ap length rest in
      let tail : drop found.more bs ≡ drop (at + 1 + found.more) text =
      ap (λ k. drop k (b ∷ bs)) (sym (one-add found.more)) ∙ ap (drop (1 + found.more)) (sym rest) ∙ drop-drop (1 + found.more) at text ∙ ap (λ k. drop k text) (add at found.more) in
      let others : spots_from (is_comparison (piece_of value_due b bs).token) (piece_of value_due b bs).more (at + 1) bs ≡ spots_from (is_comparison (token_of found.token)) 0 (at + 1 + found.more) (drop (at + 1 + found.more) text) =
      (λ i. spots_from (is_comparison ((sym is.token) i)) ((sym more_is) i) (at + 1) bs)
      ∙ skipped (is_comparison (token_of found.token)) found.more (at + 1) bs
      ∙ ap (spots_from (is_comparison (token_of found.token)) 0 (at + 1 + found.more)) tail in
      record {
        spots = from_token ∙ ap (spots_from value_due 0 at) rest ∙ cond-false (is_blank b) _ _ first_unblank ∙ both at is.token others;
        within = omega (arith, is.within, more_is, left);
        after = omega arith;
        forward = omega arith;
      }
    where
      add : (a m : ℕ) → a + (1 + m) ≡ a + 1 + m
      add a m = omega arith

      both : (at : ℕ) {s t : Token} {ss ts : List Spot} → t ≡ s → ss ≡ ts → (record { at = at; token = s } ∷ ss) ≡ (record { at = at; token = t } ∷ ts)
      both at e f = λ i. record { at = at; token = (sym e) i } ∷ f i
