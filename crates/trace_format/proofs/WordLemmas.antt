-- Lemmas on the words of a text.
use Rattle.std.proofs.Common.{◌≡◌, ℕ, zero, suc, ◌+◌, ◌-◌, ◌≤◌, ◌==◌, false, List, [], ◌∷◌, length, take, drop, refl, sym, ap, ◌∙◌, subst, add-zero, one-add, arith, length-drop, length-take-le, drop-drop}
use Rattle.std.specs.List.{prefix_len}
use Rattle.std.proofs.lemmas.Bool.{cond-true, cond-false, cond_both}
use Rattle.std.proofs.lemmas.List.Sums.{prefix_len-le-length}
use Rattle.trace_lex.specs.Blanks.{is_blank}
use Rattle.trace_format.specs.Words.{is_word_byte, more_of, spots_from, IsNextWord}

-- to skip bytes is to drop them
pub skipped : (n at : ℕ) (bs : List ℕ) → spots_from n at bs ≡ spots_from 0 (at + n) (drop n bs)
skipped zero at bs = ap (λ k. spots_from 0 k bs) (sym (add-zero at))
skipped (suc n) at [] = refl
skipped (suc n) at (b ∷ bs) =
    let e : at + 1 + n ≡ at + suc n = omega arith in
    skipped n (at + 1) bs ∙ ap (λ k. spots_from 0 k (drop n bs)) e

-- leading blanks say nothing
blanks : (at : ℕ) (bs : List ℕ) → spots_from 0 at bs ≡ spots_from 0 (at + prefix_len is_blank bs) (drop (prefix_len is_blank bs) bs)
blanks at [] = refl
blanks at (b ∷ bs) =
    cond_both (is_blank b) (1 + prefix_len is_blank bs) 0 (λ n. spots_from 0 at (b ∷ bs) ≡ spots_from 0 (at + n) (drop n (b ∷ bs)))
    (λ e. cond-true _ _ _ e ∙ blanks (at + 1) bs ∙ one_more at b (prefix_len is_blank bs) bs)
    (λ _. ap (λ k. spots_from 0 k (b ∷ bs)) (sym (add-zero at)))
  where
    one_more : (at b n : ℕ) (bs : List ℕ) → spots_from 0 (at + 1 + n) (drop n bs) ≡ spots_from 0 (at + (1 + n)) (drop (1 + n) (b ∷ bs))
    one_more at b n bs =
        let e : at + 1 + n ≡ at + suc n = omega arith in
        rw one-add (ap (λ k. spots_from 0 k (drop n bs)) e)

-- the first byte of a list is no blank
abbrev BeginsUnblank : List ℕ → Type 0
BeginsUnblank [] = Unit {0}
BeginsUnblank (b ∷ bs) = is_blank b ≡ false

unblank : (bs : List ℕ) → BeginsUnblank (drop (prefix_len is_blank bs) bs)
unblank [] = tt
unblank (b ∷ bs) = cond_both (is_blank b) (1 + prefix_len is_blank bs) 0 (λ n. BeginsUnblank (drop n (b ∷ bs))) (λ _. rw one-add (unblank bs)) (λ e. e)

more_within : (b : ℕ) (bs : List ℕ) → more_of b bs ≤ length bs
more_within b bs = cond_both (b == 59) 0 (prefix_len is_word_byte bs) (λ n. n ≤ length bs) (λ _. omega arith) (λ _. prefix_len-le-length is_word_byte bs)

module _ (text : List ℕ) (start n : ℕ) (n_is : n ≡ prefix_len is_blank (drop start text)) where
  from_word : spots_from 0 start (drop start text) ≡ spots_from 0 (start + n) (drop (start + n) text)
  from_word = blanks start (drop start text) ∙ ap (λ k. spots_from 0 (start + k) (drop k (drop start text))) (sym n_is) ∙ ap (spots_from 0 (start + n)) (drop-drop n start text)

  -- with nothing behind the blanks there is no word
  pub no_word : drop (start + n) text ≡ [] → spots_from 0 start (drop start text) ≡ []
  no_word none = from_word ∙ ap (spots_from 0 (start + n)) none

  -- else a word begins there
  pub next_word_at : (b more : ℕ) (bs word : List ℕ) → drop (start + n) text ≡ b ∷ bs → more ≡ more_of b bs → word ≡ take (1 + more) (drop (start + n) text) → start + n ≤ length text → IsNextWord text start (start + n) word
  next_word_at b more bs word rest more_is word_is within =
      let at = start + n in
      let first_unblank : is_blank b ≡ false = subst BeginsUnblank (ap (λ k. drop k (drop start text)) (sym n_is) ∙ drop-drop n start text ∙ rest) (unblank (drop start text)) in
      let word_eq : word ≡ b ∷ take more bs = word_is ∙ ap (take (1 + more)) rest ∙ ap (λ k. take k (b ∷ bs)) (one-add more) in
      let more_le : more ≤ length bs = subst (λ k. k ≤ length bs) (sym more_is) (more_within b bs) in
      let size : length word ≡ 1 + more = ap length word_eq ∙ ap suc (length-take-le more bs more_le) ∙ sym (one-add more) in
      let left : length text - at ≡ suc (length bs) = sym (length-drop at text) ∙ ap length rest in
      let tail : drop more bs ≡ drop (at + length word) text = ap (λ k. drop k (b ∷ bs)) (sym (one-add more)) ∙ ap (drop (1 + more)) (sym rest) ∙ drop-drop (1 + more) at text ∙ ap (λ k. drop (at + k) text) (sym size) in
      let offset : at + 1 + more ≡ at + length word = omega (arith, size) in
      let others : spots_from (more_of b bs) (at + 1) bs ≡ spots_from 0 (at + length word) (drop (at + length word) text) =
      ap (λ k. spots_from k (at + 1) bs) (sym more_is) ∙ skipped more (at + 1) bs ∙ ap (λ k. spots_from 0 k (drop more bs)) offset ∙ ap (spots_from 0 (at + length word)) tail in
      let spelled : b ∷ take (more_of b bs) bs ≡ word = ap (λ k. b ∷ take k bs) (sym more_is) ∙ sym word_eq in
      let one : (record { at = at; word = b ∷ take (more_of b bs) bs } ∷ spots_from (more_of b bs) (at + 1) bs) ≡ (record { at = at; word = word } ∷ spots_from 0 (at + length word) (drop (at + length word) text)) = (λ i. record { at = at; word = spelled i } ∷ others i) in
      record {
        spots = from_word ∙ ap (spots_from 0 at) rest ∙ cond-false (is_blank b) _ _ first_unblank ∙ one;
        within = omega (arith, size, left, more_le);
        forward = omega (arith, size);
      }
