-- Blanks at the end of a text change none of its tokens.
use Rattle.std.proofs.Common.{◌≡◌, ℕ, zero, suc, ◌+◌, ◌-◌, ◌≤◌, ◌<◌, ◌==◌, nat_lt, Bool, true, false, not, if◌then◌else◌, List, [], ◌∷◌, ◌++◌, length, reverse, take, refl, sym, ap, ◌∙◌, ◌⊎◌, ⊎_elim, subst, one-add, arith, length-append}
use Rattle.std.specs.List.{prefix_len, AllByRecursion}
use Rattle.std.proofs.lemmas.Bool.{cond-true, cond-false, eq-eqb, lt-ltb, le-ltb, ltb-true, ltb-false}
use Rattle.std.proofs.lemmas.Bool.Decides.{nat_tests}
use Rattle.std.proofs.lemmas.List.{take-append-le, reverse-reverse, reverse-append, length-reverse}
use Rattle.std.proofs.lemmas.List.Sums.{prefix_len-le-length}
use Rattle.std.proofs.lemmas.List.Folds.{prefix_len-append}
use Rattle.std.proofs.Math.Seq.{take-append_seam}
use Rattle.trace_lex.proofs.Lists.{AllByRecursion-push}
use Rattle.trace_lex.specs.Names.{is_name, is_name_byte}
use Rattle.trace_lex.specs.Blanks.{is_blank, without_end}
use Rattle.trace_lex.specs.Prefixes.{is_not}
use Rattle.trace_filter.specs.Tokens.{Word, Quoted, Token, Name, Value, Illegible, is_quote, is_word_byte, begins_with, ReadToken, quoted_piece, word_piece, name_piece, longest, symbol_piece, piece_of, is_comparison, Spot, spots_from}
use Rattle.trace_filter.proofs.Ends.{other}

abbrev pub sized : Token → ℕ → ReadToken
sized token more = record { token = token; more = more }

abbrev pub AllBlank : List ℕ → Type 0
AllBlank bs = AllByRecursion (λ b. is_blank b ≡ true) bs

-- ---- kinds of byte that no blank is

blank_is : (b : ℕ) → is_blank b ≡ true → (b ≡ 32) ⊎ (b ≡ 9)
blank_is b e = grind (arith, nat_tests)

pub blank_unnamed : (b : ℕ) → is_blank b ≡ true → is_name_byte b ≡ false
blank_unnamed b e = ⊎_elim (λ h. ap is_name_byte h) (λ h. ap is_name_byte h) (blank_is b e)

blank_unworded : (b : ℕ) → is_blank b ≡ true → is_word_byte b ≡ false
blank_unworded b e = ⊎_elim (λ h. ap is_word_byte h) (λ h. ap is_word_byte h) (blank_is b e)

blank_unquoted : (b : ℕ) → is_blank b ≡ true → is_quote b ≡ false
blank_unquoted b e = ⊎_elim (λ h. ap is_quote h) (λ h. ap is_quote h) (blank_is b e)

pub no_both : (b : Bool) → b ≡ true → b ≡ false → ⊥
no_both b e f = absurd (cc)

-- ---- one piece

prefix_before : (kind : ℕ → Bool) → ((b : ℕ) → is_blank b ≡ true → kind b ≡ false) → (bs ends : List ℕ) → AllBlank ends → prefix_len kind (bs ++ ends) ≡ prefix_len kind bs
prefix_before kind none [] [] h = refl
prefix_before kind none [] (e ∷ ends) h = cond-false (kind e) _ _ (none e h.0)
prefix_before kind none (b ∷ bs) ends h = ap (λ n. if kind b then 1 + n else 0) (prefix_before kind none bs ends h)

begins_before : (x : ℕ) → is_blank x ≡ false → (bs ends : List ℕ) → AllBlank ends → begins_with x (bs ++ ends) ≡ begins_with x bs
begins_before x f [] [] h = refl
begins_before x f [] (e ∷ ends) h = other e x (λ same. no_both (is_blank x) (ap is_blank (sym same) ∙ h.0) f)
begins_before x f (b ∷ bs) ends h = refl

if_same : (p : Bool) {x y s t : ReadToken} → (p ≡ true → x ≡ s) → y ≡ t → (if p then x else y) ≡ (if p then s else t)
if_same true f g = f refl
if_same false f g = g

-- blanks hold no quote
blanks_pass : (quote : ℕ) → is_quote quote ≡ true → (ends : List ℕ) → AllBlank ends → prefix_len (is_not quote) ends ≡ length ends
blanks_pass quote q [] h = refl
blanks_pass quote q (e ∷ ends) h =
    let differs : (e == quote) ≡ false = other e quote (λ same. no_both (is_quote quote) q (ap is_quote (sym same) ∙ blank_unquoted e h.0)) in
    cond-true (not (e == quote)) _ _ (ap not differs) ∙ ap (λ n. 1 + n) (blanks_pass quote q ends h.1) ∙ one-add (length ends)

module _ (bs ends : List ℕ) (h : AllBlank ends) where
  name_before : (b : ℕ) → name_piece b (bs ++ ends) ≡ name_piece b bs
  name_before b =
      ap (λ n. sized (if is_name (b ∷ take n (bs ++ ends)) then Name (b ∷ take n (bs ++ ends)) else Illegible) n) (prefix_before is_name_byte blank_unnamed bs ends h)
      ∙ ap (λ (run : List ℕ). sized (if is_name (b ∷ run) then Name (b ∷ run) else Illegible) (prefix_len is_name_byte bs)) (take-append-le (prefix_len is_name_byte bs) bs ends (prefix_len-le-length is_name_byte bs))

  word_before : (b : ℕ) → word_piece b (bs ++ ends) ≡ word_piece b bs
  word_before b =
      ap (λ n. sized (Value (Word (b ∷ take n (bs ++ ends)))) n) (prefix_before is_word_byte blank_unworded bs ends h)
      ∙ ap (λ run. sized (Value (Word (b ∷ run))) (prefix_len is_word_byte bs)) (take-append-le (prefix_len is_word_byte bs) bs ends (prefix_len-le-length is_word_byte bs))

  quoted_before : (quote : ℕ) → is_quote quote ≡ true → quoted_piece quote (bs ++ ends) ≡ quoted_piece quote bs
  quoted_before quote q = by (nat_lt (prefix_len (is_not quote) bs) (length bs)) refl
    where
      by : (t : Bool) → nat_lt (prefix_len (is_not quote) bs) (length bs) ≡ t → quoted_piece quote (bs ++ ends) ≡ quoted_piece quote bs
      by true e =
          let n = prefix_len (is_not quote) bs in
          let less : n < length bs = ltb-true n (length bs) e in
          let same : prefix_len (is_not quote) (bs ++ ends) ≡ n =
          prefix_len-append (is_not quote) bs ends ∙ cond-false (n == length bs) _ _ (other n (length bs) (λ f. absurd (omega (arith, less, f)))) in
          let enough : n < length (bs ++ ends) = omega (arith, less, length-append bs ends) in
          ap (λ k. if nat_lt k (length (bs ++ ends)) then sized (Value (Quoted (take k (bs ++ ends)))) (k + 1) else sized Illegible 0) same
          ∙ (cond-true (nat_lt n (length (bs ++ ends))) _ _ (lt-ltb n (length (bs ++ ends)) enough)
          ∙ (ap (λ front. sized (Value (Quoted front)) (n + 1)) (take-append-le n bs ends (prefix_len-le-length (is_not quote) bs)) ∙ sym (cond-true (nat_lt n (length bs)) _ _ e)))
      by false e =
          let n = prefix_len (is_not quote) bs in
          let most : length bs ≤ n = ltb-false n (length bs) e in
          let whole : n ≡ length bs = omega (arith, most, prefix_len-le-length (is_not quote) bs) in
          let all : prefix_len (is_not quote) (bs ++ ends) ≡ length bs + prefix_len (is_not quote) ends =
          prefix_len-append (is_not quote) bs ends ∙ cond-true (n == length bs) _ _ (eq-eqb n (length bs) whole) in
          let enough : length (bs ++ ends) ≤ prefix_len (is_not quote) (bs ++ ends) = omega (arith, all, blanks_pass quote q ends h, length-append bs ends) in
          cond-false (nat_lt (prefix_len (is_not quote) (bs ++ ends)) (length (bs ++ ends))) _ _ (le-ltb (prefix_len (is_not quote) (bs ++ ends)) (length (bs ++ ends)) enough)
          ∙ sym (cond-false (nat_lt n (length bs)) _ _ e)

  longest_before : (x : ℕ) (long short : Token) → is_blank x ≡ false → longest x (bs ++ ends) long short ≡ longest x bs long short
  longest_before x long short f = ap (λ t. if t then sized long 1 else sized short 0) (begins_before x f bs ends h)

  symbol_before : (b : ℕ) → symbol_piece b (bs ++ ends) ≡ symbol_piece b bs
  symbol_before b =
      if_same (b == 40) (λ _. refl)
      (if_same (b == 41) (λ _. refl)
      (if_same (b == 33) (λ _. longest_before 61 _ _ refl)
      (if_same (b == 38) (λ _. longest_before 38 _ _ refl)
      (if_same (b == 60) (λ _. longest_before 61 _ _ refl)
      (if_same (b == 61) (λ _. longest_before 61 _ _ refl)
      (if_same (b == 62) (λ _. longest_before 61 _ _ refl)
      (if_same (b == 124) (λ _. longest_before 124 _ _ refl) refl)))))))

  piece_before : (due : Bool) (b : ℕ) → piece_of due b (bs ++ ends) ≡ piece_of due b bs
  unfolding piece_of
  piece_before true b = if_same (is_quote b) (quoted_before b) (if_same (is_word_byte b) (λ _. word_before b) (symbol_before b))
  piece_before false b = if_same (is_name_byte b) (λ _. name_before b) (symbol_before b)

-- ---- all pieces

only_blanks : (due : Bool) (skip at : ℕ) (ends : List ℕ) → AllBlank ends → spots_from due skip at ends ≡ []
only_blanks due zero at [] h = refl
only_blanks due (suc skip) at [] h = refl
only_blanks due (suc skip) at (e ∷ ends) h = only_blanks due skip (at + 1) ends h.1
only_blanks due zero at (e ∷ ends) h = cond-true (is_blank e) _ _ h.0 ∙ only_blanks due 0 (at + 1) ends h.1

spots_before : (due : Bool) (skip at : ℕ) (bs ends : List ℕ) → AllBlank ends → spots_from due skip at (bs ++ ends) ≡ spots_from due skip at bs
spots_before due zero at [] ends h = only_blanks due 0 at ends h
spots_before due (suc skip) at [] ends h = only_blanks due (suc skip) at ends h
spots_before due (suc skip) at (b ∷ bs) ends h = spots_before due skip (at + 1) bs ends h
spots_before due zero at (b ∷ bs) ends h =
    ap (λ (p : ReadToken). if is_blank b then spots_from due 0 (at + 1) (bs ++ ends) else (record { at = at; token = p.token } ∷ spots_from (is_comparison p.token) p.more (at + 1) (bs ++ ends))) (piece_before bs ends h due b)
    ∙ by (is_blank b) (spots_before due 0 (at + 1) bs ends h)
    (ap (λ spots. record { at = at; token = (piece_of due b bs).token } ∷ spots) (spots_before (is_comparison (piece_of due b bs).token) (piece_of due b bs).more (at + 1) bs ends h))
  where
    by : (p : Bool) {x y s t : List Spot} → x ≡ s → y ≡ t → (if p then x else y) ≡ (if p then s else t)
    by true e f = e
    by false e f = f

-- ---- the end of a text

blanks_reversed : (bs : List ℕ) → AllBlank bs → AllBlank (reverse bs)
blanks_reversed [] h = tt
blanks_reversed (b ∷ bs) h = subst AllBlank (sym (reverse-append (b ∷ []) bs)) (AllByRecursion-push (λ x. is_blank x ≡ true) (reverse bs) b (blanks_reversed bs h.1) h.0)

first_blanks : (bs : List ℕ) → (front : List ℕ) × (rest : List ℕ) × AllBlank front × (length front ≡ prefix_len is_blank bs) × (front ++ rest ≡ bs)
first_blanks [] = ([], [], tt, refl, refl)
first_blanks (b ∷ bs) = by (is_blank b) refl (first_blanks bs)
  where
    by : (t : Bool) → is_blank b ≡ t → (front : List ℕ) × (rest : List ℕ) × AllBlank front × (length front ≡ prefix_len is_blank bs) × (front ++ rest ≡ bs)
        → (front : List ℕ) × (rest : List ℕ) × AllBlank front × (length front ≡ prefix_len is_blank (b ∷ bs)) × (front ++ rest ≡ b ∷ bs)
    by true e h = (b ∷ h.0, h.1, (e, h.2), sym (cond-true (is_blank b) _ _ e ∙ ap (λ n. 1 + n) (sym h.3) ∙ one-add (length h.0)), ap (λ xs. b ∷ xs) h.4)
    by false e h = ([], b ∷ bs, tt, sym (cond-false (is_blank b) _ _ e), refl)

end_blanks : (text : List ℕ) → (ends : List ℕ) × AllBlank ends × (without_end text ++ ends ≡ text)
end_blanks text =
    let f = first_blanks (reverse text) in
    let whole : reverse f.1 ++ reverse f.0 ≡ text = sym (reverse-append f.0 f.1) ∙ (ap reverse f.4 ∙ reverse-reverse text) in
    let size : length text - prefix_len is_blank (reverse text) ≡ length (reverse f.1) =
    omega (arith, f.3, ap length whole, length-append (reverse f.1) (reverse f.0), length-reverse f.0) in
    let front : without_end text ≡ reverse f.1 =
    ap (λ n. take n text) size ∙ (ap (take (length (reverse f.1))) (sym whole) ∙ take-append_seam (reverse f.1) (reverse f.0)) in
    (reverse f.0, blanks_reversed f.0 f.2, ap (λ bs. bs ++ reverse f.0) front ∙ whole)

-- to cut the blanks at the end changes no token
pub uncut : (text : List ℕ) → spots_from false 0 0 text ≡ spots_from false 0 0 (without_end text)
uncut text =
    let e = end_blanks text in
    ap (spots_from false 0 0) (sym e.2) ∙ spots_before false 0 0 (without_end text) e.0 e.1
