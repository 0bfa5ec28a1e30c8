-- The lines of a script.
use Rattle.std.proofs.Common.{◌≡◌, ℕ, ◌+◌, ◌-◌, ◌==◌, ◌<◌, ◌≤◌, Bool, true, false, not, cond, ltb, List, [], ◌∷◌, length, take, drop, position, Option, Some, None, refl, ap, sym, ◌∙◌, ◌⊎◌, inl, inr, arith, length-drop}
use Rattle.std.proofs.lemmas.Bool.{cases_lt, eqb-true}
use Rattle.std.proofs.lemmas.List.{drop-drop, take_all, take_rest}
use Rattle.std.proofs.lemmas.List.Splits.{slice_split_first}
use borrow.Author.Tests.{ltb-true, ltb-false}
use Rattle.std.proofs.lemmas.Option.{cond_some}
use Rattle.std.proofs.lemmas.Bool.Decides.{nat_tests}
use Rattle.std.proofs.lemmas.List.Sums.{position_or_len_is, prefix_len-le-length}
use Rattle.memchr.specs.Find.{IsFirstByte, is_byte}
use Rattle.std.specs.List.{onto_first, position_or_len}
use Rattle.trace_script.specs.PlainEmissions.{line_len, line_in}
use Rattle.script_reader.specs.ScriptLines.{lines_of}

no_newline_step : (t : Bool) (b : ℕ) (bs : List ℕ) (n : ℕ) (parts : List (List ℕ)) → length (b ∷ bs) ≤ cond (not t) (1 + n) 0 → (length bs ≤ n → parts ≡ bs ∷ [])
    → cond t ([] ∷ parts) (onto_first b parts) ≡ (b ∷ bs) ∷ []
no_newline_step true b bs n parts h rest = absurd (omega arith)
no_newline_step false b bs n parts h rest = ap (onto_first b) (rest (omega arith))

no_newline : (text : List ℕ) → length text ≤ position_or_len (λ b. b == 10) text → lines_of text ≡ text ∷ []
no_newline [] h = refl
no_newline (b ∷ bs) h = no_newline_step (b == 10) b bs (position_or_len (λ b. b == 10) bs) (lines_of bs) h (no_newline bs)

-- a line ends at the first newline
pub line_at : (text : List ℕ) (at : ℕ) → position (λ b. b == 10) text ≡ Some at → lines_of text ≡ take at text ∷ lines_of (take (length text - (at + 1)) (drop (at + 1) text))
line_at text at e =
    let p : ℕ → Bool = λ b. b == 10 in
    let h = cond_some (ltb (position_or_len p text) (length text)) (position_or_len p text) at e in
    slice_split_first p text 0 (ltb-true _ _ h.0)
    ∙ (ap (λ (n : ℕ). take n text ∷ lines_of (drop (n + 1) text)) h.1
    ∙ ap (λ (rest : List ℕ). take at text ∷ lines_of rest) (sym (take_rest text (at + 1))))

none_where : (t : Bool) (n : ℕ) → cond t (Some n) None ≡ None → t ≡ false
none_where true n e = absurd (cc)
none_where false n e = refl

-- without a newline the text is one line
pub line_alone : (text : List ℕ) → position (λ b. b == 10) text ≡ None → lines_of text ≡ text ∷ []
line_alone text e =
    let p : ℕ → Bool = λ b. b == 10 in
    let h = none_where (ltb (position_or_len p text) (length text)) (position_or_len p text) e in
    no_newline text (omega (arith, ltb-false _ _ h))

-- ---- where the first newline is

not_true : (t : Bool) → (t ≡ true → ⊥) → t ≡ false
not_true true h = absurd (h refl)
not_true false h = refl

position_some : (p : ℕ → Bool) (text : List ℕ) (at : ℕ) → position_or_len p text ≡ at → at < length text → Some at ≡ position p text
position_some p text at e h =
    let t : ltb at (length text) ≡ true = grind (arith, nat_tests) in
    sym (ap (λ (n : ℕ). cond (ltb n (length text)) (Some n) None) e ∙ ap (λ (b : Bool). cond b (Some at) None) t)

position_none : (p : ℕ → Bool) (text : List ℕ) → position_or_len p text ≡ length text → None ≡ position p text
position_none p text e =
    let t : ltb (length text) (length text) ≡ false = grind (arith, nat_tests) in
    sym (ap (λ (n : ℕ). cond (ltb n (length text)) (Some n) None) e ∙ ap (λ (b : Bool). cond b (Some (length text)) None) t)

-- the first byte that a search finds is at the first place
pub found_at : (byte : ℕ) (text : List ℕ) (found : Option ℕ) → IsFirstByte (is_byte byte) text found → found ≡ position (is_byte byte) text
found_at byte text None h =
    position_none (is_byte byte) text
    (position_or_len_is (is_byte byte) text (length text) 0 (omega arith) (λ k lt. not_true _ (h k (omega arith) lt)) (λ lt. absurd (omega arith)))
found_at byte text (Some at) h =
    position_some (is_byte byte) text at
    (position_or_len_is (is_byte byte) text at 0 (omega (arith, h.0.high)) (λ k lt. not_true _ (h.0.before k (omega arith) lt)) (λ lt. h.1)) h.0.high

-- ---- the first line, of which its length is known

pub len_le : (text : List ℕ) → line_len text ≤ length text
len_le text = prefix_len-le-length (λ b. not (b == 10)) text

some_bytes : (xs : List ℕ) → (length xs == 0) ≡ false → 0 < length xs
some_bytes [] e = absurd cc
some_bytes (b ∷ bs) e = omega arith

no_bytes : (xs : List ℕ) → (length xs == 0) ≡ true → length xs ≡ 0
no_bytes xs e = eqb-true (length xs) 0 e

module _ (text line after : List ℕ) (n : ℕ) (is : n ≡ line_len text) (front : line ≡ take n text) (back : after ≡ drop n text) where
  pub first_line_is : line ≡ line_in text
  first_line_is = front ∙ ap (λ (k : ℕ). take k text) is

  pub line_then : (rest : List ℕ) → (length after == 0) ≡ false → rest ≡ drop 1 after → lines_of text ≡ line ∷ lines_of rest
  line_then rest some left =
      let less : line_len text < length text = omega (arith, some_bytes after some, ap length back, length-drop n text, is) in
      slice_split_first (λ b. b == 10) text 0 less
      ∙ ap (λ (k : ℕ). take k text ∷ lines_of (drop (k + 1) text)) (sym is)
      ∙ ap (λ (xs : List ℕ). xs ∷ lines_of (drop (n + 1) text)) (sym front)
      ∙ ap (λ (xs : List ℕ). line ∷ lines_of xs) (sym (left ∙ ap (drop 1) back ∙ drop-drop 1 n text))

  pub line_last : (length after == 0) ≡ true → lines_of text ≡ line ∷ []
  line_last none =
      let all : length text ≤ n = omega (arith, no_bytes after none, ap length back, length-drop n text) in
      no_newline text (omega (arith, is, all)) ∙ ap (λ (xs : List ℕ). xs ∷ []) (sym (front ∙ take_all n text all))

  pub rest_shorter : (rest : List ℕ) → (length after == 0) ≡ false → rest ≡ drop 1 after → length rest + 1 ≤ length text
  rest_shorter rest some left =
      omega (arith, some_bytes after some, ap length back, length-drop n text, ap length left, length-drop 1 after)

-- the lines of a text begin with that
pub first_of : (text : List ℕ) → (more : List (List ℕ)) × (lines_of text ≡ line_in text ∷ more)
first_of text = by_test (cases_lt (line_len text) (length text))
  where
    by_test : (line_len text < length text) ⊎ (length text ≤ line_len text) → (more : List (List ℕ)) × (lines_of text ≡ line_in text ∷ more)
    by_test (inl less) = (lines_of (drop (line_len text + 1) text), slice_split_first (λ b. b == 10) text 0 less)
    by_test (inr all) = ([], no_newline text all ∙ ap (λ (xs : List ℕ). xs ∷ []) (sym (take_all (line_len text) text all)))
