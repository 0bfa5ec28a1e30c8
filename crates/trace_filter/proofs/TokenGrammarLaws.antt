-- The tokens that are found in a text byte by byte are those that its grammar gives.
use Rattle.std.proofs.Common.{◌≡◌, ◌≢◌, ℕ, zero, suc, ◌+◌, ◌≤◌, ◌<◌, ◌==◌, nat_lt, Bool, true, false, not, ◌||◌, if◌then◌else◌, List, [], ◌∷◌, ◌++◌, length, map, take, refl, sym, ap, ◌∙◌, ◌⊎◌, inl, inr, ⊎_elim, ◌↔◌, subst, one-add, arith, append_assoc, length-append}
use Rattle.std.specs.List.{prefix_len, flat_map, AllByRecursion}
use Rattle.std.proofs.lemmas.Bool.{cond-true, cond-false, eqb-true, lt-ltb}
use Rattle.std.proofs.lemmas.Bool.Decides.{nat_tests}
use Rattle.std.proofs.Math.Seq.{take-append_seam, drop-append_seam}
use Rattle.trace_lex.specs.Names.{is_name, is_name_byte}
use Rattle.trace_filter.specs.declared.token.Comparison.TheVariants as comparison
use Rattle.trace_lex.specs.Blanks.{is_blank}
use Rattle.trace_lex.specs.Prefixes.{is_not}
use Rattle.trace_filter.specs.Tokens.{Word, Quoted, Token, Name, Value, Illegible, is_quote, is_word_byte, begins_with, ReadToken, quoted_piece, symbol_piece, piece_of, is_comparison, Spot, spots_from, spots_of}
use Rattle.trace_filter.specs.TokenGrammar.{Sign, Opening, Closing, Negation, Conjunction, Disjunction, Comparing, sign_text, sign_token, IsLongest, first_is, IsRun, Lexeme, Gap, Signed, Run, Bare, Within, lexeme_text, IsLexemeBefore, BeginsLexeme, TextPart, Legible, Stray, IsTextPart, part_text, part_tokens, due_behind, IsText, part_spots, IsWrittenText}
use Rattle.trace_filter.proofs.Ends.{ends, end_len}
use Rattle.trace_filter.proofs.SpotLemmas.{skipped}
use Rattle.trace_filter.proofs.EndBlanks.{sized, no_both, blank_unnamed, uncut}

abbrev located : ℕ → Token → Spot
located at token = record { at = at; token = token }

-- ---- bytes

quote_is : (b : ℕ) → is_quote b ≡ true → (b ≡ 34) ⊎ (b ≡ 39)
quote_is b e = grind (arith, nat_tests)

name_unblank : (b : ℕ) → is_name_byte b ≡ true → is_blank b ≡ false
name_unblank b e = by (is_blank b) refl
  where
    by : (t : Bool) → is_blank b ≡ t → t ≡ false
    by true f = absurd (no_both (is_name_byte b) e (blank_unnamed b f))
    by false f = refl

quote_unblank : (b : ℕ) → is_quote b ≡ true → is_blank b ≡ false
quote_unblank b e = ⊎_elim (λ h. ap is_blank h) (λ h. ap is_blank h) (quote_is b e)

-- a byte of a word is no blank and no quote
word_is : (b : ℕ) → is_word_byte b ≡ true → (is_blank b ≡ false) × (is_quote b ≡ false)
word_is b e = by (is_blank b) ((b == 40 || b == 41) || (b == 38 || b == 124)) (is_quote b) e
  where
    by : (x y z : Bool) → not (x || (y || z)) ≡ true → (x ≡ false) × (z ≡ false)
    by true y z h = absurd (cc)
    by false true z h = absurd (cc)
    by false false true h = absurd (cc)
    by false false false h = (refl, refl)

same_first : (a b : ℕ) (front bs : List ℕ) → a ∷ front ≡ b ∷ bs → a ≡ b
same_first a b front bs e = cc

same_rest : (a b : ℕ) (front bs : List ℕ) → a ∷ front ≡ b ∷ bs → front ≡ bs
same_rest a b front bs e = cc

-- ---- runs

run_len : (kind : ℕ → Bool) (run rest : List ℕ) → IsRun kind run rest → prefix_len kind (run ++ rest) ≡ length run
run_len kind [] [] h = refl
run_len kind [] (b ∷ rest) h = cond-false (kind b) _ _ h.1
run_len kind (b ∷ run) rest h = cond-true (kind b) _ _ h.0.0 ∙ ap (λ n. 1 + n) (run_len kind run rest (h.0.1, h.1)) ∙ one-add (length run)

run_of : (kind : ℕ → Bool) (bs : List ℕ) → (run : List ℕ) × (rest : List ℕ) × IsRun kind run rest × (run ++ rest ≡ bs)
run_of kind [] = ([], [], (tt, refl), refl)
run_of kind (b ∷ bs) = by (kind b) refl (run_of kind bs)
  where
    by : (t : Bool) → kind b ≡ t → (run : List ℕ) × (rest : List ℕ) × IsRun kind run rest × (run ++ rest ≡ bs) → (run : List ℕ) × (rest : List ℕ) × IsRun kind run rest × (run ++ rest ≡ b ∷ bs)
    by true e h = (b ∷ h.0, h.1, ((e, h.2.0), h.2.1), ap (λ xs. b ∷ xs) h.3)
    by false e h = ([], b ∷ bs, (tt, e), refl)

-- ---- the piece that a text begins with

record Leads (due : Bool) (text rest : List ℕ) (token : Token) : Type 0 where
  first : ℕ
  front : List ℕ
  unblank : is_blank first ≡ false
  begins : text ≡ first ∷ front
  piece : piece_of due first (front ++ rest) ≡ sized token (length front)

led_read : (due : Bool) (at : ℕ) (text rest : List ℕ) (token : Token) → Leads due text rest token
    → spots_from due 0 at (text ++ rest) ≡ located at token ∷ spots_from (is_comparison token) 0 (at + length text) rest
led_read due at text rest token l =
    let size : at + 1 + length l.front ≡ at + length text = omega (arith, ap length l.begins) in
    ap (λ bs. spots_from due 0 at (bs ++ rest)) l.begins
    ∙ (cond-false (is_blank l.first) _ _ l.unblank
    ∙ (ap (λ (p : ReadToken). located at p.token ∷ spots_from (is_comparison p.token) p.more (at + 1) (l.front ++ rest)) l.piece
    ∙ ap (λ spots. located at token ∷ spots)
    (skipped (is_comparison token) (length l.front) (at + 1) (l.front ++ rest)
    ∙ (ap (spots_from (is_comparison token) 0 (at + 1 + length l.front)) (drop-append_seam l.front rest) ∙ ap (λ k. spots_from (is_comparison token) 0 k rest) size))))

led_token : (due : Bool) (b : ℕ) (bs text rest : List ℕ) (token : Token) → Leads due text rest token → text ++ rest ≡ b ∷ bs → (piece_of due b bs).token ≡ token
led_token due b bs text rest token l e =
    let whole : l.first ∷ l.front ++ rest ≡ b ∷ bs = ap (λ xs. xs ++ rest) (sym l.begins) ∙ e in
    ap (λ x. (piece_of due x bs).token) (sym (same_first l.first b (l.front ++ rest) bs whole))
    ∙ (ap (λ xs. (piece_of due l.first xs).token) (sym (same_rest l.first b (l.front ++ rest) bs whole)) ∙ ap (λ (p : ReadToken). p.token) l.piece)

-- ---- signs

record IsSymbol (sign : Sign) (rest : List ℕ) : Type 0 where
  first : ℕ
  front : List ℕ
  text : sign_text sign ≡ first ∷ front
  unblank : is_blank first ≡ false
  unnamed : is_name_byte first ≡ false
  unquoted : is_quote first ≡ false
  piece : symbol_piece first (front ++ rest) ≡ sized (sign_token sign) (length front)

symbol : (sign : Sign) (rest : List ℕ) → IsLongest sign rest → IsSymbol sign rest
symbol Opening rest h = record { first = 40; front = []; text = refl; unblank = refl; unnamed = refl; unquoted = refl; piece = refl }
symbol Closing rest h = record { first = 41; front = []; text = refl; unblank = refl; unnamed = refl; unquoted = refl; piece = refl }
symbol Negation rest h = record { first = 33; front = []; text = refl; unblank = refl; unnamed = refl; unquoted = refl; piece = cond-false (begins_with 61 rest) _ _ h }
symbol Conjunction rest h = record { first = 38; front = 38 ∷ []; text = refl; unblank = refl; unnamed = refl; unquoted = refl; piece = refl }
symbol Disjunction rest h = record { first = 124; front = 124 ∷ []; text = refl; unblank = refl; unnamed = refl; unquoted = refl; piece = refl }
symbol (Comparing comparison.Eq) rest h = record { first = 61; front = 61 ∷ []; text = refl; unblank = refl; unnamed = refl; unquoted = refl; piece = refl }
symbol (Comparing comparison.Ne) rest h = record { first = 33; front = 61 ∷ []; text = refl; unblank = refl; unnamed = refl; unquoted = refl; piece = refl }
symbol (Comparing comparison.Le) rest h = record { first = 60; front = 61 ∷ []; text = refl; unblank = refl; unnamed = refl; unquoted = refl; piece = refl }
symbol (Comparing comparison.Ge) rest h = record { first = 62; front = 61 ∷ []; text = refl; unblank = refl; unnamed = refl; unquoted = refl; piece = refl }
symbol (Comparing comparison.Lt) rest h = record { first = 60; front = []; text = refl; unblank = refl; unnamed = refl; unquoted = refl; piece = cond-false (begins_with 61 rest) _ _ h }
symbol (Comparing comparison.Gt) rest h = record { first = 62; front = []; text = refl; unblank = refl; unnamed = refl; unquoted = refl; piece = cond-false (begins_with 61 rest) _ _ h }
symbol (Comparing comparison.BitAnd) rest h = record { first = 38; front = []; text = refl; unblank = refl; unnamed = refl; unquoted = refl; piece = cond-false (begins_with 38 rest) _ _ h }
symbol (Comparing comparison.Glob) rest h = record { first = 126; front = []; text = refl; unblank = refl; unnamed = refl; unquoted = refl; piece = refl }

sign_leads : (due : Bool) (sign : Sign) (rest : List ℕ) → IsLexemeBefore due rest (Signed sign) → Leads due (sign_text sign) rest (sign_token sign)
unfolding piece_of
sign_leads true sign rest h =
    let s = symbol sign rest h.1 in
    record {
      first = s.first;
      front = s.front;
      unblank = s.unblank;
      begins = s.text;
      piece = cond-false (is_quote s.first) _ _ s.unquoted ∙ (cond-false (is_word_byte s.first) _ _ (ap (first_is is_word_byte) (sym s.text) ∙ h.0) ∙ s.piece);
    }
sign_leads false sign rest h =
    let s = symbol sign rest h in
    record { first = s.first; front = s.front; unblank = s.unblank; begins = s.text; piece = cond-false (is_name_byte s.first) _ _ s.unnamed ∙ s.piece }

-- a sign begins, or its piece fits nothing
data Found (b : ℕ) (bs : List ℕ) (piece : ReadToken) : Type 0 where
  a_sign : (sign : Sign) (rest : List ℕ) → IsLongest sign rest → sign_text sign ++ rest ≡ b ∷ bs → Found b bs piece
  no_sign : piece ≡ sized Illegible 0 → Found b bs piece

module _ (b : ℕ) (bs : List ℕ) where
  test : (p : Bool) (then_piece else_piece : ReadToken) → (p ≡ true → Found b bs then_piece) → (p ≡ false → Found b bs else_piece) → Found b bs (if p then then_piece else else_piece)
  test true then_piece else_piece f g = f refl
  test false then_piece else_piece f g = g refl

  one : (piece : ReadToken) (sign : Sign) (x : ℕ) → IsLongest sign bs → sign_text sign ≡ x ∷ [] → (b == x) ≡ true → Found b bs piece
  one piece sign x h t e = a_sign sign bs h (ap (λ front. front ++ bs) t ∙ ap (λ c. c ∷ bs) (sym (eqb-true b x e)))

  two : (piece : ReadToken) (sign : Sign) (x y : ℕ) → ((rest : List ℕ) → IsLongest sign rest) → sign_text sign ≡ x ∷ y ∷ [] → (b == x) ≡ true → begins_with y bs ≡ true → Found b bs piece
  two piece sign x y h t e f =
      let r = behind bs f in
      a_sign sign r.0 (h r.0) (ap (λ front. front ++ r.0) t ∙ (ap (λ xs. x ∷ xs) r.1 ∙ ap (λ c. c ∷ bs) (sym (eqb-true b x e))))
    where
      behind : (xs : List ℕ) → begins_with y xs ≡ true → (rest : List ℕ) × (y ∷ rest ≡ xs)
      behind [] g = absurd (cc)
      behind (c ∷ cs) g = (cs, ap (λ z. z ∷ cs) (sym (eqb-true c y g)))

  sign_or_misfit : Found b bs (symbol_piece b bs)
  sign_or_misfit =
      test (b == 40) _ _ (one _ Opening 40 tt refl)
      (λ _. test (b == 41) _ _ (one _ Closing 41 tt refl)
      (λ _. test (b == 33) _ _ (λ e. test (begins_with 61 bs) _ _ (two _ (Comparing comparison.Ne) 33 61 (λ _. tt) refl e) (λ f. one _ Negation 33 f refl e))
      (λ _. test (b == 38) _ _ (λ e. test (begins_with 38 bs) _ _ (two _ Conjunction 38 38 (λ _. tt) refl e) (λ f. one _ (Comparing comparison.BitAnd) 38 f refl e))
      (λ _. test (b == 60) _ _ (λ e. test (begins_with 61 bs) _ _ (two _ (Comparing comparison.Le) 60 61 (λ _. tt) refl e) (λ f. one _ (Comparing comparison.Lt) 60 f refl e))
      (λ _. test (b == 61) _ _ (λ e. test (begins_with 61 bs) _ _ (two _ (Comparing comparison.Eq) 61 61 (λ _. tt) refl e) (λ f. no_sign refl))
      (λ _. test (b == 62) _ _ (λ e. test (begins_with 61 bs) _ _ (two _ (Comparing comparison.Ge) 62 61 (λ _. tt) refl e) (λ f. one _ (Comparing comparison.Gt) 62 f refl e))
      (λ _. test (b == 124) _ _ (λ e. test (begins_with 124 bs) _ _ (two _ Disjunction 124 124 (λ _. tt) refl e) (λ f. no_sign refl))
      (λ _. test (b == 126) _ _ (one _ (Comparing comparison.Glob) 126 tt refl)
      (λ _. no_sign refl)))))))))

-- ---- names and values

run_leads : (first : ℕ) (more rest : List ℕ) → IsRun is_name_byte (first ∷ more) rest → Leads false (first ∷ more) rest (if is_name (first ∷ more) then Name (first ∷ more) else Illegible)
unfolding piece_of
run_leads first more rest h =
    record {
      first = first;
      front = more;
      unblank = name_unblank first h.0.0;
      begins = refl;
      piece = cond-true (is_name_byte first) _ _ h.0.0
          ∙ (ap (λ n. sized (if is_name (first ∷ take n (more ++ rest)) then Name (first ∷ take n (more ++ rest)) else Illegible) n) (run_len is_name_byte more rest (h.0.1, h.1))
          ∙ ap (λ (bs : List ℕ). sized (if is_name (first ∷ bs) then Name (first ∷ bs) else Illegible) (length more)) (take-append_seam more rest));
    }

bare_leads : (first : ℕ) (more rest : List ℕ) → IsRun is_word_byte (first ∷ more) rest → Leads true (first ∷ more) rest (Value (Word (first ∷ more)))
unfolding piece_of
bare_leads first more rest h =
    let w = word_is first h.0.0 in
    record {
      first = first;
      front = more;
      unblank = w.0;
      begins = refl;
      piece = cond-false (is_quote first) _ _ w.1
          ∙ (cond-true (is_word_byte first) _ _ h.0.0
          ∙ (ap (λ n. sized (Value (Word (first ∷ take n (more ++ rest)))) n) (run_len is_word_byte more rest (h.0.1, h.1))
          ∙ ap (λ bs. sized (Value (Word (first ∷ bs))) (length more)) (take-append_seam more rest)));
    }

quoted_is : (quote : ℕ) (inside rest : List ℕ) → AllByRecursion (λ b. b ≢ quote) inside → quoted_piece quote (inside ++ quote ∷ rest) ≡ sized (Value (Quoted inside)) (length inside + 1)
quoted_is quote inside rest h =
    let bytes : List ℕ = inside ++ quote ∷ rest in
    let less : length inside < length bytes = omega (arith, length-append inside (quote ∷ rest)) in
    ap (λ n. if nat_lt n (length bytes) then sized (Value (Quoted (take n bytes))) (n + 1) else sized Illegible 0) (end_len quote inside rest h)
    ∙ (cond-true (nat_lt (length inside) (length bytes)) _ _ (lt-ltb (length inside) (length bytes) less)
    ∙ ap (λ bs. sized (Value (Quoted bs)) (length inside + 1)) (take-append_seam inside (quote ∷ rest)))

within_leads : (quote : ℕ) (inside rest : List ℕ) → is_quote quote ≡ true → AllByRecursion (λ b. b ≢ quote) inside
    → Leads true (quote ∷ inside ++ quote ∷ []) rest (Value (Quoted inside))
unfolding piece_of
within_leads quote inside rest q h =
    let size : length inside + 1 ≡ length (inside ++ quote ∷ []) = omega (arith, length-append inside (quote ∷ [])) in
    record {
      first = quote;
      front = inside ++ quote ∷ [];
      unblank = quote_unblank quote q;
      begins = refl;
      piece = cond-true (is_quote quote) _ _ q
          ∙ (ap (quoted_piece quote) (append_assoc inside (quote ∷ []) rest) ∙ (quoted_is quote inside rest h ∙ ap (sized (Value (Quoted inside))) size));
    }

-- ---- what reads, or a stray byte

record IsStray (due : Bool) (b : ℕ) (bs : List ℕ) : Type 0 where
  unblank : is_blank b ≡ false
  unnamed : due ≡ false → is_name_byte b ≡ false
  piece : piece_of due b bs ≡ sized Illegible 0

module _ (b : ℕ) (bs : List ℕ) (unblank : is_blank b ≡ false) where
  value_or_stray : (q w : Bool) → is_quote b ≡ q → is_word_byte b ≡ w → BeginsLexeme true (b ∷ bs) ⊎ IsStray true b bs
  unfolding piece_of
  value_or_stray true w e f =
      elim (ends b bs) [
        | inl h ↦ inl (record { lexeme = Within b h.0; rest = h.1; lawful = (e, h.2); text = ap (λ xs. b ∷ xs) (append_assoc h.0 (b ∷ []) h.1 ∙ h.3) })
        | inr h ↦ inr (record {
          unblank = unblank;
          unnamed = (λ d. absurd (cc));
          piece = cond-true (is_quote b) _ _ e ∙ cond-false (nat_lt (prefix_len (is_not b) bs) (length bs)) _ _ h;
        })
      ]
  value_or_stray false true e f =
      let r = run_of is_word_byte bs in
      inl (record { lexeme = Bare b r.0; rest = r.1; lawful = ((f, r.2.0), r.2.1); text = ap (λ xs. b ∷ xs) r.3 })
  value_or_stray false false e f =
      elim (sign_or_misfit b bs) [
        | a_sign sign rest h t ↦
            let s = symbol sign rest h in
            let first : s.first ≡ b = same_first s.first b (s.front ++ rest) bs (ap (λ xs. xs ++ rest) (sym s.text) ∙ t) in
            inl (record { lexeme = Signed sign; rest = rest; lawful = (ap (first_is is_word_byte) s.text ∙ (ap is_word_byte first ∙ f), h); text = t })
        | no_sign h ↦ inr (record {
          unblank = unblank;
          unnamed = (λ d. absurd (cc));
          piece = cond-false (is_quote b) _ _ e ∙ (cond-false (is_word_byte b) _ _ f ∙ h);
        })
      ]

  name_or_stray : (n : Bool) → is_name_byte b ≡ n → BeginsLexeme false (b ∷ bs) ⊎ IsStray false b bs
  unfolding piece_of
  name_or_stray true e =
      let r = run_of is_name_byte bs in
      inl (record { lexeme = Run b r.0; rest = r.1; lawful = ((e, r.2.0), r.2.1); text = ap (λ xs. b ∷ xs) r.3 })
  name_or_stray false e =
      elim (sign_or_misfit b bs) [
        | a_sign sign rest h t ↦ inl (record { lexeme = Signed sign; rest = rest; lawful = h; text = t })
        | no_sign h ↦ inr (record { unblank = unblank; unnamed = (λ _. e); piece = cond-false (is_name_byte b) _ _ e ∙ h })
      ]

reads_or_stray : (due : Bool) (b : ℕ) (bs : List ℕ) → BeginsLexeme due (b ∷ bs) ⊎ IsStray due b bs
reads_or_stray due b bs = by (is_blank b) refl due
  where
    by : (t : Bool) → is_blank b ≡ t → (due : Bool) → BeginsLexeme due (b ∷ bs) ⊎ IsStray due b bs
    by true e due = inl (record { lexeme = Gap b; rest = bs; lawful = e; text = refl })
    by false e true = value_or_stray b bs e (is_quote b) (is_word_byte b) refl refl
    by false e false = name_or_stray b bs e (is_name_byte b) refl

-- not both
sign_is_no_misfit : (sign : Sign) → sign_token sign ≡ Illegible → ⊥
sign_is_no_misfit Opening e = cc
sign_is_no_misfit Closing e = cc
sign_is_no_misfit Negation e = cc
sign_is_no_misfit Conjunction e = cc
sign_is_no_misfit Disjunction e = cc
sign_is_no_misfit (Comparing comparison) e = cc

stray_reads_not : (due : Bool) (b : ℕ) (bs : List ℕ) → IsStray due b bs → BeginsLexeme due (b ∷ bs) → ⊥
stray_reads_not due b bs s r = none due s r.lexeme r.lawful r.text
  where
    misfit : (due : Bool) (text : List ℕ) (token : Token) → IsStray due b bs → Leads due text r.rest token → text ++ r.rest ≡ b ∷ bs → token ≡ Illegible
    misfit due text token s l e = sym (led_token due b bs text r.rest token l e) ∙ ap (λ (p : ReadToken). p.token) s.piece

    none : (due : Bool) → IsStray due b bs → (lexeme : Lexeme) → IsLexemeBefore due r.rest lexeme → lexeme_text lexeme ++ r.rest ≡ b ∷ bs → ⊥
    none due s (Gap blank) h e = no_both (is_blank b) (ap is_blank (sym (same_first blank b r.rest bs e)) ∙ h) s.unblank
    none due s (Signed sign) h e = sign_is_no_misfit sign (misfit due (sign_text sign) (sign_token sign) s (sign_leads due sign r.rest h) e)
    none true s (Run first more) h e = h
    none false s (Run first more) h e = no_both (is_name_byte b) (ap is_name_byte (sym (same_first first b (more ++ r.rest) bs e)) ∙ h.0.0) (s.unnamed refl)
    none true s (Bare first more) h e =
        let m = misfit true (first ∷ more) (Value (Word (first ∷ more))) s (bare_leads first more r.rest h) e in absurd (cc)
    none false s (Bare first more) h e = h
    none true s (Within quote inside) h e =
        let m = misfit true (quote ∷ inside ++ quote ∷ []) (Value (Quoted inside)) s (within_leads quote inside r.rest h.0 h.1) e in absurd (cc)
    none false s (Within quote inside) h e = h

-- ---- what is written is read

part_read : (due : Bool) (at : ℕ) (part : TextPart) (rest : List ℕ) → IsTextPart due rest part
    → spots_from due 0 at (part_text part ++ rest) ≡ map (located at) (part_tokens part) ++ spots_from (due_behind due (part_tokens part)) 0 (at + length (part_text part)) rest
part_read due at (Legible (Gap blank)) rest h = cond-true (is_blank blank) _ _ h
part_read due at (Legible (Signed sign)) rest h = led_read due at (sign_text sign) rest (sign_token sign) (sign_leads due sign rest h)
part_read true at (Legible (Run first more)) rest h = absurd h
part_read false at (Legible (Run first more)) rest h = led_read false at (first ∷ more) rest (if is_name (first ∷ more) then Name (first ∷ more) else Illegible) (run_leads first more rest h)
part_read true at (Legible (Bare first more)) rest h = led_read true at (first ∷ more) rest (Value (Word (first ∷ more))) (bare_leads first more rest h)
part_read false at (Legible (Bare first more)) rest h = absurd h
part_read true at (Legible (Within quote inside)) rest h = led_read true at (quote ∷ inside ++ quote ∷ []) rest (Value (Quoted inside)) (within_leads quote inside rest h.0 h.1)
part_read false at (Legible (Within quote inside)) rest h = absurd h
part_read due at (Stray b) rest h =
    elim (reads_or_stray due b rest) [
      | inl r ↦ absurd (h r)
      | inr s ↦ led_read due at (b ∷ []) rest Illegible (record { first = b; front = []; unblank = s.unblank; begins = refl; piece = s.piece })
    ]

text_read : (due : Bool) (at : ℕ) (parts : List TextPart) → IsText due parts → part_spots at parts ≡ spots_from due 0 at (flat_map part_text parts)
text_read due at [] h = refl
text_read due at (part ∷ parts) h =
    ap (λ spots. map (located at) (part_tokens part) ++ spots) (text_read (due_behind due (part_tokens part)) (at + length (part_text part)) parts h.1)
    ∙ sym (part_read due at part (flat_map part_text parts) h.0)

-- ---- each text is written

first_part : (due : Bool) (b : ℕ) (bs : List ℕ) → (part : TextPart) × (rest : List ℕ) × IsTextPart due rest part × (part_text part ++ rest ≡ b ∷ bs)
first_part due b bs =
    elim (reads_or_stray due b bs) [
      | inl r ↦ (Legible r.lexeme, r.rest, r.lawful, r.text)
      | inr s ↦ (Stray b, bs, stray_reads_not due b bs s, refl)
    ]

has_a_byte : (part : TextPart) → 1 ≤ length (part_text part)
has_a_byte (Legible (Gap blank)) = omega arith
has_a_byte (Legible (Signed Opening)) = omega arith
has_a_byte (Legible (Signed Closing)) = omega arith
has_a_byte (Legible (Signed Negation)) = omega arith
has_a_byte (Legible (Signed Conjunction)) = omega arith
has_a_byte (Legible (Signed Disjunction)) = omega arith
has_a_byte (Legible (Signed (Comparing comparison.Eq))) = omega arith
has_a_byte (Legible (Signed (Comparing comparison.Ne))) = omega arith
has_a_byte (Legible (Signed (Comparing comparison.Le))) = omega arith
has_a_byte (Legible (Signed (Comparing comparison.Ge))) = omega arith
has_a_byte (Legible (Signed (Comparing comparison.Lt))) = omega arith
has_a_byte (Legible (Signed (Comparing comparison.Gt))) = omega arith
has_a_byte (Legible (Signed (Comparing comparison.BitAnd))) = omega arith
has_a_byte (Legible (Signed (Comparing comparison.Glob))) = omega arith
has_a_byte (Legible (Run first more)) = omega arith
has_a_byte (Legible (Bare first more)) = omega arith
has_a_byte (Legible (Within quote inside)) = omega arith
has_a_byte (Stray b) = omega arith

-- the parts of a text of so many bytes at most
spelled : (limit : ℕ) (due : Bool) (text : List ℕ) → length text ≤ limit → (parts : List TextPart) × IsText due parts × (flat_map part_text parts ≡ text)
spelled limit due [] h = ([], tt, refl)
spelled zero due (b ∷ bs) h = absurd (omega (arith, h))
spelled (suc limit) due (b ∷ bs) h =
    let p = first_part due b bs in
    let size : length (part_text p.0) + length p.1 ≡ suc (length bs) = sym (length-append (part_text p.0) p.1) ∙ ap length p.3 in
    let others = spelled limit (due_behind due (part_tokens p.0)) p.1 (omega (arith, h, size, has_a_byte p.0)) in
    (p.0 ∷ others.0, (subst (λ bytes. IsTextPart due bytes p.0) (sym others.2) p.2, others.1), ap (λ bytes. part_text p.0 ++ bytes) others.2 ∙ p.3)

pub tokens_are_as_written : (text : List ℕ) (spots : List Spot) → IsWrittenText text spots ↔ (spots ≡ spots_of text)
tokens_are_as_written text spots = (
  (λ w. sym w.meaning ∙ (text_read false 0 w.parts w.lawful ∙ (ap (spots_from false 0 0) w.written ∙ uncut text))),
  (λ e.
      let s = spelled (length text) false text (omega arith) in
      record { parts = s.0; lawful = s.1; written = s.2; meaning = text_read false 0 s.0 s.1 ∙ (ap (spots_from false 0 0) s.2 ∙ (uncut text ∙ sym e)) }),
)
