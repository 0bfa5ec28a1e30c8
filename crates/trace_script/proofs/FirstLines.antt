-- The line that a text begins with, if it is an emission: its end is found by the first byte that no bare line has.
use Rattle.std.proofs.Common.{◌≡◌, ◌≢◌, ℕ, zero, suc, ◌+◌, ◌<◌, ◌≤◌, Bool, true, false, not, ◌==◌, cond, List, [], ◌∷◌, ◌++◌, length, get_or, take, drop, Result, IsErr, codes, refl, ap, sym, ◌∙◌, inl, inr, arith}
use Rattle.std.proofs.Common.{append_assoc, length-append, drop-cons}
use Rattle.std.proofs.Math.Seq.{take-append-add}
use Rattle.std.proofs.lemmas.Bool.{eqb-true, eq-eqb, cases_lt}
use Rattle.std.proofs.lemmas.List.{get_or-take, length-take, length-take-le, take-append-drop}
use Rattle.std.proofs.lemmas.List.Sums.{prefix_len-le-length, prefix_len_passes, prefix_len_stops}
use Rattle.std.specs.List.{prefix_len}
use Rattle.trace_script.specs.Lines.{line_of}
use Rattle.trace_script.specs.PlainEmissions.{is_spaced, line_len, line_in, IsPlainEmission}
use Rattle.trace_script.specs.private.Bytes.{rank, highest_rank, is_rare}
use Rattle.trace_script.specs.private.Emissions.{asked_after_emit, emission_in}
use Rattle.trace_script.specs.declared.fault.ScriptFault.{ScriptFault}
use Rattle.trace_script.specs.declared.line.Line.{Line}
use Rattle.trace_script.proofs.BareEmissions.{line_said, not_found, plain_bare, plain_rest, plain_short, rest_is_bare}
use Rattle.trace_script.proofs.MarkLemmas.{on_from}

abbrev in_line : ℕ → Bool
in_line b = not (b == 10)

abbrev is_bare : ℕ → Bool
is_bare b = not (is_rare b)

-- ---- bytes

bare_in_line : (b : ℕ) → is_bare b ≡ true → in_line b ≡ true
bare_in_line b e = by_test (b == 10) refl
  where
    by_test : (t : Bool) → (b == 10) ≡ t → not t ≡ true
    by_test false f = refl
    by_test true f =
        let same : b ≡ 10 = eqb-true b 10 f in
        let no : false ≡ true = sym (ap is_bare same) ∙ e in
        absurd cc

bare_rank : (b : ℕ) → is_bare b ≡ true → rank b ≡ 0
bare_rank b e = by_test (rank b == 0) refl e
  where
    by_test : (t : Bool) → (rank b == 0) ≡ t → not (not t) ≡ true → rank b ≡ 0
    by_test true f e = eqb-true (rank b) 0 f
    by_test false f e = absurd cc

rank_bare : (b : ℕ) → rank b ≡ 0 → is_bare b ≡ true
rank_bare b e = ap (λ (t : Bool). not (not t)) (eq-eqb (rank b) 0 e)

rank_at : (xs : List ℕ) (k : ℕ) → highest_rank xs ≡ 0 → k < length xs → rank (get_or xs k 0) ≡ 0
rank_at [] k bare h = absurd (omega (arith, h))
rank_at (b ∷ bs) zero bare h = omega (arith, bare)
rank_at (b ∷ bs) (suc k) bare h = rank_at bs k (omega (arith, bare)) (omega (arith, h))

-- ---- how far a bare line goes

no_more : (xs : List ℕ) → prefix_len is_bare xs ≤ prefix_len in_line xs
no_more [] = omega arith
no_more (b ∷ bs) = by_test (is_bare b) refl (no_more bs)
  where
    by_test : (t : Bool) → is_bare b ≡ t → prefix_len is_bare bs ≤ prefix_len in_line bs → cond t (1 + prefix_len is_bare bs) 0 ≤ cond (in_line b) (1 + prefix_len in_line bs) 0
    by_test true e ih = rw (bare_in_line b e) (omega (arith, ih))
    by_test false e ih = omega arith

bare_front : (xs : List ℕ) → highest_rank (take (prefix_len is_bare xs) xs) ≡ 0
bare_front [] = refl
bare_front (b ∷ bs) = by_test (is_bare b) refl (bare_front bs)
  where
    by_test : (t : Bool) → is_bare b ≡ t → highest_rank (take (prefix_len is_bare bs) bs) ≡ 0 → highest_rank (take (cond t (1 + prefix_len is_bare bs) 0) (b ∷ bs)) ≡ 0
    by_test true e ih =
        let one : 1 + prefix_len is_bare bs ≡ suc (prefix_len is_bare bs) = omega arith in
        ap (λ (n : ℕ). highest_rank (take n (b ∷ bs))) one ∙ omega (arith, bare_rank b e, ih)
    by_test false e ih = refl

module _ (n : ℕ) (xs : List ℕ) (is : n ≡ prefix_len is_bare xs) where
  pub bare_taken : highest_rank (take n xs) ≡ 0
  bare_taken = ap (λ (k : ℕ). highest_rank (take k xs)) is ∙ bare_front xs

  pub ends_with_text : length xs ≤ n → n ≡ line_len xs
  ends_with_text all = omega (arith, is, no_more xs, prefix_len-le-length in_line xs)

  pub ends_at_newline : get_or xs n 0 ≡ 10 → n ≡ line_len xs
  ends_at_newline newline = elim (cases_lt n (line_len xs)) [
    | inl more ↦ absurd (
        let passes : in_line (get_or xs n 0) ≡ true = prefix_len_passes in_line xs n 0 more in
        let no : false ≡ true = sym (ap in_line newline) ∙ passes in
        cc)
    | inr less ↦ omega (arith, less, is, no_more xs)
  ]

  pub goes_on_rare : n < length xs → get_or xs n 0 ≢ 10 → highest_rank (line_in xs) ≡ 0 → ⊥
  goes_on_rare less other bare =
      let here = get_or xs n 0 in
      let passes : in_line here ≡ true = in_line_other here other in
      let next : prefix_len in_line (drop n xs) ≡ 1 + prefix_len in_line (drop (suc n) xs) =
      ap (prefix_len in_line) (drop-cons xs n 0 less) ∙ ap (λ (t : Bool). cond t (1 + prefix_len in_line (drop (suc n) xs)) 0) passes in
      let more : n < line_len xs = omega (arith, on_from in_line n xs (omega (arith, is, no_more xs)), next) in
      let there : n < length (line_in xs) = omega (arith, length-take (line_len xs) xs, more, less) in
      let quiet : rank here ≡ 0 = ap rank (sym (get_or-take (line_len xs) xs n 0 more)) ∙ rank_at (line_in xs) n bare there in
      let stops : is_bare (get_or xs (prefix_len is_bare xs) 0) ≡ false = prefix_len_stops is_bare xs 0 (omega (arith, is, less)) in
      let no : false ≡ true = sym stops ∙ ap (λ (k : ℕ). is_bare (get_or xs k 0)) (sym is) ∙ rank_bare here quiet in
      cc
    where
      in_line_other : (b : ℕ) → b ≢ 10 → in_line b ≡ true
      in_line_other b other = by_test (b == 10) refl
        where
          by_test : (t : Bool) → (b == 10) ≡ t → not t ≡ true
          by_test false f = refl
          by_test true f = absurd (other (eqb-true b 10 f))

-- ---- the line of an emission

bare_emit : (rest : List ℕ) → highest_rank rest ≡ 0 → highest_rank (codes "emit " ++ rest) ≡ 0
bare_emit rest bare = omega (arith, bare)

module _ (text rest : List ℕ) (is : text ≡ codes "emit " ++ rest) where
  pub len_is : 5 + line_len rest ≡ line_len text
  len_is = sym (ap line_len is ∙ omega arith)

  line_is : line_in text ≡ codes "emit " ++ line_in rest
  line_is =
      ap (λ (n : ℕ). take n text) (sym len_is) ∙ ap (take (5 + line_len rest)) is
      ∙ take-append-add (codes "emit ") rest (line_len rest)

  -- what follows `emit` has a byte that no such line has
  pub not_bare : (highest_rank (line_in rest) ≡ 0 → ⊥) → IsPlainEmission (line_in text) → ⊥
  not_bare rare plain = rare (rest_is_bare (line_in text) (line_in rest) line_is (plain_bare (line_in text) plain))

  module _ (len : ℕ) (at : len ≡ line_len rest) (within : len ≤ length rest) where
    pub first_len : 5 + len ≡ line_len text
    first_len = omega (arith, at, len_is)

    whole : line_in text ≡ codes "emit " ++ take len rest
    whole = line_is ∙ ap (λ (n : ℕ). codes "emit " ++ take n rest) (sym at)

    long : length (line_in text) ≡ 5 + len
    long = ap length whole ∙ length-append (codes "emit ") (take len rest) ∙ ap (λ (n : ℕ). 5 + n) (length-take-le len rest within)

    pub too_long : 4091 < len → IsPlainEmission (line_in text) → ⊥
    too_long more plain = omega (arith, more, long, plain_short (line_in text) plain)

    module _ (bare : highest_rank (take len rest) ≡ 0) (short : len ≤ 4091) where
      said : line_of (line_in text) ≡ asked_after_emit (take len rest)
      said =
          line_said (line_in text) (take len rest) whole (omega (arith, long, short))
          (ap highest_rank whole ∙ bare_emit (take len rest) bare)

      pub first_read : (asked : Result Line ScriptFault) → asked_after_emit (take len rest) ≡ asked → line_of (line_in text) ≡ asked
      first_read asked e = said ∙ e

      pub none_read : (is_spaced true (take len rest) ≡ true → IsErr (emission_in (take len rest))) → IsPlainEmission (line_in text) → ⊥
      none_read wrong = not_found (line_in text) (take len rest) said (plain_rest (line_in text) (take len rest) whole) wrong

-- of a short line, which is what its bits are of
module _ (text rest line : List ℕ) (is : text ≡ codes "emit " ++ rest) (cut : line ≡ line_in rest) where
  within : line_len rest ≤ length rest
  within = prefix_len-le-length in_line rest

  as_long : length line ≡ line_len rest
  as_long = ap length cut ∙ length-take-le (line_len rest) rest within

  pub short_len : 5 + length line ≡ line_len text
  short_len = omega (arith, as_long, len_is text rest is)

  pub short_read : highest_rank line ≡ 0 → length line ≤ 4091 → (asked : Result Line ScriptFault) → asked_after_emit line ≡ asked → line_of (line_in text) ≡ asked
  short_read bare short asked e =
      first_read text rest is (line_len rest) refl within (ap highest_rank (sym cut) ∙ bare) (omega (arith, as_long, short)) asked
      (ap asked_after_emit (sym cut) ∙ e)

-- a text that does not begin with `emit`
pub no_emission : (text : List ℕ) → ((rest : List ℕ) → text ≢ codes "emit " ++ rest) → IsPlainEmission (line_in text) → ⊥
no_emission text other plain =
    other (plain.rest ++ drop (line_len text) text)
    (sym (take-append-drop (line_len text) text) ∙ ap (λ (xs : List ℕ). xs ++ drop (line_len text) text) plain.begins
    ∙ append_assoc (codes "emit ") plain.rest (drop (line_len text) text))
