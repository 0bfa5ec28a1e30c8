-- A text is cut in one way: what `pieces_of` finds are its parts, each at its offset.
use Rattle.std.proofs.Common.{◌≡◌, ◌≢◌, refl, ℕ, suc, ◌+◌, ◌<◌, Bool, true, false, not, ◌==◌, if◌then◌else◌, List, [], ◌∷◌, ◌++◌, length, take, drop, ap, sym, ◌∙◌, arith, append-nil}
use Rattle.std.specs.List.{All, AllPass, join_with_byte, prefix_len}
use Rattle.std.proofs.Math.Seq.{take-append_seam}
use Rattle.std.proofs.lemmas.Bool.{eqb-true, eqb-false, ne_eqb, eq-eqb}
use Rattle.std.proofs.lemmas.List.{length-append}
use Rattle.std.proofs.lemmas.List.Elements.{All-nil, All-cons, All-head, All-tail, All-weaker}
use Rattle.trace_lex.specs.Prefixes.{is_not}
use Rattle.trace_lex.proofs.Lists.{run_ends}
use Rattle.trace_trigger.specs.declared.piece.ListItem.{ListItem}
use Rattle.trace_trigger.specs.HistPieces.{lengthened, pieces_of}
use Rattle.trace_trigger.specs.HistLists.{names_of}
use Rattle.trace_trigger.specs.HistGrammar.{IsCut}
use Rattle.trace_trigger.proofs.PieceLemmas.{pieces-last, pieces-first}

-- no byte of a part separates parts
abbrev pub IsFree : ℕ → List ℕ → Type 0
IsFree byte part = All (λ b. b ≢ byte) part

-- parts one after another, with one byte between them
abbrev pub located : ℕ → List (List ℕ) → List ListItem
located at [] = []
located at (part ∷ parts) = record { at = at; bytes = part } ∷ located (at + 1 + length part) parts

module _ (byte : ℕ) where
  pub other_passes : (b : ℕ) → b ≢ byte → is_not byte b ≡ true
  other_passes b other = ap not (ne_eqb b byte other)

  pub free_passes : (part : List ℕ) → IsFree byte part → AllPass (is_not byte) part
  free_passes part free = All-weaker (λ b. b ≢ byte) (λ b. is_not byte b ≡ true) other_passes part free

  -- ---- the parts of a text that is cut are those that are found

  one_part : (at : ℕ) (part : List ℕ) → IsFree byte part → pieces_of byte at part ≡ record { at = at; bytes = part } ∷ []
  one_part at part free =
      let whole : part ++ [] ≡ part = append-nil part in
      let run : prefix_len (is_not byte) part ≡ length part = ap (prefix_len (is_not byte)) (sym whole) ∙ run_ends (is_not byte) part [] (free_passes part free) tt in
      let all : take (length part) part ≡ part = ap (take (length part)) (sym whole) ∙ take-append_seam part [] in
      pieces-last byte at part run ∙ ap (λ (bs : List ℕ). record { at = at; bytes = bs } ∷ []) all

  first_part : (at : ℕ) (part rest : List ℕ) → IsFree byte part → pieces_of byte at (part ++ byte ∷ rest) ≡ record { at = at; bytes = part } ∷ pieces_of byte (at + 1 + length part) rest
  first_part at part rest free =
      let text : List ℕ = part ++ byte ∷ rest in
      let stop : is_not byte byte ≡ false = ap not (eq-eqb byte byte refl) in
      let run : prefix_len (is_not byte) text ≡ length part = run_ends (is_not byte) part (byte ∷ rest) (free_passes part free) stop in
      let more : length part < length text = omega (arith, length-append part (byte ∷ rest)) in
      let front : take (length part) text ≡ part = take-append_seam part (byte ∷ rest) in
      let back : drop (suc (length part)) text ≡ rest = drop_past part in
      pieces-first byte at (length part) text run more
      ∙ (λ i. record { at = at; bytes = front i } ∷ pieces_of byte (at + 1 + length part) (back i))
    where
      drop_past : (bs : List ℕ) → drop (suc (length bs)) (bs ++ byte ∷ rest) ≡ rest
      drop_past [] = refl
      drop_past (b ∷ bs) = drop_past bs

  pub cut_is_found : (parts : List (List ℕ)) (at : ℕ) → 0 < length parts → All (IsFree byte) parts → pieces_of byte at (join_with_byte byte parts) ≡ located at parts
  cut_is_found [] at some free = absurd (omega (arith, some))
  cut_is_found (part ∷ []) at some free = one_part at part (All-head (IsFree byte) part [] free)
  cut_is_found (part ∷ next ∷ parts) at some free =
      first_part at part (join_with_byte byte (next ∷ parts)) (All-head (IsFree byte) part (next ∷ parts) free)
      ∙ ap (λ (found : List ListItem). record { at = at; bytes = part } ∷ found) (cut_is_found (next ∷ parts) (at + 1 + length part) (omega arith) (All-tail (IsFree byte) part (next ∷ parts) free))

  -- ---- and what is found are parts of the text

  grown : (at b : ℕ) (same : Bool) (rest : List ListItem) (bs : List ℕ) → (b == byte) ≡ same → IsCut byte bs (names_of rest)
      → IsCut byte (b ∷ bs) (names_of (if same then record { at = at; bytes = [] } ∷ rest else lengthened at b rest))
  grown at b same [] bs e is = absurd (omega (arith, is.some))
  grown at b true (piece ∷ rest) bs e is = record {
    some = omega arith;
    whole = (λ i. eqb-true b byte e i ∷ is.whole i);
    free = All-cons (IsFree byte) [] (names_of (piece ∷ rest)) (All-nil (λ c. c ≢ byte)) is.free;
  }
  grown at b false (piece ∷ rest) bs e is = record {
    some = omega arith;
    whole = ap (λ (cs : List ℕ). b ∷ cs) is.whole ∙ by rest;
    free =
        let first : IsFree byte piece.bytes = All-head (IsFree byte) piece.bytes (names_of rest) is.free in
        All-cons (IsFree byte) (b ∷ piece.bytes) (names_of rest) (All-cons (λ c. c ≢ byte) b piece.bytes (eqb-false b byte e) first)
        (All-tail (IsFree byte) piece.bytes (names_of rest) is.free);
  }
    where
      by : (pieces : List ListItem) → b ∷ join_with_byte byte (piece.bytes ∷ names_of pieces) ≡ join_with_byte byte ((b ∷ piece.bytes) ∷ names_of pieces)
      by [] = refl
      by (next ∷ pieces) = refl

  pub found_is_cut : (at : ℕ) (text : List ℕ) → IsCut byte text (names_of (pieces_of byte at text))
  found_is_cut at [] = record { some = omega arith; whole = refl; free = All-cons (IsFree byte) [] [] (All-nil (λ c. c ≢ byte)) (All-nil (IsFree byte)) }
  found_is_cut at (b ∷ bs) = grown at b (b == byte) (pieces_of byte (at + 1) bs) bs refl (found_is_cut (at + 1) bs)

  -- ---- so both are the same

  pub cut_pieces : (at : ℕ) (text : List ℕ) (parts : List (List ℕ)) → IsCut byte text parts → pieces_of byte at text ≡ located at parts
  cut_pieces at text parts is = ap (pieces_of byte at) is.whole ∙ cut_is_found parts at is.some is.free

  pub names_of-located : (at : ℕ) (parts : List (List ℕ)) → names_of (located at parts) ≡ parts
  names_of-located at [] = refl
  names_of-located at (part ∷ parts) = ap (λ (names : List (List ℕ)). part ∷ names) (names_of-located (at + 1 + length part) parts)

  pub cut_names : (at : ℕ) (text : List ℕ) (parts : List (List ℕ)) → IsCut byte text parts → names_of (pieces_of byte at text) ≡ parts
  cut_names at text parts is = ap names_of (cut_pieces at text parts is) ∙ names_of-located at parts
