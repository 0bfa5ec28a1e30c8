-- Pairs that are written one by one.
use Rattle.std.proofs.Common.{◌≡◌, ℕ, ◌+◌, ◌<◌, ◌≤◌, ◌^◌, List, ◌++◌, length, get_or, drop, sym, ap, ◌∙◌, subst, append_assoc}
use Rattle.std.proofs.lemmas.List.{append-nil, drop_all}
use Rattle.trace_format.specs.declared.pair.Pair.{Pair}
use Rattle.trace_format.proofs.LoopLemmas.{left}
use Rattle.command_log.specs.EntryEncoding.{text_bytes, pairs_bytes, ArePairsShort}

module _ (pairs : List Pair) (i : ℕ) (pair : Pair) (within : i < length pairs) (is : pair ≡ get_or pairs i pair) (name value : List ℕ) (name_is : name ≡ pair.name) (value_is : value ≡ pair.value) where
  -- what is written, and what the pairs that are left add to it
  pub pair_written : (before named new all : List ℕ) → named ≡ before ++ text_bytes name → new ≡ named ++ text_bytes value → before ++ pairs_bytes (drop i pairs) ≡ all
      → new ++ pairs_bytes (drop (i + 1) pairs) ≡ all
  pair_written before named new all first second so_far =
      let rest = pairs_bytes (drop (i + 1) pairs) in
      ap (λ text. text ++ rest) second
      ∙ ap (λ text. text ++ text_bytes value ++ rest) first
      ∙ (λ k. before ++ text_bytes (name_is k) ++ text_bytes (value_is k) ++ rest)
      ∙ regrouped before (text_bytes pair.name) (text_bytes pair.value) rest
      ∙ ap (λ ps. before ++ pairs_bytes ps) (sym (left pairs i pair within is))
      ∙ so_far
    where
      regrouped : (a b c d : List ℕ) → a ++ b ++ c ++ d ≡ a ++ (b ++ c ++ d)
      regrouped a b c d = simp append_assoc

  -- and they are short, if those after this one are
  pub pair_short : length name < 2 ^ 64 → length value < 2 ^ 64 → ArePairsShort (drop (i + 1) pairs) → ArePairsShort (drop i pairs)
  pair_short name_short value_short rest =
      subst ArePairsShort (sym (left pairs i pair within is))
      (subst (λ text. length text < 2 ^ 64) name_is name_short, subst (λ text. length text < 2 ^ 64) value_is value_short, rest)

-- with no pair left, all is written
pub all_written : (pairs : List Pair) (i : ℕ) → length pairs ≤ i → (written all : List ℕ) → written ++ pairs_bytes (drop i pairs) ≡ all → written ≡ all
all_written pairs i none written all so_far =
    sym (append-nil written) ∙ ap (λ ps. written ++ pairs_bytes ps) (sym (drop_all i pairs none)) ∙ so_far
