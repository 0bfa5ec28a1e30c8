-- Keys: when they are the same.
use Rattle.std.proofs.Common.{◌≡◌, true, false, inl, inr, List, refl, sym, ap, ◌∙◌, rules}
use Rattle.std.specs.Bool.{Decides}
use Rattle.std.specs.Cmp.Lexicographic.{pointwise_decides, bytes_decides}
use Rattle.std.proofs.lemmas.Bool.{cases_Bool}
use Rattle.std.proofs.lemmas.Bool.Decides.{Decides-int_eq}
use Rattle.trace_format.specs.Cells.{Datum, Whole, Bytes}
use Rattle.hist_entries.specs.HistEntries.{same_cell, same_key}

cell_decided : (a b : Datum) → Decides (same_cell a b) (a ≡ b)
cell_decided (Whole m) (Whole n) = search (rules, Decides-int_eq)
cell_decided (Whole m) (Bytes c) = search rules
cell_decided (Bytes b) (Whole n) = search rules
cell_decided (Bytes b) (Bytes c) = search (rules, bytes_decides)

pub key_decided : (a b : List Datum) → Decides (same_key a b) (a ≡ b)
key_decided a b = pointwise_decides cell_decided a b

pub key-refl : (a : List Datum) → same_key a a ≡ true
key-refl a = (key_decided a a).1 refl

pub not_same : (a b : List Datum) → same_key a b ≡ false → same_key b a ≡ false
not_same a b h =
    elim (cases_Bool (same_key b a)) [
      | inr apart ↦ apart
      | inl alike ↦ let clash = sym h ∙ ap (λ k. same_key a k) ((key_decided b a).0 alike) ∙ key-refl a in cc
    ]
