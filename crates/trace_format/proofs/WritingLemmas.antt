-- Steps of the loops that write values into bytes.
use Rattle.std.proofs.Common.{◌≡◌, ℕ, ◌+◌, ◌≤◌, List, ◌∷◌, ◌++◌, length, take, drop, map, sym, ap, ◌∙◌, subst, append_assoc, arith, length-append, length-take-le}
use Rattle.std.proofs.lemmas.List.{take_at}
use Rattle.std.specs.List.{AllZip}
use Rattle.trace_format.specs.declared.kind.Kind.{Kind}
use Rattle.trace_format.specs.declared.value.Value.{Value}
use Rattle.trace_format.specs.Kinds.{size_of}
use Rattle.trace_format.specs.Cells.{datum_of, Holds, field_bytes, bytes_of}
use Rattle.trace_format.proofs.Payloads.{length-field_bytes}

-- ---- one more value is written

module _ (kinds : List Kind) (values : List Value) (n : ℕ) (kind : Kind) (value : Value) (kinds_left : drop n kinds ≡ kind ∷ drop (n + 1) kinds) (values_left : drop n values ≡ value ∷ drop (n + 1) values) where
  -- those after it may be held too
  pub still_held : AllZip Holds (drop n kinds) (map datum_of (drop n values)) → AllZip Holds (drop (n + 1) kinds) (map datum_of (drop (n + 1) values))
  still_held all =
      (subst (λ vs. AllZip Holds (kind ∷ drop (n + 1) kinds) (map datum_of vs)) values_left (subst (λ ks. AllZip Holds ks (map datum_of (drop n values))) kinds_left all)).1

  -- and their bytes come next
  pub value_written : (out new : List ℕ) (at size : ℕ) (all : List ℕ) → new ≡ take at out ++ field_bytes kind (datum_of value) ++ drop (at + size_of kind) out → size ≡ size_of kind
      → at + size_of kind ≤ length out → Holds kind (datum_of value)
      → take at out ++ bytes_of (drop n kinds) (map datum_of (drop n values)) ≡ all → take (at + size) new ++ bytes_of (drop (n + 1) kinds) (map datum_of (drop (n + 1) values)) ≡ all
  value_written out new at size all is size_is room held so_far =
      let bytes = field_bytes kind (datum_of value) in
      let later = bytes_of (drop (n + 1) kinds) (map datum_of (drop (n + 1) values)) in
      let front : length (take at out) ≡ at = length-take-le at out (omega (arith, room)) in
      let whole : length (take at out ++ bytes) ≡ at + size = omega (arith, front, size_is, length-append (take at out) bytes, length-field_bytes kind (datum_of value) held) in
      ap (λ xs. take (at + size) xs ++ later) is
      ∙ ap (λ xs. xs ++ later) (take_at (take at out ++ bytes) (drop (at + size_of kind) out) (at + size) whole)
      ∙ append_assoc (take at out) bytes later
      ∙ (let ks = sym kinds_left in let vs = sym values_left in (λ i. take at out ++ bytes_of (ks i) (map datum_of (vs i))))
      ∙ so_far
