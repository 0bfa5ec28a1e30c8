-- Pairs that are read or passed over one by one.
use Rattle.std.proofs.Common.{◌≡◌, ℕ, zero, suc, ◌+◌, ◌-◌, ◌<◌, List, length, refl, ap, arith}
use Rattle.command_log.specs.EntryDecoding.{after_text, pairs_in, after_pairs}

one_less : (count i : ℕ) → i < count → count - i ≡ suc (count - (i + 1))
one_less count i l = omega arith

pub length-pairs_in : (count : ℕ) (bytes : List ℕ) → length (pairs_in count bytes) ≡ count
length-pairs_in zero bytes = refl
length-pairs_in (suc count) bytes = ap suc (length-pairs_in count (after_text (after_text bytes)))

-- one more pair is passed over
pub pair_passed : (bytes all : List ℕ) (count i : ℕ) → i < count → after_pairs (count - i) bytes ≡ all → after_pairs (count - (i + 1)) (after_text (after_text bytes)) ≡ all
pair_passed bytes all count i l e = rw (one_less count i l) at e
