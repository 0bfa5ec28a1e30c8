-- What was written of an entry is that entry.
use Rattle.std.proofs.Common.{◌≡◌, ℕ, ℤ, ◌<◌, ◌^◌, List, [], ◌∷◌, ◌++◌, length, get_or, Result, Ok, Err, OnOk, refl, sym, subst, ◌∙◌, append_assoc}
use Rattle.std.specs.Int.{w32, w64, to_le_bytes, cast_unsigned}
use Rattle.trace_format.specs.declared.pair.Pair.{Pair}
use Rattle.trace_command.specs.declared.command.CommandOf.TheVariants.{Emit}
use Rattle.trace_command.specs.declared.command.Entry.{Entry}
use Rattle.command_log.specs.EntryEncoding.{length_bytes, text_bytes, pairs_bytes, emission_bytes, other_bytes, command_bytes, entry_bytes, IsWritable}
use Rattle.command_log.specs.PackedEntries.{IsOneEntry}
use Rattle.command_log.proofs.PackedLemmas.{one_entry}

-- the first bytes of an emission
abbrev pub head_bytes : ℕ → ℕ → ℕ → ℤ → List ℕ
head_bytes ticket by cpu pid = to_le_bytes w64 ticket ++ to_le_bytes w32 by ++ 0 ∷ [] ++ to_le_bytes w32 cpu ++ to_le_bytes w32 (cast_unsigned w32 pid)

-- the same, one by one
pub emission_head : (ticket by cpu : ℕ) (pid : ℤ) (t b c p : List ℕ) → t ≡ to_le_bytes w64 ticket → b ≡ to_le_bytes w32 by → c ≡ to_le_bytes w32 cpu → p ≡ to_le_bytes w32 (cast_unsigned w32 pid) → get_or t 0 0 ∷ get_or t 1 0 ∷ get_or t 2 0 ∷ get_or t 3 0 ∷ get_or t 4 0 ∷ get_or t 5 0 ∷ get_or t 6 0 ∷ get_or t 7 0 ∷ get_or b 0 0 ∷ get_or b 1 0 ∷ get_or b 2 0 ∷ get_or b 3 0 ∷ 0 ∷ get_or c 0 0 ∷ get_or c 1 0 ∷ get_or c 2 0 ∷ get_or c 3 0 ∷ get_or p 0 0 ∷ get_or p 1 0 ∷ get_or p 2 0 ∷ get_or p 3 0 ∷ [] ≡ to_le_bytes w64 ticket ++ to_le_bytes w32 by ++ 0 ∷ [] ++ to_le_bytes w32 cpu ++ to_le_bytes w32 (cast_unsigned w32 pid)
emission_head ticket by cpu pid t b c p et eb ec ep = rw (et, eb, ec, ep) refl

-- and of any other command
pub other_head : (ticket by kind limit : ℕ) (t b l : List ℕ) → t ≡ to_le_bytes w64 ticket → b ≡ to_le_bytes w32 by → l ≡ to_le_bytes w64 limit → get_or t 0 0 ∷ get_or t 1 0 ∷ get_or t 2 0 ∷ get_or t 3 0 ∷ get_or t 4 0 ∷ get_or t 5 0 ∷ get_or t 6 0 ∷ get_or t 7 0 ∷ get_or b 0 0 ∷ get_or b 1 0 ∷ get_or b 2 0 ∷ get_or b 3 0 ∷ kind ∷ get_or l 0 0 ∷ get_or l 1 0 ∷ get_or l 2 0 ∷ get_or l 3 0 ∷ get_or l 4 0 ∷ get_or l 5 0 ∷ get_or l 6 0 ∷ get_or l 7 0 ∷ [] ≡ to_le_bytes w64 ticket ++ to_le_bytes w32 by ++ kind ∷ [] ++ to_le_bytes w64 limit
other_head ticket by kind limit t b l et eb el = rw (et, eb, el) refl

joined : (t b k c p x l s : List ℕ) → (((((t ++ b) ++ k) ++ c) ++ p) ++ x) ++ l ++ s ≡ (t ++ b) ++ (((((k ++ c) ++ p) ++ x) ++ l) ++ s)
joined t b k c p x l s = simp append_assoc

-- one write after another
pub both_on_ok : {T E : Type 0} (P Q : Type 0) (r : Result T E) → OnOk r P → OnOk r Q → OnOk r (P × Q)
both_on_ok P Q (Ok t) p q = (p, q)
both_on_ok P Q (Err e) p q = tt

pub pieces_written : (a0 a1 g h x l s : List ℕ) → a0 ≡ [] → a1 ≡ a0 ++ g ++ x ++ l ++ s → g ≡ h → a1 ≡ h ++ x ++ l ++ s
pieces_written a0 a1 g h x l s e0 e1 eg = rw (e1, e0, eg) refl

pub one_write : (a0 a1 b g h x l s : List ℕ) → a0 ≡ [] → a1 ≡ a0 ++ b → b ≡ g ++ x ++ l ++ s → g ≡ h → a1 ≡ h ++ x ++ l ++ s
one_write a0 a1 b g h x l s e0 e1 eb eg = rw (e1, e0, eb, eg) refl

pub six_writes : (a0 a1 a2 a3 a4 a5 a6 t b k l x y : List ℕ) → a0 ≡ [] → a1 ≡ a0 ++ t → a2 ≡ a1 ++ b → a3 ≡ a2 ++ k → a4 ≡ a3 ++ l → a5 ≡ a4 ++ x → a6 ≡ a5 ++ y → a6 ≡ t ++ b ++ (k ++ l ++ x ++ y)
six_writes a0 a1 a2 a3 a4 a5 a6 t b k l x y e0 e1 e2 e3 e4 e5 e6 = rw (e6, e5, e4, e3, e2, e1, e0) (grouped t b k l x y)
  where
    grouped : (t b k l x y : List ℕ) → ((((t ++ b) ++ k) ++ l) ++ x) ++ y ≡ (t ++ b) ++ (((k ++ l) ++ x) ++ y)
    grouped t b k l x y = simp append_assoc

-- a command without a text, whose entry ends as that of an emission without pairs
module _ (a0 a1 head path : List ℕ) (ticket by kind limit : ℕ) (none : a0 ≡ [])
    (first : head ≡ to_le_bytes w64 ticket ++ to_le_bytes w32 by ++ kind ∷ [] ++ to_le_bytes w64 limit) where
  pub path_written : a1 ≡ a0 ++ (head ++ text_bytes path ++ length_bytes 0 ++ []) → a1 ≡ to_le_bytes w64 ticket ++ to_le_bytes w32 by ++ other_bytes kind limit path []
  unfolding other_bytes text_bytes
  path_written is = rw (is, none, first) (simp append_assoc)

  pub path_in_pieces : a1 ≡ a0 ++ head ++ text_bytes path ++ length_bytes 0 ++ [] → a1 ≡ to_le_bytes w64 ticket ++ to_le_bytes w32 by ++ other_bytes kind limit path []
  unfolding other_bytes text_bytes
  path_in_pieces is = rw (is, none, first) (simp append_assoc)

-- the bytes are an entry with this command
pub entry_written : (entry : Entry) (ahead : List ℕ) → ahead ≡ to_le_bytes w64 entry.ticket ++ to_le_bytes w32 entry.by ++ command_bytes entry.command → entry.ticket < 2 ^ 64 → entry.by < 2 ^ 32 → IsWritable entry.command → IsOneEntry ahead entry
unfolding entry_bytes
entry_written entry ahead e t b w = subst (λ (bytes : List ℕ). IsOneEntry bytes entry) (sym e) (one_entry entry t b w)

-- those of an emission, as they are written
pub emission_written : (ticket by : ℕ) (event : List ℕ) (cpu : ℕ) (pid : ℤ) (pairs : List Pair) (ahead : List ℕ) → ahead ≡ (to_le_bytes w64 ticket ++ to_le_bytes w32 by ++ 0 ∷ [] ++ to_le_bytes w32 cpu ++ to_le_bytes w32 (cast_unsigned w32 pid)) ++ text_bytes event ++ length_bytes (length pairs) ++ pairs_bytes pairs → ticket < 2 ^ 64 → by < 2 ^ 32 → IsWritable (Emit event cpu pid pairs) → IsOneEntry ahead (record { ticket = ticket; by = by; command = Emit event cpu pid pairs })
unfolding emission_bytes
emission_written ticket by event cpu pid pairs ahead e t b w =
    entry_written (record { ticket = ticket; by = by; command = Emit event cpu pid pairs }) ahead
    (e ∙ joined (to_le_bytes w64 ticket) (to_le_bytes w32 by) (0 ∷ []) (to_le_bytes w32 cpu) (to_le_bytes w32 (cast_unsigned w32 pid)) (text_bytes event) (length_bytes (length pairs)) (pairs_bytes pairs)) t b w
