-- Reading what was written gives it back, and leaves what comes after it.
use Rattle.std.proofs.Common.{◌≡◌, ℕ, ℤ, ◌<◌, ◌^◌, true, false, eqb, List, [], ◌∷◌, ◌++◌, length, Some, None, refl, ap, ◌∙◌, arith, inl, inr, append_assoc}
use Rattle.std.specs.Int.{w32, w64, to_le_bytes, from_le_bytes, cast_unsigned, cast_signed}
use Rattle.std.proofs.lemmas.Bool.{cases_lt, lt-ltb, le-ltb, ne_eqb}
use Rattle.std.proofs.lemmas.Int.{to_z-of_z}
use Rattle.std.proofs.lemmas.List.{take_at, drop_at}
use Rattle.std.proofs.lemmas.Nat.{from_le_bytes-to_le_bytes_4, from_le_bytes-to_le_bytes_8}
use Rattle.std.proofs.Math.Facts.{Fits-of_z}
use Rattle.trace_format.specs.declared.pair.Pair.{Pair}
use Rattle.trace_command.specs.Commands.{Command}
use Rattle.trace_command.specs.declared.command.CommandOf.TheVariants.{Emit, Mkdir, Rmdir, Write, Read}
use Rattle.trace_command.specs.declared.command.Entry.{Entry}
use Rattle.command_log.specs.EntryEncoding.{length_bytes, text_bytes, pairs_bytes, emission_bytes, other_bytes, command_bytes, entry_bytes, ArePairsShort, IsWritable}
use Rattle.command_log.specs.EntryDecoding.{length_in, after_length, text_in, after_text, pairs_in, after_pairs, emission_in, after_emission, other_of, other_in, after_other, command_in, after_command, entry_in, after_entry}

-- a length that takes one byte, and one that takes nine
short_length : (n : ℕ) (rest : List ℕ) → n < 255 → (length_in (n ∷ rest) ≡ n) × (after_length (n ∷ rest) ≡ rest)
unfolding length_in after_length
short_length n rest l = let other = ne_eqb n 255 (λ e. omega (arith, e)) in (rw other refl, rw other refl)

long_length : (n : ℕ) (rest : List ℕ) → n < 2 ^ 64 → (length_in (255 ∷ (to_le_bytes w64 n ++ rest)) ≡ n) × (after_length (255 ∷ (to_le_bytes w64 n ++ rest)) ≡ rest)
unfolding length_in after_length
long_length n rest l = (from_le_bytes-to_le_bytes_8 n l, refl)

pub length_read : (n : ℕ) (rest : List ℕ) → n < 2 ^ 64 → (length_in (length_bytes n ++ rest) ≡ n) × (after_length (length_bytes n ++ rest) ≡ rest)
unfolding length_bytes
length_read n rest l =
    elim (cases_lt n 255) [
      | inl s ↦ rw (lt-ltb _ _ s) (short_length n rest s)
      | inr g ↦ rw (le-ltb _ _ g) (long_length n rest l)
    ]

-- a string
pub text_read : (text rest : List ℕ) → length text < 2 ^ 64 → (text_in (text_bytes text ++ rest) ≡ text) × (after_text (text_bytes text ++ rest) ≡ rest)
unfolding text_in after_text text_bytes
text_read text rest l =
    let read = length_read (length text) (text ++ rest) l in
    rw append_assoc (rw (read.0, read.1) (take_at text rest (length text) refl, drop_at text rest (length text) refl))

-- a pair and what comes after it
pair_split : (name value pairs rest : List ℕ) → ((name ++ value) ++ pairs) ++ rest ≡ name ++ (value ++ (pairs ++ rest))
pair_split name value pairs rest = simp append_assoc

-- pairs
pub pairs_read : (pairs : List Pair) (rest : List ℕ) → ArePairsShort pairs → (pairs_in (length pairs) (pairs_bytes pairs ++ rest) ≡ pairs) × (after_pairs (length pairs) (pairs_bytes pairs ++ rest) ≡ rest)
pairs_read [] rest short = (refl, refl)
pairs_read (pair ∷ pairs) rest short =
    let name = text_read pair.name (text_bytes pair.value ++ (pairs_bytes pairs ++ rest)) short.0 in
    let value = text_read pair.value (pairs_bytes pairs ++ rest) short.1 in
    let others = pairs_read pairs rest short.2 in
    let split = pair_split (text_bytes pair.name) (text_bytes pair.value) (pairs_bytes pairs) rest in
    let past_name = ap after_text split ∙ name.1 in
    let past_value = ap after_text past_name ∙ value.1 in
    (rw pair_split (rw (name.0, name.1, value.0, value.1, others.0) refl), ap (after_pairs (length pairs)) past_value ∙ others.1)

-- what a command is read as, and what it leaves
pub record ReadsCommand (bytes : List ℕ) (command : Command) (rest : List ℕ) : Type 0 where
  pub same : command_in bytes ≡ command
  pub after : after_command bytes ≡ rest

emission_split : (a b c d e f rest : List ℕ) → (((((a ++ b) ++ c) ++ d) ++ e) ++ f) ++ rest ≡ a ++ (b ++ (c ++ (d ++ (e ++ (f ++ rest)))))
emission_split a b c d e f rest = simp append_assoc

emission_read : (event : List ℕ) (cpu : ℕ) (pid : ℤ) (pairs : List Pair) (rest : List ℕ) → IsWritable (Emit event cpu pid pairs) → (emission_in (to_le_bytes w32 cpu ++ (to_le_bytes w32 (cast_unsigned w32 pid) ++ (text_bytes event ++ (length_bytes (length pairs) ++ (pairs_bytes pairs ++ rest))))) ≡ Emit event cpu pid pairs) × (after_emission (to_le_bytes w32 cpu ++ (to_le_bytes w32 (cast_unsigned w32 pid) ++ (text_bytes event ++ (length_bytes (length pairs) ++ (pairs_bytes pairs ++ rest))))) ≡ rest)
unfolding emission_in after_emission
emission_read event cpu pid pairs rest (short, cpu_fits, pid_fits, few, pairs_short) =
    let e = text_read event (length_bytes (length pairs) ++ (pairs_bytes pairs ++ rest)) short in
    let n = length_read (length pairs) (pairs_bytes pairs ++ rest) few in
    let ps = pairs_read pairs rest pairs_short in
    let number = from_le_bytes-to_le_bytes_4 cpu cpu_fits in
    let signed : cast_signed w32 (from_le_bytes w32 (to_le_bytes w32 (cast_unsigned w32 pid))) ≡ pid =
    ap (cast_signed w32) (from_le_bytes-to_le_bytes_4 (cast_unsigned w32 pid) (let k = Fits-of_z pid_fits in omega arith)) ∙ to_z-of_z w32 pid pid_fits in
    (rw (number, signed, e.0, e.1, n.0, n.1, ps.0) refl, rw (e.1, n.0, n.1, ps.1) refl)

other_split : (a b c d rest : List ℕ) → (((a ++ b) ++ c) ++ d) ++ rest ≡ a ++ (b ++ (c ++ (d ++ rest)))
other_split a b c d rest = simp append_assoc

other_read : (kind limit : ℕ) (path text rest : List ℕ) → limit < 2 ^ 64 → length path < 2 ^ 64 → length text < 2 ^ 64 → (other_in kind (to_le_bytes w64 limit ++ (text_bytes path ++ (text_bytes text ++ rest))) ≡ other_of kind limit path text) × (after_other (to_le_bytes w64 limit ++ (text_bytes path ++ (text_bytes text ++ rest))) ≡ rest)
unfolding other_in after_other
other_read kind limit path text rest fits path_short text_short =
    let number = from_le_bytes-to_le_bytes_8 limit fits in
    let p = text_read path (text_bytes text ++ rest) path_short in
    let t = text_read text rest text_short in
    (rw (number, p.0, p.1, t.0) refl, rw (p.1, t.1) refl)

-- the bytes of any other command than an emission
other_command : (kind limit : ℕ) (path text rest : List ℕ) → eqb kind 0 ≡ false → limit < 2 ^ 64 → length path < 2 ^ 64 → length text < 2 ^ 64 → ReadsCommand (other_bytes kind limit path text ++ rest) (other_of kind limit path text) rest
unfolding other_bytes command_in after_command
other_command kind limit path text rest other fits path_short text_short =
    let read = other_read kind limit path text rest fits path_short text_short in
    let split = other_split (kind ∷ []) (to_le_bytes w64 limit) (text_bytes path) (text_bytes text) rest in
    let one : command_in (kind ∷ [] ++ (to_le_bytes w64 limit ++ (text_bytes path ++ (text_bytes text ++ rest)))) ≡ other_of kind limit path text =
    rw other read.0 in
    let left : after_command (kind ∷ [] ++ (to_le_bytes w64 limit ++ (text_bytes path ++ (text_bytes text ++ rest)))) ≡ rest = rw other read.1 in
    record { same = ap command_in split ∙ one; after = ap after_command split ∙ left }

none_short : length {A = ℕ} [] < 2 ^ 64
none_short = omega arith

zero_fits : 0 < 2 ^ 64
zero_fits = omega arith

pub command_read : (command : Command) (rest : List ℕ) → IsWritable command → ReadsCommand (command_bytes command ++ rest) command rest
unfolding emission_bytes command_in after_command
command_read (Emit event cpu pid pairs) rest w =
    let read = emission_read event cpu pid pairs rest w in
    let split = emission_split (0 ∷ []) (to_le_bytes w32 cpu) (to_le_bytes w32 (cast_unsigned w32 pid)) (text_bytes event) (length_bytes (length pairs)) (pairs_bytes pairs) rest in
    record { same = ap command_in split ∙ read.0; after = ap after_command split ∙ read.1 }
command_read (Mkdir path) rest w = other_command 1 0 path [] rest refl zero_fits w none_short
command_read (Rmdir path) rest w = other_command 2 0 path [] rest refl zero_fits w none_short
command_read (Write path false text) rest w = other_command 3 0 path text rest refl zero_fits w.0 w.1
command_read (Write path true text) rest w = other_command 4 0 path text rest refl zero_fits w.0 w.1
command_read (Read path None) rest w = other_command 5 0 path [] rest refl zero_fits w none_short
command_read (Read path (Some limit)) rest w = other_command 6 limit path [] rest refl w.1 w.0 none_short

-- what an entry is read as, and what it leaves
pub record ReadsEntry (bytes : List ℕ) (entry : Entry) (rest : List ℕ) : Type 0 where
  pub same : entry_in bytes ≡ entry
  pub after : after_entry bytes ≡ rest

entry_split : (a b c rest : List ℕ) → ((a ++ b) ++ c) ++ rest ≡ a ++ (b ++ (c ++ rest))
entry_split a b c rest = simp append_assoc

pub entry_read : (entry : Entry) (rest : List ℕ) → entry.ticket < 2 ^ 64 → entry.by < 2 ^ 32 → IsWritable entry.command → ReadsEntry (entry_bytes entry ++ rest) entry rest
unfolding entry_bytes entry_in after_entry
entry_read entry rest t b w =
    let read = command_read entry.command rest w in
    let split = entry_split (to_le_bytes w64 entry.ticket) (to_le_bytes w32 entry.by) (command_bytes entry.command) rest in
    let ticket = from_le_bytes-to_le_bytes_8 entry.ticket t in
    let by = from_le_bytes-to_le_bytes_4 entry.by b in
    let one : entry_in (to_le_bytes w64 entry.ticket ++ (to_le_bytes w32 entry.by ++ (command_bytes entry.command ++ rest))) ≡ entry =
    rw (ticket, by, read.same) refl in
    record { same = ap entry_in split ∙ one; after = ap after_entry split ∙ read.after }
