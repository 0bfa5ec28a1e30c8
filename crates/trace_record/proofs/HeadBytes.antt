-- What the bytes of a record say.
use Rattle.std.proofs.Common.{◌≡◌, ℕ, ◌≤◌, ◌+◌, ◌*◌, List, [], ◌∷◌, ◌++◌, ◌<◌, ◌^◌, ltb, false, Option, Some, None, FitsSigned, refl, ap, ◌∙◌, length, get_or, drop, length-drop, arith, tests}
use Rattle.std.specs.Int.{w16, w32, w64, to_le_bytes, from_le_bytes, cast_unsigned, cast_signed}
use Rattle.std.proofs.lemmas.Nat.{from_le_bytes-to_le_bytes_2, from_le_bytes-to_le_bytes_4, from_le_bytes-to_le_bytes_8}
use Rattle.std.proofs.lemmas.Bool.{le-ltb, lt-ltb, cases_lt}
use Rattle.std.proofs.Common.{inl, inr}
use Rattle.std.proofs.Math.Facts.{Fits-of_z}
use Rattle.std.proofs.lemmas.Int.{to_z-of_z}
use Rattle.std.proofs.lemmas.List.{get_or-drop}
use Rattle.trace_record.specs.declared.head.Head.{Head}
use Rattle.trace_record.specs.Laws.{TimestampIsHeads}
use Rattle.trace_record.specs.Record.{IsRecord, head_of, head_bytes, number_at, timestamp, record_size}

-- a record has sixteen bytes or more
pub sixteen_in : (bytes : List ℕ) → IsRecord bytes → 16 ≤ length bytes
unfolding IsRecord head_of
sixteen_in bytes h = grind (arith, tests, h)

pub two_at : (place : ℕ) (bytes : List ℕ) → number_at w16 place bytes ≡ get_or bytes (place + 0) 0 + get_or bytes (place + 1) 0 * 256
two_at place bytes = simp get_or-drop

pub four_at : (place : ℕ) (bytes : List ℕ) → number_at w32 place bytes ≡ get_or bytes (place + 0) 0 + get_or bytes (place + 1) 0 * 256 + get_or bytes (place + 2) 0 * 65536 + get_or bytes (place + 3) 0 * 16777216
four_at place bytes = simp get_or-drop

-- the sixteen bytes, one by one
pub head_bytes-one_by_one : (head : Head) (ts pid event payload : List ℕ) → ts ≡ to_le_bytes w64 head.ts → pid ≡ to_le_bytes w32 (cast_unsigned w32 head.pid) → event ≡ to_le_bytes w16 head.event → payload ≡ to_le_bytes w16 head.payload → get_or ts 0 0 ∷ get_or ts 1 0 ∷ get_or ts 2 0 ∷ get_or ts 3 0 ∷ get_or ts 4 0 ∷ get_or ts 5 0 ∷ get_or ts 6 0 ∷ get_or ts 7 0 ∷ get_or pid 0 0 ∷ get_or pid 1 0 ∷ get_or pid 2 0 ∷ get_or pid 3 0 ∷ get_or event 0 0 ∷ get_or event 1 0 ∷ get_or payload 0 0 ∷ get_or payload 1 0 ∷ [] ≡ head_bytes head
unfolding head_bytes
head_bytes-one_by_one head ts pid event payload t p e l = rw (t, p, e, l)

pub long_enough : (head : Head) (rest : List ℕ) → 16 ≤ length (head_bytes head ++ rest)
unfolding head_bytes
long_enough head rest = omega arith

pub length-with_head : (head : Head) (out : List ℕ) → 16 ≤ length out → length (head_bytes head ++ drop 16 out) ≡ length out
unfolding head_bytes
length-with_head head out l = omega (arith, length-drop 16 out)

pub timestamp-head_bytes : (head : Head) (rest : List ℕ) → head.ts < 2 ^ 64 → timestamp (head_bytes head ++ rest) ≡ head.ts
unfolding timestamp head_bytes
timestamp-head_bytes head rest t = from_le_bytes-to_le_bytes_8 head.ts t

pub is_record-with_head : (head : Head) (out : List ℕ) → head_of out ≡ Some head → length out ≡ record_size head.payload → IsRecord out
unfolding IsRecord
is_record-with_head head out e l = rw e l

-- reading a head gives what was written
pub head_of-head_bytes : (head : Head) (rest : List ℕ) → head.ts < 2 ^ 64 → FitsSigned w32 head.pid → head.event < 2 ^ 16 → head.payload < 2 ^ 16 → head_of (head_bytes head ++ rest) ≡ Some head
unfolding head_of head_bytes
head_of-head_bytes head rest t p e l =
    let long : ltb (length (head_bytes head ++ rest)) 16 ≡ false = le-ltb _ 16 (long_enough head rest) in
    let ts = from_le_bytes-to_le_bytes_8 head.ts t in
    let pid : cast_signed w32 (from_le_bytes w32 (to_le_bytes w32 (cast_unsigned w32 head.pid))) ≡ head.pid =
    ap (cast_signed w32) (from_le_bytes-to_le_bytes_4 (cast_unsigned w32 head.pid) (let k = Fits-of_z p in omega arith)) ∙ to_z-of_z w32 head.pid p in
    let event = from_le_bytes-to_le_bytes_2 head.event e in
    let payload = from_le_bytes-to_le_bytes_2 head.payload l in
    rw long (rw (ts, pid, event, payload) refl)

abbrev ts_of : Option Head → ℕ
ts_of None = 0
ts_of (Some head) = head.ts

pub timestamp_is_heads : TimestampIsHeads
unfolding head_of timestamp
timestamp_is_heads bytes head e =
    elim (cases_lt (length bytes) 16) [
      | inl l ↦ let none = rw (lt-ltb _ _ l) at e in absurd (cc)
      | inr g ↦ let some = rw (le-ltb _ _ g) at e in ap ts_of some
    ]
