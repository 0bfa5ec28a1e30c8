-- The bytes of records, how many they are, and their lines.
use Rattle.std.proofs.Common.{◌≡◌, ℕ, ◌-◌, ◌+◌, ◌*◌, ◌/◌, ◌<◌, ◌≤◌, ◌^◌, ltb, false, List, ◌++◌, Some, FitsSigned, refl, sym, ap, ◌∙◌, length, take, drop, replicate, append_assoc, length-append, arith}
use Rattle.std.specs.Int.{w32, to_le_bytes, from_le_bytes, cast_unsigned, cast_signed}
use Rattle.std.proofs.lemmas.Nat.{from_le_bytes-to_le_bytes_2, from_le_bytes-to_le_bytes_4, from_le_bytes-to_le_bytes_8}
use Rattle.std.proofs.lemmas.Bool.{le-ltb}
use Rattle.std.proofs.lemmas.Int.{to_z-of_z}
use Rattle.std.proofs.lemmas.List.{take_at, drop_at, length-replicate}
use Rattle.std.proofs.Math.Facts.{Fits-of_z}
use Rattle.trace_record.specs.declared.head.Head.{Head}
use Rattle.trace_record.specs.Record.{head_of, head_bytes, payload_in}
use Rattle.trace_format.specs.Cells.{payload_of}
use Rattle.trace_format.specs.Decoding.{row_from}
use Rattle.trace_format.proofs.Payloads.{row_from-payload}
use Rattle.trace_format.proofs.SizeLemmas.{payload_has_its_size}
use Rattle.record_text.specs.RecordText.{line_of_row, line_of_event, line_of_head, record_line}
use Rattle.record_text.specs.Laws.{RecordShowsItsRow, RecordHasItsSize}

pub sixteen : (head : Head) → length (head_bytes head) ≡ 16
unfolding head_bytes
sixteen head = omega arith

long_enough : (head : Head) (rest : List ℕ) → 16 ≤ length (head_bytes head ++ rest)
unfolding head_bytes
long_enough head rest = omega arith

-- reading a head gives what was written
head_of-head_bytes : (head : Head) (rest : List ℕ) → head.ts < 2 ^ 64 → FitsSigned w32 head.pid → head.event < 2 ^ 16 → head.payload < 2 ^ 16 → head_of (head_bytes head ++ rest) ≡ Some head
unfolding head_of head_bytes
head_of-head_bytes head rest t p e l =
    let long : ltb (length (head_bytes head ++ rest)) 16 ≡ false = le-ltb _ 16 (long_enough head rest) in
    let ts = from_le_bytes-to_le_bytes_8 head.ts t in
    let pid : cast_signed w32 (from_le_bytes w32 (to_le_bytes w32 (cast_unsigned w32 head.pid))) ≡ head.pid =
    ap (cast_signed w32) (from_le_bytes-to_le_bytes_4 (cast_unsigned w32 head.pid) (let k = Fits-of_z p in omega arith)) ∙ to_z-of_z w32 head.pid p in
    let event = from_le_bytes-to_le_bytes_2 head.event e in
    let payload = from_le_bytes-to_le_bytes_2 head.payload l in
    rw long (rw (ts, pid, event, payload) refl)

-- the payload stands behind the head
payload_in-record : (head : Head) (payload padding : List ℕ) → head.payload ≡ length payload → payload_in head (head_bytes head ++ payload ++ padding) ≡ payload
payload_in-record head payload padding size =
    ap (λ bytes. take head.payload (drop 16 bytes)) (append_assoc (head_bytes head) payload padding)
    ∙ ap (take head.payload) (drop_at (head_bytes head) (payload ++ padding) 16 (sixteen head))
    ∙ take_at payload padding head.payload (sym size)

pub record_shows_its_row : RecordShowsItsRow
unfolding record_line
record_shows_its_row events cpu definition row head padding is_row is_head =
    let bytes = head_bytes head ++ payload_of row ++ padding in
    let read : head_of bytes ≡ Some head =
    ap head_of (append_assoc (head_bytes head) (payload_of row) padding)
    ∙ head_of-head_bytes head (payload_of row ++ padding) is_head.ts_fits is_head.pid_fits is_head.event_fits is_head.payload_fits in
    ap (line_of_head events cpu bytes) read
    ∙ ap (line_of_event cpu head (payload_in head bytes)) is_head.event
    ∙ ap (λ payload. line_of_row cpu head definition (row_from definition payload)) (payload_in-record head (payload_of row) padding is_head.payload)
    ∙ ap (line_of_row cpu head definition) (row_from-payload definition row is_row)

pub record_has_its_size : RecordHasItsSize
record_has_its_size definition row head is =
    let size = length (payload_of row) in
    let zeros = 8 * ((size + 7) / 8) - size in
    omega (
      arith,
      length-append (head_bytes head ++ payload_of row) (replicate zeros 0),
      length-append (head_bytes head) (payload_of row),
      sixteen head,
      length-replicate {A = ℕ} zeros 0,
      payload_has_its_size definition row is,
    )
