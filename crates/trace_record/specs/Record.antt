-- The bytes of a record: a head of sixteen bytes, the payload, and zeros up to a multiple of eight.
use Rattle.std.specs.Prelude.{◌≡◌, ℕ, ◌+◌, ◌-◌, ◌*◌, ◌/◌, nat_lt, List, ◌++◌, length, take, drop, replicate, Option, Some, None, IsSomeAnd, if◌then◌else◌}
use Rattle.std.specs.Int.{Width, w16, w32, w64, to_le_bytes, from_le_bytes, cast_unsigned, cast_signed}
use Rattle.trace_record.specs.declared.head.Head.{Head}

-- the sixteen bytes of a head: timestamp, pid, event and payload length, each with its low byte first
unfoldable pub head_bytes : Head → List ℕ
head_bytes head =
    to_le_bytes w64 head.ts ++ to_le_bytes w32 (cast_unsigned w32 head.pid) ++ to_le_bytes w16 head.event ++ to_le_bytes w16 head.payload

-- the number whose bytes begin at this place, the low one first
abbrev pub number_at : Width → ℕ → List ℕ → ℕ
number_at width place bytes = from_le_bytes width (drop place bytes)

-- the head that the bytes begin with, if they are sixteen or more
unfoldable pub head_of : List ℕ → Option Head
head_of bytes =
    if nat_lt (length bytes) 16 then None else Some (record {
      ts = number_at w64 0 bytes;
      pid = cast_signed w32 (number_at w32 8 bytes);
      event = number_at w16 12 bytes;
      payload = number_at w16 14 bytes;
    })

-- what a record with a payload of so many bytes takes: its head, and the payload up to a multiple of eight
abbrev pub record_size : ℕ → ℕ
record_size payload = 16 + 8 * ((payload + 7) / 8)

-- how many zeros fill a payload of so many bytes up to a multiple of eight
abbrev pub padding : ℕ → ℕ
padding payload = 8 * ((payload + 7) / 8) - payload

-- the bytes of a record, for a head that tells this payload's length: the head, the payload, and the zeros that fill it up
abbrev pub record_of : Head → List ℕ → List ℕ
record_of head payload = head_bytes head ++ payload ++ replicate (padding (length payload)) 0

-- the payload of a record with this head: the bytes that follow the head, as many as it tells
abbrev pub payload_in : Head → List ℕ → List ℕ
payload_in head bytes = take head.payload (drop 16 bytes)

-- the length of the record that the bytes begin with, as its head tells
abbrev pub told_length : List ℕ → ℕ
told_length bytes = record_size (number_at w16 14 bytes)

-- a record: its length is the one that the head at its front tells
unfoldable pub IsRecord : List ℕ → Type 0
IsRecord bytes = IsSomeAnd (head_of bytes) (λ head. length bytes ≡ record_size head.payload)

-- when a record was written
unfoldable pub timestamp : List ℕ → ℕ
timestamp bytes = number_at w64 0 bytes
