-- The size of a payload, as an event keeps it.
use Rattle.std.specs.Prelude.{◌≡◌, ℕ, ◌<◌, ◌≤◌, ◌^◌, List, length, map}
use Rattle.trace_format.specs.declared.event.Field.{Field}
use Rattle.trace_format.specs.Cells.{size_of_all}

-- how many bytes the payload of these fields takes, if they are at most 16
abbrev pub IsPayloadSize : List Field → ℕ → Type 0
IsPayloadSize fields size = length fields ≤ 16 → (size ≡ size_of_all (map (λ field. field.kind) fields)) × (size < 2 ^ 12)
