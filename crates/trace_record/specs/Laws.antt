-- What the definitions of a record's bytes say, as theorems that speak of no program.
use Rattle.std.specs.Prelude.{◌≡◌, ℕ, List, Some}
use Rattle.trace_record.specs.Record.{head_of, timestamp}
use Rattle.trace_record.specs.declared.head.Head.{Head}

-- the time of a record is the one that the head at its front tells
abbrev pub TimestampIsHeads : Type 0
TimestampIsHeads = (bytes : List ℕ) (head : Head) → head_of bytes ≡ Some head → timestamp bytes ≡ head.ts
