-- What reads do to the bytes and the failures of a reader. The bytes that they gave are those that their calls told of, whatever the reader.
use Rattle.std.specs.Prelude.{◌≡◌, ◌<◌, ◌≤◌, ◌⊎◌, ℕ, Bool, false, ◌==◌, ◌&&◌, nat_lt, ◌+◌, ◌-◌, ◌^◌, min, List, ◌++◌, length, take, Option, Result, Ok, Err, IfSome}
use Rattle.std.specs.Io.KnownBytes.{Consumes}

-- the greatest count of failures, the greatest number of 64 bits
abbrev pub most_failures : ℕ
most_failures = 2 ^ 64 - 1

-- one more failure; a count stops at the greatest
abbrev pub one_more : ℕ → ℕ
one_more failures = min (failures + 1) most_failures

-- a call failed in between: the count has risen. From the greatest count on it can't rise, and there this says nothing.
abbrev pub HasRisen : ℕ → ℕ → Type 0
HasRisen old new = (old < new) ⊎ (most_failures ≤ old)

-- the failures after a read: a call that fails is one
abbrev pub failures_after_read : {E : Type 0} → ℕ → Result ℕ E → ℕ
failures_after_read failures (Ok count) = failures
failures_after_read failures (Err error) = one_more failures

-- known bytes shrink by this many at most, from their front
abbrev pub ConsumesAtMost : ℕ → Option (List ℕ) → Option (List ℕ) → Type 0
ConsumesAtMost most old new = (front : List ℕ) × (length front ≤ most) × Consumes old new front

-- the bytes given after a read: as many more as it told, from the front of its buffer
abbrev pub given_after : {E : Type 0} → List ℕ → Result ℕ E → List ℕ → List ℕ
given_after given (Ok count) buf = given ++ take count buf
given_after given (Err error) buf = given

-- whether a read into this much room found the end: it gave none
abbrev pub is_end_after : {E : Type 0} → ℕ → Result ℕ E → Bool
is_end_after room (Ok count) = nat_lt 0 room && count == 0
is_end_after room (Err error) = false

-- the bytes given grow by some, of which this holds
abbrev pub Gives : List ℕ → List ℕ → (List ℕ → Type 0) → Type 0
Gives old new Holds = (more : List ℕ) × (new ≡ old ++ more) × Holds more

-- the bytes given grow by a script, which is the known bytes, where they are known, and of which this holds
abbrev pub GivesScript : List ℕ → List ℕ → Option (List ℕ) → (List ℕ → Type 0) → Type 0
GivesScript old new known Holds = Gives old new (λ script. IfSome known (λ bytes. script ≡ bytes) × Holds script)

-- the bytes given grow by this many at most
abbrev pub GivesAtMost : ℕ → List ℕ → List ℕ → Type 0
GivesAtMost most old new = Gives old new (λ more. length more ≤ most)

-- the bytes given grow by more than this many, and more than these are known, where they are known
abbrev pub GivesMore : ℕ → List ℕ → List ℕ → Option (List ℕ) → Type 0
GivesMore most old new known = Gives old new (λ more. (most < length more) × IfSome known (λ bytes. most < length bytes))
