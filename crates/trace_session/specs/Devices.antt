-- What writes do to the bytes and the failures of a device. How failures are counted is in Sources of script_reader.
use Rattle.std.specs.Prelude.{◌≡◌, ℕ, ◌==◌, ◌&&◌, nat_lt, if◌then◌else◌, List, ◌++◌, Option, Some, None, Result, Ok, Err}
use Rattle.std.specs.Coded.{coded_ℕ, coded_list}
use Rattle.std.specs.Io.KnownBytes.{Appends}
use Rattle.script_reader.specs.Sources.{one_more}
use base.Stored.{Coded-set}
use mathlib.Core.HLevel.{Unit-prop}

-- the failures after a write of so many bytes: a call that fails is one, and one that takes none, though some were offered
abbrev pub failures_after_write : {E : Type 0} → ℕ → ℕ → Result ℕ E → ℕ
failures_after_write offered failures (Ok count) = if nat_lt 0 offered && count == 0 then one_more failures else failures
failures_after_write offered failures (Err error) = one_more failures

-- known bytes grow by a prefix of the text
abbrev pub AppendsFront : Option (List ℕ) → Option (List ℕ) → List ℕ → Type 0
AppendsFront old new text = (front : List ℕ) × (rest : List ℕ) × (text ≡ front ++ rest) × Appends old new front

-- of bytes that waited and a text after them, known bytes grow by a front, and the rest waits
abbrev pub Passes : Option (List ℕ) → List ℕ → Option (List ℕ) → List ℕ → List ℕ → Type 0
Passes old waited new waits text = (front : List ℕ) × (waited ++ text ≡ front ++ waits) × Appends old new front

-- that known bytes grow by some has one proof at most
pub Appends_prop : (old new : Option (List ℕ)) (more : List ℕ) → IsProp (Appends old new more)
Appends_prop None new more = Unit-prop
Appends_prop (Some xs) None more = Prim.hlevel
Appends_prop (Some xs) (Some ys) more = Coded-set (coded_list coded_ℕ) ys (xs ++ more)
