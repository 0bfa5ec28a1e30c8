-- When hist triggers say the same, as a theorem that speaks of no program.
use Rattle.std.specs.Prelude.{◌≡◌, ◌↔◌, true}
use Rattle.trace_trigger.specs.HistSpecs.{SpecSeen}
use Rattle.trace_trigger.specs.SameSpecs.{IsSame, is_same}

-- the function says whether they do
abbrev pub SameIsDecided : Type 0
SameIsDecided = (left right : SpecSeen) → (is_same left right ≡ true) ↔ IsSame left right
