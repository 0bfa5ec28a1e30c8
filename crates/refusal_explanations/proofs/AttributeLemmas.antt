-- Attributes looked for one byte after the other.
use Rattle.std.proofs.Common.{◌≡◌, ◌<◌, ◌+◌, ℕ, true, false, List, length, drop, refl, add-one}
use Rattle.std.proofs.Math.Seq.{drop-cons}
use Rattle.std.specs.Prelude.{if◌then◌else◌, Some}
use Rattle.refusal_explanations.specs.Places.{attribute_from, is_attribute}

-- one that begins here is found here, and else looked for after this byte
pub attribute_step : (attribute text : List ℕ) (at : ℕ) → at < length text
    → attribute_from attribute at (drop at text)
    ≡ (if is_attribute attribute (drop at text) then Some at else attribute_from attribute (at + 1) (drop (at + 1) text))
attribute_step attribute text at within = rw (add-one at) (rw (drop-cons text at 0 within) (rw (add-one at) refl))

pub attribute_later : (attribute text : List ℕ) (at : ℕ) → at < length text → is_attribute attribute (drop at text) ≡ false
    → attribute_from attribute (at + 1) (drop (at + 1) text) ≡ attribute_from attribute at (drop at text)
attribute_later attribute text at within other = rw (attribute_step attribute text at within) (rw other refl)

pub attribute_here : (attribute text : List ℕ) (at : ℕ) → at < length text → is_attribute attribute (drop at text) ≡ true
    → attribute_from attribute at (drop at text) ≡ Some at
attribute_here attribute text at within found = rw (attribute_step attribute text at within) (rw found refl)
