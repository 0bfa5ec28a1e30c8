-- What hist triggers that fit one another have in common, as theorems that speak of no program.
use Rattle.std.specs.Prelude.{◌≡◌, ◌↔◌, ℕ, true, List, length, map, Ok}
use Rattle.trace_format.specs.Definitions.{Definition}
use Rattle.trace_format.specs.declared.key.Key.{Key}
use Rattle.trace_format.specs.declared.modifier.Modifier.{Modifier}
use Rattle.trace_trigger.specs.HistSpecs.{SpecSeen}
use Rattle.trace_trigger.specs.HistTexts.{spec_of}
use Rattle.trace_trigger.specs.FittingSpecs.{Fits, is_fitting}

abbrev pub modifiers_of : List Key → List Modifier
modifiers_of keys = map (λ (key : Key). key.modifier) keys

-- their keys have the same modifiers, they sum as many values, their sort keys mean the same, and they have one size
pub record CountsAlike (left right : SpecSeen) : Type 0 where
  pub modifiers : modifiers_of left.keys ≡ modifiers_of right.keys
  pub values : length left.value_sources ≡ length right.value_sources
  pub sort_sources : left.sort_sources ≡ right.sort_sources
  pub size : left.size ≡ right.size

-- so it is with texts that fit one another, each said of an event of its own
abbrev pub FittingSpecsCountAlike : Type 0
FittingSpecsCountAlike = (one other : Definition) → (text of_other : List ℕ) → (left right : SpecSeen)
    → spec_of one text ≡ Ok left → spec_of other of_other ≡ Ok right → is_fitting left right ≡ true → CountsAlike left right

-- if both are said of one event, their keys and values mean the same too
abbrev pub FittingSpecsOfOneEventReadAlike : Type 0
FittingSpecsOfOneEventReadAlike = (definition : Definition) → (text other : List ℕ) → (left right : SpecSeen)
    → spec_of definition text ≡ Ok left → spec_of definition other ≡ Ok right → is_fitting left right ≡ true
    → (left.keys ≡ right.keys) × (left.value_sources ≡ right.value_sources)

-- the function says whether they fit
abbrev pub FittingIsDecided : Type 0
FittingIsDecided = (left right : SpecSeen) → (is_fitting left right ≡ true) ↔ Fits left right

-- each fits itself; if one fits another, that one fits it; and what fits the same fits
abbrev pub FittingIsReflexive : Type 0
FittingIsReflexive = (spec : SpecSeen) → is_fitting spec spec ≡ true

abbrev pub FittingIsSymmetric : Type 0
FittingIsSymmetric = (left right : SpecSeen) → is_fitting left right ≡ true → is_fitting right left ≡ true

abbrev pub FittingIsTransitive : Type 0
FittingIsTransitive = (one other third : SpecSeen) → is_fitting one other ≡ true → is_fitting other third ≡ true → is_fitting one third ≡ true
