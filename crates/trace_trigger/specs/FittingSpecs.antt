-- When what a hist trigger says fits the table of another one, so that both may count in it (histogram.rst, "hist triggers").
use Rattle.std.specs.Prelude.{◌≡◌, ◌==◌, Bool, ◌&&◌, bytes_eq, List, map}
use Rattle.std.specs.Bool.{beq}
use Rattle.std.specs.Cmp.Lexicographic.{pointwise}
use Rattle.trace_format.specs.Operands.{is_text}
use Rattle.trace_trigger.specs.HistSpecs.{SpecSeen, written_of}
use Rattle.trace_trigger.specs.SameSpecs.{same_sort_key}
use Rattle.trace_format.specs.declared.key.Key.{Key}

-- of each key, whether it is a string in the trigger's event
abbrev pub are_texts : List Key → List Bool
are_texts keys = map (λ (key : Key). is_text key.operand) keys

-- they have the same keys, with modifiers, and each key is a string in both or in neither; the same values, which are numbers; the same sort keys, in
-- the same directions; and the same size
pub record Fits (left right : SpecSeen) : Type 0 where
  pub keys : written_of left.keys ≡ written_of right.keys
  pub kinds : are_texts left.keys ≡ are_texts right.keys
  pub values : left.values ≡ right.values
  pub sort : left.sort ≡ right.sort
  pub size : left.size ≡ right.size

-- the same, as one function
unfoldable pub is_fitting : SpecSeen → SpecSeen → Bool
is_fitting left right = pointwise bytes_eq (written_of left.keys) (written_of right.keys) && (pointwise beq (are_texts left.keys) (are_texts right.keys)
    && (pointwise bytes_eq left.values right.values && (pointwise same_sort_key left.sort right.sort && (left.size == right.size))))
