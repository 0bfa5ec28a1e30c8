-- When two hist triggers are the same, and which emissions a trigger counts (histogram.rst, "hist triggers").
use Rattle.std.specs.Prelude.{◌≡◌, ℕ, Bool, true, false, ◌&&◌, bytes_eq, List, Option, None, Some, option_map}
use Rattle.std.specs.Bool.{beq}
use Rattle.std.specs.Cmp.Lexicographic.{pointwise}
use Rattle.trace_format.specs.Operands.{Emission}
use Rattle.trace_filter.specs.Filters.{Parsed}
use Rattle.trace_filter.specs.Values.{holds_of}
use Rattle.trace_trigger.specs.HistSpecs.{SpecSeen, written_of}
use Rattle.trace_trigger.specs.declared.spec.SortKey.{SortKey}

abbrev pub filter_text : Option Parsed → Option (List ℕ)
filter_text filter = option_map (λ (f : Parsed). f.text) filter

pub record IsSame (left right : SpecSeen) : Type 0 where
  pub name : left.name ≡ right.name
  pub keys : written_of left.keys ≡ written_of right.keys
  pub values : left.values ≡ right.values
  pub sort : left.sort ≡ right.sort
  pub filter : filter_text left.filter ≡ filter_text right.filter

-- the same, as one function
abbrev pub same_sort_key : SortKey → SortKey → Bool
same_sort_key left right = bytes_eq left.name right.name && beq left.descending right.descending

-- two names or two filters' texts
abbrev pub same_text : Option (List ℕ) → Option (List ℕ) → Bool
same_text None None = true
same_text None (Some right) = false
same_text (Some left) None = false
same_text (Some left) (Some right) = bytes_eq left right

unfoldable pub is_same : SpecSeen → SpecSeen → Bool
is_same left right = same_text left.name right.name
    && (pointwise bytes_eq (written_of left.keys) (written_of right.keys) && (pointwise bytes_eq left.values right.values
    && (pointwise same_sort_key left.sort right.sort && same_text (filter_text left.filter) (filter_text right.filter))))

abbrev pub is_passed : Option Parsed → Emission → Bool
is_passed None emission = true
is_passed (Some filter) emission = holds_of filter emission
