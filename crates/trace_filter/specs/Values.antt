-- Whether a filter holds of an emission, as one function. That it is the truth of the filter's tree is the law `HoldsAsItsTree`.
use Rattle.std.specs.Prelude.{Bool}
use Rattle.trace_filter.specs.declared.token.Comparison.TheVariants as comparisons
use Rattle.trace_filter.specs.Tokens.{spots_of, tokens_of}
use Rattle.trace_format.specs.Operands.{Emission}
use Rattle.trace_filter.specs.Filters.{Parsed}
use Rattle.trace_filter.specs.Steps.{moves_about, evaluated, at_start}

unfoldable pub holds_of : Parsed → Emission → Bool
holds_of filter emission = evaluated emission at_start (moves_about filter.subjects comparisons.Eq (tokens_of (spots_of filter.text)))
