-- Strings that are no filter for their syntax, with what could go on at the offset, worked by hand. The checker computes them.
use Rattle.std.specs.Prelude.{◌≡◌, ℕ, List, [], ◌∷◌, map, Result, Err, codes}
use Rattle.trace_format.specs.declared.kind.Kind.TheVariants.{Number}
use Rattle.trace_format.specs.declared.kind.NumberType.TheVariants.{U64}
use Rattle.trace_format.specs.Definitions.{Definition}
use Rattle.trace_filter.specs.declared.fault.FilterFault.{FilterFault}
use Rattle.trace_filter.specs.declared.fault.FilterFault.TheVariants.{FilterSyntax}
use Rattle.trace_filter.specs.declared.fault.FilterCause.{FilterCause}
use Rattle.trace_filter.specs.declared.fault.FilterCause.TheVariants.{Operand, Operator, Value, Joint, JointAfterSigns}
use Rattle.trace_filter.specs.Filters.{Parsed, answer_of}

-- `tick u64 n`
abbrev pub tick : Definition
tick = record { name = codes "tick"; fields = record { name = codes "n"; kind = Number U64 } ∷ [] }

-- a string, and the offset and cause for which it is refused
pub record Case : Type 0 where
  pub text : List ℕ
  pub at : ℕ
  pub cause : FilterCause

infix 90 ◌tells◌at◌
abbrev pub ◌tells◌at◌ : List ℕ → FilterCause → ℕ → Case
text tells cause at offset = record { text = text; at = offset; cause = cause }

abbrev pub refusal : Case → Result Parsed FilterFault
refusal case = Err (FilterSyntax case.at case.cause)

-- each cause, at a token, at the end or at a value that does not fit its field
abbrev pub examples : List Case
examples =
    codes "" tells Operand at 0
    ∷ codes "!!=n" tells Operand at 1
    ∷ codes "n==1&&" tells Operand at 6
    ∷ codes "n = 1" tells Operator at 2
    ∷ codes "n == " tells Value at 5
    ∷ codes "n == 'x'" tells Value at 5
    ∷ codes "n == 1 & m" tells Joint at 7
    ∷ codes "(n == 1" tells Joint at 7
    ∷ codes "n === 1" tells JointAfterSigns at 6
    ∷ codes "n === (1)" tells JointAfterSigns at 6
    ∷ []

-- the strings are refused as told
abbrev pub CausesAreTold : Type 0
CausesAreTold = map (λ (case : Case). answer_of tick case.text) examples ≡ map refusal examples
