-- A text without blanks at both ends is the filter that the text as written is.
use Rattle.std.proofs.Common.{◌≡◌, ◌↔◌, ℕ, ◌+◌, ◌≤◌, Bool, true, false, List, [], ◌∷◌, length, map, Option, None, Some, option_map, refl, sym, ap, ◌∙◌, subst}
use Rattle.std.specs.List.{prefix_len}
use Rattle.trace_format.specs.declared.event.Field.{Field}
use Rattle.trace_format.specs.Definitions.{Definition}
use Rattle.trace_filter.specs.declared.fault.FilterFault.{FilterFault}
use Rattle.trace_filter.specs.declared.fault.FilterFault.TheVariants.{TooLong, TooDeep, FilterSyntax, NoSuchField, WrongOperator, Memory}
use Rattle.trace_filter.specs.declared.fault.FilterCause.TheVariants as cause
use Rattle.trace_lex.specs.Blanks.{is_blank, without_end, trimmed}
use Rattle.trace_filter.specs.Tokens.{Token, Compare, Name, Value, Spot, spots_of, tokens_of, shifted_by}
use Rattle.trace_filter.specs.Grammar.{IsFine, IsWhole, depth_of}
use Rattle.trace_filter.specs.Fields.{is_text_named, takes_at, fits_at, unless, or_later, operator_fault, value_fault, test_fault, fault_of_test, first_misfit}
use Rattle.trace_format.specs.Operands.{Emission}
use Rattle.trace_filter.specs.Filters.{IsFilter, Passes, misfit_of}
use Rattle.trace_filter.proofs.TrimLemmas.{trimmed_spots, trimmed_tokens, trimmed_twice}

-- a fault so many bytes later
abbrev later_by : ℕ → FilterFault → FilterFault
later_by more TooLong = TooLong
later_by more TooDeep = TooDeep
later_by more (FilterSyntax at why) = FilterSyntax (more + at) why
later_by more (NoSuchField at) = NoSuchField (more + at)
later_by more (WrongOperator at) = WrongOperator (more + at)
later_by more Memory = Memory

module _ (more : ℕ) (fields : List Field) where
  abbrev Later : Option FilterFault → Option FilterFault → Type 0
  Later a b = a ≡ option_map (later_by more) b

  or_later-later : (a b c d : Option FilterFault) → Later a c → Later b d → Later (or_later a b) (or_later c d)
  or_later-later a b None d e f = ap (λ o. or_later o b) e ∙ f
  or_later-later a b (Some fault) d e f = ap (λ o. or_later o b) e

  operator : (text : Bool) (token : Token) (at : ℕ) → Later (operator_fault text token (more + at)) (operator_fault text token at)
  operator text (Compare by) at = fault (takes_at text by)
    where
      fault : (b : Bool) → Later (unless b (WrongOperator (more + at))) (unless b (WrongOperator at))
      fault true = refl
      fault false = refl
  operator text _ at = refl

  value : (text : Bool) (token : Token) (at : ℕ) → Later (value_fault text token (more + at)) (value_fault text token at)
  value text (Value literal) at = fault (fits_at text literal)
    where
      fault : (b : Bool) → Later (unless b (FilterSyntax (more + at) cause.Value)) (unless b (FilterSyntax at cause.Value))
      fault true = refl
      fault false = refl
  value text _ at = refl

  test : (text : Option Bool) (at : ℕ) (op literal : Spot) → Later (test_fault text (more + at) (shifted_by more op) (shifted_by more literal)) (test_fault text at op literal)
  test None at op literal = refl
  test (Some text) at op literal =
      or_later-later (operator_fault text op.token (more + op.at)) (value_fault text literal.token (more + literal.at)) (operator_fault text op.token op.at) (value_fault text literal.token literal.at)
      (operator text op.token op.at) (value text literal.token literal.at)

  begun : (token : Token) (at : ℕ) (rest : List Spot) → Later (fault_of_test fields token (more + at) (map (shifted_by more) rest)) (fault_of_test fields token at rest)
  begun (Name name) at [] = refl
  begun (Name name) at (op ∷ []) = refl
  begun (Name name) at (op ∷ literal ∷ rest) = test (is_text_named fields name) at op literal
  begun _ at rest = refl

  misfit_later : (spots : List Spot) → Later (first_misfit fields (map (shifted_by more) spots)) (first_misfit fields spots)
  misfit_later [] = refl
  misfit_later (spot ∷ spots) =
      or_later-later (fault_of_test fields spot.token (more + spot.at) (map (shifted_by more) spots)) (first_misfit fields (map (shifted_by more) spots)) (fault_of_test fields spot.token spot.at spots) (first_misfit fields spots)
      (begun spot.token spot.at spots) (misfit_later spots)

none_later : (more : ℕ) (o : Option FilterFault) → option_map (later_by more) o ≡ None → o ≡ None
none_later more None h = refl
none_later more (Some fault) h = absurd (cc)

misfit_trimmed : (definition : Definition) (text : List ℕ) → misfit_of definition text ≡ option_map (later_by (prefix_len is_blank (without_end text))) (misfit_of definition (trimmed text))
misfit_trimmed definition text = ap (first_misfit definition.fields) (trimmed_spots text) ∙ misfit_later (prefix_len is_blank (without_end text)) definition.fields (spots_of (trimmed text))

fine_by_tokens : (one other : List Spot) → tokens_of one ≡ tokens_of other → IsFine one → IsFine other
fine_by_tokens one other same fine = record { whole = subst IsWhole same fine.whole; shallow = subst (λ tokens. depth_of tokens ≤ 16) same fine.shallow }

pub trimmed_filter : (definition : Definition) (text : List ℕ) → IsFilter definition text ↔ IsFilter definition (trimmed text)
trimmed_filter definition text =
    let k = prefix_len is_blank (without_end text) in (
      (λ is. record {
        short = subst (λ t. length t ≤ 1024) (sym (trimmed_twice text)) is.short;
        syntax = fine_by_tokens (spots_of text) (spots_of (trimmed text)) (sym (trimmed_tokens text)) is.syntax;
        fits = none_later k (misfit_of definition (trimmed text)) (sym (misfit_trimmed definition text) ∙ is.fits);
      }),
      (λ is. record {
        short = subst (λ t. length t ≤ 1024) (trimmed_twice text) is.short;
        syntax = fine_by_tokens (spots_of (trimmed text)) (spots_of text) (trimmed_tokens text) is.syntax;
        fits = misfit_trimmed definition text ∙ ap (option_map (later_by k)) is.fits;
      }),
    )

pub trimmed_passes : (definition : Definition) (text : List ℕ) (emission : Emission) → Passes definition text emission ↔ Passes definition (trimmed text) emission
trimmed_passes definition text emission =
    ((λ p. record { tree = p.tree; spelled = p.spelled ∙ sym (trimmed_tokens text); holds = p.holds }), (λ p. record { tree = p.tree; spelled = p.spelled ∙ trimmed_tokens text; holds = p.holds }))
