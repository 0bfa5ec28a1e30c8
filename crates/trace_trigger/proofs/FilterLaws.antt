-- The filter of a trigger's text is what the grammar says that it is.
use Rattle.std.proofs.Common.{◌≡◌, ◌⊎◌, inl, inr, refl, ℕ, ◌-◌, List, length, Option, Some, None, Ok, Err, ap, sym, ◌∙◌}
use Rattle.trace_format.specs.Definitions.{Definition}
use Rattle.trace_filter.specs.declared.fault.FilterFault.{FilterFault}
use Rattle.trace_filter.specs.Filters.{Parsed, IsFilter, IsRefused, parsed_of}
use Rattle.trace_filter.proofs.FilterLemmas.{filter_is_answered, refusal_is_answered, filter_or_refused}
use Rattle.trace_trigger.specs.Frames.{IsReadAs, moved, filter_read, filter_of}

module _ (definition : Definition) (text : List ℕ) where
  pub filter_given : (condition : Option (List ℕ)) (read : Option Parsed) → IsReadAs definition condition read → filter_of definition text condition ≡ Ok read
  unfolding filter_of
  filter_given None None is = refl
  filter_given None (Some read) is = absurd is
  filter_given (Some condition) None is = absurd is
  filter_given (Some condition) (Some read) is =
      ap (filter_read (length text - length condition)) ((filter_is_answered definition condition).0 is.0) ∙ ap (λ (f : Parsed). Ok (Some f)) (sym is.1)

  pub filter_refused : (condition : List ℕ) (fault : FilterFault) → IsRefused definition condition fault → filter_of definition text (Some condition) ≡ Err (moved (length text - length condition) fault)
  unfolding filter_of
  filter_refused condition fault is = ap (filter_read (length text - length condition)) ((refusal_is_answered definition condition fault).0 is)

  pub filter_found : (condition : Option (List ℕ)) (read : Option Parsed) → filter_of definition text condition ≡ Ok read → IsReadAs definition condition read
  unfolding filter_of
  filter_found None None is = tt
  filter_found None (Some read) is = absurd (cc)
  filter_found (Some condition) read is = by read is (filter_or_refused definition condition)
    where
      by : (read : Option Parsed) → filter_of definition text (Some condition) ≡ Ok read → IsFilter definition condition ⊎ ((fault : FilterFault) × IsRefused definition condition fault) → IsReadAs definition (Some condition) read
      by None h (inl fine) = let found = filter_given (Some condition) (Some (parsed_of definition condition)) (fine, refl) in absurd (cc)
      by (Some read) h (inl fine) =
          let found = filter_given (Some condition) (Some (parsed_of definition condition)) (fine, refl) in
          let same : read ≡ parsed_of definition condition = cc in
          (fine, same)
      by read h (inr refused) = let found = filter_refused condition refused.0 refused.1 in absurd (cc)
