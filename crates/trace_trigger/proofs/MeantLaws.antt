-- The trigger that attributes say, by what they mean in an event.
use Rattle.std.proofs.Common.{◌≡◌, refl, ℕ, ◌≤◌, List, length, Option, Result, Ok, Err, ap, ◌∙◌, sym, subst}
use Rattle.trace_format.specs.Definitions.{Definition}
use Rattle.trace_format.specs.declared.operand.Operand.{Operand}
use Rattle.trace_filter.specs.Filters.{Parsed}
use Rattle.trace_trigger.specs.declared.fault.TriggerFault.{TriggerFault}
use Rattle.trace_trigger.specs.declared.fault.TriggerFault.TheVariants.{BadText, FilterTooLong, FilterTooDeep, TooManyKeys, TooManyValues, TooManySortKeys, FilterSyntax, NoSuchField, WrongOperator, HistSyntax, BadSize, Memory}
use Rattle.trace_format.specs.declared.key.Key.{Key}
use Rattle.trace_format.specs.declared.sort_rule.SortRule.{SortRule}
use Rattle.trace_trigger.specs.declared.spec.SortKey.{SortKey}
use Rattle.trace_trigger.specs.Frames.{filter_of}
use Rattle.trace_trigger.specs.TriggerAnswers.{◌>>=◌, IsTold}
use Rattle.trace_trigger.specs.HistSpecs.{SpecSeen}
use Rattle.trace_trigger.specs.HistParts.{tail_of, condition_of}
use Rattle.trace_trigger.specs.HistLists.{Lists, names_of, sort_keys, summed_items}
use Rattle.trace_trigger.specs.HistMeanings.{each, key_in, value_source, size_of}
use Rattle.trace_trigger.specs.HistTexts.{spec_from}
use Rattle.trace_trigger.specs.private.Meant.{Meant, meaning_of, spec_of_parts, rules_of, spec_with, summed}
use Rattle.trace_trigger.proofs.EachLemmas.{each_few}

abbrev meant_by : Result (List Key) TriggerFault → Result (List Operand) TriggerFault → Result ℕ TriggerFault → Result (Option Parsed) TriggerFault → Result Meant TriggerFault
meant_by keys sources size only_if =
    keys >>= λ keys. sources >>= λ sources. size >>= λ size. only_if >>= λ only_if. Ok (record { keys = keys; value_sources = sources; size = size; filter = only_if })

pub told_as : {A B : Type 0} (fault : TriggerFault) (answer : Result A TriggerFault) (next : A → Result B TriggerFault) → IsTold fault answer → IsTold fault (answer >>= next)
told_as (BadText cause) answer next e = ap (λ a. a >>= next) e
told_as FilterTooLong answer next e = ap (λ a. a >>= next) e
told_as FilterTooDeep answer next e = ap (λ a. a >>= next) e
told_as TooManyKeys answer next e = ap (λ a. a >>= next) e
told_as TooManyValues answer next e = ap (λ a. a >>= next) e
told_as TooManySortKeys answer next e = ap (λ a. a >>= next) e
told_as (FilterSyntax at cause) answer next e = ap (λ a. a >>= next) e
told_as (NoSuchField at) answer next e = ap (λ a. a >>= next) e
told_as (WrongOperator at cause) answer next e = ap (λ a. a >>= next) e
told_as (HistSyntax at cause) answer next e = ap (λ a. a >>= next) e
told_as BadSize answer next e = ap (λ a. a >>= next) e
told_as Memory answer next e = tt

module _ (definition : Definition) (text : List ℕ) (lists : Lists) where
  spec_is : spec_from definition text lists ≡ (meaning_of definition text (condition_of (tail_of text)) (summed lists) >>= λ meant. Ok (spec_with (summed lists) meant))
  unfolding spec_from meaning_of
  spec_is =
      by
      (each (key_in definition.fields) lists.keys)
      (each (value_source definition.fields) (summed_items lists.values))
      (size_of lists.size)
      (filter_of definition text (condition_of (tail_of text)))
    where
      by : (keys : Result (List Key) TriggerFault) (sources : Result (List Operand) TriggerFault) (size : Result ℕ TriggerFault) (only_if : Result (Option Parsed) TriggerFault)
          → (keys >>= λ keys. sources >>= λ sources. size >>= λ size. only_if >>= λ only_if. Ok (spec_with (summed lists) (record { keys = keys; value_sources = sources; size = size; filter = only_if })))
          ≡ (meant_by keys sources size only_if >>= λ meant. Ok (spec_with (summed lists) meant))
      by (Err fault) sources size only_if = refl
      by (Ok keys) (Err fault) size only_if = refl
      by (Ok keys) (Ok sources) (Err fault) only_if = refl
      by (Ok keys) (Ok sources) (Ok size) (Err fault) = refl
      by (Ok keys) (Ok sources) (Ok size) (Ok only_if) = refl

  module _ (condition : Option (List ℕ)) (is : condition ≡ condition_of (tail_of text)) (written : Lists) (less : written ≡ summed lists) where
    spec_as : spec_from definition text lists ≡ (meaning_of definition text condition written >>= λ meant. Ok (spec_with written meant))
    spec_as = spec_is ∙ (λ i. meaning_of definition text (sym is i) (sym less i) >>= λ meant. Ok (spec_with (sym less i) meant))

    -- where all of it means something, the trigger is this
    pub spec_meant : (meant : Meant) (values : List (List ℕ)) (sort : List SortKey) (rules : List SortRule) (spec : SpecSeen) → meaning_of definition text condition written ≡ Ok meant
        → values ≡ names_of written.values → sort ≡ sort_keys written.sort → rules ≡ rules_of meant.keys written → spec ≡ spec_of_parts written meant values sort rules
        → spec_from definition text lists ≡ Ok spec
    spec_meant meant values sort rules spec e named sorted ruled made =
        let then : Result Meant TriggerFault → Result SpecSeen TriggerFault = λ answer. answer >>= λ meant. Ok (spec_with written meant) in
        let whole : spec ≡ spec_with written meant = made ∙ (λ i. spec_of_parts written meant (named i) (sorted i) (ruled i)) in
        spec_as ∙ ap then e ∙ ap (λ (found : SpecSeen). Ok found) (sym whole)

    -- and where something means nothing, there is none, for the same fault
    pub spec_told : (fault : TriggerFault) → IsTold fault (meaning_of definition text condition written) → IsTold fault (spec_from definition text lists)
    spec_told fault told = subst (IsTold fault) (sym spec_as) (told_as fault (meaning_of definition text condition written) (λ meant. Ok (spec_with written meant)) told)

-- the keys that it means are those that are looked up
keys_meant : (definition : Definition) (text : List ℕ) (condition : Option (List ℕ)) (lists : Lists) (meant : Meant)
    → meaning_of definition text condition lists ≡ Ok meant → each (key_in definition.fields) lists.keys ≡ Ok meant.keys
unfolding meaning_of
keys_meant definition text condition lists meant e =
    by (each (key_in definition.fields) lists.keys) (each (value_source definition.fields) lists.values) (size_of lists.size) (filter_of definition text condition) e
  where
    by : (keys : Result (List Key) TriggerFault) (sources : Result (List Operand) TriggerFault) (size : Result ℕ TriggerFault) (only_if : Result (Option Parsed) TriggerFault)
        → meant_by keys sources size only_if ≡ Ok meant → keys ≡ Ok meant.keys
    by (Err fault) sources size only_if f = absurd (cc)
    by (Ok keys) (Err fault) size only_if f = absurd (cc)
    by (Ok keys) (Ok sources) (Err fault) only_if f = absurd (cc)
    by (Ok keys) (Ok sources) (Ok size) (Err fault) f = absurd (cc)
    by (Ok keys) (Ok sources) (Ok size) (Ok only_if) f =
        let same : record { keys = keys; value_sources = sources; size = size; filter = only_if } ≡ meant = cc in
        let keys_of : Meant → Result (List Key) TriggerFault = λ found. Ok found.keys in
        ap keys_of same

pub few_meant : (definition : Definition) (text : List ℕ) (condition : Option (List ℕ)) (lists written : Lists) (meant : Meant) (most : ℕ)
    → written ≡ summed lists → meaning_of definition text condition written ≡ Ok meant → length lists.keys ≤ most → length meant.keys ≤ most
few_meant definition text condition lists written meant most less e few =
    let fewer : length written.keys ≤ most = subst (λ (found : Lists). length found.keys ≤ most) (sym less) few in
    each_few (key_in definition.fields) written.keys meant.keys most (keys_meant definition text condition written meant e) fewer
