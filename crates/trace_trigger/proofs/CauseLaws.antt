-- Each refusal of a text has the cause that the grammar gives.
use Rattle.std.proofs.Common.{◌≡◌, ◌≢◌, ◌⊎◌, ◌↔◌, inl, inr, refl, ℕ, ◌-◌, ◌<◌, Bool, true, false, ◌||◌, nat_lt, if◌then◌else◌, List, [], ◌∷◌, length, map, Option, Some, None, Result, Ok, Err, ap, sym, ◌∙◌, subst, arith, lt-ltb, ltb-true}
use Rattle.std.specs.List.{AllByRecursion, AllZip}
use Rattle.std.proofs.lemmas.Bool.{or_cases, or_left, or_right, false_from_ne_true}
use Rattle.std.proofs.lemmas.List.{length-map}
use Rattle.std.proofs.lemmas.List.Elements.{All-from_recursion, recursion_from_All}
use Rattle.trace_format.specs.Definitions.{Definition}
use Rattle.trace_format.specs.declared.operand.Operand.{Operand}
use Rattle.trace_filter.specs.declared.fault.FilterFault.{FilterFault}
use Rattle.trace_filter.specs.Filters.{Parsed, IsFilter, IsRefused, parsed_of}
use Rattle.trace_filter.proofs.FilterLemmas.{filter_or_refused}
use Rattle.trace_trigger.specs.declared.fault.TriggerFault.{TriggerFault}
use Rattle.trace_trigger.specs.declared.fault.TriggerFault.TheVariants.{HistSyntax, TooManyKeys, TooManyValues, TooManySortKeys, BadSize}
use Rattle.trace_trigger.specs.declared.fault.HistCause.{HistCause}
use Rattle.trace_format.specs.declared.key.Key.{Key}
use Rattle.trace_trigger.specs.declared.piece.ListItem.{ListItem}
use Rattle.trace_trigger.specs.HistSizes.{rounded_size}
use Rattle.trace_trigger.specs.HistParts.{attributes_of, tail_of, condition_of}
use Rattle.trace_trigger.specs.HistLists.{Lists, lists_of, names_of, summed_items, sort_keys, sort_key_of}
use Rattle.trace_trigger.specs.private.MistakeOffsets.{wrong_offsets}
use Rattle.trace_trigger.specs.TriggerAnswers.{◌>>=◌}
use Rattle.trace_trigger.specs.HistMeanings.{summed_len, is_too_many, excess, few, each, key_in, value_source, told_size, size_of, sort_rule}
use Rattle.trace_trigger.specs.HistSpecs.{SpecSeen, key_names}
use Rattle.trace_trigger.specs.Frames.{moved, filter_of}
use Rattle.trace_trigger.specs.HistTexts.{IsHistText, spec_from, spec_of}
use Rattle.trace_trigger.specs.HistGrammar.{Setting, Values, Sort, Size, subject_of, IsSet, summed_names, IsValueOf}
use Rattle.trace_trigger.specs.HistFaultOffsets.{Cut}
use Rattle.trace_trigger.specs.HistRefusals.{HasManyKeys, HasManyValues, HasManySortKeys, IsOver, IsOverBy, ByKeys, ByValues, BySortKeys, CanBeKey, CanBeValue, HaveKeys, HaveValues, IsSized, IsRefusal, ForMany, ForKey, ForValue, ForSize, ForFilter, IsRefusedAs}
use Rattle.trace_trigger.proofs.WrongLemmas.{from_pairs}
use Rattle.trace_trigger.proofs.ListLaws.{Once}
use Rattle.trace_trigger.proofs.SettingLaws.{default_sort, ListsAre, keys_are, values_are}
use Rattle.trace_trigger.proofs.PartLaws.{parts_of}
use Rattle.trace_trigger.proofs.FilterLaws.{filter_given, filter_refused}
use Rattle.trace_trigger.proofs.MeaningLaws.{keys_found, keys_given, keys_can, can_keys, values_found, values_given, summed_are}
use Rattle.trace_trigger.proofs.SpecLaws.{Finds, written_finds, IsSomehowWritten, right_written}
use Rattle.trace_trigger.proofs.SaysLaws.{are, set_once}
use Rattle.trace_trigger.proofs.HistTextLaws.{of_right}
use Rattle.trace_trigger.proofs.SyntaxLaws.{cut_of, syntax_is_leftmost, syntax_or_right}
use Rattle.trace_trigger.proofs.FirstFaults.{IsPassed, refused, values_can, can_values}
use Rattle.trace_trigger.proofs.RefusalLaws.{key_fault, fault_key, value_fault, fault_value}

module _ (definition : Definition) (text : List ℕ) (settings : List Setting) (condition : Option (List ℕ)) (finds : Finds text settings condition) where
  abbrev lists : Lists
  lists = lists_of (attributes_of text)

  once : Once settings
  once = from_pairs (λ one other. subject_of one ≢ subject_of other) settings finds.lawful.once

  lists_here : ListsAre settings (lists_of (attributes_of text))
  lists_here = are definition text settings condition finds

  -- ---- how many

  many_keys : nat_lt 3 (length lists.keys) ≡ true → HasManyKeys settings
  many_keys e = (names_of lists.keys, lists_here.keys, omega (arith, ltb-true 3 (length lists.keys) e, length-map lists.keys (λ (item : ListItem). item.bytes)))

  summed_length : (items : List ListItem) → length (summed_items items) ≡ length (summed_names (names_of items))
  summed_length items = omega (arith, length-map (summed_items items) (λ (item : ListItem). item.bytes), ap length (summed_are items))

  many_values : nat_lt 3 (summed_len lists.values) ≡ true → HasManyValues settings
  many_values e = by lists_here.values
    where
      by : IsSet settings Values [] (names_of (lists_of (attributes_of text)).values) → HasManyValues settings
      by (inl set) = (names_of lists.values, set, omega (arith, ltb-true 3 (length (summed_items lists.values)) e, summed_length lists.values))
      by (inr none) = absurd (omega (arith, ltb-true 3 (length (summed_items lists.values)) e, summed_length lists.values, ap (λ (names : List (List ℕ)). length (summed_names names)) none.1))

  sort_length : (items : List ListItem) → 2 < length items → length (sort_keys items) ≡ length items
  sort_length [] more = absurd (omega (arith, more))
  sort_length (item ∷ items) more = length-map (item ∷ items) sort_key_of

  length_sort : (items : List ListItem) → 2 < length (sort_keys items) → 2 < length items
  length_sort [] more = absurd (omega (arith, more))
  length_sort (item ∷ items) more = omega (arith, more, length-map (item ∷ items) sort_key_of)

  many_sorts : nat_lt 2 (length lists.sort) ≡ true → HasManySortKeys settings
  many_sorts e = by lists_here.sort
    where
      by : IsSet settings Sort default_sort (sort_keys (lists_of (attributes_of text)).sort) → HasManySortKeys settings
      by (inl set) = (sort_keys lists.sort, set, omega (arith, ltb-true 2 (length lists.sort) e, sort_length lists.sort (ltb-true 2 (length lists.sort) e)))
      by (inr none) = absurd (omega (arith, ltb-true 2 (length lists.sort) e, sort_length lists.sort (ltb-true 2 (length lists.sort) e), ap length none.1))

  over : is_too_many lists ≡ true → IsOver settings
  over e = by (or_cases (nat_lt 3 (length lists.keys) || nat_lt 3 (summed_len lists.values)) (nat_lt 2 (length lists.sort)) e)
    where
      first : (nat_lt 3 (length lists.keys) ≡ true) ⊎ (nat_lt 3 (summed_len lists.values) ≡ true) → IsOver settings
      first (inl f) = inl (many_keys f)
      first (inr f) = inr (inl (many_values f))

      by : ((nat_lt 3 (length lists.keys) || nat_lt 3 (summed_len lists.values)) ≡ true) ⊎ (nat_lt 2 (length lists.sort) ≡ true) → IsOver settings
      by (inl f) = first (or_cases (nat_lt 3 (length lists.keys)) (nat_lt 3 (summed_len lists.values)) f)
      by (inr f) = inr (inr (many_sorts f))

  keys_many : HasManyKeys settings → nat_lt 3 (length lists.keys) ≡ true
  keys_many (keys, set, more) =
      let same : names_of lists.keys ≡ keys = keys_are (attributes_of text) settings finds.read once keys set in
      lt-ltb 3 (length lists.keys) (omega (arith, more, ap length same, length-map lists.keys (λ (item : ListItem). item.bytes)))

  values_many : HasManyValues settings → nat_lt 3 (summed_len lists.values) ≡ true
  values_many (listed, set, more) =
      let same : names_of lists.values ≡ listed = values_are (attributes_of text) settings finds.read once listed set in
      lt-ltb 3 (length (summed_items lists.values)) (omega (arith, more, ap (λ (names : List (List ℕ)). length (summed_names names)) same, summed_length lists.values))

  sorts_many : HasManySortKeys settings → nat_lt 2 (length lists.sort) ≡ true
  sorts_many (keys, set, more) =
      let same : sort_keys lists.sort ≡ keys = set_once settings Sort default_sort once (λ a b. refl) (λ a b e. cc) (sort_keys lists.sort) keys lists_here.sort (inl set) in
      lt-ltb 2 (length lists.sort) (length_sort lists.sort (omega (arith, more, ap length same)))

  too_many : IsOver settings → is_too_many lists ≡ true
  too_many (inl many) =
      or_left (nat_lt 3 (length lists.keys) || nat_lt 3 (summed_len lists.values)) (nat_lt 2 (length lists.sort))
      (or_left (nat_lt 3 (length lists.keys)) (nat_lt 3 (summed_len lists.values)) (keys_many many))
  too_many (inr (inl many)) =
      or_left (nat_lt 3 (length lists.keys) || nat_lt 3 (summed_len lists.values)) (nat_lt 2 (length lists.sort))
      (or_right (nat_lt 3 (length lists.keys)) (nat_lt 3 (summed_len lists.values)) (values_many many))
  too_many (inr (inr many)) = or_right (nat_lt 3 (length lists.keys) || nat_lt 3 (summed_len lists.values)) (nat_lt 2 (length lists.sort)) (sorts_many many)

  -- and of what there are too many

  abbrev excess_if : Bool → Bool → TriggerFault
  excess_if keys values = if keys then TooManyKeys else (if values then TooManyValues else TooManySortKeys)

  over_by : (fault : TriggerFault) → is_too_many lists ≡ true → fault ≡ excess lists → IsOverBy settings fault
  over_by fault e same = by (nat_lt 3 (length lists.keys)) (nat_lt 3 (summed_len lists.values)) refl refl (over e)
    where
      by : (keys values : Bool) → nat_lt 3 (length lists.keys) ≡ keys → nat_lt 3 (summed_len lists.values) ≡ values → IsOver settings → IsOverBy settings fault
      by true values f g is = ByKeys (many_keys f) (same ∙ (λ i. excess_if (f i) (nat_lt 3 (summed_len lists.values))))
      by false true f g is = ByValues (λ many. let never = keys_many many in cc) (many_values g) (same ∙ (λ i. excess_if (f i) (g i)))
      by false false f g (inl many) = let never = keys_many many in absurd (cc)
      by false false f g (inr (inl many)) = let never = values_many many in absurd (cc)
      by false false f g (inr (inr many)) = BySortKeys (λ many. let never = keys_many many in cc) (λ many. let never = values_many many in cc) many (same ∙ (λ i. excess_if (f i) (g i)))

  is_over : (fault : TriggerFault) → IsOverBy settings fault → IsOver settings
  is_over fault (ByKeys many same) = inl many
  is_over fault (ByValues few many same) = inr (inl many)
  is_over fault (BySortKeys few fewer many same) = inr (inr many)

  is_excess : (fault : TriggerFault) → IsOverBy settings fault → excess lists ≡ fault
  is_excess fault (ByKeys many same) = (λ i. excess_if (keys_many many i) (nat_lt 3 (summed_len lists.values))) ∙ sym same
  is_excess fault (ByValues few many same) =
      (λ i. excess_if (false_from_ne_true (nat_lt 3 (length lists.keys)) (λ e. few (many_keys e)) i) (values_many many i)) ∙ sym same
  is_excess fault (BySortKeys few fewer many same) =
      (λ i. excess_if (false_from_ne_true (nat_lt 3 (length lists.keys)) (λ e. few (many_keys e)) i) (false_from_ne_true (nat_lt 3 (summed_len lists.values)) (λ e. fewer (many_values e)) i)) ∙ sym same

  few_enough : (IsOver settings → ⊥) → is_too_many lists ≡ false
  few_enough within = false_from_ne_true (is_too_many lists) (λ many. within (over many))

  -- ---- what is right

  keys_right : (keys : List Key) → each (key_in definition.fields) lists.keys ≡ Ok keys → HaveKeys definition settings
  keys_right keys e =
      (names_of lists.keys, lists_here.keys, All-from_recursion (CanBeKey definition) (names_of lists.keys) (keys_can definition lists.keys keys (keys_found definition lists.keys keys e)))

  right_keys : HaveKeys definition settings → (keys : List Key) × (each (key_in definition.fields) lists.keys ≡ Ok keys)
  right_keys is =
      let same : names_of lists.keys ≡ is.0 = keys_are (attributes_of text) settings finds.read once is.0 is.1 in
      let them = can_keys definition lists.keys (subst (AllByRecursion (CanBeKey definition)) (sym same) (recursion_from_All (CanBeKey definition) is.0 is.2)) in
      (them.0, keys_given definition lists.keys them.0 them.1)

  values_right : (sources : List Operand) → each (value_source definition.fields) (summed_items lists.values) ≡ Ok sources → HaveValues definition settings
  values_right sources e =
      let found : AllZip (IsValueOf definition) (summed_names (names_of lists.values)) sources =
      subst (λ (names : List (List ℕ)). AllZip (IsValueOf definition) names sources) (summed_are lists.values) (values_found definition (summed_items lists.values) sources e) in
      (names_of lists.values, lists_here.values, All-from_recursion (CanBeValue definition) (names_of lists.values) (values_can definition (names_of lists.values) sources found))

  right_values : HaveValues definition settings → (sources : List Operand) × (each (value_source definition.fields) (summed_items lists.values) ≡ Ok sources)
  right_values is =
      let same : names_of lists.values ≡ is.0 = set_once settings Values [] once (λ a b. refl) (λ a b e. cc) (names_of lists.values) is.0 lists_here.values is.1 in
      let zip = can_values definition is.0 (recursion_from_All (CanBeValue definition) is.0 is.2) in
      let names : names_of (summed_items lists.values) ≡ summed_names is.0 = summed_are lists.values ∙ ap summed_names same in
      (zip.0, values_given definition (summed_items lists.values) zip.0 (subst (λ (ns : List (List ℕ)). AllZip (IsValueOf definition) ns zip.0) (sym names) zip.1))

  sized : (size : Option ℕ) → IsSized settings size → size_of lists.size ≡ told_size size
  sized size is =
      let same : lists_here.entries ≡ is.0 = set_once settings Size 2048 once (λ a b. refl) (λ a b e. cc) lists_here.entries is.0 lists_here.entries_set is.1 in
      lists_here.size ∙ ap (λ n. told_size (rounded_size n)) same ∙ ap told_size is.2

  told_none : (size : Option ℕ) (fault : TriggerFault) → told_size size ≡ Err fault → (size ≡ None) × (fault ≡ BadSize)
  told_none None fault e = let same : BadSize ≡ fault = cc in (refl, sym same)
  told_none (Some n) fault e = absurd (cc)

  told_some : (size : Option ℕ) (n : ℕ) → told_size size ≡ Ok n → size ≡ Some n
  told_some None n e = absurd (cc)
  told_some (Some m) n e = let same : m ≡ n = cc in ap Some same

  no_size : (fault : TriggerFault) → size_of lists.size ≡ Err fault → IsSized settings None × (fault ≡ BadSize)
  no_size fault e = let is = told_none (rounded_size lists_here.entries) fault (sym lists_here.size ∙ e) in ((lists_here.entries, lists_here.entries_set, is.0), is.1)

  some_size : (size : ℕ) → size_of lists.size ≡ Ok size → IsSized settings (Some size)
  some_size size e = (lists_here.entries, lists_here.entries_set, told_some (rounded_size lists_here.entries) size (sym lists_here.size ∙ e))

  -- ---- the filter

  record FilterFaultAt (written : Option (List ℕ)) (fault : TriggerFault) : Type 0 where
    filter : List ℕ
    is : written ≡ Some filter
    told : FilterFault
    refused_so : IsRefused definition filter told
    same : fault ≡ moved (length text - length filter) told

  filter_fault : (written : Option (List ℕ)) (fault : TriggerFault) → filter_of definition text written ≡ Err fault → FilterFaultAt written fault
  unfolding filter_of
  filter_fault None fault e = absurd (cc)
  filter_fault (Some filter) fault e = by (filter_or_refused definition filter)
    where
      by : IsFilter definition filter ⊎ ((told : FilterFault) × IsRefused definition filter told) → FilterFaultAt (Some filter) fault
      by (inl fine) = let found = filter_given definition text (Some filter) (Some (parsed_of definition filter)) (fine, refl) in absurd (cc)
      by (inr is) =
          let found = filter_refused definition text filter is.0 is.1 in
          let same : fault ≡ moved (length text - length filter) is.0 = cc in
          record { filter = filter; is = refl; told = is.0; refused_so = is.1; same = same }

  -- ---- causes

  abbrev from_lists : Result SpecSeen TriggerFault
  from_lists = few lists >>= λ ls. spec_from definition text ls

  abbrev spec_of_lists : List Key → List Operand → ℕ → Option Parsed → SpecSeen
  spec_of_lists keys values size only_if = record {
    name = lists.name;
    keys = keys;
    values = names_of (summed_items lists.values);
    sort = sort_keys lists.sort;
    size = size;
    action = lists.action;
    filter = only_if;
    value_sources = values;
    sort_sources = map (sort_rule (key_names keys) (names_of (summed_items lists.values))) (sort_keys lists.sort);
  }

  abbrev after_size : List Key → List Operand → ℕ → Result SpecSeen TriggerFault
  after_size keys values size = filter_of definition text (condition_of (tail_of text)) >>= λ only_if. Ok (spec_of_lists keys values size only_if)

  abbrev after_values : List Key → List Operand → Result SpecSeen TriggerFault
  after_values keys values = size_of lists.size >>= λ size. after_size keys values size

  abbrev after_keys : List Key → Result SpecSeen TriggerFault
  after_keys keys = each (value_source definition.fields) (summed_items lists.values) >>= λ values. after_values keys values

  few_so : is_too_many lists ≡ false → from_lists ≡ (each (key_in definition.fields) lists.keys >>= λ keys. after_keys keys)
  unfolding spec_from
  few_so e = ap (λ (b : Bool). (if b then Err (excess lists) else Ok lists) >>= λ ls. spec_from definition text ls) e

  abbrev Cause : TriggerFault → Type 0
  Cause fault = IsRefusal definition text settings condition fault

  cause_in : (cut : Cut text) (fault : TriggerFault) → (IsOver settings → ⊥) → (each (key_in definition.fields) lists.keys >>= λ keys. after_keys keys) ≡ Err fault → Cause fault
  cause_in cut fault within e = at_keys (refused (each (key_in definition.fields) lists.keys) (λ keys. after_keys keys) fault e)
    where
      at_filter : (keys : List Key) (values : List Operand) (size : ℕ) → HaveKeys definition settings → HaveValues definition settings → IsSized settings (Some size)
          → (filter_of definition text (condition_of (tail_of text)) ≡ Err fault) ⊎ IsPassed (filter_of definition text (condition_of (tail_of text))) (λ only_if. Ok (spec_of_lists keys values size only_if)) fault → Cause fault
      at_filter keys values size have right is (inl f) =
          let it = filter_fault condition fault (sym (ap (filter_of definition text) finds.found) ∙ f) in
          ForFilter within have right size is it.filter it.is it.told it.refused_so it.same
      at_filter keys values size have right is (inr passed) = let wrong = passed.after in absurd (cc)

      at_size : (keys : List Key) (values : List Operand) → HaveKeys definition settings → HaveValues definition settings → (size_of lists.size ≡ Err fault) ⊎ IsPassed (size_of lists.size) (λ size. after_size keys values size) fault → Cause fault
      at_size keys values have right (inl f) = let it = no_size fault f in ForSize within have right it.0 it.1
      at_size keys values have right (inr passed) =
          at_filter keys values passed.found have right (some_size passed.found passed.is)
          (refused (filter_of definition text (condition_of (tail_of text))) (λ only_if. Ok (spec_of_lists keys values passed.found only_if)) fault passed.after)

      at_values : (keys : List Key) → HaveKeys definition settings
          → (each (value_source definition.fields) (summed_items lists.values) ≡ Err fault) ⊎ IsPassed (each (value_source definition.fields) (summed_items lists.values)) (λ values. after_values keys values) fault → Cause fault
      at_values keys have (inl f) = ForValue within have (value_fault definition text cut fault f)
      at_values keys have (inr passed) = at_size keys passed.found have (values_right passed.found passed.is) (refused (size_of lists.size) (λ size. after_size keys passed.found size) fault passed.after)

      at_keys : (each (key_in definition.fields) lists.keys ≡ Err fault) ⊎ IsPassed (each (key_in definition.fields) lists.keys) (λ keys. after_keys keys) fault → Cause fault
      at_keys (inl f) = ForKey within (key_fault definition text cut fault f)
      at_keys (inr passed) =
          at_values passed.found (keys_right passed.found passed.is)
          (refused (each (value_source definition.fields) (summed_items lists.values)) (λ values. after_values passed.found values) fault passed.after)

  pub cause_of : (cut : Cut text) (fault : TriggerFault) → from_lists ≡ Err fault → Cause fault
  cause_of cut fault e = by (is_too_many lists) refl
    where
      by : (b : Bool) → is_too_many lists ≡ b → Cause fault
      by true f =
          let many : from_lists ≡ Err (excess lists) = ap (λ (b : Bool). (if b then Err (excess lists) else Ok lists) >>= λ ls. spec_from definition text ls) f in
          let same : fault ≡ excess lists = cc in
          ForMany (over_by fault f same)
      by false f = cause_in cut fault (λ is. let many = too_many is in cc) (sym (few_so f) ∙ e)

  -- ---- and each cause is told

  with_keys : (fault : TriggerFault) → (IsOver settings → ⊥) → (have : HaveKeys definition settings) → after_keys (right_keys have).0 ≡ Err fault → from_lists ≡ Err fault
  with_keys fault within have e = few_so (few_enough within) ∙ ap (λ (r : Result (List Key) TriggerFault). r >>= λ keys. after_keys keys) (right_keys have).1 ∙ e

  with_values : (fault : TriggerFault) → (IsOver settings → ⊥) → (have : HaveKeys definition settings) → (right : HaveValues definition settings)
      → after_values (right_keys have).0 (right_values right).0 ≡ Err fault → from_lists ≡ Err fault
  with_values fault within have right e =
      with_keys fault within have (ap (λ (r : Result (List Operand) TriggerFault). r >>= λ values. after_values (right_keys have).0 values) (right_values right).1 ∙ e)

  pub cause_told : (fault : TriggerFault) → Cause fault → from_lists ≡ Err fault
  cause_told fault (ForMany is) =
      ap (λ (b : Bool). (if b then Err (excess lists) else Ok lists) >>= λ ls. spec_from definition text ls) (too_many (is_over fault is)) ∙ ap (λ (f : TriggerFault). Err f) (is_excess fault is)
  cause_told fault (ForKey within is) =
      few_so (few_enough within) ∙ ap (λ (r : Result (List Key) TriggerFault). r >>= λ keys. after_keys keys) (fault_key definition text fault is)
  cause_told fault (ForValue within have is) =
      with_keys fault within have (ap (λ (r : Result (List Operand) TriggerFault). r >>= λ values. after_values (right_keys have).0 values) (fault_value definition text fault is))
  cause_told fault (ForSize within have right is same) =
      with_values fault within have right (ap (λ (r : Result ℕ TriggerFault). r >>= λ size. after_size (right_keys have).0 (right_values right).0 size) (sized None is) ∙ ap (λ (f : TriggerFault). Err f) (sym same))
  cause_told fault (ForFilter within have right size is filter at told refused_so same) =
      with_values fault within have right
      (ap (λ (r : Result ℕ TriggerFault). r >>= λ n. after_size (right_keys have).0 (right_values right).0 n) (sized (Some size) is)
      ∙ ap (λ (r : Result (Option Parsed) TriggerFault). r >>= λ only_if. Ok (spec_of_lists (right_keys have).0 (right_values right).0 size only_if))
      (ap (filter_of definition text) (finds.found ∙ at) ∙ filter_refused definition text filter told refused_so)
      ∙ ap (λ (f : TriggerFault). Err f) (sym same))

-- ---- the law

pub refusal_is_as_written : (definition : Definition) (text : List ℕ) (fault : TriggerFault) → IsHistText text → (spec_of definition text ≡ Err fault) ↔ IsRefusedAs definition text fault
refusal_is_as_written definition text fault hist = (λ e. by e (syntax_or_right definition text), λ is. told is)
  where
    wrong : spec_of definition text ≡ Err fault → (at : ℕ) (cause : HistCause) → spec_of definition text ≡ Err (HistSyntax at cause) → IsRefusedAs definition text fault
    wrong e at cause f =
        let same : fault ≡ HistSyntax at cause = cc in
        let is = (syntax_is_leftmost definition text at cause hist).0 f in
        inl (at, cause, same, is.0, is.1)

    written : spec_of definition text ≡ Err fault → wrong_offsets text ≡ [] → IsSomehowWritten text → IsRefusedAs definition text fault
    written e none is =
        let finds = written_finds text is.settings is.condition is.written in
        inr (record {
          settings = is.settings;
          condition = is.condition;
          written = is.written;
          refusal = cause_of definition text is.settings is.condition finds (cut_of definition text (parts_of text hist)) fault (sym (of_right definition text none) ∙ e);
        })

    by : spec_of definition text ≡ Err fault → ((at : ℕ) × (cause : HistCause) × (spec_of definition text ≡ Err (HistSyntax at cause))) ⊎ (wrong_offsets text ≡ []) → IsRefusedAs definition text fault
    by e (inl is) = wrong e is.0 is.1 is.2
    by e (inr none) = written e none (right_written text (parts_of text hist) none)

    told : IsRefusedAs definition text fault → spec_of definition text ≡ Err fault
    told (inl (at, cause, same, is, caused)) = (syntax_is_leftmost definition text at cause hist).1 (is, caused) ∙ ap (λ (f : TriggerFault). Err f) (sym same)
    told (inr is) =
        let finds = written_finds text is.settings is.condition is.written in
        of_right definition text finds.none ∙ cause_told definition text is.settings is.condition finds fault is.refusal
