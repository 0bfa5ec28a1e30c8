-- What hist triggers that fit one another have in common.
use Rattle.std.proofs.Common.{◌≡◌, ◌↔◌, refl, ℕ, ◌==◌, Bool, true, ◌&&◌, bytes_eq, List, [], ◌∷◌, length, map, Some, Ok, ap, sym, ◌∙◌, subst}
use Rattle.std.specs.Bool.{beq, Decides}
use Rattle.std.specs.Cmp.{booleans_Decides, unsigned_Decides}
use Rattle.std.specs.Cmp.Lexicographic.{pointwise, pointwise_decides}
use Rattle.std.specs.List.{AllByRecursion, AllZip}
use Rattle.std.proofs.lemmas.Bool.{and_parts, and_from}
use Rattle.std.proofs.lemmas.Slice.Eq.{bytes_eq-Decides}
use Rattle.std.proofs.lemmas.Slice.Zip.{AllZip-long}
use Rattle.trace_format.specs.Definitions.{Definition}
use Rattle.trace_format.specs.declared.operand.Operand.{Operand}
use Rattle.trace_format.specs.Operands.{operand_named}
use Rattle.trace_format.specs.declared.key.Key.{Key}
use Rattle.trace_trigger.specs.declared.piece.ListItem.{ListItem}
use Rattle.trace_trigger.specs.declared.spec.SortKey.{SortKey}
use Rattle.trace_trigger.specs.HistParts.{attributes_of}
use Rattle.trace_trigger.specs.HistLists.{Lists, lists_of, summed_items, item_name}
use Rattle.trace_trigger.specs.HistMeanings.{sort_rule}
use Rattle.trace_trigger.specs.HistSpecs.{SpecSeen, written_of, key_names}
use Rattle.trace_trigger.specs.HistTexts.{spec_of}
use Rattle.trace_trigger.specs.HistGrammar.{IsValueOf}
use Rattle.trace_trigger.specs.SameSpecs.{same_sort_key}
use Rattle.trace_trigger.specs.FittingSpecs.{are_texts, Fits, is_fitting}
use Rattle.trace_trigger.specs.FittingLaws.{modifiers_of, CountsAlike}
use Rattle.trace_trigger.proofs.KeyLaws.{modifier_in}
use Rattle.trace_trigger.proofs.MeaningLaws.{AreRead, key_found, keys_found, values_found}
use Rattle.trace_trigger.proofs.SpecLaws.{IsSaid, said}
use Rattle.trace_trigger.proofs.HistTextLaws.{of_right, right_of}

-- ---- the function says whether they fit

pub sort_key-Decides : (left right : SortKey) → Decides (same_sort_key left right) (left ≡ right)
sort_key-Decides left right =
    let name = bytes_eq-Decides left.name right.name in
    let descending = booleans_Decides left.descending right.descending in (
      λ is. let both = and_parts (bytes_eq left.name right.name) (beq left.descending right.descending) is in
          (λ i. record { name = name.0 both.0 i; descending = descending.0 both.1 i }),
      λ same. and_from (bytes_eq left.name right.name) (beq left.descending right.descending)
          (name.1 (ap (λ (key : SortKey). key.name) same)) (descending.1 (ap (λ (key : SortKey). key.descending) same)),
    )

module _ (left right : SpecSeen) where
  abbrev keys_agree : Bool
  keys_agree = pointwise bytes_eq (written_of left.keys) (written_of right.keys)

  abbrev kinds_agree : Bool
  kinds_agree = pointwise beq (are_texts left.keys) (are_texts right.keys)

  abbrev values_agree : Bool
  values_agree = pointwise bytes_eq left.values right.values

  abbrev sort_agrees : Bool
  sort_agrees = pointwise same_sort_key left.sort right.sort

  keys_decided : Decides keys_agree (written_of left.keys ≡ written_of right.keys)
  keys_decided = pointwise_decides bytes_eq-Decides (written_of left.keys) (written_of right.keys)

  kinds_decided : Decides kinds_agree (are_texts left.keys ≡ are_texts right.keys)
  kinds_decided = pointwise_decides booleans_Decides (are_texts left.keys) (are_texts right.keys)

  values_decided : Decides values_agree (left.values ≡ right.values)
  values_decided = pointwise_decides bytes_eq-Decides left.values right.values

  sort_decided : Decides sort_agrees (left.sort ≡ right.sort)
  sort_decided = pointwise_decides sort_key-Decides left.sort right.sort

  size_decided : Decides (left.size == right.size) (left.size ≡ right.size)
  size_decided = unsigned_Decides left.size right.size

  pub fitting_fits : is_fitting left right ≡ true → Fits left right
  unfolding is_fitting
  fitting_fits is =
      let keys = and_parts keys_agree (kinds_agree && (values_agree && (sort_agrees && (left.size == right.size)))) is in
      let kinds = and_parts kinds_agree (values_agree && (sort_agrees && (left.size == right.size))) keys.1 in
      let values = and_parts values_agree (sort_agrees && (left.size == right.size)) kinds.1 in
      let sort = and_parts sort_agrees (left.size == right.size) values.1 in
      record {
        keys = keys_decided.0 keys.0;
        kinds = kinds_decided.0 kinds.0;
        values = values_decided.0 values.0;
        sort = sort_decided.0 sort.0;
        size = size_decided.0 sort.1;
      }

  pub fits_fitting : Fits left right → is_fitting left right ≡ true
  unfolding is_fitting
  fits_fitting fits =
      and_from keys_agree (kinds_agree && (values_agree && (sort_agrees && (left.size == right.size)))) (keys_decided.1 fits.keys)
      (and_from kinds_agree (values_agree && (sort_agrees && (left.size == right.size))) (kinds_decided.1 fits.kinds)
      (and_from values_agree (sort_agrees && (left.size == right.size)) (values_decided.1 fits.values)
      (and_from sort_agrees (left.size == right.size) (sort_decided.1 fits.sort) (size_decided.1 fits.size))))

pub fitting_is_decided : (left right : SpecSeen) → (is_fitting left right ≡ true) ↔ Fits left right
fitting_is_decided left right = (fitting_fits left right, fits_fitting left right)

-- ---- each fits itself, and those that fit the same one

pub fitting_is_reflexive : (spec : SpecSeen) → is_fitting spec spec ≡ true
fitting_is_reflexive spec = fits_fitting spec spec (record { keys = refl; kinds = refl; values = refl; sort = refl; size = refl })

pub fitting_is_symmetric : (left right : SpecSeen) → is_fitting left right ≡ true → is_fitting right left ≡ true
fitting_is_symmetric left right is =
    let fits = fitting_fits left right is in
    fits_fitting right left (record {
      keys = sym fits.keys;
      kinds = sym fits.kinds;
      values = sym fits.values;
      sort = sym fits.sort;
      size = sym fits.size;
    })

pub fitting_is_transitive : (one other third : SpecSeen) → is_fitting one other ≡ true → is_fitting other third ≡ true → is_fitting one third ≡ true
fitting_is_transitive one other third is also =
    let first = fitting_fits one other is in
    let second = fitting_fits other third also in
    fits_fitting one third (record {
      keys = first.keys ∙ second.keys;
      kinds = first.kinds ∙ second.kinds;
      values = first.values ∙ second.values;
      sort = first.sort ∙ second.sort;
      size = first.size ∙ second.size;
    })

-- ---- what is said by a text

-- a key's text says its name and its modifier, and the name means this in an event
record IsMeant (definition : Definition) (key : Key) : Type 0 where
  name : key.name ≡ item_name key.written
  modifier : key.modifier ≡ modifier_in key.written
  means : operand_named definition.fields (item_name key.written) ≡ Some key.operand

module _ (definition : Definition) where
  keys_meant : (items : List ListItem) (keys : List Key) → AreRead definition items keys → AllByRecursion (IsMeant definition) keys
  keys_meant items [] zip = tt
  keys_meant [] (key ∷ keys) zip = absurd zip
  keys_meant (item ∷ items) (key ∷ keys) zip =
      let is = key_found definition item (operand_named definition.fields (item_name item.bytes)) key zip.0 in
      (subst (IsMeant definition) is.3 (record { name = refl; modifier = refl; means = is.1 }), keys_meant items keys zip.1)

  names_are : (keys : List Key) → AllByRecursion (IsMeant definition) keys → map item_name (written_of keys) ≡ key_names keys
  names_are [] all = refl
  names_are (key ∷ keys) all = (λ i. sym all.0.name i ∷ names_are keys all.1 i)

  modifiers_are : (keys : List Key) → AllByRecursion (IsMeant definition) keys → map modifier_in (written_of keys) ≡ modifiers_of keys
  modifiers_are [] all = refl
  modifiers_are (key ∷ keys) all = (λ i. sym all.0.modifier i ∷ modifiers_are keys all.1 i)

  -- what a text says, by its own names
  record AreMeant (spec : SpecSeen) : Type 0 where
    keys : AllByRecursion (IsMeant definition) spec.keys
    values : AllZip (IsValueOf definition) spec.values spec.value_sources
    sort : map (sort_rule (key_names spec.keys) spec.values) spec.sort ≡ spec.sort_sources

  text_meant : (text : List ℕ) (spec : SpecSeen) → spec_of definition text ≡ Ok spec → AreMeant spec
  text_meant text spec e =
      let lists : Lists = lists_of (attributes_of text) in
      let is : IsSaid definition text lists spec = said definition text lists spec (sym (of_right definition text (right_of definition text spec e)) ∙ e) in
      record {
        keys = keys_meant lists.keys spec.keys (keys_found definition lists.keys spec.keys is.keys);
        values = subst (λ (names : List (List ℕ)). AllZip (IsValueOf definition) names spec.value_sources) is.values
            (values_found definition (summed_items lists.values) spec.value_sources is.value_sources);
        sort = (λ i. map (sort_rule (key_names spec.keys) (sym is.values i)) (sym is.sort i)) ∙ is.sort_sources;
      }

  -- ---- of one event

  same_key : (left right : Key) → IsMeant definition left → IsMeant definition right → left.written ≡ right.written → left ≡ right
  same_key left right one other same =
      let found : Some left.operand ≡ Some right.operand = sym one.means ∙ ap (λ (written : List ℕ). operand_named definition.fields (item_name written)) same ∙ other.means in
      let operand : left.operand ≡ right.operand = cc in
      let name : left.name ≡ right.name = one.name ∙ ap item_name same ∙ sym other.name in
      let modifier : left.modifier ≡ right.modifier = one.modifier ∙ ap modifier_in same ∙ sym other.modifier in
      (λ i. record { written = same i; name = name i; modifier = modifier i; operand = operand i })

  same_keys : (left right : List Key) → AllByRecursion (IsMeant definition) left → AllByRecursion (IsMeant definition) right → written_of left ≡ written_of right → left ≡ right
  same_keys [] [] one other same = refl
  same_keys [] (key ∷ right) one other same = absurd (cc)
  same_keys (key ∷ left) [] one other same = absurd (cc)
  same_keys (key ∷ left) (also ∷ right) one other same =
      let written : key.written ≡ also.written = cc in
      let rest : written_of left ≡ written_of right = cc in
      (λ i. same_key key also one.0 other.0 written i ∷ same_keys left right one.1 other.1 rest i)

  same_sources : (names : List (List ℕ)) (left right : List Operand) → AllZip (IsValueOf definition) names left → AllZip (IsValueOf definition) names right → left ≡ right
  same_sources [] [] [] one other = refl
  same_sources [] [] (source ∷ right) one other = absurd other
  same_sources [] (source ∷ left) right one other = absurd one
  same_sources (name ∷ names) [] right one other = absurd one
  same_sources (name ∷ names) (source ∷ left) [] one other = absurd other
  same_sources (name ∷ names) (source ∷ left) (also ∷ right) one other =
      let found : Some source ≡ Some also = sym one.0.0 ∙ other.0.0 in
      let same : source ≡ also = cc in
      (λ i. same i ∷ same_sources names left right one.1 other.1 i)

-- ---- what they have in common

pub fitting_specs_count_alike : (one other : Definition) (text of_other : List ℕ) (left right : SpecSeen)
    → spec_of one text ≡ Ok left → spec_of other of_other ≡ Ok right → is_fitting left right ≡ true → CountsAlike left right
fitting_specs_count_alike one other text of_other left right says also is =
    let fits = fitting_fits left right is in
    let first = text_meant one text left says in
    let second = text_meant other of_other right also in
    let names : key_names left.keys ≡ key_names right.keys =
    sym (names_are one left.keys first.keys) ∙ ap (map item_name) fits.keys ∙ names_are other right.keys second.keys in
    record {
      modifiers = sym (modifiers_are one left.keys first.keys) ∙ ap (map modifier_in) fits.keys ∙ modifiers_are other right.keys second.keys;
      values = AllZip-long (IsValueOf one) left.values left.value_sources first.values ∙ ap length fits.values
          ∙ sym (AllZip-long (IsValueOf other) right.values right.value_sources second.values);
      sort_sources = sym first.sort ∙ (λ i. map (sort_rule (names i) (fits.values i)) (fits.sort i)) ∙ second.sort;
      size = fits.size;
    }

pub fitting_specs_of_one_event_read_alike : (definition : Definition) (text other : List ℕ) (left right : SpecSeen)
    → spec_of definition text ≡ Ok left → spec_of definition other ≡ Ok right → is_fitting left right ≡ true
    → (left.keys ≡ right.keys) × (left.value_sources ≡ right.value_sources)
fitting_specs_of_one_event_read_alike definition text other left right says also is =
    let fits = fitting_fits left right is in
    let first = text_meant definition text left says in
    let second = text_meant definition other right also in (
      same_keys definition left.keys right.keys first.keys second.keys fits.keys,
      same_sources definition right.values left.value_sources right.value_sources
          (subst (λ (names : List (List ℕ)). AllZip (IsValueOf definition) names left.value_sources) fits.values first.values) second.values,
    )
