-- What is read of a text is what its settings say.
use Rattle.std.proofs.Common.{◌≡◌, ◌≢◌, ◌⊎◌, inl, inr, refl, ℕ, ◌≤◌, Bool, true, false, not, ◌||◌, nat_lt, cond, bytes_eq, codes, List, [], ◌∷◌, length, map, Option, Some, None, Ok, ap, sym, ◌∙◌, subst, arith, le-ltb}
use Rattle.std.specs.List.{AllByRecursion, AllPairs, AllZip, Contains}
use Rattle.std.proofs.lemmas.Bool.{or_parts, or_from, ltb-false}
use Rattle.std.proofs.lemmas.List.{length-map}
use Rattle.std.proofs.lemmas.List.Elements.{All-from_recursion, recursion_from_All}
use Rattle.std.proofs.lemmas.List.Kept.{AllPairs-filter}
use Rattle.std.proofs.lemmas.Slice.Eq.{bytes_eq-Decides}
use Rattle.trace_format.specs.Definitions.{Definition}
use Rattle.trace_trigger.specs.declared.spec.Action.TheVariants.{Attach}
use Rattle.trace_format.specs.declared.key.Key.{Key}
use Rattle.trace_trigger.specs.declared.spec.SortKey.{SortKey}
use Rattle.trace_format.specs.declared.sort_rule.SortRule.{SortRule}
use Rattle.trace_trigger.specs.declared.piece.ListItem.{ListItem}
use Rattle.trace_trigger.specs.HistParts.{attributes_of}
use Rattle.trace_trigger.specs.HistLists.{Lists, lists_of, names_of, summed_items, is_hitcount, item_name, sort_keys, sort_key_of}
use Rattle.trace_trigger.specs.HistMeanings.{is_too_many, few, size_of, told_size, sort_source, sort_rule}
use Rattle.trace_trigger.specs.HistSizes.{rounded_size}
use Rattle.trace_trigger.specs.HistSpecs.{SpecSeen, written_of, key_names}
use Rattle.trace_trigger.specs.Frames.{filter_of}
use Rattle.trace_trigger.specs.HistGrammar.{Setting, Keys, Values, Sort, Size, Name, Asks, subject_of, HasName, IsKey, AreNamedApart, IsListed, IsSet, IsNamed, summed_names, AreSettingsOf, IsWithinLimits, IsKeyOf, IsValueOf, IsSortedBy, IsRuleOf, FitsEvent}
use Rattle.trace_trigger.proofs.WrongLemmas.{Apart, from_pairs, each_weaker, apart_weaker, apart_map}
use Rattle.trace_trigger.proofs.NameLaws.{name_is}
use Rattle.trace_trigger.proofs.KeyLaws.{apart_named}
use Rattle.trace_trigger.proofs.SubjectLaws.{HasSome, any_some}
use Rattle.trace_trigger.proofs.ListLaws.{Member, member_from, Once, one_setting}
use Rattle.trace_trigger.proofs.SettingLaws.{default_sort, ListsAre, given, keys_are, values_are, lists_are}
use Rattle.trace_trigger.proofs.MeaningLaws.{keys_found, keys_given, keys_written, keys_named, keys_of_event, event_keys, values_found, values_given, summed_are, told, by_is, is_by}
use Rattle.trace_trigger.proofs.FilterLaws.{filter_given, filter_found}
use Rattle.trace_trigger.proofs.SpecLaws.{Finds, IsSaid}

-- ---- one value is set

pub set_once : {A : Type 0} (settings : List Setting) (by : A → Setting) (otherwise : A) → Once settings → ((a b : A) → subject_of (by a) ≡ subject_of (by b)) → ((a b : A) → by a ≡ by b → a ≡ b)
    → (one other : A) → IsSet settings by otherwise one → IsSet settings by otherwise other → one ≡ other
set_once settings by otherwise once same inject one other (inl is) (inl set) = inject one other (one_setting (by one) (by other) settings once (member_from (by one) settings is) (member_from (by other) settings set) (same one other))
set_once settings by otherwise once same inject one other (inl is) (inr none) = absurd (none.0 one is)
set_once settings by otherwise once same inject one other (inr none) (inl set) = absurd (none.0 other set)
set_once settings by otherwise once same inject one other (inr none) (inr never) = none.1 ∙ sym never.1

pub named_once : (settings : List Setting) → Once settings → (one other : Option (List ℕ)) → IsNamed settings one → IsNamed settings other → one ≡ other
named_once settings once None None is also = refl
named_once settings once None (Some name) is also = absurd (is name also)
named_once settings once (Some name) None is also = absurd (also name is)
named_once settings once (Some one) (Some other) is also =
    let same : Name one ≡ Name other = one_setting (Name one) (Name other) settings once (member_from (Name one) settings is) (member_from (Name other) settings also) refl in
    let names : one ≡ other = cc in
    ap (λ (name : List ℕ). Some name) names

-- ---- names that are summed

kept_member : (name : List ℕ) (names : List (List ℕ)) → name ≢ codes "hitcount" → Member name names → Member name (summed_names names)
kept_member name [] other is = is
kept_member name (first ∷ names) other is = by (bytes_eq first (codes "hitcount")) refl is (kept_member name names other)
  where
    by : (b : Bool) → bytes_eq first (codes "hitcount") ≡ b → Member name (first ∷ names) → (Member name names → Member name (summed_names names)) → Member name (cond (not b) (first ∷ summed_names names) (summed_names names))
    by true e (inl same) next = absurd (other (same ∙ (bytes_eq-Decides first (codes "hitcount")).0 e))
    by true e (inr is) next = next is
    by false e (inl same) next = inl same
    by false e (inr is) next = inr (next is)

no_hitcount : (names : List (List ℕ)) → Member (codes "hitcount") (summed_names names) → ⊥
no_hitcount [] is = is
no_hitcount (first ∷ names) is = by (bytes_eq first (codes "hitcount")) refl is (no_hitcount names)
  where
    by : (b : Bool) → bytes_eq first (codes "hitcount") ≡ b → Member (codes "hitcount") (cond (not b) (first ∷ summed_names names) (summed_names names)) → (Member (codes "hitcount") (summed_names names) → ⊥) → ⊥
    by true e is next = next is
    by false e (inl same) next = let equal : bytes_eq first (codes "hitcount") ≡ true = (bytes_eq-Decides first (codes "hitcount")).1 (sym same) in cc
    by false e (inr is) next = next is

named_member : (name : List ℕ) (items : List (List ℕ)) → HasSome (HasName name) items → Member name (map item_name items)
named_member name items is = by items is.member
  where
    by : (items : List (List ℕ)) → Member is.element items → Member name (map item_name items)
    by [] member = absurd member
    by (item ∷ items) (inl same) = inl (sym (name_is name is.element is.holds) ∙ ap item_name same)
    by (item ∷ items) (inr member) = inr (by items member)

-- ---- the lists of a text

module _ (definition : Definition) (text : List ℕ) (settings : List Setting) (condition : Option (List ℕ)) (finds : Finds text settings condition) where
  abbrev lists : Lists
  lists = lists_of (attributes_of text)

  once : Once settings
  once = from_pairs (λ one other. subject_of one ≢ subject_of other) settings finds.lawful.once

  pub are : ListsAre settings (lists_of (attributes_of text))
  are = lists_are (attributes_of text) settings finds.read once finds.lawful.keys.0 finds.lawful.keys.1

  -- the names of the keys
  abbrev named : List (List ℕ)
  named = map item_name (names_of lists.keys)

  keys_apart : Apart (λ one other. one ≢ other) named
  keys_apart =
      let it = given (attributes_of text) settings finds.read once (Keys (names_of lists.keys)) (member_from (Keys (names_of lists.keys)) settings are.keys) in
      apart_map (λ one other. one ≢ other) item_name (names_of lists.keys)
      (apart_weaker AreNamedApart (λ one other. item_name one ≢ item_name other) apart_named (names_of lists.keys) (from_pairs AreNamedApart (names_of lists.keys) it.read.holds.apart))

  keys_good : AllByRecursion IsKey (names_of lists.keys)
  keys_good =
      let it = given (attributes_of text) settings finds.read once (Keys (names_of lists.keys)) (member_from (Keys (names_of lists.keys)) settings are.keys) in
      recursion_from_All IsKey (names_of lists.keys) it.read.holds.each

  listed_apart : AllPairs (λ one other. one ≢ other) (names_of lists.values)
  listed_apart = by are.values
    where
      by : IsSet settings Values [] (names_of (lists_of (attributes_of text)).values) → AllPairs (λ one other. one ≢ other) (names_of (lists_of (attributes_of text)).values)
      by (inl set) = (given (attributes_of text) settings finds.read once (Values (names_of lists.values)) (member_from (Values (names_of lists.values)) settings set)).read.holds.apart
      by (inr none) = subst (AllPairs (λ one other. one ≢ other)) (sym none.1) (λ i j d l k. absurd (omega (arith, k)))

  values_apart : Apart (λ one other. one ≢ other) (names_of (summed_items lists.values))
  values_apart =
      subst (Apart (λ one other. one ≢ other)) (sym (summed_are lists.values))
      (from_pairs (λ one other. one ≢ other) (summed_names (names_of lists.values)) (AllPairs-filter (λ one other. one ≢ other) (λ name. not (bytes_eq name (codes "hitcount"))) (names_of lists.values) listed_apart))

  no_count : Member (codes "hitcount") (names_of (summed_items lists.values)) → ⊥
  no_count is = no_hitcount (names_of lists.values) (subst (Member (codes "hitcount")) (summed_are lists.values) is)

  -- ---- what is sorted by is found

  abbrev Lent : List ℕ → Type 0
  Lent name = (name ≡ codes "hitcount") ⊎ (Member name named ⊎ Member name (names_of (summed_items lists.values)))

  lent_value : (name : List ℕ) → Member name (names_of lists.values) → Lent name
  lent_value name is = by (is_hitcount name) refl
    where
      by : (b : Bool) → is_hitcount name ≡ b → Lent name
      by true e = inl ((bytes_eq-Decides name (codes "hitcount")).0 e)
      by false e =
          let other : name ≢ codes "hitcount" = λ same. let equal : is_hitcount name ≡ true = (bytes_eq-Decides name (codes "hitcount")).1 same in let no = e in cc in
          inr (inr (subst (Member name) (sym (summed_are lists.values)) (kept_member name (names_of lists.values) other is)))

  lent : (name : List ℕ) → (name ≡ codes "hitcount") ⊎ IsListed settings name → Lent name
  lent name (inl same) = inl same
  lent name (inr (inl is)) =
      inr (inl (subst (λ (items : List (List ℕ)). Member name (map item_name items)) (sym (keys_are (attributes_of text) settings finds.read once is.0 is.1)) (named_member name is.0 (any_some (HasName name) is.0 is.2))))
  lent name (inr (inr is)) = lent_value name (subst (Member name) (sym (values_are (attributes_of text) settings finds.read once is.0 is.1)) (member_from name is.0 is.2))

  sort_lent : (keys : List SortKey) → IsSet settings Sort default_sort keys → AllByRecursion (λ (key : SortKey). Lent key.name) keys
  sort_lent keys (inl set) = each_weaker (λ (key : SortKey). (key.name ≡ codes "hitcount") ⊎ IsListed settings key.name) (λ (key : SortKey). Lent key.name) (λ key is. lent key.name is) keys
      (recursion_from_All (λ (key : SortKey). (key.name ≡ codes "hitcount") ⊎ IsListed settings key.name) keys (finds.lawful.sort keys set))
  sort_lent keys (inr none) = subst (AllByRecursion (λ (key : SortKey). Lent key.name)) (sym none.1) (inl refl, tt)

  abbrev rule : SortKey → SortRule
  rule = sort_rule named (names_of (summed_items lists.values))

  source_lent : (name : List ℕ) → Lent name → IsSortedBy named (names_of (summed_items lists.values)) name (sort_source named (names_of (summed_items lists.values)) name)
  source_lent name lent = is_by named (names_of (summed_items lists.values)) keys_apart values_apart no_count name lent

  sorted_same : (keys values : List (List ℕ)) → named ≡ keys → names_of (summed_items lists.values) ≡ values → (key : SortKey) → Lent key.name
      → IsSortedBy keys values key.name (sort_source named (names_of (summed_items lists.values)) key.name)
  sorted_same keys values e f key lent =
      subst (λ (ks : List (List ℕ)). IsSortedBy ks values key.name (sort_source named (names_of (summed_items lists.values)) key.name)) e
      (subst (λ (vs : List (List ℕ)). IsSortedBy named vs key.name (sort_source named (names_of (summed_items lists.values)) key.name)) f (source_lent key.name lent))

  rules_found : (spec : SpecSeen) → named ≡ key_names spec.keys → names_of (summed_items lists.values) ≡ spec.values → (keys : List SortKey) → AllByRecursion (λ (key : SortKey). Lent key.name) keys
      → AllZip (IsRuleOf spec) keys (map rule keys)
  rules_found spec e f [] all = tt
  rules_found spec e f (key ∷ keys) all = ((sorted_same (key_names spec.keys) spec.values e f key all.0, refl), rules_found spec e f keys all.1)

  rules_given : (spec : SpecSeen) → named ≡ key_names spec.keys → names_of (summed_items lists.values) ≡ spec.values → (keys : List SortKey) (rules : List SortRule)
      → AllZip (IsRuleOf spec) keys rules → map rule keys ≡ rules
  rules_given spec e f [] [] zip = refl
  rules_given spec e f [] (it ∷ rules) zip = absurd zip
  rules_given spec e f (key ∷ keys) [] zip = absurd zip
  rules_given spec e f (key ∷ keys) (it ∷ rules) zip =
      let sorted : IsSortedBy named (names_of (summed_items lists.values)) key.name it.source =
      subst (λ (ks : List (List ℕ)). IsSortedBy ks (names_of (summed_items lists.values)) key.name it.source) (sym e)
      (subst (λ (vs : List (List ℕ)). IsSortedBy (key_names spec.keys) vs key.name it.source) (sym f) zip.0.0) in
      let source : it.source ≡ sort_source named (names_of (summed_items lists.values)) key.name =
      by_is named (names_of (summed_items lists.values)) keys_apart values_apart no_count key.name it.source sorted in
      (λ i. record { source = sym source i; descending = sym zip.0.1 i } ∷ rules_given spec e f keys rules zip.1 i)

  by_names : (names : List (List ℕ)) → named ≡ names → map rule (sort_keys lists.sort) ≡ map (sort_rule names (names_of (summed_items lists.values))) (sort_keys lists.sort)
  by_names names e = ap (λ (ns : List (List ℕ)). map (sort_rule ns (names_of (summed_items lists.values))) (sort_keys lists.sort)) e

  -- ---- how many

  few_keys : (items : List ListItem) (names : List (List ℕ)) → names_of items ≡ names → nat_lt 3 (length items) ≡ false → length names ≤ 3
  few_keys items names e f = omega (arith, ltb-false 3 (length items) f, length-map items (λ (item : ListItem). item.bytes), ap length e)

  keys_few : (items : List ListItem) (names : List (List ℕ)) → names_of items ≡ names → length names ≤ 3 → nat_lt 3 (length items) ≡ false
  keys_few items names e f = le-ltb 3 (length items) (omega (arith, f, length-map items (λ (item : ListItem). item.bytes), ap length e))

  few_sorts : (items : List ListItem) (keys : List SortKey) → sort_keys items ≡ keys → nat_lt 2 (length items) ≡ false → length keys ≤ 2
  few_sorts [] keys e f = omega (arith, ap length e)
  few_sorts (item ∷ items) keys e f = omega (arith, ltb-false 2 (length (item ∷ items)) f, length-map (item ∷ items) sort_key_of, ap length e)

  sorts_few : (items : List ListItem) (keys : List SortKey) → sort_keys items ≡ keys → length keys ≤ 2 → nat_lt 2 (length items) ≡ false
  sorts_few [] keys e f = refl
  sorts_few (item ∷ items) keys e f = le-ltb 2 (length (item ∷ items)) (omega (arith, f, length-map (item ∷ items) sort_key_of, ap length e))

  written_length : (keys : List Key) → length (written_of keys) ≡ length keys
  written_length keys = length-map keys (λ (key : Key). key.written)

  within : (spec : SpecSeen) → names_of lists.keys ≡ written_of spec.keys → names_of (summed_items lists.values) ≡ spec.values → sort_keys lists.sort ≡ spec.sort → is_too_many lists ≡ false → IsWithinLimits spec
  within spec keys values sort few =
      let first = or_parts (nat_lt 3 (length lists.keys) || nat_lt 3 (length (summed_items lists.values))) (nat_lt 2 (length lists.sort)) few in
      let second = or_parts (nat_lt 3 (length lists.keys)) (nat_lt 3 (length (summed_items lists.values))) first.0 in
      record {
        keys = omega (arith, few_keys lists.keys (written_of spec.keys) keys second.0, written_length spec.keys);
        values = few_keys (summed_items lists.values) spec.values values second.1;
        sort = few_sorts lists.sort spec.sort sort first.1;
      }

  fewer : (spec : SpecSeen) → names_of lists.keys ≡ written_of spec.keys → names_of (summed_items lists.values) ≡ spec.values → sort_keys lists.sort ≡ spec.sort → IsWithinLimits spec → is_too_many lists ≡ false
  fewer spec keys values sort limits =
      or_from (nat_lt 3 (length lists.keys) || nat_lt 3 (length (summed_items lists.values))) (nat_lt 2 (length lists.sort))
      (or_from (nat_lt 3 (length lists.keys)) (nat_lt 3 (length (summed_items lists.values))) (keys_few lists.keys (written_of spec.keys) keys (omega (arith, limits.keys, written_length spec.keys))) (keys_few (summed_items lists.values) spec.values values limits.values))
      (sorts_few lists.sort spec.sort sort limits.sort)

  -- ---- what is said is what the settings say

  said_written : (spec : SpecSeen) → IsSaid definition text lists spec → names_of lists.keys ≡ written_of spec.keys
  said_written spec is = keys_written definition lists.keys spec.keys (keys_found definition lists.keys spec.keys is.keys)

  pub said_settings : (spec : SpecSeen) → IsSaid definition text lists spec → AreSettingsOf settings spec
  said_settings spec is = record {
    name = subst (IsNamed settings) is.name are.name;
    keys = subst (λ (names : List (List ℕ)). Contains settings (Keys names)) (said_written spec is) are.keys;
    listed = names_of lists.values;
    listed_set = are.values;
    values = sym is.values ∙ summed_are lists.values;
    sort = subst (IsSet settings Sort default_sort) is.sort are.sort;
    entries = are.entries;
    entries_set = are.entries_set;
    size = told (rounded_size are.entries) spec.size (sym are.size ∙ is.size);
    action = subst (IsSet settings Asks Attach) is.action are.action;
  }

  pub said_limits : (spec : SpecSeen) → IsSaid definition text lists spec → IsWithinLimits spec
  said_limits spec is = within spec (said_written spec is) is.values is.sort is.few

  pub said_fits : (spec : SpecSeen) → IsSaid definition text lists spec → FitsEvent definition condition spec
  said_fits spec is =
      let read = keys_found definition lists.keys spec.keys is.keys in
      let named = keys_named definition lists.keys spec.keys read in
      record {
        keys = All-from_recursion (IsKeyOf definition) spec.keys (keys_of_event definition lists.keys spec.keys keys_good read);
        values = subst (λ (names : List (List ℕ)). AllZip (IsValueOf definition) names spec.value_sources) is.values (values_found definition (summed_items lists.values) spec.value_sources is.value_sources);
        sort =
            subst (λ (keys : List SortKey). AllZip (IsRuleOf spec) keys spec.sort_sources) is.sort
            (subst (λ (rules : List SortRule). AllZip (IsRuleOf spec) (sort_keys lists.sort) rules) (by_names (key_names spec.keys) named ∙ is.sort_sources)
            (rules_found spec named is.values (sort_keys lists.sort) (sort_lent (sort_keys lists.sort) are.sort)));
        filter = filter_found definition text condition spec.filter (sym (ap (filter_of definition text) finds.found) ∙ is.filter);
      }

  -- ---- and what they say is said

  name_same : (spec : SpecSeen) → AreSettingsOf settings spec → lists.name ≡ spec.name
  name_same spec set = named_once settings once lists.name spec.name are.name set.name

  keys_same : (spec : SpecSeen) → AreSettingsOf settings spec → names_of lists.keys ≡ written_of spec.keys
  keys_same spec set = keys_are (attributes_of text) settings finds.read once (written_of spec.keys) set.keys

  values_same : (spec : SpecSeen) → AreSettingsOf settings spec → names_of (summed_items lists.values) ≡ spec.values
  values_same spec set =
      let same : names_of lists.values ≡ set.listed = set_once settings Values [] once (λ a b. refl) (λ a b e. cc) (names_of lists.values) set.listed are.values set.listed_set in
      summed_are lists.values ∙ ap summed_names same ∙ sym set.values

  sort_same : (spec : SpecSeen) → AreSettingsOf settings spec → sort_keys lists.sort ≡ spec.sort
  sort_same spec set = set_once settings Sort default_sort once (λ a b. refl) (λ a b e. cc) (sort_keys lists.sort) spec.sort are.sort set.sort

  size_same : (spec : SpecSeen) → AreSettingsOf settings spec → size_of lists.size ≡ Ok spec.size
  size_same spec set =
      let same : are.entries ≡ set.entries = set_once settings Size 2048 once (λ a b. refl) (λ a b e. cc) are.entries set.entries are.entries_set set.entries_set in
      are.size ∙ ap (λ n. told_size (rounded_size n)) same ∙ ap told_size set.size

  action_same : (spec : SpecSeen) → AreSettingsOf settings spec → lists.action ≡ spec.action
  action_same spec set = set_once settings Asks Attach once (λ a b. refl) (λ a b e. cc) lists.action spec.action are.action set.action

  pub settings_said : (spec : SpecSeen) → AreSettingsOf settings spec → IsWithinLimits spec → FitsEvent definition condition spec → IsSaid definition text lists spec
  settings_said spec set limits fits =
      let keys = keys_same spec set in
      let values = values_same spec set in
      let sort = sort_same spec set in
      let read = event_keys definition lists.keys spec.keys keys (recursion_from_All (IsKeyOf definition) spec.keys fits.keys) in
      let named = keys_named definition lists.keys spec.keys read in
      record {
        few = fewer spec keys values sort limits;
        name = name_same spec set;
        keys = keys_given definition lists.keys spec.keys read;
        value_sources = values_given definition (summed_items lists.values) spec.value_sources (subst (λ (names : List (List ℕ)). AllZip (IsValueOf definition) names spec.value_sources) (sym values) fits.values);
        size = size_same spec set;
        filter = ap (filter_of definition text) finds.found ∙ filter_given definition text condition spec.filter fits.filter;
        values = values;
        sort = sort;
        action = action_same spec set;
        sort_sources = sym (by_names (key_names spec.keys) named) ∙ ap (map rule) sort ∙ rules_given spec named values spec.sort spec.sort_sources fits.sort;
      }
