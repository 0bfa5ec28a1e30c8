-- The lists of a text are those of its settings, and nothing in it is wrong exactly where its settings are lawful.
use Rattle.std.proofs.Common.{◌≡◌, ◌⊎◌, inl, inr, refl, ℕ, ◌+◌, ◌<◌, true, false, bytes_eq, codes, List, [], ◌∷◌, length, map, Option, Some, None, option_map, option_and_then, ap, sym, ◌∙◌, subst, arith}
use Rattle.std.specs.List.{AllZip, Contains}
use Rattle.std.proofs.lemmas.Bool.{or_cases, or_left, or_right}
use Rattle.std.proofs.lemmas.Slice.Eq.{bytes_eq-Decides}
use Rattle.trace_trigger.specs.declared.spec.Action.{Action}
use Rattle.trace_trigger.specs.declared.spec.Action.TheVariants.{Attach}
use Rattle.trace_trigger.specs.declared.spec.SortKey.{SortKey}
use Rattle.trace_trigger.specs.declared.attribute.Topic.TheVariants as topic
use Rattle.trace_trigger.specs.declared.attribute.Attribute.{Attribute}
use Rattle.trace_trigger.specs.declared.piece.ListItem.{ListItem}
use Rattle.trace_trigger.specs.HistSizes.{rounded_size}
use Rattle.trace_trigger.specs.HistLists.{is_same_topic, first_about, items_of, items_in, value_of, asked_for, action_in, Lists, lists_of, names_of, is_listed, sort_key_of, sort_keys}
use Rattle.trace_trigger.specs.private.MistakeOffsets.{keyless_offsets}
use Rattle.trace_trigger.specs.HistMeanings.{size_of, told_size}
use Rattle.trace_trigger.specs.HistGrammar.{Setting, Keys, Values, Sort, Size, Name, Asks, IsSet, IsNamed}
use Rattle.trace_trigger.proofs.CutLemmas.{found_is_cut}
use Rattle.trace_trigger.proofs.ItemLaws.{sort_keys_are}
use Rattle.trace_trigger.proofs.AttributeLaws.{topic_of_setting, IsRead}
use Rattle.trace_trigger.proofs.ListLaws.{Member, member_from, from_member, same_subject, same_topic, Once, one_setting, IsFound, IsMissing, found_or_missing}

-- ---- names among others

pub listed_member : (name : List ℕ) (items : List ListItem) → is_listed items name ≡ true → Member name (names_of items)
listed_member name [] e = absurd (cc)
listed_member name (item ∷ items) e = by (or_cases (bytes_eq name item.bytes) (is_listed items name) e) (listed_member name items)
  where
    by : (bytes_eq name item.bytes ≡ true) ⊎ (is_listed items name ≡ true) → (is_listed items name ≡ true → Member name (names_of items)) → Member name (names_of (item ∷ items))
    by (inl f) next = inl ((bytes_eq-Decides name item.bytes).0 f)
    by (inr f) next = inr (next f)

pub member_listed : (name : List ℕ) (items : List ListItem) → Member name (names_of items) → is_listed items name ≡ true
member_listed name [] is = absurd is
member_listed name (item ∷ items) (inl e) = or_left (bytes_eq name item.bytes) (is_listed items name) ((bytes_eq-Decides name item.bytes).1 e)
member_listed name (item ∷ items) (inr is) = or_right (bytes_eq name item.bytes) (is_listed items name) (member_listed name items is)

-- ---- an attribute has items

pub some_items : (attribute : Attribute) → 0 < length (names_of (items_of attribute))
some_items attribute = (found_is_cut 44 (attribute.at + attribute.skip) attribute.value).some

pub sort_keys-some : (items : List ListItem) → 0 < length (names_of items) → sort_keys items ≡ map sort_key_of items
sort_keys-some [] some = absurd (omega (arith, some))
sort_keys-some (item ∷ items) some = refl

pub keyed : (end : ℕ) (keys : List ListItem) → 0 < length (names_of keys) → keyless_offsets end keys ≡ []
keyed end [] some = absurd (omega (arith, some))
keyed end (key ∷ keys) some = refl

-- ---- the lists of settings

abbrev pub default_sort : List SortKey
default_sort = record { name = codes "hitcount"; descending = false } ∷ []

pub record ListsAre (settings : List Setting) (lists : Lists) : Type 0 where
  pub name : IsNamed settings lists.name
  pub keys : Contains settings (Keys (names_of lists.keys))
  pub values : IsSet settings Values [] (names_of lists.values)
  pub sort : IsSet settings Sort default_sort (sort_keys lists.sort)
  pub entries : ℕ
  pub entries_set : IsSet settings Size 2048 entries
  pub size : size_of lists.size ≡ told_size (rounded_size entries)
  pub action : IsSet settings Asks Attach lists.action

-- an attribute that comes first on the subject of a setting is read as it
pub record IsGiven (attributes : List Attribute) (setting : Setting) : Type 0 where
  pub attribute : Attribute
  pub first : first_about (topic_of_setting setting) attributes ≡ Some attribute
  pub read : IsRead attribute setting

module _ (attributes : List Attribute) (settings : List Setting) (zip : AllZip IsRead attributes settings) (once : Once settings) where
  pub given : (setting : Setting) → Member setting settings → IsGiven attributes setting
  given setting is = by (found_or_missing (topic_of_setting setting) attributes settings zip)
    where
      by : IsFound (topic_of_setting setting) attributes settings ⊎ IsMissing (topic_of_setting setting) attributes settings → IsGiven attributes setting
      by (inl found) =
          let same : setting ≡ found.setting = one_setting setting found.setting settings once is found.member (same_subject setting found.setting found.same) in
          record { attribute = found.attribute; first = found.first; read = subst (IsRead found.attribute) (sym same) found.read }
      by (inr missing) =
          let never = missing.other setting is in
          let always = same_topic setting setting refl in
          absurd (cc)

  keys_given : (names : List (List ℕ)) → (is : IsGiven attributes (Keys names)) → names_of (lists_of attributes).keys ≡ names
  unfolding lists_of
  keys_given names is = ap (λ (a : Option Attribute). names_of (items_in a)) is.first ∙ is.read.holds.items

  pub keys_are : (names : List (List ℕ)) → Contains settings (Keys names) → names_of (lists_of attributes).keys ≡ names
  keys_are names is = keys_given names (given (Keys names) (member_from (Keys names) settings is))

  values_given : (names : List (List ℕ)) → (is : IsGiven attributes (Values names)) → names_of (lists_of attributes).values ≡ names
  unfolding lists_of
  values_given names is = ap (λ (a : Option Attribute). names_of (items_in a)) is.first ∙ is.read.holds.items

  pub values_are : (names : List (List ℕ)) → Contains settings (Values names) → names_of (lists_of attributes).values ≡ names
  values_are names is = values_given names (given (Values names) (member_from (Values names) settings is))

  values_set : IsSet settings Values [] (names_of (lists_of attributes).values)
  unfolding lists_of
  values_set = by (found_or_missing topic.Values attributes settings zip)
    where
      by : IsFound topic.Values attributes settings ⊎ IsMissing topic.Values attributes settings → IsSet settings Values [] (names_of (items_in (first_about topic.Values attributes)))
      by (inl found) = of found.setting found.same found.member found.read
        where
          of : (s : Setting) → is_same_topic topic.Values (topic_of_setting s) ≡ true → Member s settings → IsRead found.attribute s → IsSet settings Values [] (names_of (items_in (first_about topic.Values attributes)))
          of (Keys names) e is read = absurd (cc)
          of (Values names) e is read =
              let names_are : names_of (items_in (first_about topic.Values attributes)) ≡ names = ap (λ (a : Option Attribute). names_of (items_in a)) found.first ∙ read.holds.items in
              inl (subst (λ (listed : List (List ℕ)). Contains settings (Values listed)) (sym names_are) (from_member (Values names) settings is))
          of (Sort keys) e is read = absurd (cc)
          of (Size entries) e is read = absurd (cc)
          of (Name name) e is read = absurd (cc)
          of (Asks action) e is read = absurd (cc)
      by (inr missing) =
          inr (
            λ other is. let never = missing.other (Values other) (member_from (Values other) settings is) in absurd (cc),
            ap (λ (a : Option Attribute). names_of (items_in a)) missing.first,
          )

  sort_given : (keys : List SortKey) → (is : IsGiven attributes (Sort keys)) → sort_keys (lists_of attributes).sort ≡ keys
  unfolding lists_of
  sort_given keys is =
      ap (λ (a : Option Attribute). sort_keys (items_in a)) is.first ∙ sort_keys-some (items_of is.attribute) (some_items is.attribute)
      ∙ sort_keys_are (lists_of attributes) (items_of is.attribute) keys is.read.holds.each

  sort_set : IsSet settings Sort default_sort (sort_keys (lists_of attributes).sort)
  unfolding lists_of
  sort_set = by (found_or_missing topic.Sort attributes settings zip)
    where
      by : IsFound topic.Sort attributes settings ⊎ IsMissing topic.Sort attributes settings → IsSet settings Sort default_sort (sort_keys (items_in (first_about topic.Sort attributes)))
      by (inl found) = of found.setting found.same found.member found.read
        where
          of : (s : Setting) → is_same_topic topic.Sort (topic_of_setting s) ≡ true → Member s settings → IsRead found.attribute s → IsSet settings Sort default_sort (sort_keys (items_in (first_about topic.Sort attributes)))
          of (Keys names) e is read = absurd (cc)
          of (Values names) e is read = absurd (cc)
          of (Sort keys) e is read =
              let keys_are : sort_keys (items_in (first_about topic.Sort attributes)) ≡ keys = sort_given keys (record { attribute = found.attribute; first = found.first; read = read }) in
              inl (subst (λ (listed : List SortKey). Contains settings (Sort listed)) (sym keys_are) (from_member (Sort keys) settings is))
          of (Size entries) e is read = absurd (cc)
          of (Name name) e is read = absurd (cc)
          of (Asks action) e is read = absurd (cc)
      by (inr missing) =
          inr (
            λ other is. let never = missing.other (Sort other) (member_from (Sort other) settings is) in absurd (cc),
            ap (λ (a : Option Attribute). sort_keys (items_in a)) missing.first,
          )

  record SizeSet : Type 0 where
    entries : ℕ
    set : IsSet settings Size 2048 entries
    size : size_of (lists_of attributes).size ≡ told_size (rounded_size entries)

  size_set : SizeSet
  unfolding lists_of
  size_set = by (found_or_missing topic.Size attributes settings zip)
    where
      by : IsFound topic.Size attributes settings ⊎ IsMissing topic.Size attributes settings → SizeSet
      by (inl found) = of found.setting found.same found.member found.read
        where
          of : (s : Setting) → is_same_topic topic.Size (topic_of_setting s) ≡ true → Member s settings → IsRead found.attribute s → SizeSet
          of (Keys names) e is read = absurd (cc)
          of (Values names) e is read = absurd (cc)
          of (Sort keys) e is read = absurd (cc)
          of (Size entries) e is read =
              record {
                entries = entries;
                set = inl (from_member (Size entries) settings is);
                size = ap (λ (a : Option Attribute). size_of (option_map (λ (attribute : Attribute). attribute.value) a)) found.first
                    ∙ ap (λ (n : Option ℕ). told_size (option_and_then rounded_size n)) read.holds;
              }
          of (Name name) e is read = absurd (cc)
          of (Asks action) e is read = absurd (cc)
      by (inr missing) =
          record {
            entries = 2048;
            set = inr (λ other is. let never = missing.other (Size other) (member_from (Size other) settings is) in absurd (cc), refl);
            size = ap (λ (a : Option Attribute). size_of (option_map (λ (attribute : Attribute). attribute.value) a)) missing.first;
          }

  name_set : IsNamed settings (lists_of attributes).name
  unfolding lists_of
  name_set = by (found_or_missing topic.Name attributes settings zip)
    where
      by : IsFound topic.Name attributes settings ⊎ IsMissing topic.Name attributes settings → IsNamed settings (value_of (first_about topic.Name attributes))
      by (inl found) = of found.setting found.same found.member found.read
        where
          of : (s : Setting) → is_same_topic topic.Name (topic_of_setting s) ≡ true → Member s settings → IsRead found.attribute s → IsNamed settings (value_of (first_about topic.Name attributes))
          of (Keys names) e is read = absurd (cc)
          of (Values names) e is read = absurd (cc)
          of (Sort keys) e is read = absurd (cc)
          of (Size entries) e is read = absurd (cc)
          of (Name name) e is read =
              let name_is : value_of (first_about topic.Name attributes) ≡ Some name = ap value_of found.first ∙ ap (λ (value : List ℕ). Some value) read.holds.value in
              subst (IsNamed settings) (sym name_is) (from_member (Name name) settings is)
          of (Asks action) e is read = absurd (cc)
      by (inr missing) =
          let none : value_of (first_about topic.Name attributes) ≡ None = ap value_of missing.first in
          subst (IsNamed settings) (sym none) (λ name is. let never = missing.other (Name name) (member_from (Name name) settings is) in absurd (cc))

  action_set : IsSet settings Asks Attach (lists_of attributes).action
  unfolding lists_of
  action_set = by (found_or_missing (topic.Asked Attach) attributes settings zip)
    where
      by : IsFound (topic.Asked Attach) attributes settings ⊎ IsMissing (topic.Asked Attach) attributes settings → IsSet settings Asks Attach (action_in (first_about (topic.Asked Attach) attributes))
      by (inl found) = of found.setting found.same found.member found.read
        where
          of : (s : Setting) → is_same_topic (topic.Asked Attach) (topic_of_setting s) ≡ true → Member s settings → IsRead found.attribute s → IsSet settings Asks Attach (action_in (first_about (topic.Asked Attach) attributes))
          of (Keys names) e is read = absurd (cc)
          of (Values names) e is read = absurd (cc)
          of (Sort keys) e is read = absurd (cc)
          of (Size entries) e is read = absurd (cc)
          of (Name name) e is read = absurd (cc)
          of (Asks action) e is read =
              let action_is : action_in (first_about (topic.Asked Attach) attributes) ≡ action = ap action_in found.first ∙ ap asked_for read.topic in
              inl (subst (λ (a : Action). Contains settings (Asks a)) (sym action_is) (from_member (Asks action) settings is))
      by (inr missing) =
          inr (λ other is. let never = missing.other (Asks other) (member_from (Asks other) settings is) in absurd (cc), ap action_in missing.first)

  pub lists_are : (names : List (List ℕ)) → Contains settings (Keys names) → ListsAre settings (lists_of attributes)
  lists_are names is = record {
    name = name_set;
    keys = subst (λ (listed : List (List ℕ)). Contains settings (Keys listed)) (sym (keys_are names is)) is;
    values = values_set;
    sort = sort_set;
    entries = size_set.entries;
    entries_set = size_set.set;
    size = size_set.size;
    action = action_set;
  }
