-- Attributes of which none is wrong are read as lawful settings.
use Rattle.std.proofs.Common.{◌≡◌, ◌≢◌, ◌⊎◌, inl, inr, refl, ℕ, ◌+◌, Bool, true, false, not, ◌&&◌, ◌||◌, codes, List, [], ◌∷◌, cond, map, Option, Some, None, unwrap_or, ap, sym, ◌∙◌, subst}
use Rattle.std.specs.List.{All, AllByRecursion, AllZip, Contains}
use Rattle.std.specs.Option.{is_none}
use Rattle.std.proofs.lemmas.Bool.{or_cases, and_parts, and_cases, not-false}
use Rattle.std.proofs.lemmas.List.Elements.{All-from_recursion}
use Rattle.std.proofs.lemmas.Slice.Eq.{bytes_eq-Decides}
use Rattle.trace_lex.specs.Decimals.{decimal_number}
use Rattle.trace_lex.specs.Names.{is_name}
use Rattle.trace_trigger.specs.declared.spec.SortKey.{SortKey}
use Rattle.trace_trigger.specs.declared.attribute.Topic.{Topic}
use Rattle.trace_trigger.specs.declared.attribute.Topic.TheVariants as topic
use Rattle.trace_trigger.specs.declared.attribute.Attribute.{Attribute}
use Rattle.trace_trigger.specs.declared.piece.ListItem.{ListItem}
use Rattle.trace_trigger.specs.HistLists.{is_same_topic, first_about, items_of, items_in, lists_of, names_of, is_listed, is_named, is_hitcount, sort_key_of, is_sortable}
use Rattle.trace_trigger.specs.HistOffsets.{is_unknown, is_repeated, is_bad_size, is_wrong_attribute, is_bad_name, is_wrong_key, is_wrong_value, is_wrong_sort}
use Rattle.trace_trigger.specs.private.MistakeOffsets.{wrong_after, attribute_offsets, name_offsets, key_offsets, value_offsets, sort_offsets, keyless_offsets}
use Rattle.trace_trigger.specs.HistGrammar.{Setting, Keys, Values, Sort, Size, Name, Asks, subject_of, HasName, IsListed, AreLawful, IsSet}
use Rattle.trace_trigger.proofs.WrongLemmas.{Apart, pairs_from, each_weaker, NoneWrong, none_from, none_each, none_left, none_right, Unlike, unlike_each_other}
use Rattle.trace_trigger.proofs.ItemLaws.{names_right, sorts_right, sort_keys_are}
use Rattle.trace_trigger.proofs.KeyLaws.{keys_right}
use Rattle.trace_trigger.proofs.NameLaws.{some_named}
use Rattle.trace_trigger.proofs.SubjectLaws.{some_any}
use Rattle.trace_trigger.proofs.AttributeLaws.{AreKeys, AreNames, IsNameIn, topic_of_setting, IsRead}
use Rattle.trace_trigger.proofs.ListLaws.{Member, member_from, from_member, topics_sym, same_topic, Once, IsFound, IsMissing, found_or_missing}
use Rattle.trace_trigger.proofs.SettingLaws.{listed_member, given, ListsAre, lists_are}
use Rattle.trace_trigger.proofs.RightLaws.{AreAllRight, same_topics}

-- ---- the setting of each attribute

abbrev pub setting_by : Topic → Attribute → Setting
setting_by topic.Keys attribute = Keys (names_of (items_of attribute))
setting_by topic.Values attribute = Values (names_of (items_of attribute))
setting_by topic.Sort attribute = Sort (map sort_key_of (items_of attribute))
setting_by topic.Size attribute = Size (unwrap_or (decimal_number attribute.value) 0)
setting_by topic.Name attribute = Name attribute.value
setting_by (topic.Asked action) attribute = Asks action
setting_by topic.Unknown attribute = Size 0

abbrev pub setting_of : Attribute → Setting
setting_of attribute = setting_by attribute.topic attribute

-- ---- each is the first on its topic

known_again : (t : Topic) → is_unknown t ≡ false → is_same_topic t t ≡ true
known_again topic.Keys e = refl
known_again topic.Values e = refl
known_again topic.Sort e = refl
known_again topic.Size e = refl
known_again topic.Name e = refl
known_again (topic.Asked action) e = refl
known_again topic.Unknown e = absurd (cc)

later_first : (one : Attribute) (attributes rest : List Attribute) → AllByRecursion (Unlike same_topics one) rest
    → AllByRecursion (λ (a : Attribute). first_about a.topic attributes ≡ Some a) rest → AllByRecursion (λ (a : Attribute). first_about a.topic (one ∷ attributes) ≡ Some a) rest
later_first one attributes [] apart all = tt
later_first one attributes (a ∷ rest) apart all =
    let other : is_same_topic a.topic one.topic ≡ false = topics_sym a.topic one.topic ∙ apart.0 in
    (ap (λ (b : Bool). cond b (Some one) (first_about a.topic attributes)) other ∙ all.0, later_first one attributes rest apart.1 all.1)

firsts : (attributes : List Attribute) → AllByRecursion (λ (a : Attribute). is_unknown a.topic ≡ false) attributes → Apart (Unlike same_topics) attributes
    → AllByRecursion (λ (a : Attribute). first_about a.topic attributes ≡ Some a) attributes
firsts [] known apart = tt
firsts (a ∷ attributes) known apart = (
  ap (λ (b : Bool). cond b (Some a) (first_about a.topic attributes)) (known_again a.topic known.0),
  later_first a attributes attributes apart.0 (firsts attributes known.1 apart.1),
)

-- ---- settings of attributes that are apart

later_subject : (one : Attribute) (s : Setting) → IsRead one s → (attributes : List Attribute) (settings : List Setting) → AllZip IsRead attributes settings
    → AllByRecursion (Unlike same_topics one) attributes → AllByRecursion (λ t. subject_of s ≢ subject_of t) settings
later_subject one s read [] [] zip all = tt
later_subject one s read [] (t ∷ settings) zip all = absurd zip
later_subject one s read (other ∷ attributes) [] zip all = absurd zip
later_subject one s read (other ∷ attributes) (t ∷ settings) zip all = (
  λ same. let topics : is_same_topic one.topic other.topic ≡ true = (λ i. is_same_topic (read.topic i) (zip.0.topic i)) ∙ same_topic s t same in let no : is_same_topic one.topic other.topic ≡ false = all.0 in cc,
  later_subject one s read attributes settings zip.1 all.1,
)

subjects_apart : (attributes : List Attribute) (settings : List Setting) → AllZip IsRead attributes settings → Apart (Unlike same_topics) attributes → Once settings
subjects_apart [] [] zip apart = tt
subjects_apart [] (setting ∷ settings) zip apart = absurd zip
subjects_apart (attribute ∷ attributes) [] zip apart = absurd zip
subjects_apart (attribute ∷ attributes) (setting ∷ settings) zip apart = (later_subject attribute setting zip.0 attributes settings zip.1 apart.0, subjects_apart attributes settings zip.1 apart.1)

map-nil : {X Y : Type 0} (f : X → Y) (xs : List X) → map f xs ≡ [] → xs ≡ []
map-nil f [] e = refl
map-nil f (x ∷ xs) e = absurd (cc)

-- ---- what is right is read

module _ (attributes : List Attribute) (end : ℕ) (right : AreAllRight attributes end) where
  none_wrong : NoneWrong is_wrong_attribute [] attributes
  unfolding attribute_offsets
  none_wrong = none_from is_wrong_attribute [] attributes (map-nil (λ (a : Attribute). a.at) (wrong_after is_wrong_attribute [] attributes) right.attributes)

  known : AllByRecursion (λ (a : Attribute). is_unknown a.topic ≡ false) attributes
  known =
      let early : NoneWrong (λ before a. is_unknown a.topic || is_repeated before a) [] attributes = none_left (λ before a. is_unknown a.topic || is_repeated before a) (λ _ a. is_bad_size a) [] attributes none_wrong in
      none_each (λ (a : Attribute). is_unknown a.topic) [] attributes (none_left (λ _ a. is_unknown a.topic) is_repeated [] attributes early)

  apart : Apart (Unlike same_topics) attributes
  apart =
      let early : NoneWrong (λ before a. is_unknown a.topic || is_repeated before a) [] attributes = none_left (λ before a. is_unknown a.topic || is_repeated before a) (λ _ a. is_bad_size a) [] attributes none_wrong in
      unlike_each_other same_topics attributes (none_right (λ _ a. is_unknown a.topic) is_repeated [] attributes early)

  sizes : AllByRecursion (λ (a : Attribute). is_bad_size a ≡ false) attributes
  sizes = none_each is_bad_size [] attributes (none_right (λ before a. is_unknown a.topic || is_repeated before a) (λ _ a. is_bad_size a) [] attributes none_wrong)

  names : AllByRecursion (λ (a : Attribute). is_bad_name a ≡ false) attributes
  unfolding name_offsets
  names =
      let none : wrong_after (λ _ (a : Attribute). is_bad_name a) [] attributes ≡ [] =
      map-nil (λ (a : Attribute). a.at + a.skip) (wrong_after (λ _ (a : Attribute). is_bad_name a) [] attributes) right.names in
      none_each is_bad_name [] attributes (none_from (λ _ (a : Attribute). is_bad_name a) [] attributes none)

  keys_items : (a : Attribute) → first_about topic.Keys attributes ≡ Some a → wrong_after is_wrong_key [] (items_of a) ≡ []
  unfolding lists_of key_offsets
  keys_items a first = map-nil (λ (item : ListItem). item.at) (wrong_after is_wrong_key [] (items_of a)) (sym (ap (λ (o : Option Attribute). key_offsets (items_in o)) first) ∙ right.keys)

  values_items : (a : Attribute) → first_about topic.Values attributes ≡ Some a → wrong_after is_wrong_value [] (items_of a) ≡ []
  unfolding lists_of value_offsets
  values_items a first = map-nil (λ (item : ListItem). item.at) (wrong_after is_wrong_value [] (items_of a)) (sym (ap (λ (o : Option Attribute). value_offsets (items_in o)) first) ∙ right.values)

  sort_items : (a : Attribute) → first_about topic.Sort attributes ≡ Some a → wrong_after (is_wrong_sort (lists_of attributes)) [] (items_of a) ≡ []
  unfolding lists_of sort_offsets
  sort_items a first =
      map-nil (λ (item : ListItem). item.at) (wrong_after (is_wrong_sort (lists_of attributes)) [] (items_of a))
      (sym (ap (λ (o : Option Attribute). map (λ (item : ListItem). item.at) (wrong_after (is_wrong_sort (lists_of attributes)) [] (items_in o))) first) ∙ right.sort)

  keys_held : (a : Attribute) → wrong_after is_wrong_key [] (items_of a) ≡ [] → AreKeys a (names_of (items_of a))
  keys_held a none = let are = keys_right (items_of a) none in record { items = refl; each = are.each; apart = are.apart }

  names_held : (a : Attribute) → wrong_after is_wrong_value [] (items_of a) ≡ [] → AreNames a (names_of (items_of a))
  names_held a none = let are = names_right (items_of a) none in record { items = refl; named = are.named; apart = are.apart }

  some_number : (o : Option ℕ) → is_none o ≡ false → o ≡ Some (unwrap_or o 0)
  some_number None e = absurd (cc)
  some_number (Some n) e = refl

  number_held : (a : Attribute) → a.topic ≡ topic.Size → is_bad_size a ≡ false → decimal_number a.value ≡ Some (unwrap_or (decimal_number a.value) 0)
  number_held a e good = by (and_cases (is_same_topic topic.Size a.topic) (is_none (decimal_number a.value)) good)
    where
      by : (is_same_topic topic.Size a.topic ≡ false) ⊎ (is_none (decimal_number a.value) ≡ false) → decimal_number a.value ≡ Some (unwrap_or (decimal_number a.value) 0)
      by (inl f) = let yes : is_same_topic topic.Size a.topic ≡ true = ap (is_same_topic topic.Size) e in absurd (cc)
      by (inr f) = some_number (decimal_number a.value) f

  name_held : (a : Attribute) → a.topic ≡ topic.Name → is_bad_name a ≡ false → IsNameIn a a.value
  name_held a e good = record { value = refl; named = by (and_cases (is_same_topic topic.Name a.topic) (not (is_name a.value)) good) }
    where
      by : (is_same_topic topic.Name a.topic ≡ false) ⊎ (not (is_name a.value) ≡ false) → is_name a.value ≡ true
      by (inl f) = let yes : is_same_topic topic.Name a.topic ≡ true = ap (is_same_topic topic.Name) e in absurd (cc)
      by (inr f) = not-false (is_name a.value) f

  read_by : (a : Attribute) (t : Topic) → a.topic ≡ t → is_unknown a.topic ≡ false → is_bad_size a ≡ false → is_bad_name a ≡ false → first_about t attributes ≡ Some a → IsRead a (setting_by t a)
  read_by a topic.Keys e named good called first = record { topic = e; holds = keys_held a (keys_items a first) }
  read_by a topic.Values e named good called first = record { topic = e; holds = names_held a (values_items a first) }
  read_by a topic.Sort e named good called first =
      let are = sorts_right (lists_of attributes) (items_of a) (sort_items a first) in
      record { topic = e; holds = record { each = are.each; apart = are.apart } }
  read_by a topic.Size e named good called first = record { topic = e; holds = number_held a e good }
  read_by a topic.Name e named good called first = record { topic = e; holds = name_held a e called }
  read_by a (topic.Asked action) e named good called first = record { topic = e; holds = tt }
  read_by a topic.Unknown e named good called first = let bad : is_unknown a.topic ≡ true = ap is_unknown e in absurd (cc)

  each_read : (rest : List Attribute) → AllByRecursion (λ (a : Attribute). is_unknown a.topic ≡ false) rest → AllByRecursion (λ (a : Attribute). is_bad_size a ≡ false) rest
      → AllByRecursion (λ (a : Attribute). is_bad_name a ≡ false) rest → AllByRecursion (λ (a : Attribute). first_about a.topic attributes ≡ Some a) rest → AllZip IsRead rest (map setting_of rest)
  each_read [] named good called first = tt
  each_read (a ∷ rest) named good called first = (read_by a a.topic refl named.0 good.0 called.0 first.0, each_read rest named.1 good.1 called.1 first.1)

  pub all_read : AllZip IsRead attributes (map setting_of attributes)
  all_read = each_read attributes known sizes names (firsts attributes known apart)

  once : Once (map setting_of attributes)
  once = subjects_apart attributes (map setting_of attributes) all_read apart

  abbrev settings : List Setting
  settings = map setting_of attributes

  keys_there : (names : List (List ℕ)) × Contains settings (Keys names)
  unfolding lists_of
  keys_there = by (found_or_missing topic.Keys attributes settings all_read)
    where
      by : IsFound topic.Keys attributes (map setting_of attributes) ⊎ IsMissing topic.Keys attributes (map setting_of attributes) → (names : List (List ℕ)) × Contains (map setting_of attributes) (Keys names)
      by (inl found) = of found.setting found.same found.member
        where
          of : (s : Setting) → is_same_topic topic.Keys (topic_of_setting s) ≡ true → Member s (map setting_of attributes) → (names : List (List ℕ)) × Contains (map setting_of attributes) (Keys names)
          of (Keys names) e is = (names, from_member (Keys names) (map setting_of attributes) is)
          of (Values names) e is = absurd (cc)
          of (Sort keys) e is = absurd (cc)
          of (Size entries) e is = absurd (cc)
          of (Name name) e is = absurd (cc)
          of (Asks action) e is = absurd (cc)
      by (inr missing) =
          let none : keyless_offsets end (items_in (first_about topic.Keys attributes)) ≡ end ∷ [] = ap (λ (a : Option Attribute). keyless_offsets end (items_in a)) missing.first in
          let keyed = right.keyed in
          absurd (cc)

  lists : ListsAre settings (lists_of attributes)
  lists = lists_are attributes settings all_read once keys_there.0 keys_there.1

  listed_key : (name : List ℕ) → is_named (lists_of attributes).keys name ≡ true → IsListed settings name
  listed_key name e =
      inl (names_of (lists_of attributes).keys, lists.keys, some_any (HasName name) (names_of (lists_of attributes).keys) (some_named name (lists_of attributes).keys e))

  listed_value : (name : List ℕ) → is_listed (lists_of attributes).values name ≡ true → IsListed settings name
  listed_value name e = by lists.values
    where
      by : IsSet settings Values [] (names_of (lists_of attributes).values) → IsListed settings name
      by (inl set) =
          inr (names_of (lists_of attributes).values, set, from_member name (names_of (lists_of attributes).values) (listed_member name (lists_of attributes).values e))
      by (inr none) = absurd (subst (Member name) none.1 (listed_member name (lists_of attributes).values e))

  sortable_is : (name : List ℕ) → is_sortable (lists_of attributes) name ≡ true → (name ≡ codes "hitcount") ⊎ IsListed settings name
  sortable_is name e = by (or_cases (is_hitcount name) (is_name name && (is_named (lists_of attributes).keys name || is_listed (lists_of attributes).values name)) e)
    where
      either : (is_named (lists_of attributes).keys name ≡ true) ⊎ (is_listed (lists_of attributes).values name ≡ true) → IsListed settings name
      either (inl f) = listed_key name f
      either (inr f) = listed_value name f

      by : (is_hitcount name ≡ true) ⊎ ((is_name name && (is_named (lists_of attributes).keys name || is_listed (lists_of attributes).values name)) ≡ true) → (name ≡ codes "hitcount") ⊎ IsListed settings name
      by (inl f) = inl ((bytes_eq-Decides name (codes "hitcount")).0 f)
      by (inr f) =
          inr (either (or_cases (is_named (lists_of attributes).keys name) (is_listed (lists_of attributes).values name)
          (and_parts (is_name name) (is_named (lists_of attributes).keys name || is_listed (lists_of attributes).values name) f).1))

  sorted_by : (keys : List SortKey) → Contains settings (Sort keys) → All (λ (key : SortKey). (key.name ≡ codes "hitcount") ⊎ IsListed settings key.name) keys
  sorted_by keys set =
      let it = given attributes settings all_read once (Sort keys) (member_from (Sort keys) settings set) in
      let are = sorts_right (lists_of attributes) (items_of it.attribute) (sort_items it.attribute it.first) in
      let same : map sort_key_of (items_of it.attribute) ≡ keys = sort_keys_are (lists_of attributes) (items_of it.attribute) keys it.read.holds.each in
      All-from_recursion (λ (key : SortKey). (key.name ≡ codes "hitcount") ⊎ IsListed settings key.name) keys
      (each_weaker (λ (key : SortKey). is_sortable (lists_of attributes) key.name ≡ true) (λ (key : SortKey). (key.name ≡ codes "hitcount") ⊎ IsListed settings key.name) (λ key f. sortable_is key.name f) keys
      (subst (AllByRecursion (λ (key : SortKey). is_sortable (lists_of attributes) key.name ≡ true)) same are.sortable))

  pub settings_lawful : AreLawful (map setting_of attributes)
  settings_lawful = record { once = pairs_from (λ one other. subject_of one ≢ subject_of other) settings once; keys = keys_there; sort = sorted_by }
