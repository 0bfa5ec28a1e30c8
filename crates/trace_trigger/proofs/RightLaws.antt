-- Attributes are right exactly where they are read as lawful settings.
use Rattle.std.proofs.Common.{◌≡◌, ◌≢◌, ◌⊎◌, inl, inr, refl, ℕ, ◌+◌, Bool, true, false, not, ◌&&◌, ◌||◌, IsTrue, codes, List, [], ◌∷◌, map, Option, ap, sym, ◌∙◌, subst}
use Rattle.std.specs.List.{AllByRecursion, AllZip, Contains}
use Rattle.std.specs.Option.{is_none}
use Rattle.std.proofs.lemmas.Bool.{or_left, or_right, and_left, and_right, and_from, false_from_ne_true}
use Rattle.std.proofs.lemmas.List.Elements.{All-contains, recursion_from_All}
use Rattle.std.proofs.lemmas.Slice.Eq.{bytes_eq-Decides}
use Rattle.trace_lex.specs.Decimals.{decimal_number}
use Rattle.trace_lex.specs.Names.{is_name}
use Rattle.trace_trigger.specs.declared.spec.SortKey.{SortKey}
use Rattle.trace_trigger.specs.declared.attribute.Topic.TheVariants as topic
use Rattle.trace_trigger.specs.declared.attribute.Attribute.{Attribute}
use Rattle.trace_trigger.specs.declared.piece.ListItem.{ListItem}
use Rattle.trace_trigger.specs.HistLists.{is_same_topic, first_about, items_of, items_in, lists_of, is_listed, is_named, is_hitcount, is_sortable}
use Rattle.trace_trigger.specs.HistOffsets.{is_unknown, is_repeated, is_bad_size, is_wrong_attribute, is_bad_name, is_wrong_key, is_wrong_value, is_wrong_sort}
use Rattle.trace_trigger.specs.private.MistakeOffsets.{wrong_after, attribute_offsets, name_offsets, key_offsets, value_offsets, sort_offsets, keyless_offsets}
use Rattle.trace_trigger.specs.HistGrammar.{Setting, Keys, Values, Sort, Size, Name, Asks, subject_of, HasName, IsKey, IsListed, AreLawful}
use Rattle.trace_trigger.proofs.WrongLemmas.{Apart, from_pairs, each_weaker, from_none, each_none, none_or, Unlike, none_alike}
use Rattle.trace_trigger.proofs.ItemLaws.{AreRight, right_names, right_sorts}
use Rattle.trace_trigger.proofs.KeyLaws.{AreRightKeys, right_keys, key_named}
use Rattle.trace_trigger.proofs.NameLaws.{named_some}
use Rattle.trace_trigger.proofs.SubjectLaws.{HasSome, any_some}
use Rattle.trace_trigger.proofs.AttributeLaws.{AreKeys, AreNames, AreSortKeys, topic_of_setting, IsRead}
use Rattle.trace_trigger.proofs.ListLaws.{Member, member_from, from_member, same_subject, Once, IsFound, IsMissing, found_or_missing}
use Rattle.trace_trigger.proofs.SettingLaws.{member_listed, some_items, keyed, given, keys_are, values_are}

-- nothing is wrong with the attributes, whose word ends there
pub record AreAllRight (found : List Attribute) (end : ℕ) : Type 0 where
  pub attributes : attribute_offsets found ≡ []
  pub names : name_offsets found ≡ []
  pub keys : key_offsets (lists_of found).keys ≡ []
  pub values : value_offsets (lists_of found).values ≡ []
  pub sort : sort_offsets (lists_of found) ≡ []
  pub keyed : keyless_offsets end (lists_of found).keys ≡ []

abbrev pub same_topics : Attribute → Attribute → Bool
same_topics other attribute = is_same_topic other.topic attribute.topic

-- ---- what is read as lawful settings is right

known : (setting : Setting) → is_unknown (topic_of_setting setting) ≡ false
known (Keys names) = refl
known (Values names) = refl
known (Sort keys) = refl
known (Size entries) = refl
known (Name name) = refl
known (Asks action) = refl

sized : (attribute : Attribute) (setting : Setting) → IsRead attribute setting → is_bad_size attribute ≡ false
sized attribute (Keys names) read = and_left (is_same_topic topic.Size attribute.topic) (is_none (decimal_number attribute.value)) (ap (is_same_topic topic.Size) read.topic)
sized attribute (Values names) read = and_left (is_same_topic topic.Size attribute.topic) (is_none (decimal_number attribute.value)) (ap (is_same_topic topic.Size) read.topic)
sized attribute (Sort keys) read = and_left (is_same_topic topic.Size attribute.topic) (is_none (decimal_number attribute.value)) (ap (is_same_topic topic.Size) read.topic)
sized attribute (Size entries) read = and_right (is_same_topic topic.Size attribute.topic) (is_none (decimal_number attribute.value)) (ap is_none read.holds)
sized attribute (Name name) read = and_left (is_same_topic topic.Size attribute.topic) (is_none (decimal_number attribute.value)) (ap (is_same_topic topic.Size) read.topic)
sized attribute (Asks action) read = and_left (is_same_topic topic.Size attribute.topic) (is_none (decimal_number attribute.value)) (ap (is_same_topic topic.Size) read.topic)

called : (attribute : Attribute) (setting : Setting) → IsRead attribute setting → is_bad_name attribute ≡ false
called attribute (Keys names) read = and_left (is_same_topic topic.Name attribute.topic) (not (is_name attribute.value)) (ap (is_same_topic topic.Name) read.topic)
called attribute (Values names) read = and_left (is_same_topic topic.Name attribute.topic) (not (is_name attribute.value)) (ap (is_same_topic topic.Name) read.topic)
called attribute (Sort keys) read = and_left (is_same_topic topic.Name attribute.topic) (not (is_name attribute.value)) (ap (is_same_topic topic.Name) read.topic)
called attribute (Size entries) read = and_left (is_same_topic topic.Name attribute.topic) (not (is_name attribute.value)) (ap (is_same_topic topic.Name) read.topic)
called attribute (Name name) read = and_right (is_same_topic topic.Name attribute.topic) (not (is_name attribute.value)) (ap (λ (value : List ℕ). not (is_name value)) read.holds.value ∙ ap not read.holds.named)
called attribute (Asks action) read = and_left (is_same_topic topic.Name attribute.topic) (not (is_name attribute.value)) (ap (is_same_topic topic.Name) read.topic)

each_known : (attributes : List Attribute) (settings : List Setting) → AllZip IsRead attributes settings → AllByRecursion (λ (a : Attribute). is_unknown a.topic ≡ false) attributes
each_known [] [] zip = tt
each_known [] (setting ∷ settings) zip = absurd zip
each_known (attribute ∷ attributes) [] zip = absurd zip
each_known (attribute ∷ attributes) (setting ∷ settings) zip = (ap is_unknown zip.0.topic ∙ known setting, each_known attributes settings zip.1)

each_sized : (attributes : List Attribute) (settings : List Setting) → AllZip IsRead attributes settings → AllByRecursion (λ (a : Attribute). is_bad_size a ≡ false) attributes
each_sized [] [] zip = tt
each_sized [] (setting ∷ settings) zip = absurd zip
each_sized (attribute ∷ attributes) [] zip = absurd zip
each_sized (attribute ∷ attributes) (setting ∷ settings) zip = (sized attribute setting zip.0, each_sized attributes settings zip.1)

each_called : (attributes : List Attribute) (settings : List Setting) → AllZip IsRead attributes settings → AllByRecursion (λ (a : Attribute). is_bad_name a ≡ false) attributes
each_called [] [] zip = tt
each_called [] (setting ∷ settings) zip = absurd zip
each_called (attribute ∷ attributes) [] zip = absurd zip
each_called (attribute ∷ attributes) (setting ∷ settings) zip = (called attribute setting zip.0, each_called attributes settings zip.1)

unlike : (one other : Attribute) (s t : Setting) → IsRead one s → IsRead other t → subject_of s ≢ subject_of t → same_topics one other ≡ false
unlike one other s t read later differ =
    let topics : is_same_topic one.topic other.topic ≡ is_same_topic (topic_of_setting s) (topic_of_setting t) = (λ i. is_same_topic (read.topic i) (later.topic i)) in
    topics ∙ false_from_ne_true (is_same_topic (topic_of_setting s) (topic_of_setting t)) (λ same. differ (same_subject s t same))

unlike_rest : (one : Attribute) (s : Setting) → IsRead one s → (attributes : List Attribute) (settings : List Setting) → AllZip IsRead attributes settings
    → AllByRecursion (λ t. subject_of s ≢ subject_of t) settings → AllByRecursion (Unlike same_topics one) attributes
unlike_rest one s read [] [] zip all = tt
unlike_rest one s read [] (t ∷ settings) zip all = absurd zip
unlike_rest one s read (other ∷ attributes) [] zip all = absurd zip
unlike_rest one s read (other ∷ attributes) (t ∷ settings) zip all = (unlike one other s t read zip.0 all.0, unlike_rest one s read attributes settings zip.1 all.1)

all_unlike : (attributes : List Attribute) (settings : List Setting) → AllZip IsRead attributes settings → Once settings → Apart (Unlike same_topics) attributes
all_unlike [] [] zip once = tt
all_unlike [] (setting ∷ settings) zip once = absurd zip
all_unlike (attribute ∷ attributes) [] zip once = absurd zip
all_unlike (attribute ∷ attributes) (setting ∷ settings) zip once = (unlike_rest attribute setting zip.0 attributes settings zip.1 once.0, all_unlike attributes settings zip.1 once.1)

module _ (attributes : List Attribute) (settings : List Setting) (zip : AllZip IsRead attributes settings) (lawful : AreLawful settings) where
  once : Once settings
  once = from_pairs (λ one other. subject_of one ≢ subject_of other) settings lawful.once

  attributes_right : attribute_offsets attributes ≡ []
  unfolding attribute_offsets
  attributes_right =
      let none : wrong_after is_wrong_attribute [] attributes ≡ [] =
      from_none is_wrong_attribute [] attributes
      (none_or (λ before a. is_unknown a.topic || is_repeated before a) (λ _ a. is_bad_size a) [] attributes
      (none_or (λ _ a. is_unknown a.topic) is_repeated [] attributes (each_none (λ (a : Attribute). is_unknown a.topic) [] attributes (each_known attributes settings zip))
      (none_alike same_topics attributes (all_unlike attributes settings zip once)))
      (each_none is_bad_size [] attributes (each_sized attributes settings zip))) in
      ap (map (λ (a : Attribute). a.at)) none

  names_right : name_offsets attributes ≡ []
  unfolding name_offsets
  names_right =
      ap (map (λ (a : Attribute). a.at + a.skip))
      (from_none (λ _ (a : Attribute). is_bad_name a) [] attributes (each_none is_bad_name [] attributes (each_called attributes settings zip)))

  items_right : (attribute : Attribute) (names : List (List ℕ)) → AreNames attribute names → map (λ (item : ListItem). item.at) (wrong_after is_wrong_value [] (items_of attribute)) ≡ []
  items_right attribute names are =
      let right : AreRight names = record { named = are.named; apart = are.apart } in
      ap (map (λ (item : ListItem). item.at)) (right_names (items_of attribute) (subst AreRight (sym are.items) right))

  key_items_right : (attribute : Attribute) (keys : List (List ℕ)) → AreKeys attribute keys → map (λ (item : ListItem). item.at) (wrong_after is_wrong_key [] (items_of attribute)) ≡ []
  key_items_right attribute keys are =
      let right : AreRightKeys keys = record { each = are.each; apart = are.apart } in
      ap (map (λ (item : ListItem). item.at)) (right_keys (items_of attribute) (subst AreRightKeys (sym are.items) right))

  keys_right : key_offsets (lists_of attributes).keys ≡ []
  unfolding lists_of key_offsets
  keys_right = by (found_or_missing topic.Keys attributes settings zip)
    where
      by : IsFound topic.Keys attributes settings ⊎ IsMissing topic.Keys attributes settings → key_offsets (items_in (first_about topic.Keys attributes)) ≡ []
      by (inl found) = of found.setting found.same found.read
        where
          of : (s : Setting) → is_same_topic topic.Keys (topic_of_setting s) ≡ true → IsRead found.attribute s → key_offsets (items_in (first_about topic.Keys attributes)) ≡ []
          of (Keys keys) e read = ap (λ (a : Option Attribute). key_offsets (items_in a)) found.first ∙ key_items_right found.attribute keys read.holds
          of (Values names) e read = absurd (cc)
          of (Sort keys) e read = absurd (cc)
          of (Size entries) e read = absurd (cc)
          of (Name name) e read = absurd (cc)
          of (Asks action) e read = absurd (cc)
      by (inr missing) = ap (λ (a : Option Attribute). key_offsets (items_in a)) missing.first

  values_right : value_offsets (lists_of attributes).values ≡ []
  unfolding lists_of value_offsets
  values_right = by (found_or_missing topic.Values attributes settings zip)
    where
      by : IsFound topic.Values attributes settings ⊎ IsMissing topic.Values attributes settings → value_offsets (items_in (first_about topic.Values attributes)) ≡ []
      by (inl found) = of found.setting found.same found.read
        where
          of : (s : Setting) → is_same_topic topic.Values (topic_of_setting s) ≡ true → IsRead found.attribute s → value_offsets (items_in (first_about topic.Values attributes)) ≡ []
          of (Keys names) e read = absurd (cc)
          of (Values names) e read = ap (λ (a : Option Attribute). value_offsets (items_in a)) found.first ∙ items_right found.attribute names read.holds
          of (Sort keys) e read = absurd (cc)
          of (Size entries) e read = absurd (cc)
          of (Name name) e read = absurd (cc)
          of (Asks action) e read = absurd (cc)
      by (inr missing) = ap (λ (a : Option Attribute). value_offsets (items_in a)) missing.first

  -- ---- a name of the keys or of the values can be sorted by

  named_in : (name : List ℕ) (names : List (List ℕ)) (attribute : Attribute) → AreNames attribute names → Contains names name → is_name name ≡ true
  named_in name names attribute are among = All-contains (λ n. IsTrue (is_name n)) names name are.named among

  sortable_key : (name : List ℕ) (items : List (List ℕ)) → Contains settings (Keys items) → HasSome (HasName name) items → is_sortable (lists_of attributes) name ≡ true
  sortable_key name items set some =
      let it = given attributes settings zip once (Keys items) (member_from (Keys items) settings set) in
      let listed : is_named (lists_of attributes).keys name ≡ true =
      named_some name (lists_of attributes).keys (subst (HasSome (HasName name)) (sym (keys_are attributes settings zip once items set)) some) in
      let key : IsKey some.element = All-contains IsKey items some.element it.read.holds.each (from_member some.element items some.member) in
      or_right (is_hitcount name) (is_name name && (is_named (lists_of attributes).keys name || is_listed (lists_of attributes).values name))
      (and_from (is_name name) (is_named (lists_of attributes).keys name || is_listed (lists_of attributes).values name)
      (key_named some.element name key some.holds)
      (or_left (is_named (lists_of attributes).keys name) (is_listed (lists_of attributes).values name) listed))

  sortable_value : (name : List ℕ) (names : List (List ℕ)) → Contains settings (Values names) → Contains names name → is_sortable (lists_of attributes) name ≡ true
  sortable_value name names set among =
      let it = given attributes settings zip once (Values names) (member_from (Values names) settings set) in
      let listed : is_listed (lists_of attributes).values name ≡ true =
      member_listed name (lists_of attributes).values (subst (Member name) (sym (values_are attributes settings zip once names set)) (member_from name names among)) in
      or_right (is_hitcount name) (is_name name && (is_named (lists_of attributes).keys name || is_listed (lists_of attributes).values name))
      (and_from (is_name name) (is_named (lists_of attributes).keys name || is_listed (lists_of attributes).values name)
      (named_in name names it.attribute it.read.holds among)
      (or_right (is_named (lists_of attributes).keys name) (is_listed (lists_of attributes).values name) listed))

  sortable : (name : List ℕ) → (name ≡ codes "hitcount") ⊎ IsListed settings name → is_sortable (lists_of attributes) name ≡ true
  sortable name (inl e) =
      or_left (is_hitcount name) (is_name name && (is_named (lists_of attributes).keys name || is_listed (lists_of attributes).values name)) ((bytes_eq-Decides name (codes "hitcount")).1 e)
  sortable name (inr (inl is)) = sortable_key name is.0 is.1 (any_some (HasName name) is.0 is.2)
  sortable name (inr (inr is)) = sortable_value name is.0 is.1 is.2

  sort_items_right : (attribute : Attribute) (keys : List SortKey) → Contains settings (Sort keys) → AreSortKeys attribute keys → wrong_after (is_wrong_sort (lists_of attributes)) [] (items_of attribute) ≡ []
  sort_items_right attribute keys set are =
      let all : AllByRecursion (λ (key : SortKey). is_sortable (lists_of attributes) key.name ≡ true) keys =
      each_weaker (λ (key : SortKey). (key.name ≡ codes "hitcount") ⊎ IsListed settings key.name) (λ (key : SortKey). is_sortable (lists_of attributes) key.name ≡ true)
      (λ key is. sortable key.name is) keys
      (recursion_from_All (λ (key : SortKey). (key.name ≡ codes "hitcount") ⊎ IsListed settings key.name) keys (lawful.sort keys set)) in
      right_sorts (lists_of attributes) (items_of attribute) keys (record { each = are.each; apart = are.apart; sortable = all })

  sort_right : sort_offsets (lists_of attributes) ≡ []
  unfolding lists_of sort_offsets
  sort_right = by (found_or_missing topic.Sort attributes settings zip)
    where
      by : IsFound topic.Sort attributes settings ⊎ IsMissing topic.Sort attributes settings → map (λ (item : ListItem). item.at) (wrong_after (is_wrong_sort (lists_of attributes)) [] (items_in (first_about topic.Sort attributes))) ≡ []
      by (inl found) = of found.setting found.same found.member found.read
        where
          of : (s : Setting) → is_same_topic topic.Sort (topic_of_setting s) ≡ true → Member s settings → IsRead found.attribute s
              → map (λ (item : ListItem). item.at) (wrong_after (is_wrong_sort (lists_of attributes)) [] (items_in (first_about topic.Sort attributes))) ≡ []
          of (Keys names) e is read = absurd (cc)
          of (Values names) e is read = absurd (cc)
          of (Sort keys) e is read =
              ap (λ (a : Option Attribute). map (λ (item : ListItem). item.at) (wrong_after (is_wrong_sort (lists_of attributes)) [] (items_in a))) found.first
              ∙ ap (map (λ (item : ListItem). item.at)) (sort_items_right found.attribute keys (from_member (Sort keys) settings is) read.holds)
          of (Size entries) e is read = absurd (cc)
          of (Name name) e is read = absurd (cc)
          of (Asks action) e is read = absurd (cc)
      by (inr missing) = ap (λ (a : Option Attribute). map (λ (item : ListItem). item.at) (wrong_after (is_wrong_sort (lists_of attributes)) [] (items_in a))) missing.first

  keyed_right : (end : ℕ) → keyless_offsets end (lists_of attributes).keys ≡ []
  unfolding lists_of
  keyed_right end =
      let it = given attributes settings zip once (Keys lawful.keys.0) (member_from (Keys lawful.keys.0) settings lawful.keys.1) in
      ap (λ (a : Option Attribute). keyless_offsets end (items_in a)) it.first ∙ keyed end (items_of it.attribute) (some_items it.attribute)

  pub all_right : (end : ℕ) → AreAllRight attributes end
  all_right end = record { attributes = attributes_right; names = names_right; keys = keys_right; values = values_right; sort = sort_right; keyed = keyed_right end }
