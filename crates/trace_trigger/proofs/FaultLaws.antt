-- The offsets that are found wrong in a text are those that are wrong in it: attributes, and items of lists.
use Rattle.std.proofs.Common.{◌≡◌, ◌⊎◌, inl, inr, refl, ℕ, ◌+◌, Bool, true, false, not, ◌&&◌, ◌||◌, if◌then◌else◌, codes, List, [], ◌∷◌, ◌++◌, length, take, map, Option, Some, ap, sym, ◌∙◌, subst}
use Rattle.std.specs.List.{AllByRecursion, Any}
use Rattle.std.proofs.lemmas.Bool.{or_cases, or_left, or_right, and_from, and_parts, not-true, not_from_false, false_from_ne_true}
use Rattle.std.proofs.lemmas.List.Elements.{All-from_recursion, recursion_from_All}
use Rattle.std.proofs.lemmas.Slice.Eq.{bytes_eq-Decides}
use Rattle.trace_lex.specs.Names.{is_name}
use Rattle.trace_trigger.specs.declared.spec.SortKey.{SortKey}
use Rattle.trace_trigger.specs.declared.attribute.Attribute.{Attribute}
use Rattle.trace_trigger.specs.declared.piece.ListItem.{ListItem}
use Rattle.trace_trigger.specs.HistAttributes.{head_len, attribute_of}
use Rattle.trace_trigger.specs.HistPieces.{pieces_of}
use Rattle.trace_trigger.specs.HistLists.{first_about, items_in, Lists, lists_of, names_of, is_listed, is_named, is_hitcount, item_name, item_suffix, is_direction, is_sortable}
use Rattle.trace_trigger.specs.HistOffsets.{is_wrong_attribute, is_wrong_key, is_wrong_value, is_wrong_sort}
use Rattle.trace_trigger.specs.private.MistakeOffsets.{wrong_after, attribute_offsets}
use Rattle.trace_trigger.specs.HistGrammar.{Subject, OfKeys, OfValues, OfSort, HasName, IsSortItem}
use Rattle.trace_trigger.specs.HistFaultOffsets.{IsAt, IsAbout, IsUnknown, IsNoSize, IsRepeated, IsList, IsNoKey, IsNoValue, IsLentBy, IsLent, IsWrongSort}
use Rattle.trace_trigger.proofs.CutLemmas.{located, cut_pieces, found_is_cut, names_of-located}
use Rattle.trace_trigger.proofs.WordLemmas.{sort_key_in, sort_read, sort_written}
use Rattle.trace_trigger.proofs.HeadLemmas.{topic_in, value_in, topic_for, HasTopic, value_read, read_value}
use Rattle.trace_trigger.proofs.ListLaws.{Member, member_from, from_member}
use Rattle.trace_trigger.proofs.SettingLaws.{listed_member, member_listed}
use Rattle.trace_trigger.proofs.NameLaws.{own_name, name_is, some_named, named_some}
use Rattle.trace_trigger.proofs.KeyLaws.{unkeyed, key_good, good_key}
use Rattle.trace_trigger.proofs.OffsetLemmas.{size, offsets, IsWrongThere, sound, complete}
use Rattle.trace_trigger.proofs.SubjectLaws.{is_keys, is_values, is_sort, about_topic, HasSome, any_some, some_any, wrong_is, is_wrong, located_attributes, FirstIs, FirstIsNone, first_at, first_or_none}

-- ---- attributes

pub map-push : {X Y : Type 0} (f : X → Y) (xs : List X) (x : X) → map f (xs ++ x ∷ []) ≡ map f xs ++ f x ∷ []
map-push f [] x = refl
map-push f (y ∷ xs) x = ap (λ (ys : List _). f y ∷ ys) (map-push f xs x)

-- attributes are judged by their pieces
abbrev judged : List ListItem → ListItem → Bool
judged before piece = is_wrong_attribute (map attribute_of before) (attribute_of piece)

attribute_pieces : (before pieces : List ListItem) → map (λ (a : Attribute). a.at) (wrong_after is_wrong_attribute (map attribute_of before) (map attribute_of pieces)) ≡ offsets (wrong_after judged before pieces)
attribute_pieces before [] = refl
attribute_pieces before (piece ∷ pieces) = by (judged before piece) (ap (λ (those : List Attribute). map (λ (a : Attribute). a.at) (wrong_after is_wrong_attribute those (map attribute_of pieces))) (sym (map-push attribute_of before piece)) ∙ attribute_pieces (before ++ piece ∷ []) pieces)
  where
    by : (b : Bool)
        → map (λ (a : Attribute). a.at) (wrong_after is_wrong_attribute (map attribute_of before ++ attribute_of piece ∷ []) (map attribute_of pieces)) ≡ offsets (wrong_after judged (before ++ piece ∷ []) pieces)
        → map (λ (a : Attribute). a.at) (if b then attribute_of piece ∷ wrong_after is_wrong_attribute (map attribute_of before ++ attribute_of piece ∷ []) (map attribute_of pieces) else wrong_after is_wrong_attribute (map attribute_of before ++ attribute_of piece ∷ []) (map attribute_of pieces))
        ≡ offsets (if b then piece ∷ wrong_after judged (before ++ piece ∷ []) pieces else wrong_after judged (before ++ piece ∷ []) pieces)
    by true e = ap (λ (ns : List ℕ). piece.at ∷ ns) e
    by false e = e

pub record WrongAttributeAt (start : ℕ) (parts : List (List ℕ)) (offset : ℕ) : Type 0 where
  pub before : List (List ℕ)
  pub attribute : List ℕ
  pub is_at : IsAt 58 start parts before attribute offset
  pub wrong : IsUnknown attribute ⊎ (IsRepeated before attribute ⊎ IsNoSize attribute)

module _ (start : ℕ) (parts : List (List ℕ)) where
  pub attributes_sound : (offset : ℕ) → Member offset (attribute_offsets (located_attributes start parts)) → WrongAttributeAt start parts offset
  unfolding attribute_offsets
  attributes_sound offset is =
      let there = sound 58 start judged parts offset (subst (Member offset) (attribute_pieces [] (located start parts)) is) in
      record { before = there.before; attribute = there.part; is_at = there.is_at; wrong = wrong_is there.part start offset there.before there.wrong_there }

  pub attributes_complete : (offset : ℕ) → WrongAttributeAt start parts offset → Member offset (attribute_offsets (located_attributes start parts))
  unfolding attribute_offsets
  attributes_complete offset is =
      subst (Member offset) (sym (attribute_pieces [] (located start parts)))
      (complete 58 start judged parts is.before is.attribute offset is.is_at (is_wrong is.attribute start offset is.before is.wrong))

  -- ---- the items of a list

  abbrev items_start : List (List ℕ) → List ℕ → ℕ
  items_start before head = start + size 58 before + length head

  pub record ItemsAre (subject : Subject) (before : List (List ℕ)) (head : List ℕ) (items : List (List ℕ)) : Type 0 where
    pub are : items_in (first_about (topic_for subject) (located_attributes start parts)) ≡ located (items_start before head) items

  pub items_are : (subject : Subject) (before : List (List ℕ)) (attribute head : List ℕ) (items : List (List ℕ)) → IsAbout subject attribute → IsList subject parts before attribute head items → ItemsAre subject before head items
  items_are subject before attribute head items about list =
      let first : first_about (topic_for subject) (located_attributes start parts) ≡ Some (attribute_of (record { at = start + size 58 before; bytes = attribute })) =
      ap (λ (ps : List (List ℕ)). first_about (topic_for subject) (located_attributes start ps)) list.cut
      ∙ first_at subject start before attribute list.after (recursion_from_All (λ other. IsAbout subject other → ⊥) before list.first) about in
      let read = value_read subject attribute head list.value list.has in
      record {
        are = ap (λ (a : Option Attribute). items_in a) first
            ∙ (λ i. pieces_of 44 (start + size 58 before + read.skip i) (read.found i))
            ∙ cut_pieces 44 (items_start before head) list.value items list.listed;
      }

  pub record FoundList (subject : Subject) : Type 0 where
    pub before : List (List ℕ)
    pub attribute : List ℕ
    pub head : List ℕ
    pub items : List (List ℕ)
    pub about : IsAbout subject attribute
    pub list : IsList subject parts before attribute head items

  first_list : (subject : Subject) → (is : FirstIs subject start parts) → HasTopic subject is.attribute → FoundList subject
  first_list subject is topic =
      let items : List (List ℕ) = names_of (pieces_of 44 0 (value_in is.attribute)) in
      record {
        before = is.before;
        attribute = is.attribute;
        head = take (head_len is.attribute) is.attribute;
        items = items;
        about = is.about;
        list = record {
          after = is.after;
          cut = is.cut;
          first = All-from_recursion (λ other. IsAbout subject other → ⊥) is.before is.others;
          value = value_in is.attribute;
          has = read_value subject is.attribute topic;
          listed = found_is_cut 44 0 (value_in is.attribute);
        };
      }

  pub record NoList (subject : Subject) : Type 0 where
    pub others : AllByRecursion (λ other. IsAbout subject other → ⊥) parts
    pub none : items_in (first_about (topic_for subject) (located_attributes start parts)) ≡ []

  no_list : (subject : Subject) → FirstIsNone subject start parts → NoList subject
  no_list subject is = record { others = is.others; none = ap (λ (a : Option Attribute). items_in a) is.first }

  pub keys_list : FoundList OfKeys ⊎ NoList OfKeys
  keys_list = by (first_or_none OfKeys start parts)
    where
      by : FirstIs OfKeys start parts ⊎ FirstIsNone OfKeys start parts → FoundList OfKeys ⊎ NoList OfKeys
      by (inl is) = inl (first_list OfKeys is (is_keys (topic_in is.attribute) (about_topic OfKeys is.attribute is.about)))
      by (inr none) = inr (no_list OfKeys none)

  pub values_list : FoundList OfValues ⊎ NoList OfValues
  values_list = by (first_or_none OfValues start parts)
    where
      by : FirstIs OfValues start parts ⊎ FirstIsNone OfValues start parts → FoundList OfValues ⊎ NoList OfValues
      by (inl is) = inl (first_list OfValues is (is_values (topic_in is.attribute) (about_topic OfValues is.attribute is.about)))
      by (inr none) = inr (no_list OfValues none)

  pub sort_list : FoundList OfSort ⊎ NoList OfSort
  sort_list = by (first_or_none OfSort start parts)
    where
      by : FirstIs OfSort start parts ⊎ FirstIsNone OfSort start parts → FoundList OfSort ⊎ NoList OfSort
      by (inl is) = inl (first_list OfSort is (is_sort (topic_in is.attribute) (about_topic OfSort is.attribute is.about)))
      by (inr none) = inr (no_list OfSort none)

  pub items_sound : (wrong : List ListItem → ListItem → Bool) (subject : Subject) (offset : ℕ) → (is : FoundList subject) → Member offset (offsets (wrong_after wrong [] (items_in (first_about (topic_for subject) (located_attributes start parts)))))
      → IsWrongThere 44 (items_start is.before is.head) wrong is.items offset
  items_sound wrong subject offset is member =
      let are = items_are subject is.before is.attribute is.head is.items is.about is.list in
      sound 44 (items_start is.before is.head) wrong is.items offset (subst (λ (pieces : List ListItem). Member offset (offsets (wrong_after wrong [] pieces))) are.are member)

  pub items_complete : (wrong : List ListItem → ListItem → Bool) (subject : Subject) (offset : ℕ) (attribute head : List ℕ) (attributes items before : List (List ℕ)) (item : List ℕ)
      → IsAbout subject attribute → IsList subject parts attributes attribute head items → IsAt 44 (items_start attributes head) items before item offset
      → wrong (located (items_start attributes head) before) (record { at = offset; bytes = item }) ≡ true
      → Member offset (offsets (wrong_after wrong [] (items_in (first_about (topic_for subject) (located_attributes start parts)))))
  items_complete wrong subject offset attribute head attributes items before item about list is_at is =
      let are = items_are subject attributes attribute head items about list in
      subst (λ (pieces : List ListItem). Member offset (offsets (wrong_after wrong [] pieces))) (sym are.are)
      (complete 44 (items_start attributes head) wrong items before item offset is_at is)

-- ---- items of keys and of values

pub key_wrong : (start offset : ℕ) (before : List (List ℕ)) (item : List ℕ) → is_wrong_key (located start before) (record { at = offset; bytes = item }) ≡ true → IsNoKey before item
key_wrong start offset before item e = by (or_cases (unkeyed item) (is_named (located start before) (item_name item)) e)
  where
    by : (unkeyed item ≡ true) ⊎ (is_named (located start before) (item_name item) ≡ true) → IsNoKey before item
    by (inl f) = inl (λ is. (let good = good_key item is in cc))
    by (inr f) =
        inr (
          item_name item,
          own_name item,
          some_any (HasName (item_name item)) before (subst (HasSome (HasName (item_name item))) (names_of-located 44 start before) (some_named (item_name item) (located start before) f)),
        )

pub wrong_key : (start offset : ℕ) (before : List (List ℕ)) (item : List ℕ) → IsNoKey before item → is_wrong_key (located start before) (record { at = offset; bytes = item }) ≡ true
wrong_key start offset before item (inl none) = or_left (unkeyed item) (is_named (located start before) (item_name item)) (by (unkeyed item) refl)
  where
    by : (b : Bool) → unkeyed item ≡ b → b ≡ true
    by true e = refl
    by false e = absurd (none (key_good item e))
wrong_key start offset before item (inr is) =
    or_right (unkeyed item) (is_named (located start before) (item_name item))
    (ap (is_named (located start before)) (name_is is.0 item is.1)
    ∙ named_some is.0 (located start before) (subst (HasSome (HasName is.0)) (sym (names_of-located 44 start before)) (any_some (HasName is.0) before is.2)))

pub value_wrong : (start offset : ℕ) (before : List (List ℕ)) (item : List ℕ) → is_wrong_value (located start before) (record { at = offset; bytes = item }) ≡ true → IsNoValue before item
value_wrong start offset before item e = by (or_cases (not (is_name item)) (is_listed (located start before) item) e)
  where
    by : (not (is_name item) ≡ true) ⊎ (is_listed (located start before) item ≡ true) → IsNoValue before item
    by (inl f) = inl (not-true (is_name item) f)
    by (inr f) = inr (from_member item before (subst (Member item) (names_of-located 44 start before) (listed_member item (located start before) f)))

pub wrong_value : (start offset : ℕ) (before : List (List ℕ)) (item : List ℕ) → IsNoValue before item → is_wrong_value (located start before) (record { at = offset; bytes = item }) ≡ true
wrong_value start offset before item (inl e) = or_left (not (is_name item)) (is_listed (located start before) item) (not_from_false (is_name item) e)
wrong_value start offset before item (inr is) =
    or_right (not (is_name item)) (is_listed (located start before) item) (member_listed item (located start before) (subst (Member item) (sym (names_of-located 44 start before)) (member_from item before is)))

-- ---- items to sort by

-- one of the items has this name
among_sorts : (name : List ℕ) (start : ℕ) (before : List (List ℕ)) → is_named (located start before) name ≡ true → HasSome (HasName name) before
among_sorts name start before e = subst (HasSome (HasName name)) (names_of-located 44 start before) (some_named name (located start before) e)

sorts_among : (name : List ℕ) (start : ℕ) (before : List (List ℕ)) → HasSome (HasName name) before → is_named (located start before) name ≡ true
sorts_among name start before some = named_some name (located start before) (subst (HasSome (HasName name)) (sym (names_of-located 44 start before)) some)

module _ (begin : ℕ) (parts : List (List ℕ)) where
  abbrev lists : Lists
  lists = lists_of (located_attributes begin parts)

  -- ---- what can be sorted by

  lent_key : (name : List ℕ) → FoundList begin parts OfKeys ⊎ NoList begin parts OfKeys → is_named (items_in (first_about (topic_for OfKeys) (located_attributes begin parts))) name ≡ true → IsLentBy OfKeys parts name
  lent_key name (inl is) e =
      let are = items_are begin parts OfKeys is.before is.attribute is.head is.items is.about is.list in
      let some : HasSome (HasName name) is.items = among_sorts name (items_start begin parts is.before is.head) is.items (ap (λ (pieces : List ListItem). is_named pieces name) (sym are.are) ∙ e) in
      record { before = is.before; attribute = is.attribute; head = is.head; items = is.items; list = is.list; among = some_any (HasName name) is.items some }
  lent_key name (inr none) e = let no : is_named (items_in (first_about (topic_for OfKeys) (located_attributes begin parts))) name ≡ false = ap (λ (pieces : List ListItem). is_named pieces name) none.none in absurd (cc)

  key_lent : (name : List ℕ) → (is : IsLentBy OfKeys parts name) → is_named (items_in (first_about (topic_for OfKeys) (located_attributes begin parts))) name ≡ true
  key_lent name is =
      let are = items_are begin parts OfKeys is.before is.attribute is.head is.items (is.head, is.list.value, is.list.has) is.list in
      ap (λ (pieces : List ListItem). is_named pieces name) are.are ∙ sorts_among name (items_start begin parts is.before is.head) is.items (any_some (HasName name) is.items is.among)

  lent_value : (name : List ℕ) → FoundList begin parts OfValues ⊎ NoList begin parts OfValues → is_listed (items_in (first_about (topic_for OfValues) (located_attributes begin parts))) name ≡ true → IsLentBy OfValues parts name
  lent_value name (inl is) e =
      let are = items_are begin parts OfValues is.before is.attribute is.head is.items is.about is.list in
      let member : Member name (names_of (located (items_start begin parts is.before is.head) is.items)) =
      listed_member name (located (items_start begin parts is.before is.head) is.items) (ap (λ (pieces : List ListItem). is_listed pieces name) (sym are.are) ∙ e) in
      record { before = is.before; attribute = is.attribute; head = is.head; items = is.items; list = is.list; among = from_member name is.items (subst (Member name) (names_of-located 44 (items_start begin parts is.before is.head) is.items) member) }
  lent_value name (inr none) e = let no : is_listed (items_in (first_about (topic_for OfValues) (located_attributes begin parts))) name ≡ false = ap (λ (pieces : List ListItem). is_listed pieces name) none.none in absurd (cc)

  value_lent : (name : List ℕ) → (is : IsLentBy OfValues parts name) → is_listed (items_in (first_about (topic_for OfValues) (located_attributes begin parts))) name ≡ true
  value_lent name is =
      let are = items_are begin parts OfValues is.before is.attribute is.head is.items (is.head, is.list.value, is.list.has) is.list in
      ap (λ (pieces : List ListItem). is_listed pieces name) are.are
      ∙ member_listed name (located (items_start begin parts is.before is.head) is.items) (subst (Member name) (sym (names_of-located 44 (items_start begin parts is.before is.head) is.items)) (member_from name is.items is.among))

  lent_is : (name : List ℕ) → is_name name ≡ true → is_sortable lists name ≡ true → IsLent parts name
  unfolding lists_of
  lent_is name named e = by (or_cases (is_hitcount name) (is_name name && (is_named lists.keys name || is_listed lists.values name)) e)
    where
      either : (is_named (lists_of (located_attributes begin parts)).keys name ≡ true) ⊎ (is_listed (lists_of (located_attributes begin parts)).values name ≡ true) → IsLent parts name
      either (inl f) = inr (inl (lent_key name (keys_list begin parts) f))
      either (inr f) = inr (inr (lent_value name (values_list begin parts) f))

      by : (is_hitcount name ≡ true) ⊎ ((is_name name && (is_named (lists_of (located_attributes begin parts)).keys name || is_listed (lists_of (located_attributes begin parts)).values name)) ≡ true) → IsLent parts name
      by (inl f) = inl ((bytes_eq-Decides name (codes "hitcount")).0 f)
      by (inr f) = either (or_cases (is_named (lists_of (located_attributes begin parts)).keys name) (is_listed (lists_of (located_attributes begin parts)).values name)
          (and_parts (is_name name) (is_named (lists_of (located_attributes begin parts)).keys name || is_listed (lists_of (located_attributes begin parts)).values name) f).1)

  is_lent : (name : List ℕ) → is_name name ≡ true → IsLent parts name → is_sortable lists name ≡ true
  unfolding lists_of
  is_lent name named (inl e) = or_left (is_hitcount name) (is_name name && (is_named lists.keys name || is_listed lists.values name)) ((bytes_eq-Decides name (codes "hitcount")).1 e)
  is_lent name named (inr (inl is)) =
      or_right (is_hitcount name) (is_name name && (is_named lists.keys name || is_listed lists.values name))
      (and_from (is_name name) (is_named lists.keys name || is_listed lists.values name) named
      (or_left (is_named lists.keys name) (is_listed lists.values name) (key_lent name is)))
  is_lent name named (inr (inr is)) =
      or_right (is_hitcount name) (is_name name && (is_named lists.keys name || is_listed lists.values name))
      (and_from (is_name name) (is_named lists.keys name || is_listed lists.values name) named
      (or_right (is_named lists.keys name) (is_listed lists.values name) (value_lent name is)))

  -- ---- wrong items

  module _ (start offset : ℕ) (before : List (List ℕ)) (item : List ℕ) where
    abbrev there : ListItem
    there = record { at = offset; bytes = item }

    never_sort : (is_name (item_name item) && is_direction (item_suffix item)) ≡ false → (key : SortKey) → IsSortItem item key → ⊥
    never_sort e key is =
        let read = sort_read item key is in
        let named : is_name (item_name item) ≡ true = ap is_name read.name ∙ is.named in
        let both : (is_name (item_name item) && is_direction (item_suffix item)) ≡ true = and_from (is_name (item_name item)) (is_direction (item_suffix item)) named read.direction in
        cc

    sort_wrong_by : is_name (item_name item) ≡ true → is_direction (item_suffix item) ≡ true
        → ((not (is_sortable lists (item_name item)) || not (is_direction (item_suffix item))) ≡ true) ⊎ (is_named (located start before) (item_name item) ≡ true) → IsWrongSort parts before item
    sort_wrong_by named direction (inl e) = inr (sort_key_in item, sort_written item named direction, inr (not_lent (or_cases (not (is_sortable lists (item_name item))) (not (is_direction (item_suffix item))) e)))
      where
        not_lent : (not (is_sortable lists (item_name item)) ≡ true) ⊎ (not (is_direction (item_suffix item)) ≡ true) → IsLent parts (item_name item) → ⊥
        not_lent (inl f) lent = let can = is_lent (item_name item) named lent in let cannot = not-true (is_sortable lists (item_name item)) f in cc
        not_lent (inr f) lent = let no = not-true (is_direction (item_suffix item)) f in let is = direction in cc
    sort_wrong_by named direction (inr e) = inr (sort_key_in item, sort_written item named direction, inl (some_any (HasName (item_name item)) before (among_sorts (item_name item) start before e)))

    pub sort_wrong : is_wrong_sort lists (located start before) there ≡ true → IsWrongSort parts before item
    sort_wrong e = by (is_name (item_name item) && is_direction (item_suffix item)) refl
      where
        by : (b : Bool) → (is_name (item_name item) && is_direction (item_suffix item)) ≡ b → IsWrongSort parts before item
        by false f = inl (never_sort f)
        by true f =
            let both = and_parts (is_name (item_name item)) (is_direction (item_suffix item)) f in
            sort_wrong_by both.0 both.1 (or_cases (not (is_sortable lists (item_name item)) || not (is_direction (item_suffix item))) (is_named (located start before) (item_name item)) e)

    -- what can be sorted by is a name
    unnamed_unsorted : is_name (item_name item) ≡ false → is_sortable lists (item_name item) ≡ false
    unnamed_unsorted e = false_from_ne_true (is_sortable lists (item_name item)) (λ is. by (or_cases (is_hitcount (item_name item)) (is_name (item_name item) && (is_named lists.keys (item_name item) || is_listed lists.values (item_name item))) is))
      where
        by : (is_hitcount (item_name item) ≡ true) ⊎ ((is_name (item_name item) && (is_named lists.keys (item_name item) || is_listed lists.values (item_name item))) ≡ true) → ⊥
        by (inl f) = let named : is_name (item_name item) ≡ true = ap is_name ((bytes_eq-Decides (item_name item) (codes "hitcount")).0 f) in cc
        by (inr f) = let parts = and_parts (is_name (item_name item)) (is_named lists.keys (item_name item) || is_listed lists.values (item_name item)) f in let named = parts.0 in cc

    flagged : (not (is_sortable lists (item_name item)) || not (is_direction (item_suffix item))) ≡ true → is_wrong_sort lists (located start before) there ≡ true
    flagged e = or_left (not (is_sortable lists (item_name item)) || not (is_direction (item_suffix item))) (is_named (located start before) (item_name item)) e

    no_sort : ((key : SortKey) → IsSortItem item key → ⊥) → (is_name (item_name item) ≡ false) ⊎ (is_direction (item_suffix item) ≡ false)
    no_sort none = by (is_name (item_name item)) (is_direction (item_suffix item)) refl refl
      where
        by : (named direction : Bool) → is_name (item_name item) ≡ named → is_direction (item_suffix item) ≡ direction → (is_name (item_name item) ≡ false) ⊎ (is_direction (item_suffix item) ≡ false)
        by false direction e f = inl e
        by true false e f = inr f
        by true true e f = absurd (none (sort_key_in item) (sort_written item e f))

    pub wrong_sort : IsWrongSort parts before item → is_wrong_sort lists (located start before) there ≡ true
    wrong_sort (inl none) = by (no_sort none)
      where
        by : (is_name (item_name item) ≡ false) ⊎ (is_direction (item_suffix item) ≡ false) → is_wrong_sort lists (located start before) there ≡ true
        by (inl e) = flagged (or_left (not (is_sortable lists (item_name item))) (not (is_direction (item_suffix item))) (not_from_false (is_sortable lists (item_name item)) (unnamed_unsorted e)))
        by (inr e) = flagged (or_right (not (is_sortable lists (item_name item))) (not (is_direction (item_suffix item))) (not_from_false (is_direction (item_suffix item)) e))
    wrong_sort (inr is) = by is.2
      where
        name : item_name item ≡ is.0.name
        name = (sort_read item is.0 is.1).name

        by : Any (HasName is.0.name) before ⊎ (IsLent parts is.0.name → ⊥) → is_wrong_sort lists (located start before) there ≡ true
        by (inl some) =
            let there : HasSome (HasName (item_name item)) before = subst (λ (n : List ℕ). HasSome (HasName n) before) (sym name) (any_some (HasName is.0.name) before some) in
            or_right (not (is_sortable lists (item_name item)) || not (is_direction (item_suffix item))) (is_named (located start before) (item_name item)) (sorts_among (item_name item) start before there)
        by (inr none) =
            let unsortable : is_sortable lists (item_name item) ≡ false =
            false_from_ne_true (is_sortable lists (item_name item)) (λ can. none (subst (IsLent parts) name (lent_is (item_name item) (ap is_name name ∙ is.1.named) can))) in
            flagged (or_left (not (is_sortable lists (item_name item))) (not (is_direction (item_suffix item))) (not_from_false (is_sortable lists (item_name item)) unsortable))
