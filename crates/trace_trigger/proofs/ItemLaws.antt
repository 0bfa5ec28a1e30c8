-- The items of a list are right exactly where they are names, or names to sort by, none of them twice.
use Rattle.std.proofs.Common.{◌≡◌, ◌≢◌, ◌⊎◌, inl, inr, refl, ℕ, Bool, true, false, not, ◌&&◌, ◌||◌, IsTrue, bytes_eq, codes, List, [], ◌∷◌, map, ap, sym, ◌∙◌, subst}
use Rattle.std.specs.List.{All, AllByRecursion, AllPairs, AllZip}
use Rattle.std.proofs.lemmas.Bool.{not-false, not_from_true, or_cases, and_parts, or_parts, or_from, false_from_ne_true}
use Rattle.std.proofs.lemmas.List.Elements.{All-from_recursion, recursion_from_All}
use Rattle.std.proofs.lemmas.Slice.Eq.{bytes_eq-Decides}
use Rattle.trace_lex.specs.Names.{is_name}
use Rattle.trace_trigger.specs.declared.spec.SortKey.{SortKey}
use Rattle.trace_trigger.specs.declared.piece.ListItem.{ListItem}
use Rattle.trace_trigger.specs.HistLists.{Lists, names_of, is_listed, is_named, is_hitcount, item_name, item_suffix, is_direction, sort_key_of, is_sortable}
use Rattle.trace_trigger.specs.HistOffsets.{is_wrong_value, is_wrong_sort}
use Rattle.trace_trigger.specs.private.MistakeOffsets.{wrong_after}
use Rattle.trace_trigger.specs.HistGrammar.{IsSortItem}
use Rattle.trace_trigger.proofs.WordLemmas.{sort_read, sort_written, sort_key_is}
use Rattle.trace_trigger.proofs.WrongLemmas.{Apart, pairs_from, from_pairs, each_weaker, apart_weaker, each_map, each_unmap, apart_map, apart_unmap, NoneWrong, none_from, from_none, none_weaker, none_each, each_none, none_or, likes, Unlike, unlike_each_other, none_alike}

-- ---- bytes

pub other_bytes : (one other : List ℕ) → bytes_eq other one ≡ false → one ≢ other
other_bytes one other e same = let equal : bytes_eq other one ≡ true = (bytes_eq-Decides other one).1 (sym same) in cc

pub bytes_other : (one other : List ℕ) → one ≢ other → bytes_eq other one ≡ false
bytes_other one other differ = false_from_ne_true (bytes_eq other one) (λ equal. differ (sym ((bytes_eq-Decides other one).0 equal)))

-- ---- names

same_name : ListItem → ListItem → Bool
same_name other item = bytes_eq item.bytes other.bytes

unnamed : ListItem → Bool
unnamed item = not (is_name item.bytes)

pub record AreRight (names : List (List ℕ)) : Type 0 where
  pub named : All (λ name. IsTrue (is_name name)) names
  pub apart : AllPairs (λ one other. one ≢ other) names

pub names_right : (items : List ListItem) → wrong_after is_wrong_value [] items ≡ [] → AreRight (names_of items)
unfolding same_name unnamed
names_right items e =
    let none : NoneWrong is_wrong_value [] items = none_from is_wrong_value [] items e in
    let named : AllByRecursion (λ item. unnamed item ≡ false) items =
    none_each unnamed [] items (none_weaker is_wrong_value (λ _ item. unnamed item) (λ before item f. (or_parts (unnamed item) (is_listed before item.bytes) f).0) [] items none) in
    let other : NoneWrong (likes same_name) [] items =
    none_weaker is_wrong_value (likes same_name)
    (λ before item f. (or_parts (unnamed item) (is_listed before item.bytes) f).1) [] items none in
    let apart : Apart (Unlike same_name) items = unlike_each_other same_name items other in
    record {
      named = All-from_recursion (λ name. IsTrue (is_name name)) (names_of items)
          (each_map (λ name. IsTrue (is_name name)) (λ (piece : ListItem). piece.bytes) items (each_weaker (λ item. unnamed item ≡ false) (λ item. IsTrue (is_name item.bytes)) (λ item f. not-false (is_name item.bytes) f) items named));
      apart = pairs_from (λ one later. one ≢ later) (names_of items)
          (apart_map (λ one later. one ≢ later) (λ (piece : ListItem). piece.bytes) items
          (apart_weaker (Unlike same_name) (λ one later. one.bytes ≢ later.bytes) (λ one later f. other_bytes one.bytes later.bytes f) items apart));
    }

pub right_names : (items : List ListItem) → AreRight (names_of items) → wrong_after is_wrong_value [] items ≡ []
unfolding same_name unnamed
right_names items right =
    let named : AllByRecursion (λ (item : ListItem). unnamed item ≡ false) items =
    each_weaker (λ (item : ListItem). IsTrue (is_name item.bytes)) (λ item. unnamed item ≡ false) (λ item f. not_from_true (is_name item.bytes) f) items
    (each_unmap (λ name. IsTrue (is_name name)) (λ (piece : ListItem). piece.bytes) items (recursion_from_All (λ name. IsTrue (is_name name)) (names_of items) right.named)) in
    let apart : Apart (Unlike same_name) items =
    apart_weaker (λ (one later : ListItem). one.bytes ≢ later.bytes) (Unlike same_name) (λ one later f. bytes_other one.bytes later.bytes f) items
    (apart_unmap (λ one later. one ≢ later) (λ (piece : ListItem). piece.bytes) items (from_pairs (λ one later. one ≢ later) (names_of items) right.apart)) in
    let other : NoneWrong (λ before item. is_listed before item.bytes) [] items =
    none_alike same_name items apart in
    from_none is_wrong_value [] items (none_or (λ _ item. unnamed item) (λ before item. is_listed before item.bytes) [] items (each_none unnamed [] items named) other)

-- ---- names to sort by

-- the name of one is that of the other
unfoldable pub same_named : ListItem → ListItem → Bool
same_named other item = bytes_eq (item_name item.bytes) (item_name other.bytes)

module _ (lists : Lists) where
  unsorted : ListItem → Bool
  unsorted item = not (is_sortable lists (item_name item.bytes)) || not (is_direction (item_suffix item.bytes))

  pub record AreSorts (items : List (List ℕ)) (keys : List SortKey) : Type 0 where
    pub each : AllZip IsSortItem items keys
    pub apart : AllPairs (λ (one other : SortKey). one.name ≢ other.name) keys
    pub sortable : AllByRecursion (λ (key : SortKey). is_sortable lists key.name ≡ true) keys

  -- what can be sorted by is a name
  sortable_named : (name : List ℕ) → is_sortable lists name ≡ true → is_name name ≡ true
  sortable_named name e = by (or_cases (is_hitcount name) (is_name name && (is_named lists.keys name || is_listed lists.values name)) e)
    where
      by : (is_hitcount name ≡ true) ⊎ ((is_name name && (is_named lists.keys name || is_listed lists.values name)) ≡ true) → is_name name ≡ true
      by (inl f) = ap is_name ((bytes_eq-Decides name (codes "hitcount")).0 f)
      by (inr f) = (and_parts (is_name name) (is_named lists.keys name || is_listed lists.values name) f).0

  sorts_each : (items : List ListItem) → AllByRecursion (λ (item : ListItem). unsorted item ≡ false) items → AllZip IsSortItem (names_of items) (map sort_key_of items)
  unfolding unsorted
  sorts_each [] all = tt
  sorts_each (item ∷ items) all =
      let parts = or_parts (not (is_sortable lists (item_name item.bytes))) (not (is_direction (item_suffix item.bytes))) all.0 in
      (sort_written item.bytes (sortable_named (item_name item.bytes) (not-false (is_sortable lists (item_name item.bytes)) parts.0)) (not-false (is_direction (item_suffix item.bytes)) parts.1), sorts_each items all.1)

  pub sorts_right : (items : List ListItem) → wrong_after (is_wrong_sort lists) [] items ≡ [] → AreSorts (names_of items) (map sort_key_of items)
  unfolding unsorted same_named
  sorts_right items e =
      let none : NoneWrong (is_wrong_sort lists) [] items = none_from (is_wrong_sort lists) [] items e in
      let sorted : AllByRecursion (λ item. unsorted item ≡ false) items =
      none_each unsorted [] items (none_weaker (is_wrong_sort lists) (λ _ item. unsorted item) (λ before item f. (or_parts (unsorted item) (is_named before (item_name item.bytes)) f).0) [] items none) in
      let other : NoneWrong (likes same_named) [] items =
      none_weaker (is_wrong_sort lists) (likes same_named)
      (λ before item f. (or_parts (unsorted item) (is_named before (item_name item.bytes)) f).1) [] items none in
      let apart : Apart (Unlike same_named) items = unlike_each_other same_named items other in
      record {
        each = sorts_each items sorted;
        apart = pairs_from (λ (one later : SortKey). one.name ≢ later.name) (map sort_key_of items)
            (apart_map (λ (one later : SortKey). one.name ≢ later.name) sort_key_of items
            (apart_weaker (Unlike same_named) (λ one later. item_name one.bytes ≢ item_name later.bytes) (λ one later f. other_bytes (item_name one.bytes) (item_name later.bytes) f) items apart));
        sortable = each_map (λ (key : SortKey). is_sortable lists key.name ≡ true) sort_key_of items
            (each_weaker (λ item. unsorted item ≡ false) (λ item. is_sortable lists (item_name item.bytes) ≡ true)
            (λ item f. not-false (is_sortable lists (item_name item.bytes)) (or_parts (not (is_sortable lists (item_name item.bytes))) (not (is_direction (item_suffix item.bytes))) f).0) items sorted);
      }

  -- the keys of items are those that are read
  pub sort_keys_are : (items : List ListItem) (keys : List SortKey) → AllZip IsSortItem (names_of items) keys → map sort_key_of items ≡ keys
  sort_keys_are [] [] each = refl
  sort_keys_are [] (key ∷ keys) each = absurd each
  sort_keys_are (item ∷ items) [] each = absurd each
  sort_keys_are (item ∷ items) (key ∷ keys) each = (λ i. sort_key_is item.bytes key each.0 i ∷ sort_keys_are items keys each.1 i)

  each_sorts : (items : List ListItem) (keys : List SortKey) → AllZip IsSortItem (names_of items) keys → AllByRecursion (λ (key : SortKey). is_sortable lists key.name ≡ true) keys
      → AllByRecursion (λ (item : ListItem). unsorted item ≡ false) items
  unfolding unsorted
  each_sorts [] [] each all = tt
  each_sorts [] (key ∷ keys) each all = absurd each
  each_sorts (item ∷ items) [] each all = absurd each
  each_sorts (item ∷ items) (key ∷ keys) each all =
      let read = sort_read item.bytes key each.0 in
      let sortable : is_sortable lists (item_name item.bytes) ≡ true = ap (is_sortable lists) read.name ∙ all.0 in (
        or_from (not (is_sortable lists (item_name item.bytes))) (not (is_direction (item_suffix item.bytes))) (not_from_true (is_sortable lists (item_name item.bytes)) sortable) (not_from_true (is_direction (item_suffix item.bytes)) read.direction),
        each_sorts items keys each.1 all.1,
      )

  pub right_sorts : (items : List ListItem) (keys : List SortKey) → AreSorts (names_of items) keys → wrong_after (is_wrong_sort lists) [] items ≡ []
  unfolding unsorted same_named
  right_sorts items keys right =
      let sorted : AllByRecursion (λ (item : ListItem). unsorted item ≡ false) items = each_sorts items keys right.each right.sortable in
      let pairs : AllPairs (λ (one later : SortKey). one.name ≢ later.name) (map sort_key_of items) =
      subst (AllPairs (λ (one later : SortKey). one.name ≢ later.name)) (sym (sort_keys_are items keys right.each)) right.apart in
      let apart : Apart (Unlike same_named) items =
      apart_weaker (λ (one later : ListItem). item_name one.bytes ≢ item_name later.bytes) (Unlike same_named) (λ one later f. bytes_other (item_name one.bytes) (item_name later.bytes) f) items
      (apart_unmap (λ (one later : SortKey). one.name ≢ later.name) sort_key_of items (from_pairs (λ (one later : SortKey). one.name ≢ later.name) (map sort_key_of items) pairs)) in
      let other : NoneWrong (λ before item. is_named before (item_name item.bytes)) [] items =
      none_alike same_named items apart in
      from_none (is_wrong_sort lists) [] items (none_or (λ _ item. unsorted item) (λ before item. is_named before (item_name item.bytes)) [] items (each_none unsorted [] items sorted) other)
