-- The items of a list of keys are right exactly where they are keys, none of their names twice.
use Rattle.std.proofs.Common.{◌≡◌, ◌≢◌, refl, ℕ, Bool, true, false, not, ◌||◌, List, [], Option, Some, None, unwrap_or, ap, sym, ◌∙◌, subst}
use Rattle.std.specs.List.{All, AllByRecursion, AllPairs}
use Rattle.std.specs.Option.{is_none}
use Rattle.std.proofs.lemmas.Bool.{not-false, not_from_true, or_parts, or_from}
use Rattle.std.proofs.lemmas.List.Elements.{All-from_recursion, recursion_from_All}
use Rattle.trace_lex.specs.Names.{is_name}
use Rattle.trace_format.specs.declared.modifier.Modifier.{Modifier}
use Rattle.trace_format.specs.declared.modifier.Modifier.TheVariants.{Plain}
use Rattle.trace_trigger.specs.declared.piece.ListItem.{ListItem}
use Rattle.trace_format.specs.Modifiers.{modifier_of}
use Rattle.trace_trigger.specs.HistLists.{names_of, item_name, item_suffix, is_named}
use Rattle.trace_trigger.specs.HistOffsets.{is_wrong_key}
use Rattle.trace_trigger.specs.private.MistakeOffsets.{wrong_after}
use Rattle.trace_trigger.specs.HistGrammar.{HasName, IsKeyItem, IsKey, AreNamedApart}
use Rattle.trace_trigger.proofs.ModifierLaws.{suffix_read, read_suffix}
use Rattle.trace_trigger.proofs.NameLaws.{item_split, item_is, name_is, has_name}
use Rattle.trace_trigger.proofs.WrongLemmas.{Apart, pairs_from, from_pairs, each_weaker, apart_weaker, each_map, each_unmap, apart_map, apart_unmap, NoneWrong, none_from, from_none, none_weaker, none_each, each_none, none_or, likes, Unlike, unlike_each_other, none_alike}
use Rattle.trace_trigger.proofs.ItemLaws.{other_bytes, bytes_other, same_named}

-- ---- one item

pub key_read : (item name : List ℕ) (modifier : Modifier) → IsKeyItem item name modifier → (item_name item ≡ name) × (modifier_of (item_suffix item) ≡ Some modifier)
key_read item name modifier is =
    let parts = item_is item name is.suffix is.cut in
    (parts.0, ap modifier_of parts.1 ∙ suffix_read modifier is.suffix is.modifies)

pub key_written : (item : List ℕ) (modifier : Modifier) → is_name (item_name item) ≡ true → modifier_of (item_suffix item) ≡ Some modifier → IsKeyItem item (item_name item) modifier
key_written item modifier named e = record { named = named; suffix = item_suffix item; cut = item_split item; modifies = read_suffix (item_suffix item) modifier e }

-- the modifier of a key
abbrev pub modifier_in : List ℕ → Modifier
modifier_in item = unwrap_or (modifier_of (item_suffix item)) Plain

pub key_modifier : (item name : List ℕ) (modifier : Modifier) → IsKeyItem item name modifier → modifier_in item ≡ modifier
key_modifier item name modifier is = ap (λ (o : Option Modifier). unwrap_or o Plain) (key_read item name modifier is).1

pub own_key : (item : List ℕ) → IsKey item → IsKeyItem item (item_name item) (modifier_in item)
own_key item is =
    subst (λ (name : List ℕ). IsKeyItem item name (modifier_in item)) (sym (key_read item is.0 is.1 is.2).0)
    (subst (λ (modifier : Modifier). IsKeyItem item is.0 modifier) (sym (key_modifier item is.0 is.1 is.2)) is.2)

-- what has no name, or another suffix than a modifier
abbrev pub unkeyed : List ℕ → Bool
unkeyed item = not (is_name (item_name item)) || is_none (modifier_of (item_suffix item))

some_modifier : (o : Option Modifier) → is_none o ≡ false → o ≡ Some (unwrap_or o Plain)
some_modifier None e = absurd (cc)
some_modifier (Some m) e = refl

pub key_good : (item : List ℕ) → unkeyed item ≡ false → IsKey item
key_good item e =
    let parts = or_parts (not (is_name (item_name item))) (is_none (modifier_of (item_suffix item))) e in
    (item_name item, modifier_in item, key_written item (modifier_in item) (not-false (is_name (item_name item)) parts.0) (some_modifier (modifier_of (item_suffix item)) parts.1))

pub good_key : (item : List ℕ) → IsKey item → unkeyed item ≡ false
good_key item is =
    let read = key_read item is.0 is.1 is.2 in
    or_from (not (is_name (item_name item))) (is_none (modifier_of (item_suffix item))) (not_from_true (is_name (item_name item)) (ap is_name read.0 ∙ is.2.named)) (ap is_none read.1)

-- a key's name is a name
pub key_named : (item name : List ℕ) → IsKey item → HasName name item → is_name name ≡ true
key_named item name is has = ap is_name (sym (name_is name item has) ∙ (key_read item is.0 is.1 is.2).0) ∙ is.2.named

-- ---- all of them

unkeyed_item : ListItem → Bool
unkeyed_item item = unkeyed item.bytes

pub record AreRightKeys (items : List (List ℕ)) : Type 0 where
  pub each : All IsKey items
  pub apart : AllPairs AreNamedApart items

named_apart : (one other : List ℕ) → item_name one ≢ item_name other → AreNamedApart one other
named_apart one other differ name h k = differ (name_is name one h ∙ sym (name_is name other k))

pub apart_named : (one other : List ℕ) → AreNamedApart one other → item_name one ≢ item_name other
apart_named one other apart same = apart (item_name one) (has_name (item_name one) one refl) (has_name (item_name one) other (sym same))

pub keys_right : (items : List ListItem) → wrong_after is_wrong_key [] items ≡ [] → AreRightKeys (names_of items)
unfolding same_named unkeyed_item
keys_right items e =
    let none : NoneWrong is_wrong_key [] items = none_from is_wrong_key [] items e in
    let keyed : AllByRecursion (λ (item : ListItem). unkeyed_item item ≡ false) items =
    none_each unkeyed_item [] items (none_weaker is_wrong_key (λ _ item. unkeyed_item item) (λ before item f. (or_parts (unkeyed_item item) (is_named before (item_name item.bytes)) f).0) [] items none) in
    let other : NoneWrong (likes same_named) [] items =
    none_weaker is_wrong_key (likes same_named)
    (λ before item f. (or_parts (unkeyed_item item) (is_named before (item_name item.bytes)) f).1) [] items none in
    let apart : Apart (Unlike same_named) items = unlike_each_other same_named items other in
    record {
      each = All-from_recursion IsKey (names_of items)
          (each_map IsKey (λ (piece : ListItem). piece.bytes) items (each_weaker (λ (item : ListItem). unkeyed_item item ≡ false) (λ (item : ListItem). IsKey item.bytes) (λ item f. key_good item.bytes f) items keyed));
      apart = pairs_from AreNamedApart (names_of items)
          (apart_map AreNamedApart (λ (piece : ListItem). piece.bytes) items
          (apart_weaker (Unlike same_named) (λ (one later : ListItem). AreNamedApart one.bytes later.bytes)
          (λ one later f. named_apart one.bytes later.bytes (other_bytes (item_name one.bytes) (item_name later.bytes) f)) items apart));
    }

pub right_keys : (items : List ListItem) → AreRightKeys (names_of items) → wrong_after is_wrong_key [] items ≡ []
unfolding same_named unkeyed_item
right_keys items right =
    let keyed : AllByRecursion (λ (item : ListItem). unkeyed_item item ≡ false) items =
    each_weaker (λ (item : ListItem). IsKey item.bytes) (λ (item : ListItem). unkeyed_item item ≡ false) (λ item is. good_key item.bytes is) items
    (each_unmap IsKey (λ (piece : ListItem). piece.bytes) items (recursion_from_All IsKey (names_of items) right.each)) in
    let apart : Apart (Unlike same_named) items =
    apart_weaker (λ (one later : ListItem). AreNamedApart one.bytes later.bytes) (Unlike same_named)
    (λ one later f. bytes_other (item_name one.bytes) (item_name later.bytes) (apart_named one.bytes later.bytes f)) items
    (apart_unmap AreNamedApart (λ (piece : ListItem). piece.bytes) items (from_pairs AreNamedApart (names_of items) right.apart)) in
    let other : NoneWrong (λ before item. is_named before (item_name item.bytes)) [] items =
    none_alike same_named items apart in
    from_none is_wrong_key [] items (none_or (λ _ item. unkeyed_item item) (λ before item. is_named before (item_name item.bytes)) [] items (each_none unkeyed_item [] items keyed) other)
