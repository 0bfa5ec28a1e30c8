-- What names and sizes come to is what the grammar says that they mean.
use Rattle.std.proofs.Common.{◌≡◌, ◌≢◌, ◌⊎◌, inl, inr, refl, ℕ, suc, zero, ◌+◌, ◌<◌, ◌≤◌, Bool, true, false, not, ◌&&◌, nat_lt, if◌then◌else◌, cond, bytes_eq, codes, List, [], ◌∷◌, length, map, slice_get, Option, Some, None, Result, Ok, Err, unwrap_or, ap, sym, ◌∙◌, subst, arith, lt-ltb, le-ltb, ltb-true}
use Rattle.std.specs.List.{AllByRecursion, AllZip, position, position_or_len}
use Rattle.std.proofs.lemmas.Bool.{false_from_ne_true, and_left, and_right}
use Rattle.std.proofs.lemmas.Slice.Eq.{bytes_eq-Decides}
use Rattle.trace_format.specs.Definitions.{Definition}
use Rattle.trace_format.specs.declared.operand.Operand.{Operand}
use Rattle.trace_format.specs.Operands.{operand_named, is_text}
use Rattle.trace_trigger.specs.declared.fault.TriggerFault.{TriggerFault}
use Rattle.trace_trigger.specs.declared.fault.OperatorCause.TheVariants.{Modified, Summed}
use Rattle.trace_trigger.specs.declared.fault.TriggerFault.TheVariants.{WrongOperator}
use Rattle.trace_format.specs.declared.sort_rule.SortSource.{SortSource}
use Rattle.trace_format.specs.declared.key.Key.{Key}
use Rattle.trace_format.specs.declared.modifier.Modifier.{Modifier}
use Rattle.trace_format.specs.declared.modifier.Modifier.TheVariants.{Plain}
use Rattle.trace_format.specs.declared.sort_rule.SortSource.TheVariants as sorted
use Rattle.trace_trigger.specs.declared.piece.ListItem.{ListItem}
use Rattle.trace_trigger.specs.HistLists.{names_of, summed_items, is_hitcount, item_name, item_suffix}
use Rattle.trace_trigger.specs.TriggerAnswers.{◌>>=◌}
use Rattle.trace_trigger.specs.HistMeanings.{each, key_as, key_meant, key_in, value_meant, value_source, told_size, sort_found, sort_source}
use Rattle.trace_trigger.specs.HistSpecs.{written_of, key_names}
use Rattle.trace_trigger.specs.HistRefusals.{CanBeKey}
use Rattle.trace_trigger.specs.HistGrammar.{summed_names, IsKeyItem, IsKey, IsKeyOf, IsValueOf, IsSortedBy}
use Rattle.trace_format.specs.Modifiers.{IsSuffix, modifier_of}
use Rattle.trace_trigger.proofs.NameLaws.{item_split, item_is}
use Rattle.trace_trigger.proofs.KeyLaws.{modifier_in, key_modifier, own_key}
use Rattle.trace_trigger.proofs.WrongLemmas.{Apart}
use Rattle.trace_trigger.proofs.ListLaws.{Member, member_from, from_member}

-- ---- results

pub record IsBound {A B : Type 0} (first : Result A TriggerFault) (next : A → Result B TriggerFault) (value : B) : Type 0 where
  pub found : A
  pub is : first ≡ Ok found
  pub after : next found ≡ Ok value

pub bound : {A B : Type 0} (first : Result A TriggerFault) (next : A → Result B TriggerFault) (value : B) → (first >>= next) ≡ Ok value → IsBound first next value
bound (Ok found) next value e = record { found = found; is = refl; after = e }
bound (Err fault) next value e = absurd (cc)

pub ok_same : {A : Type 0} (one other : A) → ◌≡◌ {A = Result A TriggerFault} (Ok one) (Ok other) → one ≡ other
ok_same one other e = cc

pub never_ok : {A : Type 0} (value : A) (fault : TriggerFault) → ◌≡◌ {A = Result A TriggerFault} (Ok value) (Err fault) → ⊥
never_ok value fault e = cc

-- ---- keys and values

value_found : (at : ℕ) (found : Option Operand) (operand : Operand) → value_meant at found ≡ Ok operand → (found ≡ Some operand) × (is_text operand ≡ false)
value_found at None operand e = absurd (cc)
value_found at (Some found) operand e = by (is_text found) refl e
  where
    by : (b : Bool) → is_text found ≡ b → (if b then Err (WrongOperator at Summed) else Ok found) ≡ Ok operand → (Some found ≡ Some operand) × (is_text operand ≡ false)
    by true f g = absurd (cc)
    by false f g = let same : found ≡ operand = cc in (ap Some same, subst (λ (o : Operand). is_text o ≡ false) same f)

abbrev pub as_number : ℕ → Operand → Bool → Result Operand TriggerFault
as_number at operand b = if b then Err (WrongOperator at Summed) else Ok operand

module _ (definition : Definition) where
  -- a key of which this is known is a number, or a key without a modifier
  abbrev pub IsTaken : ListItem → Operand → Type 0
  IsTaken item operand = (item_suffix item.bytes ≡ []) ⊎ (is_text operand ≡ false)

  meant : (item : ListItem) (operand : Operand) → IsTaken item operand → key_meant item (Some operand) ≡ Ok (key_as item operand)
  meant item operand (inl e) =
      let equal : bytes_eq (item_suffix item.bytes) [] ≡ true = (bytes_eq-Decides (item_suffix item.bytes) []).1 e in
      ap (λ (b : Bool). if b then Err (WrongOperator item.at Modified) else Ok (key_as item operand)) (and_right (is_text operand) (not (bytes_eq (item_suffix item.bytes) [])) (ap not equal))
  meant item operand (inr e) =
      ap (λ (b : Bool). if b then Err (WrongOperator item.at Modified) else Ok (key_as item operand)) (and_left (is_text operand) (not (bytes_eq (item_suffix item.bytes) [])) e)

  -- what a key is read as
  pub key_found : (item : ListItem) (found : Option Operand) (key : Key) → key_meant item found ≡ Ok key → (operand : Operand) × (found ≡ Some operand) × IsTaken item operand × (key_as item operand ≡ key)
  key_found item None key e = absurd (cc)
  key_found item (Some operand) key e = by (is_text operand) (bytes_eq (item_suffix item.bytes) []) refl refl e
    where
      by : (text unmodified : Bool) → is_text operand ≡ text → bytes_eq (item_suffix item.bytes) [] ≡ unmodified
          → (if text && not unmodified then Err (WrongOperator item.at Modified) else Ok (key_as item operand)) ≡ Ok key → (o : Operand) × (Some operand ≡ Some o) × IsTaken item o × (key_as item o ≡ key)
      by false unmodified f g h = (operand, refl, inr f, ok_same (key_as item operand) key h)
      by true true f g h = (operand, refl, inl ((bytes_eq-Decides (item_suffix item.bytes) []).0 g), ok_same (key_as item operand) key h)
      by true false f g h = absurd (cc)

  read_key : (item : ListItem) (key : Key) → item.bytes ≡ key.written → IsKeyOf definition key → key_in definition.fields item ≡ Ok key
  read_key item key written is =
      let it : IsKeyItem item.bytes key.name key.modifier = subst (λ (bytes : List ℕ). IsKeyItem bytes key.name key.modifier) (sym written) is.written in
      let parts = item_is item.bytes key.name it.suffix it.cut in
      let modifier : modifier_in item.bytes ≡ key.modifier = key_modifier item.bytes key.name key.modifier it in
      ap (λ (name : List ℕ). key_meant item (operand_named definition.fields name)) parts.0 ∙ ap (key_meant item) is.means
      ∙ meant item key.operand (taken it is.number)
      ∙ (λ i. Ok (record { written = written i; name = parts.0 i; modifier = modifier i; operand = key.operand }))
    where
      taken : (it : IsKeyItem item.bytes key.name key.modifier) → (key.modifier ≡ Plain) ⊎ (is_text key.operand ≡ false) → IsTaken item key.operand
      taken it (inl e) = inl ((item_is item.bytes key.name it.suffix it.cut).1 ∙ subst (λ (m : Modifier). IsSuffix m it.suffix) e it.modifies)
      taken it (inr e) = inr e

  abbrev pub AreRead : List ListItem → List Key → Type 0
  AreRead items keys = AllZip (λ item key. key_in definition.fields item ≡ Ok key) items keys

  pub keys_found : (items : List ListItem) (keys : List Key) → each (key_in definition.fields) items ≡ Ok keys → AreRead items keys
  keys_found [] [] e = tt
  keys_found [] (key ∷ keys) e = absurd (cc)
  keys_found (item ∷ items) keys e = by keys (bound (key_in definition.fields item) (λ y. each (key_in definition.fields) items >>= λ ys. Ok (y ∷ ys)) keys e) (keys_found items)
    where
      by : (keys : List Key) → IsBound (key_in definition.fields item) (λ y. each (key_in definition.fields) items >>= λ ys. Ok (y ∷ ys)) keys
          → ((rest : List Key) → each (key_in definition.fields) items ≡ Ok rest → AreRead items rest) → AreRead (item ∷ items) keys
      by keys is next =
          let rest = bound (each (key_in definition.fields) items) (λ ys. Ok (is.found ∷ ys)) keys is.after in
          let same : is.found ∷ rest.found ≡ keys = let f = rest.after in cc in
          subst (AreRead (item ∷ items)) same (is.is, next rest.found rest.is)

  pub keys_given : (items : List ListItem) (keys : List Key) → AreRead items keys → each (key_in definition.fields) items ≡ Ok keys
  keys_given [] [] zip = refl
  keys_given [] (key ∷ keys) zip = absurd zip
  keys_given (item ∷ items) [] zip = absurd zip
  keys_given (item ∷ items) (key ∷ keys) zip =
      ap (λ (r : Result Key TriggerFault). r >>= λ y. each (key_in definition.fields) items >>= λ ys. Ok (y ∷ ys)) zip.0
      ∙ ap (λ (r : Result (List Key) TriggerFault). r >>= λ ys. Ok (key ∷ ys)) (keys_given items keys zip.1)

  -- such keys are written and named as the items are
  pub keys_written : (items : List ListItem) (keys : List Key) → AreRead items keys → names_of items ≡ written_of keys
  keys_written [] [] zip = refl
  keys_written [] (key ∷ keys) zip = absurd zip
  keys_written (item ∷ items) [] zip = absurd zip
  keys_written (item ∷ items) (key ∷ keys) zip =
      let is = key_found item (operand_named definition.fields (item_name item.bytes)) key zip.0 in
      (λ i. (is.3 i).written ∷ keys_written items keys zip.1 i)

  pub keys_named : (items : List ListItem) (keys : List Key) → AreRead items keys → map item_name (names_of items) ≡ key_names keys
  keys_named [] [] zip = refl
  keys_named [] (key ∷ keys) zip = absurd zip
  keys_named (item ∷ items) [] zip = absurd zip
  keys_named (item ∷ items) (key ∷ keys) zip =
      let is = key_found item (operand_named definition.fields (item_name item.bytes)) key zip.0 in
      (λ i. (is.3 i).name ∷ keys_named items keys zip.1 i)

  -- and are keys of the event, if they are written so
  pub keys_of_event : (items : List ListItem) (keys : List Key) → AllByRecursion IsKey (names_of items) → AreRead items keys → AllByRecursion (IsKeyOf definition) keys
  keys_of_event [] [] all zip = tt
  keys_of_event [] (key ∷ keys) all zip = absurd zip
  keys_of_event (item ∷ items) [] all zip = absurd zip
  keys_of_event (item ∷ items) (key ∷ keys) all zip =
      let is = key_found item (operand_named definition.fields (item_name item.bytes)) key zip.0 in
      (subst (IsKeyOf definition) is.3 (record { written = own_key item.bytes all.0; means = is.1; number = plain is.0 is.2 }), keys_of_event items keys all.1 zip.1)
    where
      plain : (operand : Operand) → IsTaken item operand → (modifier_in item.bytes ≡ Plain) ⊎ (is_text operand ≡ false)
      plain operand (inl e) = inl (ap (λ (suffix : List ℕ). unwrap_or (modifier_of suffix) Plain) e)
      plain operand (inr e) = inr e

  pub event_keys : (items : List ListItem) (keys : List Key) → names_of items ≡ written_of keys → AllByRecursion (IsKeyOf definition) keys → AreRead items keys
  event_keys [] [] e all = tt
  event_keys [] (key ∷ keys) e all = absurd (cc)
  event_keys (item ∷ items) [] e all = absurd (cc)
  event_keys (item ∷ items) (key ∷ keys) e all =
      let written : item.bytes ≡ key.written = cc in
      let rest : names_of items ≡ written_of keys = cc in
      (read_key item key written all.0, event_keys items keys rest all.1)

  -- what can be a key
  pub keys_can : (items : List ListItem) (keys : List Key) → AreRead items keys → AllByRecursion (CanBeKey definition) (names_of items)
  keys_can [] keys zip = tt
  keys_can (item ∷ items) [] zip = absurd zip
  keys_can (item ∷ items) (key ∷ keys) zip =
      let is = key_found item (operand_named definition.fields (item_name item.bytes)) key zip.0 in
      (record { name = item_name item.bytes; suffix = item_suffix item.bytes; cut = item_split item.bytes; operand = is.0; means = is.1; number = is.2 }, keys_can items keys zip.1)

  can_key : (item : ListItem) → (can : CanBeKey definition item.bytes) → key_in definition.fields item ≡ Ok (key_as item can.operand)
  can_key item can =
      let parts = item_is item.bytes can.name can.suffix can.cut in
      ap (λ (name : List ℕ). key_meant item (operand_named definition.fields name)) parts.0 ∙ ap (key_meant item) can.means ∙ meant item can.operand (taken can.number)
    where
      taken : (can.suffix ≡ []) ⊎ (is_text can.operand ≡ false) → IsTaken item can.operand
      taken (inl e) = inl ((item_is item.bytes can.name can.suffix can.cut).1 ∙ e)
      taken (inr e) = inr e

  pub can_keys : (items : List ListItem) → AllByRecursion (CanBeKey definition) (names_of items) → (keys : List Key) × AreRead items keys
  can_keys [] all = ([], tt)
  can_keys (item ∷ items) all =
      let rest = can_keys items all.1 in
      (key_as item all.0.operand ∷ rest.0, (can_key item all.0, rest.1))

  pub values_found : (items : List ListItem) (sources : List Operand) → each (value_source definition.fields) items ≡ Ok sources → AllZip (IsValueOf definition) (names_of items) sources
  values_found [] [] e = tt
  values_found [] (source ∷ sources) e = absurd (cc)
  values_found (item ∷ items) sources e = by sources (bound (value_source definition.fields item) (λ y. each (value_source definition.fields) items >>= λ ys. Ok (y ∷ ys)) sources e) (values_found items)
    where
      by : (sources : List Operand) → IsBound (value_source definition.fields item) (λ y. each (value_source definition.fields) items >>= λ ys. Ok (y ∷ ys)) sources
          → ((rest : List Operand) → each (value_source definition.fields) items ≡ Ok rest → AllZip (IsValueOf definition) (names_of items) rest) → AllZip (IsValueOf definition) (names_of (item ∷ items)) sources
      by sources is next =
          let rest = bound (each (value_source definition.fields) items) (λ ys. Ok (is.found ∷ ys)) sources is.after in
          let same : is.found ∷ rest.found ≡ sources = let f = rest.after in cc in
          subst (AllZip (IsValueOf definition) (names_of (item ∷ items))) same (value_found item.at (operand_named definition.fields item.bytes) is.found is.is, next rest.found rest.is)

  pub values_given : (items : List ListItem) (sources : List Operand) → AllZip (IsValueOf definition) (names_of items) sources → each (value_source definition.fields) items ≡ Ok sources
  values_given [] [] zip = refl
  values_given [] (source ∷ sources) zip = absurd zip
  values_given (item ∷ items) [] zip = absurd zip
  values_given (item ∷ items) (source ∷ sources) zip =
      ap (λ (n : Option Operand). value_meant item.at n >>= λ y. each (value_source definition.fields) items >>= λ ys. Ok (y ∷ ys)) zip.0.0
      ∙ ap (λ (b : Bool). as_number item.at source b >>= λ y. each (value_source definition.fields) items >>= λ ys. Ok (y ∷ ys)) zip.0.1
      ∙ ap (λ (r : Result (List Operand) TriggerFault). r >>= λ ys. Ok (source ∷ ys)) (values_given items sources zip.1)

-- the values that are summed, by their names
pub summed_are : (items : List ListItem) → names_of (summed_items items) ≡ summed_names (names_of items)
summed_are [] = refl
summed_are (item ∷ items) = by (not (is_hitcount item.bytes)) (summed_are items)
  where
    by : (b : Bool) → names_of (summed_items items) ≡ summed_names (names_of items)
        → names_of (cond b (item ∷ summed_items items) (summed_items items)) ≡ cond b (item.bytes ∷ summed_names (names_of items)) (summed_names (names_of items))
    by true next = ap (λ (names : List (List ℕ)). item.bytes ∷ names) next
    by false next = next

-- ---- the size

pub told : (size : Option ℕ) (n : ℕ) → told_size size ≡ Ok n → size ≡ Some n
told None n e = absurd (cc)
told (Some m) n e = let same : m ≡ n = cc in ap Some same

-- ---- where a name is in a list

pub record IsIndex (name : List ℕ) (names : List (List ℕ)) (index : ℕ) : Type 0 where
  pub first : position_or_len (bytes_eq name) names ≡ index
  pub within : index < length names
  pub there : slice_get names index ≡ Some name

index_here : (name other : List ℕ) (names : List (List ℕ)) → name ≡ other → IsIndex name (other ∷ names) 0
index_here name other names same =
    let equal : bytes_eq name other ≡ true = (bytes_eq-Decides name other).1 same in
    record { first = ap (λ b. cond (not b) (1 + position_or_len (bytes_eq name) names) 0) equal; within = omega arith; there = ap Some (sym same) }

index_later : (name other : List ℕ) (names : List (List ℕ)) (index : ℕ) → bytes_eq name other ≡ false → IsIndex name names index → IsIndex name (other ∷ names) (suc index)
index_later name other names index differ is =
    let up : 1 + position_or_len (bytes_eq name) names ≡ suc index = omega (arith, is.first) in
    record {
      first = ap (λ b. cond (not b) (1 + position_or_len (bytes_eq name) names) 0) differ ∙ up;
      within = omega (arith, is.within);
      there = is.there;
    }

-- the index of an element of a list of names of which none is there twice
none_there : (name other : List ℕ) (names : List (List ℕ)) (index : ℕ) → AllByRecursion (λ later. other ≢ later) names → slice_get names index ≡ Some name → other ≢ name
none_there name other [] index all e = absurd (cc)
none_there name other (first ∷ names) zero all e = λ same. let here : first ≡ name = cc in all.0 (same ∙ sym here)
none_there name other (first ∷ names) (suc index) all e = none_there name other names index all.1 e

pub index_of : (name : List ℕ) (names : List (List ℕ)) (index : ℕ) → Apart (λ one later. one ≢ later) names → slice_get names index ≡ Some name → IsIndex name names index
index_of name [] index apart e = absurd (cc)
index_of name (other ∷ names) zero apart e = let same : name ≡ other = cc in index_here name other names same
index_of name (other ∷ names) (suc index) apart e =
    let differ : bytes_eq name other ≡ false = false_from_ne_true (bytes_eq name other) (λ equal. none_there name other names index apart.0 e (sym ((bytes_eq-Decides name other).0 equal))) in
    index_later name other names index differ (index_of name names index apart.1 e)

pub record HasIndex (name : List ℕ) (names : List (List ℕ)) : Type 0 where
  pub index : ℕ
  pub is : IsIndex name names index

pub member_index : (name : List ℕ) (names : List (List ℕ)) → Member name names → HasIndex name names
member_index name [] is = absurd is
member_index name (other ∷ names) is = by (bytes_eq name other) refl is (member_index name names)
  where
    by : (b : Bool) → bytes_eq name other ≡ b → Member name (other ∷ names) → (Member name names → HasIndex name names) → HasIndex name (other ∷ names)
    by true e is next = record { index = 0; is = index_here name other names ((bytes_eq-Decides name other).0 e) }
    by false e (inl same) next = let equal : bytes_eq name other ≡ true = (bytes_eq-Decides name other).1 same in absurd (cc)
    by false e (inr is) next = let rest = next is in record { index = suc rest.index; is = index_later name other names rest.index e rest.is }

pub index_found : (name : List ℕ) (names : List (List ℕ)) (index : ℕ) → IsIndex name names index → position (bytes_eq name) names ≡ Some index
index_found name names index is =
    let test : nat_lt (position_or_len (bytes_eq name) names) (length names) ≡ true = lt-ltb (position_or_len (bytes_eq name) names) (length names) (omega (arith, is.first, is.within)) in
    ap (λ b. cond b (Some (position_or_len (bytes_eq name) names)) None) test ∙ ap Some is.first

index_at : (name : List ℕ) (names : List (List ℕ)) → position_or_len (bytes_eq name) names < length names → slice_get names (position_or_len (bytes_eq name) names) ≡ Some name
index_at name [] more = absurd (omega (arith, more))
index_at name (other ∷ names) more = by (bytes_eq name other) refl more (index_at name names)
  where
    by : (b : Bool) → bytes_eq name other ≡ b → cond (not b) (1 + position_or_len (bytes_eq name) names) 0 < length (other ∷ names)
        → (position_or_len (bytes_eq name) names < length names → slice_get names (position_or_len (bytes_eq name) names) ≡ Some name)
        → slice_get (other ∷ names) (cond (not b) (1 + position_or_len (bytes_eq name) names) 0) ≡ Some name
    by true e l next = ap Some (sym ((bytes_eq-Decides name other).0 e))
    by false e l next =
        let up : 1 + position_or_len (bytes_eq name) names ≡ suc (position_or_len (bytes_eq name) names) = omega arith in
        ap (slice_get (other ∷ names)) up ∙ next (omega (arith, l))

pub index_there : (name : List ℕ) (names : List (List ℕ)) (index : ℕ) → position (bytes_eq name) names ≡ Some index → slice_get names index ≡ Some name
index_there name names index e = by (nat_lt (position_or_len (bytes_eq name) names) (length names)) refl e
  where
    by : (b : Bool) → nat_lt (position_or_len (bytes_eq name) names) (length names) ≡ b → cond b (Some (position_or_len (bytes_eq name) names)) None ≡ Some index → slice_get names index ≡ Some name
    by true f g =
        let same : position_or_len (bytes_eq name) names ≡ index = cc in
        ap (slice_get names) (sym same) ∙ index_at name names (ltb-true (position_or_len (bytes_eq name) names) (length names) f)
    by false f g = absurd (cc)

-- and where it is in none
never_index : (name : List ℕ) (names : List (List ℕ)) → (Member name names → ⊥) → length names ≤ position_or_len (bytes_eq name) names
never_index name [] none = omega arith
never_index name (other ∷ names) none =
    let differ : bytes_eq name other ≡ false = false_from_ne_true (bytes_eq name other) (λ equal. none (inl ((bytes_eq-Decides name other).0 equal))) in
    let rest = never_index name names (λ is. none (inr is)) in
    omega (arith, ap (λ b. cond (not b) (1 + position_or_len (bytes_eq name) names) 0) differ, rest)

pub index_missing : (name : List ℕ) (names : List (List ℕ)) → (Member name names → ⊥) → position (bytes_eq name) names ≡ None
index_missing name names none =
    ap (λ b. cond b (Some (position_or_len (bytes_eq name) names)) None) (le-ltb (position_or_len (bytes_eq name) names) (length names) (never_index name names none))

-- ---- what is sorted by

module _ (keys values : List (List ℕ)) where
  source_by : (name : List ℕ) (found : Option ℕ) (is_count : Bool) → position (bytes_eq name) values ≡ found → is_hitcount name ≡ is_count
      → sort_source keys values name ≡ sort_found found is_count (position (bytes_eq name) keys)
  source_by name found is_count e f = (λ i. sort_found (e i) (f i) (position (bytes_eq name) keys))

  module _ (keys_apart : Apart (λ one later. one ≢ later) keys) (values_apart : Apart (λ one later. one ≢ later) values) (no_count : Member (codes "hitcount") values → ⊥) where
    pub by_is : (name : List ℕ) (source : SortSource) → IsSortedBy keys values name source → source ≡ sort_source keys values name
    by_is name sorted.Hitcount is =
        let none : position (bytes_eq name) values ≡ None = index_missing name values (λ member. no_count (subst (λ (n : List ℕ). Member n values) is member)) in
        sym (source_by name None true none ((bytes_eq-Decides name (codes "hitcount")).1 is))
    by_is name (sorted.Value index) is =
        let found : position (bytes_eq name) values ≡ Some index = index_found name values index (index_of name values index values_apart is) in
        sym (source_by name (Some index) (is_hitcount name) found refl)
    by_is name (sorted.Key index) is =
        let none : position (bytes_eq name) values ≡ None = index_missing name values (λ member. is.1 (from_member name values member)) in
        let other : is_hitcount name ≡ false = false_from_ne_true (is_hitcount name) (λ equal. is.0 ((bytes_eq-Decides name (codes "hitcount")).0 equal)) in
        let index_is : position (bytes_eq name) keys ≡ Some index = index_found name keys index (index_of name keys index keys_apart is.2) in
        sym (source_by name None false none other ∙ ap (λ (o : Option ℕ). sorted.Key (unwrap_or o 0)) index_is)

    pub is_by : (name : List ℕ) → (name ≡ codes "hitcount") ⊎ (Member name keys ⊎ Member name values) → IsSortedBy keys values name (sort_source keys values name)
    is_by name lent = by (position (bytes_eq name) values) (is_hitcount name) refl refl lent
      where
        key_index : (e : position (bytes_eq name) values ≡ None) → is_hitcount name ≡ false → Member name keys → IsSortedBy keys values name (sorted.Key (unwrap_or (position (bytes_eq name) keys) 0))
        key_index e f member =
            let it = member_index name keys member in (
              λ same. let equal : is_hitcount name ≡ true = (bytes_eq-Decides name (codes "hitcount")).1 same in let no = f in cc,
              λ contains. let at = member_index name values (member_from name values contains) in let found = index_found name values at.index at.is in cc,
              subst (λ (o : Option ℕ). slice_get keys (unwrap_or o 0) ≡ Some name) (sym (index_found name keys it.index it.is)) it.is.there,
            )

        by : (found : Option ℕ) (is_count : Bool) → position (bytes_eq name) values ≡ found → is_hitcount name ≡ is_count → (name ≡ codes "hitcount") ⊎ (Member name keys ⊎ Member name values)
            → IsSortedBy keys values name (sort_source keys values name)
        by (Some index) is_count e f lent = subst (IsSortedBy keys values name) (sym (source_by name (Some index) is_count e f)) (index_there name values index e)
        by None true e f lent = subst (IsSortedBy keys values name) (sym (source_by name None true e f)) ((bytes_eq-Decides name (codes "hitcount")).0 f)
        by None false e f (inl same) = let equal : is_hitcount name ≡ true = (bytes_eq-Decides name (codes "hitcount")).1 same in absurd (cc)
        by None false e f (inr (inl member)) = subst (IsSortedBy keys values name) (sym (source_by name None false e f)) (key_index e f member)
        by None false e f (inr (inr member)) = let at = member_index name values member in let found = index_found name values at.index at.is in absurd (cc)
