-- A text that is written so is refused for just the cause that the grammar gives.
use Rattle.std.proofs.Common.{◌≡◌, ◌⊎◌, inl, inr, refl, ℕ, ◌+◌, Bool, true, false, not, codes, List, [], ◌∷◌, ◌++◌, filter, Result, Ok, Err, ap, sym, ◌∙◌, subst}
use Rattle.std.specs.List.{All, AllByRecursion, AllZip}
use Rattle.std.proofs.lemmas.Bool.{false_from_ne_true, not_from_false}
use Rattle.std.proofs.lemmas.List.Elements.{All-from_recursion, recursion_from_All}
use Rattle.std.proofs.lemmas.Slice.Eq.{bytes_eq-Decides}
use Rattle.trace_format.specs.Definitions.{Definition}
use Rattle.trace_format.specs.declared.operand.Operand.{Operand}
use Rattle.trace_trigger.specs.declared.fault.TriggerFault.{TriggerFault}
use Rattle.trace_format.specs.declared.key.Key.{Key}
use Rattle.trace_trigger.specs.declared.attribute.Attribute.{Attribute}
use Rattle.trace_trigger.specs.declared.piece.ListItem.{ListItem}
use Rattle.trace_trigger.specs.HistParts.{attributes_of}
use Rattle.trace_trigger.specs.HistLists.{first_about, items_in, Lists, lists_of, names_of, summed_items, is_hitcount}
use Rattle.trace_trigger.specs.HistMeanings.{each, key_in, value_source}
use Rattle.trace_trigger.specs.HistGrammar.{Subject, OfKeys, OfValues, summed_names, IsValueOf}
use Rattle.trace_trigger.specs.HistFaultOffsets.{Cut, IsList, items_offset}
use Rattle.trace_trigger.specs.HistRefusals.{IsItemAt, CanBeKey, CanBeValue, CannotBeKey, IsWrongKey, CannotBeValue, IsWrongValue}
use Rattle.trace_trigger.proofs.CutLemmas.{located, names_of-located}
use Rattle.trace_trigger.proofs.HeadLemmas.{topic_for}
use Rattle.trace_trigger.proofs.PartLaws.{start_for}
use Rattle.trace_trigger.proofs.MeaningLaws.{keys_found, keys_given, keys_can, can_keys, values_found, values_given, summed_are}
use Rattle.trace_trigger.proofs.OffsetLemmas.{size}
use Rattle.trace_trigger.proofs.SubjectLaws.{located_attributes}
use Rattle.trace_trigger.proofs.FaultLaws.{FoundList, NoList, items_are, keys_list, values_list}
use Rattle.trace_trigger.proofs.WrongLaws.{attributes_there}
use Rattle.trace_trigger.proofs.FirstFaults.{first_fault, fault_first, filter_all, key_refused, refused_key, value_refused, refused_value, values_can, can_values}

-- ---- the items of lists are at their offsets

-- pieces are the items of the first attribute about this
record ListAt {text : List ℕ} (cut : Cut text) (subject : Subject) (pieces : List ListItem) : Type 0 where
  before : List (List ℕ)
  attribute : List ℕ
  head : List ℕ
  items : List (List ℕ)
  list : IsList subject cut.attributes before attribute head items
  are : pieces ≡ located (items_offset cut before head) items

module _ (text : List ℕ) (cut : Cut text) where
  abbrev start : ℕ
  start = start_for cut.removes

  keys_there : (lists_of (attributes_of text)).keys ≡ items_in (first_about (topic_for OfKeys) (located_attributes start cut.attributes))
  unfolding lists_of
  keys_there = ap (λ (attributes : List Attribute). items_in (first_about (topic_for OfKeys) attributes)) (attributes_there text cut)

  values_there : (lists_of (attributes_of text)).values ≡ items_in (first_about (topic_for OfValues) (located_attributes start cut.attributes))
  unfolding lists_of
  values_there = ap (λ (attributes : List Attribute). items_in (first_about (topic_for OfValues) attributes)) (attributes_there text cut)

  keys_at : ((lists_of (attributes_of text)).keys ≡ []) ⊎ ListAt cut OfKeys (lists_of (attributes_of text)).keys
  keys_at = by (keys_list start cut.attributes)
    where
      by : FoundList start cut.attributes OfKeys ⊎ NoList start cut.attributes OfKeys → ((lists_of (attributes_of text)).keys ≡ []) ⊎ ListAt cut OfKeys (lists_of (attributes_of text)).keys
      by (inl is) =
          inr (record {
            before = is.before;
            attribute = is.attribute;
            head = is.head;
            items = is.items;
            list = is.list;
            are = keys_there ∙ (items_are start cut.attributes OfKeys is.before is.attribute is.head is.items is.about is.list).are;
          })
      by (inr none) = inl (keys_there ∙ none.none)

  values_at : ((lists_of (attributes_of text)).values ≡ []) ⊎ ListAt cut OfValues (lists_of (attributes_of text)).values
  values_at = by (values_list start cut.attributes)
    where
      by : FoundList start cut.attributes OfValues ⊎ NoList start cut.attributes OfValues → ((lists_of (attributes_of text)).values ≡ []) ⊎ ListAt cut OfValues (lists_of (attributes_of text)).values
      by (inl is) =
          inr (record {
            before = is.before;
            attribute = is.attribute;
            head = is.head;
            items = is.items;
            list = is.list;
            are = values_there ∙ (items_are start cut.attributes OfValues is.before is.attribute is.head is.items is.about is.list).are;
          })
      by (inr none) = inl (values_there ∙ none.none)

  keys_of_item : (before : List (List ℕ)) (name : List ℕ) (offset : ℕ) → (is : IsItemAt cut OfKeys before name offset) → (lists_of (attributes_of text)).keys ≡ located (items_offset cut is.attributes_before is.head) is.items
  keys_of_item before name offset is =
      keys_there ∙ (items_are start cut.attributes OfKeys is.attributes_before is.attribute is.head is.items (is.head, is.list.value, is.list.has) is.list).are

  values_of_item : (before : List (List ℕ)) (name : List ℕ) (offset : ℕ) → (is : IsItemAt cut OfValues before name offset) → (lists_of (attributes_of text)).values ≡ located (items_offset cut is.attributes_before is.head) is.items
  values_of_item before name offset is =
      values_there ∙ (items_are start cut.attributes OfValues is.attributes_before is.attribute is.head is.items (is.head, is.list.value, is.list.has) is.list).are

-- ---- the first wrong key

module _ (definition : Definition) (text : List ℕ) where
  abbrev all : ListItem → Bool
  all = λ _. true

  abbrev summed : ListItem → Bool
  summed = λ (item : ListItem). not (is_hitcount item.bytes)

  keys_before : (start : ℕ) (before : List (List ℕ)) (keys : List Key) → each (key_in definition.fields) (filter (λ _. true) (located start before)) ≡ Ok keys → All (CanBeKey definition) before
  keys_before start before keys e =
      let read = keys_found definition (located start before) keys (ap (each (key_in definition.fields)) (sym (filter_all (located start before))) ∙ e) in
      All-from_recursion (CanBeKey definition) before
      (subst (AllByRecursion (CanBeKey definition)) (names_of-located 44 start before) (keys_can definition (located start before) keys read))

  record SomeOk {B : Type 0} (pieces : List ListItem) (read : ListItem → Result B TriggerFault) : Type 0 where
    found : List B
    is : each read pieces ≡ Ok found

  before_keys : (start : ℕ) (before : List (List ℕ)) → All (CanBeKey definition) before → SomeOk (filter (λ _. true) (located start before)) (key_in definition.fields)
  before_keys start before can =
      let them = can_keys definition (located start before) (subst (AllByRecursion (CanBeKey definition)) (sym (names_of-located 44 start before)) (recursion_from_All (CanBeKey definition) before can)) in
      record {
        found = them.0;
        is = ap (each (key_in definition.fields)) (filter_all (located start before)) ∙ keys_given definition (located start before) them.0 them.1;
      }

  abbrev lists : Lists
  lists = lists_of (attributes_of text)

  pub key_fault : Cut text → (fault : TriggerFault) → each (key_in definition.fields) lists.keys ≡ Err fault → IsWrongKey definition text fault
  key_fault cut fault e = by (keys_at text cut)
    where
      at : ListAt cut OfKeys (lists_of (attributes_of text)).keys → IsWrongKey definition text fault
      at list =
          let begin : ℕ = items_offset cut list.before list.head in
          let there : each (key_in definition.fields) (filter (λ _. true) (located begin list.items)) ≡ Err fault =
          ap (each (key_in definition.fields)) (filter_all (located begin list.items) ∙ sym list.are) ∙ e in
          let first = first_fault (key_in definition.fields) (λ _. true) begin list.items fault there in
          record {
            cut = cut;
            before = first.before;
            item = first.item;
            offset = begin + size 44 first.before;
            is_at = record {
              attributes_before = list.before;
              attribute = list.attribute;
              head = list.head;
              items = list.items;
              list = list.list;
              is_at = record { after = first.after; cut = first.cut; is_there = refl };
            };
            wrong = key_refused definition (record { at = begin + size 44 first.before; bytes = first.item }) fault first.fault_there;
            first = keys_before begin first.before first.values first.first;
          }

      by : ((lists_of (attributes_of text)).keys ≡ []) ⊎ ListAt cut OfKeys (lists_of (attributes_of text)).keys → IsWrongKey definition text fault
      by (inl none) = let fine : each (key_in definition.fields) (lists_of (attributes_of text)).keys ≡ Ok [] = ap (each (key_in definition.fields)) none in absurd (cc)
      by (inr list) = at list

  pub fault_key : (fault : TriggerFault) → IsWrongKey definition text fault → each (key_in definition.fields) lists.keys ≡ Err fault
  fault_key fault is =
      let at = is.is_at in
      let begin : ℕ = items_offset is.cut at.attributes_before at.head in
      let same : is.offset ≡ begin + size 44 is.before = at.is_at.is_there in
      let before = before_keys begin is.before is.first in
      let wrong : key_in definition.fields (record { at = begin + size 44 is.before; bytes = is.item }) ≡ Err fault =
      refused_key definition (record { at = begin + size 44 is.before; bytes = is.item }) fault (subst (λ n. CannotBeKey definition is.item n fault) same is.wrong) in
      ap (each (key_in definition.fields)) (keys_of_item text is.cut is.before is.item is.offset at ∙ ap (located begin) at.is_at.cut ∙ sym (filter_all (located begin (is.before ++ is.item ∷ at.is_at.after))))
      ∙ fault_first (key_in definition.fields) (λ _. true) begin is.before is.item at.is_at.after fault before.found refl wrong before.is

  -- ---- the first wrong value

  values_before : (start : ℕ) (before : List (List ℕ)) (sources : List Operand) → each (value_source definition.fields) (summed_items (located start before)) ≡ Ok sources → All (CanBeValue definition) before
  values_before start before sources e =
      let names : names_of (summed_items (located start before)) ≡ summed_names before = summed_are (located start before) ∙ ap summed_names (names_of-located 44 start before) in
      All-from_recursion (CanBeValue definition) before
      (values_can definition before sources (subst (λ (ns : List (List ℕ)). AllZip (IsValueOf definition) ns sources) names (values_found definition (summed_items (located start before)) sources e)))

  before_values : (start : ℕ) (before : List (List ℕ)) → All (CanBeValue definition) before → SomeOk (summed_items (located start before)) (value_source definition.fields)
  before_values start before can =
      let zip = can_values definition before (recursion_from_All (CanBeValue definition) before can) in
      let names : names_of (summed_items (located start before)) ≡ summed_names before = summed_are (located start before) ∙ ap summed_names (names_of-located 44 start before) in
      record { found = zip.0; is = values_given definition (summed_items (located start before)) zip.0 (subst (λ (ns : List (List ℕ)). AllZip (IsValueOf definition) ns zip.0) (sym names) zip.1) }

  pub value_fault : Cut text → (fault : TriggerFault) → each (value_source definition.fields) (summed_items lists.values) ≡ Err fault → IsWrongValue definition text fault
  value_fault cut fault e = by (values_at text cut)
    where
      at : ListAt cut OfValues (lists_of (attributes_of text)).values → IsWrongValue definition text fault
      at list =
          let begin : ℕ = items_offset cut list.before list.head in
          let first = first_fault (value_source definition.fields) (λ (item : ListItem). not (is_hitcount item.bytes)) begin list.items fault
          (ap (λ (pieces : List ListItem). each (value_source definition.fields) (summed_items pieces)) (sym list.are) ∙ e) in
          record {
            cut = cut;
            before = first.before;
            name = first.item;
            offset = begin + size 44 first.before;
            is_at = record {
              attributes_before = list.before;
              attribute = list.attribute;
              head = list.head;
              items = list.items;
              list = list.list;
              is_at = record { after = first.after; cut = first.cut; is_there = refl };
            };
            summed = λ same. let equal : is_hitcount first.item ≡ true = (bytes_eq-Decides first.item (codes "hitcount")).1 same in let kept = first.kept in let other : not (is_hitcount first.item) ≡ false = ap not equal in cc;
            wrong = value_refused definition (begin + size 44 first.before) first.item fault first.fault_there;
            first = values_before begin first.before first.values first.first;
          }

      by : ((lists_of (attributes_of text)).values ≡ []) ⊎ ListAt cut OfValues (lists_of (attributes_of text)).values → IsWrongValue definition text fault
      by (inl none) = let fine : each (value_source definition.fields) (summed_items (lists_of (attributes_of text)).values) ≡ Ok [] = ap (λ (pieces : List ListItem). each (value_source definition.fields) (summed_items pieces)) none in absurd (cc)
      by (inr list) = at list

  pub fault_value : (fault : TriggerFault) → IsWrongValue definition text fault → each (value_source definition.fields) (summed_items lists.values) ≡ Err fault
  fault_value fault is =
      let at = is.is_at in
      let begin : ℕ = items_offset is.cut at.attributes_before at.head in
      let same : is.offset ≡ begin + size 44 is.before = at.is_at.is_there in
      let before = before_values begin is.before is.first in
      let other : is_hitcount is.name ≡ false = false_from_ne_true (is_hitcount is.name) (λ equal. is.summed ((bytes_eq-Decides is.name (codes "hitcount")).0 equal)) in
      let wrong : value_source definition.fields (record { at = begin + size 44 is.before; bytes = is.name }) ≡ Err fault =
      refused_value definition (begin + size 44 is.before) is.name fault (subst (λ n. CannotBeValue definition is.name n fault) same is.wrong) in
      ap (λ (pieces : List ListItem). each (value_source definition.fields) (summed_items pieces)) (values_of_item text is.cut is.before is.name is.offset at ∙ ap (located begin) at.is_at.cut)
      ∙ fault_first (value_source definition.fields) (λ (item : ListItem). not (is_hitcount item.bytes)) begin is.before is.name at.is_at.after fault before.found (not_from_false (is_hitcount is.name) other) wrong before.is
