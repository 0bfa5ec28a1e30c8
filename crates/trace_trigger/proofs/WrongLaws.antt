-- The offsets that are found wrong in a whole text are those that are wrong in it.
use Rattle.std.proofs.Common.{◌≡◌, ◌⊎◌, inl, inr, refl, ℕ, ◌+◌, ◌-◌, ◌<◌, Bool, true, false, not, ◌&&◌, nat_lt, if◌then◌else◌, codes, List, [], ◌∷◌, ◌++◌, length, take, map, ap, sym, ◌∙◌, subst, arith, ltb-true}
use Rattle.std.specs.List.{AllByRecursion, AllPass, prefix_len}
use Rattle.std.proofs.lemmas.Bool.{and_parts}
use Rattle.std.proofs.lemmas.List.{length-append, take-append-drop}
use Rattle.std.proofs.lemmas.List.Elements.{All-from_recursion, recursion_from_All, All-weaker}
use Rattle.std.proofs.lemmas.List.Sums.{AllPass-from_list_all}
use Rattle.trace_lex.specs.Blanks.{is_blank}
use Rattle.trace_lex.proofs.Lists.{BeginsNot}
use Rattle.trace_trigger.specs.Frames.{mark, is_unblank, after_blanks}
use Rattle.trace_trigger.specs.declared.attribute.Attribute.{Attribute}
use Rattle.trace_trigger.specs.declared.piece.ListItem.{ListItem}
use Rattle.trace_trigger.specs.HistAttributes.{attribute_of}
use Rattle.trace_trigger.specs.HistParts.{attributes_of, end_of, tail_of, is_condition, condition_of, offset_in}
use Rattle.trace_trigger.specs.HistLists.{first_about, items_in, Lists, lists_of}
use Rattle.trace_trigger.specs.HistOffsets.{is_wrong_key, is_wrong_value, is_wrong_sort}
use Rattle.trace_trigger.specs.private.MistakeOffsets.{wrong_after, attribute_offsets, name_offsets, key_offsets, value_offsets, sort_offsets, list_offsets, keyless_offsets, tail_offsets, wrong_offsets}
use Rattle.trace_trigger.specs.HistGrammar.{Subject, OfKeys, OfValues, OfSort, OfSize, OfName, OfAction}
use Rattle.trace_trigger.specs.HistFaultOffsets.{Cut, BeginsBlank, IsAt, IsAbout, IsList, IsWrongItem, WrongName, WrongItem, WrongTail, IsWrongAt}
use Rattle.trace_trigger.proofs.CutLemmas.{located, cut_pieces}
use Rattle.trace_trigger.proofs.WordLemmas.{run_dropped}
use Rattle.trace_trigger.proofs.HeadLemmas.{topic_for}
use Rattle.trace_trigger.proofs.ListLaws.{Member}
use Rattle.trace_trigger.proofs.PartLaws.{start_for, attributes_are, tail_is, end_is, run_passes, run_stops, begins_unblank, begins_not, tail_found, tail_written}
use Rattle.trace_trigger.proofs.OffsetLemmas.{size, offsets, member_left, member_right, member_cases}
use Rattle.trace_trigger.proofs.SubjectLaws.{located_attributes}
use Rattle.trace_trigger.proofs.WrongNames.{WrongNameAt, names_sound, names_complete}
use Rattle.trace_trigger.proofs.FaultLaws.{attributes_sound, attributes_complete, FoundList, NoList, items_are, keys_list, values_list, sort_list, items_sound, items_complete, key_wrong, wrong_key, value_wrong, wrong_value, sort_wrong, wrong_sort}

-- ---- attributes and their items

module _ (begin : ℕ) (parts : List (List ℕ)) where
  abbrev found : List Attribute
  found = located_attributes begin parts

  abbrev lists : Lists
  lists = lists_of (located_attributes begin parts)

  pub record WrongItemAt (offset : ℕ) : Type 0 where
    pub subject : Subject
    pub attributes_before : List (List ℕ)
    pub attribute : List ℕ
    pub head : List ℕ
    pub items : List (List ℕ)
    pub list : IsList subject parts attributes_before attribute head items
    pub before : List (List ℕ)
    pub item : List ℕ
    pub is_at : IsAt 44 (begin + size 58 attributes_before + length head) items before item offset
    pub wrong : IsWrongItem subject parts before item

  keys_sound : (offset : ℕ) → Member offset (key_offsets lists.keys) → WrongItemAt offset
  unfolding lists_of key_offsets
  keys_sound offset is = by (keys_list begin parts)
    where
      by : FoundList begin parts OfKeys ⊎ NoList begin parts OfKeys → WrongItemAt offset
      by (inl list) =
          let it = items_sound begin parts is_wrong_key OfKeys offset list is in
          record {
            subject = OfKeys;
            attributes_before = list.before;
            attribute = list.attribute;
            head = list.head;
            items = list.items;
            list = list.list;
            before = it.before;
            item = it.part;
            is_at = it.is_at;
            wrong = key_wrong (begin + size 58 list.before + length list.head) offset it.before it.part it.wrong_there;
          }
      by (inr none) = absurd (subst (λ (pieces : List ListItem). Member offset (offsets (wrong_after is_wrong_key [] pieces))) none.none is)

  values_sound : (offset : ℕ) → Member offset (value_offsets lists.values) → WrongItemAt offset
  unfolding lists_of value_offsets
  values_sound offset is = by (values_list begin parts)
    where
      by : FoundList begin parts OfValues ⊎ NoList begin parts OfValues → WrongItemAt offset
      by (inl list) =
          let it = items_sound begin parts is_wrong_value OfValues offset list is in
          record {
            subject = OfValues;
            attributes_before = list.before;
            attribute = list.attribute;
            head = list.head;
            items = list.items;
            list = list.list;
            before = it.before;
            item = it.part;
            is_at = it.is_at;
            wrong = value_wrong (begin + size 58 list.before + length list.head) offset it.before it.part it.wrong_there;
          }
      by (inr none) = absurd (subst (λ (pieces : List ListItem). Member offset (offsets (wrong_after is_wrong_value [] pieces))) none.none is)

  sort_sound : (offset : ℕ) → Member offset (sort_offsets lists) → WrongItemAt offset
  unfolding lists_of sort_offsets
  sort_sound offset is = by (sort_list begin parts)
    where
      by : FoundList begin parts OfSort ⊎ NoList begin parts OfSort → WrongItemAt offset
      by (inl list) =
          let it = items_sound begin parts (is_wrong_sort (lists_of (located_attributes begin parts))) OfSort offset list is in
          record {
            subject = OfSort;
            attributes_before = list.before;
            attribute = list.attribute;
            head = list.head;
            items = list.items;
            list = list.list;
            before = it.before;
            item = it.part;
            is_at = it.is_at;
            wrong = sort_wrong begin parts (begin + size 58 list.before + length list.head) offset it.before it.part it.wrong_there;
          }
      by (inr none) = absurd (subst (λ (pieces : List ListItem). Member offset (offsets (wrong_after (is_wrong_sort (lists_of (located_attributes begin parts))) [] pieces))) none.none is)

  lists_sound : (offset : ℕ) → Member offset (list_offsets lists) → WrongItemAt offset
  lists_sound offset is = by (member_cases offset (key_offsets lists.keys ++ value_offsets lists.values) (sort_offsets lists) is)
    where
      first : Member offset (key_offsets lists.keys) ⊎ Member offset (value_offsets lists.values) → WrongItemAt offset
      first (inl is) = keys_sound offset is
      first (inr is) = values_sound offset is

      by : Member offset (key_offsets lists.keys ++ value_offsets lists.values) ⊎ Member offset (sort_offsets lists) → WrongItemAt offset
      by (inl is) = first (member_cases offset (key_offsets lists.keys) (value_offsets lists.values) is)
      by (inr is) = sort_sound offset is

  -- ---- the other way round

  keys_complete : (offset : ℕ) (attributes items before : List (List ℕ)) (attribute head item : List ℕ) → IsList OfKeys parts attributes attribute head items
      → IsAt 44 (begin + size 58 attributes + length head) items before item offset → IsWrongItem OfKeys parts before item → Member offset (key_offsets lists.keys)
  unfolding lists_of key_offsets
  keys_complete offset attributes items before attribute head item list is_at wrong =
      items_complete begin parts is_wrong_key OfKeys offset attribute head attributes items before item (head, list.value, list.has) list is_at
      (wrong_key (begin + size 58 attributes + length head) offset before item wrong)

  values_complete : (offset : ℕ) (attributes items before : List (List ℕ)) (attribute head item : List ℕ) → IsList OfValues parts attributes attribute head items
      → IsAt 44 (begin + size 58 attributes + length head) items before item offset → IsWrongItem OfValues parts before item → Member offset (value_offsets lists.values)
  unfolding lists_of value_offsets
  values_complete offset attributes items before attribute head item list is_at wrong =
      items_complete begin parts is_wrong_value OfValues offset attribute head attributes items before item (head, list.value, list.has) list is_at
      (wrong_value (begin + size 58 attributes + length head) offset before item wrong)

  sort_complete : (offset : ℕ) (attributes items before : List (List ℕ)) (attribute head item : List ℕ) → IsList OfSort parts attributes attribute head items
      → IsAt 44 (begin + size 58 attributes + length head) items before item offset → IsWrongItem OfSort parts before item → Member offset (sort_offsets lists)
  unfolding lists_of sort_offsets
  sort_complete offset attributes items before attribute head item list is_at wrong =
      items_complete begin parts (is_wrong_sort (lists_of (located_attributes begin parts))) OfSort offset attribute head attributes items before item (head, list.value, list.has) list is_at
      (wrong_sort begin parts (begin + size 58 attributes + length head) offset before item wrong)

  lists_complete : (offset : ℕ) → WrongItemAt offset → Member offset (list_offsets lists)
  lists_complete offset is = by is.subject is.list is.wrong
    where
      by : (subject : Subject) → IsList subject parts is.attributes_before is.attribute is.head is.items → IsWrongItem subject parts is.before is.item → Member offset (list_offsets lists)
      by OfKeys list wrong =
          member_left offset (key_offsets lists.keys ++ value_offsets lists.values) (sort_offsets lists)
          (member_left offset (key_offsets lists.keys) (value_offsets lists.values) (keys_complete offset is.attributes_before is.items is.before is.attribute is.head is.item list is.is_at wrong))
      by OfValues list wrong =
          member_left offset (key_offsets lists.keys ++ value_offsets lists.values) (sort_offsets lists)
          (member_right offset (key_offsets lists.keys) (value_offsets lists.values) (values_complete offset is.attributes_before is.items is.before is.attribute is.head is.item list is.is_at wrong))
      by OfSort list wrong =
          member_right offset (key_offsets lists.keys ++ value_offsets lists.values) (sort_offsets lists) (sort_complete offset is.attributes_before is.items is.before is.attribute is.head is.item list is.is_at wrong)
      by OfSize list wrong = absurd wrong
      by OfName list wrong = absurd wrong
      by OfAction list wrong = absurd wrong

  -- ---- keys

  some_located : (end at : ℕ) (items : List (List ℕ)) → 0 < length items → keyless_offsets end (located at items) ≡ []
  some_located end at [] some = absurd (omega (arith, some))
  some_located end at (item ∷ items) some = refl

  pub keyless_sound : (end offset : ℕ) → Member offset (keyless_offsets end lists.keys) → AllByRecursion (λ attribute. IsAbout OfKeys attribute → ⊥) parts × (offset ≡ end)
  unfolding lists_of
  keyless_sound end offset is = by (keys_list begin parts)
    where
      by : FoundList begin parts OfKeys ⊎ NoList begin parts OfKeys → AllByRecursion (λ attribute. IsAbout OfKeys attribute → ⊥) parts × (offset ≡ end)
      by (inl list) =
          let are = items_are begin parts OfKeys list.before list.attribute list.head list.items list.about list.list in
          absurd (subst (Member offset) (ap (keyless_offsets end) are.are ∙ some_located end (begin + size 58 list.before + length list.head) list.items list.list.listed.some) is)
      by (inr none) = (none.others, here (subst (Member offset) (ap (keyless_offsets end) none.none) is))
        where
          here : Member offset (end ∷ []) → offset ≡ end
          here (inl same) = same
          here (inr never) = absurd never

  keyless_complete : (end offset : ℕ) → AllByRecursion (λ attribute. IsAbout OfKeys attribute → ⊥) parts → offset ≡ end → Member offset (keyless_offsets end lists.keys)
  unfolding lists_of
  keyless_complete end offset others same = by (keys_list begin parts)
    where
      never : (attributes : List (List ℕ)) (attribute : List ℕ) (after : List (List ℕ)) → AllByRecursion (λ a. IsAbout OfKeys a → ⊥) (attributes ++ attribute ∷ after) → IsAbout OfKeys attribute → ⊥
      never [] attribute after all about = all.0 about
      never (first ∷ attributes) attribute after all about = never attributes attribute after all.1 about

      by : FoundList begin parts OfKeys ⊎ NoList begin parts OfKeys → Member offset (keyless_offsets end (items_in (first_about (topic_for OfKeys) (located_attributes begin parts))))
      by (inl list) = absurd (never list.before list.attribute list.list.after (subst (AllByRecursion (λ a. IsAbout OfKeys a → ⊥)) list.list.cut others) list.about)
      by (inr none) = subst (Member offset) (sym (ap (keyless_offsets end) none.none)) (inl same)

-- ---- whole texts

module _ (text : List ℕ) (cut : Cut text) where
  passes : AllPass is_unblank cut.word
  passes = All-weaker (λ b. is_blank b ≡ false) (λ b. is_unblank b ≡ true) (λ b e. ap not e) cut.word cut.unblank

  stops : BeginsNot is_unblank cut.tail
  stops = by cut.ends
    where
      by : BeginsBlank cut.tail → BeginsNot is_unblank cut.tail
      by (inl none) = subst (BeginsNot is_unblank) (sym none) tt
      by (inr is) = subst (BeginsNot is_unblank) (sym is.2) (ap not is.3)

  abbrev start : ℕ
  start = start_for cut.removes

  abbrev there : List Attribute
  there = located_attributes start cut.attributes

  pub attributes_there : attributes_of text ≡ there
  attributes_there =
      ap attributes_of cut.cut ∙ attributes_are cut.removes cut.word cut.tail passes stops
      ∙ ap (λ (pieces : List ListItem). map attribute_of pieces) (cut_pieces 58 start cut.word cut.attributes cut.parts)

  pub tail_there : tail_of text ≡ after_blanks cut.tail
  tail_there = ap tail_of cut.cut ∙ tail_is cut.removes cut.word cut.tail passes stops

  pub end_there : end_of text ≡ start + length cut.word
  end_there = ap end_of cut.cut ∙ end_is cut.removes cut.word cut.tail passes stops

  abbrev all_offsets : List ℕ
  all_offsets = attribute_offsets there ++ name_offsets there ++ list_offsets (lists_of there) ++ keyless_offsets (start + length cut.word) (lists_of there).keys ++ tail_offsets text (after_blanks cut.tail)

  offsets_are : wrong_offsets text ≡ all_offsets
  unfolding wrong_offsets
  offsets_are =
      (λ i. attribute_offsets (attributes_there i) ++ name_offsets (attributes_there i) ++ list_offsets (lists_of (attributes_there i)) ++ keyless_offsets (end_there i) (lists_of (attributes_there i)).keys ++ tail_offsets text (tail_there i))

  -- ---- what follows the word

  whole_length : length text ≡ start + length cut.word + length cut.tail
  whole_length =
      omega (arith, ap length cut.cut, length-append (mark cut.removes ++ codes "hist:" ++ cut.word) cut.tail, length-append (mark cut.removes ++ codes "hist:") cut.word)

  pub tail_sound : (offset : ℕ) → Member offset (tail_offsets text (after_blanks cut.tail)) → WrongTail cut offset
  tail_sound offset is = by (nat_lt 0 (length (after_blanks cut.tail)) && not (is_condition (after_blanks cut.tail))) refl is
    where
      here : (p : ℕ) → Member offset (p ∷ []) → offset ≡ p
      here p (inl same) = same
      here p (inr never) = absurd never

      by : (b : Bool) → (nat_lt 0 (length (after_blanks cut.tail)) && not (is_condition (after_blanks cut.tail))) ≡ b → Member offset (if b then offset_in text (after_blanks cut.tail) ∷ [] else []) → WrongTail cut offset
      by false e is = absurd is
      by true e member =
          let both = and_parts (nat_lt 0 (length (after_blanks cut.tail))) (not (is_condition (after_blanks cut.tail))) e in
          let split : cut.tail ≡ take (prefix_len is_blank cut.tail) cut.tail ++ after_blanks cut.tail = sym (take-append-drop (prefix_len is_blank cut.tail) cut.tail) in
          let at : offset ≡ length text - length (after_blanks cut.tail) = here (offset_in text (after_blanks cut.tail)) member in
          let lengths : length cut.tail ≡ length (take (prefix_len is_blank cut.tail) cut.tail) + length (after_blanks cut.tail) = ap length split ∙ length-append (take (prefix_len is_blank cut.tail) cut.tail) (after_blanks cut.tail) in
          record {
            front = take (prefix_len is_blank cut.tail) cut.tail;
            rest = after_blanks cut.tail;
            tail = split;
            blanks = AllPass-from_list_all is_blank (take (prefix_len is_blank cut.tail) cut.tail) (run_passes is_blank cut.tail);
            begins = begins_unblank (after_blanks cut.tail) (run_stops is_blank cut.tail) (ltb-true 0 (length (after_blanks cut.tail)) both.0);
            wrong = λ condition written. subst (Member offset) ((tail_found cut.tail condition written).right text) is;
            is_at = omega (arith, at, whole_length, lengths);
          }

  tail_complete : (offset : ℕ) → WrongTail cut offset → Member offset (tail_offsets text (after_blanks cut.tail))
  tail_complete offset is = by (nat_lt 0 (length (after_blanks cut.tail)) && not (is_condition (after_blanks cut.tail))) refl
    where
      rest_is : after_blanks cut.tail ≡ is.rest
      rest_is = ap after_blanks is.tail ∙ run_dropped is_blank is.front is.rest is.blanks (begins_not is.rest is.begins)

      by : (b : Bool) → (nat_lt 0 (length (after_blanks cut.tail)) && not (is_condition (after_blanks cut.tail))) ≡ b → Member offset (tail_offsets text (after_blanks cut.tail))
      by true e =
          let lengths : length cut.tail ≡ length is.front + length is.rest = ap length is.tail ∙ length-append is.front is.rest in
          let at : offset ≡ offset_in text (after_blanks cut.tail) = omega (arith, is.is_at, whole_length, lengths, ap length rest_is) in
          subst (Member offset) (sym (ap (λ (b : Bool). if b then offset_in text (after_blanks cut.tail) ∷ [] else []) e)) (inl at)
      by false e =
          let none : tail_offsets text (after_blanks cut.tail) ≡ [] = ap (λ (b : Bool). if b then offset_in text (after_blanks cut.tail) ∷ [] else []) e in
          absurd (is.wrong (condition_of (after_blanks cut.tail)) (tail_written text cut.tail stops none))

  -- ---- all of it

  item_at : (offset : ℕ) → WrongItemAt start cut.attributes offset → WrongItem cut offset
  item_at offset is = record {
    subject = is.subject;
    attributes_before = is.attributes_before;
    attribute = is.attribute;
    head = is.head;
    items = is.items;
    list = is.list;
    before = is.before;
    item = is.item;
    is_at = is.is_at;
    wrong = is.wrong;
  }

  at_item : (offset : ℕ) → WrongItem cut offset → WrongItemAt start cut.attributes offset
  at_item offset is = record {
    subject = is.subject;
    attributes_before = is.attributes_before;
    attribute = is.attribute;
    head = is.head;
    items = is.items;
    list = is.list;
    before = is.before;
    item = is.item;
    is_at = is.is_at;
    wrong = is.wrong;
  }

  name_at : (offset : ℕ) → WrongNameAt start cut.attributes offset → WrongName cut offset
  name_at offset is = record {
    before = is.before;
    attribute = is.attribute;
    attribute_offset = is.attribute_offset;
    is_at = is.is_at;
    head = is.head;
    value = is.value;
    has = is.has;
    none = is.none;
    is_there = is.is_there;
  }

  at_name : (offset : ℕ) → WrongName cut offset → WrongNameAt start cut.attributes offset
  at_name offset is = record {
    before = is.before;
    attribute = is.attribute;
    attribute_offset = is.attribute_offset;
    is_at = is.is_at;
    head = is.head;
    value = is.value;
    has = is.has;
    none = is.none;
    is_there = is.is_there;
  }

  pub wrong_sound : (offset : ℕ) → Member offset (wrong_offsets text) → IsWrongAt cut offset
  wrong_sound offset is = last (member_cases offset (attribute_offsets there ++ name_offsets there ++ list_offsets (lists_of there) ++ keyless_offsets (start + length cut.word) (lists_of there).keys) (tail_offsets text (after_blanks cut.tail)) (subst (Member offset) offsets_are is))
    where
      early : Member offset (attribute_offsets there) ⊎ Member offset (name_offsets there) → IsWrongAt cut offset
      early (inl is) = let it = attributes_sound start cut.attributes offset is in inl (record { before = it.before; attribute = it.attribute; is_at = it.is_at; wrong = it.wrong })
      early (inr is) = inr (inl (name_at offset (names_sound start cut.attributes offset is)))

      first : Member offset (attribute_offsets there ++ name_offsets there) ⊎ Member offset (list_offsets (lists_of there)) → IsWrongAt cut offset
      first (inl is) = early (member_cases offset (attribute_offsets there) (name_offsets there) is)
      first (inr is) = inr (inr (inl (item_at offset (lists_sound start cut.attributes offset is))))

      second : Member offset (attribute_offsets there ++ name_offsets there ++ list_offsets (lists_of there)) ⊎ Member offset (keyless_offsets (start + length cut.word) (lists_of there).keys) → IsWrongAt cut offset
      second (inl is) = first (member_cases offset (attribute_offsets there ++ name_offsets there) (list_offsets (lists_of there)) is)
      second (inr is) =
          let it = keyless_sound start cut.attributes (start + length cut.word) offset is in
          inr (inr (inr (inl (record { none = All-from_recursion (λ attribute. IsAbout OfKeys attribute → ⊥) cut.attributes it.0; is_at = it.1 }))))

      last : Member offset (attribute_offsets there ++ name_offsets there ++ list_offsets (lists_of there) ++ keyless_offsets (start + length cut.word) (lists_of there).keys) ⊎ Member offset (tail_offsets text (after_blanks cut.tail)) → IsWrongAt cut offset
      last (inl is) = second (member_cases offset (attribute_offsets there ++ name_offsets there ++ list_offsets (lists_of there)) (keyless_offsets (start + length cut.word) (lists_of there).keys) is)
      last (inr is) = inr (inr (inr (inr (tail_sound offset is))))

  pub wrong_complete : (offset : ℕ) → IsWrongAt cut offset → Member offset (wrong_offsets text)
  wrong_complete offset is = subst (Member offset) (sym offsets_are) (by is)
    where
      before_tail : Member offset (attribute_offsets there ++ name_offsets there ++ list_offsets (lists_of there) ++ keyless_offsets (start + length cut.word) (lists_of there).keys) → Member offset all_offsets
      before_tail member = member_left offset (attribute_offsets there ++ name_offsets there ++ list_offsets (lists_of there) ++ keyless_offsets (start + length cut.word) (lists_of there).keys) (tail_offsets text (after_blanks cut.tail)) member

      before_keys : Member offset (attribute_offsets there ++ name_offsets there ++ list_offsets (lists_of there)) → Member offset all_offsets
      before_keys member = before_tail (member_left offset (attribute_offsets there ++ name_offsets there ++ list_offsets (lists_of there)) (keyless_offsets (start + length cut.word) (lists_of there).keys) member)

      before_lists : Member offset (attribute_offsets there ++ name_offsets there) → Member offset all_offsets
      before_lists member = before_keys (member_left offset (attribute_offsets there ++ name_offsets there) (list_offsets (lists_of there)) member)

      by : IsWrongAt cut offset → Member offset all_offsets
      by (inl is) =
          before_lists (member_left offset (attribute_offsets there) (name_offsets there)
          (attributes_complete start cut.attributes offset (record { before = is.before; attribute = is.attribute; is_at = is.is_at; wrong = is.wrong })))
      by (inr (inl is)) = before_lists (member_right offset (attribute_offsets there) (name_offsets there) (names_complete start cut.attributes offset (at_name offset is)))
      by (inr (inr (inl is))) = before_keys (member_right offset (attribute_offsets there ++ name_offsets there) (list_offsets (lists_of there)) (lists_complete start cut.attributes offset (at_item offset is)))
      by (inr (inr (inr (inl is)))) =
          before_tail (member_right offset (attribute_offsets there ++ name_offsets there ++ list_offsets (lists_of there)) (keyless_offsets (start + length cut.word) (lists_of there).keys)
          (keyless_complete start cut.attributes (start + length cut.word) offset (recursion_from_All (λ attribute. IsAbout OfKeys attribute → ⊥) cut.attributes is.none) is.is_at))
      by (inr (inr (inr (inr is)))) =
          member_right offset (attribute_offsets there ++ name_offsets there ++ list_offsets (lists_of there) ++ keyless_offsets (start + length cut.word) (lists_of there).keys) (tail_offsets text (after_blanks cut.tail)) (tail_complete offset is)
