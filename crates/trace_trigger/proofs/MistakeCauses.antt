-- What is told of an offset is wrong there, as the grammar says.
use Rattle.std.proofs.Common.{◌≡◌, ◌≢◌, ◌⊎◌, inl, inr, refl, ℕ, ◌+◌, Bool, true, false, not, ◌&&◌, nat_lt, ◌==◌, if◌then◌else◌, List, [], ◌∷◌, ◌++◌, length, map, Some, ap, sym, ◌∙◌, subst, arith}
use Rattle.std.proofs.lemmas.Bool.Decides.{eqb_tells}
use Rattle.std.proofs.lemmas.List.{append_assoc}
use Rattle.std.proofs.lemmas.List.Elements.{All-from_recursion}
use Rattle.trace_trigger.specs.Frames.{after_blanks}
use Rattle.trace_trigger.specs.declared.attribute.Attribute.{Attribute}
use Rattle.trace_trigger.specs.declared.attribute.Topic.{Topic}
use Rattle.trace_trigger.specs.declared.attribute.Topic.TheVariants as topic
use Rattle.trace_trigger.specs.declared.fault.HistCause.{HistCause}
use Rattle.trace_trigger.specs.declared.fault.HistCause.TheVariants as cause
use Rattle.trace_trigger.specs.declared.offset.Mistake.{Mistake}
use Rattle.trace_trigger.specs.declared.piece.ListItem.{ListItem}
use Rattle.trace_trigger.specs.HistAttributes.{attribute_of}
use Rattle.trace_trigger.specs.HistParts.{is_condition, offset_in}
use Rattle.trace_trigger.specs.HistLists.{first_about, items_in, lists_of, is_same_topic}
use Rattle.trace_trigger.specs.HistOffsets.{mistakes_in, is_first, is_bad_name, is_wrong_attribute, is_wrong_key, is_wrong_value, is_wrong_sort, attribute_cause, attribute_mistake, attribute_mistakes, name_mistake, name_mistakes, key_mistake, key_mistakes, value_mistake, value_mistakes, sort_mistake, sort_mistakes, keyless_mistakes, tail_mistakes, list_mistakes, mistakes, cause_at, hist_cause}
use Rattle.trace_trigger.specs.HistGrammar.{Subject, OfKeys, OfValues, OfSort, OfSize, OfName, OfAction}
use Rattle.trace_trigger.specs.HistFaultOffsets.{Cut, IsAt, IsAbout, WrongAttribute}
use Rattle.trace_trigger.specs.HistCauses.{IsFirst, IsWrongFor}
use Rattle.trace_trigger.proofs.CutLemmas.{located}
use Rattle.trace_trigger.proofs.HeadLemmas.{topic_in, topic_for}
use Rattle.trace_trigger.proofs.ListLaws.{Member}
use Rattle.trace_trigger.proofs.PartLaws.{start_for}
use Rattle.trace_trigger.proofs.OffsetLemmas.{size, located-push, size_last, member_cases}
use Rattle.trace_trigger.proofs.SubjectLaws.{about_topic, topic_about, unknown_other, wrong_is, located_attributes}
use Rattle.trace_trigger.proofs.WrongNames.{names_sound}
use Rattle.trace_trigger.proofs.FaultLaws.{map-push, FoundList, NoList, items_are, keys_list, values_list, sort_list, key_wrong, value_wrong, sort_wrong}
use Rattle.trace_trigger.proofs.WrongLaws.{keyless_sound, attributes_there, tail_there, end_there, tail_sound}
use Rattle.trace_trigger.proofs.MistakeLaws.{offsets_of, name-offsets, keyless-offsets, tail-offsets}

-- ---- the mistakes of parts

module _ (byte start : ℕ) (wrong : List ListItem → ListItem → Bool) (tell : List ListItem → ListItem → Mistake) where
  pub record IsMistakeThere (parts : List (List ℕ)) (mistake : Mistake) : Type 0 where
    pub before : List (List ℕ)
    pub part : List ℕ
    pub offset : ℕ
    pub is_at : IsAt byte start parts before part offset
    pub wrong_there : wrong (located start before) (record { at = offset; bytes = part }) ≡ true
    pub told : mistake ≡ tell (located start before) (record { at = offset; bytes = part })

  -- those after a part
  abbrev later_than : List (List ℕ) → ℕ → List ℕ → List (List ℕ) → List Mistake
  later_than before at part rest = mistakes_in wrong tell (located start before ++ record { at = at; bytes = part } ∷ []) (located (at + 1 + length part) rest)

  found_after : (before rest : List (List ℕ)) (at : ℕ) (mistake : Mistake) → at ≡ start + size byte before → Member mistake (mistakes_in wrong tell (located start before) (located at rest))
      → IsMistakeThere (before ++ rest) mistake
  found_after before [] at mistake e is = absurd is
  found_after before (part ∷ rest) at mistake e is =
      by (wrong (located start before) (record { at = at; bytes = part })) refl is
      (λ more. subst (λ (parts : List (List ℕ)). IsMistakeThere parts mistake) (append_assoc before (part ∷ []) rest)
      (found_after (before ++ part ∷ []) rest (at + 1 + length part) mistake (omega (arith, e, size_last byte before part))
      (subst (λ (pieces : List ListItem). Member mistake (mistakes_in wrong tell pieces (located (at + 1 + length part) rest))) (sym pushed) more)))
    where
      pushed : located start (before ++ part ∷ []) ≡ located start before ++ record { at = at; bytes = part } ∷ []
      pushed = located-push byte start before part ∙ ap (λ n. located start before ++ record { at = n; bytes = part } ∷ []) (sym e)

      by : (b : Bool) → wrong (located start before) (record { at = at; bytes = part }) ≡ b
          → Member mistake (if b then tell (located start before) (record { at = at; bytes = part }) ∷ later_than before at part rest else later_than before at part rest)
          → (Member mistake (later_than before at part rest) → IsMistakeThere (before ++ part ∷ rest) mistake) → IsMistakeThere (before ++ part ∷ rest) mistake
      by true f (inl same) next = record { before = before; part = part; offset = at; is_at = record { after = rest; cut = refl; is_there = e }; wrong_there = f; told = same }
      by true f (inr more) next = next more
      by false f more next = next more

  pub mistake_there : (parts : List (List ℕ)) (mistake : Mistake) → Member mistake (mistakes_in wrong tell [] (located start parts)) → IsMistakeThere parts mistake
  mistake_there parts mistake is = found_after [] parts start mistake (omega arith) is

first_is : (start : ℕ) (before : List (List ℕ)) → IsFirst (is_first (located start before)) before
first_is start [] = refl
first_is start (item ∷ before) = λ e. cc

-- attributes are judged by their pieces
abbrev judged : List ListItem → ListItem → Bool
judged before piece = is_wrong_attribute (map attribute_of before) (attribute_of piece)

abbrev told_of : List ListItem → ListItem → Mistake
told_of before piece = attribute_mistake (map attribute_of before) (attribute_of piece)

pieces_mistakes : (before pieces : List ListItem) → mistakes_in is_wrong_attribute attribute_mistake (map attribute_of before) (map attribute_of pieces) ≡ mistakes_in judged told_of before pieces
pieces_mistakes before [] = refl
pieces_mistakes before (piece ∷ pieces) =
    by (judged before piece)
    (ap (λ (those : List Attribute). mistakes_in is_wrong_attribute attribute_mistake those (map attribute_of pieces)) (sym (map-push attribute_of before piece)) ∙ pieces_mistakes (before ++ piece ∷ []) pieces)
  where
    by : (b : Bool)
        → mistakes_in is_wrong_attribute attribute_mistake (map attribute_of before ++ attribute_of piece ∷ []) (map attribute_of pieces) ≡ mistakes_in judged told_of (before ++ piece ∷ []) pieces
        → (if b then told_of before piece ∷ mistakes_in is_wrong_attribute attribute_mistake (map attribute_of before ++ attribute_of piece ∷ []) (map attribute_of pieces)
        else mistakes_in is_wrong_attribute attribute_mistake (map attribute_of before ++ attribute_of piece ∷ []) (map attribute_of pieces))
        ≡ (if b then told_of before piece ∷ mistakes_in judged told_of (before ++ piece ∷ []) pieces else mistakes_in judged told_of (before ++ piece ∷ []) pieces)
    by true e = ap (λ (those : List Mistake). told_of before piece ∷ those) e
    by false e = e

-- ---- members

member_offset : (found : List Mistake) (mistake : Mistake) → Member mistake found → Member mistake.at (offsets_of found)
member_offset [] mistake is = absurd is
member_offset (first ∷ found) mistake (inl same) = inl (ap (λ (m : Mistake). m.at) same)
member_offset (first ∷ found) mistake (inr is) = inr (member_offset found mistake is)

-- those of names after others
abbrev names_after : List Attribute → List Attribute → List Mistake
names_after before attributes = mistakes_in (λ before (attribute : Attribute). is_bad_name attribute) name_mistake before attributes

named_so : (before attributes : List Attribute) (mistake : Mistake) → Member mistake (names_after before attributes) → mistake.cause ≡ cause.Name
named_so before [] mistake is = absurd is
named_so before (first ∷ attributes) mistake is = by (is_bad_name first) is (named_so (before ++ first ∷ []) attributes mistake)
  where
    by : (b : Bool) → Member mistake (if b then name_mistake before first ∷ names_after (before ++ first ∷ []) attributes else names_after (before ++ first ∷ []) attributes)
        → (Member mistake (names_after (before ++ first ∷ []) attributes) → mistake.cause ≡ cause.Name) → mistake.cause ≡ cause.Name
    by true (inl same) next = ap (λ (m : Mistake). m.cause) same
    by true (inr more) next = next more
    by false more next = next more

cause_member : (at : ℕ) (why : HistCause) (found : List Mistake) → cause_at at found ≡ Some why → Member (record { at = at; cause = why }) found
cause_member at why [] e = absurd (cc)
cause_member at why (first ∷ found) e = by (first.at == at) (eqb_tells first.at at) refl e (cause_member at why found)
  where
    by : (b : Bool) → ((first.at == at) ≡ true) × (first.at ≡ at) ⊎ (((first.at == at) ≡ false) × (first.at ≢ at)) → (first.at == at) ≡ b
        → (if b then Some first.cause else cause_at at found) ≡ Some why → (cause_at at found ≡ Some why → Member (record { at = at; cause = why }) found)
        → Member (record { at = at; cause = why }) (first ∷ found)
    by true (inl is) f g next = let same : first.cause ≡ why = cc in inl (λ i. record { at = sym is.1 i; cause = sym same i })
    by true (inr is) f g next = let other = is.0 in absurd (cc)
    by false is f g next = inr (next g)

-- ---- a whole text

module _ (text : List ℕ) (cut : Cut text) where
  abbrev begin : ℕ
  begin = start_for cut.removes

  abbrev there : List Attribute
  there = located_attributes (start_for cut.removes) cut.attributes

  abbrev IsRight : Mistake → Type 0
  IsRight mistake = IsWrongFor cut mistake.cause mistake.at

  attribute_for : (offset : ℕ) (is : WrongAttribute cut offset) (t : Topic) → topic_in is.attribute ≡ t → IsWrongFor cut (attribute_cause t) offset
  attribute_for offset is topic.Unknown e = record {
    is = is;
    about = λ subject about.
        let yes : is_same_topic (topic_for subject) (topic_in is.attribute) ≡ true = about_topic subject is.attribute about in
        let no : is_same_topic (topic_for subject) topic.Unknown ≡ false = unknown_other subject topic.Unknown refl in
        let same = ap (is_same_topic (topic_for subject)) e in
        cc;
  }
  attribute_for offset is topic.Size e = record { is = is; about = topic_about OfSize is.attribute (ap (is_same_topic topic.Size) e) }
  attribute_for offset is (topic.Asked action) e = record { is = is; about = topic_about OfAction is.attribute (ap (is_same_topic (topic_for OfAction)) e) }
  attribute_for offset is topic.Keys e = record { is = is; about = inl (topic_about OfKeys is.attribute (ap (is_same_topic topic.Keys) e)) }
  attribute_for offset is topic.Values e = record { is = is; about = inr (inl (topic_about OfValues is.attribute (ap (is_same_topic topic.Values) e))) }
  attribute_for offset is topic.Sort e = record { is = is; about = inr (inr (inl (topic_about OfSort is.attribute (ap (is_same_topic topic.Sort) e)))) }
  attribute_for offset is topic.Name e = record { is = is; about = inr (inr (inr (topic_about OfName is.attribute (ap (is_same_topic topic.Name) e)))) }

  attributes_for : (mistake : Mistake) → Member mistake (attribute_mistakes there) → IsRight mistake
  unfolding attribute_mistakes
  attributes_for mistake is =
      let it = mistake_there 58 (start_for cut.removes) judged told_of cut.attributes mistake (subst (Member mistake) (pieces_mistakes [] (located (start_for cut.removes) cut.attributes)) is) in
      let wrong : WrongAttribute cut it.offset =
      record { before = it.before; attribute = it.part; is_at = it.is_at; wrong = wrong_is it.part (start_for cut.removes) it.offset it.before it.wrong_there } in
      subst IsRight (sym it.told) (attribute_for it.offset wrong (topic_in it.part) refl)

  names_cause : (mistake : Mistake) → Member mistake (name_mistakes there) → mistake.cause ≡ cause.Name
  unfolding name_mistakes
  names_cause mistake is = named_so [] there mistake is

  names_for : (mistake : Mistake) → Member mistake (name_mistakes there) → IsRight mistake
  names_for mistake is =
      let it = names_sound (start_for cut.removes) cut.attributes mistake.at (subst (Member mistake.at) (name-offsets there) (member_offset (name_mistakes there) mistake is)) in
      subst (λ (why : HistCause). IsWrongFor cut why mistake.at) (sym (names_cause mistake is)) (record {
        before = it.before;
        attribute = it.attribute;
        attribute_offset = it.attribute_offset;
        is_at = it.is_at;
        head = it.head;
        value = it.value;
        has = it.has;
        none = it.none;
        is_there = it.is_there;
      })

  -- the items of the first list about something
  items_for : (wrong : List ListItem → ListItem → Bool) (tell : List ListItem → ListItem → Mistake) (subject : Subject) (mistake : Mistake) (list : FoundList (start_for cut.removes) cut.attributes subject)
      → Member mistake (mistakes_in wrong tell [] (items_in (first_about (topic_for subject) there))) → IsMistakeThere 44 (start_for cut.removes + size 58 list.before + length list.head) wrong tell list.items mistake
  items_for wrong tell subject mistake list is =
      let are = items_are (start_for cut.removes) cut.attributes subject list.before list.attribute list.head list.items list.about list.list in
      mistake_there 44 (start_for cut.removes + size 58 list.before + length list.head) wrong tell list.items mistake
      (subst (λ (pieces : List ListItem). Member mistake (mistakes_in wrong tell [] pieces)) are.are is)

  keys_for : (mistake : Mistake) → Member mistake (key_mistakes (lists_of there).keys) → IsRight mistake
  unfolding lists_of key_mistakes
  keys_for mistake is = by (keys_list (start_for cut.removes) cut.attributes)
    where
      by : FoundList (start_for cut.removes) cut.attributes OfKeys ⊎ NoList (start_for cut.removes) cut.attributes OfKeys → IsRight mistake
      by (inl list) =
          let it = items_for is_wrong_key key_mistake OfKeys mistake list is in
          subst IsRight (sym it.told) (record {
            is = record {
              subject = OfKeys;
              attributes_before = list.before;
              attribute = list.attribute;
              head = list.head;
              items = list.items;
              list = list.list;
              before = it.before;
              item = it.part;
              is_at = it.is_at;
              wrong = key_wrong (start_for cut.removes + size 58 list.before + length list.head) it.offset it.before it.part it.wrong_there;
            };
            about = refl;
            first = first_is (start_for cut.removes + size 58 list.before + length list.head) it.before;
          })
      by (inr none) = absurd (subst (λ (pieces : List ListItem). Member mistake (mistakes_in is_wrong_key key_mistake [] pieces)) none.none is)

  values_for : (mistake : Mistake) → Member mistake (value_mistakes (lists_of there).values) → IsRight mistake
  unfolding lists_of value_mistakes
  values_for mistake is = by (values_list (start_for cut.removes) cut.attributes)
    where
      by : FoundList (start_for cut.removes) cut.attributes OfValues ⊎ NoList (start_for cut.removes) cut.attributes OfValues → IsRight mistake
      by (inl list) =
          let it = items_for is_wrong_value value_mistake OfValues mistake list is in
          subst IsRight (sym it.told) (record {
            is = record {
              subject = OfValues;
              attributes_before = list.before;
              attribute = list.attribute;
              head = list.head;
              items = list.items;
              list = list.list;
              before = it.before;
              item = it.part;
              is_at = it.is_at;
              wrong = value_wrong (start_for cut.removes + size 58 list.before + length list.head) it.offset it.before it.part it.wrong_there;
            };
            about = refl;
            first = first_is (start_for cut.removes + size 58 list.before + length list.head) it.before;
          })
      by (inr none) = absurd (subst (λ (pieces : List ListItem). Member mistake (mistakes_in is_wrong_value value_mistake [] pieces)) none.none is)

  sort_for : (mistake : Mistake) → Member mistake (sort_mistakes (lists_of there)) → IsRight mistake
  unfolding lists_of sort_mistakes
  sort_for mistake is = by (sort_list (start_for cut.removes) cut.attributes)
    where
      by : FoundList (start_for cut.removes) cut.attributes OfSort ⊎ NoList (start_for cut.removes) cut.attributes OfSort → IsRight mistake
      by (inl list) =
          let it = items_for (is_wrong_sort (lists_of there)) sort_mistake OfSort mistake list is in
          subst IsRight (sym it.told) (record {
            is = record {
              subject = OfSort;
              attributes_before = list.before;
              attribute = list.attribute;
              head = list.head;
              items = list.items;
              list = list.list;
              before = it.before;
              item = it.part;
              is_at = it.is_at;
              wrong = sort_wrong (start_for cut.removes) cut.attributes (start_for cut.removes + size 58 list.before + length list.head) it.offset it.before it.part it.wrong_there;
            };
            about = refl;
            first = first_is (start_for cut.removes + size 58 list.before + length list.head) it.before;
          })
      by (inr none) = absurd (subst (λ (pieces : List ListItem). Member mistake (mistakes_in (is_wrong_sort (lists_of there)) sort_mistake [] pieces)) none.none is)

  keyless_for : (mistake : Mistake) → Member mistake (keyless_mistakes (start_for cut.removes + length cut.word) (lists_of there).keys) → IsRight mistake
  keyless_for mistake is =
      let it = keyless_sound (start_for cut.removes) cut.attributes (start_for cut.removes + length cut.word) mistake.at
      (subst (Member mistake.at) (keyless-offsets (start_for cut.removes + length cut.word) (lists_of there).keys) (member_offset (keyless_mistakes (start_for cut.removes + length cut.word) (lists_of there).keys) mistake is)) in
      subst (λ (why : HistCause). IsWrongFor cut why mistake.at) (sym (so (lists_of there).keys is))
      (record { none = All-from_recursion (λ attribute. IsAbout OfKeys attribute → ⊥) cut.attributes it.0; is_at = it.1 })
    where
      so : (keys : List ListItem) → Member mistake (keyless_mistakes (start_for cut.removes + length cut.word) keys) → mistake.cause ≡ cause.NoKeys
      so [] (inl same) = ap (λ (m : Mistake). m.cause) same
      so [] (inr never) = absurd never
      so (key ∷ keys) member = absurd member

  tail_for : (mistake : Mistake) → Member mistake (tail_mistakes text (after_blanks cut.tail)) → IsRight mistake
  tail_for mistake is =
      subst (λ (why : HistCause). IsWrongFor cut why mistake.at) (sym (so (nat_lt 0 (length (after_blanks cut.tail)) && not (is_condition (after_blanks cut.tail))) is))
      (tail_sound text cut mistake.at (subst (Member mistake.at) (tail-offsets text (after_blanks cut.tail)) (member_offset (tail_mistakes text (after_blanks cut.tail)) mistake is)))
    where
      so : (b : Bool) → Member mistake (if b then record { at = offset_in text (after_blanks cut.tail); cause = cause.Condition } ∷ [] else []) → mistake.cause ≡ cause.Condition
      so true (inl same) = ap (λ (m : Mistake). m.cause) same
      so true (inr never) = absurd never
      so false never = absurd never

  -- ---- all of it

  abbrev of_word : List Mistake
  of_word = attribute_mistakes there ++ name_mistakes there ++ list_mistakes (lists_of there) ++ keyless_mistakes (start_for cut.removes + length cut.word) (lists_of there).keys

  mistakes_are : mistakes text ≡ of_word ++ tail_mistakes text (after_blanks cut.tail)
  unfolding mistakes
  mistakes_are =
      (λ i. attribute_mistakes (attributes_there text cut i) ++ name_mistakes (attributes_there text cut i) ++ list_mistakes (lists_of (attributes_there text cut i)) ++ keyless_mistakes (end_there text cut i) (lists_of (attributes_there text cut i)).keys
      ++ tail_mistakes text (tail_there text cut i))

  wrong_for : (mistake : Mistake) → Member mistake (mistakes text) → IsRight mistake
  wrong_for mistake is = last (member_cases mistake of_word (tail_mistakes text (after_blanks cut.tail)) (subst (Member mistake) mistakes_are is))
    where
      early : Member mistake (attribute_mistakes there) ⊎ Member mistake (name_mistakes there) → IsRight mistake
      early (inl is) = attributes_for mistake is
      early (inr is) = names_for mistake is

      names : Member mistake (key_mistakes (lists_of there).keys) ⊎ Member mistake (value_mistakes (lists_of there).values) → IsRight mistake
      names (inl is) = keys_for mistake is
      names (inr is) = values_for mistake is

      items : Member mistake (key_mistakes (lists_of there).keys ++ value_mistakes (lists_of there).values) ⊎ Member mistake (sort_mistakes (lists_of there)) → IsRight mistake
      items (inl is) = names (member_cases mistake (key_mistakes (lists_of there).keys) (value_mistakes (lists_of there).values) is)
      items (inr is) = sort_for mistake is

      first : Member mistake (attribute_mistakes there ++ name_mistakes there) ⊎ Member mistake (list_mistakes (lists_of there)) → IsRight mistake
      first (inl is) = early (member_cases mistake (attribute_mistakes there) (name_mistakes there) is)
      first (inr is) = items (member_cases mistake (key_mistakes (lists_of there).keys ++ value_mistakes (lists_of there).values) (sort_mistakes (lists_of there)) is)

      second : Member mistake (attribute_mistakes there ++ name_mistakes there ++ list_mistakes (lists_of there)) ⊎ Member mistake (keyless_mistakes (start_for cut.removes + length cut.word) (lists_of there).keys) → IsRight mistake
      second (inl is) = first (member_cases mistake (attribute_mistakes there ++ name_mistakes there) (list_mistakes (lists_of there)) is)
      second (inr is) = keyless_for mistake is

      last : Member mistake of_word ⊎ Member mistake (tail_mistakes text (after_blanks cut.tail)) → IsRight mistake
      last (inl is) =
          second (member_cases mistake (attribute_mistakes there ++ name_mistakes there ++ list_mistakes (lists_of there)) (keyless_mistakes (start_for cut.removes + length cut.word) (lists_of there).keys) is)
      last (inr is) = tail_for mistake is

  pub cause_is_of_grammar : (at : ℕ) (why : HistCause) → hist_cause text at ≡ Some why → IsWrongFor cut why at
  cause_is_of_grammar at why e = wrong_for (record { at = at; cause = why }) (cause_member at why (mistakes text) e)
