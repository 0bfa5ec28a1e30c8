-- What an attribute is about, by its topic and by how it begins.
use Rattle.std.proofs.Common.{◌≡◌, ◌⊎◌, inl, inr, refl, ℕ, ◌+◌, Bool, true, false, ◌||◌, List, [], ◌∷◌, ◌++◌, length, take, map, Option, Some, None, ap, sym, ◌∙◌, arith, cond}
use Rattle.std.specs.List.{AllByRecursion, Any, list_any}
use Rattle.std.specs.Option.{is_none}
use Rattle.std.proofs.lemmas.Bool.{or_cases, or_left, or_right, and_parts, and_from, false_from_ne_true}
use Rattle.trace_lex.specs.Decimals.{decimal_number}
use Rattle.trace_trigger.specs.declared.spec.Action.{Action}
use Rattle.trace_trigger.specs.declared.spec.Action.TheVariants.{Attach}
use Rattle.trace_trigger.specs.declared.attribute.Topic.{Topic}
use Rattle.trace_trigger.specs.declared.attribute.Topic.TheVariants as topic
use Rattle.trace_trigger.specs.declared.attribute.Attribute.{Attribute}
use Rattle.trace_trigger.specs.HistAttributes.{head_len, attribute_of}
use Rattle.trace_trigger.specs.HistLists.{is_same_topic, first_about}
use Rattle.trace_trigger.specs.HistOffsets.{is_unknown, is_repeated, is_bad_size, is_wrong_attribute}
use Rattle.trace_trigger.specs.HistGrammar.{Subject, OfKeys, OfValues, OfSort, OfSize, OfName, OfAction}
use Rattle.trace_trigger.specs.HistFaultOffsets.{IsAbout, IsUnknown, IsNoSize, IsRepeated}
use Rattle.trace_trigger.proofs.CutLemmas.{located}
use Rattle.trace_trigger.proofs.HeadLemmas.{topic_in, value_in, topic_for, value_read, action_read, read_value, read_action}
use Rattle.trace_trigger.proofs.ListLaws.{Member, member_from, from_member}
use Rattle.trace_trigger.proofs.OffsetLemmas.{size, size_first}

-- ---- topics

pub is_keys : (t : Topic) → is_same_topic topic.Keys t ≡ true → t ≡ topic.Keys
is_keys topic.Keys e = refl
is_keys topic.Values e = absurd (cc)
is_keys topic.Sort e = absurd (cc)
is_keys topic.Size e = absurd (cc)
is_keys topic.Name e = absurd (cc)
is_keys (topic.Asked action) e = absurd (cc)
is_keys topic.Unknown e = absurd (cc)

pub is_values : (t : Topic) → is_same_topic topic.Values t ≡ true → t ≡ topic.Values
is_values topic.Keys e = absurd (cc)
is_values topic.Values e = refl
is_values topic.Sort e = absurd (cc)
is_values topic.Size e = absurd (cc)
is_values topic.Name e = absurd (cc)
is_values (topic.Asked action) e = absurd (cc)
is_values topic.Unknown e = absurd (cc)

pub is_sort : (t : Topic) → is_same_topic topic.Sort t ≡ true → t ≡ topic.Sort
is_sort topic.Keys e = absurd (cc)
is_sort topic.Values e = absurd (cc)
is_sort topic.Sort e = refl
is_sort topic.Size e = absurd (cc)
is_sort topic.Name e = absurd (cc)
is_sort (topic.Asked action) e = absurd (cc)
is_sort topic.Unknown e = absurd (cc)

pub is_size : (t : Topic) → is_same_topic topic.Size t ≡ true → t ≡ topic.Size
is_size topic.Keys e = absurd (cc)
is_size topic.Values e = absurd (cc)
is_size topic.Sort e = absurd (cc)
is_size topic.Size e = refl
is_size topic.Name e = absurd (cc)
is_size (topic.Asked action) e = absurd (cc)
is_size topic.Unknown e = absurd (cc)

pub is_naming : (t : Topic) → is_same_topic topic.Name t ≡ true → t ≡ topic.Name
is_naming topic.Keys e = absurd (cc)
is_naming topic.Values e = absurd (cc)
is_naming topic.Sort e = absurd (cc)
is_naming topic.Size e = absurd (cc)
is_naming topic.Name e = refl
is_naming (topic.Asked action) e = absurd (cc)
is_naming topic.Unknown e = absurd (cc)

is_asked : (t : Topic) → is_same_topic (topic.Asked Attach) t ≡ true → (action : Action) × (t ≡ topic.Asked action)
is_asked topic.Keys e = absurd (cc)
is_asked topic.Values e = absurd (cc)
is_asked topic.Sort e = absurd (cc)
is_asked topic.Size e = absurd (cc)
is_asked topic.Name e = absurd (cc)
is_asked (topic.Asked action) e = (action, refl)
is_asked topic.Unknown e = absurd (cc)

-- what two attributes of one topic are about
both_about : (s t : Topic) → is_same_topic s t ≡ true → (subject : Subject) × (is_same_topic (topic_for subject) s ≡ true) × (is_same_topic (topic_for subject) t ≡ true)
both_about topic.Keys topic.Keys e = (OfKeys, refl, refl)
both_about topic.Keys topic.Values e = absurd (cc)
both_about topic.Keys topic.Sort e = absurd (cc)
both_about topic.Keys topic.Size e = absurd (cc)
both_about topic.Keys topic.Name e = absurd (cc)
both_about topic.Keys (topic.Asked other) e = absurd (cc)
both_about topic.Keys topic.Unknown e = absurd (cc)
both_about topic.Values topic.Keys e = absurd (cc)
both_about topic.Values topic.Values e = (OfValues, refl, refl)
both_about topic.Values topic.Sort e = absurd (cc)
both_about topic.Values topic.Size e = absurd (cc)
both_about topic.Values topic.Name e = absurd (cc)
both_about topic.Values (topic.Asked other) e = absurd (cc)
both_about topic.Values topic.Unknown e = absurd (cc)
both_about topic.Sort topic.Keys e = absurd (cc)
both_about topic.Sort topic.Values e = absurd (cc)
both_about topic.Sort topic.Sort e = (OfSort, refl, refl)
both_about topic.Sort topic.Size e = absurd (cc)
both_about topic.Sort topic.Name e = absurd (cc)
both_about topic.Sort (topic.Asked other) e = absurd (cc)
both_about topic.Sort topic.Unknown e = absurd (cc)
both_about topic.Size topic.Keys e = absurd (cc)
both_about topic.Size topic.Values e = absurd (cc)
both_about topic.Size topic.Sort e = absurd (cc)
both_about topic.Size topic.Size e = (OfSize, refl, refl)
both_about topic.Size topic.Name e = absurd (cc)
both_about topic.Size (topic.Asked other) e = absurd (cc)
both_about topic.Size topic.Unknown e = absurd (cc)
both_about topic.Name topic.Keys e = absurd (cc)
both_about topic.Name topic.Values e = absurd (cc)
both_about topic.Name topic.Sort e = absurd (cc)
both_about topic.Name topic.Size e = absurd (cc)
both_about topic.Name topic.Name e = (OfName, refl, refl)
both_about topic.Name (topic.Asked other) e = absurd (cc)
both_about topic.Name topic.Unknown e = absurd (cc)
both_about (topic.Asked one) topic.Keys e = absurd (cc)
both_about (topic.Asked one) topic.Values e = absurd (cc)
both_about (topic.Asked one) topic.Sort e = absurd (cc)
both_about (topic.Asked one) topic.Size e = absurd (cc)
both_about (topic.Asked one) topic.Name e = absurd (cc)
both_about (topic.Asked one) (topic.Asked other) e = (OfAction, refl, refl)
both_about (topic.Asked one) topic.Unknown e = absurd (cc)
both_about topic.Unknown topic.Keys e = absurd (cc)
both_about topic.Unknown topic.Values e = absurd (cc)
both_about topic.Unknown topic.Sort e = absurd (cc)
both_about topic.Unknown topic.Size e = absurd (cc)
both_about topic.Unknown topic.Name e = absurd (cc)
both_about topic.Unknown (topic.Asked other) e = absurd (cc)
both_about topic.Unknown topic.Unknown e = absurd (cc)

about_both : (subject : Subject) (s t : Topic) → is_same_topic (topic_for subject) s ≡ true → is_same_topic (topic_for subject) t ≡ true → is_same_topic s t ≡ true
about_both OfKeys s t e f = (λ i. is_same_topic (is_keys s e i) (is_keys t f i))
about_both OfValues s t e f = (λ i. is_same_topic (is_values s e i) (is_values t f i))
about_both OfSort s t e f = (λ i. is_same_topic (is_sort s e i) (is_sort t f i))
about_both OfSize s t e f = (λ i. is_same_topic (is_size s e i) (is_size t f i))
about_both OfName s t e f = (λ i. is_same_topic (is_naming s e i) (is_naming t f i))
about_both OfAction s t e f = (λ i. is_same_topic ((is_asked s e).1 i) ((is_asked t f).1 i))

pub unknown_other : (subject : Subject) (t : Topic) → is_unknown t ≡ true → is_same_topic (topic_for subject) t ≡ false
unknown_other OfKeys topic.Unknown e = refl
unknown_other OfKeys topic.Keys e = absurd (cc)
unknown_other OfKeys topic.Values e = absurd (cc)
unknown_other OfKeys topic.Sort e = absurd (cc)
unknown_other OfKeys topic.Size e = absurd (cc)
unknown_other OfKeys topic.Name e = absurd (cc)
unknown_other OfKeys (topic.Asked action) e = absurd (cc)
unknown_other OfValues topic.Unknown e = refl
unknown_other OfValues topic.Keys e = absurd (cc)
unknown_other OfValues topic.Values e = absurd (cc)
unknown_other OfValues topic.Sort e = absurd (cc)
unknown_other OfValues topic.Size e = absurd (cc)
unknown_other OfValues topic.Name e = absurd (cc)
unknown_other OfValues (topic.Asked action) e = absurd (cc)
unknown_other OfSort topic.Unknown e = refl
unknown_other OfSort topic.Keys e = absurd (cc)
unknown_other OfSort topic.Values e = absurd (cc)
unknown_other OfSort topic.Sort e = absurd (cc)
unknown_other OfSort topic.Size e = absurd (cc)
unknown_other OfSort topic.Name e = absurd (cc)
unknown_other OfSort (topic.Asked action) e = absurd (cc)
unknown_other OfSize topic.Unknown e = refl
unknown_other OfSize topic.Keys e = absurd (cc)
unknown_other OfSize topic.Values e = absurd (cc)
unknown_other OfSize topic.Sort e = absurd (cc)
unknown_other OfSize topic.Size e = absurd (cc)
unknown_other OfSize topic.Name e = absurd (cc)
unknown_other OfSize (topic.Asked action) e = absurd (cc)
unknown_other OfName topic.Unknown e = refl
unknown_other OfName topic.Keys e = absurd (cc)
unknown_other OfName topic.Values e = absurd (cc)
unknown_other OfName topic.Sort e = absurd (cc)
unknown_other OfName topic.Size e = absurd (cc)
unknown_other OfName topic.Name e = absurd (cc)
unknown_other OfName (topic.Asked action) e = absurd (cc)
unknown_other OfAction topic.Unknown e = refl
unknown_other OfAction topic.Keys e = absurd (cc)
unknown_other OfAction topic.Values e = absurd (cc)
unknown_other OfAction topic.Sort e = absurd (cc)
unknown_other OfAction topic.Size e = absurd (cc)
unknown_other OfAction topic.Name e = absurd (cc)
unknown_other OfAction (topic.Asked action) e = absurd (cc)

some_subject : (t : Topic) → is_unknown t ≡ false → (subject : Subject) × (is_same_topic (topic_for subject) t ≡ true)
some_subject topic.Keys e = (OfKeys, refl)
some_subject topic.Values e = (OfValues, refl)
some_subject topic.Sort e = (OfSort, refl)
some_subject topic.Size e = (OfSize, refl)
some_subject topic.Name e = (OfName, refl)
some_subject (topic.Asked action) e = (OfAction, refl)
some_subject topic.Unknown e = absurd (cc)

-- ---- attributes

pub about_topic : (subject : Subject) (attribute : List ℕ) → IsAbout subject attribute → is_same_topic (topic_for subject) (topic_in attribute) ≡ true
about_topic OfKeys attribute is = ap (is_same_topic topic.Keys) (value_read OfKeys attribute is.0 is.1 is.2).topic
about_topic OfValues attribute is = ap (is_same_topic topic.Values) (value_read OfValues attribute is.0 is.1 is.2).topic
about_topic OfSort attribute is = ap (is_same_topic topic.Sort) (value_read OfSort attribute is.0 is.1 is.2).topic
about_topic OfSize attribute is = ap (is_same_topic topic.Size) (value_read OfSize attribute is.0 is.1 is.2).topic
about_topic OfName attribute is = ap (is_same_topic topic.Name) (value_read OfName attribute is.0 is.1 is.2).topic
about_topic OfAction attribute is = ap (is_same_topic (topic.Asked Attach)) (action_read is.0 attribute is.1)

pub topic_about : (subject : Subject) (attribute : List ℕ) → is_same_topic (topic_for subject) (topic_in attribute) ≡ true → IsAbout subject attribute
topic_about OfKeys attribute e = (take (head_len attribute) attribute, value_in attribute, read_value OfKeys attribute (is_keys (topic_in attribute) e))
topic_about OfValues attribute e = (take (head_len attribute) attribute, value_in attribute, read_value OfValues attribute (is_values (topic_in attribute) e))
topic_about OfSort attribute e = (take (head_len attribute) attribute, value_in attribute, read_value OfSort attribute (is_sort (topic_in attribute) e))
topic_about OfSize attribute e = (take (head_len attribute) attribute, value_in attribute, read_value OfSize attribute (is_size (topic_in attribute) e))
topic_about OfName attribute e = (take (head_len attribute) attribute, value_in attribute, read_value OfName attribute (is_naming (topic_in attribute) e))
topic_about OfAction attribute e = let asked = is_asked (topic_in attribute) e in (asked.0, read_action asked.0 attribute asked.1)

-- ---- some element

pub record HasSome {X : Type 0} (P : X → Type 0) (xs : List X) : Type 0 where
  pub element : X
  pub member : Member element xs
  pub holds : P element

pub any_some : {X : Type 0} (P : X → Type 0) (xs : List X) → Any P xs → HasSome P xs
any_some P xs is = record { element = is.1; member = member_from is.1 xs (is.0, is.2, is.3); holds = is.4 }

pub some_any : {X : Type 0} (P : X → Type 0) (xs : List X) → HasSome P xs → Any P xs
some_any P xs is = let there = from_member is.element xs is.member in (there.0, is.element, there.1, there.2, is.holds)

-- ---- wrong attributes

module _ (attribute : List ℕ) where
  abbrev SameTopic : List ℕ → Type 0
  SameTopic other = is_same_topic (topic_in other) (topic_in attribute) ≡ true

  among : (start : ℕ) (before : List (List ℕ)) → list_any (λ (other : Attribute). is_same_topic other.topic (topic_in attribute)) (map attribute_of (located start before)) ≡ true → HasSome SameTopic before
  among start [] e = absurd (cc)
  among start (other ∷ before) e =
      by (or_cases (is_same_topic (topic_in other) (topic_in attribute)) (list_any (λ (a : Attribute). is_same_topic a.topic (topic_in attribute)) (map attribute_of (located (start + 1 + length other) before))) e)
      (among (start + 1 + length other) before)
    where
      by : (is_same_topic (topic_in other) (topic_in attribute) ≡ true) ⊎ (list_any (λ (a : Attribute). is_same_topic a.topic (topic_in attribute)) (map attribute_of (located (start + 1 + length other) before)) ≡ true)
          → (list_any (λ (a : Attribute). is_same_topic a.topic (topic_in attribute)) (map attribute_of (located (start + 1 + length other) before)) ≡ true → HasSome SameTopic before) → HasSome SameTopic (other ∷ before)
      by (inl f) next = record { element = other; member = inl refl; holds = f }
      by (inr f) next = let rest = next f in record { element = rest.element; member = inr rest.member; holds = rest.holds }

  to_any : (start : ℕ) (before : List (List ℕ)) (other : List ℕ) → Member other before → SameTopic other
      → list_any (λ (a : Attribute). is_same_topic a.topic (topic_in attribute)) (map attribute_of (located start before)) ≡ true
  to_any start [] other is same = absurd is
  to_any start (first ∷ before) other (inl e) same =
      or_left (is_same_topic (topic_in first) (topic_in attribute)) (list_any (λ (a : Attribute). is_same_topic a.topic (topic_in attribute)) (map attribute_of (located (start + 1 + length first) before)))
      (ap (λ (w : List ℕ). is_same_topic (topic_in w) (topic_in attribute)) (sym e) ∙ same)
  to_any start (first ∷ before) other (inr is) same =
      or_right (is_same_topic (topic_in first) (topic_in attribute)) (list_any (λ (a : Attribute). is_same_topic a.topic (topic_in attribute)) (map attribute_of (located (start + 1 + length first) before)))
      (to_any (start + 1 + length first) before other is same)

  abbrev pub IsWrong : List (List ℕ) → Type 0
  IsWrong before = IsUnknown attribute ⊎ (IsRepeated before attribute ⊎ IsNoSize attribute)

  repeated : (before : List (List ℕ)) → HasSome SameTopic before → IsRepeated before attribute
  repeated before is =
      let it = both_about (topic_in is.element) (topic_in attribute) is.holds in
      record {
        subject = it.0;
        about = topic_about it.0 attribute it.2;
        other = some_any (IsAbout it.0) before (record { element = is.element; member = is.member; holds = topic_about it.0 is.element it.1 });
      }

  abbrev located_at : ℕ → Attribute
  located_at offset = attribute_of (record { at = offset; bytes = attribute })

  unknown_is : is_unknown (topic_in attribute) ≡ true → IsUnknown attribute
  unknown_is e = λ subject about. let yes_it_is = about_topic subject attribute about in let other = unknown_other subject (topic_in attribute) e in cc

  no_size_is : (offset : ℕ) → is_bad_size (located_at offset) ≡ true → IsNoSize attribute
  no_size_is offset e =
      let parts = and_parts (is_same_topic topic.Size (topic_in attribute)) (is_none (decimal_number (value_in attribute))) e in
      record { head = take (head_len attribute) attribute; value = value_in attribute; has = read_value OfSize attribute (is_size (topic_in attribute) parts.0); none = none_is (decimal_number (value_in attribute)) parts.1 }
    where
      none_is : (o : Option ℕ) → is_none o ≡ true → o ≡ None
      none_is None e = refl
      none_is (Some n) e = absurd (cc)

  pub wrong_is : (start offset : ℕ) (before : List (List ℕ)) → is_wrong_attribute (map attribute_of (located start before)) (located_at offset) ≡ true → IsWrong before
  wrong_is start offset before e = by (or_cases (is_unknown (topic_in attribute) || is_repeated (map attribute_of (located start before)) (located_at offset)) (is_bad_size (located_at offset)) e)
    where
      first : (is_unknown (topic_in attribute) ≡ true) ⊎ (is_repeated (map attribute_of (located start before)) (located_at offset) ≡ true) → IsWrong before
      first (inl f) = inl (unknown_is f)
      first (inr f) = inr (inl (repeated before (among start before f)))

      by : ((is_unknown (topic_in attribute) || is_repeated (map attribute_of (located start before)) (located_at offset)) ≡ true) ⊎ (is_bad_size (located_at offset) ≡ true) → IsWrong before
      by (inl f) = first (or_cases (is_unknown (topic_in attribute)) (is_repeated (map attribute_of (located start before)) (located_at offset)) f)
      by (inr f) = inr (inr (no_size_is offset f))

  is_unknown_so : IsUnknown attribute → is_unknown (topic_in attribute) ≡ true
  is_unknown_so none = by (is_unknown (topic_in attribute)) refl
    where
      by : (b : Bool) → is_unknown (topic_in attribute) ≡ b → is_unknown (topic_in attribute) ≡ true
      by true e = e
      by false e = let it = some_subject (topic_in attribute) e in absurd (none it.0 (topic_about it.0 attribute it.1))

  is_repeated_so : (start offset : ℕ) (before : List (List ℕ)) → IsRepeated before attribute → is_repeated (map attribute_of (located start before)) (located_at offset) ≡ true
  is_repeated_so start offset before is =
      let other = any_some (IsAbout is.subject) before is.other in
      let same : SameTopic other.element = about_both is.subject (topic_in other.element) (topic_in attribute) (about_topic is.subject other.element other.holds) (about_topic is.subject attribute is.about) in
      to_any start before other.element other.member same

  is_no_size_so : (offset : ℕ) → IsNoSize attribute → is_bad_size (located_at offset) ≡ true
  is_no_size_so offset is =
      let read = value_read OfSize attribute is.head is.value is.has in
      and_from (is_same_topic topic.Size (topic_in attribute)) (is_none (decimal_number (value_in attribute))) (ap (is_same_topic topic.Size) read.topic)
      (ap (λ (v : List ℕ). is_none (decimal_number v)) read.found ∙ ap is_none is.none)

  pub is_wrong : (start offset : ℕ) (before : List (List ℕ)) → IsWrong before → is_wrong_attribute (map attribute_of (located start before)) (located_at offset) ≡ true
  is_wrong start offset before (inl is) =
      or_left (is_unknown (topic_in attribute) || is_repeated (map attribute_of (located start before)) (located_at offset)) (is_bad_size (located_at offset))
      (or_left (is_unknown (topic_in attribute)) (is_repeated (map attribute_of (located start before)) (located_at offset)) (is_unknown_so is))
  is_wrong start offset before (inr (inl is)) =
      or_left (is_unknown (topic_in attribute) || is_repeated (map attribute_of (located start before)) (located_at offset)) (is_bad_size (located_at offset))
      (or_right (is_unknown (topic_in attribute)) (is_repeated (map attribute_of (located start before)) (located_at offset)) (is_repeated_so start offset before is))
  is_wrong start offset before (inr (inr is)) =
      or_right (is_unknown (topic_in attribute) || is_repeated (map attribute_of (located start before)) (located_at offset)) (is_bad_size (located_at offset)) (is_no_size_so offset is)

-- ---- the first attribute about something

abbrev pub located_attributes : ℕ → List (List ℕ) → List Attribute
located_attributes start parts = map attribute_of (located start parts)

pub record FirstIs (subject : Subject) (start : ℕ) (parts : List (List ℕ)) : Type 0 where
  pub before : List (List ℕ)
  pub attribute : List ℕ
  pub after : List (List ℕ)
  pub cut : parts ≡ before ++ attribute ∷ after
  pub others : AllByRecursion (λ other. IsAbout subject other → ⊥) before
  pub about : IsAbout subject attribute
  pub first : first_about (topic_for subject) (located_attributes start parts) ≡ Some (attribute_of (record { at = start + size 58 before; bytes = attribute }))

pub record FirstIsNone (subject : Subject) (start : ℕ) (parts : List (List ℕ)) : Type 0 where
  pub others : AllByRecursion (λ other. IsAbout subject other → ⊥) parts
  pub first : first_about (topic_for subject) (located_attributes start parts) ≡ None

not_about : (subject : Subject) (attribute : List ℕ) → is_same_topic (topic_for subject) (topic_in attribute) ≡ false → IsAbout subject attribute → ⊥
not_about subject attribute e about = let f = about_topic subject attribute about in cc

module _ (subject : Subject) where
  pub first_at : (start : ℕ) (before : List (List ℕ)) (attribute : List ℕ) (after : List (List ℕ)) → AllByRecursion (λ other. IsAbout subject other → ⊥) before → IsAbout subject attribute
      → first_about (topic_for subject) (located_attributes start (before ++ attribute ∷ after)) ≡ Some (attribute_of (record { at = start + size 58 before; bytes = attribute }))
  first_at start [] attribute after others about =
      let here : start ≡ start + size 58 [] = omega arith in
      ap (λ b. cond b (Some (attribute_of (record { at = start; bytes = attribute }))) (first_about (topic_for subject) (located_attributes (start + 1 + length attribute) after))) (about_topic subject attribute about)
      ∙ ap (λ n. Some (attribute_of (record { at = n; bytes = attribute }))) here
  first_at start (other ∷ before) attribute after others about =
      let no : is_same_topic (topic_for subject) (topic_in other) ≡ false = false_from_ne_true (is_same_topic (topic_for subject) (topic_in other)) (λ same. others.0 (topic_about subject other same)) in
      let there : start + 1 + length other + size 58 before ≡ start + size 58 (other ∷ before) = omega (arith, size_first 58 other before) in
      ap (λ b. cond b (Some (attribute_of (record { at = start; bytes = other }))) (first_about (topic_for subject) (located_attributes (start + 1 + length other) (before ++ attribute ∷ after)))) no
      ∙ first_at (start + 1 + length other) before attribute after others.1 about
      ∙ ap (λ n. Some (attribute_of (record { at = n; bytes = attribute }))) there

  none_at : (start : ℕ) (parts : List (List ℕ)) → AllByRecursion (λ other. IsAbout subject other → ⊥) parts → first_about (topic_for subject) (located_attributes start parts) ≡ None
  none_at start [] others = refl
  none_at start (other ∷ parts) others =
      let no : is_same_topic (topic_for subject) (topic_in other) ≡ false = false_from_ne_true (is_same_topic (topic_for subject) (topic_in other)) (λ same. others.0 (topic_about subject other same)) in
      ap (λ b. cond b (Some (attribute_of (record { at = start; bytes = other }))) (first_about (topic_for subject) (located_attributes (start + 1 + length other) parts))) no
      ∙ none_at (start + 1 + length other) parts others.1

  record Split (parts : List (List ℕ)) : Type 0 where
    before : List (List ℕ)
    attribute : List ℕ
    after : List (List ℕ)
    cut : parts ≡ before ++ attribute ∷ after
    others : AllByRecursion (λ other. IsAbout subject other → ⊥) before
    about : IsAbout subject attribute

  split : (parts : List (List ℕ)) → Split parts ⊎ AllByRecursion (λ other. IsAbout subject other → ⊥) parts
  split [] = inr tt
  split (part ∷ parts) = by (is_same_topic (topic_for subject) (topic_in part)) refl (split parts)
    where
      by : (b : Bool) → is_same_topic (topic_for subject) (topic_in part) ≡ b → Split parts ⊎ AllByRecursion (λ other. IsAbout subject other → ⊥) parts
          → Split (part ∷ parts) ⊎ AllByRecursion (λ other. IsAbout subject other → ⊥) (part ∷ parts)
      by true e rest = inl (record { before = []; attribute = part; after = parts; cut = refl; others = tt; about = topic_about subject part e })
      by false e (inl is) = inl (record { before = part ∷ is.before; attribute = is.attribute; after = is.after; cut = ap (λ (ps : List (List ℕ)). part ∷ ps) is.cut; others = (not_about subject part e, is.others); about = is.about })
      by false e (inr none) = inr (not_about subject part e, none)

  pub first_or_none : (start : ℕ) (parts : List (List ℕ)) → FirstIs subject start parts ⊎ FirstIsNone subject start parts
  first_or_none start parts = by (split parts)
    where
      by : Split parts ⊎ AllByRecursion (λ other. IsAbout subject other → ⊥) parts → FirstIs subject start parts ⊎ FirstIsNone subject start parts
      by (inl is) = inl (record {
        before = is.before;
        attribute = is.attribute;
        after = is.after;
        cut = is.cut;
        others = is.others;
        about = is.about;
        first = ap (λ (ps : List (List ℕ)). first_about (topic_for subject) (located_attributes start ps)) is.cut ∙ first_at start is.before is.attribute is.after is.others is.about;
      })
      by (inr none) = inr (record { others = none; first = none_at start parts none })
