-- The offsets of names that are none are found.
use Rattle.std.proofs.Common.{◌≡◌, inl, inr, refl, ℕ, ◌+◌, Bool, true, false, not, if◌then◌else◌, List, [], ◌∷◌, ◌++◌, length, take, map, ap, sym, ◌∙◌, subst, arith}
use Rattle.std.proofs.lemmas.Bool.{and_parts, and_from, not-true, not_from_false}
use Rattle.trace_lex.specs.Names.{is_name}
use Rattle.trace_trigger.specs.declared.attribute.Topic.TheVariants as topic
use Rattle.trace_trigger.specs.declared.attribute.Attribute.{Attribute}
use Rattle.trace_trigger.specs.HistAttributes.{head_len, attribute_of}
use Rattle.trace_trigger.specs.HistLists.{is_same_topic}
use Rattle.trace_trigger.specs.HistOffsets.{is_bad_name}
use Rattle.trace_trigger.specs.private.MistakeOffsets.{wrong_after, name_offsets}
use Rattle.trace_trigger.specs.HistGrammar.{OfName, HasValue}
use Rattle.trace_trigger.specs.HistFaultOffsets.{IsAt}
use Rattle.trace_trigger.proofs.HeadLemmas.{topic_in, value_in, value_read, read_value}
use Rattle.trace_trigger.proofs.ListLaws.{Member}
use Rattle.trace_trigger.proofs.OffsetLemmas.{size, size_first}
use Rattle.trace_trigger.proofs.SubjectLaws.{is_naming, located_attributes}

pub record WrongNameAt (start : ℕ) (parts : List (List ℕ)) (offset : ℕ) : Type 0 where
  pub before : List (List ℕ)
  pub attribute : List ℕ
  pub attribute_offset : ℕ
  pub is_at : IsAt 58 start parts before attribute attribute_offset
  pub head : List ℕ
  pub value : List ℕ
  pub has : HasValue OfName attribute head value
  pub none : is_name value ≡ false
  pub is_there : offset ≡ attribute_offset + length head

abbrev located_at : ℕ → List ℕ → Attribute
located_at at part = attribute_of (record { at = at; bytes = part })

abbrev offsets_of : List Attribute → List ℕ
offsets_of attributes = map (λ (a : Attribute). a.at + a.skip) attributes

-- those that are found after others
abbrev found_after : List Attribute → List Attribute → List ℕ
found_after before attributes = offsets_of (wrong_after (λ _ (a : Attribute). is_bad_name a) before attributes)

-- those after an attribute
abbrev rest_after : List Attribute → ℕ → List ℕ → List (List ℕ) → List Attribute
rest_after before start part parts = wrong_after (λ _ (a : Attribute). is_bad_name a) (before ++ located_at start part ∷ []) (located_attributes (start + 1 + length part) parts)

-- ---- one attribute

bad_name : (at : ℕ) (part : List ℕ) → is_bad_name (located_at at part) ≡ true → (topic_in part ≡ topic.Name) × (is_name (value_in part) ≡ false)
bad_name at part e =
    let both = and_parts (is_same_topic topic.Name (topic_in part)) (not (is_name (value_in part))) e in
    (is_naming (topic_in part) both.0, not-true (is_name (value_in part)) both.1)

name_bad : (at : ℕ) (part head value : List ℕ) → HasValue OfName part head value → is_name value ≡ false → is_bad_name (located_at at part) ≡ true
name_bad at part head value has none =
    let read = value_read OfName part head value has in
    and_from (is_same_topic topic.Name (topic_in part)) (not (is_name (value_in part))) (ap (is_same_topic topic.Name) read.topic)
    (not_from_false (is_name (value_in part)) (ap is_name read.found ∙ none))

here : (start : ℕ) (part : List ℕ) (parts : List (List ℕ)) (offset : ℕ) → is_bad_name (located_at start part) ≡ true → offset ≡ start + head_len part → WrongNameAt start (part ∷ parts) offset
here start part parts offset e same =
    let is = bad_name start part e in
    let has = read_value OfName part is.0 in
    record {
      before = [];
      attribute = part;
      attribute_offset = start;
      is_at = record { after = parts; cut = refl; is_there = omega arith };
      head = take (head_len part) part;
      value = value_in part;
      has = has;
      none = is.1;
      is_there = same ∙ ap (λ n. start + n) (value_read OfName part (take (head_len part) part) (value_in part) has).skip;
    }

-- ---- all of them

later : (start : ℕ) (part : List ℕ) (parts : List (List ℕ)) (offset : ℕ) → WrongNameAt (start + 1 + length part) parts offset → WrongNameAt start (part ∷ parts) offset
later start part parts offset is = record {
  before = part ∷ is.before;
  attribute = is.attribute;
  attribute_offset = is.attribute_offset;
  is_at = record {
    after = is.is_at.after;
    cut = ap (λ (others : List (List ℕ)). part ∷ others) is.is_at.cut;
    is_there = omega (arith, is.is_at.is_there, size_first 58 part is.before);
  };
  head = is.head;
  value = is.value;
  has = is.has;
  none = is.none;
  is_there = is.is_there;
}

sound_after : (before : List Attribute) (start : ℕ) (parts : List (List ℕ)) (offset : ℕ) → Member offset (found_after before (located_attributes start parts)) → WrongNameAt start parts offset
sound_after before start [] offset is = absurd is
sound_after before start (part ∷ parts) offset is =
    by (is_bad_name (located_at start part)) refl is
    (λ is. later start part parts offset (sound_after (before ++ located_at start part ∷ []) (start + 1 + length part) parts offset is))
  where
    by : (b : Bool) → is_bad_name (located_at start part) ≡ b → Member offset (offsets_of (if b then located_at start part ∷ rest_after before start part parts else rest_after before start part parts))
        → (Member offset (offsets_of (rest_after before start part parts)) → WrongNameAt start (part ∷ parts) offset) → WrongNameAt start (part ∷ parts) offset
    by true e (inl same) next = here start part parts offset e same
    by true e (inr is) next = next is
    by false e is next = next is

complete_after : (before : List Attribute) (start : ℕ) (first : List (List ℕ)) (attribute head value : List ℕ) (after : List (List ℕ)) (offset : ℕ)
    → HasValue OfName attribute head value → is_name value ≡ false → offset ≡ start + size 58 first + length head
    → Member offset (found_after before (located_attributes start (first ++ attribute ∷ after)))
complete_after before start [] attribute head value after offset has none same = by (is_bad_name (located_at start attribute)) (name_bad start attribute head value has none)
  where
    by : (b : Bool) → b ≡ true → Member offset (offsets_of (if b then located_at start attribute ∷ rest_after before start attribute after else rest_after before start attribute after))
    by true e = inl (omega (arith, same, (value_read OfName attribute head value has).skip))
    by false e = absurd (cc)
complete_after before start (other ∷ first) attribute head value after offset has none same =
    by (is_bad_name (located_at start other))
    (complete_after (before ++ located_at start other ∷ []) (start + 1 + length other) first attribute head value after offset has none (omega (arith, same, size_first 58 other first)))
  where
    by : (b : Bool) → Member offset (offsets_of (rest_after before start other (first ++ attribute ∷ after))) → Member offset (offsets_of (if b then located_at start other ∷ rest_after before start other (first ++ attribute ∷ after) else rest_after before start other (first ++ attribute ∷ after)))
    by true is = inr is
    by false is = is

module _ (start : ℕ) (parts : List (List ℕ)) where
  pub names_sound : (offset : ℕ) → Member offset (name_offsets (located_attributes start parts)) → WrongNameAt start parts offset
  unfolding name_offsets
  names_sound offset is = sound_after [] start parts offset is

  pub names_complete : (offset : ℕ) → WrongNameAt start parts offset → Member offset (name_offsets (located_attributes start parts))
  unfolding name_offsets
  names_complete offset is =
      subst (λ (those : List (List ℕ)). Member offset (found_after [] (located_attributes start those))) (sym is.is_at.cut)
      (complete_after [] start is.before is.attribute is.head is.value is.is_at.after offset is.has is.none (is.is_there ∙ ap (λ n. n + length is.head) is.is_at.is_there))
