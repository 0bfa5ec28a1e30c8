-- A text says of a trigger what the grammar says that it does.
use Rattle.std.proofs.Common.{◌≡◌, refl, ℕ, Bool, true, false, if◌then◌else◌, List, [], ◌∷◌, ◌++◌, map, Option, Some, None, Result, Ok, Err, ap, sym, ◌∙◌, subst}
use Rattle.std.specs.List.{AllZip, AllPass}
use Rattle.trace_format.specs.Definitions.{Definition}
use Rattle.trace_format.specs.declared.operand.Operand.{Operand}
use Rattle.trace_filter.specs.Filters.{Parsed}
use Rattle.trace_lex.proofs.Lists.{BeginsNot}
use Rattle.trace_trigger.specs.Frames.{is_unblank, after_blanks, filter_of}
use Rattle.trace_trigger.specs.declared.fault.TriggerFault.{TriggerFault}
use Rattle.trace_format.specs.declared.key.Key.{Key}
use Rattle.trace_trigger.specs.declared.attribute.Attribute.{Attribute}
use Rattle.trace_trigger.specs.HistAttributes.{attributes_at}
use Rattle.trace_trigger.specs.HistPieces.{pieces_of}
use Rattle.trace_trigger.specs.HistParts.{attributes_of, end_of, tail_of, condition_of}
use Rattle.trace_trigger.specs.HistLists.{Lists, lists_of, names_of, summed_items, sort_keys}
use Rattle.trace_trigger.specs.declared.offset.Mistake.{Mistake}
use Rattle.trace_trigger.specs.HistOffsets.{mistakes, leftmost}
use Rattle.trace_trigger.specs.private.MistakeOffsets.{attribute_offsets, name_offsets, key_offsets, value_offsets, sort_offsets, list_offsets, keyless_offsets, tail_offsets, wrong_offsets, earlier, least}
use Rattle.trace_trigger.specs.TriggerAnswers.{◌>>=◌}
use Rattle.trace_trigger.specs.HistMeanings.{is_too_many, excess, few, each, key_in, value_source, size_of, sort_rule}
use Rattle.trace_trigger.specs.HistSpecs.{SpecSeen, key_names}
use Rattle.trace_trigger.specs.HistTexts.{unless_wrong, read_of, spec_from}
use Rattle.trace_trigger.specs.HistGrammar.{Setting, AreLawful, IsWritten}
use Rattle.trace_trigger.proofs.CutLemmas.{found_is_cut}
use Rattle.trace_trigger.proofs.AttributeLaws.{IsRead}
use Rattle.trace_trigger.proofs.RightLaws.{AreAllRight, all_right}
use Rattle.trace_trigger.proofs.LawfulLaws.{setting_of, all_read, settings_lawful}
use Rattle.trace_trigger.proofs.PartLaws.{text_of, start_for, attributes_are, tail_is, HasParts, tail_stops, tail_found, tail_written, written_passes, attributes_read, attributes_written}
use Rattle.trace_trigger.proofs.MistakeLaws.{none_leftmost, none_least}
use Rattle.trace_trigger.proofs.MeaningLaws.{bound}

-- ---- what is found in a text that is written so

pub record Finds (text : List ℕ) (settings : List Setting) (condition : Option (List ℕ)) : Type 0 where
  pub read : AllZip IsRead (attributes_of text) settings
  pub lawful : AreLawful settings
  pub found : condition_of (tail_of text) ≡ condition
  pub none : wrong_offsets text ≡ []

none_wrong : (text : List ℕ) → AreAllRight (attributes_of text) (end_of text) → tail_offsets text (tail_of text) ≡ [] → wrong_offsets text ≡ []
unfolding wrong_offsets
none_wrong text right tail = (λ i. right.attributes i ++ right.names i ++ (right.keys i ++ right.values i ++ right.sort i) ++ right.keyed i ++ tail i)

pub written_finds : (text : List ℕ) (settings : List Setting) (condition : Option (List ℕ)) → IsWritten text settings condition → Finds text settings condition
written_finds text settings condition is = subst (λ (t : List ℕ). Finds t settings condition) (sym is.cut) found
  where
    passes : AllPass is_unblank is.word
    passes = written_passes is.word is.attributes settings is.parts is.each

    stops : BeginsNot is_unblank is.tail
    stops = tail_stops is.tail condition is.conditional

    read : AllZip IsRead (attributes_of (text_of is.removes is.word is.tail)) settings
    read = subst (λ (attributes : List Attribute). AllZip IsRead attributes settings) (sym (attributes_are is.removes is.word is.tail passes stops)) (attributes_read (start_for is.removes) is.word is.attributes settings is.parts is.each)

    found : Finds (text_of is.removes is.word is.tail) settings condition
    found =
        let tail = tail_found is.tail condition is.conditional in
        let tail_same = tail_is is.removes is.word is.tail passes stops in
        record {
          read = read;
          lawful = is.lawful;
          found = ap condition_of tail_same ∙ tail.found;
          none = none_wrong (text_of is.removes is.word is.tail)
              (all_right (attributes_of (text_of is.removes is.word is.tail)) settings read is.lawful (end_of (text_of is.removes is.word is.tail)))
              (ap (tail_offsets (text_of is.removes is.word is.tail)) tail_same ∙ tail.right (text_of is.removes is.word is.tail));
        }

-- ---- a text with nothing wrong is written so

both_nil : {X : Type 0} (xs ys : List X) → xs ++ ys ≡ [] → (xs ≡ []) × (ys ≡ [])
both_nil [] ys e = (refl, e)
both_nil (x ∷ xs) ys e = absurd (cc)

pub record IsRight (text : List ℕ) : Type 0 where
  pub attributes : AreAllRight (attributes_of text) (end_of text)
  pub tail : tail_offsets text (tail_of text) ≡ []

pub right_parts : (text : List ℕ) → wrong_offsets text ≡ [] → IsRight text
unfolding wrong_offsets
right_parts text none =
    let lists : Lists = lists_of (attributes_of text) in
    let end : List ℕ = keyless_offsets (end_of text) lists.keys in
    let first = both_nil (attribute_offsets (attributes_of text) ++ name_offsets (attributes_of text) ++ list_offsets lists ++ end) (tail_offsets text (tail_of text)) none in
    let second = both_nil (attribute_offsets (attributes_of text) ++ name_offsets (attributes_of text) ++ list_offsets lists) end first.0 in
    let third = both_nil (attribute_offsets (attributes_of text) ++ name_offsets (attributes_of text)) (list_offsets lists) second.0 in
    let fourth = both_nil (attribute_offsets (attributes_of text)) (name_offsets (attributes_of text)) third.0 in
    let items = both_nil (key_offsets lists.keys ++ value_offsets lists.values) (sort_offsets lists) third.1 in
    let more = both_nil (key_offsets lists.keys) (value_offsets lists.values) items.0 in
    record { attributes = record { attributes = fourth.0; names = fourth.1; keys = more.0; values = more.1; sort = items.1; keyed = second.1 }; tail = first.1 }

pub record IsSomehowWritten (text : List ℕ) : Type 0 where
  pub settings : List Setting
  pub condition : Option (List ℕ)
  pub written : IsWritten text settings condition

pub right_written : (text : List ℕ) → HasParts text → wrong_offsets text ≡ [] → IsSomehowWritten text
right_written text parts none = subst IsSomehowWritten (sym parts.cut) (whole (right_parts (text_of parts.removes parts.word parts.tail) (sym (ap wrong_offsets parts.cut) ∙ none)))
  where
    whole : IsRight (text_of parts.removes parts.word parts.tail) → IsSomehowWritten (text_of parts.removes parts.word parts.tail)
    whole right =
        let text : List ℕ = text_of parts.removes parts.word parts.tail in
        let start : ℕ = start_for parts.removes in
        let same = attributes_are parts.removes parts.word parts.tail parts.passes parts.stops in
        let tail_same = tail_is parts.removes parts.word parts.tail parts.passes parts.stops in
        let settings : List Setting = map setting_of (attributes_of text) in
        let read : AllZip IsRead (attributes_of text) settings = all_read (attributes_of text) (end_of text) right.attributes in
        let there : AllZip IsRead (attributes_at start parts.word) settings = subst (λ (attributes : List Attribute). AllZip IsRead attributes settings) same read in
        record {
          settings = settings;
          condition = condition_of (after_blanks parts.tail);
          written = record {
            removes = parts.removes;
            word = parts.word;
            tail = parts.tail;
            attributes = names_of (pieces_of 58 start parts.word);
            cut = refl;
            parts = found_is_cut 58 start parts.word;
            each = attributes_written start parts.word settings there;
            lawful = settings_lawful (attributes_of text) (end_of text) right.attributes;
            conditional = tail_written text parts.tail parts.stops (sym (ap (tail_offsets text) tail_same) ∙ right.tail);
          };
        }

-- ---- what is read

pub read_right : (text : List ℕ) → wrong_offsets text ≡ [] → read_of text ≡ Ok (lists_of (attributes_of text))
unfolding read_of
read_right text none = ap (λ (found : Option Mistake). unless_wrong found (lists_of (attributes_of text))) (none_leftmost text (ap least none))

no_least : (offsets : List ℕ) → least offsets ≡ None → offsets ≡ []
no_least [] e = refl
no_least (offset ∷ offsets) e = by (least offsets) e
  where
    by : (rest : Option ℕ) → earlier (Some offset) rest ≡ None → offset ∷ offsets ≡ []
    by None f = absurd (cc)
    by (Some other) f = absurd (cc)

pub read_wrong : (text : List ℕ) (lists : Lists) → read_of text ≡ Ok lists → wrong_offsets text ≡ []
unfolding read_of
read_wrong text lists e = by (leftmost (mistakes text)) refl e
  where
    by : (found : Option Mistake) → leftmost (mistakes text) ≡ found → unless_wrong found (lists_of (attributes_of text)) ≡ Ok lists → wrong_offsets text ≡ []
    by None f g = no_least (wrong_offsets text) (none_least text f)
    by (Some mistake) f g = absurd (cc)

-- ---- what a text says, step by step

pub record IsSaid (definition : Definition) (text : List ℕ) (lists : Lists) (spec : SpecSeen) : Type 0 where
  pub few : is_too_many lists ≡ false
  pub name : lists.name ≡ spec.name
  pub keys : each (key_in definition.fields) lists.keys ≡ Ok spec.keys
  pub value_sources : each (value_source definition.fields) (summed_items lists.values) ≡ Ok spec.value_sources
  pub size : size_of lists.size ≡ Ok spec.size
  pub filter : filter_of definition text (condition_of (tail_of text)) ≡ Ok spec.filter
  pub values : names_of (summed_items lists.values) ≡ spec.values
  pub sort : sort_keys lists.sort ≡ spec.sort
  pub action : lists.action ≡ spec.action
  pub sort_sources : map (sort_rule (key_names spec.keys) (names_of (summed_items lists.values))) (sort_keys lists.sort) ≡ spec.sort_sources

module _ (definition : Definition) (text : List ℕ) (lists : Lists) where
  abbrev spec_of_lists : List Key → List Operand → ℕ → Option Parsed → SpecSeen
  spec_of_lists keys values size only_if = record {
    name = lists.name;
    keys = keys;
    values = names_of (summed_items lists.values);
    sort = sort_keys lists.sort;
    size = size;
    action = lists.action;
    filter = only_if;
    value_sources = values;
    sort_sources = map (sort_rule (key_names keys) (names_of (summed_items lists.values))) (sort_keys lists.sort);
  }

  few_lists : (spec : SpecSeen) → (few lists >>= λ ls. spec_from definition text ls) ≡ Ok spec → (is_too_many lists ≡ false) × (spec_from definition text lists ≡ Ok spec)
  few_lists spec e = by (is_too_many lists) refl e
    where
      by : (b : Bool) → is_too_many lists ≡ b → ((if b then Err (excess lists) else Ok lists) >>= λ ls. spec_from definition text ls) ≡ Ok spec → (is_too_many lists ≡ false) × (spec_from definition text lists ≡ Ok spec)
      by true f g = absurd (cc)
      by false f g = (f, g)

  pub said : (spec : SpecSeen) → (few lists >>= λ ls. spec_from definition text ls) ≡ Ok spec → IsSaid definition text lists spec
  unfolding spec_from
  said spec e =
      let fewer = few_lists spec e in
      let keys = bound (each (key_in definition.fields) lists.keys)
      (λ keys. each (value_source definition.fields) (summed_items lists.values) >>= λ values. size_of lists.size >>= λ size.
      filter_of definition text (condition_of (tail_of text)) >>= λ only_if. Ok (spec_of_lists keys values size only_if)) spec fewer.1 in
      let values = bound (each (value_source definition.fields) (summed_items lists.values))
      (λ values. size_of lists.size >>= λ size. filter_of definition text (condition_of (tail_of text)) >>= λ only_if. Ok (spec_of_lists keys.found values size only_if)) spec keys.after in
      let size = bound (size_of lists.size) (λ size. filter_of definition text (condition_of (tail_of text)) >>= λ only_if. Ok (spec_of_lists keys.found values.found size only_if)) spec values.after in
      let only_if = bound (filter_of definition text (condition_of (tail_of text))) (λ only_if. Ok (spec_of_lists keys.found values.found size.found only_if)) spec size.after in
      let it : spec_of_lists keys.found values.found size.found only_if.found ≡ spec = let f = only_if.after in cc in
      subst (IsSaid definition text lists) it (record {
        few = fewer.0;
        name = refl;
        keys = keys.is;
        value_sources = values.is;
        size = size.is;
        filter = only_if.is;
        values = refl;
        sort = refl;
        action = refl;
        sort_sources = refl;
      })

  pub saying : (spec : SpecSeen) → IsSaid definition text lists spec → (few lists >>= λ ls. spec_from definition text ls) ≡ Ok spec
  unfolding spec_from
  saying spec is =
      ap (λ (b : Bool). (if b then Err (excess lists) else Ok lists) >>= λ ls. spec_from definition text ls) is.few
      ∙ ap (λ (r : Result (List Key) TriggerFault). r >>= λ keys. each (value_source definition.fields) (summed_items lists.values) >>= λ values. size_of lists.size >>= λ size.
      filter_of definition text (condition_of (tail_of text)) >>= λ only_if. Ok (spec_of_lists keys values size only_if)) is.keys
      ∙ ap (λ (r : Result (List Operand) TriggerFault). r >>= λ values. size_of lists.size >>= λ size.
      filter_of definition text (condition_of (tail_of text)) >>= λ only_if. Ok (spec_of_lists spec.keys values size only_if)) is.value_sources
      ∙ ap (λ (r : Result ℕ TriggerFault). r >>= λ size. filter_of definition text (condition_of (tail_of text)) >>= λ only_if. Ok (spec_of_lists spec.keys spec.value_sources size only_if)) is.size
      ∙ ap (λ (r : Result (Option Parsed) TriggerFault). r >>= λ only_if. Ok (spec_of_lists spec.keys spec.value_sources spec.size only_if)) is.filter
      ∙ (λ i. Ok (record {
        name = is.name i;
        keys = spec.keys;
        values = is.values i;
        sort = is.sort i;
        size = spec.size;
        action = is.action i;
        filter = spec.filter;
        value_sources = spec.value_sources;
        sort_sources = is.sort_sources i;
      }))
