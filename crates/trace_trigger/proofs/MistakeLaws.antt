-- The leftmost mistake is at the least of the offsets that are wrong, and its cause is what is told there.
use Rattle.std.proofs.Common.{◌≡◌, ◌≢◌, ◌⊎◌, inl, inr, refl, ℕ, ◌+◌, ◌<◌, min, Bool, true, false, not, ◌&&◌, nat_lt, ◌==◌, if◌then◌else◌, List, [], ◌∷◌, ◌++◌, length, map, Option, Some, None, ap, sym, ◌∙◌, subst, arith, ltb-true, ltb-false}
use Rattle.std.specs.Prelude.{option_map}
use Rattle.std.proofs.lemmas.Bool.Decides.{eqb_tells}
use Rattle.std.proofs.lemmas.List.{map-append}
use Rattle.trace_trigger.specs.declared.attribute.Attribute.{Attribute}
use Rattle.trace_trigger.specs.declared.piece.ListItem.{ListItem}
use Rattle.trace_trigger.specs.declared.fault.HistCause.{HistCause}
use Rattle.trace_trigger.specs.declared.fault.HistCause.TheVariants as cause
use Rattle.trace_trigger.specs.declared.offset.Mistake.{Mistake}
use Rattle.trace_trigger.specs.HistParts.{attributes_of, end_of, tail_of, is_condition, offset_in}
use Rattle.trace_trigger.specs.HistLists.{Lists, lists_of}
use Rattle.trace_trigger.specs.HistOffsets.{mistakes_in, attribute_mistake, attribute_mistakes, name_mistake, name_mistakes, key_mistake, key_mistakes, value_mistake, value_mistakes, sort_mistake, sort_mistakes, keyless_mistakes, tail_mistakes, list_mistakes, mistakes, further_left, leftmost, cause_at, hist_cause, is_wrong_attribute, is_bad_name, is_wrong_key, is_wrong_value, is_wrong_sort}
use Rattle.trace_trigger.specs.private.MistakeOffsets.{wrong_after, attribute_offsets, name_offsets, key_offsets, value_offsets, sort_offsets, keyless_offsets, tail_offsets, list_offsets, wrong_offsets, earlier, least}

-- ---- offsets

abbrev pub offsets_of : List Mistake → List ℕ
offsets_of found = map (λ (mistake : Mistake). mistake.at) found

module _ {X : Type 0} (is_wrong : List X → X → Bool) (mistake : List X → X → Mistake) (offset : X → ℕ) (same : (before : List X) (x : X) → (mistake before x).at ≡ offset x) where
  offsets-in : (before xs : List X) → offsets_of (mistakes_in is_wrong mistake before xs) ≡ map offset (wrong_after is_wrong before xs)
  offsets-in before [] = refl
  offsets-in before (x ∷ xs) = by (is_wrong before x) (offsets-in (before ++ x ∷ []) xs)
    where
      by : (b : Bool) → offsets_of (mistakes_in is_wrong mistake (before ++ x ∷ []) xs) ≡ map offset (wrong_after is_wrong (before ++ x ∷ []) xs)
          → offsets_of (if b then mistake before x ∷ mistakes_in is_wrong mistake (before ++ x ∷ []) xs else mistakes_in is_wrong mistake (before ++ x ∷ []) xs)
          ≡ map offset (if b then x ∷ wrong_after is_wrong (before ++ x ∷ []) xs else wrong_after is_wrong (before ++ x ∷ []) xs)
      by true e = λ i. same before x i ∷ e i
      by false e = e

attribute-offsets : (attributes : List Attribute) → offsets_of (attribute_mistakes attributes) ≡ attribute_offsets attributes
unfolding attribute_mistakes attribute_offsets
attribute-offsets attributes = offsets-in is_wrong_attribute attribute_mistake (λ (attribute : Attribute). attribute.at) (λ before x. refl) [] attributes

pub name-offsets : (attributes : List Attribute) → offsets_of (name_mistakes attributes) ≡ name_offsets attributes
unfolding name_mistakes name_offsets
name-offsets attributes = offsets-in (λ before (attribute : Attribute). is_bad_name attribute) name_mistake (λ (attribute : Attribute). attribute.at + attribute.skip) (λ before x. refl) [] attributes

key-offsets : (keys : List ListItem) → offsets_of (key_mistakes keys) ≡ key_offsets keys
unfolding key_mistakes key_offsets
key-offsets keys = offsets-in is_wrong_key key_mistake (λ (item : ListItem). item.at) (λ before x. refl) [] keys

value-offsets : (values : List ListItem) → offsets_of (value_mistakes values) ≡ value_offsets values
unfolding value_mistakes value_offsets
value-offsets values = offsets-in is_wrong_value value_mistake (λ (item : ListItem). item.at) (λ before x. refl) [] values

sort-offsets : (lists : Lists) → offsets_of (sort_mistakes lists) ≡ sort_offsets lists
unfolding sort_mistakes sort_offsets
sort-offsets lists = offsets-in (is_wrong_sort lists) sort_mistake (λ (item : ListItem). item.at) (λ before x. refl) [] lists.sort

pub keyless-offsets : (end : ℕ) (keys : List ListItem) → offsets_of (keyless_mistakes end keys) ≡ keyless_offsets end keys
keyless-offsets end [] = refl
keyless-offsets end (key ∷ keys) = refl

pub tail-offsets : (text tail : List ℕ) → offsets_of (tail_mistakes text tail) ≡ tail_offsets text tail
tail-offsets text tail = by (nat_lt 0 (length tail) && not (is_condition tail))
  where
    by : (b : Bool) → offsets_of (if b then record { at = offset_in text tail; cause = cause.Condition } ∷ [] else []) ≡ (if b then offset_in text tail ∷ [] else [])
    by true = refl
    by false = refl

both-offsets : (one other : List Mistake) (ones others : List ℕ) → offsets_of one ≡ ones → offsets_of other ≡ others → offsets_of (one ++ other) ≡ ones ++ others
both-offsets one other ones others e f = map-append (λ (mistake : Mistake). mistake.at) one other ∙ (λ i. e i ++ f i)

list-offsets : (lists : Lists) → offsets_of (list_mistakes lists) ≡ list_offsets lists
list-offsets lists =
    both-offsets (key_mistakes lists.keys ++ value_mistakes lists.values) (sort_mistakes lists) _ _
    (both-offsets (key_mistakes lists.keys) (value_mistakes lists.values) _ _ (key-offsets lists.keys) (value-offsets lists.values)) (sort-offsets lists)

pub mistakes-offsets : (text : List ℕ) → offsets_of (mistakes text) ≡ wrong_offsets text
unfolding mistakes wrong_offsets
mistakes-offsets text =
    let attributes = attributes_of text in
    let lists = lists_of (attributes_of text) in
    both-offsets (attribute_mistakes attributes ++ name_mistakes attributes ++ list_mistakes lists ++ keyless_mistakes (end_of text) lists.keys) (tail_mistakes text (tail_of text)) _ _
    (both-offsets (attribute_mistakes attributes ++ name_mistakes attributes ++ list_mistakes lists) (keyless_mistakes (end_of text) lists.keys) _ _
    (both-offsets (attribute_mistakes attributes ++ name_mistakes attributes) (list_mistakes lists) _ _
    (both-offsets (attribute_mistakes attributes) (name_mistakes attributes) _ _ (attribute-offsets attributes) (name-offsets attributes))
    (list-offsets lists)) (keyless-offsets (end_of text) lists.keys)) (tail-offsets text (tail_of text))

-- ---- the leftmost

abbrev pub offset_of : Option Mistake → Option ℕ
offset_of found = option_map (λ (mistake : Mistake). mistake.at) found

further-offset : (left right : Option Mistake) → offset_of (further_left left right) ≡ earlier (offset_of left) (offset_of right)
further-offset None right = refl
further-offset (Some left) None = refl
further-offset (Some left) (Some right) = by (nat_lt right.at left.at) refl
  where
    by : (b : Bool) → nat_lt right.at left.at ≡ b → offset_of (if b then Some right else Some left) ≡ Some (min left.at right.at)
    by true e = let less = ltb-true right.at left.at e in let same : right.at ≡ min left.at right.at = omega (arith, less) in ap Some same
    by false e = let more = ltb-false right.at left.at e in let same : left.at ≡ min left.at right.at = omega (arith, more) in ap Some same

pub leftmost-offset : (found : List Mistake) → offset_of (leftmost found) ≡ least (offsets_of found)
leftmost-offset [] = refl
leftmost-offset (mistake ∷ found) = further-offset (Some mistake) (leftmost found) ∙ ap (earlier (Some mistake.at)) (leftmost-offset found)

-- and what is told at its offset is its cause
told_here : (first : Mistake) (found : List Mistake) → cause_at first.at (first ∷ found) ≡ Some first.cause
told_here first found = ap (λ (b : Bool). if b then Some first.cause else cause_at first.at found) (by (eqb_tells first.at first.at))
  where
    by : ((first.at == first.at) ≡ true) × (first.at ≡ first.at) ⊎ (((first.at == first.at) ≡ false) × (first.at ≢ first.at)) → (first.at == first.at) ≡ true
    by (inl is) = is.0
    by (inr is) = absurd (is.1 refl)

pub leftmost-cause : (found : List Mistake) (mistake : Mistake) → leftmost found ≡ Some mistake → cause_at mistake.at found ≡ Some mistake.cause
leftmost-cause [] mistake e = absurd (cc)
leftmost-cause (first ∷ found) mistake e = by (leftmost found) e (leftmost-cause found)
  where
    here : first ≡ mistake → cause_at mistake.at (first ∷ found) ≡ Some mistake.cause
    here same = let P : Mistake → Type 0 = λ m. cause_at m.at (first ∷ found) ≡ Some m.cause in subst P same (told_here first found)

    apart : mistake.at < first.at → ((first.at == mistake.at) ≡ true) × (first.at ≡ mistake.at) ⊎ (((first.at == mistake.at) ≡ false) × (first.at ≢ mistake.at)) → (first.at == mistake.at) ≡ false
    apart less (inl is) = absurd (omega (arith, less, is.1))
    apart less (inr is) = is.0

    by : (next : Option Mistake) → further_left (Some first) next ≡ Some mistake → ((other : Mistake) → next ≡ Some other → cause_at other.at found ≡ Some other.cause) → cause_at mistake.at (first ∷ found) ≡ Some mistake.cause
    by None f told = let same : first ≡ mistake = cc in here same
    by (Some next) f told = of (nat_lt next.at first.at) refl f
      where
        of : (b : Bool) → nat_lt next.at first.at ≡ b → (if b then Some next else Some first) ≡ Some mistake → cause_at mistake.at (first ∷ found) ≡ Some mistake.cause
        of true g h =
            let same : next ≡ mistake = cc in
            let less = ltb-true next.at first.at g in
            let there : next.at ≡ mistake.at = ap (λ (m : Mistake). m.at) same in
            ap (λ (b : Bool). if b then Some first.cause else cause_at mistake.at found) (apart (omega (arith, less, there)) (eqb_tells first.at mistake.at)) ∙ told mistake (ap Some same)
        of false g h = let same : first ≡ mistake = cc in here same

module _ (text : List ℕ) where
  pub none_leftmost : least (wrong_offsets text) ≡ None → leftmost (mistakes text) ≡ None
  none_leftmost e = by (leftmost (mistakes text)) (leftmost-offset (mistakes text) ∙ ap least (mistakes-offsets text) ∙ e)
    where
      by : (found : Option Mistake) → offset_of found ≡ None → found ≡ None
      by None f = refl
      by (Some mistake) f = absurd (cc)

  pub none_least : leftmost (mistakes text) ≡ None → least (wrong_offsets text) ≡ None
  none_least e = sym (leftmost-offset (mistakes text) ∙ ap least (mistakes-offsets text)) ∙ ap offset_of e

  pub leftmost_least : (mistake : Mistake) → leftmost (mistakes text) ≡ Some mistake → least (wrong_offsets text) ≡ Some mistake.at
  leftmost_least mistake e = sym (leftmost-offset (mistakes text) ∙ ap least (mistakes-offsets text)) ∙ ap offset_of e

  -- the mistake at the least offset
  pub record IsTold (at : ℕ) : Type 0 where
    pub cause : HistCause
    pub is : leftmost (mistakes text) ≡ Some (record { at = at; cause = cause })
    pub told : hist_cause text at ≡ Some cause

  pub least_leftmost : (at : ℕ) → least (wrong_offsets text) ≡ Some at → IsTold at
  least_leftmost at e = by (leftmost (mistakes text)) refl (leftmost-offset (mistakes text) ∙ ap least (mistakes-offsets text) ∙ e)
    where
      by : (found : Option Mistake) → leftmost (mistakes text) ≡ found → offset_of found ≡ Some at → IsTold at
      by None f g = absurd (cc)
      by (Some mistake) f g =
          let same : mistake.at ≡ at = cc in
          let whole : mistake ≡ record { at = at; cause = mistake.cause } = λ i. record { at = same i; cause = mistake.cause } in
          record { cause = mistake.cause; is = f ∙ ap Some whole; told = (λ i. hist_cause text (sym same i)) ∙ leftmost-cause (mistakes text) mistake f }
