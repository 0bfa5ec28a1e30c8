-- How an attribute begins is what it is about.
use Rattle.std.proofs.Common.{◌≡◌, ◌⊎◌, inl, inr, refl, ℕ, suc, ◌+◌, ◌<◌, Bool, true, false, not, ◌||◌, ◌==◌, nat_lt, if◌then◌else◌, cond, bytes_eq, codes, List, [], ◌∷◌, ◌++◌, length, take, drop, ap, sym, ◌∙◌, subst, arith, lt-ltb, ltb-true}
use Rattle.std.specs.List.{prefix_len, list_any}
use Rattle.std.proofs.Math.Seq.{take-append_seam, drop-append_seam}
use Rattle.std.proofs.lemmas.Bool.{or_cases, ltb-false}
use Rattle.std.proofs.lemmas.List.{take-append-drop}
use Rattle.std.proofs.lemmas.List.Sums.{prefix_len-le-length}
use Rattle.std.proofs.lemmas.Slice.Eq.{bytes_eq-Decides}
use Rattle.trace_lex.specs.Prefixes.{is_not}
use Rattle.trace_trigger.specs.declared.spec.Action.{Action}
use Rattle.trace_trigger.specs.declared.spec.Action.TheVariants.{Attach, Pause, Continue, Clear}
use Rattle.trace_trigger.specs.declared.attribute.Topic.{Topic}
use Rattle.trace_trigger.specs.declared.attribute.Topic.TheVariants as topic
use Rattle.trace_trigger.specs.HistAttributes.{head_len, asked_by, is_values, topic_of}
use Rattle.trace_trigger.specs.HistGrammar.{Subject, OfKeys, OfValues, OfSort, OfSize, OfName, OfAction, IsHead, HasValue, IsWordFor}

abbrev pub topic_in : List ℕ → Topic
topic_in attribute = topic_of (take (head_len attribute) attribute)

abbrev pub value_in : List ℕ → List ℕ
value_in attribute = drop (head_len attribute) attribute

-- ---- what begins so is about this

head_is : (attribute : List ℕ) (n : ℕ) → prefix_len (is_not 61) attribute ≡ n → n < length attribute → head_len attribute ≡ n + 1
head_is attribute n run more =
    let test : nat_lt (prefix_len (is_not 61) attribute) (length attribute) ≡ true = lt-ltb (prefix_len (is_not 61) attribute) (length attribute) (omega (arith, run, more)) in
    ap (λ b. if b then prefix_len (is_not 61) attribute + 1 else prefix_len (is_not 61) attribute) test ∙ ap (λ m. m + 1) run

-- the topic of an attribute that has a value
abbrev pub topic_for : Subject → Topic
topic_for OfKeys = topic.Keys
topic_for OfValues = topic.Values
topic_for OfSort = topic.Sort
topic_for OfSize = topic.Size
topic_for OfName = topic.Name
topic_for OfAction = topic.Asked Attach

-- how long each head is
known_head : (subject : Subject) (head value : List ℕ) → IsHead subject head → head_len (head ++ value) ≡ length head
known_head OfKeys head value (inl e) = ap (λ (h : List ℕ). head_len (h ++ value)) e ∙ head_is (codes "keys=" ++ value) 4 refl (omega arith) ∙ ap length (sym e)
known_head OfKeys head value (inr e) = ap (λ (h : List ℕ). head_len (h ++ value)) e ∙ head_is (codes "key=" ++ value) 3 refl (omega arith) ∙ ap length (sym e)
known_head OfValues head value (inl e) = ap (λ (h : List ℕ). head_len (h ++ value)) e ∙ head_is (codes "values=" ++ value) 6 refl (omega arith) ∙ ap length (sym e)
known_head OfValues head value (inr (inl e)) = ap (λ (h : List ℕ). head_len (h ++ value)) e ∙ head_is (codes "vals=" ++ value) 4 refl (omega arith) ∙ ap length (sym e)
known_head OfValues head value (inr (inr e)) = ap (λ (h : List ℕ). head_len (h ++ value)) e ∙ head_is (codes "val=" ++ value) 3 refl (omega arith) ∙ ap length (sym e)
known_head OfSort head value e = ap (λ (h : List ℕ). head_len (h ++ value)) e ∙ head_is (codes "sort=" ++ value) 4 refl (omega arith) ∙ ap length (sym e)
known_head OfSize head value e = ap (λ (h : List ℕ). head_len (h ++ value)) e ∙ head_is (codes "size=" ++ value) 4 refl (omega arith) ∙ ap length (sym e)
known_head OfName head value e = ap (λ (h : List ℕ). head_len (h ++ value)) e ∙ head_is (codes "name=" ++ value) 4 refl (omega arith) ∙ ap length (sym e)
known_head OfAction head value e = absurd e

known_topic : (subject : Subject) (head : List ℕ) → IsHead subject head → topic_of head ≡ topic_for subject
known_topic OfKeys head (inl e) = ap topic_of e
known_topic OfKeys head (inr e) = ap topic_of e
known_topic OfValues head (inl e) = ap topic_of e
known_topic OfValues head (inr (inl e)) = ap topic_of e
known_topic OfValues head (inr (inr e)) = ap topic_of e
known_topic OfSort head e = ap topic_of e
known_topic OfSize head e = ap topic_of e
known_topic OfName head e = ap topic_of e
known_topic OfAction head e = absurd e

pub record IsValueRead (subject : Subject) (attribute head value : List ℕ) : Type 0 where
  pub skip : head_len attribute ≡ length head
  pub topic : topic_in attribute ≡ topic_for subject
  pub found : value_in attribute ≡ value

pub value_read : (subject : Subject) (attribute head value : List ℕ) → HasValue subject attribute head value → IsValueRead subject attribute head value
value_read subject attribute head value has =
    let skip : head_len attribute ≡ length head = ap head_len has.cut ∙ known_head subject head value has.begins in
    let first : take (head_len attribute) attribute ≡ head = (λ i. take (skip i) (has.cut i)) ∙ take-append_seam head value in
    let rest : drop (head_len attribute) attribute ≡ value = (λ i. drop (skip i) (has.cut i)) ∙ drop-append_seam head value in
    record { skip = skip; topic = ap topic_of first ∙ known_topic subject head has.begins; found = rest }

pub action_read : (action : Action) (attribute : List ℕ) → IsWordFor action attribute → topic_in attribute ≡ topic.Asked action
action_read Attach attribute e = absurd e
action_read Pause attribute e = ap topic_in e
action_read Continue attribute (inl e) = ap topic_in e
action_read Continue attribute (inr e) = ap topic_in e
action_read Clear attribute e = ap topic_in e

-- ---- and what is about this begins so

-- what is known of a head with this topic
abbrev IsHeadFor : Topic → List ℕ → Type 0
IsHeadFor topic.Keys head = IsHead OfKeys head
IsHeadFor topic.Values head = IsHead OfValues head
IsHeadFor topic.Sort head = IsHead OfSort head
IsHeadFor topic.Size head = IsHead OfSize head
IsHeadFor topic.Name head = IsHead OfName head
IsHeadFor (topic.Asked action) head = IsWordFor action head
IsHeadFor topic.Unknown head = Unit {0}

module _ (head : List ℕ) where
  same : (word : List ℕ) → bytes_eq head word ≡ true → head ≡ word
  same word e = (bytes_eq-Decides head word).0 e

  one_of : (one other : List ℕ) → (bytes_eq head one || bytes_eq head other) ≡ true → (head ≡ one) ⊎ (head ≡ other)
  one_of one other e = by (or_cases (bytes_eq head one) (bytes_eq head other) e)
    where
      by : (bytes_eq head one ≡ true) ⊎ (bytes_eq head other ≡ true) → (head ≡ one) ⊎ (head ≡ other)
      by (inl f) = inl (same one f)
      by (inr f) = inr (same other f)

  one_of_values : is_values head ≡ true → IsHead OfValues head
  one_of_values e = by (or_cases (bytes_eq head (codes "values=") || bytes_eq head (codes "vals=")) (bytes_eq head (codes "val=")) e)
    where
      first : (head ≡ codes "values=") ⊎ (head ≡ codes "vals=") → IsHead OfValues head
      first (inl f) = inl f
      first (inr f) = inr (inl f)

      by : ((bytes_eq head (codes "values=") || bytes_eq head (codes "vals=")) ≡ true) ⊎ (bytes_eq head (codes "val=") ≡ true) → IsHead OfValues head
      by (inl f) = first (one_of (codes "values=") (codes "vals=") f)
      by (inr f) = inr (inr (same (codes "val=") f))

  asked_head : IsHeadFor (asked_by head) head
  asked_head = by (bytes_eq head (codes "pause")) (bytes_eq head (codes "continue") || bytes_eq head (codes "cont")) (bytes_eq head (codes "clear")) refl refl refl
    where
      by : (pause continue clear : Bool) → bytes_eq head (codes "pause") ≡ pause → (bytes_eq head (codes "continue") || bytes_eq head (codes "cont")) ≡ continue → bytes_eq head (codes "clear") ≡ clear
          → IsHeadFor (if pause then topic.Asked Pause else if continue then topic.Asked Continue else if clear then topic.Asked Clear else topic.Unknown) head
      by true continue clear e f g = same (codes "pause") e
      by false true clear e f g = one_of (codes "continue") (codes "cont") f
      by false false true e f g = same (codes "clear") g
      by false false false e f g = tt

  head_for : IsHeadFor (topic_of head) head
  head_for = by (bytes_eq head (codes "keys=") || bytes_eq head (codes "key=")) (is_values head) (bytes_eq head (codes "sort=")) (bytes_eq head (codes "size=")) (bytes_eq head (codes "name=")) refl refl refl refl refl
    where
      by : (keys values sort size name : Bool) → (bytes_eq head (codes "keys=") || bytes_eq head (codes "key=")) ≡ keys → is_values head ≡ values → bytes_eq head (codes "sort=") ≡ sort → bytes_eq head (codes "size=") ≡ size → bytes_eq head (codes "name=") ≡ name
          → IsHeadFor (if keys then topic.Keys else if values then topic.Values else if sort then topic.Sort else if size then topic.Size else if name then topic.Name else asked_by head) head
      by true values sort size name e f g h k = one_of (codes "keys=") (codes "key=") e
      by false true sort size name e f g h k = one_of_values f
      by false false true size name e f g h k = same (codes "sort=") g
      by false false false true name e f g h k = same (codes "size=") h
      by false false false false true e f g h k = same (codes "name=") k
      by false false false false false e f g h k = asked_head

  -- of a head that is about this
  pub about : (t : Topic) → topic_of head ≡ t → IsHeadFor t head
  about t e = subst (λ (u : Topic). IsHeadFor u head) e head_for

attribute_cut : (attribute : List ℕ) → attribute ≡ take (head_len attribute) attribute ++ value_in attribute
attribute_cut attribute = sym (take-append-drop (head_len attribute) attribute)

-- the subject of an attribute of this topic that has a value
abbrev pub HasTopic : Subject → List ℕ → Type 0
HasTopic OfKeys attribute = topic_in attribute ≡ topic.Keys
HasTopic OfValues attribute = topic_in attribute ≡ topic.Values
HasTopic OfSort attribute = topic_in attribute ≡ topic.Sort
HasTopic OfSize attribute = topic_in attribute ≡ topic.Size
HasTopic OfName attribute = topic_in attribute ≡ topic.Name
HasTopic OfAction attribute = ⊥

pub read_value : (subject : Subject) (attribute : List ℕ) → HasTopic subject attribute → HasValue subject attribute (take (head_len attribute) attribute) (value_in attribute)
read_value OfKeys attribute e = record { begins = about (take (head_len attribute) attribute) topic.Keys e; cut = attribute_cut attribute }
read_value OfValues attribute e = record { begins = about (take (head_len attribute) attribute) topic.Values e; cut = attribute_cut attribute }
read_value OfSort attribute e = record { begins = about (take (head_len attribute) attribute) topic.Sort e; cut = attribute_cut attribute }
read_value OfSize attribute e = record { begins = about (take (head_len attribute) attribute) topic.Size e; cut = attribute_cut attribute }
read_value OfName attribute e = record { begins = about (take (head_len attribute) attribute) topic.Name e; cut = attribute_cut attribute }
read_value OfAction attribute e = absurd e

-- an attribute whose head has no `=` is all head
has_equals : List ℕ → Bool
has_equals text = list_any (λ b. b == 61) text

ends_equal : (text : List ℕ) → prefix_len (is_not 61) text < length text → has_equals (take (prefix_len (is_not 61) text + 1) text) ≡ true
unfolding has_equals
ends_equal [] more = absurd (omega (arith, more))
ends_equal (b ∷ bs) more = by (b == 61) refl more (ends_equal bs)
  where
    by : (same : Bool) → (b == 61) ≡ same → cond (not same) (1 + prefix_len (is_not 61) bs) 0 < length (b ∷ bs)
        → (prefix_len (is_not 61) bs < length bs → has_equals (take (prefix_len (is_not 61) bs + 1) bs) ≡ true)
        → has_equals (take (cond (not same) (1 + prefix_len (is_not 61) bs) 0 + 1) (b ∷ bs)) ≡ true
    by true e l next = ap (λ (c : Bool). c || has_equals []) e
    by false e l next =
        let n : ℕ = prefix_len (is_not 61) bs in
        let shift : 1 + n + 1 ≡ suc (n + 1) = omega arith in
        ap (λ m. has_equals (take m (b ∷ bs))) shift ∙ ap (λ (c : Bool). c || has_equals (take (n + 1) bs)) e ∙ next (omega (arith, l))

take-length : (bs : List ℕ) → take (length bs) bs ≡ bs
take-length [] = refl
take-length (b ∷ bs) = ap (λ (cs : List ℕ). b ∷ cs) (take-length bs)

whole_head : (attribute : List ℕ) → has_equals (take (head_len attribute) attribute) ≡ false → take (head_len attribute) attribute ≡ attribute
whole_head attribute none = by (nat_lt (prefix_len (is_not 61) attribute) (length attribute)) refl
  where
    by : (more : Bool) → nat_lt (prefix_len (is_not 61) attribute) (length attribute) ≡ more → take (head_len attribute) attribute ≡ attribute
    by true e =
        let long : head_len attribute ≡ prefix_len (is_not 61) attribute + 1 = head_is attribute (prefix_len (is_not 61) attribute) refl (ltb-true (prefix_len (is_not 61) attribute) (length attribute) e) in
        let some : has_equals (take (head_len attribute) attribute) ≡ true = ap (λ m. has_equals (take m attribute)) long ∙ ends_equal attribute (ltb-true (prefix_len (is_not 61) attribute) (length attribute) e) in
        absurd (cc)
    by false e =
        let short : head_len attribute ≡ prefix_len (is_not 61) attribute = ap (λ (b : Bool). if b then prefix_len (is_not 61) attribute + 1 else prefix_len (is_not 61) attribute) e in
        let all : head_len attribute ≡ length attribute = omega (arith, short, ltb-false (prefix_len (is_not 61) attribute) (length attribute) e, prefix_len-le-length (is_not 61) attribute) in
        ap (λ m. take m attribute) all ∙ take-length attribute

pub read_action : (action : Action) (attribute : List ℕ) → topic_in attribute ≡ topic.Asked action → IsWordFor action attribute
unfolding has_equals
read_action action attribute e = by action (about (take (head_len attribute) attribute) (topic.Asked action) e)
  where
    all_head : (word : List ℕ) → take (head_len attribute) attribute ≡ word → has_equals word ≡ false → attribute ≡ word
    all_head word f none = sym (whole_head attribute (ap has_equals f ∙ none)) ∙ f

    by : (action : Action) → IsWordFor action (take (head_len attribute) attribute) → IsWordFor action attribute
    by Attach f = f
    by Pause f = all_head (codes "pause") f refl
    by Continue (inl f) = inl (all_head (codes "continue") f refl)
    by Continue (inr f) = inr (all_head (codes "cont") f refl)
    by Clear f = all_head (codes "clear") f refl
