-- What the attributes of a text are read as, and the lists that are made of them.
use Rattle.std.proofs.Common.{◌≡◌, ◌≢◌, ◌⊎◌, inl, inr, refl, zero, suc, Bool, true, false, cond, List, [], ◌∷◌, Some, None, ap, sym, ◌∙◌, arith}
use Rattle.std.specs.List.{AllByRecursion, AllZip, Contains}
use Rattle.std.proofs.lemmas.List.Elements.{Contains-append_cases, Contains-append_right}
use Rattle.trace_trigger.specs.declared.attribute.Topic.{Topic}
use Rattle.trace_trigger.specs.declared.attribute.Topic.TheVariants as topic
use Rattle.trace_trigger.specs.declared.attribute.Attribute.{Attribute}
use Rattle.trace_trigger.specs.HistLists.{is_same_topic, first_about}
use Rattle.trace_trigger.specs.HistGrammar.{Setting, Keys, Values, Sort, Size, Name, Asks, subject_of}
use Rattle.trace_trigger.proofs.AttributeLaws.{topic_of_setting, IsRead}
use Rattle.trace_trigger.proofs.WrongLemmas.{Apart}

-- ---- elements of lists

abbrev pub Member : {X : Type 0} → X → List X → Type 0
Member x [] = ⊥
Member x (y ∷ ys) = (x ≡ y) ⊎ Member x ys

contains_head : {X : Type 0} (x y : X) → Contains (y ∷ []) x → x ≡ y
contains_head x y (zero, l, e) = sym e
contains_head x y (suc k, l, e) = absurd (omega (arith, l))

pub member_from : {X : Type 0} (x : X) (xs : List X) → Contains xs x → Member x xs
member_from x [] is = omega (arith, is.1)
member_from x (y ∷ ys) is = by (Contains-append_cases (y ∷ []) ys x is) (member_from x ys)
  where
    by : Contains (y ∷ []) x ⊎ Contains ys x → (Contains ys x → Member x ys) → Member x (y ∷ ys)
    by (inl here) next = inl (contains_head x y here)
    by (inr there) next = inr (next there)

pub from_member : {X : Type 0} (x : X) (xs : List X) → Member x xs → Contains xs x
from_member x [] is = absurd is
from_member x (y ∷ ys) (inl e) = (0, omega arith, sym e)
from_member x (y ∷ ys) (inr is) = Contains-append_right (y ∷ []) ys x (from_member x ys is)

-- ---- topics

pub topics_sym : (s t : Topic) → is_same_topic s t ≡ is_same_topic t s
topics_sym topic.Keys topic.Keys = refl
topics_sym topic.Keys topic.Values = refl
topics_sym topic.Keys topic.Sort = refl
topics_sym topic.Keys topic.Size = refl
topics_sym topic.Keys topic.Name = refl
topics_sym topic.Keys (topic.Asked other) = refl
topics_sym topic.Keys topic.Unknown = refl
topics_sym topic.Values topic.Keys = refl
topics_sym topic.Values topic.Values = refl
topics_sym topic.Values topic.Sort = refl
topics_sym topic.Values topic.Size = refl
topics_sym topic.Values topic.Name = refl
topics_sym topic.Values (topic.Asked other) = refl
topics_sym topic.Values topic.Unknown = refl
topics_sym topic.Sort topic.Keys = refl
topics_sym topic.Sort topic.Values = refl
topics_sym topic.Sort topic.Sort = refl
topics_sym topic.Sort topic.Size = refl
topics_sym topic.Sort topic.Name = refl
topics_sym topic.Sort (topic.Asked other) = refl
topics_sym topic.Sort topic.Unknown = refl
topics_sym topic.Size topic.Keys = refl
topics_sym topic.Size topic.Values = refl
topics_sym topic.Size topic.Sort = refl
topics_sym topic.Size topic.Size = refl
topics_sym topic.Size topic.Name = refl
topics_sym topic.Size (topic.Asked other) = refl
topics_sym topic.Size topic.Unknown = refl
topics_sym topic.Name topic.Keys = refl
topics_sym topic.Name topic.Values = refl
topics_sym topic.Name topic.Sort = refl
topics_sym topic.Name topic.Size = refl
topics_sym topic.Name topic.Name = refl
topics_sym topic.Name (topic.Asked other) = refl
topics_sym topic.Name topic.Unknown = refl
topics_sym (topic.Asked one) topic.Keys = refl
topics_sym (topic.Asked one) topic.Values = refl
topics_sym (topic.Asked one) topic.Sort = refl
topics_sym (topic.Asked one) topic.Size = refl
topics_sym (topic.Asked one) topic.Name = refl
topics_sym (topic.Asked one) (topic.Asked other) = refl
topics_sym (topic.Asked one) topic.Unknown = refl
topics_sym topic.Unknown topic.Keys = refl
topics_sym topic.Unknown topic.Values = refl
topics_sym topic.Unknown topic.Sort = refl
topics_sym topic.Unknown topic.Size = refl
topics_sym topic.Unknown topic.Name = refl
topics_sym topic.Unknown (topic.Asked other) = refl
topics_sym topic.Unknown topic.Unknown = refl

pub same_subject : (s t : Setting) → is_same_topic (topic_of_setting s) (topic_of_setting t) ≡ true → subject_of s ≡ subject_of t
same_subject (Keys one) (Keys other) e = refl
same_subject (Keys one) (Values other) e = absurd (cc)
same_subject (Keys one) (Sort other) e = absurd (cc)
same_subject (Keys one) (Size other) e = absurd (cc)
same_subject (Keys one) (Name other) e = absurd (cc)
same_subject (Keys one) (Asks other) e = absurd (cc)
same_subject (Values one) (Keys other) e = absurd (cc)
same_subject (Values one) (Values other) e = refl
same_subject (Values one) (Sort other) e = absurd (cc)
same_subject (Values one) (Size other) e = absurd (cc)
same_subject (Values one) (Name other) e = absurd (cc)
same_subject (Values one) (Asks other) e = absurd (cc)
same_subject (Sort one) (Keys other) e = absurd (cc)
same_subject (Sort one) (Values other) e = absurd (cc)
same_subject (Sort one) (Sort other) e = refl
same_subject (Sort one) (Size other) e = absurd (cc)
same_subject (Sort one) (Name other) e = absurd (cc)
same_subject (Sort one) (Asks other) e = absurd (cc)
same_subject (Size one) (Keys other) e = absurd (cc)
same_subject (Size one) (Values other) e = absurd (cc)
same_subject (Size one) (Sort other) e = absurd (cc)
same_subject (Size one) (Size other) e = refl
same_subject (Size one) (Name other) e = absurd (cc)
same_subject (Size one) (Asks other) e = absurd (cc)
same_subject (Name one) (Keys other) e = absurd (cc)
same_subject (Name one) (Values other) e = absurd (cc)
same_subject (Name one) (Sort other) e = absurd (cc)
same_subject (Name one) (Size other) e = absurd (cc)
same_subject (Name one) (Name other) e = refl
same_subject (Name one) (Asks other) e = absurd (cc)
same_subject (Asks one) (Keys other) e = absurd (cc)
same_subject (Asks one) (Values other) e = absurd (cc)
same_subject (Asks one) (Sort other) e = absurd (cc)
same_subject (Asks one) (Size other) e = absurd (cc)
same_subject (Asks one) (Name other) e = absurd (cc)
same_subject (Asks one) (Asks other) e = refl

pub same_topic : (s t : Setting) → subject_of s ≡ subject_of t → is_same_topic (topic_of_setting s) (topic_of_setting t) ≡ true
same_topic (Keys one) (Keys other) e = refl
same_topic (Keys one) (Values other) e = absurd (cc)
same_topic (Keys one) (Sort other) e = absurd (cc)
same_topic (Keys one) (Size other) e = absurd (cc)
same_topic (Keys one) (Name other) e = absurd (cc)
same_topic (Keys one) (Asks other) e = absurd (cc)
same_topic (Values one) (Keys other) e = absurd (cc)
same_topic (Values one) (Values other) e = refl
same_topic (Values one) (Sort other) e = absurd (cc)
same_topic (Values one) (Size other) e = absurd (cc)
same_topic (Values one) (Name other) e = absurd (cc)
same_topic (Values one) (Asks other) e = absurd (cc)
same_topic (Sort one) (Keys other) e = absurd (cc)
same_topic (Sort one) (Values other) e = absurd (cc)
same_topic (Sort one) (Sort other) e = refl
same_topic (Sort one) (Size other) e = absurd (cc)
same_topic (Sort one) (Name other) e = absurd (cc)
same_topic (Sort one) (Asks other) e = absurd (cc)
same_topic (Size one) (Keys other) e = absurd (cc)
same_topic (Size one) (Values other) e = absurd (cc)
same_topic (Size one) (Sort other) e = absurd (cc)
same_topic (Size one) (Size other) e = refl
same_topic (Size one) (Name other) e = absurd (cc)
same_topic (Size one) (Asks other) e = absurd (cc)
same_topic (Name one) (Keys other) e = absurd (cc)
same_topic (Name one) (Values other) e = absurd (cc)
same_topic (Name one) (Sort other) e = absurd (cc)
same_topic (Name one) (Size other) e = absurd (cc)
same_topic (Name one) (Name other) e = refl
same_topic (Name one) (Asks other) e = absurd (cc)
same_topic (Asks one) (Keys other) e = absurd (cc)
same_topic (Asks one) (Values other) e = absurd (cc)
same_topic (Asks one) (Sort other) e = absurd (cc)
same_topic (Asks one) (Size other) e = absurd (cc)
same_topic (Asks one) (Name other) e = absurd (cc)
same_topic (Asks one) (Asks other) e = refl

-- ---- settings of one subject are one

abbrev pub Once : List Setting → Type 0
Once settings = Apart (λ one other. subject_of one ≢ subject_of other) settings

none_later : (s t : Setting) (settings : List Setting) → AllByRecursion (λ other. subject_of s ≢ subject_of other) settings → Member t settings → subject_of s ≡ subject_of t → ⊥
none_later s t [] all is same = is
none_later s t (other ∷ settings) all (inl e) same = all.0 (same ∙ ap subject_of e)
none_later s t (other ∷ settings) all (inr is) same = none_later s t settings all.1 is same

pub one_setting : (s t : Setting) (settings : List Setting) → Once settings → Member s settings → Member t settings → subject_of s ≡ subject_of t → s ≡ t
one_setting s t [] once is other same = absurd is
one_setting s t (first ∷ settings) once (inl e) (inl f) same = e ∙ sym f
one_setting s t (first ∷ settings) once (inl e) (inr is) same = absurd (none_later first t settings once.0 is (sym (ap subject_of e) ∙ same))
one_setting s t (first ∷ settings) once (inr is) (inl f) same = absurd (none_later first s settings once.0 is (sym (ap subject_of f) ∙ sym same))
one_setting s t (first ∷ settings) once (inr is) (inr other) same = one_setting s t settings once.1 is other same

-- ---- the first attribute on a topic

pub record IsFound (t : Topic) (attributes : List Attribute) (settings : List Setting) : Type 0 where
  pub attribute : Attribute
  pub setting : Setting
  pub first : first_about t attributes ≡ Some attribute
  pub member : Member setting settings
  pub read : IsRead attribute setting
  pub same : is_same_topic t (topic_of_setting setting) ≡ true

pub record IsMissing (t : Topic) (attributes : List Attribute) (settings : List Setting) : Type 0 where
  pub first : first_about t attributes ≡ None
  pub other : (setting : Setting) → Member setting settings → is_same_topic t (topic_of_setting setting) ≡ false

pub found_or_missing : (t : Topic) (attributes : List Attribute) (settings : List Setting) → AllZip IsRead attributes settings → IsFound t attributes settings ⊎ IsMissing t attributes settings
found_or_missing t [] [] zip = inr (record { first = refl; other = λ setting is. absurd is })
found_or_missing t [] (setting ∷ settings) zip = absurd zip
found_or_missing t (attribute ∷ attributes) [] zip = absurd zip
found_or_missing t (attribute ∷ attributes) (setting ∷ settings) zip = by (is_same_topic t attribute.topic) refl (found_or_missing t attributes settings zip.1)
  where
    topics : is_same_topic t attribute.topic ≡ is_same_topic t (topic_of_setting setting)
    topics = ap (is_same_topic t) zip.0.topic

    found : (b : Bool) → is_same_topic t attribute.topic ≡ b → first_about t (attribute ∷ attributes) ≡ cond b (Some attribute) (first_about t attributes)
    found b e = ap (λ c. cond c (Some attribute) (first_about t attributes)) e

    later : is_same_topic t attribute.topic ≡ false → IsMissing t attributes settings → (s : Setting) → Member s (setting ∷ settings) → is_same_topic t (topic_of_setting s) ≡ false
    later e missing s (inl same) = ap (λ (u : Setting). is_same_topic t (topic_of_setting u)) same ∙ sym topics ∙ e
    later e missing s (inr is) = missing.other s is

    by : (b : Bool) → is_same_topic t attribute.topic ≡ b → IsFound t attributes settings ⊎ IsMissing t attributes settings
        → IsFound t (attribute ∷ attributes) (setting ∷ settings) ⊎ IsMissing t (attribute ∷ attributes) (setting ∷ settings)
    by true e rest = inl (record { attribute = attribute; setting = setting; first = found true e; member = inl refl; read = zip.0; same = sym topics ∙ e })
    by false e (inl is) = inl (record { attribute = is.attribute; setting = is.setting; first = found false e ∙ is.first; member = inr is.member; read = is.read; same = is.same })
    by false e (inr missing) = inr (record { first = found false e ∙ missing.first; other = later e missing })
