-- What is wrong where the text of a hist trigger is wrong (histogram.rst, "hist triggers"). Nothing in this file goes over the text. That what
-- `HistOffsets` tells of an offset is wrong there is stated in `HistLaws`.
use Rattle.std.specs.Prelude.{◌≡◌, ◌≢◌, ◌⊎◌, ℕ, Bool, true, false, List, []}
use Rattle.trace_trigger.specs.declared.fault.HistCause.{HistCause}
use Rattle.trace_trigger.specs.declared.fault.HistCause.TheVariants.{Unknown, Size, Action, Repeated, Name, Key, Value, Sort, NoKeys, Condition}
use Rattle.trace_trigger.specs.HistGrammar.{Subject, OfKeys, OfValues, OfSort, OfSize, OfName, OfAction}
use Rattle.trace_trigger.specs.HistFaultOffsets.{Cut, IsAbout, IsUnknown, WrongAttribute, WrongName, WrongItem, LacksKeys, WrongTail}

-- what the attribute is about that is wrong: nothing, a size, an action, or a list or a name
abbrev pub IsOfCause : HistCause → List ℕ → Type 0
IsOfCause Unknown attribute = IsUnknown attribute
IsOfCause Size attribute = IsAbout OfSize attribute
IsOfCause Action attribute = IsAbout OfAction attribute
IsOfCause Repeated attribute = IsAbout OfKeys attribute ⊎ (IsAbout OfValues attribute ⊎ (IsAbout OfSort attribute ⊎ IsAbout OfName attribute))
IsOfCause Name attribute = ⊥
IsOfCause (Key is_first) attribute = ⊥
IsOfCause (Value is_first) attribute = ⊥
IsOfCause (Sort is_first) attribute = ⊥
IsOfCause NoKeys attribute = ⊥
IsOfCause Condition attribute = ⊥

pub record WrongAttributeOf {text : List ℕ} (cut : Cut text) (why : HistCause) (offset : ℕ) : Type 0 where
  pub is : WrongAttribute cut offset
  pub about : IsOfCause why is.attribute

-- no item of the list is before it, or some
abbrev pub IsFirst : Bool → List (List ℕ) → Type 0
IsFirst true before = before ≡ []
IsFirst false before = before ≢ []

-- an item of a list about this is wrong, the first of the list or another
pub record WrongItemOf {text : List ℕ} (cut : Cut text) (subject : Subject) (is_first : Bool) (offset : ℕ) : Type 0 where
  pub is : WrongItem cut offset
  pub about : is.subject ≡ subject
  pub first : IsFirst is_first is.before

-- a text is wrong for this at an offset
abbrev pub IsWrongFor : {text : List ℕ} → Cut text → HistCause → ℕ → Type 0
IsWrongFor cut Unknown offset = WrongAttributeOf cut Unknown offset
IsWrongFor cut Size offset = WrongAttributeOf cut Size offset
IsWrongFor cut Action offset = WrongAttributeOf cut Action offset
IsWrongFor cut Repeated offset = WrongAttributeOf cut Repeated offset
IsWrongFor cut Name offset = WrongName cut offset
IsWrongFor cut (Key is_first) offset = WrongItemOf cut OfKeys is_first offset
IsWrongFor cut (Value is_first) offset = WrongItemOf cut OfValues is_first offset
IsWrongFor cut (Sort is_first) offset = WrongItemOf cut OfSort is_first offset
IsWrongFor cut NoKeys offset = LacksKeys cut offset
IsWrongFor cut Condition offset = WrongTail cut offset
