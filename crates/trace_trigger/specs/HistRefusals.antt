-- Why a trigger string is refused for an event (histogram.rst, "hist triggers"), in the order in which the refusals are looked for. Nothing in this
-- file goes over the string, but what is wrong where it breaks the grammar is told by `HistOffsets`. That `HistTexts` says the same is stated in `HistLaws`.
use Rattle.std.specs.Prelude.{◌≡◌, ◌≢◌, ◌⊎◌, ℕ, ◌-◌, ◌<◌, true, false, codes, List, [], length, Option, None, Some}
use Rattle.std.specs.List.{All, Contains}
use Rattle.trace_format.specs.Definitions.{Definition}
use Rattle.trace_format.specs.declared.operand.Operand.{Operand}
use Rattle.trace_format.specs.Operands.{operand_named, is_text}
use Rattle.trace_filter.specs.declared.fault.FilterFault.{FilterFault}
use Rattle.trace_filter.specs.Filters.{IsRefused}
use Rattle.trace_trigger.specs.declared.fault.TriggerFault.{TriggerFault}
use Rattle.trace_trigger.specs.declared.fault.TriggerFault.TheVariants.{HistSyntax, TooManyKeys, TooManyValues, TooManySortKeys, NoSuchField, WrongOperator, BadSize}
use Rattle.trace_trigger.specs.declared.fault.OperatorCause.TheVariants.{Modified, Summed}
use Rattle.trace_trigger.specs.declared.fault.HistCause.{HistCause}
use Rattle.trace_trigger.specs.declared.spec.SortKey.{SortKey}
use Rattle.trace_trigger.specs.HistOffsets.{hist_cause}
use Rattle.trace_trigger.specs.HistSizes.{rounded_size}
use Rattle.trace_trigger.specs.Frames.{moved}
use Rattle.trace_trigger.specs.HistGrammar.{Setting, Keys, Values, Sort, Size, Subject, OfKeys, OfValues, IsItem, IsWritten, IsSet, summed_names, IsValueOf}
use Rattle.trace_trigger.specs.HistFaultOffsets.{Cut, IsAt, IsList, items_offset, IsLeftmostWrong}

-- ---- over the limits

-- over three keys, over three values besides `hitcount`, over two names to sort by
abbrev pub HasManyKeys : List Setting → Type 0
HasManyKeys settings = (keys : List (List ℕ)) × Contains settings (Keys keys) × (3 < length keys)

abbrev pub HasManyValues : List Setting → Type 0
HasManyValues settings = (listed : List (List ℕ)) × Contains settings (Values listed) × (3 < length (summed_names listed))

abbrev pub HasManySortKeys : List Setting → Type 0
HasManySortKeys settings = (keys : List SortKey) × Contains settings (Sort keys) × (2 < length keys)

abbrev pub IsOver : List Setting → Type 0
IsOver settings = HasManyKeys settings ⊎ (HasManyValues settings ⊎ HasManySortKeys settings)

-- what there are too many of: keys, or else values, or else names to sort by
pub data IsOverBy (settings : List Setting) (fault : TriggerFault) : Type 0 where
  ByKeys : HasManyKeys settings → fault ≡ TooManyKeys → IsOverBy settings fault
  ByValues : (HasManyKeys settings → ⊥) → HasManyValues settings → fault ≡ TooManyValues → IsOverBy settings fault
  BySortKeys : (HasManyKeys settings → ⊥) → (HasManyValues settings → ⊥) → HasManySortKeys settings → fault ≡ TooManySortKeys → IsOverBy settings fault

-- ---- names that the event does not have, and strings where numbers are due

-- an item of the first attribute about this, at an offset, after these items
pub record IsItemAt {text : List ℕ} (cut : Cut text) (subject : Subject) (before : List (List ℕ)) (item : List ℕ) (offset : ℕ) : Type 0 where
  pub attributes_before : List (List ℕ)
  pub attribute : List ℕ
  pub head : List ℕ
  pub items : List (List ℕ)
  pub list : IsList subject cut.attributes attributes_before attribute head items
  pub is_at : IsAt 44 (items_offset cut attributes_before head) items before item offset

-- a key's name means something: with a modifier, a number
pub record CanBeKey (definition : Definition) (item : List ℕ) : Type 0 where
  pub name : List ℕ
  pub suffix : List ℕ
  pub cut : IsItem item name suffix
  pub operand : Operand
  pub means : operand_named definition.fields name ≡ Some operand
  pub number : (suffix ≡ []) ⊎ (is_text operand ≡ false)

-- and one in a list of values means something as a value
abbrev pub CanBeValue : Definition → List ℕ → Type 0
CanBeValue definition name = (name ≡ codes "hitcount") ⊎ ((operand : Operand) × IsValueOf definition name operand)

-- a key's name means nothing, or it is a string and has a modifier
pub record CannotBeKey (definition : Definition) (item : List ℕ) (offset : ℕ) (fault : TriggerFault) : Type 0 where
  pub name : List ℕ
  pub suffix : List ℕ
  pub cut : IsItem item name suffix
  pub wrong : ((operand_named definition.fields name ≡ None) × (fault ≡ NoSuchField offset))
      ⊎ ((operand : Operand) × (operand_named definition.fields name ≡ Some operand) × (is_text operand ≡ true)
      × (suffix ≢ []) × (fault ≡ WrongOperator offset Modified))

-- the first key that cannot be one has this fault
pub record IsWrongKey (definition : Definition) (text : List ℕ) (fault : TriggerFault) : Type 0 where
  pub cut : Cut text
  pub before : List (List ℕ)
  pub item : List ℕ
  pub offset : ℕ
  pub is_at : IsItemAt cut OfKeys before item offset
  pub wrong : CannotBeKey definition item offset fault
  pub first : All (CanBeKey definition) before

-- a value means nothing, or it is a string
abbrev pub CannotBeValue : Definition → List ℕ → ℕ → TriggerFault → Type 0
CannotBeValue definition name offset fault = ((operand_named definition.fields name ≡ None) × (fault ≡ NoSuchField offset))
    ⊎ ((operand : Operand) × (operand_named definition.fields name ≡ Some operand) × (is_text operand ≡ true) × (fault ≡ WrongOperator offset Summed))

-- the first value that cannot be one has this fault
pub record IsWrongValue (definition : Definition) (text : List ℕ) (fault : TriggerFault) : Type 0 where
  pub cut : Cut text
  pub before : List (List ℕ)
  pub name : List ℕ
  pub offset : ℕ
  pub is_at : IsItemAt cut OfValues before name offset
  pub summed : name ≢ codes "hitcount"
  pub wrong : CannotBeValue definition name offset fault
  pub first : All (CanBeValue definition) before

-- ---- what is right

abbrev pub HaveKeys : Definition → List Setting → Type 0
HaveKeys definition settings = (keys : List (List ℕ)) × Contains settings (Keys keys) × All (CanBeKey definition) keys

abbrev pub HaveValues : Definition → List Setting → Type 0
HaveValues definition settings = (listed : List (List ℕ)) × IsSet settings Values [] listed × All (CanBeValue definition) listed

-- the size that is asked for comes to this, if to something
abbrev pub IsSized : List Setting → Option ℕ → Type 0
IsSized settings size = (entries : ℕ) × IsSet settings Size 2048 entries × (rounded_size entries ≡ size)

-- ---- refusals of a string that is written so

pub data IsRefusal (definition : Definition) (text : List ℕ) (settings : List Setting) (condition : Option (List ℕ)) (fault : TriggerFault) : Type 0 where
  ForMany : IsOverBy settings fault → IsRefusal definition text settings condition fault
  ForKey : (IsOver settings → ⊥) → IsWrongKey definition text fault → IsRefusal definition text settings condition fault
  ForValue : (IsOver settings → ⊥) → HaveKeys definition settings → IsWrongValue definition text fault → IsRefusal definition text settings condition fault
  ForSize : (IsOver settings → ⊥) → HaveKeys definition settings → HaveValues definition settings → IsSized settings None → fault ≡ BadSize
      → IsRefusal definition text settings condition fault
  ForFilter : (IsOver settings → ⊥) → HaveKeys definition settings → HaveValues definition settings → (size : ℕ) → IsSized settings (Some size) → (filter : List ℕ) → condition ≡ Some filter
      → (told : FilterFault) → IsRefused definition filter told → fault ≡ moved (length text - length filter) told → IsRefusal definition text settings condition fault

pub record IsWrittenAndRefused (definition : Definition) (text : List ℕ) (fault : TriggerFault) : Type 0 where
  pub settings : List Setting
  pub condition : Option (List ℕ)
  pub written : IsWritten text settings condition
  pub refusal : IsRefusal definition text settings condition fault

-- ---- all refusals

abbrev pub IsRefusedAs : Definition → List ℕ → TriggerFault → Type 0
IsRefusedAs definition text fault = ((at : ℕ) × (cause : HistCause) × (fault ≡ HistSyntax at cause) × IsLeftmostWrong text at × (hist_cause text at ≡ Some cause))
    ⊎ IsWrittenAndRefused definition text fault
