-- How the text of a hist trigger is written: what it is put together of, and what it then says (histogram.rst, "hist triggers"). Nothing in this
-- file goes over the text. That `HistTexts` says the same is stated in `HistLaws`.
use Rattle.std.specs.Prelude.{◌≡◌, ◌≢◌, ◌⊎◌, ℕ, ◌<◌, ◌≤◌, Bool, true, false, not, IsTrue, bytes_eq, codes, List, [], ◌∷◌, ◌++◌, length, filter, slice_get, Option, Some, None}
use Rattle.std.specs.List.{All, Any, AllPairs, AllZip, Contains, join_with_byte}
use Rattle.trace_lex.specs.Decimals.{decimal_number}
use Rattle.trace_lex.specs.Names.{is_name}
use Rattle.trace_format.specs.Definitions.{Definition}
use Rattle.trace_format.specs.declared.operand.Operand.{Operand}
use Rattle.trace_format.specs.Operands.{operand_named, is_text}
use Rattle.trace_trigger.specs.Frames.{mark, IsTail, IsReadAs}
use Rattle.trace_format.specs.declared.key.Key.{Key}
use Rattle.trace_format.specs.declared.modifier.Modifier.{Modifier}
use Rattle.trace_format.specs.declared.modifier.Modifier.TheVariants.{Plain}
use Rattle.trace_trigger.specs.declared.spec.Action.{Action}
use Rattle.trace_trigger.specs.declared.spec.Action.TheVariants.{Attach, Pause, Continue, Clear}
use Rattle.trace_trigger.specs.declared.spec.SortKey.{SortKey}
use Rattle.trace_format.specs.declared.sort_rule.SortRule.{SortRule}
use Rattle.trace_format.specs.declared.sort_rule.SortSource.{SortSource}
use Rattle.trace_format.specs.declared.sort_rule.SortSource.TheVariants as sorted
use Rattle.trace_trigger.specs.HistSizes.{rounded_size}
use Rattle.trace_format.specs.Modifiers.{IsSuffix}
use Rattle.trace_trigger.specs.HistSpecs.{SpecSeen, written_of, key_names}

-- a text is these parts, with the byte between each two of them and in none
pub record IsCut (byte : ℕ) (text : List ℕ) (parts : List (List ℕ)) : Type 0 where
  pub some : 0 < length parts
  pub whole : text ≡ join_with_byte byte parts
  pub free : All (λ part. All (λ b. b ≢ byte) part) parts

-- ---- attributes

-- what an attribute sets: the keys as written, the values, what is sorted by, how many entries are asked for, the table's name, what is asked for
pub data Setting : Type 0 where
  Keys : List (List ℕ) → Setting
  Values : List (List ℕ) → Setting
  Sort : List SortKey → Setting
  Size : ℕ → Setting
  Name : List ℕ → Setting
  Asks : Action → Setting

-- what it is about
pub data Subject : Type 0 where
  OfKeys : Subject
  OfValues : Subject
  OfSort : Subject
  OfSize : Subject
  OfName : Subject
  OfAction : Subject

abbrev pub subject_of : Setting → Subject
subject_of (Keys items) = OfKeys
subject_of (Values names) = OfValues
subject_of (Sort keys) = OfSort
subject_of (Size entries) = OfSize
subject_of (Name name) = OfName
subject_of (Asks action) = OfAction

-- how an attribute that has a value begins
abbrev pub IsHead : Subject → List ℕ → Type 0
IsHead OfKeys head = (head ≡ codes "keys=") ⊎ (head ≡ codes "key=")
IsHead OfValues head = (head ≡ codes "values=") ⊎ ((head ≡ codes "vals=") ⊎ (head ≡ codes "val="))
IsHead OfSort head = head ≡ codes "sort="
IsHead OfSize head = head ≡ codes "size="
IsHead OfName head = head ≡ codes "name="
IsHead OfAction head = ⊥

-- an attribute begins so, and the rest is its value
pub record HasValue (subject : Subject) (attribute head value : List ℕ) : Type 0 where
  pub begins : IsHead subject head
  pub cut : attribute ≡ head ++ value

-- one that has none
abbrev pub IsWordFor : Action → List ℕ → Type 0
IsWordFor Attach word = ⊥
IsWordFor Pause word = word ≡ codes "pause"
IsWordFor Continue word = (word ≡ codes "continue") ⊎ (word ≡ codes "cont")
IsWordFor Clear word = word ≡ codes "clear"

-- an item of a list has this name, which goes up to its first `.` (46), and this after it
pub record IsItem (item name suffix : List ℕ) : Type 0 where
  pub cut : item ≡ name ++ suffix
  pub undotted : All (λ b. b ≢ 46) name
  pub begins : (suffix ≡ []) ⊎ ((rest : List ℕ) × (suffix ≡ 46 ∷ rest))

abbrev pub HasName : List ℕ → List ℕ → Type 0
HasName name item = (suffix : List ℕ) × IsItem item name suffix

-- a key: a name, perhaps with a modifier
pub record IsKeyItem (item name : List ℕ) (modifier : Modifier) : Type 0 where
  pub named : IsTrue (is_name name)
  pub suffix : List ℕ
  pub cut : IsItem item name suffix
  pub modifies : IsSuffix modifier suffix

abbrev pub IsKey : List ℕ → Type 0
IsKey item = (name : List ℕ) × (modifier : Modifier) × IsKeyItem item name modifier

-- a name to sort by, perhaps with a direction
abbrev pub IsDirected : List ℕ → List ℕ → Bool → Type 0
IsDirected item name true = item ≡ name ++ codes ".descending"
IsDirected item name false = (item ≡ name) ⊎ (item ≡ name ++ codes ".ascending")

pub record IsSortItem (item : List ℕ) (key : SortKey) : Type 0 where
  pub named : IsTrue (is_name key.name)
  pub directed : IsDirected item key.name key.descending

-- two items have no name in common
abbrev pub AreNamedApart : List ℕ → List ℕ → Type 0
AreNamedApart one other = (name : List ℕ) → HasName name one → HasName name other → ⊥

-- a list of keys, with `,` (44) between them, none of their names twice
pub record WritesKeys (attribute : List ℕ) (items : List (List ℕ)) : Type 0 where
  pub head : List ℕ
  pub value : List ℕ
  pub has : HasValue OfKeys attribute head value
  pub cut : IsCut 44 value items
  pub each : All IsKey items
  pub apart : AllPairs AreNamedApart items

-- likewise values, which are names
pub record WritesValues (attribute : List ℕ) (names : List (List ℕ)) : Type 0 where
  pub head : List ℕ
  pub value : List ℕ
  pub has : HasValue OfValues attribute head value
  pub cut : IsCut 44 value names
  pub named : All (λ name. IsTrue (is_name name)) names
  pub apart : AllPairs (λ one other. one ≢ other) names

-- likewise names to sort by
pub record WritesSort (attribute : List ℕ) (keys : List SortKey) : Type 0 where
  pub head : List ℕ
  pub value : List ℕ
  pub items : List (List ℕ)
  pub has : HasValue OfSort attribute head value
  pub cut : IsCut 44 value items
  pub each : AllZip IsSortItem items keys
  pub apart : AllPairs (λ (one other : SortKey). one.name ≢ other.name) keys

pub record WritesSize (attribute : List ℕ) (entries : ℕ) : Type 0 where
  pub head : List ℕ
  pub digits : List ℕ
  pub has : HasValue OfSize attribute head digits
  pub number : decimal_number digits ≡ Some entries

pub record WritesName (attribute name : List ℕ) : Type 0 where
  pub head : List ℕ
  pub has : HasValue OfName attribute head name
  pub named : IsTrue (is_name name)

-- how each setting is written
abbrev pub Writes : List ℕ → Setting → Type 0
Writes attribute (Keys items) = WritesKeys attribute items
Writes attribute (Values names) = WritesValues attribute names
Writes attribute (Sort keys) = WritesSort attribute keys
Writes attribute (Size entries) = WritesSize attribute entries
Writes attribute (Name name) = WritesName attribute name
Writes attribute (Asks action) = IsWordFor action attribute

-- a name is that of a key, or it is one of the values
abbrev pub IsListed : List Setting → List ℕ → Type 0
IsListed settings name = ((items : List (List ℕ)) × Contains settings (Keys items) × Any (HasName name) items)
    ⊎ ((names : List (List ℕ)) × Contains settings (Values names) × Contains names name)

-- the settings of one text: each at most once, keys always; and what is sorted by is a key, a value or `hitcount`
pub record AreLawful (settings : List Setting) : Type 0 where
  pub once : AllPairs (λ one other. subject_of one ≢ subject_of other) settings
  pub keys : (items : List (List ℕ)) × Contains settings (Keys items)
  pub sort : (keys : List SortKey) → Contains settings (Sort keys) → All (λ (key : SortKey). (key.name ≡ codes "hitcount") ⊎ IsListed settings key.name) keys

-- ---- texts

-- a text can be written so: attributes with `:` (58) between them that set this, and the text of this filter, if there is one
pub record IsWritten (text : List ℕ) (settings : List Setting) (condition : Option (List ℕ)) : Type 0 where
  pub removes : Bool
  pub word : List ℕ
  pub tail : List ℕ
  pub attributes : List (List ℕ)
  pub cut : text ≡ mark removes ++ codes "hist:" ++ word ++ tail
  pub parts : IsCut 58 word attributes
  pub each : AllZip Writes attributes settings
  pub lawful : AreLawful settings
  pub conditional : IsTail tail condition

-- ---- what is said by it

-- a value is set, or it is this one because none is set
abbrev pub IsSet : {A : Type 0} → List Setting → (A → Setting) → A → A → Type 0
IsSet {A} settings by otherwise value = Contains settings (by value) ⊎ (((other : A) → Contains settings (by other) → ⊥) × (value ≡ otherwise))

-- the values that are summed; every entry has its hitcount anyway
abbrev pub summed_names : List (List ℕ) → List (List ℕ)
summed_names names = filter (λ name. not (bytes_eq name (codes "hitcount"))) names

-- this name is set, or, where there is none, no name is
abbrev pub IsNamed : List Setting → Option (List ℕ) → Type 0
IsNamed settings None = (name : List ℕ) → Contains settings (Name name) → ⊥
IsNamed settings (Some name) = Contains settings (Name name)

-- the name, the lists, the size and the action of a trigger with these settings
pub record AreSettingsOf (settings : List Setting) (spec : SpecSeen) : Type 0 where
  pub name : IsNamed settings spec.name
  pub keys : Contains settings (Keys (written_of spec.keys))
  pub listed : List (List ℕ)
  pub listed_set : IsSet settings Values [] listed
  pub values : spec.values ≡ summed_names listed
  pub sort : IsSet settings Sort (record { name = codes "hitcount"; descending = false } ∷ []) spec.sort
  pub entries : ℕ
  pub entries_set : IsSet settings Size 2048 entries
  pub size : rounded_size entries ≡ Some spec.size
  pub action : IsSet settings Asks Attach spec.action

-- at most three keys, three values and two names to sort by
pub record IsWithinLimits (spec : SpecSeen) : Type 0 where
  pub keys : length spec.keys ≤ 3
  pub values : length spec.values ≤ 3
  pub sort : length spec.sort ≤ 2

-- a key is written so, and its name means this in the event: with a modifier, a number
pub record IsKeyOf (definition : Definition) (key : Key) : Type 0 where
  pub written : IsKeyItem key.written key.name key.modifier
  pub means : operand_named definition.fields key.name ≡ Some key.operand
  pub number : (key.modifier ≡ Plain) ⊎ (is_text key.operand ≡ false)

-- what a value means, which is a number
abbrev pub IsValueOf : Definition → List ℕ → Operand → Type 0
IsValueOf definition name operand = (operand_named definition.fields name ≡ Some operand) × (is_text operand ≡ false)

-- what a name to sort by means: the hitcount, a value, or else a key
abbrev pub IsSortedBy : List (List ℕ) → List (List ℕ) → List ℕ → SortSource → Type 0
IsSortedBy keys values name sorted.Hitcount = name ≡ codes "hitcount"
IsSortedBy keys values name (sorted.Value offset) = slice_get values offset ≡ Some name
IsSortedBy keys values name (sorted.Key offset) = (name ≢ codes "hitcount") × (Contains values name → ⊥) × (slice_get keys offset ≡ Some name)

abbrev pub IsRuleOf : SpecSeen → SortKey → SortRule → Type 0
IsRuleOf spec key rule = IsSortedBy (key_names spec.keys) spec.values key.name rule.source × (rule.descending ≡ key.descending)

-- what the names of a trigger, and its filter, mean in its event
pub record FitsEvent (definition : Definition) (condition : Option (List ℕ)) (spec : SpecSeen) : Type 0 where
  pub keys : All (IsKeyOf definition) spec.keys
  pub values : AllZip (IsValueOf definition) spec.values spec.value_sources
  pub sort : AllZip (IsRuleOf spec) spec.sort spec.sort_sources
  pub filter : IsReadAs definition condition spec.filter

-- a text says this of a trigger of an event
pub record Says (definition : Definition) (text : List ℕ) (spec : SpecSeen) : Type 0 where
  pub settings : List Setting
  pub condition : Option (List ℕ)
  pub written : IsWritten text settings condition
  pub set : AreSettingsOf settings spec
  pub limits : IsWithinLimits spec
  pub fits : FitsEvent definition condition spec
