-- Declarations of events: which definitions there are, which words declare one, and where other words are wrong.
use Rattle.std.specs.Prelude.{◌≡◌, ◌⊎◌, ℕ, ◌<◌, Bool, true, false, ◌&&◌, ◌||◌, bytes_eq, nat_le, IsTrue, codes, decimal, List, [], ◌∷◌, ◌++◌, length, flat_map}
use Rattle.std.specs.List.{list_any}
use Rattle.trace_format.specs.declared.kind.Kind.{Kind}
use Rattle.trace_format.specs.declared.kind.Kind.TheVariants.{Number, Char}
use Rattle.trace_format.specs.declared.event.Field.{Field}
use Rattle.trace_lex.specs.Names.{is_name}
use Rattle.trace_format.specs.Kinds.{kind_words}
use Rattle.trace_format.specs.Words.{Spot, semicolon, spots_of, words_of}

-- an event: its name and its fields in order
pub record Definition : Type 0 where
  pub name : List ℕ
  pub fields : List Field

-- ---- which definitions there are

-- names that no field may have, since filters and histograms give them a meaning in every event
abbrev pub is_reserved : List ℕ → Bool
is_reserved name = (bytes_eq name (codes "common_pid") || bytes_eq name (codes "common_cpu")) || bytes_eq name (codes "hitcount")

-- whether a field has the name
abbrev pub has_field : List Field → List ℕ → Bool
has_field fields name = list_any (λ field. bytes_eq name field.name) fields

-- a text field takes 1 to 64 bytes
abbrev pub is_kind : Kind → Bool
is_kind (Number t) = true
is_kind (Char n) = nat_le 1 n && nat_le n 64

-- what may stand as a field behind the fields before it
pub record IsField (before : List Field) (field : Field) : Type 0 where
  pub named : IsTrue (is_name field.name)
  pub free : is_reserved field.name ≡ false
  pub new : has_field before field.name ≡ false
  pub sized : IsTrue (is_kind field.kind)

-- each field may stand behind those before it, so no two have one name
abbrev pub AreFields : List Field → List Field → Type 0
AreFields before [] = Unit {0}
AreFields before (field ∷ fields) = IsField before field × AreFields (before ++ field ∷ []) fields

pub record IsDefinition (definition : Definition) : Type 0 where
  pub named : IsTrue (is_name definition.name)
  pub some_field : 0 < length definition.fields
  pub fields : AreFields [] definition.fields

-- ---- how they are spelled

-- behind the name of a text field: its length in bytes, in brackets (91, 93)
abbrev pub length_suffix : Kind → List ℕ
length_suffix (Number t) = []
length_suffix (Char n) = 91 ∷ (decimal n ++ 93 ∷ [])

-- a field's type, then its name
abbrev pub field_words : Field → List (List ℕ)
field_words field = kind_words field.kind ++ (field.name ++ length_suffix field.kind) ∷ []

-- the event's name, then its fields, each with a `;` behind it
abbrev pub closed_words : Definition → List (List ℕ)
closed_words definition = definition.name ∷ flat_map (λ field. field_words field ++ semicolon ∷ []) definition.fields

-- the words declare the definition: they spell it, with or without the last `;`
pub record Declares (words : List (List ℕ)) (definition : Definition) : Type 0 where
  pub defined : IsDefinition definition
  pub spelled : (words ≡ closed_words definition) ⊎ (words ++ semicolon ∷ [] ≡ closed_words definition)

-- ---- where a text is wrong

-- some declaration begins with the words
pub record Begins (words : List (List ℕ)) : Type 0 where
  pub definition : Definition
  pub rest : List (List ℕ)
  pub whole : Declares (words ++ rest) definition

-- the words before the one at the offset begin a declaration, and with it they begin none
pub record IsWrongAt (spots : List Spot) (offset : ℕ) : Type 0 where
  pub front : List Spot
  pub wrong : Spot
  pub back : List Spot
  pub cut : spots ≡ front ++ wrong ∷ back
  pub at : wrong.at ≡ offset
  pub begins : Begins (words_of front)
  pub ends : Begins (words_of (front ++ wrong ∷ [])) → ⊥

-- the words begin a declaration and are none
pub record EndsEarly (spots : List Spot) : Type 0 where
  pub begins : Begins (words_of spots)
  pub unfinished : (definition : Definition) → Declares (words_of spots) definition → ⊥

-- where a text that is no declaration is refused: at the leftmost word that is wrong or cannot stand there, or at its end
abbrev pub IsRefusedAt : List ℕ → ℕ → Type 0
IsRefusedAt text offset = IsWrongAt (spots_of text) offset ⊎ (EndsEarly (spots_of text) × (offset ≡ length text))
