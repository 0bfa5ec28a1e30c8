-- Where the text of a hist trigger is wrong, whatever its event (histogram.rst, "hist triggers"): each offset with which such a text cannot go on. Nothing
-- in this file goes over the text. That `HistTexts` tells the leftmost of them is stated in `HistLaws`.
use Rattle.std.specs.Prelude.{◌≡◌, ◌⊎◌, ℕ, ◌+◌, ◌≤◌, Bool, IsTrue, false, codes, List, [], ◌∷◌, ◌++◌, length, flat_map, Option, None}
use Rattle.std.specs.List.{All, Any, Contains}
use Rattle.trace_lex.specs.Blanks.{is_blank, AreBlanks, BeginsUnblank}
use Rattle.trace_lex.specs.Decimals.{decimal_number}
use Rattle.trace_lex.specs.Names.{is_name}
use Rattle.trace_trigger.specs.Frames.{mark, IsTail}
use Rattle.trace_trigger.specs.declared.spec.Action.{Action}
use Rattle.trace_trigger.specs.declared.spec.SortKey.{SortKey}
use Rattle.trace_trigger.specs.HistGrammar.{IsCut, Subject, OfKeys, OfValues, OfSort, OfSize, OfName, OfAction, HasValue, HasName, IsKey, IsWordFor, IsSortItem}

-- ---- how each text is cut

-- nothing, or a blank and more
abbrev pub BeginsBlank : List ℕ → Type 0
BeginsBlank text = (text ≡ []) ⊎ ((b : ℕ) × (rest : List ℕ) × (text ≡ b ∷ rest) × IsTrue (is_blank b))

-- the first word is all that comes before the first blank, and its attributes are what is between the `:` (58)
pub record Cut (text : List ℕ) : Type 0 where
  pub removes : Bool
  pub word : List ℕ
  pub tail : List ℕ
  pub attributes : List (List ℕ)
  pub cut : text ≡ mark removes ++ codes "hist:" ++ word ++ tail
  pub unblank : All (λ b. is_blank b ≡ false) word
  pub ends : BeginsBlank tail
  pub parts : IsCut 58 word attributes

-- one of the parts, after these, where the first part begins at one offset and this one at another
pub record IsAt (byte start : ℕ) (parts before : List (List ℕ)) (part : List ℕ) (offset : ℕ) : Type 0 where
  pub after : List (List ℕ)
  pub cut : parts ≡ before ++ part ∷ after
  pub is_there : offset ≡ start + length (flat_map (λ (other : List ℕ). other ++ byte ∷ []) before)

-- where the first attribute begins
abbrev pub first_offset : {text : List ℕ} → Cut text → ℕ
first_offset text = length (mark text.removes ++ codes "hist:")

-- ---- wrong attributes

-- an attribute begins as one about this does, or asks for something
abbrev pub IsAbout : Subject → List ℕ → Type 0
IsAbout OfKeys attribute = (head : List ℕ) × (value : List ℕ) × HasValue OfKeys attribute head value
IsAbout OfValues attribute = (head : List ℕ) × (value : List ℕ) × HasValue OfValues attribute head value
IsAbout OfSort attribute = (head : List ℕ) × (value : List ℕ) × HasValue OfSort attribute head value
IsAbout OfSize attribute = (head : List ℕ) × (value : List ℕ) × HasValue OfSize attribute head value
IsAbout OfName attribute = (head : List ℕ) × (value : List ℕ) × HasValue OfName attribute head value
IsAbout OfAction attribute = (action : Action) × IsWordFor action attribute

-- one that is about nothing
abbrev pub IsUnknown : List ℕ → Type 0
IsUnknown attribute = (subject : Subject) → IsAbout subject attribute → ⊥

-- a size that is no number
pub record IsNoSize (attribute : List ℕ) : Type 0 where
  pub head : List ℕ
  pub value : List ℕ
  pub has : HasValue OfSize attribute head value
  pub none : decimal_number value ≡ None

-- one that has another about the same before it
pub record IsRepeated (before : List (List ℕ)) (attribute : List ℕ) : Type 0 where
  pub subject : Subject
  pub about : IsAbout subject attribute
  pub other : Any (IsAbout subject) before

pub record WrongAttribute {text : List ℕ} (cut : Cut text) (offset : ℕ) : Type 0 where
  pub before : List (List ℕ)
  pub attribute : List ℕ
  pub is_at : IsAt 58 (first_offset cut) cut.attributes before attribute offset
  pub wrong : IsUnknown attribute ⊎ (IsRepeated before attribute ⊎ IsNoSize attribute)

-- what is written as the table's name is none, and the offset is that of its first byte
pub record WrongName {text : List ℕ} (cut : Cut text) (offset : ℕ) : Type 0 where
  pub before : List (List ℕ)
  pub attribute : List ℕ
  pub attribute_offset : ℕ
  pub is_at : IsAt 58 (first_offset cut) cut.attributes before attribute attribute_offset
  pub head : List ℕ
  pub value : List ℕ
  pub has : HasValue OfName attribute head value
  pub none : is_name value ≡ false
  pub is_there : offset ≡ attribute_offset + length head

-- ---- wrong items of lists

-- the first attribute about this, after these, and its items
pub record IsList (subject : Subject) (attributes before : List (List ℕ)) (attribute head : List ℕ) (items : List (List ℕ)) : Type 0 where
  pub after : List (List ℕ)
  pub cut : attributes ≡ before ++ attribute ∷ after
  pub first : All (λ other. IsAbout subject other → ⊥) before
  pub value : List ℕ
  pub has : HasValue subject attribute head value
  pub listed : IsCut 44 value items

-- an item is no key, or an item before it has its name
abbrev pub IsNoKey : List (List ℕ) → List ℕ → Type 0
IsNoKey before item = (IsKey item → ⊥) ⊎ ((name : List ℕ) × HasName name item × Any (HasName name) before)

-- an item is no name, or one of the items before it
abbrev pub IsNoValue : List (List ℕ) → List ℕ → Type 0
IsNoValue before item = (is_name item ≡ false) ⊎ Contains before item

-- a name that the items of a list lend: that of a key, or a value
abbrev pub Lend : Subject → List (List ℕ) → List ℕ → Type 0
Lend OfKeys items name = Any (HasName name) items
Lend OfValues items name = Contains items name
Lend OfSort items name = ⊥
Lend OfSize items name = ⊥
Lend OfName items name = ⊥
Lend OfAction items name = ⊥

pub record IsLentBy (subject : Subject) (attributes : List (List ℕ)) (name : List ℕ) : Type 0 where
  pub before : List (List ℕ)
  pub attribute : List ℕ
  pub head : List ℕ
  pub items : List (List ℕ)
  pub list : IsList subject attributes before attribute head items
  pub among : Lend subject items name

-- what can be sorted by
abbrev pub IsLent : List (List ℕ) → List ℕ → Type 0
IsLent attributes name = (name ≡ codes "hitcount") ⊎ (IsLentBy OfKeys attributes name ⊎ IsLentBy OfValues attributes name)

-- the item of a list to sort by is none; or an item before it has its name, or that cannot be sorted by
abbrev pub IsWrongSort : List (List ℕ) → List (List ℕ) → List ℕ → Type 0
IsWrongSort attributes before item = ((key : SortKey) → IsSortItem item key → ⊥)
    ⊎ ((key : SortKey) × IsSortItem item key × (Any (HasName key.name) before ⊎ (IsLent attributes key.name → ⊥)))

abbrev pub IsWrongItem : Subject → List (List ℕ) → List (List ℕ) → List ℕ → Type 0
IsWrongItem OfKeys attributes before item = IsNoKey before item
IsWrongItem OfValues attributes before item = IsNoValue before item
IsWrongItem OfSort attributes before item = IsWrongSort attributes before item
IsWrongItem OfSize attributes before item = ⊥
IsWrongItem OfName attributes before item = ⊥
IsWrongItem OfAction attributes before item = ⊥

-- how many bytes come before the first item of an attribute after these
abbrev pub items_offset : {text : List ℕ} → Cut text → List (List ℕ) → List ℕ → ℕ
items_offset cut before head = first_offset cut + length (flat_map (λ (other : List ℕ). other ++ 58 ∷ []) before) + length head

pub record WrongItem {text : List ℕ} (cut : Cut text) (offset : ℕ) : Type 0 where
  pub subject : Subject
  pub attributes_before : List (List ℕ)
  pub attribute : List ℕ
  pub head : List ℕ
  pub items : List (List ℕ)
  pub list : IsList subject cut.attributes attributes_before attribute head items
  pub before : List (List ℕ)
  pub item : List ℕ
  pub is_at : IsAt 44 (items_offset cut attributes_before head) items before item offset
  pub wrong : IsWrongItem subject cut.attributes before item

-- ---- the end of the first word, and what follows it

-- no attribute is about keys, and the offset is the word's end
pub record LacksKeys {text : List ℕ} (cut : Cut text) (offset : ℕ) : Type 0 where
  pub none : All (λ attribute. IsAbout OfKeys attribute → ⊥) cut.attributes
  pub is_at : offset ≡ first_offset cut + length cut.word

-- the offset is the first after the word that is not blank, and no filter's text can be read there
pub record WrongTail {text : List ℕ} (cut : Cut text) (offset : ℕ) : Type 0 where
  pub front : List ℕ
  pub rest : List ℕ
  pub tail : cut.tail ≡ front ++ rest
  pub blanks : AreBlanks front
  pub begins : BeginsUnblank rest
  pub wrong : (condition : Option (List ℕ)) → IsTail cut.tail condition → ⊥
  pub is_at : offset ≡ first_offset cut + length cut.word + length front

-- ---- all of it

abbrev pub IsWrongAt : {text : List ℕ} → Cut text → ℕ → Type 0
IsWrongAt cut offset = WrongAttribute cut offset ⊎ (WrongName cut offset ⊎ (WrongItem cut offset ⊎ (LacksKeys cut offset ⊎ WrongTail cut offset)))

-- the leftmost offset where a text is wrong
pub record IsLeftmostWrong (text : List ℕ) (offset : ℕ) : Type 0 where
  pub cut : Cut text
  pub wrong : IsWrongAt cut offset
  pub leftmost : (other : ℕ) → IsWrongAt cut other → offset ≤ other
