-- What `Filters` says, as laws without a program.
use Rattle.std.specs.Prelude.{◌≡◌, ◌⊎◌, ◌↔◌, ◌≤◌, ℕ, List, map, IsTrue, None, Some, option_map, Ok, Err}
use Rattle.std.specs.List.{prefix_len}
use Rattle.trace_format.specs.Cells.{Cells, IsRowOf}
use Rattle.trace_format.specs.Definitions.{Definition, IsDefinition}
use Rattle.trace_filter.specs.declared.fault.FilterFault.{FilterFault}
use Rattle.trace_filter.specs.declared.fault.FilterFault.TheVariants.{FilterSyntax}
use Rattle.trace_filter.specs.declared.fault.FilterCause.{FilterCause}
use Rattle.trace_filter.specs.declared.fault.FilterCause.TheVariants.{JointAfterSigns}
use Rattle.trace_filter.specs.declared.syntax.Verdict.TheVariants.{WrongAt}
use Rattle.trace_lex.specs.Blanks.{is_blank, without_end, trimmed}
use Rattle.trace_filter.specs.Tokens.{Token, Spot, spots_of, tokens_of, shifted_by}
use Rattle.trace_filter.specs.TokenGrammar.{IsWrittenText}
use Rattle.trace_filter.specs.Grammar.{Expr, Spells, depth_of, depth}
use Rattle.trace_filter.specs.Syntax.{Standing, start}
use Rattle.trace_filter.specs.FilterCauses.{cause_at, due_at, standing_before, IsAfterSigns}
use Rattle.trace_filter.specs.Fits.{tests_of, EachTestFits, test_offsets, IsFirstMisfit}
use Rattle.trace_filter.specs.Globs.{Class, is_in_class, Element, parts_of}
use Rattle.trace_filter.specs.GlobGrammar.{IsWrittenGlob}
use Rattle.trace_filter.specs.ClassGrammar.{Member, AreWrittenOf, ClassHolds}
use Rattle.trace_format.specs.Operands.{Emission}
use Rattle.trace_filter.specs.Filters.{IsShort, ComesTo, misfit_of, IsFilter, IsRefused, Passes, parsed_of, answer_of}
use Rattle.trace_filter.specs.Values.{holds_of}

-- what the function of the text gives is a filter for just the texts that are one by the grammar and the fields
abbrev pub FilterIsAnswered : Type 0
FilterIsAnswered = (definition : Definition) → (text : List ℕ) → IsFilter definition text ↔ (answer_of definition text ≡ Ok (parsed_of definition text))

-- and a refusal exactly where the text is refused so by them
abbrev pub RefusalIsAnswered : Type 0
RefusalIsAnswered = (definition : Definition) → (text : List ℕ) → (fault : FilterFault) → IsRefused definition text fault ↔ (answer_of definition text ≡ Err fault)

-- each text is a filter or refused
abbrev pub FilterOrRefused : Type 0
FilterOrRefused = (definition : Definition) → (text : List ℕ) → IsFilter definition text ⊎ ((fault : FilterFault) × IsRefused definition text fault)

-- none is both
abbrev pub NeverBoth : Type 0
NeverBoth = (definition : Definition) → (text : List ℕ) → (fault : FilterFault) → IsFilter definition text → IsRefused definition text fault → ⊥

-- and none is refused for two faults
abbrev pub OneRefusal : Type 0
OneRefusal = (definition : Definition) → (text : List ℕ) → (one other : FilterFault) → IsRefused definition text one → IsRefused definition text other → one ≡ other

-- the cause of each fault of syntax is the one at its offset, also where a value does not fit its field
abbrev pub CauseIsThere : Type 0
CauseIsThere = (definition : Definition) → (text : List ℕ) → (at : ℕ) → (cause : FilterCause)
    → answer_of definition text ≡ Err (FilterSyntax at cause) → cause ≡ cause_at (spots_of text) at

-- where the tokens are wrong, those before the offset can be taken, and lead to where what the cause names is due
abbrev pub CauseIsDue : Type 0
CauseIsDue = (text : List ℕ) → (at : ℕ) → ComesTo text (WrongAt at)
    → option_map (λ (standing : Standing). standing.due) (standing_before start (spots_of text) at) ≡ Some (due_at (cause_at (spots_of text) at))

-- and it is `JointAfterSigns` exactly where the last token before the offset is a bare word that has bytes of operators alone
abbrev pub SignsAreTold : Type 0
SignsAreTold = (spots : List Spot) → (at : ℕ) → (cause_at spots at ≡ JointAfterSigns) ↔ IsAfterSigns spots at

-- the tokens of a text spell a tree that is at most 16 deep and whose tests each fit the event
pub record SpellsFittingTree (definition : Definition) (text : List ℕ) : Type 0 where
  pub tree : Expr
  pub spelled : Spells (tokens_of (spots_of text)) tree
  pub shallow : depth tree ≤ 16
  pub fits : EachTestFits definition.fields tree

-- a text is a filter of an event exactly where it is short and spells such a tree
abbrev pub FilterIsItsTree : Type 0
FilterIsItsTree = (definition : Definition) → (text : List ℕ) → IsFilter definition text ↔ (IsShort text × SpellsFittingTree definition text)

-- a text can be written of parts that mean these tokens at these offsets exactly where they are those that `spots_of` finds
abbrev pub TokensAreAsWritten : Type 0
TokensAreAsWritten = (text : List ℕ) → (spots : List Spot) → IsWrittenText text spots ↔ (spots ≡ spots_of text)

-- a pattern can be written of pieces that mean these parts exactly where they are those that `parts_of` finds
abbrev pub GlobsAreAsWritten : Type 0
GlobsAreAsWritten = (pattern : List ℕ) → (parts : List Element) → IsWrittenGlob pattern parts ↔ (parts ≡ parts_of pattern)

-- any bytes can be written of the members of a class
abbrev pub ClassIsWritten : Type 0
ClassIsWritten = (bytes : List ℕ) → (members : List Member) × AreWrittenOf bytes members

-- and of one list of them only
abbrev pub OneListOfMembers : Type 0
OneListOfMembers = (bytes : List ℕ) → (one other : List Member) → AreWrittenOf bytes one → AreWrittenOf bytes other → one ≡ other

-- a byte is in a class exactly where one of the members of which the class is written has it, and in a negated class where none has
abbrev pub ClassHoldsAsWritten : Type 0
ClassHoldsAsWritten = (class : Class) → (b : ℕ) → IsTrue (is_in_class class b) ↔ ClassHolds class b

-- a text without the blanks at both ends has the tokens of the text as written, each earlier by the blanks that the text begins with
abbrev pub TrimmedHasTheTokens : Type 0
TrimmedHasTheTokens = (text : List ℕ) → spots_of text ≡ map (shifted_by (prefix_len is_blank (without_end text))) (spots_of (trimmed text))

-- it is a filter exactly where the text as written is one
abbrev pub TrimmedIsTheFilter : Type 0
TrimmedIsTheFilter = (definition : Definition) → (text : List ℕ) → IsFilter definition text ↔ IsFilter definition (trimmed text)

-- it passes the same emissions
abbrev pub TrimmedPassesTheSame : Type 0
TrimmedPassesTheSame = (definition : Definition) → (text : List ℕ) → (emission : Emission) → Passes definition text emission ↔ Passes definition (trimmed text) emission

-- and nothing is left to trim of it
abbrev pub NothingIsLeftToTrim : Type 0
NothingIsLeftToTrim = (text : List ℕ) → trimmed (trimmed text) ≡ trimmed text

-- for a filter of an event and an emission of a row of it, the function is true exactly where some tree that the text spells holds
abbrev pub HoldsAsItsTree : Type 0
HoldsAsItsTree = (definition : Definition) → (text : List ℕ) → (row : Cells) → (emission : Emission) → IsFilter definition text → IsDefinition definition → IsRowOf definition row
    → emission.values ≡ row.values → IsTrue (holds_of (parsed_of definition text) emission) ↔ Passes definition text emission

-- the most that are open at once of the tokens is the depth of each tree that they spell
abbrev pub DepthIsOfTheTree : Type 0
DepthIsOfTheTree = (tokens : List Token) → (tree : Expr) → Spells tokens tree → depth_of tokens ≡ depth tree

-- tokens spell one tree at most
abbrev pub OneTree : Type 0
OneTree = (tokens : List Token) → (one other : Expr) → Spells tokens one → Spells tokens other → one ≡ other

-- no test of a text has a fault exactly where each test of a tree that its tokens spell fits the event
abbrev pub FitsAsItsTree : Type 0
FitsAsItsTree = (definition : Definition) → (text : List ℕ) → (tree : Expr) → Spells (tokens_of (spots_of text)) tree → (misfit_of definition text ≡ None) ↔ EachTestFits definition.fields tree

-- and their misfit is the fault of the first test of the tree that does not fit
abbrev pub MisfitIsTheFirst : Type 0
MisfitIsTheFirst = (definition : Definition) → (text : List ℕ) → (tree : Expr) → (fault : FilterFault) → Spells (tokens_of (spots_of text)) tree
    → (misfit_of definition text ≡ Some fault) ↔ IsFirstMisfit definition.fields (tests_of tree) (test_offsets (spots_of text)) fault
