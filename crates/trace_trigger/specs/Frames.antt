-- What the texts of both kinds of triggers have in common: a `!` before them, a first word, and after it perhaps blanks, `if`, blanks and a filter
-- (events.rst, "Event triggers"; histogram.rst, "hist triggers").
use Rattle.std.specs.Prelude.{◌≡◌, ◌<◌, ◌≤◌, ℕ, ◌+◌, ◌-◌, Bool, true, false, not, codes, List, [], ◌++◌, length, drop, Option, None, Some, Result, Ok, Err}
use Rattle.std.specs.List.{prefix_len}
use Rattle.trace_lex.specs.Blanks.{is_blank, AreBlanks, BeginsUnblank}
use Rattle.trace_format.specs.Definitions.{Definition}
use Rattle.trace_filter.specs.Filters.{Parsed, IsFilter, answer_of, parsed_of}
use Rattle.trace_filter.specs.declared.fault.FilterFault.{FilterFault}
use Rattle.trace_filter.specs.declared.fault.FilterFault.TheVariants as filter
use Rattle.trace_trigger.specs.declared.fault.TriggerFault.{TriggerFault}
use Rattle.trace_trigger.specs.declared.fault.TriggerFault.TheVariants.{FilterTooLong, FilterTooDeep, FilterSyntax, NoSuchField, WrongOperator, Memory}
use Rattle.trace_trigger.specs.declared.fault.OperatorCause.TheVariants.{Compared}

abbrev pub mark : Bool → List ℕ
mark true = codes "!"
mark false = []

-- the first word has all that comes before the first such byte
abbrev pub is_unblank : ℕ → Bool
is_unblank b = not (is_blank b)

abbrev pub after_blanks : List ℕ → List ℕ
after_blanks text = drop (prefix_len is_blank text) text

-- blanks, `if`, blanks, and the text of a filter, which begins with no blank
pub record IsConditional (tail filter : List ℕ) : Type 0 where
  pub front : List ℕ
  pub between : List ℕ
  pub cut : tail ≡ front ++ (codes "if" ++ (between ++ filter))
  pub before : AreBlanks front
  pub some_before : 0 < length front
  pub after : AreBlanks between
  pub some_after : 0 < length between
  pub begins : BeginsUnblank filter

-- what follows the first word: nothing but blanks, or the text of a filter
abbrev pub IsTail : List ℕ → Option (List ℕ) → Type 0
IsTail tail None = AreBlanks tail
IsTail tail (Some filter) = IsConditional tail filter

-- ---- the filter

-- the filter, if there is one, is that of its text for the event
abbrev pub IsReadAs : Definition → Option (List ℕ) → Option Parsed → Type 0
IsReadAs definition None None = Unit {0}
IsReadAs definition None (Some filter) = ⊥
IsReadAs definition (Some condition) None = ⊥
IsReadAs definition (Some condition) (Some filter) = IsFilter definition condition × (filter ≡ parsed_of definition condition)

-- a filter's fault, at offsets that count from so many bytes before the filter
abbrev pub moved : ℕ → FilterFault → TriggerFault
moved before filter.TooLong = FilterTooLong
moved before filter.TooDeep = FilterTooDeep
moved before (filter.FilterSyntax at cause) = FilterSyntax (before + at) cause
moved before (filter.NoSuchField at) = NoSuchField (before + at)
moved before (filter.WrongOperator at) = WrongOperator (before + at) Compared
moved before filter.Memory = Memory

abbrev pub filter_read : ℕ → Result Parsed FilterFault → Result (Option Parsed) TriggerFault
filter_read before (Ok read) = Ok (Some read)
filter_read before (Err fault) = Err (moved before fault)

-- the filter of a text that ends with the filter's text
unfoldable pub filter_of : Definition → List ℕ → Option (List ℕ) → Result (Option Parsed) TriggerFault
filter_of definition text None = Ok None
filter_of definition text (Some condition) = filter_read (length text - length condition) (answer_of definition condition)

-- a filter's fault has its offset in a text of this length
abbrev pub IsWithin : ℕ → FilterFault → Type 0
IsWithin len filter.TooLong = Unit {0}
IsWithin len filter.TooDeep = Unit {0}
IsWithin len (filter.FilterSyntax at cause) = at ≤ len
IsWithin len (filter.NoSuchField at) = at ≤ len
IsWithin len (filter.WrongOperator at) = at ≤ len
IsWithin len filter.Memory = Unit {0}
