-- What `TriggerTexts` says, as theorems that speak of no program.
use Rattle.std.specs.Prelude.{◌≡◌, ◌↔◌, ℕ, ◌-◌, Bool, true, false, codes, List, length, take, Option, Some, Ok, Err}
use Rattle.trace_format.specs.Definitions.{Definition}
use Rattle.trace_lex.specs.Blanks.{AreBlanks}
use Rattle.trace_filter.specs.declared.fault.FilterFault.{FilterFault}
use Rattle.trace_filter.specs.Filters.{Parsed, IsRefused}
use Rattle.trace_trigger.specs.HistSpecs.{SpecSeen}
use Rattle.trace_trigger.specs.HistTexts.{IsHistText, spec_of}
use Rattle.trace_trigger.specs.declared.fault.TriggerFault.{TriggerFault}
use Rattle.trace_trigger.specs.declared.fault.TriggerFault.TheVariants.{BadText}
use Rattle.trace_trigger.specs.declared.fault.TextCause.{TextCause}
use Rattle.trace_trigger.specs.declared.trigger.SnapshotTrigger.{SnapshotTrigger}
use Rattle.trace_trigger.specs.declared.trigger.TriggerText.TheVariants.{Nothing, AttachSnapshot, RemoveSnapshot, Hist, RemoveHist}
use Rattle.trace_trigger.specs.Frames.{moved}
use Rattle.trace_trigger.specs.TextCauses.{IsBadFor}
use Rattle.trace_trigger.specs.TriggerTexts.{said_of, body_of}
use Rattle.trace_trigger.specs.TriggerGrammar.{IsWritten, Writes}

-- a text says nothing exactly where it is blanks
abbrev pub NothingIsBlanks : Type 0
NothingIsBlanks = (definition : Definition) → (text : List ℕ) → (said_of definition text ≡ Ok Nothing) ↔ AreBlanks text

-- it says that a snapshot trigger is to be attached exactly where it is written so, without a `!`
abbrev pub AttachIsWritten : Type 0
AttachIsWritten = (definition : Definition) → (text : List ℕ) → (trigger : SnapshotTrigger)
    → (said_of definition text ≡ Ok (AttachSnapshot trigger)) ↔ Writes definition text false trigger.count trigger.filter

-- a text that is written so with a `!`
pub record WritesRemoval (definition : Definition) (text : List ℕ) : Type 0 where
  pub count : Option ℕ
  pub filter : Option Parsed
  pub writes : Writes definition text true count filter

-- and that it is to be removed exactly where it is written so with a `!`, whatever its count and its filter
abbrev pub RemoveIsWritten : Type 0
RemoveIsWritten = (definition : Definition) → (text : List ℕ) → (said_of definition text ≡ Ok RemoveSnapshot) ↔ WritesRemoval definition text

-- it says that a hist trigger is to be attached exactly where it begins with `hist:` and says this trigger
abbrev pub HistIsRead : Type 0
HistIsRead = (definition : Definition) → (text : List ℕ) → (spec : SpecSeen)
    → (said_of definition text ≡ Ok (Hist spec)) ↔ ((take 5 text ≡ codes "hist:") × (spec_of definition text ≡ Ok spec))

-- and that one is to be removed exactly where it begins with `!hist:` and says this trigger
abbrev pub RemoveHistIsRead : Type 0
RemoveHistIsRead = (definition : Definition) → (text : List ℕ) → (spec : SpecSeen)
    → (said_of definition text ≡ Ok (RemoveHist spec)) ↔ ((take 6 text ≡ codes "!hist:") × (spec_of definition text ≡ Ok spec))

-- a text of a hist trigger is refused as the trigger is, at the same byte
abbrev pub HistFaultIsTold : Type 0
HistFaultIsTold = (definition : Definition) → (text : List ℕ) → (fault : TriggerFault) → IsHistText text → spec_of definition text ≡ Err fault
    → said_of definition text ≡ Err fault

-- no text that is written as one of a snapshot trigger
abbrev pub IsUnwritten : List ℕ → Type 0
IsUnwritten text = (removes : Bool) → (count : Option ℕ) → (condition : Option (List ℕ)) → IsWritten text removes count condition → ⊥

-- a text is badly written exactly where it is not blanks, is no text of a hist trigger, and cannot be written as one of a snapshot trigger,
-- whatever the filter's text
pub record IsBad (text : List ℕ) : Type 0 where
  pub unblank : AreBlanks text → ⊥
  pub no_hist : IsHistText text → ⊥
  pub unwritten : IsUnwritten text

abbrev pub BadTextIsUnwritten : Type 0
BadTextIsUnwritten = (definition : Definition) → (text : List ℕ) → ((cause : TextCause) × (said_of definition text ≡ Err (BadText cause))) ↔ IsBad text

-- and it is wrong for the cause that is told
abbrev pub BadTextHasCause : Type 0
BadTextHasCause = (definition : Definition) → (text : List ℕ) → (cause : TextCause) → said_of definition text ≡ Err (BadText cause) → IsBadFor (body_of text) cause

-- a text that is written as one of a snapshot trigger is refused as its filter is, at the same byte, counted from the start of the whole text
abbrev pub FilterFaultIsMoved : Type 0
FilterFaultIsMoved = (definition : Definition) → (text : List ℕ) → (removes : Bool) → (count : Option ℕ) → (condition : List ℕ) → (fault : FilterFault)
    → IsWritten text removes count (Some condition) → IsRefused definition condition fault
    → said_of definition text ≡ Err (moved (length text - length condition) fault)
