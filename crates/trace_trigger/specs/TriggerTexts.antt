-- Trigger texts: what is said by a text that is written to an event's `trigger` file (events.rst, "Event triggers", "snapshot"; ftrace.rst,
-- "Snapshot"): nothing, or an optional `!`, a word, and after it perhaps `if` and a filter. What a text with `hist:` says is defined in HistTexts.
use Rattle.std.specs.Prelude.{ℕ, unwrap_or, ◌-◌, ◌^◌, Bool, ◌&&◌, ◌||◌, ◌==◌, nat_lt, if◌then◌else◌, bytes_eq, codes, List, [], ◌∷◌, length, take, drop, Option, None, Some, is_some, Result, Ok, Err}
use Rattle.std.specs.List.{prefix_len, list_all}
use Rattle.trace_lex.specs.Blanks.{is_blank}
use Rattle.trace_lex.specs.Decimals.{decimal_number, up_to}
use Rattle.trace_format.specs.Definitions.{Definition}
use Rattle.trace_trigger.specs.Frames.{is_unblank, after_blanks, filter_of}
use Rattle.trace_trigger.specs.TriggerAnswers.{◌>>=◌}
use Rattle.trace_trigger.specs.HistTexts.{spec_of}
use Rattle.trace_trigger.specs.declared.fault.TriggerFault.{TriggerFault}
use Rattle.trace_trigger.specs.declared.fault.TriggerFault.TheVariants.{BadText}
use Rattle.trace_trigger.specs.declared.fault.TextCause.{TextCause}
use Rattle.trace_trigger.specs.declared.fault.TextCause.TheVariants.{Kind, Count, AfterSnapshot, Condition, Filter}
use Rattle.trace_trigger.specs.declared.trigger.SnapshotTrigger.{SnapshotTrigger}
use Rattle.trace_trigger.specs.declared.trigger.TriggerText.{TriggerText}
use Rattle.trace_trigger.specs.declared.trigger.TriggerText.TheVariants.{Nothing, AttachSnapshot, RemoveSnapshot, Hist, RemoveHist}

-- ---- how a text is cut

-- what follows a beginning, if the text begins so
abbrev pub after : List ℕ → List ℕ → Option (List ℕ)
after beginning text = if bytes_eq (take (length beginning) text) beginning then Some (drop (length beginning) text) else None

abbrev pub begins : List ℕ → List ℕ → Bool
begins beginning text = is_some (after beginning text)

-- the first word is all that comes before the first blank
abbrev pub word_of : List ℕ → List ℕ
word_of text = take (prefix_len is_unblank text) text

abbrev pub after_word : List ℕ → List ℕ
after_word text = drop (prefix_len is_unblank text) text

-- ---- the word

-- from 1 to 2^32 - 1
abbrev pub count_from : Option ℕ → Result (Option ℕ) TriggerFault
count_from None = Err (BadText Count)
count_from (Some n) = if nat_lt 0 n then Ok (Some n) else Err (BadText Count)

-- after `snapshot`: nothing, or a `:` (58) and a decimal number
abbrev pub count_after : Option (List ℕ) → Result (Option ℕ) TriggerFault
count_after None = Err (BadText Kind)
count_after (Some []) = Ok None
count_after (Some (b ∷ digits)) = if b == 58 then count_from (up_to (2 ^ 32 - 1) (decimal_number digits)) else Err (BadText AfterSnapshot)

-- how often a trigger of this word takes a snapshot: `snapshot` without end, `snapshot:N` at most N times
unfoldable pub count_of : List ℕ → Result (Option ℕ) TriggerFault
count_of word = count_after (after (codes "snapshot") word)

-- ---- what follows the word

-- without a filter, and otherwise without a blank before it
abbrev pub condition_cause : List ℕ → TextCause
condition_cause [] = Filter
condition_cause (b ∷ bs) = Condition

-- blanks, and what is not blank
abbrev pub condition_after : Option (List ℕ) → Result (Option (List ℕ)) TriggerFault
condition_after None = Err (BadText Condition)
condition_after (Some text) = if nat_lt 0 (prefix_len is_blank text) && nat_lt 0 (length (after_blanks text))
    then Ok (Some (after_blanks text)) else Err (BadText (condition_cause (after_blanks text)))

-- the text of a filter, if there is one: nothing but blanks, or blanks, `if`, blanks and that text
unfoldable pub condition_of : List ℕ → Result (Option (List ℕ)) TriggerFault
condition_of text = if list_all is_blank text then Ok None else condition_after (after (codes "if") (after_blanks text))

-- ---- the whole text

-- a trigger, of a text that ends with the bytes after a `!`, or that has no `!`
unfoldable pub snapshot_trigger_of : Definition → List ℕ → List ℕ → Result SnapshotTrigger TriggerFault
snapshot_trigger_of definition text body =
    count_of (word_of body) >>= λ count. condition_of (after_word body) >>= λ condition. filter_of definition text condition
    >>= λ only_if. Ok (record { count = count; filter = only_if })

-- by what follows a `!`, if there is one
abbrev pub said_after : Definition → List ℕ → Option (List ℕ) → Result TriggerText TriggerFault
said_after definition text None = snapshot_trigger_of definition text text >>= λ trigger. Ok (AttachSnapshot trigger)
said_after definition text (Some body) = snapshot_trigger_of definition text body >>= λ trigger. Ok RemoveSnapshot

-- what a text says of an event's snapshot trigger
unfoldable pub snapshot_said : Definition → List ℕ → Result TriggerText TriggerFault
snapshot_said definition text = said_after definition text (after (codes "!") text)

-- ---- what is said

-- what a text says of an event's triggers, or why it is refused
unfoldable pub said_of : Definition → List ℕ → Result TriggerText TriggerFault
said_of definition text = if list_all is_blank text then Ok Nothing
    else if begins (codes "hist:") text then (spec_of definition text >>= λ spec. Ok (Hist spec))
    else if begins (codes "!hist:") text then (spec_of definition text >>= λ spec. Ok (RemoveHist spec))
    else snapshot_said definition text

-- ---- what takes memory

-- the text without a `!` at its beginning
abbrev pub body_of : List ℕ → List ℕ
body_of text = unwrap_or (after (codes "!") text) text

-- a filter is written
abbrev pub IsFilterWritten : Result (Option (List ℕ)) TriggerFault → Type 0
IsFilterWritten (Ok (Some condition)) = Unit {0}
IsFilterWritten (Ok None) = ⊥
IsFilterWritten (Err fault) = ⊥

-- a text has a filter to read, the one part of a snapshot trigger that takes memory
abbrev pub HasFilter : List ℕ → Type 0
HasFilter text = IsFilterWritten (condition_of (after_word (body_of text)))

-- a text says something of a hist trigger
abbrev pub is_hist_text : List ℕ → Bool
is_hist_text text = begins (codes "hist:") text || begins (codes "!hist:") text
