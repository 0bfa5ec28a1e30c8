-- What a try of a console's call comes to: said by what its caller knew before it, and knows after it.
use Rattle.std.specs.Prelude.{◌≡◌, ◌⊎◌, ◌<◌, ◌^◌, ℕ, ℤ, Bool, true, false, List, [], codes, Option, Some, None, Result, Ok, Err}
use Rattle.ticket_lock.specs.Calls.{HasLooked, IsWorn}
use Rattle.trace_command.specs.Commands.{Command}
use Rattle.trace_command.specs.declared.command.CommandOf.TheVariants.{Emit}
use Rattle.trace_command.specs.declared.command.Reply.{Reply}
use Rattle.trace_command.specs.declared.command.Reply.TheVariants.{Done, Text}
use Rattle.trace_command.specs.declared.command.Config.{Config}
use Rattle.trace_command.specs.Paths.{address_of}
use Rattle.trace_command.specs.Requests.{Request, request_of}
use Rattle.trace_command.specs.declared.refusal.Refusal.{Refusal}
use Rattle.trace_command.specs.declared.refusal.Refusal.TheVariants.{Memory, Worn}
use Rattle.trace_format.specs.declared.field_value.FieldValue.{FieldValue}
use Rattle.trace_format.specs.declared.pair.Pair.{Pair}
use Rattle.tracer_specification.specs.Settings.{declared_events}
use Rattle.tracer_specification.specs.Waiting.{waiting}
use Rattle.tracer_state.specs.ValueEmissions.{values_emission}
use Rattle.trace_script.specs.Lines.{line_of}
use Rattle.trace_script.specs.declared.fault.LineError.{LineError}
use Rattle.trace_script.specs.declared.fault.LineError.TheVariants as errors
use Rattle.trace_script.specs.declared.fault.ScriptFault.{ScriptFault}
use Rattle.trace_script.specs.declared.fault.ScriptFault.TheVariants.{WrongWords, BlockOutOfPlace}
use Rattle.trace_script.specs.declared.line.Line.{Line}
use Rattle.trace_script.specs.declared.line.Line.TheVariants.{Blank, Ask, Parallel, Thread, End}
use Rattle.trace_script.specs.declared.outcome.Outcome.{Outcome}
use Rattle.trace_script.specs.declared.outcome.Outcome.TheVariants.{Replied, Refused, Fault}
use Rattle.refusal_explanations.specs.Words.{command_words, injection_words}
use Rattle.shared_mount.specs.LiveMountSeen.{numbers_of}
use Rattle.shared_mount.specs.MountCallers.{IsIdle, Serves, TakesTurn, calls, terms_of}
use Rattle.shared_mount.specs.MountEntries.{EntrySeen, done_in}
use Rattle.shared_mount.specs.declared.served.Served.{Served}
use Rattle.shared_mount.specs.declared.shared.SharedMount.{SharedMount}
use Rattle.library_tracer.specs.ConsolesSeen.{ConsoleSeen, Known}
use Rattle.library_tracer.specs.Fields.{fields_in, pairs_in}
use Rattle.library_tracer.specs.ListedFiles.{files_after}
use Rattle.library_tracer.specs.Sentences.{answer_words, told_words, words_of}
use Rattle.library_tracer.specs.Statuses.{status_of}
use Rattle.library_tracer.specs.declared.console.Tried.{Tried}
use Rattle.library_tracer.specs.declared.console.Tried.TheVariants.{Told, Busy}

-- ---- what a call asks

-- Nothing is asked, and this is told, with these words; or this request is asked, of a tracer with these entries, and a refusal of it has these words.
pub data Said : Type 0 where
  Tells : Outcome → List ℕ → Said
  Asks : (List EntrySeen → Request) → (Refusal → List ℕ) → Said

-- a command, whatever the history
abbrev pub says : Command → Said
says command = Asks (λ entries. request_of command) (command_words command)

-- nothing is asked, and this is told of a line
abbrev pub tells : List ℕ → Outcome → Said
tells line outcome = Tells outcome (told_words line outcome)

-- a line that was read: a line of a parallel part is out of place
abbrev pub said_by : List ℕ → Result Line ScriptFault → Said
said_by line (Ok Blank) = tells line (Replied Done)
said_by line (Ok (Ask command)) = says command
said_by line (Ok Parallel) = tells line (Fault BlockOutOfPlace)
said_by line (Ok Thread) = tells line (Fault BlockOutOfPlace)
said_by line (Ok End) = tells line (Fault BlockOutOfPlace)
said_by line (Err fault) = tells line (Fault fault)

abbrev pub said_line : List ℕ → Said
said_line line = said_by line (line_of line)

-- an emission whose fields are pairs, or wrong
abbrev pub said_pairs : List ℕ → ℕ → ℤ → Option (List Pair) → Said
said_pairs event cpu pid None = Tells (Fault WrongWords) (injection_words None)
said_pairs event cpu pid (Some pairs) = says (Emit event cpu pid pairs)

-- an emission of a string of fields
abbrev pub said_emission : List ℕ → ℕ → ℤ → List ℕ → Said
said_emission event cpu pid fields = said_pairs event cpu pid (pairs_in (fields_in fields))

-- an emission of values, of the event of a number among those that the entries found declare
abbrev pub values_asked : ℕ → ℕ → ℤ → List FieldValue → List EntrySeen → Request
values_asked event cpu pid values entries = values_emission (declared_events (done_in entries)) event cpu pid values

-- its refusals have the words of an emission's
abbrev pub values_words : Refusal → List ℕ
values_words refusal = injection_words (Some refusal)

abbrev pub said_values : ℕ → ℕ → ℤ → List FieldValue → Said
said_values event cpu pid values = Asks (values_asked event cpu pid values) values_words

-- ---- what it comes to

-- a console with the last outcome of another, and its words
abbrev pub with_last : ConsoleSeen → ConsoleSeen → ConsoleSeen
with_last other console = record console { last = other.last; words = other.words }

-- what is kept of the last call: this, with these words
abbrev pub Keeps : Outcome → List ℕ → ConsoleSeen → Type 0
Keeps outcome words console = (console.last ≡ outcome) × (console.words ≡ words)

-- an answer as an outcome
abbrev pub outcome_of : Result Reply Refusal → Outcome
outcome_of (Ok reply) = Replied reply
outcome_of (Err refusal) = Refused refusal

-- The call had a turn, in which the tracer gave this answer to the request, and then something is owed, or nothing is. Nothing else of the console
-- changes, but that it is in line no longer. The answer is the one that the commands done before give, or Memory, and never Worn (`IsPromised`).
pub record IsAnswered (request : List EntrySeen → Request) (words : Refusal → List ℕ) (answer : Result Reply Refusal) (owes : Bool)
    (before after : ConsoleSeen) : Type 0 where
  pub was : Known
  pub now : Known
  pub had : before.has ≡ Some was
  pub left : after ≡ record before { has = Some now; is_in_line = false; last = outcome_of answer; words = answer_words words answer }
  pub base : was.view.base ≡ numbers_of before.terms
  pub turn : TakesTurn before.terms was.view now.view (calls request answer) owes

-- Somebody else has a turn, or is in line: nothing was run. The caller knows what it knew, and perhaps of later tickets. If it is not in
-- line, tickets are left.
pub record IsBusy (before after : ConsoleSeen) : Type 0 where
  pub was : Known
  pub now : Known
  pub had : before.has ≡ Some was
  pub left : after ≡ record before { has = Some now }
  pub view : HasLooked was.view now.view ⊎ (now.view ≡ was.view)
  pub tickets : before.is_in_line ≡ false → now.view.front < 2 ^ 63

-- All tickets are drawn: nothing is seen any more.
pub record IsWornOut (before after : ConsoleSeen) : Type 0 where
  pub was : Known
  pub now : Known
  pub had : before.has ≡ Some was
  pub left : after ≡ record before { has = Some now }
  pub worn : IsWorn was.view now.view

-- All tickets were drawn before: nothing was run, and Worn is told, with its words. One that is in line has its ticket, so it isn't.
pub record IsTooLate (words : Refusal → List ℕ) (before after : ConsoleSeen) : Type 0 where
  pub worn : IsWornOut before (with_last before after)
  pub keeps : Keeps (Refused Worn) (words Worn) after
  pub idle : before.is_in_line ≡ false

-- a try of a call that says this
abbrev pub Comes : Said → ConsoleSeen → ConsoleSeen → Tried → Type 0
Comes (Tells outcome words) before after (Told status owes) =
    (after ≡ record before { last = outcome; words = words_of outcome words }) × (status ≡ status_of outcome) × (owes ≡ false)
Comes (Tells outcome words) before after Busy = ⊥
Comes (Asks request words) before after (Told status owes) =
    (((answer : Result Reply Refusal) × IsAnswered request words answer owes before after) ⊎ (IsTooLate words before after × (owes ≡ false)))
    × (status ≡ status_of after.last)
Comes (Asks request words) before after Busy = IsBusy before after

-- memory was refused before the tracer was asked
abbrev pub LacksMemory : ConsoleSeen → ConsoleSeen → Tried → Type 0
LacksMemory before after tried = Comes (Tells (Refused Memory) (codes "out of memory")) before after tried

-- what is told of a line that was not read
abbrev pub failed : LineError → Outcome
failed (errors.Fault fault) = Fault fault
failed errors.Memory = Refused Memory

-- ---- looks

-- The caller had a turn and asked nothing, and the console is in line no longer. `shown` holds of the entries found.
pub record HasSeen (shown : List EntrySeen → Type 0) (before after : ConsoleSeen) : Type 0 where
  pub was : Known
  pub now : Known
  pub had : before.has ≡ Some was
  pub left : after ≡ record before { has = Some now; is_in_line = false }
  pub base : was.view.base ≡ numbers_of before.terms
  pub idle : IsIdle before.terms was.view now.view
  pub shown_is : shown now.view.seen

-- a look in one try, which shows this of the entries found
abbrev pub Looks : {S : Type 0} → (List EntrySeen → S → Type 0) → ConsoleSeen → ConsoleSeen → Option (Result S Refusal) → Type 0
Looks shows before after None = IsBusy before after
Looks shows before after (Some (Ok seen)) = HasSeen (λ entries. shows entries seen) before after
Looks shows before after (Some (Err refusal)) = (refusal ≡ Worn) × IsWornOut before after

-- The list is the reply, of the files that there are after the entries found; or memory was refused, or all tickets are drawn.
abbrev pub IsListed : ConsoleSeen → ConsoleSeen → Type 0
IsListed before after =
    ((text : List ℕ) × HasSeen (λ entries. text ≡ files_after before.terms.mount.config (done_in entries)) before (with_last before after)
    × Keeps (Replied (Text text)) [] after)
    ⊎ (HasSeen (λ entries. Unit {0}) before (with_last before after) × Keeps (Refused Memory) (codes "out of memory") after)
    ⊎ (IsWornOut before (with_last before after) × Keeps (Refused Worn) (codes "all tickets are drawn") after)

abbrev pub Lists : ConsoleSeen → ConsoleSeen → Tried → Type 0
Lists before after Busy = IsBusy before after
Lists before after (Told status owes) = (status ≡ status_of after.last) × (owes ≡ false) × IsListed before after

-- whether a record waits in the pipe at this path, by the configuration and the entries found
abbrev pub shows_waiting : Config → List ℕ → List EntrySeen → Result Bool Refusal → Type 0
shows_waiting g path entries waits = waits ≡ waiting g (done_in entries) (address_of path).instance (address_of path).file

-- that is told, or Worn once all tickets are drawn
abbrev pub TellsWaiting : List ℕ → ConsoleSeen → ConsoleSeen → Option (Result Bool Refusal) → Type 0
TellsWaiting path before after None = IsBusy before after
TellsWaiting path before after (Some waits) =
    HasSeen (λ entries. shows_waiting before.terms.mount.config path entries waits) before after ⊎ ((waits ≡ Err Worn) × IsWornOut before after)

-- ---- the mount

-- The caller had a turn that serves, of which these bytes were read and those are in the reply. Nothing else of the console changes, but that it is in line
-- no longer.
pub record HasServed (asked bytes : List ℕ) (owes : Bool) (served : Served) (before after : ConsoleSeen) : Type 0 where
  pub was : Known
  pub now : Known
  pub had : before.has ≡ Some was
  pub left : after ≡ record before { has = Some now; is_in_line = false }
  pub base : was.view.base ≡ numbers_of before.terms
  pub serves : Serves before.terms asked bytes owes was.view now.view served

-- One try of it: it had no turn, and nothing was served; or it had one, or all tickets were drawn.
abbrev pub ServesOnce : List ℕ → List ℕ → Bool → ConsoleSeen → ConsoleSeen → Option (Result Served Refusal) → Type 0
ServesOnce asked bytes owes before after None = IsBusy before after × (bytes ≡ [])
ServesOnce asked bytes owes before after (Some (Ok served)) = HasServed asked bytes owes served before after
ServesOnce asked bytes owes before after (Some (Err refusal)) = (refusal ≡ Worn) × IsWornOut before after × (bytes ≡ [])

-- ---- the end

-- the tracer is the console's
abbrev pub IsOfTracer : SharedMount → ConsoleSeen → Type 0
IsOfTracer shared console = (shared.lock.table.shared.table_id ≡ console.tracer) × (terms_of shared ≡ console.terms)

-- The console has given its caller back, which knows this: what it knew, unless it was in line and had its turn.
pub record HasLeft (before after : ConsoleSeen) (known : Known) : Type 0 where
  pub was : Known
  pub had : before.has ≡ Some was
  pub left : after ≡ record before { has = None; is_in_line = false }
  pub idle : before.is_in_line ≡ false → known ≡ was
  pub turn : before.is_in_line ≡ true → IsIdle before.terms was.view known.view
