-- The history of a mounted tracer that callers share: an entry for each turn, oldest first.
use Rattle.std.specs.Prelude.{ℕ, List, [], ◌∷◌, ◌++◌, Result, Ok, Err}
use Rattle.trace_command.specs.Requests.{Request}
use Rattle.trace_command.specs.declared.command.Reply.{Reply}
use Rattle.trace_command.specs.declared.refusal.Refusal.{Refusal}
use Rattle.mount_replies.specs.Calls.{Turn, Called, Exchanged, Shows}
use Rattle.mount_replies.specs.declared.shown.ShownText.{ShownText}

-- What a turn did: a call got its answer; or bytes were read and others written, as a request is served or, for none read, what is owed is told, which
-- did these commands, the last one first; or a request was served of a text that was made beside the turns.
pub data Deed : Type 0 where
  DidCall : (request : Request) (answer : Result Reply Refusal) → Deed
  DidExchange : (asked bytes : List ℕ) (commands : List Request) → Deed
  DidShow : (shown : ShownText) (asked bytes : List ℕ) → Deed

-- the ticket of its turn, the number of the caller that had it, and what it did
pub record EntrySeen : Type 0 where
  pub ticket : ℕ
  pub by : ℕ
  pub deed : Deed

-- no value of `Entry` is made, so this is of none
abbrev pub no_entry : EntrySeen
no_entry = record { ticket = 0; by = 0; deed = DidExchange [] [] [] }

-- ---- what was done

-- the command of a call, if it was done
abbrev pub command_if_done : Result Reply Refusal → Request → List Request
command_if_done (Ok reply) request = request ∷ []
command_if_done (Err refusal) request = []

-- the commands that a turn did, the last one first
abbrev pub commands_of : Deed → List Request
commands_of (DidCall request answer) = command_if_done answer request
commands_of (DidExchange asked bytes commands) = commands
commands_of (DidShow shown asked bytes) = []

-- all that were done in these turns, the last one first
abbrev pub done_in : List EntrySeen → List Request
done_in [] = []
done_in (entry ∷ later) = done_in later ++ commands_of entry.deed

-- as turns of a mounted tracer, where calls do nothing more once so many commands were done
abbrev pub turn_of : ℕ → Deed → Turn
turn_of limit (DidCall request answer) = Called limit request answer
turn_of limit (DidExchange asked bytes commands) = Exchanged asked bytes
turn_of limit (DidShow shown asked bytes) = Shows shown asked bytes

-- ---- fields

abbrev pub ticket_of : EntrySeen → ℕ
ticket_of entry = entry.ticket

-- the number of the caller whose turn it was
abbrev pub caller_of : EntrySeen → ℕ
caller_of entry = entry.by
