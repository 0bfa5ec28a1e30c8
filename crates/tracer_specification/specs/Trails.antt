-- What one caller asked of a history, and what it was answered. A history is a list of entries here, the oldest first, as a book has them.
-- It is told in two pieces: `before`, what had been done when the caller began, and `after`, what was done since, by this caller and by others.
use Rattle.std.specs.Prelude.{◌≡◌, ◌≢◌, ℕ, ◌==◌, List, [], ◌∷◌, ◌++◌, map, filter, All, Result, Ok, Err}
use Rattle.tracer_specification.specs.History.{answer_to}
use Rattle.trace_command.specs.Commands.{Command}
use Rattle.trace_command.specs.declared.command.Config.{Config}
use Rattle.trace_command.specs.declared.command.Entry.{Entry}
use Rattle.trace_command.specs.declared.command.Reply.{Reply}
use Rattle.trace_command.specs.declared.refusal.Refusal.{Refusal}
use Rattle.trace_command.specs.declared.refusal.Refusal.TheVariants.{Worn}

-- no entry is of the caller with this number
abbrev pub IsWithout : ℕ → List Entry → Type 0
IsWithout by entries = All (λ entry. entry.by ≢ by) entries

-- a command was done after these entries: they answer it with this reply, and the entry is of this command and this caller
pub record IsDoneAfter (g : Config) (by : ℕ) (entries : List Entry) (command : Command) (reply : Reply) (entry : Entry) : Type 0 where
  pub answer : answer_to g entries command ≡ Ok reply
  pub of_caller : entry.by ≡ by
  pub of_command : entry.command ≡ command

-- a command was refused after these entries: they answer it with this refusal. Worn is no answer of a history, and says nothing of it
abbrev pub IsRefusedAfter : Config → List Entry → Command → Refusal → Type 0
IsRefusedAfter g entries command refusal = refusal ≢ Worn → answer_to g entries command ≡ Err refusal

-- The trail of a caller: what it asked, call by call, and what each call was answered. Each call stands at some place of the history, after the
-- call before it: what others did until then comes first. It is answered by all the entries before that place. If it was done, the entry there is
-- its own; if it was refused, it leaves none. The caller has no other entry.
abbrev pub IsTrail : Config → ℕ → List Entry → List Entry → List Command → List (Result Reply Refusal) → Type 0
IsTrail g by before after [] [] = IsWithout by after
IsTrail g by before after (command ∷ commands) (Ok reply ∷ replies) =
    (others : List Entry) × (entry : Entry) × (later : List Entry) × (after ≡ others ++ entry ∷ later) × IsWithout by others
    × IsDoneAfter g by (before ++ others) command reply entry × IsTrail g by (before ++ others ++ entry ∷ []) later commands replies
IsTrail g by before after (command ∷ commands) (Err refusal ∷ replies) =
    (others : List Entry) × (later : List Entry) × (after ≡ others ++ later) × IsWithout by others
    × IsRefusedAfter g (before ++ others) command refusal × IsTrail g by (before ++ others) later commands replies
-- there are as many replies as commands
IsTrail g by before after [] (reply ∷ replies) = ⊥
IsTrail g by before after (command ∷ commands) [] = ⊥

-- the commands of this caller's entries, in their order
abbrev pub commands_of : ℕ → List Entry → List Command
commands_of by entries = map (λ entry. entry.command) (filter (λ entry. entry.by == by) entries)

-- the commands that were done, in their order
abbrev pub done_of : List Command → List (Result Reply Refusal) → List Command
done_of (command ∷ commands) (Ok reply ∷ replies) = command ∷ done_of commands replies
done_of (command ∷ commands) (Err refusal ∷ replies) = done_of commands replies
done_of _ _ = []
