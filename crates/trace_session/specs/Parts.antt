-- What a session may write for a script with parts, and with which status. Each part's threads may have their turns in any order, so a script
-- may have several lawful sessions. They are told by histories alone.
use Rattle.std.specs.Prelude.{◌≡◌, ℕ, ◌+◌, ◌≤◌, ◌<◌, Bool, true, false, List, [], ◌∷◌, ◌++◌, map, flat_map, take, All, Option, Some, Result}
use Rattle.std.specs.List.{list_any}
use Rattle.tracer_specification.specs.Blocks.{Trail, IsBlock, IsUnworn}
use Rattle.trace_command.specs.declared.command.Config.{Config}
use Rattle.trace_command.specs.declared.command.Entry.{Entry}
use Rattle.trace_command.specs.declared.command.Reply.{Reply}
use Rattle.trace_command.specs.declared.refusal.Refusal.{Refusal}
use Rattle.script_reader.specs.Items.{Item, Single, Threads, Faulty, items_of}
use Rattle.script_reader.specs.declared.part.Numbered.{Numbered}
use Rattle.parallel_output.specs.ThreadLines.{outcome_of, thread_line}
use Rattle.trace_script.specs.Rendering.{rendered}
use Rattle.trace_script.specs.declared.outcome.Outcome.{Outcome}
use Rattle.trace_script.specs.declared.outcome.Outcome.TheVariants as outcomes
use Rattle.trace_session.specs.Sessions.{Progress, Session, beginning, turn_of, is_fault, text_of, status_of, session}

-- ---- a part

-- The threads' replies, where the history was `before` and the part's threads made `after` of it: each thread's commands and replies are the
-- trail of a caller, no two threads have one caller's number, and each entry since is of one of them. All were asked, since no reply is Worn.
pub record IsDonePart (g : Config) (before after : List Entry) (threads : List (List Numbered)) (replies : List (List (Result Reply Refusal))) : Type 0 where
  pub trails : List Trail
  pub commands : map (λ (trail : Trail). trail.commands) trails ≡ map (map (λ (asked : Numbered). asked.command)) threads
  pub replied : map (λ (trail : Trail). trail.replies) trails ≡ replies
  pub block : IsBlock g before after trails
  pub unworn : All IsUnworn replies

-- what is written for commands of a thread: for each what is written for its line
abbrev pub replies_text : List Numbered → List (Result Reply Refusal) → List ℕ
replies_text (asked ∷ thread) (reply ∷ replies) = rendered asked.number (outcome_of reply) ++ replies_text thread replies
replies_text _ _ = []

-- what is written for the threads of a part from this one on: its line, and what its commands give
abbrev pub threads_text : ℕ → List (List Numbered) → List (List (Result Reply Refusal)) → List ℕ
threads_text thread (commands ∷ threads) (replies ∷ more) = thread_line thread ++ replies_text commands replies ++ threads_text (thread + 1) threads more
threads_text thread _ _ = []

-- what becomes of the commands of a part
abbrev pub outcomes_in : List (List (Result Reply Refusal)) → List (Option Outcome)
outcomes_in replies = flat_map (map (λ reply. Some (outcome_of reply))) replies

-- ---- items

-- what an item gives: what is written for it, and what became of its line or of its commands
pub record Given : Type 0 where
  pub text : List ℕ
  pub outcomes : List (Option Outcome)

-- what a line gives
abbrev pub given_by : ℕ → Option Outcome → Given
given_by number outcome = record { text = text_of number outcome; outcomes = outcome ∷ [] }

-- A part may give this: its threads' replies are those of a done part, and the later commands are asked with tickets above all of these.
pub record PartMayGive (g : Config) (threads : List (List Numbered)) (before after : Progress) (given : Given) : Type 0 where
  pub since : List Entry
  pub entries : after.entries ≡ before.entries ++ since
  pub replies : List (List (Result Reply Refusal))
  pub done : IsDonePart g before.entries since threads replies
  pub asked : before.asked ≤ after.asked
  pub tickets : All (λ (entry : Entry). entry.ticket < after.asked) after.entries
  pub text : given.text ≡ threads_text 0 threads replies
  pub outcomes : given.outcomes ≡ outcomes_in replies

-- the item may give this, and may bring the session from one progress to the other. Only a part may give more than one thing
abbrev pub MayGive : Config → Item → Progress → Progress → Given → Type 0
MayGive g (Single number line) before after given =
    (given ≡ given_by number (turn_of g before line).outcome) × (after ≡ (turn_of g before line).progress)
MayGive g (Threads threads) before after given = PartMayGive g threads before after given
MayGive g (Faulty at) before after given =
    (given ≡ given_by at.number (Some (outcomes.Fault at.fault))) × (after ≡ before)

-- a fault ends the session
abbrev pub ends : Given → Bool
ends given = list_any is_fault given.outcomes

-- a fault is the last that is given, or else the rest holds of what is given after it
abbrev pub EndsOr : Bool → List Given → Type 0 → Type 0
EndsOr true more rest = more ≡ []
EndsOr false more rest = rest

-- items in turn, up to the first fault, may give this
abbrev pub MayGiveAll : Config → Progress → List Item → List Given → Type 0
MayGiveAll g before [] [] = Unit {0}
MayGiveAll g before [] (given ∷ more) = ⊥
MayGiveAll g before (item ∷ items) [] = ⊥
MayGiveAll g before (item ∷ items) (given ∷ more) =
    (after : Progress) × MayGive g item before after given × EndsOr (ends given) more (MayGiveAll g after items more)

-- the session that gives this
abbrev pub session_with : List Given → Session
session_with given = record {
  texts = map (λ (one : Given). one.text) given;
  status = status_of (flat_map (λ (one : Given). one.outcomes) given);
}

-- a lawful session of the script
abbrev pub IsSession : Config → List ℕ → Session → Type 0
IsSession g script session = (given : List Given) × MayGiveAll g beginning (items_of script) given × (session ≡ session_with given)

-- the texts of the first items of the script, as many as a session came to
abbrev pub IsBegun : Config → List ℕ → List (List ℕ) → Type 0
IsBegun g script texts =
    (count : ℕ) × (given : List Given) × MayGiveAll g beginning (take count (items_of script)) given × (texts ≡ map (λ (one : Given). one.text) given)
