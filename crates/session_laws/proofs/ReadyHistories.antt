-- Histories after which a part can run: they are legal, and so few tickets were drawn that there are some left.
use Rattle.std.proofs.Common.{◌≡◌, ℕ, ◌+◌, ◌≤◌, ◌<◌, ◌^◌, List, [], ◌∷◌, ◌++◌, length, All, Result, Ok, IsOk, refl, sym, ap, subst, ◌∙◌, arith, length-append}
use Rattle.std.proofs.lemmas.List.Elements.{All-push, All-weaker}
use Rattle.trace_command.specs.Configs.{IsInRange}
use Rattle.trace_command.specs.Requests.{Request, request_of, FitsItsTypes}
use Rattle.trace_command.specs.Commands.{Command}
use Rattle.trace_command.specs.declared.command.Config.{Config}
use Rattle.trace_command.specs.declared.command.Entry.{Entry}
use Rattle.trace_command.specs.declared.command.Reply.{Reply}
use Rattle.trace_command.specs.declared.refusal.Refusal.{Refusal}
use Rattle.tracer_specification.proofs.LegalEvents.{done-had_room}
use Rattle.tracer_specification.specs.History.{IsLegal, answer_to, past_of}
use Rattle.trace_session.specs.Sessions.{Progress, so_far}
use Rattle.tracer_state.proofs.Histories.{IsLegal-push, length-past_of, past_of-push}

-- Where so many items ran, no more tickets were drawn than these and the commands that were done.
pub record IsReady (g : Config) (items : ℕ) (now : Progress) : Type 0 where
  pub legal : IsLegal g now.entries
  pub below : All (λ (entry : Entry). entry.ticket < now.asked) now.entries
  pub few : now.asked ≤ items + length now.entries

-- of entries that were as ready as these, with the same commands
pub record Follows (g : Config) (items : ℕ) (given now : Progress) : Type 0 where
  pub same : past_of given.entries ≡ past_of now.entries
  pub ready : IsReady g items now

abbrev pub entry_by : Progress → ℕ → Command → Entry
entry_by now by command = record { ticket = now.asked; by = by; command = command }

-- one command more is done
abbrev pub after_one : Progress → ℕ → Command → Progress
after_one now by command = so_far (now.entries ++ entry_by now by command ∷ []) (now.asked + 1)

pub is_done : (answered : Result Reply Refusal) (reply : Reply) → answered ≡ Ok reply → IsOk answered
is_done answered reply is = subst (λ (r : Result Reply Refusal). IsOk r) (sym is) refl

module _ (g : Config) (items : ℕ) (range : IsInRange g) (some_left : items < 2 ^ 63 + 2) where
  pub ready_after : (now : Progress) (by : ℕ) (command : Command) → IsReady g items now → by < 2 ^ 32 → FitsItsTypes (request_of command)
      → IsOk (answer_to g now.entries command) → IsReady g items (after_one now by command)
  ready_after now by command ready caller fits done =
      let room : length (past_of now.entries) < g.history_limit = (done-had_room g (past_of now.entries) (request_of command) done).1 in
      let short : now.asked < 2 ^ 64 = omega (arith, room, length-past_of now.entries, ready.few, range.few_entries, some_left) in
      let Before : ℕ → Entry → Type 0 = λ ticket entry. entry.ticket < ticket in
      record {
        legal = IsLegal-push g now.entries (entry_by now by command) ready.legal (short, caller, fits) ready.below done;
        below = All-push (Before (now.asked + 1)) now.entries (entry_by now by command)
            (All-weaker (Before now.asked) (Before (now.asked + 1)) (λ entry below. omega (arith, below)) now.entries ready.below) (omega arith);
        few = omega (arith, ready.few, length-append now.entries (entry_by now by command ∷ []));
      }

-- an item more ran, of which no command was done
pub ready_more : (g : Config) (items : ℕ) (now : Progress) → IsReady g items now → IsReady g (items + 1) now
ready_more g items now ready = record { legal = ready.legal; below = ready.below; few = omega (arith, ready.few) }

pub ready_asked : (g : Config) (items : ℕ) (now : Progress) → IsReady g items now → IsReady g (items + 1) (so_far now.entries (now.asked + 1))
ready_asked g items now ready = record {
  legal = ready.legal;
  below = All-weaker (λ (entry : Entry). entry.ticket < now.asked) (λ (entry : Entry). entry.ticket < now.asked + 1)
      (λ entry below. omega (arith, below)) now.entries ready.below;
  few = omega (arith, ready.few);
}

-- ---- the same commands

pub same_push : (given now : List Entry) (one other : Entry) → past_of given ≡ past_of now → one.command ≡ other.command
    → past_of (given ++ one ∷ []) ≡ past_of (now ++ other ∷ [])
same_push given now one other same command =
    past_of-push given one
    ∙ (ap (λ (c : Command). request_of c ∷ past_of given) command ∙ ap (λ (past : List Request). request_of other.command ∷ past) same)
    ∙ sym (past_of-push now other)
