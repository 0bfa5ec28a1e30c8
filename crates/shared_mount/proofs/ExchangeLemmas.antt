-- An exchange does commands after those that were done before it.
use Rattle.std.proofs.Common.{◌≡◌, ℕ, List, [], ◌∷◌, ◌++◌, Option, Some, None, ap}
use Rattle.trace_command.specs.Requests.{Request}
use Rattle.mount_replies.specs.Mounted.{AreServed, IsExchanged, TellsOwed, Right, Wrong, Unframed}
use Rattle.mount_replies.specs.Owed.{Owed, ReplyAt, WakeupAt, owed, step_of_parked}
use Rattle.mount_replies.specs.Served.{step_of}
use Rattle.mount_replies.specs.Services.{Service, Terms, without_read}
use Rattle.mount_replies.proofs.PartLaws.{does-adds}

-- these were done after those
pub record Adds (past now : List Request) : Type 0 where
  pub commands : List Request
  pub is : now ≡ commands ++ past

adds-none : (before after : Service) → after ≡ before → Adds before.past after.past
adds-none before after same = record { commands = []; is = ap (λ (s : Service). s.past) same }

tells-adds : (g : Terms) (before : Service) (what : Option Owed) (bytes : List ℕ) (after : Service) → TellsOwed g before what bytes after
    → Adds before.past after.past
tells-adds g before None bytes after told = absurd told
tells-adds g before (Some (ReplyAt index)) bytes after told =
    let adds = does-adds g (without_read index before) after (step_of_parked g before told.read) (Some told.reply) told.does in
    record { commands = adds.done; is = adds.is }
tells-adds g before (Some (WakeupAt handle)) bytes after told = record { commands = []; is = ap (λ (s : Service). s.past) told.now }

served-adds : (g : Terms) (before : Service) (asked bytes : List ℕ) (after : Service) → AreServed g before asked bytes after → Adds before.past after.past
served-adds g before asked bytes after (Right request is served) =
    let adds = does-adds g before after (step_of g before request.unique request.pid served.node request.operation) served.reply served.does in
    record { commands = adds.done; is = adds.is }
served-adds g before asked bytes after (Wrong opcode unique framed none told same) = adds-none before after same
served-adds g before asked bytes after (Unframed none told same) = adds-none before after same

pub exchange-adds : (g : Terms) (before : Service) (asked bytes : List ℕ) (after : Service) → IsExchanged g before asked bytes after
    → Adds before.past after.past
exchange-adds g before [] bytes after is = tells-adds g before (owed g before) bytes after is
exchange-adds g before (byte ∷ asked) bytes after is = served-adds g before (byte ∷ asked) bytes after is.1
