-- What one try at a request of the mount comes to: it may be served of a text which was made beside the turns.
use Rattle.std.specs.Prelude.{◌≡◌, ◌⊎◌, true, false, List, ℕ, [], Option, Some, None, Result, Ok, Err, IfSome}
use Rattle.ticket_lock.specs.declared.views.View.{View}
use Rattle.trace_command.specs.declared.refusal.Refusal.{Refusal}
use Rattle.trace_command.specs.declared.refusal.Refusal.TheVariants.{Worn}
use Rattle.mount_replies.specs.ShownTexts.{IsText}
use Rattle.mount_replies.specs.declared.shown.ShownText.{ShownText}
use Rattle.shared_mount.specs.LiveMountSeen.{SharedTerms, numbers_of}
use Rattle.shared_mount.specs.MountCallers.{IsIdle, TakesTurn, exchanges}
use Rattle.shared_mount.specs.MountEntries.{Deed, DidShow, EntrySeen, done_in}
use Rattle.shared_mount.specs.MountHistories.{IsOwing}
use Rattle.shared_mount.specs.declared.served.Served.{Served}
use Rattle.shared_mount.specs.declared.served.Served.TheVariants.{Done, NotNow}
use Rattle.library_tracer.specs.Consoles.{HasSeen, IsBusy, IsWornOut}
use Rattle.library_tracer.specs.ConsolesSeen.{ConsoleSeen, Known}

-- its file has this text after these turns, all of them
abbrev pub IsShownAfter : SharedTerms → List EntrySeen → ShownText → Type 0
IsShownAfter g seen shown = IsText g.mount (done_in seen) shown.owner shown.file shown.after shown.text

-- after all that a console's caller has seen
abbrev pub IsShownTo : ConsoleSeen → ShownText → Type 0
IsShownTo console shown = IfSome console.has (λ known. IsShownAfter console.terms known.view.seen shown)

-- These bytes were read, and those written: as ever, or of a long text, which is its file's after all that the caller had seen before the turn (`seen`). So a
-- caller that has seen a command done is shown no text from before it.
abbrev pub answers : SharedTerms → List EntrySeen → List ℕ → List ℕ → List EntrySeen → Deed → Type 0
answers g seen asked bytes found deed =
    ((shown : ShownText) × IsShownAfter g seen shown × (deed ≡ DidShow shown asked bytes)) ⊎ exchanges asked bytes found deed

-- what a turn came to that serves: it is not the time where something is owed
abbrev pub ServesAny : SharedTerms → List ℕ → List ℕ → View EntrySeen → View EntrySeen → Served → Type 0
ServesAny g asked bytes v w (Done owes) = TakesTurn g v w (answers g v.seen asked bytes) owes
ServesAny g asked bytes v w NotNow = IsIdle g v w × IsOwing g w.seen true × (bytes ≡ [])

-- The caller had a turn that serves. Nothing else of the console changes, but that it is in line no longer.
pub record HasAnswered (asked bytes : List ℕ) (served : Served) (before after : ConsoleSeen) : Type 0 where
  pub was : Known
  pub now : Known
  pub had : before.has ≡ Some was
  pub left : after ≡ record before { has = Some now; is_in_line = false }
  pub base : was.view.base ≡ numbers_of before.terms
  pub serves : ServesAny before.terms asked bytes was.view now.view served

-- It had no turn, and nothing was served; or it had one, or all tickets were drawn.
abbrev pub AnswersOnce : List ℕ → List ℕ → ConsoleSeen → ConsoleSeen → Option (Result Served Refusal) → Type 0
AnswersOnce asked bytes before after None = IsBusy before after × (bytes ≡ [])
AnswersOnce asked bytes before after (Some (Ok served)) = HasAnswered asked bytes served before after
AnswersOnce asked bytes before after (Some (Err refusal)) = (refusal ≡ Worn) × IsWornOut before after × (bytes ≡ [])

-- One try at a request: perhaps it had a turn before in which a long text was copied, and nothing done. Then the text that it may be served of is the one
-- after that turn, and otherwise the one after all that the caller knew before the try.
abbrev pub Answers : List ℕ → List ℕ → ConsoleSeen → ConsoleSeen → Option (Result Served Refusal) → Type 0
Answers asked bytes before after tried =
    AnswersOnce asked bytes before after tried
    ⊎ ((between : ConsoleSeen) × HasSeen (λ entries. Unit {0}) before between × AnswersOnce asked bytes between after tried)
