-- What a look told in the turn of a call, if the call had one.
use Rattle.std.specs.Prelude.{◌≡◌, ◌⊎◌, ◌≢◌, List, Some}
use Rattle.trace_command.specs.declared.refusal.Refusal.TheVariants.{Worn}
use Rattle.trace_script.specs.declared.outcome.Outcome.TheVariants.{Refused}
use Rattle.shared_mount.specs.MountEntries.{EntrySeen}
use Rattle.library_tracer.specs.ConsolesSeen.{ConsoleSeen, Known}
use Rattle.library_tracer.specs.declared.console.Tried.{Tried}
use Rattle.library_tracer.specs.declared.console.Tried.TheVariants.{Busy}

-- The try had its turn, and this was shown of all that the caller has now seen.
pub record IsSeenNow {A : Type 0} (shown : List EntrySeen → A → Type 0) (after : ConsoleSeen) (tried : Tried) (answer : A) : Type 0 where
  pub now : Known
  pub has : after.has ≡ Some now
  pub shown_is : shown now.view.seen answer
  pub had_turn : tried ≢ Busy

-- It had none: somebody else had it, or all tickets are drawn.
abbrev pub HadNoTurn : ConsoleSeen → Tried → Type 0
HadNoTurn after tried = (tried ≡ Busy) ⊎ (after.last ≡ Refused Worn)
