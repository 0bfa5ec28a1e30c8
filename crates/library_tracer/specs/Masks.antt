-- What a try of a call tells of the events that are wanted.
use Rattle.std.specs.Prelude.{◌≡◌, ◌⊎◌, List, length, Some}
use Rattle.trace_command.specs.declared.refusal.Refusal.TheVariants.{Worn}
use Rattle.tracer.specs.LiveMasks.{IsMaskAfter}
use Rattle.trace_script.specs.declared.outcome.Outcome.TheVariants.{Refused}
use Rattle.shared_mount.specs.MountEntries.{EntrySeen, done_in}
use Rattle.library_tracer.specs.Consoles.{Asks, Said, Tells}
use Rattle.library_tracer.specs.ConsolesSeen.{ConsoleSeen, Known}
use Rattle.library_tracer.specs.declared.console.Tried.{Tried}
use Rattle.library_tracer.specs.declared.console.Tried.TheVariants.{Busy, Told}
use Rattle.library_tracer.specs.declared.mask.Mask.{Mask}

-- It has the events that are wanted after these entries, and the number of commands that were done.
pub record IsMaskOf (entries : List EntrySeen) (mask : Mask) : Type 0 where
  pub count : mask.entries ≡ length (done_in entries)
  pub events : IsMaskAfter (done_in entries) mask.events

-- It is the mask of all that the console's caller has now seen.
pub record IsMaskSeen (console : ConsoleSeen) (mask : Mask) : Type 0 where
  pub now : Known
  pub has : console.has ≡ Some now
  pub is : IsMaskOf now.view.seen mask

-- A call that had a turn told the mask in it: that after the call. One that asked nothing, had no turn or came when all tickets were drawn left what
-- was there.
abbrev pub Masks : Said → ConsoleSeen → Tried → Mask → Mask → Type 0
Masks (Tells outcome words) after tried was now = now ≡ was
Masks (Asks request words) after Busy was now = now ≡ was
Masks (Asks request words) after (Told status owes) was now = IsMaskSeen after now ⊎ ((after.last ≡ Refused Worn) × (now ≡ was))
