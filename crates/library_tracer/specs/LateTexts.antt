-- Reads of a trace or of a histogram, whose text is made after their turn, of a copy that was taken in it.
use Rattle.std.specs.Prelude.{◌≡◌, ◌⊎◌, ℕ, Bool, true, false, List, Option, Some, None, Result, Ok, Err}
use Rattle.refusal_explanations.specs.Words.{command_words}
use Rattle.trace_command.specs.Paths.{File, OfCpu, OfEvent, OfInstance, address_of}
use Rattle.trace_command.specs.Requests.{request_of}
use Rattle.trace_command.specs.declared.command.CommandOf.TheVariants.{Read}
use Rattle.trace_command.specs.declared.command.Reply.{Reply}
use Rattle.trace_command.specs.declared.file_name.CpuFile.TheVariants as per_cpu
use Rattle.trace_command.specs.declared.file_name.EventFile.TheVariants as per_event
use Rattle.trace_command.specs.declared.file_name.TopFile.TheVariants as top
use Rattle.trace_command.specs.declared.refusal.Refusal.{Refusal}
use Rattle.trace_command.specs.declared.refusal.Refusal.TheVariants.{Memory}
use Rattle.trace_script.specs.declared.outcome.Outcome.TheVariants.{Refused}
use Rattle.shared_mount.specs.LiveMountSeen.{numbers_of}
use Rattle.shared_mount.specs.MountCallers.{TakesTurn, calls}
use Rattle.library_tracer.specs.Consoles.{Comes, says}
use Rattle.library_tracer.specs.ConsolesSeen.{ConsoleSeen, Known}
use Rattle.library_tracer.specs.Statuses.{status_of}
use Rattle.library_tracer.specs.declared.console.Tried.{Tried}
use Rattle.library_tracer.specs.declared.console.Tried.TheVariants.{Told}

-- the file's text may be long, and a read to its end makes it after the turn: that of a trace, of all CPUs or of one, of the spare side, or of an event's
-- histogram
abbrev pub has_late_text : Option File → Bool
has_late_text (Some (OfInstance top.Trace)) = true
has_late_text (Some (OfInstance top.Snapshot)) = true
has_late_text (Some (OfCpu cpu per_cpu.Trace)) = true
has_late_text (Some (OfEvent event per_event.Hist)) = true
has_late_text _ = false

-- what is told of an answer: it, or that memory is refused for the reply that it is
abbrev pub MayLoseText : Result Reply Refusal → Result Reply Refusal → Type 0
MayLoseText (Ok reply) told = (told ≡ Ok reply) ⊎ (told ≡ Err Memory)
MayLoseText (Err refusal) told = told ≡ Err refusal

-- A read to its end had its turn and was done, with this reply, as the history of all turns says; but after the turn memory for the reply's text was refused,
-- and `Memory` is told. It comes only of a file whose text is made late (`late`), and never where the tracer refused the read (`turn`: its answer is a
-- reply). Nothing else of the console changes, but that it is in line no longer. (A read that is told `Memory` otherwise was not done: `IsAnswered`.)
pub record LosesText (path : List ℕ) (owes : Bool) (before after : ConsoleSeen) : Type 0 where
  pub late : has_late_text (address_of path).file ≡ true
  pub was : Known
  pub now : Known
  pub reply : Reply
  pub had : before.has ≡ Some was
  pub left : after ≡ record before {
    has = Some now;
    is_in_line = false;
    last = Refused Memory;
    words = command_words (Read path None) Memory;
  }
  pub base : was.view.base ≡ numbers_of before.terms
  pub turn : TakesTurn before.terms was.view now.view (calls (λ entries. request_of (Read path None)) (Ok reply)) owes

-- A try of a read. One to the end of a file whose text is made late may lose it.
abbrev pub Reads : List ℕ → Option ℕ → ConsoleSeen → ConsoleSeen → Tried → Type 0
Reads path None before after (Told status owes) =
    Comes (says (Read path None)) before after (Told status owes) ⊎ (LosesText path owes before after × (status ≡ status_of after.last))
Reads path limit before after tried = Comes (says (Read path limit)) before after tried
