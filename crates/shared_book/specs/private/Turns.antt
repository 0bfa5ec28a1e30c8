-- A turn at the lock, and what it comes to.
use Rattle.std.specs.Prelude.{◌≡◌, ℕ, List, Result, IfOk, IfErr}
use Rattle.ticket_lock.specs.Calls.{IsDrawn, Finds}
use Rattle.ticket_lock.specs.declared.views.View.{View}
use Rattle.tracer_specification.specs.History.{IsLegal}
use Rattle.shared_book.specs.Asks.{GoesOn, IsDone, IsRefused}
use Rattle.shared_book.specs.Bases.{numbers_of}
use Rattle.trace_command.specs.Commands.{Command}
use Rattle.trace_command.specs.declared.command.Config.{Config}
use Rattle.trace_command.specs.declared.command.Entry.{Entry}
use Rattle.trace_command.specs.declared.command.Reply.{Reply}
use Rattle.trace_command.specs.declared.refusal.Refusal.{Refusal}

-- A turn with the ticket `served`, of a pass that knew `v` before it and knows `h` in it.
pub record IsTurnAfter {T : Type 0} (entries : T → List Entry) (base_of : T → List ℕ) (ticket by : Entry → ℕ) (v h : View Entry) (served : ℕ) (value : T) : Type 0 where
  pub drawn : IsDrawn v h served
  pub finds : Finds ticket by v served h.seen
  pub entries_are : entries value ≡ h.seen
  pub base : base_of value ≡ v.base

-- What a call comes to that took a turn.
pub record Comes (v w : View Entry) (command : Command) (answered : Result Reply Refusal) : Type 0 where
  pub goes_on : GoesOn v w
  pub done : IfOk answered (IsDone v w command)
  pub refused : IfErr answered (IsRefused v w command)
  pub legal : (g : Config) → numbers_of g ≡ v.base → IsLegal g v.seen → IsLegal g w.seen
