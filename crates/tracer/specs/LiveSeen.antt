-- A tracer that keeps no history, as contracts see it.
use Rattle.std.specs.Prelude.{ℕ}
use Rattle.trace_command.specs.declared.command.Config.{Config}
use Rattle.trace_instance.specs.declared.change.Delivery.{Delivery}
use Rattle.tracer_state.specs.declared.state.State.{State}

-- what it was made with, what the commands done led to, the emission that was prepared last, and how many commands were done
pub record LiveSeen : Type 0 where
  pub config : Config
  pub state : State
  pub delivery : Delivery
  pub done : ℕ
