-- A tracer that keeps no history: when these requests led to it, and what it answers after them. The newest request comes first.
use Rattle.std.specs.Prelude.{◌≡◌, ℕ, ◌≤◌, List, ◌∷◌, length, Result, Ok, Err, IfErr, OnOk, OnErr}
use Rattle.trace_command.specs.Configs.{IsInRange}
use Rattle.trace_command.specs.Refusals.{IsFoundEarly, IsRefusal, OrMemory}
use Rattle.trace_command.specs.Requests.{Request}
use Rattle.trace_command.specs.declared.command.Config.{Config}
use Rattle.trace_command.specs.declared.command.Reply.{Reply}
use Rattle.trace_command.specs.declared.refusal.Refusal.{Refusal}
use Rattle.tracer_specification.specs.History.{answer_with_room, unless_full}
use Rattle.tracer_specification.specs.LateMemory.{TakesMemoryLate}
use Rattle.tracer_specification.specs.Pasts.{AreDone}
use Rattle.trace_instance.specs.Deliveries.{most_requests}
use Rattle.trace_instance.specs.MemoryTaken.{TakesNoMemory}
use Rattle.tracer_state.specs.States.{IsPrepared, IsPreparedEmission, StandsFor}
use Rattle.tracer_state.specs.declared.state.Prepared.{Prepared}
use Rattle.tracer_state.specs.declared.state.State.{State}
use Rattle.tracer.specs.LiveSeen.{LiveSeen}

-- ---- answers

-- how many commands a tracer that keeps no history does: 2^60
abbrev pub most_done : ℕ
most_done = most_requests

-- the answer that the requests done so far give a request where no more than so many are done: HistoryFull to what would be one too many
unfoldable pub limited_answer : ℕ → Config → List Request → Request → Result Reply Refusal
limited_answer limit g past request = unless_full limit (length past) (answer_with_room g past request)

-- the answer of a tracer that keeps no history. The limit of its configuration is one of histories, and says nothing of it.
abbrev pub live_answer : Config → List Request → Request → Result Reply Refusal
live_answer g past request = limited_answer most_done g past request

-- ---- what led to it

-- these requests were done, one after another, and the tracer is what they say
pub record IsLive (g : Config) (past : List Request) (live : LiveSeen) : Type 0 where
  pub in_range : IsInRange g
  pub are_done : AreDone g past
  pub count : live.done ≡ length past
  pub few : length past ≤ most_done
  pub stands : StandsFor g live.state past

-- some requests led to it
pub record WasLedTo (live : LiveSeen) : Type 0 where
  pub past : List Request
  pub lives : IsLive live.config past live

-- ---- what is prepared

-- what was prepared for a request where no more than so many are done, or why it is refused
abbrev pub IsPreparedWithin : ℕ → Config → List Request → Request → State → Result Prepared Refusal → Type 0
IsPreparedWithin limit g past request state (Ok prepared) = IsPrepared g past request state (Ok prepared)
IsPreparedWithin limit g past request state (Err refusal) = IsRefusal refusal (limited_answer limit g past request)

-- this was prepared for some request
pub record IsReadyFor (live : LiveSeen) (prepared : Prepared) : Type 0 where
  pub past : List Request
  pub request : Request
  pub lives : IsLive live.config past live
  pub is : IsPrepared live.config past request live.state (Ok prepared)

-- the emission that was prepared last was prepared for some request
pub record CanDeliver (live : LiveSeen) : Type 0 where
  pub past : List Request
  pub request : Request
  pub lives : IsLive live.config past live
  pub is : IsPreparedEmission live.config past request live.state live.delivery

-- ---- calls

-- what a call with this request comes to where no more than so many commands are done, if these requests led to the tracer before it: the answer, or
-- Memory in place of one that is not found early, but just the answer to a request that takes no memory. Where the command is done, the request is
-- one more that led to the tracer; where it is refused, none is.
pub record IsCallWithin (limit : ℕ) (past : List Request) (new : LiveSeen) (request : Request) (result : Result Reply Refusal) : Type 0 where
  pub reply : OrMemory result (limited_answer limit new.config past request)
  pub early : IsFoundEarly (limited_answer limit new.config past request) → result ≡ limited_answer limit new.config past request
  pub late_memory : TakesMemoryLate request → IfErr (limited_answer limit new.config past request) (λ refusal. result ≡ Err refusal)
  pub takes_none : TakesNoMemory past request → result ≡ limited_answer limit new.config past request
  pub done : OnOk result (IsLive new.config (request ∷ past) new)
  pub refused : OnErr result (IsLive new.config past new)

-- the same where as many are done as a tracer that keeps no history does: the answer is `live_answer`
abbrev pub IsCall : List Request → LiveSeen → Request → Result Reply Refusal → Type 0
IsCall past new request result = IsCallWithin most_done past new request result
