-- The history of a mounted tracer that callers share: which turns were taken, one after another, and what they led to.
use Rattle.std.specs.Prelude.{◌≡◌, ◌≢◌, ⊤, ℕ, ◌<◌, Bool, is_some, List, [], ◌∷◌, ◌++◌, All, AllPairs, Result, Err, IfErr}
use Rattle.trace_command.specs.Refusals.{OrMemory, IsFoundEarly}
use Rattle.trace_command.specs.Requests.{Request}
use Rattle.trace_command.specs.declared.command.Config.{Config}
use Rattle.trace_command.specs.declared.command.Reply.{Reply}
use Rattle.trace_command.specs.declared.refusal.Refusal.{Refusal}
use Rattle.trace_command.specs.declared.refusal.Refusal.TheVariants.{Worn}
use Rattle.tracer_specification.specs.LateMemory.{TakesMemoryLate}
use Rattle.trace_instance.specs.MemoryTaken.{TakesNoMemory}
use Rattle.tracer.specs.Lives.{limited_answer}
use Rattle.mount_replies.specs.Calls.{IsTurned, TakesTurns, Turn}
use Rattle.mount_replies.specs.Owed.{owed}
use Rattle.mount_replies.specs.PastLaws.{just_mounted}
use Rattle.mount_replies.specs.Services.{Service}
use Rattle.shared_mount.specs.LiveMountSeen.{SharedTerms}
use Rattle.shared_mount.specs.MountEntries.{Deed, DidCall, DidExchange, DidShow, EntrySeen, commands_of, done_in, turn_of}

-- ---- one turn

-- The answer to a call is the one that the commands done before it give where no more than so many are done. Memory may stand in place of one that is not
-- found early, but in place of no refusal of a command that takes memory late, and of none where the command takes no memory. It never says that all
-- tickets are drawn: who is told so had no turn.
pub record IsPromised (limit : ℕ) (g : Config) (past : List Request) (request : Request) (answer : Result Reply Refusal) : Type 0 where
  pub reply : OrMemory answer (limited_answer limit g past request)
  pub early : IsFoundEarly (limited_answer limit g past request) → answer ≡ limited_answer limit g past request
  pub late_memory : TakesMemoryLate request → IfErr (limited_answer limit g past request) (λ refusal. answer ≡ Err refusal)
  pub takes_none : TakesNoMemory past request → answer ≡ limited_answer limit g past request
  pub unworn : answer ≢ Err Worn

-- what a mount's own words say of a turn is all that is said of an exchange, and less than what is promised of a call
abbrev pub Promises : SharedTerms → List Request → Deed → Type 0
Promises g past (DidCall request answer) = IsPromised g.limit g.mount.config past request answer
Promises g past (DidExchange asked bytes commands) = ⊤
Promises g past (DidShow shown asked bytes) = ⊤

-- A turn led from a service to another, and did these commands and no others.
pub record Leads (g : SharedTerms) (before : Service) (deed : Deed) (after : Service) : Type 0 where
  pub turned : IsTurned g.mount before (turn_of g.limit deed) after
  pub past : after.past ≡ commands_of deed ++ before.past
  pub promised : Promises g before.past deed

-- ---- turns one after another

abbrev pub AreLed : SharedTerms → Service → List EntrySeen → Service → Type 0
AreLed g before [] after = after ≡ before
AreLed g before (entry ∷ later) after = (next : Service) × Leads g before entry.deed next × AreLed g next later after

-- These turns led from a tracer that was just mounted to this service, whose past are their commands.
pub record HaveLed (g : SharedTerms) (entries : List EntrySeen) (after : Service) : Type 0 where
  pub led : AreLed g just_mounted entries after
  pub past : after.past ≡ done_in entries

-- they led to some service
pub record WereTaken (g : SharedTerms) (entries : List EntrySeen) : Type 0 where
  pub after : Service
  pub led : HaveLed g entries after

-- something is owed after these turns, or nothing is
pub record IsOwing (g : SharedTerms) (entries : List EntrySeen) (owes : Bool) : Type 0 where
  pub after : Service
  pub led : HaveLed g entries after
  pub owes_is : owes ≡ is_some (owed g.mount after)

-- This was done in the turn after these, and then something is owed, or nothing is.
pub record IsNext (g : SharedTerms) (found : List EntrySeen) (deed : Deed) (owes : Bool) : Type 0 where
  pub before : Service
  pub after : Service
  pub led : HaveLed g found before
  pub leads : Leads g before deed after
  pub owes_is : owes ≡ is_some (owed g.mount after)

-- ---- the end

-- There is one history of all turns of all callers: each led on from what those before it had led to, and their tickets rise.
pub record IsOneHistory (g : SharedTerms) (history : List EntrySeen) : Type 0 where
  pub taken : WereTaken g history
  pub rising : AllPairs (λ (one other : EntrySeen). one.ticket < other.ticket) history
  pub callers : All (λ (entry : EntrySeen). entry.by < 65536) history

-- the turns of a mounted tracer that these entries are
abbrev pub turns_of : ℕ → List EntrySeen → List Turn
turns_of limit [] = []
turns_of limit (entry ∷ later) = turn_of limit entry.deed ∷ turns_of limit later

-- What the entries of a history led to is what those turns lead a mounted tracer to: so what holds of all turns holds of all histories.
abbrev pub HistoriesAreTurns : Type 0
HistoriesAreTurns =
    (g : SharedTerms) (entries : List EntrySeen) (after : Service) → HaveLed g entries after
    → TakesTurns g.mount just_mounted (turns_of g.limit entries) after
