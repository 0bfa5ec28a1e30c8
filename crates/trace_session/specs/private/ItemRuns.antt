-- What one item comes to, in one word.
use Rattle.std.specs.Prelude.{◌≡◌, ℕ, Bool, true, [], Result, IfOk, OnOk, OnErr, IsErrOf}
use Rattle.ticket_lock.specs.declared.views.View.{View}
use Rattle.trace_command.specs.declared.command.Config.{Config}
use Rattle.trace_command.specs.declared.command.Entry.{Entry}
use Rattle.script_reader.specs.NextItems.{item_read}
use Rattle.script_reader.specs.Sources.{HasRisen}
use Rattle.script_reader.specs.declared.item.ItemRead.{ItemRead}
use Rattle.script_reader.specs.declared.stop.Stop.{Stop}
use Rattle.script_reader.specs.declared.stop.Stop.TheVariants.{Memory, Stopped, Device}
use Rattle.trace_session.specs.Devices.{Passes}
use Rattle.trace_session.specs.Gated.{LetsPass, Stops}
use Rattle.trace_session.specs.Passes.{IsSessionPass, progress_of}
use Rattle.trace_session.specs.Sessions.{Progress}
use Rattle.trace_session.specs.declared.status.Status.{Status}
use Rattle.trace_session.specs.private.LineRuns.{Outlet}
use Rattle.trace_session.specs.private.StepFronts.{GivesItem, AppendsItem}
use Rattle.trace_workers.specs.declared.gate.Point.{Point}

-- The item whose first line has this number ran, its output was written or waits, and what came of it was told; of a part, once all its commands had
-- run. `may` is what the gate may have answered, and `is_open` whether it is open; `seated` is of the configurations of which the pass before the item
-- is a session's.
pub record IsItemRun (wants : Bool) (may : ℕ → ℕ → Point → Bool → Type 0) (is_open : Bool) (number : ℕ) (item : ItemRead) (seated : Config → Type 0)
    (before after : Progress) (old new : Outlet) (result : Result Status Stop) : Type 0 where
  pub done : IfOk result (λ status. (g : Config) → seated g
      → GivesItem g wants number item before after status old.bytes old.waits new.bytes new.waits old.heard new.heard)
  pub failures : OnOk result (new.failures ≡ old.failures)
  pub memory : IsErrOf result Memory → Passes old.bytes old.waits new.bytes new.waits []
  pub unfailed : IsErrOf result Memory → new.failures ≡ old.failures
  pub stopped : IsErrOf result Stopped → Passes old.bytes old.waits new.bytes new.waits []
  pub passed : OnOk result (LetsPass may (item_read number item))
  pub passed_device : IsErrOf result Device → LetsPass may (item_read number item)
  pub part : IsErrOf result Stopped → Stops may (item_read number item)
  pub unwritten : IsErrOf result Stopped → new.failures ≡ old.failures
  pub «open» : is_open ≡ true → IsErrOf result Stopped → ⊥
  pub risen : IsErrOf result Device → HasRisen old.failures new.failures
  pub device : IsErrOf result Device → (g : Config) → seated g
      → AppendsItem g (item_read number item) before after old.bytes old.waits new.bytes
  pub unheard : OnErr result (new.heard ≡ old.heard)

-- and the same with the views of the pass before it and after it, which is still a session's
abbrev pub RunsItem : Bool → (ℕ → ℕ → Point → Bool → Type 0) → Bool → ℕ → ItemRead → View Entry → View Entry → Outlet → Outlet → Result Status Stop → Type 0
RunsItem wants may is_open number item view after old new result =
    ((g : Config) → IsSessionPass g view → IsSessionPass g after)
    × IsItemRun wants may is_open number item (λ g. IsSessionPass g view) (progress_of view) (progress_of after) old new result
