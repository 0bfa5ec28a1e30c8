-- An item that ran: a line by itself, or the fault of a part.
use Rattle.std.proofs.Common.{◌≡◌, ℕ, Bool, List, [], ◌∷◌, Option, Some, Result, Ok, Err, IfOk, OnOk, refl, sym, subst}
use Rattle.trace_command.specs.declared.command.Config.{Config}
use Rattle.script_reader.specs.Items.{Item, Single, Faulty}
use Rattle.script_reader.specs.NextItems.{item_read}
use Rattle.script_reader.specs.declared.item.ItemRead.{ItemRead}
use Rattle.script_reader.specs.declared.part.FaultAt.{FaultAt}
use Rattle.script_reader.specs.declared.stop.Stop.{Stop}
use Rattle.trace_script.specs.declared.outcome.Outcome.TheVariants.{Fault}
use Rattle.trace_session.specs.Gated.{LetsPass}
use Rattle.trace_session.specs.Heard.{Heard, Hears, heard_of}
use Rattle.trace_session.specs.Parts.{Given}
use Rattle.trace_session.specs.Sessions.{Progress, turn_of, status_of}
use Rattle.trace_session.specs.declared.status.Status.{Status}
use Rattle.trace_session.specs.private.HeardItems.{HearsItem}
use Rattle.trace_session.specs.private.ItemRuns.{IsItemRun}
use Rattle.trace_session.specs.private.LineRuns.{IsLineGiven, IsLineRun, Outlet}
use Rattle.trace_session.specs.private.StepFronts.{PassesItem, AppendsItem}
use Rattle.trace_session.proofs.Stepping.{fault_cut, fault_done, fault_read, flushed_as, item_given}
use Rattle.trace_workers.specs.declared.gate.Point.{Point}

on_ok : {P Q : Type 0} (result : Result Status Stop) → (P → Q) → OnOk result P → OnOk result Q
on_ok {P} {Q} (Ok status) then p = then p
on_ok {P} {Q} (Err stop) then p = tt

-- only a part has a gate
ungated : (result : Result Status Stop) → OnOk result (Unit {0})
ungated (Ok status) = tt
ungated (Err stop) = tt

module _ (wants : Bool) (may : ℕ → ℕ → Point → Bool → Type 0) (is_open : Bool) (number : ℕ) (item : ItemRead) (seated : Config → Type 0) (before : Progress)
    (old new : Outlet) (result : Result Status Stop) where
  -- of this line the sink hears as of the item
  abbrev AreHeardAlike : (Config → List Heard) → Type 0
  AreHeardAlike heard = (g : Config) (given : Given) → Hears old.heard new.heard (heard g) → HearsItem g number item before given new.bytes old.heard new.heard

  pub line_item : (line : List ℕ) (after : Progress) → item_read number item ≡ Single number line
      → AreHeardAlike (λ (g : Config). heard_of number line (turn_of g before line).outcome new.bytes ∷ [])
      → IsLineRun wants number line seated before after old new result → IsItemRun wants may is_open number item seated before after old new result
  line_item line after is alike ran = record {
    done =
        item_given wants seated number item before after result old.bytes new.bytes old.waits new.waits old.heard new.heard
        (subst (λ (x : Item). IfOk result (λ status. (g : Config) → seated g → PassesItem g x before after status old.bytes old.waits new.bytes new.waits)) (sym is) ran.done)
        (λ g seat given. on_ok result (alike g given) (ran.heard g seat)) ran.flushed;
    failures = ran.failures;
    memory = ran.memory;
    unfailed = ran.unfailed;
    stopped = λ other. absurd (ran.stopped other);
    passed = subst (λ (x : Item). OnOk result (LetsPass may x)) (sym is) (ungated result);
    passed_device = λ _. subst (λ (x : Item). LetsPass may x) (sym is) tt;
    part = λ other. absurd (ran.stopped other);
    unwritten = λ other. absurd (ran.stopped other);
    «open» = λ _ other. ran.stopped other;
    risen = ran.risen;
    device = λ other g seat. subst (λ (x : Item). AppendsItem g x before after old.bytes old.waits new.bytes) (sym is) (ran.device other g seat);
    unheard = ran.unheard;
  }

  pub fault_item : (at : FaultAt) (line : List ℕ) → item_read number item ≡ Faulty at
      → AreHeardAlike (λ (g : Config). heard_of at.number line (Some (Fault at.fault)) new.bytes ∷ [])
      → IsLineGiven wants at.number line (Some (Fault at.fault)) old new result → IsItemRun wants may is_open number item seated before before old new result
  fault_item at line is alike given = record {
    done =
        item_given wants seated number item before before result old.bytes new.bytes old.waits new.waits old.heard new.heard
        (fault_read at (item_read number item) result seated before old.bytes new.bytes old.waits new.waits is
        (fault_done at result old.bytes new.bytes old.waits new.waits given.status given.written))
        (λ g seat gave. on_ok result (alike g gave) given.heard)
        (flushed_as wants _ _ result (status_of (Some (Fault at.fault) ∷ [])) given.status given.all);
    failures = given.failures;
    memory = given.memory;
    unfailed = given.unfailed;
    stopped = λ other. absurd (given.stopped other);
    passed = subst (λ (x : Item). OnOk result (LetsPass may x)) (sym is) (ungated result);
    passed_device = λ _. subst (λ (x : Item). LetsPass may x) (sym is) tt;
    part = λ other. absurd (given.stopped other);
    unwritten = λ other. absurd (given.stopped other);
    «open» = λ _ other. given.stopped other;
    risen = λ other. (given.device other).0;
    device = λ other g seat.
        subst (λ (x : Item). AppendsItem g x before before old.bytes old.waits new.bytes) (sym is)
        (fault_cut at g before old.bytes new.bytes old.waits (given.device other).1);
    unheard = given.unheard;
  }
