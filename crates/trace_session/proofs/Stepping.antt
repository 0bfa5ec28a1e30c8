-- One item: what it gives.
use Rattle.std.proofs.Common.{◌≡◌, ◌≢◌, ℕ, Bool, false, List, [], ◌∷◌, ◌++◌, Option, Some, None, Result, Ok, Err, IfOk, OnOk, IsSome, refl, ap, sym, subst, ◌∙◌}
use Rattle.trace_command.specs.declared.command.Config.{Config}
use Rattle.trace_command.specs.declared.command.Reply.TheVariants as replies
use Rattle.script_reader.specs.Items.{Item, Single, Faulty}
use Rattle.script_reader.specs.declared.part.FaultAt.{FaultAt}
use Rattle.script_reader.specs.declared.stop.Stop.{Stop}
use Rattle.trace_script.specs.declared.outcome.Outcome.{Outcome}
use Rattle.trace_script.specs.declared.outcome.Outcome.TheVariants as outcomes
use Rattle.trace_session.specs.Devices.{AppendsFront, Passes}
use Rattle.script_reader.specs.NextItems.{item_read}
use Rattle.script_reader.specs.declared.item.ItemRead.{ItemRead}
use Rattle.trace_session.specs.private.StepFronts.{PassesItem, GivesItem, AppendsItem}
use Rattle.trace_session.specs.Heard.{Heard, IsWrittenFirst}
use Rattle.trace_session.specs.private.HeardItems.{HearsItem}
use Rattle.trace_session.specs.Parts.{Given, given_by}
use Rattle.trace_session.specs.Sessions.{Progress, Turn, turn_of, is_fault, text_of, status_of}
use Rattle.trace_session.specs.declared.status.Status.{Status}
use Rattle.trace_session.specs.declared.status.Status.TheVariants as statuses
use Rattle.trace_session.proofs.DeviceLemmas.{Passes_nothing}

-- a command that was done without a reply
pub done_unheard : (g : Config) (number : ℕ) (line : List ℕ) (before after : Progress) (old : Option (List ℕ)) (waited : List ℕ)
    → turn_of g before line ≡ record { outcome = Some (outcomes.Replied replies.Done); progress = after }
    → PassesItem g (Single number line) before after statuses.Done old waited old waited
done_unheard g number line before after old waited is = (
  given_by number (Some (outcomes.Replied replies.Done)),
  (sym (ap (λ (turn : Turn). given_by number turn.outcome) is), sym (ap (λ (turn : Turn). turn.progress) is)),
  refl,
  Passes_nothing old waited,
)

-- what became of a line is no fault, nor is its status
pub no_fault : (outcome : Option Outcome) (status : Status) → is_fault outcome ≡ false → status ≡ status_of (outcome ∷ []) → status ≢ statuses.Fault
no_fault None status not is = λ fault. absurd (cc (is, fault))
no_fault (Some (outcomes.Replied reply)) status not is = λ fault. absurd (cc (is, fault))
no_fault (Some (outcomes.Refused refusal)) status not is = λ fault. absurd (cc (is, fault))
no_fault (Some (outcomes.Fault told)) status not is = absurd (cc)

-- the fault of a part
pub fault_done : (at : FaultAt) (result : Result Status Stop) (old new : Option (List ℕ)) (waited waits : List ℕ)
    → IfOk result (λ status. status ≡ status_of (Some (outcomes.Fault at.fault) ∷ []))
    → OnOk result (Passes old waited new waits (text_of at.number (Some (outcomes.Fault at.fault))))
    → IfOk result (λ status. (g : Config) (before : Progress) → PassesItem g (Faulty at) before before status old waited new waits)
fault_done at (Ok status) old new waited waits told written = λ g before. (given_by at.number (Some (outcomes.Fault at.fault)), (refl, refl), told, written)
fault_done at (Err stop) old new waited waits told written = tt

pub fault_cut : (at : FaultAt) (g : Config) (before : Progress) (old new : Option (List ℕ)) (waited : List ℕ)
    → AppendsFront old new (waited ++ text_of at.number (Some (outcomes.Fault at.fault))) → AppendsItem g (Faulty at) before before old waited new
fault_cut at g before old new waited cut = (given_by at.number (Some (outcomes.Fault at.fault)), (refl, refl), cut)

-- and so of the item that was read
pub fault_read : (at : FaultAt) (item : Item) (result : Result Status Stop) (seated : Config → Type 0) (now : Progress) (old new : Option (List ℕ)) (waited waits : List ℕ) → item ≡ Faulty at
    → IfOk result (λ status. (g : Config) (before : Progress) → PassesItem g (Faulty at) before before status old waited new waits)
    → IfOk result (λ status. (g : Config) → seated g → PassesItem g item now now status old waited new waits)
fault_read at item (Ok status) seated now old new waited waits is done =
    λ g seat. subst (λ (x : Item). PassesItem g x now now status old waited new waits) (sym is) (done g now)
fault_read at item (Err stop) seated now old new waited waits is done = tt

-- an item that was read gave something, and that was heard
pub item_given : (wants : Bool) (seated : Config → Type 0) (number : ℕ) (item : ItemRead) (before after : Progress) (result : Result Status Stop) (old new : Option (List ℕ)) (waited waits : List ℕ)
    (heard hears : Option (List Heard))
    → IfOk result (λ status. (g : Config) → seated g → PassesItem g (item_read number item) before after status old waited new waits)
    → ((g : Config) → seated g → (given : Given) → OnOk result (HearsItem g number item before given new heard hears))
    → IfOk result (λ status. IsSome heard → IsWrittenFirst wants status → waits ≡ [])
    → IfOk result (λ status. (g : Config) → seated g → GivesItem g wants number item before after status old waited new waits heard hears)
item_given wants seated number item before after (Ok status) old new waited waits heard hears gave told flushed =
    λ g seat. let one = gave g seat in (one.0, one.1, one.2, one.3, told g seat one.0, flushed)
item_given wants seated number item before after (Err stop) old new waited waits heard hears gave told flushed = tt

-- nothing waits where the item's own status is no `Done`
pub flushed_as : (wants : Bool) (A B : Type 0) (result : Result Status Stop) (told : Status) → IfOk result (λ status. status ≡ told) → OnOk result (A → IsWrittenFirst wants told → B)
    → IfOk result (λ status. A → IsWrittenFirst wants status → B)
flushed_as wants A B (Ok status) told is all = λ a first. all a (subst (IsWrittenFirst wants) is first)
flushed_as wants A B (Err stop) told is all = tt

-- one who says nothing of what it heard
pub untold_flushed : {B : Type 0} (wants : Bool) (heard : Option (List Heard)) (status : Status) → heard ≡ None → IsSome heard → IsWrittenFirst wants status → B
untold_flushed {B} wants None status none tells first = absurd cc
untold_flushed {B} wants (Some heard) status none tells first = absurd cc
