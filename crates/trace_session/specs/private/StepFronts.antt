-- What one item comes to, and a session but for what waits in its buffer.
use Rattle.std.specs.Prelude.{◌≡◌, ℕ, Bool, List, [], ◌++◌, Option, IsSome}
use Rattle.std.specs.List.{concat}
use Rattle.trace_command.specs.declared.command.Config.{Config}
use Rattle.script_reader.specs.Items.{Item, items_of}
use Rattle.script_reader.specs.NextItems.{item_read}
use Rattle.script_reader.specs.declared.item.ItemRead.{ItemRead}
use Rattle.trace_session.specs.Devices.{AppendsFront, Passes}
use Rattle.trace_session.specs.Fronts.{IsStopped}
use Rattle.trace_session.specs.Gated.{LetsGivenPass}
use Rattle.trace_session.specs.Heard.{Heard, IsWrittenFirst, HearsAll}
use Rattle.trace_session.specs.Parts.{Given, MayGive, IsSession, IsBegun}
use Rattle.trace_session.specs.Sessions.{Progress, Session, status_of}
use Rattle.trace_session.specs.declared.status.Status.{Status}
use Rattle.trace_session.specs.private.HeardItems.{HearsItem}
use Rattle.trace_workers.specs.declared.gate.Point.{Point}

-- the item gave something that it may give, which has this status, and of bytes that waited and this, known bytes grow by a front, and the rest waits
abbrev pub PassesItem : Config → Item → Progress → Progress → Status → Option (List ℕ) → List ℕ → Option (List ℕ) → List ℕ → Type 0
PassesItem g item before after status old waited new waits =
    (given : Given) × MayGive g item before after given × (status ≡ status_of given.outcomes) × Passes old waited new waits given.text

-- And the same of an item that was read, whose first line has this number: a sink that tells what it heard has heard what the item gave, and where
-- that is a refusal or a fault, nothing waits.
abbrev pub GivesItem : Config → Bool → ℕ → ItemRead → Progress → Progress → Status → Option (List ℕ) → List ℕ → Option (List ℕ) → List ℕ
    → Option (List Heard) → Option (List Heard) → Type 0
GivesItem g wants number item before after status old waited new waits heard hears =
    (given : Given) × MayGive g (item_read number item) before after given × (status ≡ status_of given.outcomes) × Passes old waited new waits given.text
    × HearsItem g number item before given new heard hears × (IsSome heard → IsWrittenFirst wants status → waits ≡ [])

-- the item gave something that it may give, and of bytes that waited and this, known bytes grow by a front
abbrev pub AppendsItem : Config → Item → Progress → Progress → Option (List ℕ) → List ℕ → Option (List ℕ) → Type 0
AppendsItem g item before after old waited new =
    (given : Given) × MayGive g item before after given × AppendsFront old new (waited ++ given.text)

-- as `AppendsSession`, but for what waits
abbrev pub PassesSession : Config → (ℕ → ℕ → Point → Bool → Type 0) → Bool → List ℕ → Status → Option (List ℕ) → Option (List ℕ) → List ℕ
    → Option (List Heard) → Option (List Heard) → Type 0
PassesSession g may wants script status old new waits heard hears =
    (session : Session) × (is : IsSession g script session) × (status ≡ session.status) × Passes old [] new waits (concat session.texts)
    × LetsGivenPass may (items_of script) is.0 × HearsAll wants script old (items_of script) is.0 heard hears

-- as `AppendsBegun`, but for what waits
abbrev pub PassesBegun : Config → (ℕ → ℕ → Point → Bool → Type 0) → Bool → List ℕ → Option (List ℕ) → Option (List ℕ) → List ℕ
    → Option (List Heard) → Option (List Heard) → Type 0
PassesBegun g may wants script old new waits heard hears =
    (texts : List (List ℕ)) × (is : IsBegun g script texts) × Passes old [] new waits (concat texts)
    × LetsGivenPass may (items_of script) is.1 × HearsAll wants script old (items_of script) is.1 heard hears

-- as `AppendsStopped`, but for what waits
abbrev pub PassesStopped : Config → (ℕ → ℕ → Point → Bool → Type 0) → Bool → List ℕ → Option (List ℕ) → Option (List ℕ) → List ℕ
    → Option (List Heard) → Option (List Heard) → Type 0
PassesStopped g may wants script old new waits heard hears =
    (texts : List (List ℕ)) × (is : IsStopped g may script texts) × Passes old [] new waits (concat texts)
    × HearsAll wants script old is.done is.given heard hears
