-- What a session has written, heard and asked its gate by its end, or where it was cut short.
use Rattle.std.specs.Prelude.{◌≡◌, ℕ, Bool, false, List, [], ◌∷◌, ◌++◌, map, take, Option}
use Rattle.std.specs.List.{concat}
use Rattle.std.specs.Io.KnownBytes.{Appends}
use Rattle.trace_command.specs.declared.command.Config.{Config}
use Rattle.script_reader.specs.Items.{Item, Threads, items_of}
use Rattle.script_reader.specs.declared.part.Numbered.{Numbered}
use Rattle.trace_session.specs.Devices.{AppendsFront}
use Rattle.trace_session.specs.Gated.{LetsGivenPass, commands_asked}
use Rattle.trace_session.specs.Heard.{Heard, HearsAll}
use Rattle.trace_session.specs.Parts.{Given, MayGive, ends, IsSession, IsBegun}
use Rattle.trace_session.specs.Sessions.{Progress, Session, beginning}
use Rattle.trace_session.specs.declared.status.Status.{Status}
use Rattle.trace_workers.specs.Gates.{StopsOne}
use Rattle.trace_workers.specs.declared.gate.Point.{Point}

-- items in turn, none of which ends the session, may give this, and may bring the session from one progress to the other
abbrev pub HasGiven : Config → Progress → List Item → List Given → Progress → Type 0
HasGiven g before [] [] after = after ≡ before
HasGiven g before [] (given ∷ more) after = ⊥
HasGiven g before (item ∷ items) [] after = ⊥
HasGiven g before (item ∷ items) (given ∷ more) after =
    (next : Progress) × MayGive g item before next given × (ends given ≡ false) × HasGiven g next items more after

-- The session was stopped at a part, at one of its commands, where the gate may answer `false`. Of the script's items those before it were done, none
-- of them a fault, and these are their texts. The gate let the parts among them pass.
pub record IsStopped (g : Config) (may : ℕ → ℕ → Point → Bool → Type 0) (script : List ℕ) (texts : List (List ℕ)) : Type 0 where
  pub done : List Item
  pub part : List (List Numbered)
  pub rest : List Item
  pub items : items_of script ≡ done ++ Threads part ∷ rest
  pub given : List Given
  pub after : Progress
  pub gives : HasGiven g beginning done given after
  pub told : texts ≡ map (λ (one : Given). one.text) given
  pub passed : LetsGivenPass may done given
  pub stopped : StopsOne may (commands_asked part)

-- A lawful session of the script has this status, and known bytes grow by what it writes. The gate let each part pass that it came to, and a sink that
-- tells what it heard has heard of each of its items. Here and below `wants` is whether the sink wants all texts so far written before it hears of an
-- item.
abbrev pub AppendsSession : Config → (ℕ → ℕ → Point → Bool → Type 0) → Bool → List ℕ → Status → Option (List ℕ) → Option (List ℕ)
    → Option (List Heard) → Option (List Heard) → Type 0
AppendsSession g may wants script status old new heard hears =
    (session : Session) × (is : IsSession g script session) × (status ≡ session.status) × Appends old new (concat session.texts)
    × LetsGivenPass may (items_of script) is.0 × HearsAll wants script old (items_of script) is.0 heard hears

-- Known bytes grow by what the first items of the script may write, as many as a session came to. The gate let each part among them pass, and a sink
-- that tells what it heard has heard of each of them.
abbrev pub AppendsBegun : Config → (ℕ → ℕ → Point → Bool → Type 0) → Bool → List ℕ → Option (List ℕ) → Option (List ℕ)
    → Option (List Heard) → Option (List Heard) → Type 0
AppendsBegun g may wants script old new heard hears =
    (texts : List (List ℕ)) × (is : IsBegun g script texts) × Appends old new (concat texts)
    × LetsGivenPass may (items_of script) is.1 × HearsAll wants script old (items_of script) is.1 heard hears

-- known bytes grow by what the items before the part gave at which the session was stopped, and a sink that tells what it heard has heard of these
abbrev pub AppendsStopped : Config → (ℕ → ℕ → Point → Bool → Type 0) → Bool → List ℕ → Option (List ℕ) → Option (List ℕ)
    → Option (List Heard) → Option (List Heard) → Type 0
AppendsStopped g may wants script old new heard hears =
    (texts : List (List ℕ)) × (is : IsStopped g may script texts) × Appends old new (concat texts) × HearsAll wants script old is.done is.given heard hears

-- Known bytes grow by a prefix of what the first items of the script may write. The gate let each part among them pass, and a sink that tells what it
-- heard has heard of the first of them.
abbrev pub AppendsBegunFront : Config → (ℕ → ℕ → Point → Bool → Type 0) → Bool → List ℕ → Option (List ℕ) → Option (List ℕ)
    → Option (List Heard) → Option (List Heard) → Type 0
AppendsBegunFront g may wants script old new heard hears =
    (texts : List (List ℕ)) × (is : IsBegun g script texts) × AppendsFront old new (concat texts)
    × LetsGivenPass may (items_of script) is.1 × (told : ℕ) × HearsAll wants script old (items_of script) (take told is.1) heard hears
