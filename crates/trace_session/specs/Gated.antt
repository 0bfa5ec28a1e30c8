-- What the gate of a session may have answered. `may` is that: to the thread with this index in its part, at the command with this index in its
-- thread, at this point (`Gate::may_answer`).
use Rattle.std.specs.Prelude.{ℕ, Bool, List, ◌∷◌, map}
use Rattle.trace_command.specs.Commands.{Command}
use Rattle.script_reader.specs.Items.{Item, Single, Threads, Faulty}
use Rattle.script_reader.specs.declared.part.Numbered.{Numbered}
use Rattle.trace_session.specs.Parts.{Given}
use Rattle.trace_workers.specs.Gates.{LetsAllPass, StopsOne}
use Rattle.trace_workers.specs.declared.gate.Point.{Point}

-- the commands of a part's threads
abbrev pub commands_asked : List (List Numbered) → List (List Command)
commands_asked threads = map (map (λ (asked : Numbered). asked.command)) threads

-- the gate let the item pass: only a part has a gate, which it asks at each of its commands
abbrev pub LetsPass : (ℕ → ℕ → Point → Bool → Type 0) → Item → Type 0
LetsPass may (Single number line) = Unit {0}
LetsPass may (Threads threads) = LetsAllPass may (commands_asked threads)
LetsPass may (Faulty at) = Unit {0}

-- the gate stopped the item: it is a part, at one of whose commands the gate may answer `false`
abbrev pub Stops : (ℕ → ℕ → Point → Bool → Type 0) → Item → Type 0
Stops may (Single number line) = ⊥
Stops may (Threads threads) = StopsOne may (commands_asked threads)
Stops may (Faulty at) = ⊥

-- the gate let each item pass that gave something; these are the first of the items
abbrev pub LetsGivenPass : (ℕ → ℕ → Point → Bool → Type 0) → List Item → List Given → Type 0
LetsGivenPass may (item ∷ items) (given ∷ more) = LetsPass may item × LetsGivenPass may items more
LetsGivenPass may _ _ = Unit {0}
