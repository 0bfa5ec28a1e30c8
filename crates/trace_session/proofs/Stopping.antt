-- A session that was stopped, and a script without parts.
use Rattle.std.proofs.Common.{ℕ, Bool, List, [], ◌∷◌, ◌++◌, Option, subst}
use Rattle.trace_command.specs.declared.command.Config.{Config}
use Rattle.script_reader.specs.Items.{Item, Single, Threads, Faulty, HasNoPart}
use Rattle.script_reader.specs.declared.part.Numbered.{Numbered}
use Rattle.trace_session.specs.Heard.{Heard}
use Rattle.script_reader.specs.Sources.{GivesScript}
use Rattle.trace_session.specs.Fronts.{AppendsStopped}
use Rattle.trace_workers.specs.declared.gate.Point.{Point}
use Rattle.trace_session.proofs.PartSessions.{ArePlain, items_are_plain}

-- a part is not among items without threads
part_among : (done : List Item) (part : List (List Numbered)) (rest : List Item) → ArePlain (done ++ Threads part ∷ rest) → ⊥
part_among [] part rest plain = plain
part_among (Single number line ∷ done) part rest plain = part_among done part rest plain
part_among (Threads threads ∷ done) part rest plain = plain
part_among (Faulty at ∷ done) part rest plain = part_among done part rest plain

-- so a session of a script without parts was not stopped
pub stopped_at_part : (g : Config) (may : ℕ → ℕ → Point → Bool → Type 0) (wants : Bool) (given gives : List ℕ) (bytes old new : Option (List ℕ)) (first hears : Option (List Heard))
    → GivesScript given gives bytes (λ (script : List ℕ). AppendsStopped g may wants script old new first hears)
    → GivesScript given gives bytes (λ (script : List ℕ). HasNoPart script → ⊥)
stopped_at_part g may wants given gives bytes old new first hears (script, e, (read, (texts, s, written, heard))) =
    (script, e, (read, λ none. part_among s.done s.part s.rest (subst ArePlain s.items (items_are_plain script none))))
