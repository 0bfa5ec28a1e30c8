-- Which events and instances there are after the lines that were heard. The lines of a parallel part are heard in another order than they were done
-- in, so an instance may be removed before it is heard to be made: it is there exactly if it was made once more often than it was removed.
use Rattle.std.specs.Prelude.{ℕ, List, [], ◌∷◌, ◌++◌, Option, Some, None, position, remove}
use Rattle.std.specs.Str.{bytes_eq}
use Rattle.trace_script.specs.Changes.{change_of}
use Rattle.trace_script.specs.declared.change.Change.{Change}
use Rattle.trace_script.specs.declared.change.Change.TheVariants.{Declares, Makes, Removes}
use Rattle.trace_script.specs.declared.outcome.Outcome.{Outcome}

-- the names of the events, and of the instances beside the top one; and for each removal that was heard before its making, the name
pub record NamesSeen : Type 0 where
  pub events : List (List ℕ)
  pub instances : List (List ℕ)
  pub gone : List (List ℕ)

abbrev pub no_names : NamesSeen
no_names = record { events = []; instances = []; gone = [] }

-- where a name is among others
abbrev pub index_of : List ℕ → List (List ℕ) → Option ℕ
index_of name names = position (λ other. bytes_eq other name) names

-- one more instance
abbrev pub with_instance : List ℕ → NamesSeen → NamesSeen
with_instance name names = record { events = names.events; instances = names.instances ++ name ∷ []; gone = names.gone }

-- one more event
abbrev pub with_event_name : List ℕ → NamesSeen → NamesSeen
with_event_name name names = record { events = names.events ++ name ∷ []; instances = names.instances; gone = names.gone }

-- an instance was made: it is there, unless a removal of it was heard before
abbrev pub after_making : List ℕ → Option ℕ → NamesSeen → NamesSeen
after_making name None names = with_instance name names
after_making name (Some at) names = record { events = names.events; instances = names.instances; gone = remove names.gone at }

-- an instance was removed
abbrev pub after_removing : List ℕ → Option ℕ → NamesSeen → NamesSeen
after_removing name None names = record { events = names.events; instances = names.instances; gone = names.gone ++ name ∷ [] }
after_removing name (Some at) names = record { events = names.events; instances = remove names.instances at; gone = names.gone }

-- the names after a change, if there was one
abbrev pub after_change : Option Change → NamesSeen → NamesSeen
after_change None names = names
after_change (Some (Declares event)) names = with_event_name event.name names
after_change (Some (Makes name)) names = after_making name (index_of name names.gone) names
after_change (Some (Removes name)) names = after_removing name (index_of name names.instances) names

-- the names after a line with this outcome
abbrev pub after_hearing : List ℕ → Outcome → NamesSeen → NamesSeen
after_hearing line outcome names = after_change (change_of line outcome) names
