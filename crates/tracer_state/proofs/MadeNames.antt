-- The names of the instances that were made, by their index.
use Rattle.std.proofs.Common.{◌≡◌, ℕ, zero, suc, List, [], ◌∷◌, map, drop, None, Some, refl}
use Rattle.std.specs.List.{slice_get}
use Rattle.std.specs.Option.{option_and_then}
use Rattle.trace_command.specs.Requests.{Request}
use Rattle.trace_command.specs.declared.command.Config.{Config}
use Rattle.tracer_specification.specs.Settings.{instance_names}
use Rattle.tracer_state.specs.States.{StandsFor, names_of}
use Rattle.tracer_state.specs.declared.state.Named.{Named}
use Rattle.tracer_state.specs.declared.state.State.{State}

name-at : (made : List Named) (names : List (List ℕ)) (index : ℕ) → names_of made ≡ map (λ (name : List ℕ). Some name) names
    → option_and_then (λ (n : Named). n.name) (slice_get made index) ≡ slice_get names index
name-at [] [] index e = refl
name-at (m ∷ made) (name ∷ names) zero e = cc
name-at (m ∷ made) (name ∷ names) (suc index) e = name-at made names index (cc)
name-at made names index e = absurd (cc)

behind-first : (instances : List Named) (names : List (List ℕ)) (index : ℕ)
    → names_of instances ≡ None ∷ map (λ (name : List ℕ). Some name) names
    → option_and_then (λ (n : Named). n.name) (slice_get (drop 1 instances) index) ≡ slice_get names index
behind-first [] names index e = absurd (cc)
behind-first (top ∷ made) names index e = name-at made names index (cc)

pub made-name : (g : Config) (state : State) (past : List Request) (index : ℕ) → StandsFor g state past
    → option_and_then (λ (n : Named). n.name) (slice_get (drop 1 state.instances.items) index) ≡ slice_get (instance_names past) index
made-name g state past index stands = behind-first state.instances.items (instance_names past) index stands.names
