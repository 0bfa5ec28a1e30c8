-- The scene after one request more.
use Rattle.std.proofs.Common.{◌≡◌, ℕ, ◌+◌, List, [], ◌∷◌, ◌++◌, length, Option, Some, None, refl, ◌∙◌, append-nil, length-append, add-zero}
use Rattle.std.specs.Option.{option_to_list}
use Rattle.trace_command.specs.Requests.{Request, Emission, MakeInstance, RemoveInstance, WriteFile, ReadFile}
use Rattle.trace_format.specs.Definitions.{Definition}
use Rattle.tracer_specification.specs.Settings.{declared_events, declares, made, removed}
use Rattle.mount_tree.specs.Scenes.{with_event, with_instance, without_instance, without_named}
use Rattle.mount_tree.specs.ScenesAfter.{declared_event, events_after, instances_after, left_instances, made_after, made_instance, scene_after}

-- by what the request makes, removes and declares
stepped : (cpus : ℕ) (past : List Request) (request : Request) (m r : Option (List ℕ)) (d : Option Definition) → made request ≡ m → removed request ≡ r
    → declares request ≡ d
    → scene_after cpus (request ∷ past) ≡ record {
      cpus = cpus;
      events = events_after past ++ declared_event (length (declared_events past)) d;
      declared = length (declared_events past ++ option_to_list d);
      instances = left_instances r (instances_after past) ++ made_instance (made_after past) m;
      made = made_after past + length (option_to_list m);
    }
stepped cpus past request m r d makes removes adds = rw (makes, removes, adds) refl

pub making : (cpus : ℕ) (past : List Request) (request : Request) (name : List ℕ) → made request ≡ Some name
    → scene_after cpus (request ∷ past) ≡ with_instance name (scene_after cpus past)
making cpus past (MakeInstance (Some other)) name is =
    let same : other ≡ name = cc in
    rw (same, append-nil (events_after past), append-nil (declared_events past)) refl
making cpus past (MakeInstance None) name is = absurd (cc)
making cpus past (RemoveInstance other) name is = absurd (cc)
making cpus past (Emission event cpu pid pairs) name is = absurd (cc)
making cpus past (WriteFile instance file append text) name is = absurd (cc)
making cpus past (ReadFile instance file limit) name is = absurd (cc)

pub removing : (cpus : ℕ) (past : List Request) (request : Request) (name : List ℕ) → removed request ≡ Some name
    → scene_after cpus (request ∷ past) ≡ without_instance name (scene_after cpus past)
removing cpus past (RemoveInstance (Some other)) name is =
    let same : other ≡ name = cc in
    rw (same, append-nil (events_after past), append-nil (declared_events past), append-nil (without_named name (instances_after past)), add-zero) refl
removing cpus past (RemoveInstance None) name is = absurd (cc)
removing cpus past (MakeInstance other) name is = absurd (cc)
removing cpus past (Emission event cpu pid pairs) name is = absurd (cc)
removing cpus past (WriteFile instance file append text) name is = absurd (cc)
removing cpus past (ReadFile instance file limit) name is = absurd (cc)

pub declaring : (cpus : ℕ) (past : List Request) (request : Request) (event : Definition) → declares request ≡ Some event
    → scene_after cpus (request ∷ past) ≡ with_event event.name (scene_after cpus past)
declaring cpus past (WriteFile instance file append text) event is =
    stepped cpus past (WriteFile instance file append text) None None (Some event) refl refl is
    ∙ (rw (append-nil (instances_after past), add-zero, length-append (declared_events past) (event ∷ [])) refl)
declaring cpus past (RemoveInstance other) event is = absurd (cc)
declaring cpus past (MakeInstance other) event is = absurd (cc)
declaring cpus past (Emission name cpu pid pairs) event is = absurd (cc)
declaring cpus past (ReadFile instance file limit) event is = absurd (cc)

pub leaving : (cpus : ℕ) (past : List Request) (request : Request) → made request ≡ None → removed request ≡ None → declares request ≡ None
    → scene_after cpus (request ∷ past) ≡ scene_after cpus past
leaving cpus past request makes removes adds =
    stepped cpus past request None None None makes removes adds
    ∙ (rw (append-nil (events_after past), append-nil (declared_events past), append-nil (instances_after past), add-zero) refl)
