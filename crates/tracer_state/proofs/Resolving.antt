-- Where paths lead: instances and events by their names.
use Rattle.std.proofs.Common.{◌≡◌, ℕ, ◌+◌, ◌<◌, Bool, true, false, List, [], ◌∷◌, length, map, position, get_or, Option, Some, None, Result, Err, refl, sym, ap, ◌∙◌}
use Rattle.std.specs.List.{list_any, position_from}
use Rattle.std.specs.Str.{bytes_eq}
use Rattle.std.proofs.lemmas.Slice.Eq.{bytes_eq-Decides}
use Rattle.std.proofs.lemmas.List.Quantifiers.{position-Some}
use Rattle.std.proofs.lemmas.List.Folds.{list_any_at}
use Rattle.std.proofs.lemmas.Iterator.Adapters.{position_from-zero}
use Rattle.trace_format.proofs.FieldNames.{bytes_eq-swap}
use Rattle.trace_format.specs.Definitions.{Definition}
use Rattle.tracer_specification.specs.Declarations.{IsIndexOf}
use Rattle.tracer_specification.specs.Settings.{instance_names, is_same, is_there}
use Rattle.trace_command.specs.Requests.{Request}
use Rattle.trace_command.specs.Paths as paths
use Rattle.trace_command.specs.Paths.{Address}
use Rattle.trace_command.specs.declared.command.Config.{Config}
use Rattle.trace_command.specs.declared.command.Reply.{Reply}
use Rattle.trace_command.specs.declared.refusal.Refusal.{Refusal}
use Rattle.trace_command.specs.declared.refusal.Refusal.TheVariants.{NoSuchFile, NoSuchInstance}
use Rattle.tracer_specification.specs.History.{file_answer, instance_answer, missing}
use Rattle.tracer_state.specs.private.Files.{IsAt}
use Rattle.trace_instance.specs.Files.{name_at}
use Rattle.tracer_state.specs.States.{StandsFor, names_of}
use Rattle.tracer_state.specs.declared.state.Named.{Named}
use Rattle.tracer_state.specs.declared.state.State.{State}
use Rattle.trace_instance.proofs.EventReads.{name-at_place}

-- ---- events

-- an event that was found by its name has it at its index
pub index-named : (events : List Definition) (name : List ℕ) (index : ℕ) (event : Definition) → IsIndexOf events name index event → name ≡ name_at events index
index-named events name index event indexed =
    let same : name ≡ event.name = (bytes_eq-Decides name event.name).0 indexed.named in
    same ∙ ap (λ (e : Definition). e.name) indexed.there ∙ sym (name-at_place events index event indexed.inside)

-- ---- instances

same-is : (one other : Option (List ℕ)) → is_same one other ≡ true → one ≡ other
same-is None None is = refl
same-is (Some one) (Some other) is = ap Some ((bytes_eq-Decides one other).0 is)
same-is one other is = absurd (cc)

-- whether one of the names of instances is this one
any-named : (name : List ℕ) (names : List (List ℕ))
    → list_any (λ (other : Option (List ℕ)). is_same other (Some name)) (map (λ (n : List ℕ). Some n) names) ≡ list_any (bytes_eq name) names
any-named name [] = refl
any-named name (other ∷ names) =
    let first : bytes_eq other name ≡ bytes_eq name other = bytes_eq-swap other name in
    let rest = any-named name names in
    cc

there-is : (name : Option (List ℕ)) (past : List Request)
    → list_any (λ (other : Option (List ℕ)). is_same other name) (None ∷ map (λ (n : List ℕ). Some n) (instance_names past)) ≡ is_there name past
there-is None past = refl
there-is (Some name) past = any-named name (instance_names past)

any-of-names : (name : Option (List ℕ)) (instances : List Named)
    → list_any (λ (n : Named). is_same n.name name) instances ≡ list_any (λ (other : Option (List ℕ)). is_same other name) (names_of instances)
any-of-names name [] = refl
any-of-names name (n ∷ instances) = let rest = any-of-names name instances in cc

-- some instance of a state has the name exactly where the instance is there
pub any-there : (g : Config) (state : State) (past : List Request) (name : Option (List ℕ)) → StandsFor g state past
    → list_any (λ (n : Named). is_same n.name name) state.instances.items ≡ is_there name past
any-there g state past name stands =
    any-of-names name state.instances.items
    ∙ ap (list_any (λ (other : Option (List ℕ)). is_same other name)) stands.names
    ∙ there-is name past

none-from : {X : Type 0} (p : X → Bool) (k : ℕ) (xs : List X) → position_from p k xs ≡ None → list_any p xs ≡ false
none-from p k [] none = refl
none-from p k (x ∷ xs) none = by (p x) refl (none-from p (k + 1) xs)
  where
    by : (passes : Bool) → p x ≡ passes → (position_from p (k + 1) xs ≡ None → list_any p xs ≡ false) → list_any p (x ∷ xs) ≡ false
    by true is rest = absurd (let h = rw is at none in cc)
    by false is rest = rw is (rest (rw is at none))

none-any : {X : Type 0} (p : X → Bool) (xs : List X) → position p xs ≡ None → list_any p xs ≡ false
none-any p xs none = none-from p 0 xs (sym (position_from-zero p xs) ∙ none)

-- the element at the first index that passes
first-at : {X : Type 0} (p : X → Bool) (xs : List X) (i : ℕ) → position p xs ≡ Some i
    → (list_any p xs ≡ true) × (i < length xs) × ((d : X) → p (get_or xs i d) ≡ true)
first-at p [] i is = absurd (cc)
first-at p (x ∷ xs) i is =
    let at = position-Some p (x ∷ xs) i x is in
    (list_any_at p (x ∷ xs) i x at.0 at.1, at.0, λ d. (position-Some p (x ∷ xs) i d is).1)

-- the index of an instance of a state
abbrev pub place_in : State → Option (List ℕ) → Option ℕ
place_in state name = position (λ (n : Named). is_same n.name name) state.instances.items

pub found-there : (g : Config) (state : State) (past : List Request) (name : Option (List ℕ)) (index : ℕ) → StandsFor g state past
    → place_in state name ≡ Some index → (is_there name past ≡ true) × IsAt state index name
found-there g state past name index stands found =
    let at = first-at (λ (n : Named). is_same n.name name) state.instances.items index found in
    (sym (any-there g state past name stands) ∙ at.0, (at.1, λ d. same-is _ name (at.2 d)))

pub lost-there : (g : Config) (state : State) (past : List Request) (name : Option (List ℕ)) → StandsFor g state past → place_in state name ≡ None
    → is_there name past ≡ false
lost-there g state past name stands lost =
    sym (any-there g state past name stands) ∙ none-any (λ (n : Named). is_same n.name name) state.instances.items lost

-- ---- what an address answers

pub no-instance : (g : Config) (past : List Request) (a : Address) (answered : paths.File → Result Reply Refusal) → is_there a.instance past ≡ false
    → instance_answer a.instance past (file_answer g past answered a.file) ≡ Err NoSuchInstance
no-instance g past a answered is = rw is refl

pub no-file : (g : Config) (past : List Request) (a : Address) (answered : paths.File → Result Reply Refusal) → is_there a.instance past ≡ true
    → a.file ≡ None → instance_answer a.instance past (file_answer g past answered a.file) ≡ Err NoSuchFile
no-file g past a answered is none = rw (is, none) refl

pub missing-file : (g : Config) (past : List Request) (a : Address) (answered : paths.File → Result Reply Refusal) (file : paths.File) (refusal : Refusal)
    → is_there a.instance past ≡ true → a.file ≡ Some file → missing g past file ≡ Some refusal
    → instance_answer a.instance past (file_answer g past answered a.file) ≡ Err refusal
missing-file g past a answered file refusal is some missed = rw (is, some, missed) refl
