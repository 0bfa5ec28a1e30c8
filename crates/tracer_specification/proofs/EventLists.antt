-- Lists over the declared events.
use Rattle.std.proofs.Common.{◌≡◌, ℕ, zero, suc, ◌<◌, List, [], ◌∷◌, ◌++◌, length, map, get_or, set, replicate, Some, refl, sym, ap, ◌∙◌, subst, arith, append-nil, append_assoc}
use Rattle.std.proofs.lemmas.Option.{slice_get-get_or}
use Rattle.trace_format.specs.Catalogs.{id_of, IsEvent, AreEvents}
use Rattle.trace_format.specs.Definitions.{Definition}
use Rattle.trace_format.proofs.CatalogLemmas.{found_event}
use Rattle.tracer_specification.specs.Settings.{event_named_in}

-- two functions that agree on each element
pub map-agrees : {A B : Type 0} (f h : A → B) (xs : List A) (d : A) → ((j : ℕ) → j < length xs → f (get_or xs j d) ≡ h (get_or xs j d)) → map f xs ≡ map h xs
map-agrees f h [] d agree = refl
map-agrees f h (x ∷ xs) d agree =
    let first : f x ≡ h x = agree 0 (omega arith) in
    let rest = map-agrees f h xs d (λ j inside. agree (suc j) (omega (arith, inside))) in
    cc

-- a function that is one value on each element
pub map-constant : {A B : Type 0} (f : A → B) (v : B) (xs : List A) (d : A) → ((j : ℕ) → j < length xs → f (get_or xs j d) ≡ v) → map f xs ≡ replicate (length xs) v
map-constant f v [] d agree = refl
map-constant f v (x ∷ xs) d agree =
    let first : f x ≡ v = agree 0 (omega arith) in
    let rest = map-constant f v xs d (λ j inside. agree (suc j) (omega (arith, inside))) in
    cc

-- a function that differs from another at one index
pub map-set : {A B : Type 0} (f h : A → B) (v : B) (xs : List A) (i : ℕ) (d : A) → i < length xs → h (get_or xs i d) ≡ v
    → ((j : ℕ) → j < length xs → (j ≡ i → ⊥) → h (get_or xs j d) ≡ f (get_or xs j d)) → map h xs ≡ set (map f xs) i v
map-set f h v [] i d inside here others = absurd (omega arith)
map-set f h v (x ∷ xs) zero d inside here others =
    let rest = map-agrees h f xs d (λ j within. others (suc j) (omega (arith, within)) (λ e. absurd (omega (arith, e)))) in
    cc
map-set f h v (x ∷ xs) (suc i) d inside here others =
    let first : h x ≡ f x = others 0 (omega arith) (λ e. absurd (omega (arith, e))) in
    let rest = map-set f h v xs i d (omega arith) here (λ j within other. others (suc j) (omega (arith, within)) (λ e. other (omega (arith, e)))) in
    cc

-- the number of each event is one more than its index
pub id_at : (events : List Definition) (j : ℕ) (d : Definition) → AreEvents [] events → j < length events → id_of events (get_or events j d).name ≡ Some (suc j)
id_at events j d are inside = (found_event events (suc j) (get_or events j d) are (slice_get-get_or events j d inside)).named

pub named_at : (events : List Definition) (j : ℕ) (d : Definition) → AreEvents [] events → j < length events
    → event_named_in events (get_or events j d).name ≡ Some (record { id = suc j; event = get_or events j d })
named_at events j d are inside = rw (id_at events j d are inside, slice_get-get_or events j d inside) refl

-- no two have one name
pub one_index : (events : List Definition) (i j : ℕ) (d e : Definition) → AreEvents [] events → i < length events → j < length events
    → (get_or events i d).name ≡ (get_or events j e).name → i ≡ j
one_index events i j d e are first second same =
    let ids : Some (suc i) ≡ Some (suc j) = sym (id_at events i d are first) ∙ ap (id_of events) same ∙ id_at events j e are second in
    let same_id : suc i ≡ suc j = cc in
    omega (arith, same_id)

pub AreEvents-push : (before events : List Definition) (event : Definition) → AreEvents before events → IsEvent (before ++ events) event → AreEvents before (events ++ event ∷ [])
AreEvents-push before [] event are is = (subst (λ (b : List Definition). IsEvent b event) (append-nil before) is, tt)
AreEvents-push before (first ∷ events) event are is =
    (are.0, AreEvents-push (before ++ first ∷ []) events event are.1 (subst (λ (b : List Definition). IsEvent b event) (sym (append_assoc before (first ∷ []) events)) is))
