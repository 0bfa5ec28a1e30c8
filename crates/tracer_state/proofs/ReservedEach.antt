-- An emission's hist triggers in each instance: what a loop keeps that passes an instance in which the event has none.
use Rattle.std.proofs.Common.{◌≡◌, ◌≢◌, ℕ, ◌+◌, ◌<◌, ◌≤◌, ◌==◌, Bool, false, not, List, [], ◌∷◌, length, get_or, refl, sym, ap, ◌∙◌, arith, below_more}
use Rattle.std.specs.Prelude.{Result, Ok, Err, OnErr}
use Rattle.std.proofs.lemmas.Bool.{false≢true, ne_eqb}
use Rattle.std.proofs.lemmas.List.{get_or_default}
use Rattle.trace_format.specs.Operands.{Emission}
use Rattle.trace_instance.specs.Instances.{IsAlike, passed_in}
use Rattle.trace_instance.specs.KeptHists.{passed}
use Rattle.trace_instance.specs.Deliveries.{CanCountRow, NeedsRowMemory}
use Rattle.trace_instance.specs.declared.hists.AttachedHist.{AttachedHist}
use Rattle.tracer_state.specs.States.{NeedsHitMemory}
use Rattle.tracer_state.specs.declared.state.Named.{Named}

pub no-hists : (hists : List AttachedHist) (has : Bool) → has ≡ not (length hists == 0) → has ≡ false → hists ≡ []
no-hists [] has is off = refl
no-hists (a ∷ hists) has is off =
    let some : length (a ∷ hists) ≢ 0 = omega arith in
    absurd (false≢true (sym off ∙ is ∙ ap not (ne_eqb (length (a ∷ hists)) 0 some)))

-- the instance at the index is as it was
pub alike-past : (old now : List Named) (i : ℕ) → ((k : ℕ) (d : Named) → k < i → IsAlike (get_or old k d).instance (get_or now k d).instance)
    → ((k : ℕ) (d : Named) → i ≤ k → get_or now k d ≡ get_or old k d)
    → (k : ℕ) (d : Named) → k < i + 1 → IsAlike (get_or old k d).instance (get_or now k d).instance
alike-past old now i came left = λ k d h. below_more
    (λ (j : ℕ). (n : Named) → IsAlike (get_or old j n).instance (get_or now j n).instance) i
    (λ j below n. came j n below)
    (λ n. rw (left i n (omega arith)) (record { rest = refl; tables = λ number. refl }))
    k h d

-- it has nothing to count
pub counted-past : (e : Emission) (event : ℕ) (now : List Named) (i : ℕ) (read : Named) → i < length now → read ≡ get_or now i read
    → get_or read.instance.hists event [] ≡ [] → ((k : ℕ) (d : Named) → k < i → CanCountRow e event (get_or now k d).instance)
    → (k : ℕ) (d : Named) → k < i + 1 → CanCountRow e event (get_or now k d).instance
counted-past e event now i read inside is none before = λ k d h. below_more
    (λ (j : ℕ). (n : Named) → CanCountRow e event (get_or now j n).instance) i
    (λ j below n. before j n below)
    (λ n.
    let same : get_or now i n ≡ read = get_or_default now i n read inside ∙ sym is in
    rw (same, none) (λ j a within. absurd (omega (arith, within))))
    k h d

-- and passes no filter
pub none-known : (e : Emission) (event : ℕ) (old now : List Named) (i : ℕ) (read : Named) → i < length now → read ≡ get_or now i read
    → get_or read.instance.hists event [] ≡ [] → ((k : ℕ) (d : Named) → i ≤ k → get_or now k d ≡ get_or old k d)
    → (n : Named) → false ∷ false ∷ false ∷ false ∷ [] ≡ passed_in e event (get_or old i n).instance
none-known e event old now i read inside is none left n =
    let same : get_or old i n ≡ read = sym (left i n (omega arith)) ∙ get_or_default now i n read inside ∙ sym is in
    sym (ap (λ (m : Named). passed_in e event m.instance) same ∙ ap (λ (l : List AttachedHist). passed e l) none)

-- what was found out of an instance is known of the one that it was
pub known-here : (e : Emission) (event : ℕ) (old now : List Named) (known : List Bool) (i : ℕ) (read : Named) → i < length now
    → read ≡ get_or now i read → ((k : ℕ) (d : Named) → i ≤ k → get_or now k d ≡ get_or old k d) → known ≡ passed_in e event read.instance
    → (n : Named) → known ≡ passed_in e event (get_or old i n).instance
known-here e event old now known i read inside is left found n =
    let same : get_or old i n ≡ read = sym (left i n (omega arith)) ∙ get_or_default now i n read inside ∙ sym is in
    found ∙ sym (ap (λ (m : Named). passed_in e event m.instance) same)

-- the instance for whose row memory is refused needed it before the first of them
pub needed-here : {A E : Type 0} (e : Emission) (event : ℕ) (old now : List Named) (i : ℕ) (read : Named) (result : Result A E) → i < length old
    → read ≡ get_or now i read → get_or now i read ≡ get_or old i read → NeedsRowMemory e event read.instance
    → OnErr result (NeedsHitMemory e event old)
needed-here e event old now i read (Ok value) inside is left needs = tt
needed-here e event old now i read (Err error) inside is left needs = (i, read, inside, sym (is ∙ left), needs)
