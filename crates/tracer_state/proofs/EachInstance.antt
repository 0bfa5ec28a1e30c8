-- Lists of instances: what a loop over them keeps, and their names.
use Rattle.std.proofs.Common.{◌≡◌, ℕ, zero, suc, ◌+◌, ◌<◌, ◌≤◌, ◌≢◌, Bool, true, false, not, ◌||◌, cond, List, [], ◌∷◌, ◌++◌, length, map, take, drop, get_or, set, All, Option, Some, None, refl, sym, ap, ◌∙◌, subst, ⊎_elim, arith, below_more, get_or-set_same, get_or-set_other}
use Rattle.std.proofs.lemmas.Bool.{cases_eq}
use Rattle.std.proofs.lemmas.List.{get_or_default, get_or-map, map-append, take-map, drop-map, length-map}
use Rattle.std.proofs.lemmas.Map.Keys.{IsDistinct-head, IsDistinct-tail, IsDistinct-cons}
use Rattle.std.proofs.lemmas.Slice.Eq.{bytes_eq-Decides}
use Rattle.std.specs.List.{AllByRecursion, IsDistinct, filter}
use Rattle.std.specs.Str.{bytes_eq}
use Rattle.tracer_specification.proofs.OwnFiles.{bytes-differ}
use Rattle.tracer_specification.specs.Settings.{is_same, is_born}
use Rattle.trace_instance.specs.Instances.{InstanceSeen}
use Rattle.tracer_state.specs.States.{names_of}
use Rattle.tracer_state.specs.declared.state.Named.{Named}
use Rattle.trace_instance.proofs.KeptLists.{recursion_at}

-- some instance is there
pub first : (instances : List Named) → 0 < length instances → Named
first [] some = absurd (omega arith)
first (n ∷ instances) some = n

-- ---- one more instance of a loop

-- below the index each instance came to be what it is now, also when one more did
pub came_more : (R : ℕ → InstanceSeen → InstanceSeen → Type 0) (old now : List Named) (i : ℕ) (read new : Named)
    → i < length now → R i (get_or now i read).instance new.instance
    → ((k : ℕ) (d : Named) → k < i → R k (get_or old k d).instance (get_or now k d).instance)
    → ((k : ℕ) (d : Named) → i ≤ k → get_or now k d ≡ get_or old k d)
    → (k : ℕ) (d : Named) → k < i + 1 → R k (get_or old k d).instance (get_or (set now i new) k d).instance
came_more R old now i read new inside one came left = λ k d h. below_more
    (λ (j : ℕ). (e : Named) → R j (get_or old j e).instance (get_or (set now i new) j e).instance) i
    (λ j below e. let other : j ≢ i = omega arith in rw get_or-set_other (came j e below))
    (λ e.
    let here : get_or now i read ≡ get_or old i e = get_or_default now i read e inside ∙ left i e (omega arith) in
    rw get_or-set_same (subst (λ (n : Named). R i n.instance new.instance) here one))
    k h d

-- what holds of each below the index holds of one more
pub held_more : (P : ℕ → InstanceSeen → Type 0) (now : List Named) (i : ℕ) (new : Named) → i < length now → P i new.instance
    → ((k : ℕ) (d : Named) → k < i → P k (get_or now k d).instance)
    → (k : ℕ) (d : Named) → k < i + 1 → P k (get_or (set now i new) k d).instance
held_more P now i new inside one before = λ k d h. below_more
    (λ (j : ℕ). (e : Named) → P j (get_or (set now i new) j e).instance) i
    (λ j below e. let other : j ≢ i = omega arith in rw get_or-set_other (before j e below))
    (λ e. rw get_or-set_same one)
    k h d

-- each keeps its name
pub names_more : (old now : List Named) (i : ℕ) (read new : Named) → i < length now → new.name ≡ (get_or now i read).name
    → ((k : ℕ) (d : Named) → (get_or now k d).name ≡ (get_or old k d).name)
    → (k : ℕ) (d : Named) → (get_or (set now i new) k d).name ≡ (get_or old k d).name
names_more old now i read new inside same names = λ k d. ⊎_elim
    (λ (e : k ≡ i).
    let here : (get_or (set now i new) i d).name ≡ (get_or old i d).name =
    rw get_or-set_same (same ∙ ap (λ (n : Named). n.name) (get_or_default now i read d inside) ∙ names i d) in
    rw e here)
    (λ (other : k ≡ i → ⊥). rw (get_or-set_other now i k new d other) (names k d))
    (cases_eq k i)

-- what an emission does in each instance is known, also in one more
pub reached_more : {X : Type 0} (none : X) (Q : ℕ → X → Type 0) (each : List X) (i : ℕ) (reach : X) → i < length each → Q i reach
    → ((k : ℕ) → k < i → Q k (get_or each k none)) → (k : ℕ) → k < i + 1 → Q k (get_or (set each i reach) k none)
reached_more none Q each i reach inside one before = λ k h. below_more
    (λ (j : ℕ). Q j (get_or (set each i reach) j none)) i
    (λ j below. let other : j ≢ i = omega arith in rw get_or-set_other (before j below))
    (rw get_or-set_same one)
    k h

pub neither : (a b : Bool) → (a || b) ≡ false → (a ≡ false) × (b ≡ false)
neither true b is = absurd (cc)
neither false b is = (refl, is)

-- what holds of each unless something is said of one holds also of one more
pub unless_more : {X : Type 0} (none : X) (Q : ℕ → X → Type 0) (each : List X) (i : ℕ) (new : X) (some one : Bool) → i < length each
    → (one ≡ false → Q i new) → (some ≡ false → (k : ℕ) → k < i → Q k (get_or each k none)) → (some || one) ≡ false
    → (k : ℕ) → k < i + 1 → Q k (get_or (set each i new) k none)
unless_more none Q each i new some one inside here before off =
    let both = neither some one off in
    reached_more none Q each i new inside (here both.1) (before both.0)

-- ---- names

-- lists of instances that have the same names at each index
pub names-same : (old new : List Named) → length new ≡ length old
    → ((k : ℕ) (d : Named) → k < length old → (get_or new k d).name ≡ (get_or old k d).name) → names_of new ≡ names_of old
names-same [] [] many same = refl
names-same [] (n ∷ new) many same = absurd (omega (arith, many))
names-same (o ∷ old) [] many same = absurd (omega (arith, many))
names-same (o ∷ old) (n ∷ new) many same =
    let first : n.name ≡ o.name = same 0 n (omega arith) in
    let fewer : length new ≡ length old = omega (arith, many) in
    let rest = names-same old new fewer (λ k d h. same (suc k) d (omega (arith, h))) in
    cc

-- the name at an index
pub name_at : (instances : List Named) (names : List (Option (List ℕ))) (k : ℕ) (d : Named) → names_of instances ≡ names → k < length instances
    → (get_or instances k d).name ≡ get_or names k None
name_at instances names k d are inside =
    sym (get_or-map (λ (n : Named). n.name) instances k d None inside) ∙ ap (λ (l : List (Option (List ℕ))). get_or l k None) are

-- as many instances as names
pub length-names_of : (instances : List Named) (names : List (List ℕ)) → names_of instances ≡ None ∷ map (λ (n : List ℕ). Some n) names
    → length instances ≡ suc (length names)
length-names_of instances names are =
    sym (length-map instances (λ (n : Named). n.name)) ∙ ap (λ (l : List (Option (List ℕ))). length l) are
    ∙ ap (λ (k : ℕ). suc k) (length-map names (λ (n : List ℕ). Some n))

-- the names without the one at an index
pub names-removed : (index : ℕ) (instances : List Named)
    → names_of (take index instances ++ drop (index + 1) instances) ≡ take index (names_of instances) ++ drop (index + 1) (names_of instances)
names-removed index instances =
    let f : Named → Option (List ℕ) = λ n. n.name in
    map-append f (take index instances) (drop (index + 1) instances)
    ∙ ap (λ (l : List (Option (List ℕ))). l ++ map f (drop (index + 1) instances)) (sym (take-map f index instances))
    ∙ ap (λ (l : List (Option (List ℕ))). take index (map f instances) ++ l) (sym (drop-map f (index + 1) instances))

-- ---- distinct names

-- and holds of those that pass a test
pub recursion-filter : {X : Type 0} (P : X → Type 0) (test : X → Bool) (xs : List X) → AllByRecursion P xs → AllByRecursion P (filter test xs)
recursion-filter P test [] all = tt
recursion-filter P test (x ∷ xs) all = by_test (test x) (recursion-filter P test xs all.1)
  where
    by_test : (passes : Bool) → AllByRecursion P (filter test xs) → AllByRecursion P (cond passes (x ∷ filter test xs) (filter test xs))
    by_test true rest = (all.0, rest)
    by_test false rest = rest

-- distinct names at two places
pub distinct_at : (names : List (List ℕ)) (i j : ℕ) (d : List ℕ) → IsDistinct bytes_eq names → i < length names → j < length names → i ≢ j
    → bytes_eq (get_or names i d) (get_or names j d) ≡ false
distinct_at [] i j d distinct first second other = absurd (omega arith)
distinct_at (n ∷ names) zero zero d distinct first second other = absurd (other refl)
distinct_at (n ∷ names) zero (suc j) d distinct first second other =
    recursion_at (λ (m : List ℕ). bytes_eq n m ≡ false) names j d (IsDistinct-head bytes_eq n names distinct) (omega (arith, second))
distinct_at (n ∷ names) (suc i) zero d distinct first second other =
    bytes-differ n (get_or names i d)
    (recursion_at (λ (m : List ℕ). bytes_eq n m ≡ false) names i d (IsDistinct-head bytes_eq n names distinct) (omega (arith, first)))
distinct_at (n ∷ names) (suc i) (suc j) d distinct first second other =
    distinct_at names i j d (IsDistinct-tail bytes_eq n names distinct) (omega (arith, first)) (omega (arith, second)) (λ e. other (ap (λ (k : ℕ). suc k) e))

-- a name of the list of instances that is not the top one's
abbrev pub some_names : List (List ℕ) → List (Option (List ℕ))
some_names names = map (λ (n : List ℕ). Some n) names

pub some_at : (names : List (List ℕ)) (k : ℕ) (d : Option (List ℕ)) (e : List ℕ) → k < length names → get_or (some_names names) k d ≡ Some (get_or names k e)
some_at names k d e inside = get_or-map (λ (n : List ℕ). Some n) names k e d inside

-- two places of the instances have two names
pub others_differ : (names : List (List ℕ)) (i j : ℕ) → IsDistinct bytes_eq names → i < suc (length names) → j < suc (length names) → i ≢ j
    → is_same (get_or (None ∷ some_names names) i None) (get_or (None ∷ some_names names) j None) ≡ false
others_differ names zero zero distinct first second other = absurd (other refl)
others_differ names zero (suc j) distinct first second other = rw (some_at names j None [] (omega (arith, second))) refl
others_differ names (suc i) zero distinct first second other = rw (some_at names i None [] (omega (arith, first))) refl
others_differ names (suc i) (suc j) distinct first second other =
    rw (some_at names i None [] (omega (arith, first)), some_at names j None [] (omega (arith, second)))
    (distinct_at names i j [] distinct (omega (arith, first)) (omega (arith, second)) (λ e. other (ap (λ (k : ℕ). suc k) e)))

-- no instance has the name of one that is new
pub not_born : (names : List (List ℕ)) (name : List ℕ) (k : ℕ) → All (λ (other : List ℕ). bytes_eq other name ≡ false) names → k < suc (length names)
    → is_born (Some name) (get_or (None ∷ some_names names) k None) ≡ false
not_born names name zero new inside = refl
not_born names name (suc k) new inside =
    rw (some_at names k None [] (omega (arith, inside))) (bytes-differ (get_or names k []) name (new k [] (omega (arith, inside))))

-- one more name
pub distinct-push : (names : List (List ℕ)) (name : List ℕ) → IsDistinct bytes_eq names → All (λ (other : List ℕ). bytes_eq other name ≡ false) names
    → IsDistinct bytes_eq (names ++ name ∷ [])
distinct-push [] name distinct new = IsDistinct-cons bytes_eq name [] tt distinct
distinct-push (n ∷ names) name distinct new =
    IsDistinct-cons bytes_eq n (names ++ name ∷ [])
    (all-push names (IsDistinct-head bytes_eq n names distinct))
    (distinct-push names name (IsDistinct-tail bytes_eq n names distinct) (λ k d h. new (suc k) d (omega (arith, h))))
  where
    all-push : (others : List (List ℕ)) → AllByRecursion (λ (m : List ℕ). bytes_eq n m ≡ false) others
        → AllByRecursion (λ (m : List ℕ). bytes_eq n m ≡ false) (others ++ name ∷ [])
    all-push [] all = (new 0 [] (omega arith), tt)
    all-push (m ∷ others) all = (all.0, all-push others all.1)

-- ---- a name left out

pub distinct-without : (name : List ℕ) (names : List (List ℕ)) → IsDistinct bytes_eq names
    → IsDistinct bytes_eq (filter (λ (other : List ℕ). not (bytes_eq other name)) names)
distinct-without name [] distinct = distinct
distinct-without name (n ∷ names) distinct =
    by_test (not (bytes_eq n name)) (distinct-without name names (IsDistinct-tail bytes_eq n names distinct))
  where
    by_test : (passes : Bool) → IsDistinct bytes_eq (filter (λ (other : List ℕ). not (bytes_eq other name)) names)
        → IsDistinct bytes_eq (cond passes (n ∷ filter (λ (other : List ℕ). not (bytes_eq other name)) names) (filter (λ (other : List ℕ). not (bytes_eq other name)) names))
    by_test true rest =
        IsDistinct-cons bytes_eq n (filter (λ (other : List ℕ). not (bytes_eq other name)) names)
        (recursion-filter (λ (m : List ℕ). bytes_eq n m ≡ false) (λ (other : List ℕ). not (bytes_eq other name)) names (IsDistinct-head bytes_eq n names distinct)) rest
    by_test false rest = rest

-- names of which none is left out
none_left_out : (name : List ℕ) (names : List (List ℕ)) → AllByRecursion (λ (m : List ℕ). bytes_eq name m ≡ false) names
    → filter (λ (other : List ℕ). not (bytes_eq other name)) names ≡ names
none_left_out name [] all = refl
none_left_out name (n ∷ names) all =
    let other : bytes_eq n name ≡ false = bytes-differ name n all.0 in
    let rest = none_left_out name names all.1 in
    rw other (ap (λ (l : List (List ℕ)). n ∷ l) rest)

-- of distinct names all but the one at an index
pub one_left_out : (names : List (List ℕ)) (index : ℕ) (name : List ℕ) → IsDistinct bytes_eq names → index < length names → get_or names index [] ≡ name
    → filter (λ (other : List ℕ). not (bytes_eq other name)) names ≡ take index names ++ drop (suc index) names
one_left_out [] index name distinct inside there = absurd (omega arith)
one_left_out (n ∷ names) zero name distinct inside there =
    let itself : bytes_eq n name ≡ true = (bytes_eq-Decides n name).1 there in
    let rest : filter (λ (other : List ℕ). not (bytes_eq other name)) names ≡ names =
    none_left_out name names (subst (λ (m : List ℕ). AllByRecursion (λ (o : List ℕ). bytes_eq m o ≡ false) names) there (IsDistinct-head bytes_eq n names distinct)) in
    rw itself rest
one_left_out (n ∷ names) (suc index) name distinct inside there =
    let within : index < length names = omega (arith, inside) in
    let other : bytes_eq n name ≡ false =
    subst (λ (m : List ℕ). bytes_eq n m ≡ false) there
    (recursion_at (λ (m : List ℕ). bytes_eq n m ≡ false) names index [] (IsDistinct-head bytes_eq n names distinct) within) in
    let rest = one_left_out names index name (IsDistinct-tail bytes_eq n names distinct) within there in
    rw other (ap (λ (l : List (List ℕ)). n ∷ l) rest)

-- the names of the instances without the one of this name
pub names-without : (instances : List Named) (names : List (List ℕ)) (index : ℕ) (name : List ℕ) → names_of instances ≡ None ∷ some_names names
    → IsDistinct bytes_eq names → index < suc (length names) → get_or (None ∷ some_names names) index None ≡ Some name
    → names_of (take index instances ++ drop (index + 1) instances)
    ≡ None ∷ some_names (filter (λ (other : List ℕ). not (bytes_eq other name)) names)
names-without instances names zero name are distinct inside there = cc
names-without instances names (suc index) name are distinct inside there =
    let within : index < length names = omega (arith, inside) in
    let f : List ℕ → Option (List ℕ) = λ n. Some n in
    let same : Some (get_or names index []) ≡ Some name = sym (some_at names index None [] within) ∙ there in
    let named : get_or names index [] ≡ name = cc in
    let next : suc index + 1 ≡ suc (suc index) = omega arith in
    names-removed (suc index) instances
    ∙ ap (λ (l : List (Option (List ℕ))). take (suc index) l ++ drop (suc index + 1) l) are
    ∙ ap (λ (n : ℕ). (None ∷ take index (some_names names)) ++ drop n (None ∷ some_names names)) next
    ∙ ap (λ (l : List (Option (List ℕ))). None ∷ l)
    (ap (λ (l : List (Option (List ℕ))). l ++ drop (suc index) (some_names names)) (take-map f index names)
    ∙ ap (λ (l : List (Option (List ℕ))). map f (take index names) ++ l) (drop-map f (suc index) names)
    ∙ sym (map-append f (take index names) (drop (suc index) names))
    ∙ ap some_names (sym (one_left_out names index name distinct within named)))
