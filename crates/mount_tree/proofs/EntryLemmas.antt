-- Entries at an index, and by name.
use Rattle.std.proofs.Common.{◌≡◌, ◌≢◌, ℕ, zero, suc, ◌+◌, ◌-◌, ◌<◌, ◌≤◌, ltb, Bool, true, false, cond, List, [], ◌∷◌, ◌++◌, length, map, drop, slice_get, Option, Some, None, option_map, refl, sym, ap, ◌∙◌, arith, add-one, length-append}
use Rattle.std.specs.List.{find}
use Rattle.std.specs.Option.{option_or}
use Rattle.std.specs.Str.{bytes_eq}
use Rattle.std.proofs.lemmas.List.Folds.{find-append}
use Rattle.std.proofs.lemmas.Bool.{ltb-false, ltb-true}
use Rattle.std.proofs.lemmas.Option.{slice_get_past}
use Rattle.mount_tree.specs.Children.{Child, cpu_child, cpu_children, event_child, instance_child, node_named}
use Rattle.file_list.specs.declared.folder.Folder.TheVariants as folders
use Rattle.mount_tree.specs.declared.node.Node.{Node}
use Rattle.mount_tree.specs.declared.node.Node.TheVariants as nodes
use Rattle.mount_tree.specs.declared.node.Owner.{Owner}
use Rattle.mount_tree.specs.declared.node.Owner.TheVariants.{Top, Made}
use Rattle.mount_tree.specs.declared.scene.Event.{Event}
use Rattle.mount_tree.specs.declared.scene.Instance.{Instance}

-- ---- by index

-- an index within the first of two lists, and one beyond it
pub append-first : {X : Type 0} (xs ys : List X) (i : ℕ) (x : X) → slice_get xs i ≡ Some x → slice_get (xs ++ ys) i ≡ Some x
append-first [] ys i x at = absurd (cc)
append-first (y ∷ xs) ys zero x at = at
append-first (y ∷ xs) ys (suc i) x at = append-first xs ys i x at

pub append-second : {X : Type 0} (xs ys : List X) (i : ℕ) → slice_get xs i ≡ None → slice_get (xs ++ ys) i ≡ slice_get ys (i - length xs)
append-second [] ys i none = ap (λ (k : ℕ). slice_get ys k) (omega arith)
append-second (x ∷ xs) ys zero none = absurd (cc)
append-second (x ∷ xs) ys (suc i) none = append-second xs ys i none ∙ ap (λ (k : ℕ). slice_get ys k) (omega arith)

pub none-past : {X : Type 0} (xs : List X) (i : ℕ) → slice_get xs i ≡ None → length xs ≤ i
none-past [] i none = omega arith
none-past (x ∷ xs) zero none = absurd (cc)
none-past (x ∷ xs) (suc i) none = let rest = none-past xs i none in omega arith

pub length-cpus : (owner : Owner) (cpus : ℕ) → length (cpu_children owner cpus) ≡ cpus
length-cpus owner zero = refl
length-cpus owner (suc cpu) =
    length-append (cpu_children owner cpu) (cpu_child owner cpu ∷ []) ∙ ap (λ (n : ℕ). n + 1) (length-cpus owner cpu) ∙ omega arith

pub cpu_past : (owner : Owner) (cpus index : ℕ) → cpus ≤ index → slice_get (cpu_children owner cpus) index ≡ None
cpu_past owner cpus index past = slice_get_past (cpu_children owner cpus) index (omega (arith, length-cpus owner cpus))

last_one : {X : Type 0} (xs : List X) (x : X) → slice_get (xs ++ x ∷ []) (length xs) ≡ Some x
last_one [] x = refl
last_one (y ∷ xs) x = last_one xs x

pub cpu_at : (owner : Owner) (cpus index : ℕ) → index < cpus → slice_get (cpu_children owner cpus) index ≡ Some (cpu_child owner index)
cpu_at owner zero index within = absurd (omega arith)
cpu_at owner (suc cpu) index within = by (ltb index cpu) refl (cpu_at owner cpu index)
  where
    by : (b : Bool) → ltb index cpu ≡ b → (index < cpu → slice_get (cpu_children owner cpu) index ≡ Some (cpu_child owner index))
        → slice_get (cpu_children owner cpu ++ cpu_child owner cpu ∷ []) index ≡ Some (cpu_child owner index)
    by true is rest = append-first (cpu_children owner cpu) (cpu_child owner cpu ∷ []) index (cpu_child owner index) (rest (ltb-true index cpu is))
    by false is rest =
        let above : cpu ≤ index = ltb-false index cpu is in
        let same : index ≡ cpu = omega arith in
        rw same (ap (λ (k : ℕ). slice_get (cpu_children owner cpu ++ cpu_child owner cpu ∷ []) k) (sym (length-cpus owner cpu)) ∙ last_one (cpu_children owner cpu) (cpu_child owner cpu))

-- ---- by name

drop-at : {X : Type 0} (xs : List X) (i : ℕ) (x : X) → slice_get xs i ≡ Some x → drop i xs ≡ x ∷ drop (suc i) xs
drop-at [] i x at = absurd (cc)
drop-at (y ∷ xs) zero x at = let same : y ≡ x = cc in rw same refl
drop-at (y ∷ xs) (suc i) x at = drop-at xs i x at

drop-none : {X : Type 0} (xs : List X) (i : ℕ) → slice_get xs i ≡ None → drop i xs ≡ []
drop-none [] zero none = refl
drop-none [] (suc i) none = refl
drop-none (y ∷ xs) zero none = absurd (cc)
drop-none (y ∷ xs) (suc i) none = drop-none xs i none

pub named_here : (name : List ℕ) (entries : List Child) (i : ℕ) (c : Child) → slice_get entries i ≡ Some c → bytes_eq c.name name ≡ true
    → node_named name (drop i entries) ≡ Some c.node
named_here name entries i c at same = rw (drop-at entries i c at, same) refl

pub named_later : (name : List ℕ) (entries : List Child) (i : ℕ) (c : Child) → slice_get entries i ≡ Some c → bytes_eq c.name name ≡ false
    → node_named name (drop (i + 1) entries) ≡ node_named name (drop i entries)
named_later name entries i c at differs = rw (add-one, drop-at entries i c at, differs) refl

pub named_past : (name : List ℕ) (entries : List Child) (i : ℕ) → slice_get entries i ≡ None → node_named name (drop i entries) ≡ None
named_past name entries i none = rw (drop-none entries i none) refl

-- a look-up in two lists
pub named_in-append : (name : List ℕ) (xs ys : List Child) → node_named name (xs ++ ys) ≡ option_or (node_named name xs) (node_named name ys)
named_in-append name xs ys = ap (λ (o : Option Child). option_map (λ (c : Child). c.node) o) (find-append (λ (c : Child). bytes_eq c.name name) xs ys) ∙ by (find (λ (c : Child). bytes_eq c.name name) xs)
  where
    by : (o : Option Child) → option_map (λ (c : Child). c.node) (option_or o (find (λ (c : Child). bytes_eq c.name name) ys)) ≡ option_or (option_map (λ (c : Child). c.node) o) (node_named name ys)
    by None = refl
    by (Some c) = refl

pub named_events : (name : List ℕ) (owner : Owner) (events : List Event)
    → node_named name (map (event_child owner) events)
    ≡ option_map (λ (e : Event). nodes.Folder owner (folders.Event e.index)) (find (λ (e : Event). bytes_eq e.name name) events)
named_events name owner [] = refl
named_events name owner (e ∷ events) = by (bytes_eq e.name name) (named_events name owner events)
  where
    by : (b : Bool)
        → node_named name (map (event_child owner) events)
        ≡ option_map (λ (x : Event). nodes.Folder owner (folders.Event x.index)) (find (λ (x : Event). bytes_eq x.name name) events)
        → option_map (λ (c : Child). c.node) (cond b (Some (event_child owner e)) (find (λ (c : Child). bytes_eq c.name name) (map (event_child owner) events)))
        ≡ option_map (λ (x : Event). nodes.Folder owner (folders.Event x.index)) (cond b (Some e) (find (λ (x : Event). bytes_eq x.name name) events))
    by true rest = refl
    by false rest = rest

pub named_instances : (name : List ℕ) (instances : List Instance)
    → node_named name (map instance_child instances)
    ≡ option_map (λ (i : Instance). nodes.Folder (Made i.serial) folders.Root) (find (λ (i : Instance). bytes_eq i.name name) instances)
named_instances name [] = refl
named_instances name (i ∷ instances) = by (bytes_eq i.name name) (named_instances name instances)
  where
    by : (b : Bool)
        → node_named name (map instance_child instances)
        ≡ option_map (λ (x : Instance). nodes.Folder (Made x.serial) folders.Root) (find (λ (x : Instance). bytes_eq x.name name) instances)
        → option_map (λ (c : Child). c.node) (cond b (Some (instance_child i)) (find (λ (c : Child). bytes_eq c.name name) (map instance_child instances)))
        ≡ option_map (λ (x : Instance). nodes.Folder (Made x.serial) folders.Root) (cond b (Some i) (find (λ (x : Instance). bytes_eq x.name name) instances))
    by true rest = refl
    by false rest = rest

-- the CPUs before one have other names
pub cpu_named_here : (name : List ℕ) (owner : Owner) (cpus cpu : ℕ) → cpu < cpus → node_named name (cpu_children owner cpu) ≡ None
    → bytes_eq (cpu_child owner cpu).name name ≡ true → node_named name (cpu_children owner cpus) ≡ Some (nodes.Folder owner (folders.Cpu cpu))
cpu_named_here name owner zero cpu within before same = absurd (omega arith)
cpu_named_here name owner (suc last) cpu within before same =
    named_in-append name (cpu_children owner last) (cpu_child owner last ∷ []) ∙ by (ltb cpu last) refl (λ less. cpu_named_here name owner last cpu less before same)
  where
    by : (b : Bool) → ltb cpu last ≡ b → (cpu < last → node_named name (cpu_children owner last) ≡ Some (nodes.Folder owner (folders.Cpu cpu)))
        → option_or (node_named name (cpu_children owner last)) (node_named name (cpu_child owner last ∷ [])) ≡ Some (nodes.Folder owner (folders.Cpu cpu))
    by true is rest = rw (rest (ltb-true cpu last is)) refl
    by false is rest =
        let above : last ≤ cpu = ltb-false cpu last is in
        let this : last ≡ cpu = omega arith in
        rw (this, before, same) refl

pub cpu_named_later : (name : List ℕ) (owner : Owner) (cpu : ℕ) → node_named name (cpu_children owner cpu) ≡ None
    → bytes_eq (cpu_child owner cpu).name name ≡ false → node_named name (cpu_children owner (cpu + 1)) ≡ None
cpu_named_later name owner cpu before differs =
    rw add-one (named_in-append name (cpu_children owner cpu) (cpu_child owner cpu ∷ []) ∙ (rw (before, differs) refl))

pub named_event : (name : List ℕ) (owner : Owner) (events : List Event) (found : Option Event) → found ≡ find (λ (e : Event). bytes_eq e.name name) events
    → option_map (λ (e : Event). nodes.Folder owner (folders.Event e.index)) found ≡ node_named name (map (event_child owner) events)
named_event name owner events found is =
    ap (λ (o : Option Event). option_map (λ (e : Event). nodes.Folder owner (folders.Event e.index)) o) is ∙ sym (named_events name owner events)

pub named_instance : (name : List ℕ) (instances : List Instance) (found : Option Instance) → found ≡ find (λ (i : Instance). bytes_eq i.name name) instances
    → option_map (λ (i : Instance). nodes.Folder (Made i.serial) folders.Root) found ≡ node_named name (map instance_child instances)
named_instance name instances found is =
    ap (λ (o : Option Instance). option_map (λ (i : Instance). nodes.Folder (Made i.serial) folders.Root) o) is ∙ sym (named_instances name instances)

pub named_first : (name : List ℕ) (xs ys : List Child) (node : Node) → node_named name xs ≡ Some node → node_named name (xs ++ ys) ≡ Some node
named_first name xs ys node is = named_in-append name xs ys ∙ ap (λ (o : Option Node). option_or o (node_named name ys)) is
