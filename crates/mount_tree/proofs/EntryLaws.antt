-- A folder's list has each name once, and a look-up finds just what is listed.
use Rattle.std.proofs.Common.{◌≡◌, ℕ, zero, suc, ◌≤◌, Bool, true, false, cond, List, [], ◌∷◌, ◌++◌, map, Option, Some, option_map, codes, refl, sym, ap, subst, ◌∙◌, arith}
use Rattle.std.specs.List.{AllByRecursion, IsDistinct, find}
use Rattle.std.specs.Fmt.{digits}
use Rattle.std.specs.Str.{bytes_eq}
use Rattle.std.proofs.lemmas.Bool.{false≢true, not-true, or_parts}
use Rattle.std.proofs.lemmas.Map.Keys.{IsDistinct-cons, IsDistinct-tail}
use Rattle.std.proofs.lemmas.Slice.Eq.{bytes_eq-Decides}
use Rattle.trace_lex.specs.Names.{is_name}
use Rattle.mount_tree.specs.Children.{Child, children, cpu_children, cpu_name, event_child, fixed_children, instance_child, is_there, made_children, node_named}
use Rattle.mount_tree.specs.FolderLists.{dots, folder_list}
use Rattle.mount_tree.specs.Scenes.{SceneSeen, has_folder}
use Rattle.mount_tree.specs.TreeLaws.{IsSound}
use Rattle.file_list.specs.declared.folder.Folder.{Folder}
use Rattle.file_list.specs.declared.folder.Folder.TheVariants as folders
use Rattle.mount_tree.specs.declared.node.Node.{Node}
use Rattle.mount_tree.specs.declared.node.Node.TheVariants as nodes
use Rattle.mount_tree.specs.declared.node.Owner.{Owner}
use Rattle.mount_tree.specs.declared.node.Owner.TheVariants.{Top, Made}
use Rattle.mount_tree.specs.declared.scene.Event.{Event}
use Rattle.mount_tree.specs.declared.scene.Instance.{Instance}
use Rattle.mount_tree.proofs.ListLemmas.{all-weaker, are_apart, distinct_by, self_found}

abbrev names_of : List Child → List (List ℕ)
names_of entries = map (λ (c : Child). c.name) entries

-- `.` and `..` beside other names
abbrev with_dots : List (List ℕ) → List (List ℕ)
with_dots names = codes "." ∷ codes ".." ∷ names

-- ---- CPUs

cpus_apart : (owner : Owner) (cpus : ℕ) → cpus ≤ 8 → are_apart (with_dots (names_of (cpu_children owner cpus))) ≡ true
unfolding cpu_name digits
cpus_apart owner zero few = refl
cpus_apart owner (suc zero) few = refl
cpus_apart owner (suc (suc zero)) few = refl
cpus_apart owner (suc (suc (suc zero))) few = refl
cpus_apart owner (suc (suc (suc (suc zero)))) few = refl
cpus_apart owner (suc (suc (suc (suc (suc zero))))) few = refl
cpus_apart owner (suc (suc (suc (suc (suc (suc zero)))))) few = refl
cpus_apart owner (suc (suc (suc (suc (suc (suc (suc zero))))))) few = refl
cpus_apart owner (suc (suc (suc (suc (suc (suc (suc (suc zero)))))))) few = refl
cpus_apart owner (suc (suc (suc (suc (suc (suc (suc (suc (suc more))))))))) few = absurd (omega arith)

-- ---- events

-- a name beside which an event's is none of the two files
flips : (name other : List ℕ) → bytes_eq name other ≡ false → bytes_eq other name ≡ false
flips name other apart = by (bytes_eq other name) refl
  where
    by : (b : Bool) → bytes_eq other name ≡ b → b ≡ false
    by false is = refl
    by true is = sym ((bytes_eq-Decides name other).1 (sym ((bytes_eq-Decides other name).0 is))) ∙ apart

event_names : (owner : Owner) (events : List Event) → names_of (map (event_child owner) events) ≡ map (λ (e : Event). e.name) events
event_names owner [] = refl
event_names owner (e ∷ events) = ap (λ (names : List (List ℕ)). e.name ∷ names) (event_names owner events)

instance_names : (instances : List Instance) → names_of (map instance_child instances) ≡ map (λ (i : Instance). i.name) instances
instance_names [] = refl
instance_names (i ∷ instances) = ap (λ (names : List (List ℕ)). i.name ∷ names) (instance_names instances)

-- no event with a folder is called as a file beside it
not_enable : (name : List ℕ) → has_folder name ≡ true → bytes_eq (codes "enable") name ≡ false
not_enable name has =
    flips name (codes "enable") (or_parts (bytes_eq name (codes "enable")) (bytes_eq name (codes "filter")) (not-true _ has)).0

not_filter : (name : List ℕ) → has_folder name ≡ true → bytes_eq (codes "filter") name ≡ false
not_filter name has =
    flips name (codes "filter") (or_parts (bytes_eq name (codes "enable")) (bytes_eq name (codes "filter")) (not-true _ has)).1

-- no name has a dot
no_dots : (dotted name : List ℕ) → is_name dotted ≡ false → is_name name ≡ true → bytes_eq dotted name ≡ false
no_dots dotted name none is = by (bytes_eq dotted name) refl
  where
    by : (b : Bool) → bytes_eq dotted name ≡ b → b ≡ false
    by false differs = refl
    by true same =
        absurd (false≢true (sym none ∙ subst (λ (n : List ℕ). is_name n ≡ true) (sym ((bytes_eq-Decides dotted name).0 same)) is))

all_dotless : {X : Type 0} (name_of : X → List ℕ) (xs : List X) (dotted : List ℕ) → is_name dotted ≡ false
    → AllByRecursion (λ x. is_name (name_of x) ≡ true) xs → AllByRecursion (λ name. bytes_eq dotted name ≡ false) (map name_of xs)
all_dotless name_of [] dotted none all = tt
all_dotless name_of (x ∷ xs) dotted none all = (no_dots dotted (name_of x) none all.0, all_dotless name_of xs dotted none all.1)

dots_distinct : (names : List (List ℕ)) → AllByRecursion (λ name. bytes_eq (codes ".") name ≡ false) names
    → AllByRecursion (λ name. bytes_eq (codes "..") name ≡ false) names → IsDistinct bytes_eq names → IsDistinct bytes_eq (with_dots names)
dots_distinct names one two distinct =
    IsDistinct-cons bytes_eq (codes ".") (codes ".." ∷ names) (refl, one) (IsDistinct-cons bytes_eq (codes "..") names two distinct)

each_name : (Q : List ℕ → Type 0) (events : List Event) → AllByRecursion (λ (e : Event). has_folder e.name ≡ true) events
    → ((name : List ℕ) → has_folder name ≡ true → Q name) → AllByRecursion Q (map (λ (e : Event). e.name) events)
each_name Q [] all holds = tt
each_name Q (e ∷ events) all holds = (holds e.name all.0, each_name Q events all.1 holds)

system_distinct : (events : List Event) → AllByRecursion (λ (e : Event). has_folder e.name ≡ true) events
    → IsDistinct bytes_eq (map (λ (e : Event). e.name) events)
    → IsDistinct bytes_eq (codes "enable" ∷ codes "filter" ∷ map (λ (e : Event). e.name) events)
system_distinct events folders_are distinct =
    let names = map (λ (e : Event). e.name) events in
    IsDistinct-cons bytes_eq (codes "enable") (codes "filter" ∷ names)
    (refl, each_name (λ name. bytes_eq (codes "enable") name ≡ false) events folders_are not_enable)
    (IsDistinct-cons bytes_eq (codes "filter") names
    (each_name (λ name. bytes_eq (codes "filter") name ≡ false) events folders_are not_filter) distinct)

-- ---- all folders

folder_distinct : (scene : SceneSeen) (owner : Owner) (folder : Folder) → IsSound scene
    → IsDistinct bytes_eq (with_dots (names_of (fixed_children owner folder ++ made_children scene owner folder)))
folder_distinct scene Top folders.Root sound = distinct_by _ refl
folder_distinct scene (Made serial) folders.Root sound = distinct_by _ refl
folder_distinct scene owner folders.Options sound = distinct_by _ refl
folder_distinct scene owner folders.Events sound = distinct_by _ refl
folder_distinct scene owner folders.Ftrace sound = distinct_by _ refl
folder_distinct scene owner folders.FtracePrint sound = distinct_by _ refl
folder_distinct scene owner (folders.Cpu cpu) sound = distinct_by _ refl
folder_distinct scene owner (folders.Event event) sound = distinct_by _ refl
folder_distinct scene owner folders.PerCpu sound = distinct_by _ (cpus_apart owner scene.cpus sound.few_cpus)
folder_distinct scene owner folders.Instances sound =
    subst (λ (names : List (List ℕ)). IsDistinct bytes_eq (with_dots names)) (sym (instance_names scene.instances))
    (dots_distinct (map (λ (i : Instance). i.name) scene.instances)
    (all_dotless (λ (i : Instance). i.name) scene.instances (codes ".") refl sound.instance_names)
    (all_dotless (λ (i : Instance). i.name) scene.instances (codes "..") refl sound.instance_names)
    sound.distinct_instances)
folder_distinct scene owner folders.Synthetic sound =
    subst (λ (names : List (List ℕ)). IsDistinct bytes_eq (with_dots (codes "enable" ∷ codes "filter" ∷ names))) (sym (event_names owner scene.events))
    (dots_distinct (codes "enable" ∷ codes "filter" ∷ map (λ (e : Event). e.name) scene.events)
    (refl, (refl, all_dotless (λ (e : Event). e.name) scene.events (codes ".") refl sound.event_names))
    (refl, (refl, all_dotless (λ (e : Event). e.name) scene.events (codes "..") refl sound.event_names))
    (system_distinct scene.events sound.folders sound.distinct_events))

pub children_distinct : (scene : SceneSeen) (folder : Node) → IsSound scene → IsDistinct bytes_eq (names_of (children scene folder))
children_distinct scene (nodes.File owner file) sound = distinct_by _ refl
children_distinct scene (nodes.Folder owner folder) sound = by (is_there scene (nodes.Folder owner folder))
  where
    by : (there : Bool) → IsDistinct bytes_eq (names_of (cond there (fixed_children owner folder ++ made_children scene owner folder) []))
    by false = distinct_by _ refl
    by true =
        let names = names_of (fixed_children owner folder ++ made_children scene owner folder) in
        IsDistinct-tail bytes_eq (codes "..") names (IsDistinct-tail bytes_eq (codes ".") (codes ".." ∷ names) (folder_distinct scene owner folder sound))

pub list_distinct : (scene : SceneSeen) (folder : Node) → IsSound scene → IsDistinct bytes_eq (names_of (folder_list scene folder))
list_distinct scene (nodes.File owner file) sound = distinct_by _ refl
list_distinct scene (nodes.Folder owner folder) sound = by (is_there scene (nodes.Folder owner folder))
  where
    by : (there : Bool)
        → IsDistinct bytes_eq (names_of (cond there (dots (nodes.Folder owner folder) ++ cond there (fixed_children owner folder ++ made_children scene owner folder) []) []))
    by false = distinct_by _ refl
    by true = folder_distinct scene owner folder sound

pub children_found : (scene : SceneSeen) (folder : Node) → IsSound scene
    → AllByRecursion (λ (c : Child). node_named c.name (children scene folder) ≡ Some c.node) (children scene folder)
children_found scene folder sound =
    let entries = children scene folder in
    all-weaker (λ (c : Child). find (λ (d : Child). bytes_eq d.name c.name) entries ≡ Some c)
    (λ (c : Child). node_named c.name entries ≡ Some c.node) entries
    (λ c found. ap (λ (o : Option Child). option_map (λ (d : Child). d.node) o) found)
    (self_found bytes_eq (λ (c : Child). c.name) entries (λ name. (bytes_eq-Decides name name).1 refl) (children_distinct scene folder sound))
