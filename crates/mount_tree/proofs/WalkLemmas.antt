-- A walk through the folders gives the lines that a list of the files has.
use Rattle.std.proofs.Common.{◌≡◌, ℕ, zero, suc, ◌≤◌, drop, eqb, true, ◌&&◌, nat_lt, List, [], ◌∷◌, ◌++◌, map, Some, codes, refl, sym, ap, ◌∙◌, arith, append_assoc, append-nil}
use Rattle.std.proofs.lemmas.Grind.{flat_map-append}
use Rattle.std.specs.List.{AllByRecursion, flat_map}
use Rattle.std.proofs.lemmas.Bool.{and_from, eq-eqb, lt-ltb}
use Rattle.file_list.specs.FileTable.{own_items}
use Rattle.file_list.specs.Files.{item_line, lines_in, lines_of_cpu, lines_of_cpus, lines_of_event, lines_of_events, lines_of_instance}
use Rattle.file_list.specs.Listings.{instance_folder, listing}
use Rattle.file_list.specs.declared.file.File.TheVariants.{SyntheticEvents}
use Rattle.file_list.specs.declared.files.Item.{Item}
use Rattle.file_list.specs.declared.files.Item.TheVariants as items
use Rattle.file_list.specs.declared.files.TheConstants.{EVENTS, OPTIONS, ROOT, SYNTHETIC}
use Rattle.mount_tree.specs.Children.{Child, cpu_child, cpu_children, event_child, fixed_children, instance_child, is_there, item_child, made_children, owner_is_there}
use Rattle.mount_tree.specs.NodePaths.{owner_path}
use Rattle.mount_tree.specs.Nodes as numbers
use Rattle.mount_tree.specs.Scenes.{SceneSeen, event_at, instance_at}
use Rattle.mount_tree.specs.TreeLaws.{IsSound}
use Rattle.mount_tree.specs.Walks.{lines_below, scene_names}
use Rattle.file_list.specs.declared.folder.Folder.{Folder}
use Rattle.file_list.specs.declared.folder.Folder.TheVariants as folders
use Rattle.mount_tree.specs.declared.node.Node.TheVariants as nodes
use Rattle.mount_tree.specs.declared.node.Owner.{Owner}
use Rattle.mount_tree.specs.declared.node.Owner.TheVariants.{Top, Made}
use Rattle.mount_tree.specs.declared.scene.Event.{Event}
use Rattle.mount_tree.specs.declared.scene.Instance.{Instance}
use Rattle.mount_tree.proofs.ListLemmas.{all-weaker, self_found}

-- ---- lists

each_alike : {X : Type 0} (f g : X → List ℕ) (xs : List X) → AllByRecursion (λ x. f x ≡ g x) xs → flat_map f xs ≡ flat_map g xs
each_alike f g [] all = refl
each_alike f g (x ∷ xs) all = let first = all.0 in let rest = each_alike f g xs all.1 in cc

flat_map-map : {X Y Z : Type 0} (g : Y → List Z) (f : X → Y) (xs : List X) → flat_map g (map f xs) ≡ flat_map (λ x. g (f x)) xs
flat_map-map g f [] = refl
flat_map-map {Z} g f (x ∷ xs) = ap (λ (rest : List Z). g (f x) ++ rest) (flat_map-map g f xs)

-- ---- a folder that is there

abbrev below : SceneSeen → ℕ → Child → List ℕ
below scene depth c = lines_below scene depth c.node

opened : (scene : SceneSeen) (depth : ℕ) (owner : Owner) (folder : Folder) → is_there scene (nodes.Folder owner folder) ≡ true
    → lines_below scene (suc depth) (nodes.Folder owner folder)
    ≡ flat_map (below scene depth) (fixed_children owner folder) ++ flat_map (below scene depth) (made_children scene owner folder)
opened scene depth owner folder there =
    rw there (flat_map-append (below scene depth) (fixed_children owner folder) (made_children scene owner folder))

own_there : (scene : SceneSeen) (owner : Owner) → owner_is_there scene owner ≡ true → (owner_is_there scene owner && true) ≡ true
own_there scene owner o = rw o refl

-- ---- events

event_lines : (scene : SceneSeen) (owner : Owner) (e : Event) (depth : ℕ) → owner_is_there scene owner ≡ true → event_at e.index scene.events ≡ Some e
    → below scene (suc (suc depth)) (event_child owner e) ≡ lines_of_event (owner_path scene owner) e.name
event_lines scene owner e depth o found =
    let there : is_there scene (nodes.Folder owner (folders.Event e.index)) ≡ true = rw (o, found) refl in
    opened scene (suc depth) owner (folders.Event e.index) there ∙ append-nil _ ∙ (rw found refl)

each_event_lines : (scene : SceneSeen) (owner : Owner) (depth : ℕ) → IsSound scene → owner_is_there scene owner ≡ true
    → flat_map (below scene (suc (suc depth))) (map (event_child owner) scene.events)
    ≡ flat_map (lines_of_event (owner_path scene owner)) (scene_names scene).events
each_event_lines scene owner depth sound o =
    flat_map-map (below scene (suc (suc depth))) (event_child owner) scene.events
    ∙ each_alike (λ (e : Event). below scene (suc (suc depth)) (event_child owner e))
    (λ (e : Event). lines_of_event (owner_path scene owner) e.name) scene.events
    (all-weaker (λ (e : Event). event_at e.index scene.events ≡ Some e)
    (λ (e : Event). below scene (suc (suc depth)) (event_child owner e) ≡ lines_of_event (owner_path scene owner) e.name) scene.events
    (λ e found. event_lines scene owner e depth o found)
    (self_found eqb (λ (e : Event). e.index) scene.events (λ k. eq-eqb k k refl) sound.distinct_indexes))
    ∙ sym (flat_map-map (lines_of_event (owner_path scene owner)) (λ (e : Event). e.name) scene.events)

system_lines : (scene : SceneSeen) (owner : Owner) (depth : ℕ) → IsSound scene → owner_is_there scene owner ≡ true
    → lines_below scene (suc (suc (suc depth))) (nodes.Folder owner folders.Synthetic)
    ≡ lines_in (owner_path scene owner) (codes "events/synthetic/") SYNTHETIC
    ++ flat_map (lines_of_event (owner_path scene owner)) (scene_names scene).events
system_lines scene owner depth sound o =
    opened scene (suc (suc depth)) owner folders.Synthetic (own_there scene owner o)
    ∙ ap (λ (l : List ℕ). lines_in (owner_path scene owner) (codes "events/synthetic/") SYNTHETIC ++ l) (each_event_lines scene owner depth sound o)

print_lines : (scene : SceneSeen) (owner : Owner) (depth : ℕ) → owner_is_there scene owner ≡ true
    → lines_below scene (suc (suc depth)) (nodes.Folder owner folders.FtracePrint) ≡ []
print_lines scene owner depth o = opened scene (suc depth) owner folders.FtracePrint (own_there scene owner o)

-- no script knows what is there
ftrace_lines : (scene : SceneSeen) (owner : Owner) (depth : ℕ) → owner_is_there scene owner ≡ true
    → lines_below scene (suc (suc (suc depth))) (nodes.Folder owner folders.Ftrace) ≡ []
ftrace_lines scene owner depth o =
    opened scene (suc (suc depth)) owner folders.Ftrace (own_there scene owner o) ∙ (rw (print_lines scene owner depth o) refl)

all_events_lines : (scene : SceneSeen) (owner : Owner) (depth : ℕ) → IsSound scene → owner_is_there scene owner ≡ true
    → lines_below scene (suc (suc (suc (suc depth)))) (nodes.Folder owner folders.Events)
    ≡ lines_of_events (scene_names scene).events (owner_path scene owner)
all_events_lines scene owner depth sound o =
    opened scene (suc (suc (suc depth))) owner folders.Events (own_there scene owner o)
    ∙ (rw (system_lines scene owner depth sound o, ftrace_lines scene owner depth o) (simp (append_assoc, append-nil)))

-- ---- CPUs

cpu_lines : (scene : SceneSeen) (owner : Owner) (cpu depth : ℕ) → owner_is_there scene owner ≡ true → nat_lt cpu scene.cpus ≡ true
    → below scene (suc (suc depth)) (cpu_child owner cpu) ≡ lines_of_cpu (owner_path scene owner) cpu
cpu_lines scene owner cpu depth o within =
    opened scene (suc depth) owner (folders.Cpu cpu) (and_from (owner_is_there scene owner) (nat_lt cpu scene.cpus) o within) ∙ append-nil _

cpus_lines : (scene : SceneSeen) (owner : Owner) (cpus depth : ℕ) → cpus ≤ scene.cpus → owner_is_there scene owner ≡ true
    → flat_map (below scene (suc (suc depth))) (cpu_children owner cpus) ≡ lines_of_cpus (owner_path scene owner) cpus
cpus_lines scene owner zero depth few o = refl
cpus_lines scene owner (suc cpu) depth few o =
    let path = owner_path scene owner in
    let before = cpus_lines scene owner cpu depth (omega arith) o in
    let this = cpu_lines scene owner cpu depth o (lt-ltb cpu scene.cpus (omega arith)) in
    flat_map-append (below scene (suc (suc depth))) (cpu_children owner cpu) (cpu_child owner cpu ∷ [])
    ∙ (rw (before, this) (ap (λ (last : List ℕ). lines_of_cpus path cpu ++ last) (append-nil (lines_of_cpu path cpu))))

per_cpu_lines : (scene : SceneSeen) (owner : Owner) (depth : ℕ) → owner_is_there scene owner ≡ true
    → lines_below scene (suc (suc (suc depth))) (nodes.Folder owner folders.PerCpu) ≡ lines_of_cpus (owner_path scene owner) scene.cpus
per_cpu_lines scene owner depth o =
    opened scene (suc (suc depth)) owner folders.PerCpu (own_there scene owner o) ∙ cpus_lines scene owner scene.cpus depth (omega arith) o

-- ---- an instance

options_lines : (scene : SceneSeen) (owner : Owner) (depth : ℕ) → owner_is_there scene owner ≡ true
    → lines_below scene (suc (suc depth)) (nodes.Folder owner folders.Options) ≡ lines_in (owner_path scene owner) (codes "options/") OPTIONS
options_lines scene owner depth o = opened scene (suc depth) owner folders.Options (own_there scene owner o) ∙ append-nil _

own_lines : (scene : SceneSeen) (owner : Owner) (depth : ℕ) → IsSound scene → owner_is_there scene owner ≡ true
    → flat_map (below scene (suc (suc (suc (suc depth))))) (map (item_child owner 0) own_items)
    ≡ lines_of_instance scene.cpus (scene_names scene).events (owner_path scene owner)
own_lines scene owner depth sound o =
    rw (options_lines scene owner (suc (suc depth)) o, all_events_lines scene owner depth sound o, per_cpu_lines scene owner (suc depth) o) refl

instance_lines : (scene : SceneSeen) (i : Instance) (depth : ℕ) → IsSound scene → instance_at i.serial scene.instances ≡ Some i
    → below scene (suc (suc (suc (suc (suc depth))))) (instance_child i)
    ≡ lines_of_instance scene.cpus (scene_names scene).events (instance_folder i.name)
instance_lines scene i depth sound found =
    let owner = Made i.serial in
    let o : owner_is_there scene owner ≡ true = rw found refl in
    let path : owner_path scene owner ≡ instance_folder i.name = rw found refl in
    opened scene (suc (suc (suc (suc depth)))) owner folders.Root (own_there scene owner o)
    ∙ append-nil _
    ∙ own_lines scene owner depth sound o
    ∙ ap (λ (p : List ℕ). lines_of_instance scene.cpus (scene_names scene).events p) path

instances_lines : (scene : SceneSeen) (depth : ℕ) → IsSound scene
    → lines_below scene (suc (suc (suc (suc (suc (suc depth)))))) (nodes.Folder Top folders.Instances)
    ≡ flat_map (λ (name : List ℕ). lines_of_instance scene.cpus (scene_names scene).events (instance_folder name)) (scene_names scene).instances
instances_lines scene depth sound =
    let deep = suc (suc (suc (suc (suc depth)))) in
    let lines : List ℕ → List ℕ = λ name. lines_of_instance scene.cpus (scene_names scene).events (instance_folder name) in
    opened scene deep Top folders.Instances refl
    ∙ flat_map-map (below scene deep) instance_child scene.instances
    ∙ each_alike (λ (i : Instance). below scene deep (instance_child i)) (λ (i : Instance). lines i.name) scene.instances
    (all-weaker (λ (i : Instance). instance_at i.serial scene.instances ≡ Some i) (λ (i : Instance). below scene deep (instance_child i) ≡ lines i.name) scene.instances
    (λ i found. instance_lines scene i depth sound found)
    (self_found eqb (λ (i : Instance). i.serial) scene.instances (λ k. eq-eqb k k refl) sound.distinct_serials))
    ∙ sym (flat_map-map lines (λ (i : Instance). i.name) scene.instances)

pub tree_lines : (scene : SceneSeen) → IsSound scene → lines_below scene 7 numbers.top ≡ listing scene.cpus (scene_names scene)
unfolding listing
tree_lines scene sound =
    let line : Child → List ℕ = below scene 6 in
    let first : List ℕ = item_line [] [] (items.File SyntheticEvents) in
    let own : List ℕ = lines_of_instance scene.cpus (scene_names scene).events [] in
    let others : List ℕ = flat_map (λ (name : List ℕ). lines_of_instance scene.cpus (scene_names scene).events (instance_folder name)) (scene_names scene).instances in
    let own_is : flat_map line (map (item_child Top 0) own_items) ≡ own = own_lines scene Top 2 sound refl in
    let others_are : lines_below scene 6 (nodes.Folder Top folders.Instances) ≡ others = instances_lines scene 0 sound in
    let rest : flat_map line (map (item_child Top 0) own_items ++ map (item_child Top 0) (drop 18 ROOT)) ≡ own ++ others =
    flat_map-append line (map (item_child Top 0) own_items) (map (item_child Top 0) (drop 18 ROOT))
    ∙ ap (λ (l : List ℕ). l ++ flat_map line (map (item_child Top 0) (drop 18 ROOT))) own_is
    ∙ ap (λ (l : List ℕ). own ++ l) (append-nil (lines_below scene 6 (nodes.Folder Top folders.Instances)) ∙ others_are) in
    opened scene 6 Top folders.Root refl
    ∙ append-nil (flat_map line (fixed_children Top folders.Root))
    ∙ ap (λ (l : List ℕ). first ++ l) rest
    ∙ sym (append_assoc first own others)
