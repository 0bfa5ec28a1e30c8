-- What is there is found in the folder that it is in.
use Rattle.std.proofs.Common.{◌≡◌, ℕ, zero, suc, ◌<◌, ◌≤◌, eqb, ltb, Bool, true, false, ◌&&◌, nat_lt, List, [], ◌∷◌, ◌++◌, map, Option, Some, None, is_some, codes, refl, subst, arith}
use Rattle.std.specs.List.{AllByRecursion}
use Rattle.std.proofs.lemmas.Bool.{and_parts, and_from, eqb-true, false≢true, ltb-false, ltb-true}
use Rattle.trace_command.specs.declared.file_name.CpuFile.TheVariants as per_cpu
use Rattle.trace_command.specs.declared.file_name.EventFile.TheVariants as per_event
use Rattle.trace_command.specs.declared.file_name.TopFile.TheVariants as top_files
use Rattle.mount_tree.specs.Children.{Child, children, cpu_child, cpu_children, cpu_name, event_child, file_is_there, fixed_children, folder_is_there, instance_child, is_there, item_child, made_children, node_named, owner_is_there}
use Rattle.mount_tree.specs.Nodes.{top}
use Rattle.mount_tree.specs.Scenes.{SceneSeen, event_at, instance_at}
use Rattle.mount_tree.specs.TreeLaws.{IsFoundIn, IsSound}
use Rattle.file_list.specs.FileTable.{file_name, file_parent, own_items}
use Rattle.file_list.specs.declared.files.TheConstants.{ROOT}
use Rattle.mount_tree.specs.TreeNames.{node_parent}
use Rattle.file_list.specs.declared.file.File.{File}
use Rattle.file_list.specs.declared.file.File.TheVariants.{SyntheticEvents, OfInstance, SystemEnable, OfCpu, OfEvent, Inject, Tool, OfTop, CpuSize, EventId, ErrorLog, Layout, RawPipe}
use Rattle.file_list.specs.declared.folder.Folder.{Folder}
use Rattle.file_list.specs.declared.folder.Folder.TheVariants as folders
use Rattle.mount_tree.specs.declared.node.Node.{Node}
use Rattle.mount_tree.specs.declared.node.Node.TheVariants as nodes
use Rattle.mount_tree.specs.declared.node.Owner.{Owner}
use Rattle.mount_tree.specs.declared.node.Owner.TheVariants.{Top, Made}
use Rattle.mount_tree.specs.declared.scene.Event.{Event}
use Rattle.mount_tree.specs.declared.scene.Instance.{Instance}
use Rattle.mount_tree.proofs.EntryLaws.{children_found}
use Rattle.mount_tree.proofs.EntryLemmas.{named_first}
use Rattle.mount_tree.proofs.ListLemmas.{all-unmapped, found_one, found_passes}
use Rattle.file_list.specs.declared.files.LayoutFile.TheVariants as layouts
use Rattle.file_list.specs.declared.files.ToolFile.TheVariants as tools
use Rattle.file_list.specs.declared.files.TopTool.TheVariants as top_tools

-- ---- what a folder always has

found_always : (scene : SceneSeen) (owner : Owner) (folder : Folder) (name : List ℕ) (node : Node)
    → is_there scene (nodes.Folder owner folder) ≡ true → node_named name (fixed_children owner folder) ≡ Some node
    → IsFoundIn scene (nodes.Folder owner folder) node
found_always scene owner folder name node there is = record {
  name = name;
  found = rw there (named_first name (fixed_children owner folder) (made_children scene owner folder) node is);
}

-- an instance's own folder lists it, the mounted one and that of another instance
own_found : (owner : Owner) (file : File) → node_named (file_name file) (map (item_child owner 0) ROOT) ≡ Some (nodes.File owner file)
    → node_named (file_name file) (map (item_child owner 0) own_items) ≡ Some (nodes.File owner file)
    → node_named (file_name file) (fixed_children owner folders.Root) ≡ Some (nodes.File owner file)
own_found Top file mounted other = mounted
own_found (Made serial) file mounted other = other

file_found : (owner : Owner) (file : File) (scene : SceneSeen) → file_is_there scene owner file ≡ true
    → node_named (file_name file) (fixed_children owner (file_parent file)) ≡ Some (nodes.File owner file)
file_found Top SyntheticEvents scene there = refl
file_found (Made serial) SyntheticEvents scene there = absurd (false≢true there)
file_found owner (OfInstance top_files.Trace) scene there = own_found owner (OfInstance top_files.Trace) refl refl
file_found owner (OfInstance top_files.TracePipe) scene there = own_found owner (OfInstance top_files.TracePipe) refl refl
file_found owner (OfInstance top_files.TraceOptions) scene there = own_found owner (OfInstance top_files.TraceOptions) refl refl
file_found owner (OfInstance top_files.TracingOn) scene there = own_found owner (OfInstance top_files.TracingOn) refl refl
file_found owner (OfInstance top_files.Snapshot) scene there = own_found owner (OfInstance top_files.Snapshot) refl refl
file_found owner (OfInstance top_files.Overwrite) scene there = refl
file_found owner (OfInstance top_files.EventsEnable) scene there = refl
file_found owner (OfInstance top_files.EventsFilter) scene there = refl
file_found owner SystemEnable scene there = refl
file_found owner (OfCpu cpu per_cpu.Trace) scene there = refl
file_found owner (OfCpu cpu per_cpu.TracePipe) scene there = refl
file_found owner (OfCpu cpu per_cpu.Stats) scene there = refl
file_found owner (OfEvent event per_event.Enable) scene there = refl
file_found owner (OfEvent event per_event.Filter) scene there = refl
file_found owner (OfEvent event per_event.Trigger) scene there = refl
file_found owner (OfEvent event per_event.Hist) scene there = refl
file_found owner (OfEvent event per_event.Format) scene there = refl
file_found owner (Inject event) scene there = refl
file_found owner (Tool tools.AvailableTracers) scene there = own_found owner (Tool tools.AvailableTracers) refl refl
file_found owner (Tool tools.CurrentTracer) scene there = own_found owner (Tool tools.CurrentTracer) refl refl
file_found owner (Tool tools.SetEvent) scene there = own_found owner (Tool tools.SetEvent) refl refl
file_found owner (Tool tools.TraceClock) scene there = own_found owner (Tool tools.TraceClock) refl refl
file_found owner (Tool tools.TimestampMode) scene there = own_found owner (Tool tools.TimestampMode) refl refl
file_found owner (Tool tools.BufferSizeKb) scene there = own_found owner (Tool tools.BufferSizeKb) refl refl
file_found owner (Tool tools.BufferTotalSizeKb) scene there = own_found owner (Tool tools.BufferTotalSizeKb) refl refl
file_found owner (Tool tools.TracingCpumask) scene there = own_found owner (Tool tools.TracingCpumask) refl refl
file_found Top (OfTop top_tools.AvailableEvents) scene there = refl
file_found Top (OfTop top_tools.Readme) scene there = refl
file_found Top (OfTop top_tools.SavedCmdlines) scene there = refl
file_found Top (OfTop top_tools.PrintkFormats) scene there = refl
file_found Top (OfTop top_tools.TracingThresh) scene there = refl
file_found (Made serial) (OfTop file) scene there = absurd (false≢true there)
file_found owner (CpuSize cpu) scene there = refl
file_found owner (EventId event) scene there = refl
file_found owner ErrorLog scene there = own_found owner ErrorLog refl refl
file_found owner (Layout layouts.HeaderPage) scene there = refl
file_found owner (Layout layouts.HeaderEvent) scene there = refl
file_found owner (Layout layouts.PrintFormat) scene there = refl
file_found owner (RawPipe cpu) scene there = refl

pub parent_there : (scene : SceneSeen) (owner : Owner) (file : File) → file_is_there scene owner file ≡ true
    → folder_is_there scene owner (file_parent file) ≡ true
parent_there scene owner SyntheticEvents there = refl
parent_there scene owner (OfInstance file) there = there
parent_there scene owner SystemEnable there = there
parent_there scene owner (OfCpu cpu file) there = there
parent_there scene owner (OfEvent event file) there = there
parent_there scene owner (Inject event) there = there
parent_there scene owner (Tool file) there = there
parent_there scene owner (OfTop file) there = refl
parent_there scene owner (CpuSize cpu) there = there
parent_there scene owner (EventId event) there = there
parent_there scene owner ErrorLog there = there
parent_there scene owner (Layout file) there = there
parent_there scene owner (RawPipe cpu) there = there

-- ---- CPUs, events and instances

all-first : {X : Type 0} (Q : X → Type 0) (xs ys : List X) → AllByRecursion Q (xs ++ ys) → AllByRecursion Q xs
all-first Q [] ys all = tt
all-first Q (x ∷ xs) ys all = (all.0, all-first Q xs ys all.1)

all-second : {X : Type 0} (Q : X → Type 0) (xs ys : List X) → AllByRecursion Q (xs ++ ys) → AllByRecursion Q ys
all-second Q [] ys all = all
all-second Q (x ∷ xs) ys all = all-second Q xs ys all.1

one_cpu : (Q : Child → Type 0) (owner : Owner) (cpus cpu : ℕ) → AllByRecursion Q (cpu_children owner cpus) → cpu < cpus → Q (cpu_child owner cpu)
one_cpu Q owner zero cpu all within = absurd (omega arith)
one_cpu Q owner (suc last) cpu all within =
    by (ltb cpu last) refl (λ less. one_cpu Q owner last cpu (all-first Q (cpu_children owner last) (cpu_child owner last ∷ []) all) less)
  where
    by : (b : Bool) → ltb cpu last ≡ b → (cpu < last → Q (cpu_child owner cpu)) → Q (cpu_child owner cpu)
    by true is rest = rest (ltb-true cpu last is)
    by false is rest =
        let above : last ≤ cpu = ltb-false cpu last is in
        let same : last ≡ cpu = omega arith in
        subst (λ (k : ℕ). Q (cpu_child owner k)) same (all-second Q (cpu_children owner last) (cpu_child owner last ∷ []) all).0

-- each entry that a folder has for them is found by its name
abbrev IsFound : SceneSeen → Node → Child → Type 0
IsFound scene folder c = node_named c.name (children scene folder) ≡ Some c.node

made_found : (scene : SceneSeen) (owner : Owner) (folder : Folder) → IsSound scene → is_there scene (nodes.Folder owner folder) ≡ true
    → AllByRecursion (IsFound scene (nodes.Folder owner folder)) (made_children scene owner folder)
made_found scene owner folder sound there =
    all-second (IsFound scene (nodes.Folder owner folder)) (fixed_children owner folder) (made_children scene owner folder)
    (subst (AllByRecursion (IsFound scene (nodes.Folder owner folder))) opened (children_found scene (nodes.Folder owner folder) sound))
  where
    opened : children scene (nodes.Folder owner folder) ≡ fixed_children owner folder ++ made_children scene owner folder
    opened = rw there refl

cpu_found : (scene : SceneSeen) (owner : Owner) (cpu : ℕ) → IsSound scene → owner_is_there scene owner ≡ true → nat_lt cpu scene.cpus ≡ true
    → IsFoundIn scene (nodes.Folder owner folders.PerCpu) (nodes.Folder owner (folders.Cpu cpu))
cpu_found scene owner cpu sound o within =
    let there = and_from (owner_is_there scene owner) true o refl in record {
      name = cpu_name cpu;
      found = one_cpu (IsFound scene (nodes.Folder owner folders.PerCpu)) owner scene.cpus cpu (made_found scene owner folders.PerCpu sound there)
          (ltb-true cpu scene.cpus within);
    }

event_found : (scene : SceneSeen) (owner : Owner) (event : ℕ) → IsSound scene → owner_is_there scene owner ≡ true
    → is_some (event_at event scene.events) ≡ true
    → IsFoundIn scene (nodes.Folder owner folders.Synthetic) (nodes.Folder owner (folders.Event event))
event_found scene owner event sound o some = by (event_at event scene.events) refl some
  where
    by : (e : Option Event) → event_at event scene.events ≡ e → is_some e ≡ true
        → IsFoundIn scene (nodes.Folder owner folders.Synthetic) (nodes.Folder owner (folders.Event event))
    by None at there = absurd (false≢true there)
    by (Some e) at there =
        let in_it = and_from (owner_is_there scene owner) true o refl in
        let found = found_one (λ (x : Event). IsFound scene (nodes.Folder owner folders.Synthetic) (event_child owner x)) (λ (x : Event). eqb x.index event) scene.events e
        (all-unmapped (IsFound scene (nodes.Folder owner folders.Synthetic)) (event_child owner) scene.events (made_found scene owner folders.Synthetic sound in_it)) at in
        let same : e.index ≡ event = eqb-true e.index event (found_passes (λ (x : Event). eqb x.index event) scene.events e at) in
        subst (λ (k : ℕ). IsFoundIn scene (nodes.Folder owner folders.Synthetic) (nodes.Folder owner (folders.Event k))) same
        (record { name = e.name; found = found })

instance_found : (scene : SceneSeen) (serial : ℕ) → IsSound scene → is_some (instance_at serial scene.instances) ≡ true
    → IsFoundIn scene (nodes.Folder Top folders.Instances) (nodes.Folder (Made serial) folders.Root)
instance_found scene serial sound some = by (instance_at serial scene.instances) refl some
  where
    by : (i : Option Instance) → instance_at serial scene.instances ≡ i → is_some i ≡ true
        → IsFoundIn scene (nodes.Folder Top folders.Instances) (nodes.Folder (Made serial) folders.Root)
    by None at there = absurd (false≢true there)
    by (Some i) at there =
        let found = found_one (λ (x : Instance). IsFound scene (nodes.Folder Top folders.Instances) (instance_child x)) (λ (x : Instance). eqb x.serial serial) scene.instances i
        (all-unmapped (IsFound scene (nodes.Folder Top folders.Instances)) instance_child scene.instances (made_found scene Top folders.Instances sound refl)) at in
        let same : i.serial ≡ serial = eqb-true i.serial serial (found_passes (λ (x : Instance). eqb x.serial serial) scene.instances i at) in
        subst (λ (k : ℕ). IsFoundIn scene (nodes.Folder Top folders.Instances) (nodes.Folder (Made k) folders.Root)) same
        (record { name = i.name; found = found })

-- ---- all nodes

pub own_there : (scene : SceneSeen) (owner : Owner) → owner_is_there scene owner ≡ true → (owner_is_there scene owner && true) ≡ true
own_there scene owner o = and_from (owner_is_there scene owner) true o refl

in_root : (scene : SceneSeen) (owner : Owner) (folder : Folder) (name : List ℕ) → owner_is_there scene owner ≡ true
    → node_named name (fixed_children owner folders.Root) ≡ Some (nodes.Folder owner folder)
    → IsFoundIn scene (nodes.Folder owner folders.Root) (nodes.Folder owner folder)
in_root scene owner folder name o is = found_always scene owner folders.Root name (nodes.Folder owner folder) (own_there scene owner o) is

folder_reached : (scene : SceneSeen) (owner : Owner) (folder : Folder) → IsSound scene → owner_is_there scene owner ≡ true
    → folder_is_there scene owner folder ≡ true → (nodes.Folder owner folder ≡ top → ⊥)
    → IsFoundIn scene (node_parent (nodes.Folder owner folder)) (nodes.Folder owner folder)
folder_reached scene Top folders.Root sound o f other = absurd (other refl)
folder_reached scene (Made serial) folders.Root sound o f other = instance_found scene serial sound o
folder_reached scene Top folders.Instances sound o f other = in_root scene Top folders.Instances (codes "instances") o refl
folder_reached scene (Made serial) folders.Instances sound o f other = absurd (false≢true f)
folder_reached scene Top folders.Options sound o f other = in_root scene Top folders.Options (codes "options") o refl
folder_reached scene (Made serial) folders.Options sound o f other = in_root scene (Made serial) folders.Options (codes "options") o refl
folder_reached scene Top folders.PerCpu sound o f other = in_root scene Top folders.PerCpu (codes "per_cpu") o refl
folder_reached scene (Made serial) folders.PerCpu sound o f other = in_root scene (Made serial) folders.PerCpu (codes "per_cpu") o refl
folder_reached scene Top folders.Events sound o f other = in_root scene Top folders.Events (codes "events") o refl
folder_reached scene (Made serial) folders.Events sound o f other = in_root scene (Made serial) folders.Events (codes "events") o refl
folder_reached scene Top folders.Synthetic sound o f other =
    found_always scene Top folders.Events (codes "synthetic") (nodes.Folder Top folders.Synthetic) (own_there scene Top o) refl
folder_reached scene (Made serial) folders.Synthetic sound o f other =
    found_always scene (Made serial) folders.Events (codes "synthetic") (nodes.Folder (Made serial) folders.Synthetic) (own_there scene (Made serial) o) refl
folder_reached scene Top folders.Ftrace sound o f other =
    found_always scene Top folders.Events (codes "ftrace") (nodes.Folder Top folders.Ftrace) (own_there scene Top o) refl
folder_reached scene (Made serial) folders.Ftrace sound o f other =
    found_always scene (Made serial) folders.Events (codes "ftrace") (nodes.Folder (Made serial) folders.Ftrace) (own_there scene (Made serial) o) refl
folder_reached scene Top folders.FtracePrint sound o f other =
    found_always scene Top folders.Ftrace (codes "print") (nodes.Folder Top folders.FtracePrint) (own_there scene Top o) refl
folder_reached scene (Made serial) folders.FtracePrint sound o f other =
    found_always scene (Made serial) folders.Ftrace (codes "print") (nodes.Folder (Made serial) folders.FtracePrint) (own_there scene (Made serial) o) refl
folder_reached scene Top (folders.Cpu cpu) sound o f other = cpu_found scene Top cpu sound o f
folder_reached scene (Made serial) (folders.Cpu cpu) sound o f other = cpu_found scene (Made serial) cpu sound o f
folder_reached scene Top (folders.Event event) sound o f other = event_found scene Top event sound o f
folder_reached scene (Made serial) (folders.Event event) sound o f other = event_found scene (Made serial) event sound o f

pub reached : (scene : SceneSeen) (node : Node) → IsSound scene → is_there scene node ≡ true → (node ≡ top → ⊥) → IsFoundIn scene (node_parent node) node
reached scene (nodes.Folder owner folder) sound there other =
    let both = and_parts (owner_is_there scene owner) (folder_is_there scene owner folder) there in
    folder_reached scene owner folder sound both.0 both.1 other
reached scene (nodes.File owner file) sound there other =
    let both = and_parts (owner_is_there scene owner) (file_is_there scene owner file) there in
    found_always scene owner (file_parent file) (file_name file) (nodes.File owner file)
    (and_from (owner_is_there scene owner) (folder_is_there scene owner (file_parent file)) both.0 (parent_there scene owner file both.1))
    (file_found owner file scene both.1)
