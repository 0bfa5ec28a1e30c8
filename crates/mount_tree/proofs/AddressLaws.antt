-- The path of a file that is there names that file.
use Rattle.std.proofs.Common.{◌≡◌, ℕ, zero, suc, ◌<◌, eqb, Bool, true, false, cond, List, [], ◌∷◌, ◌++◌, length, Option, Some, None, option_map, is_some, codes, refl, ap, subst, ◌∙◌, arith, append_assoc}
use Rattle.std.specs.List.{AllByRecursion, list_all}
use Rattle.std.specs.Fmt.{digits}
use Rattle.std.specs.Str.{bytes_eq}
use Rattle.std.proofs.lemmas.Bool.{and_parts, eqb-true, false≢true, lt-ltb, ltb-true}
use Rattle.std.proofs.lemmas.List.Elements.{All-from_recursion}
use Rattle.std.proofs.lemmas.List.Splits.{slice_split_at, slice_split_none}
use Rattle.trace_command.specs.Paths as paths
use Rattle.trace_command.specs.Paths.{Address, address_in, address_of, below_mount_point, cpu_file, cpu_number, event_file, events_file, file_in, file_of_instance, mount_point, option_file, parts, system_file, top_file}
use Rattle.trace_command.specs.declared.file_name.CpuFile.{CpuFile}
use Rattle.trace_command.specs.declared.file_name.CpuFile.TheVariants as per_cpu
use Rattle.trace_command.specs.declared.file_name.EventFile.{EventFile}
use Rattle.trace_command.specs.declared.file_name.EventFile.TheVariants as per_event
use Rattle.trace_command.specs.declared.file_name.TopFile.{TopFile}
use Rattle.trace_command.specs.declared.file_name.TopFile.TheVariants as top
use Rattle.trace_lex.specs.Names.{is_letter, is_name, is_name_byte}
use Rattle.file_list.specs.Files.{cpu_folder, event_folder}
use Rattle.file_list.specs.Listings.{instance_folder}
use Rattle.mount_tree.specs.Children.{cpu_name, file_is_there, is_there}
use Rattle.mount_tree.specs.NodePaths.{address_meant, file_meant, folder_path, path_of}
use Rattle.mount_tree.specs.Scenes.{SceneSeen, event_at, event_name, instance_at}
use Rattle.mount_tree.specs.TreeLaws.{IsSound}
use Rattle.file_list.specs.FileTable.{file_name, file_parent}
use Rattle.file_list.specs.declared.file.File.{File}
use Rattle.file_list.specs.declared.file.File.TheVariants.{SyntheticEvents, OfInstance, SystemEnable, OfCpu, OfEvent, Inject, Tool, OfTop, CpuSize, EventId, ErrorLog, Layout, RawPipe}
use Rattle.mount_tree.specs.declared.node.Node.TheVariants as nodes
use Rattle.mount_tree.specs.declared.node.Owner.{Owner}
use Rattle.mount_tree.specs.declared.node.Owner.TheVariants.{Top, Made}
use Rattle.mount_tree.specs.declared.scene.Event.{Event}
use Rattle.mount_tree.specs.declared.scene.Instance.{Instance}
use Rattle.mount_tree.proofs.ListLemmas.{found_one}
use Rattle.file_list.specs.declared.files.LayoutFile.{LayoutFile}
use Rattle.file_list.specs.declared.files.LayoutFile.TheVariants as layouts
use Rattle.file_list.specs.declared.files.ToolFile.{ToolFile}
use Rattle.file_list.specs.declared.files.ToolFile.TheVariants as tools
use Rattle.file_list.specs.declared.files.TopTool.{TopTool}
use Rattle.file_list.specs.declared.files.TopTool.TheVariants as top_tools

-- ---- names have no slash

abbrev IsSlashless : List ℕ → Type 0
IsSlashless bytes = AllByRecursion (λ b. eqb b 47 ≡ false) bytes

no_slash : (b : ℕ) → is_name_byte b ≡ true → eqb b 47 ≡ false
no_slash b is = by (eqb b 47) refl
  where
    by : (slash : Bool) → eqb b 47 ≡ slash → slash ≡ false
    by false at = refl
    by true at = absurd (let same : b ≡ 47 = eqb-true b 47 at in false≢true (subst (λ (n : ℕ). is_name_byte n ≡ true) same is))

no_slashes : (bytes : List ℕ) → list_all is_name_byte bytes ≡ true → IsSlashless bytes
no_slashes [] all = tt
no_slashes (b ∷ bytes) all =
    let both = and_parts (is_name_byte b) (list_all is_name_byte bytes) all in
    (no_slash b both.0, no_slashes bytes both.1)

letter_or : (letter digit : Bool) → letter ≡ true → cond letter true digit ≡ true
letter_or true digit is = refl
letter_or false digit is = absurd (false≢true is)

-- a name's bytes: a first one, and none is a slash
pub record IsPart (name : List ℕ) : Type 0 where
  pub some : 0 < length name
  pub plain : IsSlashless name

name-part : (name : List ℕ) → is_name name ≡ true → IsPart name
name-part [] is = absurd (false≢true is)
name-part (b ∷ bytes) is =
    let both = and_parts _ (list_all is_name_byte bytes) is in
    let first = and_parts _ (is_letter b) both.0 in
    record { some = omega arith; plain = (no_slash b (grind (arith, first.1)), no_slashes bytes both.1) }

-- ---- the parts of a path

parts_front : (name rest : List ℕ) → IsSlashless name → parts (name ++ 47 ∷ rest) ≡ name ∷ parts rest
parts_front name rest plain = slice_split_at (λ b. eqb b 47) name 47 rest (All-from_recursion (λ b. eqb b 47 ≡ false) name plain) refl

parts_alone : (name : List ℕ) → IsSlashless name → parts name ≡ name ∷ []
parts_alone name plain = slice_split_none (λ b. eqb b 47) name (All-from_recursion (λ b. eqb b 47 ≡ false) name plain)

-- a folder's name, a slash and what follows
folder-parts : (name rest : List ℕ) → IsSlashless name → parts ((name ++ codes "/") ++ rest) ≡ name ∷ parts rest
folder-parts name rest plain = ap parts (append_assoc name (codes "/") rest) ∙ parts_front name rest plain

event-parts : (name rest : List ℕ) → IsSlashless name → parts (event_folder name ++ rest) ≡ codes "events" ∷ codes "synthetic" ∷ parts ((name ++ codes "/") ++ rest)
unfolding event_folder
event-parts name rest plain = refl

instance-parts : (name rest : List ℕ) → parts (instance_folder name ++ rest) ≡ codes "instances" ∷ parts ((name ++ codes "/") ++ rest)
unfolding instance_folder
instance-parts name rest = refl

instance-below : (name rest : List ℕ) → below_mount_point (instance_folder name ++ rest) ≡ instance_folder name ++ rest
unfolding instance_folder below_mount_point mount_point
instance-below name rest = refl

cpu-parts : (cpu : ℕ) (rest : List ℕ) → cpu < 8 → parts (cpu_folder cpu ++ rest) ≡ codes "per_cpu" ∷ cpu_name cpu ∷ parts rest
unfolding cpu_folder cpu_name digits
cpu-parts zero rest few = refl
cpu-parts (suc zero) rest few = refl
cpu-parts (suc (suc zero)) rest few = refl
cpu-parts (suc (suc (suc zero))) rest few = refl
cpu-parts (suc (suc (suc (suc zero)))) rest few = refl
cpu-parts (suc (suc (suc (suc (suc zero))))) rest few = refl
cpu-parts (suc (suc (suc (suc (suc (suc zero)))))) rest few = refl
cpu-parts (suc (suc (suc (suc (suc (suc (suc zero))))))) rest few = refl
cpu-parts (suc (suc (suc (suc (suc (suc (suc (suc more)))))))) rest few = absurd (omega arith)

cpu-numbered : (cpu : ℕ) → cpu < 8 → cpu_number (cpu_name cpu) ≡ Some cpu
unfolding cpu_name digits
cpu-numbered zero few = refl
cpu-numbered (suc zero) few = refl
cpu-numbered (suc (suc zero)) few = refl
cpu-numbered (suc (suc (suc zero))) few = refl
cpu-numbered (suc (suc (suc (suc zero)))) few = refl
cpu-numbered (suc (suc (suc (suc (suc zero))))) few = refl
cpu-numbered (suc (suc (suc (suc (suc (suc zero)))))) few = refl
cpu-numbered (suc (suc (suc (suc (suc (suc (suc zero))))))) few = refl
cpu-numbered (suc (suc (suc (suc (suc (suc (suc (suc more)))))))) few = absurd (omega arith)

-- ---- the file that a path in an instance names

-- a path in an instance, and the file that its parts name there
pub record Names (path : List ℕ) (file : Option paths.File) : Type 0 where
  pub first : List ℕ
  pub rest : List (List ℕ)
  pub split : parts path ≡ first ∷ rest
  pub plain : bytes_eq first (codes "instances") ≡ false
  pub below : below_mount_point path ≡ path
  pub means : file_in (first ∷ rest) ≡ file

abbrev item_path : SceneSeen → File → List ℕ
item_path scene file = folder_path scene (file_parent file) ++ file_name file

top-names : (scene : SceneSeen) (file : TopFile) → Names (item_path scene (OfInstance file)) (Some (paths.OfInstance file))
unfolding below_mount_point mount_point events_file option_file system_file top_file
top-names scene top.Trace = record { first = codes "trace"; rest = []; split = refl; plain = refl; below = refl; means = refl }
top-names scene top.TracePipe = record { first = codes "trace_pipe"; rest = []; split = refl; plain = refl; below = refl; means = refl }
top-names scene top.Overwrite = record { first = codes "options"; rest = codes "overwrite" ∷ []; split = refl; plain = refl; below = refl; means = refl }
top-names scene top.TraceOptions = record { first = codes "trace_options"; rest = []; split = refl; plain = refl; below = refl; means = refl }
top-names scene top.TracingOn = record { first = codes "tracing_on"; rest = []; split = refl; plain = refl; below = refl; means = refl }
top-names scene top.Snapshot = record { first = codes "snapshot"; rest = []; split = refl; plain = refl; below = refl; means = refl }
top-names scene top.EventsEnable = record { first = codes "events"; rest = codes "enable" ∷ []; split = refl; plain = refl; below = refl; means = refl }
top-names scene top.EventsFilter = record { first = codes "events"; rest = codes "synthetic" ∷ codes "filter" ∷ []; split = refl; plain = refl; below = refl; means = refl }

system-names : (scene : SceneSeen) → Names (item_path scene SystemEnable) (Some (paths.OfInstance top.EventsEnable))
unfolding below_mount_point mount_point system_file
system-names scene = record { first = codes "events"; rest = codes "synthetic" ∷ codes "enable" ∷ []; split = refl; plain = refl; below = refl; means = refl }

declarations-names : (scene : SceneSeen) → Names (item_path scene SyntheticEvents) (Some paths.SyntheticEvents)
unfolding below_mount_point mount_point top_file
declarations-names scene = record { first = codes "synthetic_events"; rest = []; split = refl; plain = refl; below = refl; means = refl }

tool-names : (scene : SceneSeen) (file : ToolFile) → Names (item_path scene (Tool file)) None
unfolding below_mount_point mount_point top_file
tool-names scene tools.AvailableTracers = record { first = codes "available_tracers"; rest = []; split = refl; plain = refl; below = refl; means = refl }
tool-names scene tools.CurrentTracer = record { first = codes "current_tracer"; rest = []; split = refl; plain = refl; below = refl; means = refl }
tool-names scene tools.SetEvent = record { first = codes "set_event"; rest = []; split = refl; plain = refl; below = refl; means = refl }
tool-names scene tools.TraceClock = record { first = codes "trace_clock"; rest = []; split = refl; plain = refl; below = refl; means = refl }
tool-names scene tools.TimestampMode = record { first = codes "timestamp_mode"; rest = []; split = refl; plain = refl; below = refl; means = refl }
tool-names scene tools.BufferSizeKb = record { first = codes "buffer_size_kb"; rest = []; split = refl; plain = refl; below = refl; means = refl }
tool-names scene tools.BufferTotalSizeKb = record { first = codes "buffer_total_size_kb"; rest = []; split = refl; plain = refl; below = refl; means = refl }
tool-names scene tools.TracingCpumask = record { first = codes "tracing_cpumask"; rest = []; split = refl; plain = refl; below = refl; means = refl }

top_tool-names : (scene : SceneSeen) (file : TopTool) → Names (item_path scene (OfTop file)) None
unfolding below_mount_point mount_point top_file
top_tool-names scene top_tools.AvailableEvents = record { first = codes "available_events"; rest = []; split = refl; plain = refl; below = refl; means = refl }
top_tool-names scene top_tools.Readme = record { first = codes "README"; rest = []; split = refl; plain = refl; below = refl; means = refl }
top_tool-names scene top_tools.SavedCmdlines = record { first = codes "saved_cmdlines"; rest = []; split = refl; plain = refl; below = refl; means = refl }
top_tool-names scene top_tools.PrintkFormats = record { first = codes "printk_formats"; rest = []; split = refl; plain = refl; below = refl; means = refl }
top_tool-names scene top_tools.TracingThresh = record { first = codes "tracing_thresh"; rest = []; split = refl; plain = refl; below = refl; means = refl }

layout-names : (scene : SceneSeen) (file : LayoutFile) → Names (item_path scene (Layout file)) None
unfolding below_mount_point mount_point events_file system_file
layout-names scene layouts.HeaderPage = record { first = codes "events"; rest = codes "header_page" ∷ []; split = refl; plain = refl; below = refl; means = refl }
layout-names scene layouts.HeaderEvent = record { first = codes "events"; rest = codes "header_event" ∷ []; split = refl; plain = refl; below = refl; means = refl }
layout-names scene layouts.PrintFormat = record {
  first = codes "events";
  rest = codes "ftrace" ∷ codes "print" ∷ codes "format" ∷ [];
  split = refl;
  plain = refl;
  below = refl;
  means = refl;
}

log-names : (scene : SceneSeen) → Names (item_path scene ErrorLog) None
unfolding below_mount_point mount_point top_file
log-names scene = record { first = codes "error_log"; rest = []; split = refl; plain = refl; below = refl; means = refl }

cpu-below : (cpu : ℕ) (rest : List ℕ) → below_mount_point (cpu_folder cpu ++ rest) ≡ cpu_folder cpu ++ rest
unfolding cpu_folder below_mount_point mount_point
cpu-below cpu rest = refl

event-below : (name rest : List ℕ) → below_mount_point (event_folder name ++ rest) ≡ event_folder name ++ rest
unfolding event_folder below_mount_point mount_point
event-below name rest = refl

cpu_file-named : (file : CpuFile) → (cpu_file (file_name (OfCpu 0 file)) ≡ Some file) × (parts (file_name (OfCpu 0 file)) ≡ file_name (OfCpu 0 file) ∷ [])
unfolding cpu_file
cpu_file-named per_cpu.Trace = (refl, refl)
cpu_file-named per_cpu.TracePipe = (refl, refl)
cpu_file-named per_cpu.Stats = (refl, refl)

cpu-names : (scene : SceneSeen) (cpu : ℕ) (file : CpuFile) → cpu < 8 → Names (item_path scene (OfCpu cpu file)) (Some (paths.OfCpu cpu file))
cpu-names scene cpu file few =
    let named = cpu_file-named file in record {
      first = codes "per_cpu";
      rest = cpu_name cpu ∷ file_name (OfCpu 0 file) ∷ [];
      split = cpu-parts cpu (file_name (OfCpu 0 file)) few ∙ ap (λ (l : List (List ℕ)). codes "per_cpu" ∷ cpu_name cpu ∷ l) named.1;
      plain = refl;
      below = cpu-below cpu (file_name (OfCpu 0 file));
      means = rw (cpu-numbered cpu few, named.0) refl;
    }

size-named : cpu_file (codes "buffer_size_kb") ≡ None
unfolding cpu_file
size-named = refl

size-names : (scene : SceneSeen) (cpu : ℕ) → cpu < 8 → Names (item_path scene (CpuSize cpu)) None
size-names scene cpu few = record {
  first = codes "per_cpu";
  rest = cpu_name cpu ∷ codes "buffer_size_kb" ∷ [];
  split = cpu-parts cpu (codes "buffer_size_kb") few;
  plain = refl;
  below = cpu-below cpu (codes "buffer_size_kb");
  means = rw (cpu-numbered cpu few, size-named) refl;
}

raw-named : cpu_file (codes "trace_pipe_raw") ≡ None
unfolding cpu_file
raw-named = refl

raw-names : (scene : SceneSeen) (cpu : ℕ) → cpu < 8 → Names (item_path scene (RawPipe cpu)) None
raw-names scene cpu few = record {
  first = codes "per_cpu";
  rest = cpu_name cpu ∷ codes "trace_pipe_raw" ∷ [];
  split = cpu-parts cpu (codes "trace_pipe_raw") few;
  plain = refl;
  below = cpu-below cpu (codes "trace_pipe_raw");
  means = rw (cpu-numbered cpu few, raw-named) refl;
}

event_file-named : (file : EventFile) → (event_file (file_name (OfEvent 0 file)) ≡ Some file) × (parts (file_name (OfEvent 0 file)) ≡ file_name (OfEvent 0 file) ∷ [])
unfolding event_file
event_file-named per_event.Enable = (refl, refl)
event_file-named per_event.Filter = (refl, refl)
event_file-named per_event.Trigger = (refl, refl)
event_file-named per_event.Hist = (refl, refl)
event_file-named per_event.Format = (refl, refl)

inject-named : (event_file (codes "inject") ≡ None) × (event_file (codes "id") ≡ None)
unfolding event_file
inject-named = (refl, refl)

event-split : (name file : List ℕ) → IsPart name → parts file ≡ file ∷ []
    → parts (event_folder name ++ file) ≡ codes "events" ∷ codes "synthetic" ∷ name ∷ file ∷ []
event-split name file part alone =
    event-parts name file part.plain
    ∙ ap (λ (l : List (List ℕ)). codes "events" ∷ codes "synthetic" ∷ l) (folder-parts name file part.plain ∙ ap (λ (l : List (List ℕ)). name ∷ l) alone)

event-named : (name called : List ℕ) (file : Option EventFile) → is_name name ≡ true → event_file called ≡ file → parts called ≡ called ∷ []
    → Names (event_folder name ++ called) (option_map (λ (f : EventFile). paths.OfEvent name f) file)
event-named name called file is named alone = record {
  first = codes "events";
  rest = codes "synthetic" ∷ name ∷ called ∷ [];
  split = event-split name called (name-part name is) alone;
  plain = refl;
  below = event-below name called;
  means = rw (is, named) refl;
}

-- the event that is there has a name
pub record IsCalled (scene : SceneSeen) (event : ℕ) : Type 0 where
  pub name : List ℕ
  pub is : event_name event scene.events ≡ Some name
  pub good : is_name name ≡ true

event-called : (scene : SceneSeen) (event : ℕ) → IsSound scene → is_some (event_at event scene.events) ≡ true → IsCalled scene event
event-called scene event sound there = by (event_at event scene.events) refl there
  where
    by : (o : Option Event) → event_at event scene.events ≡ o → is_some o ≡ true → IsCalled scene event
    by None at some = absurd (false≢true some)
    by (Some e) at some = record {
      name = e.name;
      is = ap (λ (o : Option Event). option_map (λ (x : Event). x.name) o) at;
      good = found_one (λ (x : Event). is_name x.name ≡ true) (λ (x : Event). eqb x.index event) scene.events e sound.event_names at;
    }

item-names : (scene : SceneSeen) (owner : Owner) (file : File) → IsSound scene → file_is_there scene owner file ≡ true
    → Names (item_path scene file) (file_meant scene file)
item-names scene owner SyntheticEvents sound there = declarations-names scene
item-names scene owner (OfInstance file) sound there = top-names scene file
item-names scene owner SystemEnable sound there = system-names scene
item-names scene owner (OfCpu cpu file) sound there =
    let below = ltb-true cpu scene.cpus there in
    cpu-names scene cpu file (omega (arith, below, sound.few_cpus))
item-names scene owner (OfEvent event file) sound there =
    let called = event-called scene event sound there in
    let named = event_file-named file in
    rw called.is (event-named called.name (file_name (OfEvent 0 file)) (Some file) called.good named.0 named.1)
item-names scene owner (Inject event) sound there =
    let called = event-called scene event sound there in
    rw called.is (event-named called.name (codes "inject") None called.good inject-named.0 refl)
item-names scene owner (Tool file) sound there = tool-names scene file
item-names scene owner (OfTop file) sound there = top_tool-names scene file
item-names scene owner (CpuSize cpu) sound there =
    let below = ltb-true cpu scene.cpus there in
    size-names scene cpu (omega (arith, below, sound.few_cpus))
item-names scene owner (EventId event) sound there =
    let called = event-called scene event sound there in
    rw called.is (event-named called.name (codes "id") None called.good inject-named.1 refl)
item-names scene owner ErrorLog sound there = log-names scene
item-names scene owner (Layout file) sound there = layout-names scene file
item-names scene owner (RawPipe cpu) sound there =
    let below = ltb-true cpu scene.cpus there in
    raw-names scene cpu (omega (arith, below, sound.few_cpus))

-- ---- addresses

address-plain : (first : List ℕ) (rest : List (List ℕ)) → bytes_eq first (codes "instances") ≡ false
    → address_in (first ∷ rest) ≡ record { instance = None; file = file_in (first ∷ rest) }
address-plain first [] plain = refl
address-plain first (name ∷ []) plain = refl
address-plain first (name ∷ part ∷ rest) plain = rw plain refl

address-instance : (name first : List ℕ) (rest : List (List ℕ)) → 0 < length name
    → address_in (codes "instances" ∷ name ∷ first ∷ rest) ≡ record { instance = Some name; file = file_of_instance (file_in (first ∷ rest)) }
address-instance name first rest some = rw (lt-ltb 0 (length name) some) refl

top-address : (path : List ℕ) (file : Option paths.File) → Names path file → address_of path ≡ record { instance = None; file = file }
unfolding address_of
top-address path file names =
    rw (names.below, names.split) (address-plain names.first names.rest names.plain ∙ ap (λ (f : Option paths.File). record { instance = None; file = f }) names.means)

in-instance : (name path : List ℕ) (file : Option paths.File) → is_name name ≡ true → Names path file
    → address_of (instance_folder name ++ path) ≡ record { instance = Some name; file = file_of_instance file }
unfolding address_of
in-instance name path file is names =
    let part = name-part name is in
    rw (instance-below name path, instance-parts name path, folder-parts name path part.plain, names.split)
    (address-instance name names.first names.rest part.some ∙ ap (λ (f : Option paths.File). record { instance = Some name; file = file_of_instance f }) names.means)

-- the file of the declarations is not in an instance
kept-file : (scene : SceneSeen) (serial : ℕ) (file : File) → file_is_there scene (Made serial) file ≡ true
    → file_of_instance (file_meant scene file) ≡ file_meant scene file
kept-file scene serial SyntheticEvents there = absurd (false≢true there)
kept-file scene serial (OfInstance file) there = refl
kept-file scene serial SystemEnable there = refl
kept-file scene serial (OfCpu cpu file) there = refl
kept-file scene serial (OfEvent event file) there = by (event_name event scene.events)
  where
    by : (o : Option (List ℕ)) → file_of_instance (option_map (λ (name : List ℕ). paths.OfEvent name file) o) ≡ option_map (λ (name : List ℕ). paths.OfEvent name file) o
    by None = refl
    by (Some name) = refl
kept-file scene serial (Inject event) there = refl
kept-file scene serial (Tool file) there = refl
kept-file scene serial (OfTop file) there = refl
kept-file scene serial (CpuSize cpu) there = refl
kept-file scene serial (EventId event) there = refl
kept-file scene serial ErrorLog there = refl
kept-file scene serial (Layout file) there = refl
kept-file scene serial (RawPipe cpu) there = refl

pub path-address : (scene : SceneSeen) (owner : Owner) (file : File) → IsSound scene → is_there scene (nodes.File owner file) ≡ true
    → address_of (path_of scene (nodes.File owner file)) ≡ address_meant scene owner file
path-address scene Top file sound there =
    let both = and_parts true (file_is_there scene Top file) there in
    top-address (item_path scene file) (file_meant scene file) (item-names scene Top file sound both.1)
path-address scene (Made serial) file sound there =
    let both = and_parts (is_some (instance_at serial scene.instances)) (file_is_there scene (Made serial) file) there in
    by (instance_at serial scene.instances) refl both.0 both.1
  where
    by : (o : Option Instance) → instance_at serial scene.instances ≡ o → is_some o ≡ true → file_is_there scene (Made serial) file ≡ true
        → address_of (path_of scene (nodes.File (Made serial) file)) ≡ address_meant scene (Made serial) file
    by None at some in_it = absurd (false≢true some)
    by (Some i) at some in_it =
        let good = found_one (λ (x : Instance). is_name x.name ≡ true) (λ (x : Instance). eqb x.serial serial) scene.instances i sound.instance_names at in
        rw (at, append_assoc) (in-instance i.name (item_path scene file) (file_meant scene file) good (item-names scene (Made serial) file sound in_it)
        ∙ ap (λ (f : Option paths.File). record { instance = Some i.name; file = f }) (kept-file scene serial file in_it))
