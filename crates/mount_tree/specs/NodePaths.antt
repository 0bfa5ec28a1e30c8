-- The path of a folder or file below the mounted folder, as commands take it, and the file that it names.
use Rattle.std.specs.Prelude.{ℕ, List, [], ◌++◌, Option, Some, None, unwrap_or, codes}
use Rattle.std.specs.Option.{option_map}
use Rattle.trace_command.specs.Paths as paths
use Rattle.trace_command.specs.declared.file_name.TopFile.TheVariants as top
use Rattle.file_list.specs.Files.{cpu_folder, event_folder}
use Rattle.file_list.specs.Listings.{instance_folder}
use Rattle.mount_tree.specs.Scenes.{SceneSeen, event_name, instance_name}
use Rattle.file_list.specs.FileTable.{file_name, file_parent}
use Rattle.file_list.specs.declared.file.File.{File}
use Rattle.file_list.specs.declared.file.File.TheVariants.{SyntheticEvents, OfInstance, SystemEnable, OfCpu, OfEvent, Inject, Tool, OfTop, CpuSize, EventId, ErrorLog, Layout, RawPipe}
use Rattle.file_list.specs.declared.folder.Folder.{Folder}
use Rattle.file_list.specs.declared.folder.Folder.TheVariants as folders
use Rattle.mount_tree.specs.declared.node.Node.{Node}
use Rattle.mount_tree.specs.declared.node.Node.TheVariants as nodes
use Rattle.mount_tree.specs.declared.node.Owner.{Owner}
use Rattle.mount_tree.specs.declared.node.Owner.TheVariants.{Top, Made}

-- a folder of an instance, by its path there; it ends with a slash, if it is not the instance's own
abbrev pub folder_path : SceneSeen → Folder → List ℕ
folder_path scene folders.Root = []
folder_path scene folders.Instances = codes "instances/"
folder_path scene folders.Options = codes "options/"
folder_path scene folders.PerCpu = codes "per_cpu/"
folder_path scene (folders.Cpu cpu) = cpu_folder cpu
folder_path scene folders.Events = codes "events/"
folder_path scene folders.Synthetic = codes "events/synthetic/"
folder_path scene folders.Ftrace = codes "events/ftrace/"
folder_path scene folders.FtracePrint = codes "events/ftrace/print/"
folder_path scene (folders.Event event) = event_folder (unwrap_or (event_name event scene.events) [])

-- an instance's own folder
abbrev pub owner_path : SceneSeen → Owner → List ℕ
owner_path scene Top = []
owner_path scene (Made serial) = instance_folder (unwrap_or (instance_name serial scene.instances) [])

-- the path of a node: that of a folder ends with a slash, but that of the mounted one is empty
abbrev pub path_of : SceneSeen → Node → List ℕ
path_of scene (nodes.Folder owner folder) = owner_path scene owner ++ folder_path scene folder
path_of scene (nodes.File owner file) = owner_path scene owner ++ folder_path scene (file_parent file) ++ file_name file

-- ---- the file of a tracer that a node is

-- the name of an instance; the top one has none
abbrev pub owner_name : SceneSeen → Owner → Option (List ℕ)
owner_name scene Top = None
owner_name scene (Made serial) = instance_name serial scene.instances

-- `inject` is no file of a tracer: a write to it is an emission. Those that tools ask for are none either.
abbrev pub file_meant : SceneSeen → File → Option paths.File
file_meant scene SyntheticEvents = Some paths.SyntheticEvents
file_meant scene (OfInstance file) = Some (paths.OfInstance file)
file_meant scene SystemEnable = Some (paths.OfInstance top.EventsEnable)
file_meant scene (OfCpu cpu file) = Some (paths.OfCpu cpu file)
file_meant scene (OfEvent event file) = option_map (λ (name : List ℕ). paths.OfEvent name file) (event_name event scene.events)
file_meant scene (Inject event) = None
file_meant scene (Tool file) = None
file_meant scene (OfTop file) = None
file_meant scene (CpuSize cpu) = None
file_meant scene (EventId event) = None
file_meant scene ErrorLog = None
file_meant scene (Layout file) = None
file_meant scene (RawPipe cpu) = None

-- the instance and the file
abbrev pub address_meant : SceneSeen → Owner → File → paths.Address
address_meant scene owner file = record { instance = owner_name scene owner; file = file_meant scene file }
