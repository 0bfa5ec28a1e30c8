-- A tracer of two CPUs with its folders, files and numbers, worked by hand. The checker computes them.
use Rattle.std.specs.Prelude.{◌≡◌, ℕ, List, [], ◌∷◌, ◌++◌, map, take, Option, Some, None, codes}
use Rattle.trace_command.specs.Requests.{Request, MakeInstance, RemoveInstance}
use Rattle.trace_command.specs.declared.file_name.CpuFile.TheVariants as per_cpu
use Rattle.trace_command.specs.declared.file_name.EventFile.TheVariants as per_event
use Rattle.trace_command.specs.declared.file_name.TopFile.TheVariants as top_files
use Rattle.mount_tree.specs.Children.{Child, children, node_named}
use Rattle.mount_tree.specs.FolderLists.{folder_list}
use Rattle.mount_tree.specs.NodePaths.{path_of}
use Rattle.mount_tree.specs.Nodes.{number_of, top}
use Rattle.mount_tree.specs.Scenes.{SceneSeen, new_scene, with_event, with_instance, without_instance}
use Rattle.mount_tree.specs.ScenesAfter.{instances_after, made_after}
use Rattle.file_list.specs.declared.file.File.TheVariants.{SyntheticEvents, OfInstance, OfCpu, OfEvent, Inject, Tool, OfTop}
use Rattle.file_list.specs.declared.folder.Folder.TheVariants as folders
use Rattle.mount_tree.specs.declared.node.Node.{Node}
use Rattle.mount_tree.specs.declared.node.Node.TheVariants as nodes
use Rattle.mount_tree.specs.declared.node.Owner.TheVariants.{Top, Made}
use Rattle.file_list.specs.declared.files.ToolFile.TheVariants as tools
use Rattle.file_list.specs.declared.files.TopTool.TheVariants as top_tools

-- ---- requests

-- `a` and `b` are made, `a` is removed, and another `a` is made
abbrev pub requests : List Request
requests =
    MakeInstance (Some (codes "a"))
    ∷ RemoveInstance (Some (codes "a"))
    ∷ MakeInstance (Some (codes "b"))
    ∷ MakeInstance (Some (codes "a"))
    ∷ []

-- the second `a` is the third that was made
abbrev pub SecondOfItsName : Type 0
SecondOfItsName =
    (instances_after requests ≡ record { serial = 1; name = codes "b" } ∷ record { serial = 2; name = codes "a" } ∷ [])
    × (made_after requests ≡ 3)

-- ---- a scene

-- the events `enable` and `tick` were declared beside that
abbrev pub scene : SceneSeen
scene =
    with_instance (codes "a") (without_instance (codes "a") (with_instance (codes "b") (with_instance (codes "a")
    (with_event (codes "tick") (with_event (codes "enable") (new_scene 2))))))

abbrev pub names_in : Node → List (List ℕ)
names_in folder = map (λ (c : Child). c.name) (children scene folder)

-- what is found in the mounted folder, and of `instances`, `events/synthetic` and `instances/b/per_cpu`
abbrev pub ListsOfFolders : Type 0
ListsOfFolders =
    (names_in top
    ≡ codes "synthetic_events" ∷ codes "snapshot" ∷ codes "tracing_on" ∷ codes "trace" ∷ codes "trace_pipe" ∷ codes "options" ∷ codes "trace_options"
    ∷ codes "events" ∷ codes "per_cpu"
    ∷ codes "available_tracers" ∷ codes "current_tracer" ∷ codes "set_event" ∷ codes "trace_clock" ∷ codes "timestamp_mode"
    ∷ codes "buffer_size_kb" ∷ codes "buffer_total_size_kb" ∷ codes "tracing_cpumask" ∷ codes "error_log"
    ∷ codes "instances" ∷ codes "available_events" ∷ codes "README" ∷ codes "saved_cmdlines" ∷ codes "printk_formats" ∷ codes "tracing_thresh" ∷ [])
    × (names_in (nodes.Folder Top folders.Instances) ≡ codes "b" ∷ codes "a" ∷ [])
    × (names_in (nodes.Folder Top folders.Synthetic) ≡ codes "enable" ∷ codes "filter" ∷ codes "tick" ∷ [])
    × (names_in (nodes.Folder (Made 1) folders.PerCpu) ≡ codes "cpu0" ∷ codes "cpu1" ∷ [])

-- what `.` and `..` are: of `options` with its one file, of the mounted folder, of `instances/b`; and nothing is in the list of what was removed, nor in
-- that of a file
abbrev pub dots_of : Node → Node → List Child
dots_of folder above = record { name = codes "."; node = folder } ∷ record { name = codes ".."; node = above } ∷ []

abbrev pub ListsWithDots : Type 0
ListsWithDots =
    (folder_list scene (nodes.Folder Top folders.Options)
    ≡ dots_of (nodes.Folder Top folders.Options) top ++ record { name = codes "overwrite"; node = nodes.File Top (OfInstance top_files.Overwrite) } ∷ [])
    × (take 2 (folder_list scene top) ≡ dots_of top top)
    × (take 2 (folder_list scene (nodes.Folder (Made 1) folders.Root)) ≡ dots_of (nodes.Folder (Made 1) folders.Root) (nodes.Folder Top folders.Instances))
    × (folder_list scene (nodes.Folder (Made 0) folders.Root) ≡ [])
    × (folder_list scene (nodes.File Top SyntheticEvents) ≡ [])

abbrev pub found : List ℕ → Node → Option Node
found name folder = node_named name (children scene folder)

-- `tick` was declared second; `enable` is the file; there is no CPU 2, and none is called `cpu01`; the files of the declarations, of instances and of
-- what events there are are at the top alone; and nothing is in what was removed
abbrev pub LookUps : Type 0
LookUps =
    (found (codes "tick") (nodes.Folder Top folders.Synthetic) ≡ Some (nodes.Folder Top (folders.Event 1)))
    × (found (codes "inject") (nodes.Folder Top (folders.Event 1)) ≡ Some (nodes.File Top (Inject 1)))
    × (found (codes "hist") (nodes.Folder Top (folders.Event 0)) ≡ None)
    × (found (codes "cpu1") (nodes.Folder Top folders.PerCpu) ≡ Some (nodes.Folder Top (folders.Cpu 1)))
    × (found (codes "cpu2") (nodes.Folder Top folders.PerCpu) ≡ None)
    × (found (codes "cpu01") (nodes.Folder Top folders.PerCpu) ≡ None)
    × (found (codes "a") (nodes.Folder Top folders.Instances) ≡ Some (nodes.Folder (Made 2) folders.Root))
    × (found (codes "set_event") (nodes.Folder (Made 2) folders.Root) ≡ Some (nodes.File (Made 2) (Tool tools.SetEvent)))
    × (found (codes "available_events") (nodes.Folder Top folders.Root) ≡ Some (nodes.File Top (OfTop top_tools.AvailableEvents)))
    × (found (codes "available_events") (nodes.Folder (Made 2) folders.Root) ≡ None)
    × (found (codes "set_event_pid") (nodes.Folder Top folders.Root) ≡ None)
    × (found (codes "synthetic_events") (nodes.Folder (Made 2) folders.Root) ≡ None)
    × (found (codes "trace") (nodes.Folder (Made 0) folders.Root) ≡ None)

-- ---- numbers and paths

abbrev pub NumbersAndPaths : Type 0
NumbersAndPaths =
    (number_of top ≡ 1)
    × (number_of (nodes.File Top SyntheticEvents) ≡ 11)
    × (number_of (nodes.File (Made 1) (OfCpu 1 per_cpu.Stats)) ≡ 32855)
    × (path_of scene (nodes.File (Made 1) (OfCpu 1 per_cpu.Stats)) ≡ codes "instances/b/per_cpu/cpu1/stats")
    × (path_of scene (nodes.File Top (OfEvent 1 per_event.Enable)) ≡ codes "events/synthetic/tick/enable")
    × (path_of scene (nodes.Folder (Made 2) folders.Root) ≡ codes "instances/a/")
