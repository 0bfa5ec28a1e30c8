-- The files of an instance that commands know: a line for each, in the order of docs/FILES.md (ftrace.rst, "The File System").
use Rattle.std.specs.Prelude.{ℕ, zero, suc, if◌then◌else◌, List, [], ◌++◌, codes}
use Rattle.std.specs.Fmt.{decimal}
use Rattle.std.specs.List.{flat_map}
use Rattle.file_list.specs.FileKinds.{access_of_file}
use Rattle.file_list.specs.FileTable.{file_name, is_listed, own_items}
use Rattle.file_list.specs.declared.access.Access.{Access}
use Rattle.file_list.specs.declared.access.Access.TheVariants.{Read, Write, Both}
use Rattle.file_list.specs.declared.file.File.{File}
use Rattle.file_list.specs.declared.files.Item.{Item}
use Rattle.file_list.specs.declared.files.Item.TheVariants as items
use Rattle.file_list.specs.declared.files.TheConstants.{CPU, EVENT, EVENTS, OPTIONS, SYNTHETIC}
use Rattle.file_list.specs.declared.folder.Folder.TheVariants as folders

unfoldable pub access_word : Access → List ℕ
access_word Read = codes "r"
access_word Write = codes "w"
access_word Both = codes "rw"

-- how a file can be used, a space, and its path
unfoldable pub line_of : Access → List ℕ → List ℕ
line_of access path = access_word access ++ codes " " ++ path ++ codes "\n"

-- the line of what a folder of an instance has, if it is a file that commands know
abbrev pub item_line : List ℕ → List ℕ → Item → List ℕ
item_line instance folder (items.File file) =
    if is_listed file then line_of (access_of_file file) (instance ++ folder ++ file_name file) else []
item_line instance folder (items.Folder inner) = []

abbrev pub lines_in : List ℕ → List ℕ → List Item → List ℕ
lines_in instance folder rows = flat_map (item_line instance folder) rows

-- the folder of an event
unfoldable pub event_folder : List ℕ → List ℕ
event_folder event = codes "events/synthetic/" ++ event ++ codes "/"

abbrev pub lines_of_event : List ℕ → List ℕ → List ℕ
lines_of_event instance event = lines_in instance (event_folder event) EVENT

-- the folder of a CPU
unfoldable pub cpu_folder : ℕ → List ℕ
cpu_folder cpu = codes "per_cpu/cpu" ++ decimal cpu ++ codes "/"

abbrev pub lines_of_cpu : List ℕ → ℕ → List ℕ
lines_of_cpu instance cpu = lines_in instance (cpu_folder cpu) CPU

-- those of so many CPUs
abbrev pub lines_of_cpus : List ℕ → ℕ → List ℕ
lines_of_cpus instance zero = []
lines_of_cpus instance (suc cpu) = lines_of_cpus instance cpu ++ lines_of_cpu instance cpu

-- those of all events, and of each of these
abbrev pub lines_of_events : List (List ℕ) → List ℕ → List ℕ
lines_of_events events instance =
    lines_in instance (codes "events/") EVENTS ++ lines_in instance (codes "events/synthetic/") SYNTHETIC ++ flat_map (lines_of_event instance) events

-- those of what an instance has in its own folder, and below it, where there are so many CPUs and these events
abbrev pub listed_below : ℕ → List (List ℕ) → List ℕ → Item → List ℕ
listed_below cpus events instance (items.Folder folders.Options) = lines_in instance (codes "options/") OPTIONS
listed_below cpus events instance (items.Folder folders.Events) = lines_of_events events instance
listed_below cpus events instance (items.Folder folders.PerCpu) = lines_of_cpus instance cpus
listed_below cpus events instance item = item_line instance [] item

abbrev pub lines_of_instance : ℕ → List (List ℕ) → List ℕ → List ℕ
lines_of_instance cpus events instance = flat_map (listed_below cpus events instance) own_items
