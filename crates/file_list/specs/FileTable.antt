-- What the table of files says (src/files.rt), which has each file once, that of the first CPU or event for those of all.
use Rattle.std.specs.Prelude.{ℕ, ◌+◌, Bool, true, false, not, List, [], map, get_or, Option, slice_get}
use Rattle.std.specs.List.{filter}
use denote.Enum.Declared.{tag_of}
use Rattle.trace_command.specs.contracts.file_name.CpuFile.{the_type as cpu_type}
use Rattle.trace_command.specs.contracts.file_name.EventFile.{the_type as event_type}
use Rattle.trace_command.specs.contracts.file_name.TopFile.{the_type as top_type}
use Rattle.trace_command.specs.declared.file_name.TopFile.{TopFile}
use Rattle.trace_command.specs.declared.file_name.TopFile.TheVariants as top
use Rattle.file_list.specs.contracts.files.LayoutFile.{the_type as layout_type}
use Rattle.file_list.specs.contracts.files.ToolFile.{the_type as tool_type}
use Rattle.file_list.specs.contracts.files.TopTool.{the_type as top_tool_type}
use Rattle.file_list.specs.declared.file.File.{File}
use Rattle.file_list.specs.declared.file.File.TheVariants.{SyntheticEvents, OfInstance, SystemEnable, OfCpu, OfEvent, Inject, Tool, OfTop, CpuSize, EventId, ErrorLog, Layout, RawPipe}
use Rattle.file_list.specs.declared.files.LayoutFile.{LayoutFile}
use Rattle.file_list.specs.declared.files.LayoutFile.TheVariants as layouts
use Rattle.file_list.specs.declared.files.Item.{Item}
use Rattle.file_list.specs.declared.files.Item.TheVariants as items
use Rattle.file_list.specs.declared.files.TheConstants.{CPU, EVENT, EVENTS, FILES, FOLDERS, FTRACE, FTRACE_PRINT, OPTIONS, ROOT, SYNTHETIC}
use Rattle.file_list.specs.declared.folder.Folder.{Folder}
use Rattle.file_list.specs.declared.folder.Folder.TheVariants.{Root, Instances, Options, PerCpu, Cpu, Events, Synthetic, Event, Ftrace, FtracePrint}

-- ---- rows

-- the row of a file, and of a folder: `tag_of` counts the variants before one
abbrev pub file_row : File → ℕ
file_row SyntheticEvents = 0
file_row (OfInstance file) = 1 + tag_of top_type file
file_row SystemEnable = 9
file_row (OfCpu cpu file) = 10 + tag_of cpu_type file
file_row (OfEvent event file) = 13 + tag_of event_type file
file_row (Inject event) = 18
file_row (Tool file) = 19 + tag_of tool_type file
file_row (OfTop file) = 27 + tag_of top_tool_type file
file_row (CpuSize cpu) = 32
file_row (EventId event) = 33
file_row ErrorLog = 34
file_row (Layout file) = 35 + tag_of layout_type file
file_row (RawPipe cpu) = 38

abbrev pub folder_row : Folder → ℕ
folder_row Root = 0
folder_row Instances = 1
folder_row Options = 2
folder_row PerCpu = 3
folder_row (Cpu cpu) = 4
folder_row Events = 5
folder_row Synthetic = 6
folder_row (Event event) = 7
folder_row Ftrace = 8
folder_row FtracePrint = 9

-- the file in a row, and the folder
abbrev pub file_at : ℕ → Option File
file_at row = slice_get (map (λ r. r.0) FILES) row

abbrev pub folder_at : ℕ → Option Folder
folder_at row = slice_get (map (λ r. r.0) FOLDERS) row

abbrev pub file_name : File → List ℕ
file_name file = get_or (map (λ row. row.1.now) FILES) (file_row file) []

-- the name of a folder that is not that of an instance, a CPU or an event
abbrev pub folder_name : Folder → List ℕ
folder_name folder = get_or (map (λ row. row.1.now) FOLDERS) (folder_row folder) []

-- ---- the CPU or event

-- its number or index
abbrev pub file_index : File → ℕ
file_index (OfCpu cpu file) = cpu
file_index (OfEvent event file) = event
file_index (Inject event) = event
file_index (CpuSize cpu) = cpu
file_index (EventId event) = event
file_index (RawPipe cpu) = cpu
file_index _ = 0

abbrev pub folder_index : Folder → ℕ
folder_index (Cpu cpu) = cpu
folder_index (Event event) = event
folder_index _ = 0

-- the same of another one
abbrev pub file_of : ℕ → File → File
file_of index (OfCpu cpu file) = OfCpu index file
file_of index (OfEvent event file) = OfEvent index file
file_of index (Inject event) = Inject index
file_of index (CpuSize cpu) = CpuSize index
file_of index (EventId event) = EventId index
file_of index (RawPipe cpu) = RawPipe index
file_of index file = file

abbrev pub folder_of : ℕ → Folder → Folder
folder_of index (Cpu cpu) = Cpu index
folder_of index (Event event) = Event index
folder_of index folder = folder

-- ---- the folders that files and folders are in

abbrev pub top_file_parent : TopFile → Folder
top_file_parent top.Overwrite = Options
top_file_parent top.EventsEnable = Events
top_file_parent top.EventsFilter = Synthetic
top_file_parent _ = Root

abbrev pub layout_parent : LayoutFile → Folder
layout_parent layouts.PrintFormat = FtracePrint
layout_parent _ = Events

abbrev pub file_parent : File → Folder
file_parent SyntheticEvents = Root
file_parent (OfInstance file) = top_file_parent file
file_parent SystemEnable = Synthetic
file_parent (OfCpu cpu file) = Cpu cpu
file_parent (OfEvent event file) = Event event
file_parent (Inject event) = Event event
file_parent (Tool file) = Root
file_parent (OfTop file) = Root
file_parent (CpuSize cpu) = Cpu cpu
file_parent (EventId event) = Event event
file_parent ErrorLog = Root
file_parent (Layout file) = layout_parent file
file_parent (RawPipe cpu) = Cpu cpu

abbrev pub folder_parent : Folder → Folder
folder_parent (Cpu cpu) = PerCpu
folder_parent Synthetic = Events
folder_parent (Event event) = Synthetic
folder_parent Ftrace = Events
folder_parent FtracePrint = Ftrace
folder_parent _ = Root

-- ---- lists

-- what the top instance alone has
abbrev pub is_of_top : Item → Bool
is_of_top (items.File SyntheticEvents) = true
is_of_top (items.File (OfTop file)) = true
is_of_top (items.Folder Instances) = true
is_of_top _ = false

-- what every instance has in its own folder
abbrev pub own_items : List Item
own_items = filter (λ (item : Item). not (is_of_top item)) ROOT

-- what a folder always has: in the top instance, or in another one
abbrev pub items_of : Folder → Bool → List Item
items_of Root true = ROOT
items_of Root false = own_items
items_of Options is_top = OPTIONS
items_of (Cpu cpu) is_top = CPU
items_of Events is_top = EVENTS
items_of Synthetic is_top = SYNTHETIC
items_of (Event event) is_top = EVENT
items_of Ftrace is_top = FTRACE
items_of FtracePrint is_top = FTRACE_PRINT
items_of _ is_top = []

-- those that commands know
abbrev pub is_listed : File → Bool
is_listed (Inject event) = false
is_listed (Tool file) = false
is_listed (OfTop file) = false
is_listed (CpuSize cpu) = false
is_listed (EventId event) = false
is_listed ErrorLog = false
is_listed (Layout file) = false
is_listed (RawPipe cpu) = false
is_listed _ = true
