-- The files, worked by hand: a whole list, and what `ls` would show of the folders of a mount. The checker computes them.
use Rattle.std.specs.Prelude.{◌≡◌, ℕ, List, [], ◌∷◌, ◌++◌, map, codes}
use Rattle.std.specs.List.{flat_map}
use Rattle.file_list.specs.FileKinds.{access_of_file}
use Rattle.file_list.specs.Files.{line_of}
use Rattle.file_list.specs.FileTable.{file_name, folder_name, own_items}
use Rattle.file_list.specs.Listings.{listing}
use Rattle.file_list.specs.declared.file.File.TheVariants.{ErrorLog, OfTop, Tool}
use Rattle.file_list.specs.declared.files.Item.{Item}
use Rattle.file_list.specs.declared.files.Item.TheVariants as items
use Rattle.file_list.specs.declared.files.ToolFile.TheVariants as tools
use Rattle.file_list.specs.declared.files.TopTool.TheVariants as top_tools
use Rattle.file_list.specs.declared.files.TheConstants.{CPU, EVENT, EVENTS, FTRACE, FTRACE_PRINT, OPTIONS, ROOT, SYNTHETIC}

-- with one CPU and the event `tick`
abbrev pub AWholeList : Type 0
AWholeList =
    listing 1 (record { events = codes "tick" ∷ []; instances = []; gone = [] })
    ≡ codes "rw synthetic_events\n"
    ++ codes "rw snapshot\nrw tracing_on\nrw trace\nr trace_pipe\nrw options/overwrite\nrw trace_options\n"
    ++ codes "rw events/enable\nrw events/synthetic/enable\nw events/synthetic/filter\n"
    ++ codes "r events/synthetic/tick/format\nrw events/synthetic/tick/enable\nrw events/synthetic/tick/filter\n"
    ++ codes "rw events/synthetic/tick/trigger\nr events/synthetic/tick/hist\n"
    ++ codes "r per_cpu/cpu0/stats\nrw per_cpu/cpu0/trace\nr per_cpu/cpu0/trace_pipe\n"

-- how a file can be used, and its name; a folder's name and a slash
abbrev shown : Item → List ℕ
shown (items.File file) = line_of (access_of_file file) (file_name file)
shown (items.Folder folder) = folder_name folder ++ codes "/\n"

abbrev pub own_list : List ℕ
own_list =
    codes "rw snapshot\nrw tracing_on\nrw trace\nr trace_pipe\noptions/\nrw trace_options\nevents/\nper_cpu/\n"
    ++ codes "r available_tracers\nrw current_tracer\nrw set_event\nrw trace_clock\nr timestamp_mode\n"
    ++ codes "rw buffer_size_kb\nr buffer_total_size_kb\nrw tracing_cpumask\nrw error_log\n"

-- what every instance has in its own folder, and what the top one has beside that
abbrev pub OwnFolders : Type 0
OwnFolders =
    (flat_map shown own_items ≡ own_list)
    × (flat_map shown ROOT
    ≡ codes "rw synthetic_events\n" ++ own_list
    ++ codes "instances/\nr available_events\nr README\nr saved_cmdlines\nr printk_formats\nrw tracing_thresh\n")

-- and in the folders in it
abbrev pub InnerFolders : Type 0
InnerFolders =
    (flat_map shown OPTIONS ≡ codes "rw overwrite\n")
    × (flat_map shown EVENTS ≡ codes "rw enable\nsynthetic/\nftrace/\nr header_page\nr header_event\n")
    × (flat_map shown FTRACE ≡ codes "print/\n")
    × (flat_map shown FTRACE_PRINT ≡ codes "r format\n")
    × (flat_map shown SYNTHETIC ≡ codes "rw enable\nw filter\n")
    × (flat_map shown CPU ≡ codes "r stats\nrw trace\nr trace_pipe\nrw buffer_size_kb\nr trace_pipe_raw\n")
    × (flat_map shown EVENT ≡ codes "r format\nrw enable\nrw filter\nrw trigger\nr hist\nw inject\nr id\n")

-- which file has which name, of those that no command names
abbrev pub NamesOfTools : Type 0
NamesOfTools =
    (map file_name
    (Tool tools.AvailableTracers ∷ Tool tools.CurrentTracer ∷ Tool tools.SetEvent ∷ Tool tools.TraceClock ∷ Tool tools.TimestampMode
    ∷ Tool tools.BufferSizeKb ∷ Tool tools.BufferTotalSizeKb ∷ Tool tools.TracingCpumask ∷ ErrorLog ∷ [])
    ≡ codes "available_tracers" ∷ codes "current_tracer" ∷ codes "set_event" ∷ codes "trace_clock" ∷ codes "timestamp_mode"
    ∷ codes "buffer_size_kb" ∷ codes "buffer_total_size_kb" ∷ codes "tracing_cpumask" ∷ codes "error_log" ∷ [])
    × (map file_name
    (OfTop top_tools.AvailableEvents ∷ OfTop top_tools.Readme ∷ OfTop top_tools.SavedCmdlines ∷ OfTop top_tools.PrintkFormats
    ∷ OfTop top_tools.TracingThresh ∷ [])
    ≡ codes "available_events" ∷ codes "README" ∷ codes "saved_cmdlines" ∷ codes "printk_formats" ∷ codes "tracing_thresh" ∷ [])
