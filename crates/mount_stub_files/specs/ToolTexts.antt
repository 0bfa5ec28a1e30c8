-- What the files show that tools ask for, by the requests done so far (ftrace.rst, "The File System"; events.rst, "Via the 'set_event' interface").
use Rattle.std.specs.Prelude.{ℕ, ◌+◌, ◌-◌, ◌*◌, ◌/◌, ◌^◌, false, if◌then◌else◌, List, [], ◌++◌, Option, Some, None, codes}
use Rattle.std.specs.Fmt.{decimal, digits}
use Rattle.std.specs.List.{flat_map}
use Rattle.trace_command.specs.Requests.{Request}
use Rattle.trace_command.specs.declared.command.Config.{Config}
use Rattle.std.specs.Option.{option_map}
use Rattle.trace_format.specs.Definitions.{Definition}
use Rattle.trace_format.specs.Catalogs.{event_of}
use Rattle.tracer_specification.specs.Settings.{declared_events, is_enabled}
use Rattle.kernel_pages.specs.HeaderTexts.{header_event, header_page, print_format}
use Rattle.kernel_pages.specs.KernelFormats.{format_text, id_text}
use Rattle.mount_tree.specs.Children.{is_there}
use Rattle.mount_tree.specs.NodePaths.{owner_name}
use Rattle.mount_tree.specs.ScenesAfter.{events_after, scene_after}
use Rattle.file_list.specs.declared.file.File.{File}
use Rattle.file_list.specs.declared.file.File.TheVariants.{Tool, OfTop, OfEvent, CpuSize, EventId, Layout}
use Rattle.mount_tree.specs.declared.node.Node.TheVariants as nodes
use Rattle.mount_tree.specs.declared.node.Owner.{Owner}
use Rattle.mount_tree.specs.declared.scene.Event.{Event}
use Rattle.trace_command.specs.declared.file_name.EventFile.TheVariants as per_event
use Rattle.file_list.specs.declared.files.LayoutFile.{LayoutFile}
use Rattle.file_list.specs.declared.files.LayoutFile.TheVariants as layouts
use Rattle.file_list.specs.declared.files.ToolFile.{ToolFile}
use Rattle.file_list.specs.declared.files.ToolFile.TheVariants as tools
use Rattle.file_list.specs.declared.files.TopTool.{TopTool}
use Rattle.file_list.specs.declared.files.TopTool.TheVariants as top_tools

abbrev pub line : List ℕ → List ℕ
line text = text ++ codes "\n"

-- ---- events

-- `synthetic:NAME`
abbrev pub event_line : List ℕ → List ℕ
event_line name = codes "synthetic:" ++ name ++ codes "\n"

-- those that have a folder, in order of declaration
abbrev pub event_lines : List Event → List ℕ
event_lines events = flat_map (λ (e : Event). event_line e.name) events

-- those of them that an instance records
abbrev pub enabled_line : Option (List ℕ) → List Request → Event → List ℕ
enabled_line instance past event = if is_enabled instance event.name past then event_line event.name else []

abbrev pub enabled_lines : Option (List ℕ) → List Request → List ℕ
enabled_lines instance past = flat_map (enabled_line instance past) (events_after past)

-- ---- the configuration

-- How many kilobytes the ring of a CPU has, rounded down. As in a kernel the page that is being read is not counted.
abbrev pub ring_kilobytes : Config → ℕ
ring_kilobytes g = g.pages * g.page_bytes / 1024

-- so many CPUs as a mask, in hexadecimal
unfoldable pub cpu_mask : ℕ → List ℕ
cpu_mask cpus = digits 16 false (2 ^ cpus - 1)

-- ---- files

unfoldable pub readme : List ℕ
readme =
    codes "A tracer with the files of Linux tracefs.\n\n"
    ++ codes "  synthetic_events                  declares events: echo 'tick u64 n' > synthetic_events\n"
    ++ codes "  events/synthetic/EVENT/enable     1 or 0: whether it is recorded\n"
    ++ codes "  events/synthetic/EVENT/filter     which of them are: echo 'n > 5' > filter\n"
    ++ codes "  events/synthetic/EVENT/trigger    snapshot and hist triggers: echo hist:keys=n > trigger\n"
    ++ codes "  events/synthetic/EVENT/hist       the histograms\n"
    ++ codes "  events/synthetic/EVENT/format     how a record is laid out\n"
    ++ codes "  events/synthetic/EVENT/inject     makes an event: echo n=5 > inject\n"
    ++ codes "  set_event                         the events that are recorded: echo synthetic:tick >> set_event\n"
    ++ codes "  trace, trace_pipe                 the records: to look at, to consume\n"
    ++ codes "  tracing_on                        1 or 0: whether to record\n"
    ++ codes "  snapshot                          1 takes one, 0 frees it\n"
    ++ codes "  per_cpu/cpuN/                     the records and the counts of a CPU\n"
    ++ codes "  options/overwrite                 1 or 0: whether to overwrite older records\n"
    ++ codes "  instances/                        mkdir and rmdir make and remove instances with the same files\n"

-- a file of the instance of this name; the top one has none
abbrev pub tool_file_text : Config → Option (List ℕ) → List Request → ToolFile → List ℕ
tool_file_text g instance past tools.AvailableTracers = codes "nop\n"
tool_file_text g instance past tools.CurrentTracer = codes "nop\n"
tool_file_text g instance past tools.SetEvent = enabled_lines instance past
tool_file_text g instance past tools.TraceClock = codes "[counter]\n"
tool_file_text g instance past tools.TimestampMode = codes "[delta] absolute\n"
tool_file_text g instance past tools.BufferSizeKb = line (decimal (ring_kilobytes g))
tool_file_text g instance past tools.BufferTotalSizeKb = line (decimal (ring_kilobytes g * g.cpus))
tool_file_text g instance past tools.TracingCpumask = line (cpu_mask g.cpus)

abbrev pub top_tool_text : List Request → TopTool → List ℕ
top_tool_text past top_tools.AvailableEvents = event_lines (events_after past)
top_tool_text past top_tools.Readme = readme
top_tool_text past top_tools.SavedCmdlines = []
top_tool_text past top_tools.PrintkFormats = []
top_tool_text past top_tools.TracingThresh = codes "0\n"

-- how binary pages are laid out
abbrev pub layout_text : LayoutFile → List ℕ
layout_text layouts.HeaderPage = header_page
layout_text layouts.HeaderEvent = header_event
layout_text layouts.PrintFormat = print_format

-- `format` of the event at this index
abbrev pub event_format : List Definition → ℕ → Option (List ℕ)
event_format events event = option_map (format_text (event + 1)) (event_of events (event + 1))

-- the number of an event is the one that its `format` shows
abbrev pub text_there : Config → Option (List ℕ) → List Request → File → Option (List ℕ)
text_there g instance past (Tool file) = Some (tool_file_text g instance past file)
text_there g instance past (OfTop file) = Some (top_tool_text past file)
text_there g instance past (CpuSize cpu) = Some (line (decimal (ring_kilobytes g)))
text_there g instance past (EventId event) = Some (id_text (event + 1))
text_there g instance past (OfEvent event per_event.Format) = event_format (declared_events past) event
text_there g instance past (Layout file) = Some (layout_text file)
text_there g instance past _ = None

-- what a file of an instance shows, if it is one of these and is there
abbrev pub tool_text : Config → List Request → Owner → File → Option (List ℕ)
tool_text g past owner file =
    if is_there (scene_after g.cpus past) (nodes.File owner file)
    then text_there g (owner_name (scene_after g.cpus past) owner) past file
    else None
