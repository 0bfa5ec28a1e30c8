-- What the files of a tracer of two CPUs show after some requests, and what writes to them come to, worked by hand. The checker computes them.
use Rattle.std.specs.Prelude.{◌≡◌, ℕ, true, false, List, [], ◌∷◌, Option, Some, None, codes}
use Rattle.trace_command.specs.Paths as paths
use Rattle.trace_command.specs.Requests.{Request, MakeInstance, WriteFile}
use Rattle.trace_command.specs.declared.command.Config.{Config}
use Rattle.trace_command.specs.declared.file_name.EventFile.TheVariants as per_event
use Rattle.trace_command.specs.declared.file_name.TopFile.TheVariants as top_files
use Rattle.mount_tree.specs.ScenesAfter.{scene_after}
use Rattle.file_list.specs.declared.file.File.{File}
use Rattle.file_list.specs.declared.file.File.TheVariants.{OfInstance, OfEvent, Tool, OfTop, CpuSize, EventId}
use Rattle.mount_tree.specs.declared.node.Owner.{Owner}
use Rattle.mount_tree.specs.declared.node.Owner.TheVariants.{Top, Made}
use Rattle.file_list.specs.declared.files.ToolFile.TheVariants as tools
use Rattle.file_list.specs.declared.files.TopTool.TheVariants as top_tools
use Rattle.mount_stub_files.specs.ToolTexts.{tool_text}
use Rattle.mount_stub_files.specs.ToolWrites.{tool_write}
use Rattle.mount_stub_files.specs.WrongWords.{wrong_offset, wrong_words}
use Rattle.mount_stub_files.specs.declared.write.ToolWrite.{ToolWrite}
use Rattle.mount_stub_files.specs.declared.write.ToolWrite.TheVariants.{Missing, Wrong, Same, Switch}

-- ---- requests

abbrev pub config : Config
config = record { cpus = 2; pages = 4; page_bytes = 4080; history_limit = 100 }

abbrev pub declared : List ℕ → Request
declared text = WriteFile None (Some paths.SyntheticEvents) true text

abbrev pub switched_on : Option (List ℕ) → List ℕ → Request
switched_on instance event = WriteFile instance (Some (paths.OfEvent event per_event.Enable)) false (codes "1")

-- `tick`, `enable` and `tock` were declared and an instance `a` made; then `tick` was enabled, and in `a` `tock`
abbrev pub requests : List Request
requests =
    switched_on (Some (codes "a")) (codes "tock")
    ∷ switched_on None (codes "tick")
    ∷ MakeInstance (Some (codes "a"))
    ∷ declared (codes "tock u64 n")
    ∷ declared (codes "enable u64 n")
    ∷ declared (codes "tick u64 n")
    ∷ []

-- all are disabled
abbrev pub disabled : Request
disabled = WriteFile None (Some (paths.OfInstance top_files.EventsEnable)) false (codes "0")

-- ---- reads

abbrev pub Shows : Owner → File → List ℕ → Type 0
Shows owner file text = tool_text config requests owner file ≡ Some text

abbrev pub HasNoText : Owner → File → Type 0
HasNoText owner file = tool_text config requests owner file ≡ None

pub record TextExamples : Type 0 where
  -- what is enabled, of each instance
  pub enabled : Shows Top (Tool tools.SetEvent) (codes "synthetic:tick\n")
  pub enabled_there : Shows (Made 0) (Tool tools.SetEvent) (codes "synthetic:tock\n")
  pub disabled : tool_text config (disabled ∷ requests) Top (Tool tools.SetEvent) ≡ Some []
  -- what has a folder: not the event that is called as a file
  pub available : Shows Top (OfTop top_tools.AvailableEvents) (codes "synthetic:tick\nsynthetic:tock\n")
  pub not_there : HasNoText (Made 0) (OfTop top_tools.AvailableEvents)
  pub id : Shows Top (EventId 2) (codes "102\n")
  pub no_id : HasNoText Top (EventId 1)
  -- four pages of 4,080 bytes are 15 kilobytes and a rest
  pub size : Shows Top (Tool tools.BufferSizeKb) (codes "15\n")
  pub size_of_cpu : Shows (Made 0) (CpuSize 1) (codes "15\n")
  pub no_cpu : HasNoText Top (CpuSize 2)
  pub total : Shows Top (Tool tools.BufferTotalSizeKb) (codes "30\n")
  pub cpus : Shows Top (Tool tools.TracingCpumask) (codes "3\n")
  -- no second instance was made
  pub no_instance : HasNoText (Made 1) (Tool tools.SetEvent)

-- ---- writes

abbrev pub ComesTo : Owner → File → List ℕ → ToolWrite → Type 0
ComesTo owner file bytes comes = tool_write config (scene_after config.cpus requests) owner file bytes ≡ comes

abbrev pub SetsEvents : List ℕ → ToolWrite → Type 0
SetsEvents bytes comes = ComesTo Top (Tool tools.SetEvent) bytes comes

pub record WriteExamples : Type 0 where
  -- the first word with what follows it; the third event that was declared; all
  pub on : SetsEvents (codes "synthetic:tick\n") (Switch (OfEvent 0 per_event.Enable) true 15)
  pub off : SetsEvents (codes " !tock tick") (Switch (OfEvent 2 per_event.Enable) false 7)
  pub system : SetsEvents (codes "synthetic") (Switch (OfInstance top_files.EventsEnable) true 9)
  pub all : SetsEvents (codes "!*:*\n") (Switch (OfInstance top_files.EventsEnable) false 5)
  pub none : SetsEvents (codes " \n") Same
  -- no event, one of another system, and one that has no folder
  pub nobody : SetsEvents (codes "nobody") Wrong
  pub other_system : SetsEvents (codes "sched:tick") Wrong
  pub no_folder : SetsEvents (codes "enable") Wrong
  -- the word is to blame
  pub blamed : wrong_offset (codes " \tnobody") ≡ 2
  pub said : wrong_words (Tool tools.SetEvent) ≡ codes "expected an event, as `synthetic:EVENT`, that is declared"
  -- what a file shows can be written, and nothing else
  pub same_size : ComesTo Top (Tool tools.BufferSizeKb) (codes "15\n") Same
  pub other_size : ComesTo Top (CpuSize 0) (codes "16\n") Wrong
  pub same_tracer : ComesTo Top (Tool tools.CurrentTracer) (codes "nop\n") Same
  pub two_tracers : ComesTo Top (Tool tools.CurrentTracer) (codes "nop nop") Wrong
  pub other_clock : ComesTo Top (Tool tools.TraceClock) (codes "global") Wrong
  pub same_cpus : ComesTo (Made 0) (Tool tools.TracingCpumask) (codes "3") Same
  pub same_threshold : ComesTo Top (OfTop top_tools.TracingThresh) (codes "0") Same
  pub no_instance : ComesTo (Made 1) (Tool tools.SetEvent) (codes "tick") Missing
