-- What is wrong with a write of which no byte can be taken, and where.
use Rattle.std.specs.Prelude.{ℕ, List, codes}
use Rattle.std.specs.List.{prefix_len}
use Rattle.file_list.specs.declared.file.File.{File}
use Rattle.file_list.specs.declared.file.File.TheVariants.{Tool, OfTop, CpuSize}
use Rattle.file_list.specs.declared.files.ToolFile.TheVariants as tools
use Rattle.file_list.specs.declared.files.TopTool.TheVariants as top_tools
use Rattle.mount_stub_files.specs.Words.{is_space}

-- what was to be written to this file
abbrev pub wrong_words : File → List ℕ
wrong_words (Tool tools.CurrentTracer) = codes "expected `nop`, the only tracer"
wrong_words (Tool tools.TraceClock) = codes "expected `counter`, the only clock"
wrong_words (Tool tools.BufferSizeKb) = codes "expected the size that it has: sizes are fixed"
wrong_words (CpuSize cpu) = codes "expected the size that it has: sizes are fixed"
wrong_words (Tool tools.TracingCpumask) = codes "expected the mask of all CPUs"
wrong_words (Tool tools.SetEvent) = codes "expected an event, as `synthetic:EVENT`, that is declared"
wrong_words (OfTop top_tools.TracingThresh) = codes "expected `0`"
wrong_words _ = codes "the file doesn't take what is written"

-- where the first word begins: after the spaces, tabs and newlines that come first
abbrev pub wrong_offset : List ℕ → ℕ
wrong_offset bytes = prefix_len is_space bytes
