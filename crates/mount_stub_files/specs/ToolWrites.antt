-- What a write to a file that tools ask for comes to: none of the bytes can be taken, all are and change nothing, or the first word's switch another
-- file of the same instance.
use Rattle.std.specs.Prelude.{ℕ, ◌==◌, ◌≤◌, ⊤, Bool, false, not, if◌then◌else◌, List, length, Option, Some, None, codes}
use Rattle.std.specs.Str.{bytes_eq}
use Rattle.trace_lex.specs.Decimals.{written_number}
use Rattle.trace_command.specs.declared.command.Config.{Config}
use Rattle.mount_tree.specs.Children.{is_there}
use Rattle.mount_tree.specs.Scenes.{SceneSeen}
use Rattle.file_list.specs.declared.file.File.{File}
use Rattle.file_list.specs.declared.file.File.TheVariants.{Tool, OfTop, CpuSize}
use Rattle.mount_tree.specs.declared.node.Node.TheVariants as nodes
use Rattle.mount_tree.specs.declared.node.Owner.{Owner}
use Rattle.file_list.specs.declared.files.ToolFile.{ToolFile}
use Rattle.file_list.specs.declared.files.ToolFile.TheVariants as tools
use Rattle.file_list.specs.declared.files.TopTool.TheVariants as top_tools
use Rattle.mount_stub_files.specs.EventWords.{is_off, named, switch_of}
use Rattle.mount_stub_files.specs.ToolTexts.{cpu_mask, ring_kilobytes}
use Rattle.mount_stub_files.specs.Words.{first_word, only_word, word_size}
use Rattle.mount_stub_files.specs.declared.write.ToolWrite.{ToolWrite}
use Rattle.mount_stub_files.specs.declared.write.ToolWrite.TheVariants.{Missing, Wrong, Same, Switch}

-- no more than so many bytes are done of a write
abbrev pub TakesAtMost : ℕ → ToolWrite → Type 0
TakesAtMost size (Switch file on count) = count ≤ size
TakesAtMost size _ = ⊤

-- what a file shows that takes no other text: writing it changes nothing
abbrev pub fixed_write : List ℕ → List ℕ → ToolWrite
fixed_write shown bytes = if bytes_eq (only_word bytes) shown then Same else Wrong

-- likewise for a number
abbrev pub is_number : ℕ → Option ℕ → Bool
is_number shown None = false
is_number shown (Some number) = number == shown

abbrev pub number_write : ℕ → List ℕ → ToolWrite
number_write shown bytes = if is_number shown (written_number (only_word bytes)) then Same else Wrong

-- what is not there can't be switched
abbrev pub switched : Bool → ℕ → Option File → ToolWrite
switched on size None = Wrong
switched on size (Some file) = Switch file on size

-- `set_event`: the first word is done, and whoever writes several writes the others again
abbrev pub events_write : SceneSeen → List ℕ → ToolWrite
events_write scene bytes =
    if length (first_word bytes) == 0 then Same
    else switched (not (is_off (first_word bytes))) (word_size bytes) (switch_of scene (named (first_word bytes)))

abbrev pub tool_file_write : Config → SceneSeen → ToolFile → List ℕ → ToolWrite
tool_file_write g scene tools.CurrentTracer bytes = fixed_write (codes "nop") bytes
tool_file_write g scene tools.TraceClock bytes = fixed_write (codes "counter") bytes
tool_file_write g scene tools.TracingCpumask bytes = fixed_write (cpu_mask scene.cpus) bytes
tool_file_write g scene tools.BufferSizeKb bytes = number_write (ring_kilobytes g) bytes
tool_file_write g scene tools.SetEvent bytes = events_write scene bytes
tool_file_write g scene _ bytes = Wrong

abbrev pub write_there : Config → SceneSeen → File → List ℕ → ToolWrite
write_there g scene (Tool file) bytes = tool_file_write g scene file bytes
write_there g scene (CpuSize cpu) bytes = number_write (ring_kilobytes g) bytes
write_there g scene (OfTop top_tools.TracingThresh) bytes = number_write 0 bytes
write_there g scene _ bytes = Wrong

abbrev pub tool_write : Config → SceneSeen → Owner → File → List ℕ → ToolWrite
tool_write g scene owner file bytes =
    if is_there scene (nodes.File owner file) then write_there g scene file bytes else Missing
