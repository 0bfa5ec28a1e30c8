-- Reads of files that are no pipes: such a file has a text, and its kind alone says how that is made.
use Rattle.std.specs.Prelude.{ℕ, true, Some, if◌then◌else◌}
use Rattle.error_log.specs.Logs.{log_text}
use Rattle.file_list.specs.FileKinds.{kind_of_file}
use Rattle.mount_tree.specs.Scenes.{SceneSeen}
use Rattle.file_list.specs.declared.file.File.{File}
use Rattle.file_list.specs.declared.file.FileKind.{FileKind}
use Rattle.file_list.specs.declared.file.FileKind.TheVariants as kinds
use Rattle.mount_tree.specs.declared.node.Node.TheVariants as nodes
use Rattle.mount_tree.specs.declared.node.Owner.{Owner}
use Rattle.mount_stub_files.specs.ToolTexts.{tool_text}
use Rattle.mount_replies.specs.Served.{given_tool, goes_on_in, makes_text, read_anew, unless_counted}
use Rattle.mount_replies.specs.Services.{OpenSeen, Service, Terms}
use Rattle.mount_replies.specs.Steps.{Step}
use Rattle.mount_replies.specs.declared.parked.Parked.{Parked}

-- the text is made for this read: the tracer is asked for it, unless it is a tool's or the log
abbrev pub text_made : Terms → Service → SceneSeen → Parked → ℕ → Owner → File → FileKind → Step
text_made g s scene read offset owner file kinds.Tool =
    given_tool read.handle offset read.size s.files (tool_text g.config s.past owner file)
text_made g s scene read offset owner file kinds.ErrorLog =
    given_tool read.handle offset read.size s.files (Some (log_text owner s.errors))
text_made g s scene read offset owner file _ = read_anew scene read.handle offset read.size (nodes.File owner file) s.files

-- the read goes on in the text that an earlier one made, or one is made
abbrev pub text_read : Terms → Service → SceneSeen → Parked → ℕ → OpenSeen → Step
text_read g s scene read offset file =
    if makes_text offset file then text_made g s scene read offset file.owner file.file (kind_of_file file.file)
    else goes_on_in read.handle offset read.size file s.files

-- likewise by the page cache, which gets of the text that was counted at the beginning, if there is one
abbrev pub cached_read : Terms → Service → SceneSeen → Parked → ℕ → OpenSeen → Step
cached_read g s scene read offset file = unless_counted s read true offset file (text_read g s scene read offset file)
