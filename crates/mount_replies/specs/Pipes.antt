-- Whether a read of a pipe waits (ftrace.rst, "The File System": trace_pipe blocks where nothing is to be read; with `tracing_on` 0 it ends, if a read
-- of the open file gave something before).
use Rattle.std.specs.Prelude.{◌==◌, Bool, true, false, not, ◌&&◌, ◌||◌, [], length, Option, Some, None, unwrap_or, Result, Ok, Err}
use Rattle.trace_command.specs.declared.refusal.Refusal.{Refusal}
use Rattle.tracer_specification.specs.Settings.{is_tracing}
use Rattle.tracer_specification.specs.Waiting.{waiting}
use Rattle.mount_tree.specs.Children.{is_there}
use Rattle.mount_tree.specs.NodePaths.{file_meant, owner_name}
use Rattle.trace_command.specs.Paths as paths
use Rattle.trace_command.specs.declared.file_name.CpuFile.TheVariants as per_cpu
use Rattle.mount_tree.specs.Scenes.{SceneSeen}
use Rattle.file_list.specs.declared.file.File.{File}
use Rattle.file_list.specs.declared.file.File.TheVariants.{RawPipe}
use Rattle.mount_tree.specs.declared.node.Node.TheVariants as nodes
use Rattle.mount_tree.specs.declared.node.Owner.{Owner}
use Rattle.mount_replies.specs.Services.{OpenSeen, Service, Terms, scene_of}

abbrev pub is_no : Result Bool Refusal → Bool
is_no (Ok waits) = not waits
is_no (Err refusal) = false

-- the pipe that a file reads: binary pages are those of their CPU's
abbrev pub pipe_meant : SceneSeen → File → Option paths.File
pipe_meant scene (RawPipe cpu) = Some (paths.OfCpu cpu per_cpu.TracePipe)
pipe_meant scene file = file_meant scene file

-- no record waits in a file, which is there and a pipe
abbrev pub is_dry : Terms → Service → Owner → File → Bool
is_dry g s owner file =
    is_there (scene_of g s) (nodes.File owner file)
    && is_no (waiting g.config s.past (owner_name (scene_of g s) owner) (pipe_meant (scene_of g s) file))

-- a pipe with no record ends: its instance records nothing now, and a read of the open file gave records before
abbrev pub ends : Terms → Service → OpenSeen → Bool
ends g s file = file.has_read && not (is_tracing (owner_name (scene_of g s) file.owner) s.past)

-- nothing that was taken is left for its reads
abbrev pub is_used_up : OpenSeen → Bool
is_used_up file = length (unwrap_or file.text []) == 0

-- nothing is there for a read of it
abbrev pub has_nothing : Terms → Service → OpenSeen → Bool
has_nothing g s file = is_used_up file && is_dry g s file.owner file.file

-- a read of an open file would wait
abbrev pub would_wait : Terms → Service → OpenSeen → Bool
would_wait g s file = is_used_up file && is_dry g s file.owner file.file && not (ends g s file)

-- a poll is told of the end of a pipe, and of binary pages just whether there is one
abbrev pub tells_end : File → Bool
tells_end (RawPipe cpu) = false
tells_end file = true

-- something is there for a poll that is to be told: a read would not wait, and if it would be told the end, the last one was not
abbrev pub has_news : Terms → Service → OpenSeen → Bool
has_news g s file =
    not (has_nothing g s file) || (tells_end file.file && ends g s file && not file.polls.told_end)

-- a read of a handle would wait
abbrev pub waits_at : Terms → Service → Option OpenSeen → Bool
waits_at g s None = false
waits_at g s (Some file) = would_wait g s file
