-- WRITE, FLUSH and RELEASE: what is written to an open file, and what is left of that where the file is closed.
use Rattle.std.specs.Prelude.{ℕ, ◌==◌, ◌&&◌, Bool, true, false, not, List, ◌++◌, length, Option, Some, None, Result, Ok, Err, codes, if◌then◌else◌}
use Rattle.std.specs.List.{slice_get}
use Rattle.fuse_wire.specs.declared.errno.Errno.TheVariants.{ENOENT, EBADF, EINVAL}
use Rattle.fuse_wire.specs.declared.reply.Reply.TheVariants as replies
use Rattle.trace_command.specs.declared.command.Reply.{Reply as Answer}
use Rattle.trace_command.specs.declared.refusal.Refusal.{Refusal}
use Rattle.trace_format.specs.Definitions.{Definition}
use Rattle.tracer_specification.specs.Settings.{declared_events, now_of}
use Rattle.error_log.specs.Errors.{ErrorSeen, begun, refused}
use Rattle.mount_tree.specs.Children.{is_there}
use Rattle.file_list.specs.FileKinds.{kind_of_file}
use Rattle.mount_tree.specs.NodePaths.{path_of}
use Rattle.file_list.specs.declared.file.File.{File}
use Rattle.file_list.specs.declared.file.File.TheVariants as files
use Rattle.file_list.specs.declared.file.FileKind.{FileKind}
use Rattle.file_list.specs.declared.file.FileKind.TheVariants as kinds
use Rattle.mount_tree.specs.declared.node.Node.TheVariants as nodes
use Rattle.mount_stub_files.specs.ToolWrites.{tool_write}
use Rattle.mount_stub_files.specs.WrongWords.{wrong_offset, wrong_words}
use Rattle.mount_stub_files.specs.declared.write.ToolWrite.{ToolWrite}
use Rattle.mount_stub_files.specs.declared.write.ToolWrite.TheVariants.{Missing, Wrong, Same, Switch}
use Rattle.mount_replies.specs.Errnos.{errno_of}
use Rattle.mount_replies.specs.Lines.{asked_by_line, flushed, goes_on, injected, injected_at_once, line_at_once, noted_answer, noted_command, noted_if_first, noted_line, pieces_of, released, stream_after, stream_lines, written, written_lines}
use Rattle.mount_replies.specs.Services.{OpenSeen, Service, Terms, node_of, scene_of, with_write, without_file}
use Rattle.mount_replies.specs.Steps.{AsksLines, AsksNoting, Forgets, LineRefused, Notes, Noting, Outcome, Ran, Step, Tells, failed, plain, told, write_of}
use Rattle.mount_replies.specs.declared.fault.LineFault.{LineFault}

-- ---- the files of the tracer

-- a write is noted with the time and the path of its file
abbrev pub begun_now : Terms → Service → OpenSeen → ErrorSeen
begun_now g s file = begun file.owner (now_of s.past) (path_of (scene_of g s) (node_of file))

-- the first command that is written to a file that was opened to be emptied is by `>`, all others are by `>>`
abbrev pub write_text : Terms → Service → ℕ → OpenSeen → List ℕ → Step
write_text g s handle file bytes =
    AsksLines (written_lines (scene_of g s) file.owner file.file (not file.starts_over) bytes)
    (λ (ran : Ran). written handle (length bytes) s.files ran.done ran.refused)
    (λ (ran : Ran). noted_if_first (noted_command (begun_now g s file) (path_of (scene_of g s) (node_of file)) file.file) ran.done ran.refused)

-- ---- the files that tools ask for

-- a write that changes nothing
abbrev pub write_same : ℕ → ℕ → List (Option OpenSeen) → Step
write_same handle size files = plain (replies.Written size) (with_write handle files)

abbrev pub switch_text : Bool → List ℕ
switch_text on = if on then codes "1" else codes "0"

abbrev pub switched : ℕ → ℕ → List (Option OpenSeen) → Result Answer Refusal → Outcome
switched handle size files (Ok answer) = told (replies.Written size) (with_write handle files)
switched handle size files (Err refusal) = told (replies.Error (errno_of refusal)) files

-- so many bytes are done by writing to this switch, a file of the same instance
abbrev pub write_switch : Terms → Service → ℕ → OpenSeen → List ℕ → File → Bool → ℕ → Step
write_switch g s handle file bytes switch on size =
    AsksNoting (write_of (scene_of g s) (nodes.File file.owner switch) false (switch_text on)) false (switched handle size s.files)
    (noted_answer (begun_now g s file) (path_of (scene_of g s) (nodes.File file.owner switch)) (switch_text on) bytes (wrong_offset bytes))

-- what a file can't be set to is noted, too
abbrev pub wrong_write : Terms → Service → OpenSeen → List ℕ → Noting
wrong_write g s file bytes = Notes (refused (begun_now g s file) bytes (wrong_words file.file) (wrong_offset bytes))

abbrev pub write_tool : Terms → Service → ℕ → OpenSeen → List ℕ → ToolWrite → Step
write_tool g s handle file bytes Missing = failed ENOENT s.files
write_tool g s handle file bytes Wrong = Tells (wrong_write g s file bytes) true (told (replies.Error EINVAL) s.files)
write_tool g s handle file bytes Same = write_same handle (length bytes) s.files
write_tool g s handle file bytes (Switch switch on size) = write_switch g s handle file bytes switch on size

-- whatever is written to `error_log`, the errors of its instance are forgotten
abbrev pub write_log : Service → ℕ → OpenSeen → List ℕ → Step
write_log s handle file bytes = Tells (Forgets file.owner) false (told (replies.Written (length bytes)) (with_write handle s.files))

-- a write to a file other than `inject`, by the file's kind
abbrev pub write_other : Terms → Service → ℕ → OpenSeen → List ℕ → FileKind → Step
write_other g s handle file bytes kinds.Tool = write_tool g s handle file bytes (tool_write g.config (scene_of g s) file.owner file.file bytes)
write_other g s handle file bytes kinds.ErrorLog = write_log s handle file bytes
write_other g s handle file bytes kind = write_text g s handle file bytes

-- ---- `inject`

abbrev pub noted_injection : Terms → Service → OpenSeen → List ℕ → LineFault → Noting
noted_injection g s file text fault = noted_line (begun_now g s file) text fault

-- at the time after the lines before it
abbrev pub noted_first_injection : Terms → Service → OpenSeen → Ran → Noting
noted_first_injection g s file ran = noted_if_first (noted_injection g (record s { past = ran.past }) file) ran.done ran.refused

-- lines are events of the process that writes
abbrev pub inject_stream : Terms → Service → ℕ → ℕ → ℕ → List ℕ → OpenSeen → Definition → Step
inject_stream g s handle lock_owner pid bytes file event =
    AsksLines (stream_lines (asked_by_line g.config.cpus pid event) (length file.stream.rest) (length bytes) 0 (pieces_of (file.stream.rest ++ bytes)))
    (λ (ran : Ran). injected handle (stream_after file.stream lock_owner pid bytes) (length bytes) s.files ran.done ran.refused)
    (noted_first_injection g s file)

abbrev pub inject_at_once : Terms → Service → ℕ → List ℕ → OpenSeen → Definition → Step
inject_at_once g s pid bytes file event =
    AsksLines (line_at_once (asked_by_line g.config.cpus pid event) bytes)
    (λ (ran : Ran). injected_at_once (length bytes) s.files ran.refused) (noted_first_injection g s file)

abbrev pub inject_lines : Terms → Service → ℕ → ℕ → ℕ → List ℕ → OpenSeen → Definition → Step
inject_lines g s handle lock_owner pid bytes file event =
    if goes_on file.stream bytes then inject_stream g s handle lock_owner pid bytes file event else inject_at_once g s pid bytes file event

abbrev pub inject : Terms → Service → ℕ → ℕ → ℕ → List ℕ → OpenSeen → Option Definition → Step
inject g s handle lock_owner pid bytes file None = failed ENOENT s.files
inject g s handle lock_owner pid bytes file (Some event) = inject_lines g s handle lock_owner pid bytes file event

-- ---- WRITE

abbrev pub write_kind : Terms → Service → ℕ → ℕ → ℕ → List ℕ → OpenSeen → File → Step
write_kind g s handle lock_owner pid bytes file (files.Inject event) =
    inject g s handle lock_owner pid bytes file (slice_get (declared_events s.past) event)
write_kind g s handle lock_owner pid bytes file _ = write_other g s handle file bytes (kind_of_file file.file)

-- nothing can be written of an instance that was removed, and nothing is noted of it
abbrev pub write_there : Terms → Service → ℕ → ℕ → ℕ → List ℕ → OpenSeen → Step
write_there g s handle lock_owner pid bytes file =
    if is_there (scene_of g s) (node_of file) then write_kind g s handle lock_owner pid bytes file file.file else failed ENOENT s.files

abbrev pub write_file : Terms → Service → ℕ → ℕ → ℕ → List ℕ → Option OpenSeen → Step
write_file g s handle lock_owner pid bytes None = failed EBADF s.files
write_file g s handle lock_owner pid bytes (Some file) = write_there g s handle lock_owner pid bytes file

-- ---- FLUSH, RELEASE

-- an open file has the beginning of a line that has not ended
abbrev pub has_rest : OpenSeen → Bool
has_rest file = not (length file.stream.rest == 0)

-- the event of an open `inject`, if its instance and the event are there
abbrev pub event_of_file : Terms → Service → OpenSeen → File → Option Definition
event_of_file g s file (files.Inject event) = if is_there (scene_of g s) (node_of file) then slice_get (declared_events s.past) event else None
event_of_file g s file _ = None

-- the line that is kept is an event of the process that wrote it
abbrev pub end_line : Terms → Service → OpenSeen → (Option LineRefused → Outcome) → Definition → Step
end_line g s file outcome event =
    AsksLines (line_at_once (asked_by_line g.config.cpus file.stream.pid event) file.stream.rest)
    (λ (ran : Ran). outcome ran.refused) (noted_first_injection g s file)

-- The line ends with the writer's descriptors: at the FLUSH of who wrote it, which is told what becomes of it; of another's FLUSH, as a child's that got
-- the descriptor, it knows nothing.
abbrev pub flush_line : Terms → Service → ℕ → OpenSeen → Option Definition → Step
flush_line g s handle file None = failed ENOENT s.files
flush_line g s handle file (Some event) = end_line g s file (flushed handle s.files) event

abbrev pub flush_file : Terms → Service → ℕ → ℕ → Option OpenSeen → Step
flush_file g s handle lock_owner None = plain replies.Done s.files
flush_file g s handle lock_owner (Some file) =
    if has_rest file && file.stream.lock_owner == lock_owner then flush_line g s handle file (event_of_file g s file file.file)
    else plain replies.Done s.files

-- else at the RELEASE, which nobody is told of, so that it is noted alone
abbrev pub release_line : Terms → Service → ℕ → OpenSeen → Option Definition → Step
release_line g s handle file None = plain replies.Done (without_file handle s.files)
release_line g s handle file (Some event) = end_line g s file (released handle s.files) event

abbrev pub release_open : Terms → Service → ℕ → OpenSeen → Step
release_open g s handle file =
    if has_rest file then release_line g s handle file (event_of_file g s file file.file) else plain replies.Done (without_file handle s.files)

abbrev pub release : Terms → Service → ℕ → Option OpenSeen → Step
release g s handle None = failed EBADF s.files
release g s handle (Some file) = release_open g s handle file
