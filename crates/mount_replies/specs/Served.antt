-- What a mounted tracer does at each request of a kernel: it asks the tracer one command, one for each of some lines, or none, and replies, or lets a
-- read wait. A command that was refused changes nothing but what the step says of the open files and of the errors that are noted.
use Rattle.std.specs.Prelude.{ℕ, ◌+◌, ◌/◌, ◌%◌, ◌==◌, Bool, true, false, not, ◌&&◌, ◌||◌, nat_lt, is_none, List, [], take, drop, min, max, Option, Some, None, unwrap_or, Result, Ok, Err, codes, if◌then◌else◌}
use Rattle.std.specs.Option.{option_and_then}
use Rattle.fuse_wire.specs.declared.errno.Errno.TheVariants.{EPERM, ENOENT, EBADF, EAGAIN, EACCES, EISDIR, EINVAL, ENOSPC, ENOSYS}
use Rattle.fuse_wire.specs.declared.reply.Reply.TheVariants as replies
use Rattle.fuse_wire.specs.declared.request.Operation.{Operation}
use Rattle.fuse_wire.specs.declared.request.Operation.TheVariants as operations
use Rattle.trace_command.specs.Requests.{MakeInstance, RemoveInstance}
use Rattle.trace_command.specs.declared.command.Reply.{Reply as Answer}
use Rattle.trace_command.specs.declared.file_name.TopFile.TheVariants as top_files
use Rattle.trace_command.specs.declared.refusal.Refusal.{Refusal}
use Rattle.tracer_specification.specs.Settings.{now_of}
use Rattle.error_log.specs.Errors.{begun}
use Rattle.error_log.specs.Logs.{log_text}
use Rattle.mount_tree.specs.Children.{is_there}
use Rattle.file_list.specs.FileKinds.{access_of_file, kind_of_file}
use Rattle.mount_tree.specs.NodePaths.{path_of}
use Rattle.mount_tree.specs.Nodes.{number_of}
use Rattle.mount_tree.specs.Scenes.{SceneSeen, most_made}
use Rattle.file_list.specs.declared.file.File.{File}
use Rattle.file_list.specs.declared.file.File.TheVariants as files
use Rattle.file_list.specs.declared.file.FileKind.{FileKind}
use Rattle.file_list.specs.declared.file.FileKind.TheVariants as kinds
use Rattle.file_list.specs.declared.folder.Folder.TheVariants as folders
use Rattle.mount_tree.specs.declared.node.Node.{Node}
use Rattle.mount_tree.specs.declared.node.Node.TheVariants as nodes
use Rattle.mount_tree.specs.declared.node.Owner.TheVariants.{Top, Made}
use Rattle.file_list.specs.declared.files.ToolFile.TheVariants as tools
use Rattle.mount_stub_files.specs.ToolTexts.{tool_text}
use Rattle.mount_replies.specs.Errnos.{errno_of, errno_of_other}
use Rattle.mount_replies.specs.FileWrites.{flush_file, release, write_file}
use Rattle.mount_replies.specs.Lines.{noted_answer}
use Rattle.kernel_pages.specs.Pages.{page_of}
use Rattle.file_list.specs.FileTable.{file_index}
use Rattle.mount_replies.specs.Pipes.{ends, has_nothing, is_dry, is_used_up, would_wait}
use Rattle.mount_replies.specs.RawPages.{next_count, next_page, pipe_node}
use Rattle.mount_replies.specs.Services.{OpenSeen, Service, Terms, count_of, file_at, free_handle, is_read_out, just_opened, most_data, node_of, read_of_pipe, scene_of, with_dry_read, with_file, with_poll, with_reading, with_records, with_told_ready}
use Rattle.mount_replies.specs.Sizes.{get_attributes, look_up, set_attributes, text_in}
use Rattle.mount_replies.specs.Steps.{Asks, AsksNoting, Forgets, Interrupts, Keeps, Noting, Outcome, Parks, Plain, Step, Takes, Tells, failed, plain, read_of, taking, told, write_of}
use Rattle.mount_replies.specs.Told.{agree, attributes_of, check_access, empties, found_in, known, may, open_folder, read_folder, wants_read, wants_write}
use Rattle.mount_replies.specs.declared.parked.Parked.{Parked}
use Rattle.mount_replies.specs.declared.counted.Counted.{Counted}

-- ---- OPEN

-- FOPEN_DIRECT_IO is 1: a kernel asks for each read, whatever the size; FOPEN_NONSEEKABLE is 4; FOPEN_STREAM is 16: a read that waits holds up no other
-- one by the same open file; FOPEN_NOFLUSH is 32: no FLUSH comes where a descriptor is closed, since only `inject` has something to do then
abbrev pub open_flags : FileKind → ℕ
open_flags kinds.Pipe = 53
open_flags kinds.RawPipe = 53
open_flags kinds.Inject = 1
open_flags _ = 33

-- a file gets the lowest handle that is not in use
abbrev pub handed_out : OpenSeen → List (Option OpenSeen) → Outcome
handed_out file files =
    told (replies.Opened (free_handle files) (open_flags (kind_of_file file.file))) (with_file (free_handle files) file files)

-- What opening a file to be emptied asks: of `set_event` to disable all events of its instance, as a write of `0` to `events/enable` does; of a trace to
-- clear it, as a write of nothing by `>` does. Of other files nothing is asked: their first write is by `>`.
pub data Emptying : Type 0 where
  AsksNone : Emptying
  AsksToWrite : (file : File) (text : List ℕ) → Emptying

abbrev pub emptying_by_kind : File → FileKind → Emptying
emptying_by_kind file kinds.Trace = AsksToWrite file []
emptying_by_kind (files.Tool tools.SetEvent) kind = AsksToWrite (files.OfInstance top_files.EventsEnable) (codes "0")
emptying_by_kind file kind = AsksNone

abbrev pub emptying_of : File → Bool → Emptying
emptying_of file true = emptying_by_kind file (kind_of_file file)
emptying_of file false = AsksNone

abbrev pub emptied_first : OpenSeen → List (Option OpenSeen) → Result Answer Refusal → Outcome
emptied_first file files (Ok answer) = handed_out file files
emptied_first file files (Err refusal) = told (replies.Error (errno_of refusal)) files

-- it is noted by the file that was opened
abbrev pub noted_emptying : SceneSeen → ℕ → OpenSeen → File → List ℕ → Result Answer Refusal → Noting
noted_emptying scene now file asked text answer =
    noted_answer (begun file.owner now (path_of scene (node_of file))) (path_of scene (nodes.File file.owner asked)) text [] 0 answer

-- the file has its handle only if that was done; its writes are by `>>`, since it is empty now
abbrev pub emptied : SceneSeen → ℕ → OpenSeen → List (Option OpenSeen) → File → List ℕ → Step
emptied scene now file open_files asked text =
    AsksNoting (write_of scene (nodes.File file.owner asked) false text) true (emptied_first file open_files) (noted_emptying scene now file asked text)

-- `error_log` that is opened to be emptied forgets the errors of its instance
abbrev pub clears : File → ℕ → Bool
clears files.ErrorLog flags = empties flags
clears file flags = false

abbrev pub opened_unless_emptied : SceneSeen → ℕ → ℕ → OpenSeen → List (Option OpenSeen) → Emptying → Step
opened_unless_emptied scene now flags file files AsksNone =
    if clears file.file flags then Tells (Forgets file.owner) true (handed_out file files) else Takes (handed_out file files)
opened_unless_emptied scene now flags file files (AsksToWrite asked text) =
    emptied scene now (record file { starts_over = false }) files asked text

abbrev pub opened_file : SceneSeen → ℕ → ℕ → OpenSeen → List (Option OpenSeen) → Step
opened_file scene now flags file files = opened_unless_emptied scene now flags file files (emptying_of file.file (empties flags))

abbrev pub opened : SceneSeen → ℕ → ℕ → Option Node → List (Option OpenSeen) → Step
opened scene now flags None files = failed ENOENT files
opened scene now flags (Some (nodes.Folder owner folder)) files = failed EISDIR files
opened scene now flags (Some (nodes.File owner file)) files =
    if may (access_of_file file) (wants_read flags) (wants_write flags)
    then opened_file scene now flags (just_opened owner file (empties flags)) files
    else failed EACCES files

-- ---- READ

abbrev pub part_of : ℕ → ℕ → List ℕ → List ℕ
part_of offset size text = take (min size most_data) (drop offset text)

-- a text that was just read is what this read and later ones go on in
abbrev pub given_text : ℕ → ℕ → ℕ → List (Option OpenSeen) → Result Answer Refusal → Outcome
given_text handle offset size files (Ok answer) =
    told (replies.Data (part_of offset size (text_in answer))) (with_reading offset size (text_in answer) handle files)
given_text handle offset size files (Err refusal) = told (replies.Error (errno_of refusal)) files

-- the text is made by the first read of an open file, and anew by each at its beginning, or, once it was read to its end, by each before that
abbrev pub is_before_end : ℕ → Option ℕ → Bool
is_before_end offset None = true
is_before_end offset (Some end) = nat_lt offset end

abbrev pub makes_text : ℕ → OpenSeen → Bool
makes_text offset file = offset == 0 || (is_none file.text && is_before_end offset file.ended)

-- the read goes on in the text that is kept; where it comes to the end of it, that is given back
abbrev pub with_going_on : ℕ → ℕ → Option (List ℕ) → ℕ → List (Option OpenSeen) → List (Option OpenSeen)
with_going_on offset size None handle files = files
with_going_on offset size (Some text) handle files = if is_read_out offset size text then with_reading offset size text handle files else files

abbrev pub goes_on_in : ℕ → ℕ → ℕ → OpenSeen → List (Option OpenSeen) → Step
goes_on_in handle offset size file files =
    plain (replies.Data (part_of offset size (unwrap_or file.text []))) (with_going_on offset size file.text handle files)

abbrev pub read_anew : SceneSeen → ℕ → ℕ → ℕ → Node → List (Option OpenSeen) → Step
read_anew scene handle offset size node files = Asks (read_of scene node None) (given_text handle offset size files)

abbrev pub read_text : SceneSeen → ℕ → ℕ → ℕ → OpenSeen → List (Option OpenSeen) → Step
read_text scene handle offset size file files =
    if makes_text offset file then read_anew scene handle offset size (node_of file) files
    else goes_on_in handle offset size file files

-- a file that tools ask for and that is not there has no text; none is read that isn't there
abbrev pub given_tool : ℕ → ℕ → ℕ → List (Option OpenSeen) → Option (List ℕ) → Step
given_tool handle offset size files None = taking (replies.Error ENOENT) files
given_tool handle offset size files (Some text) = taking (replies.Data (part_of offset size text)) (with_reading offset size text handle files)

-- it is read as a text is, but the tracer is asked nothing
abbrev pub read_shown : ℕ → ℕ → ℕ → OpenSeen → List (Option OpenSeen) → Option (List ℕ) → Step
read_shown handle offset size file files shown =
    if makes_text offset file then given_tool handle offset size files shown
    else goes_on_in handle offset size file files

abbrev pub read_tool : Terms → Service → ℕ → ℕ → ℕ → OpenSeen → Step
read_tool g s handle offset size file =
    read_shown handle offset size file s.files (tool_text g.config s.past file.owner file.file)

-- and so is `error_log`
abbrev pub read_log : Service → ℕ → ℕ → ℕ → OpenSeen → Step
read_log s handle offset size file = read_shown handle offset size file s.files (Some (log_text file.owner s.errors))

-- fuse.h: FUSE_READ_LOCKOWNER is 2. A read without it is the page cache's, as for sendfile(2) and splice(2), which stop at the size that was told.
abbrev pub is_cached : ℕ → Bool
is_cached read_flags = not (read_flags / 2 % 2 == 1)

-- at the beginning it gets of the text that was counted for its file, if there is one, and later ones go on in that
abbrev pub given_counted : ℕ → ℕ → List (Option OpenSeen) → Step → Option (List ℕ) → Step
given_counted handle size files otherwise None = otherwise
given_counted handle size files otherwise (Some text) =
    taking (replies.Data (part_of 0 size text)) (with_reading 0 size text handle files)

abbrev pub text_counted : OpenSeen → List Counted → Option (List ℕ)
text_counted file counted = option_and_then (λ (count : Counted). count.text) (count_of (number_of (node_of file)) counted)

abbrev pub unless_counted : Service → Parked → Bool → ℕ → OpenSeen → Step → Step
unless_counted s read cached offset file otherwise =
    if cached && offset == 0 then given_counted read.handle read.size s.files otherwise (text_counted file s.counted) else otherwise

-- how many records are taken for a read: no line of a record, with one of lost records before it, has more than 2,048 bytes
abbrev pub records_for : ℕ → ℕ
records_for size = max 1 (min size most_data / 2048)

-- what was taken: as much as there is room for is given, and the rest is kept
abbrev pub given_records : ℕ → ℕ → List ℕ → List (Option OpenSeen) → Outcome
given_records handle size text files =
    told (replies.Data (part_of 0 size text)) (with_records (drop (min size most_data) text) handle files)

abbrev pub taken_records : ℕ → ℕ → List (Option OpenSeen) → Result Answer Refusal → Outcome
taken_records handle size files (Ok answer) = given_records handle size (text_in answer) files
taken_records handle size files (Err refusal) = told (replies.Error (errno_of refusal)) files

abbrev pub read_records : SceneSeen → ℕ → ℕ → Node → List (Option OpenSeen) → Step
read_records scene handle size node files = Asks (read_of scene node (Some (records_for size))) (taken_records handle size files)

-- fcntl.h: O_NONBLOCK is 2048
abbrev pub is_nonblocking : ℕ → Bool
is_nonblocking flags = flags / 2048 % 2 == 1

-- no record waits: the pipe ends, or the read waits, unless it may not
abbrev pub read_dry : Parked → ℕ → Bool → List (Option OpenSeen) → Step
read_dry read flags has_ended files =
    if has_ended then plain (replies.Data []) (with_dry_read true read.handle files)
    else if is_nonblocking flags then failed EAGAIN (with_dry_read false read.handle files) else Parks read

abbrev pub read_new : Terms → Service → Parked → ℕ → OpenSeen → Step
read_new g s read flags file =
    if is_dry g s file.owner file.file then read_dry read flags (ends g s file) s.files
    else read_records (scene_of g s) read.handle read.size (node_of file) s.files

-- what was kept comes first
abbrev pub read_pipe : Terms → Service → Parked → ℕ → OpenSeen → Step
read_pipe g s read flags file =
    if is_used_up file then read_new g s read flags file
    else Plain (given_records read.handle read.size (unwrap_or file.text []) s.files)

-- what was taken can't be read by the page cache, which would show it to others, too: such a read fails, and its caller goes on by read(2)
abbrev pub read_pipe_directly : Terms → Service → Parked → Bool → ℕ → OpenSeen → Step
read_pipe_directly g s read cached flags file = if cached then failed EINVAL s.files else read_pipe g s read flags file

-- ---- READ of binary pages (`tracing_buffers_read` and `tracing_buffers_splice_read` of kernel/trace/trace.c)

-- as much of the page as there is room for is given, and the rest is kept
abbrev pub given_page : ℕ → ℕ → List ℕ → List (Option OpenSeen) → Result Answer Refusal → Outcome
given_page handle size page files (Ok answer) = given_records handle size page files
given_page handle size page files (Err refusal) = told (replies.Error (errno_of refusal)) files

-- it is taken as `take COUNT per_cpu/cpuN/trace_pipe` takes its records
abbrev pub read_page : Terms → Service → Parked → OpenSeen → Step
read_page g s read file =
    Asks (read_of (scene_of g s) (pipe_node file) (Some (next_count g s file.owner (file_index file.file))))
    (given_page read.handle read.size (next_page g s file.owner (file_index file.file)) s.files)

-- The page cache gets a whole page or an error, which is EINVAL where read(2) left a part of a page, so that this is not lost. Where no record waits, the first read after a poll that was told of one gets a page of none, and any
-- other one EAGAIN.
abbrev pub read_no_page : Parked → OpenSeen → List (Option OpenSeen) → Step
read_no_page read file files =
    if file.polls.told_ready then taking (replies.Data (part_of 0 read.size (page_of []))) (with_dry_read false read.handle files)
    else failed EAGAIN (with_dry_read false read.handle files)

abbrev pub read_whole_page : Terms → Service → Parked → OpenSeen → Step
read_whole_page g s read file =
    if nat_lt read.size 4096 then failed EINVAL s.files
    else if is_dry g s file.owner file.file then read_no_page read file s.files
    else read_page g s read file

-- read(2): what is left of the page before, or a new one
abbrev pub read_new_page : Terms → Service → Parked → ℕ → OpenSeen → Step
read_new_page g s read flags file =
    if is_dry g s file.owner file.file then read_dry read flags (ends g s file) s.files else read_page g s read file

abbrev pub read_pages : Terms → Service → Parked → ℕ → OpenSeen → Step
read_pages g s read flags file =
    if is_used_up file then read_new_page g s read flags file
    else Plain (given_records read.handle read.size (unwrap_or file.text []) s.files)

abbrev pub read_raw : Terms → Service → Parked → Bool → ℕ → OpenSeen → Step
read_raw g s read cached flags file =
    if cached then (if is_used_up file then read_whole_page g s read file else failed EINVAL s.files) else read_pages g s read flags file

abbrev pub read_kind : Terms → Service → Parked → ℕ → Bool → ℕ → OpenSeen → FileKind → Step
read_kind g s read offset cached flags file kinds.Pipe = read_pipe_directly g s read cached flags file
read_kind g s read offset cached flags file kinds.RawPipe = read_raw g s read cached flags file
read_kind g s read offset cached flags file kinds.Inject = failed EACCES s.files
read_kind g s read offset cached flags file kinds.Tool =
    unless_counted s read cached offset file (read_tool g s read.handle offset read.size file)
read_kind g s read offset cached flags file kinds.ErrorLog =
    unless_counted s read cached offset file (read_log s read.handle offset read.size file)
read_kind g s read offset cached flags file _ =
    unless_counted s read cached offset file (read_text (scene_of g s) read.handle offset read.size file s.files)

-- nothing can be read of an instance that was removed
abbrev pub read_there : Terms → Service → Parked → ℕ → Bool → ℕ → OpenSeen → Step
read_there g s read offset cached flags file =
    if is_there (scene_of g s) (node_of file) then read_kind g s read offset cached flags file (kind_of_file file.file) else failed ENOENT s.files

abbrev pub read_file : Terms → Service → Parked → ℕ → Bool → ℕ → Option OpenSeen → Step
read_file g s read offset cached flags None = failed EBADF s.files
read_file g s read offset cached flags (Some file) = read_there g s read offset cached flags file

-- ---- POLL

-- poll.h: POLLIN is 1, POLLOUT 4, POLLRDNORM 64, POLLWRNORM 256
abbrev pub ready_pipe : ℕ
ready_pipe = 1 + 64

abbrev pub ready_file : ℕ
ready_file = 1 + 4 + 64 + 256

-- fuse.h: FUSE_POLL_SCHEDULE_NOTIFY is 1
abbrev pub wants_wakeup : ℕ → Bool
wants_wakeup flags = flags % 2 == 1

abbrev pub with_wanted_poll : Bool → ℕ → Bool → ℕ → List (Option OpenSeen) → List (Option OpenSeen)
with_wanted_poll wanted wakeup waits handle files = if wanted then with_poll wakeup waits handle files else files

-- a pipe is ready where a read of it would not wait; if it is not, the poll may want to be told when it is
abbrev pub poll_pipe : Bool → ℕ → ℕ → ℕ → List (Option OpenSeen) → Step
poll_pipe waits handle wakeup flags files =
    plain (replies.Poll (if waits then 0 else ready_pipe)) (with_wanted_poll (wants_wakeup flags) wakeup waits handle files)

-- binary pages are ready where there is one; that a poll was told so is remembered until the next read
abbrev pub poll_raw : Bool → ℕ → ℕ → ℕ → List (Option OpenSeen) → Step
poll_raw waits handle wakeup flags files =
    plain (replies.Poll (if waits then 0 else ready_pipe))
    (with_told_ready (not waits) handle (with_wanted_poll (wants_wakeup flags) wakeup waits handle files))

-- any other file is always ready
abbrev pub poll_kind : Terms → Service → ℕ → ℕ → ℕ → OpenSeen → FileKind → Step
poll_kind g s handle wakeup flags file kinds.Pipe = poll_pipe (would_wait g s file) handle wakeup flags s.files
poll_kind g s handle wakeup flags file kinds.RawPipe = poll_raw (has_nothing g s file) handle wakeup flags s.files
poll_kind g s handle wakeup flags file _ = plain (replies.Poll ready_file) s.files

abbrev pub poll_file : Terms → Service → ℕ → ℕ → ℕ → Option OpenSeen → Step
poll_file g s handle wakeup flags None = failed EBADF s.files
poll_file g s handle wakeup flags (Some file) = poll_kind g s handle wakeup flags file (kind_of_file file.file)

-- ---- MKDIR, RMDIR

abbrev pub made_folder : Terms → ℕ → List (Option OpenSeen) → Result Answer Refusal → Outcome
made_folder g serial files (Ok answer) = told (replies.Entry (number_of (nodes.Folder (Made serial) folders.Root)) (attributes_of g (nodes.Folder (Made serial) folders.Root) 0)) files
made_folder g serial files (Err refusal) = told (replies.Error (errno_of refusal)) files

-- where a scene takes one more
abbrev pub make_instance : Terms → SceneSeen → List ℕ → List (Option OpenSeen) → Step
make_instance g scene name files =
    if nat_lt scene.made most_made then Asks (MakeInstance (Some name)) (made_folder g scene.made files)
    else failed ENOSPC files

-- in `instances` alone
abbrev pub make_folder : Terms → SceneSeen → List ℕ → List (Option OpenSeen) → Option Node → Step
make_folder g scene name files None = failed ENOENT files
make_folder g scene name files (Some (nodes.Folder Top folders.Instances)) = make_instance g scene name files
make_folder g scene name files _ = failed EPERM files

abbrev pub removed_folder : List (Option OpenSeen) → Result Answer Refusal → Outcome
removed_folder files (Ok answer) = told replies.Done files
removed_folder files (Err refusal) = told (replies.Error (errno_of refusal)) files

-- and the errors of the instance are forgotten
abbrev pub forgotten : Option Node → Noting
forgotten (Some (nodes.Folder owner folder)) = Forgets owner
forgotten _ = Keeps

abbrev pub forgotten_if_done : Option Node → Result Answer Refusal → Noting
forgotten_if_done target (Ok answer) = forgotten target
forgotten_if_done target (Err refusal) = Keeps

abbrev pub remove_instance : SceneSeen → List ℕ → List (Option OpenSeen) → Step
remove_instance scene name files =
    AsksNoting (RemoveInstance (Some name)) false (removed_folder files)
    (forgotten_if_done (found_in scene name (Some (nodes.Folder Top folders.Instances))))

abbrev pub remove_folder : SceneSeen → List ℕ → List (Option OpenSeen) → Option Node → Step
remove_folder scene name files None = failed ENOENT files
remove_folder scene name files (Some (nodes.Folder Top folders.Instances)) = remove_instance scene name files
remove_folder scene name files _ = failed EPERM files

-- ---- all requests

-- what a request of this number by this process, about this node, if its number is one's, comes to
abbrev pub step_of : Terms → Service → ℕ → ℕ → Option Node → Operation → Step
step_of g s unique pid target (operations.Lookup name) = look_up g s unique target name
step_of g s unique pid target operations.GetAttr = get_attributes g s target
step_of g s unique pid target (operations.SetAttr valid size) = set_attributes g s target valid size
step_of g s unique pid target (operations.MkDir name) = make_folder g (scene_of g s) name s.files (known (scene_of g s) target)
step_of g s unique pid target (operations.RmDir name) = remove_folder (scene_of g s) name s.files (known (scene_of g s) target)
step_of g s unique pid target (operations.Open flags) =
    opened (scene_of g s) (now_of s.past) flags (known (scene_of g s) target) s.files
step_of g s unique pid target (operations.Read handle offset size read_flags flags) =
    read_file g s (read_of_pipe unique handle size) offset (is_cached read_flags) flags (file_at handle s.files)
step_of g s unique pid target (operations.Write handle offset lock_owner bytes) =
    write_file g s handle lock_owner pid bytes (file_at handle s.files)
step_of g s unique pid target (operations.Flush handle lock_owner) = flush_file g s handle lock_owner (file_at handle s.files)
step_of g s unique pid target (operations.Release handle) = release g s handle (file_at handle s.files)
step_of g s unique pid target operations.OpenDir = plain (open_folder (scene_of g s) target) s.files
step_of g s unique pid target (operations.ReadDir handle offset size) = taking (read_folder (scene_of g s) target offset size) s.files
step_of g s unique pid target (operations.Access mask) = plain (check_access (scene_of g s) target mask) s.files
step_of g s unique pid target (operations.Init major minor max_readahead flags) = plain (agree major flags) s.files
step_of g s unique pid target operations.StatFs = plain (replies.StatFs 4096 255) s.files
step_of g s unique pid target operations.Fsync = plain replies.Done s.files
step_of g s unique pid target (operations.ReleaseDir handle) = plain replies.Done s.files
step_of g s unique pid target operations.Destroy = plain replies.Done s.files
step_of g s unique pid target (operations.Poll handle wakeup flags events) = poll_file g s handle wakeup flags (file_at handle s.files)
-- not asked again: a file has no attributes beside those of stat(2)
step_of g s unique pid target (operations.GetXAttr name) = failed ENOSYS s.files
step_of g s unique pid target operations.ListXAttr = failed ENOSYS s.files
step_of g s unique pid target (operations.Other opcode) = failed (errno_of_other opcode) s.files
-- these have no reply: no number of a node is kept, and a read that is interrupted has one of its own
step_of g s unique pid target operations.Forget = Plain (record { reply = None; files = s.files })
step_of g s unique pid target (operations.BatchForget count) = Plain (record { reply = None; files = s.files })
step_of g s unique pid target (operations.Interrupt number) = Interrupts number
