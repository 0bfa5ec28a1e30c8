-- Look-ups, and the size that they tell of a file: the length of what it shows now. A text that was counted is remembered until a command is done.
use Rattle.std.specs.Prelude.{ℕ, ◌+◌, ◌*◌, ◌/◌, ◌%◌, ◌^◌, ◌==◌, Bool, false, List, [], length, Option, Some, None, unwrap_or, Result, Ok, Err, if◌then◌else◌}
use Rattle.fuse_wire.specs.declared.errno.Errno.TheVariants.{ENOENT, EINVAL}
use Rattle.fuse_wire.specs.declared.reply.Reply.{Reply}
use Rattle.fuse_wire.specs.declared.reply.Reply.TheVariants as replies
use Rattle.trace_command.specs.declared.command.Reply.{Reply as Answer}
use Rattle.trace_command.specs.declared.command.Reply.TheVariants as answers
use Rattle.trace_command.specs.declared.refusal.Refusal.{Refusal}
use Rattle.tracer.specs.Lives.{live_answer}
use Rattle.error_log.specs.Logs.{log_text}
use Rattle.file_list.specs.FileKinds.{kind_of_file}
use Rattle.mount_tree.specs.Nodes.{number_of}
use Rattle.file_list.specs.declared.file.File.{File}
use Rattle.file_list.specs.declared.file.File.TheVariants.{RawPipe}
use Rattle.file_list.specs.declared.file.FileKind.{FileKind}
use Rattle.file_list.specs.declared.file.FileKind.TheVariants as kinds
use Rattle.mount_tree.specs.declared.node.Node.{Node}
use Rattle.mount_tree.specs.declared.node.Node.TheVariants as nodes
use Rattle.mount_tree.specs.declared.node.Owner.{Owner}
use Rattle.mount_stub_files.specs.ToolTexts.{tool_text}
use Rattle.mount_replies.specs.Services.{Service, Terms, count_of, scene_of}
use Rattle.mount_replies.specs.Steps.{Counts, Step, failed, plain, read_of, told}
use Rattle.mount_replies.specs.Told.{attributes_of, found_in, known, sets_size}
use Rattle.mount_replies.specs.declared.counted.Counted.{Counted}

-- ---- what a file shows

abbrev pub text_in : Answer → List ℕ
text_in answers.Done = []
text_in (answers.Text text) = text

abbrev pub text_answered : Result Answer Refusal → List ℕ
text_answered (Ok answer) = text_in answer
text_answered (Err refusal) = []

-- the answer that a read of a file of the tracer would get now
abbrev pub answer_now : Terms → Service → Owner → File → Result Answer Refusal
answer_now g s owner file = live_answer g.config s.past (read_of (scene_of g s) (nodes.File owner file) None)

-- the text that a read of a file that is no pipe would show now
abbrev pub text_of_kind : Terms → Service → Owner → File → FileKind → List ℕ
text_of_kind g s owner file kinds.Tool = unwrap_or (tool_text g.config s.past owner file) []
text_of_kind g s owner file kinds.ErrorLog = log_text owner s.errors
text_of_kind g s owner file kind = text_answered (answer_now g s owner file)

abbrev pub text_now : Terms → Service → Owner → File → List ℕ
text_now g s owner file = text_of_kind g s owner file (kind_of_file file)

-- ---- sizes

-- what is told of a node of this size
abbrev pub Telling : Type 0
Telling = ℕ → Reply

abbrev pub counted_now : Terms → Service → Owner → File → Counted
counted_now g s owner file = record {
  node = number_of (nodes.File owner file);
  size = length (text_now g s owner file);
  after = length s.past;
  text = Some (text_now g s owner file);
}

-- the text is counted
abbrev pub count_text : Terms → Service → Telling → Owner → File → Step
count_text g s telling owner file =
    Counts (counted_now g s owner file) (told (telling (length (text_now g s owner file))) s.files)

-- it is remembered, if no command was done since it was counted
abbrev pub is_recent : ℕ → Option Counted → Bool
is_recent done None = false
is_recent done (Some count) = count.after == done

abbrev pub size_counted : Option Counted → ℕ
size_counted None = 0
size_counted (Some count) = count.size

abbrev pub size_of_text : Terms → Service → Telling → Owner → File → Option Counted → Step
size_of_text g s telling owner file count =
    if is_recent (length s.past) count then plain (telling (size_counted count)) s.files else count_text g s telling owner file

-- A pipe has a size of 1, so that whoever stops at a size reads it nevertheless; what can't be read has none. What `error_log` shows changes without a
-- command, too.
-- Binary pages have the size that is told of them: `pages`.
abbrev pub size_by_kind : Terms → Service → Telling → ℕ → Owner → File → FileKind → Step
size_by_kind g s telling pages owner file kinds.Pipe = plain (telling 1) s.files
size_by_kind g s telling pages owner file kinds.RawPipe = plain (telling pages) s.files
size_by_kind g s telling pages owner file kinds.Inject = plain (telling 0) s.files
size_by_kind g s telling pages owner file kinds.ErrorLog = count_text g s telling owner file
size_by_kind g s telling pages owner file kind =
    size_of_text g s telling owner file (count_of (number_of (nodes.File owner file)) s.counted)

-- a folder has none
abbrev pub tell_size : Terms → Service → Telling → ℕ → Node → Step
tell_size g s telling pages (nodes.Folder owner folder) = plain (telling 0) s.files
tell_size g s telling pages (nodes.File owner file) = size_by_kind g s telling pages owner file (kind_of_file file)

-- ---- look-ups

-- By which number a node is told, and asked for from then on: binary pages have another one for each look-up, as whoever reads by one number by way of the
-- page cache gets what others read by it.
abbrev pub entry_number : ℕ → Node → ℕ
entry_number unique (nodes.File owner (RawPipe cpu)) = number_of (nodes.File owner (RawPipe cpu)) + unique / 2 % 2 ^ 17 * 2 ^ 47
entry_number unique node = number_of node

-- the page cache reads a file up to the size that a look-up told; whoever asks for the size of binary pages is told none
abbrev pub tell_entry : Terms → Service → ℕ → Option Node → Step
tell_entry g s unique None = failed ENOENT s.files
tell_entry g s unique (Some node) =
    tell_size g s (λ size. replies.Entry (entry_number unique node) (attributes_of g node size)) (2 ^ 40) node

-- LOOKUP
abbrev pub look_up : Terms → Service → ℕ → Option Node → List ℕ → Step
look_up g s unique folder name = tell_entry g s unique (found_in (scene_of g s) name folder)

abbrev pub tell_attributes : Terms → Service → Option Node → Step
tell_attributes g s None = failed ENOENT s.files
tell_attributes g s (Some node) = tell_size g s (λ size. replies.Attributes (attributes_of g node size)) 0 node

-- GETATTR
abbrev pub get_attributes : Terms → Service → Option Node → Step
get_attributes g s node = tell_attributes g s (known (scene_of g s) node)

-- SETATTR: nothing is set
abbrev pub set_attributes : Terms → Service → Option Node → ℕ → ℕ → Step
set_attributes g s node valid size = if sets_size valid size then failed EINVAL s.files else get_attributes g s node
