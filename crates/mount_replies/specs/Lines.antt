-- Writes that are lines. What is written to `inject` is a stream of lines, an event each, of which the last may end in a later write; to the declarations
-- and to a trigger a line is a command. Lines are done in order until one is refused; then a writer is told how many bytes were done, so that it writes
-- the others again, or, if none were, why.
use Rattle.std.specs.Prelude.{ℕ, ◌+◌, ◌-◌, ◌%◌, ◌^◌, ◌==◌, Bool, true, false, ◌&&◌, ◌||◌, nat_lt, List, [], ◌∷◌, ◌++◌, length, slice_index, take, Option, Some, None, Result, Ok, Err, codes, if◌then◌else◌}
use Rattle.std.specs.List.{list_all, list_any, slice_split}
use Rattle.std.specs.Str.{bytes_eq}
use Rattle.fuse_wire.specs.declared.errno.Errno.{Errno}
use Rattle.fuse_wire.specs.declared.errno.Errno.TheVariants.{EINVAL}
use Rattle.fuse_wire.specs.declared.reply.Reply.TheVariants as replies
use Rattle.trace_lex.specs.Blanks.{is_blank}
use Rattle.trace_command.specs.declared.file_name.EventFile.TheVariants as per_event
use Rattle.trace_command.specs.declared.command.Reply.{Reply as Answer}
use Rattle.trace_command.specs.declared.refusal.Refusal.{Refusal}
use Rattle.trace_command.specs.declared.refusal.Refusal.TheVariants.{Memory}
use Rattle.trace_format.specs.Definitions.{Definition}
use Rattle.trace_format.specs.declared.pair.Pair.{Pair}
use Rattle.refusal_explanations.specs.Places.{injection_offset, write_offset}
use Rattle.refusal_explanations.specs.Words.{injection_words, write_words}
use Rattle.error_log.specs.Errors.{ErrorSeen, refused}
use Rattle.file_list.specs.FileKinds.{takes_lines}
use Rattle.mount_tree.specs.Scenes.{SceneSeen}
use Rattle.file_list.specs.declared.file.File.{File}
use Rattle.file_list.specs.declared.file.File.TheVariants as files
use Rattle.mount_tree.specs.declared.node.Node.{Node}
use Rattle.mount_tree.specs.declared.node.Node.TheVariants as nodes
use Rattle.mount_tree.specs.declared.node.Owner.{Owner}
use Rattle.mount_replies.specs.Errnos.{errno_of}
use Rattle.mount_replies.specs.Injections.{injection, pairs_of_line}
use Rattle.mount_replies.specs.Services.{OpenSeen, drop_rest, with_stream, with_write, without_file, without_rest}
use Rattle.mount_replies.specs.Steps.{Asking, AsksFor, AsksNothing, IsTooLong, IsWrongLine, Keeps, LineAsked, LineRefused, Notes, Noting, Outcome, told, write_of}
use Rattle.mount_replies.specs.declared.fault.LineFault.{LineFault}
use Rattle.mount_replies.specs.declared.fault.LineFault.TheVariants.{Refused, TooLong}
use Rattle.mount_replies.specs.declared.stream.Stream.{Stream}

-- ---- bytes as lines

-- a newline is 10; what follows the last one has not ended
abbrev pub is_newline : ℕ → Bool
is_newline b = b == 10

abbrev pub pieces_of : List ℕ → List (List ℕ)
pieces_of bytes = slice_split is_newline bytes

abbrev pub last_piece : List (List ℕ) → List ℕ
last_piece [] = []
last_piece (line ∷ []) = line
last_piece (line ∷ next ∷ more) = last_piece (next ∷ more)

abbrev pub is_blank_line : List ℕ → Bool
is_blank_line line = list_all is_blank line

-- ---- why a line is not done

abbrev pub errno_of_fault : LineFault → Errno
errno_of_fault (Refused refusal) = errno_of refusal
errno_of_fault _ = EINVAL

abbrev pub is_memory : LineFault → Bool
is_memory (Refused Memory) = true
is_memory _ = false

-- ---- `inject`

-- what is asked for a line, by this process, whose number has 31 bits, on the CPU that is its number modulo the number of CPUs
abbrev pub asked_by_pairs : ℕ → ℕ → Definition → Option (List Pair) → Asking
asked_by_pairs cpus pid event None = IsWrongLine
asked_by_pairs cpus pid event (Some pairs) = AsksFor (injection (pid % cpus) event (pid % 2 ^ 31) pairs)

abbrev pub asked_by_line : ℕ → ℕ → Definition → List ℕ → Asking
asked_by_line cpus pid event line =
    if is_blank_line line then AsksNothing else asked_by_pairs cpus pid event (pairs_of_line line)

-- how many bytes a line has at most that has not ended
abbrev pub most_kept : ℕ
most_kept = 4096

abbrev pub too_long : ℕ → List ℕ → List LineAsked
too_long size rest = if nat_lt most_kept (length rest) then record { text = rest; asking = IsTooLong; end = size } ∷ [] else []

-- The lines that end in a write of so many bytes after so many that were kept, of which these begin at `start`. What follows the last newline is kept, if
-- it isn't too long.
unfoldable pub stream_lines : (List ℕ → Asking) → (kept size start : ℕ) → List (List ℕ) → List LineAsked
stream_lines asking kept size start [] = []
stream_lines asking kept size start (rest ∷ []) = too_long size rest
stream_lines asking kept size start (line ∷ next ∷ more) =
    record { text = line; asking = asking line; end = start + length line + 1 - kept }
    ∷ stream_lines asking kept size (start + length line + 1) (next ∷ more)

-- a write without a newline is one line at once, until the open file was written a newline
abbrev pub line_at_once : (List ℕ → Asking) → List ℕ → List LineAsked
line_at_once asking bytes = record { text = bytes; asking = asking bytes; end = length bytes } ∷ []

abbrev pub has_newline : List ℕ → Bool
has_newline bytes = list_any is_newline bytes

abbrev pub goes_on : Stream → List ℕ → Bool
goes_on stream bytes = stream.is_stream || has_newline bytes

-- a write is a stream's from then on: what follows its last newline is kept
abbrev pub stream_after : Stream → ℕ → ℕ → List ℕ → Stream
stream_after stream lock_owner pid bytes =
    record { is_stream = true; rest = last_piece (pieces_of (stream.rest ++ bytes)); lock_owner = lock_owner; pid = pid }

-- Where the first line was not done, that is told, and what was kept is dropped, but out of memory all is as before. Where others were done, the writer is
-- told how many bytes these have, and nothing is kept.
abbrev pub injected : ℕ → Stream → ℕ → List (Option OpenSeen) → ℕ → Option LineRefused → Outcome
injected handle after size files done None = told (replies.Written size) (with_stream after handle files)
injected handle after size files done (Some line) =
    if done == 0
    then told (replies.Error (errno_of_fault line.fault)) (if is_memory line.fault then files else drop_rest handle files)
    else told (replies.Written done) (with_stream (without_rest after) handle files)

abbrev pub injected_at_once : ℕ → List (Option OpenSeen) → Option LineRefused → Outcome
injected_at_once size files None = told (replies.Written size) files
injected_at_once size files (Some line) = told (replies.Error (errno_of_fault line.fault)) files

-- ---- what is noted of a line that was not done

abbrev pub refusal_in : LineFault → Option Refusal
refusal_in (Refused refusal) = Some refusal
refusal_in _ = None

abbrev pub noted_line : ErrorSeen → List ℕ → LineFault → Noting
noted_line begun text (Refused Memory) = Keeps
noted_line begun text TooLong = Notes (refused begun text (codes "a line that has not ended has at most 4,096 bytes") most_kept)
noted_line begun text fault = Notes (refused begun text (injection_words (refusal_in fault)) (injection_offset text (refusal_in fault)))

-- it is noted where it is told
abbrev pub noted_if_first : (List ℕ → LineFault → Noting) → ℕ → Option LineRefused → Noting
noted_if_first noting done None = Keeps
noted_if_first noting done (Some line) = if done == 0 then noting line.text line.fault else Keeps

-- ---- an unended line ends

-- it is dropped, whatever becomes of it, since that was told
abbrev pub flushed : ℕ → List (Option OpenSeen) → Option LineRefused → Outcome
flushed handle files None = told replies.Done (drop_rest handle files)
flushed handle files (Some line) = told (replies.Error (errno_of_fault line.fault)) (drop_rest handle files)

-- the file is closed, whatever becomes of the line
abbrev pub released : ℕ → List (Option OpenSeen) → Option LineRefused → Outcome
released handle files None = told replies.Done (without_file handle files)
released handle files (Some line) = told (replies.Error (errno_of_fault line.fault)) (without_file handle files)

-- ---- declarations and triggers

-- A kernel removes the snapshot trigger whatever follows `!snapshot:`, and trace-cmd writes `!snapshot:unlimited`.
abbrev pub begins : List ℕ → List ℕ → Bool
begins word text = bytes_eq (take (length word) text) word

abbrev pub trigger_text : List ℕ → List ℕ
trigger_text text = if begins (codes "!snapshot:") text then codes "!snapshot" else text

-- the text of the command that a line is
abbrev pub command_text : File → List ℕ → List ℕ
command_text (files.OfEvent event per_event.Trigger) text = trigger_text text
command_text file text = text

abbrev pub line_command : SceneSeen → Node → File → Bool → List ℕ → Asking
line_command scene node file append line = AsksFor (write_of scene node append (command_text file line))

-- all that was written is one line
abbrev pub one_command : (Bool → List ℕ → Asking) → Bool → ℕ → List ℕ → List LineAsked
one_command asking append size line = record { text = line; asking = asking append line; end = size } ∷ []

-- Of several lines each is a command, but for blank ones: the first by `>`, if the file was opened to be emptied and nothing was written yet, the others
-- by `>>`. The last one need not end.
unfoldable pub command_lines : (Bool → List ℕ → Asking) → Bool → (size start : ℕ) → List (List ℕ) → List LineAsked
command_lines asking append size start [] = []
command_lines asking append size start (line ∷ []) = if is_blank_line line then [] else one_command asking append size line
command_lines asking append size start (line ∷ next ∷ more) =
    if is_blank_line line then command_lines asking append size (start + length line + 1) (next ∷ more)
    else record { text = line; asking = asking append line; end = start + length line + 1 }
    ∷ command_lines asking true size (start + length line + 1) (next ∷ more)

-- a last newline is not written
abbrev pub without_newline : List ℕ → List ℕ
without_newline bytes = if slice_index bytes (length bytes - 1) == 10 then take (length bytes - 1) bytes else bytes

-- several lines are commands where a file takes lines; anything else that is written is one
abbrev pub lines_of : (Bool → List ℕ → Asking) → File → Bool → List ℕ → List LineAsked
lines_of asking file append bytes =
    if takes_lines file && has_newline (without_newline bytes) then command_lines asking append (length bytes) 0 (pieces_of bytes)
    else one_command asking append (length bytes) (without_newline bytes)

abbrev pub written_lines : SceneSeen → Owner → File → Bool → List ℕ → List LineAsked
written_lines scene owner file append bytes = lines_of (line_command scene (nodes.File owner file) file) file append bytes

-- where no line was done, the file is as before; several blank lines are none
abbrev pub written : ℕ → ℕ → List (Option OpenSeen) → ℕ → Option LineRefused → Outcome
written handle size files done None = told (replies.Written size) (if done == 0 then files else with_write handle files)
written handle size files done (Some line) =
    if done == 0 then told (replies.Error (errno_of_fault line.fault)) files
    else told (replies.Written done) (with_write handle files)

-- a write that was refused is noted, with what is wrong, unless memory was refused
abbrev pub noted_refusal : ErrorSeen → List ℕ → List ℕ → List ℕ → Refusal → Noting
noted_refusal begun path text shown Memory = Keeps
noted_refusal begun path text shown refusal = Notes (refused begun shown (write_words path text refusal) (write_offset text refusal))

abbrev pub noted_command : ErrorSeen → List ℕ → File → List ℕ → LineFault → Noting
noted_command begun path file text (Refused refusal) = noted_refusal begun path (command_text file text) text refusal
noted_command begun path file text fault = Keeps

-- likewise of one command for a file of another path, with another text than was written, in which another byte is to blame
abbrev pub noted_answer : ErrorSeen → List ℕ → List ℕ → List ℕ → ℕ → Result Answer Refusal → Noting
noted_answer begun path text shown at (Ok answer) = Keeps
noted_answer begun path text shown at (Err Memory) = Keeps
noted_answer begun path text shown at (Err refusal) = Notes (refused begun shown (write_words path text refusal) at)
