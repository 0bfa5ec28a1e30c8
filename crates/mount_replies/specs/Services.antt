-- A mounted tracer: what it was mounted with, the commands that were done, the files that are open, and the reads that wait.
use Rattle.std.specs.Prelude.{ℕ, ◌+◌, ◌==◌, Bool, true, false, not, nat_le, nat_lt, is_none, is_some, List, [], ◌∷◌, ◌++◌, length, map, min, drop, set, remove, position, Option, Some, None, unwrap_or, if◌then◌else◌}
use Rattle.std.specs.List.{filter, find, slice_get}
use Rattle.std.specs.Option.{option_and_then, option_map}
use Rattle.trace_command.specs.Requests.{Request}
use Rattle.trace_command.specs.declared.command.Config.{Config}
use Rattle.error_log.specs.Errors.{ErrorSeen}
use Rattle.mount_tree.specs.Scenes.{SceneSeen}
use Rattle.mount_tree.specs.ScenesAfter.{scene_after}
use Rattle.file_list.specs.declared.file.File.{File}
use Rattle.mount_tree.specs.declared.node.Node.{Node}
use Rattle.mount_tree.specs.declared.node.Node.TheVariants as nodes
use Rattle.mount_tree.specs.declared.node.Owner.{Owner}
use Rattle.mount_replies.specs.declared.counted.Counted.{Counted}
use Rattle.mount_replies.specs.declared.parked.Parked.{Parked}
use Rattle.mount_replies.specs.declared.polls.Polls.{Polls}
use Rattle.mount_replies.specs.declared.stream.Stream.{Stream}

-- the tracer's configuration, whose the files are, and the permissions that they have as far as they can be used at all
pub record Terms : Type 0 where
  pub config : Config
  pub uid : ℕ
  pub gid : ℕ
  pub mode : ℕ

-- nothing was written to an open `inject`
abbrev pub no_stream : Stream
no_stream = record { is_stream = false; rest = []; lock_owner = 0; pid = 0 }

-- no poll asked for anything
abbrev pub no_polls : Polls
no_polls = record { asked = None; wakeup = None; told_end = false; told_ready = false }

-- An open file: whose it is and which; whether it was opened to be emptied (O_TRUNC) and nothing was written yet; and the text that its reads give:
-- of a pipe what was taken and not yet given, of another file all that it showed when it was last read from its beginning. A text that was read to its
-- end is given back, and only its length is kept. Of a pipe also whether a read gave records already, and its polls; of `inject` what was written.
pub record OpenSeen : Type 0 where
  pub owner : Owner
  pub file : File
  pub starts_over : Bool
  pub text : Option (List ℕ)
  pub ended : Option ℕ
  pub has_read : Bool
  pub polls : Polls
  pub stream : Stream

-- a file that was just opened
abbrev pub just_opened : Owner → File → Bool → OpenSeen
just_opened owner file starts_over = record {
  owner = owner;
  file = file;
  starts_over = starts_over;
  text = None;
  ended = None;
  has_read = false;
  polls = no_polls;
  stream = no_stream;
}

-- a read that was just asked
abbrev pub read_of_pipe : ℕ → ℕ → ℕ → Parked
read_of_pipe unique handle size = record { unique = unique; handle = handle; size = size; interrupted = false }

-- the requests that the tracer did, newest first; for each handle its open file, if it has one; the reads that wait, oldest first; the writes that were
-- refused, as the logs of the instances have them; and the texts that were counted last, the latest one last
pub record Service : Type 0 where
  pub past : List Request
  pub files : List (Option OpenSeen)
  pub parked : List Parked
  pub errors : List ErrorSeen
  pub counted : List Counted

abbrev pub node_of : OpenSeen → Node
node_of file = nodes.File file.owner file.file

-- the folders and files that there are
abbrev pub scene_of : Terms → Service → SceneSeen
scene_of g s = scene_after g.config.cpus s.past

-- ---- handles

-- the open file of a handle
abbrev pub file_at : ℕ → List (Option OpenSeen) → Option OpenSeen
file_at handle files = option_and_then (λ (file : Option OpenSeen). file) (slice_get files handle)

-- the text that its reads give, if there is one
abbrev pub text_at : ℕ → List (Option OpenSeen) → Option (List ℕ)
text_at handle files = option_and_then (λ (file : OpenSeen). file.text) (file_at handle files)

-- the handle of the file that is opened next: the lowest that is not in use
abbrev pub free_handle : List (Option OpenSeen) → ℕ
free_handle files = unwrap_or (position (λ (file : Option OpenSeen). is_none file) files) (length files)

abbrev pub with_file : ℕ → OpenSeen → List (Option OpenSeen) → List (Option OpenSeen)
with_file handle file files = if nat_lt handle (length files) then set files handle (Some file) else files ++ Some file ∷ []

-- a file is closed
abbrev pub without_file : ℕ → List (Option OpenSeen) → List (Option OpenSeen)
without_file handle files = set files handle None

-- an open file is changed
abbrev pub with_change : (OpenSeen → OpenSeen) → ℕ → List (Option OpenSeen) → List (Option OpenSeen)
with_change change handle files = set files handle (option_map change (file_at handle files))

-- the most bytes that a reply gives of a file or a folder, and that are written at once
abbrev pub most_data : ℕ
most_data = 131072

-- a read of so many bytes at an offset comes to the end of a text
abbrev pub is_read_out : ℕ → ℕ → List ℕ → Bool
is_read_out offset size text = nat_le (length text) (offset + min size most_data)

-- A text is read so: it is kept for the reads that follow, or, where this one comes to its end, only its length is.
abbrev pub after_reading : ℕ → ℕ → List ℕ → OpenSeen → OpenSeen
after_reading offset size text file =
    if is_read_out offset size text then record file { text = None; ended = Some (length text) }
    else record file { text = Some text; ended = None }

abbrev pub with_reading : ℕ → ℕ → List ℕ → ℕ → List (Option OpenSeen) → List (Option OpenSeen)
with_reading offset size text handle files = with_change (after_reading offset size text) handle files

-- a command was written to it
abbrev pub with_write : ℕ → List (Option OpenSeen) → List (Option OpenSeen)
with_write handle files = with_change (λ (file : OpenSeen). record file { starts_over = false }) handle files

-- this was written to its stream
abbrev pub with_stream : Stream → ℕ → List (Option OpenSeen) → List (Option OpenSeen)
with_stream stream handle files = with_change (λ (file : OpenSeen). record file { stream = stream }) handle files

-- what is kept of a stream is dropped
abbrev pub without_rest : Stream → Stream
without_rest stream = record { is_stream = stream.is_stream; rest = []; lock_owner = stream.lock_owner; pid = stream.pid }

abbrev pub drop_rest : ℕ → List (Option OpenSeen) → List (Option OpenSeen)
drop_rest handle files = with_change (λ (file : OpenSeen). record file { stream = without_rest file.stream }) handle files

-- ---- polls

-- a poll that asked to be told ever is to be told again; whether the last read was told the end
abbrev pub armed : Bool → Polls → Polls
armed told_end polls = record { asked = polls.asked; wakeup = polls.asked; told_end = told_end; told_ready = false }

-- this is left of what was taken for its reads, one of which gave records
abbrev pub with_records : List ℕ → ℕ → List (Option OpenSeen) → List (Option OpenSeen)
with_records text handle files =
    with_change (λ (file : OpenSeen). record file { text = Some text; has_read = true; polls = armed false file.polls }) handle files

-- a read of it found no record: it was told the end, or to come again
abbrev pub with_dry_read : Bool → ℕ → List (Option OpenSeen) → List (Option OpenSeen)
with_dry_read told_end handle files = with_change (λ (file : OpenSeen). record file { polls = armed told_end file.polls }) handle files

-- a poll asked to be told by this number; it waits for that, or not, and what waits has not ended
abbrev pub polled_by : ℕ → Bool → Polls → Polls
polled_by wakeup waits polls = record {
  asked = Some wakeup;
  wakeup = if waits then Some wakeup else polls.wakeup;
  told_end = if waits then false else polls.told_end;
  told_ready = polls.told_ready;
}

abbrev pub with_poll : ℕ → Bool → ℕ → List (Option OpenSeen) → List (Option OpenSeen)
with_poll wakeup waits handle files = with_change (λ (file : OpenSeen). record file { polls = polled_by wakeup waits file.polls }) handle files

-- a poll of it was told whether a read would not wait
abbrev pub with_told_ready : Bool → ℕ → List (Option OpenSeen) → List (Option OpenSeen)
with_told_ready told_ready handle files =
    with_change (λ (file : OpenSeen). record file { polls = record file.polls { told_ready = told_ready } }) handle files

-- a poll of it was told
abbrev pub without_wakeup : ℕ → List (Option OpenSeen) → List (Option OpenSeen)
without_wakeup handle files =
    with_change (λ (file : OpenSeen). record file { polls = record file.polls { wakeup = None } }) handle files

-- a poll of it is to be told
abbrev pub has_wakeup : Option OpenSeen → Bool
has_wakeup None = false
has_wakeup (Some file) = is_some file.polls.wakeup

-- the number by which its poll is to be told
abbrev pub wakeup_at : ℕ → List (Option OpenSeen) → Option ℕ
wakeup_at handle files = option_and_then (λ (file : OpenSeen). file.polls.wakeup) (file_at handle files)

-- ---- texts that were counted

abbrev pub is_of_node : ℕ → Counted → Bool
is_of_node node count = count.node == node

-- the last one of a node
abbrev pub count_of : ℕ → List Counted → Option Counted
count_of node counted = find (is_of_node node) counted

-- the latest 64 are remembered, and of these the latest eight with their texts
abbrev pub most_counted : ℕ
most_counted = 64

abbrev pub most_texts : ℕ
most_texts = 8

abbrev pub without_oldest : List Counted → List Counted
without_oldest counted = if nat_lt (length counted) most_counted then counted else drop 1 counted

-- one that fewer follow keeps its text
unfoldable pub latest_texts : List Counted → List Counted
latest_texts [] = []
latest_texts (count ∷ later) =
    (if nat_lt (length later) most_texts then count else record count { text = None }) ∷ latest_texts later

-- one more is counted, in place of the node's last one
abbrev pub with_count : Counted → List Counted → List Counted
with_count count counted =
    latest_texts (without_oldest (filter (λ (other : Counted). not (is_of_node count.node other)) counted) ++ count ∷ [])

-- ---- reads that wait

-- one more waits
abbrev pub with_read : Parked → Service → Service
with_read read s = record s { parked = s.parked ++ read ∷ [] }

-- the one at this index waits no more
abbrev pub without_read : ℕ → Service → Service
without_read index s = record s { parked = remove s.parked index }

abbrev pub interrupted_if : ℕ → Parked → Parked
interrupted_if unique read = if read.unique == unique then record read { interrupted = true } else read

-- the one of this number is interrupted, if it waits
abbrev pub with_interrupted : ℕ → Service → Service
with_interrupted unique s = record s { parked = map (interrupted_if unique) s.parked }
