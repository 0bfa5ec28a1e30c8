-- What steps ask and note: but for the removal of an instance such requests as reads, writes and emissions are, what is noted is of an instance that is
-- there, and what is counted is the text of a file that is there.
use Rattle.std.proofs.Common.{◌≡◌, ◌⊎◌, inl, inr, ℕ, suc, ◌+◌, ◌-◌, ◌/◌, ◌%◌, ◌^◌, ◌<◌, ◌≤◌, ◌==◌, max, min, nat_le, nat_lt, Bool, true, false, not, ◌&&◌, if◌then◌else◌, List, [], ◌∷◌, ◌++◌, length, Option, Some, None, Result, Ok, Err, refl, sym, slice_get, unwrap_or, arith}
use Rattle.std.proofs.lemmas.Bool.{and_parts, leb-true}
use Rattle.std.specs.Option.{option_map_or}
use Rattle.fuse_wire.specs.declared.errno.Errno.TheVariants.{EACCES, EAGAIN, EINVAL, EINTR, ENOENT, ENOSPC}
use Rattle.fuse_wire.specs.declared.reply.Reply.TheVariants as replies
use Rattle.fuse_wire.specs.declared.request.Operation.{Operation}
use Rattle.fuse_wire.specs.declared.request.Operation.TheVariants as operations
use Rattle.trace_command.specs.Requests.{MakeInstance, RemoveInstance, Request}
use Rattle.trace_command.specs.declared.command.Reply.{Reply as Answer}
use Rattle.trace_command.specs.declared.refusal.Refusal.{Refusal}
use Rattle.trace_command.specs.declared.refusal.Refusal.TheVariants.{Memory}
use Rattle.trace_format.specs.Definitions.{Definition}
use Rattle.trace_format.specs.declared.pair.Pair.{Pair}
use Rattle.tracer_specification.specs.Settings.{declared_events, now_of}
use Rattle.error_log.specs.Errors.{ErrorSeen, begun}
use Rattle.error_log.specs.Logs.{log_text}
use Rattle.mount_tree.proofs.ThereLemmas.{found_there}
use Rattle.mount_tree.specs.Children.{file_is_there, is_there, owner_is_there}
use Rattle.file_list.specs.FileKinds.{access_of_file, kind_of_file, takes_lines}
use Rattle.file_list.specs.FileTable.{file_index}
use Rattle.kernel_pages.specs.Pages.{lost_bytes, page_of}
use Rattle.kernel_pages.specs.Taking.{event_head_size, room_after, room_left, taken_after, taken_of}
use Rattle.kernel_pages.specs.declared.page_row.PageRow.{PageRow}
use Rattle.mount_tree.specs.NodePaths.{path_of}
use Rattle.mount_tree.specs.Nodes.{number_of}
use Rattle.mount_tree.specs.Scenes.{SceneSeen, most_made}
use Rattle.file_list.specs.declared.file.File.{File}
use Rattle.file_list.specs.declared.file.File.TheVariants as files
use Rattle.file_list.specs.declared.file.FileKind.{FileKind}
use Rattle.file_list.specs.declared.file.FileKind.TheVariants as kinds
use Rattle.file_list.specs.declared.folder.Folder.TheVariants as folders
use Rattle.mount_tree.specs.declared.node.Node.{Node}
use Rattle.mount_tree.specs.declared.node.Node.TheVariants as nodes
use Rattle.mount_tree.specs.declared.node.Owner.{Owner}
use Rattle.mount_tree.specs.declared.node.Owner.TheVariants.{Top, Made}
use Rattle.mount_stub_files.specs.ToolTexts.{tool_text}
use Rattle.mount_stub_files.specs.ToolWrites.{tool_write}
use Rattle.mount_stub_files.specs.WrongWords.{wrong_offset}
use Rattle.mount_stub_files.specs.declared.write.ToolWrite.{ToolWrite}
use Rattle.mount_stub_files.specs.declared.write.ToolWrite.TheVariants as writes
use Rattle.mount_replies.specs.FileWrites.{begun_now, end_line, event_of_file, flush_file, flush_line, has_rest, inject, inject_at_once, inject_stream, noted_first_injection, release, release_line, switch_text, write_file, write_kind, write_other, write_text, write_tool}
use Rattle.mount_replies.specs.Injections.{injection, pairs_of_line}
use Rattle.mount_replies.specs.Lines.{asked_by_line, asked_by_pairs, command_lines, command_text, flushed, goes_on, has_newline, is_blank_line, line_command, lines_of, most_kept, noted_answer, noted_command, noted_if_first, noted_line, noted_refusal, one_command, pieces_of, released, stream_lines, too_long, without_newline}
use Rattle.mount_replies.specs.Owed.{step_of_parked}
use Rattle.mount_replies.specs.Pipes.{ends, is_dry, is_used_up}
use Rattle.mount_replies.specs.RawPages.{next_count, next_rows, pipe_node}
use Rattle.mount_replies.specs.Served.{AsksNone, AsksToWrite, Emptying, clears, emptying_of, forgotten_if_done, given_counted, given_records, given_tool, goes_on_in, handed_out, is_cached, is_nonblocking, made_folder, make_folder, makes_text, opened, opened_file, opened_unless_emptied, part_of, poll_file, poll_kind, read_anew, read_dry, read_file, read_kind, read_log, read_new, read_new_page, read_no_page, read_page, read_pages, read_pipe, read_pipe_directly, read_raw, read_records, read_shown, read_text, read_tool, read_whole_page, records_for, remove_folder, step_of, text_counted, unless_counted}
use Rattle.mount_replies.specs.Services.{OpenSeen, Service, Terms, count_of, file_at, just_opened, node_of, read_of_pipe, scene_of, with_dry_read, without_file}
use Rattle.mount_replies.specs.Sizes.{Telling, count_text, counted_now, entry_number, get_attributes, is_recent, set_attributes, size_by_kind, size_counted, size_of_text, tell_attributes, tell_entry, tell_size}
use Rattle.mount_replies.specs.Steps.{Asking, AsksNothing, Asks, AsksLines, AsksNoting, Counts, Forgets, IsTooLong, Keeps, LineRefused, Notes, Noting, Outcome, Parks, Plain, Ran, Step, Takes, Tells, failed, plain, read_of, taking, write_of}
use Rattle.mount_replies.specs.Told.{attributes_of, empties, found_in, known, may, sets_size, wants_read, wants_write}
use Rattle.mount_replies.specs.declared.counted.Counted.{Counted}
use Rattle.mount_replies.specs.declared.fault.LineFault.{LineFault}
use Rattle.mount_replies.specs.declared.fault.LineFault.TheVariants.{NoCommand, Refused, TooLong}
use Rattle.mount_replies.specs.declared.parked.Parked.{Parked}
use Rattle.mount_replies.proofs.KeptTexts.{either}
use Rattle.mount_replies.proofs.RunLemmas.{AllAsk, OnlyAsks}

-- ---- what a step asks, notes and counts

-- what holds of each request that steps ask, but for the removal of an instance
pub record IsOfEach (g : Terms) (P : Request → Type 0) : Type 0 where
  pub whole : (scene : SceneSeen) (node : Node) → P (read_of scene node None)
  pub some : (scene : SceneSeen) (node : Node) (most : ℕ) → most < 2 ^ 64 → P (read_of scene node (Some most))
  pub wrote : (scene : SceneSeen) (node : Node) (append : Bool) (text : List ℕ) → P (write_of scene node append text)
  pub made : (name : List ℕ) → P (MakeInstance (Some name))
  pub injected : (pid : ℕ) (event : Definition) (pairs : List Pair) → P (injection (pid % g.config.cpus) event (pid % 2 ^ 31) pairs)

abbrev pub NotesThere : SceneSeen → Noting → Type 0
NotesThere scene Keeps = Unit {0}
NotesThere scene (Notes error) = owner_is_there scene error.owner ≡ true
NotesThere scene (Forgets owner) = Unit {0}

-- an instance is removed, and what was noted of the one of that name is forgotten
pub record IsRemoval (scene : SceneSeen) (request : Request) (noting : Result Answer Refusal → Noting) : Type 0 where
  pub name : List ℕ
  pub is : request ≡ RemoveInstance (Some name)
  pub notes : noting ≡ forgotten_if_done (found_in scene name (Some (nodes.Folder Top folders.Instances)))

abbrev pub IsOfThere : (Request → Type 0) → (Counted → Type 0) → SceneSeen → Step → Type 0
IsOfThere P C scene (Asks request outcome) = P request
IsOfThere P C scene (AsksNoting request takes outcome noting) =
    (P request × ((answer : Result Answer Refusal) → NotesThere scene (noting answer))) ⊎ IsRemoval scene request noting
IsOfThere P C scene (Tells noting takes outcome) = NotesThere scene noting
IsOfThere P C scene (AsksLines lines outcome noting) = AllAsk P lines × ((ran : Ran) → NotesThere scene (noting ran))
IsOfThere P C scene (Counts count outcome) = C count
IsOfThere P C scene _ = Unit {0}

if-either : (P : Step → Type 0) (b : Bool) (one other : Step) → (b ≡ true → P one) → (b ≡ false → P other) → P (if b then one else other)
if-either P true one other first second = first refl
if-either P false one other first second = second refl

owner-there : (scene : SceneSeen) (owner : Owner) (file : File) → is_there scene (nodes.File owner file) ≡ true → owner_is_there scene owner ≡ true
owner-there scene owner file there = (and_parts (owner_is_there scene owner) (file_is_there scene owner file) there).0

-- ---- what is noted

refusal-notes : (scene : SceneSeen) (error : ErrorSeen) (path text shown : List ℕ) (refusal : Refusal) → owner_is_there scene error.owner ≡ true
    → NotesThere scene (noted_refusal error path text shown refusal)
refusal-notes scene error path text shown Memory there = tt
refusal-notes scene error path text shown refusal there = there

command-notes : (scene : SceneSeen) (error : ErrorSeen) (path : List ℕ) (file : File) (text : List ℕ) (fault : LineFault) → owner_is_there scene error.owner ≡ true
    → NotesThere scene (noted_command error path file text fault)
command-notes scene error path file text (Refused refusal) there = refusal-notes scene error path (command_text file text) text refusal there
command-notes scene error path file text NoCommand there = tt
command-notes scene error path file text TooLong there = tt

line-notes : (scene : SceneSeen) (event : Definition) (error : ErrorSeen) (text : List ℕ) (fault : LineFault) → owner_is_there scene error.owner ≡ true
    → NotesThere scene (noted_line error text fault)
line-notes scene event error text (Refused Memory) there = tt
line-notes scene event error text (Refused refusal) there = there
line-notes scene event error text NoCommand there = there
line-notes scene event error text TooLong there = there

answer-notes : (scene : SceneSeen) (error : ErrorSeen) (path text shown : List ℕ) (at : ℕ) → owner_is_there scene error.owner ≡ true
    → (answer : Result Answer Refusal) → NotesThere scene (noted_answer error path text shown at answer)
answer-notes scene error path text shown at there (Ok answer) = tt
answer-notes scene error path text shown at there (Err Memory) = tt
answer-notes scene error path text shown at there (Err refusal) = there

first-notes : (scene : SceneSeen) (noting : List ℕ → LineFault → Noting) → ((text : List ℕ) (fault : LineFault) → NotesThere scene (noting text fault))
    → (done : ℕ) (refused : Option LineRefused) → NotesThere scene (noted_if_first noting done refused)
first-notes scene noting notes done None = tt
first-notes scene noting notes done (Some line) = by (done == 0)
  where
    by : (first : Bool) → NotesThere scene (if first then noting line.text line.fault else Keeps)
    by true = notes line.text line.fault
    by false = tt

-- ---- how many records are asked for

few-records : (size : ℕ) → max 1 (min size 131072 / 2048) < 2 ^ 64
few-records size = let few : min size 131072 / 2048 ≤ min size 131072 = omega arith in omega (arith, few)

-- a row takes four bytes of a page at least
left-behind : (room delta size left : ℕ) → room_left room delta size ≡ Some left → left + 4 ≤ room
unfolding room_left
left-behind room delta size left = by (nat_le (event_head_size delta size + size) room) refl
  where
    head : 4 ≤ event_head_size delta size
    head = either (λ (n : ℕ). 4 ≤ n + (if nat_le size 112 then 4 else 8)) (nat_lt delta (2 ^ 27)) 0 8
        (either (λ (n : ℕ). 4 ≤ 0 + n) (nat_le size 112) 4 8 (omega arith) (omega arith))
        (either (λ (n : ℕ). 4 ≤ 8 + n) (nat_le size 112) 4 8 (omega arith) (omega arith))

    by : (fits : Bool) → nat_le (event_head_size delta size + size) room ≡ fits
        → (if fits then Some (room - (event_head_size delta size + size)) else None) ≡ Some left → left + 4 ≤ room
    by true fits is =
        let within = leb-true (event_head_size delta size + size) room fits in
        let same : room - (event_head_size delta size + size) ≡ left = cc in omega (arith, head, within, same)
    by false fits is = absurd (let no : None ≡ Some left = is in cc)

room-taken : (room time : ℕ) (row : PageRow) (left : ℕ) → room_after room time row ≡ Some left → left + 4 ≤ room
unfolding room_after room_left
room-taken room time row left = by ((row.lost == 0 && nat_le time row.time) && nat_lt (row.time - time) (2 ^ 59))
  where
    by : (fits : Bool) → (if fits then room_left room (row.time - time) (length row.bytes) else None) ≡ Some left → left + 4 ≤ room
    by true is = left-behind room (row.time - time) (length row.bytes) left is
    by false is = absurd (let no : None ≡ Some left = is in cc)

few-after : (room time : ℕ) (rows : List PageRow) → taken_after room time rows ≤ room
few-after room time [] = omega arith
few-after room time (row ∷ rows) = by (room_after room time row) refl (λ left. few-after left row.time rows)
  where
    by : (left : Option ℕ) → room_after room time row ≡ left → ((l : ℕ) → taken_after l row.time rows ≤ l)
        → option_map_or (λ (l : ℕ). suc (taken_after l row.time rows)) left 0 ≤ room
    by None is few = omega arith
    by (Some left) is few = let less = room-taken room time row left is in let more = few left in omega (arith, less, more)

few-rows : (rows : List PageRow) → taken_of rows < 2 ^ 64
few-rows [] = omega arith
few-rows (row ∷ rows) = by (room_left (4080 - length (lost_bytes row.lost)) 0 (length row.bytes)) refl
  where
    by : (left : Option ℕ) → room_left (4080 - length (lost_bytes row.lost)) 0 (length row.bytes) ≡ left
        → option_map_or (λ (l : ℕ). suc (taken_after l row.time rows)) left 0 < 2 ^ 64
    by None is = omega arith
    by (Some left) is =
        let less = left-behind (4080 - length (lost_bytes row.lost)) 0 (length row.bytes) left is in
        let more = few-after left row.time rows in omega (arith, less, more)

-- ---- what is asked for lines

injected-asks : (g : Terms) (P : Request → Type 0) → IsOfEach g P → (pid : ℕ) (event : Definition) (line : List ℕ)
    → OnlyAsks P (asked_by_line g.config.cpus pid event line)
injected-asks g P each pid event line = by (is_blank_line line) (pairs_of_line line)
  where
    by : (blank : Bool) (pairs : Option (List Pair)) → OnlyAsks P (if blank then AsksNothing else asked_by_pairs g.config.cpus pid event pairs)
    by true pairs = tt
    by false None = tt
    by false (Some pairs) = each.injected pid event pairs

too-long-asks : (P : Request → Type 0) (size : ℕ) (rest : List ℕ) → AllAsk P (too_long size rest)
too-long-asks P size rest = by (nat_lt most_kept (length rest))
  where
    by : (long : Bool) → AllAsk P (if long then record { text = rest; asking = IsTooLong; end = size } ∷ [] else [])
    by true = (tt, tt)
    by false = tt

stream-asks : (P : Request → Type 0) (asking : List ℕ → Asking) → ((line : List ℕ) → OnlyAsks P (asking line)) → (kept size start : ℕ) (pieces : List (List ℕ))
    → AllAsk P (stream_lines asking kept size start pieces)
unfolding stream_lines
stream-asks P asking asks kept size start [] = tt
stream-asks P asking asks kept size start (rest ∷ []) = too-long-asks P size rest
stream-asks P asking asks kept size start (line ∷ next ∷ more) =
    (asks line, stream-asks P asking asks kept size (start + length line + 1) (next ∷ more))

commands-ask : (P : Request → Type 0) (asking : Bool → List ℕ → Asking) → ((append : Bool) (line : List ℕ) → OnlyAsks P (asking append line))
    → (append : Bool) (size start : ℕ) (pieces : List (List ℕ)) → AllAsk P (command_lines asking append size start pieces)
unfolding command_lines
commands-ask P asking asks append size start [] = tt
commands-ask P asking asks append size start (line ∷ []) = by (is_blank_line line)
  where
    by : (blank : Bool) → AllAsk P (if blank then [] else one_command asking append size line)
    by true = tt
    by false = (asks append line, tt)
commands-ask P asking asks append size start (line ∷ next ∷ more) =
    by (is_blank_line line) (commands-ask P asking asks append size (start + length line + 1) (next ∷ more))
    (commands-ask P asking asks true size (start + length line + 1) (next ∷ more))
  where
    by : (blank : Bool) → AllAsk P (command_lines asking append size (start + length line + 1) (next ∷ more))
        → AllAsk P (command_lines asking true size (start + length line + 1) (next ∷ more))
        → AllAsk P (if blank then command_lines asking append size (start + length line + 1) (next ∷ more)
        else record { text = line; asking = asking append line; end = start + length line + 1 }
        ∷ command_lines asking true size (start + length line + 1) (next ∷ more))
    by true skipped done = skipped
    by false skipped done = (asks append line, done)

lines-ask : (P : Request → Type 0) (asking : Bool → List ℕ → Asking) → ((append : Bool) (line : List ℕ) → OnlyAsks P (asking append line))
    → (file : File) (append : Bool) (bytes : List ℕ) → AllAsk P (lines_of asking file append bytes)
lines-ask P asking asks file append bytes = by (takes_lines file && has_newline (without_newline bytes))
  where
    by : (several : Bool) → AllAsk P (if several then command_lines asking append (length bytes) 0 (pieces_of bytes)
        else one_command asking append (length bytes) (without_newline bytes))
    by true = commands-ask P asking asks append (length bytes) 0 (pieces_of bytes)
    by false = (asks append (without_newline bytes), tt)

-- ---- reads

module _ (P : Request → Type 0) (C : Counted → Type 0) (g : Terms) (s : Service) (each : IsOfEach g P) where
  abbrev Is : Step → Type 0
  Is step = IsOfThere P C (scene_of g s) step

  text-is : (read : Parked) (offset : ℕ) (file : OpenSeen) → Is (read_text (scene_of g s) read.handle offset read.size file s.files)
  text-is read offset file =
      if-either Is (makes_text offset file) (read_anew (scene_of g s) read.handle offset read.size (node_of file) s.files)
      (goes_on_in read.handle offset read.size file s.files) (λ is. each.whole (scene_of g s) (node_of file)) (λ is. tt)

  given-is : (handle offset size : ℕ) (shown : Option (List ℕ)) → Is (given_tool handle offset size s.files shown)
  given-is handle offset size None = tt
  given-is handle offset size (Some text) = tt

  shown-is : (read : Parked) (offset : ℕ) (file : OpenSeen) (shown : Option (List ℕ)) → Is (read_shown read.handle offset read.size file s.files shown)
  shown-is read offset file shown =
      if-either Is (makes_text offset file) (given_tool read.handle offset read.size s.files shown) (goes_on_in read.handle offset read.size file s.files)
      (λ is. given-is read.handle offset read.size shown) (λ is. tt)

  counted-is : (handle size : ℕ) (otherwise : Step) (text : Option (List ℕ)) → Is otherwise → Is (given_counted handle size s.files otherwise text)
  counted-is handle size otherwise None holds = holds
  counted-is handle size otherwise (Some text) holds = tt

  unless-is : (read : Parked) (cached : Bool) (offset : ℕ) (file : OpenSeen) (otherwise : Step) → Is otherwise
      → Is (unless_counted s read cached offset file otherwise)
  unless-is read cached offset file otherwise holds =
      if-either Is (cached && offset == 0) (given_counted read.handle read.size s.files otherwise (text_counted file s.counted)) otherwise
      (λ is. counted-is read.handle read.size otherwise (text_counted file s.counted) holds) (λ is. holds)

  dry-is : (read : Parked) (flags : ℕ) (ended : Bool) → Is (read_dry read flags ended s.files)
  dry-is read flags true = tt
  dry-is read flags false =
      if-either Is (is_nonblocking flags) (failed EAGAIN (with_dry_read false read.handle s.files)) (Parks read) (λ is. tt) (λ is. tt)

  new-is : (read : Parked) (flags : ℕ) (file : OpenSeen) → Is (read_new g s read flags file)
  new-is read flags file =
      if-either Is (is_dry g s file.owner file.file) (read_dry read flags (ends g s file) s.files)
      (read_records (scene_of g s) read.handle read.size (node_of file) s.files) (λ is. dry-is read flags (ends g s file))
      (λ is. each.some (scene_of g s) (node_of file) (records_for read.size) (few-records read.size))

  pipe-is : (read : Parked) (flags : ℕ) (file : OpenSeen) → Is (read_pipe g s read flags file)
  pipe-is read flags file =
      if-either Is (is_used_up file) (read_new g s read flags file) (Plain (given_records read.handle read.size (unwrap_or file.text []) s.files)) (λ is. new-is read flags file) (λ is. tt)

  directly-is : (read : Parked) (cached : Bool) (flags : ℕ) (file : OpenSeen) → Is (read_pipe_directly g s read cached flags file)
  directly-is read true flags file = tt
  directly-is read false flags file = pipe-is read flags file

  page-is : (read : Parked) (file : OpenSeen) → Is (read_page g s read file)
  page-is read file =
      each.some (scene_of g s) (pipe_node file) (next_count g s file.owner (file_index file.file)) (few-rows (next_rows g s file.owner (file_index file.file)))

  no-page-is : (read : Parked) (file : OpenSeen) → Is (read_no_page read file s.files)
  no-page-is read file =
      if-either Is file.polls.told_ready (taking (replies.Data (part_of 0 read.size (page_of []))) (with_dry_read false read.handle s.files))
      (failed EAGAIN (with_dry_read false read.handle s.files)) (λ is. tt) (λ is. tt)

  whole-page-is : (read : Parked) (file : OpenSeen) → Is (read_whole_page g s read file)
  whole-page-is read file =
      if-either Is (nat_lt read.size 4096) (failed EINVAL s.files) (if is_dry g s file.owner file.file then read_no_page read file s.files else read_page g s read file)
      (λ is. tt)
      (λ is. if-either Is (is_dry g s file.owner file.file) (read_no_page read file s.files) (read_page g s read file)
      (λ is. no-page-is read file) (λ is. page-is read file))

  new-page-is : (read : Parked) (flags : ℕ) (file : OpenSeen) → Is (read_new_page g s read flags file)
  new-page-is read flags file =
      if-either Is (is_dry g s file.owner file.file) (read_dry read flags (ends g s file) s.files) (read_page g s read file)
      (λ is. dry-is read flags (ends g s file)) (λ is. page-is read file)

  pages-is : (read : Parked) (flags : ℕ) (file : OpenSeen) → Is (read_pages g s read flags file)
  pages-is read flags file =
      if-either Is (is_used_up file) (read_new_page g s read flags file) (Plain (given_records read.handle read.size (unwrap_or file.text []) s.files))
      (λ is. new-page-is read flags file) (λ is. tt)

  raw-is : (read : Parked) (cached : Bool) (flags : ℕ) (file : OpenSeen) → Is (read_raw g s read cached flags file)
  raw-is read true flags file =
      if-either Is (is_used_up file) (read_whole_page g s read file) (failed EINVAL s.files) (λ is. whole-page-is read file) (λ is. tt)
  raw-is read false flags file = pages-is read flags file

  read-kind-is : (read : Parked) (offset : ℕ) (cached : Bool) (flags : ℕ) (file : OpenSeen) (kind : FileKind) → Is (read_kind g s read offset cached flags file kind)
  read-kind-is read offset cached flags file kinds.Pipe = directly-is read cached flags file
  read-kind-is read offset cached flags file kinds.RawPipe = raw-is read cached flags file
  read-kind-is read offset cached flags file kinds.Inject = tt
  read-kind-is read offset cached flags file kinds.Tool =
      unless-is read cached offset file (read_tool g s read.handle offset read.size file)
      (shown-is read offset file (tool_text g.config s.past file.owner file.file))
  read-kind-is read offset cached flags file kinds.ErrorLog =
      unless-is read cached offset file (read_log s read.handle offset read.size file) (shown-is read offset file (Some (log_text file.owner s.errors)))
  read-kind-is read offset cached flags file kinds.Text =
      unless-is read cached offset file (read_text (scene_of g s) read.handle offset read.size file s.files) (text-is read offset file)
  read-kind-is read offset cached flags file kinds.Trace =
      unless-is read cached offset file (read_text (scene_of g s) read.handle offset read.size file s.files) (text-is read offset file)

  read-is : (read : Parked) (offset : ℕ) (cached : Bool) (flags : ℕ) (found : Option OpenSeen) → Is (read_file g s read offset cached flags found)
  read-is read offset cached flags None = tt
  read-is read offset cached flags (Some file) =
      if-either Is (is_there (scene_of g s) (node_of file)) (read_kind g s read offset cached flags file (kind_of_file file.file)) (failed ENOENT s.files)
      (λ is. read-kind-is read offset cached flags file (kind_of_file file.file)) (λ is. tt)

  pub parked-is : (read : Parked) → Is (step_of_parked g s read)
  parked-is read =
      if-either Is read.interrupted (failed EINTR (with_dry_read false read.handle s.files)) (read_file g s read 0 false 0 (file_at read.handle s.files))
      (λ is. tt) (λ is. read-is read 0 false 0 (file_at read.handle s.files))

  -- ---- writes

  write-text-is : (handle : ℕ) (file : OpenSeen) (bytes : List ℕ) → owner_is_there (scene_of g s) file.owner ≡ true → Is (write_text g s handle file bytes)
  write-text-is handle file bytes there = (
    lines-ask P (line_command (scene_of g s) (node_of file) file.file) (λ append line. each.wrote (scene_of g s) (node_of file) append (command_text file.file line)) file.file (not file.starts_over) bytes,
    λ ran. first-notes (scene_of g s) (noted_command (begun_now g s file) (path_of (scene_of g s) (node_of file)) file.file)
        (λ text fault. command-notes (scene_of g s) (begun_now g s file) (path_of (scene_of g s) (node_of file)) file.file text fault there) ran.done ran.refused,
  )

  tool-is : (handle : ℕ) (file : OpenSeen) (bytes : List ℕ) (comes : ToolWrite) → owner_is_there (scene_of g s) file.owner ≡ true
      → Is (write_tool g s handle file bytes comes)
  tool-is handle file bytes writes.Missing there = tt
  tool-is handle file bytes writes.Wrong there = there
  tool-is handle file bytes writes.Same there = tt
  tool-is handle file bytes (writes.Switch switch on size) there =
      inl (each.wrote (scene_of g s) (nodes.File file.owner switch) false (switch_text on), answer-notes (scene_of g s) (begun_now g s file) (path_of (scene_of g s) (nodes.File file.owner switch)) (switch_text on) bytes (wrong_offset bytes) there)

  other-is : (handle : ℕ) (file : OpenSeen) (bytes : List ℕ) (kind : FileKind) → owner_is_there (scene_of g s) file.owner ≡ true
      → Is (write_other g s handle file bytes kind)
  other-is handle file bytes kinds.Tool there =
      tool-is handle file bytes (tool_write g.config (scene_of g s) file.owner file.file bytes) there
  other-is handle file bytes kinds.ErrorLog there = tt
  other-is handle file bytes kinds.Text there = write-text-is handle file bytes there
  other-is handle file bytes kinds.Trace there = write-text-is handle file bytes there
  other-is handle file bytes kinds.Pipe there = write-text-is handle file bytes there
  other-is handle file bytes kinds.RawPipe there = write-text-is handle file bytes there
  other-is handle file bytes kinds.Inject there = write-text-is handle file bytes there

  injection-notes : (file : OpenSeen) (event : Definition) → owner_is_there (scene_of g s) file.owner ≡ true
      → (ran : Ran) → NotesThere (scene_of g s) (noted_first_injection g s file ran)
  injection-notes file event there ran =
      first-notes (scene_of g s) (noted_line (begun_now g (record s { past = ran.past }) file))
      (λ text fault. line-notes (scene_of g s) event (begun_now g (record s { past = ran.past }) file) text fault there) ran.done ran.refused

  inject-is : (handle lock_owner pid : ℕ) (bytes : List ℕ) (file : OpenSeen) (event : Option Definition) → owner_is_there (scene_of g s) file.owner ≡ true
      → Is (inject g s handle lock_owner pid bytes file event)
  inject-is handle lock_owner pid bytes file None there = tt
  inject-is handle lock_owner pid bytes file (Some event) there =
      if-either Is (goes_on file.stream bytes) (inject_stream g s handle lock_owner pid bytes file event) (inject_at_once g s pid bytes file event)
      (λ is. (
        stream-asks P (asked_by_line g.config.cpus pid event) (injected-asks g P each pid event) (length file.stream.rest) (length bytes) 0
            (pieces_of (file.stream.rest ++ bytes)),
        λ ran. injection-notes file event there ran,
      )) (λ is. ((injected-asks g P each pid event bytes, tt), λ ran. injection-notes file event there ran))

  write-kind-is : (handle lock_owner pid : ℕ) (bytes : List ℕ) (own : OpenSeen) (file : File) → owner_is_there (scene_of g s) own.owner ≡ true
      → Is (write_kind g s handle lock_owner pid bytes own file)
  write-kind-is handle lock_owner pid bytes own (files.Inject event) there =
      inject-is handle lock_owner pid bytes own (slice_get (declared_events s.past) event) there
  write-kind-is handle lock_owner pid bytes own _ there = other-is handle own bytes (kind_of_file own.file) there

  write-is : (handle lock_owner pid : ℕ) (bytes : List ℕ) (found : Option OpenSeen) → Is (write_file g s handle lock_owner pid bytes found)
  write-is handle lock_owner pid bytes None = tt
  write-is handle lock_owner pid bytes (Some own) =
      if-either Is (is_there (scene_of g s) (node_of own)) (write_kind g s handle lock_owner pid bytes own own.file) (failed ENOENT s.files)
      (λ is. write-kind-is handle lock_owner pid bytes own own.file (owner-there (scene_of g s) own.owner own.file is)) (λ is. tt)

  -- ---- lines that end

  event-there : (own : OpenSeen) (file : File) (event : Definition) → event_of_file g s own file ≡ Some event → owner_is_there (scene_of g s) own.owner ≡ true
  event-there own (files.Inject index) event is = by (is_there (scene_of g s) (node_of own)) refl is
    where
      by : (there : Bool) → is_there (scene_of g s) (node_of own) ≡ there → (if there then slice_get (declared_events s.past) index else None) ≡ Some event
          → owner_is_there (scene_of g s) own.owner ≡ true
      by true at e = owner-there (scene_of g s) own.owner own.file at
      by false at e = absurd (let no : None ≡ Some event = e in cc)
  event-there own _ event is = absurd (let no : None ≡ Some event = is in cc)

  end-is : (file : OpenSeen) (outcome : Option LineRefused → Outcome) (event : Definition) → owner_is_there (scene_of g s) file.owner ≡ true
      → Is (end_line g s file outcome event)
  end-is file outcome event there =
      ((injected-asks g P each file.stream.pid event file.stream.rest, tt), λ ran. injection-notes file event there ran)

  flush-line-is : (handle : ℕ) (file : OpenSeen) (event : Option Definition)
      → ((is : Definition) → event ≡ Some is → owner_is_there (scene_of g s) file.owner ≡ true) → Is (flush_line g s handle file event)
  flush-line-is handle file None there = tt
  flush-line-is handle file (Some event) there = end-is file (flushed handle s.files) event (there event refl)

  flush-is : (handle lock_owner : ℕ) (found : Option OpenSeen) → Is (flush_file g s handle lock_owner found)
  flush-is handle lock_owner None = tt
  flush-is handle lock_owner (Some file) =
      if-either Is (has_rest file && file.stream.lock_owner == lock_owner) (flush_line g s handle file (event_of_file g s file file.file)) (plain replies.Done s.files)
      (λ is. flush-line-is handle file (event_of_file g s file file.file) (event-there file file.file)) (λ is. tt)

  release-line-is : (handle : ℕ) (file : OpenSeen) (event : Option Definition)
      → ((is : Definition) → event ≡ Some is → owner_is_there (scene_of g s) file.owner ≡ true) → Is (release_line g s handle file event)
  release-line-is handle file None there = tt
  release-line-is handle file (Some event) there = end-is file (released handle s.files) event (there event refl)

  release-is : (handle : ℕ) (found : Option OpenSeen) → Is (release g s handle found)
  release-is handle None = tt
  release-is handle (Some file) =
      if-either Is (has_rest file) (release_line g s handle file (event_of_file g s file file.file)) (plain replies.Done (without_file handle s.files))
      (λ is. release-line-is handle file (event_of_file g s file file.file) (event-there file file.file)) (λ is. tt)

  -- ---- opening

  known-there : (target : Option Node) (node : Node) → known (scene_of g s) target ≡ Some node → is_there (scene_of g s) node ≡ true
  known-there None node is = absurd (let no : None ≡ Some node = is in cc)
  known-there (Some other) node is = by (is_there (scene_of g s) other) refl is
    where
      by : (there : Bool) → is_there (scene_of g s) other ≡ there → (if there then Some other else None) ≡ Some node → is_there (scene_of g s) node ≡ true
      by true at e = let same : other ≡ node = cc in rw (sym same) at
      by false at e = absurd (let no : None ≡ Some node = e in cc)

  emptied-is : (now flags : ℕ) (file : OpenSeen) (asked : Emptying) → owner_is_there (scene_of g s) file.owner ≡ true
      → Is (opened_unless_emptied (scene_of g s) now flags file s.files asked)
  emptied-is now flags file AsksNone there =
      if-either Is (clears file.file flags) (Tells (Forgets file.owner) true (handed_out file s.files)) (Takes (handed_out file s.files)) (λ is. tt) (λ is. tt)
  emptied-is now flags file (AsksToWrite asked text) there =
      inl (each.wrote (scene_of g s) (nodes.File file.owner asked) false text, answer-notes (scene_of g s) (begun file.owner now (path_of (scene_of g s) (node_of file))) (path_of (scene_of g s) (nodes.File file.owner asked)) text [] 0 there)

  open-is : (now flags : ℕ) (target : Option Node) → ((node : Node) → target ≡ Some node → is_there (scene_of g s) node ≡ true)
      → Is (opened (scene_of g s) now flags target s.files)
  open-is now flags None there = tt
  open-is now flags (Some (nodes.Folder owner folder)) there = tt
  open-is now flags (Some (nodes.File owner file)) there =
      if-either Is (may (access_of_file file) (wants_read flags) (wants_write flags))
      (opened_file (scene_of g s) now flags (just_opened owner file (empties flags)) s.files) (failed EACCES s.files)
      (λ is. emptied-is now flags (just_opened owner file (empties flags)) (emptying_of file (empties flags))
      (owner-there (scene_of g s) owner file (there (nodes.File owner file) refl))) (λ is. tt)

  -- ---- look-ups

  abbrev CountsThere : Type 0
  CountsThere = (owner : Owner) (file : File) → is_there (scene_of g s) (nodes.File owner file) ≡ true → C (counted_now g s owner file)

  recent-is : CountsThere → (telling : Telling) (owner : Owner) (file : File) (count : Option Counted) → is_there (scene_of g s) (nodes.File owner file) ≡ true
      → Is (size_of_text g s telling owner file count)
  recent-is counts telling owner file count there =
      if-either Is (is_recent (length s.past) count) (plain (telling (size_counted count)) s.files) (count_text g s telling owner file)
      (λ is. tt) (λ is. counts owner file there)

  size-is : CountsThere → (telling : Telling) (pages : ℕ) (owner : Owner) (file : File) (kind : FileKind)
      → is_there (scene_of g s) (nodes.File owner file) ≡ true → Is (size_by_kind g s telling pages owner file kind)
  size-is counts telling pages owner file kinds.Pipe there = tt
  size-is counts telling pages owner file kinds.RawPipe there = tt
  size-is counts telling pages owner file kinds.Inject there = tt
  size-is counts telling pages owner file kinds.ErrorLog there = counts owner file there
  size-is counts telling pages owner file kinds.Tool there = recent-is counts telling owner file (count_of (number_of (nodes.File owner file)) s.counted) there
  size-is counts telling pages owner file kinds.Text there = recent-is counts telling owner file (count_of (number_of (nodes.File owner file)) s.counted) there
  size-is counts telling pages owner file kinds.Trace there = recent-is counts telling owner file (count_of (number_of (nodes.File owner file)) s.counted) there

  tell-is : CountsThere → (telling : Telling) (pages : ℕ) (node : Node) → is_there (scene_of g s) node ≡ true → Is (tell_size g s telling pages node)
  tell-is counts telling pages (nodes.Folder owner folder) there = tt
  tell-is counts telling pages (nodes.File owner file) there = size-is counts telling pages owner file (kind_of_file file) there

  entry-is : CountsThere → (unique : ℕ) (found : Option Node) → ((node : Node) → found ≡ Some node → is_there (scene_of g s) node ≡ true)
      → Is (tell_entry g s unique found)
  entry-is counts unique None there = tt
  entry-is counts unique (Some node) there =
      tell-is counts (λ size. replies.Entry (entry_number unique node) (attributes_of g node size)) (2 ^ 40) node (there node refl)

  found-is : (name : List ℕ) (folder : Option Node) (node : Node) → found_in (scene_of g s) name folder ≡ Some node → is_there (scene_of g s) node ≡ true
  found-is name None node is = absurd (let no : None ≡ Some node = is in cc)
  found-is name (Some folder) node is = found_there (scene_of g s) folder node name is

  told-is : CountsThere → (found : Option Node) → ((node : Node) → found ≡ Some node → is_there (scene_of g s) node ≡ true) → Is (tell_attributes g s found)
  told-is counts None there = tt
  told-is counts (Some node) there = tell-is counts (λ size. replies.Attributes (attributes_of g node size)) 0 node (there node refl)

  attributes-is : CountsThere → (target : Option Node) → Is (get_attributes g s target)
  attributes-is counts target = told-is counts (known (scene_of g s) target) (known-there target)

  set-is : CountsThere → (target : Option Node) (valid size : ℕ) → Is (set_attributes g s target valid size)
  set-is counts target valid size =
      if-either Is (sets_size valid size) (failed EINVAL s.files) (get_attributes g s target) (λ is. tt) (λ is. attributes-is counts target)

  -- ---- instances

  made-is : (name : List ℕ) (folder : Option Node) → Is (make_folder g (scene_of g s) name s.files folder)
  made-is name None = tt
  made-is name (Some (nodes.File owner file)) = tt
  made-is name (Some (nodes.Folder (Made serial) folder)) = tt
  made-is name (Some (nodes.Folder Top folders.Root)) = tt
  made-is name (Some (nodes.Folder Top folders.Options)) = tt
  made-is name (Some (nodes.Folder Top folders.PerCpu)) = tt
  made-is name (Some (nodes.Folder Top folders.Events)) = tt
  made-is name (Some (nodes.Folder Top folders.Synthetic)) = tt
  made-is name (Some (nodes.Folder Top folders.Ftrace)) = tt
  made-is name (Some (nodes.Folder Top folders.FtracePrint)) = tt
  made-is name (Some (nodes.Folder Top (folders.Cpu cpu))) = tt
  made-is name (Some (nodes.Folder Top (folders.Event event))) = tt
  made-is name (Some (nodes.Folder Top folders.Instances)) =
      if-either Is (nat_lt (scene_of g s).made most_made)
      (Asks (MakeInstance (Some name)) (made_folder g (scene_of g s).made s.files)) (failed ENOSPC s.files)
      (λ is. each.made name) (λ is. tt)

  removed-is : (name : List ℕ) (folder : Option Node) → Is (remove_folder (scene_of g s) name s.files folder)
  removed-is name None = tt
  removed-is name (Some (nodes.File owner file)) = tt
  removed-is name (Some (nodes.Folder (Made serial) folder)) = tt
  removed-is name (Some (nodes.Folder Top folders.Root)) = tt
  removed-is name (Some (nodes.Folder Top folders.Options)) = tt
  removed-is name (Some (nodes.Folder Top folders.PerCpu)) = tt
  removed-is name (Some (nodes.Folder Top folders.Events)) = tt
  removed-is name (Some (nodes.Folder Top folders.Synthetic)) = tt
  removed-is name (Some (nodes.Folder Top folders.Ftrace)) = tt
  removed-is name (Some (nodes.Folder Top folders.FtracePrint)) = tt
  removed-is name (Some (nodes.Folder Top (folders.Cpu cpu))) = tt
  removed-is name (Some (nodes.Folder Top (folders.Event event))) = tt
  removed-is name (Some (nodes.Folder Top folders.Instances)) = inr (record { name = name; is = refl; notes = refl })

  poll-is : (handle wakeup flags : ℕ) (found : Option OpenSeen) → Is (poll_file g s handle wakeup flags found)
  poll-is handle wakeup flags None = tt
  poll-is handle wakeup flags (Some file) = by (kind_of_file file.file)
    where
      by : (kind : FileKind) → Is (poll_kind g s handle wakeup flags file kind)
      by kinds.Pipe = tt
      by kinds.RawPipe = tt
      by kinds.Text = tt
      by kinds.Trace = tt
      by kinds.Tool = tt
      by kinds.ErrorLog = tt
      by kinds.Inject = tt

  -- ---- all

  pub step-is : CountsThere → (unique pid : ℕ) (target : Option Node) (operation : Operation) → Is (step_of g s unique pid target operation)
  step-is counts unique pid target (operations.Lookup name) = entry-is counts unique (found_in (scene_of g s) name target) (found-is name target)
  step-is counts unique pid target operations.GetAttr = attributes-is counts target
  step-is counts unique pid target (operations.SetAttr valid size) = set-is counts target valid size
  step-is counts unique pid target (operations.MkDir name) = made-is name (known (scene_of g s) target)
  step-is counts unique pid target (operations.RmDir name) = removed-is name (known (scene_of g s) target)
  step-is counts unique pid target (operations.Open flags) = open-is (now_of s.past) flags (known (scene_of g s) target) (known-there target)
  step-is counts unique pid target (operations.Read handle offset size read_flags flags) =
      read-is (read_of_pipe unique handle size) offset (is_cached read_flags) flags (file_at handle s.files)
  step-is counts unique pid target (operations.Write handle offset lock_owner bytes) = write-is handle lock_owner pid bytes (file_at handle s.files)
  step-is counts unique pid target (operations.Flush handle lock_owner) = flush-is handle lock_owner (file_at handle s.files)
  step-is counts unique pid target (operations.Release handle) = release-is handle (file_at handle s.files)
  step-is counts unique pid target (operations.Poll handle wakeup flags events) = poll-is handle wakeup flags (file_at handle s.files)
  step-is counts unique pid target _ = tt
