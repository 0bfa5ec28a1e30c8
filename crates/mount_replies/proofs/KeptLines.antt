-- What open files keep of what was written to them: no newline, and nothing where no newline was ever written.
use Rattle.std.proofs.Common.{◌≡◌, inl, inr, ℕ, ◌^◌, ◌==◌, zero, suc, Bool, true, false, not, ◌&&◌, ◌||◌, if◌then◌else◌, cond, nat_lt, List, [], ◌∷◌, ◌++◌, length, set, Option, Some, None, option_map, Result, Ok, Err, refl, sym, ap, subst, ◌∙◌, slice_get}
use Rattle.std.proofs.Math.Dec.{eqb-suc-zero}
use Rattle.std.proofs.lemmas.Bool.{false≢true}
use Rattle.std.specs.List.{list_any, onto_first}
use Rattle.fuse_wire.specs.declared.reply.Reply.{Reply}
use Rattle.fuse_wire.specs.declared.reply.Reply.TheVariants as replies
use Rattle.fuse_wire.specs.declared.request.Operation.{Operation}
use Rattle.fuse_wire.specs.declared.request.Operation.TheVariants as operations
use Rattle.trace_command.specs.declared.command.Reply.{Reply as Answer}
use Rattle.trace_command.specs.declared.refusal.Refusal.{Refusal}
use Rattle.trace_format.specs.Definitions.{Definition}
use Rattle.tracer_specification.specs.Settings.{declared_events, now_of}
use Rattle.error_log.specs.Logs.{log_text}
use Rattle.mount_tree.specs.Children.{is_there}
use Rattle.file_list.specs.FileKinds.{access_of_file, kind_of_file}
use Rattle.file_list.specs.FileTable.{file_index}
use Rattle.mount_tree.specs.Nodes.{number_of}
use Rattle.mount_tree.specs.Scenes.{most_made}
use Rattle.file_list.specs.declared.file.File.{File}
use Rattle.file_list.specs.declared.file.File.TheVariants as files
use Rattle.file_list.specs.declared.file.FileKind.{FileKind}
use Rattle.file_list.specs.declared.file.FileKind.TheVariants as kinds
use Rattle.file_list.specs.declared.folder.Folder.TheVariants as folders
use Rattle.mount_tree.specs.declared.node.Node.{Node}
use Rattle.mount_tree.specs.declared.node.Node.TheVariants as nodes
use Rattle.mount_tree.specs.declared.node.Owner.{Owner}
use Rattle.mount_tree.specs.declared.node.Owner.TheVariants.{Top}
use Rattle.mount_stub_files.specs.ToolTexts.{tool_text}
use Rattle.mount_stub_files.specs.ToolWrites.{tool_write}
use Rattle.mount_stub_files.specs.declared.write.ToolWrite.{ToolWrite}
use Rattle.mount_stub_files.specs.declared.write.ToolWrite.TheVariants as writes
use Rattle.mount_replies.proofs.FileLemmas.{none-more, none-set}
use Rattle.mount_replies.proofs.KeptTexts.{either}
use Rattle.mount_replies.specs.FileWrites.{event_of_file, flush_file, flush_line, has_rest, inject, release, release_line, switched, write_file, write_kind, write_other, write_tool}
use Rattle.mount_replies.specs.Lines.{flushed, goes_on, has_newline, injected, injected_at_once, is_memory, is_newline, last_piece, pieces_of, released, stream_after, written}
use Rattle.mount_replies.proofs.TurnLemmas.{turns-keep}
use Rattle.mount_replies.specs.Calls.{Called, Exchanged, IsTurned, Shows, Turn}
use Rattle.mount_replies.specs.Mounted.{AreServed, Does, IsExchanged, Right, TellsOwed, Unframed, Wrong}
use Rattle.mount_replies.specs.Owed.{Owed, ReplyAt, WakeupAt, owed, step_of_parked}
use Rattle.mount_replies.specs.PastLaws.{just_mounted}
use Rattle.mount_replies.specs.Pipes.{ends, has_nothing, is_dry, is_used_up, would_wait}
use Rattle.mount_replies.specs.RawPages.{next_page}
use Rattle.mount_replies.specs.Served.{AsksNone, AsksToWrite, Emptying, clears, emptied_first, emptying_of, given_counted, given_page, given_text, given_tool, handed_out, is_cached, is_nonblocking, made_folder, make_folder, makes_text, opened, opened_unless_emptied, poll_file, poll_kind, read_dry, read_file, read_kind, read_log, read_new, read_no_page, read_page, read_pipe, read_pipe_directly, read_raw, read_shown, read_text, read_tool, remove_folder, removed_folder, step_of, taken_records, text_counted, unless_counted, wants_wakeup, with_going_on, with_wanted_poll}
use Rattle.mount_replies.specs.ServedErrors.{KeepsLine, OpenFilesKeepLines}
use Rattle.mount_replies.specs.Services.{OpenSeen, Service, Terms, after_reading, armed, count_of, drop_rest, file_at, free_handle, is_read_out, just_opened, node_of, polled_by, read_of_pipe, scene_of, with_change, with_dry_read, with_file, with_poll, with_reading, with_records, with_stream, with_told_ready, with_write, without_file, without_read, without_rest, without_wakeup}
use Rattle.mount_replies.specs.Sizes.{Telling, entry_number, is_recent, set_attributes, size_by_kind, size_of_text, tell_attributes, tell_entry, tell_size}
use Rattle.mount_replies.specs.ShownTexts.{shown_step}
use Rattle.mount_replies.specs.Steps.{Asks, AsksLines, AsksNoting, Counts, Interrupts, LineRefused, Outcome, Parks, Plain, Ran, Step, Takes, Tells}
use Rattle.mount_replies.specs.Told.{attributes_of, empties, found_in, known, may, sets_size, wants_read, wants_write}
use Rattle.mount_replies.specs.declared.shown.ShownText.{ShownText}
use Rattle.mount_replies.specs.declared.counted.Counted.{Counted}
use Rattle.mount_replies.specs.declared.parked.Parked.{Parked}
use Rattle.mount_replies.specs.declared.stream.Stream.{Stream}

-- ---- open files

-- an open file keeps a line that has ended, or something of no stream
abbrev keeps_more : Option OpenSeen → Bool
keeps_more None = false
keeps_more (Some file) = has_newline file.stream.rest || (not file.stream.is_stream && has_rest file)

abbrev NoneKeepsMore : List (Option OpenSeen) → Type 0
NoneKeepsMore files = list_any keeps_more files ≡ false

pub neither : (a b : Bool) → (a || b) ≡ false → (a ≡ false) × (b ≡ false)
neither true b h = absurd (false≢true (sym h))
neither false b h = (refl, h)

never : (a : Bool) → (a && false) ≡ false
never true = refl
never false = refl

at-handle : (files : List (Option OpenSeen)) (handle : ℕ) → NoneKeepsMore files → keeps_more (file_at handle files) ≡ false
at-handle [] zero none = refl
at-handle [] (suc handle) none = refl
at-handle (None ∷ files) zero none = refl
at-handle (Some file ∷ files) zero none = (neither (keeps_more (Some file)) (list_any keeps_more files) none).0
at-handle (first ∷ files) (suc handle) none = at-handle files handle (neither (keeps_more first) (list_any keeps_more files) none).1

none-there : (text : List ℕ) → not (length text == 0) ≡ false → text ≡ []
none-there [] h = refl
none-there (b ∷ bs) h = absurd (false≢true (sym h ∙ ap not (eqb-suc-zero (length bs))))

kept-line : (files : List (Option OpenSeen)) (handle : ℕ) (file : OpenSeen) → NoneKeepsMore files → file_at handle files ≡ Some file → KeepsLine file
kept-line files handle file none opened =
    let both = neither (has_newline file.stream.rest) (not file.stream.is_stream && has_rest file) (ap keeps_more (sym opened) ∙ at-handle files handle none) in
    record { unended = both.0; streamed = λ is. none-there file.stream.rest (by file.stream.is_stream is both.1) }
  where
    by : (t : Bool) → t ≡ false → (not t && has_rest file) ≡ false → has_rest file ≡ false
    by true is h = absurd (false≢true (sym is))
    by false is h = h

-- ---- changes

change-none : (change : OpenSeen → OpenSeen) → ((file : OpenSeen) → keeps_more (Some file) ≡ false → keeps_more (Some (change file)) ≡ false) → (files : List (Option OpenSeen)) (handle : ℕ)
    → NoneKeepsMore files → NoneKeepsMore (with_change change handle files)
change-none change leaves files handle none = none-set keeps_more files handle (option_map change (file_at handle files)) none (by (file_at handle files) (at-handle files handle none))
  where
    by : (slot : Option OpenSeen) → keeps_more slot ≡ false → keeps_more (option_map change slot) ≡ false
    by None h = refl
    by (Some file) h = leaves file h

-- a file that was just opened keeps nothing
opened-none : (owner : Owner) (file : File) (over : Bool) (files : List (Option OpenSeen)) (handle : ℕ) → NoneKeepsMore files
    → NoneKeepsMore (with_file handle (just_opened owner file over) files)
opened-none owner file over files handle none = by (nat_lt handle (length files))
  where
    new : Option OpenSeen
    new = Some (just_opened owner file over)

    by : (t : Bool) → list_any keeps_more (if t then set files handle new else files ++ new ∷ []) ≡ false
    by true = none-set keeps_more files handle new none refl
    by false = none-more keeps_more files new none refl

reading-none : (offset size : ℕ) (text : List ℕ) (files : List (Option OpenSeen)) (handle : ℕ) → NoneKeepsMore files → NoneKeepsMore (with_reading offset size text handle files)
reading-none offset size text files handle none = change-none (after_reading offset size text) (λ file h. by file (is_read_out offset size text) h) files handle none
  where
    by : (file : OpenSeen) (t : Bool) → keeps_more (Some file) ≡ false
        → keeps_more (Some (if t then record file { text = None; ended = Some (length text) } else record file { text = Some text; ended = None })) ≡ false
    by file true h = h
    by file false h = h

write-none : (files : List (Option OpenSeen)) (handle : ℕ) → NoneKeepsMore files → NoneKeepsMore (with_write handle files)
write-none files handle none = change-none (λ (file : OpenSeen). record file { starts_over = false }) (λ file h. h) files handle none

records-none : (text : List ℕ) (files : List (Option OpenSeen)) (handle : ℕ) → NoneKeepsMore files → NoneKeepsMore (with_records text handle files)
records-none text files handle none =
    change-none (λ (file : OpenSeen). record file { text = Some text; has_read = true; polls = armed false file.polls }) (λ file h. h) files handle none

dry-none : (ended : Bool) (files : List (Option OpenSeen)) (handle : ℕ) → NoneKeepsMore files → NoneKeepsMore (with_dry_read ended handle files)
dry-none ended files handle none = change-none (λ (file : OpenSeen). record file { polls = armed ended file.polls }) (λ file h. h) files handle none

poll-none : (wakeup : ℕ) (waits : Bool) (files : List (Option OpenSeen)) (handle : ℕ) → NoneKeepsMore files → NoneKeepsMore (with_poll wakeup waits handle files)
poll-none wakeup waits files handle none = change-none (λ (file : OpenSeen). record file { polls = polled_by wakeup waits file.polls }) (λ file h. h) files handle none

ready-none : (ready : Bool) (files : List (Option OpenSeen)) (handle : ℕ) → NoneKeepsMore files → NoneKeepsMore (with_told_ready ready handle files)
ready-none ready files handle none =
    change-none (λ (file : OpenSeen). record file { polls = record file.polls { told_ready = ready } }) (λ file h. h) files handle none

wakeup-none : (files : List (Option OpenSeen)) (handle : ℕ) → NoneKeepsMore files → NoneKeepsMore (without_wakeup handle files)
wakeup-none files handle none =
    change-none (λ (file : OpenSeen). record file { polls = record file.polls { wakeup = None } }) (λ file h. h) files handle none

drop-none : (files : List (Option OpenSeen)) (handle : ℕ) → NoneKeepsMore files → NoneKeepsMore (drop_rest handle files)
drop-none files handle none =
    change-none (λ (file : OpenSeen). record file { stream = without_rest file.stream }) (λ file h. never (not file.stream.is_stream)) files handle none

-- a stream that keeps no newline
stream-none : (stream : Stream) (files : List (Option OpenSeen)) (handle : ℕ) → stream.is_stream ≡ true → has_newline stream.rest ≡ false → NoneKeepsMore files
    → NoneKeepsMore (with_stream stream handle files)
stream-none stream files handle is ended none =
    change-none (λ (file : OpenSeen). record file { stream = stream }) (λ file h. rw (ended, is) refl) files handle none

closed-none : (files : List (Option OpenSeen)) (handle : ℕ) → NoneKeepsMore files → NoneKeepsMore (without_file handle files)
closed-none files handle none = none-set keeps_more files handle None none refl

-- ---- pieces have no newline

onto-none : (b : ℕ) (pieces : List (List ℕ)) → is_newline b ≡ false → list_any has_newline pieces ≡ false → list_any has_newline (onto_first b pieces) ≡ false
onto-none b [] is none = rw is refl
onto-none b (piece ∷ pieces) is none = rw is none

pieces-none : (bytes : List ℕ) → list_any has_newline (pieces_of bytes) ≡ false
pieces-none [] = refl
pieces-none (b ∷ bytes) = by (is_newline b) refl (pieces-none bytes)
  where
    by : (t : Bool) → is_newline b ≡ t → list_any has_newline (pieces_of bytes) ≡ false
        → list_any has_newline (cond t ([] ∷ pieces_of bytes) (onto_first b (pieces_of bytes))) ≡ false
    by true is none = none
    by false is none = onto-none b (pieces_of bytes) is none

last-none : (pieces : List (List ℕ)) → list_any has_newline pieces ≡ false → has_newline (last_piece pieces) ≡ false
last-none [] none = refl
last-none (piece ∷ []) none = (neither (has_newline piece) false none).0
last-none (piece ∷ next ∷ more) none = last-none (next ∷ more) (neither (has_newline piece) (list_any has_newline (next ∷ more)) none).1

-- ---- steps

-- none of the open files that a step leaves keeps more
abbrev LeavesNone : Step → Type 0
LeavesNone (Plain outcome) = NoneKeepsMore outcome.files
LeavesNone (Takes outcome) = NoneKeepsMore outcome.files
LeavesNone (Asks request outcome) = (answer : Result Answer Refusal) → NoneKeepsMore (outcome answer).files
LeavesNone (Parks read) = Unit {0}
LeavesNone (Interrupts number) = Unit {0}
LeavesNone (AsksNoting request takes outcome noting) = (answer : Result Answer Refusal) → NoneKeepsMore (outcome answer).files
LeavesNone (Tells noting takes outcome) = NoneKeepsMore outcome.files
LeavesNone (AsksLines lines outcome noting) = (ran : Ran) → NoneKeepsMore (outcome ran).files
LeavesNone (Counts count outcome) = NoneKeepsMore outcome.files

abbrev KeepsNone : Outcome → Type 0
KeepsNone outcome = NoneKeepsMore outcome.files

module _ (g : Terms) (s : Service) (none : NoneKeepsMore s.files) where
  -- ---- reads

  given-none : (handle offset size : ℕ) (answer : Result Answer Refusal) → KeepsNone (given_text handle offset size s.files answer)
  given-none handle offset size (Ok answer) = reading-none offset size _ s.files handle none
  given-none handle offset size (Err refusal) = none

  on-none : (handle offset size : ℕ) (text : Option (List ℕ)) → NoneKeepsMore (with_going_on offset size text handle s.files)
  on-none handle offset size None = none
  on-none handle offset size (Some text) = either NoneKeepsMore (is_read_out offset size text) _ _ (reading-none offset size text s.files handle none) none

  text-none : (handle offset size : ℕ) (file : OpenSeen) → LeavesNone (read_text (scene_of g s) handle offset size file s.files)
  text-none handle offset size file =
      either LeavesNone (makes_text offset file) _ _ (given-none handle offset size) (on-none handle offset size file.text)

  tool-given-none : (handle offset size : ℕ) (shown : Option (List ℕ)) → LeavesNone (given_tool handle offset size s.files shown)
  tool-given-none handle offset size None = none
  tool-given-none handle offset size (Some text) = reading-none offset size text s.files handle none

  shown-none : (handle offset size : ℕ) (file : OpenSeen) (shown : Option (List ℕ)) → LeavesNone (read_shown handle offset size file s.files shown)
  shown-none handle offset size file shown =
      either LeavesNone (makes_text offset file) _ _ (tool-given-none handle offset size shown) (on-none handle offset size file.text)

  counted-none : (handle size : ℕ) (otherwise : Step) (text : Option (List ℕ)) → LeavesNone otherwise → LeavesNone (given_counted handle size s.files otherwise text)
  counted-none handle size otherwise None holds = holds
  counted-none handle size otherwise (Some text) holds = reading-none 0 size text s.files handle none

  unless-none : (read : Parked) (cached : Bool) (offset : ℕ) (file : OpenSeen) (otherwise : Step) → LeavesNone otherwise
      → LeavesNone (unless_counted s read cached offset file otherwise)
  unless-none read cached offset file otherwise holds =
      either LeavesNone (cached && offset == 0) _ _ (counted-none read.handle read.size otherwise (text_counted file s.counted) holds) holds

  taken-none : (handle size : ℕ) (answer : Result Answer Refusal) → KeepsNone (taken_records handle size s.files answer)
  taken-none handle size (Ok answer) = records-none _ s.files handle none
  taken-none handle size (Err refusal) = none

  read-dry-none : (read : Parked) (flags : ℕ) (ended : Bool) → LeavesNone (read_dry read flags ended s.files)
  read-dry-none read flags true = dry-none true s.files read.handle none
  read-dry-none read flags false = either LeavesNone (is_nonblocking flags) _ _ (dry-none false s.files read.handle none) tt

  new-none : (read : Parked) (flags : ℕ) (file : OpenSeen) → LeavesNone (read_new g s read flags file)
  new-none read flags file =
      either LeavesNone (is_dry g s file.owner file.file) _ _ (read-dry-none read flags (ends g s file)) (taken-none read.handle read.size)

  pipe-none : (read : Parked) (flags : ℕ) (file : OpenSeen) → LeavesNone (read_pipe g s read flags file)
  pipe-none read flags file = either LeavesNone (is_used_up file) _ _ (new-none read flags file) (records-none _ s.files read.handle none)

  directly-none : (read : Parked) (cached : Bool) (flags : ℕ) (file : OpenSeen) → LeavesNone (read_pipe_directly g s read cached flags file)
  directly-none read true flags file = none
  directly-none read false flags file = pipe-none read flags file

  page-none : (handle size : ℕ) (page : List ℕ) (answer : Result Answer Refusal) → KeepsNone (given_page handle size page s.files answer)
  page-none handle size page (Ok answer) = records-none _ s.files handle none
  page-none handle size page (Err refusal) = none

  new-page-none : (read : Parked) (file : OpenSeen) → LeavesNone (read_page g s read file)
  new-page-none read file = page-none read.handle read.size (next_page g s file.owner (file_index file.file))

  no-page-none : (read : Parked) (file : OpenSeen) → LeavesNone (read_no_page read file s.files)
  no-page-none read file = either LeavesNone file.polls.told_ready _ _ (dry-none false s.files read.handle none) (dry-none false s.files read.handle none)

  raw-none : (read : Parked) (cached : Bool) (flags : ℕ) (file : OpenSeen) → LeavesNone (read_raw g s read cached flags file)
  raw-none read true flags file =
      either LeavesNone (is_used_up file) _ _
      (either LeavesNone (nat_lt read.size 4096) _ _ none
      (either LeavesNone (is_dry g s file.owner file.file) _ _ (no-page-none read file) (new-page-none read file)))
      none
  raw-none read false flags file =
      either LeavesNone (is_used_up file) _ _
      (either LeavesNone (is_dry g s file.owner file.file) _ _ (read-dry-none read flags (ends g s file)) (new-page-none read file))
      (records-none _ s.files read.handle none)

  read-kind-none : (read : Parked) (offset : ℕ) (cached : Bool) (flags : ℕ) (file : OpenSeen) (kind : FileKind) → LeavesNone (read_kind g s read offset cached flags file kind)
  read-kind-none read offset cached flags file kinds.Pipe = directly-none read cached flags file
  read-kind-none read offset cached flags file kinds.RawPipe = raw-none read cached flags file
  read-kind-none read offset cached flags file kinds.Inject = none
  read-kind-none read offset cached flags file kinds.Tool =
      unless-none read cached offset file (read_tool g s read.handle offset read.size file)
      (shown-none read.handle offset read.size file (tool_text g.config s.past file.owner file.file))
  read-kind-none read offset cached flags file kinds.ErrorLog =
      unless-none read cached offset file (read_log s read.handle offset read.size file)
      (shown-none read.handle offset read.size file (Some (log_text file.owner s.errors)))
  read-kind-none read offset cached flags file _ =
      unless-none read cached offset file (read_text (scene_of g s) read.handle offset read.size file s.files) (text-none read.handle offset read.size file)

  read-none : (read : Parked) (offset : ℕ) (cached : Bool) (flags : ℕ) (slot : Option OpenSeen) → LeavesNone (read_file g s read offset cached flags slot)
  read-none read offset cached flags None = none
  read-none read offset cached flags (Some file) =
      either LeavesNone (is_there (scene_of g s) (node_of file)) _ _ (read-kind-none read offset cached flags file (kind_of_file file.file)) none

  parked-none : (read : Parked) → LeavesNone (step_of_parked g s read)
  parked-none read =
      either LeavesNone read.interrupted _ _ (dry-none false s.files read.handle none) (read-none read 0 false 0 (file_at read.handle s.files))

  -- ---- WRITE

  written-none : (handle size done : ℕ) (refused : Option LineRefused) → KeepsNone (written handle size s.files done refused)
  written-none handle size done None = either NoneKeepsMore (done == 0) s.files (with_write handle s.files) none (write-none s.files handle none)
  written-none handle size done (Some line) = either KeepsNone (done == 0) _ _ none (write-none s.files handle none)

  switched-none : (handle size : ℕ) (answer : Result Answer Refusal) → KeepsNone (switched handle size s.files answer)
  switched-none handle size (Ok answer) = write-none s.files handle none
  switched-none handle size (Err refusal) = none

  tool-none : (handle : ℕ) (file : OpenSeen) (bytes : List ℕ) (comes : ToolWrite) → LeavesNone (write_tool g s handle file bytes comes)
  tool-none handle file bytes writes.Missing = none
  tool-none handle file bytes writes.Wrong = none
  tool-none handle file bytes writes.Same = write-none s.files handle none
  tool-none handle file bytes (writes.Switch switch on size) = switched-none handle size

  other-none : (handle : ℕ) (file : OpenSeen) (bytes : List ℕ) (kind : FileKind) → LeavesNone (write_other g s handle file bytes kind)
  other-none handle file bytes kinds.Tool = tool-none handle file bytes (tool_write g.config (scene_of g s) file.owner file.file bytes)
  other-none handle file bytes kinds.ErrorLog = write-none s.files handle none
  other-none handle file bytes _ = λ ran. written-none handle (length bytes) ran.done ran.refused

  injected-none : (handle size lock_owner pid : ℕ) (bytes : List ℕ) (stream : Stream) (done : ℕ) (refused : Option LineRefused)
      → KeepsNone (injected handle (stream_after stream lock_owner pid bytes) size s.files done refused)
  injected-none handle size lock_owner pid bytes stream done None =
      stream-none (stream_after stream lock_owner pid bytes) s.files handle refl
      (last-none (pieces_of (stream.rest ++ bytes)) (pieces-none (stream.rest ++ bytes))) none
  injected-none handle size lock_owner pid bytes stream done (Some line) =
      either KeepsNone (done == 0) _ _ (either NoneKeepsMore (is_memory line.fault) s.files (drop_rest handle s.files) none (drop-none s.files handle none))
      (stream-none (without_rest (stream_after stream lock_owner pid bytes)) s.files handle refl refl none)

  once-none : (size : ℕ) (refused : Option LineRefused) → KeepsNone (injected_at_once size s.files refused)
  once-none size None = none
  once-none size (Some line) = none

  inject-none : (handle lock_owner pid : ℕ) (bytes : List ℕ) (file : OpenSeen) (event : Option Definition) → LeavesNone (inject g s handle lock_owner pid bytes file event)
  inject-none handle lock_owner pid bytes file None = none
  inject-none handle lock_owner pid bytes file (Some event) =
      either LeavesNone (goes_on file.stream bytes) _ _
      (λ (ran : Ran). injected-none handle (length bytes) lock_owner pid bytes file.stream ran.done ran.refused) (λ (ran : Ran). once-none (length bytes) ran.refused)

  kind-none : (handle lock_owner pid : ℕ) (bytes : List ℕ) (own : OpenSeen) (file : File) → LeavesNone (write_kind g s handle lock_owner pid bytes own file)
  kind-none handle lock_owner pid bytes own (files.Inject event) = inject-none handle lock_owner pid bytes own (slice_get (declared_events s.past) event)
  kind-none handle lock_owner pid bytes own _ = other-none handle own bytes (kind_of_file own.file)

  file-none : (handle lock_owner pid : ℕ) (bytes : List ℕ) (slot : Option OpenSeen) → LeavesNone (write_file g s handle lock_owner pid bytes slot)
  file-none handle lock_owner pid bytes None = none
  file-none handle lock_owner pid bytes (Some file) =
      either LeavesNone (is_there (scene_of g s) (node_of file)) _ _ (kind-none handle lock_owner pid bytes file file.file) none

  -- ---- FLUSH, RELEASE

  flushed-none : (handle : ℕ) (refused : Option LineRefused) → KeepsNone (flushed handle s.files refused)
  flushed-none handle None = drop-none s.files handle none
  flushed-none handle (Some line) = drop-none s.files handle none

  flush-line-none : (handle : ℕ) (file : OpenSeen) (event : Option Definition) → LeavesNone (flush_line g s handle file event)
  flush-line-none handle file None = none
  flush-line-none handle file (Some event) = λ ran. flushed-none handle ran.refused

  flush-none : (handle lock_owner : ℕ) (slot : Option OpenSeen) → LeavesNone (flush_file g s handle lock_owner slot)
  flush-none handle lock_owner None = none
  flush-none handle lock_owner (Some file) =
      either LeavesNone (has_rest file && file.stream.lock_owner == lock_owner) _ _ (flush-line-none handle file (event_of_file g s file file.file)) none

  released-none : (handle : ℕ) (refused : Option LineRefused) → KeepsNone (released handle s.files refused)
  released-none handle None = closed-none s.files handle none
  released-none handle (Some line) = closed-none s.files handle none

  release-line-none : (handle : ℕ) (file : OpenSeen) (event : Option Definition) → LeavesNone (release_line g s handle file event)
  release-line-none handle file None = closed-none s.files handle none
  release-line-none handle file (Some event) = λ ran. released-none handle ran.refused

  release-none : (handle : ℕ) (slot : Option OpenSeen) → LeavesNone (release g s handle slot)
  release-none handle None = none
  release-none handle (Some file) =
      either LeavesNone (has_rest file) _ _ (release-line-none handle file (event_of_file g s file file.file)) (closed-none s.files handle none)

  -- ---- OPEN

  handed-none : (owner : Owner) (file : File) (over : Bool) → KeepsNone (handed_out (just_opened owner file over) s.files)
  handed-none owner file over = opened-none owner file over s.files (free_handle s.files) none

  emptied-none : (owner : Owner) (file : File) (answer : Result Answer Refusal) → KeepsNone (emptied_first (just_opened owner file false) s.files answer)
  emptied-none owner file (Ok answer) = handed-none owner file false
  emptied-none owner file (Err refusal) = none

  emptying-none : (now flags : ℕ) (owner : Owner) (file : File) (over : Bool) (emptying : Emptying)
      → LeavesNone (opened_unless_emptied (scene_of g s) now flags (just_opened owner file over) s.files emptying)
  emptying-none now flags owner file over AsksNone =
      either LeavesNone (clears file flags) _ _ (handed-none owner file over) (handed-none owner file over)
  emptying-none now flags owner file over (AsksToWrite asked text) = emptied-none owner file

  open-none : (now flags : ℕ) (node : Option Node) → LeavesNone (opened (scene_of g s) now flags node s.files)
  open-none now flags None = none
  open-none now flags (Some (nodes.Folder owner folder)) = none
  open-none now flags (Some (nodes.File owner file)) =
      either LeavesNone (may (access_of_file file) (wants_read flags) (wants_write flags)) _ _
      (emptying-none now flags owner file (empties flags) (emptying_of file (empties flags))) none

  -- ---- the others

  size-none : (telling : Telling) (owner : Owner) (file : File) (count : Option Counted) → LeavesNone (size_of_text g s telling owner file count)
  size-none telling owner file count = either LeavesNone (is_recent (length s.past) count) _ _ none none

  by-kind-none : (telling : Telling) (pages : ℕ) (owner : Owner) (file : File) (kind : FileKind) → LeavesNone (size_by_kind g s telling pages owner file kind)
  by-kind-none telling pages owner file kinds.Pipe = none
  by-kind-none telling pages owner file kinds.RawPipe = none
  by-kind-none telling pages owner file kinds.Inject = none
  by-kind-none telling pages owner file kinds.ErrorLog = none
  by-kind-none telling pages owner file _ = size-none telling owner file (count_of (number_of (nodes.File owner file)) s.counted)

  tell-none : (telling : Telling) (pages : ℕ) (node : Node) → LeavesNone (tell_size g s telling pages node)
  tell-none telling pages (nodes.Folder owner folder) = none
  tell-none telling pages (nodes.File owner file) = by-kind-none telling pages owner file (kind_of_file file)

  entry-none : (unique : ℕ) (found : Option Node) → LeavesNone (tell_entry g s unique found)
  entry-none unique None = none
  entry-none unique (Some node) = tell-none (λ size. replies.Entry (entry_number unique node) (attributes_of g node size)) (2 ^ 40) node

  attributes-none : (found : Option Node) → LeavesNone (tell_attributes g s found)
  attributes-none None = none
  attributes-none (Some node) = tell-none (λ size. replies.Attributes (attributes_of g node size)) 0 node

  set-none : (target : Option Node) (valid size : ℕ) → LeavesNone (set_attributes g s target valid size)
  set-none target valid size = either LeavesNone (sets_size valid size) _ _ none (attributes-none (known (scene_of g s) target))

  folder-none : (serial : ℕ) (answer : Result Answer Refusal) → KeepsNone (made_folder g serial s.files answer)
  folder-none serial (Ok answer) = none
  folder-none serial (Err refusal) = none

  made-none : (name : List ℕ) (folder : Option Node) → LeavesNone (make_folder g (scene_of g s) name s.files folder)
  made-none name None = none
  made-none name (Some (nodes.Folder Top folders.Instances)) =
      either LeavesNone (nat_lt (scene_of g s).made most_made) _ _ (folder-none (scene_of g s).made) none
  made-none name _ = none

  gone-none : (answer : Result Answer Refusal) → KeepsNone (removed_folder s.files answer)
  gone-none (Ok answer) = none
  gone-none (Err refusal) = none

  removed-none : (name : List ℕ) (folder : Option Node) → LeavesNone (remove_folder (scene_of g s) name s.files folder)
  removed-none name None = none
  removed-none name (Some (nodes.Folder Top folders.Instances)) = gone-none
  removed-none name _ = none

  polled-none : (handle wakeup flags : ℕ) (file : OpenSeen) (kind : FileKind) → LeavesNone (poll_kind g s handle wakeup flags file kind)
  polled-none handle wakeup flags file kinds.Pipe =
      either NoneKeepsMore (wants_wakeup flags) (with_poll wakeup (would_wait g s file) handle s.files) s.files
      (poll-none wakeup (would_wait g s file) s.files handle none) none
  polled-none handle wakeup flags file kinds.RawPipe =
      ready-none (not (has_nothing g s file)) (with_wanted_poll (wants_wakeup flags) wakeup (has_nothing g s file) handle s.files) handle
      (either NoneKeepsMore (wants_wakeup flags) (with_poll wakeup (has_nothing g s file) handle s.files) s.files
      (poll-none wakeup (has_nothing g s file) s.files handle none) none)
  polled-none handle wakeup flags file _ = none

  poll-file-none : (handle wakeup flags : ℕ) (slot : Option OpenSeen) → LeavesNone (poll_file g s handle wakeup flags slot)
  poll-file-none handle wakeup flags None = none
  poll-file-none handle wakeup flags (Some file) = polled-none handle wakeup flags file (kind_of_file file.file)

  step-none : (unique pid : ℕ) (target : Option Node) (operation : Operation) → LeavesNone (step_of g s unique pid target operation)
  step-none unique pid target (operations.Lookup name) = entry-none unique (found_in (scene_of g s) name target)
  step-none unique pid target operations.GetAttr = attributes-none (known (scene_of g s) target)
  step-none unique pid target (operations.SetAttr valid size) = set-none target valid size
  step-none unique pid target (operations.MkDir name) = made-none name (known (scene_of g s) target)
  step-none unique pid target (operations.RmDir name) = removed-none name (known (scene_of g s) target)
  step-none unique pid target (operations.Open flags) = open-none (now_of s.past) flags (known (scene_of g s) target)
  step-none unique pid target (operations.Read handle offset size read_flags flags) =
      read-none (read_of_pipe unique handle size) offset (is_cached read_flags) flags (file_at handle s.files)
  step-none unique pid target (operations.Write handle offset lock_owner bytes) = file-none handle lock_owner pid bytes (file_at handle s.files)
  step-none unique pid target (operations.Flush handle lock_owner) = flush-none handle lock_owner (file_at handle s.files)
  step-none unique pid target (operations.Release handle) = release-none handle (file_at handle s.files)
  step-none unique pid target (operations.Poll handle wakeup flags events) = poll-file-none handle wakeup flags (file_at handle s.files)
  step-none unique pid target (operations.Interrupt number) = tt
  step-none unique pid target _ = none

-- ---- whatever was served

does-none : (g : Terms) (before : Service) (step : Step) (reply : Option Reply) (after : Service) → NoneKeepsMore before.files → LeavesNone step
    → Does g before step reply after → NoneKeepsMore after.files
does-none g before (Plain outcome) reply after none leaves does = subst (λ (s : Service). NoneKeepsMore s.files) (sym does.1) leaves
does-none g before (Takes outcome) reply after none leaves (inl does) = subst (λ (s : Service). NoneKeepsMore s.files) (sym does.1) leaves
does-none g before (Takes outcome) reply after none leaves (inr does) = subst (λ (s : Service). NoneKeepsMore s.files) (sym does.1) none
does-none g before (Asks request outcome) reply after none leaves (answer, answered, told, is) =
    subst (λ (s : Service). NoneKeepsMore s.files) (sym is) (leaves answer)
does-none g before (Parks read) reply after none leaves (inl does) = subst (λ (s : Service). NoneKeepsMore s.files) (sym does.1) none
does-none g before (Parks read) reply after none leaves (inr does) = subst (λ (s : Service). NoneKeepsMore s.files) (sym does.1) none
does-none g before (Interrupts unique) reply after none leaves does = subst (λ (s : Service). NoneKeepsMore s.files) (sym does.1) none
does-none g before (AsksNoting request takes outcome noting) reply after none leaves (answer, answered, told, is) =
    subst (λ (s : Service). NoneKeepsMore s.files) (sym is) (leaves answer)
does-none g before (Tells noting takes outcome) reply after none leaves (inl does) = subst (λ (s : Service). NoneKeepsMore s.files) (sym does.1) leaves
does-none g before (Tells noting takes outcome) reply after none leaves (inr (may, told, same)) = subst (λ (s : Service). NoneKeepsMore s.files) (sym same) none
does-none g before (AsksLines lines outcome noting) reply after none leaves (ran, runs, told, is) =
    subst (λ (s : Service). NoneKeepsMore s.files) (sym is) (leaves ran)
does-none g before (Counts count outcome) reply after none leaves (inl does) = subst (λ (s : Service). NoneKeepsMore s.files) (sym does.1) leaves
does-none g before (Counts count outcome) reply after none leaves (inr does) = subst (λ (s : Service). NoneKeepsMore s.files) (sym does.1) none

told-none : (g : Terms) (before : Service) (what : Option Owed) (bytes : List ℕ) (after : Service) → NoneKeepsMore before.files → TellsOwed g before what bytes after
    → NoneKeepsMore after.files
told-none g before None bytes after none told = absurd told
told-none g before (Some (ReplyAt index)) bytes after none told =
    does-none g (without_read index before) (step_of_parked g before told.read) (Some told.reply) after none (parked-none g before none told.read) told.does
told-none g before (Some (WakeupAt handle)) bytes after none told =
    subst (λ (s : Service). NoneKeepsMore s.files) (sym told.now) (wakeup-none before.files handle none)

asked-none : (g : Terms) (before : Service) (asked bytes : List ℕ) (after : Service) → NoneKeepsMore before.files → AreServed g before asked bytes after
    → NoneKeepsMore after.files
asked-none g before asked bytes after none (Right request is served) =
    does-none g before (step_of g before request.unique request.pid served.node request.operation) served.reply after none
    (step-none g before none request.unique request.pid served.node request.operation) served.does
asked-none g before asked bytes after none (Wrong opcode unique framed other told same) = subst (λ (s : Service). NoneKeepsMore s.files) (sym same) none
asked-none g before asked bytes after none (Unframed other told same) = subst (λ (s : Service). NoneKeepsMore s.files) (sym same) none

exchange-none : (g : Terms) (before : Service) (asked bytes : List ℕ) (after : Service) → NoneKeepsMore before.files → IsExchanged g before asked bytes after
    → NoneKeepsMore after.files
exchange-none g before [] bytes after none told = told-none g before (owed g before) bytes after none told
exchange-none g before (byte ∷ asked) bytes after none (quiet, served) = asked-none g before (byte ∷ asked) bytes after none served

text-shown-none : (g : Terms) (s : Service) → NoneKeepsMore s.files → (unique : ℕ) (shown : ShownText) (operation : Operation)
    → LeavesNone (shown_step g s unique shown operation)
text-shown-none g s none unique shown (operations.Lookup name) = none
text-shown-none g s none unique shown (operations.Read handle offset size read_flags flags) = reading-none 0 size shown.text s.files handle none
text-shown-none g s none unique shown _ = none

turn-none : (g : Terms) (before : Service) (turn : Turn) (after : Service) → NoneKeepsMore before.files → IsTurned g before turn after
    → NoneKeepsMore after.files
turn-none g before (Exchanged asked bytes) after none is = exchange-none g before asked bytes after none is
turn-none g before (Called limit request answer) after none is = subst (λ (s : Service). NoneKeepsMore s.files) (sym is.1) none
turn-none g before (Shows shown asked bytes) after none is =
    does-none g before (shown_step g before is.request.unique shown is.request.operation) is.reply after none
    (text-shown-none g before none is.request.unique shown is.request.operation) is.does

pub open_files_keep_lines : OpenFilesKeepLines
open_files_keep_lines g turns after is handle file opened =
    kept-line after.files handle file (turns-keep g (λ (s : Service). NoneKeepsMore s.files) (turn-none g) just_mounted turns after refl is) opened
