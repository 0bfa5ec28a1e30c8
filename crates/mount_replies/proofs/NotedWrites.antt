-- What is noted is a write that was refused, and whose refusal was told.
use Rattle.std.proofs.Common.{◌≡◌, inl, inr, ℕ, ◌==◌, nat_lt, Bool, true, false, not, ◌&&◌, if◌then◌else◌, List, [], ◌∷◌, length, Option, Some, None, Result, Ok, Err, refl, sym, ap, subst, ◌∙◌, slice_get, ◌⊎◌, ◌++◌, ◌%◌, ◌^◌, append-nil}
use Rattle.std.proofs.lemmas.Bool.{false≢true}
use Rattle.std.specs.List.{before_first}
use Rattle.fuse_wire.specs.declared.errno.Errno.{Errno}
use Rattle.fuse_wire.specs.declared.errno.Errno.TheVariants.{EACCES, EINVAL, ENOENT, ENOSPC}
use Rattle.fuse_wire.specs.declared.reply.Reply.{Reply}
use Rattle.fuse_wire.specs.declared.reply.Reply.TheVariants as replies
use Rattle.fuse_wire.specs.Requests.{IsRequest}
use Rattle.fuse_wire.specs.declared.request.Operation.{Operation}
use Rattle.fuse_wire.specs.declared.request.Operation.TheVariants as operations
use Rattle.fuse_wire.specs.declared.request.Request.{Request as Asked}
use Rattle.trace_command.specs.Requests.{MakeInstance, RemoveInstance, Request}
use Rattle.trace_command.specs.declared.command.Reply.{Reply as Answer}
use Rattle.trace_command.specs.declared.refusal.Refusal.{Refusal}
use Rattle.trace_command.specs.declared.refusal.Refusal.TheVariants.{Memory}
use Rattle.trace_format.specs.Definitions.{Definition}
use Rattle.trace_format.specs.declared.pair.Pair.{Pair}
use Rattle.tracer_specification.specs.Settings.{declared_events, now_of}
use Rattle.error_log.proofs.LineLemmas.{caret_stands_under}
use Rattle.error_log.specs.Errors.{ErrorSeen, refused}
use Rattle.file_list.specs.FileKinds.{access_of_file, kind_of_file}
use Rattle.mount_tree.specs.Children.{is_there}
use Rattle.mount_tree.specs.NodePaths.{path_of}
use Rattle.mount_tree.specs.Nodes.{number_of}
use Rattle.mount_tree.specs.Scenes.{most_made}
use Rattle.file_list.specs.declared.file.File.{File}
use Rattle.file_list.specs.declared.file.File.TheVariants as files
use Rattle.file_list.specs.declared.file.FileKind.{FileKind}
use Rattle.file_list.specs.declared.file.FileKind.TheVariants as kinds
use Rattle.file_list.specs.declared.folder.Folder.TheVariants as folders
use Rattle.mount_tree.specs.declared.node.Node.{Node}
use Rattle.mount_tree.specs.declared.node.Node.TheVariants as nodes
use Rattle.mount_tree.specs.declared.node.Owner.{Owner}
use Rattle.mount_tree.specs.declared.node.Owner.TheVariants.{Top}
use Rattle.mount_stub_files.specs.ToolWrites.{tool_write}
use Rattle.mount_stub_files.specs.declared.write.ToolWrite.{ToolWrite}
use Rattle.mount_stub_files.specs.declared.write.ToolWrite.TheVariants as writes
use Rattle.mount_replies.proofs.AnswerLemmas.{may-noting}
use Rattle.mount_replies.proofs.AnsweredOnce.{IsReadStep, parked-step, read-step}
use Rattle.mount_replies.proofs.FirstLines.{EndLater, FirstStops, IsStreamRefused, NoneIsTooLong, all-first, first-refused, lines-end, once-refused, stream-ends, stream-refused}
use Rattle.mount_replies.proofs.KeptLines.{neither}
use Rattle.mount_replies.proofs.KeptTexts.{either}
use Rattle.mount_replies.specs.Errnos.{errno_of}
use Rattle.mount_replies.specs.FileWrites.{begun_now, end_line, event_of_file, flush_file, flush_line, has_rest, inject, inject_at_once, inject_stream, noted_first_injection, release, release_line, write_file, write_kind, write_other, write_switch, write_text, write_tool}
use Rattle.mount_replies.specs.Injections.{injection, pairs_of_line}
use Rattle.mount_replies.specs.Lines.{asked_by_line, asked_by_pairs, errno_of_fault, flushed, goes_on, has_newline, injected, injected_at_once, is_blank_line, is_memory, is_newline, line_at_once, line_command, noted_command, noted_if_first, noted_line, pieces_of, released, stream_after, stream_lines, written, written_lines}
use Rattle.mount_replies.specs.Mounted.{AreServed, Does, MayAnswer, MayRun, Right, TellsOwed, Unframed, Wrong, bytes_of_reply, past_after}
use Rattle.mount_replies.specs.Owed.{Owed, ReplyAt, WakeupAt, owed, step_of_parked}
use Rattle.mount_replies.specs.Served.{AsksNone, AsksToWrite, Emptying, clears, emptied, emptying_of, forgotten, forgotten_if_done, handed_out, is_cached, make_folder, made_folder, opened, opened_file, opened_unless_emptied, poll_file, poll_kind, remove_folder, removed_folder, step_of}
use Rattle.mount_replies.specs.ServedErrors.{EndsLines, IsBlamed, IsFileOf, IsFirstRefused, IsNoted, IsRefusedWrite, KeepLines, KeepsLine, NotedWritesWereRefused, OfCommand, OfEvent, OfLongLine, OfNothing, OfSwitch, OfWord, Opens, Writes, bytes_written, event_injected, first_not_done, not_done, noting_asked, noting_by, noting_told, writer_of}
use Rattle.mount_replies.specs.Services.{OpenSeen, Service, Terms, count_of, drop_rest, file_at, just_opened, node_of, read_of_pipe, scene_of, with_stream, with_write, without_file, without_read, without_rest}
use Rattle.mount_replies.specs.Sizes.{Telling, count_text, entry_number, is_recent, set_attributes, get_attributes, size_by_kind, size_counted, size_of_text, tell_attributes, tell_entry, tell_size}
use Rattle.mount_replies.specs.Steps.{Asking, Asks, AsksFor, AsksLines, AsksNothing, AsksNoting, Counts, Forgets, Interrupts, IsTooLong, IsWrongLine, Keeps, LineAsked, LineRefused, Notes, Noting, Outcome, Parks, Plain, Ran, Step, Takes, Tells, failed, plain, told}
use Rattle.mount_replies.specs.Told.{attributes_of, empties, found_in, known, may, sets_size, wants_read, wants_write}
use Rattle.mount_replies.specs.declared.counted.Counted.{Counted}
use Rattle.mount_replies.specs.declared.fault.LineFault.{LineFault}
use Rattle.mount_replies.specs.declared.fault.LineFault.TheVariants.{NoCommand, Refused, TooLong}
use Rattle.mount_replies.specs.declared.stream.Stream.{Stream}

-- ---- what a request writes

writes-end : (operation : Operation) (text : List ℕ) → Writes operation text → EndsLines operation
writes-end (operations.Write handle offset lock_owner bytes) text written = tt
writes-end _ text written = absurd written

writes-are : (operation : Operation) (text : List ℕ) → Writes operation text → bytes_written operation ≡ text
writes-are (operations.Write handle offset lock_owner bytes) text written = written
writes-are _ text written = absurd written

writes-whose : (operation : Operation) (text : List ℕ) (file : OpenSeen) (pid : ℕ) → Writes operation text → writer_of file operation pid ≡ pid
writes-whose (operations.Write handle offset lock_owner bytes) text file pid written = refl
writes-whose _ text file pid written = absurd written

-- a line that has ended is not too long
none-too-long : (cpus pid : ℕ) (event : Definition) → NoneIsTooLong (asked_by_line cpus pid event)
none-too-long cpus pid event line is = by (is_blank_line line) (pairs_of_line line) is
  where
    by : (blank : Bool) (pairs : Option (List Pair)) → (if blank then AsksNothing else asked_by_pairs cpus pid event pairs) ≡ IsTooLong → ⊥
    by true pairs h = absurd (let no : AsksNothing ≡ IsTooLong = h in cc)
    by false None h = absurd (let no : IsWrongLine ≡ IsTooLong = h in cc)
    by false (Some pairs) h = absurd (let no : AsksFor (injection (pid % cpus) event (pid % 2 ^ 31) pairs) ≡ IsTooLong = h in cc)

-- ---- what is noted with a reply

-- F says of which file
module _ (g : Terms) (s : Service) (pid : ℕ) (operation : Operation) (F : OpenSeen → Type 0) where
  -- a write to such a file that was refused, and told so; no command was done where open files keep lines
  record IsWell (past : List Request) (error : ErrorSeen) (reply : Option Reply) : Type 0 where
    file : OpenSeen
    by : F file
    errno : Errno
    write : IsRefusedWrite g s pid operation past file errno error
    told : reply ≡ Some (replies.Error errno)
    undone : KeepLines s → past ≡ s.past

  abbrev NotesWell : List Request → Noting → Option Reply → Type 0
  NotesWell past Keeps reply = Unit {0}
  NotesWell past (Notes error) reply = IsWell past error reply
  NotesWell past (Forgets owner) reply = Unit {0}

  abbrev StepNotes : Step → Type 0
  StepNotes (AsksNoting request takes outcome noting) = (answer : Result Answer Refusal) → MayAnswer g s.past request answer
      → NotesWell (past_after answer request s.past) (noting answer) (outcome answer).reply
  StepNotes (Tells noting takes outcome) = NotesWell s.past noting outcome.reply
  StepNotes (AsksLines lines outcome noting) = (ran : Ran) → MayRun g s.past lines ran → NotesWell ran.past (noting ran) (outcome ran).reply
  StepNotes _ = Unit {0}

  keeps-none : (past : List Request) (error : ErrorSeen) (reply : Option Reply) → Keeps ≡ Notes error → IsWell past error reply
  keeps-none past error reply is = absurd (let no : Keeps ≡ Notes error = is in cc)

  noted-so : (past now : List Request) (noting : Noting) (error : ErrorSeen) (told reply : Option Reply) → noting ≡ Notes error → reply ≡ told → now ≡ past
      → NotesWell past noting told → IsWell now error reply
  noted-so past now noting error told reply is same done notes =
      subst (λ (p : List Request). IsWell p error reply) (sym done)
      (subst (λ (r : Option Reply). IsWell past error r) (sym same) (subst (λ (n : Noting). NotesWell past n told) is notes))

  noted-well : (before : Service) (step : Step) (reply : Option Reply) (after : Service) (error : ErrorSeen) (does : Does g before step reply after)
      → before.past ≡ s.past → StepNotes step → noting_by g before step reply after does ≡ Notes error → IsWell after.past error reply
  noted-well before (Plain outcome) reply after error does began notes is = keeps-none after.past error reply is
  noted-well before (Takes outcome) reply after error does began notes is = keeps-none after.past error reply is
  noted-well before (Asks request outcome) reply after error does began notes is = keeps-none after.past error reply is
  noted-well before (Parks read) reply after error does began notes is = keeps-none after.past error reply is
  noted-well before (Interrupts unique) reply after error does began notes is = keeps-none after.past error reply is
  noted-well before (AsksNoting request takes outcome noting) reply after error (answer, answered, told, same) began notes is =
      noted-so (past_after answer request s.past) after.past (noting answer) error (outcome answer).reply reply is told
      (ap (λ (a : Service). a.past) same ∙ ap (past_after answer request) began)
      (notes answer (subst (λ (p : List Request). MayAnswer g p request answer) began (may-noting g before.past request takes noting answer answered)))
  noted-well before (Tells noting takes outcome) reply after error (inl does) began notes is =
      noted-so s.past after.past noting error outcome.reply reply is does.0 (ap (λ (a : Service). a.past) does.1 ∙ began) notes
  noted-well before (Tells noting takes outcome) reply after error (inr refused) began notes is = keeps-none after.past error reply is
  noted-well before (AsksLines lines outcome noting) reply after error (ran, runs, told, same) began notes is =
      noted-so ran.past after.past (noting ran) error (outcome ran).reply reply is told (ap (λ (a : Service). a.past) same)
      (notes ran (subst (λ (p : List Request). MayRun g p lines ran) began runs))
  noted-well before (Counts count outcome) reply after error does began notes is = keeps-none after.past error reply is

  -- a read notes nothing
  read-notes : (unique : ℕ) (step : Step) → IsReadStep unique step → StepNotes step
  read-notes unique (Plain outcome) is = tt
  read-notes unique (Takes outcome) is = tt
  read-notes unique (Asks request outcome) is = tt
  read-notes unique (Parks read) is = tt
  read-notes unique _ is = absurd is

  -- ---- writes that are refused

  -- such a write to this file
  refused-write : (past : List Request) (file : OpenSeen) (text sentence : List ℕ) (offset : ℕ) (errno : Errno) → IsBlamed g s pid operation file text offset errno
      → IsRefusedWrite g s pid operation past file errno (refused (begun_now g (record s { past = past }) file) text sentence offset)
  refused-write past file text sentence offset errno blamed = record {
    text = text;
    sentence = sentence;
    offset = offset;
    is = refl;
    blamed = blamed;
    stands = caret_stands_under file.owner (now_of past) (path_of (scene_of g (record s { past = past })) (node_of file)) text sentence offset;
  }

  well-after : (past : List Request) (file : OpenSeen) (text sentence : List ℕ) (offset : ℕ) (errno : Errno) → F file
      → IsBlamed g s pid operation file text offset errno → (KeepLines s → past ≡ s.past)
      → IsWell past (refused (begun_now g (record s { past = past }) file) text sentence offset) (Some (replies.Error errno))
  well-after past file text sentence offset errno by blamed undone =
      record { file = file; by = by; errno = errno; write = refused-write past file text sentence offset errno blamed; told = refl; undone = undone }

  -- where nothing was done before
  well : (file : OpenSeen) (text sentence : List ℕ) (offset : ℕ) (errno : Errno) → F file → IsBlamed g s pid operation file text offset errno
      → IsWell s.past (refused (begun_now g s file) text sentence offset) (Some (replies.Error errno))
  well file text sentence offset errno by blamed = well-after s.past file text sentence offset errno by blamed (λ keeps. refl)

  -- of a line of the tracer's own files
  command-notes : (file : OpenSeen) (own text : List ℕ) (fault : LineFault) → F file → Writes operation own
      → FirstStops g s.past (written_lines (scene_of g s) file.owner file.file (not file.starts_over) own) text fault
      → NotesWell s.past (noted_command (begun_now g s file) (path_of (scene_of g s) (node_of file)) file.file text fault)
      (Some (replies.Error (errno_of_fault fault)))
  command-notes file own text (Refused Memory) by written stops = tt
  command-notes file own text (Refused refusal) by written (inl memory) = absurd (cc)
  command-notes file own text (Refused refusal) by written (inr first) =
      well file text _ _ (errno_of refusal) by (OfCommand own refusal written first refl refl)
  command-notes file own text NoCommand by written stops = tt
  command-notes file own text TooLong by written stops = tt

  -- a request may end lines of this file, which are this event's
  abbrev Injects : OpenSeen → Definition → Type 0
  Injects file event = EndsLines operation × (event_injected s file.file ≡ Some event)

  event-there : (file : OpenSeen) (kind : File) (event : Definition) → event_of_file g s file kind ≡ Some event → event_injected s kind ≡ Some event
  event-there file (files.Inject index) event is = by (is_there (scene_of g s) (node_of file)) is
    where
      by : (there : Bool) → (if there then slice_get (declared_events s.past) index else None) ≡ Some event → slice_get (declared_events s.past) index ≡ Some event
      by true found = found
      by false none = absurd (let no : None ≡ Some event = none in cc)
  event-there file _ event is = absurd (let no : None ≡ Some event = is in cc)

  -- and of one of `inject`, which is refused first of what was not done
  abbrev Refuses : OpenSeen → Definition → List ℕ → LineFault → Type 0
  Refuses file event text fault =
      IsStreamRefused g s.past (asked_by_line g.config.cpus (writer_of file operation pid) event) (not_done file operation) text fault

  -- or memory was; nothing was done before it
  abbrev StopsFirst : List Request → OpenSeen → Definition → List ℕ → LineFault → Type 0
  StopsFirst past file event text fault = (past ≡ s.past) × ((fault ≡ Refused Memory) ⊎ Refuses file event text fault)

  unless-memory : {A : Type 0} (fault : LineFault) → is_memory fault ≡ false → (fault ≡ Refused Memory) ⊎ A → A
  unless-memory fault is (inl memory) = absurd (false≢true (sym is ∙ ap is_memory memory))
  unless-memory fault is (inr own) = own

  line-notes : (past : List Request) (file : OpenSeen) (event : Definition) (text : List ℕ) (fault : LineFault) → F file → Injects file event
      → (KeepLines s → StopsFirst past file event text fault)
      → NotesWell past (noted_line (begun_now g (record s { past = past }) file) text fault) (Some (replies.Error (errno_of_fault fault)))
  line-notes past file event text (Refused Memory) by ends stops = tt
  line-notes past file event text (Refused refusal) by ends stops =
      well-after past file text _ _ (errno_of refusal) by
      (OfEvent event (Refused refusal) ends.0 ends.1 (λ keeps. unless-memory (Refused refusal) refl (stops keeps).1) refl refl) (λ keeps. (stops keeps).0)
  line-notes past file event text NoCommand by ends stops =
      well-after past file text _ _ EINVAL by (OfEvent event NoCommand ends.0 ends.1 (λ keeps. unless-memory NoCommand refl (stops keeps).1) refl refl)
      (λ keeps. (stops keeps).0)
  line-notes past file event text TooLong by ends stops =
      well-after past file text _ _ EINVAL by (OfLongLine event ends.0 ends.1 (λ keeps. unless-memory TooLong refl (stops keeps).1) refl refl) (λ keeps. (stops keeps).0)

  -- the first of these lines is that of what was not done
  stops-first : (past : List Request) (file : OpenSeen) (event : Definition) (lines : List LineAsked) (text : List ℕ) (fault : LineFault)
      → (IsFirstRefused g s.past lines text fault → Refuses file event text fault) → (past ≡ s.past) × FirstStops g s.past lines text fault
      → StopsFirst past file event text fault
  stops-first past file event lines text fault refuses (undone, inl memory) = (undone, inl memory)
  stops-first past file event lines text fault refuses (undone, inr first) = (undone, inr (refuses first))

  -- the first line was not done
  first-notes : (past : List Request) (noting : List ℕ → LineFault → Noting) (done : ℕ) (line : LineRefused) (one other : Outcome)
      → ((done == 0) ≡ true → NotesWell past (noting line.text line.fault) one.reply)
      → NotesWell past (noted_if_first noting done (Some line)) (if done == 0 then one else other).reply
  first-notes past noting done line one other notes = by (done == 0) notes
    where
      by : (first : Bool) → (first ≡ true → NotesWell past (noting line.text line.fault) one.reply)
          → NotesWell past (if first then noting line.text line.fault else Keeps) (if first then one else other).reply
      by true notes = notes refl
      by false notes = tt

  -- a line was not done, and is told so in any case
  any-notes : (past : List Request) (noting : List ℕ → LineFault → Noting) (done : ℕ) (line : LineRefused) (reply : Option Reply)
      → ((done == 0) ≡ true → NotesWell past (noting line.text line.fault) reply) → NotesWell past (noted_if_first noting done (Some line)) reply
  any-notes past noting done line reply notes = by (done == 0) notes
    where
      by : (first : Bool) → (first ≡ true → NotesWell past (noting line.text line.fault) reply)
          → NotesWell past (if first then noting line.text line.fault else Keeps) reply
      by true notes = notes refl
      by false notes = tt

  -- ---- WRITE

  text-notes : (handle : ℕ) (file : OpenSeen) (bytes : List ℕ) → F file → Writes operation bytes → StepNotes (write_text g s handle file bytes)
  text-notes handle file bytes by own ran runs = lines ran.done ran.refused (λ line refused none. first-refused g s.past asked ran line ends runs refused none)
    where
      noting : List ℕ → LineFault → Noting
      noting = noted_command (begun_now g s file) (path_of (scene_of g s) (node_of file)) file.file

      asked : List LineAsked
      asked = written_lines (scene_of g s) file.owner file.file (not file.starts_over) bytes

      ends : EndLater asked
      ends = lines-end (line_command (scene_of g s) (nodes.File file.owner file.file) file.file) file.file (not file.starts_over) bytes

      -- of the first line that is told
      notes : (line : LineRefused) → (ran.past ≡ s.past) × FirstStops g s.past asked line.text line.fault
          → NotesWell ran.past (noting line.text line.fault) (Some (replies.Error (errno_of_fault line.fault)))
      notes line (same, stops) =
          subst (λ (p : List Request). NotesWell p (noting line.text line.fault) (Some (replies.Error (errno_of_fault line.fault)))) (sym same)
          (command-notes file bytes line.text line.fault by own stops)

      lines : (done : ℕ) (refused : Option LineRefused)
          → ((line : LineRefused) → refused ≡ Some line → (done == 0) ≡ true → (ran.past ≡ s.past) × FirstStops g s.past asked line.text line.fault)
          → NotesWell ran.past (noted_if_first noting done refused) (written handle (length bytes) s.files done refused).reply
      lines done None first = tt
      lines done (Some line) first =
          first-notes ran.past noting done line (told (replies.Error (errno_of_fault line.fault)) s.files) (told (replies.Written done) (with_write handle s.files))
          (λ none. notes line (first line refl none))

  switch-notes : (handle size : ℕ) (file : OpenSeen) (bytes : List ℕ) (switch : File) (on : Bool) → F file → Writes operation bytes
      → tool_write g.config (scene_of g s) file.owner file.file bytes ≡ writes.Switch switch on size → StepNotes (write_switch g s handle file bytes switch on size)
  switch-notes handle size file bytes switch on by written comes (Ok answer) answered = tt
  switch-notes handle size file bytes switch on by written comes (Err Memory) answered = tt
  switch-notes handle size file bytes switch on by written comes (Err refusal) answered =
      well file bytes _ _ (errno_of refusal) by (OfSwitch switch on size refusal written comes (answered (λ same. absurd (cc))) refl refl)

  tool-notes : (handle : ℕ) (file : OpenSeen) (bytes : List ℕ) (comes : ToolWrite) → F file → Writes operation bytes → kind_of_file file.file ≡ kinds.Tool
      → tool_write g.config (scene_of g s) file.owner file.file bytes ≡ comes → StepNotes (write_tool g s handle file bytes comes)
  tool-notes handle file bytes writes.Missing by written tool is = tt
  tool-notes handle file bytes writes.Wrong by written tool is = well file bytes _ _ EINVAL by (OfWord written tool is refl refl)
  tool-notes handle file bytes writes.Same by written tool is = tt
  tool-notes handle file bytes (writes.Switch switch on size) by written tool is = switch-notes handle size file bytes switch on by written is

  other-notes : (handle : ℕ) (file : OpenSeen) (bytes : List ℕ) (kind : FileKind) → F file → Writes operation bytes → kind_of_file file.file ≡ kind
      → StepNotes (write_other g s handle file bytes kind)
  other-notes handle file bytes kinds.Tool by written is =
      tool-notes handle file bytes (tool_write g.config (scene_of g s) file.owner file.file bytes) by written is refl
  other-notes handle file bytes kinds.ErrorLog by written is = tt
  other-notes handle file bytes kinds.Text by written is = text-notes handle file bytes by written
  other-notes handle file bytes kinds.Trace by written is = text-notes handle file bytes by written
  other-notes handle file bytes kinds.Pipe by written is = text-notes handle file bytes by written
  other-notes handle file bytes kinds.RawPipe by written is = text-notes handle file bytes by written
  other-notes handle file bytes kinds.Inject by written is = text-notes handle file bytes by written

  -- what its open file keeps, where open files keep lines
  abbrev Kept : OpenSeen → Type 0
  Kept file = KeepLines s → KeepsLine file

  stream-notes : (handle lock_owner : ℕ) (bytes : List ℕ) (file : OpenSeen) (event : Definition) → F file → Injects file event → Kept file → Writes operation bytes
      → StepNotes (inject_stream g s handle lock_owner pid bytes file event)
  stream-notes handle lock_owner bytes file event by ends keeps written ran runs =
      lines ran.done ran.refused (λ line refused none all. stops-first ran.past file event asked line.text line.fault (refuses line.text line.fault)
      (first-refused g s.past asked ran line (stream-ends asking (length bytes) file.stream.rest bytes (keeps all).unended) runs refused none))
    where
      asking : List ℕ → Asking
      asking = asked_by_line g.config.cpus pid event

      asked : List LineAsked
      asked = stream_lines asking (length file.stream.rest) (length bytes) 0 (pieces_of (file.stream.rest ++ bytes))

      after : Stream
      after = stream_after file.stream lock_owner pid bytes

      noting : List ℕ → LineFault → Noting
      noting = noted_line (begun_now g (record s { past = ran.past }) file)

      refuses : (text : List ℕ) (fault : LineFault) → IsFirstRefused g s.past asked text fault → Refuses file event text fault
      refuses text fault first =
          subst (λ (n : ℕ). IsStreamRefused g s.past (asked_by_line g.config.cpus n event) (not_done file operation) text fault) (sym (writes-whose operation bytes file pid written))
          (subst (λ (own : List ℕ). IsStreamRefused g s.past asking (file.stream.rest ++ own) text fault) (sym (writes-are operation bytes written))
          (stream-refused g s.past asking (length file.stream.rest) (length bytes) (file.stream.rest ++ bytes) text fault (none-too-long g.config.cpus pid event) first))

      lines : (done : ℕ) (refused : Option LineRefused)
          → ((line : LineRefused) → refused ≡ Some line → (done == 0) ≡ true → KeepLines s → StopsFirst ran.past file event line.text line.fault)
          → NotesWell ran.past (noted_if_first noting done refused) (injected handle after (length bytes) s.files done refused).reply
      lines done None first = tt
      lines done (Some line) first =
          first-notes ran.past noting done line
          (told (replies.Error (errno_of_fault line.fault)) (if is_memory line.fault then s.files else drop_rest handle s.files))
          (told (replies.Written done) (with_stream (without_rest after) handle s.files))
          (λ none. line-notes ran.past file event line.text line.fault by ends (first line refl none))

  -- one line, of the process whose it is, and of bytes that are the first not done where open files keep lines
  single-notes : (own : List ℕ) (whose : ℕ) (file : OpenSeen) (event : Definition) (outcome : Option LineRefused → Outcome) → F file → Injects file event
      → writer_of file operation pid ≡ whose → (KeepLines s → own ≡ first_not_done file operation)
      → ((line : LineRefused) → (outcome (Some line)).reply ≡ Some (replies.Error (errno_of_fault line.fault)))
      → (ran : Ran) → MayRun g s.past (line_at_once (asked_by_line g.config.cpus whose event) own) ran
      → NotesWell ran.past (noted_first_injection g s file ran) (outcome ran.refused).reply
  single-notes own whose file event outcome by ends same is says ran runs =
      lines ran.refused (λ line refused none all. stops-first ran.past file event asked line.text line.fault (refuses line.text line.fault all)
      (first-refused g s.past asked ran line (inr refl, tt) runs refused none))
    where
      asking : List ℕ → Asking
      asking = asked_by_line g.config.cpus whose event

      asked : List LineAsked
      asked = line_at_once asking own

      noting : List ℕ → LineFault → Noting
      noting = noted_line (begun_now g (record s { past = ran.past }) file)

      refuses : (text : List ℕ) (fault : LineFault) → KeepLines s → IsFirstRefused g s.past asked text fault → Refuses file event text fault
      refuses text fault all first =
          subst (λ (n : ℕ). IsStreamRefused g s.past (asked_by_line g.config.cpus n event) (not_done file operation) text fault) (sym same)
          (once-refused g s.past asking own (not_done file operation) text fault (none-too-long g.config.cpus whose event) (is all) first)

      lines : (refused : Option LineRefused)
          → ((line : LineRefused) → refused ≡ Some line → (ran.done == 0) ≡ true → KeepLines s → StopsFirst ran.past file event line.text line.fault)
          → NotesWell ran.past (noted_if_first noting ran.done refused) (outcome refused).reply
      lines None first = tt
      lines (Some line) first =
          any-notes ran.past noting ran.done line (outcome (Some line)).reply
          (λ none. subst (λ (r : Option Reply). NotesWell ran.past (noting line.text line.fault) r) (sym (says line))
          (line-notes ran.past file event line.text line.fault by ends (first line refl none)))

  once-notes : (bytes : List ℕ) (file : OpenSeen) (event : Definition) → F file → Injects file event → Kept file → Writes operation bytes
      → goes_on file.stream bytes ≡ false → StepNotes (inject_at_once g s pid bytes file event)
  once-notes bytes file event by ends keeps written apart =
      single-notes bytes pid file event (injected_at_once (length bytes) s.files) by ends (writes-whose operation bytes file pid written) own (λ line. refl)
    where
      both : (file.stream.is_stream ≡ false) × (has_newline bytes ≡ false)
      both = neither file.stream.is_stream (has_newline bytes) apart

      own : KeepLines s → bytes ≡ first_not_done file operation
      own all =
          sym (ap (λ (rest : List ℕ). before_first is_newline (rest ++ bytes_written operation)) ((keeps all).streamed both.0)
          ∙ ap (before_first is_newline) (writes-are operation bytes written) ∙ all-first bytes both.1)

  inject-notes : (handle lock_owner : ℕ) (bytes : List ℕ) (file : OpenSeen) (event : Option Definition) → F file → Kept file → Writes operation bytes
      → event_injected s file.file ≡ event → StepNotes (inject g s handle lock_owner pid bytes file event)
  inject-notes handle lock_owner bytes file None by keeps written is = tt
  inject-notes handle lock_owner bytes file (Some event) by keeps written is = by_kind (goes_on file.stream bytes) refl
    where
      ends : Injects file event
      ends = (writes-end operation bytes written, is)

      by_kind : (goes : Bool) → goes_on file.stream bytes ≡ goes
          → StepNotes (if goes then inject_stream g s handle lock_owner pid bytes file event else inject_at_once g s pid bytes file event)
      by_kind true at = stream-notes handle lock_owner bytes file event by ends keeps written
      by_kind false at = once-notes bytes file event by ends keeps written at

  kind-notes : (handle lock_owner : ℕ) (bytes : List ℕ) (own : OpenSeen) (file : File) → F own → Kept own → Writes operation bytes → own.file ≡ file
      → StepNotes (write_kind g s handle lock_owner pid bytes own file)
  kind-notes handle lock_owner bytes own (files.Inject event) by keeps written same =
      inject-notes handle lock_owner bytes own (slice_get (declared_events s.past) event) by keeps written (ap (λ (f : File). event_injected s f) same)
  kind-notes handle lock_owner bytes own _ by keeps written same = other-notes handle own bytes (kind_of_file own.file) by written refl

  write-notes : (handle lock_owner : ℕ) (bytes : List ℕ) (slot : Option OpenSeen) → ((file : OpenSeen) → slot ≡ Some file → F file)
      → ((file : OpenSeen) → slot ≡ Some file → Kept file) → Writes operation bytes → StepNotes (write_file g s handle lock_owner pid bytes slot)
  write-notes handle lock_owner bytes None by keeps written = tt
  write-notes handle lock_owner bytes (Some own) by keeps written =
      either StepNotes (is_there (scene_of g s) (node_of own)) (write_kind g s handle lock_owner pid bytes own own.file) (failed ENOENT s.files)
      (kind-notes handle lock_owner bytes own own.file (by own refl) (keeps own refl) written refl) tt

  -- ---- FLUSH, RELEASE

  -- a request that writes nothing may end a line
  abbrev EndsKept : Type 0
  EndsKept = EndsLines operation × (bytes_written operation ≡ []) × ((file : OpenSeen) → writer_of file operation pid ≡ file.stream.pid)

  end-notes : (file : OpenSeen) (outcome : Option LineRefused → Outcome) (event : Definition) → F file → Kept file → EndsKept → event_injected s file.file ≡ Some event
      → ((line : LineRefused) → (outcome (Some line)).reply ≡ Some (replies.Error (errno_of_fault line.fault))) → StepNotes (end_line g s file outcome event)
  end-notes file outcome event by keeps ends is says =
      single-notes file.stream.rest file.stream.pid file event outcome by (ends.0, is) (ends.2 file) own says
    where
      own : KeepLines s → file.stream.rest ≡ first_not_done file operation
      own all =
          sym (ap (λ (more : List ℕ). before_first is_newline (file.stream.rest ++ more)) ends.1
          ∙ ap (before_first is_newline) (append-nil file.stream.rest) ∙ all-first file.stream.rest (keeps all).unended)

  flush-line-notes : (handle : ℕ) (file : OpenSeen) (event : Option Definition) → F file → Kept file → EndsKept → event_of_file g s file file.file ≡ event
      → StepNotes (flush_line g s handle file event)
  flush-line-notes handle file None by keeps ends is = tt
  flush-line-notes handle file (Some event) by keeps ends is =
      end-notes file (flushed handle s.files) event by keeps ends (event-there file file.file event is) (λ line. refl)

  flush-notes : (handle lock_owner : ℕ) (slot : Option OpenSeen) → ((file : OpenSeen) → slot ≡ Some file → F file)
      → ((file : OpenSeen) → slot ≡ Some file → Kept file) → EndsKept → StepNotes (flush_file g s handle lock_owner slot)
  flush-notes handle lock_owner None by keeps ends = tt
  flush-notes handle lock_owner (Some file) by keeps ends =
      either StepNotes (has_rest file && file.stream.lock_owner == lock_owner) (flush_line g s handle file (event_of_file g s file file.file)) (plain replies.Done s.files)
      (flush-line-notes handle file (event_of_file g s file file.file) (by file refl) (keeps file refl) ends refl) tt

  release-line-notes : (handle : ℕ) (file : OpenSeen) (event : Option Definition) → F file → Kept file → EndsKept → event_of_file g s file file.file ≡ event
      → StepNotes (release_line g s handle file event)
  release-line-notes handle file None by keeps ends is = tt
  release-line-notes handle file (Some event) by keeps ends is =
      end-notes file (released handle s.files) event by keeps ends (event-there file file.file event is) (λ line. refl)

  release-notes : (handle : ℕ) (slot : Option OpenSeen) → ((file : OpenSeen) → slot ≡ Some file → F file)
      → ((file : OpenSeen) → slot ≡ Some file → Kept file) → EndsKept → StepNotes (release g s handle slot)
  release-notes handle None by keeps ends = tt
  release-notes handle (Some file) by keeps ends =
      either StepNotes (has_rest file) (release_line g s handle file (event_of_file g s file file.file)) (plain replies.Done (without_file handle s.files))
      (release-line-notes handle file (event_of_file g s file file.file) (by file refl) (keeps file refl) ends refl) tt

  -- ---- OPEN

  emptied-notes : (flags : ℕ) (file : OpenSeen) (asked : File) (text : List ℕ) → F (record file { starts_over = false }) → Opens operation flags
      → emptying_of file.file (empties flags) ≡ AsksToWrite asked text
      → StepNotes (emptied (scene_of g s) (now_of s.past) (record file { starts_over = false }) s.files asked text)
  emptied-notes flags file asked text by opens empties (Ok answer) answered = tt
  emptied-notes flags file asked text by opens empties (Err Memory) answered = tt
  emptied-notes flags file asked text by opens empties (Err refusal) answered =
      well (record file { starts_over = false }) [] _ _ (errno_of refusal) by
      (OfNothing flags asked text refusal opens empties (answered (λ same. absurd (cc))) refl refl refl)

  emptying-notes : (flags : ℕ) (file : OpenSeen) (asked : Emptying) → F (record file { starts_over = false }) → Opens operation flags
      → emptying_of file.file (empties flags) ≡ asked → StepNotes (opened_unless_emptied (scene_of g s) (now_of s.past) flags file s.files asked)
  emptying-notes flags file AsksNone by opens is =
      either StepNotes (clears file.file flags) (Tells (Forgets file.owner) true (handed_out file s.files)) (Takes (handed_out file s.files)) tt tt
  emptying-notes flags file (AsksToWrite asked text) by opens is = emptied-notes flags file asked text by opens is

  open-notes : (flags : ℕ) (found : Option Node) → ((file : OpenSeen) → found ≡ Some (node_of file) → F file) → Opens operation flags
      → StepNotes (opened (scene_of g s) (now_of s.past) flags found s.files)
  open-notes flags None by opens = tt
  open-notes flags (Some (nodes.Folder owner folder)) by opens = tt
  open-notes flags (Some (nodes.File owner file)) by opens =
      either StepNotes (may (access_of_file file) (wants_read flags) (wants_write flags))
      (opened_file (scene_of g s) (now_of s.past) flags (just_opened owner file (empties flags)) s.files) (failed EACCES s.files)
      (emptying-notes flags (just_opened owner file (empties flags)) (emptying_of file (empties flags)) (by (just_opened owner file false) refl) opens refl) tt

  -- ---- what notes nothing

  size-notes : (telling : Telling) (owner : Owner) (file : File) (count : Option Counted) → StepNotes (size_of_text g s telling owner file count)
  size-notes telling owner file count =
      either StepNotes (is_recent (length s.past) count) (plain (telling (size_counted count)) s.files) (count_text g s telling owner file) tt tt

  by-kind-notes : (telling : Telling) (pages : ℕ) (owner : Owner) (file : File) (kind : FileKind) → StepNotes (size_by_kind g s telling pages owner file kind)
  by-kind-notes telling pages owner file kinds.Pipe = tt
  by-kind-notes telling pages owner file kinds.RawPipe = tt
  by-kind-notes telling pages owner file kinds.Inject = tt
  by-kind-notes telling pages owner file kinds.ErrorLog = tt
  by-kind-notes telling pages owner file _ = size-notes telling owner file (count_of (number_of (nodes.File owner file)) s.counted)

  tell-notes : (telling : Telling) (pages : ℕ) (node : Node) → StepNotes (tell_size g s telling pages node)
  tell-notes telling pages (nodes.Folder owner folder) = tt
  tell-notes telling pages (nodes.File owner file) = by-kind-notes telling pages owner file (kind_of_file file)

  entry-notes : (unique : ℕ) (found : Option Node) → StepNotes (tell_entry g s unique found)
  entry-notes unique None = tt
  entry-notes unique (Some node) = tell-notes (λ size. replies.Entry (entry_number unique node) (attributes_of g node size)) (2 ^ 40) node

  attributes-notes : (found : Option Node) → StepNotes (tell_attributes g s found)
  attributes-notes None = tt
  attributes-notes (Some node) = tell-notes (λ size. replies.Attributes (attributes_of g node size)) 0 node

  set-notes : (target : Option Node) (valid size : ℕ) → StepNotes (set_attributes g s target valid size)
  set-notes target valid size =
      either StepNotes (sets_size valid size) (failed EINVAL s.files) (get_attributes g s target) tt (attributes-notes (known (scene_of g s) target))

  -- a folder's node is found where it is, or none
  made-notes : (name : List ℕ) (folder : Option Node) → StepNotes (make_folder g (scene_of g s) name s.files folder)
  made-notes name None = tt
  made-notes name (Some (nodes.Folder Top folders.Instances)) =
      either StepNotes (nat_lt (scene_of g s).made most_made)
      (Asks (MakeInstance (Some name)) (made_folder g (scene_of g s).made s.files)) (failed ENOSPC s.files) tt tt
  made-notes name _ = tt

  forgotten-notes : (target : Option Node) (past : List Request) (reply : Option Reply) → NotesWell past (forgotten target) reply
  forgotten-notes None past reply = tt
  forgotten-notes (Some (nodes.Folder owner folder)) past reply = tt
  forgotten-notes (Some (nodes.File owner file)) past reply = tt

  removed-notes : (name : List ℕ) (folder : Option Node) → StepNotes (remove_folder (scene_of g s) name s.files folder)
  removed-notes name None = tt
  removed-notes name (Some (nodes.Folder Top folders.Instances)) =
      λ answer is. answered (found_in (scene_of g s) name (Some (nodes.Folder Top folders.Instances))) answer
    where
      answered : (target : Option Node) (answer : Result Answer Refusal)
          → NotesWell (past_after answer (RemoveInstance (Some name)) s.past) (forgotten_if_done target answer) (removed_folder s.files answer).reply
      answered target (Ok answer) = forgotten-notes target (RemoveInstance (Some name) ∷ s.past) (Some replies.Done)
      answered target (Err refusal) = tt
  removed-notes name _ = tt

  polled-notes : (handle wakeup flags : ℕ) (file : OpenSeen) (kind : FileKind) → StepNotes (poll_kind g s handle wakeup flags file kind)
  polled-notes handle wakeup flags file kinds.Pipe = tt
  polled-notes handle wakeup flags file kinds.RawPipe = tt
  polled-notes handle wakeup flags file _ = tt

  poll-notes : (handle wakeup flags : ℕ) (slot : Option OpenSeen) → StepNotes (poll_file g s handle wakeup flags slot)
  poll-notes handle wakeup flags None = tt
  poll-notes handle wakeup flags (Some file) = polled-notes handle wakeup flags file (kind_of_file file.file)

-- ---- all requests

request-notes : (g : Terms) (s : Service) (unique pid : ℕ) (target : Option Node) (operation : Operation)
    → StepNotes g s pid operation (IsFileOf g s target operation) (step_of g s unique pid target operation)
request-notes g s unique pid target (operations.Lookup name) = entry-notes g s pid (operations.Lookup name) (λ file. ⊥) unique (found_in (scene_of g s) name target)
request-notes g s unique pid target operations.GetAttr = attributes-notes g s pid operations.GetAttr (λ file. ⊥) (known (scene_of g s) target)
request-notes g s unique pid target (operations.SetAttr valid size) = set-notes g s pid (operations.SetAttr valid size) (λ file. ⊥) target valid size
request-notes g s unique pid target (operations.MkDir name) = made-notes g s pid (operations.MkDir name) (λ file. ⊥) name (known (scene_of g s) target)
request-notes g s unique pid target (operations.RmDir name) = removed-notes g s pid (operations.RmDir name) (λ file. ⊥) name (known (scene_of g s) target)
request-notes g s unique pid target (operations.Open flags) =
    open-notes g s pid (operations.Open flags) (λ file. known (scene_of g s) target ≡ Some (node_of file)) flags (known (scene_of g s) target) (λ file is. is) refl
request-notes g s unique pid target (operations.Read handle offset size read_flags flags) =
    read-notes g s pid (operations.Read handle offset size read_flags flags) (λ file. ⊥) unique (step_of g s unique pid target (operations.Read handle offset size read_flags flags))
    (read-step g s (read_of_pipe unique handle size) offset (is_cached read_flags) flags (file_at handle s.files))
request-notes g s unique pid target (operations.Write handle offset lock_owner bytes) =
    write-notes g s pid (operations.Write handle offset lock_owner bytes) (λ file. file_at handle s.files ≡ Some file) handle lock_owner bytes (file_at handle s.files)
    (λ file is. is) (λ file is all. all handle file is) refl
request-notes g s unique pid target (operations.Flush handle lock_owner) =
    flush-notes g s pid (operations.Flush handle lock_owner) (λ file. file_at handle s.files ≡ Some file) handle lock_owner (file_at handle s.files)
    (λ file is. is) (λ file is all. all handle file is) (tt, refl, λ file. refl)
request-notes g s unique pid target (operations.Release handle) =
    release-notes g s pid (operations.Release handle) (λ file. file_at handle s.files ≡ Some file) handle (file_at handle s.files)
    (λ file is. is) (λ file is all. all handle file is) (tt, refl, λ file. refl)
request-notes g s unique pid target (operations.Poll handle wakeup flags events) =
    poll-notes g s pid (operations.Poll handle wakeup flags events) (λ file. ⊥) handle wakeup flags (file_at handle s.files)
request-notes g s unique pid target _ = tt

-- what is told of a parked read notes nothing
telling-notes : (g : Terms) (before : Service) (what : Option Owed) (bytes : List ℕ) (after : Service) (error : ErrorSeen) (told : TellsOwed g before what bytes after)
    → noting_told g before what bytes after told ≡ Notes error → ⊥
telling-notes g before None bytes after error told is = absurd told
telling-notes g before (Some (ReplyAt index)) bytes after error told is =
    let step = step_of_parked g before told.read in
    (noted-well g before 0 operations.GetAttr (λ file. ⊥) (without_read index before) step (Some told.reply) after error told.does refl
    (read-notes g before 0 operations.GetAttr (λ file. ⊥) told.read.unique step (parked-step g before told.read)) is).by
telling-notes g before (Some (WakeupAt handle)) bytes after error told is = absurd (let no : Keeps ≡ Notes error = is in cc)

asking-notes : (g : Terms) (before : Service) (asked bytes : List ℕ) (after : Service) (error : ErrorSeen) (served : AreServed g before asked bytes after)
    → noting_asked g before asked bytes after served ≡ Notes error → (request : Asked) × IsRequest asked request × IsNoted g before request bytes after error
asking-notes g before asked bytes after error (Right request is served) notes =
    let well = noted-well g before request.pid request.operation (IsFileOf g before served.node request.operation) before
    (step_of g before request.unique request.pid served.node request.operation) served.reply after error served.does refl
    (request-notes g before request.unique request.pid served.node request.operation) notes in (
      request,
      is,
      record {
        node = served.node;
        named = served.named;
        file = well.file;
        by = well.by;
        errno = well.errno;
        write = well.write;
        told = served.told ∙ ap (bytes_of_reply request.unique) well.told;
        undone = well.undone;
      },
    )
asking-notes g before asked bytes after error (Wrong opcode unique framed other told same) notes = absurd (let no : Keeps ≡ Notes error = notes in cc)
asking-notes g before asked bytes after error (Unframed other told same) notes = absurd (let no : Keeps ≡ Notes error = notes in cc)

pub noted_writes_were_refused : NotedWritesWereRefused
noted_writes_were_refused g before [] bytes after told error notes = absurd (telling-notes g before (owed g before) bytes after error told notes)
noted_writes_were_refused g before (byte ∷ asked) bytes after (quiet, exchanged) error notes =
    asking-notes g before (byte ∷ asked) bytes after error exchanged notes
