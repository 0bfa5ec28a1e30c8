-- Each write that is refused is noted.
use Rattle.std.proofs.Common.{◌≡◌, ◌≢◌, inl, inr, ℕ, ◌<◌, ◌+◌, ◌-◌, ◌^◌, ◌==◌, zero, suc, eqb, codes, Bool, true, false, not, ◌&&◌, if◌then◌else◌, List, [], ◌∷◌, length, take, drop, Option, Some, None, is_some, Result, Ok, Err, refl, sym, ap, subst, ◌∙◌, slice_get, arith}
use Rattle.std.proofs.lemmas.Bool.{and_parts, eqb-true, false≢true}
use Rattle.std.specs.Int.{w32}
use Rattle.std.specs.List.{AllByRecursion}
use Rattle.std.specs.Str.{bytes_eq}
use Rattle.fuse_wire.proofs.Framing.{request_framed}
use Rattle.fuse_wire.proofs.NumberLemmas.{length-number_32}
use Rattle.fuse_wire.proofs.Opcodes.{number_at}
use Rattle.fuse_wire.proofs.PartLemmas.{first_part}
use Rattle.fuse_wire.proofs.ReplyKinds.{replies_of_a_kind_differ}
use Rattle.fuse_wire.proofs.ReplyLaws.{replies_differ, replies_tell_their_length}
use Rattle.fuse_wire.proofs.RequestLaws.{requests_differ}
use Rattle.fuse_wire.specs.Parts.{U64, number_bytes}
use Rattle.fuse_wire.specs.Replies.{errno_number, error_of, reply_bytes}
use Rattle.fuse_wire.specs.Requests.{IsRequest, opcode_of}
use Rattle.fuse_wire.specs.declared.errno.Errno.{Errno}
use Rattle.fuse_wire.specs.declared.errno.Errno.TheVariants.{EPERM, ENOENT, EINTR, EIO, ENXIO, E2BIG, EBADF, EAGAIN, ENOMEM, EACCES, EBUSY, EEXIST, ENODEV, ENOTDIR, EISDIR, EINVAL, ENOSPC, ENOSYS, ENOTEMPTY, EPROTO}
use Rattle.fuse_wire.specs.declared.reply.Reply.{Reply}
use Rattle.fuse_wire.specs.declared.reply.Reply.TheVariants as replies
use Rattle.fuse_wire.specs.declared.request.Operation.{Operation}
use Rattle.fuse_wire.specs.declared.request.Operation.TheVariants as operations
use Rattle.fuse_wire.specs.declared.request.Request.{Request as Asked}
use Rattle.trace_command.specs.Requests.{Request}
use Rattle.trace_command.specs.declared.command.Config.{Config}
use Rattle.trace_command.specs.declared.command.Reply.{Reply as Answer}
use Rattle.trace_command.specs.declared.file_name.CpuFile.TheVariants as per_cpu
use Rattle.trace_command.specs.declared.file_name.EventFile.TheVariants as per_event
use Rattle.trace_command.specs.declared.file_name.TopFile.TheVariants as top
use Rattle.trace_command.specs.declared.refusal.Refusal.{Refusal}
use Rattle.trace_command.specs.declared.refusal.Refusal.TheVariants.{Memory}
use Rattle.trace_format.specs.Definitions.{Definition}
use Rattle.trace_lex.specs.Decimals.{written_number}
use Rattle.tracer_specification.specs.Settings.{declared_events, now_of}
use Rattle.error_log.specs.Errors.{ErrorSeen, begun}
use Rattle.mount_tree.proofs.ListLemmas.{all-unmapped, found_one, found_passes}
use Rattle.mount_tree.proofs.SoundLemmas.{indexes-below}
use Rattle.mount_tree.specs.Children.{is_there, owner_is_there}
use Rattle.file_list.specs.FileKinds.{access_of_file, kind_of_file, takes_lines}
use Rattle.mount_tree.specs.NodePaths.{path_of}
use Rattle.mount_tree.specs.Scenes.{SceneSeen, event_at}
use Rattle.mount_tree.specs.ScenesAfter.{events_after}
use Rattle.file_list.specs.declared.file.File.{File}
use Rattle.file_list.specs.declared.file.File.TheVariants as files
use Rattle.file_list.specs.declared.file.FileKind.{FileKind}
use Rattle.file_list.specs.declared.file.FileKind.TheVariants as kinds
use Rattle.mount_tree.specs.declared.node.Node.{Node}
use Rattle.mount_tree.specs.declared.node.Node.TheVariants as nodes
use Rattle.mount_tree.specs.declared.scene.Event.{Event}
use Rattle.file_list.specs.declared.files.ToolFile.{ToolFile}
use Rattle.file_list.specs.declared.files.ToolFile.TheVariants as tools
use Rattle.file_list.specs.declared.files.TopTool.TheVariants as top_tools
use Rattle.mount_stub_files.specs.EventWords.{is_off, named, switch_of}
use Rattle.mount_stub_files.specs.ToolTexts.{cpu_mask, ring_kilobytes}
use Rattle.mount_stub_files.specs.ToolWrites.{events_write, is_number, switched, tool_file_write, tool_write}
use Rattle.mount_stub_files.specs.ToolWrites.{write_there as there_write}
use Rattle.mount_stub_files.specs.Words.{first_word, only_word, word_size}
use Rattle.mount_stub_files.specs.WrongWords.{wrong_offset}
use Rattle.mount_stub_files.specs.declared.write.ToolWrite.{ToolWrite}
use Rattle.mount_stub_files.specs.declared.write.ToolWrite.TheVariants as writes
use Rattle.mount_replies.proofs.CountedLemmas.{named-same}
use Rattle.mount_replies.proofs.KeptTexts.{either}
use Rattle.mount_replies.specs.Errnos.{errno_of}
use Rattle.mount_replies.specs.FileWrites.{begun_now, end_line, event_of_file, flush_file, flush_line, has_rest, inject, inject_at_once, inject_stream, noted_first_injection, release, release_line, switch_text, write_file, write_kind, write_other, write_switch, write_text, write_tool}
use Rattle.mount_replies.specs.Lines.{asked_by_line, command_lines, errno_of_fault, flushed, goes_on, has_newline, injected, injected_at_once, is_blank_line, is_memory, line_command, lines_of, noted_answer, noted_command, noted_if_first, noted_line, one_command, pieces_of, released, stream_after, without_newline, written, written_lines}
use Rattle.mount_replies.specs.Mounted.{AreServed, Does, IsLineRun, IsNamed, IsRun, IsServed, MayRun, Right, Unframed, Wrong, bytes_of_reply, stopped_at}
use Rattle.mount_replies.specs.Served.{AsksNone, AsksToWrite, Emptying, clears, emptied, emptying_of, handed_out, opened, opened_file, opened_unless_emptied, step_of}
use Rattle.mount_replies.specs.ServedErrors.{IsFileOf, MayWrite, RefusedWritesAreNoted, noting_asked, noting_by}
use Rattle.mount_replies.specs.Services.{OpenSeen, Service, Terms, drop_rest, just_opened, node_of, scene_of, with_stream, with_write, without_file, without_rest}
use Rattle.mount_replies.specs.Steps.{Asking, Asks, AsksFor, AsksLines, AsksNothing, AsksNoting, Counts, Forgets, Interrupts, IsTooLong, IsWrongLine, Keeps, LineAsked, LineRefused, Notes, Noting, Outcome, Parks, Plain, Ran, Step, Takes, Tells, failed, plain, told}
use Rattle.mount_replies.specs.Told.{empties, may, wants_read, wants_write}
use Rattle.mount_replies.specs.declared.fault.LineFault.{LineFault}
use Rattle.mount_replies.specs.declared.fault.LineFault.TheVariants.{NoCommand, Refused, TooLong}
use Rattle.mount_replies.specs.declared.stream.Stream.{Stream}

-- ---- replies with errors

-- an error is noted
abbrev IsNoting : Noting → Type 0
IsNoting noting = (error : ErrorSeen) × (noting ≡ Notes error)

-- where an error is replied, but that memory was refused, one is noted
abbrev NotesErrors : Noting → Option Reply → Type 0
NotesErrors noting reply = (errno : Errno) → errno ≢ ENOMEM → reply ≡ Some (replies.Error errno) → IsNoting noting

no-memory : (noting : Noting) → NotesErrors noting (Some (replies.Error ENOMEM))
no-memory noting errno other is = absurd (other (let same : Some (replies.Error ENOMEM) ≡ Some (replies.Error errno) = is in cc))

noted-one : (error : ErrorSeen) (reply : Option Reply) → NotesErrors (Notes error) reply
noted-one error reply errno other is = (error, refl)

done-none : (noting : Noting) → NotesErrors noting (Some replies.Done)
done-none noting errno other is = absurd (let no : Some replies.Done ≡ Some (replies.Error errno) = is in cc)

written-none : (noting : Noting) (size : ℕ) → NotesErrors noting (Some (replies.Written size))
written-none noting size errno other is = absurd (let no : Some (replies.Written size) ≡ Some (replies.Error errno) = is in cc)

opened-none : (noting : Noting) (handle flags : ℕ) → NotesErrors noting (Some (replies.Opened handle flags))
opened-none noting handle flags errno other is = absurd (let no : Some (replies.Opened handle flags) ≡ Some (replies.Error errno) = is in cc)

-- ---- lines

-- a line of `inject` that was not done
line-noted : (event : Definition) (begun : ErrorSeen) (text : List ℕ) (fault : LineFault)
    → NotesErrors (noted_line begun text fault) (Some (replies.Error (errno_of_fault fault)))
line-noted event begun text (Refused Memory) = no-memory Keeps
line-noted event begun text (Refused refusal) = noted-one _ (Some (replies.Error (errno_of refusal)))
line-noted event begun text NoCommand = noted-one _ (Some (replies.Error EINVAL))
line-noted event begun text TooLong = noted-one _ (Some (replies.Error EINVAL))

-- a command that was refused
command-noted : (begun : ErrorSeen) (path : List ℕ) (file : File) (text : List ℕ) (refusal : Refusal)
    → NotesErrors (noted_command begun path file text (Refused refusal)) (Some (replies.Error (errno_of refusal)))
command-noted begun path file text Memory = no-memory Keeps
command-noted begun path file text refusal = noted-one _ (Some (replies.Error (errno_of refusal)))

answer-noted : (begun : ErrorSeen) (path text shown : List ℕ) (at : ℕ) (refusal : Refusal)
    → NotesErrors (noted_answer begun path text shown at (Err refusal)) (Some (replies.Error (errno_of refusal)))
answer-noted begun path text shown at Memory = no-memory Keeps
answer-noted begun path text shown at refusal = noted-one _ (Some (replies.Error (errno_of refusal)))

-- all of these lines are commands
abbrev IsCommand : Asking → Type 0
IsCommand (AsksFor request) = Unit {0}
IsCommand _ = ⊥

abbrev AreCommands : List LineAsked → Type 0
AreCommands lines = AllByRecursion (λ (line : LineAsked). IsCommand line.asking) lines

commands-are : (asking : Bool → List ℕ → Asking) → ((append : Bool) (line : List ℕ) → IsCommand (asking append line)) → (append : Bool) (size start : ℕ) (pieces : List (List ℕ))
    → AreCommands (command_lines asking append size start pieces)
unfolding command_lines
commands-are asking are append size start [] = tt
commands-are asking are append size start (line ∷ []) =
    either AreCommands (is_blank_line line) [] (one_command asking append size line) tt (are append line, tt)
commands-are asking are append size start (line ∷ next ∷ more) =
    either AreCommands (is_blank_line line) (command_lines asking append size (start + length line + 1) (next ∷ more))
    (record { text = line; asking = asking append line; end = start + length line + 1 } ∷ command_lines asking true size (start + length line + 1) (next ∷ more))
    (commands-are asking are append size (start + length line + 1) (next ∷ more))
    (are append line, commands-are asking are true size (start + length line + 1) (next ∷ more))

lines-are : (asking : Bool → List ℕ → Asking) → ((append : Bool) (line : List ℕ) → IsCommand (asking append line)) → (file : File) (append : Bool) (bytes : List ℕ)
    → AreCommands (lines_of asking file append bytes)
lines-are asking are file append bytes =
    either AreCommands (takes_lines file && has_newline (without_newline bytes)) (command_lines asking append (length bytes) 0 (pieces_of bytes))
    (one_command asking append (length bytes) (without_newline bytes)) (commands-are asking are append (length bytes) 0 (pieces_of bytes))
    (are append (without_newline bytes), tt)

-- a command that is not done was refused
abbrev IsRefusal : LineFault → Type 0
IsRefusal (Refused refusal) = Unit {0}
IsRefusal _ = ⊥

stopped-so : (past : List Request) (done : ℕ) (text : List ℕ) (fault : LineFault) (ran : Ran) (line : LineRefused) → IsRefusal fault → ran ≡ stopped_at past done text fault
    → ran.refused ≡ Some line → IsRefusal line.fault
stopped-so past done text fault ran line refusal is refused =
    let same : Some (record { text = text; fault = fault }) ≡ Some line = sym (ap (λ (r : Ran). r.refused) is) ∙ refused in
    let one : record { text = text; fault = fault } ≡ line = cc in
    subst (λ (l : LineRefused). IsRefusal l.fault) one refusal

run-refused : (g : Terms) (past : List Request) (done : ℕ) (lines : List LineAsked) (ran : Ran) (line : LineRefused) → AreCommands lines → IsRun g past done lines ran
    → ran.refused ≡ Some line → IsRefusal line.fault
run-refused g past done [] ran line are runs refused = absurd (let no : None ≡ Some line = sym (ap (λ (r : Ran). r.refused) runs) ∙ refused in cc)
run-refused g past done (first ∷ lines) ran line are runs refused =
    by first.asking are.0 (λ now run. run-refused g now first.end lines ran line are.1 run refused) runs
  where
    by : (asking : Asking) → IsCommand asking → ((now : List Request) → IsRun g now first.end lines ran → IsRefusal line.fault)
        → IsLineRun g past done first.text (λ (now : List Request). IsRun g now first.end lines ran) ran asking → IsRefusal line.fault
    by (AsksFor request) is more (Ok answer, answered, run) = more (request ∷ past) run
    by (AsksFor request) is more (Err refusal, answered, stopped) = stopped-so past done first.text (Refused refusal) ran line tt stopped refused
    by _ is more run = absurd is

lines-refused : (g : Terms) (past : List Request) (lines : List LineAsked) (ran : Ran) (line : LineRefused) → AreCommands lines → MayRun g past lines ran
    → ran.refused ≡ Some line → IsRefusal line.fault
lines-refused g past lines ran line are (inl runs) refused = run-refused g past 0 lines ran line are runs refused
lines-refused g past lines ran line are (inr stopped) refused = stopped-so past 0 [] (Refused Memory) ran line tt stopped.0 refused

-- one line that is not done is the first
none-done : (past : List Request) (text : List ℕ) (fault : LineFault) (ran : Ran) → ran ≡ stopped_at past 0 text fault → (ran.done == 0) ≡ true
none-done past text fault ran is = ap (λ (r : Ran). r.done == 0) is

one-refused : (g : Terms) (past : List Request) (one : LineAsked) (ran : Ran) (line : LineRefused) → MayRun g past (one ∷ []) ran → ran.refused ≡ Some line
    → (ran.done == 0) ≡ true
one-refused g past one ran line (inr stopped) refused = none-done past [] (Refused Memory) ran stopped.0
one-refused g past one ran line (inl runs) refused = by one.asking runs
  where
    all : (now : List Request) → ran ≡ record { past = now; done = one.end; refused = None } → (ran.done == 0) ≡ true
    all now is = absurd (let no : None ≡ Some line = sym (ap (λ (r : Ran). r.refused) is) ∙ refused in cc)

    by : (asking : Asking) → IsLineRun g past 0 one.text (λ (now : List Request). IsRun g now one.end [] ran) ran asking → (ran.done == 0) ≡ true
    by AsksNothing is = all past is
    by IsWrongLine (inl is) = none-done past one.text NoCommand ran is
    by IsWrongLine (inr is) = none-done past one.text (Refused Memory) ran is
    by IsTooLong (inl is) = none-done past one.text TooLong ran is
    by IsTooLong (inr is) = none-done past one.text (Refused Memory) ran is
    by (AsksFor request) (Ok answer, answered, is) = all (request ∷ past) is
    by (AsksFor request) (Err refusal, answered, is) = none-done past one.text (Refused refusal) ran is

-- ---- the event of an `inject` that is there

event-there : (past : List Request) (index : ℕ) → is_some (event_at index (events_after past)) ≡ true → index < length (declared_events past)
event-there past index there = by (event_at index (events_after past)) refl there
  where
    by : (o : Option Event) → event_at index (events_after past) ≡ o → is_some o ≡ true → index < length (declared_events past)
    by None at some = absurd (false≢true some)
    by (Some found) at some =
        let below = found_one (λ (e : Event). e.index < length (declared_events past)) (λ (e : Event). eqb e.index index) (events_after past) found
        (all-unmapped (λ k. k < length (declared_events past)) (λ (e : Event). e.index) (events_after past) (indexes-below past).below) at in
        let same = eqb-true found.index index (found_passes (λ (e : Event). eqb e.index index) (events_after past) found at) in
        subst (λ k. k < length (declared_events past)) same below

got : {A : Type 0} (xs : List A) (index : ℕ) → index < length xs → slice_get xs index ≡ None → ⊥
got [] index within none = omega (arith, within)
got (x ∷ xs) zero within none = absurd (let no : Some x ≡ None = none in cc)
got (x ∷ xs) (suc index) within none = got xs index (omega (arith, within)) none

-- ---- files that tools ask for

fixed-there : (t : Bool) → (if t then writes.Same else writes.Wrong) ≡ writes.Missing → ⊥
fixed-there true is = let no : writes.Same ≡ writes.Missing = is in cc
fixed-there false is = let no : writes.Wrong ≡ writes.Missing = is in cc

switched-there : (on : Bool) (size : ℕ) (found : Option File) → switched on size found ≡ writes.Missing → ⊥
switched-there on size None is = let no : writes.Wrong ≡ writes.Missing = is in cc
switched-there on size (Some file) is = let no : writes.Switch file on size ≡ writes.Missing = is in cc

events-there : (scene : SceneSeen) (bytes : List ℕ) → events_write scene bytes ≡ writes.Missing → ⊥
events-there scene bytes is = by (length (first_word bytes) == 0) is
  where
    on : Bool
    on = not (is_off (first_word bytes))

    by : (t : Bool) → (if t then writes.Same else switched on (word_size bytes) (switch_of scene (named (first_word bytes)))) ≡ writes.Missing → ⊥
    by true h = let no : writes.Same ≡ writes.Missing = h in cc
    by false h = switched-there on (word_size bytes) (switch_of scene (named (first_word bytes))) h

tool-there : (g : Config) (scene : SceneSeen) (file : ToolFile) (bytes : List ℕ) → tool_file_write g scene file bytes ≡ writes.Missing → ⊥
tool-there g scene tools.CurrentTracer bytes is = fixed-there (bytes_eq (only_word bytes) (codes "nop")) is
tool-there g scene tools.TraceClock bytes is = fixed-there (bytes_eq (only_word bytes) (codes "counter")) is
tool-there g scene tools.TracingCpumask bytes is = fixed-there (bytes_eq (only_word bytes) (cpu_mask scene.cpus)) is
tool-there g scene tools.BufferSizeKb bytes is = fixed-there (is_number (ring_kilobytes g) (written_number (only_word bytes))) is
tool-there g scene tools.SetEvent bytes is = events-there scene bytes is
tool-there g scene _ bytes is = let no : writes.Wrong ≡ writes.Missing = is in cc

not-missing : (g : Config) (scene : SceneSeen) (file : File) (bytes : List ℕ) → there_write g scene file bytes ≡ writes.Missing → ⊥
not-missing g scene (files.Tool file) bytes is = tool-there g scene file bytes is
not-missing g scene (files.CpuSize cpu) bytes is = fixed-there (is_number (ring_kilobytes g) (written_number (only_word bytes))) is
not-missing g scene (files.OfTop top_tools.TracingThresh) bytes is = fixed-there (is_number 0 (written_number (only_word bytes))) is
not-missing g scene _ bytes is = let no : writes.Wrong ≡ writes.Missing = is in cc

-- ---- steps

-- what is there is chosen
chosen : (P : Step → Type 0) (t : Bool) (one other : Step) → t ≡ true → P one → P (if t then one else other)
chosen P true one other is holds = holds
chosen P false one other is holds = absurd (false≢true is)

module _ (g : Terms) (s : Service) where
  abbrev StepTells : Step → Type 0
  StepTells (Plain outcome) = NotesErrors Keeps outcome.reply
  StepTells (Takes outcome) = NotesErrors Keeps outcome.reply
  StepTells (AsksNoting request takes outcome noting) = (answer : Result Answer Refusal) → NotesErrors (noting answer) (outcome answer).reply
  StepTells (Tells noting takes outcome) = NotesErrors noting outcome.reply
  StepTells (AsksLines lines outcome noting) = (ran : Ran) → MayRun g s.past lines ran → NotesErrors (noting ran) (outcome ran).reply
  StepTells _ = ⊥

  told-noted : (step : Step) (reply : Option Reply) (after : Service) (does : Does g s step reply after) → StepTells step
      → NotesErrors (noting_by g s step reply after does) reply
  told-noted (Plain outcome) reply after does tells errno other is = tells errno other (sym does.0 ∙ is)
  told-noted (Takes outcome) reply after (inl does) tells errno other is = tells errno other (sym does.0 ∙ is)
  told-noted (Takes outcome) reply after (inr does) tells errno other is = no-memory Keeps errno other (sym does.0 ∙ is)
  told-noted (AsksNoting request takes outcome noting) reply after (answer, answered, says, same) tells errno other is = tells answer errno other (sym says ∙ is)
  told-noted (Tells noting takes outcome) reply after (inl does) tells errno other is = tells errno other (sym does.0 ∙ is)
  told-noted (Tells noting takes outcome) reply after (inr (can, says, same)) tells errno other is = no-memory Keeps errno other (sym says ∙ is)
  told-noted (AsksLines lines outcome noting) reply after (ran, runs, says, same) tells errno other is = tells ran runs errno other (sym says ∙ is)
  told-noted (Asks request outcome) reply after does tells errno other is = absurd tells
  told-noted (Parks read) reply after does tells errno other is = absurd tells
  told-noted (Interrupts unique) reply after does tells errno other is = absurd tells
  told-noted (Counts count outcome) reply after does tells errno other is = absurd tells

  -- ---- WRITE

  text-tells : (handle : ℕ) (file : OpenSeen) (bytes : List ℕ) → StepTells (write_text g s handle file bytes)
  text-tells handle file bytes ran runs = lines ran.done ran.refused (λ line refused. lines-refused g s.past asked ran line are runs refused)
    where
      path : List ℕ
      path = path_of (scene_of g s) (node_of file)

      asked : List LineAsked
      asked = written_lines (scene_of g s) file.owner file.file (not file.starts_over) bytes

      are : AreCommands asked
      are = lines-are (line_command (scene_of g s) (nodes.File file.owner file.file) file.file) (λ append line. tt) file.file (not file.starts_over) bytes

      noting : List ℕ → LineFault → Noting
      noting = noted_command (begun_now g s file) path file.file

      one : (text : List ℕ) (done : ℕ) (t : Bool) (fault : LineFault) → IsRefusal fault
          → NotesErrors (if t then noting text fault else Keeps)
          (if t then told (replies.Error (errno_of_fault fault)) s.files else told (replies.Written done) (with_write handle s.files)).reply
      one text done true (Refused refusal) is = command-noted (begun_now g s file) path file.file text refusal
      one text done true NoCommand is = absurd is
      one text done true TooLong is = absurd is
      one text done false fault is = written-none Keeps done

      lines : (done : ℕ) (refused : Option LineRefused) → ((line : LineRefused) → refused ≡ Some line → IsRefusal line.fault)
          → NotesErrors (noted_if_first noting done refused) (written handle (length bytes) s.files done refused).reply
      lines done None first = written-none Keeps (length bytes)
      lines done (Some line) first = one line.text done (done == 0) line.fault (first line refl)

  switch-tells : (handle size : ℕ) (file : OpenSeen) (bytes : List ℕ) (switch : File) (on : Bool) → StepTells (write_switch g s handle file bytes switch on size)
  switch-tells handle size file bytes switch on (Ok answer) = written-none Keeps size
  switch-tells handle size file bytes switch on (Err refusal) =
      answer-noted (begun_now g s file) (path_of (scene_of g s) (nodes.File file.owner switch)) (switch_text on) bytes (wrong_offset bytes) refusal

  tool-tells : (handle : ℕ) (file : OpenSeen) (bytes : List ℕ) (comes : ToolWrite) → (comes ≡ writes.Missing → ⊥) → StepTells (write_tool g s handle file bytes comes)
  tool-tells handle file bytes writes.Missing there = absurd (there refl)
  tool-tells handle file bytes writes.Wrong there = noted-one _ (Some (replies.Error EINVAL))
  tool-tells handle file bytes writes.Same there = written-none Keeps (length bytes)
  tool-tells handle file bytes (writes.Switch switch on size) there = switch-tells handle size file bytes switch on

  other-tells : (handle : ℕ) (file : OpenSeen) (bytes : List ℕ) (kind : FileKind) → is_there (scene_of g s) (node_of file) ≡ true
      → StepTells (write_other g s handle file bytes kind)
  other-tells handle file bytes kinds.Tool there =
      tool-tells handle file bytes (tool_write g.config (scene_of g s) file.owner file.file bytes) (by (is_there (scene_of g s) (node_of file)) there)
    where
      by : (t : Bool) → t ≡ true → (if t then there_write g.config (scene_of g s) file.file bytes else writes.Missing) ≡ writes.Missing → ⊥
      by true h is = not-missing g.config (scene_of g s) file.file bytes is
      by false h is = false≢true h
  other-tells handle file bytes kinds.ErrorLog there = written-none (Forgets file.owner) (length bytes)
  other-tells handle file bytes kinds.Text there = text-tells handle file bytes
  other-tells handle file bytes kinds.Trace there = text-tells handle file bytes
  other-tells handle file bytes kinds.Pipe there = text-tells handle file bytes
  other-tells handle file bytes kinds.RawPipe there = text-tells handle file bytes
  other-tells handle file bytes kinds.Inject there = text-tells handle file bytes

  stream-tells : (handle lock_owner pid : ℕ) (bytes : List ℕ) (file : OpenSeen) (event : Definition) → StepTells (inject_stream g s handle lock_owner pid bytes file event)
  stream-tells handle lock_owner pid bytes file event ran runs = lines ran.done ran.refused
    where
      after : Stream
      after = stream_after file.stream lock_owner pid bytes

      begun : ErrorSeen
      begun = begun_now g (record s { past = ran.past }) file

      one : (text : List ℕ) (done : ℕ) (t : Bool) (fault : LineFault)
          → NotesErrors (if t then noted_line begun text fault else Keeps)
          (if t then told (replies.Error (errno_of_fault fault)) (if is_memory fault then s.files else drop_rest handle s.files)
          else told (replies.Written done) (with_stream (without_rest after) handle s.files)).reply
      one text done true fault = line-noted event begun text fault
      one text done false fault = written-none Keeps done

      lines : (done : ℕ) (refused : Option LineRefused)
          → NotesErrors (noted_if_first (noted_line begun) done refused) (injected handle after (length bytes) s.files done refused).reply
      lines done None = written-none Keeps (length bytes)
      lines done (Some line) = one line.text done (done == 0) line.fault

  -- one line
  single-tells : (file : OpenSeen) (event : Definition) (one : LineAsked) (outcome : Option LineRefused → Outcome)
      → NotesErrors Keeps (outcome None).reply → ((line : LineRefused) → (outcome (Some line)).reply ≡ Some (replies.Error (errno_of_fault line.fault)))
      → (ran : Ran) → MayRun g s.past (one ∷ []) ran → NotesErrors (noted_first_injection g s file ran) (outcome ran.refused).reply
  single-tells file event one outcome none says ran runs = lines ran.refused (λ line refused. one-refused g s.past one ran line runs refused)
    where
      begun : ErrorSeen
      begun = begun_now g (record s { past = ran.past }) file

      by : (line : LineRefused) (t : Bool) → t ≡ true
          → NotesErrors (if t then noted_line begun line.text line.fault else Keeps) (Some (replies.Error (errno_of_fault line.fault)))
      by line true is = line-noted event begun line.text line.fault
      by line false is = absurd (false≢true is)

      lines : (refused : Option LineRefused) → ((line : LineRefused) → refused ≡ Some line → (ran.done == 0) ≡ true)
          → NotesErrors (noted_if_first (noted_line begun) ran.done refused) (outcome refused).reply
      lines None first = none
      lines (Some line) first =
          subst (λ (r : Option Reply). NotesErrors (if ran.done == 0 then noted_line begun line.text line.fault else Keeps) r) (sym (says line))
          (by line (ran.done == 0) (first line refl))

  inject-tells : (handle lock_owner pid : ℕ) (bytes : List ℕ) (file : OpenSeen) (event : Option Definition) → (event ≡ None → ⊥)
      → StepTells (inject g s handle lock_owner pid bytes file event)
  inject-tells handle lock_owner pid bytes file None there = absurd (there refl)
  inject-tells handle lock_owner pid bytes file (Some event) there =
      either StepTells (goes_on file.stream bytes) (inject_stream g s handle lock_owner pid bytes file event) (inject_at_once g s pid bytes file event)
      (stream-tells handle lock_owner pid bytes file event)
      (single-tells file event (record { text = bytes; asking = asked_by_line g.config.cpus pid event bytes; end = length bytes }) (injected_at_once (length bytes) s.files)
      (written-none Keeps (length bytes)) (λ line. refl))

  -- the event of an `inject` of this number, which is there
  injected-there : (own : OpenSeen) (index : ℕ) → own.file ≡ files.Inject index → is_there (scene_of g s) (node_of own) ≡ true
      → slice_get (declared_events s.past) index ≡ None → ⊥
  injected-there own index same there none =
      let at : is_there (scene_of g s) (nodes.File own.owner (files.Inject index)) ≡ true =
      ap (λ (f : File). is_there (scene_of g s) (nodes.File own.owner f)) (sym same) ∙ there in
      got (declared_events s.past) index
      (event-there s.past index (and_parts (owner_is_there (scene_of g s) own.owner) (is_some (event_at index (events_after s.past))) at).1) none

  kind-tells : (handle lock_owner pid : ℕ) (bytes : List ℕ) (own : OpenSeen) (file : File) → own.file ≡ file → is_there (scene_of g s) (node_of own) ≡ true
      → StepTells (write_kind g s handle lock_owner pid bytes own file)
  kind-tells handle lock_owner pid bytes own (files.Inject index) same there =
      inject-tells handle lock_owner pid bytes own (slice_get (declared_events s.past) index) (injected-there own index same there)
  kind-tells handle lock_owner pid bytes own _ same there = other-tells handle own bytes (kind_of_file own.file) there

  write-tells : (handle lock_owner pid : ℕ) (bytes : List ℕ) (own : OpenSeen) → is_there (scene_of g s) (node_of own) ≡ true
      → StepTells (write_file g s handle lock_owner pid bytes (Some own))
  write-tells handle lock_owner pid bytes own there =
      chosen StepTells (is_there (scene_of g s) (node_of own)) (write_kind g s handle lock_owner pid bytes own own.file) (failed ENOENT s.files) there
      (kind-tells handle lock_owner pid bytes own own.file refl there)

  -- ---- FLUSH, RELEASE

  event-found : (own : OpenSeen) (file : File) → own.file ≡ file → kind_of_file file ≡ kinds.Inject → is_there (scene_of g s) (node_of own) ≡ true
      → event_of_file g s own file ≡ None → ⊥
  event-found own (files.Inject index) same kind there none = by (is_there (scene_of g s) (node_of own)) there none
    where
      by : (t : Bool) → t ≡ true → (if t then slice_get (declared_events s.past) index else None) ≡ None → ⊥
      by true h is = injected-there own index same there is
      by false h is = false≢true h
  event-found own (files.OfInstance top.Trace) same kind there none = let no : kinds.Trace ≡ kinds.Inject = kind in cc
  event-found own (files.OfInstance top.TracePipe) same kind there none = let no : kinds.Pipe ≡ kinds.Inject = kind in cc
  event-found own (files.OfCpu cpu per_cpu.Trace) same kind there none = let no : kinds.Trace ≡ kinds.Inject = kind in cc
  event-found own (files.OfCpu cpu per_cpu.TracePipe) same kind there none = let no : kinds.Pipe ≡ kinds.Inject = kind in cc
  event-found own (files.OfEvent event per_event.Format) same kind there none = let no : kinds.Tool ≡ kinds.Inject = kind in cc
  event-found own _ same kind there none = cc

  end-tells : (file : OpenSeen) (outcome : Option LineRefused → Outcome) (event : Definition) → NotesErrors Keeps (outcome None).reply
      → ((line : LineRefused) → (outcome (Some line)).reply ≡ Some (replies.Error (errno_of_fault line.fault))) → StepTells (end_line g s file outcome event)
  end-tells file outcome event none says =
      single-tells file event
      (record { text = file.stream.rest; asking = asked_by_line g.config.cpus file.stream.pid event file.stream.rest; end = length file.stream.rest })
      outcome none says

  flush-line-tells : (handle : ℕ) (file : OpenSeen) (event : Option Definition) → (event ≡ None → ⊥) → StepTells (flush_line g s handle file event)
  flush-line-tells handle file None there = absurd (there refl)
  flush-line-tells handle file (Some event) there = end-tells file (flushed handle s.files) event (done-none Keeps) (λ line. refl)

  flush-tells : (handle lock_owner : ℕ) (own : OpenSeen) → kind_of_file own.file ≡ kinds.Inject → is_there (scene_of g s) (node_of own) ≡ true
      → StepTells (flush_file g s handle lock_owner (Some own))
  flush-tells handle lock_owner own kind there =
      either StepTells (has_rest own && own.stream.lock_owner == lock_owner) (flush_line g s handle own (event_of_file g s own own.file)) (plain replies.Done s.files)
      (flush-line-tells handle own (event_of_file g s own own.file) (event-found own own.file refl kind there)) (done-none Keeps)

  release-line-tells : (handle : ℕ) (file : OpenSeen) (event : Option Definition) → StepTells (release_line g s handle file event)
  release-line-tells handle file None = done-none Keeps
  release-line-tells handle file (Some event) = end-tells file (released handle s.files) event (done-none Keeps) (λ line. refl)

  release-tells : (handle : ℕ) (own : OpenSeen) → StepTells (release g s handle (Some own))
  release-tells handle own =
      either StepTells (has_rest own) (release_line g s handle own (event_of_file g s own own.file)) (plain replies.Done (without_file handle s.files))
      (release-line-tells handle own (event_of_file g s own own.file)) (done-none Keeps)

  -- ---- OPEN

  emptied-tells : (flags : ℕ) (file : OpenSeen) (emptying : Emptying) → StepTells (opened_unless_emptied (scene_of g s) (now_of s.past) flags file s.files emptying)
  emptied-tells flags file AsksNone =
      either StepTells (clears file.file flags) (Tells (Forgets file.owner) true (handed_out file s.files)) (Takes (handed_out file s.files))
      (opened-none (Forgets file.owner) _ _) (opened-none Keeps _ _)
  emptied-tells flags file (AsksToWrite asked text) = answered
    where
      own : OpenSeen
      own = record file { starts_over = false }

      answered : StepTells (emptied (scene_of g s) (now_of s.past) own s.files asked text)
      answered (Ok answer) = opened-none Keeps _ _
      answered (Err refusal) =
          answer-noted (begun file.owner (now_of s.past) (path_of (scene_of g s) (node_of file))) (path_of (scene_of g s) (nodes.File file.owner asked)) text [] 0 refusal

  open-tells : (flags : ℕ) (own : OpenSeen) → may (access_of_file own.file) (wants_read flags) (wants_write flags) ≡ true
      → StepTells (opened (scene_of g s) (now_of s.past) flags (Some (node_of own)) s.files)
  open-tells flags own allowed =
      chosen StepTells (may (access_of_file own.file) (wants_read flags) (wants_write flags))
      (opened_file (scene_of g s) (now_of s.past) flags (just_opened own.owner own.file (empties flags)) s.files) (failed EACCES s.files) allowed
      (emptied-tells flags (just_opened own.owner own.file (empties flags)) (emptying_of own.file (empties flags)))

  -- ---- all that may write

  step-tells : (unique pid : ℕ) (target : Option Node) (operation : Operation) (file : OpenSeen) → IsFileOf g s target operation file
      → MayWrite operation file.file → is_there (scene_of g s) (node_of file) ≡ true → StepTells (step_of g s unique pid target operation)
  step-tells unique pid target (operations.Open flags) file is allowed there =
      subst (λ (found : Option Node). StepTells (opened (scene_of g s) (now_of s.past) flags found s.files)) (sym is) (open-tells flags file allowed)
  step-tells unique pid target (operations.Write handle offset lock_owner bytes) file is allowed there =
      subst (λ (slot : Option OpenSeen). StepTells (write_file g s handle lock_owner pid bytes slot)) (sym is) (write-tells handle lock_owner pid bytes file there)
  step-tells unique pid target (operations.Flush handle lock_owner) file is allowed there =
      subst (λ (slot : Option OpenSeen). StepTells (flush_file g s handle lock_owner slot)) (sym is) (flush-tells handle lock_owner file allowed there)
  step-tells unique pid target (operations.Release handle) file is allowed there =
      subst (λ (slot : Option OpenSeen). StepTells (release g s handle slot)) (sym is) (release-tells handle file)
  step-tells unique pid target _ file is allowed there = absurd allowed

-- ---- what the bytes tell

-- a number names one node, or none
named-once : (number : ℕ) (one other : Option Node) → IsNamed number one → IsNamed number other → one ≡ other
named-once number None None named also = refl
named-once number one (Some node) named also = named-same number one node named also
named-once number (Some node) None named also = sym (named-same number None node also named)

errno-small : (errno : Errno) → errno_number errno < 100
errno-small EPERM = omega arith
errno-small ENOENT = omega arith
errno-small EINTR = omega arith
errno-small EIO = omega arith
errno-small ENXIO = omega arith
errno-small E2BIG = omega arith
errno-small EBADF = omega arith
errno-small EAGAIN = omega arith
errno-small ENOMEM = omega arith
errno-small EACCES = omega arith
errno-small EBUSY = omega arith
errno-small EEXIST = omega arith
errno-small ENODEV = omega arith
errno-small ENOTDIR = omega arith
errno-small EISDIR = omega arith
errno-small EINVAL = omega arith
errno-small ENOSPC = omega arith
errno-small ENOSYS = omega arith
errno-small ENOTEMPTY = omega arith
errno-small EPROTO = omega arith

reply-some : (unique : ℕ) (reply : Reply) → reply_bytes unique reply ≡ [] → ⊥
reply-some unique reply none =
    let long : take 4 (reply_bytes unique reply) ≡ number_bytes w32 (length (reply_bytes unique reply)) = replies_tell_their_length unique reply in
    let short : number_bytes w32 (length (reply_bytes unique reply)) ≡ [] = sym long ∙ ap (take 4) none in
    let four : length (number_bytes w32 (length (reply_bytes unique reply))) ≡ 4 = length-number_32 (length (reply_bytes unique reply)) in
    let zero : length (number_bytes w32 (length (reply_bytes unique reply))) ≡ 0 = ap (λ (l : List ℕ). length l) short in
    omega (arith, four, zero)

-- the number of a request has eight bytes
unique-fits : (bytes : List ℕ) (request : Asked) → IsRequest bytes request → request.unique < 2 ^ 64
unique-fits bytes request is =
    let len = number_at (length bytes) _ bytes 0 4 refl is.parts in
    let opcode = number_at (opcode_of request.operation) _ bytes 4 8 refl len.1 in
    (first_part (U64 request.unique) _ (drop 8 bytes) refl opcode.1).0.0

-- an error is told as no other reply
told-error : (unique : ℕ) (reply : Option Reply) (errno : Errno) → unique < 2 ^ 64 → bytes_of_reply unique reply ≡ reply_bytes unique (replies.Error errno)
    → reply ≡ Some (replies.Error errno)
told-error unique None errno fits same = absurd (reply-some unique (replies.Error errno) (sym same))
told-error unique (Some (replies.Error other)) errno fits same =
    ap Some (replies_of_a_kind_differ unique unique (replies.Error other) (replies.Error errno) fits fits refl (record { numbers = tt; permissions = tt })
    (record { numbers = tt; permissions = tt }) same)
told-error unique (Some reply) errno fits same =
    let error : error_of reply ≡ 2 ^ 32 - errno_number errno = (replies_differ unique unique reply (replies.Error errno) fits fits same).error in
    absurd (let small = errno-small errno in omega (arith, error, small))

-- ---- exchanges

request-noted : (g : Terms) (before : Service) (asked bytes : List ℕ) (after : Service) (served : AreServed g before asked bytes after) (request : Asked)
    (node : Option Node) (file : OpenSeen) (errno : Errno)
    → IsRequest asked request → IsNamed request.node node → IsFileOf g before node request.operation file → MayWrite request.operation file.file
    → is_there (scene_of g before) (node_of file) ≡ true → errno ≢ ENOMEM → bytes ≡ reply_bytes request.unique (replies.Error errno)
    → IsNoting (noting_asked g before asked bytes after served)
request-noted g before asked bytes after (Wrong opcode unique framed none told same) request node file errno is named of may there other says =
    absurd (none request is)
request-noted g before asked bytes after (Unframed none told same) request node file errno is named of may there other says =
    absurd (reply-some request.unique (replies.Error errno) (sym says ∙ told))
request-noted g before asked bytes after (Right own right served) request node file errno is named of may there other says =
    by own (requests_differ asked request own is right) served
  where
    by : (r : Asked) → request ≡ r → (served : IsServed g before r bytes after)
        → IsNoting (noting_by g before (step_of g before r.unique r.pid served.node r.operation) served.reply after served.does)
    by r same served =
        told-noted g before (step_of g before r.unique r.pid served.node r.operation) served.reply after served.does
        (step-tells g before r.unique r.pid served.node r.operation file
        (subst (λ (n : Option Node). IsFileOf g before n r.operation file) (named-once r.node node served.node (subst (λ (q : Asked). IsNamed q.node node) same named) served.named)
        (subst (λ (q : Asked). IsFileOf g before node q.operation file) same of))
        (subst (λ (q : Asked). MayWrite q.operation file.file) same may) there)
        errno other
        (told-error r.unique served.reply errno (subst (λ (q : Asked). q.unique < 2 ^ 64) same (unique-fits asked request is))
        (sym served.told ∙ (says ∙ ap (λ (q : Asked). reply_bytes q.unique (replies.Error errno)) same)))

pub refused_writes_are_noted : RefusedWritesAreNoted
refused_writes_are_noted g before [] bytes after exchanged request node file errno is named of may there other says =
    absurd (let long = (request_framed [] request is).whole in omega (arith, long))
refused_writes_are_noted g before (byte ∷ asked) bytes after (quiet, served) request node file errno is named of may there other says =
    request-noted g before (byte ∷ asked) bytes after served request node file errno is named of may there other says
