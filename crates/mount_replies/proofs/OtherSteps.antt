-- What requests other than READs come to: none parks a read, and the open files keep the texts that their reads give.
use Rattle.std.proofs.Common.{◌≡◌, ℕ, ◌^◌, ◌==◌, ◌&&◌, nat_lt, Bool, true, false, not, List, length, Option, Some, None, Result, Ok, Err, refl, sym, ◌∙◌}
use Rattle.std.proofs.lemmas.Bool.{false≢true}
use Rattle.std.specs.List.{slice_get}
use Rattle.fuse_wire.specs.declared.reply.Reply.TheVariants as replies
use Rattle.fuse_wire.specs.declared.request.Operation.{Operation}
use Rattle.fuse_wire.specs.declared.request.Operation.TheVariants as operations
use Rattle.trace_command.specs.declared.command.Reply.{Reply as Answer}
use Rattle.trace_command.specs.declared.refusal.Refusal.{Refusal}
use Rattle.trace_format.specs.Definitions.{Definition}
use Rattle.tracer_specification.specs.Settings.{declared_events, now_of}
use Rattle.mount_tree.specs.Children.{is_there}
use Rattle.file_list.specs.FileKinds.{access_of_file, kind_of_file}
use Rattle.mount_tree.specs.Nodes.{number_of}
use Rattle.mount_tree.specs.Scenes.{SceneSeen, most_made}
use Rattle.file_list.specs.declared.file.File.{File}
use Rattle.file_list.specs.declared.file.File.TheVariants as files
use Rattle.file_list.specs.declared.file.FileKind.{FileKind}
use Rattle.file_list.specs.declared.file.FileKind.TheVariants as kinds
use Rattle.file_list.specs.declared.folder.Folder.TheVariants as folders
use Rattle.mount_tree.specs.declared.node.Node.{Node}
use Rattle.mount_tree.specs.declared.node.Node.TheVariants as nodes
use Rattle.mount_tree.specs.declared.node.Owner.{Owner}
use Rattle.mount_tree.specs.declared.node.Owner.TheVariants.{Top}
use Rattle.mount_stub_files.specs.ToolWrites.{tool_write}
use Rattle.mount_stub_files.specs.declared.write.ToolWrite.{ToolWrite}
use Rattle.mount_stub_files.specs.declared.write.ToolWrite.TheVariants.{Missing, Same, Switch}
use Rattle.mount_stub_files.specs.declared.write.ToolWrite.TheVariants as writes
use Rattle.mount_replies.specs.FileWrites.{event_of_file, flush_file, flush_line, has_rest, inject, release, release_line, switched, write_file, write_kind, write_other, write_tool}
use Rattle.mount_replies.specs.Lines.{flushed, goes_on, injected, injected_at_once, is_memory, released, stream_after, written}
use Rattle.mount_replies.specs.Pipes.{has_nothing, would_wait}
use Rattle.mount_replies.specs.Served.{AsksNone, AsksToWrite, Emptying, clears, emptied_first, emptying_of, made_folder, make_folder, make_instance, opened, opened_unless_emptied, poll_file, poll_kind, remove_folder, removed_folder, step_of, wants_wakeup, with_wanted_poll}
use Rattle.mount_replies.specs.Services.{OpenSeen, Service, Terms, count_of, drop_rest, file_at, just_opened, node_of, polled_by, scene_of, text_at, with_poll, with_stream, with_told_ready, with_write, without_rest}
use Rattle.mount_replies.specs.Sizes.{Telling, entry_number, is_recent, set_attributes, size_by_kind, size_of_text, tell_attributes, tell_entry, tell_size}
use Rattle.mount_replies.specs.Steps.{Asks, AsksLines, AsksNoting, Counts, Interrupts, LineRefused, Outcome, Parks, Plain, Ran, Step, Takes, Tells}
use Rattle.mount_replies.specs.Told.{attributes_of, empties, found_in, known, may, sets_size, wants_read, wants_write}
use Rattle.mount_replies.specs.declared.counted.Counted.{Counted}
use Rattle.mount_replies.specs.declared.stream.Stream.{Stream}
use Rattle.mount_replies.proofs.KeptTexts.{IsKept, change-kept, changed-text, closed-kept, either, opened-kept, same-kept}

-- it parks no read, and whatever is answered, an open file keeps its text
abbrev pub IsStill : ℕ → List (Option OpenSeen) → Step → Type 0
IsStill handle files (Plain outcome) = IsKept handle files outcome.files
IsStill handle files (Takes outcome) = IsKept handle files outcome.files
IsStill handle files (Asks request outcome) = (answer : Result Answer Refusal) → IsKept handle files (outcome answer).files
IsStill handle files (Parks read) = ⊥
IsStill handle files (Interrupts number) = Unit {0}
IsStill handle files (AsksNoting request takes outcome noting) = (answer : Result Answer Refusal) → IsKept handle files (outcome answer).files
IsStill handle files (Tells noting takes outcome) = IsKept handle files outcome.files
IsStill handle files (AsksLines lines outcome noting) = (ran : Ran) → IsKept handle files (outcome ran).files
IsStill handle files (Counts count outcome) = IsKept handle files outcome.files

abbrev KeepsFiles : ℕ → List (Option OpenSeen) → Outcome → Type 0
KeepsFiles handle files outcome = IsKept handle files outcome.files

-- ---- look-ups

counted-still : (handle : ℕ) (g : Terms) (s : Service) (telling : Telling) (owner : Owner) (file : File) (count : Option Counted)
    → IsStill handle s.files (size_of_text g s telling owner file count)
counted-still handle g s telling owner file count =
    either (IsStill handle s.files) (is_recent (length s.past) count) _ _ (same-kept handle s.files) (same-kept handle s.files)

kind-sized : (handle : ℕ) (g : Terms) (s : Service) (telling : Telling) (pages : ℕ) (owner : Owner) (file : File) (kind : FileKind)
    → IsStill handle s.files (size_by_kind g s telling pages owner file kind)
kind-sized handle g s telling pages owner file kinds.Pipe = same-kept handle s.files
kind-sized handle g s telling pages owner file kinds.RawPipe = same-kept handle s.files
kind-sized handle g s telling pages owner file kinds.Inject = same-kept handle s.files
kind-sized handle g s telling pages owner file kinds.ErrorLog = same-kept handle s.files
kind-sized handle g s telling pages owner file _ =
    counted-still handle g s telling owner file (count_of (number_of (nodes.File owner file)) s.counted)

sized-still : (handle : ℕ) (g : Terms) (s : Service) (telling : Telling) (pages : ℕ) (node : Node) → IsStill handle s.files (tell_size g s telling pages node)
sized-still handle g s telling pages (nodes.Folder owner folder) = same-kept handle s.files
sized-still handle g s telling pages (nodes.File owner file) = kind-sized handle g s telling pages owner file (kind_of_file file)

entry-still : (handle : ℕ) (g : Terms) (s : Service) (unique : ℕ) (node : Option Node) → IsStill handle s.files (tell_entry g s unique node)
entry-still handle g s unique None = same-kept handle s.files
entry-still handle g s unique (Some node) =
    sized-still handle g s (λ size. replies.Entry (entry_number unique node) (attributes_of g node size)) (2 ^ 40) node

attributes-still : (handle : ℕ) (g : Terms) (s : Service) (node : Option Node) → IsStill handle s.files (tell_attributes g s node)
attributes-still handle g s None = same-kept handle s.files
attributes-still handle g s (Some node) = sized-still handle g s (λ size. replies.Attributes (attributes_of g node size)) 0 node

set-still : (handle : ℕ) (g : Terms) (s : Service) (node : Option Node) (valid size : ℕ) → IsStill handle s.files (set_attributes g s node valid size)
set-still handle g s node valid size =
    either (IsStill handle s.files) (sets_size valid size) _ _ (same-kept handle s.files) (attributes-still handle g s (known (scene_of g s) node))

-- ---- folders

folder-kept : (handle : ℕ) (g : Terms) (serial : ℕ) (files : List (Option OpenSeen)) (answer : Result Answer Refusal)
    → IsKept handle files (made_folder g serial files answer).files
folder-kept handle g serial files (Ok answer) = same-kept handle files
folder-kept handle g serial files (Err refusal) = same-kept handle files

instance-still : (handle : ℕ) (g : Terms) (scene : SceneSeen) (name : List ℕ) (files : List (Option OpenSeen))
    → IsStill handle files (make_instance g scene name files)
instance-still handle g scene name files =
    either (IsStill handle files) (nat_lt scene.made most_made) _ _ (folder-kept handle g scene.made files) (same-kept handle files)

made-still : (handle : ℕ) (g : Terms) (scene : SceneSeen) (name : List ℕ) (open_files : List (Option OpenSeen)) (node : Option Node)
    → IsStill handle open_files (make_folder g scene name open_files node)
made-still handle g scene name open_files None = same-kept handle open_files
made-still handle g scene name open_files (Some (nodes.Folder Top folders.Instances)) = instance-still handle g scene name open_files
made-still handle g scene name open_files _ = same-kept handle open_files

gone-kept : (handle : ℕ) (files : List (Option OpenSeen)) (answer : Result Answer Refusal) → IsKept handle files (removed_folder files answer).files
gone-kept handle files (Ok answer) = same-kept handle files
gone-kept handle files (Err refusal) = same-kept handle files

removed-still : (handle : ℕ) (scene : SceneSeen) (name : List ℕ) (open_files : List (Option OpenSeen)) (node : Option Node)
    → IsStill handle open_files (remove_folder scene name open_files node)
removed-still handle scene name open_files None = same-kept handle open_files
removed-still handle scene name open_files (Some (nodes.Folder Top folders.Instances)) = gone-kept handle open_files
removed-still handle scene name open_files _ = same-kept handle open_files

-- ---- OPEN

first-kept : (handle : ℕ) (file : OpenSeen) (files : List (Option OpenSeen)) (answer : Result Answer Refusal)
    → IsKept handle files (emptied_first file files answer).files
first-kept handle file files (Ok answer) = opened-kept handle file files
first-kept handle file files (Err refusal) = same-kept handle files

emptying-still : (handle : ℕ) (scene : SceneSeen) (now flags : ℕ) (file : OpenSeen) (files : List (Option OpenSeen)) (emptying : Emptying)
    → IsStill handle files (opened_unless_emptied scene now flags file files emptying)
emptying-still handle scene now flags file files AsksNone =
    either (IsStill handle files) (clears file.file flags) _ _ (opened-kept handle file files) (opened-kept handle file files)
emptying-still handle scene now flags file files (AsksToWrite asked text) = first-kept handle (record file { starts_over = false }) files

opened-still : (handle : ℕ) (scene : SceneSeen) (now flags : ℕ) (node : Option Node) (open_files : List (Option OpenSeen))
    → IsStill handle open_files (opened scene now flags node open_files)
opened-still handle scene now flags None open_files = same-kept handle open_files
opened-still handle scene now flags (Some (nodes.Folder owner folder)) open_files = same-kept handle open_files
opened-still handle scene now flags (Some (nodes.File owner file)) open_files =
    either (IsStill handle open_files) (may (access_of_file file) (wants_read flags) (wants_write flags)) _ _
    (emptying-still handle scene now flags (just_opened owner file (empties flags)) open_files (emptying_of file (empties flags)))
    (same-kept handle open_files)

-- ---- WRITE

write-kept : (handle other : ℕ) (files : List (Option OpenSeen)) → IsKept handle files (with_write other files)
write-kept handle other files = change-kept (λ (file : OpenSeen). record file { starts_over = false }) (λ file. refl) handle other files

stream-kept : (handle : ℕ) (stream : Stream) (other : ℕ) (files : List (Option OpenSeen)) → IsKept handle files (with_stream stream other files)
stream-kept handle stream other files = change-kept (λ (file : OpenSeen). record file { stream = stream }) (λ file. refl) handle other files

rest-kept : (handle other : ℕ) (files : List (Option OpenSeen)) → IsKept handle files (drop_rest other files)
rest-kept handle other files =
    change-kept (λ (file : OpenSeen). record file { stream = without_rest file.stream }) (λ file. refl) handle other files

lines-kept : (handle other size : ℕ) (files : List (Option OpenSeen)) (done : ℕ) (refused : Option LineRefused)
    → IsKept handle files (written other size files done refused).files
lines-kept handle other size files done None =
    either (IsKept handle files) (done == 0) files (with_write other files) (same-kept handle files) (write-kept handle other files)
lines-kept handle other size files done (Some line) =
    either (KeepsFiles handle files) (done == 0) _ _ (same-kept handle files) (write-kept handle other files)

switched-kept : (handle other size : ℕ) (files : List (Option OpenSeen)) (answer : Result Answer Refusal)
    → IsKept handle files (switched other size files answer).files
switched-kept handle other size files (Ok answer) = write-kept handle other files
switched-kept handle other size files (Err refusal) = same-kept handle files

tool-still : (handle : ℕ) (g : Terms) (s : Service) (other : ℕ) (file : OpenSeen) (bytes : List ℕ) (comes : ToolWrite)
    → IsStill handle s.files (write_tool g s other file bytes comes)
tool-still handle g s other file bytes Missing = same-kept handle s.files
tool-still handle g s other file bytes writes.Wrong = same-kept handle s.files
tool-still handle g s other file bytes Same = write-kept handle other s.files
tool-still handle g s other file bytes (Switch switch on size) = switched-kept handle other size s.files

other-still : (handle : ℕ) (g : Terms) (s : Service) (other : ℕ) (file : OpenSeen) (bytes : List ℕ) (kind : FileKind)
    → IsStill handle s.files (write_other g s other file bytes kind)
other-still handle g s other file bytes kinds.Tool =
    tool-still handle g s other file bytes (tool_write g.config (scene_of g s) file.owner file.file bytes)
other-still handle g s other file bytes kinds.ErrorLog = write-kept handle other s.files
other-still handle g s other file bytes _ = λ ran. lines-kept handle other (length bytes) s.files ran.done ran.refused

injected-kept : (handle other : ℕ) (after : Stream) (size : ℕ) (files : List (Option OpenSeen)) (done : ℕ) (refused : Option LineRefused)
    → IsKept handle files (injected other after size files done refused).files
injected-kept handle other after size files done None = stream-kept handle after other files
injected-kept handle other after size files done (Some line) =
    either (KeepsFiles handle files) (done == 0) _ _
    (either (IsKept handle files) (is_memory line.fault) files (drop_rest other files) (same-kept handle files) (rest-kept handle other files))
    (stream-kept handle (without_rest after) other files)

once-kept : (handle size : ℕ) (files : List (Option OpenSeen)) (refused : Option LineRefused)
    → IsKept handle files (injected_at_once size files refused).files
once-kept handle size files None = same-kept handle files
once-kept handle size files (Some line) = same-kept handle files

injected-still : (handle : ℕ) (g : Terms) (s : Service) (other lock_owner pid : ℕ) (bytes : List ℕ) (file : OpenSeen) (event : Option Definition)
    → IsStill handle s.files (inject g s other lock_owner pid bytes file event)
injected-still handle g s other lock_owner pid bytes file None = same-kept handle s.files
injected-still handle g s other lock_owner pid bytes file (Some event) =
    either (IsStill handle s.files) (goes_on file.stream bytes) _ _
    (λ (ran : Ran). injected-kept handle other (stream_after file.stream lock_owner pid bytes) (length bytes) s.files ran.done ran.refused)
    (λ (ran : Ran). once-kept handle (length bytes) s.files ran.refused)

kind-still : (handle : ℕ) (g : Terms) (s : Service) (other lock_owner pid : ℕ) (bytes : List ℕ) (own : OpenSeen) (file : File)
    → IsStill handle s.files (write_kind g s other lock_owner pid bytes own file)
kind-still handle g s other lock_owner pid bytes own (files.Inject event) =
    injected-still handle g s other lock_owner pid bytes own (slice_get (declared_events s.past) event)
kind-still handle g s other lock_owner pid bytes own _ = other-still handle g s other own bytes (kind_of_file own.file)

written-still : (handle : ℕ) (g : Terms) (s : Service) (other lock_owner pid : ℕ) (bytes : List ℕ) (slot : Option OpenSeen)
    → IsStill handle s.files (write_file g s other lock_owner pid bytes slot)
written-still handle g s other lock_owner pid bytes None = same-kept handle s.files
written-still handle g s other lock_owner pid bytes (Some file) =
    either (IsStill handle s.files) (is_there (scene_of g s) (node_of file)) _ _
    (kind-still handle g s other lock_owner pid bytes file file.file) (same-kept handle s.files)

-- ---- FLUSH, RELEASE

flushed-kept : (handle other : ℕ) (files : List (Option OpenSeen)) (refused : Option LineRefused) → IsKept handle files (flushed other files refused).files
flushed-kept handle other files None = rest-kept handle other files
flushed-kept handle other files (Some line) = rest-kept handle other files

flush-line : (handle : ℕ) (g : Terms) (s : Service) (other : ℕ) (file : OpenSeen) (event : Option Definition)
    → IsStill handle s.files (flush_line g s other file event)
flush-line handle g s other file None = same-kept handle s.files
flush-line handle g s other file (Some event) = λ ran. flushed-kept handle other s.files ran.refused

flushed-still : (handle : ℕ) (g : Terms) (s : Service) (other lock_owner : ℕ) (slot : Option OpenSeen)
    → IsStill handle s.files (flush_file g s other lock_owner slot)
flushed-still handle g s other lock_owner None = same-kept handle s.files
flushed-still handle g s other lock_owner (Some file) =
    either (IsStill handle s.files) (has_rest file && file.stream.lock_owner == lock_owner) _ _
    (flush-line handle g s other file (event_of_file g s file file.file)) (same-kept handle s.files)

released-kept : (handle other : ℕ) (files : List (Option OpenSeen)) (refused : Option LineRefused)
    → IsKept handle files (released other files refused).files
released-kept handle other files None = closed-kept handle other files
released-kept handle other files (Some line) = closed-kept handle other files

release-line : (handle : ℕ) (g : Terms) (s : Service) (other : ℕ) (file : OpenSeen) (event : Option Definition)
    → IsStill handle s.files (release_line g s other file event)
release-line handle g s other file None = closed-kept handle other s.files
release-line handle g s other file (Some event) = λ ran. released-kept handle other s.files ran.refused

released-still : (handle : ℕ) (g : Terms) (s : Service) (other : ℕ) (slot : Option OpenSeen) → IsStill handle s.files (release g s other slot)
released-still handle g s other None = same-kept handle s.files
released-still handle g s other (Some file) =
    either (IsStill handle s.files) (has_rest file) _ _
    (release-line handle g s other file (event_of_file g s file file.file)) (closed-kept handle other s.files)

-- ---- POLL

poll-kept : (handle wakeup : ℕ) (waits : Bool) (other : ℕ) (files : List (Option OpenSeen)) → IsKept handle files (with_poll wakeup waits other files)
poll-kept handle wakeup waits other files =
    change-kept (λ (file : OpenSeen). record file { polls = polled_by wakeup waits file.polls }) (λ file. refl) handle other files

raw-text : (handle : ℕ) (wanted : Bool) (wakeup : ℕ) (waits : Bool) (other : ℕ) (files : List (Option OpenSeen))
    → text_at handle (with_told_ready (not waits) other (with_wanted_poll wanted wakeup waits other files)) ≡ text_at handle files
raw-text handle wanted wakeup waits other files =
    changed-text (λ (file : OpenSeen). record file { polls = record file.polls { told_ready = not waits } }) (λ file. refl)
    (with_wanted_poll wanted wakeup waits other files) handle other
    ∙ either (λ (now : List (Option OpenSeen)). text_at handle now ≡ text_at handle files) wanted (with_poll wakeup waits other files) files
    (changed-text (λ (file : OpenSeen). record file { polls = polled_by wakeup waits file.polls }) (λ file. refl) files handle other) refl

kind-polled : (handle : ℕ) (g : Terms) (s : Service) (other wakeup flags : ℕ) (file : OpenSeen) (kind : FileKind)
    → IsStill handle s.files (poll_kind g s other wakeup flags file kind)
kind-polled handle g s other wakeup flags file kinds.Pipe =
    either (IsKept handle s.files) (wants_wakeup flags) (with_poll wakeup (would_wait g s file) other s.files) s.files
    (poll-kept handle wakeup (would_wait g s file) other s.files) (same-kept handle s.files)
kind-polled handle g s other wakeup flags file kinds.RawPipe =
    λ old new was is. raw-text handle (wants_wakeup flags) wakeup (has_nothing g s file) other s.files
kind-polled handle g s other wakeup flags file _ = same-kept handle s.files

polled-still : (handle : ℕ) (g : Terms) (s : Service) (other wakeup flags : ℕ) (slot : Option OpenSeen)
    → IsStill handle s.files (poll_file g s other wakeup flags slot)
polled-still handle g s other wakeup flags None = same-kept handle s.files
polled-still handle g s other wakeup flags (Some file) = kind-polled handle g s other wakeup flags file (kind_of_file file.file)

-- ---- all requests but READs

abbrev pub is_read : Operation → Bool
is_read (operations.Read handle offset size read_flags flags) = true
is_read _ = false

pub others-still : (handle : ℕ) (g : Terms) (s : Service) (unique pid : ℕ) (target : Option Node) (operation : Operation) → is_read operation ≡ false
    → IsStill handle s.files (step_of g s unique pid target operation)
others-still handle g s unique pid target (operations.Read other offset size read_flags flags) apart = absurd (false≢true (sym apart))
others-still handle g s unique pid target (operations.Lookup name) apart = entry-still handle g s unique (found_in (scene_of g s) name target)
others-still handle g s unique pid target operations.GetAttr apart = attributes-still handle g s (known (scene_of g s) target)
others-still handle g s unique pid target (operations.SetAttr valid size) apart = set-still handle g s target valid size
others-still handle g s unique pid target (operations.MkDir name) apart = made-still handle g (scene_of g s) name s.files (known (scene_of g s) target)
others-still handle g s unique pid target (operations.RmDir name) apart = removed-still handle (scene_of g s) name s.files (known (scene_of g s) target)
others-still handle g s unique pid target (operations.Open flags) apart =
    opened-still handle (scene_of g s) (now_of s.past) flags (known (scene_of g s) target) s.files
others-still handle g s unique pid target (operations.Write other offset lock_owner bytes) apart =
    written-still handle g s other lock_owner pid bytes (file_at other s.files)
others-still handle g s unique pid target (operations.Flush other lock_owner) apart =
    flushed-still handle g s other lock_owner (file_at other s.files)
others-still handle g s unique pid target (operations.Release other) apart = released-still handle g s other (file_at other s.files)
others-still handle g s unique pid target (operations.Poll other wakeup flags events) apart =
    polled-still handle g s other wakeup flags (file_at other s.files)
others-still handle g s unique pid target (operations.Interrupt number) apart = tt
others-still handle g s unique pid target _ apart = same-kept handle s.files
