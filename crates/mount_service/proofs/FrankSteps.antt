-- Each step tells of refused memory wherever it can be refused: by ENOMEM, or by a write that is told as done in part.
use Rattle.std.proofs.Common.{◌≡◌, ℕ, ◌^◌, ◌==◌, nat_lt, Bool, false, not, ◌&&◌, List, length, Option, Some, None, refl, sym, ap, subst, ◌∙◌, inl, slice_get}
use Rattle.fuse_wire.specs.declared.request.Operation.{Operation}
use Rattle.fuse_wire.specs.declared.request.Operation.TheVariants as operations
use Rattle.fuse_wire.specs.declared.reply.Reply.TheVariants as replies
use Rattle.trace_command.specs.declared.refusal.Refusal.TheVariants.{Memory}
use Rattle.trace_format.specs.Definitions.{Definition}
use Rattle.tracer_specification.specs.Settings.{declared_events, now_of}
use Rattle.mount_tree.specs.Children.{is_there}
use Rattle.file_list.specs.FileKinds.{access_of_file, kind_of_file}
use Rattle.mount_tree.specs.Nodes.{number_of}
use Rattle.mount_tree.specs.Scenes.{most_made}
use Rattle.file_list.specs.declared.file.File.{File}
use Rattle.file_list.specs.declared.file.File.TheVariants as files
use Rattle.file_list.specs.declared.file.FileKind.{FileKind}
use Rattle.file_list.specs.declared.file.FileKind.TheVariants as kinds
use Rattle.file_list.specs.declared.folder.Folder.TheVariants as folders
use Rattle.mount_tree.specs.declared.node.Node.{Node}
use Rattle.mount_tree.specs.declared.node.Node.TheVariants as nodes
use Rattle.mount_tree.specs.declared.node.Owner.{Owner}
use Rattle.mount_tree.specs.declared.node.Owner.TheVariants.{Top}
use Rattle.mount_stub_files.specs.ToolTexts.{tool_text}
use Rattle.mount_stub_files.specs.ToolWrites.{tool_write}
use Rattle.mount_stub_files.specs.declared.write.ToolWrite.{ToolWrite}
use Rattle.mount_stub_files.specs.declared.write.ToolWrite.TheVariants as writes
use Rattle.error_log.specs.Logs.{log_text}
use Rattle.mount_replies.specs.FileWrites.{event_of_file, flush_file, flush_line, has_rest, inject, inject_stream, release, release_line, write_file, write_kind, write_other, write_text, write_tool}
use Rattle.mount_replies.specs.Lines.{asked_by_line, errno_of_fault, flushed, goes_on, injected, injected_at_once, line_command, released, stream_after, written, written_lines}
use Rattle.mount_replies.specs.Owed.{step_of_parked}
use Rattle.mount_replies.specs.Pipes.{ends, is_dry, is_used_up}
use Rattle.mount_replies.specs.Served.{AsksNone, AsksToWrite, Emptying, clears, emptying_of, is_cached, is_nonblocking, make_folder, makes_text, opened, opened_unless_emptied, poll_file, poll_kind, read_dry, read_file, read_kind, read_log, read_no_page, read_pipe_directly, read_raw, read_shown, read_text, read_tool, remove_folder, step_of, text_counted, unless_counted, given_counted, given_tool}
use Rattle.mount_replies.specs.Services.{OpenSeen, Service, Terms, count_of, file_at, just_opened, node_of, read_of_pipe, scene_of}
use Rattle.mount_replies.specs.Sizes.{Telling, entry_number, is_recent, set_attributes, size_by_kind, tell_attributes, tell_entry, tell_size}
use Rattle.mount_replies.specs.Steps.{LineAsked, LineRefused, Outcome, Ran, Step}
use Rattle.mount_replies.specs.Told.{attributes_of, empties, found_in, known, may, sets_size, wants_read, wants_write}
use Rattle.mount_replies.specs.declared.fault.LineFault.TheVariants.{Refused}
use Rattle.mount_replies.specs.declared.parked.Parked.{Parked}
use Rattle.mount_service.proofs.SameRuns.{IsFrank, IsStopped, Shows, either}
use Rattle.mount_service.proofs.ShortRuns.{command-lines-short, lines-short, stream-lines-short, told-short}

-- how many bytes a request has written
abbrev pub written_by : Operation → ℕ
written_by (operations.Write handle offset lock_owner bytes) = length bytes
written_by _ = 0

module _ (g : Terms) (s : Service) (size : ℕ) where
  -- ---- sizes

  size-frank : (telling : Telling) (pages : ℕ) (owner : Owner) (file : File) (kind : FileKind)
      → IsFrank g s.past size (size_by_kind g s telling pages owner file kind)
  size-frank telling pages owner file kinds.Pipe = tt
  size-frank telling pages owner file kinds.RawPipe = tt
  size-frank telling pages owner file kinds.Inject = tt
  size-frank telling pages owner file kinds.ErrorLog = tt
  size-frank telling pages owner file _ =
      either (IsFrank g s.past size) (is_recent (length s.past) (count_of (number_of (nodes.File owner file)) s.counted)) _ _ tt tt

  node-frank : (telling : Telling) (pages : ℕ) (node : Node) → IsFrank g s.past size (tell_size g s telling pages node)
  node-frank telling pages (nodes.Folder owner folder) = tt
  node-frank telling pages (nodes.File owner file) = size-frank telling pages owner file (kind_of_file file)

  entry-frank : (unique : ℕ) (node : Option Node) → IsFrank g s.past size (tell_entry g s unique node)
  entry-frank unique None = tt
  entry-frank unique (Some node) = node-frank (λ size. replies.Entry (entry_number unique node) (attributes_of g node size)) (2 ^ 40) node

  attributes-frank : (node : Option Node) → IsFrank g s.past size (tell_attributes g s node)
  attributes-frank None = tt
  attributes-frank (Some node) = node-frank (λ size. replies.Attributes (attributes_of g node size)) 0 node

  set-frank : (node : Option Node) (valid length : ℕ) → IsFrank g s.past size (set_attributes g s node valid length)
  set-frank node valid length = either (IsFrank g s.past size) (sets_size valid length) _ _ tt (attributes-frank (known (scene_of g s) node))

  -- ---- folders

  made-frank : (name : List ℕ) (node : Option Node) → IsFrank g s.past size (make_folder g (scene_of g s) name s.files node)
  made-frank name None = tt
  made-frank name (Some (nodes.Folder Top folders.Instances)) = either (IsFrank g s.past size) (nat_lt (scene_of g s).made most_made) _ _ refl tt
  made-frank name _ = tt

  removed-frank : (name : List ℕ) (node : Option Node) → IsFrank g s.past size (remove_folder (scene_of g s) name s.files node)
  removed-frank name None = tt
  removed-frank name (Some (nodes.Folder Top folders.Instances)) = refl
  removed-frank name _ = tt

  -- ---- OPEN

  emptied-frank : (flags : ℕ) (file : OpenSeen) (emptying : Emptying) → IsFrank g s.past size (opened_unless_emptied (scene_of g s) (now_of s.past) flags file s.files emptying)
  emptied-frank flags file AsksNone = either (IsFrank g s.past size) (clears file.file flags) _ _ tt tt
  emptied-frank flags file (AsksToWrite asked text) = refl

  open-frank : (flags : ℕ) (node : Option Node) → IsFrank g s.past size (opened (scene_of g s) (now_of s.past) flags node s.files)
  open-frank flags None = tt
  open-frank flags (Some (nodes.Folder owner folder)) = tt
  open-frank flags (Some (nodes.File owner file)) =
      either (IsFrank g s.past size) (may (access_of_file file) (wants_read flags) (wants_write flags)) _ _
      (emptied-frank flags (just_opened owner file (empties flags)) (emptying_of file (empties flags))) tt

  -- ---- READ

  text-frank : (read : Parked) (offset : ℕ) (file : OpenSeen) → IsFrank g s.past size (read_text (scene_of g s) read.handle offset read.size file s.files)
  text-frank read offset file = either (IsFrank g s.past size) (makes_text offset file) _ _ refl tt

  given-frank : (handle offset most : ℕ) (shown : Option (List ℕ)) → IsFrank g s.past size (given_tool handle offset most s.files shown)
  given-frank handle offset most None = tt
  given-frank handle offset most (Some text) = tt

  shown-frank : (read : Parked) (offset : ℕ) (file : OpenSeen) (shown : Option (List ℕ)) → IsFrank g s.past size (read_shown read.handle offset read.size file s.files shown)
  shown-frank read offset file shown = either (IsFrank g s.past size) (makes_text offset file) _ _ (given-frank read.handle offset read.size shown) tt

  counted-frank : (read : Parked) (step : Step) (text : Option (List ℕ)) → IsFrank g s.past size step → IsFrank g s.past size (given_counted read.handle read.size s.files step text)
  counted-frank read step None frank = frank
  counted-frank read step (Some text) frank = tt

  unless-frank : (read : Parked) (cached : Bool) (offset : ℕ) (file : OpenSeen) (step : Step) → IsFrank g s.past size step
      → IsFrank g s.past size (unless_counted s read cached offset file step)
  unless-frank read cached offset file step frank =
      either (IsFrank g s.past size) (cached && offset == 0) _ _ (counted-frank read step (text_counted file s.counted) frank) frank

  dry-frank : (read : Parked) (flags : ℕ) (ended : Bool) → IsFrank g s.past size (read_dry read flags ended s.files)
  dry-frank read flags ended = either (IsFrank g s.past size) ended _ _ tt (either (IsFrank g s.past size) (is_nonblocking flags) _ _ tt tt)

  pipe-frank : (read : Parked) (cached : Bool) (flags : ℕ) (file : OpenSeen) → IsFrank g s.past size (read_pipe_directly g s read cached flags file)
  pipe-frank read cached flags file =
      either (IsFrank g s.past size) cached _ _ tt
      (either (IsFrank g s.past size) (is_used_up file) _ _
      (either (IsFrank g s.past size) (is_dry g s file.owner file.file) _ _ (dry-frank read flags (ends g s file)) refl) tt)

  no-page-frank : (read : Parked) (file : OpenSeen) → IsFrank g s.past size (read_no_page read file s.files)
  no-page-frank read file = either (IsFrank g s.past size) file.polls.told_ready _ _ tt tt

  raw-frank : (read : Parked) (cached : Bool) (flags : ℕ) (file : OpenSeen) → IsFrank g s.past size (read_raw g s read cached flags file)
  raw-frank read cached flags file =
      either (IsFrank g s.past size) cached _ _
      (either (IsFrank g s.past size) (is_used_up file) _ _
      (either (IsFrank g s.past size) (nat_lt read.size 4096) _ _ tt
      (either (IsFrank g s.past size) (is_dry g s file.owner file.file) _ _ (no-page-frank read file) refl)) tt)
      (either (IsFrank g s.past size) (is_used_up file) _ _
      (either (IsFrank g s.past size) (is_dry g s file.owner file.file) _ _ (dry-frank read flags (ends g s file)) refl) tt)

  read-kind-frank : (read : Parked) (offset : ℕ) (cached : Bool) (flags : ℕ) (file : OpenSeen) (kind : FileKind)
      → IsFrank g s.past size (read_kind g s read offset cached flags file kind)
  read-kind-frank read offset cached flags file kinds.Pipe = pipe-frank read cached flags file
  read-kind-frank read offset cached flags file kinds.RawPipe = raw-frank read cached flags file
  read-kind-frank read offset cached flags file kinds.Inject = tt
  read-kind-frank read offset cached flags file kinds.Tool =
      unless-frank read cached offset file (read_tool g s read.handle offset read.size file) (shown-frank read offset file (tool_text g.config s.past file.owner file.file))
  read-kind-frank read offset cached flags file kinds.ErrorLog =
      unless-frank read cached offset file (read_log s read.handle offset read.size file) (shown-frank read offset file (Some (log_text file.owner s.errors)))
  read-kind-frank read offset cached flags file _ =
      unless-frank read cached offset file (read_text (scene_of g s) read.handle offset read.size file s.files) (text-frank read offset file)

  read-frank : (read : Parked) (offset : ℕ) (cached : Bool) (flags : ℕ) (slot : Option OpenSeen) → IsFrank g s.past size (read_file g s read offset cached flags slot)
  read-frank read offset cached flags None = tt
  read-frank read offset cached flags (Some file) =
      either (IsFrank g s.past size) (is_there (scene_of g s) (node_of file)) _ _ (read-kind-frank read offset cached flags file (kind_of_file file.file)) tt

  pub parked-frank : (read : Parked) → IsFrank g s.past size (step_of_parked g s read)
  parked-frank read = either (IsFrank g s.past size) read.interrupted _ _ tt (read-frank read 0 false 0 (file_at read.handle s.files))

  -- ---- POLL

  poll-frank : (handle wakeup flags : ℕ) (slot : Option OpenSeen) → IsFrank g s.past size (poll_file g s handle wakeup flags slot)
  poll-frank handle wakeup flags None = tt
  poll-frank handle wakeup flags (Some file) = by (kind_of_file file.file)
    where
      by : (kind : FileKind) → IsFrank g s.past size (poll_kind g s handle wakeup flags file kind)
      by kinds.Pipe = tt
      by kinds.RawPipe = tt
      by _ = tt

  -- ---- one line

  single-frank : (outcome : Option LineRefused → Outcome) (ran : Ran)
      → ((line : LineRefused) → (outcome (Some line)).reply ≡ Some (replies.Error (errno_of_fault line.fault))) → IsStopped ran → Shows size (outcome ran.refused).reply
  single-frank outcome ran says stopped =
      inl (ap (λ (r : Option LineRefused). (outcome r).reply) stopped.1 ∙ says (record { text = stopped.0; fault = Refused Memory }))

  -- ---- FLUSH, RELEASE

  flush-line-frank : (handle : ℕ) (file : OpenSeen) (event : Option Definition) → IsFrank g s.past size (flush_line g s handle file event)
  flush-line-frank handle file None = tt
  flush-line-frank handle file (Some event) = λ ran runs stopped. single-frank (flushed handle s.files) ran (λ line. refl) stopped

  flush-frank : (handle lock_owner : ℕ) (slot : Option OpenSeen) → IsFrank g s.past size (flush_file g s handle lock_owner slot)
  flush-frank handle lock_owner None = tt
  flush-frank handle lock_owner (Some file) =
      either (IsFrank g s.past size) (has_rest file && file.stream.lock_owner == lock_owner) _ _ (flush-line-frank handle file (event_of_file g s file file.file)) tt

  release-line-frank : (handle : ℕ) (file : OpenSeen) (event : Option Definition) → IsFrank g s.past size (release_line g s handle file event)
  release-line-frank handle file None = tt
  release-line-frank handle file (Some event) = λ ran runs stopped. single-frank (released handle s.files) ran (λ line. refl) stopped

  release-frank : (handle : ℕ) (slot : Option OpenSeen) → IsFrank g s.past size (release g s handle slot)
  release-frank handle None = tt
  release-frank handle (Some file) =
      either (IsFrank g s.past size) (has_rest file) _ _ (release-line-frank handle file (event_of_file g s file file.file)) tt

-- ---- WRITE

module _ (g : Terms) (s : Service) (handle lock_owner pid : ℕ) (bytes : List ℕ) where
  lines-frank : (file : OpenSeen) → IsFrank g s.past (length bytes) (write_text g s handle file bytes)
  lines-frank file ran runs stopped =
      subst (λ (r : Option LineRefused). Shows (length bytes) (written handle (length bytes) s.files ran.done r).reply) (sym stopped.1)
      (told-short (ran.done == 0) (length bytes) ran.done _ _ refl
      (lines-short g (length bytes) s.past asked ran (command-lines-short (line_command (scene_of g s) (nodes.File file.owner file.file) file.file) file.file (not file.starts_over) bytes) runs stopped)
      refl refl)
    where
      asked : List LineAsked
      asked = written_lines (scene_of g s) file.owner file.file (not file.starts_over) bytes

  tool-frank : (file : OpenSeen) (comes : ToolWrite) → IsFrank g s.past (length bytes) (write_tool g s handle file bytes comes)
  tool-frank file writes.Missing = tt
  tool-frank file writes.Wrong = tt
  tool-frank file writes.Same = tt
  tool-frank file (writes.Switch switch on size) = refl

  other-frank : (file : OpenSeen) (kind : FileKind) → IsFrank g s.past (length bytes) (write_other g s handle file bytes kind)
  other-frank file kinds.Tool = tool-frank file (tool_write g.config (scene_of g s) file.owner file.file bytes)
  other-frank file kinds.ErrorLog = tt
  other-frank file _ = lines-frank file

  stream-frank : (file : OpenSeen) (event : Definition) → IsFrank g s.past (length bytes) (inject_stream g s handle lock_owner pid bytes file event)
  stream-frank file event ran runs stopped =
      subst (λ (r : Option LineRefused). Shows (length bytes) (injected handle (stream_after file.stream lock_owner pid bytes) (length bytes) s.files ran.done r).reply) (sym stopped.1)
      (told-short (ran.done == 0) (length bytes) ran.done _ _ refl
      (lines-short g (length bytes) s.past _ ran (stream-lines-short (asked_by_line g.config.cpus pid event) file.stream.rest bytes) runs stopped) refl refl)

  inject-frank : (file : OpenSeen) (event : Option Definition) → IsFrank g s.past (length bytes) (inject g s handle lock_owner pid bytes file event)
  inject-frank file None = tt
  inject-frank file (Some event) =
      either (IsFrank g s.past (length bytes)) (goes_on file.stream bytes) _ _ (stream-frank file event)
      (λ ran runs stopped. single-frank g s (length bytes) (injected_at_once (length bytes) s.files) ran (λ line. refl) stopped)

  kind-frank : (own : OpenSeen) (file : File) → IsFrank g s.past (length bytes) (write_kind g s handle lock_owner pid bytes own file)
  kind-frank own (files.Inject event) = inject-frank own (slice_get (declared_events s.past) event)
  kind-frank own _ = other-frank own (kind_of_file own.file)

  write-frank : (slot : Option OpenSeen) → IsFrank g s.past (length bytes) (write_file g s handle lock_owner pid bytes slot)
  write-frank None = tt
  write-frank (Some file) =
      either (IsFrank g s.past (length bytes)) (is_there (scene_of g s) (node_of file)) _ _ (kind-frank file file.file) tt

-- ---- all requests

pub step-frank : (g : Terms) (s : Service) (unique pid : ℕ) (target : Option Node) (operation : Operation)
    → IsFrank g s.past (written_by operation) (step_of g s unique pid target operation)
step-frank g s unique pid target (operations.Lookup name) = entry-frank g s 0 unique (found_in (scene_of g s) name target)
step-frank g s unique pid target operations.GetAttr = attributes-frank g s 0 (known (scene_of g s) target)
step-frank g s unique pid target (operations.SetAttr valid size) = set-frank g s 0 target valid size
step-frank g s unique pid target (operations.MkDir name) = made-frank g s 0 name (known (scene_of g s) target)
step-frank g s unique pid target (operations.RmDir name) = removed-frank g s 0 name (known (scene_of g s) target)
step-frank g s unique pid target (operations.Open flags) = open-frank g s 0 flags (known (scene_of g s) target)
step-frank g s unique pid target (operations.Read handle offset size read_flags flags) =
    read-frank g s 0 (read_of_pipe unique handle size) offset (is_cached read_flags) flags (file_at handle s.files)
step-frank g s unique pid target (operations.Write handle offset lock_owner bytes) = write-frank g s handle lock_owner pid bytes (file_at handle s.files)
step-frank g s unique pid target (operations.Flush handle lock_owner) = flush-frank g s 0 handle lock_owner (file_at handle s.files)
step-frank g s unique pid target (operations.Release handle) = release-frank g s 0 handle (file_at handle s.files)
step-frank g s unique pid target (operations.Poll handle wakeup flags events) = poll-frank g s 0 handle wakeup flags (file_at handle s.files)
step-frank g s unique pid target _ = tt
