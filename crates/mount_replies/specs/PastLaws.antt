-- What a mounted tracer did, whatever it served, and what reads of its files show of that. Theorems that speak of no program.
use Rattle.std.specs.Prelude.{◌≡◌, ◌⊎◌, ℕ, ◌==◌, ◌≤◌, Bool, true, false, not, List, [], ◌∷◌, length, Option, Some, None, Err}
use Rattle.std.specs.List.{All}
use Rattle.fuse_wire.specs.Replies.{reply_bytes}
use Rattle.fuse_wire.specs.declared.errno.Errno.{Errno}
use Rattle.fuse_wire.specs.declared.errno.Errno.TheVariants.{ENOENT, ENOMEM}
use Rattle.fuse_wire.specs.declared.reply.Reply.TheVariants as replies
use Rattle.fuse_wire.specs.declared.request.Operation.TheVariants as operations
use Rattle.fuse_wire.specs.declared.request.Request.{Request as Asked}
use Rattle.trace_command.specs.Configs.{IsInRange}
use Rattle.trace_command.specs.Paths as paths
use Rattle.trace_command.specs.Requests.{FitsItsTypes, Request, ReadFile, WriteFile}
use Rattle.trace_command.specs.declared.file_name.CpuFile.TheVariants as per_cpu
use Rattle.trace_command.specs.declared.refusal.Refusal.{Refusal}
use Rattle.tracer_specification.specs.FileTexts.{cpu_stats_text}
use Rattle.tracer_specification.specs.History.{text_of}
use Rattle.tracer_specification.specs.Pasts.{AreDone}
use Rattle.tracer.specs.Lives.{live_answer, most_done}
use Rattle.error_log.specs.Errors.{ErrorSeen}
use Rattle.mount_tree.specs.Children.{is_there, owner_is_there}
use Rattle.file_list.specs.FileKinds.{kind_of_file}
use Rattle.mount_tree.specs.NodePaths.{file_meant, owner_name, path_of}
use Rattle.mount_tree.specs.TreeLaws.{IsSound}
use Rattle.file_list.specs.declared.file.File.{File}
use Rattle.file_list.specs.declared.file.File.TheVariants as files
use Rattle.mount_tree.specs.declared.node.Node.{Node}
use Rattle.mount_tree.specs.declared.node.Node.TheVariants as nodes
use Rattle.mount_tree.specs.declared.node.Owner.{Owner}
use Rattle.file_list.specs.declared.file.FileKind.{FileKind}
use Rattle.file_list.specs.declared.file.FileKind.TheVariants as kinds
use Rattle.mount_stub_files.specs.ToolTexts.{tool_text}
use Rattle.mount_replies.specs.Calls.{CallFits, TakesTurns, Turn}
use Rattle.mount_replies.specs.Errnos.{errno_of}
use Rattle.mount_replies.specs.FileWrites.{begun_now}
use Rattle.mount_replies.specs.Lines.{command_text, lines_of, noted_command, noted_if_first, written}
use Rattle.mount_replies.specs.Mounted.{IsNamed, IsServed, MayRun, bytes_of_reply}
use Rattle.mount_replies.specs.Served.{is_cached, part_of, with_going_on}
use Rattle.mount_replies.specs.Services.{OpenSeen, Service, Terms, file_at, is_read_out, node_of, scene_of, text_at, with_reading}
use Rattle.mount_replies.specs.Sizes.{Telling, entry_number, text_now}
use Rattle.mount_replies.specs.Steps.{Asking, AsksFor, LineAsked, Noting, Ran, errors_after}
use Rattle.mount_replies.specs.Told.{attributes_of, found_in, sets_size}
use Rattle.mount_replies.specs.declared.fault.LineFault.{LineFault}

-- ---- what was served was done

-- a tracer that was just mounted: no command was done, no file is open, no read waits, no write was refused, and no text was counted
abbrev pub just_mounted : Service
just_mounted = record { past = []; files = []; parked = []; errors = []; counted = [] }

-- each of these commands was done after those before it, and they are no more than a tracer does that keeps no history
pub record WasDone (g : Terms) (past : List Request) : Type 0 where
  pub done : AreDone g.config past
  pub few : length past ≤ most_done

-- Whatever a mounted tracer served, and whatever the program called meanwhile, its past is a list of such commands, so that what history_laws says of
-- requests that were done holds of it. (`ServingIsTakingTurns`: so it is of all that is served where the program calls nothing.)
abbrev pub PastsAreDone : Type 0
PastsAreDone = (g : Terms) (turns : List Turn) (after : Service) → TakesTurns g just_mounted turns after → WasDone g after.past

-- and with a configuration in range the numbers of each of them fit their types if those of the calls do, whatever the bytes of the requests were: an
-- emission's CPU and process have 32 bits, and what a read takes at most 64
abbrev pub PastsFitTheirTypes : Type 0
PastsFitTheirTypes =
    (g : Terms) (turns : List Turn) (after : Service) → IsInRange g.config → All CallFits turns → TakesTurns g just_mounted turns after
    → All FitsItsTypes after.past

-- ---- reads

-- a file that reads show whole: no pipe, of lines or of binary pages, and not `inject`
abbrev pub is_shown : FileKind → Bool
is_shown kinds.Pipe = false
is_shown kinds.RawPipe = false
is_shown kinds.Inject = false
is_shown _ = true

-- and that a command reads
abbrev pub is_text : FileKind → Bool
is_text kinds.Text = true
is_text kinds.Trace = true
is_text _ = false

-- the instance whose file was opened
abbrev pub instance_of : Terms → Service → OpenSeen → Option (List ℕ)
instance_of g s file = owner_name (scene_of g s) file.owner

-- the command that reads a file of an instance whole, and the one that writes to it
abbrev pub read_whole : Option (List ℕ) → paths.File → Request
read_whole instance file = ReadFile instance (Some file) None

abbrev pub write_once : Option (List ℕ) → paths.File → Bool → List ℕ → Request
write_once instance file append text = WriteFile instance (Some file) append text

-- why a command is refused: there was no memory, or it is the command's answer after those that were done by then
abbrev pub IsReason : Terms → List Request → Request → Errno → Type 0
IsReason g past command errno =
    (errno ≡ ENOMEM) ⊎ ((refusal : Refusal) × (live_answer g.config past command ≡ Err refusal) × (errno ≡ errno_of refusal))

-- a request that is this one command was refused, and nothing has changed
pub record IsRefused (g : Terms) (before : Service) (command : Request) (unique : ℕ) (bytes : List ℕ) (after : Service) : Type 0 where
  pub errno : Errno
  pub why : IsReason g before.past command errno
  pub told : bytes ≡ reply_bytes unique (replies.Error errno)
  pub now : after ≡ before

-- a read was this one command, and gives the beginning of this text, which the open file keeps unless that is all of it; nothing else has changed
pub record GivesText (before : Service) (command : Request) (unique handle size : ℕ) (text bytes : List ℕ) (after : Service) : Type 0 where
  pub told : bytes ≡ reply_bytes unique (replies.Data (part_of 0 size text))
  pub now : after ≡ record before { past = command ∷ before.past; files = with_reading 0 size text handle before.files }
  pub kept : is_read_out 0 size text ≡ false → text_at handle after.files ≡ Some text

-- or it was refused
pub data ReadsAnew (g : Terms) (before : Service) (command : Request) (unique handle size : ℕ) (text bytes : List ℕ) (after : Service) : Type 0 where
  Shown : GivesText before command unique handle size text bytes after → ReadsAnew g before command unique handle size text bytes after
  NotShown : IsRefused g before command unique bytes after → ReadsAnew g before command unique handle size text bytes after

-- A READ at offset 0, whatever was served before it: the text is what the file shows after the commands that were done by then.
abbrev pub ReadsShowThePast : Type 0
ReadsShowThePast =
    (g : Terms) (turns : List Turn) (before after : Service) (request : Asked) (bytes : List ℕ) (handle size read_flags flags : ℕ) (file : OpenSeen) (meant : paths.File)
    → IsInRange g.config → TakesTurns g just_mounted turns before → IsServed g before request bytes after
    → request.operation ≡ operations.Read handle 0 size read_flags flags → is_cached read_flags ≡ false → file_at handle before.files ≡ Some file → is_text (kind_of_file file.file) ≡ true
    → is_there (scene_of g before) (node_of file) ≡ true → file_meant (scene_of g before) file.file ≡ Some meant
    → ReadsAnew g before (read_whole (instance_of g before file) meant) request.unique handle size (text_of g.config (instance_of g before file) before.past meant) bytes
    after

-- Of `stats` this is the text of the numbers that tracer_specification counts of the commands that were done by then: what the CPU's ring of that instance
-- keeps, what it overwrote, dropped and gave, and the clock.
abbrev pub StatsShowThePast : Type 0
StatsShowThePast =
    (g : Terms) (turns : List Turn) (before after : Service) (request : Asked) (bytes : List ℕ) (handle size read_flags flags cpu : ℕ) (file : OpenSeen)
    → IsInRange g.config → TakesTurns g just_mounted turns before → IsServed g before request bytes after
    → request.operation ≡ operations.Read handle 0 size read_flags flags → is_cached read_flags ≡ false → file_at handle before.files ≡ Some file → file.file ≡ files.OfCpu cpu per_cpu.Stats
    → is_there (scene_of g before) (node_of file) ≡ true
    → ReadsAnew g before (read_whole (instance_of g before file) (paths.OfCpu cpu per_cpu.Stats)) request.unique handle size
    (cpu_stats_text g.config (instance_of g before file) before.past cpu) bytes after

-- A READ of a file that shows its text without a command gives the beginning of it, which the open file keeps unless that is all of it; or there was no
-- memory. No command is done.
abbrev pub ShowsNow : Service → ℕ → ℕ → ℕ → List ℕ → List ℕ → Service → Type 0
ShowsNow before unique handle size text bytes after =
    ((bytes ≡ reply_bytes unique (replies.Data (part_of 0 size text))) × (after ≡ record before { files = with_reading 0 size text handle before.files }))
    ⊎ ((bytes ≡ reply_bytes unique (replies.Error ENOMEM)) × (after ≡ before))

-- A file that tools ask for shows what it is after the commands that were done by then: `set_event` the events that are enabled, `available_events` those
-- that are declared.
abbrev pub ToolReadsShowThePast : Type 0
ToolReadsShowThePast =
    (g : Terms) (before after : Service) (request : Asked) (bytes : List ℕ) (handle size read_flags flags : ℕ) (file : OpenSeen) (text : List ℕ)
    → IsServed g before request bytes after → request.operation ≡ operations.Read handle 0 size read_flags flags → is_cached read_flags ≡ false
    → file_at handle before.files ≡ Some file → kind_of_file file.file ≡ kinds.Tool → is_there (scene_of g before) (node_of file) ≡ true
    → tool_text g.config before.past file.owner file.file ≡ Some text
    → ShowsNow before request.unique handle size text bytes after

-- a READ at a later offset goes on in the text that the open file keeps, and changes nothing but that this is given back at its end
abbrev pub LaterReadsGoOn : Type 0
LaterReadsGoOn =
    (g : Terms) (before after : Service) (request : Asked) (bytes : List ℕ) (handle offset size read_flags flags : ℕ) (file : OpenSeen) (text : List ℕ)
    → IsServed g before request bytes after → request.operation ≡ operations.Read handle offset size read_flags flags → is_cached read_flags ≡ false
    → (offset == 0) ≡ false → file_at handle before.files ≡ Some file → is_shown (kind_of_file file.file) ≡ true → file.text ≡ Some text
    → is_there (scene_of g before) (node_of file) ≡ true
    → (bytes ≡ reply_bytes request.unique (replies.Data (part_of offset size text)))
    × (after ≡ record before { files = with_going_on offset size (Some text) handle before.files })

-- and one at the end of a text that was read to its end, or beyond, gives nothing, and changes nothing
abbrev pub ReadsEndWithTheText : Type 0
ReadsEndWithTheText =
    (g : Terms) (before after : Service) (request : Asked) (bytes : List ℕ) (handle offset size read_flags flags end : ℕ) (file : OpenSeen)
    → IsServed g before request bytes after → request.operation ≡ operations.Read handle offset size read_flags flags → is_cached read_flags ≡ false
    → (offset == 0) ≡ false → file_at handle before.files ≡ Some file → is_shown (kind_of_file file.file) ≡ true → file.text ≡ None
    → file.ended ≡ Some end → end ≤ offset → is_there (scene_of g before) (node_of file) ≡ true
    → (bytes ≡ reply_bytes request.unique (replies.Data [])) × (after ≡ before)

-- ---- writes

-- a file that commands can write: not `inject`, whose writes are emissions
abbrev pub is_file : FileKind → Bool
is_file kinds.Text = true
is_file kinds.Trace = true
is_file kinds.Pipe = true
is_file _ = false

-- the command that a line of text is which is written to a file that one opened
abbrev pub line_written : Option (List ℕ) → paths.File → File → Bool → List ℕ → Asking
line_written instance meant file append line = AsksFor (write_once instance meant append (command_text file line))

-- what is noted of a line that was refused
abbrev pub noted_by : Terms → Service → OpenSeen → List ℕ → LineFault → Noting
noted_by g s file text fault = noted_command (begun_now g s file) (path_of (scene_of g s) (node_of file)) file.file text fault

-- A write was these lines, one after another as far as none was refused, and so many bytes were written as these lines had; or the first one was
-- refused, and nothing has changed but that the log of its instance has it, unless there was no memory.
pub record WritesLines (g : Terms) (before : Service) (file : OpenSeen) (lines : List LineAsked) (unique handle size : ℕ) (bytes : List ℕ) (after : Service) : Type 0 where
  pub ran : Ran
  pub runs : MayRun g before.past lines ran
  pub told : bytes ≡ bytes_of_reply unique (written handle size before.files ran.done ran.refused).reply
  pub now : after ≡ record before {
    past = ran.past;
    files = (written handle size before.files ran.done ran.refused).files;
    errors = errors_after (noted_if_first (noted_by g before file) ran.done ran.refused) before.errors;
  }

-- A WRITE, whatever was served before it: a command that writes what came, without a last newline, to that file of that instance, or of several lines to
-- the declarations or to a trigger one for each line: by `>` if the file was opened to be emptied and nothing was written to it yet, else by `>>`.
abbrev pub WritesAreCommands : Type 0
WritesAreCommands =
    (g : Terms) (turns : List Turn) (before after : Service) (request : Asked) (bytes : List ℕ) (handle offset lock_owner : ℕ) (own : List ℕ) (file : OpenSeen) (meant : paths.File)
    → IsInRange g.config → TakesTurns g just_mounted turns before → IsServed g before request bytes after
    → request.operation ≡ operations.Write handle offset lock_owner own → file_at handle before.files ≡ Some file → is_file (kind_of_file file.file) ≡ true
    → is_there (scene_of g before) (node_of file) ≡ true → file_meant (scene_of g before) file.file ≡ Some meant
    → WritesLines g before file (lines_of (line_written (instance_of g before file) meant file.file) file.file (not file.starts_over) own) request.unique handle (length own)
    bytes after

-- and of an instance that was removed nothing can be read or written, and nothing is noted
pub record IsMissing (before : Service) (unique : ℕ) (bytes : List ℕ) (after : Service) : Type 0 where
  pub told : bytes ≡ reply_bytes unique (replies.Error ENOENT)
  pub now : after ≡ before

abbrev pub RemovedFilesAreMissing : Type 0
RemovedFilesAreMissing =
    (g : Terms) (before after : Service) (request : Asked) (bytes : List ℕ) (handle offset size read_flags flags lock_owner : ℕ) (own : List ℕ) (file : OpenSeen)
    → IsServed g before request bytes after → file_at handle before.files ≡ Some file → is_there (scene_of g before) (node_of file) ≡ false
    → (request.operation ≡ operations.Read handle offset size read_flags flags → IsMissing before request.unique bytes after)
    × (request.operation ≡ operations.Write handle offset lock_owner own → IsMissing before request.unique bytes after)

-- ---- errors

-- the instance whose write was refused is there
abbrev pub IsOfOneThere : Terms → Service → ErrorSeen → Type 0
IsOfOneThere g s error = owner_is_there (scene_of g s) error.owner ≡ true

-- whatever was served, only of instances that are there errors are kept
abbrev pub ErrorsAreOfInstances : Type 0
ErrorsAreOfInstances =
    (g : Terms) (turns : List Turn) (after : Service) → TakesTurns g just_mounted turns after
    → All (IsOfOneThere g after) after.errors

-- ---- folders

-- The folders and files are those of a scene in which all have names and no two have one name, so that lists are look-ups (`lists_are_lookups` of
-- mount_tree), whatever was served.
abbrev pub ServedScenesAreSound : Type 0
ServedScenesAreSound =
    (g : Terms) (turns : List Turn) (after : Service) → IsInRange g.config → TakesTurns g just_mounted turns after
    → IsSound (scene_of g after)

-- ---- sizes

-- what is told of a file with a size: its text's length, or that there was no memory
abbrev pub TellsLength : Terms → Service → Telling → Owner → File → ℕ → List ℕ → Type 0
TellsLength g s telling owner file unique bytes =
    (bytes ≡ reply_bytes unique (telling (length (text_now g s owner file)))) ⊎ (bytes ≡ reply_bytes unique (replies.Error ENOMEM))

-- A size that is told of a file, whatever was served, is the length of what it shows then.
abbrev pub SizesAreLengths : Type 0
SizesAreLengths =
    (g : Terms) (turns : List Turn) (before after : Service) (request : Asked) (bytes : List ℕ) (owner : Owner) (file : File)
    → IsInRange g.config → TakesTurns g just_mounted turns before → IsServed g before request bytes after → is_shown (kind_of_file file) ≡ true
    → is_there (scene_of g before) (nodes.File owner file) ≡ true
    → (request.operation ≡ operations.GetAttr → IsNamed request.node (Some (nodes.File owner file))
    → TellsLength g before (λ size. replies.Attributes (attributes_of g (nodes.File owner file) size)) owner file request.unique bytes)
    × ((valid asked : ℕ) → request.operation ≡ operations.SetAttr valid asked → sets_size valid asked ≡ false
    → IsNamed request.node (Some (nodes.File owner file))
    → TellsLength g before (λ size. replies.Attributes (attributes_of g (nodes.File owner file) size)) owner file request.unique bytes)
    × ((name : List ℕ) (folder : Node) → request.operation ≡ operations.Lookup name → IsNamed request.node (Some folder)
    → found_in (scene_of g before) name (Some folder) ≡ Some (nodes.File owner file)
    → TellsLength g before (λ size. replies.Entry (entry_number request.unique (nodes.File owner file)) (attributes_of g (nodes.File owner file) size)) owner file
    request.unique bytes)
