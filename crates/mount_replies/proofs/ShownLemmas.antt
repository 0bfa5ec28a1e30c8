-- What reads of a file show.
use Rattle.std.proofs.Common.{◌≡◌, inl, inr, ℕ, ◌+◌, Bool, true, false, not, ◌&&◌, if◌then◌else◌, List, [], ◌∷◌, length, Option, Some, None, Result, Ok, Err, refl, sym, ap, subst, ◌∙◌}
use Rattle.std.proofs.lemmas.Bool.{false≢true}
use Rattle.std.specs.Option.{option_map}
use Rattle.fuse_wire.specs.declared.errno.Errno.TheVariants.{ENOENT}
use Rattle.fuse_wire.specs.declared.reply.Reply.{Reply}
use Rattle.trace_command.specs.Configs.{IsInRange}
use Rattle.trace_command.specs.Paths as paths
use Rattle.trace_command.specs.Paths.{address_of}
use Rattle.trace_command.specs.Requests.{Request, ReadFile, WriteFile}
use Rattle.trace_command.specs.declared.command.Config.{Config}
use Rattle.trace_command.specs.declared.command.Reply.{Reply as Answer}
use Rattle.trace_command.specs.declared.command.Reply.TheVariants as answers
use Rattle.trace_command.specs.declared.file_name.CpuFile.TheVariants as per_cpu
use Rattle.trace_command.specs.declared.file_name.TopFile.TheVariants as top
use Rattle.trace_command.specs.declared.refusal.Refusal.{Refusal}
use Rattle.trace_command.specs.declared.refusal.Refusal.TheVariants as refusal
use Rattle.tracer_specification.specs.History.{answer_with_room, file_answer, instance_answer, missing, read_answer, text_of, unless_refused, whole_text}
use Rattle.tracer_specification.specs.Settings.{is_there as instance_is_there}
use Rattle.mount_tree.proofs.AddressLaws.{path-address}
use Rattle.mount_tree.proofs.SoundLemmas.{scene-sound}
use Rattle.mount_tree.specs.Children.{is_there}
use Rattle.file_list.specs.FileKinds.{kind_of_file, takes_lines}
use Rattle.mount_tree.specs.NodePaths.{file_meant, path_of}
use Rattle.mount_tree.specs.Scenes.{SceneSeen, event_name}
use Rattle.file_list.specs.declared.file.File.{File}
use Rattle.file_list.specs.declared.file.File.TheVariants as files
use Rattle.file_list.specs.declared.file.FileKind.{FileKind}
use Rattle.file_list.specs.declared.file.FileKind.TheVariants as kinds
use Rattle.mount_replies.proofs.DoneLemmas.{events-are, had-room, pasts_are_done}
use Rattle.mount_replies.proofs.PartLaws.{reading-kept}
use Rattle.mount_replies.specs.Errnos.{errno_of}
use Rattle.mount_replies.specs.FileWrites.{write_file, write_kind, write_other, write_text, write_there}
use Rattle.mount_replies.specs.Lines.{command_lines, command_text, has_newline, is_blank_line, line_command, lines_of, one_command, pieces_of, without_newline, written_lines}
use Rattle.mount_replies.specs.Mounted.{Does, MayAnswer, MayRun, bytes_of_reply}
use Rattle.mount_replies.specs.PastLaws.{IsMissing, IsReason, NotShown, ReadsAnew, ReadsShowThePast, RemovedFilesAreMissing, Shown, StatsShowThePast, WasDone, WritesAreCommands, WritesLines, instance_of, is_file, is_text, line_written, read_whole, write_once}
use Rattle.mount_replies.specs.Served.{is_cached, read_anew, read_file, read_kind, read_text, read_there}
use Rattle.mount_replies.specs.Services.{OpenSeen, Service, Terms, file_at, node_of, read_of_pipe, scene_of}
use Rattle.mount_replies.specs.Sizes.{text_in}
use Rattle.mount_replies.specs.Steps.{Asking, AsksFor, LineAsked, Step, failed, read_of, write_of}
use Rattle.mount_replies.specs.declared.parked.Parked.{Parked}

-- ---- answers

-- a file that is no pipe, as it is meant by a node that is none
abbrev is_whole : paths.File → Bool
is_whole (paths.OfInstance top.TracePipe) = false
is_whole (paths.OfCpu cpu per_cpu.TracePipe) = false
is_whole _ = true

some-file : (found meant : paths.File) → is_whole found ≡ true → Some found ≡ Some meant → is_whole meant ≡ true
some-file found meant whole is = let same : found ≡ meant = cc in subst (λ (f : paths.File). is_whole f ≡ true) same whole

meant-whole : (scene : SceneSeen) (file : File) (meant : paths.File) → is_text (kind_of_file file) ≡ true → file_meant scene file ≡ Some meant → is_whole meant ≡ true
meant-whole scene files.SyntheticEvents meant text is = some-file paths.SyntheticEvents meant refl is
meant-whole scene (files.OfInstance top.Trace) meant text is = some-file (paths.OfInstance top.Trace) meant refl is
meant-whole scene (files.OfInstance top.TracePipe) meant text is = absurd (false≢true text)
meant-whole scene (files.OfInstance top.Overwrite) meant text is = some-file (paths.OfInstance top.Overwrite) meant refl is
meant-whole scene (files.OfInstance top.TraceOptions) meant text is = some-file (paths.OfInstance top.TraceOptions) meant refl is
meant-whole scene (files.OfInstance top.TracingOn) meant text is = some-file (paths.OfInstance top.TracingOn) meant refl is
meant-whole scene (files.OfInstance top.Snapshot) meant text is = some-file (paths.OfInstance top.Snapshot) meant refl is
meant-whole scene (files.OfInstance top.EventsEnable) meant text is = some-file (paths.OfInstance top.EventsEnable) meant refl is
meant-whole scene (files.OfInstance top.EventsFilter) meant text is = some-file (paths.OfInstance top.EventsFilter) meant refl is
meant-whole scene files.SystemEnable meant text is = some-file (paths.OfInstance top.EventsEnable) meant refl is
meant-whole scene (files.OfCpu cpu per_cpu.Trace) meant text is = some-file (paths.OfCpu cpu per_cpu.Trace) meant refl is
meant-whole scene (files.OfCpu cpu per_cpu.TracePipe) meant text is = absurd (false≢true text)
meant-whole scene (files.OfCpu cpu per_cpu.Stats) meant text is = some-file (paths.OfCpu cpu per_cpu.Stats) meant refl is
meant-whole scene (files.OfEvent event file) meant text is = by (event_name event scene.events) is
  where
    by : (name : Option (List ℕ)) → option_map (λ (n : List ℕ). paths.OfEvent n file) name ≡ Some meant → is_whole meant ≡ true
    by None e = absurd (let no : None ≡ Some meant = e in cc)
    by (Some name) e = some-file (paths.OfEvent name file) meant refl e
meant-whole scene _ meant text is = absurd (false≢true text)

given : (text : List ℕ) (answer : Answer) → whole_text None text ≡ Ok answer → text_in answer ≡ text
given text answer is = let same : answers.Text text ≡ answer = cc in ap text_in (sym same)

-- the answer to a read of a whole file is its text
read-shows : (g : Config) (instance : Option (List ℕ)) (past : List Request) (meant : paths.File) (answer : Answer) → is_whole meant ≡ true
    → read_answer g instance past None meant ≡ Ok answer → text_in answer ≡ text_of g instance past meant
read-shows g instance past paths.SyntheticEvents answer whole is = given _ answer is
read-shows g instance past (paths.OfInstance top.Trace) answer whole is = given _ answer is
read-shows g instance past (paths.OfInstance top.TracePipe) answer whole is = absurd (false≢true whole)
read-shows g instance past (paths.OfInstance top.Overwrite) answer whole is = given _ answer is
read-shows g instance past (paths.OfInstance top.TraceOptions) answer whole is = given _ answer is
read-shows g instance past (paths.OfInstance top.TracingOn) answer whole is = given _ answer is
read-shows g instance past (paths.OfInstance top.Snapshot) answer whole is = given _ answer is
read-shows g instance past (paths.OfInstance top.EventsEnable) answer whole is = given _ answer is
read-shows g instance past (paths.OfInstance top.EventsFilter) answer whole is = absurd (let no : Err refusal.NotReadable ≡ Ok answer = is in cc)
read-shows g instance past (paths.OfCpu cpu per_cpu.Trace) answer whole is = given _ answer is
read-shows g instance past (paths.OfCpu cpu per_cpu.TracePipe) answer whole is = absurd (false≢true whole)
read-shows g instance past (paths.OfCpu cpu per_cpu.Stats) answer whole is = given _ answer is
read-shows g instance past (paths.OfEvent event file) answer whole is = given _ answer is

there-answered : (instance : Option (List ℕ)) (past : List Request) (r : Result Answer Refusal) (answer : Answer) → instance_answer instance past r ≡ Ok answer
    → r ≡ Ok answer
there-answered instance past r answer is = by (instance_is_there instance past) is
  where
    by : (there : Bool) → (if there then r else Err refusal.NoSuchInstance) ≡ Ok answer → r ≡ Ok answer
    by true h = h
    by false h = absurd (let no : Err refusal.NoSuchInstance ≡ Ok answer = h in cc)

unrefused : (missed : Option Refusal) (r : Result Answer Refusal) (answer : Answer) → unless_refused missed r ≡ Ok answer → r ≡ Ok answer
unrefused None r answer h = h
unrefused (Some missing) r answer h = absurd (let no : Err missing ≡ Ok answer = h in cc)

-- a read that was done shows the file's text
done-shows : (g : Config) (instance : Option (List ℕ)) (past : List Request) (meant : paths.File) (answer : Answer) → is_whole meant ≡ true
    → answer_with_room g past (ReadFile instance (Some meant) None) ≡ Ok answer → text_in answer ≡ text_of g instance past meant
done-shows g instance past meant answer whole is =
    let found = there-answered instance past (file_answer g past (read_answer g instance past None) (Some meant)) answer is in
    read-shows g instance past meant answer whole (unrefused (missing g past meant) (read_answer g instance past None meant) answer found)

-- an answer that is a refusal is the defined one, or memory was refused
pub reason : (g : Terms) (past : List Request) (command : Request) (refused : Refusal) → MayAnswer g past command (Err refused)
    → IsReason g past command (errno_of refused)
reason g past command refusal.Memory answered = inl refl
reason g past command refused answered = inr (refused, answered (λ same. absurd (cc)), refl)

-- ---- steps

-- the file that the path of an open file names, if it is there
address-is : (g : Terms) (s : Service) (file : OpenSeen) (meant : paths.File) → IsInRange g.config → WasDone g s.past
    → is_there (scene_of g s) (node_of file) ≡ true → file_meant (scene_of g s) file.file ≡ Some meant
    → address_of (path_of (scene_of g s) (node_of file)) ≡ record { instance = instance_of g s file; file = Some meant }
address-is g s file meant ranges was there is =
    let sound = scene-sound g.config s.past ranges.few_cpus was.done (events-are g.config s.past was.done) in
    path-address (scene_of g s) file.owner file.file sound there ∙ ap (λ (f : Option paths.File). record { instance = instance_of g s file; file = f }) is

-- the command of a read of a file that is there
asked-is : (g : Terms) (s : Service) (file : OpenSeen) (meant : paths.File) → IsInRange g.config → WasDone g s.past
    → is_there (scene_of g s) (node_of file) ≡ true → file_meant (scene_of g s) file.file ≡ Some meant
    → read_of (scene_of g s) (node_of file) None ≡ read_whole (instance_of g s file) meant
asked-is g s file meant ranges was there is =
    ap (λ (a : paths.Address). ReadFile a.instance a.file None) (address-is g s file meant ranges was there is)

-- and of a write to it
write-is : (g : Terms) (s : Service) (file : OpenSeen) (meant : paths.File) (append : Bool) (text : List ℕ) → IsInRange g.config → WasDone g s.past
    → is_there (scene_of g s) (node_of file) ≡ true → file_meant (scene_of g s) file.file ≡ Some meant
    → write_of (scene_of g s) (node_of file) append text ≡ write_once (instance_of g s file) meant append text
write-is g s file meant append text ranges was there is =
    ap (λ (a : paths.Address). WriteFile a.instance a.file append text) (address-is g s file meant ranges was there is)

-- a file that is shown whole
kind-reads : (g : Terms) (s : Service) (read : Parked) (offset : ℕ) (cached : Bool) (flags : ℕ) (file : OpenSeen) (kind : FileKind) → cached ≡ false
    → is_text kind ≡ true → read_kind g s read offset cached flags file kind ≡ read_text (scene_of g s) read.handle offset read.size file s.files
kind-reads g s read offset true flags file kind direct is = absurd (false≢true (sym direct))
kind-reads g s read offset false flags file kinds.Text direct is = refl
kind-reads g s read offset false flags file kinds.Trace direct is = refl
kind-reads g s read offset false flags file _ direct is = absurd (false≢true is)

there-reads : (g : Terms) (s : Service) (read : Parked) (offset : ℕ) (cached : Bool) (flags : ℕ) (file : OpenSeen)
    → is_there (scene_of g s) (node_of file) ≡ true
    → read_there g s read offset cached flags file ≡ read_kind g s read offset cached flags file (kind_of_file file.file)
there-reads g s read offset cached flags file there = rw there refl

file-reads : (g : Terms) (s : Service) (read : Parked) (offset : ℕ) (cached : Bool) (flags : ℕ) (file : OpenSeen) (found : Option OpenSeen) → found ≡ Some file
    → cached ≡ false → is_text (kind_of_file file.file) ≡ true → is_there (scene_of g s) (node_of file) ≡ true
    → read_file g s read offset cached flags found ≡ read_text (scene_of g s) read.handle offset read.size file s.files
file-reads g s read offset cached flags file found e direct text there =
    ap (λ (f : Option OpenSeen). read_file g s read offset cached flags f) e ∙ there-reads g s read offset cached flags file there
    ∙ kind-reads g s read offset cached flags file (kind_of_file file.file) direct text

-- what a read at the beginning came to
anew : (g : Terms) (before after : Service) (unique handle size : ℕ) (file : OpenSeen) (meant : paths.File) (reply : Option Reply) (bytes : List ℕ)
    → IsInRange g.config → WasDone g before.past → file_at handle before.files ≡ Some file → is_text (kind_of_file file.file) ≡ true
    → is_there (scene_of g before) (node_of file) ≡ true → file_meant (scene_of g before) file.file ≡ Some meant
    → bytes ≡ bytes_of_reply unique reply → Does g before (read_anew (scene_of g before) handle 0 size (node_of file) before.files) reply after
    → ReadsAnew g before (read_whole (instance_of g before file) meant) unique handle size (text_of g.config (instance_of g before file) before.past meant) bytes after
anew g before after unique handle size file meant reply bytes ranges was opened text there means told (Err refused, answered, replied, is) =
    let why : IsReason g before.past (read_whole (instance_of g before file) meant) (errno_of refused) =
    subst (λ (asked : Request). IsReason g before.past asked (errno_of refused)) (asked-is g before file meant ranges was there means)
    (reason g before.past (read_of (scene_of g before) (node_of file) None) refused answered.reply) in
    NotShown (record { errno = errno_of refused; why = why; told = told ∙ ap (bytes_of_reply unique) replied; now = is })
anew g before after unique handle size file meant reply bytes ranges was opened text there means told (Ok answer, answered, replied, is) =
    let command = read_of (scene_of g before) (node_of file) None in
    let same = asked-is g before file meant ranges was there means in
    let done = had-room g.config before.past command answer answered.reply in
    let shows : text_in answer ≡ text_of g.config (instance_of g before file) before.past meant =
    done-shows g.config (instance_of g before file) before.past meant answer (meant-whole (scene_of g before) file.file meant text means)
    (ap (answer_with_room g.config before.past) (sym same) ∙ done.0) in
    subst (λ (asked : Request). ReadsAnew g before asked unique handle size (text_of g.config (instance_of g before file) before.past meant) bytes after) same
    (subst (λ (shown : List ℕ). ReadsAnew g before command unique handle size shown bytes after) shows (Shown (record {
      told = told ∙ ap (bytes_of_reply unique) replied;
      now = is;
      kept = λ going. rw is (reading-kept handle 0 size (text_in answer) file before.files opened going);
    })))

pub reads_show_the_past : ReadsShowThePast
reads_show_the_past g turns before after request bytes handle size read_flags flags file meant ranges served is asks direct opened text there means =
    let was = pasts_are_done g turns before served in
    let step = file-reads g before (read_of_pipe request.unique handle size) 0 (is_cached read_flags) flags file (file_at handle before.files) opened direct text there in
    anew g before after request.unique handle size file meant is.reply bytes ranges was opened text there means is.told
    (subst (λ (s : Step). Does g before s is.reply after) step (rw asks at is.does))

pub stats_show_the_past : StatsShowThePast
stats_show_the_past g turns before after request bytes handle size read_flags flags cpu file ranges served is asks direct opened stats there =
    reads_show_the_past g turns before after request bytes handle size read_flags flags file (paths.OfCpu cpu per_cpu.Stats) ranges served is asks
    direct opened (ap (λ (f : File). is_text (kind_of_file f)) stats) there (ap (file_meant (scene_of g before)) stats)

-- ---- writes

-- a file that commands can write
other-writes : (g : Terms) (s : Service) (handle : ℕ) (file : OpenSeen) (bytes : List ℕ) (kind : FileKind) → is_file kind ≡ true
    → write_other g s handle file bytes kind ≡ write_text g s handle file bytes
other-writes g s handle file bytes kinds.Text is = refl
other-writes g s handle file bytes kinds.Trace is = refl
other-writes g s handle file bytes kinds.Pipe is = refl
other-writes g s handle file bytes _ is = absurd (false≢true is)

-- a file that is not `inject`
kind-writes : (g : Terms) (s : Service) (handle lock_owner pid : ℕ) (bytes : List ℕ) (own : OpenSeen) (file : File) → own.file ≡ file → is_file (kind_of_file own.file) ≡ true
    → write_kind g s handle lock_owner pid bytes own file ≡ write_text g s handle own bytes
kind-writes g s handle lock_owner pid bytes own (files.Inject event) same is =
    absurd (false≢true (sym (ap (λ (f : File). is_file (kind_of_file f)) same) ∙ is))
kind-writes g s handle lock_owner pid bytes own _ same is = other-writes g s handle own bytes (kind_of_file own.file) is

there-writes : (g : Terms) (s : Service) (handle lock_owner pid : ℕ) (bytes : List ℕ) (own : OpenSeen) → is_there (scene_of g s) (node_of own) ≡ true
    → write_there g s handle lock_owner pid bytes own ≡ write_kind g s handle lock_owner pid bytes own own.file
there-writes g s handle lock_owner pid bytes own there = rw there refl

file-writes : (g : Terms) (s : Service) (handle lock_owner pid : ℕ) (bytes : List ℕ) (own : OpenSeen) (found : Option OpenSeen) → found ≡ Some own
    → is_file (kind_of_file own.file) ≡ true → is_there (scene_of g s) (node_of own) ≡ true
    → write_file g s handle lock_owner pid bytes found ≡ write_text g s handle own bytes
file-writes g s handle lock_owner pid bytes own found e is there =
    ap (λ (f : Option OpenSeen). write_file g s handle lock_owner pid bytes f) e ∙ there-writes g s handle lock_owner pid bytes own there
    ∙ kind-writes g s handle lock_owner pid bytes own own.file refl is

-- lines are the same where what is asked for each is
same-commands : (one other : Bool → List ℕ → Asking) → ((append : Bool) (line : List ℕ) → one append line ≡ other append line)
    → (append : Bool) (size start : ℕ) (pieces : List (List ℕ)) → command_lines one append size start pieces ≡ command_lines other append size start pieces
unfolding command_lines
same-commands one other same append size start [] = refl
same-commands one other same append size start (line ∷ []) =
    ap (λ (asking : Asking). if is_blank_line line then [] else record { text = line; asking = asking; end = size } ∷ []) (same append line)
same-commands one other same append size start (line ∷ next ∷ more) =
    by (is_blank_line line) (same-commands one other same append size (start + length line + 1) (next ∷ more))
    (same-commands one other same true size (start + length line + 1) (next ∷ more))
  where
    by : (blank : Bool)
        → command_lines one append size (start + length line + 1) (next ∷ more) ≡ command_lines other append size (start + length line + 1) (next ∷ more)
        → command_lines one true size (start + length line + 1) (next ∷ more) ≡ command_lines other true size (start + length line + 1) (next ∷ more)
        → (if blank then command_lines one append size (start + length line + 1) (next ∷ more)
        else record { text = line; asking = one append line; end = start + length line + 1 }
        ∷ command_lines one true size (start + length line + 1) (next ∷ more))
        ≡ (if blank then command_lines other append size (start + length line + 1) (next ∷ more)
        else record { text = line; asking = other append line; end = start + length line + 1 }
        ∷ command_lines other true size (start + length line + 1) (next ∷ more))
    by true skipped done = skipped
    by false skipped done =
        ap (λ (asking : Asking). record { text = line; asking = asking; end = start + length line + 1 }
        ∷ command_lines one true size (start + length line + 1) (next ∷ more)) (same append line)
        ∙ ap (λ (rest : List LineAsked). record { text = line; asking = other append line; end = start + length line + 1 } ∷ rest) done

same-lines : (one other : Bool → List ℕ → Asking) → ((append : Bool) (line : List ℕ) → one append line ≡ other append line)
    → (file : File) (append : Bool) (bytes : List ℕ) → lines_of one file append bytes ≡ lines_of other file append bytes
same-lines one other same file append bytes = by (takes_lines file && has_newline (without_newline bytes))
  where
    by : (several : Bool)
        → (if several then command_lines one append (length bytes) 0 (pieces_of bytes) else one_command one append (length bytes) (without_newline bytes))
        ≡ (if several then command_lines other append (length bytes) 0 (pieces_of bytes) else one_command other append (length bytes) (without_newline bytes))
    by true = same-commands one other same append (length bytes) 0 (pieces_of bytes)
    by false =
        ap (λ (asking : Asking). record { text = without_newline bytes; asking = asking; end = length bytes } ∷ []) (same append (without_newline bytes))

as-lines : (g : Terms) (before after : Service) (unique handle : ℕ) (file : OpenSeen) (own : List ℕ) (lines : List LineAsked) (reply : Option Reply) (bytes : List ℕ)
    → written_lines (scene_of g before) file.owner file.file (not file.starts_over) own ≡ lines → bytes ≡ bytes_of_reply unique reply
    → Does g before (write_text g before handle file own) reply after → WritesLines g before file lines unique handle (length own) bytes after
as-lines g before after unique handle file own lines reply bytes same told (ran, runs, replied, now) = record {
  ran = ran;
  runs = subst (λ (l : List LineAsked). MayRun g before.past l ran) same runs;
  told = told ∙ ap (bytes_of_reply unique) replied;
  now = now;
}

pub writes_are_commands : WritesAreCommands
writes_are_commands g turns before after request bytes handle offset lock_owner own file meant ranges served is asks opened kind there means =
    let was = pasts_are_done g turns before served in
    let step = file-writes g before handle lock_owner request.pid own file (file_at handle before.files) opened kind there in
    as-lines g before after request.unique handle file own _ is.reply bytes
    (same-lines (line_command (scene_of g before) (node_of file) file.file) (line_written (instance_of g before file) meant file.file)
    (λ append line. ap AsksFor (write-is g before file meant append (command_text file.file line) ranges was there means)) file.file (not file.starts_over) own)
    is.told (subst (λ (s : Step). Does g before s is.reply after) step (rw asks at is.does))

-- ---- instances that were removed

gone-reads : (g : Terms) (s : Service) (read : Parked) (offset : ℕ) (cached : Bool) (flags : ℕ) (file : OpenSeen) → is_there (scene_of g s) (node_of file) ≡ false
    → read_there g s read offset cached flags file ≡ failed ENOENT s.files
gone-reads g s read offset cached flags file gone = rw gone refl

gone-writes : (g : Terms) (s : Service) (handle lock_owner pid : ℕ) (bytes : List ℕ) (own : OpenSeen) → is_there (scene_of g s) (node_of own) ≡ false
    → write_there g s handle lock_owner pid bytes own ≡ failed ENOENT s.files
gone-writes g s handle lock_owner pid bytes own gone = rw gone refl

missing-step : (g : Terms) (before after : Service) (unique : ℕ) (reply : Option Reply) (bytes : List ℕ) → bytes ≡ bytes_of_reply unique reply
    → Does g before (failed ENOENT before.files) reply after → IsMissing before unique bytes after
missing-step g before after unique reply bytes told does = record { told = told ∙ ap (bytes_of_reply unique) does.0; now = does.1 }

pub removed_files_are_missing : RemovedFilesAreMissing
removed_files_are_missing g before after request bytes handle offset size read_flags flags lock_owner own file is opened gone = (
  λ asks.
      let step = ap (λ (f : Option OpenSeen). read_file g before (read_of_pipe request.unique handle size) offset (is_cached read_flags) flags f) opened
      ∙ gone-reads g before (read_of_pipe request.unique handle size) offset (is_cached read_flags) flags file gone in
      missing-step g before after request.unique is.reply bytes is.told (subst (λ (s : Step). Does g before s is.reply after) step (rw asks at is.does)),
  λ asks.
      let step = ap (λ (f : Option OpenSeen). write_file g before handle lock_owner request.pid own f) opened
      ∙ gone-writes g before handle lock_owner request.pid own file gone in
      missing-step g before after request.unique is.reply bytes is.told (subst (λ (s : Step). Does g before s is.reply after) step (rw asks at is.does)),
)
