-- What exchanges take of pipes, and for whom.
use Rattle.std.proofs.Common.{◌≡◌, ◌≢◌, ◌⊎◌, inl, inr, ℕ, ◌^◌, ◌==◌, ◌≤◌, nat_lt, Bool, true, false, if◌then◌else◌, List, [], ◌∷◌, length, Option, Some, None, Ok, Err, refl, sym, ap, subst, ◌∙◌, arith}
use Rattle.std.proofs.lemmas.Bool.{eqb-true}
use Rattle.fuse_wire.specs.declared.errno.Errno.TheVariants.{ENOENT}
use Rattle.fuse_wire.specs.declared.reply.Reply.{Reply}
use Rattle.fuse_wire.specs.declared.request.Operation.{Operation}
use Rattle.fuse_wire.specs.declared.request.Operation.TheVariants as operations
use Rattle.trace_command.specs.Configs.{IsInRange}
use Rattle.trace_command.specs.Paths as paths
use Rattle.trace_command.specs.Requests.{Request, ReadFile}
use Rattle.trace_command.specs.declared.command.Reply.{Reply as Answer}
use Rattle.trace_command.specs.declared.file_name.CpuFile.TheVariants as per_cpu
use Rattle.trace_command.specs.declared.file_name.EventFile.TheVariants as per_event
use Rattle.trace_command.specs.declared.file_name.TopFile.TheVariants as top
use Rattle.tracer.specs.Lives.{live_answer}
use Rattle.history_laws.specs.ReadOnce.{NothingIsReadTwice}
use Rattle.history_laws.specs.ReadsInParts.{is_pipe}
use Rattle.mount_tree.specs.Children.{is_there}
use Rattle.file_list.specs.FileKinds.{kind_of_file}
use Rattle.file_list.specs.FileTable.{file_index}
use Rattle.mount_tree.specs.NodePaths.{file_meant}
use Rattle.file_list.specs.declared.file.File.{File}
use Rattle.file_list.specs.declared.file.File.TheVariants as files
use Rattle.file_list.specs.declared.file.FileKind.{FileKind}
use Rattle.file_list.specs.declared.file.FileKind.TheVariants as kinds
use Rattle.mount_tree.specs.declared.node.Node.{Node}
use Rattle.mount_tree.specs.declared.node.Node.TheVariants as nodes
use Rattle.mount_tree.proofs.AddressLaws.{path-address}
use Rattle.mount_tree.proofs.SoundLemmas.{scene-sound}
use Rattle.mount_replies.specs.Mounted.{AreServed, Does, IsExchanged, Right, TellsOwed, Unframed, Wrong}
use Rattle.mount_replies.specs.Owed.{Owed, ReplyAt, WakeupAt, owed, step_of_parked}
use Rattle.mount_replies.specs.ParkedLaws.{is_read_of, taken_asked, taken_by, taken_for, taken_told}
use Rattle.mount_replies.proofs.TurnLemmas.{serves-turns}
use Rattle.mount_replies.specs.Calls.{turns_of}
use Rattle.mount_replies.specs.PastLaws.{PastsAreDone, WasDone, instance_of, just_mounted}
use Rattle.mount_replies.specs.Pipes.{ends, is_dry, is_used_up, pipe_meant}
use Rattle.mount_replies.specs.RawPages.{next_count, pipe_node}
use Rattle.mount_replies.specs.Served.{is_cached, is_nonblocking, read_dry, read_file, read_kind, read_no_page, read_page, read_pipe_directly, read_raw, records_for, step_of}
use Rattle.mount_replies.specs.Services.{OpenSeen, Service, Terms, file_at, node_of, read_of_pipe, scene_of, without_read}
use Rattle.mount_replies.specs.Sizes.{text_in}
use Rattle.mount_replies.specs.Steps.{Asks, Parks, Plain, Step, Takes, failed, read_of}
use Rattle.mount_replies.specs.declared.parked.Parked.{Parked}
use Rattle.mount_replies.proofs.DoneLemmas.{events-are, had-room}
use Rattle.mount_replies.proofs.KeptTexts.{either}
use Rattle.mount_service.specs.ReaderLaws.{ReadsConsume, ExchangesTakeForOne, IsTakenByRead, NoRecordIsTakenTwice, TakenIsOfOneRead}

pub no_record_is_taken_twice : NothingIsReadTwice → PastsAreDone → NoRecordIsTakenTwice
no_record_is_taken_twice once pasts g requests messages after instance cpu time served =
    let few : length after.past ≤ 2 ^ 60 = (pasts g (turns_of requests messages) after (serves-turns g just_mounted requests messages after served)).few in
    once g.config after.past instance cpu time (omega (arith, few))

-- ---- a read of a pipe asks nothing, or for some of its records

-- the pipe of this node
abbrev ReadsPipe : Terms → Service → Node → Step → Type 0
ReadsPipe g s node (Plain outcome) = Unit {0}
ReadsPipe g s node (Takes outcome) = Unit {0}
ReadsPipe g s node (Parks read) = Unit {0}
ReadsPipe g s node (Asks request outcome) =
    (limit : ℕ) × (request ≡ read_of (scene_of g s) node (Some limit)) × (is_there (scene_of g s) node ≡ true)
ReadsPipe g s node _ = ⊥

dry-reads : (g : Terms) (s : Service) (node : Node) (read : Parked) (flags : ℕ) (has_ended : Bool) → ReadsPipe g s node (read_dry read flags has_ended s.files)
dry-reads g s node read flags has_ended =
    either (ReadsPipe g s node) has_ended _ _ tt (either (ReadsPipe g s node) (is_nonblocking flags) _ _ tt tt)

pipe-reads : (g : Terms) (s : Service) (file : OpenSeen) (read : Parked) (cached : Bool) (flags : ℕ) → is_there (scene_of g s) (node_of file) ≡ true
    → ReadsPipe g s (node_of file) (read_pipe_directly g s read cached flags file)
pipe-reads g s file read cached flags there =
    either (ReadsPipe g s (node_of file)) cached _ _ tt
    (either (ReadsPipe g s (node_of file)) (is_used_up file) _ _
    (either (ReadsPipe g s (node_of file)) (is_dry g s file.owner file.file) _ _ (dry-reads g s (node_of file) read flags (ends g s file))
    (records_for read.size, refl, there)) tt)

-- a page
page-reads : (g : Terms) (s : Service) (file : OpenSeen) (read : Parked) → is_there (scene_of g s) (pipe_node file) ≡ true
    → ReadsPipe g s (pipe_node file) (read_page g s read file)
page-reads g s file read there = (next_count g s file.owner (file_index file.file), refl, there)

no-page-reads : (g : Terms) (s : Service) (file : OpenSeen) (read : Parked) → ReadsPipe g s (pipe_node file) (read_no_page read file s.files)
no-page-reads g s file read = either (ReadsPipe g s (pipe_node file)) file.polls.told_ready _ _ tt tt

raw-reads : (g : Terms) (s : Service) (file : OpenSeen) (read : Parked) (cached : Bool) (flags : ℕ) → is_there (scene_of g s) (pipe_node file) ≡ true
    → ReadsPipe g s (pipe_node file) (read_raw g s read cached flags file)
raw-reads g s file read cached flags there =
    either (ReadsPipe g s (pipe_node file)) cached _ _
    (either (ReadsPipe g s (pipe_node file)) (is_used_up file) _ _
    (either (ReadsPipe g s (pipe_node file)) (nat_lt read.size 4096) _ _ tt
    (either (ReadsPipe g s (pipe_node file)) (is_dry g s file.owner file.file) _ _ (no-page-reads g s file read) (page-reads g s file read there))) tt)
    (either (ReadsPipe g s (pipe_node file)) (is_used_up file) _ _
    (either (ReadsPipe g s (pipe_node file)) (is_dry g s file.owner file.file) _ _ (dry-reads g s (pipe_node file) read flags (ends g s file))
    (page-reads g s file read there)) tt)

-- ---- the pipe of an open file

-- the pipe that a file is
record IsPipe (g : Terms) (s : Service) (file : File) : Type 0 where
  pipe : paths.File
  piped : is_pipe pipe ≡ true
  named : file_meant (scene_of g s) file ≡ Some pipe
  meant : pipe_meant (scene_of g s) file ≡ Some pipe

is-pipe : (g : Terms) (s : Service) (file : File) → kind_of_file file ≡ kinds.Pipe → IsPipe g s file
is-pipe g s (files.OfInstance top.TracePipe) is = record { pipe = paths.OfInstance top.TracePipe; piped = refl; named = refl; meant = refl }
is-pipe g s (files.OfCpu cpu per_cpu.TracePipe) is = record { pipe = paths.OfCpu cpu per_cpu.TracePipe; piped = refl; named = refl; meant = refl }
is-pipe g s (files.OfEvent event per_event.Format) is = absurd (cc)
is-pipe g s _ is = absurd (cc)

-- binary pages are those of a CPU
is-raw : (file : File) → kind_of_file file ≡ kinds.RawPipe → file ≡ files.RawPipe (file_index file)
is-raw (files.RawPipe cpu) is = refl
is-raw (files.OfInstance top.Trace) is = absurd (cc)
is-raw (files.OfInstance top.TracePipe) is = absurd (cc)
is-raw (files.OfCpu cpu per_cpu.Trace) is = absurd (cc)
is-raw (files.OfCpu cpu per_cpu.TracePipe) is = absurd (cc)
is-raw (files.OfEvent event per_event.Format) is = absurd (cc)
is-raw _ is = absurd (cc)

-- the file by which the records of an open file are taken, the pipe that it is, and that the reads of the open file ask for its records
record IsPipeOf (g : Terms) (s : Service) (own : OpenSeen) : Type 0 where
  file : File
  pipe : paths.File
  piped : is_pipe pipe ≡ true
  named : file_meant (scene_of g s) file ≡ Some pipe
  meant : pipe_meant (scene_of g s) own.file ≡ Some pipe
  reads : (read : Parked) (offset : ℕ) (cached : Bool) (flags : ℕ) → is_there (scene_of g s) (node_of own) ≡ true
      → ReadsPipe g s (nodes.File own.owner file) (read_kind g s read offset cached flags own (kind_of_file own.file))

pipe-of : (g : Terms) (s : Service) (own : OpenSeen) → ReadsConsume own.file → IsPipeOf g s own
pipe-of g s own (inl pipe) =
    let is = is-pipe g s own.file pipe in
    record {
      file = own.file;
      pipe = is.pipe;
      piped = is.piped;
      named = is.named;
      meant = is.meant;
      reads = λ read offset cached flags there.
          subst (λ (k : FileKind). ReadsPipe g s (node_of own) (read_kind g s read offset cached flags own k)) (sym pipe)
          (pipe-reads g s own read cached flags there);
    }
pipe-of g s own (inr raw) =
    let cpu = file_index own.file in
    record {
      file = files.OfCpu cpu per_cpu.TracePipe;
      pipe = paths.OfCpu cpu per_cpu.TracePipe;
      piped = refl;
      named = refl;
      meant = ap (pipe_meant (scene_of g s)) (is-raw own.file raw);
      reads = λ read offset cached flags there.
          subst (λ (k : FileKind). ReadsPipe g s (pipe_node own) (read_kind g s read offset cached flags own k)) (sym raw)
          (raw-reads g s own read cached flags
          (subst (λ (f : File). is_there (scene_of g s) (nodes.File own.owner f) ≡ true) (is-raw own.file raw) there));
    }

-- the node of that pipe
abbrev node_at : (g : Terms) (s : Service) (own : OpenSeen) → IsPipeOf g s own → Node
node_at g s own pipe = nodes.File own.owner pipe.file

file-reads : (g : Terms) (s : Service) (own : OpenSeen) (pipe : IsPipeOf g s own) (read : Parked) (offset : ℕ) (cached : Bool) (flags : ℕ)
    → file_at read.handle s.files ≡ Some own
    → ReadsPipe g s (node_at g s own pipe) (read_file g s read offset cached flags (file_at read.handle s.files))
file-reads g s own pipe read offset cached flags opened =
    subst (λ (slot : Option OpenSeen). ReadsPipe g s (node_at g s own pipe) (read_file g s read offset cached flags slot)) (sym opened)
    (by (is_there (scene_of g s) (node_of own)) refl)
  where
    by : (there : Bool) → is_there (scene_of g s) (node_of own) ≡ there
        → ReadsPipe g s (node_at g s own pipe) (if there then read_kind g s read offset cached flags own (kind_of_file own.file) else failed ENOENT s.files)
    by true there = pipe.reads read offset cached flags there
    by false gone = tt

parked-reads : (g : Terms) (s : Service) (own : OpenSeen) (pipe : IsPipeOf g s own) (read : Parked) → file_at read.handle s.files ≡ Some own
    → ReadsPipe g s (node_at g s own pipe) (step_of_parked g s read)
parked-reads g s own pipe read opened =
    either (ReadsPipe g s (node_at g s own pipe)) read.interrupted _ _ tt (file-reads g s own pipe read 0 false 0 opened)

-- ---- what was taken is what one such read answers

record IsTaken (g : Terms) (before after : Service) (node : Node) (text : List ℕ) : Type 0 where
  limit : ℕ
  there : is_there (scene_of g before) node ≡ true
  answer : Answer
  answered : live_answer g.config before.past (read_of (scene_of g before) node (Some limit)) ≡ Ok answer
  is : text ≡ text_in answer
  now : after.past ≡ read_of (scene_of g before) node (Some limit) ∷ before.past

abbrev NoneOrTaken : Terms → Service → Service → Node → List ℕ → Type 0
NoneOrTaken g before after node text = (text ≡ []) ⊎ IsTaken g before after node text

does-take : (g : Terms) (before : Service) (step : Step) (reply : Option Reply) (after : Service) (node : Node) (does : Does g before step reply after)
    → ReadsPipe g before node step → NoneOrTaken g before after node (taken_by g before step reply after does)
does-take g before (Plain outcome) reply after node does reads = inl refl
does-take g before (Takes outcome) reply after node does reads = inl refl
does-take g before (Parks read) reply after node does reads = inl refl
does-take g before (Asks request outcome) reply after node (Err refusal, answered, told, same) reads = inl refl
does-take g before (Asks request outcome) reply after node (Ok answer, answered, told, same) (limit, is, there) = inr (record {
  limit = limit;
  there = there;
  answer = answer;
  answered = ap (live_answer g.config before.past) (sym is) ∙ answered.reply;
  is = refl;
  now = ap (λ (s : Service). s.past) same ∙ ap (λ (r : Request). r ∷ before.past) is;
})
does-take g before _ reply after node does reads = absurd reads

-- a parked read that is gone leaves the commands that were done
still-taken : (g : Terms) (before : Service) (index : ℕ) (after : Service) (node : Node) (text : List ℕ)
    → NoneOrTaken g (without_read index before) after node text → NoneOrTaken g before after node text
still-taken g before index after node text (inl none) = inl none
still-taken g before index after node text (inr taken) = inr (record {
  limit = taken.limit;
  there = taken.there;
  answer = taken.answer;
  answered = taken.answered;
  is = taken.is;
  now = taken.now;
})

told-take : (handle : ℕ) (g : Terms) (before : Service) (what : Option Owed) (bytes : List ℕ) (after : Service) (told : TellsOwed g before what bytes after)
    (own : OpenSeen) (pipe : IsPipeOf g before own) → file_at handle before.files ≡ Some own
    → NoneOrTaken g before after (node_at g before own pipe) (taken_told handle g before what bytes after told)
told-take handle g before None bytes after told own pipe opened = inl refl
told-take handle g before (Some (WakeupAt other)) bytes after told own pipe opened = inl refl
told-take handle g before (Some (ReplyAt index)) bytes after told own pipe opened = by (told.read.handle == handle) refl
  where
    taken : List ℕ
    taken = taken_by g (without_read index before) (step_of_parked g before told.read) (Some told.reply) after told.does

    by : (t : Bool) → (told.read.handle == handle) ≡ t → NoneOrTaken g before after (node_at g before own pipe) (if t then taken else [])
    by false e = inl refl
    by true e =
        let same = eqb-true told.read.handle handle e in
        still-taken g before index after (node_at g before own pipe) taken
        (does-take g (without_read index before) (step_of_parked g before told.read) (Some told.reply) after (node_at g before own pipe) told.does
        (parked-reads g before own pipe told.read (ap (λ (h : ℕ). file_at h before.files) same ∙ opened)))

read-takes : (handle : ℕ) (g : Terms) (s : Service) (unique pid : ℕ) (request : Operation) (own : OpenSeen) (pipe : IsPipeOf g s own)
    → is_read_of handle request ≡ true → file_at handle s.files ≡ Some own → (target : Option Node)
    → ReadsPipe g s (node_at g s own pipe) (step_of g s unique pid target request)
read-takes handle g s unique pid (operations.Read other offset size read_flags flags) own pipe is opened target =
    file-reads g s own pipe (read_of_pipe unique other size) offset (is_cached read_flags) flags
    (ap (λ (h : ℕ). file_at h s.files) (eqb-true other handle is) ∙ opened)
read-takes handle g s unique pid _ own pipe is opened target = absurd (cc)

asked-take : (handle : ℕ) (g : Terms) (before : Service) (asked bytes : List ℕ) (after : Service) (served : AreServed g before asked bytes after)
    (own : OpenSeen) (pipe : IsPipeOf g before own) → file_at handle before.files ≡ Some own
    → NoneOrTaken g before after (node_at g before own pipe) (taken_asked handle g before asked bytes after served)
asked-take handle g before asked bytes after (Wrong opcode unique framed none told same) own pipe opened = inl refl
asked-take handle g before asked bytes after (Unframed none told same) own pipe opened = inl refl
asked-take handle g before asked bytes after (Right request is served) own pipe opened = by (is_read_of handle request.operation) refl
  where
    step : Step
    step = step_of g before request.unique request.pid served.node request.operation

    by : (t : Bool) → is_read_of handle request.operation ≡ t
        → NoneOrTaken g before after (node_at g before own pipe) (if t then taken_by g before step served.reply after served.does else [])
    by false e = inl refl
    by true e =
        does-take g before step served.reply after (node_at g before own pipe) served.does
        (read-takes handle g before request.unique request.pid request.operation own pipe e opened served.node)

-- ---- the command is a read of the pipe

by-read : (g : Terms) (before after : Service) (own : OpenSeen) (pipe : IsPipeOf g before own) (text : List ℕ) → IsInRange g.config → WasDone g before.past
    → IsTaken g before after (node_at g before own pipe) text → IsTakenByRead g before after own text
by-read g before after own pipe text ranges was taken =
    let sound = scene-sound g.config before.past ranges.few_cpus was.done (events-are g.config before.past was.done) in
    let address = path-address (scene_of g before) own.owner pipe.file sound taken.there
    ∙ ap (λ (f : Option paths.File). let a : paths.Address = record { instance = instance_of g before own; file = f } in a) pipe.named in
    let asked : read_of (scene_of g before) (node_at g before own pipe) (Some taken.limit) ≡ ReadFile (instance_of g before own) (Some pipe.pipe) (Some taken.limit) =
    ap (λ (a : paths.Address). let r : Request = ReadFile a.instance a.file (Some taken.limit) in r) address in
    record {
      pipe = pipe.pipe;
      meant = pipe.meant;
      piped = pipe.piped;
      limit = taken.limit;
      answer = taken.answer;
      answered = (had-room g.config before.past (ReadFile (instance_of g before own) (Some pipe.pipe) (Some taken.limit)) taken.answer
          (ap (live_answer g.config before.past) (sym asked) ∙ taken.answered)).0;
      is = taken.is;
      now = taken.now ∙ ap (λ (r : Request). r ∷ before.past) asked;
    }

exchange-takes : (g : Terms) (before : Service) (asked bytes : List ℕ) (after : Service) (exchanged : IsExchanged g before asked bytes after) (handle : ℕ)
    (own : OpenSeen) (pipe : IsPipeOf g before own) → file_at handle before.files ≡ Some own
    → NoneOrTaken g before after (node_at g before own pipe) (taken_for handle g before asked bytes after exchanged)
exchange-takes g before [] bytes after told handle own pipe opened = told-take handle g before (owed g before) bytes after told own pipe opened
exchange-takes g before (byte ∷ asked) bytes after (quiet, served) handle own pipe opened =
    asked-take handle g before (byte ∷ asked) bytes after served own pipe opened

pub taken_is_of_one_read : PastsAreDone → TakenIsOfOneRead
taken_is_of_one_read pasts g requests messages before asked bytes after exchanged handle own ranges served opened consumes =
    by (exchange-takes g before asked bytes after exchanged handle own pipe opened)
  where
    pipe : IsPipeOf g before own
    pipe = pipe-of g before own consumes

    text : List ℕ
    text = taken_for handle g before asked bytes after exchanged

    by : NoneOrTaken g before after (node_at g before own pipe) text → (text ≡ []) ⊎ IsTakenByRead g before after own text
    by (inl none) = inl none
    by (inr taken) =
        inr (by-read g before after own pipe text ranges
        (pasts g (turns_of requests messages) before (serves-turns g just_mounted requests messages before served)) taken)

-- ---- for one handle alone

-- what is there if a test holds, and nothing else
holds : (test : Bool) (text : List ℕ) → (if test then text else []) ≢ [] → test ≡ true
holds true text some = refl
holds false text some = absurd (some refl)

same-read : (handle other : ℕ) (operation : Operation) → is_read_of handle operation ≡ true → is_read_of other operation ≡ true → handle ≡ other
same-read handle other (operations.Read at offset size read_flags flags) own others = sym (eqb-true at handle own) ∙ eqb-true at other others
same-read handle other _ own others = absurd (cc)

told-one : (g : Terms) (before : Service) (what : Option Owed) (bytes : List ℕ) (after : Service) (told : TellsOwed g before what bytes after) (handle other : ℕ)
    → taken_told handle g before what bytes after told ≢ [] → taken_told other g before what bytes after told ≢ [] → handle ≡ other
told-one g before None bytes after told handle other some others = absurd (some refl)
told-one g before (Some (WakeupAt at)) bytes after told handle other some others = absurd (some refl)
told-one g before (Some (ReplyAt index)) bytes after told handle other some others =
    sym (eqb-true told.read.handle handle (holds (told.read.handle == handle) _ some))
    ∙ eqb-true told.read.handle other (holds (told.read.handle == other) _ others)

asked-one : (g : Terms) (before : Service) (asked bytes : List ℕ) (after : Service) (served : AreServed g before asked bytes after) (handle other : ℕ)
    → taken_asked handle g before asked bytes after served ≢ [] → taken_asked other g before asked bytes after served ≢ [] → handle ≡ other
asked-one g before asked bytes after (Wrong opcode unique framed none told same) handle other some others = absurd (some refl)
asked-one g before asked bytes after (Unframed none told same) handle other some others = absurd (some refl)
asked-one g before asked bytes after (Right request is served) handle other some others =
    same-read handle other request.operation (holds (is_read_of handle request.operation) _ some) (holds (is_read_of other request.operation) _ others)

pub exchanges_take_for_one : ExchangesTakeForOne
exchanges_take_for_one g before [] bytes after told handle other some others = told-one g before (owed g before) bytes after told handle other some others
exchanges_take_for_one g before (byte ∷ asked) bytes after (quiet, served) handle other some others =
    asked-one g before (byte ∷ asked) bytes after served handle other some others
