-- What writes come to.
use Rattle.std.proofs.Common.{◌≡◌, ◌≢◌, ℕ, Bool, true, false, not, if◌then◌else◌, List, [], ◌∷◌, ◌++◌, length, Option, Some, None, Result, Ok, Err, ◌==◌, inl, inr, refl, sym, ap, subst, ◌∙◌}
use Rattle.std.specs.List.{slice_get}
use Rattle.fuse_wire.specs.declared.errno.Errno.{Errno}
use Rattle.fuse_wire.specs.declared.errno.Errno.TheVariants.{ENOENT, EINVAL, ENOMEM}
use Rattle.fuse_wire.specs.declared.reply.Reply.{Reply}
use Rattle.fuse_wire.specs.declared.reply.Reply.TheVariants as replies
use Rattle.trace_command.specs.Requests.{Request, request_of}
use Rattle.trace_command.specs.declared.command.CommandOf.TheVariants as commands
use Rattle.trace_command.specs.declared.command.Reply.{Reply as Answer}
use Rattle.trace_command.specs.declared.refusal.Refusal.{Refusal}
use Rattle.trace_command.specs.declared.refusal.Refusal.TheVariants.{Memory}
use Rattle.tracer_specification.specs.Settings.{declared_events, now_of}
use Rattle.error_log.specs.Errors.{ErrorSeen, begun, refused}
use Rattle.mount_tree.specs.Children.{is_there}
use Rattle.file_list.specs.FileKinds.{kind_of_file}
use Rattle.mount_tree.specs.NodePaths.{path_of}
use Rattle.mount_tree.specs.Scenes.{SceneSeen}
use Rattle.file_list.specs.declared.file.File.{File}
use Rattle.file_list.specs.declared.file.File.TheVariants as files
use Rattle.mount_tree.specs.declared.node.Node.TheVariants as nodes
use Rattle.mount_tree.specs.declared.node.Owner.{Owner}
use Rattle.mount_stub_files.specs.WrongWords.{wrong_offset, wrong_words}
use Rattle.mount_stub_files.specs.declared.write.ToolWrite.TheVariants.{Wrong}
use Rattle.mount_replies.specs.FileWrites.{begun_now, inject, switch_text, switched, write_file, write_kind, write_other, write_switch, write_text, write_tool, wrong_write}
use Rattle.mount_replies.specs.Lines.{errno_of_fault, lines_of, noted_answer, noted_command, noted_if_first, written, written_lines}
use Rattle.mount_replies.specs.Mounted.{HasLedTo, IsAsked, IsNote, IsRun, IsStep, MountSeen, service_of, terms_of}
use Rattle.mount_replies.specs.Served.{emptied, emptied_first, open_flags}
use Rattle.mount_replies.specs.Services.{OpenSeen, Service, Terms, file_at, free_handle, just_opened, node_of, scene_of, with_file, with_write}
use Rattle.mount_replies.specs.Steps.{AsksNoting, Keeps, LineAsked, LineRefused, Notes, Noting, Outcome, Ran, Step, errors_after, failed, write_of}
use Rattle.mount_replies.specs.declared.fault.LineFault.{LineFault}
use Rattle.mount_replies.specs.declared.fault.Progress.{Progress}
use Rattle.mount_replies.specs.declared.fault.Stop.{Stop}
use Rattle.mount_replies.specs.declared.writing.Target.{Target}
use Rattle.mount_replies.specs.private.LineRuns.{RunsTo, target_command}
use Rattle.mount_replies.specs.private.Notings.{AsksNoted, IsAskedNoting}
use Rattle.mount_replies.specs.private.Targets.{EndsCommands, IsRefusedFor, IsTarget, NotesLine, noted_target}
use Rattle.mount_replies.proofs.AnswerLemmas.{takes-more, unnoted-answer}
use Rattle.mount_replies.proofs.Steps.{lines-step, noted-step, tells-step}
use Rattle.mount_replies.proofs.StreamSteps.{runs-for}

-- a file that is not `inject`
pub other-kind : (g : Terms) (s : Service) (handle lock_owner pid : ℕ) (bytes : List ℕ) (own : OpenSeen) (file : File)
    → ((event : ℕ) → file ≢ files.Inject event)
    → write_kind g s handle lock_owner pid bytes own file ≡ write_other g s handle own bytes (kind_of_file own.file)
other-kind g s handle lock_owner pid bytes own files.SyntheticEvents other = refl
other-kind g s handle lock_owner pid bytes own (files.OfInstance file) other = refl
other-kind g s handle lock_owner pid bytes own files.SystemEnable other = refl
other-kind g s handle lock_owner pid bytes own (files.OfCpu cpu file) other = refl
other-kind g s handle lock_owner pid bytes own (files.OfEvent event file) other = refl
other-kind g s handle lock_owner pid bytes own (files.Tool file) other = refl
other-kind g s handle lock_owner pid bytes own (files.OfTop file) other = refl
other-kind g s handle lock_owner pid bytes own (files.CpuSize cpu) other = refl
other-kind g s handle lock_owner pid bytes own (files.EventId event) other = refl
other-kind g s handle lock_owner pid bytes own files.ErrorLog other = refl
other-kind g s handle lock_owner pid bytes own (files.Layout file) other = refl
other-kind g s handle lock_owner pid bytes own (files.RawPipe cpu) other = refl
other-kind g s handle lock_owner pid bytes own (files.Inject event) other = absurd (other event refl)

-- ---- one command that is noted

-- memory for something else is refused before it is asked
pub unnoted : (past : List Request) (old : MountSeen) (request : Request) (error : ErrorSeen) (path text shown : List ℕ) (at : ℕ) → HasLedTo past old
    → IsAskedNoting past old old request true (noted_answer error path text shown at) (Err Memory)
unnoted past old request error path text shown at mounted = record {
  answered = inr (refl, inr refl);
  mounted = mounted;
  terms = refl;
  files = refl;
  parked = refl;
  counted = refl;
  errors = refl;
}

-- each refusal but Memory is noted
is-note : (error : ErrorSeen) (path text shown : List ℕ) (at : ℕ) (refusal : Refusal) → refusal ≢ Memory
    → IsNote (noted_answer error path text shown at (Err refusal))
is-note error path text shown at Memory other = absurd (other refl)
is-note error path text shown at refusal other = tt

-- it was done
pub noted-done : (past : List Request) (old mid : MountSeen) (request : Request) (answer : Answer) (error : ErrorSeen) (path text shown : List ℕ) (at : ℕ)
    → IsAsked past old mid request (Ok answer) → IsAskedNoting past old mid request false (noted_answer error path text shown at) (Ok answer)
noted-done past old mid request answer error path text shown at asked = record {
  answered = inl asked.answered;
  mounted = asked.mounted;
  terms = asked.terms;
  files = asked.files;
  parked = asked.parked;
  counted = asked.counted;
  errors = asked.errors;
}

-- it was refused, and there was no memory to note that
pub noted-none : (past : List Request) (old mid : MountSeen) (request : Request) (refusal : Refusal) (error : ErrorSeen) (path text shown : List ℕ) (at : ℕ)
    → IsAsked past old mid request (Err refusal) → IsAskedNoting past old mid request false (noted_answer error path text shown at) (Err Memory)
noted-none past old mid request refusal error path text shown at asked = record {
  answered = unnoted-answer (terms_of old) past request (noted_answer error path text shown at) refusal asked.answered (is-note error path text shown at refusal);
  mounted = asked.mounted;
  terms = asked.terms;
  files = asked.files;
  parked = asked.parked;
  counted = asked.counted;
  errors = asked.errors;
}

-- or it was noted
pub noted-refused : (past : List Request) (old mid : MountSeen) (request : Request) (refusal : Refusal) (error : ErrorSeen) (path text shown : List ℕ) (at : ℕ)
    (now : List ErrorSeen) → IsAsked past old mid request (Err refusal) → now ≡ errors_after (noted_answer error path text shown at (Err refusal)) mid.errors
    → IsAskedNoting past old (record mid { errors = now }) request false (noted_answer error path text shown at) (Err refusal)
noted-refused past old mid request refusal error path text shown at now asked is = record {
  answered = inl asked.answered;
  mounted = record { lives = asked.mounted.lives; scene = asked.mounted.scene };
  terms = asked.terms;
  files = asked.files;
  parked = asked.parked;
  counted = asked.counted;
  errors = is ∙ ap (λ (e : List ErrorSeen). errors_after (noted_answer error path text shown at (Err refusal)) e) asked.errors;
}

-- ---- lines that are commands

-- what is told of an open file is what its target is told by
own-path : (past : List Request) (old : MountSeen) (own : OpenSeen) (target : Target) → HasLedTo past old → IsTarget own target
    → path_of old.scene (nodes.File target.owner target.file) ≡ path_of (scene_of (terms_of old) (service_of past old)) (node_of own)
own-path past old own target mounted is =
    ap (λ (s : SceneSeen). path_of s (nodes.File target.owner target.file)) mounted.scene
    ∙ ap (λ (o : Owner). path_of (scene_of (terms_of old) (service_of past old)) (nodes.File o target.file)) (sym is.owner)
    ∙ ap (λ (f : File). path_of (scene_of (terms_of old) (service_of past old)) (nodes.File own.owner f)) (sym is.file_is)

own-lines : (past : List Request) (old : MountSeen) (own : OpenSeen) (target : Target) (bytes : List ℕ) → HasLedTo past old → IsTarget own target
    → lines_of (target_command old.scene target) target.file target.append bytes
    ≡ written_lines (scene_of (terms_of old) (service_of past old)) own.owner own.file (not own.starts_over) bytes
own-lines past old own target bytes mounted is =
    let S = scene_of (terms_of old) (service_of past old) in
    ap (λ (s : SceneSeen). written_lines s target.owner target.file target.append bytes) mounted.scene
    ∙ ap (λ (o : Owner). written_lines S o target.file target.append bytes) (sym is.owner)
    ∙ ap (λ (f : File). written_lines S own.owner f target.append bytes) (sym is.file_is)
    ∙ ap (λ (a : Bool). written_lines S own.owner own.file a bytes) (sym is.append)

own-noting : (own : OpenSeen) (target : Target) (error own_error : ErrorSeen) (path own_path : List ℕ) (done : ℕ) (refused : Option LineRefused)
    → IsTarget own target → error ≡ own_error → path ≡ own_path
    → noted_if_first (noted_command error path target.file) done refused ≡ noted_if_first (noted_command own_error own_path own.file) done refused
own-noting own target error own_error path own_path done refused is same there =
    ap (λ (e : ErrorSeen). noted_if_first (noted_command e path target.file) done refused) same
    ∙ ap (λ (p : List ℕ). noted_if_first (noted_command own_error p target.file) done refused) there
    ∙ ap (λ (f : File). noted_if_first (noted_command own_error own_path f) done refused) (sym is.file_is)

own-begun : (past : List Request) (old : MountSeen) (own : OpenSeen) (target : Target) (path : List ℕ) (time : ℕ) → IsTarget own target
    → path ≡ path_of (scene_of (terms_of old) (service_of past old)) (node_of own) → time ≡ now_of past
    → begun target.owner time path ≡ begun_now (terms_of old) (service_of past old) own
own-begun past old own target path time is there when =
    ap (λ (o : Owner). begun o time path) (sym is.owner) ∙ ap (λ (t : ℕ). begun own.owner t path) when
    ∙ ap (λ (p : List ℕ). begun own.owner (now_of past) p) there

-- lines were done one after another, and this was told
pub text-step : (past : List Request) (old mid new : MountSeen) (own : OpenSeen) (target : Target) (bytes : List ℕ) (time : ℕ) (progress : Progress)
    (reply : Reply) → HasLedTo past old → IsTarget own target → time ≡ now_of past
    → path_of mid.scene (nodes.File target.owner target.file) ≡ path_of old.scene (nodes.File target.owner target.file)
    → RunsTo past old mid (lines_of (target_command old.scene target) target.file target.append bytes) progress
    → EndsCommands mid new target time (length bytes) progress reply
    → IsStep past old new (write_text (terms_of old) (service_of past old) target.handle own bytes) (Some reply)
text-step past old mid new own target bytes time progress reply mounted is time_is stays run (refused, told, end) =
    let P = path_of (scene_of (terms_of old) (service_of past old)) (node_of own) in
    let path : List ℕ = path_of mid.scene (nodes.File target.owner target.file) in
    let there : path ≡ P = stays ∙ own-path past old own target mounted is in
    let ran : Ran = record { past = run.after; done = progress.done; refused = refused } in
    let lines : List LineAsked = written_lines (scene_of (terms_of old) (service_of past old)) own.owner own.file (not own.starts_over) bytes in
    let outcome : Ran → Outcome = λ r. written target.handle (length bytes) old.files r.done r.refused in
    let noting : Ran → Noting = λ r. noted_if_first (noted_command (begun_now (terms_of old) (service_of past old) own) P own.file) r.done r.refused in
    let runs : IsRun (terms_of old) past 0 lines ran =
    subst (λ (l : List LineAsked). IsRun (terms_of old) past 0 l ran) (own-lines past old own target bytes mounted is)
    (runs-for (terms_of old) past run.after progress.done (lines_of (target_command old.scene target) target.file target.append bytes) progress.stop
    refused told run.runs) in
    let files_are : mid.files ≡ old.files = run.kept.files in
    let outcomes : written target.handle (length bytes) mid.files progress.done refused ≡ outcome ran =
    ap (λ (f : List (Option OpenSeen)). written target.handle (length bytes) f progress.done refused) files_are in
    let notings : noted_if_first (noted_target mid.scene target time) progress.done refused ≡ noting ran =
    own-noting own target (begun target.owner time path) (begun_now (terms_of old) (service_of past old) own) path P progress.done refused is
    (own-begun past old own target path time is there time_is) there in
    let replied : (outcome ran).reply ≡ Some reply = ap (λ (o : Outcome). o.reply) (sym outcomes) ∙ end.told in
    subst (λ (m : MountSeen). IsStep past old m (write_text (terms_of old) (service_of past old) target.handle own bytes) (Some reply)) (sym end.now)
    (lines-step past old mid lines outcome noting ran (written target.handle (length bytes) mid.files progress.done refused).files
    (errors_after (noted_if_first (noted_target mid.scene target time) progress.done refused) mid.errors)
    reply run.mounted run.kept.terms run.kept.parked run.kept.counted runs replied (ap (λ (o : Outcome). o.files) outcomes)
    (ap (λ (n : Noting). errors_after n mid.errors) notings ∙ ap (λ (e : List ErrorSeen). errors_after (noting ran) e) run.kept.errors))

-- how a write of lines ends: all were done, or some before the one that was not, or none was, which is noted
pub commands-ended : (old : MountSeen) (target : Target) (time size : ℕ) (progress : Progress) (files : List (Option OpenSeen)) → progress.stop ≡ None
    → files ≡ (if progress.done == 0 then old.files else with_write target.handle old.files)
    → EndsCommands old (record old { files = files }) target time size progress (replies.Written size)
commands-ended old target time size progress files all is =
    (None, subst (λ (s : Option Stop). IsRefusedFor s None) (sym all) refl, record { told = refl; now = ap (λ (f : List (Option OpenSeen)). record old { files = f }) is })

pub commands-more : (old : MountSeen) (target : Target) (time size : ℕ) (progress : Progress) (stop : Stop) (files : List (Option OpenSeen))
    → progress.stop ≡ Some stop → (progress.done == 0) ≡ false → files ≡ with_write target.handle old.files
    → EndsCommands old (record old { files = files }) target time size progress (replies.Written progress.done)
commands-more old target time size progress stop files stopped some is =
    let line : LineRefused = record { text = stop.line.now; fault = stop.fault } in
    let outcome : written target.handle size old.files progress.done (Some line) ≡ record { reply = Some (replies.Written progress.done); files = with_write target.handle old.files } =
    ap (λ (t : Bool). if t then record { reply = Some (replies.Error (errno_of_fault line.fault)); files = old.files }
    else record { reply = Some (replies.Written progress.done); files = with_write target.handle old.files }) some in
    let noting : noted_if_first (noted_target old.scene target time) progress.done (Some line) ≡ Keeps =
    ap (λ (t : Bool). if t then noted_target old.scene target time line.text line.fault else Keeps) some in (
      Some line,
      subst (λ (s : Option Stop). IsRefusedFor s (Some line)) (sym stopped) (stop.fault, inl refl, refl),
      record {
        told = ap (λ (o : Outcome). o.reply) outcome;
        now = ap (λ (f : List (Option OpenSeen)). record old { files = f }) (is ∙ ap (λ (o : Outcome). o.files) (sym outcome))
            ∙ ap (λ (n : Noting). record old { files = (written target.handle size old.files progress.done (Some line)).files; errors = errors_after n old.errors }) (sym noting);
      },
    )

pub commands-refused : (old new : MountSeen) (target : Target) (time size : ℕ) (progress : Progress) (stop : Stop) (told : LineFault) (errno : Errno)
    → progress.stop ≡ Some stop → (progress.done == 0) ≡ true → NotesLine old new target time stop told → errno ≡ errno_of_fault told
    → EndsCommands old new target time size progress (replies.Error errno)
commands-refused old new target time size progress stop told errno stopped none noted is =
    let line : LineRefused = record { text = stop.line.now; fault = told } in
    let outcome : written target.handle size old.files progress.done (Some line) ≡ record { reply = Some (replies.Error (errno_of_fault told)); files = old.files } =
    ap (λ (t : Bool). if t then record { reply = Some (replies.Error (errno_of_fault told)); files = old.files }
    else record { reply = Some (replies.Written progress.done); files = with_write target.handle old.files }) none in
    let noting : noted_if_first (noted_target old.scene target time) progress.done (Some line) ≡ noted_target old.scene target time stop.line.now told =
    ap (λ (t : Bool). if t then noted_target old.scene target time stop.line.now told else Keeps) none in (
      Some line,
      subst (λ (s : Option Stop). IsRefusedFor s (Some line)) (sym stopped) (told, noted.0, refl),
      record {
        told = ap (λ (o : Outcome). o.reply) outcome ∙ ap (λ (e : Errno). Some (replies.Error e)) (sym is);
        now = noted.1 ∙ ap (λ (n : Noting). record old { errors = errors_after n old.errors }) (sym noting)
            ∙ ap (λ (f : List (Option OpenSeen)). record old { files = f; errors = errors_after (noted_if_first (noted_target old.scene target time) progress.done (Some line)) old.errors })
            (sym (ap (λ (o : Outcome). o.files) outcome));
      },
    )

-- why no line was done is noted, but where memory was refused
pub line-noted : (old mid : MountSeen) (target : Target) (time : ℕ) (path : List ℕ) (stop : Stop) (began errors : List ErrorSeen)
    → path ≡ path_of old.scene (nodes.File target.owner target.file) → began ≡ old.errors ++ begun target.owner time path ∷ []
    → ((before : List ErrorSeen) (error : ErrorSeen) → began ≡ before ++ error ∷ []
    → errors ≡ errors_after (noted_command error path target.file stop.line.now stop.fault) before)
    → NotesLine old (record old { errors = errors }) target time stop stop.fault
line-noted old mid target time path stop began errors there begins notes = (
  inl refl,
  ap (λ (e : List ErrorSeen). record old { errors = e })
      (notes old.errors (begun target.owner time path) begins
      ∙ ap (λ (p : List ℕ). errors_after (noted_command (begun target.owner time p) p target.file stop.line.now stop.fault) old.errors) there),
)

-- ---- files that tools ask for

-- a switch was written for it
pub switch-step : (past : List Request) (old mid : MountSeen) (own : OpenSeen) (target : Target) (bytes text : List ℕ) (switch : File) (on : Bool)
    (size at : ℕ) (answer : Result Answer Refusal) (now : List (Option OpenSeen)) → HasLedTo past old → IsTarget own target → text ≡ switch_text on
    → at ≡ wrong_offset bytes
    → IsAskedNoting past old mid (write_of old.scene (nodes.File target.owner switch) false text) false
    (noted_answer (begun target.owner (now_of past) (path_of old.scene (nodes.File target.owner target.file)))
    (path_of old.scene (nodes.File target.owner switch)) text bytes at) answer
    → now ≡ (switched target.handle size old.files answer).files
    → IsStep past old (record mid { files = now }) (write_switch (terms_of old) (service_of past old) target.handle own bytes switch on size)
    (switched target.handle size old.files answer).reply
switch-step past old mid own target bytes text switch on size at answer now mounted is text_is at_is asked files_are =
    let P = path_of (scene_of (terms_of old) (service_of past old)) (nodes.File own.owner switch) in
    let there : path_of old.scene (nodes.File target.owner switch) ≡ P =
    ap (λ (s : SceneSeen). path_of s (nodes.File target.owner switch)) mounted.scene
    ∙ ap (λ (o : Owner). path_of (scene_of (terms_of old) (service_of past old)) (nodes.File o switch)) (sym is.owner) in
    let error = own-begun past old own target (path_of old.scene (nodes.File target.owner target.file)) (now_of past) is (own-path past old own target mounted is) refl in
    let first = subst (λ (p : List ℕ). IsAskedNoting past old mid (request_of (commands.Write p false text)) false
    (noted_answer (begun target.owner (now_of past) (path_of old.scene (nodes.File target.owner target.file))) p text bytes at) answer) there asked in
    let second = subst (λ (e : ErrorSeen). IsAskedNoting past old mid (request_of (commands.Write P false text)) false (noted_answer e P text bytes at) answer) error first in
    let third = subst (λ (t : List ℕ). IsAskedNoting past old mid (request_of (commands.Write P false t)) false
    (noted_answer (begun_now (terms_of old) (service_of past old) own) P t bytes at) answer) text_is second in
    let fourth = subst (λ (n : ℕ). IsAskedNoting past old mid (request_of (commands.Write P false (switch_text on))) false
    (noted_answer (begun_now (terms_of old) (service_of past old) own) P (switch_text on) bytes n) answer) at_is third in
    noted-step past old mid (request_of (commands.Write P false (switch_text on))) (switched target.handle size old.files) false
    (noted_answer (begun_now (terms_of old) (service_of past old) own) P (switch_text on) bytes (wrong_offset bytes)) answer now fourth files_are

-- ---- files that are opened to be emptied

-- a file has its handle before a command is asked, and keeps it or not
pub opened-step : (past : List Request) (old mid : MountSeen) (request : Request) (outcome : Result Answer Refusal → Outcome)
    (noting : Result Answer Refusal → Noting) (answer : Result Answer Refusal) (opened now : List (Option OpenSeen))
    → IsAskedNoting past (record old { files = opened }) mid request false noting answer → now ≡ (outcome answer).files
    → IsStep past old (record mid { files = now }) (AsksNoting request true outcome noting) (outcome answer).reply
opened-step past old mid request outcome noting answer opened now asked is =
    let same : IsAskedNoting past old (record mid { files = old.files }) request true noting answer = record {
      answered = takes-more (terms_of old) past request noting answer asked.answered;
      mounted = record { lives = asked.mounted.lives; scene = asked.mounted.scene };
      terms = asked.terms;
      files = refl;
      parked = asked.parked;
      counted = asked.counted;
      errors = asked.errors;
    } in
    noted-step past old (record mid { files = old.files }) request outcome true noting answer now same is

-- ---- what a file can't be set to

pub wrong-step : (past : List Request) (old mid : MountSeen) (own : OpenSeen) (owner : Owner) (file : File) (handle : ℕ) (bytes : List ℕ)
    (errors : List ErrorSeen) → HasLedTo past old → own.owner ≡ owner → own.file ≡ file
    → mid ≡ record old { errors = old.errors ++ begun owner (now_of past) (path_of old.scene (nodes.File owner file)) ∷ [] }
    → ((before : List ErrorSeen) (error : ErrorSeen) → mid.errors ≡ before ++ error ∷ []
    → errors ≡ errors_after (Notes (refused error bytes (wrong_words file) (wrong_offset bytes))) before)
    → IsStep past old (record mid { errors = errors }) (write_tool (terms_of old) (service_of past old) handle own bytes Wrong) (Some (replies.Error EINVAL))
wrong-step past old mid own owner file handle bytes errors mounted owner_is file_is begins notes =
    let target : Target = record { handle = handle; owner = owner; file = file; append = not own.starts_over } in
    let is : IsTarget own target = record { owner = owner_is; file_is = file_is; append = refl } in
    let path = path_of old.scene (nodes.File owner file) in
    let error : begun owner (now_of past) path ≡ begun_now (terms_of old) (service_of past old) own =
    own-begun past old own target path (now_of past) is (own-path past old own target mounted is) refl in
    let noted : errors ≡ errors_after (wrong_write (terms_of old) (service_of past old) own bytes) old.errors =
    notes old.errors (begun owner (now_of past) path) (ap (λ (m : MountSeen). m.errors) begins)
    ∙ ap (λ (e : ErrorSeen). errors_after (Notes (refused e bytes (wrong_words file) (wrong_offset bytes))) old.errors) error
    ∙ ap (λ (f : File). errors_after (Notes (refused (begun_now (terms_of old) (service_of past old) own) bytes (wrong_words f) (wrong_offset bytes))) old.errors)
    (sym file_is) in
    subst (λ (m : MountSeen). IsStep past old m (write_tool (terms_of old) (service_of past old) handle own bytes Wrong) (Some (replies.Error EINVAL)))
    (ap (λ (m : MountSeen). record m { errors = errors }) (sym begins))
    (tells-step past old (wrong_write (terms_of old) (service_of past old) own bytes) true (replies.Error EINVAL) old.files old.files errors mounted refl noted)

-- ---- a switch

pub switch-done : (past : List Request) (old seen mid : MountSeen) (own : OpenSeen) (target : Target) (bytes text : List ℕ) (switch : File) (on : Bool)
    (size at : ℕ) (now : List (Option OpenSeen)) (done : Unit {0}) → HasLedTo past old → IsTarget own target → text ≡ switch_text on → at ≡ wrong_offset bytes
    → AsksNoted past old seen (write_of old.scene (nodes.File target.owner switch) false text)
    (noted_answer (begun target.owner (now_of past) (path_of old.scene (nodes.File target.owner target.file)))
    (path_of old.scene (nodes.File target.owner switch)) text bytes at) (Ok done)
    → mid ≡ seen → now ≡ with_write target.handle mid.files
    → IsStep past old (record mid { files = now }) (write_switch (terms_of old) (service_of past old) target.handle own bytes switch on size)
    (Some (replies.Written size))
switch-done past old seen mid own target bytes text switch on size at now done mounted is text_is at_is asked same now_is =
    let there : IsAskedNoting past old mid (write_of old.scene (nodes.File target.owner switch) false text) false
    (noted_answer (begun target.owner (now_of past) (path_of old.scene (nodes.File target.owner target.file)))
    (path_of old.scene (nodes.File target.owner switch)) text bytes at) (Ok asked.0) =
    subst (λ (m : MountSeen). IsAskedNoting past old m (write_of old.scene (nodes.File target.owner switch) false text) false
    (noted_answer (begun target.owner (now_of past) (path_of old.scene (nodes.File target.owner target.file)))
    (path_of old.scene (nodes.File target.owner switch)) text bytes at) (Ok asked.0)) (sym same) asked.1 in
    switch-step past old mid own target bytes text switch on size at (Ok asked.0) now mounted is text_is at_is there
    (now_is ∙ ap (λ (f : List (Option OpenSeen)). with_write target.handle f) there.files)

pub switch-refused : (past : List Request) (old new : MountSeen) (own : OpenSeen) (target : Target) (bytes text : List ℕ) (switch : File) (on : Bool)
    (size at : ℕ) (errno : Errno) → HasLedTo past old → IsTarget own target → text ≡ switch_text on → at ≡ wrong_offset bytes
    → AsksNoted past old new (write_of old.scene (nodes.File target.owner switch) false text)
    (noted_answer (begun target.owner (now_of past) (path_of old.scene (nodes.File target.owner target.file)))
    (path_of old.scene (nodes.File target.owner switch)) text bytes at) (Err errno)
    → IsStep past old new (write_switch (terms_of old) (service_of past old) target.handle own bytes switch on size) (Some (replies.Error errno))
switch-refused past old new own target bytes text switch on size at errno mounted is text_is at_is asked =
    subst (λ (e : Errno). IsStep past old new (write_switch (terms_of old) (service_of past old) target.handle own bytes switch on size) (Some (replies.Error e)))
    (sym asked.2)
    (switch-step past old new own target bytes text switch on size at (Err asked.0) new.files mounted is text_is at_is asked.1 asked.1.files)

-- ---- a file that is opened to be emptied

pub open-done : (past : List Request) (old new : MountSeen) (owner : Owner) (file asked : File) (text : List ℕ) (handle flags : ℕ)
    (files : List (Option OpenSeen)) (done : Unit {0}) → handle ≡ free_handle old.files → files ≡ with_file handle (just_opened owner file false) old.files
    → flags ≡ open_flags (kind_of_file file)
    → AsksNoted past (record old { files = files }) new (write_of old.scene (nodes.File owner asked) false text)
    (noted_answer (begun owner (now_of past) (path_of old.scene (nodes.File owner file))) (path_of old.scene (nodes.File owner asked)) text [] 0) (Ok done)
    → IsStep past old new (emptied old.scene (now_of past) (just_opened owner file false) old.files asked text) (Some (replies.Opened handle flags))
open-done past old new owner file asked text handle flags files done free added flags_are does =
    let own = just_opened owner file false in
    let now : new.files ≡ with_file (free_handle old.files) (just_opened owner file false) old.files =
    does.1.files ∙ added ∙ ap (λ (h : ℕ). with_file h (just_opened owner file false) old.files) free in
    let step : IsStep past old new (emptied old.scene (now_of past) (just_opened owner file false) old.files asked text)
    (Some (replies.Opened (free_handle old.files) (open_flags (kind_of_file file)))) =
    opened-step past old new (write_of old.scene (nodes.File owner asked) false text) (emptied_first (just_opened owner file false) old.files)
    (noted_answer (begun owner (now_of past) (path_of old.scene (nodes.File owner file))) (path_of old.scene (nodes.File owner asked)) text [] 0)
    (Ok does.0) files new.files does.1 now in
    subst (λ (h : ℕ). IsStep past old new (emptied old.scene (now_of past) (just_opened owner file false) old.files asked text) (Some (replies.Opened h flags)))
    (sym free)
    (subst (λ (f : ℕ). IsStep past old new (emptied old.scene (now_of past) (just_opened owner file false) old.files asked text)
    (Some (replies.Opened (free_handle old.files) f))) (sym flags_are) step)

pub open-refused : (past : List Request) (old seen mid : MountSeen) (owner : Owner) (file asked : File) (text : List ℕ) (errno : Errno)
    (files now : List (Option OpenSeen))
    → AsksNoted past (record old { files = files }) seen (write_of old.scene (nodes.File owner asked) false text)
    (noted_answer (begun owner (now_of past) (path_of old.scene (nodes.File owner file))) (path_of old.scene (nodes.File owner asked)) text [] 0) (Err errno)
    → mid ≡ seen → (mid.files ≡ files → now ≡ old.files)
    → IsStep past old (record mid { files = now }) (emptied old.scene (now_of past) (just_opened owner file false) old.files asked text)
    (Some (replies.Error errno))
open-refused past old seen mid owner file asked text errno files now does same back =
    let there : IsAskedNoting past (record old { files = files }) mid (write_of old.scene (nodes.File owner asked) false text) false
    (noted_answer (begun owner (now_of past) (path_of old.scene (nodes.File owner file))) (path_of old.scene (nodes.File owner asked)) text [] 0)
    (Err does.0) =
    subst (λ (m : MountSeen). IsAskedNoting past (record old { files = files }) m (write_of old.scene (nodes.File owner asked) false text) false
    (noted_answer (begun owner (now_of past) (path_of old.scene (nodes.File owner file))) (path_of old.scene (nodes.File owner asked)) text [] 0)
    (Err does.0)) (sym same) does.1 in
    subst (λ (e : Errno). IsStep past old (record mid { files = now }) (emptied old.scene (now_of past) (just_opened owner file false) old.files asked text)
    (Some (replies.Error e))) (sym does.2)
    (opened-step past old mid (write_of old.scene (nodes.File owner asked) false text) (emptied_first (just_opened owner file false) old.files)
    (noted_answer (begun owner (now_of past) (path_of old.scene (nodes.File owner file))) (path_of old.scene (nodes.File owner asked)) text [] 0)
    (Err does.0) files now there (back there.files))

-- there is no handle for it
pub open-none : (past : List Request) (old : MountSeen) (owner : Owner) (file asked : File) (text : List ℕ) (now : List (Option OpenSeen))
    → HasLedTo past old → now ≡ old.files
    → IsStep past old (record old { files = now }) (emptied old.scene (now_of past) (just_opened owner file false) old.files asked text)
    (Some (replies.Error ENOMEM))
open-none past old owner file asked text now mounted is =
    noted-step past old old (write_of old.scene (nodes.File owner asked) false text) (emptied_first (just_opened owner file false) old.files) true
    (noted_answer (begun owner (now_of past) (path_of old.scene (nodes.File owner file))) (path_of old.scene (nodes.File owner asked)) text [] 0)
    (Err Memory) now
    (unnoted past old (write_of old.scene (nodes.File owner asked) false text) (begun owner (now_of past) (path_of old.scene (nodes.File owner file)))
    (path_of old.scene (nodes.File owner asked)) text [] 0 mounted) is

-- ---- WRITE

-- the file is there
written-there : (past : List Request) (old : MountSeen) (handle lock_owner pid : ℕ) (bytes : List ℕ) (own : OpenSeen) (target : Target)
    → HasLedTo past old → Some own ≡ file_at handle old.files → IsTarget own target → is_there old.scene (nodes.File target.owner target.file) ≡ true
    → write_file (terms_of old) (service_of past old) handle lock_owner pid bytes (file_at handle old.files)
    ≡ write_kind (terms_of old) (service_of past old) handle lock_owner pid bytes own own.file
written-there past old handle lock_owner pid bytes own target mounted found is there =
    ap (λ (o : Option OpenSeen). write_file (terms_of old) (service_of past old) handle lock_owner pid bytes o) (sym found)
    ∙ ap (λ (t : Bool). if t then write_kind (terms_of old) (service_of past old) handle lock_owner pid bytes own own.file else failed ENOENT old.files)
    (ap (λ (s : SceneSeen). is_there s (node_of own)) (sym mounted.scene) ∙ ap (λ (o : Owner). is_there old.scene (nodes.File o own.file)) is.owner
    ∙ ap (λ (f : File). is_there old.scene (nodes.File target.owner f)) is.file_is ∙ there)

pub writes-other : (past : List Request) (old new : MountSeen) (lock_owner pid : ℕ) (bytes : List ℕ) (own : OpenSeen) (target : Target) (reply : Reply)
    → HasLedTo past old → Some own ≡ file_at target.handle old.files → IsTarget own target
    → is_there old.scene (nodes.File target.owner target.file) ≡ true → ((event : ℕ) → target.file ≢ files.Inject event)
    → IsStep past old new (write_other (terms_of old) (service_of past old) target.handle own bytes (kind_of_file target.file)) (Some reply)
    → IsStep past old new (write_file (terms_of old) (service_of past old) target.handle lock_owner pid bytes (file_at target.handle old.files)) (Some reply)
writes-other past old new lock_owner pid bytes own target reply mounted found is there other step =
    let not_inject : (event : ℕ) → own.file ≢ files.Inject event = λ event same. other event (sym is.file_is ∙ same) in
    let same : write_other (terms_of old) (service_of past old) target.handle own bytes (kind_of_file target.file)
    ≡ write_file (terms_of old) (service_of past old) target.handle lock_owner pid bytes (file_at target.handle old.files) =
    ap (λ (f : File). write_other (terms_of old) (service_of past old) target.handle own bytes (kind_of_file f)) (sym is.file_is)
    ∙ sym (other-kind (terms_of old) (service_of past old) target.handle lock_owner pid bytes own own.file not_inject)
    ∙ sym (written-there past old target.handle lock_owner pid bytes own target mounted found is there) in
    subst (λ (s : Step). IsStep past old new s (Some reply)) same step

pub writes-inject : (past : List Request) (old new : MountSeen) (lock_owner pid event : ℕ) (bytes : List ℕ) (own : OpenSeen) (target : Target) (reply : Reply)
    → HasLedTo past old → Some own ≡ file_at target.handle old.files → IsTarget own target
    → is_there old.scene (nodes.File target.owner target.file) ≡ true → target.file ≡ files.Inject event
    → IsStep past old new (inject (terms_of old) (service_of past old) target.handle lock_owner pid bytes own (slice_get (declared_events past) event)) (Some reply)
    → IsStep past old new (write_file (terms_of old) (service_of past old) target.handle lock_owner pid bytes (file_at target.handle old.files)) (Some reply)
writes-inject past old new lock_owner pid event bytes own target reply mounted found is there injects step =
    let same : inject (terms_of old) (service_of past old) target.handle lock_owner pid bytes own (slice_get (declared_events past) event)
    ≡ write_file (terms_of old) (service_of past old) target.handle lock_owner pid bytes (file_at target.handle old.files) =
    ap (λ (f : File). write_kind (terms_of old) (service_of past old) target.handle lock_owner pid bytes own f) (sym injects ∙ sym is.file_is)
    ∙ sym (written-there past old target.handle lock_owner pid bytes own target mounted found is there) in
    subst (λ (s : Step). IsStep past old new s (Some reply)) same step
