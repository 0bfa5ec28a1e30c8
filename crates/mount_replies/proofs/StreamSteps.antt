-- Writes of lines that are events, and lines of a stream that end, as steps.
use Rattle.std.proofs.Common.{◌≡◌, ℕ, ◌+◌, nat_lt, Bool, true, false, ◌==◌, ◌&&◌, ◌||◌, if◌then◌else◌, is_some, zero, suc, eq-eqb, List, [], ◌∷◌, ◌++◌, length, set, Option, Some, None, Result, Ok, Err, Bor, refl, sym, ap, subst, ◌∙◌, inl, inr}
use Rattle.std.proofs.Math.Dec.{eqb-suc-zero}
use Rattle.std.specs.List.{position, slice_get}
use Rattle.std.specs.Option.{option_copied, option_map}
use Rattle.fuse_wire.specs.declared.errno.Errno.{Errno}
use Rattle.fuse_wire.specs.declared.errno.Errno.TheVariants.{EBADF, ENOMEM}
use Rattle.fuse_wire.specs.declared.reply.Reply.{Reply}
use Rattle.fuse_wire.specs.declared.reply.Reply.TheVariants as replies
use Rattle.trace_command.specs.Requests.{Request}
use Rattle.trace_command.specs.declared.command.Reply.{Reply as Answer}
use Rattle.trace_command.specs.declared.refusal.Refusal.{Refusal}
use Rattle.trace_command.specs.declared.refusal.Refusal.TheVariants.{Memory}
use Rattle.trace_format.specs.Definitions.{Definition}
use Rattle.trace_format.specs.declared.pair.Pair.{Pair}
use Rattle.tracer_specification.specs.Settings.{declared_events, now_of}
use Rattle.error_log.specs.Errors.{ErrorSeen, begun}
use Rattle.mount_tree.specs.NodePaths.{path_of}
use Rattle.mount_tree.specs.Scenes.{SceneSeen}
use Rattle.mount_tree.specs.Children.{is_there}
use Rattle.file_list.specs.declared.file.File.{File}
use Rattle.file_list.specs.declared.file.File.TheVariants as files
use Rattle.mount_tree.specs.declared.node.Node.TheVariants as nodes
use Rattle.mount_tree.specs.declared.node.Owner.{Owner}
use Rattle.mount_replies.specs.FileWrites.{begun_now, end_line, event_of_file, flush_file, flush_line, has_rest, inject, inject_at_once, inject_lines, inject_stream, noted_first_injection, release, release_line}
use Rattle.mount_replies.specs.Lines.{asked_by_line, asked_by_pairs, errno_of_fault, flushed, goes_on, has_newline, injected, injected_at_once, is_blank_line, is_memory, is_newline, last_piece, line_at_once, most_kept, noted_if_first, noted_line, pieces_of, released, stream_after, stream_lines, too_long}
use Rattle.mount_replies.specs.Mounted.{AsksDone, BeginsDone, GoesOnIf, HasLedTo, IsLineAnswered, IsLineRun, IsRun, IsStep, MountSeen, all_done, service_of, terms_of}
use Rattle.mount_replies.specs.Injections.{pairs_of_line}
use Rattle.mount_replies.specs.Services.{OpenSeen, Service, Terms, drop_rest, file_at, node_of, scene_of, with_stream, without_file, without_rest}
use Rattle.mount_replies.specs.Steps.{Asking, AsksFor, AsksLines, AsksNothing, IsTooLong, IsWrongLine, Keeps, LineAsked, LineRefused, Noting, Outcome, Ran, errors_after, plain, told}
use Rattle.mount_replies.specs.declared.fault.LineFault.{LineFault}
use Rattle.mount_replies.specs.declared.fault.LineFault.TheVariants.{Refused}
use Rattle.mount_replies.specs.declared.fault.Progress.{Progress}
use Rattle.mount_replies.specs.declared.fault.Stop.{Stop}
use Rattle.mount_replies.specs.declared.stream.Stream.{Stream}
use Rattle.mount_replies.specs.declared.writing.Target.{Target}
use Rattle.mount_replies.specs.private.LineRuns.{InjectsTo, IsEventDone, IsLineStopped, refused_line}
use Rattle.mount_replies.specs.private.Targets.{Ends, EndsLineAs, EndsStream, IsRefusedFor, IsToldFor, NotesInjection}
use Rattle.mount_replies.proofs.AnswerLemmas.{unnoted-line}
use Rattle.mount_replies.proofs.PieceLemmas.{has-none, has-one}
use Rattle.mount_replies.proofs.Steps.{lines-step, plain-step, unread-step}

-- ---- what is noted

-- how it begins, by the open file that is written to
own-error : (past : List Request) (old mid : MountSeen) (own : OpenSeen) (owner : Owner) (file : File) → HasLedTo past mid → terms_of mid ≡ terms_of old
    → own.owner ≡ owner → own.file ≡ file
    → begun owner (now_of past) (path_of mid.scene (nodes.File owner file)) ≡ begun_now (terms_of old) (service_of past old) own
own-error past old mid own owner file mounted terms is_owner is_file =
    ap (λ (o : Owner). begun o (now_of past) (path_of mid.scene (nodes.File o file))) (sym is_owner)
    ∙ ap (λ (f : File). begun own.owner (now_of past) (path_of mid.scene (nodes.File own.owner f))) (sym is_file)
    ∙ ap (λ (s : SceneSeen). begun own.owner (now_of past) (path_of s (nodes.File own.owner own.file))) mounted.scene
    ∙ ap (λ (g : Terms). begun_now g (service_of past old) own) terms

-- a run that stopped may as well have stopped for want of memory
abbrev with_memory : Ran → Ran
with_memory ran = record ran { refused = option_map (λ (line : LineRefused). record line { fault = Refused Memory }) ran.refused }

line-memory : (g : Terms) (past : List Request) (done : ℕ) (line : LineAsked) (lines : List LineAsked) (ran : Ran)
    → ((now : List Request) → IsRun g now line.end lines ran → IsRun g now line.end lines (with_memory ran))
    → (asking : Asking) → IsLineRun g past done line.text (λ (now : List Request). IsRun g now line.end lines ran) ran asking
    → IsLineRun g past done line.text (λ (now : List Request). IsRun g now line.end lines (with_memory ran)) (with_memory ran) asking
line-memory g past done line lines ran more AsksNothing runs = more past runs
line-memory g past done line lines ran more IsWrongLine stops = elim stops [ inl stopped ↦ inr (ap with_memory stopped) | inr stopped ↦ inr (ap with_memory stopped) ]
line-memory g past done line lines ran more IsTooLong stops = elim stops [ inl stopped ↦ inr (ap with_memory stopped) | inr stopped ↦ inr (ap with_memory stopped) ]
line-memory g past done line lines ran more (AsksFor request) asked = by asked.0 asked.1 asked.2
  where
    by : (answer : Result Answer Refusal) → IsLineAnswered g past request answer
        → GoesOnIf past done line.text request (λ (now : List Request). IsRun g now line.end lines ran) ran answer
        → IsLineRun g past done line.text (λ (now : List Request). IsRun g now line.end lines (with_memory ran)) (with_memory ran) (AsksFor request)
    by (Ok answer) is rest = (Ok answer, is, more (request ∷ past) rest)
    by (Err refusal) is stopped = (Err Memory, unnoted-line g past request refusal is, ap with_memory stopped)

memory-run : (g : Terms) (past : List Request) (done : ℕ) (lines : List LineAsked) (ran : Ran) → is_some ran.refused ≡ true
    → IsRun g past done lines ran → IsRun g past done lines (with_memory ran)
memory-run g past done [] ran some runs = absurd (let none : is_some ran.refused ≡ false = ap (λ (r : Ran). is_some r.refused) runs in cc)
memory-run g past done (line ∷ lines) ran some runs =
    line-memory g past done line lines ran (λ (now : List Request) (rest : IsRun g now line.end lines ran). memory-run g now line.end lines ran some rest) line.asking runs

-- a run stopped as is told of it
told-run : (g : Terms) (past after : List Request) (done : ℕ) (lines : List LineAsked) (text : List ℕ) (fault told : LineFault) → IsToldFor fault told
    → IsRun g past 0 lines (record { past = after; done = done; refused = Some (record { text = text; fault = fault }) })
    → IsRun g past 0 lines (record { past = after; done = done; refused = Some (record { text = text; fault = told }) })
told-run g past after done lines text fault told is runs = elim is [
  | inl same ↦ subst (λ (f : LineFault). IsRun g past 0 lines (record { past = after; done = done; refused = Some (record { text = text; fault = f }) })) (sym same) runs
  | inr memory ↦ subst (λ (f : LineFault). IsRun g past 0 lines (record { past = after; done = done; refused = Some (record { text = text; fault = f }) })) (sym memory)
      (memory-run g past 0 lines (record { past = after; done = done; refused = Some (record { text = text; fault = fault }) }) refl runs)
]

pub runs-for : (g : Terms) (past after : List Request) (done : ℕ) (lines : List LineAsked) (stop : Option Stop) (refused : Option LineRefused) → IsRefusedFor stop refused
    → IsRun g past 0 lines (record { past = after; done = done; refused = refused_line stop })
    → IsRun g past 0 lines (record { past = after; done = done; refused = refused })
runs-for g past after done lines None refused is runs =
    subst (λ (r : Option LineRefused). IsRun g past 0 lines (record { past = after; done = done; refused = r })) (sym is) runs
runs-for g past after done lines (Some stop) refused is runs =
    subst (λ (r : Option LineRefused). IsRun g past 0 lines (record { past = after; done = done; refused = r })) (sym is.2)
    (told-run g past after done lines stop.line.now stop.fault is.0 is.1 runs)

-- ---- writes

-- lines were done, and the write ended
injected-step : (past : List Request) (old mid new : MountSeen) (own : OpenSeen) (event : Definition) (lines : List LineAsked)
    (outcome : List (Option OpenSeen) → ℕ → Option LineRefused → Outcome) (progress : Progress) (refused : Option LineRefused) (reply : Reply) (error : ErrorSeen)
    → (did : InjectsTo past old mid lines progress) → error ≡ begun_now (terms_of old) (service_of did.is.after old) own → IsRefusedFor progress.stop refused
    → Ends mid new (outcome mid.files progress.done refused) (noted_if_first (noted_line error) progress.done refused) mid.errors reply
    → IsStep past old new
    (AsksLines lines (λ (ran : Ran). outcome old.files ran.done ran.refused) (noted_first_injection (terms_of old) (service_of past old) own)) (Some reply)
injected-step past old mid new own event lines outcome progress refused reply error did is told ends =
    let ran : Ran = record { past = did.is.after; done = progress.done; refused = refused } in
    let outcomes : Ran → Outcome = λ r. outcome old.files r.done r.refused in
    let noting : Ran → Noting = noted_first_injection (terms_of old) (service_of past old) own in
    let end : Ends mid new (outcomes ran) (noting ran) old.errors reply =
    subst (λ (b : List ErrorSeen). Ends mid new (outcomes ran) (noting ran) b reply) did.is.kept.errors
    (subst (λ (f : List (Option OpenSeen)). Ends mid new (outcome f progress.done refused) (noting ran) mid.errors reply) did.is.kept.files
    (subst (λ (e : ErrorSeen). Ends mid new (outcome mid.files progress.done refused)
    (noted_if_first (noted_line e) progress.done refused) mid.errors reply) is ends)) in
    subst (λ (m : MountSeen). IsStep past old m (AsksLines lines outcomes noting) (Some reply)) (sym end.now)
    (lines-step past old mid lines outcomes noting ran (outcomes ran).files (errors_after (noting ran) old.errors) reply did.is.mounted
    did.is.kept.terms did.is.kept.parked did.is.kept.counted
    (runs-for (terms_of old) past did.is.after progress.done lines progress.stop refused told did.is.runs) end.told refl refl)

-- a write that is one line at once: it was refused
pub once-refused : (past : List Request) (old mid new : MountSeen) (own : OpenSeen) (event : Definition) (owner : Owner) (file : File) (index pid : ℕ)
    (line : Bor (List ℕ)) (fault told : LineFault) (errno : Errno) → own.owner ≡ owner → own.file ≡ file
    → IsLineStopped past old mid (asked_by_line old.live.config.cpus pid event line.now) fault
    → slice_get (declared_events past) index ≡ Some event → NotesInjection owner file index mid new (record { line = line; fault = fault }) told
    → errno ≡ errno_of_fault told
    → IsStep past old new (inject_at_once (terms_of old) (service_of past old) pid line.now own event) (Some (replies.Error errno))
once-refused past old mid new own event owner file index pid line fault told errno is_owner is_file did there notes tells =
    let asking = asked_by_line old.live.config.cpus pid event in
    let refused : Option LineRefused = Some (record { text = line.now; fault = told }) in
    let ran : Ran = record { past = past; done = 0; refused = refused } in
    let noting : Ran → Noting = noted_first_injection (terms_of old) (service_of past old) own in
    let errors_are : errors_after (noted_line (begun owner (now_of past) (path_of mid.scene (nodes.File owner file))) line.now told) mid.errors
    ≡ errors_after (noting ran) old.errors =
    ap (λ (e : ErrorSeen). errors_after (noted_line e line.now told) mid.errors) (own-error past old mid own owner file did.mounted did.kept.terms is_owner is_file)
    ∙ ap (λ (b : List ErrorSeen). errors_after (noting ran) b) did.kept.errors in
    subst (λ (m : MountSeen). IsStep past old m (inject_at_once (terms_of old) (service_of past old) pid line.now own event) (Some (replies.Error errno)))
    (sym (notes.1 past event did.mounted there))
    (lines-step past old mid (line_at_once asking line.now) (λ (r : Ran). injected_at_once (length line.now) old.files r.refused) noting ran
    mid.files (errors_after (noted_line (begun owner (now_of past) (path_of mid.scene (nodes.File owner file))) line.now told) mid.errors)
    (replies.Error errno) did.mounted did.kept.terms did.kept.parked did.kept.counted
    (told-run (terms_of old) past past 0 (line_at_once asking line.now) line.now fault told notes.0
    (did.runs 0 (record { text = line.now; asking = asking line.now; end = length line.now }) [] refl))
    (ap (λ (e : Errno). Some (replies.Error e)) (sym tells)) did.kept.files errors_are)

-- or it was done
pub once-written : (past : List Request) (old mid : MountSeen) (own : OpenSeen) (event : Definition) (pid size : ℕ) (line : List ℕ)
    → IsEventDone past old mid (asked_by_line old.live.config.cpus pid event line) → size ≡ length line
    → IsStep past old mid (inject_at_once (terms_of old) (service_of past old) pid line own event) (Some (replies.Written size))
once-written past old mid own event pid size line did all =
    let asking = asked_by_line old.live.config.cpus pid event in
    let ran : Ran = all_done did.is.after (length line) in
    lines-step past old mid (line_at_once asking line) (λ (r : Ran). injected_at_once (length line) old.files r.refused)
    (noted_first_injection (terms_of old) (service_of past old) own) ran mid.files mid.errors (replies.Written size)
    did.is.mounted did.is.kept.terms did.is.kept.parked did.is.kept.counted
    (did.is.runs 0 (record { text = line; asking = asking line; end = length line }) [] ran refl refl)
    (ap (λ (n : ℕ). Some (replies.Written n)) (sym all)) did.is.kept.files did.is.kept.errors

-- the first line of a write to a stream was refused, which is told
pub stream-stopped : (old mid new : MountSeen) (target : Target) (index size : ℕ) (after : Stream) (progress : Progress) (stop : Stop) (fault : LineFault) (errno : Errno)
    → progress.stop ≡ Some stop → progress.done ≡ 0 → NotesInjection target.owner target.file index old mid stop fault → errno ≡ errno_of_fault fault
    → new ≡ record mid { files = if is_memory fault then mid.files else drop_rest target.handle mid.files }
    → EndsStream old new target index after size progress (replies.Error errno)
stream-stopped old mid new target index size after progress stop fault errno stops none notes tells is = λ past event mounted there.
    let refused : Option LineRefused = Some (record { text = stop.line.now; fault = fault }) in
    let error : ErrorSeen = begun target.owner (now_of past) (path_of old.scene (nodes.File target.owner target.file)) in
    let taken : MountSeen → List (Option OpenSeen) = λ m. if is_memory fault then m.files else drop_rest target.handle m.files in
    let ends : Ends old new (told (replies.Error (errno_of_fault fault)) (taken old)) (noted_line error stop.line.now fault) old.errors (replies.Error errno) = record {
      told = ap (λ (e : Errno). Some (replies.Error e)) (sym tells);
      now = is ∙ ap (λ (m : MountSeen). record m { files = taken m }) (notes.1 past event mounted there);
    } in (
      refused,
      subst (λ (s : Option Stop). IsRefusedFor s refused) (sym stops) (fault, notes.0, refl),
      subst (λ (t : Bool). Ends old new
          (if t then told (replies.Error (errno_of_fault fault)) (taken old) else told (replies.Written progress.done) (with_stream (without_rest after) target.handle old.files))
          (if t then noted_line error stop.line.now fault else Keeps) old.errors (replies.Error errno)) (sym (eq-eqb progress.done 0 none)) ends,
    )

-- what is kept of a stream is dropped unless memory was refused
pub rest-dropped : (mid view : MountSeen) (now : List (Option OpenSeen)) (handle : ℕ) (fault : LineFault) → is_memory fault ≡ false → view ≡ mid
    → now ≡ drop_rest handle view.files → record view { files = now } ≡ record mid { files = if is_memory fault then mid.files else drop_rest handle mid.files }
rest-dropped mid view now handle fault other view_is is =
    subst (λ (t : Bool). record view { files = now } ≡ record mid { files = if t then mid.files else drop_rest handle mid.files }) (sym other)
    (ap (λ (f : List (Option OpenSeen)). record view { files = f }) is ∙ ap (λ (m : MountSeen). record m { files = drop_rest handle m.files }) view_is)

pub rest-kept : (mid : MountSeen) (handle : ℕ) (fault : LineFault) → is_memory fault ≡ true
    → mid ≡ record mid { files = if is_memory fault then mid.files else drop_rest handle mid.files }
rest-kept mid handle fault memory =
    subst (λ (t : Bool). mid ≡ record mid { files = if t then mid.files else drop_rest handle mid.files }) (sym memory) refl

some-done : (done : ℕ) → (done ≡ 0 → ⊥) → (done == 0) ≡ false
some-done zero some = absurd (some refl)
some-done (suc done) some = eqb-suc-zero done

-- another was, before which others were done
pub stream-kept : (old mid : MountSeen) (now : List (Option OpenSeen)) (target : Target) (index size : ℕ) (after kept : Stream) (progress : Progress) (stop : Stop)
    → progress.stop ≡ Some stop → (progress.done ≡ 0 → ⊥) → mid ≡ old → kept ≡ without_rest after → now ≡ with_stream kept target.handle mid.files
    → EndsStream old (record mid { files = now }) target index after size progress (replies.Written progress.done)
stream-kept old mid now target index size after kept progress stop stops some view kept_is is = λ past event mounted there.
    let refused : Option LineRefused = Some (record { text = stop.line.now; fault = stop.fault }) in
    let error : ErrorSeen = begun target.owner (now_of past) (path_of old.scene (nodes.File target.owner target.file)) in
    let new : MountSeen = record mid { files = now } in
    let ends : Ends old new (told (replies.Written progress.done) (with_stream (without_rest after) target.handle old.files)) Keeps old.errors (replies.Written progress.done) = record {
      told = refl;
      now = ap (λ (f : List (Option OpenSeen)). record mid { files = f }) (is ∙ ap (λ (s : Stream). with_stream s target.handle mid.files) kept_is)
          ∙ ap (λ (m : MountSeen). record m { files = with_stream (without_rest after) target.handle m.files }) view;
    } in (
      refused,
      subst (λ (s : Option Stop). IsRefusedFor s refused) (sym stops) (stop.fault, inl refl, refl),
      subst (λ (t : Bool). Ends old new
          (if t then told (replies.Error (errno_of_fault stop.fault)) (if is_memory stop.fault then old.files else drop_rest target.handle old.files)
          else told (replies.Written progress.done) (with_stream (without_rest after) target.handle old.files))
          (if t then noted_line error stop.line.now stop.fault else Keeps) old.errors (replies.Written progress.done)) (sym (some-done progress.done some)) ends,
    )

-- a write to a stream
pub stream-written : (past : List Request) (old mid new : MountSeen) (own : OpenSeen) (event : Definition) (target : Target) (index lock_owner pid kept size : ℕ)
    (bytes written : List ℕ) (after : Stream) (progress : Progress) (reply : Reply) → own.owner ≡ target.owner → own.file ≡ target.file
    → bytes ≡ own.stream.rest ++ written → kept ≡ length own.stream.rest → size ≡ length written
    → after ≡ record { is_stream = true; rest = last_piece (pieces_of bytes); lock_owner = lock_owner; pid = pid }
    → InjectsTo past old mid (stream_lines (asked_by_line old.live.config.cpus pid event) kept size 0 (pieces_of bytes)) progress
    → slice_get (declared_events past) index ≡ Some event → EndsStream mid new target index after size progress reply
    → IsStep past old new (inject_stream (terms_of old) (service_of past old) target.handle lock_owner pid written own event) (Some reply)
stream-written past old mid new own event target index lock_owner pid kept size bytes written after progress reply is_owner is_file bytes_are kept_is size_is after_is given there ends =
    let asking = asked_by_line old.live.config.cpus pid event in
    let lines : List LineAsked = stream_lines asking (length own.stream.rest) (length written) 0 (pieces_of (own.stream.rest ++ written)) in
    let lines_are : stream_lines asking kept size 0 (pieces_of bytes) ≡ lines =
    ap (λ (n : ℕ). stream_lines asking n size 0 (pieces_of bytes)) kept_is
    ∙ ap (λ (n : ℕ). stream_lines asking (length own.stream.rest) n 0 (pieces_of bytes)) size_is
    ∙ ap (λ (b : List ℕ). stream_lines asking (length own.stream.rest) (length written) 0 (pieces_of b)) bytes_are in
    let did : InjectsTo past old mid lines progress = subst (λ (l : List LineAsked). InjectsTo past old mid l progress) lines_are given in
    let stream : Stream = stream_after own.stream lock_owner pid written in
    let stream_is : after ≡ stream =
    after_is ∙ ap (λ (b : List ℕ). record { is_stream = true; rest = last_piece (pieces_of b); lock_owner = lock_owner; pid = pid }) bytes_are in
    let end = ends did.is.after event did.is.mounted (ap (λ (l : List Definition). slice_get l index) did.declared ∙ there) in
    let error : ErrorSeen = begun target.owner (now_of did.is.after) (path_of mid.scene (nodes.File target.owner target.file)) in
    injected-step past old mid new own event lines (λ f done refused. injected target.handle stream (length written) f done refused) progress end.0 reply error did
    (own-error did.is.after old mid own target.owner target.file did.is.mounted did.is.kept.terms is_owner is_file) end.1
    (subst (λ (n : ℕ). Ends mid new (injected target.handle stream n mid.files progress.done end.0)
    (noted_if_first (noted_line error) progress.done end.0) mid.errors reply) size_is
    (subst (λ (s : Stream). Ends mid new (injected target.handle s size mid.files progress.done end.0)
    (noted_if_first (noted_line error) progress.done end.0) mid.errors reply) stream_is end.2))

-- each of its lines takes memory
line-takes : (g : Terms) (past : List Request) (cpus pid : ℕ) (event : Definition) (more : Type 0) (line : List ℕ) → (more → ⊥)
    → AsksDone g past more (asked_by_line cpus pid event line) → ⊥
line-takes g past cpus pid event more line none = by (is_blank_line line)
  where
    pairs : (read : Option (List Pair)) → AsksDone g past more (asked_by_pairs cpus pid event read) → ⊥
    pairs None takes = takes
    pairs (Some given) takes = takes.0

    by : (blank : Bool) → AsksDone g past more (if blank then AsksNothing else asked_by_pairs cpus pid event (pairs_of_line line)) → ⊥
    by true takes = none takes
    by false takes = pairs (pairs_of_line line) takes

long-takes : (g : Terms) (past : List Request) (size : ℕ) (rest : List ℕ) → BeginsDone g past (too_long size rest) → ⊥
long-takes g past size rest = by (nat_lt most_kept (length rest))
  where
    by : (long : Bool) → BeginsDone g past (if long then record { text = rest; asking = IsTooLong; end = size } ∷ [] else []) → ⊥
    by true takes = takes
    by false takes = takes

stream-takes : (g : Terms) (past : List Request) (cpus pid : ℕ) (event : Definition) (kept size start : ℕ) (pieces : List (List ℕ))
    → BeginsDone g past (stream_lines (asked_by_line cpus pid event) kept size start pieces) → ⊥
unfolding stream_lines
stream-takes g past cpus pid event kept size start [] takes = takes
stream-takes g past cpus pid event kept size start (rest ∷ []) takes = long-takes g past size rest takes
stream-takes g past cpus pid event kept size start (line ∷ next ∷ more) takes =
    line-takes g past cpus pid event (BeginsDone g past (stream_lines (asked_by_line cpus pid event) kept size (start + length line + 1) (next ∷ more))) line
    (stream-takes g past cpus pid event kept size (start + length line + 1) (next ∷ more)) takes

-- or memory was refused before
pub stream-unread : (past : List Request) (old : MountSeen) (own : OpenSeen) (event : Definition) (handle lock_owner pid : ℕ) (written : List ℕ) → HasLedTo past old
    → IsStep past old old (inject_stream (terms_of old) (service_of past old) handle lock_owner pid written own event) (Some (replies.Error ENOMEM))
stream-unread past old own event handle lock_owner pid written mounted =
    unread-step past old
    (stream_lines (asked_by_line old.live.config.cpus pid event) (length own.stream.rest) (length written) 0 (pieces_of (own.stream.rest ++ written)))
    (λ (ran : Ran). injected handle (stream_after own.stream lock_owner pid written) (length written) old.files ran.done ran.refused)
    (noted_first_injection (terms_of old) (service_of past old) own) mounted refl refl
    (stream-takes (terms_of old) past old.live.config.cpus pid event (length own.stream.rest) (length written) 0 (pieces_of (own.stream.rest ++ written)))

-- ---- a line ends

-- a blank one
pub blank-ended : (past : List Request) (old : MountSeen) (own : OpenSeen) (event : Definition) (asking : List ℕ → Asking) (line : List ℕ) → HasLedTo past old
    → asking line ≡ AsksNothing → EndsLineAs past old old own event asking line None
blank-ended past old own event asking line mounted is = record {
  after = past;
  mounted = mounted;
  terms = refl;
  files = refl;
  parked = refl;
  counted = refl;
  done = length line;
  runs = subst (λ (a : Asking). IsLineRun (terms_of old) past 0 line
      (λ (now : List Request). IsRun (terms_of old) now (length line) [] (all_done past (length line))) (all_done past (length line)) a) (sym is) refl;
  errors = refl;
}

-- its event was made
pub line-made : (past : List Request) (old mid : MountSeen) (own : OpenSeen) (event : Definition) (pid : ℕ) (line : List ℕ)
    → IsEventDone past old mid (asked_by_line old.live.config.cpus pid event line)
    → EndsLineAs past old mid own event (asked_by_line old.live.config.cpus pid event) line None
line-made past old mid own event pid line did = record {
  after = did.is.after;
  mounted = did.is.mounted;
  terms = did.is.kept.terms;
  files = did.is.kept.files;
  parked = did.is.kept.parked;
  counted = did.is.kept.counted;
  done = length line;
  runs = did.is.runs 0 (record { text = line; asking = asked_by_line old.live.config.cpus pid event line; end = length line }) []
      (all_done did.is.after (length line)) refl refl;
  errors = did.is.kept.errors;
}

-- or was refused
pub line-refused : (past : List Request) (old mid new : MountSeen) (own : OpenSeen) (event : Definition) (owner : Owner) (file : File) (index pid : ℕ)
    (line : Bor (List ℕ)) (fault told : LineFault) → own.owner ≡ owner → own.file ≡ file
    → IsLineStopped past old mid (asked_by_line old.live.config.cpus pid event line.now) fault
    → slice_get (declared_events past) index ≡ Some event → NotesInjection owner file index mid new (record { line = line; fault = fault }) told
    → EndsLineAs past old new own event (asked_by_line old.live.config.cpus pid event) line.now (Some (record { text = line.now; fault = told }))
line-refused past old mid new own event owner file index pid line fault told is_owner is_file did there notes =
    let asking = asked_by_line old.live.config.cpus pid event in
    let error : ErrorSeen = begun owner (now_of past) (path_of mid.scene (nodes.File owner file)) in
    let ended : EndsLineAs past old (record mid { errors = errors_after (noted_line error line.now told) mid.errors }) own event asking line.now
    (Some (record { text = line.now; fault = told })) = record {
      after = past;
      mounted = record { lives = did.mounted.lives; scene = did.mounted.scene };
      terms = did.kept.terms;
      files = did.kept.files;
      parked = did.kept.parked;
      counted = did.kept.counted;
      done = 0;
      runs = told-run (terms_of old) past past 0 (line_at_once asking line.now) line.now fault told notes.0
          (did.runs 0 (record { text = line.now; asking = asking line.now; end = length line.now }) [] refl);
      errors = ap (λ (e : ErrorSeen). errors_after (noted_line e line.now told) mid.errors)
          (own-error past old mid own owner file did.mounted did.kept.terms is_owner is_file)
          ∙ ap (λ (b : List ErrorSeen). errors_after (noted_line (begun_now (terms_of old) (service_of past old) own) line.now told) b) did.kept.errors;
    } in
    subst (λ (m : MountSeen). EndsLineAs past old m own event asking line.now (Some (record { text = line.now; fault = told }))) (sym (notes.1 past event did.mounted there)) ended

-- a line of an open file ended, whose files had changed before
pub led-files : (past : List Request) (old mid : MountSeen) (now : List (Option OpenSeen)) → HasLedTo past old → mid ≡ old → HasLedTo past (record mid { files = now })
led-files past old mid now mounted view =
    let led : HasLedTo past mid = subst (λ (m : MountSeen). HasLedTo past m) (sym view) mounted in
    record { lives = led.lives; scene = led.scene }

pub ended-step : (past : List Request) (old mid new : MountSeen) (now : List (Option OpenSeen)) (own : OpenSeen) (event : Definition) (pid : ℕ) (line : List ℕ)
    (refused : Option LineRefused) (outcome : Option LineRefused → Outcome) (reply : Reply) → mid ≡ old → pid ≡ own.stream.pid → line ≡ own.stream.rest
    → EndsLineAs past (record mid { files = now }) new own event (asked_by_line mid.live.config.cpus pid event) line refused
    → now ≡ (outcome refused).files → (outcome refused).reply ≡ Some reply
    → IsStep past old new (end_line (terms_of old) (service_of past old) own outcome event) (Some reply)
ended-step past old mid new now own event pid line refused outcome reply view pid_is is given files_are told =
    let asking = asked_by_line old.live.config.cpus own.stream.pid event in
    let ends : EndsLineAs past (record old { files = now }) new own event asking own.stream.rest refused =
    subst (λ (l : List ℕ). EndsLineAs past (record old { files = now }) new own event asking l refused) is
    (subst (λ (n : ℕ). EndsLineAs past (record old { files = now }) new own event (asked_by_line old.live.config.cpus n event) line refused) pid_is
    (subst (λ (m : MountSeen). EndsLineAs past (record m { files = now }) new own event (asked_by_line m.live.config.cpus pid event) line refused) view given)) in
    lines-step past old new (line_at_once asking own.stream.rest) (λ (ran : Ran). outcome ran.refused)
    (noted_first_injection (terms_of old) (service_of past old) own) (record { past = ends.after; done = ends.done; refused = refused })
    new.files new.errors reply ends.mounted ends.terms ends.parked ends.counted ends.runs told (ends.files ∙ files_are) ends.errors

-- ---- which write it is

pub goes-newline : (is_stream : Bool) (bytes : List ℕ) (at : Option ℕ) → at ≡ position is_newline bytes → is_some at ≡ true
    → (is_stream || has_newline bytes) ≡ true
goes-newline true bytes at is some = refl
goes-newline false bytes None is some = absurd (cc)
goes-newline false bytes (Some i) is some = has-one bytes i is

pub goes-stream : (is_stream : Bool) (bytes : List ℕ) → is_stream ≡ true → (is_stream || has_newline bytes) ≡ true
goes-stream true bytes is = refl
goes-stream false bytes is = absurd (cc)

pub goes-not-on : (is_stream : Bool) (bytes : List ℕ) (at : Option ℕ) → is_stream ≡ false → at ≡ position is_newline bytes → is_some at ≡ false
    → (is_stream || has_newline bytes) ≡ false
goes-not-on true bytes at off is none = absurd (cc)
goes-not-on false bytes None off is none = has-none bytes is
goes-not-on false bytes (Some i) off is none = absurd (cc)

-- the open file of a handle is the one that was found
pub same-file : (handle : ℕ) (old mid : MountSeen) (open_file own : OpenSeen) → mid ≡ old → Some open_file ≡ file_at handle mid.files
    → file_at handle old.files ≡ Some own → open_file ≡ own
same-file handle old mid open_file own view is found =
    let same : Some open_file ≡ Some own = is ∙ ap (λ (m : MountSeen). file_at handle m.files) view ∙ found in cc

pub injects-stream : (past : List Request) (old new : MountSeen) (own : OpenSeen) (event : Definition) (handle lock_owner pid : ℕ) (bytes : List ℕ) (reply : Reply)
    → goes_on own.stream bytes ≡ true
    → IsStep past old new (inject_stream (terms_of old) (service_of past old) handle lock_owner pid bytes own event) (Some reply)
    → IsStep past old new (inject_lines (terms_of old) (service_of past old) handle lock_owner pid bytes own event) (Some reply)
injects-stream past old new own event handle lock_owner pid bytes reply goes step =
    subst (λ (t : Bool). IsStep past old new (if t then inject_stream (terms_of old) (service_of past old) handle lock_owner pid bytes own event
    else inject_at_once (terms_of old) (service_of past old) pid bytes own event) (Some reply)) (sym goes) step

pub injects-at-once : (past : List Request) (old new : MountSeen) (own : OpenSeen) (event : Definition) (handle lock_owner pid : ℕ) (bytes : List ℕ) (reply : Reply)
    → goes_on own.stream bytes ≡ false
    → IsStep past old new (inject_at_once (terms_of old) (service_of past old) pid bytes own event) (Some reply)
    → IsStep past old new (inject_lines (terms_of old) (service_of past old) handle lock_owner pid bytes own event) (Some reply)
injects-at-once past old new own event handle lock_owner pid bytes reply goes step =
    subst (λ (t : Bool). IsStep past old new (if t then inject_stream (terms_of old) (service_of past old) handle lock_owner pid bytes own event
    else inject_at_once (terms_of old) (service_of past old) pid bytes own event) (Some reply)) (sym goes) step

-- the event of an open file, if there is one
pub seen-some : (o : Option (Bor Definition)) (seen : Option Definition) → option_copied o ≡ seen → is_some o ≡ true → is_some seen ≡ true
seen-some None seen same some = absurd (cc)
seen-some (Some event) seen same some = ap (λ (s : Option Definition). is_some s) (sym same)

pub by-event : (past : List Request) (old new : MountSeen) (own : OpenSeen) (seen : Option Definition) (handle lock_owner pid : ℕ) (bytes : List ℕ) (reply : Reply)
    → is_some seen ≡ true
    → ((event : Definition) → seen ≡ Some event
    → IsStep past old new (inject_lines (terms_of old) (service_of past old) handle lock_owner pid bytes own event) (Some reply))
    → IsStep past old new (inject (terms_of old) (service_of past old) handle lock_owner pid bytes own seen) (Some reply)
by-event past old new own None handle lock_owner pid bytes reply some step = absurd (cc)
by-event past old new own (Some event) handle lock_owner pid bytes reply some step = step event refl

-- ---- FLUSH and RELEASE

there-event : (g : Terms) (s : Service) (own : OpenSeen) (index : ℕ) (seen : Option Definition) → own.file ≡ files.Inject index
    → is_there (scene_of g s) (nodes.File own.owner (files.Inject index)) ≡ true → slice_get (declared_events s.past) index ≡ seen
    → event_of_file g s own own.file ≡ seen
there-event g s own index seen is exists found =
    let here : is_there (scene_of g s) (node_of own) ≡ true = ap (λ (f : File). is_there (scene_of g s) (nodes.File own.owner f)) is ∙ exists in
    ap (event_of_file g s own) is
    ∙ ap (λ (t : Bool). if t then slice_get (declared_events s.past) index else None) here ∙ found

-- both its instance and its event are there
both : (t u : Bool) → (t && u) ≡ true → (t ≡ true) × (u ≡ true)
both true true h = (refl, refl)
both true false h = absurd (cc)
both false u h = absurd (cc)

-- the file of a handle is one that a line is kept of
pub ends-flush : (past : List Request) (old new : MountSeen) (own : OpenSeen) (index handle lock_owner : ℕ) (reply : Reply) → HasLedTo past old
    → file_at handle old.files ≡ Some own → has_rest own ≡ true → own.stream.lock_owner ≡ lock_owner → own.file ≡ files.Inject index
    → (is_there old.scene (nodes.File own.owner (files.Inject index)) && is_some (slice_get (declared_events past) index)) ≡ true
    → ((event : Definition) → slice_get (declared_events past) index ≡ Some event
    → IsStep past old new (end_line (terms_of old) (service_of past old) own (flushed handle old.files) event) (Some reply))
    → IsStep past old new (flush_file (terms_of old) (service_of past old) handle lock_owner (file_at handle old.files)) (Some reply)
ends-flush past old new own index handle lock_owner reply mounted found rest same is can step = by (slice_get (declared_events past) index) refl
  where
    g : Terms
    g = terms_of old

    s : Service
    s = service_of past old

    can_both : (is_there old.scene (nodes.File own.owner (files.Inject index)) ≡ true) × (is_some (slice_get (declared_events past) index) ≡ true)
    can_both = both (is_there old.scene (nodes.File own.owner (files.Inject index))) (is_some (slice_get (declared_events past) index)) can

    exists : is_there (scene_of g s) (nodes.File own.owner (files.Inject index)) ≡ true
    exists = ap (λ (scene : SceneSeen). is_there scene (nodes.File own.owner (files.Inject index))) (sym mounted.scene) ∙ can_both.0

    test : (has_rest own && own.stream.lock_owner == lock_owner) ≡ true
    test = rw rest (eq-eqb own.stream.lock_owner lock_owner same)

    by : (seen : Option Definition) → slice_get (declared_events past) index ≡ seen
        → IsStep past old new (flush_file g s handle lock_owner (file_at handle old.files)) (Some reply)
    by None none =
        let off : is_some (slice_get (declared_events past) index) ≡ false = ap (λ (o : Option Definition). is_some o) none in
        absurd (cc (off, can_both.1))
    by (Some event) seen =
        subst (λ (o : Option OpenSeen). IsStep past old new (flush_file g s handle lock_owner o) (Some reply)) (sym found)
        (subst (λ (t : Bool). IsStep past old new (if t then flush_line g s handle own (event_of_file g s own own.file) else plain replies.Done old.files) (Some reply)) (sym test)
        (subst (λ (o : Option Definition). IsStep past old new (flush_line g s handle own o) (Some reply)) (sym (there-event g s own index (Some event) is exists seen))
        (step event seen)))

pub ends-release : (past : List Request) (old new : MountSeen) (own : OpenSeen) (index handle : ℕ) (reply : Reply) → HasLedTo past old
    → file_at handle old.files ≡ Some own → has_rest own ≡ true → own.file ≡ files.Inject index
    → (is_there old.scene (nodes.File own.owner (files.Inject index)) && is_some (slice_get (declared_events past) index)) ≡ true
    → ((event : Definition) → slice_get (declared_events past) index ≡ Some event
    → IsStep past old new (end_line (terms_of old) (service_of past old) own (released handle old.files) event) (Some reply))
    → IsStep past old new (release (terms_of old) (service_of past old) handle (file_at handle old.files)) (Some reply)
ends-release past old new own index handle reply mounted found rest is can step = by (slice_get (declared_events past) index) refl
  where
    g : Terms
    g = terms_of old

    s : Service
    s = service_of past old

    can_both : (is_there old.scene (nodes.File own.owner (files.Inject index)) ≡ true) × (is_some (slice_get (declared_events past) index) ≡ true)
    can_both = both (is_there old.scene (nodes.File own.owner (files.Inject index))) (is_some (slice_get (declared_events past) index)) can

    exists : is_there (scene_of g s) (nodes.File own.owner (files.Inject index)) ≡ true
    exists = ap (λ (scene : SceneSeen). is_there scene (nodes.File own.owner (files.Inject index))) (sym mounted.scene) ∙ can_both.0

    by : (seen : Option Definition) → slice_get (declared_events past) index ≡ seen
        → IsStep past old new (release g s handle (file_at handle old.files)) (Some reply)
    by None none =
        let off : is_some (slice_get (declared_events past) index) ≡ false = ap (λ (o : Option Definition). is_some o) none in
        absurd (cc (off, can_both.1))
    by (Some event) seen =
        subst (λ (o : Option OpenSeen). IsStep past old new (release g s handle o) (Some reply)) (sym found)
        (subst (λ (t : Bool). IsStep past old new (if t then release_line g s handle own (event_of_file g s own own.file) else plain replies.Done (without_file handle old.files)) (Some reply)) (sym rest)
        (subst (λ (o : Option Definition). IsStep past old new (release_line g s handle own o) (Some reply)) (sym (there-event g s own index (Some event) is exists seen))
        (step event seen)))

-- a handle that has no file is closed
nothing-closed : (open_files : List (Option OpenSeen)) (handle : ℕ) → file_at handle open_files ≡ None → set open_files handle None ≡ open_files
nothing-closed [] handle none = refl
nothing-closed (None ∷ more) zero none = refl
nothing-closed (Some file ∷ more) zero none = absurd (cc)
nothing-closed (first ∷ more) (suc handle) none = ap (λ (l : List (Option OpenSeen)). first ∷ l) (nothing-closed more handle none)

pub unopened-step : (past : List Request) (old : MountSeen) (handle : ℕ) (now : List (Option OpenSeen)) → HasLedTo past old → None ≡ file_at handle old.files
    → now ≡ without_file handle old.files
    → IsStep past old (record old { files = now }) (release (terms_of old) (service_of past old) handle (file_at handle old.files)) (Some (replies.Error EBADF))
unopened-step past old handle now mounted none is =
    subst (λ (o : Option OpenSeen). IsStep past old (record old { files = now }) (release (terms_of old) (service_of past old) handle o) (Some (replies.Error EBADF))) none
    (plain-step past old (replies.Error EBADF) old.files now mounted (is ∙ nothing-closed old.files handle (sym none)))
