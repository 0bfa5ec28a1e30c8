use Rattle.std.proofs.Common.{rules, ◌≡◌, ◌⊎◌, inl, inr, List, ℕ, Bool, Option, Some, None, IfSome, Result, Ok, Err, IfOk, IsErrOf, refl, ap, sym, subst, ◌∙◌, [], ◌++◌, ◌≤◌, length, OnOk, arith}
use Rattle.std.proofs.lemmas.List.{append-nil}
use Rattle.std.proofs.lemmas.Result.{err_from_is_err_and}
use Rattle.ticket_lock.specs.Calls.{view_of}
use Rattle.trace_command.specs.declared.command.Config.{Config}
use Rattle.script_reader.specs.Sources.{Gives, GivesAtMost, GivesMore, GivesScript}
use Rattle.script_reader.specs.declared.stop.Stop.{Stop}
use Rattle.script_reader.specs.declared.stop.Stop.TheVariants.{Memory, Device, Stopped}
use Rattle.trace_session.specs.Heard.{Heard}
use Rattle.trace_session.specs.Fronts.{AppendsSession, AppendsBegun, AppendsBegunFront, AppendsStopped}
use Rattle.trace_session.specs.Passes.{IsSessionPass}
use Rattle.trace_session.specs.declared.status.Status.{Status}
use Rattle.trace_session.proofs.DeviceLemmas.{Appends_nothing}
use Rattle.trace_workers.specs.declared.gate.Point.{Point}
use Rattle.trace_session.proofs.Standing.{nothing_begun, nothing_begun_front}
use Rattle.trace_session.proofs.session.attempt.Goals as goal

-- what holds of the script that was read holds of the bytes, where they are known
of_bytes : (bytes : Option (List ℕ)) (script : List ℕ) (P : List ℕ → Type 0) → IfSome bytes (λ known. script ≡ known) → P script → IfSome bytes P
of_bytes None script P read holds = tt
of_bytes (Some known) script P read holds = subst P read holds

-- the calls gave a script, of which this holds
script_given : (given gives : List ℕ) (bytes : Option (List ℕ)) (script : List ℕ) (P : List ℕ → Type 0) → gives ≡ given ++ script → IfSome bytes (λ known. script ≡ known) → P script
    → GivesScript given gives bytes P
script_given given gives bytes script P e read holds = (script, e, (read, holds))

on_ok : {T E : Type 0} (result : Result T E) {P : Type 0} → P → OnOk result P
on_ok (Ok value) holds = holds
on_ok (Err error) holds = tt

session_of : (may : ℕ → ℕ → Point → Bool → Type 0) (wants : Bool) (ran : Result Status Stop) (given gives : List ℕ) (bytes : Option (List ℕ)) (script : List ℕ) (config : Config) (seated : Config → Type 0) (old new : Option (List ℕ)) (heard hears : Option (List Heard))
    → gives ≡ given ++ script → IfSome bytes (λ known. script ≡ known) → seated config → IfOk ran (λ status. (g : Config) → seated g → AppendsSession g may wants script status old new heard hears)
    → IfOk ran (λ status. GivesScript given gives bytes (λ known. AppendsSession config may wants known status old new heard hears))
session_of may wants (Ok status) given gives bytes script config seated old new heard hears told read seat ok = script_given given gives bytes script (λ known. AppendsSession config may wants known status old new heard hears) told read (ok config seat)
session_of may wants (Err stop) given gives bytes script config seated old new heard hears told read seat ok = tt

-- why the call failed is why the session did
moved : {T : Type 0} (call : Result T Stop) (ran : Result Status Stop) (before after stop : Stop) → call ≡ Err before → ran ≡ Err after → after ≡ before → IsErrOf ran stop
    → IsErrOf call stop
moved call ran before after stop was came same is =
    let told : ran ≡ Err stop = is in
    let one : stop ≡ before = cc in
    was ∙ ap (λ (x : Stop). Err x) (sym one)

-- a failed read, or a script that is too long
either : {A B C D : Type 0} → (A × D) ⊎ C → A ⊎ (B ⊎ C)
either (inl failed) = inl failed.0
either (inr long) = inr (inr long)

-- nothing is written of what was read
nothing_of : (config : Config) (may : ℕ → ℕ → Point → Bool → Type 0) (wants : Bool) (given gives : List ℕ) (old : Option (List ℕ)) (first : Option (List Heard)) → GivesAtMost 16777216 given gives
    → Gives given gives (λ script. (length script ≤ 16777216) × AppendsBegun config may wants script old old first first)
nothing_of config may wants given gives old first (more, e, short) = (more, e, (short, nothing_begun config may wants (Some more) old first))

no_front_of : (config : Config) (may : ℕ → ℕ → Point → Bool → Type 0) (wants : Bool) (given gives : List ℕ) (bytes old : Option (List ℕ)) (first : Option (List Heard)) {A : Type 0} → (A × GivesAtMost 16777216 given gives) ⊎ GivesMore 16777216 given gives bytes
    → Gives given gives (λ script. AppendsBegunFront config may wants script old old first first)
no_front_of config may wants given gives bytes old first (inl (failed, (more, e, short))) = (more, e, nothing_begun_front config may wants (Some more) old first)
no_front_of config may wants given gives bytes old first (inr (more, e, long)) = (more, e, nothing_begun_front config may wants (Some more) old first)

-- ---- no book

pub returns-in_err-lock : goal.returns-in_err-lock
returns-in_err-lock g c =
    let contents = g.W.Sink.contents c.args.writer.now in
    let given = g.R.Source.given c.args.reader.now in
    let remaining = g.R.Source.remaining c.args.reader.now in
    let made = c.new_book.ensures in
    let p = err_from_is_err_and c.from_residual.result c.from_residual.ensures.1 in
    record {
      session = rw p.1 tt;
      whole = rw p.1 tt;
      end = rw p.1 tt;
      ended = rw p.1 tt;
      short = rw p.1 tt;
      reads = rw p.1 tt;
      writes = rw p.1 tt;
      memory = λ _. nothing_begun c.args.config (g.G.Gate.may_answer c.args.gate.now) g.W.Sink.wants_first remaining contents (g.W.Sink.heard c.args.writer.now);
      begun = λ _. nothing_of c.args.config (g.G.Gate.may_answer c.args.gate.now) g.W.Sink.wants_first given given contents (g.W.Sink.heard c.args.writer.now) ([], sym (append-nil given), omega arith);
      unread = λ _. refl;
      unfailed = λ _. refl;
      consumed = λ _. search rules;
      stopped = λ is. absurd (made.stopped (moved c.new_book.result c.from_residual.result _ p.0 Stopped c.in_err-lock.was p.1 p.2 is));
      «open» = λ _ is. made.stopped (moved c.new_book.result c.from_residual.result _ p.0 Stopped c.in_err-lock.was p.1 p.2 is);
      stopped_end = λ is. absurd (made.stopped (moved c.new_book.result c.from_residual.result _ p.0 Stopped c.in_err-lock.was p.1 p.2 is));
      stopped_ended = λ is. absurd (made.stopped (moved c.new_book.result c.from_residual.result _ p.0 Stopped c.in_err-lock.was p.1 p.2 is));
      stopped_short = λ is. absurd (made.stopped (moved c.new_book.result c.from_residual.result _ p.0 Stopped c.in_err-lock.was p.1 p.2 is));
      stopped_reads = λ _. refl;
      stopped_writes = λ _. refl;
      device = λ _. nothing_begun_front c.args.config (g.G.Gate.may_answer c.args.gate.now) g.W.Sink.wants_first remaining contents (g.W.Sink.heard c.args.writer.now);
      front = λ is. absurd (made.device (moved c.new_book.result c.from_residual.result _ p.0 Device c.in_err-lock.was p.1 p.2 is));
      unwritten = λ _. inr (Appends_nothing contents);
      only = λ is. absurd (made.device (moved c.new_book.result c.from_residual.result _ p.0 Device c.in_err-lock.was p.1 p.2 is));
    }

-- ---- no script

pub returns-in_err-script : goal.returns-in_err-script
returns-in_err-script g c =
    let contents = g.W.Sink.contents c.args.writer.now in
    let given = g.R.Source.given c.args.reader.now in
    let gives = g.R.Source.given c.read_script.new.reader in
    let remaining = g.R.Source.remaining c.args.reader.now in
    let read = c.read_script.ensures in
    let p = err_from_is_err_and c.from_residual-in_err-script.result c.from_residual-in_err-script.ensures.1 in
    record {
      session = rw p.1 tt;
      whole = rw p.1 tt;
      end = rw p.1 tt;
      ended = rw p.1 tt;
      short = rw p.1 tt;
      reads = rw p.1 tt;
      writes = rw p.1 tt;
      memory = λ _. nothing_begun c.args.config (g.G.Gate.may_answer c.args.gate.now) g.W.Sink.wants_first remaining contents (g.W.Sink.heard c.args.writer.now);
      begun = λ is. nothing_of c.args.config (g.G.Gate.may_answer c.args.gate.now) g.W.Sink.wants_first given gives contents (g.W.Sink.heard c.args.writer.now) (read.memory (moved c.read_script.result c.from_residual-in_err-script.result _ p.0 Memory c.in_err-script.was p.1 p.2 is)).2;
      unread = λ is. (read.memory (moved c.read_script.result c.from_residual-in_err-script.result _ p.0 Memory c.in_err-script.was p.1 p.2 is)).0;
      unfailed = λ _. refl;
      consumed = λ is. (read.memory (moved c.read_script.result c.from_residual-in_err-script.result _ p.0 Memory c.in_err-script.was p.1 p.2 is)).1;
      stopped = λ is. absurd (read.stopped (moved c.read_script.result c.from_residual-in_err-script.result _ p.0 Stopped c.in_err-script.was p.1 p.2 is));
      «open» = λ _ is. read.stopped (moved c.read_script.result c.from_residual-in_err-script.result _ p.0 Stopped c.in_err-script.was p.1 p.2 is);
      stopped_end = λ is. absurd (read.stopped (moved c.read_script.result c.from_residual-in_err-script.result _ p.0 Stopped c.in_err-script.was p.1 p.2 is));
      stopped_ended = λ is. absurd (read.stopped (moved c.read_script.result c.from_residual-in_err-script.result _ p.0 Stopped c.in_err-script.was p.1 p.2 is));
      stopped_short = λ is. absurd (read.stopped (moved c.read_script.result c.from_residual-in_err-script.result _ p.0 Stopped c.in_err-script.was p.1 p.2 is));
      stopped_reads = λ is. absurd (read.stopped (moved c.read_script.result c.from_residual-in_err-script.result _ p.0 Stopped c.in_err-script.was p.1 p.2 is));
      stopped_writes = λ _. refl;
      device = λ _. nothing_begun_front c.args.config (g.G.Gate.may_answer c.args.gate.now) g.W.Sink.wants_first remaining contents (g.W.Sink.heard c.args.writer.now);
      front = λ is. no_front_of c.args.config (g.G.Gate.may_answer c.args.gate.now) g.W.Sink.wants_first given gives remaining contents (g.W.Sink.heard c.args.writer.now) (read.device (moved c.read_script.result c.from_residual-in_err-script.result _ p.0 Device c.in_err-script.was p.1 p.2 is));
      unwritten = λ _. inr (Appends_nothing contents);
      only = λ is. either (read.device (moved c.read_script.result c.from_residual-in_err-script.result _ p.0 Device c.in_err-script.was p.1 p.2 is));
    }

-- ---- the script ran

pub returns-clause-session : goal.returns-clause-session
returns-clause-session g c =
    let contents = g.W.Sink.contents in
    session_of (g.G.Gate.may_answer c.args.gate.now) g.W.Sink.wants_first c.do_script.result (g.R.Source.given c.args.reader.now) (g.R.Source.given c.read_script.new.reader) (g.R.Source.remaining c.args.reader.now) c.in_ok-script.script.items c.args.config (λ (config : Config). IsSessionPass config (view_of c.in_ok-lock.root))
    (contents c.args.writer.now) (contents c.do_script.new.writer) (g.W.Sink.heard c.args.writer.now) (g.W.Sink.heard c.do_script.new.writer) c.in_ok-script.ensures.given c.in_ok-script.ensures.script c.in_ok-lock.ensures.session (rw c.deref.ensures.value at c.do_script.ensures.ok)

pub returns-clause-memory : goal.returns-clause-memory
returns-clause-memory g c h =
    let contents = g.W.Sink.contents in
    of_bytes (g.R.Source.remaining c.args.reader.now) c.in_ok-script.script.items
    (λ (known : List ℕ). AppendsBegun c.args.config (g.G.Gate.may_answer c.args.gate.now) g.W.Sink.wants_first known (contents c.args.writer.now) (contents c.do_script.new.writer)
    (g.W.Sink.heard c.args.writer.now) (g.W.Sink.heard c.do_script.new.writer)) c.in_ok-script.ensures.script
    (rw c.deref.ensures.value at c.do_script.ensures.memory h c.args.config c.in_ok-lock.ensures.session)

pub returns-clause-stopped : goal.returns-clause-stopped
returns-clause-stopped g c h =
    let contents = g.W.Sink.contents in
    script_given (g.R.Source.given c.args.reader.now) (g.R.Source.given c.read_script.new.reader) (g.R.Source.remaining c.args.reader.now) c.in_ok-script.script.items
    (λ (known : List ℕ). AppendsStopped c.args.config (g.G.Gate.may_answer c.args.gate.now) g.W.Sink.wants_first known (contents c.args.writer.now) (contents c.do_script.new.writer)
    (g.W.Sink.heard c.args.writer.now) (g.W.Sink.heard c.do_script.new.writer)) c.in_ok-script.ensures.given c.in_ok-script.ensures.script
    (rw c.deref.ensures.value at c.do_script.ensures.stopped h c.args.config c.in_ok-lock.ensures.session)

pub returns-clause-device : goal.returns-clause-device
returns-clause-device g c h =
    let contents = g.W.Sink.contents in
    of_bytes (g.R.Source.remaining c.args.reader.now) c.in_ok-script.script.items
    (λ (known : List ℕ). AppendsBegunFront c.args.config (g.G.Gate.may_answer c.args.gate.now) g.W.Sink.wants_first known (contents c.args.writer.now) (contents c.do_script.new.writer)
    (g.W.Sink.heard c.args.writer.now) (g.W.Sink.heard c.do_script.new.writer)) c.in_ok-script.ensures.script
    (rw c.deref.ensures.value at c.do_script.ensures.device h c.args.config c.in_ok-lock.ensures.session)

pub returns-clause-only : goal.returns-clause-only
returns-clause-only g c h = inr (inl (c.do_script.ensures.risen h))

pub returns-clause-whole : goal.returns-clause-whole
returns-clause-whole g c = c.do_script.ensures.whole

pub returns-clause-writes : goal.returns-clause-writes
returns-clause-writes g c = c.do_script.ensures.failures

pub returns-clause-unread : goal.returns-clause-unread
returns-clause-unread g c h = c.in_ok-script.ensures.failures

pub returns-clause-unfailed : goal.returns-clause-unfailed
returns-clause-unfailed g c = c.do_script.ensures.unfailed

pub returns-clause-open : goal.returns-clause-open
returns-clause-open g c = c.do_script.ensures.«open»

pub returns-clause-stopped_end : goal.returns-clause-stopped_end
returns-clause-stopped_end g c h = c.in_ok-script.ensures.end

pub returns-clause-stopped_reads : goal.returns-clause-stopped_reads
returns-clause-stopped_reads g c h = c.in_ok-script.ensures.failures

pub returns-clause-stopped_writes : goal.returns-clause-stopped_writes
returns-clause-stopped_writes g c = c.do_script.ensures.unwritten

pub returns-clause-begun : goal.returns-clause-begun
returns-clause-begun g c h =
    let ran = rw c.deref.ensures.value at c.do_script.ensures.memory h c.args.config c.in_ok-lock.ensures.session in
    (c.in_ok-script.script.items, c.in_ok-script.ensures.given, (c.in_ok-script.ensures.length, ran))

pub returns-clause-front : goal.returns-clause-front
returns-clause-front g c h =
    let ran = rw c.deref.ensures.value at c.do_script.ensures.device h c.args.config c.in_ok-lock.ensures.session in
    (c.in_ok-script.script.items, c.in_ok-script.ensures.given, ran)

pub returns-clause-short : goal.returns-clause-short
returns-clause-short g c = on_ok c.do_script.result (c.in_ok-script.script.items, c.in_ok-script.ensures.given, (c.in_ok-script.ensures.script, c.in_ok-script.ensures.length))

pub returns-clause-stopped_short : goal.returns-clause-stopped_short
returns-clause-stopped_short g c h = (c.in_ok-script.script.items, c.in_ok-script.ensures.given, (c.in_ok-script.ensures.script, c.in_ok-script.ensures.length))

pub returns-clause-unwritten : goal.returns-clause-unwritten
returns-clause-unwritten g c h =
    inl (
      c.do_script.ensures.risen h,
      c.in_ok-script.ensures.failures,
      (c.in_ok-script.script.items, c.in_ok-script.ensures.given, (c.in_ok-script.ensures.script, c.in_ok-script.ensures.length)),
    )

pub returns-clause-ended : goal.returns-clause-ended
returns-clause-ended g c = on_ok c.do_script.result c.in_ok-script.ensures.ended

pub returns-clause-stopped_ended : goal.returns-clause-stopped_ended
returns-clause-stopped_ended g c h = c.in_ok-script.ensures.ended
