use Rattle.std.proofs.Common.{rules, ◌≢◌, List, ℕ, Bool, Option, Some, Result, Ok, Err, IfOk, IsErrOf, refl, ap, sym, ◌∙◌, ◌≡◌}
use Rattle.std.proofs.lemmas.Result.{err_from_is_err_and}
use Rattle.ticket_lock.specs.Calls.{view_of}
use Rattle.trace_command.specs.declared.command.Config.{Config}
use Rattle.script_reader.specs.declared.stop.Stop.{Stop}
use Rattle.script_reader.specs.declared.stop.Stop.TheVariants.{Memory, Device, Stopped}
use Rattle.trace_session.specs.Devices.{AppendsFront}
use Rattle.std.specs.Io.KnownBytes.{Appends}
use Rattle.trace_session.specs.Heard.{Heard}
use Rattle.trace_session.specs.Fronts.{AppendsSession, AppendsBegunFront}
use Rattle.trace_session.specs.private.StepFronts.{PassesSession, PassesBegun, PassesStopped}
use Rattle.trace_session.specs.Passes.{IsSessionPass}
use Rattle.trace_session.specs.declared.status.Status.{Status}
use Rattle.trace_workers.specs.declared.gate.Point.{Point}
use Rattle.trace_session.proofs.Standing.{session_flushed, begun_flushed, stopped_flushed, begun_cut, stopped_cut, session_cut, nothing_begun}
use Rattle.trace_session.proofs.session.do_script.Goals as goal

-- why a call failed is why the session did
moved : {T : Type 0} (call : Result T Stop) (ran : Result Status Stop) (before after stop : Stop) → call ≡ Err before → ran ≡ Err after → after ≡ before → IsErrOf ran stop
    → IsErrOf call stop
moved call ran before after stop was came same is =
    let told : ran ≡ Err stop = is in
    let one : stop ≡ before = cc in
    was ∙ ap (λ (x : Stop). Err x) (sym one)

module _ (may : ℕ → ℕ → Point → Bool → Type 0) (wants : Bool) (seated : Config → Type 0) (script : List ℕ) (before now new : Option (List ℕ)) (waiting : List ℕ)
    (first hears hears_new : Option (List Heard)) (unheard : hears_new ≡ hears) where
  cut : (ran : Result Status Stop) → ran ≢ Err Device
      → IfOk ran (λ status. (config : Config) → seated config → PassesSession config may wants script status before now waiting first hears)
      → (IsErrOf ran Memory → (config : Config) → seated config → PassesBegun config may wants script before now waiting first hears)
      → (IsErrOf ran Stopped → (config : Config) → seated config → PassesStopped config may wants script before now waiting first hears)
      → AppendsFront now new waiting → (config : Config) → seated config → AppendsBegunFront config may wants script before new first hears_new
  cut (Ok status) not ok memory stopped more config seat =
      session_cut config may wants script before now new waiting first hears hears_new unheard status (ok config seat) more
  cut (Err Memory) not ok memory stopped more config seat = begun_cut config may wants script before now new waiting first hears hears_new unheard (memory refl config seat) more
  cut (Err Stopped) not ok memory stopped more config seat = stopped_cut config may wants script before now new waiting first hears hears_new unheard (stopped refl config seat) more
  cut (Err Device) not ok memory stopped more config seat = absurd (not refl)

  all : (ran : Result Status Stop) → IfOk ran (λ status. (config : Config) → seated config → PassesSession config may wants script status before now waiting first hears)
      → Appends now new waiting → IfOk ran (λ status. (config : Config) → seated config → AppendsSession config may wants script status before new first hears_new)
  all (Ok status) ok more = λ config seat. session_flushed config may wants script before now new waiting first hears hears_new unheard status (ok config seat) more
  all (Err stop) ok more = tt

pub returns-in_err-flush-in_default-clause-device : goal.returns-in_err-flush-in_default-clause-device
returns-in_err-flush-in_default-clause-device g c h =
    let contents = g.W.Sink.contents in
    let heard = g.W.Sink.heard in
    let ran = c.do_items.ensures in
    cut (g.G.Gate.may_answer c.args.env.now.gate.now) g.W.Sink.wants_first (λ (config : Config). IsSessionPass config (view_of c.args.pass)) c.args.script.now
    (contents c.args.writer.now) (contents c.do_items.new.writer) (contents c.flush.new.writer) c.do_items.new.replies
    (heard c.args.writer.now) (heard c.do_items.new.writer) (heard c.flush.new.writer) c.flush.ensures.heard c.do_items.result (search rules)
    ran.ok ran.memory ran.stopped c.in_err-flush-in_default.ensures.failed.1

pub returns-in_err-replies-clause-memory : goal.returns-in_err-replies-clause-memory
returns-in_err-replies-clause-memory g c h config seat =
    nothing_begun config (g.G.Gate.may_answer c.args.env.now.gate.now) g.W.Sink.wants_first (Some c.args.script.now) (g.W.Sink.contents c.args.writer.now) (g.W.Sink.heard c.args.writer.now)

pub returns-clause-ok : goal.returns-clause-ok
returns-clause-ok g c =
    let contents = g.W.Sink.contents in
    let heard = g.W.Sink.heard in
    let flushed =
    all (g.G.Gate.may_answer c.args.env.now.gate.now) g.W.Sink.wants_first (λ (config : Config). IsSessionPass config (view_of c.args.pass)) c.args.script.now
    (contents c.args.writer.now) (contents c.do_items.new.writer) (contents c.flush.new.writer) c.do_items.new.replies
    (heard c.args.writer.now) (heard c.do_items.new.writer) (heard c.flush.new.writer) c.flush.ensures.heard c.do_items.result
    c.do_items.ensures.ok c.in_ok-flush-in_default.ensures.bytes in
    search rules

pub returns-clause-memory : goal.returns-clause-memory
returns-clause-memory g c h config seat =
    let contents = g.W.Sink.contents in
    let heard = g.W.Sink.heard in
    begun_flushed config (g.G.Gate.may_answer c.args.env.now.gate.now) g.W.Sink.wants_first c.args.script.now
    (contents c.args.writer.now) (contents c.do_items.new.writer) (contents c.flush.new.writer) c.do_items.new.replies
    (heard c.args.writer.now) (heard c.do_items.new.writer) (heard c.flush.new.writer) c.flush.ensures.heard
    (c.do_items.ensures.memory (search rules) config seat) c.in_ok-flush-in_default.ensures.bytes

pub returns-clause-stopped : goal.returns-clause-stopped
returns-clause-stopped g c h config seat =
    let contents = g.W.Sink.contents in
    let heard = g.W.Sink.heard in
    stopped_flushed config (g.G.Gate.may_answer c.args.env.now.gate.now) g.W.Sink.wants_first c.args.script.now
    (contents c.args.writer.now) (contents c.do_items.new.writer) (contents c.flush.new.writer) c.do_items.new.replies
    (heard c.args.writer.now) (heard c.do_items.new.writer) (heard c.flush.new.writer) c.flush.ensures.heard
    (c.do_items.ensures.stopped (search rules) config seat) c.in_ok-flush-in_default.ensures.bytes

pub returns-in_err-flush-in_default-clause-ok : goal.returns-in_err-flush-in_default-clause-ok
returns-in_err-flush-in_default-clause-ok g c =
    let p = err_from_is_err_and c.from_residual-in_err-flush-in_default.result c.from_residual-in_err-flush-in_default.ensures.1 in
    rw p.1 tt

pub returns-in_err-flush-in_default-clause-whole : goal.returns-in_err-flush-in_default-clause-whole
returns-in_err-flush-in_default-clause-whole g c =
    let p = err_from_is_err_and c.from_residual-in_err-flush-in_default.result c.from_residual-in_err-flush-in_default.ensures.1 in
    rw p.1 tt

pub returns-in_err-flush-in_default-clause-failures : goal.returns-in_err-flush-in_default-clause-failures
returns-in_err-flush-in_default-clause-failures g c =
    let p = err_from_is_err_and c.from_residual-in_err-flush-in_default.result c.from_residual-in_err-flush-in_default.ensures.1 in
    rw p.1 tt

pub returns-in_err-flush-in_default-clause-memory : goal.returns-in_err-flush-in_default-clause-memory
returns-in_err-flush-in_default-clause-memory g c is =
    let p = err_from_is_err_and c.from_residual-in_err-flush-in_default.result c.from_residual-in_err-flush-in_default.ensures.1 in
    absurd (c.flush.ensures.err (moved c.flush.result c.from_residual-in_err-flush-in_default.result _ p.0 Memory c.in_err-flush-in_default.was p.1 p.2 is))

pub returns-in_err-flush-in_default-clause-unfailed : goal.returns-in_err-flush-in_default-clause-unfailed
returns-in_err-flush-in_default-clause-unfailed g c is =
    let p = err_from_is_err_and c.from_residual-in_err-flush-in_default.result c.from_residual-in_err-flush-in_default.ensures.1 in
    absurd (c.flush.ensures.err (moved c.flush.result c.from_residual-in_err-flush-in_default.result _ p.0 Memory c.in_err-flush-in_default.was p.1 p.2 is))

pub returns-in_err-flush-in_default-clause-stopped : goal.returns-in_err-flush-in_default-clause-stopped
returns-in_err-flush-in_default-clause-stopped g c is =
    let p = err_from_is_err_and c.from_residual-in_err-flush-in_default.result c.from_residual-in_err-flush-in_default.ensures.1 in
    absurd (c.flush.ensures.stopped (moved c.flush.result c.from_residual-in_err-flush-in_default.result _ p.0 Stopped c.in_err-flush-in_default.was p.1 p.2 is))

pub returns-in_err-flush-in_default-clause-unwritten : goal.returns-in_err-flush-in_default-clause-unwritten
returns-in_err-flush-in_default-clause-unwritten g c is =
    let p = err_from_is_err_and c.from_residual-in_err-flush-in_default.result c.from_residual-in_err-flush-in_default.ensures.1 in
    absurd (c.flush.ensures.stopped (moved c.flush.result c.from_residual-in_err-flush-in_default.result _ p.0 Stopped c.in_err-flush-in_default.was p.1 p.2 is))
