use Rattle.std.proofs.Common.{◌≡◌, ℕ, Bool, false, List, ◌++◌, Option, None, Result, Ok, Err, IfOk, IsErrOf, IsSome, OnOk, [], refl, ap, sym, subst, ◌∙◌}
use Rattle.ticket_lock.specs.Calls.{view_of}
use Rattle.trace_command.specs.declared.command.Config.{Config}
use Rattle.script_reader.specs.Items.{Threads}
use Rattle.script_reader.specs.PartReads.{commands_in}
use Rattle.script_reader.specs.ScriptLines.{lines_of}
use Rattle.script_reader.specs.declared.part.Numbered.{Numbered}
use Rattle.script_reader.specs.declared.stop.Stop.{Stop}
use Rattle.script_reader.specs.declared.stop.Stop.TheVariants.{Device, Stopped}
use Rattle.parallel_output.specs.ThreadTexts.{told_if}
use Rattle.parallel_output.specs.declared.outcome_at.OutcomeAt.{OutcomeAt}
use Rattle.trace_session.specs.Devices.{AppendsFront, Passes}
use Rattle.trace_session.specs.private.StepFronts.{AppendsItem}
use Rattle.trace_session.specs.Heard.{Heard, Hears, IsWrittenFirst, heard_lines, numbers_in}
use Rattle.trace_session.specs.private.HeardItems.{heard_each}
use Rattle.trace_session.specs.Parts.{Given, PartMayGive}
use Rattle.trace_session.specs.PartTexts.{AreOutcomesOf}
use Rattle.trace_session.specs.Passes.{IsSessionPass, progress_of}
use Rattle.trace_session.specs.Sessions.{Progress, status_of}
use Rattle.trace_session.specs.declared.status.Status.{Status}
use Rattle.trace_session.proofs.DeviceLemmas.{Passes_nothing}
use Rattle.trace_session.proofs.Hearing.{hears_told}
use Rattle.trace_session.proofs.HearingAll.{each_of_threads}
use Rattle.trace_session.proofs.step.do_part.Goals as goal

-- what a part gave, and what is told of it
module _ (wants : Bool) (seated : Config → Type 0) (threads : List (List Numbered)) (before after : Progress) (text : List ℕ) (status : Status) (is_told : Bool) (outcomes : List OutcomeAt)
    (gave : (g : Config) → seated g → (given : Given) × PartMayGive g threads before after given × (given.text ≡ text) × (status ≡ status_of given.outcomes)
    × (told : List OutcomeAt) × AreOutcomesOf threads given.outcomes told × (outcomes ≡ told_if is_told told))
  where
    part_done : (result : Result Status Stop) (old new : Option (List ℕ)) (waited waits : List ℕ) (heard hears : Option (List Heard)) (number : ℕ) (lines : List ℕ)
        → IfOk result (λ now. now ≡ status) → OnOk result (Passes old waited new waits text) → (is_told ≡ false → heard ≡ None)
        → OnOk result (Hears heard hears (heard_each number (lines_of lines) new outcomes))
        → OnOk result (IsSome heard → IsWrittenFirst wants status → waits ≡ [])
        → IfOk result (λ now. (g : Config) → seated g
        → (given : Given) × PartMayGive g threads before after given × (now ≡ status_of given.outcomes) × Passes old waited new waits given.text
        × Hears heard hears (heard_lines number (lines_of lines) new (numbers_in threads) given.outcomes) × (IsSome heard → IsWrittenFirst wants now → waits ≡ []))
    part_done (Ok now) old new waited waits heard hears number lines is written deaf told flushed = λ g seat.
        let x = gave g seat in (
          x.0,
          x.1,
          is ∙ x.3,
          subst (λ (t : List ℕ). Passes old waited new waits t) (sym x.2) written,
          subst (λ (more : List Heard). Hears heard hears more) (each_of_threads number (lines_of lines) new threads x.0.outcomes x.4 x.5)
              (hears_told is_told heard hears number (lines_of lines) new x.4 outcomes deaf x.6 told),
          λ tells first. flushed tells (subst (IsWrittenFirst wants) is first),
        )
    part_done (Err stop) old new waited waits heard hears number lines is written deaf told flushed = tt

    part_cut : (old new : Option (List ℕ)) (waited : List ℕ) → AppendsFront old new (waited ++ text)
        → (g : Config) → seated g → AppendsItem g (Threads threads) before after old waited new
    part_cut old new waited cut g seat =
        let x = gave g seat in
        (x.0, x.1, subst (λ (t : List ℕ). AppendsFront old new (waited ++ t)) (sym x.2) cut)

stop_is : (ran : Result Status Stop) (stop other : Stop) → ran ≡ Err stop → IsErrOf ran other → stop ≡ other
stop_is ran stop other is also = let e : ran ≡ Err other = also in cc

on_ok : {P : Type 0} (result : Result Status Stop) → P → OnOk result P
on_ok {P} (Ok status) p = p
on_ok {P} (Err stop) p = tt

pub returns-in-Ok : goal.returns-in-Ok
returns-in-Ok g c =
    let contents = g.W.Sink.contents in
    let heard = g.W.Sink.heard in
    let seated : Config → Type 0 = λ (config : Config). IsSessionPass config (view_of c.args.pass) in
    let threads : List (List Numbered) = commands_in c.args.threads.items in
    let before : Progress = progress_of (view_of c.args.pass) in
    let after : Progress = progress_of (view_of c.run_part-pass.result.0) in
    let ran = c.run_part-pass.ensures in
    let gave = rw c.in-Ok.is at ran.given in
    let written = c.in-Ok.written in
    let told = c.give_part.ensures in
    record {
      of = ran.of;
      ran = (
        ran.session,
        record {
          done = part_done g.W.Sink.wants_first seated threads before after written.text.items written.status c.hears.result written.outcomes.items gave c.give_part.result
              (contents c.args.writer.now) (contents c.give_part.new.writer) c.args.replies.now c.give_part.new.replies
              (heard c.args.writer.now) (heard c.give_part.new.writer) c.args.part.number c.args.part.text.now
              told.status told.written c.hears.ensures told.heard told.all;
          failures = told.failures;
          memory = λ is. absurd (told.memory is);
          unfailed = λ is. absurd (told.memory is);
          stopped = λ is. absurd (told.stopped is);
          passed = on_ok c.give_part.result (rw c.in-Ok.is at ran.gate);
          passed_device = λ _. rw c.in-Ok.is at ran.gate;
          part = λ is. absurd (told.stopped is);
          unwritten = λ is. absurd (told.stopped is);
          «open» = λ _ is. told.stopped is;
          risen = λ is. (told.device is).0;
          device = λ is. part_cut g.W.Sink.wants_first seated threads before after written.text.items written.status c.hears.result written.outcomes.items gave
              (contents c.args.writer.now) (contents c.give_part.new.writer) c.args.replies.now (told.device is).1;
          unheard = told.unheard;
        },
      );
    }

pub returns-in-Err : goal.returns-in-Err
returns-in-Err g c =
    let ran = c.run_part-pass.ensures in
    let nothing = Passes_nothing (g.W.Sink.contents c.args.writer.now) c.args.replies.now in
    record {
      of = ran.of;
      ran = (
        ran.session,
        record {
          done = tt;
          failures = tt;
          memory = λ _. nothing;
          unfailed = λ _. refl;
          stopped = λ _. nothing;
          passed = tt;
          passed_device = λ is. absurd (ran.device (c.in-Err.is ∙ ap (λ (stop : Stop). Err stop) (stop_is (Err c.in-Err.stop) c.in-Err.stop Device refl is)));
          part = λ is. ran.stopped (c.in-Err.is ∙ ap (λ (stop : Stop). Err stop) (stop_is (Err c.in-Err.stop) c.in-Err.stop Stopped refl is));
          unwritten = λ _. refl;
          «open» = λ gate is. ran.«open» gate (c.in-Err.is ∙ ap (λ (stop : Stop). Err stop) (stop_is (Err c.in-Err.stop) c.in-Err.stop Stopped refl is));
          risen = λ is. absurd (ran.device (c.in-Err.is ∙ ap (λ (stop : Stop). Err stop) (stop_is (Err c.in-Err.stop) c.in-Err.stop Device refl is)));
          device = λ is. absurd (ran.device (c.in-Err.is ∙ ap (λ (stop : Stop). Err stop) (stop_is (Err c.in-Err.stop) c.in-Err.stop Device refl is)));
          unheard = refl;
        },
      );
    }
