use Rattle.std.proofs.Common.{◌≡◌, ℕ, ◌++◌, ◌||◌, true, false, not, List, [], length, refl, sym, ap, subst, ◌∙◌}
use Rattle.std.specs.List.{slice_get}
use Rattle.fuse_wire.specs.declared.errno.Errno.TheVariants.{ENOMEM}
use Rattle.fuse_wire.specs.declared.reply.Reply.TheVariants as replies
use Rattle.tracer_specification.specs.Settings.{declared_events}
use Rattle.mount_replies.specs.Lines.{has_newline}
use Rattle.mount_replies.specs.Mounted.{HasLedTo, MountSeen}
use Rattle.mount_replies.specs.Services.{OpenSeen}
use Rattle.mount_replies.specs.declared.stream.Stream.{Stream}
use Rattle.mount_replies.specs.contracts.mount.Mount.{the_view}
use Rattle.mount_replies.proofs.StreamSteps.{by-event, goes-newline, goes-not-on, goes-stream, injects-at-once, injects-stream, same-file, seen-some, stream-unread}
use Rattle.mount_replies.proofs.mount.Mount.inject.Goals as goal
use Rattle.mount_replies.proofs.mount.Mount.inject.Goals.{else-not-stream-via-then-not-stream+else-is_none-2, else-not-stream-via-else-not-stream}

pub returns-then-is_none-2-clause-step : goal.returns-then-is_none-2-clause-step
returns-then-is_none-2-clause-step c =
    let events = rw c.from.ensures at c.event.ensures in
    λ past own mounted found target file.
    let led = subst (λ (m : MountSeen). HasLedTo past m) (sym c.self.view_is) mounted in
    let same = same-file c.args.target.handle c.args.self.now (the_view c.self.inside) c.in-Some.open_file.now own c.self.view_is c.in-Some.ensures found in
    let stream_is : c.stream-stream.result.now ≡ own.stream = c.stream-stream.ensures ∙ ap (λ (f : OpenSeen). f.stream) same in
    by-event past c.args.self.now c.inject_at_once.new.self own (slice_get (declared_events past) c.args.event) c.args.target.handle c.args.lock_owner c.args.pid c.args.bytes.now
    c.inject_at_once.result (seen-some c.event.result _ (events past led.lives) (c.is_none.ensures ∙ ap not c.if-is_none.false))
    (λ is there. injects-at-once past c.args.self.now c.inject_at_once.new.self own is c.args.target.handle c.args.lock_owner c.args.pid c.args.bytes.now c.inject_at_once.result
    (subst (λ (s : Stream). (s.is_stream || has_newline c.args.bytes.now) ≡ false) stream_is
    (goes-not-on c.stream-stream.result.now.is_stream c.args.bytes.now c.newline_at.result c.if-not-stream.true c.newline_at.ensures
    (c.is_none-then-not-stream.ensures ∙ ap not c.if-is_none-2.true)))
    (c.inject_at_once.ensures.step past own is mounted target there))

pub returns-in-Ok-Some-clause-step : goal.returns-in-Ok-Some-clause-step
returns-in-Ok-Some-clause-step c =
    let events = rw c.from.ensures at c.event.ensures in
    let joins = rw c.in-Ok-Some.field-0-is at c.in-Ok-Some.ensures in
    let goes : (c.stream-stream.result.now.is_stream || has_newline c.args.bytes.now) ≡ true =
    elim c.else-not-stream.branch [
      | else-not-stream-via-then-not-stream+else-is_none-2 w ↦
          goes-newline c.stream-stream.result.now.is_stream c.args.bytes.now w.newline_at.result w.newline_at.ensures (w.is_none-then-not-stream.ensures ∙ ap not w.if-is_none-2.false)
      | else-not-stream-via-else-not-stream w ↦ goes-stream c.stream-stream.result.now.is_stream c.args.bytes.now w.if-not-stream.false
    ] in
    λ past own mounted found target file.
    let led = subst (λ (m : MountSeen). HasLedTo past m) (sym c.self.view_is) mounted in
    let same = same-file c.args.target.handle c.args.self.now (the_view c.self.inside) c.in-Some.open_file.now own c.self.view_is c.in-Some.ensures found in
    let stream_is : c.stream-stream.result.now ≡ own.stream = c.stream-stream.ensures ∙ ap (λ (f : OpenSeen). f.stream) same in
    by-event past c.args.self.now c.inject_stream.new.self own (slice_get (declared_events past) c.args.event) c.args.target.handle c.args.lock_owner c.args.pid c.args.bytes.now
    c.inject_stream.result (seen-some c.event.result _ (events past led.lives) (c.is_none.ensures ∙ ap not c.if-is_none.false))
    (λ is there. injects-stream past c.args.self.now c.inject_stream.new.self own is c.args.target.handle c.args.lock_owner c.args.pid c.args.bytes.now c.inject_stream.result
    (subst (λ (s : Stream). (s.is_stream || has_newline c.args.bytes.now) ≡ true) stream_is goes)
    (c.inject_stream.ensures.step past own is c.args.bytes.now mounted found target there
    (c.deref.ensures.value ∙ joins ∙ ap (λ (r : List ℕ). r ++ c.args.bytes.now) (c.as_bytes.ensures ∙ ap (λ (s : Stream). s.rest) stream_is))
    (ap (λ (r : List ℕ). length r) (c.as_bytes-kept.ensures ∙ ap (λ (s : Stream). s.rest) stream_is)) refl))

pub returns-in-Ok-None-clause-step : goal.returns-in-Ok-None-clause-step
returns-in-Ok-None-clause-step c =
    let events = rw c.from.ensures at c.event.ensures in
    let joins = rw c.in-Ok-None.field-0-is at c.in-Ok-None.ensures in
    let goes : (c.stream-stream.result.now.is_stream || has_newline c.args.bytes.now) ≡ true =
    elim c.else-not-stream.branch [
      | else-not-stream-via-then-not-stream+else-is_none-2 w ↦
          goes-newline c.stream-stream.result.now.is_stream c.args.bytes.now w.newline_at.result w.newline_at.ensures (w.is_none-then-not-stream.ensures ∙ ap not w.if-is_none-2.false)
      | else-not-stream-via-else-not-stream w ↦ goes-stream c.stream-stream.result.now.is_stream c.args.bytes.now w.if-not-stream.false
    ] in
    λ past own mounted found target file.
    let led = subst (λ (m : MountSeen). HasLedTo past m) (sym c.self.view_is) mounted in
    let same = same-file c.args.target.handle c.args.self.now (the_view c.self.inside) c.in-Some.open_file.now own c.self.view_is c.in-Some.ensures found in
    let stream_is : c.stream-stream.result.now ≡ own.stream = c.stream-stream.ensures ∙ ap (λ (f : OpenSeen). f.stream) same in
    let none : [] ≡ own.stream.rest = sym joins ∙ c.as_bytes.ensures ∙ ap (λ (s : Stream). s.rest) stream_is in
    by-event past c.args.self.now c.inject_stream-in-Ok-None.new.self own (slice_get (declared_events past) c.args.event) c.args.target.handle c.args.lock_owner c.args.pid
    c.args.bytes.now c.inject_stream-in-Ok-None.result (seen-some c.event.result _ (events past led.lives) (c.is_none.ensures ∙ ap not c.if-is_none.false))
    (λ is there. injects-stream past c.args.self.now c.inject_stream-in-Ok-None.new.self own is c.args.target.handle c.args.lock_owner c.args.pid c.args.bytes.now
    c.inject_stream-in-Ok-None.result (subst (λ (s : Stream). (s.is_stream || has_newline c.args.bytes.now) ≡ true) stream_is goes)
    (c.inject_stream-in-Ok-None.ensures.step past own is c.args.bytes.now mounted found target there
    (ap (λ (r : List ℕ). r ++ c.args.bytes.now) none) (ap (λ (r : List ℕ). length r) none) refl))

pub returns-in-Err-clause-step : goal.returns-in-Err-clause-step
returns-in-Err-clause-step c =
    let events = rw c.from.ensures at c.event.ensures in
    let goes : (c.stream-stream.result.now.is_stream || has_newline c.args.bytes.now) ≡ true =
    elim c.else-not-stream.branch [
      | else-not-stream-via-then-not-stream+else-is_none-2 w ↦
          goes-newline c.stream-stream.result.now.is_stream c.args.bytes.now w.newline_at.result w.newline_at.ensures (w.is_none-then-not-stream.ensures ∙ ap not w.if-is_none-2.false)
      | else-not-stream-via-else-not-stream w ↦ goes-stream c.stream-stream.result.now.is_stream c.args.bytes.now w.if-not-stream.false
    ] in
    λ past own mounted found target file.
    let led = subst (λ (m : MountSeen). HasLedTo past m) (sym c.self.view_is) mounted in
    let same = same-file c.args.target.handle c.args.self.now (the_view c.self.inside) c.in-Some.open_file.now own c.self.view_is c.in-Some.ensures found in
    let stream_is : c.stream-stream.result.now ≡ own.stream = c.stream-stream.ensures ∙ ap (λ (f : OpenSeen). f.stream) same in
    by-event past c.args.self.now c.args.self.now own (slice_get (declared_events past) c.args.event) c.args.target.handle c.args.lock_owner c.args.pid
    c.args.bytes.now (replies.Error ENOMEM) (seen-some c.event.result _ (events past led.lives) (c.is_none.ensures ∙ ap not c.if-is_none.false))
    (λ is there. injects-stream past c.args.self.now c.args.self.now own is c.args.target.handle c.args.lock_owner c.args.pid c.args.bytes.now (replies.Error ENOMEM)
    (subst (λ (s : Stream). (s.is_stream || has_newline c.args.bytes.now) ≡ true) stream_is goes)
    (stream-unread past c.args.self.now own is c.args.target.handle c.args.lock_owner c.args.pid c.args.bytes.now mounted))
