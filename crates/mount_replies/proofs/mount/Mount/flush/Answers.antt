use Rattle.std.proofs.Common.{◌≡◌, ℕ, ◌==◌, ◌&&◌, List, true, not, is_some, length, None, Some, sym, refl, ap, ◌∙◌}
use Rattle.std.specs.List.{slice_get}
use Rattle.fuse_wire.specs.declared.errno.Errno.{Errno}
use Rattle.fuse_wire.specs.declared.reply.Reply.TheVariants as replies
use Rattle.tracer_specification.specs.Settings.{declared_events}
use Rattle.mount_tree.specs.Children.{is_there}
use Rattle.file_list.specs.declared.file.File.TheVariants as files
use Rattle.mount_tree.specs.declared.node.Node.TheVariants as nodes
use Rattle.mount_tree.specs.declared.node.Owner.{Owner}
use Rattle.mount_replies.specs.FileWrites.{has_rest}
use Rattle.mount_replies.specs.Lines.{flushed}
use Rattle.mount_replies.specs.Mounted.{MountSeen}
use Rattle.mount_replies.specs.Services.{drop_rest, file_at}
use Rattle.mount_replies.specs.Steps.{LineRefused}
use Rattle.mount_replies.specs.contracts.mount.Mount.{the_view}
use Rattle.mount_replies.specs.declared.stream.Stream.{Stream}
use Rattle.mount_replies.proofs.StreamSteps.{ended-step, ends-flush, led-files}
use Rattle.mount_replies.proofs.mount.Mount.flush.Goals as goal

pub returns-in-Ok-clause-step : goal.returns-in-Ok-clause-step
returns-in-Ok-clause-step c =
    let old = c.args.self.now in
    let own = c.in-Some.open_file.now in
    let stream_is : c.stream-stream.result.now ≡ own.stream = c.stream-stream.ensures in
    let found : file_at c.args.handle old.files ≡ Some own = sym (c.in-Some.ensures ∙ ap (λ (m : MountSeen). file_at c.args.handle m.files) c.self.view_is) in
    let owner_is : c.owner-owner.result ≡ own.owner = c.owner-owner.ensures in
    let file_is : own.file ≡ files.Inject c.in-Inject.event = sym c.file.ensures ∙ c.in-Inject.is in
    let rest : has_rest own ≡ true =
    ap (λ (r : List ℕ). not (length r == 0)) (sym (c.as_bytes.ensures ∙ ap (λ (s : Stream). s.rest) stream_is)) ∙ ap not (sym c.is_empty.ensures ∙ c.if-is_empty.false) in
    let lock : own.stream.lock_owner ≡ c.args.lock_owner = ap (λ (s : Stream). s.lock_owner) (sym stream_is) ∙ c.if-stream-lock_owner.false in
    let line_is = c.as_bytes-2.ensures ∙ c.take_rest-line.ensures.value own (sym c.in-Some.ensures) in
    let now_is = c.take_rest-line.ensures.after ∙ ap (λ (m : MountSeen). drop_rest c.args.handle m.files) c.self.view_is in
    λ past mounted.
    ends-flush past old c.end_line.new.self own c.in-Inject.event c.args.handle c.args.lock_owner replies.Done mounted found rest lock file_is
    (ap (λ (o : Owner). is_there old.scene (nodes.File o (files.Inject c.in-Inject.event)) && is_some (slice_get (declared_events past) c.in-Inject.event)) (sym owner_is)
    ∙ sym (c.can_inject.ensures past mounted) ∙ c.if-not-can_inject.false)
    (λ event there. ended-step past old (the_view c.self.inside) c.end_line.new.self c.take_rest-line.new.self own event c.stream-stream.result.now.pid c.as_bytes-2.result.now None
    (flushed c.args.handle old.files) replies.Done c.self.view_is (ap (λ (s : Stream). s.pid) stream_is) line_is
    (c.in-Ok.ensures past own event (led-files past old (the_view c.self.inside) c.take_rest-line.new.self mounted c.self.view_is) (sym owner_is) file_is there) now_is refl)

pub returns-clause-step : goal.returns-clause-step
returns-clause-step c =
    let old = c.args.self.now in
    let own = c.in-Some.open_file.now in
    let stream_is : c.stream-stream.result.now ≡ own.stream = c.stream-stream.ensures in
    let found : file_at c.args.handle old.files ≡ Some own = sym (c.in-Some.ensures ∙ ap (λ (m : MountSeen). file_at c.args.handle m.files) c.self.view_is) in
    let owner_is : c.owner-owner.result ≡ own.owner = c.owner-owner.ensures in
    let file_is : own.file ≡ files.Inject c.in-Inject.event = sym c.file.ensures ∙ c.in-Inject.is in
    let rest : has_rest own ≡ true =
    ap (λ (r : List ℕ). not (length r == 0)) (sym (c.as_bytes.ensures ∙ ap (λ (s : Stream). s.rest) stream_is)) ∙ ap not (sym c.is_empty.ensures ∙ c.if-is_empty.false) in
    let lock : own.stream.lock_owner ≡ c.args.lock_owner = ap (λ (s : Stream). s.lock_owner) (sym stream_is) ∙ c.if-stream-lock_owner.false in
    let line_is = c.as_bytes-2.ensures ∙ c.take_rest-line.ensures.value own (sym c.in-Some.ensures) in
    let now_is = c.take_rest-line.ensures.after ∙ ap (λ (m : MountSeen). drop_rest c.args.handle m.files) c.self.view_is in
    let refused : LineRefused = record { text = c.as_bytes-2.result.now; fault = c.in-Err.fault } in
    λ past mounted.
    ends-flush past old c.end_line.new.self own c.in-Inject.event c.args.handle c.args.lock_owner (replies.Error c.errno.result) mounted found rest lock file_is
    (ap (λ (o : Owner). is_there old.scene (nodes.File o (files.Inject c.in-Inject.event)) && is_some (slice_get (declared_events past) c.in-Inject.event)) (sym owner_is)
    ∙ sym (c.can_inject.ensures past mounted) ∙ c.if-not-can_inject.false)
    (λ event there. ended-step past old (the_view c.self.inside) c.end_line.new.self c.take_rest-line.new.self own event c.stream-stream.result.now.pid c.as_bytes-2.result.now
    (Some refused) (flushed c.args.handle old.files) (replies.Error c.errno.result) c.self.view_is (ap (λ (s : Stream). s.pid) stream_is) line_is
    (c.in-Err.ensures past own event (led-files past old (the_view c.self.inside) c.take_rest-line.new.self mounted c.self.view_is) (sym owner_is) file_is there) now_is
    (ap (λ (e : Errno). Some (replies.Error e)) (sym c.errno.ensures)))
