use Rattle.std.proofs.Common.{◌≡◌, ◌-◌, length, take, drop, sym, ap, ◌∙◌, arith}
use Rattle.std.proofs.lemmas.List.{append-nil}
use Rattle.fuse_serve.proofs.InboxLemmas.{length_between, came_in, stayed}
use Rattle.fuse_serve.proofs.Transfers.{Consumes_kept}
use Rattle.fuse_serve.proofs.inbox.Inbox.read_from.Goals as goal

pub returns-in-Ok-clause-read : goal.returns-in-Ok-clause-read
returns-in-Ok-clause-read g c =
    let bound = c.in-Ok.ensures.bound in
    let waited = take (c.self.inside.end - c.self.inside.start) (drop c.self.inside.start c.self.inside.buffer.items) in
    let known : length waited ≡ c.self.inside.end - c.self.inside.start = length_between c.self.inside.buffer.items c.self.inside.start c.self.inside.end (omega arith) in
    record {
      buffer = c.read-outcome.new.buf;
      room = omega (arith, known, ap length c.self.view_is, c.deref_mut.ensures.len);
      made = c.in-Ok.ensures.call;
      came = came_in c.copy_within.new.self c.self.inside.buffer.items c.copy_within.new.self.items c.deref_mut.result.now c.read-outcome.new.buf c.self.inside.start c.self.inside.end
          (omega arith) (omega arith) c.deref_mut.ensures.value c.copy_within.ensures.items (omega arith) c.deref_mut.ensures.len
          c.args.self.now c.in-Ok.count c.self.view_is bound.0;
      consumed = c.in-Ok.ensures.bytes.0;
    }

pub returns-in-Ok-clause-end : goal.returns-in-Ok-clause-end
returns-in-Ok-clause-end g c e =
    let buffer = c.self.inside.buffer.items in
    let known : length (take (c.self.inside.end - c.self.inside.start) (drop c.self.inside.start buffer)) ≡ c.self.inside.end - c.self.inside.start =
    length_between buffer c.self.inside.start c.self.inside.end (omega arith) in
    c.in-Ok.ensures.bytes.1 (cc) (omega (arith, known, ap length c.self.view_is))

pub returns-in_default-clause-read : goal.returns-in_default-clause-read
returns-in_default-clause-read g c =
    let device = g.D.Device in
    let waited = take (c.self.inside.end - c.self.inside.start) (drop c.self.inside.start c.self.inside.buffer.items) in
    let known : length waited ≡ c.self.inside.end - c.self.inside.start = length_between c.self.inside.buffer.items c.self.inside.start c.self.inside.end (omega arith) in
    rw c.in_default.is (record {
      buffer = c.read-outcome.new.buf;
      room = omega (arith, known, ap length c.self.view_is, c.deref_mut.ensures.len);
      made = c.in_default.ensures.call;
      came = stayed c.copy_within.new.self c.self.inside.buffer.items c.copy_within.new.self.items c.deref_mut.result.now c.read-outcome.new.buf c.self.inside.start c.self.inside.end
          (omega arith) (omega arith) c.deref_mut.ensures.value c.copy_within.ensures.items (omega arith) c.deref_mut.ensures.len
          ∙ (c.self.view_is ∙ sym (append-nil c.args.self.now));
      consumed = Consumes_kept (device.remaining c.args.device.now) (device.remaining c.read-outcome.new.self) c.in_default.ensures.bytes;
    })
