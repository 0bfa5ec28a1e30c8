use Rattle.std.proofs.Common.{arith, ◌≡◌, Err, rules}
use Rattle.trace_instance.specs.LateReplies.{reply_of}
use Rattle.tracer_state.specs.AddressedRequests.{read_at}
use Rattle.tracer.proofs.Limits.{full-refusal, limited-refusal}
use Rattle.tracer.proofs.Living.{live-usable}
use Rattle.tracer.proofs.tracer.Tracer.prepare_copy_at.Goals as goal

pub prepare_copy-requires : goal.prepare_copy-requires
prepare_copy-requires c = record { usable = live-usable _ _ _ c.self.invariant.lives }

pub returns-in_err-read-clause-prepared : goal.returns-in_err-read-clause-prepared
returns-in_err-read-clause-prepared c =
    let out : c.from_residual.result ≡ Err c.in_err-read.field-0.0 = search rules in
    rw (out, ← c.self.view_is) (λ past lives.
    limited-refusal c.args.limit c.self.inside.config past _ c.in_err-read.field-0.0 (c.in_err-read.ensures.prepared past lives.stands))

pub returns-then-self-limit-clause-prepared : goal.returns-then-self-limit-clause-prepared
returns-then-self-limit-clause-prepared c =
    rw (← c.self.view_is) (λ past lives.
    full-refusal c.args.limit c.self.inside.config past _ (reply_of c.in_ok-read.read.late) (c.in_ok-read.ensures.prepared past lives.stands).0
    (omega (arith, lives.count)))

pub returns-clause-prepared : goal.returns-clause-prepared
returns-clause-prepared c = rw (← c.self.view_is) (λ past lives. c.in_ok-read.ensures.prepared past lives.stands)

pub returns-clause-ready : goal.returns-clause-ready
returns-clause-ready c =
    let lives = c.self.invariant.lives in
    rw (← c.self.view_is) (record {
      past = c.self.invariant.past;
      request = read_at c.args.address c.args.most;
      lives = lives;
      is = c.in_ok-read.ensures.prepared c.self.invariant.past lives.stands;
    })
