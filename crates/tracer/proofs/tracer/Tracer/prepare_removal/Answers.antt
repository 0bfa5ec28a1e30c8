use Rattle.std.proofs.Common.{arith, ◌≡◌, Some, Err, rules}
use Rattle.trace_command.specs.Requests.{RemoveInstance}
use Rattle.tracer.proofs.Limits.{full-refusal, limited-refusal}
use Rattle.tracer.proofs.tracer.Tracer.prepare_removal.Goals as goal

pub returns-in_err-removal-clause-prepared : goal.returns-in_err-removal-clause-prepared
returns-in_err-removal-clause-prepared c =
    let out : c.from_residual.result ≡ Err c.in_err-removal.field-0.0 = search rules in
    rw (out, ← c.self.view_is) (λ past lives.
    limited-refusal c.args.limit c.self.inside.config past _ c.in_err-removal.field-0.0 (c.in_err-removal.ensures.prepared c.self.inside.config past lives.stands))

pub returns-then-self-limit-clause-prepared : goal.returns-then-self-limit-clause-prepared
returns-then-self-limit-clause-prepared c =
    rw (← c.self.view_is) (λ past lives.
    full-refusal c.args.limit c.self.inside.config past _ c.in_ok-removal.removal.reply (c.in_ok-removal.ensures.prepared c.self.inside.config past lives.stands).0
    (omega (arith, lives.count)))

pub returns-clause-prepared : goal.returns-clause-prepared
returns-clause-prepared c = rw (← c.self.view_is) (λ past lives. c.in_ok-removal.ensures.prepared c.self.inside.config past lives.stands)

pub returns-clause-ready : goal.returns-clause-ready
returns-clause-ready c =
    let lives = c.self.invariant.lives in
    rw (← c.self.view_is) (record {
      past = c.self.invariant.past;
      request = RemoveInstance (Some c.args.name.now);
      lives = lives;
      is = c.in_ok-removal.ensures.prepared c.self.inside.config c.self.invariant.past lives.stands;
    })
