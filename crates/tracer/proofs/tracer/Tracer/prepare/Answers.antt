use Rattle.std.proofs.Common.{sym, arith, ◌≡◌, Err, rules}
use Rattle.trace_command.specs.Requests.{request_of}
use Rattle.tracer.proofs.Limits.{full-refusal, limited-refusal}
use Rattle.tracer.proofs.Living.{live-usable}
use Rattle.tracer.proofs.tracer.Tracer.prepare.Goals as goal

pub prepare-requires-clause-usable : goal.prepare-requires-clause-usable
prepare-requires-clause-usable c = live-usable _ _ _ c.self.invariant.lives

pub returns-in_err-prepared-clause-prepared : goal.returns-in_err-prepared-clause-prepared
returns-in_err-prepared-clause-prepared c =
    let out : c.from_residual.result ≡ Err c.in_err-prepared.field-0.0 = search rules in
    rw (out, ← c.self.view_is) (λ past lives.
    limited-refusal c.args.limit c.self.inside.config past _ c.in_err-prepared.field-0.0 (c.in_err-prepared.ensures.prepared past (sym lives.count) lives.stands))

pub returns-in_err-prepared-clause-memory : goal.returns-in_err-prepared-clause-memory
returns-in_err-prepared-clause-memory c =
    let out : c.from_residual.result ≡ Err c.in_err-prepared.field-0.0 = search rules in
    rw (out, ← c.self.view_is) (λ past lives late. c.in_err-prepared.ensures.memory past lives.stands late)

pub returns-then-done-limit-clause-prepared : goal.returns-then-done-limit-clause-prepared
returns-then-done-limit-clause-prepared c =
    rw (← c.self.view_is) (λ past lives.
    full-refusal c.args.limit c.self.inside.config past _ c.in_ok-prepared.prepared.reply (c.in_ok-prepared.ensures.prepared past (sym lives.count) lives.stands).0
    (omega (arith, lives.count)))

pub returns-clause-prepared : goal.returns-clause-prepared
returns-clause-prepared c = rw (← c.self.view_is) (λ past lives. c.in_ok-prepared.ensures.prepared past (sym lives.count) lives.stands)

pub returns-clause-ready : goal.returns-clause-ready
returns-clause-ready c =
    let lives = c.self.invariant.lives in
    rw (← c.self.view_is) (record {
      past = c.self.invariant.past;
      request = request_of c.args.command.now;
      lives = lives;
      is = c.in_ok-prepared.ensures.prepared c.self.invariant.past (sym lives.count) lives.stands;
    })

pub returns-clause-takes_none : goal.returns-clause-takes_none
returns-clause-takes_none c = rw (← c.self.view_is) (λ past lives none. c.in_ok-prepared.ensures.takes_none past lives.stands none)
