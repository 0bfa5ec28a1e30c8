use Rattle.std.proofs.Common.{sym, arith, ◌≡◌, Err, rules}
use Rattle.tracer_state.specs.AddressedRequests.{write_at}
use Rattle.tracer.proofs.Limits.{full-refusal, limited-refusal}
use Rattle.tracer.proofs.Living.{live-usable}
use Rattle.tracer.proofs.tracer.Tracer.prepare_write_at.Goals as goal

pub prepare_write-requires : goal.prepare_write-requires
prepare_write-requires c = record { usable = live-usable _ _ _ c.self.invariant.lives }

pub returns-in_err-write-clause-prepared : goal.returns-in_err-write-clause-prepared
returns-in_err-write-clause-prepared c =
    let out : c.from_residual.result ≡ Err c.in_err-write.field-0.0 = search rules in
    rw (out, ← c.self.view_is) (λ past lives.
    limited-refusal c.args.limit c.self.inside.config past _ c.in_err-write.field-0.0 (c.in_err-write.ensures.prepared past (sym lives.count) lives.stands))

pub returns-then-self-limit-clause-prepared : goal.returns-then-self-limit-clause-prepared
returns-then-self-limit-clause-prepared c =
    rw (← c.self.view_is) (λ past lives.
    full-refusal c.args.limit c.self.inside.config past _ c.in_ok-write.write.reply (c.in_ok-write.ensures.prepared past (sym lives.count) lives.stands).0
    (omega (arith, lives.count)))

pub returns-clause-prepared : goal.returns-clause-prepared
returns-clause-prepared c = rw (← c.self.view_is) (λ past lives. c.in_ok-write.ensures.prepared past (sym lives.count) lives.stands)

pub returns-clause-ready : goal.returns-clause-ready
returns-clause-ready c =
    let lives = c.self.invariant.lives in
    rw (← c.self.view_is) (record {
      past = c.self.invariant.past;
      request = write_at c.args.address c.args.append c.args.text.now;
      lives = lives;
      is = c.in_ok-write.ensures.prepared c.self.invariant.past (sym lives.count) lives.stands;
    })

pub returns-in_err-write-clause-memory : goal.returns-in_err-write-clause-memory
returns-in_err-write-clause-memory c =
    let out : c.from_residual.result ≡ Err c.in_err-write.field-0.0 = search rules in
    rw (out, ← c.self.view_is) (λ past lives late. c.in_err-write.ensures.memory past lives.stands late)

pub returns-clause-takes_none : goal.returns-clause-takes_none
returns-clause-takes_none c = rw (← c.self.view_is) (λ past lives none. c.in_ok-write.ensures.takes_none past lives.stands none)
