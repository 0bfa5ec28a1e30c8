use Rattle.std.proofs.Common.{arith, ◌≡◌, Some, Err, rules}
use Rattle.tracer_state.specs.AddressedRequests.{read_at}
use Rattle.tracer.specs.Lives.{most_done}
use Rattle.tracer.proofs.Limits.{full-refusal, limited-refusal}
use Rattle.tracer.proofs.Living.{live-usable}
use Rattle.tracer.proofs.tracer.Tracer.prepare_take_at.Goals as goal

pub prepare_take-requires : goal.prepare_take-requires
prepare_take-requires c = live-usable _ _ _ c.self.invariant.lives

pub returns-in_err-change-clause-prepared : goal.returns-in_err-change-clause-prepared
returns-in_err-change-clause-prepared c =
    let out : c.from_residual.result ≡ Err c.in_err-change.field-0.0 = search rules in
    rw (out, ← c.self.view_is) (λ past lives.
    limited-refusal most_done c.self.inside.config past _ c.in_err-change.field-0.0 (c.in_err-change.ensures past lives.stands))

pub returns-then-self-ge-MOST_DONE-clause-prepared : goal.returns-then-self-ge-MOST_DONE-clause-prepared
returns-then-self-ge-MOST_DONE-clause-prepared c =
    rw (← c.self.view_is) (λ past lives.
    let taken = c.in_ok-change.ensures past lives.stands in
    full-refusal most_done c.self.inside.config past _ taken.0 taken.1.0 (omega (arith, lives.count)))

pub returns-clause-prepared : goal.returns-clause-prepared
returns-clause-prepared c = rw (← c.self.view_is) (λ past lives. c.in_ok-change.ensures past lives.stands)

pub returns-clause-ready : goal.returns-clause-ready
returns-clause-ready c =
    let lives = c.self.invariant.lives in
    let taken = c.in_ok-change.ensures c.self.invariant.past lives.stands in
    rw (← c.self.view_is) (
      taken.0,
      record {
        past = c.self.invariant.past;
        request = read_at c.args.address (Some c.args.most);
        lives = lives;
        is = taken.1;
      },
    )
