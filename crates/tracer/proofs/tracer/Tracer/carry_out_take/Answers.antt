use Rattle.std.proofs.Common.{◌≡◌, ◌<◌, ◌∷◌, Err, refl, rules}
use Rattle.tracer_state.specs.PreparedTakes.{with_reply}
use Rattle.tracer.specs.LiveFields.{seen}
use Rattle.tracer.specs.Lives.{most_done}
use Rattle.tracer.specs.TakingCalls.{IsReadyToTake}
use Rattle.tracer.proofs.Living.{live-changed, live-unchanged, live-usable}
use Rattle.tracer.proofs.tracer.Tracer.carry_out_take.Goals as goal

pub commit-requires-clause-usable : goal.commit-requires-clause-usable
commit-requires-clause-usable c = live-usable _ _ _ c.self.invariant.lives

pub commit-requires-clause-ready : goal.commit-requires-clause-ready
commit-requires-clause-ready c =
    let ready : IsReadyToTake (seen c.self.inside) c.args.change = rw (← c.self.view_is) at c.requires.ready in
    ready.1.is.2

pub invariant_of-self-2 : goal.invariant_of-self-2
invariant_of-self-2 c =
    let ready : IsReadyToTake (seen c.self.inside) c.args.change = rw (← c.self.view_is) at c.requires.ready in
    let room : c.self.inside.done < most_done = rw (← c.self.view_is) at c.requires.room in record {
      past = ready.1.request ∷ ready.1.past;
      lives = live-changed _ ready.1.past (seen c.self.inside) _ ready.1.request (with_reply c.args.change ready.0) ready.1.lives room refl ready.1.is c.in_ok-commit.ensures.done;
    }

pub returns-clause-done : goal.returns-clause-done
returns-clause-done c =
    let room : c.self.inside.done < most_done = rw (← c.self.view_is) at c.requires.room in
    rw (← c.self.view_is) (λ past request reply lives prepared.
    live-changed _ past (seen c.self.inside) _ request (with_reply c.args.change reply) lives room refl prepared c.in_ok-commit.ensures.done)

pub invariant_of-self : goal.invariant_of-self
invariant_of-self c = record {
  past = c.self.invariant.past;
  lives = live-unchanged _ _ (seen c.self.inside) _ c.self.invariant.lives refl c.in_err-commit.ensures.refused;
}

pub returns-in_err-commit-clause-refused : goal.returns-in_err-commit-clause-refused
returns-in_err-commit-clause-refused c =
    let out : c.from_residual.result ≡ Err c.in_err-commit.field-0.0 = search rules in
    rw (out, ← c.self.view_is) (λ past lives. live-unchanged _ past (seen c.self.inside) _ lives refl c.in_err-commit.ensures.refused)

pub returns-in_err-commit-clause-takes_memory : goal.returns-in_err-commit-clause-takes_memory
returns-in_err-commit-clause-takes_memory c =
    let out : c.from_residual.result ≡ Err c.in_err-commit.field-0.0 = search rules in
    rw (out, ← c.self.view_is) c.in_err-commit.ensures.takes_memory
