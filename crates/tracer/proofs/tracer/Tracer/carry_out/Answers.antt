use Rattle.std.proofs.Common.{◌≡◌, ◌<◌, ◌∷◌, Err, refl, rules}
use Rattle.tracer.specs.LiveFields.{seen}
use Rattle.tracer.specs.Lives.{IsReadyFor, most_done}
use Rattle.tracer.proofs.Living.{live-changed, live-unchanged, live-usable}
use Rattle.tracer.proofs.tracer.Tracer.carry_out.Goals as goal

pub carry_out-requires-clause-usable : goal.carry_out-requires-clause-usable
carry_out-requires-clause-usable c = live-usable _ _ _ c.self.invariant.lives

pub carry_out-requires-clause-ready : goal.carry_out-requires-clause-ready
carry_out-requires-clause-ready c =
    let ready : IsReadyFor (seen c.self.inside) c.args.prepared = rw (← c.self.view_is) at c.requires.ready in
    ready.is.2

pub invariant_of-self-2 : goal.invariant_of-self-2
invariant_of-self-2 c =
    let ready : IsReadyFor (seen c.self.inside) c.args.prepared = rw (← c.self.view_is) at c.requires.ready in
    let room : c.self.inside.done < most_done = rw (← c.self.view_is) at c.requires.room in record {
      past = ready.request ∷ ready.past;
      lives = live-changed _ ready.past (seen c.self.inside) _ ready.request c.args.prepared ready.lives room refl ready.is c.in_ok-reply.ensures.done;
    }

pub returns-clause-done : goal.returns-clause-done
returns-clause-done c =
    let room : c.self.inside.done < most_done = rw (← c.self.view_is) at c.requires.room in
    rw (← c.self.view_is) (λ past request lives prepared.
    live-changed _ past (seen c.self.inside) _ request c.args.prepared lives room refl prepared c.in_ok-reply.ensures.done)

pub invariant_of-self : goal.invariant_of-self
invariant_of-self c = record {
  past = c.self.invariant.past;
  lives = live-unchanged _ _ (seen c.self.inside) _ c.self.invariant.lives refl c.in_err-reply.ensures.refused;
}

pub returns-in_err-reply-clause-refused : goal.returns-in_err-reply-clause-refused
returns-in_err-reply-clause-refused c =
    let out : c.from_residual.result ≡ Err c.in_err-reply.field-0.0 = search rules in
    rw (out, ← c.self.view_is) (λ past lives. live-unchanged _ past (seen c.self.inside) _ lives refl c.in_err-reply.ensures.refused)

pub returns-in_err-reply-clause-takes_memory : goal.returns-in_err-reply-clause-takes_memory
returns-in_err-reply-clause-takes_memory c =
    let out : c.from_residual.result ≡ Err c.in_err-reply.field-0.0 = search rules in
    rw (out, ← c.self.view_is) c.in_err-reply.ensures.takes_memory
