use Rattle.std.proofs.Common.{◌≡◌, ◌<◌, ◌∷◌, Err, refl, rules}
use Rattle.tracer_state.specs.LateReads.{prepared_by}
use Rattle.tracer.specs.LiveFields.{seen}
use Rattle.tracer.specs.Lives.{IsReadyFor, most_done}
use Rattle.tracer.proofs.Living.{live-changed, live-unchanged, live-usable}
use Rattle.tracer.proofs.tracer.Tracer.carry_out_late.Goals as goal

pub carry_out_late-requires-clause-usable : goal.carry_out_late-requires-clause-usable
carry_out_late-requires-clause-usable c = live-usable _ _ _ c.self.invariant.lives

pub carry_out_late-requires-clause-ready : goal.carry_out_late-requires-clause-ready
carry_out_late-requires-clause-ready c =
    let ready : IsReadyFor (seen c.self.inside) (prepared_by c.args.prepared) = rw (← c.self.view_is) at c.requires.ready in
    ready.is.2

pub invariant_of-self-2 : goal.invariant_of-self-2
invariant_of-self-2 c =
    let ready : IsReadyFor (seen c.self.inside) (prepared_by c.args.prepared) = rw (← c.self.view_is) at c.requires.ready in
    let room : c.self.inside.done < most_done = rw (← c.self.view_is) at c.requires.room in record {
      past = ready.request ∷ ready.past;
      lives = live-changed _ ready.past (seen c.self.inside) _ ready.request (prepared_by c.args.prepared) ready.lives room refl ready.is c.in_ok-late.ensures.done;
    }

pub returns-clause-done : goal.returns-clause-done
returns-clause-done c =
    let room : c.self.inside.done < most_done = rw (← c.self.view_is) at c.requires.room in
    rw (← c.self.view_is) (λ past request lives prepared.
    live-changed _ past (seen c.self.inside) _ request (prepared_by c.args.prepared) lives room refl prepared c.in_ok-late.ensures.done)

pub invariant_of-self : goal.invariant_of-self
invariant_of-self c = record {
  past = c.self.invariant.past;
  lives = live-unchanged _ _ (seen c.self.inside) _ c.self.invariant.lives refl c.in_err-late.ensures.refused;
}

pub returns-in_err-late-clause-refused : goal.returns-in_err-late-clause-refused
returns-in_err-late-clause-refused c =
    let out : c.from_residual.result ≡ Err c.in_err-late.field-0.0 = search rules in
    rw (out, ← c.self.view_is) (λ past lives. live-unchanged _ past (seen c.self.inside) _ lives refl c.in_err-late.ensures.refused)

pub returns-in_err-late-clause-takes_memory : goal.returns-in_err-late-clause-takes_memory
returns-in_err-late-clause-takes_memory c =
    let out : c.from_residual.result ≡ Err c.in_err-late.field-0.0 = search rules in
    rw (out, ← c.self.view_is) c.in_err-late.ensures.takes_memory
