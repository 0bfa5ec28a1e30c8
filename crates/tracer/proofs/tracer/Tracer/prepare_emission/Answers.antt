use Rattle.std.proofs.Common.{◌≡◌, refl, arith, rules, Err}
use Rattle.trace_command.specs.Requests.{request_of}
use Rattle.tracer.specs.LiveFields.{seen}
use Rattle.tracer.proofs.Limits.{full-refusal, limited-refusal}
use Rattle.tracer.proofs.Living.{live-alike, live-usable}
use Rattle.tracer.proofs.tracer.Tracer.prepare_emission.Goals as goal

pub prepare_emission-requires-clause-usable : goal.prepare_emission-requires-clause-usable
prepare_emission-requires-clause-usable c = live-usable _ _ _ c.self.invariant.lives

pub invariant_of-self : goal.invariant_of-self
invariant_of-self c = record {
  past = c.self.invariant.past;
  lives = live-alike _ _ (seen c.self.inside) _ c.self.invariant.lives refl c.prepare_emission.ensures.alike;
}

pub invariant_of-self-then-self-limit : goal.invariant_of-self-then-self-limit
invariant_of-self-then-self-limit c = record {
  past = c.self.invariant.past;
  lives = live-alike _ _ (seen c.self.inside) _ c.self.invariant.lives refl c.prepare_emission.ensures.alike;
}

pub invariant_of-self-2 : goal.invariant_of-self-2
invariant_of-self-2 c = record {
  past = c.self.invariant.past;
  lives = live-alike _ _ (seen c.self.inside) _ c.self.invariant.lives refl c.prepare_emission.ensures.alike;
}

pub returns-in_err-prepare_emission-clause-lives : goal.returns-in_err-prepare_emission-clause-lives
returns-in_err-prepare_emission-clause-lives c =
    rw (← c.self.view_is) (λ past lives. live-alike _ past (seen c.self.inside) _ lives refl c.prepare_emission.ensures.alike)

pub returns-then-self-limit-clause-lives : goal.returns-then-self-limit-clause-lives
returns-then-self-limit-clause-lives c =
    rw (← c.self.view_is) (λ past lives. live-alike _ past (seen c.self.inside) _ lives refl c.prepare_emission.ensures.alike)

pub returns-clause-lives : goal.returns-clause-lives
returns-clause-lives c =
    rw (← c.self.view_is) (λ past lives. live-alike _ past (seen c.self.inside) _ lives refl c.prepare_emission.ensures.alike)

pub returns-in_err-prepare_emission-clause-refused : goal.returns-in_err-prepare_emission-clause-refused
returns-in_err-prepare_emission-clause-refused c =
    let out : c.from_residual.result ≡ Err c.in_err-prepare_emission.field-0.0 = search rules in
    rw (out, ← c.self.view_is) (λ past lives.
    limited-refusal c.args.limit c.self.inside.config past _ c.in_err-prepare_emission.field-0.0 (c.in_err-prepare_emission.ensures.refused past lives.stands))

pub returns-then-self-limit-clause-refused : goal.returns-then-self-limit-clause-refused
returns-then-self-limit-clause-refused c =
    rw (← c.self.view_is) (λ past lives.
    full-refusal c.args.limit c.self.inside.config past _ _ (c.in_ok-prepare_emission.ensures.prepared past lives.stands).0 (omega (arith, lives.count)))

pub returns-clause-prepared : goal.returns-clause-prepared
returns-clause-prepared c =
    rw (← c.self.view_is) (λ past lives. c.in_ok-prepare_emission.ensures.prepared past lives.stands)

pub returns-clause-ready : goal.returns-clause-ready
returns-clause-ready c =
    record {
      past = c.self.invariant.past;
      request = request_of c.args.command.now;
      lives = live-alike _ _ (seen c.self.inside) _ c.self.invariant.lives refl c.prepare_emission.ensures.alike;
      is = c.in_ok-prepare_emission.ensures.prepared c.self.invariant.past c.self.invariant.lives.stands;
    }
