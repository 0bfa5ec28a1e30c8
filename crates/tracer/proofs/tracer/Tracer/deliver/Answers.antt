use Rattle.std.proofs.Common.{◌<◌, ◌∷◌, refl}
use Rattle.tracer.specs.LiveFields.{seen}
use Rattle.tracer.specs.Lives.{CanDeliver, most_done}
use Rattle.tracer.proofs.Living.{live-early, live-emitted, live-few, live-few_rows, live-usable}
use Rattle.tracer.proofs.tracer.Tracer.deliver.Goals as goal

pub deliver-requires-clause-usable : goal.deliver-requires-clause-usable
deliver-requires-clause-usable c = live-usable _ _ _ c.self.invariant.lives

pub deliver-requires-clause-ready : goal.deliver-requires-clause-ready
deliver-requires-clause-ready c =
    let ready : CanDeliver (seen c.self.inside) = rw (← c.self.view_is) at c.requires.ready in
    ready.is.2

pub deliver-requires-clause-early : goal.deliver-requires-clause-early
deliver-requires-clause-early c =
    let room : c.self.inside.done < most_done = rw (← c.self.view_is) at c.requires.room in
    live-early _ _ _ c.self.invariant.lives room

pub deliver-requires-clause-few : goal.deliver-requires-clause-few
deliver-requires-clause-few c =
    let room : c.self.inside.done < most_done = rw (← c.self.view_is) at c.requires.room in
    live-few _ _ _ c.self.invariant.lives room

pub deliver-requires-clause-few_rows : goal.deliver-requires-clause-few_rows
deliver-requires-clause-few_rows c =
    let room : c.self.inside.done < most_done = rw (← c.self.view_is) at c.requires.room in
    live-few_rows _ _ _ c.self.invariant.lives room

pub invariant_of-self : goal.invariant_of-self
invariant_of-self c =
    let ready : CanDeliver (seen c.self.inside) = rw (← c.self.view_is) at c.requires.ready in
    let room : c.self.inside.done < most_done = rw (← c.self.view_is) at c.requires.room in record {
      past = ready.request ∷ ready.past;
      lives = live-emitted _ ready.past (seen c.self.inside) _ ready.request ready.lives room refl ready.is c.deliver.ensures;
    }

pub returns-clause-done : goal.returns-clause-done
returns-clause-done c =
    let room : c.self.inside.done < most_done = rw (← c.self.view_is) at c.requires.room in
    rw (← c.self.view_is) (λ past request lives prepared.
    live-emitted _ past (seen c.self.inside) _ request lives room refl prepared c.deliver.ensures)
