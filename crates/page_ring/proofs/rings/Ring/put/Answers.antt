use Rattle.page_ring.proofs.Stands.{stands_after_put, answer_of_put, offered_after_put}
use Rattle.std.proofs.Common.{◌∙◌}
use Rattle.page_ring.proofs.rings.Ring.put.Goals as goal

pub returns-clause-stands : goal.returns-clause-stands
returns-clause-stands c =
    let e = c.put_step.ensures in
    stands_after_put c.args.self.now c.put_step.new.self c.args.rec.now c.args.overwrite e.two_pages e.pages e.page_bytes e.shown

pub returns-clause-answer : goal.returns-clause-answer
returns-clause-answer c = λ events s. c.put_step.ensures.answer ∙ answer_of_put c.args.self.now c.args.rec.now c.args.overwrite events s

pub returns-clause-offered : goal.returns-clause-offered
returns-clause-offered c =
    let s = c.args.self.now in
    offered_after_put s.pages s.page_bytes s.shown c.args.rec.now c.args.overwrite c.put_step.new.self.shown c.put_step.ensures.shown
