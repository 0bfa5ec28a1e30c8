use Rattle.std.proofs.Common.{ap, ◌∙◌, List}
use Rattle.std.specs.Option.{option_map}
use Rattle.page_ring.specs.Account.{Reading, first}
use Rattle.page_ring.proofs.Stands.{readings_of_shown, stands_after_take, stands_same, offered_after_take}
use Rattle.page_ring.proofs.rings.Ring.take.Goals as goal

pub returns-clause-stands : goal.returns-clause-stands
returns-clause-stands c =
    let e = c.take_step.ensures in
    stands_after_take c.args.self.now c.take_step.new.self e.pages e.page_bytes e.shown

pub returns-clause-answer : goal.returns-clause-answer
returns-clause-answer c = λ events s. c.take_step.ensures.answer ∙ ap (λ (rs : List Reading). option_map (λ (r : Reading). r.lost) (first rs)) (readings_of_shown c.args.self.now events s)

pub returns-clause-none : goal.returns-clause-none
returns-clause-none c = λ events n s.
    let e = c.take_step.ensures in
    stands_same c.args.self.now c.take_step.new.self e.pages e.page_bytes (e.none n) events s

pub returns-clause-offered : goal.returns-clause-offered
returns-clause-offered c = offered_after_take c.args.self.now.shown c.take_step.new.self.shown c.take_step.ensures.shown
