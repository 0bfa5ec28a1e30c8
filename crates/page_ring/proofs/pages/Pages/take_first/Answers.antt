use Rattle.page_ring.proofs.BufferFacts.{taken_from_reader, taken_from_tail}
use Rattle.page_ring.proofs.pages.Pages.take_first.Goals as goal

pub returns-in-Some : goal.returns-in-Some
returns-in-Some c =
    taken_from_reader c.args.self.now c.swap_reader.new.self c.take_first.new.self c.number-page.result c.in-Some.number c.in-Some.size c.swap_reader.ensures c.in-Some.ensures c.number-page.ensures

pub returns : goal.returns
returns c =
    taken_from_tail c.args.self.now c.swap_reader.new.self c.take_first.new.self c.take_first-2.new.self c.number-page-2.result c.in_ok-number.number c.in_ok-number.size c.swap_reader.ensures c.in_default.ensures.0 c.in_default.ensures.1 c.in_ok-number.ensures c.number-page-2.ensures
