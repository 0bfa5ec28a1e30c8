use Rattle.std.proofs.Common.{arith}
use Rattle.page_ring.proofs.BufferFacts.{same_freed, same_emptied}
use Rattle.page_ring.proofs.pages.Pages.free_circle.Goals as goal

pub loop-page-preserved : goal.loop-page-preserved
loop-page-preserved c =
    let i = c.loop-page.invariant in
    record {
      reader = i.reader;
      tail = i.tail;
      buffers = same_freed c.args.self.now c.loop-page.self c.in-Some.page c.pop_front.new.self c.push_front_reserved.new.self i.buffers c.in-Some.ensures.items c.in-Some.ensures.cases c.pop_front.ensures.capacity c.push_front_reserved.ensures.items c.push_front_reserved.ensures.len c.push_front_reserved.ensures.capacity;
    }

pub returns-clause-buffers : goal.returns-clause-buffers
returns-clause-buffers c =
    same_emptied c.args.self.now c.loop-page.self c.pop_front.new.self c.loop-page.invariant.buffers c.in_default.ensures.items (omega (arith, c.in_default.ensures.cases)) c.pop_front.ensures.capacity
