use Rattle.std.proofs.Common.{arith}
use Rattle.kernel_pages.proofs.PageLemmas.{page_filled}
use Rattle.kernel_pages.proofs.page.page_with.Goals as goal

pub returns : goal.returns
returns c = λ rows starts before are.
    page_filled rows c.args.time c.args.lost c.commit_of.result c.push_lost.new.out.len c.args.events.now c.in_ok-page.page.items c.push_number.new.out.items
    c.push_number-2.new.out.items c.extend_from_slice.new.self.items c.push_lost.new.out.items c.resize.new.self.items starts before are c.requires
    c.in_ok-page.ensures.items c.in_ok-push_number.ensures c.commit_of.ensures c.in_ok-push_number-2.ensures c.in_ok-extend_from_slice.ensures.items
    c.in_ok-push_lost.ensures (omega (arith, c.push_lost.new.out.ok.0)) c.in_ok-resize.ensures.items
