use Rattle.std.proofs.Common.{◌≡◌, ℕ, List, min, sym, subst, ◌∙◌, arith}
use Rattle.page_ring.specs.Events.{Event}
use Rattle.trace_buffer.specs.Buffers.{StandsFor}
use Rattle.trace_buffer.specs.Families.{kept_count}
use Rattle.trace_buffer.specs.Orders.{consume_any}
use Rattle.trace_buffer.proofs.Consumed.{none_next, some_next}
use Rattle.trace_buffer.proofs.buffer.Buffer.take_any.Goals as goal

pub returns-in_default-clause-answer : goal.returns-in_default-clause-answer
returns-in_default-clause-answer c = λ family h.
    let i = c.loop-count.invariant in
    let least = none_next c.least_is_read.ensures.ahead c.args.self.now.pages c.args.self.now.page_bytes _ _ c.loop-count.count family _
    i.pages i.page_bytes (c.next_read.ensures.next _ (i.stands family h)) c.in_default.is in
    omega (arith, least, i.kept family h)

pub returns-in_default-clause-stands : goal.returns-in_default-clause-stands
returns-in_default-clause-stands c = λ family h.
    let count : c.loop-count.count ≡ min c.args.limit (kept_count c.args.self.now.pages c.args.self.now.page_bytes family)
    = returns-in_default-clause-answer c family h in
    subst (λ (n : ℕ). StandsFor c.loop-count.self (consume_any c.args.self.now.pages c.args.self.now.page_bytes n family).family) count
    (c.loop-count.invariant.stands family h)

pub loop-count-preserved : goal.loop-count-preserved
loop-count-preserved c =
    let i = c.loop-count.invariant in
    let more = λ (family : List (List Event)) (h : StandsFor c.args.self.now family).
    some_next c.least_is_read.ensures.ahead c.args.self.now.pages c.args.self.now.page_bytes _ _ c.loop-count.count family _ c.in-Some.next
    i.pages i.page_bytes (c.next_read.ensures.next _ (i.stands family h)) c.in-Some.is in
    record {
      stands = λ family h.
          subst (λ (f : List (List Event)). StandsFor c.take_cpu.new.self f) (sym (more family h).after)
          (c.take_cpu.ensures.stands _ (i.stands family h));
      kept = λ family h. let less = (more family h).fewer in omega (arith, less);
      cpus = c.take_cpu.ensures.cpus ∙ i.cpus;
      pages = c.take_cpu.ensures.pages ∙ i.pages;
      page_bytes = c.take_cpu.ensures.page_bytes ∙ i.page_bytes;
      offers = c.take_cpu.ensures.offers ∙ i.offers;
    }
