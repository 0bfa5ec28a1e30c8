use Rattle.page_ring.specs.Shown as ring
use Rattle.trace_buffer.specs.Buffers.{StandsFor}
use Rattle.trace_buffer.proofs.Rings.{ring_read, stands_after, numbers_as_before, sound_after}
use Rattle.trace_buffer.proofs.buffer.Buffer.take_cpu.Goals as goal

pub invariant_of-self : goal.invariant_of-self
invariant_of-self c =
    sound_after _ _ _ _ _ c.self.view_is c.index_mut.ensures.value c.requires c.take_from.ensures.pages c.take_from.ensures.page_bytes
    c.self.invariant

pub returns-clause-stands : goal.returns-clause-stands
unfolding StandsFor
returns-clause-stands c = λ family h.
    let r = ring_read _ _ _ _ c.self.view_is c.self.invariant.shape c.index_mut.ensures.value c.requires in
    rw (← r.pages, ← r.page_bytes)
    (stands_after _ _ _ _ _ family _ c.self.view_is c.index_mut.ensures.value c.requires h (c.take_from.ensures.stands _))

pub returns-clause-answer : goal.returns-clause-answer
returns-clause-answer c = λ family h.
    let r = ring_read _ _ _ _ c.self.view_is c.self.invariant.shape c.index_mut.ensures.value c.requires in
    rw (← r.pages, ← r.page_bytes) (c.take_from.ensures.answer _ (r.stands family h))

pub returns-clause-offers : goal.returns-clause-offers
returns-clause-offers c =
    numbers_as_before ring.offered _ _ _ _ _ c.self.view_is c.index_mut.ensures.value c.requires c.take_from.ensures.offered
