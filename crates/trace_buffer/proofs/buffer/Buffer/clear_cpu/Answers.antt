use Rattle.page_ring.specs.Shown as ring
use Rattle.trace_buffer.specs.Buffers.{StandsFor}
use Rattle.trace_buffer.proofs.Rings.{stands_after, numbers_after, sound_after}
use Rattle.trace_buffer.proofs.buffer.Buffer.clear_cpu.Goals as goal

pub invariant_of-self : goal.invariant_of-self
invariant_of-self c =
    sound_after _ _ _ _ _ c.self.view_is c.index_mut.ensures.value c.requires c.clear.ensures.pages c.clear.ensures.page_bytes c.self.invariant

pub returns-clause-stands : goal.returns-clause-stands
unfolding StandsFor
returns-clause-stands c = λ family h.
    stands_after _ _ _ _ _ family _ c.self.view_is c.index_mut.ensures.value c.requires h (λ _. c.clear.ensures.stands)

pub returns-clause-offers : goal.returns-clause-offers
returns-clause-offers c = numbers_after ring.offered _ _ _ _ _ c.self.view_is c.clear.ensures.offered
