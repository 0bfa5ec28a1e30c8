use Rattle.std.proofs.Common.{◌≤◌, ℕ, ◌+◌, ◌∙◌, ap, sym, subst, length, arith}
use Rattle.page_ring.specs.Shown as ring
use Rattle.trace_buffer.specs.Buffers.{StandsFor}
use Rattle.trace_buffer.proofs.Rings.{ring_read, stands_after, number_read, numbers_after, sound_after}
use Rattle.trace_buffer.proofs.buffer.Buffer.put.Goals as goal

pub put-requires-clause-fits : goal.put-requires-clause-fits
put-requires-clause-fits c =
    let r = ring_read _ _ _ _ c.self.view_is c.self.invariant.shape c.index_mut.ensures.value c.requires.cpu in
    rw r.page_bytes c.requires.fits

pub put-requires-clause-few : goal.put-requires-clause-few
put-requires-clause-few c =
    let e = number_read ring.offered _ _ _ _ c.self.view_is c.index_mut.ensures.value c.requires.cpu in
    omega (arith, e)

pub invariant_of-self : goal.invariant_of-self
invariant_of-self c =
    sound_after _ _ _ _ _ c.self.view_is c.index_mut.ensures.value c.requires.cpu c.put.ensures.pages c.put.ensures.page_bytes c.self.invariant

pub returns-clause-stands : goal.returns-clause-stands
unfolding StandsFor
returns-clause-stands c = λ family h.
    stands_after _ _ _ _ _ family _ c.self.view_is c.index_mut.ensures.value c.requires.cpu h (c.put.ensures.stands _)

pub returns-clause-answer : goal.returns-clause-answer
returns-clause-answer c = λ family h.
    let r = ring_read _ _ _ _ c.self.view_is c.self.invariant.shape c.index_mut.ensures.value c.requires.cpu in
    rw (← r.pages, ← r.page_bytes) (c.put.ensures.answer _ (r.stands family h))

pub returns-clause-offers : goal.returns-clause-offers
returns-clause-offers c =
    let e = number_read ring.offered _ _ _ _ c.self.view_is c.index_mut.ensures.value c.requires.cpu in
    numbers_after ring.offered _ _ _ _ _ c.self.view_is (c.put.ensures.offered ∙ ap (λ (n : ℕ). n + 1) (sym e))
