use Rattle.trace_buffer.proofs.Rings.{ring_read}
use Rattle.trace_buffer.proofs.buffer.Buffer.ring.Goals as goal

pub returns : goal.returns
returns c =
    let r = ring_read _ _ _ _ c.self.view_is c.self.invariant.shape c.index.ensures c.requires in
    record { pages = r.pages; page_bytes = r.page_bytes; stands = r.stands }
