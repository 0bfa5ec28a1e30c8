use Rattle.trace_buffer.proofs.CopiesFacts.{copied_at}
use Rattle.trace_buffer.proofs.buffer.Buffer.copy_cpu.Goals as goal

pub returns : goal.returns
returns c =
    copied_at c.args.self.now c.ring.result.now c.args.cpu c.copy.result c.ring.ensures.pages c.ring.ensures.page_bytes c.ring.ensures.stands c.copy.ensures
