use Rattle.std.proofs.Common.{◌≡◌, ◌*◌, ◌≤◌, ◌^◌, length, arith}
use Rattle.trace_buffer.specs.Buffers.{cpus}
use Rattle.trace_buffer.proofs.Bounds.{kept_count-small}
use Rattle.trace_buffer.proofs.Rings.{stands_count}
use Rattle.trace_buffer.proofs.buffer.Buffer.entries.Goals as goal

pub returns : goal.returns
returns c = record {
  few = λ family stands.
      let many : length family ≡ cpus c.args.self.now = stands_count c.args.self.now family stands in
      let small = kept_count-small c.args.self.now.pages c.args.self.now.page_bytes (2 ^ 32) family
      (λ j inside. c.loop-cpu.invariant.few family stands j (omega (arith, inside, many, c.loop-cpu-test.false, c.loop-cpu.auto.cpu-end, c.cpus-cpu-end.ensures.cpus))) in
      omega (arith, small, many, c.cpus-cpu-end.ensures.cpus, c.cpus-cpu-end.ensures.range);
}
