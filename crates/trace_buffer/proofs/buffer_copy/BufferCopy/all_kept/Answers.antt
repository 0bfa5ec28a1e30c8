use Rattle.std.proofs.Common.{◌<◌, ◌++◌, List, length, map, take, ap, sym, ◌∙◌, arith}
use Rattle.std.proofs.lemmas.List.{take_all}
use Rattle.page_ring.specs.Account.{Reading}
use Rattle.page_ring.specs.Copies.{Copied}
use Rattle.trace_buffer.specs.Families.{CpuReading, on_cpu}
use Rattle.trace_buffer.specs.Copies.{copied_from}
use Rattle.trace_buffer.proofs.CopiesFacts.{copied_from-more}
use Rattle.trace_buffer.proofs.buffer_copy.BufferCopy.all_kept.Goals as goal

pub loop-cpu-preserved : goal.loop-cpu-preserved
loop-cpu-preserved c =
    let i = c.loop-cpu.invariant in
    let d : Copied = record { stats = record { entries = 0; overrun = 0; bytes = 0; oldest = 0; dropped = 0; read = 0 }; readings = c.cpu_kept.result } in
    let inside : c.loop-cpu.cpu < length c.args.self.now = omega (arith, i.end) in
    record {
      kept = c.in_ok-push_kept.ensures ∙ ap (λ (all : List CpuReading). all ++ map (on_cpu c.loop-cpu.cpu) c.cpu_kept.result) i.kept
          ∙ ap (λ (readings : List Reading). copied_from 0 (take c.loop-cpu.cpu c.args.self.now) ++ map (on_cpu c.loop-cpu.cpu) readings) (c.cpu_kept.ensures.records d)
          ∙ sym (copied_from-more 0 c.loop-cpu.cpu c.loop-cpu.cpu c.args.self.now d (omega arith) inside);
      end = i.end;
    }

pub returns : goal.returns
returns c =
    c.loop-cpu.invariant.kept
    ∙ ap (copied_from 0) (take_all c.loop-cpu.cpu c.args.self.now (omega (arith, c.loop-cpu.invariant.end)))
