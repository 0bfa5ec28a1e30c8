use Rattle.std.proofs.Common.{◌<◌, ◌++◌, List, length, map, take, ap, sym, ◌∙◌, arith}
use Rattle.std.proofs.lemmas.List.{take_all}
use Rattle.trace_buffer.specs.Families.{CpuReading, on_cpu}
use Rattle.trace_buffer.specs.Orders.{kept_from}
use Rattle.trace_buffer.proofs.Merges.{kept_from-more}
use Rattle.trace_buffer.proofs.Rings.{stands_count}
use Rattle.trace_buffer.proofs.buffer.Buffer.all_kept.Goals as goal

pub loop-cpu-preserved : goal.loop-cpu-preserved
loop-cpu-preserved c =
    let i = c.loop-cpu.invariant in
    record {
      kept = λ family h.
          let inside : c.loop-cpu.cpu < length family = omega (arith, stands_count _ family h, i.end) in
          c.in_ok-push_kept.ensures ∙ ap (λ (all : List CpuReading). all ++ map (on_cpu c.loop-cpu.cpu) c.cpu_kept.result) (i.kept family h)
          ∙ ap (λ readings. kept_from c.args.self.now.pages c.args.self.now.page_bytes 0 (take c.loop-cpu.cpu family)
          ++ map (on_cpu c.loop-cpu.cpu) readings) (c.cpu_kept.ensures.records family h)
          ∙ sym (kept_from-more c.args.self.now.pages c.args.self.now.page_bytes 0 c.loop-cpu.cpu c.loop-cpu.cpu family (omega arith) inside);
      end = i.end;
    }

pub returns : goal.returns
returns c = λ family h.
    let count = stands_count _ family h in
    c.loop-cpu.invariant.kept family h
    ∙ ap (kept_from c.args.self.now.pages c.args.self.now.page_bytes 0)
    (take_all c.loop-cpu.cpu family (omega (arith, count, c.loop-cpu.invariant.end)))
