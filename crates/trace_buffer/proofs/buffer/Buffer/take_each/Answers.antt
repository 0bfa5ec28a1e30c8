use Rattle.std.proofs.Common.{◌<◌, ℕ, List, length, min, get_or, take, sym, ap, subst, ◌∙◌, arith, add-one}
use Rattle.page_ring.specs.Events.{Event}
use Rattle.trace_buffer.specs.Buffers.{StandsFor}
use Rattle.trace_buffer.specs.Families.{cpu_readings}
use Rattle.trace_buffer.specs.Orders.{after_cpu_reads}
use Rattle.trace_buffer.specs.CpuCounts.{after_reads_of_each}
use Rattle.trace_buffer.proofs.EachCpu.{one_cpu_more, first_counts}
use Rattle.trace_buffer.proofs.Rings.{stands_count}
use Rattle.trace_buffer.proofs.buffer.Buffer.take_each.Goals as goal

pub loop-cpu-preserved : goal.loop-cpu-preserved
loop-cpu-preserved c =
    let i = c.loop-cpu.invariant in
    let cpu = c.loop-cpu.cpu in
    let pages = c.args.self.now.pages in
    let page_bytes = c.args.self.now.page_bytes in
    let counts = c.args.counts.now in
    record {
      stands = λ family h.
          let before = after_reads_of_each pages page_bytes (take cpu counts) family in
          let inside : cpu < length family = omega (arith, stands_count _ family h, i.end, c.loop-cpu-test.true) in
          let counted : cpu < length counts = omega (arith, c.told-counts, c.loop-cpu-test.true, c.cpus-cpu-end.ensures.range) in
          subst (λ (f : List (List Event)). StandsFor c.take_cpu-taken.new.self f)
          (ap (λ (p : ℕ). after_cpu_reads cpu (min (get_or counts cpu 0) (length (cpu_readings p c.loop-cpu.self.page_bytes before cpu))) before) i.pages
          ∙ ap (λ (b : ℕ). after_cpu_reads cpu (min (get_or counts cpu 0) (length (cpu_readings pages b before cpu))) before) i.page_bytes
          ∙ one_cpu_more pages page_bytes counts family cpu counted inside
          ∙ ap (λ (k : ℕ). after_reads_of_each pages page_bytes (take k counts) family) (sym (add-one cpu)))
          (c.take_cpu-taken.ensures.stands before (i.stands family h));
      many = c.take_cpu-taken.ensures.cpus ∙ i.many;
      pages = c.take_cpu-taken.ensures.pages ∙ i.pages;
      page_bytes = c.take_cpu-taken.ensures.page_bytes ∙ i.page_bytes;
      offers = c.take_cpu-taken.ensures.offers ∙ i.offers;
      end = i.end;
    }

pub returns-clause-stands : goal.returns-clause-stands
returns-clause-stands c = λ family h.
    let i = c.loop-cpu.invariant in
    subst (λ (f : List (List Event)). StandsFor c.loop-cpu.self f)
    (first_counts c.args.self.now.pages c.args.self.now.page_bytes c.args.counts.now family c.loop-cpu.cpu
    (omega (arith, stands_count _ family h, i.end, c.loop-cpu-test.false)))
    (i.stands family h)
