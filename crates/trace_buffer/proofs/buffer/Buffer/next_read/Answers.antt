use Rattle.std.proofs.Common.{◌≡◌, ℕ, ◌-◌, ◌<◌, [], length, map, get_or, ap, sym, ◌∙◌, arith}
use Rattle.std.proofs.lemmas.List.{length-map}
use Rattle.page_ring.specs.Account.{readings_of}
use Rattle.trace_buffer.specs.Families.{events_of}
use Rattle.trace_buffer.specs.private.Nexts.{first_time}
use Rattle.trace_buffer.proofs.Consumed.{get_or-readings}
use Rattle.trace_buffer.proofs.NextReads.{next_of-drop, next_of-end, sooner_of-below}
use Rattle.trace_buffer.proofs.Rings.{stands_count}
use Rattle.trace_buffer.proofs.buffer.Buffer.next_read.Goals as goal

pub loop-cpu-init : goal.loop-cpu-init
loop-cpu-init c = record {
  next = λ family h.
      let f = readings_of c.args.self.now.pages c.args.self.now.page_bytes in
      next_of-end (map f family) c.cpus-cpu.result
      (omega (arith, length-map family f, stands_count _ family h, c.cpus-cpu.ensures.cpus));
  below = tt;
  all = omega (arith, c.cpus-cpu.ensures.cpus);
}

pub loop-cpu-preserved : goal.loop-cpu-preserved
loop-cpu-preserved c =
    let i = c.loop-cpu.invariant in
    let cpu = c.loop-cpu.cpu - 1 in
    record {
      next = λ family h.
          let pages = c.args.self.now.pages in
          let page_bytes = c.args.self.now.page_bytes in
          let f = readings_of pages page_bytes in
          let inside : cpu < length family = omega (arith, stands_count _ family h, i.all) in
          let time : c.peek_ts.result ≡ first_time (get_or (map f family) cpu [])
          = c.peek_ts.ensures (events_of family cpu) (c.ring.ensures.stands family h)
          ∙ ap (λ (p : ℕ). first_time (readings_of p c.ring.result.now.page_bytes (events_of family cpu))) c.ring.ensures.pages
          ∙ ap (λ (b : ℕ). first_time (readings_of pages b (events_of family cpu))) c.ring.ensures.page_bytes
          ∙ ap first_time (sym (get_or-readings pages page_bytes family cpu inside)) in
          next_of-drop (map f family) cpu c.loop-cpu.cpu c.peek_ts.result c.loop-cpu.next c.sooner-next.result (omega arith)
          (omega (arith, length-map family f, inside)) time (i.next family h) c.sooner-next.ensures;
      below = sooner_of-below cpu _ c.peek_ts.result c.loop-cpu.next c.sooner-next.result c.sooner-next.ensures (omega (arith, i.all)) i.below;
      all = omega (arith, i.all);
    }
