use Rattle.std.proofs.Common.{◌<◌, ◌||◌, ◌∙◌, Bool, [], length, get_or, ap, sym, arith}
use Rattle.std.proofs.lemmas.List.{take_all}
use Rattle.std.proofs.lemmas.List.Folds.{list_any_more, list_any_at}
use Rattle.page_ring.specs.Account.{has_waiting}
use Rattle.trace_buffer.specs.Families.{any_has_waiting}
use Rattle.trace_buffer.proofs.Rings.{stands_count}
use Rattle.trace_buffer.proofs.buffer.Buffer.has_waiting.Goals as goal

pub loop-cpu-preserved : goal.loop-cpu-preserved
loop-cpu-preserved c =
    let i = c.loop-cpu.invariant in
    let p = has_waiting c.args.self.now.pages c.args.self.now.page_bytes in
    record {
      none = λ family h.
          let inside : c.loop-cpu.cpu < length family = omega (arith, stands_count _ family h, i.end, c.loop-cpu-test.true) in
          list_any_more p family c.loop-cpu.cpu [] inside
          ∙ ap (λ (b : Bool). b || p (get_or family c.loop-cpu.cpu [])) (i.none family h)
          ∙ sym (c.cpu_has_waiting.ensures family h) ∙ c.if-cpu_has_waiting.false;
      end = i.end;
    }

pub returns-then-cpu_has_waiting : goal.returns-then-cpu_has_waiting
returns-then-cpu_has_waiting c = λ family h.
    let i = c.loop-cpu.invariant in
    let p = has_waiting c.args.self.now.pages c.args.self.now.page_bytes in
    let inside : c.loop-cpu.cpu < length family = omega (arith, stands_count _ family h, i.end, c.loop-cpu-test.true) in
    sym (list_any_at p family c.loop-cpu.cpu [] inside (sym (c.cpu_has_waiting.ensures family h) ∙ c.if-cpu_has_waiting.true))

pub returns : goal.returns
returns c = λ family h.
    let i = c.loop-cpu.invariant in
    sym (i.none family h)
    ∙ ap (any_has_waiting c.args.self.now.pages c.args.self.now.page_bytes)
    (take_all c.loop-cpu.cpu family (omega (arith, stands_count _ family h, i.end, c.loop-cpu-test.false)))
