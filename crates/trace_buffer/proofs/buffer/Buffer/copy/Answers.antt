use Rattle.std.proofs.Common.{◌≡◌, ℕ, ◌+◌, ◌<◌, ◌++◌, [], ◌∷◌, length, map, get_or, ap, ◌∙◌, arith}
use Rattle.std.proofs.lemmas.List.{map_more, take_all, length_push}
use Rattle.page_ring.specs.Copies.{copied_of}
use Rattle.trace_buffer.proofs.Rings.{stands_count}
use Rattle.trace_buffer.proofs.buffer.Buffer.copy.Goals as goal

pub loop-cpu-preserved : goal.loop-cpu-preserved
loop-cpu-preserved c =
    let i = c.loop-cpu.invariant in
    let pushed : c.push.new.self.items ≡ c.loop-cpu.rings.items ++ c.in_ok-copy_cpu.field-0 ∷ [] = c.in_ok-push.ensures.items in
    record {
      copied = λ family h.
          let inside : c.loop-cpu.cpu < length family = omega (arith, stands_count _ family h, i.end) in
          let one : c.in_ok-copy_cpu.field-0 ≡ copied_of c.args.self.now.pages c.args.self.now.page_bytes (get_or family c.loop-cpu.cpu [])
          = c.in_ok-copy_cpu.ensures family h in
          let all = i.copied family h in
          let more = map_more (copied_of c.args.self.now.pages c.args.self.now.page_bytes) family c.loop-cpu.cpu [] inside in
          cc;
      count = ap length pushed ∙ length_push c.loop-cpu.rings.items c.in_ok-copy_cpu.field-0 ∙ ap (λ (n : ℕ). n + 1) i.count;
      end = i.end;
    }

pub returns : goal.returns
returns c = λ family h.
    let count = stands_count _ family h in
    c.new.ensures ∙ c.loop-cpu.invariant.copied family h
    ∙ ap (map (copied_of c.args.self.now.pages c.args.self.now.page_bytes))
    (take_all c.loop-cpu.cpu family (omega (arith, count, c.loop-cpu.invariant.end)))
