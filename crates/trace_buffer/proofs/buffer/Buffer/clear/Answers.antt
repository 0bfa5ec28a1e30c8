use Rattle.std.proofs.Common.{◌≡◌, ◌<◌, ℕ, List, [], length, replicate, set, ap, sym, subst, ◌∙◌, arith}
use Rattle.std.proofs.lemmas.List.{length-map}
use Rattle.page_ring.specs.Events.{Event}
use Rattle.page_ring.specs.Shown as ring
use Rattle.trace_buffer.specs.Buffers.{StandsFor, offers}
use Rattle.trace_buffer.proofs.Rings.{stands_count, set-replaced, all_replaced}
use Rattle.trace_buffer.proofs.buffer.Buffer.clear.Goals as goal

pub loop-cpu-preserved : goal.loop-cpu-preserved
loop-cpu-preserved c =
    let i = c.loop-cpu.invariant in
    let none : List Event = [] in
    let many = length-map c.args.self.now.rings ring.offered in
    record {
      stands = λ family h.
          let inside : c.loop-cpu.cpu < length family = omega (arith, stands_count _ family h, i.end) in
          subst (λ (f : List (List Event)). StandsFor c.clear_cpu.new.self f) (set-replaced c.loop-cpu.cpu none family inside)
          (c.clear_cpu.ensures.stands _ (i.stands family h));
      many = c.clear_cpu.ensures.cpus ∙ i.many;
      pages = c.clear_cpu.ensures.pages ∙ i.pages;
      page_bytes = c.clear_cpu.ensures.page_bytes ∙ i.page_bytes;
      offers = c.clear_cpu.ensures.offers ∙ ap (λ (ns : List ℕ). set ns c.loop-cpu.cpu 0) i.offers
          ∙ set-replaced c.loop-cpu.cpu 0 (offers c.args.self.now) (omega (arith, many, i.end));
      end = i.end;
    }

pub returns-clause-stands : goal.returns-clause-stands
returns-clause-stands c = λ family h.
    let i = c.loop-cpu.invariant in
    let none : List Event = [] in
    let count = stands_count _ family h in
    let all : c.loop-cpu.cpu ≡ length family = omega (arith, count, i.end) in
    subst (λ (f : List (List Event)). StandsFor c.loop-cpu.self f)
    (all_replaced c.loop-cpu.cpu none family (sym all) ∙ ap (λ (n : ℕ). replicate n none) all) (i.stands family h)
