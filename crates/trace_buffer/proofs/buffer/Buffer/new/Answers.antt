use Rattle.std.proofs.Common.{◌≡◌, ◌++◌, ℕ, List, [], ◌∷◌, map, replicate, ap, subst, ◌∙◌, arith}
use Rattle.std.proofs.lemmas.List.{map_push, replicate_more}
use Rattle.page_ring.specs.Events.{Event}
use Rattle.page_ring.specs.Shown as ring
use Rattle.trace_buffer.specs.Buffers.{EachStandsFor, StandsFor}
use Rattle.trace_buffer.proofs.Rings.{stands_push, shape_push}
use Rattle.trace_buffer.proofs.buffer.Buffer.new.Goals as goal

pub loop-cpu-preserved : goal.loop-cpu-preserved
loop-cpu-preserved c =
    let i = c.loop-cpu.invariant in
    let pushed : c.push.new.self.items ≡ c.loop-cpu.rings.items ++ c.in_ok-new.field-0 ∷ [] = c.in_ok-push.ensures.items in
    record {
      stands = rw (pushed, ← replicate_more c.loop-cpu._cpu (let none : List Event = [] in none))
          (stands_push _ _ _ _ i.stands c.in_ok-new.ensures.stands);
      shape = rw pushed (shape_push _ _ _ _ i.shape c.in_ok-new.ensures.pages c.in_ok-new.ensures.page_bytes);
      offers = ap (map ring.offered) pushed ∙ map_push ring.offered c.loop-cpu.rings.items c.in_ok-new.field-0
          ∙ ap (λ (n : ℕ). map ring.offered c.loop-cpu.rings.items ++ n ∷ []) c.in_ok-new.ensures.offered
          ∙ ap (λ (ns : List ℕ). ns ++ 0 ∷ []) i.offers ∙ replicate_more c.loop-cpu._cpu 0;
    }

pub returns-clause-stands : goal.returns-clause-stands
unfolding StandsFor
returns-clause-stands c =
    let all : c.loop-cpu._cpu ≡ c.args.cpus = omega arith in
    subst (λ (n : ℕ). EachStandsFor c.loop-cpu.rings.items (replicate n (let none : List Event = [] in none))) all c.loop-cpu.invariant.stands
