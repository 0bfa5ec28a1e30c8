use Rattle.std.proofs.Common.{◌≡◌, ◌-◌, ◌++◌, List, ◌∷◌, map, take, ap, sym, ◌∙◌, arith, rules}
use Rattle.page_ring.specs.Account.{Reading}
use Rattle.page_ring.specs.Reading.{reading}
use Rattle.trace_buffer.specs.CpuReadings.{taken_reading}
use Rattle.trace_buffer.specs.Families.{on_cpu}
use Rattle.trace_buffer.proofs.Lists.{take_front, moved_one}
use Rattle.trace_buffer.proofs.taken.push_taken.Goals as goal

pub loop-kept-preserved : goal.loop-kept-preserved
loop-kept-preserved c =
    let left = c.loop-kept.left in
    let first : c.loop-kept.kept-iterator ≡ reading c.in-Some.kept ∷ c.next.new.self = search rules in
    let taken : take left c.loop-kept.kept-iterator ≡ reading c.in-Some.kept ∷ take (left - 1) c.next.new.self
    = ap (λ (rs : List Reading). take left rs) first ∙ take_front left (reading c.in-Some.kept) c.next.new.self (omega arith) in
    moved_one taken_reading c.loop-kept.out.items c.push.new.self.items c.new.result (on_cpu c.args.cpu (reading c.in-Some.kept)) _ _
    (ap (λ (rs : List Reading). map taken_reading c.loop-kept.out.items ++ map (on_cpu c.args.cpu) rs) (sym taken) ∙ c.loop-kept.invariant)
    c.in_ok-push.ensures.items c.new.ensures
