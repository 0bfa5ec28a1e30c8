use Rattle.std.proofs.Common.{◌≡◌, ◌-◌, ◌+◌, ◌++◌, List, length, map, Option, Some, ap, sym, ◌∙◌, arith, length-set}
use Rattle.std.proofs.lemmas.List.{append-nil}
use Rattle.page_ring.specs.Account.{Reading}
use Rattle.page_ring.specs.Reading.{reading}
use Rattle.trace_buffer.specs.CpuReadings.{taken_reading}
use Rattle.trace_buffer.specs.Families.{CpuReading, on_cpu}
use Rattle.trace_buffer.specs.private.Nexts.{next_of}
use Rattle.trace_buffer.specs.declared.times.Next.{Next}
use Rattle.trace_buffer.proofs.Lists.{moved_one}
use Rattle.trace_buffer.proofs.NextReads.{next_of-none, next_of-some, next_length, taken_in_order-none, taken_in_order-next}
use Rattle.trace_buffer.proofs.cursor.read_in_order.Goals as goal

next_here : (lists now : List (List Reading)) (result : Option Next) (next : Next) → result ≡ next_of 0 now → now ≡ lists → result ≡ Some next
    → next_of 0 lists ≡ Some next
next_here lists now result next e value is = sym (e ∙ ap (next_of 0) value) ∙ is

pub returns-in_default : goal.returns-in_default
returns-in_default c =
    let lists = c.loop-read.cursors.items in
    let next : c.next_read.result ≡ next_of 0 lists = c.next_read.ensures ∙ ap (next_of 0) c.deref.ensures.value in
    let none = taken_in_order-none (c.args.limit - c.loop-read._read) lists (next_of-none lists (sym next ∙ c.in_default.is)) in
    sym (append-nil (map taken_reading c.loop-read.records.items))
    ∙ ap (λ (l : List CpuReading). map taken_reading c.loop-read.records.items ++ l) (sym none) ∙ c.loop-read.invariant.taken

pub index_mut-requires : goal.index_mut-requires
index_mut-requires c =
    let next : next_of 0 c.loop-read.cursors.items ≡ Some c.in-Some.next = next_here _ _ _ _ c.next_read.ensures c.deref.ensures.value c.in-Some.is in
    let inside = (next_of-some c.loop-read.cursors.items c.in-Some.next next).inside in
    omega (arith, inside, c.deref.ensures.len, ap length c.deref.ensures.value)

pub advance-kept-requires : goal.advance-kept-requires
advance-kept-requires c =
    let next : next_of 0 c.loop-read.cursors.items ≡ Some c.in-Some.next = next_here _ _ _ _ c.next_read.ensures c.deref.ensures.value c.in-Some.is in
    next_length c.loop-read.cursors.items c.in-Some.next c.index_mut.result.now (next_of-some _ _ next) c.index_mut.ensures.value

pub loop-read-preserved : goal.loop-read-preserved
loop-read-preserved c =
    let lists = c.loop-read.cursors.items in
    let next : next_of 0 lists ≡ Some c.in-Some.next = next_here _ _ _ _ c.next_read.ensures c.deref.ensures.value c.in-Some.is in
    let left = c.args.limit - (c.loop-read._read + 1) in
    let more = taken_in_order-next lists c.in-Some.next c.index_mut.result.now c.advance-kept.new.self (reading c.advance-kept.result)
    (c.args.limit - c.loop-read._read) left (next_of-some _ _ next) c.index_mut.ensures.value c.advance-kept.ensures (omega arith) in
    record {
      taken = moved_one taken_reading c.loop-read.records.items c.push.new.self.items c.new.result
          (on_cpu c.in-Some.next.cpu (reading c.advance-kept.result)) _ _
          (ap (λ (l : List CpuReading). map taken_reading c.loop-read.records.items ++ l) (sym more) ∙ c.loop-read.invariant.taken)
          c.in_ok-push.ensures.items c.new.ensures;
      few = rw length-set c.loop-read.invariant.few;
    }
