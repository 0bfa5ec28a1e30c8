use Rattle.std.proofs.Common.{◌≡◌, ◌+◌, ◌||◌, ◌++◌, All, drop, is_err, length}
use Rattle.std.specs.List.{list_any}
use Rattle.tracer_specification.specs.Blocks.{IsUnworn}
use Rattle.parallel_output.specs.ThreadTexts.{told_if}
use Rattle.trace_session.specs.PartTexts.{numbered_threads, outcomes_of_threads, replies_in, items_in, AreNumbered}
use Rattle.trace_session.proofs.part_text.write_threads.Given as goal

-- what was written and what is left to write are all
abbrev pub invariant-loop-part : goal.invariant-loop-part
invariant-loop-part l = record {
  left : l.thread + length l.part-iterator.rest.items ≡ length l.numbers;
  numbered : AreNumbered (items_in (drop l.thread l.numbers)) (replies_in l.part-iterator.rest.items);
  text : l.transcript.text.items ++ numbered_threads l.thread (items_in (drop l.thread l.numbers)) (replies_in l.part-iterator.rest.items)
      ≡ numbered_threads 0 (items_in l.numbers) (replies_in l.fn.done.items);
  outcomes : l.transcript.outcomes.items ++ told_if l.is_told (outcomes_of_threads (items_in (drop l.thread l.numbers)) (replies_in l.part-iterator.rest.items))
      ≡ told_if l.is_told (outcomes_of_threads (items_in l.numbers) (replies_in l.fn.done.items));
  refused : (l.transcript.is_refused || list_any (list_any is_err) (replies_in l.part-iterator.rest.items)) ≡ list_any (list_any is_err) (replies_in l.fn.done.items);
  unworn : All IsUnworn (replies_in l.part-iterator.rest.items) → All IsUnworn (replies_in l.fn.done.items);
}
