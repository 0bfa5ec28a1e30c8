use Rattle.std.proofs.Common.{◌≡◌, ◌≢◌, ◌+◌, ◌||◌, ◌++◌, All, Err, drop, is_err, length}
use Rattle.std.specs.List.{list_any}
use Rattle.trace_command.specs.declared.refusal.Refusal.TheVariants.{Worn}
use Rattle.parallel_output.specs.ThreadTexts.{numbered_text, numbered_outcomes, told_if}
use Rattle.parallel_output.proofs.transcript.Transcript.add_replies.Given as goal

-- what was written and what is left to write are all
abbrev pub invariant-loop-reply : goal.invariant-loop-reply
invariant-loop-reply l = record {
  left : l.i + length l.reply-iterator.rest.items ≡ length l.numbers;
  text : l.self.text.items ++ numbered_text (drop l.i l.numbers) l.reply-iterator.rest.items ≡ l.initial.self.text.items ++ numbered_text l.numbers l.fn.replies.items;
  outcomes : l.self.outcomes.items ++ told_if l.is_told (numbered_outcomes (drop l.i l.numbers) l.reply-iterator.rest.items)
      ≡ l.initial.self.outcomes.items ++ told_if l.is_told (numbered_outcomes l.numbers l.fn.replies.items);
  refused : (l.self.is_refused || list_any is_err l.reply-iterator.rest.items) ≡ (l.initial.self.is_refused || list_any is_err l.fn.replies.items);
  unworn : All (λ reply. reply ≢ Err Worn) l.reply-iterator.rest.items → All (λ reply. reply ≢ Err Worn) l.fn.replies.items;
}
