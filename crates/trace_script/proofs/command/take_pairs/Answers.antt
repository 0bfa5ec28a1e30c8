use Rattle.std.proofs.Common.{◌++◌, List, ap, sym, ◌∙◌}
use Rattle.std.specs.Option.{option_map}
use Rattle.trace_format.specs.declared.pair.Pair.{Pair}
use Rattle.trace_script.proofs.CommandLemmas.{pairs_append}
use Rattle.trace_script.proofs.TakenCommands.{pair_taken, none_taken, pairs_done, pairs_redirected, no_pair}
use Rattle.trace_script.proofs.command.take_pairs.Goals as goal

pub returns-in_default-token : goal.returns-in_default-token
returns-in_default-token c = pairs_redirected _ _ _ _ _ c.loop-token.invariant (rw c.in_default-token.is at c.in-Some.ensures)

pub returns-in_default-pair : goal.returns-in_default-pair
returns-in_default-pair c =
    no_pair _ _ _ _ _ c.loop-token.invariant (rw c.in-Word.is at c.in-Some.ensures) (rw c.as_bytes.ensures at (sym c.in_default-pair.ensures))

pub loop-token-preserved : goal.loop-token-preserved
loop-token-preserved c =
    let before = c.loop-token.pairs.items in
    let taken = pair_taken _ _ _ _ (rw c.in-Word.is at c.in-Some.ensures) (rw c.as_bytes.ensures at (sym c.in-Some-pair.ensures)) in
    rw c.in_ok-push.ensures.items
    (pairs_append _ _ _ ∙ (ap (λ rest. option_map (λ (more : List Pair). before ++ more) rest) (sym taken.pairs) ∙ c.loop-token.invariant))

pub returns : goal.returns
returns c = pairs_done _ _ _ c.loop-token.invariant (none_taken c.next.result _ _ c.next.ensures c.in_default.not-Some)
