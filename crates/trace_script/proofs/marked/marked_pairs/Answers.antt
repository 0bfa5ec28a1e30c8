use Rattle.std.proofs.Common.{◌+◌, arith}
use Rattle.std.proofs.lemmas.List.{drop_all}
use Rattle.trace_script.proofs.BareEmissions.{pairs_more, pairs_all}
use Rattle.trace_script.proofs.MarkLemmas.{bare_after}
use Rattle.trace_script.proofs.marked.marked_pairs.Goals as goal

pub returns-then-end-rest-clause-whole : goal.returns-then-end-rest-clause-whole
returns-then-end-rest-clause-whole c =
    λ _. rw c.in_ok-push.ensures.items (pairs_all _ _ _ _ _ c.loop-pair.invariant.taken c.in-Some.ensures.pair
    (drop_all (c.in-Some.end + 1) c.loop-pair.rest.text.now (omega arith)))

pub loop-pair-preserved : goal.loop-pair-preserved
loop-pair-preserved c =
    record {
      bare = rw c.without-rest.ensures.text (bare_after _ _ c.loop-pair.invariant.bare);
      marked = c.without-rest.ensures.marked;
      taken = rw (c.in_ok-push.ensures.items, c.without-rest.ensures.text) (pairs_more _ _ _ _ _ c.loop-pair.invariant.taken c.in-Some.ensures.pair);
    }
