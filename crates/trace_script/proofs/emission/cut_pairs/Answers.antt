use Rattle.std.proofs.Common.{sym, ap, ◌∙◌, length, length-drop, arith}
use Rattle.std.proofs.lemmas.List.{drop_all}
use Rattle.trace_script.proofs.BareEmissions.{no_pairs_yet, some_pairs, pairs_more, pairs_all, pairs_wrong}
use Rattle.trace_script.proofs.BarePairs.{tail_is}
use Rattle.trace_script.proofs.emission.cut_pairs.Goals as goal

pub loop-pair-init : goal.loop-pair-init
loop-pair-init c = record { bare = c.requires; taken = rw c.clear.ensures.items (no_pairs_yet c.args.line.now); spaced = λ e. e }

pub loop-pair-preserved : goal.loop-pair-preserved
loop-pair-preserved c =
    let after = c.in-Some.after.now in
    let cut = c.in-Some.ensures in
    record {
      bare = rw (tail_is after) cut.bare;
      taken = rw (c.in_ok-push.ensures.items, tail_is after) (pairs_more _ _ _ _ _ c.loop-pair.invariant.taken cut.pair);
      spaced = λ e. rw (tail_is after) (cut.spaced (c.loop-pair.invariant.spaced e) (λ none. absurd (omega (arith, c.in-len1-up.len_at_least, ap length none))));
    }

pub loop-pair-smaller : goal.loop-pair-smaller
loop-pair-smaller c =
    let after = c.in-Some.after.now in
    omega (arith, ap length (tail_is after), length-drop 1 after, c.in-Some.ensures.shorter)

pub returns-in_default-after-clause-whole : goal.returns-in_default-after-clause-whole
returns-in_default-after-clause-whole c =
    λ _. rw c.in_ok-push.ensures.items (pairs_all _ _ _ _ _ c.loop-pair.invariant.taken c.in-Some.ensures.pair
    (drop_all 1 c.in-Some.after.now (omega (arith, c.in_default-after.len_below))))

pub returns-in_default-after-clause-some : goal.returns-in_default-after-clause-some
returns-in_default-after-clause-some c = λ _ e. some_pairs _ _ (sym c.in_ok-push.ensures.items ∙ e)

pub returns-clause-wrong : goal.returns-clause-wrong
returns-clause-wrong c =
    λ _ e. pairs_wrong _ _ _ c.loop-pair.invariant.taken (c.in_default.ensures.none (c.loop-pair.invariant.spaced e))
