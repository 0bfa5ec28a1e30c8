use Rattle.std.proofs.Common.{◌≡◌, ◌++◌, ℤ, length, min, ap, ◌∙◌, rules, to_z, of_z}
use Rattle.std.specs.Int.{w128}
use Rattle.std.proofs.lemmas.Int.{to_z-of_z}
use Rattle.std.proofs.lemmas.List.{length_push}
use Rattle.std.proofs.lemmas.Slice.Zip.{zip_end, zip_turn}
use Rattle.trace_text.specs.EntryText.{sum_text}
use Rattle.trace_text.proofs.ZipLemmas.{all_written}
use Rattle.trace_format.proofs.LoopLemmas.{left}
use Rattle.trace_text.proofs.LoopLemmas.{pair_more}
use Rattle.trace_text.proofs.entry.push_sums.Goals as goal

pub returns : goal.returns
returns c =
    let names = c.args.names.now in
    let sums = c.args.sums.now in
    let turns : length c.loop-name.yielded ≡ min (length names) (length sums) =
    zip_end names sums c.loop-name.yielded c.into_iter-name-iterator.result c.loop-name.name-iterator c.next.new.self c.next.result (cc) (cc) c.loop-name.yielded_by c.in-None.is c.next.ensures.steps in
    all_written sum_text names sums (length c.loop-name.yielded) c.loop-name.out.items _ turns c.loop-name.invariant

pub loop-name-preserved : goal.loop-name-preserved
loop-name-preserved c =
    let names = c.args.names.now in
    let sums = c.args.sums.now in
    let turn = zip_turn names sums c.loop-name.yielded c.into_iter-name-iterator.result c.loop-name.name-iterator c.next.new.self c.next.result (cc) (cc) c.loop-name.yielded_by
    (c.in-Some.name, c.in-Some.sum) c.in-Some.is c.next.ensures.steps in
    let same : to_z w128 (of_z w128 c.in-Some.sum.now) ≡ c.in-Some.sum.now = to_z-of_z w128 c.in-Some.sum.now (search rules) in
    let n = length c.loop-name.yielded in
    let first = left names n c.in-Some.name.now turn.0 (turn.2 c.in-Some.name.now) in
    let second = left sums n c.in-Some.sum.now turn.1 (turn.3 c.in-Some.sum.now) in
    rw (length_push c.loop-name.yielded (c.in-Some.name, c.in-Some.sum))
    (pair_more sum_text c.in-Some.name.now c.in-Some.sum.now _ _ _ _ _ _ _ first second
    (c.in_ok-push_sum.ensures ∙ ap (λ (sum : ℤ). c.loop-name.out.items ++ sum_text (c.in-Some.name.now, sum)) same) c.loop-name.invariant)
