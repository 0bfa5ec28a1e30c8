use Rattle.std.proofs.Common.{◌≡◌, ◌++◌, ℕ, List, codes, length, map, min, ap, ◌∙◌, append_assoc}
use Rattle.std.proofs.lemmas.List.{drop-map, length-map, length_push}
use Rattle.trace_format.specs.Cells.{datum_of}
use Rattle.std.proofs.lemmas.Slice.Zip.{zip_end, zip_turn}
use Rattle.trace_text.specs.EntryText.{key_text}
use Rattle.trace_text.proofs.ZipLemmas.{all_written}
use Rattle.trace_format.proofs.LoopLemmas.{left}
use Rattle.trace_text.proofs.LoopLemmas.{pair_more}
use Rattle.trace_text.proofs.entry.push_further_keys.Goals as goal

pub returns : goal.returns
returns c =
    let keys = c.args.keys.now in
    let values = c.args.values.now in
    let turns : length c.loop-key.yielded ≡ min (length keys) (length values) =
    zip_end keys values c.loop-key.yielded c.into_iter-key-iterator.result c.loop-key.key-iterator c.next.new.self c.next.result (cc) (cc) c.loop-key.yielded_by c.in-None.is c.next.ensures.steps in
    all_written (λ key. codes ", " ++ key_text key) keys (map datum_of values) (length c.loop-key.yielded) c.loop-key.out.items _ (rw length-map turns) (rw drop-map c.loop-key.invariant)

pub loop-key-preserved : goal.loop-key-preserved
loop-key-preserved c =
    let keys = c.args.keys.now in
    let values = c.args.values.now in
    let turn = zip_turn keys values c.loop-key.yielded c.into_iter-key-iterator.result c.loop-key.key-iterator c.next.new.self c.next.result (cc) (cc) c.loop-key.yielded_by
    (c.in-Some.key, c.in-Some.value) c.in-Some.is c.next.ensures.steps in
    let n = length c.loop-key.yielded in
    let first = left keys n c.in-Some.key.now turn.0 (turn.2 c.in-Some.key.now) in
    let second = left values n c.in-Some.value.now turn.1 (turn.3 c.in-Some.value.now) in
    rw (length_push c.loop-key.yielded (c.in-Some.key, c.in-Some.value))
    (pair_more (λ key. codes ", " ++ key_text key) c.in-Some.key.now (datum_of c.in-Some.value.now) _ _ _ _ _ _ _ first (ap (map datum_of) second)
    (c.in_ok-push_key.ensures ∙ ap (λ (text : List ℕ). text ++ key_text (c.in-Some.key.now, datum_of c.in-Some.value.now)) c.in_ok-push.ensures.text ∙ append_assoc c.loop-key.out.items (codes ", ") (key_text (c.in-Some.key.now, datum_of c.in-Some.value.now)))
    c.loop-key.invariant)
