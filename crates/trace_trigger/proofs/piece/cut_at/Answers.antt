use Rattle.std.proofs.Common.{◌≡◌, ◌<◌, ◌+◌, suc, length, List, [], ◌∷◌, ◌++◌, take, drop, ap, sym, ◌∙◌, arith}
use Rattle.std.proofs.lemmas.List.{drop-drop, length-drop}
use Rattle.trace_trigger.specs.declared.piece.ListItem.{ListItem}
use Rattle.trace_trigger.specs.HistPieces.{pieces_of}
use Rattle.trace_trigger.proofs.PieceLemmas.{pieces-ended, pieces-more}
use Rattle.trace_trigger.proofs.piece.cut_at.Goals as goal

pub returns-then-len-rest : goal.returns-then-len-rest
returns-then-len-rest c =
    let found : List ListItem = c.loop-pieces.pieces.items in
    let whole : found ++ pieces_of c.args.separator (c.args.at + c.loop-pieces.from) c.rest_of-rest.result.now ≡ pieces_of c.args.separator c.args.at c.args.text.now =
    ap (λ r. c.loop-pieces.pieces.items ++ pieces_of c.args.separator (c.args.at + c.loop-pieces.from) r) c.rest_of-rest.ensures ∙ c.loop-pieces.invariant.1 in
    let grown : c.push.new.self.items ≡ c.loop-pieces.pieces.items ++ record { at = c.args.at + c.loop-pieces.from; bytes = take c.len_before-len.result c.rest_of-rest.result.now } ∷ [] =
    c.in_ok-push.ensures.items ∙ ap (λ item. c.loop-pieces.pieces.items ++ item ∷ []) c.in_ok-item.ensures in
    pieces-ended c.args.separator _ _ _ _ c.rest_of-rest.result.now _ whole (sym c.len_before-len.ensures.value) c.if-len-rest.true grown

pub loop-pieces-preserved : goal.loop-pieces-preserved
loop-pieces-preserved c =
    let whole : c.loop-pieces.pieces.items ++ pieces_of c.args.separator (c.args.at + c.loop-pieces.from) c.rest_of-rest.result.now ≡ pieces_of c.args.separator c.args.at c.args.text.now =
    ap (λ r. c.loop-pieces.pieces.items ++ pieces_of c.args.separator (c.args.at + c.loop-pieces.from) r) c.rest_of-rest.ensures ∙ c.loop-pieces.invariant.1 in
    let fewer : c.len_before-len.result < length c.rest_of-rest.result.now = omega (arith, c.len_before-len.ensures.bound, c.if-len-rest.false) in
    let within : length c.rest_of-rest.result.now + c.loop-pieces.from ≡ length c.args.text.now =
    omega (arith, ap (λ r. length r) c.rest_of-rest.ensures, length-drop c.loop-pieces.from c.args.text.now, c.loop-pieces.invariant.0) in
    let grown : c.push.new.self.items ≡ c.loop-pieces.pieces.items ++ record { at = c.args.at + c.loop-pieces.from; bytes = take c.len_before-len.result c.rest_of-rest.result.now } ∷ [] =
    c.in_ok-push.ensures.items ∙ ap (λ item. c.loop-pieces.pieces.items ++ item ∷ []) c.in_ok-item.ensures in
    let more = pieces-more c.args.separator _ _ _ _ c.rest_of-rest.result.now _ whole (sym c.len_before-len.ensures.value) fewer grown in
    let offset : c.args.at + c.loop-pieces.from + 1 + c.len_before-len.result ≡ c.args.at + (c.loop-pieces.from + (c.len_before-len.result + 1)) = omega arith in
    let one : suc c.len_before-len.result ≡ c.len_before-len.result + 1 = omega arith in
    let rest : drop (suc c.len_before-len.result) c.rest_of-rest.result.now ≡ drop (c.loop-pieces.from + (c.len_before-len.result + 1)) c.args.text.now =
    ap (λ n. drop n c.rest_of-rest.result.now) one ∙ ap (λ r. drop (c.len_before-len.result + 1) r) c.rest_of-rest.ensures
    ∙ drop-drop (c.len_before-len.result + 1) c.loop-pieces.from c.args.text.now in
    let moved : c.push.new.self.items ++ pieces_of c.args.separator (c.args.at + c.loop-pieces.from + 1 + c.len_before-len.result) (drop (suc c.len_before-len.result) c.rest_of-rest.result.now)
    ≡ c.push.new.self.items ++ pieces_of c.args.separator (c.args.at + (c.loop-pieces.from + (c.len_before-len.result + 1))) (drop (c.loop-pieces.from + (c.len_before-len.result + 1)) c.args.text.now) =
    (λ i. c.push.new.self.items ++ pieces_of c.args.separator (offset i) (rest i)) in
    (omega (arith, fewer, within), sym moved ∙ more)
