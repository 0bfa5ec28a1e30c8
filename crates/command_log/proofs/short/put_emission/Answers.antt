use Rattle.std.proofs.Common.{◌++◌, List, ℕ, length, take, refl, ap, ◌∙◌}
use Rattle.std.proofs.lemmas.List.{take_at}
use Rattle.std.proofs.lemmas.Option.{IfSome_then}
use Rattle.command_log.specs.EntryEncoding.{text_bytes, length_bytes, pairs_bytes}
use Rattle.command_log.proofs.short.put_emission.Goals as goal

pub returns-clause-bytes : goal.returns-clause-bytes
returns-clause-bytes c =
    let head = c.args.head.now in
    let pairs = c.args.pairs.now in
    let headed = ap (take (length head)) c.put_piece.ensures.bytes ∙ take_at head _ (length head) refl in
    let named = c.in_ok-after_event.ensures.bytes ∙ ap (λ (xs : List ℕ). xs ++ text_bytes c.args.event.now) headed in
    let counted = c.in_ok-after_count.ensures.bytes ∙ ap (λ (xs : List ℕ). xs ++ length_bytes (length pairs)) named in
    IfSome_then c.put_pairs.result c.put_pairs.ensures.bytes (λ end written. written ∙ ap (λ (xs : List ℕ). xs ++ pairs_bytes pairs) counted)
