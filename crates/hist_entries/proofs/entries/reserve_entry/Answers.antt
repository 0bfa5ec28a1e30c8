use Rattle.std.proofs.Common.{◌≡◌, List, ◌++◌, ◌∷◌, [], pos, take, replicate, sym, ap, ◌∙◌}
use Rattle.std.proofs.lemmas.List.{take-map, map-append}
use Rattle.hist_entries.specs.HistEntries.{Entry, is_among}
use Rattle.hist_entries.specs.RowPlaces.{entry_keys}
use Rattle.hist_entries.specs.KeptEntries.{cells_in, entry_in, entries_in, key_of}
use Rattle.hist_entries.proofs.Reserving.{among-take}
use Rattle.hist_entries.proofs.TableLemmas.{empty-is}
use Rattle.hist_entries.proofs.entries.reserve_entry.Goals as goal

pub put_last-requires-clause-new : goal.put_last-requires-clause-new
put_last-requires-clause-new c =
    let pairs = c.args.entries.now.entries in
    let key : cells_in c.in_ok-key.key ≡ key_of c.args.keys.now c.args.emission.now = c.in_ok-key.ensures in
    let kept : c.truncate.new.self.entries ≡ take c.args.kept pairs = c.truncate.ensures.entries ∙ ap (take c.args.kept) c.reserve.ensures.entries in
    ap (λ l. is_among (entry_keys (entries_in l)) (cells_in c.in_ok-key.key)) kept
    ∙ ap (λ (l : List Entry). is_among (entry_keys l) (cells_in c.in_ok-key.key)) (sym (take-map entry_in c.args.kept pairs))
    ∙ ap (is_among (entry_keys (take c.args.kept (entries_in pairs)))) key
    ∙ among-take c.args.kept (entries_in pairs) (key_of c.args.keys.now c.args.emission.now) c.requires.new

pub returns-clause-ok : goal.returns-clause-ok
returns-clause-ok c =
    let pairs = c.args.entries.now.entries in
    let key : cells_in c.in_ok-key.key ≡ key_of c.args.keys.now c.args.emission.now = c.in_ok-key.ensures in
    let count : c.in_ok-tally.tally.hitcount ≡ 0 = c.in_ok-tally.ensures.hitcount in
    let sums : c.in_ok-tally.tally.sums.items ≡ replicate c.args.width (pos 0) = c.in_ok-tally.ensures.sums in
    let kept : c.truncate.new.self.entries ≡ take c.args.kept pairs = c.truncate.ensures.entries ∙ ap (take c.args.kept) c.reserve.ensures.entries in
    let last = c.put_last.ensures in
    ap entries_in last ∙ map-append entry_in c.truncate.new.self.entries ((c.in_ok-key.key, c.in_ok-tally.tally) ∷ [])
    ∙ ap (λ l. entries_in l ++ entry_in (c.in_ok-key.key, c.in_ok-tally.tally) ∷ []) kept
    ∙ ap (λ (l : List Entry). l ++ entry_in (c.in_ok-key.key, c.in_ok-tally.tally) ∷ []) (sym (take-map entry_in c.args.kept pairs))
    ∙ ap (λ (e : Entry). take c.args.kept (entries_in pairs) ++ e ∷ [])
    (empty-is c.args.width _ c.in_ok-key.key c.in_ok-tally.tally key count sums)
