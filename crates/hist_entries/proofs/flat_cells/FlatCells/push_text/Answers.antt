use Rattle.std.proofs.Common.{length, arith}
use Rattle.std.proofs.lemmas.List.{length-append}
use Rattle.hist_entries.proofs.Copying.{cells_of-text, text_length-text}
use Rattle.hist_entries.proofs.flat_cells.FlatCells.push_text.Goals as goal

pub invariant_of-self-2 : goal.invariant_of-self-2
invariant_of-self-2 c =
    let text = c.args.text.now in
    rw (c.push_reserved.ensures.items, c.in_ok-reserve.ensures.items, c.in_ok-extend_from_slice.ensures.items)
    (omega (arith, text_length-text c.self.inside.cells.items (length text), length-append c.self.inside.bytes.items text, c.self.invariant))

pub returns : goal.returns
returns c =
    rw (c.push_reserved.ensures.items, c.in_ok-reserve.ensures.items, c.in_ok-extend_from_slice.ensures.items, ← c.self.view_is)
    (cells_of-text _ _ _ c.self.invariant)
