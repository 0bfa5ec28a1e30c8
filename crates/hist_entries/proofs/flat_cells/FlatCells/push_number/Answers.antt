use Rattle.std.proofs.Common.{◌≡◌, ◌++◌, ◌∷◌, [], ℤ, to_z, of_z, ap, ◌∙◌, arith}
use Rattle.std.specs.Int.{w128}
use Rattle.std.proofs.lemmas.Int.{ints}
use Rattle.trace_format.specs.Cells.{Whole}
use Rattle.hist_entries.specs.FlatCells.{cells_of}
use Rattle.hist_entries.proofs.Copying.{cells_of-number, text_length-number}
use Rattle.hist_entries.proofs.flat_cells.FlatCells.push_number.Goals as goal

pub invariant_of-self-2 : goal.invariant_of-self-2
invariant_of-self-2 c =
    rw c.in_ok-push.ensures.items (text_length-number c.self.inside.cells.items (to_z w128 (of_z w128 c.args.number)) ∙ c.self.invariant)

pub returns : goal.returns
returns c =
    let cells = c.self.inside.cells.items in
    let bytes = c.self.inside.bytes.items in
    let same : to_z w128 (of_z w128 c.args.number) ≡ c.args.number = omega (arith, ints) in
    rw (c.in_ok-push.ensures.items, ← c.self.view_is)
    (cells_of-number cells bytes (to_z w128 (of_z w128 c.args.number)) ∙ ap (λ (n : ℤ). cells_of cells bytes ++ Whole n ∷ []) same)
