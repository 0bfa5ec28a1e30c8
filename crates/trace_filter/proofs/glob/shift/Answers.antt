use Rattle.std.proofs.Common.{◌≡◌, ◌+◌, ◌++◌, take, drop, length, sym, ap, ◌∙◌, arith}
use Rattle.trace_filter.specs.Marks.{shift}
use Rattle.trace_filter.specs.private.SeenGlobs.{class_of}
use Rattle.trace_filter.proofs.RowLemmas.{shift_end}
use Rattle.trace_filter.proofs.glob.shift.Goals as goal

pub returns : goal.returns
returns c =
    let end : c.loop-offset.offset ≡ length c.args.text.now = omega arith in
    let same : length c.loop-offset.row ≡ length c.args.text.now + 1 = omega (arith, c.loop-offset.auto.row, c.requires) in
    shift_end (class_of c.args.class) c.loop-offset.row c.args.text.now c.loop-offset.carry same
    ∙ ap (λ k. take k c.loop-offset.row ++ shift (class_of c.args.class) c.loop-offset.carry (drop k c.loop-offset.row) (drop k c.args.text.now)) (sym end)
    ∙ c.loop-offset.invariant
