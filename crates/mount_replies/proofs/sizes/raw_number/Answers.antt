use Rattle.std.proofs.Common.{◌<◌, ◌^◌, ℕ, sym, subst, arith}
use Rattle.file_list.specs.declared.file.File.TheVariants.{RawPipe}
use Rattle.mount_tree.specs.declared.node.Node.TheVariants as nodes
use Rattle.mount_tree.specs.declared.node.Owner.TheVariants.{Top}
use Rattle.mount_replies.proofs.EntryNumbers.{number-low}
use Rattle.mount_replies.proofs.sizes.raw_number.Goals as goal

pub returns-in-Top-clause-low : goal.returns-in-Top-clause-low
returns-in-Top-clause-low c =
    subst (λ (n : ℕ). n < 2 ^ 47) (sym c.number.ensures)
    (number-low (nodes.File Top (RawPipe c.args.cpu)) (record { owner = omega arith; index = omega (arith, c.ranges.cpu.fits) }))
