use Rattle.std.proofs.Common.{◌<◌, ◌^◌, ℕ, sym, subst, arith}
use Rattle.file_list.specs.declared.file.File.TheVariants.{RawPipe}
use Rattle.mount_tree.specs.declared.node.Node.TheVariants as nodes
use Rattle.mount_tree.specs.declared.node.Owner.TheVariants.{Made}
use Rattle.mount_replies.proofs.EntryNumbers.{number-low}
use Rattle.mount_replies.proofs.sizes.made_number.Goals as goal

pub returns-clause-low : goal.returns-clause-low
returns-clause-low c =
    subst (λ (n : ℕ). n < 2 ^ 47) (sym c.number.ensures)
    (number-low (nodes.File (Made c.args.serial) (RawPipe c.args.cpu)) (record { owner = omega (arith, c.ranges.serial.fits); index = omega (arith, c.ranges.cpu.fits) }))
