use Rattle.std.proofs.Common.{◌≡◌, refl, arith}
use Rattle.std.specs.Fmt.{digits}
use Rattle.mount_tree.specs.Children.{cpu_name}
use Rattle.mount_tree.proofs.entry.cpu_name.Goals as goal

pub returns-in-0 : goal.returns-in-0
unfolding cpu_name digits
returns-in-0 c = rw c.in-0.is refl

pub returns-in-1 : goal.returns-in-1
unfolding cpu_name digits
returns-in-1 c = rw c.in-1.is refl

pub returns-in-2 : goal.returns-in-2
unfolding cpu_name digits
returns-in-2 c = rw c.in-2.is refl

pub returns-in-3 : goal.returns-in-3
unfolding cpu_name digits
returns-in-3 c = rw c.in-3.is refl

pub returns-in-4 : goal.returns-in-4
unfolding cpu_name digits
returns-in-4 c = rw c.in-4.is refl

pub returns-in-5 : goal.returns-in-5
unfolding cpu_name digits
returns-in-5 c = rw c.in-5.is refl

pub returns-in-6 : goal.returns-in-6
unfolding cpu_name digits
returns-in-6 c = rw c.in-6.is refl

pub returns-in_default : goal.returns-in_default
unfolding cpu_name digits
returns-in_default c =
    let last : c.args.cpu ≡ 7 = omega arith in
    rw last refl
