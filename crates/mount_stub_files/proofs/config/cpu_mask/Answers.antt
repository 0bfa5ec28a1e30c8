use Rattle.std.proofs.Common.{◌≡◌, refl, arith}
use Rattle.std.specs.Fmt.{digits}
use Rattle.mount_stub_files.specs.ToolTexts.{cpu_mask as mask}
use Rattle.mount_stub_files.proofs.config.cpu_mask.Goals as goal

pub returns-in-0 : goal.returns-in-0
unfolding mask digits
returns-in-0 c = rw c.in-0.is refl

pub returns-in-1 : goal.returns-in-1
unfolding mask digits
returns-in-1 c = rw c.in-1.is refl

pub returns-in-2 : goal.returns-in-2
unfolding mask digits
returns-in-2 c = rw c.in-2.is refl

pub returns-in-3 : goal.returns-in-3
unfolding mask digits
returns-in-3 c = rw c.in-3.is refl

pub returns-in-4 : goal.returns-in-4
unfolding mask digits
returns-in-4 c = rw c.in-4.is refl

pub returns-in-5 : goal.returns-in-5
unfolding mask digits
returns-in-5 c = rw c.in-5.is refl

pub returns-in-6 : goal.returns-in-6
unfolding mask digits
returns-in-6 c = rw c.in-6.is refl

pub returns-in-7 : goal.returns-in-7
unfolding mask digits
returns-in-7 c = rw c.in-7.is refl

pub returns-in_default : goal.returns-in_default
unfolding mask digits
returns-in_default c =
    let last : c.args.cpus ≡ 8 = omega arith in
    rw last refl
