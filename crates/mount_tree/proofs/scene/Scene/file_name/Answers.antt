use Rattle.std.proofs.Common.{◌<◌, ◌≡◌, true, arith}
use Rattle.std.proofs.lemmas.Bool.{and_parts, ltb-true}
use Rattle.file_list.specs.declared.file.File.TheVariants.{OfCpu}
use Rattle.mount_tree.specs.Children.{file_is_there, owner_is_there}
use Rattle.mount_tree.proofs.scene.Scene.file_name.Goals as goal

pub cpu_digits-requires : goal.cpu_digits-requires
cpu_digits-requires c =
    let there = rw c.in-OfCpu.is at c.requires in
    let scene = c.args.self.now in
    let file = OfCpu c.in-OfCpu.cpu c.in-OfCpu.file in
    let low : c.in-OfCpu.cpu < scene.cpus =
    ltb-true c.in-OfCpu.cpu scene.cpus (and_parts (owner_is_there scene c.args.owner) (file_is_there scene c.args.owner file) there).1 in
    omega (arith, low, c.cpus.ensures.value, c.cpus.ensures.bound)
