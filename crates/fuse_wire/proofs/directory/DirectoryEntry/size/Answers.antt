use Rattle.std.proofs.Common.{◌≡◌, length, ap, ◌∙◌, arith}
use Rattle.fuse_wire.specs.Alignment.{padding}
use Rattle.fuse_wire.specs.Directories.{dirent}
use Rattle.fuse_wire.proofs.PartLemmas.{length-bytes_of}
use Rattle.fuse_wire.proofs.directory.DirectoryEntry.size.Goals as goal

pub returns-clause-value : goal.returns-clause-value
returns-clause-value c =
    let name = c.args.self.now.name in
    let same = ap length c.as_slice-name.ensures in
    let zeros : c.padding.result ≡ padding (length name) = c.padding.ensures.value ∙ ap padding same in
    omega (arith, length-bytes_of (dirent c.args.self.now), same, zeros)
