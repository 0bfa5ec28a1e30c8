use Rattle.mount_tree.proofs.AddressLaws.{path-address}
use Rattle.mount_tree.proofs.laws.paths_name_their_files.Goals as goal

pub returns : goal.returns
returns c = path-address
