-- The numbers that look-ups tell, as theorems: which node each names, and that binary pages are told by a number of their own for each look-up.
use Rattle.std.specs.Prelude.{◌≢◌, ℕ, ◌-◌, ◌/◌, ◌<◌, ◌^◌, Some}
use Rattle.file_list.specs.declared.file.File.TheVariants.{RawPipe}
use Rattle.mount_tree.specs.Nodes.{FitsItsTypes}
use Rattle.mount_tree.specs.declared.node.Node.{Node}
use Rattle.mount_tree.specs.declared.node.Node.TheVariants as nodes
use Rattle.mount_tree.specs.declared.node.Owner.{Owner}
use Rattle.mount_replies.specs.Mounted.{IsNamed}
use Rattle.mount_replies.specs.Sizes.{entry_number}

-- by the number that a look-up told of a node a request names that node
abbrev pub EntryNumbersName : Type 0
EntryNumbersName = (unique : ℕ) (node : Node) → FitsItsTypes node → IsNamed (entry_number unique node) (Some node)

-- Two look-ups of binary pages, the same ones or others, tell two numbers if fewer than 2^17 requests lie between them: a kernel counts requests by twos.
-- So no two readers share what the page cache keeps for a number.
abbrev pub EntryNumbersDiffer : Type 0
EntryNumbersDiffer =
    (unique later : ℕ) (owner fellow : Owner) (cpu other : ℕ) → FitsItsTypes (nodes.File owner (RawPipe cpu)) → FitsItsTypes (nodes.File fellow (RawPipe other))
    → unique / 2 < later / 2 → later / 2 - unique / 2 < 2 ^ 17
    → entry_number unique (nodes.File owner (RawPipe cpu)) ≢ entry_number later (nodes.File fellow (RawPipe other))
