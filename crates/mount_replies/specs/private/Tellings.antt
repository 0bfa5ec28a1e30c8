-- What a look-up tells of a node, for the functions that do so.
use Rattle.std.specs.Prelude.{ℕ, ◌^◌, ◌==◌, Option, Some, None, if◌then◌else◌}
use Rattle.fuse_wire.specs.declared.reply.Reply.{Reply}
use Rattle.fuse_wire.specs.declared.reply.Reply.TheVariants as replies
use Rattle.mount_tree.specs.declared.node.Node.{Node}
use Rattle.mount_replies.specs.Services.{Service, Terms}
use Rattle.mount_replies.specs.Sizes.{entry_number, tell_attributes, tell_entry}
use Rattle.mount_replies.specs.Steps.{Step}
use Rattle.mount_replies.specs.Told.{attributes_of}
use Rattle.mount_replies.specs.declared.counted.Counted.{Counted}
use Rattle.mount_replies.specs.declared.sizes.Telling.{Telling}
use Rattle.mount_replies.specs.declared.sizes.Telling.TheVariants.{Entry, Attributes}

abbrev pub telling_of : Telling → Terms → Node → ℕ → Reply
telling_of (Entry unique) g node size = replies.Entry (entry_number unique node) (attributes_of g node size)
telling_of Attributes g node size = replies.Attributes (attributes_of g node size)

-- the size that is told of binary pages
abbrev pub size_of_pages : Telling → ℕ
size_of_pages (Entry unique) = 2 ^ 40
size_of_pages Attributes = 0

-- the size that is remembered after so many commands
abbrev pub size_found : ℕ → Option Counted → Option ℕ
size_found done None = None
size_found done (Some count) = if count.after == done then Some count.size else None

abbrev pub sized_step : Telling → Terms → Service → Option Node → Step
sized_step (Entry unique) g s node = tell_entry g s unique node
sized_step Attributes g s node = tell_attributes g s node
