-- The replies to operations that change nothing and ask nothing, for the function that gives them.
use Rattle.std.specs.Prelude.{◌<◌, ◌^◌, Bool, true, false, not, length, Option}
use Rattle.fuse_wire.specs.declared.errno.Errno.TheVariants.{ENOSYS}
use Rattle.fuse_wire.specs.declared.reply.Reply.{Reply}
use Rattle.fuse_wire.specs.declared.reply.Reply.TheVariants as replies
use Rattle.fuse_wire.specs.declared.request.Operation.{Operation}
use Rattle.fuse_wire.specs.declared.request.Operation.TheVariants as operations
use Rattle.mount_tree.specs.Scenes.{SceneSeen}
use Rattle.mount_tree.specs.declared.node.Node.{Node}
use Rattle.mount_replies.specs.Errnos.{errno_of_other}
use Rattle.mount_replies.specs.Services.{Terms}
use Rattle.mount_replies.specs.Told.{agree, check_access, open_folder}

-- an operation that may change something, and whose reply is told in one piece
abbrev pub is_change : Operation → Bool
is_change (operations.Lookup name) = true
is_change operations.GetAttr = true
is_change (operations.SetAttr valid size) = true
is_change (operations.MkDir name) = true
is_change (operations.RmDir name) = true
is_change (operations.Open flags) = true
is_change (operations.Write handle offset lock_owner bytes) = true
is_change (operations.Flush handle lock_owner) = true
is_change (operations.Release handle) = true
is_change (operations.Poll handle wakeup flags events) = true
is_change _ = false

-- one that may change something
abbrev pub changes : Operation → Bool
changes (operations.Read handle offset size read_flags flags) = true
changes (operations.Interrupt unique) = true
changes operation = is_change operation

-- one after which something may be owed that was not before
abbrev pub may_owe : Operation → Bool
may_owe (operations.Lookup name) = false
may_owe operations.GetAttr = false
may_owe (operations.SetAttr valid size) = false
may_owe (operations.Poll handle wakeup flags events) = false
may_owe _ = true

-- one that changes nothing, and whose reply is told in one piece: it reads no folder, and has a reply
abbrev pub is_still : Operation → Bool
is_still (operations.ReadDir handle offset size) = false
is_still operations.Forget = false
is_still (operations.BatchForget count) = false
is_still operation = not (changes operation)

abbrev pub still_reply : Terms → SceneSeen → Option Node → Operation → Reply
still_reply g scene target operations.OpenDir = open_folder scene target
still_reply g scene target (operations.Access mask) = check_access scene target mask
still_reply g scene target (operations.Init major minor max_readahead flags) = agree major flags
still_reply g scene target operations.StatFs = replies.StatFs 4096 255
still_reply g scene target operations.Fsync = replies.Done
still_reply g scene target (operations.ReleaseDir handle) = replies.Done
still_reply g scene target operations.Destroy = replies.Done
still_reply g scene target (operations.Other opcode) = replies.Error (errno_of_other opcode)
still_reply g scene target _ = replies.Error ENOSYS

-- what is written at once has a size of 32 bits
abbrev pub HasFewBytes : Operation → Type 0
HasFewBytes (operations.Write handle offset lock_owner bytes) = length bytes < 2 ^ 32
HasFewBytes _ = Unit {0}
