-- Replies of a few bytes.
use Rattle.fuse_wire.specs.declared.reply.Reply.{Reply}
use Rattle.fuse_wire.specs.declared.reply.Reply.TheVariants as replies

-- it gives no part of a file or a folder
abbrev pub IsShort : Reply → Type 0
IsShort (replies.Data bytes) = ⊥
IsShort _ = Unit {0}
