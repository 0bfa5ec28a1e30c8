-- Replies of a few bytes have room.
use Rattle.std.proofs.Common.{◌≤◌, arith}
use Rattle.fuse_wire.specs.Replies.{reply_size, IsSendable}
use Rattle.fuse_wire.specs.declared.reply.Reply.{Reply}
use Rattle.fuse_wire.specs.declared.reply.Reply.TheVariants as replies
use Rattle.mount_replies.specs.private.ShortReplies.{IsShort}

pub short-size : (reply : Reply) → IsShort reply → reply_size reply ≤ 144
short-size (replies.Error errno) short = omega arith
short-size replies.Done short = omega arith
short-size (replies.Init init) short = omega arith
short-size (replies.Entry node attributes) short = omega arith
short-size (replies.Attributes attributes) short = omega arith
short-size (replies.Opened handle flags) short = omega arith
short-size (replies.Data bytes) short = absurd short
short-size (replies.Written size) short = omega arith
short-size (replies.StatFs block_size name_length) short = omega arith
short-size (replies.Poll events) short = omega arith

pub short-sendable : (reply : Reply) → IsShort reply → IsSendable reply
short-sendable (replies.Error errno) short = tt
short-sendable replies.Done short = tt
short-sendable (replies.Init init) short = tt
short-sendable (replies.Entry node attributes) short = tt
short-sendable (replies.Attributes attributes) short = tt
short-sendable (replies.Opened handle flags) short = tt
short-sendable (replies.Data bytes) short = absurd short
short-sendable (replies.Written size) short = tt
short-sendable (replies.StatFs block_size name_length) short = tt
short-sendable (replies.Poll events) short = tt
