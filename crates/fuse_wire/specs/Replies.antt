-- Replies as bytes: what a server sends back by linux/fuse.h, version 7, minor 31.
use Rattle.std.specs.Prelude.{ℕ, ◌+◌, ◌-◌, ◌*◌, ◌%◌, ◌^◌, ◌<◌, List, [], ◌∷◌, ◌++◌, length}
use Rattle.fuse_wire.specs.Parts.{Part, U16, U32, U64, Bytes, bytes_of}
use Rattle.fuse_wire.specs.declared.attributes.FileKind.{FileKind}
use Rattle.fuse_wire.specs.declared.attributes.FileKind.TheVariants.{Directory, Regular}
use Rattle.fuse_wire.specs.declared.attributes.Attributes.{Attributes}
use Rattle.fuse_wire.specs.declared.errno.Errno.{Errno}
use Rattle.fuse_wire.specs.declared.errno.Errno.TheVariants.{EPERM, ENOENT, EINTR, EIO, ENXIO, E2BIG, EBADF, EAGAIN, ENOMEM, EACCES, EBUSY, EEXIST, ENODEV, ENOTDIR, EISDIR, EINVAL, ENOSPC, ENOSYS, ENOTEMPTY, EPROTO}
use Rattle.fuse_wire.specs.declared.reply.Agreement.{Agreement}
use Rattle.fuse_wire.specs.declared.reply.Reply.{Reply}
use Rattle.fuse_wire.specs.declared.reply.Reply.TheVariants as replies

-- asm-generic/errno-base.h and errno.h
abbrev pub errno_number : Errno → ℕ
errno_number EPERM = 1
errno_number ENOENT = 2
errno_number EINTR = 4
errno_number EIO = 5
errno_number ENXIO = 6
errno_number E2BIG = 7
errno_number EBADF = 9
errno_number EAGAIN = 11
errno_number ENOMEM = 12
errno_number EACCES = 13
errno_number EBUSY = 16
errno_number EEXIST = 17
errno_number ENODEV = 19
errno_number ENOTDIR = 20
errno_number EISDIR = 21
errno_number EINVAL = 22
errno_number ENOSPC = 28
errno_number ENOSYS = 38
errno_number ENOTEMPTY = 39
errno_number EPROTO = 71

-- the kind of a node as in `type` of a fuse_dirent: DT_DIR, DT_REG; in a mode it is the bits from the thirteenth on (stat.h: S_IFDIR, S_IFREG)
abbrev pub kind_number : FileKind → ℕ
kind_number Directory = 4
kind_number Regular = 8

abbrev pub mode_of : Attributes → ℕ
mode_of attributes = kind_number attributes.kind * 4096 + attributes.permissions % 4096

-- fuse_attr: ino, size, blocks, atime, mtime, ctime, atimensec, mtimensec, ctimensec, mode, nlink, uid, gid, rdev, blksize, flags
abbrev pub attr : Attributes → List Part
attr attributes =
    U64 attributes.node ∷ U64 attributes.size ∷ U64 0 ∷ U64 0 ∷ U64 0 ∷ U64 0 ∷ U32 0 ∷ U32 0 ∷ U32 0 ∷ U32 (mode_of attributes)
    ∷ U32 attributes.links ∷ U32 attributes.uid ∷ U32 attributes.gid ∷ U32 0 ∷ U32 attributes.block_size ∷ U32 0 ∷ []

-- fuse_init_out: major, minor, max_readahead, flags, max_background, congestion_threshold, max_write, time_gran, max_pages, map_alignment, flags2,
-- and seven unused
abbrev pub init_out : Agreement → List Part
init_out init =
    U32 init.major ∷ U32 init.minor ∷ U32 init.max_readahead ∷ U32 init.flags ∷ U16 init.max_background ∷ U16 init.congestion_threshold ∷ U32 init.max_write
    ∷ U32 0 ∷ U16 0 ∷ U16 0 ∷ U32 0 ∷ U32 0 ∷ U32 0 ∷ U32 0 ∷ U32 0 ∷ U32 0 ∷ U32 0 ∷ U32 0 ∷ []

-- what follows the header
abbrev pub reply_body : Reply → List Part
reply_body (replies.Error errno) = []
reply_body replies.Done = []
reply_body (replies.Init init) = init_out init
-- fuse_entry_out: nodeid, generation, entry_valid, attr_valid, entry_valid_nsec, attr_valid_nsec, attr
reply_body (replies.Entry node attributes) = U64 node ∷ U64 0 ∷ U64 0 ∷ U64 0 ∷ U32 0 ∷ U32 0 ∷ attr attributes
-- fuse_attr_out: attr_valid, attr_valid_nsec, dummy, attr
reply_body (replies.Attributes attributes) = U64 0 ∷ U32 0 ∷ U32 0 ∷ attr attributes
-- fuse_open_out: fh, open_flags, padding
reply_body (replies.Opened handle flags) = U64 handle ∷ U32 flags ∷ U32 0 ∷ []
reply_body (replies.Data bytes) = Bytes bytes ∷ []
-- fuse_write_out: size, padding
reply_body (replies.Written size) = U32 size ∷ U32 0 ∷ []
-- fuse_statfs_out: blocks, bfree, bavail, files, ffree, bsize, namelen, frsize, padding, and six spare
reply_body (replies.StatFs block_size name_length) =
    U64 0 ∷ U64 0 ∷ U64 0 ∷ U64 0 ∷ U64 0 ∷ U32 block_size ∷ U32 name_length ∷ U32 block_size ∷ U32 0 ∷ U32 0 ∷ U32 0 ∷ U32 0 ∷ U32 0 ∷ U32 0 ∷ U32 0 ∷ []
-- fuse_poll_out: revents, padding
reply_body (replies.Poll events) = U32 events ∷ U32 0 ∷ []

-- the error of a reply: the number of its errno with a minus sign, in two's complement, or 0
abbrev pub error_of : Reply → ℕ
error_of (replies.Error errno) = 2 ^ 32 - errno_number errno
error_of _ = 0

-- fuse_out_header: len, error, unique
abbrev pub out_header : ℕ → ℕ → ℕ → List Part
out_header len error unique = U32 len ∷ U32 error ∷ U64 unique ∷ []

-- a header and a body; `len` counts the header's sixteen bytes, too
abbrev pub message : ℕ → ℕ → List ℕ → List ℕ
message error unique body = bytes_of (out_header (16 + length body) error unique) ++ body

-- the bytes of a reply to the request of this number
abbrev pub reply_bytes : ℕ → Reply → List ℕ
reply_bytes unique reply = message (error_of reply) unique (bytes_of (reply_body reply))

-- the message that a polled file may be ready: FUSE_NOTIFY_POLL in place of an error, no unique, and fuse_notify_poll_wakeup_out: kh
abbrev pub wakeup_bytes : ℕ → List ℕ
wakeup_bytes wakeup = message 1 0 (bytes_of (U64 wakeup ∷ []))

-- `len` has room for its length
abbrev pub IsSendable : Reply → Type 0
IsSendable (replies.Data bytes) = 16 + length bytes < 2 ^ 32
IsSendable _ = Unit {0}

-- how many bytes the reply has: 16, and those of its body
abbrev pub reply_size : Reply → ℕ
reply_size (replies.Error errno) = 16
reply_size replies.Done = 16
reply_size (replies.Init init) = 80
reply_size (replies.Entry node attributes) = 144
reply_size (replies.Attributes attributes) = 120
reply_size (replies.Opened handle flags) = 32
reply_size (replies.Data bytes) = 16 + length bytes
reply_size (replies.Written size) = 24
reply_size (replies.StatFs block_size name_length) = 96
reply_size (replies.Poll events) = 24
