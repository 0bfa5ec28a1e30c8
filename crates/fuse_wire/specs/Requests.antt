-- Requests as bytes: what a kernel sends by linux/fuse.h, version 7, minor 31. Later minors leave these structs alike, but for fuse_init_in, which
-- grew at its end, and fuse_in_header, whose padding was given a meaning that only a server that asks for it meets.
use Rattle.std.specs.Prelude.{◌≡◌, ℕ, ◌+◌, ◌*◌, ◌==◌, ◌||◌, Bool, not, false, List, [], ◌∷◌, ◌++◌, length}
use Rattle.std.specs.List.{list_any}
use Rattle.fuse_wire.specs.Parts.{Part, U32, U64, Ignored, Name, Bytes, Anything, Are}
use Rattle.fuse_wire.specs.declared.request.DecodeError.{DecodeError}
use Rattle.fuse_wire.specs.declared.request.DecodeError.TheVariants.{Unframed, WrongBody}
use Rattle.fuse_wire.specs.declared.request.Operation.{Operation}
use Rattle.fuse_wire.specs.declared.request.Operation.TheVariants.{Lookup, Forget, GetAttr, SetAttr, MkDir, RmDir, Open, Read, Write, StatFs, Release, Fsync, GetXAttr, ListXAttr, Flush, Init, OpenDir, ReadDir, ReleaseDir, Access, Interrupt, Destroy, Poll, BatchForget, Other}
use Rattle.fuse_wire.specs.declared.request.Request.{Request}

-- enum fuse_opcode
abbrev pub opcode_of : Operation → ℕ
opcode_of (Lookup name) = 1
opcode_of Forget = 2
opcode_of GetAttr = 3
opcode_of (SetAttr valid size) = 4
opcode_of (MkDir name) = 9
opcode_of (RmDir name) = 11
opcode_of (Open flags) = 14
opcode_of (Read handle offset size read_flags flags) = 15
opcode_of (Write handle offset lock_owner bytes) = 16
opcode_of StatFs = 17
opcode_of (Release handle) = 18
opcode_of Fsync = 20
opcode_of (GetXAttr name) = 22
opcode_of ListXAttr = 23
opcode_of (Flush handle lock_owner) = 25
opcode_of (Init major minor max_readahead flags) = 26
opcode_of OpenDir = 27
opcode_of (ReadDir handle offset size) = 28
opcode_of (ReleaseDir handle) = 29
opcode_of (Access mask) = 34
opcode_of (Interrupt unique) = 36
opcode_of Destroy = 38
opcode_of (Poll handle wakeup flags events) = 40
opcode_of (BatchForget count) = 42
opcode_of (Other opcode) = opcode

-- those that the others, but for the last, have
abbrev pub known_opcodes : List ℕ
known_opcodes = 1 ∷ 2 ∷ 3 ∷ 4 ∷ 9 ∷ 11 ∷ 14 ∷ 15 ∷ 16 ∷ 17 ∷ 18 ∷ 20 ∷ 22 ∷ 23 ∷ 25 ∷ 26 ∷ 27 ∷ 28 ∷ 29 ∷ 34 ∷ 36 ∷ 38 ∷ 40 ∷ 42 ∷ []

abbrev pub is_known : ℕ → Bool
is_known opcode = list_any (λ known. opcode == known) known_opcodes

-- a kernel awaits no reply to FORGET and BATCH_FORGET
abbrev pub has_reply : ℕ → Bool
has_reply opcode = not (opcode == 2 || opcode == 42)

-- `Other` is of an opcode that no other operation has
abbrev pub HasOwnOpcode : Operation → Type 0
HasOwnOpcode (Other opcode) = is_known opcode ≡ false
HasOwnOpcode _ = Unit {0}

-- what follows the header
abbrev pub body : Operation → List Part
body (Lookup name) = Name name ∷ []
-- fuse_forget_in: nlookup
body Forget = Ignored 8 ∷ []
-- fuse_getattr_in: getattr_flags, dummy, fh
body GetAttr = Ignored 16 ∷ []
-- fuse_setattr_in: valid; padding, fh; size; lock_owner, atime, mtime, ctime, the nanoseconds of these three, mode, unused4, uid, gid, unused5
body (SetAttr valid size) = U32 valid ∷ Ignored 12 ∷ U64 size ∷ Ignored 64 ∷ []
-- fuse_mkdir_in: mode, umask
body (MkDir name) = Ignored 8 ∷ Name name ∷ []
body (RmDir name) = Name name ∷ []
-- fuse_open_in: flags; open_flags
body (Open flags) = U32 flags ∷ Ignored 4 ∷ []
-- fuse_read_in: fh, offset, size, read_flags; lock_owner; flags; padding
body (Read handle offset size read_flags flags) = U64 handle ∷ U64 offset ∷ U32 size ∷ U32 read_flags ∷ Ignored 8 ∷ U32 flags ∷ Ignored 4 ∷ []
-- fuse_write_in: fh, offset, size; write_flags; lock_owner; flags, padding
body (Write handle offset lock_owner bytes) = U64 handle ∷ U64 offset ∷ U32 (length bytes) ∷ Ignored 4 ∷ U64 lock_owner ∷ Ignored 8 ∷ Bytes bytes ∷ []
body StatFs = []
-- fuse_release_in: fh; flags, release_flags, lock_owner
body (Release handle) = U64 handle ∷ Ignored 16 ∷ []
-- fuse_fsync_in: fh, fsync_flags, padding
body Fsync = Ignored 16 ∷ []
-- fuse_getxattr_in: size, padding
body (GetXAttr name) = Ignored 8 ∷ Name name ∷ []
body ListXAttr = Ignored 8 ∷ []
-- fuse_flush_in: fh; unused, padding; lock_owner
body (Flush handle lock_owner) = U64 handle ∷ Ignored 8 ∷ U64 lock_owner ∷ []
-- fuse_init_in: major, minor, max_readahead, flags; from minor 36 on also flags2 and unused
body (Init major minor max_readahead flags) = U32 major ∷ U32 minor ∷ U32 max_readahead ∷ U32 flags ∷ Anything ∷ []
-- fuse_open_in
body OpenDir = Ignored 8 ∷ []
-- fuse_read_in: fh, offset, size; read_flags, lock_owner, flags, padding
body (ReadDir handle offset size) = U64 handle ∷ U64 offset ∷ U32 size ∷ Ignored 20 ∷ []
-- fuse_release_in
body (ReleaseDir handle) = U64 handle ∷ Ignored 16 ∷ []
-- fuse_access_in: mask; padding
body (Access mask) = U32 mask ∷ Ignored 4 ∷ []
-- fuse_interrupt_in: unique
body (Interrupt unique) = U64 unique ∷ []
body Destroy = []
-- fuse_poll_in: fh, kh, flags, events
body (Poll handle wakeup flags events) = U64 handle ∷ U64 wakeup ∷ U32 flags ∷ U32 events ∷ []
-- fuse_batch_forget_in: count; dummy; and so many fuse_forget_one: nodeid, nlookup
body (BatchForget count) = U32 count ∷ Ignored (4 + 16 * count) ∷ []
body (Other opcode) = Anything ∷ []

-- fuse_in_header: len, opcode, unique, nodeid, uid, gid, pid; padding (from minor 38 on: total_extlen, padding)
abbrev pub in_header : ℕ → ℕ → ℕ → ℕ → ℕ → ℕ → ℕ → List Part
in_header len opcode unique node uid gid pid = U32 len ∷ U32 opcode ∷ U64 unique ∷ U64 node ∷ U32 uid ∷ U32 gid ∷ U32 pid ∷ Ignored 4 ∷ []

-- these bytes are this request
pub record IsRequest (bytes : List ℕ) (request : Request) : Type 0 where
  pub parts : Are (in_header (length bytes) (opcode_of request.operation) request.unique request.node request.uid request.gid request.pid ++ body request.operation) bytes
  pub own_opcode : HasOwnOpcode request.operation

-- these bytes are a header of this opcode and unique, whose `len` is their number, and any body
abbrev pub IsFramed : List ℕ → ℕ → ℕ → Type 0
IsFramed bytes opcode unique = Are (U32 (length bytes) ∷ U32 opcode ∷ U64 unique ∷ Ignored 24 ∷ Anything ∷ []) bytes

-- why bytes that are no request are none
abbrev pub IsWrong : List ℕ → DecodeError → Type 0
IsWrong bytes Unframed = (opcode unique : ℕ) → IsFramed bytes opcode unique → ⊥
IsWrong bytes (WrongBody opcode unique) = IsFramed bytes opcode unique
