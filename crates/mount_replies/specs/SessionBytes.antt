-- A shell's session at a mounted tracer of one CPU, in bytes: what a kernel sends, but for look-ups, and what is written back, laid out by hand from
-- linux/fuse.h. The checker computes that it is served so.
use Rattle.std.specs.Prelude.{ℕ, ◌+◌, List, [], ◌∷◌, ◌++◌, length, map, replicate, codes}
use Rattle.mount_replies.specs.Mounted.{Serves}
use Rattle.mount_replies.specs.MountExamples.{terms}
use Rattle.mount_replies.specs.PastLaws.{just_mounted}
use Rattle.mount_replies.specs.Services.{Service}

-- ---- numbers below 256, of four and of eight bytes, the low one first

abbrev pub zeros : ℕ → List ℕ
zeros count = replicate count 0

abbrev pub u32 : ℕ → List ℕ
u32 number = number ∷ zeros 3

abbrev pub u64 : ℕ → List ℕ
u64 number = number ∷ zeros 7

-- ---- requests

-- fuse_in_header: len, opcode, unique, nodeid; uid, gid; pid; total_extlen, padding
abbrev pub header : (len opcode unique node pid : ℕ) → List ℕ
header len opcode unique node pid = u32 len ++ u32 opcode ++ u64 unique ++ u64 node ++ zeros 8 ++ u32 pid ++ zeros 4

-- fcntl.h: O_LARGEFILE is 32768, and so 128 in the second byte; O_TRUNC 512, there 2; O_WRONLY 1
abbrev pub reading : List ℕ
reading = 0 ∷ 128 ∷ 0 ∷ 0 ∷ []

abbrev pub writing : List ℕ
writing = 1 ∷ 128 ∷ 0 ∷ 0 ∷ []

abbrev pub emptying : List ℕ
emptying = 1 ∷ 130 ∷ 0 ∷ 0 ∷ []

-- OPEN, 14. fuse_open_in: flags; open_flags
abbrev pub opens : (unique node : ℕ) → List ℕ → List ℕ
opens unique node flags = header 48 14 unique node 7 ++ flags ++ zeros 4

-- READ, 15. fuse_read_in: fh, offset; size, 4,096; read_flags, FUSE_READ_LOCKOWNER; lock_owner; flags; padding
abbrev pub reads : (unique node handle : ℕ) → List ℕ
reads unique node handle =
    header 80 15 unique node 7 ++ u64 handle ++ u64 0 ++ (0 ∷ 16 ∷ 0 ∷ 0 ∷ []) ++ u32 2 ++ u64 9 ++ reading ++ zeros 4

-- WRITE, 16. fuse_write_in: fh, offset, size; write_flags, FUSE_WRITE_LOCKOWNER; lock_owner; flags; padding; and then the bytes
abbrev pub writes : (unique node handle : ℕ) → List ℕ → List ℕ
writes unique node handle text =
    header (80 + length text) 16 unique node 7 ++ u64 handle ++ u64 0 ++ u32 (length text) ++ u32 2 ++ u64 9 ++ writing ++ zeros 4 ++ text

-- FLUSH, 25. fuse_flush_in: fh; unused, padding; lock_owner
abbrev pub flushes : (unique node handle : ℕ) → List ℕ
flushes unique node handle = header 64 25 unique node 7 ++ u64 handle ++ zeros 8 ++ u64 9

-- RELEASE, 18, by no process. fuse_release_in: fh; flags; release_flags, lock_owner
abbrev pub releases : (unique node handle : ℕ) → List ℕ → List ℕ
releases unique node handle flags = header 64 18 unique node 0 ++ u64 handle ++ flags ++ zeros 12

-- ---- replies

-- fuse_out_header: len; error; unique
abbrev pub done : ℕ → List ℕ
done unique = u32 16 ++ u32 0 ++ u64 unique

-- EINVAL is 22, so the error is -22
abbrev pub invalid : ℕ → List ℕ
invalid unique = u32 16 ++ (234 ∷ 255 ∷ 255 ∷ 255 ∷ []) ++ u64 unique

-- fuse_open_out: fh; open_flags, padding
abbrev pub opened : (unique handle flags : ℕ) → List ℕ
opened unique handle flags = u32 32 ++ u32 0 ++ u64 unique ++ u64 handle ++ u64 flags

-- fuse_write_out: size, padding
abbrev pub written : (unique size : ℕ) → List ℕ
written unique size = u32 24 ++ u32 0 ++ u64 unique ++ u64 size

abbrev pub given : ℕ → List ℕ → List ℕ
given unique text = u32 (16 + length text) ++ u32 0 ++ u64 unique ++ text

-- ---- the session

-- the bytes of a request, and those that are written for it; of what is told later the first are none
pub record ByteExchange : Type 0 where
  pub asked : List ℕ
  pub told : List ℕ

abbrev pub exchange : List ℕ → List ℕ → ByteExchange
exchange asked told = record { asked = asked; told = told }

-- echo TEXT > FILE, with what is told of the write
abbrev pub echo : (unique node : ℕ) → (text answer : List ℕ) → List ByteExchange
echo unique node text answer =
    exchange (opens unique node emptying) (opened unique 0 33)
    ∷ exchange (writes (unique + 2) node 0 text) answer
    ∷ exchange (releases (unique + 4) node 0 writing) (done (unique + 4))
    ∷ []

-- An event is declared and switched on, and garbage is written to its trigger file. Then cat trace_pipe waits until echo n=5 > inject, and cat error_log
-- shows the garbage. The files: synthetic_events is 11, of the event enable is 24, trigger 26 and inject 29; trace_pipe is 13, and error_log 45.
abbrev pub session : List ByteExchange
session =
    echo 2 11 (codes "tick u64 n\n") (written 4 11)
    ++ echo 8 24 (codes "1\n") (written 10 2)
    ++ echo 14 26 (codes "garbage\n") (invalid 16)
    ++ exchange (opens 20 13 reading) (opened 20 0 53)
    ∷ exchange (reads 22 13 0) []
    ∷ exchange (opens 24 29 emptying) (opened 24 1 1)
    ∷ exchange (writes 26 29 1 (codes "n=5\n")) (written 26 4)
    ∷ exchange [] (given 22 (codes "7 [000] 1: tick: n=5\n"))
    ∷ exchange (flushes 28 29 1) (done 28)
    ∷ exchange (releases 30 29 1 writing) (done 30)
    ∷ exchange (releases 32 13 0 reading) (done 32)
    ∷ exchange (opens 34 45 reading) (opened 34 0 33)
    ∷ exchange (reads 36 45 0)
    (given 36 (codes "[    0.000000] hist:synthetic:tick: error: expected `hist:` or `snapshot`\n  Command: garbage\n           ^\n"))
    ∷ exchange (releases 38 45 0 reading) (done 38)
    ∷ []

abbrev pub SessionIsServed : Type 0
SessionIsServed = (after : Service) × Serves terms just_mounted (map (λ (one : ByteExchange). one.asked) session) (map (λ (one : ByteExchange). one.told) session) after
