-- Refusals and unknown operations as the errors of a system call.
use Rattle.std.specs.Prelude.{ℕ, ◌==◌, Bool, ◌||◌, if◌then◌else◌}
use Rattle.trace_command.specs.declared.refusal.Refusal.{Refusal}
use Rattle.trace_command.specs.declared.refusal.Refusal.TheVariants.{NoSuchFile, NotReadable, NotWritable, NoSuchEvent, EventExists, TooBig, TriggerExists, NoSuchTrigger, TooMany, InstanceExists, NoSuchInstance, Busy, NoSuchCpu, HistoryFull, Memory}
use Rattle.fuse_wire.specs.declared.errno.Errno.{Errno}
use Rattle.fuse_wire.specs.declared.errno.Errno.TheVariants.{EPERM, ENOENT, ENXIO, E2BIG, ENOMEM, EACCES, EBUSY, EEXIST, EINVAL, ENOSPC, ENOSYS}

abbrev pub errno_of : Refusal → Errno
errno_of NoSuchFile = ENOENT
errno_of NotReadable = EACCES
errno_of NotWritable = EACCES
errno_of NoSuchEvent = ENOENT
errno_of EventExists = EEXIST
errno_of TooBig = E2BIG
errno_of TriggerExists = EEXIST
errno_of NoSuchTrigger = ENOENT
errno_of (TooMany limit) = ENOSPC
errno_of InstanceExists = EEXIST
errno_of NoSuchInstance = ENOENT
errno_of Busy = EBUSY
errno_of NoSuchCpu = ENXIO
errno_of HistoryFull = ENOSPC
errno_of Memory = ENOMEM
errno_of _ = EINVAL

-- symlink, mknod, unlink, rename, link, rename2: a tracefs has nothing to make, to remove or to rename so
abbrev pub is_forbidden : ℕ → Bool
is_forbidden opcode = opcode == 6 || opcode == 8 || opcode == 10 || opcode == 12 || opcode == 13 || opcode == 45

-- 35 is create: a file that is opened to be made. An operation that is not known is not asked again.
abbrev pub errno_of_other : ℕ → Errno
errno_of_other opcode = if opcode == 35 then EACCES else (if is_forbidden opcode then EPERM else ENOSYS)
