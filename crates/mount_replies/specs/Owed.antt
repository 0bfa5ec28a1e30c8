-- What a mounted tracer has to tell before it answers the next request: the replies of reads that wait no more, and that a polled pipe is ready.
use Rattle.std.specs.Prelude.{ℕ, Bool, false, not, ◌&&◌, ◌||◌, is_some, position, Option, Some, None, if◌then◌else◌}
use Rattle.fuse_wire.specs.declared.errno.Errno.TheVariants.{EINTR}
use Rattle.mount_replies.specs.Pipes.{has_news, waits_at}
use Rattle.mount_replies.specs.Served.{read_file}
use Rattle.mount_replies.specs.Services.{OpenSeen, Service, Terms, file_at, with_dry_read}
use Rattle.mount_replies.specs.Steps.{Step, failed}
use Rattle.mount_replies.specs.declared.parked.Parked.{Parked}

-- A read that was parked waits no more: it was interrupted, or a read of its handle would not wait now. That is so where records wait or are kept, the
-- pipe ends or is gone, or the file was closed.
abbrev pub is_due : Terms → Service → Parked → Bool
is_due g s read = read.interrupted || not (waits_at g s (file_at read.handle s.files))

-- a poll of the file is to be told, and there is something to tell
abbrev pub is_ready : Terms → Service → Option OpenSeen → Bool
is_ready g s None = false
is_ready g s (Some file) = is_some file.polls.wakeup && has_news g s file

pub data Owed : Type 0 where
  -- the reply of the parked read at this index
  ReplyAt : (index : ℕ) → Owed
  -- to the poll of the file of this handle that it is ready
  WakeupAt : (handle : ℕ) → Owed

abbrev pub first_owed : Option ℕ → Option ℕ → Option Owed
first_owed (Some index) wakeup = Some (ReplyAt index)
first_owed None (Some handle) = Some (WakeupAt handle)
first_owed None None = None

-- what is told first: of the parked reads that wait no more the oldest one's reply, else the first file's that is ready
abbrev pub owed : Terms → Service → Option Owed
owed g s = first_owed (position (is_due g s) s.parked) (position (is_ready g s) s.files)

-- what is told a parked read: EINTR if it was interrupted, else what a read gives now
abbrev pub step_of_parked : Terms → Service → Parked → Step
step_of_parked g s read =
    if read.interrupted then failed EINTR (with_dry_read false read.handle s.files) else read_file g s read 0 false 0 (file_at read.handle s.files)
