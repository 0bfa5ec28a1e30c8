-- Reads and writes of files that tools ask for, and `set_event` that is opened to be emptied.
use Rattle.std.proofs.Common.{◌≡◌, ℕ, List, Option, Some, None, refl, sym, ap, inl}
use Rattle.fuse_wire.specs.Replies.{reply_bytes}
use Rattle.fuse_wire.specs.declared.errno.Errno.TheVariants.{ENOENT, ENOMEM}
use Rattle.fuse_wire.specs.declared.reply.Reply.{Reply}
use Rattle.fuse_wire.specs.declared.reply.Reply.TheVariants as replies
use Rattle.trace_command.specs.Requests.{Request}
use Rattle.mount_replies.specs.Mounted.{HasLedTo, IsStep, IsTold, MountSeen}
use Rattle.mount_replies.specs.Served.{given_tool, part_of}
use Rattle.mount_replies.specs.Services.{OpenSeen, with_reading}
use Rattle.mount_replies.specs.Steps.{Takes, taking, told}
use Rattle.mount_replies.proofs.Steps.{memory-step, told-step}

-- nothing is asked, and memory was there
pub takes-step : (past : List Request) (old : MountSeen) (reply : Reply) (files now : List (Option OpenSeen)) → HasLedTo past old → now ≡ files
    → IsStep past old (record old { files = now }) (Takes (told reply files)) (Some reply)
takes-step past old reply files now mounted is = record {
  after = past;
  mounted = record { lives = mounted.lives; scene = mounted.scene };
  terms = refl;
  does = inl (refl, ap (λ (f : List (Option OpenSeen)). record { past = past; files = f; parked = old.parked; errors = old.errors; counted = old.counted }) is);
}

-- ---- READ

-- a text was made
pub tool-made : (past : List Request) (old : MountSeen) (handle offset size : ℕ) (shown : Option (List ℕ)) (text : List ℕ)
    (now : List (Option OpenSeen)) (unique : ℕ) (bytes : List ℕ) → HasLedTo past old → Some text ≡ shown → now ≡ with_reading offset size text handle old.files
    → bytes ≡ reply_bytes unique (replies.Data (part_of offset size text))
    → IsTold past old (record old { files = now }) (given_tool handle offset size old.files shown) unique bytes
tool-made past old handle offset size shown text now unique bytes mounted is kept said =
    rw (sym is) (told-step past old (record old { files = now }) (taking (replies.Data (part_of offset size text)) (with_reading offset size text handle old.files)) unique bytes
    (replies.Data (part_of offset size text))
    (takes-step past old (replies.Data (part_of offset size text)) (with_reading offset size text handle old.files) now mounted kept) said)

-- there is none
pub tool-missing : (past : List Request) (old : MountSeen) (handle offset size : ℕ) (shown : Option (List ℕ)) (unique : ℕ) (bytes : List ℕ)
    → HasLedTo past old → None ≡ shown → bytes ≡ reply_bytes unique (replies.Error ENOENT)
    → IsTold past old old (given_tool handle offset size old.files shown) unique bytes
tool-missing past old handle offset size shown unique bytes mounted is said =
    rw (sym is) (told-step past old old (taking (replies.Error ENOENT) old.files) unique bytes (replies.Error ENOENT)
    (takes-step past old (replies.Error ENOENT) old.files old.files mounted refl) said)

-- memory for it was refused
pub tool-refused : (past : List Request) (old : MountSeen) (handle offset size : ℕ) (shown : Option (List ℕ)) (unique : ℕ) (bytes : List ℕ)
    → HasLedTo past old → bytes ≡ reply_bytes unique (replies.Error ENOMEM)
    → IsTold past old old (given_tool handle offset size old.files shown) unique bytes
tool-refused past old handle offset size None unique bytes mounted said =
    told-step past old old (taking (replies.Error ENOENT) old.files) unique bytes (replies.Error ENOMEM) (memory-step past old _ mounted) said
tool-refused past old handle offset size (Some text) unique bytes mounted said =
    told-step past old old (taking (replies.Data (part_of offset size text)) (with_reading offset size text handle old.files)) unique bytes (replies.Error ENOMEM)
    (memory-step past old _ mounted) said
