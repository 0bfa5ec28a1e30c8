-- What a try comes to, of which the caller comes back: by all that it may be.
use Rattle.std.proofs.Common.{◌≡◌, ℕ, Bool, List, [], Option, Some, None, Result, Ok, Err, IfNone, IfOk, IfErr, IfSome, IsOk, refl}
use Rattle.tracer.specs.LiveSeen.{LiveSeen}
use Rattle.mount_replies.specs.declared.shown.CopiedText.{CopiedText}
use Rattle.shared_mount.specs.MountCallers.{caller_view, line_view, HasFailed, IsIdle, IsLookedAt, IsToldOf, Serves}
use Rattle.shared_mount.specs.declared.caller.Caller.{Caller}
use Rattle.shared_mount.specs.declared.caller.InLine.{InLine}
use Rattle.shared_mount.specs.declared.served.NoTurn.{NoTurn}
use Rattle.shared_mount.specs.declared.served.NoTurn.TheVariants.{Busy, Worn}
use Rattle.shared_mount.specs.declared.served.Served.{Served}
use Rattle.library_tracer.specs.Consoles.{Looks, ServesOnce}
use Rattle.library_tracer.specs.Inner.{seen, IsSound}
use Rattle.library_tracer.specs.declared.console.Console.TheInside.{Inside}
use Rattle.library_tracer.specs.declared.queued.Queued.{Queued}
use Rattle.library_tracer.specs.private.Tries.{caller_back, idle_after, queued_after, told_in_line, told_of}
use Rattle.library_tracer.proofs.ConsoleLemmas.{idle_busy, idle_looked, idle_served, idle_worn, line_busy, line_looked, line_served, line_stays, terms_in}
use Rattle.library_tracer.proofs.ShownLemmas.{copies, idle_copied, line_copied}

-- ---- one that is idle

pub idle_sees : (i : Inside) {A : Type 0} (caller : Caller) (tells : LiveSeen → A → Type 0) (tried : Result (Caller × A) NoTurn) → i.idle ≡ Some caller
    → IsSound i → IfOk tried (λ r. IsLookedAt (terms_in i) tells (caller_view caller) (caller_view r.0) r.1) → IfErr tried (HasFailed (caller_view caller))
    → Looks (IsToldOf (seen i).terms tells) (seen i) (seen (record i { idle = Some (caller_back tried) })) (told_of tried)
idle_sees i caller tells (Ok told) e sound looked failed = idle_looked i caller told.0 tells told.1 e sound looked
idle_sees i caller tells (Err (Busy next)) e sound looked failed = idle_busy i caller next e sound failed
idle_sees i caller tells (Err (Worn next)) e sound looked failed = (refl, idle_worn i caller next e sound failed)

pub idle_copies : (i : Inside) (caller : Caller) (tried : Result (Caller × Option CopiedText) NoTurn) → i.idle ≡ Some caller
    → IsSound i → IfOk tried (λ r. IsIdle (terms_in i) (caller_view caller) (caller_view r.0))
    → IfOk tried (λ r. copies (terms_in i) r.1 (caller_view r.0).seen)
    → IfErr tried (HasFailed (caller_view caller))
    → Looks (λ entries copied. copies (seen i).terms copied entries) (seen i) (seen (record i { idle = Some (caller_back tried) })) (told_of tried)
idle_copies i caller (Ok told) e sound idle copied failed = idle_copied i caller told.0 told.1 e sound idle copied
idle_copies i caller (Err (Busy next)) e sound idle copied failed = idle_busy i caller next e sound failed
idle_copies i caller (Err (Worn next)) e sound idle copied failed = (refl, idle_worn i caller next e sound failed)

pub idle_serves : (i : Inside) (caller : Caller) (asked bytes : List ℕ) (owes : Bool) (tried : Result (Caller × Served) NoTurn) → i.idle ≡ Some caller
    → IsSound i → IfOk tried (λ r. Serves (terms_in i) asked bytes owes (caller_view caller) (caller_view r.0) r.1)
    → IfErr tried (λ no. HasFailed (caller_view caller) no × (bytes ≡ []))
    → ServesOnce asked bytes owes (seen i) (seen (record i { idle = Some (caller_back tried) })) (told_of tried)
idle_serves i caller asked bytes owes (Ok told) e sound serves failed = idle_served i caller told.0 asked bytes owes told.1 e sound serves
idle_serves i caller asked bytes owes (Err (Busy next)) e sound serves failed = (idle_busy i caller next e sound failed.0, failed.1)
idle_serves i caller asked bytes owes (Err (Worn next)) e sound serves failed = (refl, idle_worn i caller next e sound failed.0, failed.1)

-- ---- one that is in line

-- it is left idle after its turn, or in line again
abbrev pub after_line : {T : Type 0} → Inside → Option Queued → Result (Caller × T) InLine → Inside
after_line i rest tried = record i { idle = idle_after i.idle tried; queued = queued_after rest tried }

pub line_sees : (i : Inside) {A : Type 0} (queued : Queued) (rest : Option Queued) (tells : LiveSeen → A → Type 0) (tried : Result (Caller × A) InLine)
    → i.queued ≡ Some queued → IsSound i → rest ≡ None
    → IfOk tried (λ r. IsLookedAt (terms_in i) tells (line_view queued.line) (caller_view r.0) r.1)
    → IfErr tried (λ line. line_view line ≡ line_view queued.line)
    → Looks (IsToldOf (seen i).terms tells) (seen i) (seen (after_line i rest tried)) (told_in_line tried)
line_sees i queued rest tells (Ok told) e sound none looked same = rw none (line_looked i queued told.0 tells told.1 e sound looked)
line_sees i queued rest tells (Err line) e sound none looked same = line_busy i queued (record { line = line }) e sound same

-- what a look in line tells, and that nothing changes where its ticket is not served yet
pub line_answers : {A : Type 0} (tried : Result (Caller × A) InLine) → IfSome (told_in_line tried) (λ told. IsOk told)
line_answers (Ok told) = refl
line_answers (Err line) = tt

pub line_waits : (i : Inside) {A : Type 0} (queued : Queued) (rest : Option Queued) (tried : Result (Caller × A) InLine) → i.queued ≡ Some queued → IsSound i
    → IfErr tried (λ line. line_view line ≡ line_view queued.line) → IfNone (told_in_line tried) (seen (after_line i rest tried) ≡ seen i)
line_waits i queued rest (Ok told) e sound same = tt
line_waits i queued rest (Err line) e sound same = line_stays i queued (record { line = line }) e sound same

pub line_copies : (i : Inside) (queued : Queued) (rest : Option Queued) (tried : Result (Caller × Option CopiedText) InLine) → i.queued ≡ Some queued
    → IsSound i → rest ≡ None → IfOk tried (λ r. IsIdle (terms_in i) (line_view queued.line) (caller_view r.0))
    → IfOk tried (λ r. copies (terms_in i) r.1 (caller_view r.0).seen) → IfErr tried (λ line. line_view line ≡ line_view queued.line)
    → Looks (λ entries copied. copies (seen i).terms copied entries) (seen i) (seen (after_line i rest tried)) (told_in_line tried)
line_copies i queued rest (Ok told) e sound none idle copied same = rw none (line_copied i queued told.0 told.1 e sound idle copied)
line_copies i queued rest (Err line) e sound none idle copied same = line_busy i queued (record { line = line }) e sound same

pub line_serves : (i : Inside) (queued : Queued) (rest : Option Queued) (asked bytes : List ℕ) (owes : Bool) (tried : Result (Caller × Served) InLine)
    → i.queued ≡ Some queued → IsSound i → rest ≡ None
    → IfOk tried (λ r. Serves (terms_in i) asked bytes owes (line_view queued.line) (caller_view r.0) r.1)
    → IfErr tried (λ line. (line_view line ≡ line_view queued.line) × (bytes ≡ []))
    → ServesOnce asked bytes owes (seen i) (seen (after_line i rest tried)) (told_in_line tried)
line_serves i queued rest asked bytes owes (Ok told) e sound none serves same = rw none (line_served i queued told.0 asked bytes owes told.1 e sound serves)
line_serves i queued rest asked bytes owes (Err line) e sound none serves same = (line_busy i queued (record { line = line }) e sound same.0, same.1)
