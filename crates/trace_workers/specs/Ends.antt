-- How the parts of a block ended, and which fault is reported of them. `may` is what the gate may answer.
use Rattle.std.specs.Prelude.{◌≡◌, ℕ, ◌+◌, ◌<◌, ◌⊎◌, Bool, false, List, [], ◌∷◌, length, Result, Option, None, Some}
use Rattle.tracer_specification.specs.Blocks.{Trail}
use Rattle.trace_command.specs.Commands.{Command}
use Rattle.trace_command.specs.declared.command.Reply.{Reply}
use Rattle.trace_command.specs.declared.refusal.Refusal.{Refusal}
use Rattle.trace_workers.specs.declared.fault.BlockFault.{BlockFault}
use Rattle.trace_workers.specs.declared.fault.BlockFault.TheVariants.{Memory, Stopped, NoThread}
use Rattle.trace_workers.specs.declared.gate.Point.{Point}
use Rattle.trace_workers.specs.declared.gate.Point.TheVariants.{Asking, Answered}

-- ---- one part

-- the gate may have answered `false` where the replies end: before the first command without one, or after the last one that has one
abbrev pub StopsHere : (ℕ → Point → Bool → Type 0) → List Command → List (Result Reply Refusal) → Type 0
StopsHere may commands replies =
    ((length replies < length commands) × may (length replies) Asking false)
    ⊎ ((call : ℕ) × (call + 1 ≡ length replies) × may call Answered false)

-- a command has no reply, or none has
abbrev pub IsShort : List Command → List (Result Reply Refusal) → Type 0
IsShort commands replies = (length replies < length commands) ⊎ (replies ≡ [])

-- a part with these replies ended so: with all its replies, or early and for this reason
abbrev pub EndsAs : (ℕ → Point → Bool → Type 0) → List Command → List (Result Reply Refusal) → Option BlockFault → Type 0
EndsAs may commands replies None = length replies ≡ length commands
EndsAs may commands replies (Some Memory) = IsShort commands replies
EndsAs may commands replies (Some Stopped) = StopsHere may commands replies
EndsAs may commands replies (Some NoThread) = replies ≡ []

-- ---- all parts

-- the parts with these trails ended so; the first of them has this index
abbrev pub EndAs : (ℕ → ℕ → Point → Bool → Type 0) → ℕ → List (List Command) → List Trail → List (Option BlockFault) → Type 0
EndAs may thread [] [] [] = Unit {0}
EndAs may thread (commands ∷ parts) (trail ∷ trails) (end ∷ ends) =
    EndsAs (may thread) commands trail.replies end × EndAs may (thread + 1) parts trails ends
EndAs may thread _ _ _ = ⊥

-- of two faults the one that is reported: Memory before Stopped, and that before NoThread
abbrev pub told_fault : Option BlockFault → Option BlockFault → Option BlockFault
told_fault None other = other
told_fault (Some Memory) other = Some Memory
told_fault (Some Stopped) (Some Memory) = Some Memory
told_fault (Some Stopped) None = Some Stopped
told_fault (Some Stopped) (Some Stopped) = Some Stopped
told_fault (Some Stopped) (Some NoThread) = Some Stopped
told_fault (Some NoThread) None = Some NoThread
told_fault (Some NoThread) (Some Memory) = Some Memory
told_fault (Some NoThread) (Some Stopped) = Some Stopped
told_fault (Some NoThread) (Some NoThread) = Some NoThread

-- the fault that a block reports whose parts ended so
abbrev pub reported : List (Option BlockFault) → Option BlockFault
reported [] = None
reported (end ∷ ends) = told_fault end (reported ends)
