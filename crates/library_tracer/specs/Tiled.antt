-- Callers that tile names: 1,024 of 64 names each, from 0 to 65,535.
use Rattle.std.specs.Prelude.{◌≡◌, ℕ, ◌+◌, ◌*◌, ◌<◌, List, [], ◌∷◌, ◌++◌, length, Option, Some, None, IsSome}
use Rattle.std.specs.List.{AllWithin, HoldsAt}
use Rattle.ticket_lock.specs.Views.{HasAllNames}
use Rattle.ticket_lock.specs.Entries.{Continues}
use Rattle.shared_mount.specs.MountCallers.{caller_view, IsCallerOf}
use Rattle.shared_mount.specs.MountEntries.{EntrySeen, caller_of}
use Rattle.shared_mount.specs.declared.caller.Caller.{Caller}
use Rattle.shared_mount.specs.declared.shared.SharedMount.{SharedMount}

-- each is there
abbrev pub AreAll : List (Option Caller) → Type 0
AreAll [] = Unit {0}
AreAll (None ∷ callers) = ⊥
AreAll (Some caller ∷ callers) = AreAll callers

-- the first that is there is at this index, or none is
abbrev pub IsFirstThere : List (Option Caller) → Option ℕ → Type 0
IsFirstThere callers None = AllWithin (λ caller. caller ≡ None) callers 0 (length callers)
IsFirstThere callers (Some index) =
    (index < length callers) × HoldsAt (λ caller. IsSome caller) callers index × AllWithin (λ caller. caller ≡ None) callers 0 index

-- The caller has 64 names from this one on.
pub record IsTile (shared : SharedMount) (low : ℕ) (caller : Caller) : Type 0 where
  pub of : IsCallerOf shared caller
  pub low_is : (caller_view caller).low ≡ low
  pub end_is : (caller_view caller).end ≡ low + 64

-- each that is there has the names of its index, from this name on
abbrev pub AreTiles : SharedMount → ℕ → List (Option Caller) → Type 0
AreTiles shared low [] = Unit {0}
AreTiles shared low (None ∷ callers) = AreTiles shared (low + 64) callers
AreTiles shared low (Some caller ∷ callers) = IsTile shared low caller × AreTiles shared (low + 64) callers

-- What a split adds: so many, all there, by name from this one on.
pub record AreParts (shared : SharedMount) (low count : ℕ) (added : List (Option Caller)) : Type 0 where
  pub count_is : length added ≡ count
  pub tiles : AreTiles shared low added
  pub all : AreAll added

-- each that is there has seen nothing
abbrev pub AreFresh : List (Option Caller) → Type 0
AreFresh [] = Unit {0}
AreFresh (None ∷ callers) = AreFresh callers
AreFresh (Some caller ∷ callers) = ((caller_view caller).seen ≡ []) × AreFresh callers

-- By each that is there, from this name on: a history begins with all that it had seen, and after that has no entry under its names.
abbrev pub ContinuesEach : List EntrySeen → ℕ → List (Option Caller) → Type 0
ContinuesEach history low [] = Unit {0}
ContinuesEach history low (None ∷ callers) = ContinuesEach history (low + 64) callers
ContinuesEach history low (Some caller ∷ callers) =
    Continues caller_of low (low + 64) (caller_view caller).seen history × ContinuesEach history (low + 64) callers

-- A caller that was made of those before, and those that are left: it has the names up to where theirs begin. What it has seen
-- continues what each of those before had seen.
pub record MeetsNext (shared : SharedMount) (all : List (Option Caller)) (first : Caller) (rest : List (Option Caller)) : Type 0 where
  pub before : List (Option Caller)
  pub all_is : all ≡ before ++ rest
  pub of : IsCallerOf shared first
  pub low_is : (caller_view first).low ≡ 0
  pub end_is : (caller_view first).end ≡ 64 * length before
  pub tiles : AreTiles shared (caller_view first).end rest
  pub there : AreAll rest
  pub left : (caller_view first).end + 64 * length rest ≡ 65536
  pub continues : ContinuesEach (caller_view first).seen 0 before

-- the callers that are left, and the one that was made of those before, if there is one
abbrev pub IsMeeting : SharedMount → List (Option Caller) → Option Caller → List (Option Caller) → Type 0
IsMeeting shared all None rest = AreParts shared 0 1024 rest × (all ≡ rest)
IsMeeting shared all (Some first) rest = MeetsNext shared all first rest

-- A caller that has all names. What it has seen continues what each of these had seen.
pub record IsRootOf (shared : SharedMount) (all : List (Option Caller)) (root : Caller) : Type 0 where
  pub of : IsCallerOf shared root
  pub names : HasAllNames (caller_view root)
  pub continues : ContinuesEach (caller_view root).seen 0 all
