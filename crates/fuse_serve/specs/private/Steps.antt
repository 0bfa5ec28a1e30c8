-- What one write of the rest of a reply comes to.
use Rattle.std.specs.Prelude.{◌≡◌, ◌<◌, ◌≤◌, ◌⊎◌, ℕ, Bool, true, false, List, [], ◌∷◌, ◌++◌, length, take, Option, Ok, Err}
use Rattle.std.specs.Io.KnownBytes.{Appends}
use Rattle.std.specs.declared.io.Error.{Error}
use Rattle.fuse_serve.specs.Calls.{Call, write_call}
use Rattle.fuse_serve.specs.Causes.{cause_of}
use Rattle.fuse_serve.specs.declared.cause.Cause.{Cause}
use Rattle.fuse_serve.specs.declared.cause.Cause.TheVariants.{NoEntry, Interrupted, NoDevice, Other}
use Rattle.fuse_serve.specs.declared.deliver.Step.{Step}
use Rattle.fuse_serve.specs.declared.deliver.Step.TheVariants.{Took, Again, Last}
use Rattle.fuse_serve.specs.declared.fate.Fate.TheVariants.{Written, Dropped, Cut}

-- a write that failed for this cause cuts a reply of which a part was written before, or none
abbrev pub CutsNow : Bool → Cause → Type 0
CutsNow is_begun NoEntry = is_begun ≡ true
CutsNow is_begun Interrupted = ⊥
CutsNow is_begun NoDevice = Unit {0}
CutsNow is_begun Other = Unit {0}

-- what a step did, by the device's calls before and after, and the bytes that it holds
abbrev pub Does : Step → Bool → List ℕ → List Call → List Call → Option (List ℕ) → Option (List ℕ) → Type 0
Does (Took count) is_begun rest before after old new =
    (0 < count) × (count ≤ length rest) × (after ≡ before ++ write_call rest (Ok count) ∷ []) × Appends old new (take count rest)
Does Again is_begun rest before after old new =
    (error : Error) × (after ≡ before ++ write_call rest (Err error) ∷ []) × (cause_of error ≡ Interrupted) × Appends old new []
Does (Last Written) is_begun rest before after old new = ⊥
Does (Last Dropped) is_begun rest before after old new =
    (is_begun ≡ false) × (error : Error) × (after ≡ before ++ write_call rest (Err error) ∷ []) × (cause_of error ≡ NoEntry) × Appends old new []
Does (Last Cut) is_begun rest before after old new =
    ((after ≡ before ++ write_call rest (Ok 0) ∷ [])
    ⊎ ((error : Error) × (after ≡ before ++ write_call rest (Err error) ∷ []) × CutsNow is_begun (cause_of error)))
    × Appends old new []
