-- What is kept: of each instance the last eight errors since its log was cleared, whatever becomes of the others; and where the caret stands.
use Rattle.std.specs.Prelude.{◌≡◌, ◌≢◌, ◌≤◌, ◌<◌, ℕ, ◌+◌, ◌-◌, List, [], ◌∷◌, ◌++◌, length, drop, slice_index, codes, if◌then◌else◌}
use Rattle.mount_tree.specs.declared.node.Owner.{Owner}
use Rattle.error_log.specs.Errors.{ErrorSeen, before_caret, begun, command, refused}
use Rattle.refusal_explanations.specs.Layout.{shown_byte}
use Rattle.error_log.specs.Logs.{cleared, errors_of, is_of, is_same, noted}

-- what happens to the logs
pub data Change : Type 0 where
  Noted : ErrorSeen → Change
  Cleared : Owner → Change

-- the errors after these changes, newest first
abbrev pub errors_after : List Change → List ErrorSeen
errors_after [] = []
errors_after (Noted error ∷ changes) = noted error (errors_after changes)
errors_after (Cleared owner ∷ changes) = cleared owner (errors_after changes)

-- all that were noted of an instance since its log was cleared
abbrev pub noted_since : Owner → List Change → List ErrorSeen
noted_since owner [] = []
noted_since owner (Noted error ∷ changes) = noted_since owner changes ++ (if is_of owner error then error ∷ [] else [])
noted_since owner (Cleared other ∷ changes) = if is_same owner other then [] else noted_since owner changes

abbrev pub last_eight : List ErrorSeen → List ErrorSeen
last_eight errors = drop (length errors - 8) errors

abbrev pub KeepsLastEight : Type 0
KeepsLastEight = (owner : Owner) (changes : List Change) → errors_of owner (errors_after changes) ≡ last_eight (noted_since owner changes)

-- a write of this text that was refused at this offset, as it is shown: at most 256 bytes of it, and the caret under one of these, or after the last.
-- That one is the byte at the offset, if the text has one there and it is no newline (10).
pub record StandsUnder (text : List ℕ) (offset : ℕ) (e : ErrorSeen) : Type 0 where
  pub few : length e.written ≤ 256
  pub under : length (before_caret e) ≡ length (codes "  Command: ") + e.at
  pub blamed : offset < length text → slice_index text offset ≢ 10 → slice_index (command e) (length (before_caret e)) ≡ shown_byte (slice_index text offset)

abbrev pub CaretStandsUnder : Type 0
CaretStandsUnder =
    (owner : Owner) (time : ℕ) (path text sentence : List ℕ) (offset : ℕ) → StandsUnder text offset (refused (begun owner time path) text sentence offset)
