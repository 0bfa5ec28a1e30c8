-- The errors of all instances, oldest first: of each its last eight.
use Rattle.std.specs.Prelude.{ℕ, ◌==◌, Bool, true, false, not, nat_lt, List, [], ◌∷◌, ◌++◌, if◌then◌else◌}
use Rattle.std.specs.List.{after_first, before_first, count_by, filter, flat_map}
use Rattle.mount_tree.specs.declared.node.Owner.{Owner}
use Rattle.mount_tree.specs.declared.node.Owner.TheVariants.{Top, Made}
use Rattle.error_log.specs.Errors.{ErrorSeen, error_text}

abbrev pub is_same : Owner → Owner → Bool
is_same Top Top = true
is_same (Made one) (Made other) = one == other
is_same _ _ = false

abbrev pub is_of : Owner → ErrorSeen → Bool
is_of owner error = is_same owner error.owner

-- those of an instance
abbrev pub errors_of : Owner → List ErrorSeen → List ErrorSeen
errors_of owner errors = filter (is_of owner) errors

abbrev pub without_first : Owner → List ErrorSeen → List ErrorSeen
without_first owner errors = before_first (is_of owner) errors ++ after_first (is_of owner) errors

-- the oldest of an instance is dropped, if it has more than eight
abbrev pub trimmed : Owner → List ErrorSeen → List ErrorSeen
trimmed owner errors = if nat_lt 8 (count_by (is_of owner) errors) then without_first owner errors else errors

-- one more was noted
abbrev pub noted : ErrorSeen → List ErrorSeen → List ErrorSeen
noted error errors = trimmed error.owner (errors ++ error ∷ [])

-- those of an instance are forgotten
abbrev pub cleared : Owner → List ErrorSeen → List ErrorSeen
cleared owner errors = filter (λ (e : ErrorSeen). not (is_of owner e)) errors

-- what `error_log` of an instance shows: each of its errors
abbrev pub own_text : Owner → ErrorSeen → List ℕ
own_text owner error = if is_of owner error then error_text error else []

abbrev pub log_text : Owner → List ErrorSeen → List ℕ
log_text owner errors = flat_map (own_text owner) errors
