-- What is said of one pass by what it knows.
use Rattle.std.specs.Prelude.{◌≡◌, ℕ, zero, suc, ◌<◌, ◌≤◌, Bool, true, false, ◌==◌, Option, Some, None, List, [], ◌∷◌}
use Rattle.ticket_lock.specs.declared.views.Stage.{Stage}
use Rattle.ticket_lock.specs.declared.views.Stage.TheVariants.{Idle, Waiting, Holding, Spent}
use Rattle.ticket_lock.specs.declared.views.View.{View}

-- it was not joined to another
abbrev pub IsLive : Stage → Type 0
IsLive Idle = Unit {0}
IsLive (Waiting ticket) = Unit {0}
IsLive (Holding ticket) = Unit {0}
IsLive Spent = ⊥

-- it waits or holds with the ticket `x`
abbrev pub HasTicket : Stage → ℕ → Type 0
HasTicket Idle x = ⊥
HasTicket (Waiting ticket) x = x ≡ ticket
HasTicket (Holding ticket) x = x ≡ ticket
HasTicket Spent x = ⊥

-- it holds with the ticket `x`
abbrev pub HoldsWith : Stage → ℕ → Type 0
HoldsWith Idle x = ⊥
HoldsWith (Waiting ticket) x = ⊥
HoldsWith (Holding ticket) x = x ≡ ticket
HoldsWith Spent x = ⊥

module _ {E : Type 0} where
  -- the caller's number `x` is one of its names
  abbrev pub HasName : View E → ℕ → Type 0
  HasName v x = IsLive v.stage × (v.low ≤ x) × (x < v.end)

  -- it has all names
  abbrev pub HasAllNames : View E → Type 0
  HasAllNames v = (v.low ≡ 0) × (v.end ≡ 65536)

-- whether it asks for nothing
abbrev pub is_idle : Stage → Bool
is_idle Idle = true
is_idle (Waiting ticket) = false
is_idle (Holding ticket) = false
is_idle Spent = false

-- whether it waits with the ticket `x`
abbrev pub is_waiting : ℕ → Stage → Bool
is_waiting x Idle = false
is_waiting x (Waiting ticket) = x == ticket
is_waiting x (Holding ticket) = false
is_waiting x Spent = false

-- whether it holds with the ticket `x`
abbrev pub is_holding : ℕ → Stage → Bool
is_holding x Idle = false
is_holding x (Waiting ticket) = false
is_holding x (Holding ticket) = x == ticket
is_holding x Spent = false

-- whether the slot is all that the seat has taken, and is empty
abbrev pub is_blank : {T : Type 0} → List (ℕ × Option T) → Bool
is_blank [] = false
is_blank ((suc slot, value) ∷ slots) = false
is_blank ((zero, Some value) ∷ slots) = false
is_blank ((zero, None) ∷ []) = true
is_blank ((zero, None) ∷ slot ∷ slots) = false
