-- Lists of what the seats of a table know: each has its number and its view.
use Rattle.std.specs.Prelude.{◌≡◌, ℕ, List}
use mathlib.Core.Option.{some}
use lib.ListN.{get_elem?}

-- P holds of each view
abbrev pub Each : {V : Type 0} → (V → Type 0) → List V → Type 0
Each {V} P views = (seat : ℕ) (v : V) → get_elem? views seat ≡ some v → P v

-- P holds of the view of some seat
abbrev pub SomeSeat : {V : Type 0} → (V → Type 0) → List V → Type 0
SomeSeat {V} P views = (seat : ℕ) × (v : V) × (get_elem? views seat ≡ some v) × P v

-- no two seats have one number by P
abbrev pub AtMostOne : {V : Type 0} → (V → ℕ → Type 0) → List V → Type 0
AtMostOne {V} P views = (seat other : ℕ) (v w : V) (x : ℕ) → get_elem? views seat ≡ some v → get_elem? views other ≡ some w → P v x → P w x → seat ≡ other
