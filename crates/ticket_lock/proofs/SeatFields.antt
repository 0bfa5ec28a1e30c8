-- What the ghost fields of a pass and of a turn say of the seat.
use Rattle.std.proofs.Common.{◌≡◌, ℕ, zero, suc, true, List, [], ◌∷◌, length, sym, refl, ap, arith}
use Rattle.std.specs.Prelude.{Option, Some, None}
use Rattle.std.proofs.lemmas.Bool.{eqb-true, false≢true}
use Rattle.ticket_lock.specs.declared.views.Stage.{Stage}
use Rattle.ticket_lock.specs.declared.views.Stage.TheVariants.{Idle, Waiting, Holding, Spent}
use Rattle.ticket_lock.specs.Views.{is_idle, is_waiting, is_holding, is_blank}

pub idle_stage : (stage : Stage) → is_idle stage ≡ true → stage ≡ Idle
idle_stage Idle e = refl
idle_stage (Waiting ticket) e = absurd (false≢true e)
idle_stage (Holding ticket) e = absurd (false≢true e)
idle_stage Spent e = absurd (false≢true e)

pub waiting_stage : (x : ℕ) (stage : Stage) → is_waiting x stage ≡ true → stage ≡ Waiting x
waiting_stage x Idle e = absurd (false≢true e)
waiting_stage x (Waiting ticket) e = ap Waiting (sym (eqb-true x ticket e))
waiting_stage x (Holding ticket) e = absurd (false≢true e)
waiting_stage x Spent e = absurd (false≢true e)

pub holding_stage : (x : ℕ) (stage : Stage) → is_holding x stage ≡ true → stage ≡ Holding x
holding_stage x Idle e = absurd (false≢true e)
holding_stage x (Waiting ticket) e = absurd (false≢true e)
holding_stage x (Holding ticket) e = ap Holding (sym (eqb-true x ticket e))
holding_stage x Spent e = absurd (false≢true e)

pub no_slots : {A : Type 0} (xs : List A) → length xs ≡ 0 → xs ≡ []
no_slots [] e = refl
no_slots (x ∷ xs) e = absurd (omega arith)

pub blank_slot : {T : Type 0} (xs : List (ℕ × Option T)) → is_blank xs ≡ true → xs ≡ (0, None) ∷ []
blank_slot [] e = absurd (false≢true e)
blank_slot ((suc slot, value) ∷ slots) e = absurd (false≢true e)
blank_slot ((zero, Some value) ∷ slots) e = absurd (false≢true e)
blank_slot ((zero, None) ∷ []) e = refl
blank_slot ((zero, None) ∷ slot ∷ slots) e = absurd (false≢true e)
