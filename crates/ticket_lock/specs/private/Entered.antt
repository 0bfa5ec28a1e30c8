-- What a pass has found that drew a ticket, or entered and left its slot empty.
use Rattle.std.specs.Prelude.{◌≡◌, ℕ, ◌+◌, ◌<◌, ◌^◌, None, List, [], ◌∷◌}
use Rattle.ticket_lock.specs.declared.views.View.{View}
use Rattle.ticket_lock.specs.declared.views.Stage.TheVariants.{Waiting}
use Rattle.ticket_lock.specs.Moves.{Seated, before_draw, after_entry, FindsHistory}
use Rattle.ticket_lock.specs.Calls.{HasLooked}

-- the ticket was found in NEXT, and the pass waits with it
pub record HasDrawn {E : Type 0} (v w : View E) (ticket : ℕ) : Type 0 where
  pub looked : HasLooked v (before_draw w ticket)
  pub waits : w.stage ≡ Waiting ticket
  pub front : w.front ≡ ticket + 1
  pub few : ticket < 2 ^ 63

-- the history is the entries of the value, whose base it knew
pub record HasEntered {T E : Type 0} (entries : T → List E) (base_of : T → List ℕ) (ticket by : E → ℕ) (v : View E) (now : Seated T E) (value : T) : Type 0 where
  pub view : now ≡ (after_entry v (entries value), (0, None) ∷ [])
  pub base : base_of value ≡ v.base
  pub finds : FindsHistory ticket by v (entries value)
