-- What the lock's calls promise.
use Rattle.std.specs.Prelude.{◌≡◌, ◌⊎◌, ℕ, ◌+◌, ◌<◌, ◌≤◌, ◌^◌, List, [], ◌∷◌, ◌++◌, All, AllPairs}
use Rattle.std.specs.Borrow.{Lends, MutBor, Fml}
use denote.RattleType.{RattleType}
use Rattle.ticket_lock.specs.declared.views.View.{View}
use Rattle.ticket_lock.specs.declared.entries.Logged.{Ghosts}
use Rattle.ticket_lock.specs.declared.passes.Pass.{Pass}
use Rattle.ticket_lock.specs.declared.passes.TryAcquireError.{TryAcquireError}
use Rattle.ticket_lock.specs.declared.passes.TryAcquireError.TheVariants as failed
use Rattle.ticket_lock.specs.declared.drawn.Drawn.{Drawn}
use Rattle.ticket_lock.specs.declared.turns.Held.{Held}
use Rattle.ticket_lock.specs.declared.lock.TicketLock.{TicketLock}
use Rattle.ticket_lock.specs.contracts.turns.Held.{the_row}
use Rattle.ticket_lock.specs.Entries.{entries_under, Continues, IsBefore, longer_of}
use Rattle.ticket_lock.specs.Views.{HasAllNames}
use Rattle.ticket_lock.specs.Moves.{middle_of, after_look, before_draw}

module _ {T E : Type 0} {L : Ghosts T E} where
  -- what a pass knows
  abbrev pub view_of : Pass T E L → View E
  view_of pass = pass.seat.me.0

  -- what the pass knows whose ticket was drawn: what it knew before the draw, which found its ticket in NEXT
  abbrev pub drawn_view : Drawn T E L → View E
  drawn_view drawn = before_draw drawn.seat.me.0 drawn.ticket

  -- the ticket that was drawn
  abbrev pub drawn_ticket : Drawn T E L → ℕ
  drawn_ticket drawn = drawn.ticket

  -- what the pass knows whose turn it is
  abbrev pub held_view : Held T E L → View E
  held_view held = held.turn.seat.me.0

  -- the ticket that is served
  abbrev pub held_ticket : Held T E L → ℕ
  held_ticket held = held.turn.ticket

  -- the value as it is now
  abbrev pub held_value : Held T E L → T
  held_value held = held.value.value

  -- the pass is of this lock
  abbrev pub IsOf : TicketLock T E → Pass T E L → Type 0
  IsOf lock pass = pass.seat.table_id ≡ lock.table.shared.table_id

  -- the ticket is of this lock
  abbrev pub IsTicketOf : TicketLock T E → Drawn T E L → Type 0
  IsTicketOf lock drawn = drawn.seat.table_id ≡ lock.table.shared.table_id

  -- the pass that comes back from a try that failed
  abbrev pub pass_of : TryAcquireError T E L → Pass T E L
  pass_of (failed.Busy pass) = pass
  pass_of (failed.Worn worn) = worn.pass

  -- the turn is of this lock
  abbrev pub IsTurnOf : TicketLock T E → Held T E L → Type 0
  IsTurnOf lock held = held.turn.seat.table_id ≡ lock.table.shared.table_id

  -- the turn with another value
  abbrev pub with_value : Held T E L → T → Held T E L
  with_value held value = record held { value = record { ptr = held.value.ptr; alloc = held.value.alloc; value = value } }

-- the turn ends with the last value that was written through the reference
abbrev pub LendsValue : (T E : RattleType) (L : Ghosts T.Denot E.Denot) → MutBor (Held T.Denot E.Denot L) → MutBor T.Denot → Fml
LendsValue T E L held value = Lends (the_row T E L) T held value (with_value held.now)

-- the entries that the pass has seen under its own names
abbrev pub mine_of : {E : Type 0} → (E → ℕ) → View E → List E
mine_of by v = entries_under by v.low v.end v.seen

-- The root pass of a new lock: it has all names and has seen all entries.
pub record IsRoot {E : Type 0} (entries : List E) (fixed : List ℕ) (first : ℕ) (v : View E) : Type 0 where
  pub names : HasAllNames v
  pub seen : v.seen ≡ entries
  pub base : v.base ≡ fixed
  pub front : v.front ≡ first

-- Two halves of a pass: the lower has the names up to the middle, the upper the others, and both know what the pass knew.
pub record AreHalves {E : Type 0} (v lower upper : View E) : Type 0 where
  pub low : lower.low ≡ v.low
  pub lower_end : lower.end ≡ middle_of v.low v.end
  pub upper_low : upper.low ≡ middle_of v.low v.end
  pub end : upper.end ≡ v.end
  pub seen : (lower.seen ≡ v.seen) × (upper.seen ≡ v.seen)
  pub base : (lower.base ≡ v.base) × (upper.base ≡ v.base)
  pub front : (lower.front ≡ v.front) × (upper.front ≡ v.front)

-- Two passes that met: the joined one has the names of both, has seen the more of the two, and knows of no fewer tickets than either. At most 2^63 are drawn.
-- What either had seen is the beginning of it, and what stands in it under the names of either is that one's own.
pub record IsMet {E : Type 0} (ticket by : E → ℕ) (v w met : View E) : Type 0 where
  pub low : met.low ≡ v.low
  pub end : met.end ≡ w.end
  pub base : met.base ≡ v.base
  pub front : (v.front ≤ met.front) × (w.front ≤ met.front)
  pub bounded : met.front ≤ 2 ^ 63
  pub seen : met.seen ≡ longer_of v.seen w.seen
  pub first : Continues by v.low v.end v.seen met.seen
  pub second : Continues by w.low w.end w.seen met.seen
  pub first_mine : entries_under by v.low v.end met.seen ≡ mine_of by v
  pub second_mine : entries_under by w.low w.end met.seen ≡ mine_of by w
  pub rising : AllPairs (IsBefore ticket) met.seen
  pub callers : All (λ e. by e < 65536) met.seen

-- A pass that drew a ticket, and keeps its names and its base.
pub record IsDrawn {E : Type 0} (v w : View E) (ticket : ℕ) : Type 0 where
  pub low : w.low ≡ v.low
  pub end : w.end ≡ v.end
  pub base : w.base ≡ v.base
  -- the front rises, to one above the ticket; that of a pass with all names rises by just one
  pub front : w.front ≡ ticket + 1
  pub risen : v.front < w.front
  pub all_names : HasAllNames v → w.front ≡ v.front + 1
  pub bounded : ticket < 2 ^ 63

-- What a pass finds in its turn: the history, which goes on from what it had seen, by none of its own, up to below its ticket.
pub record Finds {E : Type 0} (ticket by : E → ℕ) (v : View E) (served : ℕ) (found : List E) : Type 0 where
  pub seen : Continues by v.low v.end v.seen found
  pub mine : entries_under by v.low v.end found ≡ mine_of by v
  pub rising : AllPairs (IsBefore ticket) found
  pub below : All (λ e. ticket e < served) found
  pub callers : All (λ e. by e < 65536) found

-- What a turn may leave: the entries that were found, alone or with one behind them that has the turn's ticket and the pass's first name.
abbrev pub MayLeave : {E : Type 0} → (E → ℕ) → (E → ℕ) → View E → ℕ → List E → Type 0
MayLeave {E} ticket by v served left =
    (left ≡ v.seen) ⊎ ((e : E) × (left ≡ v.seen ++ e ∷ []) × (ticket e ≡ served) × (by e ≡ v.low))

-- A pass after its turn: it keeps its names, its base and its front, and has seen what it left.
pub record IsBack {E : Type 0} (v w : View E) (left : List E) : Type 0 where
  pub low : w.low ≡ v.low
  pub end : w.end ≡ v.end
  pub base : w.base ≡ v.base
  pub front : w.front ≡ v.front
  pub seen : w.seen ≡ left

-- A pass that found all tickets drawn: nothing changed but its front.
pub record IsWorn {E : Type 0} (v w : View E) : Type 0 where
  pub same : w ≡ after_look v (2 ^ 63)
  pub all_names : HasAllNames v → v.front ≡ 2 ^ 63

-- A pass that looked at NEXT: nothing changed but its front, which has not fallen, and is the same where the pass has all names.
pub record HasLooked {E : Type 0} (v w : View E) : Type 0 where
  pub same : w ≡ after_look v w.front
  pub front : v.front ≤ w.front
  pub all_names : HasAllNames v → v.front ≡ w.front

-- A pass comes back from a try: somebody was in line, or another drew the ticket, and tickets are left; or all are drawn.
abbrev pub HasFailed : {T E : Type 0} {L : Ghosts T E} → View E → TryAcquireError T E L → Type 0
HasFailed v (failed.Busy pass) = HasLooked v (view_of pass) × ((view_of pass).front < 2 ^ 63)
HasFailed v (failed.Worn worn) = IsWorn v (view_of worn.pass)
