-- The rule of the lock: what holds between any two steps of its words NEXT and SERVING, of the slot with the value, and of what the passes know.
-- The history `log` is what the value lists while it is home, and what the holder found in it while it is not.
use Rattle.std.specs.Prelude.{◌≡◌, ℕ, ◌<◌, ◌≤◌, ◌^◌, ◌⊎◌, Option, Some, List, [], ◌∷◌, All, AllPairs}
use mathlib.Core.Option as maybe
use Rattle.atomic_table.specs.Table.{State}
use Rattle.ticket_lock.specs.declared.views.Stage.{Stage}
use Rattle.ticket_lock.specs.declared.views.Stage.TheVariants.{Idle, Waiting, Holding, Spent}
use Rattle.ticket_lock.specs.declared.views.View.{View}
use Rattle.ticket_lock.specs.Entries.{Continues, IsBefore}
use Rattle.ticket_lock.specs.Seats.{Each, SomeSeat, AtMostOne}
use Rattle.ticket_lock.specs.Views.{IsLive, HasTicket, HoldsWith, HasName}

-- what the table's slots are: at home with a value, or out with a seat
abbrev pub Homes : Type 0 → Type 0
Homes T = List (maybe.Option (Option T))

-- who waits has a ticket from the one served up to below the next; who holds has the one served
abbrev pub IsInLine : ℕ → ℕ → Stage → Type 0
IsInLine serving next Idle = Unit {0}
IsInLine serving next (Waiting ticket) = (serving ≤ ticket) × (ticket < next)
IsInLine serving next (Holding ticket) = (ticket ≡ serving) × (ticket < next)
IsInLine serving next Spent = Unit {0}

-- the value is at home with the entries of the history, and nobody holds
abbrev pub IsHome : {T E : Type 0} → (T → List E) → List E → Homes T → List (View E) → Type 0
IsHome {T} entries log homes views =
    (value : T) × (homes ≡ maybe.some (Some value) ∷ []) × (entries value ≡ log) × Each (λ v. (x : ℕ) → HoldsWith v.stage x → ⊥) views

-- the value is out, and who has the ticket that is served holds it
abbrev pub IsOut : {T E : Type 0} → ℕ → Homes T → List (View E) → Type 0
IsOut serving homes views = (homes ≡ maybe.none ∷ []) × SomeSeat (λ v. HoldsWith v.stage serving) views

-- The line.
pub record IsQueued {T E : Type 0} (entries : T → List E) (ticket : E → ℕ) (next serving : ℕ) (log : List E) (homes : Homes T) (views : List (View E)) : Type 0 where
  -- served tickets were drawn, and no more than 2^63 are drawn
  pub served : serving ≤ next
  pub bounded : next ≤ 2 ^ 63
  -- the tickets of those who wait or hold are from the one served up to below the next, and distinct
  pub in_line : Each (λ v. IsInLine serving next v.stage) views
  pub distinct : AtMostOne (λ v x. HasTicket v.stage x) views
  -- the value is home exactly where nobody holds
  pub placed : IsHome entries log homes views ⊎ IsOut serving homes views
  -- the history's tickets rise, and are below the one served
  pub rising : AllPairs (IsBefore ticket) log
  pub below : All (λ e. ticket e < serving) log

-- What one pass knows.
pub record IsPass {E : Type 0} (by : E → ℕ) (base : List ℕ) (log : List E) (v : View E) : Type 0 where
  -- it has a name, and its names are below 65,536
  pub some_name : v.low < v.end
  pub few_names : v.end ≤ 65536
  pub same_base : v.base ≡ base
  -- what it has seen is the beginning of the history, and the rest of the history has none of its entries
  pub seen : Continues by v.low v.end v.seen log
  -- the same of the two halves that the last join put together, and of what the joined pass has seen
  pub left : Continues by v.low v.middle v.left v.seen
  pub right : Continues by v.middle v.end v.right v.seen
  -- a holder has seen the whole history
  pub whole : (x : ℕ) → HoldsWith v.stage x → v.seen ≡ log

-- What the passes know together.
pub record IsKnown {T E : Type 0} (entries : T → List E) (base_of : T → List ℕ) (by : E → ℕ) (base : List ℕ) (log : List E) (homes : Homes T) (views : List (View E)) : Type 0 where
  pub passes : Each (λ v. IsLive v.stage → IsPass by base log v) views
  -- no caller's number is in two passes
  pub apart : AtMostOne HasName views
  -- each caller's number in the history is below 65,536
  pub callers : All (λ e. by e < 65536) log
  pub same_base : (value : T) → homes ≡ maybe.some (Some value) ∷ [] → base_of value ≡ base

-- What some pass knows.
pub record IsFronted {E : Type 0} (next : ℕ) (log : List E) (views : List (View E)) : Type 0 where
  -- no pass knows of a ticket that was not drawn
  pub fronts : Each (λ v. IsLive v.stage → v.front ≤ next) views
  -- some pass knows the last ticket drawn, and some pass has seen the whole history
  pub newest : SomeSeat (λ v. IsLive v.stage × (v.front ≡ next)) views
  pub longest : SomeSeat (λ v. IsLive v.stage × (v.seen ≡ log)) views

-- The whole rule, over a table with one slot and the words NEXT and SERVING.
pub record IsSound {T E : Type 0} (entries : T → List E) (base_of : T → List ℕ) (ticket by : E → ℕ) (base : List ℕ) (s : State (Option T) (View E)) : Type 0 where
  pub next : ℕ
  pub serving : ℕ
  pub log : List E
  pub words : s.words ≡ next ∷ serving ∷ []
  pub queued : IsQueued entries ticket next serving log s.homes s.views
  pub known : IsKnown entries base_of by base log s.homes s.views
  pub fronted : IsFronted next log s.views
  -- no pass has found more in SERVING than is there
  pub watched : Each (λ v. v.watched ≤ serving) s.views
