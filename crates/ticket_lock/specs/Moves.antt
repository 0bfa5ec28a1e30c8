-- What each kind of move changes in a view, and what it tells the pass.
use Rattle.std.specs.Prelude.{◌≡◌, ◌≢◌, ℕ, ◌+◌, ◌-◌, ◌/◌, ◌<◌, ◌≤◌, ◌^◌, max, Option, Some, List, [], ◌∷◌, All, AllPairs}
use Rattle.atomic_table.specs.Table.{Me, Step}
use Rattle.ticket_lock.specs.declared.views.Stage.{Stage}
use Rattle.ticket_lock.specs.declared.views.Stage.TheVariants.{Idle, Waiting, Holding, Spent}
use Rattle.ticket_lock.specs.declared.views.View.{View}
use Rattle.ticket_lock.specs.Entries.{Continues, IsBefore, longer_of}
use Rattle.ticket_lock.specs.Views.{HasAllNames}

-- a seat's view, and the slot that it has taken
abbrev pub Seated : Type 0 → Type 0 → Type 0
Seated T E = Me (Option T) (View E)

-- the ticket with which a pass waits
abbrev pub ticket_of : Stage → ℕ
ticket_of Idle = 0
ticket_of (Waiting ticket) = ticket
ticket_of (Holding ticket) = ticket
ticket_of Spent = 0

-- the name at which the upper half of the names begins; it is the longer half where their number is odd
abbrev pub middle_of : ℕ → ℕ → ℕ
middle_of low end = low + (end - low) / 2

module _ {E : Type 0} where
  -- a pass that asks for nothing, and was not joined since it saw these entries
  abbrev pub idle : ℕ → ℕ → List E → List ℕ → ℕ → View E
  idle low end seen base front = record { low = low; end = end; seen = seen; base = base; front = front; stage = Idle; middle = end; left = seen; right = seen; watched = 0 }

  -- the root pass at the start
  abbrev pub root : List E → List ℕ → ℕ → View E
  root seen base first = idle 0 65536 seen base first

  -- after a look at NEXT, which found n; nothing that was found in SERVING is known any more
  abbrev pub after_look : View E → ℕ → View E
  after_look v n = record v { front = n; watched = 0 }

  -- after a look at SERVING, which found n, and that nobody was in line
  abbrev pub after_watch : View E → ℕ → View E
  after_watch v n = record v { watched = n }

  -- after the ticket n was drawn
  abbrev pub after_draw : View E → ℕ → View E
  after_draw v n = record v { front = n + 1; stage = Waiting n }

  -- before the ticket n was drawn, which was found in NEXT
  abbrev pub before_draw : View E → ℕ → View E
  before_draw v n = record v { front = n; stage = Idle; watched = 0 }

  -- after it entered and found these entries
  abbrev pub after_entry : View E → List E → View E
  after_entry v found = record v { seen = found; stage = Holding (ticket_of v.stage); middle = v.end; left = found; right = found }

  -- after it left a value with these entries
  abbrev pub after_leaving : View E → List E → View E
  after_leaving v left = idle v.low v.end left v.base v.front

  -- the lower half of a split
  abbrev pub lower_half : View E → View E
  lower_half v = idle v.low (middle_of v.low v.end) v.seen v.base v.front

  -- the upper half of a split
  abbrev pub upper_half : View E → View E
  upper_half v = idle (middle_of v.low v.end) v.end v.seen v.base v.front

  -- a join: it has both names, has seen the more of the two and knows the greater front, and notes what both had seen
  abbrev pub joined : View E → View E → View E
  joined v w = record { low = v.low; end = w.end; seen = longer_of v.seen w.seen; base = v.base; front = max v.front w.front; stage = Idle; middle = v.end; left = v.seen; right = w.seen; watched = 0 }

  -- what is left of the other pass
  abbrev pub spent : View E
  spent = record { low = 0; end = 0; seen = []; base = []; front = 0; stage = Spent; middle = 0; left = []; right = []; watched = 0 }

-- What NEXT tells a pass that finds n there: no less than it knew, just that where the pass has all names; and what a join noted stands in what it has seen.
pub record LearnsNext {E : Type 0} (ticket by : E → ℕ) (v : View E) (n : ℕ) : Type 0 where
  pub front : v.front ≤ n
  pub all_names : HasAllNames v → v.front ≡ n
  pub bounded : n ≤ 2 ^ 63
  pub left : Continues by v.low v.middle v.left v.seen
  pub right : Continues by v.middle v.end v.right v.seen
  pub rising : AllPairs (IsBefore ticket) v.seen
  pub callers : All (λ e. by e < 65536) v.seen

-- What a pass finds as it enters: its own entries and all that it had seen come first, each entry is of an earlier ticket and under a caller's number.
pub record FindsHistory {E : Type 0} (ticket by : E → ℕ) (v : View E) (log : List E) : Type 0 where
  pub seen : Continues by v.low v.end v.seen log
  pub rising : AllPairs (IsBefore ticket) log
  pub below : All (λ e. ticket e < ticket_of v.stage) log
  pub callers : All (λ e. by e < 65536) log

-- a look at SERVING by a pass that asks for nothing: it learns what it finds where nobody is in line, as far as it knows NEXT, and nothing elsewhere
abbrev pub watches : {T E : Type 0} → Step (Option T) → Seated T E → ℕ → Seated T E → Type 0
watches st me n me' =
    (me.0.front ≤ n → me' ≡ (after_watch me.0 n, me.1))
    × (n < me.0.front → me' ≡ me)

module _ {T E : Type 0} (entries : T → List E) (base_of : T → List ℕ) (ticket by : E → ℕ) where
  -- a look at NEXT
  abbrev pub looks : Step (Option T) → Seated T E → ℕ → Seated T E → Type 0
  looks st me n me' = (me' ≡ (after_look me.0 n, me.1)) × LearnsNext ticket by me.0 n

  -- a try to draw the ticket that was expected next: it is drawn, or NEXT was seen
  abbrev pub draws : Step (Option T) → Seated T E → ℕ → Seated T E → Type 0
  draws st me n me' =
      LearnsNext ticket by me.0 n
      × (n ≡ st.first → me' ≡ (after_draw me.0 n, me.1))
      × (n ≢ st.first → me' ≡ (after_look me.0 n, me.1))

  -- a look at SERVING: the pass enters where its ticket is served
  abbrev pub enters : Step (Option T) → Seated T E → ℕ → Seated T E → Type 0
  enters st me n me' =
      (n ≤ ticket_of me.0.stage)
      × (me.0.watched ≤ n)
      × (n ≢ ticket_of me.0.stage → me' ≡ me)
      × (n ≡ ticket_of me.0.stage → (value : T) × (me' ≡ (after_entry me.0 (entries value), (0, Some value) ∷ me.1)) × (base_of value ≡ me.0.base) × FindsHistory ticket by me.0 (entries value))

  -- a store to SERVING with the value put home
  abbrev pub leaves : Step (Option T) → Seated T E → ℕ → Seated T E → Type 0
  leaves st me n me' = (value : T) × (me.1 ≡ (0, Some value) ∷ []) × (me' ≡ (after_leaving me.0 (entries value), []))
