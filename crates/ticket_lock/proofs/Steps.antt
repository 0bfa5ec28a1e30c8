-- Each kind of move keeps the rule of the lock, and tells what its play says.
use Rattle.std.proofs.Common.{◌≡◌, ℕ, eqb, ◌+◌, ◌<◌, ◌≤◌, ◌^◌, ◌⊎◌, Bool, true, false, List, [], ◌∷◌, ◌++◌, get_or, set, sym, refl, ap, ◌∙◌, subst, inl, inr, ⊎_elim, arith}
use Rattle.std.specs.Prelude.{Option, Some, All, AllPairs, nat_lt, slice_index, slice_set}
use Rattle.std.proofs.lemmas.Bool.{ltb-true, ltb-false}
use Rattle.std.proofs.lemmas.List.Elements.{All-push, All-weaker}
use Rattle.std.proofs.lemmas.List.Quantifiers.{all_pairs_push}
use mathlib.Core.Option as maybe
use mathlib.Core.Option.{some}
use lib.ListN.{get_elem?}
use prog.Atomic.{either}
use Rattle.atomic_table.specs.Table.{State, Me, Act, keeps, takes, gives, step, Valid, carried_after, homes_after, stepped, Allows, Splits, Joins, opening, Final, Seen}
use Rattle.atomic_table.proofs.Lists.{set_else, exchanged}
use Rattle.ticket_lock.specs.declared.views.Stage.{Stage}
use Rattle.ticket_lock.specs.declared.views.Stage.TheVariants.{Idle, Waiting, Holding}
use Rattle.ticket_lock.specs.declared.views.View.{View}
use Rattle.ticket_lock.specs.Entries.{Continues, IsBefore}
use Rattle.ticket_lock.specs.Views.{IsLive, HoldsWith}
use Rattle.ticket_lock.specs.Rule.{Homes, IsHome, IsPass, IsQueued, IsKnown, IsFronted, IsSound}
use Rattle.ticket_lock.specs.Moves.{Seated, ticket_of, after_look, after_watch, after_draw, after_entry, after_leaving, lower_half, upper_half, joined, spent, LearnsNext, FindsHistory, looks, watches, draws, enters, leaves}
use Rattle.ticket_lock.proofs.Histories.{rising_prefix, all_prefix}
use Rattle.ticket_lock.proofs.SeatLists.{each_set, each_push}
use Rattle.ticket_lock.proofs.LineKept.{IsOutOfLine, same_stage, split_line, join_line, line_stays, line_draws, value_is_home, line_enters, only_one_holds, value_is_out, line_leaves}
use Rattle.ticket_lock.proofs.KnownKept.{looked_pass, watched_pass, drawn_pass, entered_pass, known_set, known_out, known_leaves, known_splits, known_joins, is_alone}
use Rattle.ticket_lock.proofs.FrontKept.{front_set, front_draws, front_leaves, front_splits, front_joins}

-- no more was found in SERVING than is there
abbrev IsWatched : {E : Type 0} → ℕ → View E → Type 0
IsWatched serving v = v.watched ≤ serving

pub below_or_above : (a b : ℕ) → (a ≤ b) ⊎ (b < a)
below_or_above a b = go (nat_lt b a) refl
  where
    go : (t : Bool) → nat_lt b a ≡ t → (a ≤ b) ⊎ (b < a)
    go true is = inr (ltb-true b a is)
    go false is = inl (ltb-false b a is)

is_live : (stage other : Stage) → stage ≡ other → IsLive other → IsLive stage
is_live stage other e live = subst IsLive (sym e) live

module _ {T E : Type 0} (entries : T → List E) (base_of : T → List ℕ) (ticket by : E → ℕ) (base : List ℕ) where
  abbrev St : Type 0
  St = State (Option T) (View E)

  abbrev pub Sound : St → Type 0
  Sound = IsSound entries base_of ticket by base

  -- what a step owes at the words `words`
  abbrev Goes : St → ℕ → ℕ → Seated T E → (ℕ → ℕ) → (ℕ → Seated T E → Type 0) → List ℕ → Type 0
  Goes s id i me f then words = (w : View E) × (a : Act (Option T)) × Valid s.homes me.1 a
      × Sound record { words = slice_set words i (f (slice_index words i)); homes = homes_after s.homes me.1 a; views = slice_set s.views id w } × then (slice_index words i) (w, carried_after me.1 a)

  module _ (s : St) (r : Sound s) (id : ℕ) (v : View E) (at : get_elem? s.views id ≡ some v) (live : IsLive v.stage) where
    the_pass : IsPass by base r.log v
    the_pass = r.known.passes id v at live

    -- what NEXT tells
    pub learns : LearnsNext ticket by v r.next
    learns =
        let (rest, whole, none) = the_pass.seen in
        record {
          front = r.fronted.fronts id v at live;
          all_names = λ all. let (j, u, there, last) = r.fronted.newest in
              ap (λ (z : View E). z.front) (is_alone entries base_of by base r.log s.homes s.views id v at live all r.known j u there last.0) ∙ last.1;
          bounded = r.queued.bounded;
          left = the_pass.left;
          right = the_pass.right;
          rising = rising_prefix (IsBefore ticket) v.seen rest (subst (AllPairs (IsBefore ticket)) whole r.queued.rising);
          callers = all_prefix (λ e. by e < 65536) v.seen rest (subst (All (λ e. by e < 65536)) whole r.known.callers);
        }

    -- a look at NEXT
    pub looked : v.stage ≡ Idle → Sound record { words = s.words; homes = s.homes; views = set s.views id (after_look v r.next) }
    looked asks = record {
      next = r.next;
      serving = r.serving;
      log = r.log;
      words = r.words;
      queued = line_stays entries ticket r.next r.serving r.log s.homes s.views (set s.views id (after_look v r.next)) (same_stage s.views id v (after_look v r.next) at refl) r.queued;
      known = known_set entries base_of by base r.log s.homes s.views id v (after_look v r.next) at (λ x has. has) (looked_pass by base r.log v r.next the_pass) r.known;
      fronted = front_set r.next r.log s.views id v (after_look v r.next) at live r.fronted (let le : r.next ≤ r.next = omega arith in le) (λ _. refl) (λ e. e);
      watched = each_set (IsWatched r.serving) s.views id (after_look v r.next) r.watched (omega arith);
    }

    -- a look at SERVING by a pass that asks for nothing
    pub looked_on : v.stage ≡ Idle → Sound record { words = s.words; homes = s.homes; views = set s.views id (after_watch v r.serving) }
    looked_on asks = record {
      next = r.next;
      serving = r.serving;
      log = r.log;
      words = r.words;
      queued = line_stays entries ticket r.next r.serving r.log s.homes s.views (set s.views id (after_watch v r.serving)) (same_stage s.views id v (after_watch v r.serving) at refl) r.queued;
      known = known_set entries base_of by base r.log s.homes s.views id v (after_watch v r.serving) at (λ x has. has) (watched_pass by base r.log v r.serving the_pass) r.known;
      fronted = front_set r.next r.log s.views id v (after_watch v r.serving) at live r.fronted (r.fronted.fronts id v at live) (λ e. e) (λ e. e);
      watched = each_set (IsWatched r.serving) s.views id (after_watch v r.serving) r.watched (let le : r.serving ≤ r.serving = omega arith in le);
    }

    -- a ticket is drawn
    pub drawn : v.stage ≡ Idle → r.next < 2 ^ 63 → Sound record { words = (r.next + 1) ∷ r.serving ∷ []; homes = s.homes; views = set s.views id (after_draw v r.next) }
    drawn asks few = record {
      next = r.next + 1;
      serving = r.serving;
      log = r.log;
      words = refl;
      queued = line_draws entries ticket r.next r.serving r.log s.homes s.views id v (after_draw v r.next) at r.queued (subst IsOutOfLine (sym asks) tt) refl few;
      known = known_set entries base_of by base r.log s.homes s.views id v (after_draw v r.next) at (λ x has. (live, has.1, has.2)) (drawn_pass by base r.log v r.next the_pass) r.known;
      fronted = front_draws r.next r.log s.views id v (after_draw v r.next) at tt r.fronted refl (λ e. e);
      watched = each_set (IsWatched r.serving) s.views id (after_draw v r.next) r.watched (r.watched id v at);
    }

    -- a look at SERVING that changes nothing
    pub unmoved : Sound record { words = s.words; homes = s.homes; views = set s.views id v }
    unmoved = subst (λ (vs : List (View E)). Sound record { words = s.words; homes = s.homes; views = vs }) (sym (Rattle.atomic_table.proofs.Lists.set_again s.views id v at)) r

    -- the pass enters and takes the value
    pub entered : v.stage ≡ Waiting r.serving → (value : T) → entries value ≡ r.log → Sound record { words = s.words; homes = maybe.none ∷ []; views = set s.views id (after_entry v (entries value)) }
    entered waits value is = record {
      next = r.next;
      serving = r.serving;
      log = r.log;
      words = r.words;
      queued = line_enters entries ticket r.next r.serving r.log s.homes s.views id v (after_entry v (entries value)) at r.queued waits (ap (λ (st : Stage). Holding (ticket_of st)) waits);
      known = known_out entries base_of by base r.log s.homes (set s.views id (after_entry v (entries value)))
          (known_set entries base_of by base r.log s.homes s.views id v (after_entry v (entries value)) at (λ x has. (live, has.1, has.2)) (entered_pass by base r.log v (entries value) is the_pass) r.known);
      fronted = front_set r.next r.log s.views id v (after_entry v (entries value)) at tt r.fronted (r.fronted.fronts id v at live) (λ e. e) (λ _. is);
      watched = each_set (IsWatched r.serving) s.views id (after_entry v (entries value)) r.watched (r.watched id v at);
    }

    -- what it finds
    pub finds : v.stage ≡ Waiting r.serving → (value : T) → entries value ≡ r.log → FindsHistory ticket by v (entries value)
    finds waits value is = record {
      seen = subst (Continues by v.low v.end v.seen) (sym is) the_pass.seen;
      rising = subst (AllPairs (IsBefore ticket)) (sym is) r.queued.rising;
      below = subst (λ (n : ℕ). All (λ e. ticket e < n) (entries value)) (sym (ap ticket_of waits)) (subst (All (λ e. ticket e < r.serving)) (sym is) r.queued.below);
      callers = subst (All (λ e. by e < 65536)) (sym is) r.known.callers;
    }

    -- the holder leaves
    pub left_behind : v.stage ≡ Holding r.serving → (value : T) → base_of value ≡ v.base
        → (entries value ≡ v.seen) ⊎ ((e : E) × (entries value ≡ v.seen ++ e ∷ []) × (ticket e ≡ r.serving) × (by e ≡ v.low))
        → Sound record { words = r.next ∷ (r.serving + 1) ∷ []; homes = some (Some value) ∷ []; views = set s.views id (after_leaving v (entries value)) }
    left_behind holds value same may =
        let whole : v.seen ≡ r.log = the_pass.whole r.serving (subst (λ (st : Stage). HoldsWith st r.serving) (sym holds) refl) in
        let below : All (λ e. ticket e < r.serving + 1) r.log = All-weaker (λ e. ticket e < r.serving) (λ e. ticket e < r.serving + 1) (λ e lt. omega arith) r.log r.queued.below in
        record {
          next = r.next;
          serving = r.serving + 1;
          log = entries value;
          words = refl;
          queued = line_leaves entries ticket r.next r.serving r.log s.homes s.views id v (after_leaving v (entries value)) at r.queued holds tt value
              (⊎_elim
              (λ (e : entries value ≡ v.seen). subst (AllPairs (IsBefore ticket)) (sym (e ∙ whole)) r.queued.rising)
              (λ (t : (e : E) × (entries value ≡ v.seen ++ e ∷ []) × (ticket e ≡ r.serving) × (by e ≡ v.low)).
              subst (AllPairs (IsBefore ticket)) (sym (t.1 ∙ ap (λ (es : List E). es ++ t.0 ∷ []) whole))
              (all_pairs_push (IsBefore ticket) r.log t.0 r.queued.rising (λ k d near. let lt : ticket (get_or r.log k d) < r.serving = r.queued.below k d near in let is : ticket t.0 ≡ r.serving = t.2 in omega arith)))
              may)
              (⊎_elim
              (λ (e : entries value ≡ v.seen). subst (All (λ d. ticket d < r.serving + 1)) (sym (e ∙ whole)) below)
              (λ (t : (e : E) × (entries value ≡ v.seen ++ e ∷ []) × (ticket e ≡ r.serving) × (by e ≡ v.low)).
              subst (All (λ d. ticket d < r.serving + 1)) (sym (t.1 ∙ ap (λ (es : List E). es ++ t.0 ∷ []) whole))
              (All-push (λ d. ticket d < r.serving + 1) r.log t.0 below (let is : ticket t.0 ≡ r.serving = t.2 in omega arith)))
              may);
          known = known_leaves entries base_of by base r.log s.homes s.views id v value at live
              (⊎_elim
              (λ (e : entries value ≡ v.seen). inl (e ∙ whole))
              (λ (t : (e : E) × (entries value ≡ v.seen ++ e ∷ []) × (ticket e ≡ r.serving) × (by e ≡ v.low)). inr (t.0, t.1 ∙ ap (λ (es : List E). es ++ t.0 ∷ []) whole, t.3))
              may)
              (same ∙ the_pass.same_base) (only_one_holds entries ticket r.next r.serving r.log s.homes s.views id v v at r.queued holds) r.known;
          fronted = front_leaves r.next r.log s.views id v (after_leaving v (entries value)) at tt r.fronted refl (entries value) (r.fronted.fronts id v at live) refl;
          watched = each_set (IsWatched (r.serving + 1)) s.views id (after_leaving v (entries value)) (λ j u there. let le : u.watched ≤ r.serving = r.watched j u there in omega arith) (omega arith);
        }

  -- a load of NEXT
  pub allows_look : (slots id : ℕ) (me : Seated T E) → me.0.stage ≡ Idle → Allows Sound slots id me 0 (λ n. n) (looks entries base_of ticket by (step slots 0 0 0 maybe.none) me)
  allows_look slots id me asks s r one at small =
      let live = is_live me.0.stage Idle asks tt in
      let told = looks entries base_of ticket by (step slots 0 0 0 maybe.none) me in
      subst (Goes s id 0 me (λ n. n) told) (sym r.words) (
        after_look me.0 r.next,
        keeps,
        tt,
        subst (λ (ws : List ℕ). Sound record { words = ws; homes = s.homes; views = set s.views id (after_look me.0 r.next) }) r.words (looked s r id me.0 at live asks),
        (refl, learns s r id me.0 at live),
      )

  -- a load of SERVING by a seat that asks for nothing
  pub allows_watch : (slots id : ℕ) (me : Seated T E) → me.0.stage ≡ Idle → Allows Sound slots id me 1 (λ n. n) (watches (step slots 1 0 0 maybe.none) me)
  allows_watch slots id me asks s r one at small =
      let live = is_live me.0.stage Idle asks tt in
      let told = watches (step slots 1 0 0 maybe.none) me in
      let go : (me.0.front ≤ r.serving) ⊎ (r.serving < me.0.front) → Goes s id 1 me (λ n. n) told (r.next ∷ r.serving ∷ []) =
      ⊎_elim
      (λ (le : me.0.front ≤ r.serving). (
        after_watch me.0 r.serving,
        keeps,
        tt,
        subst (λ (ws : List ℕ). Sound record { words = ws; homes = s.homes; views = set s.views id (after_watch me.0 r.serving) }) r.words (looked_on s r id me.0 at live asks),
        ((λ _. refl), λ lt. absurd (omega arith)),
      ))
      (λ (lt : r.serving < me.0.front). (
        me.0,
        keeps,
        tt,
        subst (λ (ws : List ℕ). Sound record { words = ws; homes = s.homes; views = set s.views id me.0 }) r.words (unmoved s r id me.0 at live),
        ((λ le. absurd (omega arith)), λ _. refl),
      )) in
      subst (Goes s id 1 me (λ n. n) told) (sym r.words) (go (below_or_above me.0.front r.serving))

  -- a try to draw
  pub allows_draw : (slots id old : ℕ) (me : Seated T E) → me.0.stage ≡ Idle → old < 2 ^ 63
      → Allows Sound slots id me 0 (λ n. either (eqb n old) (old + 1) n) (draws entries base_of ticket by (step slots 0 old (old + 1) maybe.none) me)
  allows_draw slots id old me asks few s r one at small =
      let live = is_live me.0.stage Idle asks tt in
      let told = draws entries base_of ticket by (step slots 0 old (old + 1) maybe.none) me in
      let Ends : ℕ → Type 0 = λ n. (w : View E) × (a : Act (Option T)) × Valid s.homes me.1 a
      × Sound record { words = n ∷ r.serving ∷ []; homes = homes_after s.homes me.1 a; views = set s.views id w } × told r.next (w, carried_after me.1 a) in
      subst (Goes s id 0 me (λ n. either (eqb n old) (old + 1) n) told) (sym r.words)
      (exchanged r.next old (old + 1) Ends
      (λ hit. (
        after_draw me.0 r.next,
        keeps,
        tt,
        subst (λ (n : ℕ). Sound record { words = (n + 1) ∷ r.serving ∷ []; homes = s.homes; views = set s.views id (after_draw me.0 r.next) }) hit (drawn s r id me.0 at live asks (let is : r.next ≡ old = hit in omega arith)),
        (learns s r id me.0 at live, (λ _. refl), λ miss. absurd (miss hit)),
      ))
      (λ miss. (
        after_look me.0 r.next,
        keeps,
        tt,
        subst (λ (ws : List ℕ). Sound record { words = ws; homes = s.homes; views = set s.views id (after_look me.0 r.next) }) r.words (looked s r id me.0 at live asks),
        (learns s r id me.0 at live, (λ hit. absurd (miss hit)), λ _. refl),
      )))

  -- a load of SERVING
  pub allows_entry : (slots id t : ℕ) (me : Seated T E) → me.0.stage ≡ Waiting t → Allows Sound slots id me 1 (λ n. n) (enters entries base_of ticket by (step slots 1 0 0 maybe.none) me)
  allows_entry slots id t me waits s r one at small =
      let live = is_live me.0.stage (Waiting t) waits tt in
      let told = enters entries base_of ticket by (step slots 1 0 0 maybe.none) me in
      let drawn_as : ticket_of me.0.stage ≡ t = ap ticket_of waits in
      let in_line = subst (Rattle.ticket_lock.specs.Rule.IsInLine r.serving r.next) waits (r.queued.in_line id me.0 at) in
      let from : r.serving ≤ t = in_line.0 in
      let go : Dec (r.serving ≡ t) → Goes s id 1 me (λ n. n) told (r.next ∷ r.serving ∷ []) = λ d. elim d [
        | yes hit ↦
            let waits' : me.0.stage ≡ Waiting r.serving = waits ∙ ap Waiting (sym hit) in
            let (value, home, is, nobody) = value_is_home entries ticket r.next r.serving r.log s.homes s.views id me.0 me.0 at r.queued waits' in (
              after_entry me.0 (entries value),
              takes 0 (Some value),
              ap (λ (hs : Homes T). get_elem? hs 0) home,
              subst (λ (hs : Homes T). Sound record { words = r.next ∷ r.serving ∷ []; homes = slice_set hs 0 maybe.none; views = set s.views id (after_entry me.0 (entries value)) }) (sym home)
                  (subst (λ (ws : List ℕ). Sound record { words = ws; homes = maybe.none ∷ []; views = set s.views id (after_entry me.0 (entries value)) }) r.words (entered s r id me.0 at live waits' value is)),
              (
                omega arith,
                r.watched id me.0 at,
                (λ miss. absurd (miss (hit ∙ sym drawn_as))),
                λ _. (value, refl, r.known.same_base value home ∙ sym (r.known.passes id me.0 at live).same_base, finds s r id me.0 at live waits' value is),
              ),
            )
        | no miss ↦ (
          me.0,
          keeps,
          tt,
          subst (λ (ws : List ℕ). Sound record { words = ws; homes = s.homes; views = set s.views id me.0 }) r.words (unmoved s r id me.0 at live),
          (omega arith, r.watched id me.0 at, (λ _. refl), λ hit. absurd (miss (hit ∙ drawn_as))),
        )
      ] in
      subst (Goes s id 1 me (λ n. n) told) (sym r.words) (go (native.Mathlib.Decide.ℕ_discrete r.serving t))

  -- a store of SERVING
  pub allows_leaving : (slots id t : ℕ) (me : Seated T E) (value : T) → me.0.stage ≡ Holding t → me.1 ≡ (0, Some value) ∷ [] → base_of value ≡ me.0.base
      → (entries value ≡ me.0.seen) ⊎ ((e : E) × (entries value ≡ me.0.seen ++ e ∷ []) × (ticket e ≡ t) × (by e ≡ me.0.low))
      → Allows Sound slots id me 1 (λ _. t + 1) (λ _. leaves entries base_of ticket by (step slots 1 (t + 1) 0 maybe.none) me (t + 1))
  allows_leaving slots id t me value holds has same may s r one at small =
      let live = is_live me.0.stage (Holding t) holds tt in
      let told = leaves entries base_of ticket by (step slots 1 (t + 1) 0 maybe.none) me (t + 1) in
      let in_line = subst (Rattle.ticket_lock.specs.Rule.IsInLine r.serving r.next) holds (r.queued.in_line id me.0 at) in
      let is : t ≡ r.serving = in_line.0 in
      let holds' : me.0.stage ≡ Holding r.serving = holds ∙ ap Holding is in
      let out = value_is_out entries ticket r.next r.serving r.log s.homes s.views id me.0 me.0 at r.queued holds' in
      let sound = left_behind s r id me.0 at live holds' value same
      (subst (λ (n : ℕ). (entries value ≡ me.0.seen) ⊎ ((e : E) × (entries value ≡ me.0.seen ++ e ∷ []) × (ticket e ≡ n) × (by e ≡ me.0.low))) is may) in
      subst (Goes s id 1 me (λ _. t + 1) (λ _. told)) (sym r.words) (
        after_leaving me.0 (entries value),
        gives,
        tt,
        subst (λ (z : List (ℕ × Option T)). Sound record { words = r.next ∷ (t + 1) ∷ []; homes = homes_after s.homes z gives; views = set s.views id (after_leaving me.0 (entries value)) }) (sym has)
            (subst (λ (hs : Homes T). Sound record { words = r.next ∷ (t + 1) ∷ []; homes = slice_set hs 0 (some (Some value)); views = set s.views id (after_leaving me.0 (entries value)) }) (sym out)
            (subst (λ (n : ℕ). Sound record { words = r.next ∷ (n + 1) ∷ []; homes = some (Some value) ∷ []; views = set s.views id (after_leaving me.0 (entries value)) }) (sym is) sound)),
        (value, has, ap (λ (z : List (ℕ × Option T)). (after_leaving me.0 (entries value), Rattle.atomic_table.specs.Table.rest z)) has),
      )

  -- a split
  pub splits : (id : ℕ) (v : View E) → v.stage ≡ Idle → v.low + 1 < v.end → Splits Sound id v (lower_half v) (upper_half v)
  splits id v asks two s r at =
      let live = is_live v.stage Idle asks tt in
      let vs : List (View E) = set s.views id (lower_half v) ++ upper_half v ∷ [] in
      record {
        next = r.next;
        serving = r.serving;
        log = r.log;
        words = r.words;
        queued = line_stays entries ticket r.next r.serving r.log s.homes s.views vs (split_line s.views id v (lower_half v) (upper_half v) at (subst IsOutOfLine (sym asks) tt) tt tt) r.queued;
        known = known_splits entries base_of by base r.log s.homes s.views id v at live two r.known;
        fronted = front_splits r.next r.log s.views id v at (r.fronted.fronts id v at live) r.fronted;
        watched = each_push (IsWatched r.serving) (set s.views id (lower_half v)) (upper_half v) (each_set (IsWatched r.serving) s.views id (lower_half v) r.watched (omega arith)) (omega arith);
      }

  -- a join
  pub joins : (id : ℕ) (v : View E) (other : ℕ) (w : View E) → v.stage ≡ Idle → w.stage ≡ Idle → v.end ≡ w.low → Joins Sound id v other w (joined v w) spent
  joins id v other w asks asks' adjacent s r at apart there =
      let live = is_live v.stage Idle asks tt in
      let live' = is_live w.stage Idle asks' tt in
      let at' : get_elem? s.views other ≡ some w = sym (set_else s.views id other (joined v w) apart) ∙ there in
      let vs : List (View E) = set (set s.views id (joined v w)) other spent in
      let one = (r.known.passes id v at live).seen in
      let two = (r.known.passes other w at' live').seen in
      record {
        next = r.next;
        serving = r.serving;
        log = r.log;
        words = r.words;
        queued = line_stays entries ticket r.next r.serving r.log s.homes s.views vs
            (join_line s.views id other v w (joined v w) spent at at' apart (subst IsOutOfLine (sym asks) tt) (subst IsOutOfLine (sym asks') tt) tt tt) r.queued;
        known = known_joins entries base_of by base r.log s.homes s.views id other v w at at' apart live live' adjacent r.known;
        fronted = front_joins r.next r.log s.views id other v w at at' apart (r.fronted.fronts id v at live) (r.fronted.fronts other w at' live') one.0 one.1 two.0 two.1 r.fronted;
        watched = each_set (IsWatched r.serving) (set s.views id (joined v w)) other spent (each_set (IsWatched r.serving) s.views id (joined v w) r.watched (omega arith)) (omega arith);
      }
