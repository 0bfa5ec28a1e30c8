-- The moves keep that some pass knows the last ticket drawn, and that some pass has seen the whole history.
use Rattle.std.proofs.Common.{◌≡◌, ◌≢◌, ℕ, ◌+◌, ◌≤◌, ◌⊎◌, Bool, true, false, cond, List, [], ◌∷◌, ◌++◌, length, set, sym, refl, ap, ◌∙◌, inl, inr, ⊎_elim, arith, length-append}
use Rattle.std.specs.Prelude.{max, nat_lt}
use Rattle.std.proofs.lemmas.Bool.{ltb-true, ltb-false}
use Rattle.std.proofs.lemmas.List.{append-nil}
use mathlib.Core.Option.{some}
use lib.ListN.{get_elem?}
use Rattle.ticket_lock.specs.declared.views.View.{View}
use Rattle.ticket_lock.specs.Entries.{longer_of}
use Rattle.ticket_lock.specs.Views.{IsLive}
use Rattle.ticket_lock.specs.Rule.{IsFronted}
use Rattle.ticket_lock.specs.Moves.{lower_half, upper_half, joined, spent}
use Rattle.ticket_lock.proofs.SeatLists.{each_others, each_set, each_push, some_set, some_here, some_push, some_join}

-- a beginning that is as long as the list is the list
pub begins_whole : {E : Type 0} (xs rest log : List E) → log ≡ xs ++ rest → length log ≤ length xs → xs ≡ log
begins_whole xs [] log e le = sym (append-nil xs) ∙ sym e
begins_whole xs (y ∷ ys) log e le = let long = length-append xs (y ∷ ys) in let same = ap length e in absurd (omega arith)

-- of two beginnings of a list of which one is the list, the longer is the list
longer_whole : {E : Type 0} (xs ys r s log : List E) → log ≡ xs ++ r → log ≡ ys ++ s → (xs ≡ log) ⊎ (ys ≡ log) → longer_of xs ys ≡ log
longer_whole {E} xs ys r s log e f one = go (nat_lt (length xs) (length ys)) refl
  where
    go : (b : Bool) → nat_lt (length xs) (length ys) ≡ b → cond b ys xs ≡ log
    go true t = ⊎_elim
        (λ (is : xs ≡ log). let lt = ltb-true (length xs) (length ys) t in let same = ap length is in let long = length-append ys s in let same' = ap length f in absurd (omega arith))
        (λ (is : ys ≡ log). is) one
    go false t = ⊎_elim (λ (is : xs ≡ log). is)
        (λ (is : ys ≡ log). let le = ltb-false (length xs) (length ys) t in let same = ap length is in begins_whole xs r log e (omega arith)) one

module _ {E : Type 0} where
  abbrev pub KnowsLast : ℕ → View E → Type 0
  KnowsLast next v = IsLive v.stage × (v.front ≡ next)

  abbrev pub HasSeenAll : List E → View E → Type 0
  HasSeenAll log v = IsLive v.stage × (v.seen ≡ log)

  module _ (next : ℕ) (log : List E) (views : List (View E)) (seat : ℕ) (v w : View E) (at : get_elem? views seat ≡ some v) (live : IsLive w.stage) (f : IsFronted next log views) where
    -- a pass looks at NEXT, or changes nothing of its front, and has seen no less
    pub front_set : w.front ≤ next → (v.front ≡ next → w.front ≡ next) → (v.seen ≡ log → w.seen ≡ log) → IsFronted next log (set views seat w)
    front_set le last all = record {
      fronts = each_set (λ (z : View E). IsLive z.stage → z.front ≤ next) views seat w f.fronts (λ _. le);
      newest = some_set (KnowsLast next) views seat v w at (λ t. (live, last t.1)) f.newest;
      longest = some_set (HasSeenAll log) views seat v w at (λ t. (live, all t.1)) f.longest;
    }

    -- a pass draws the next ticket
    pub front_draws : w.front ≡ next + 1 → (v.seen ≡ log → w.seen ≡ log) → IsFronted (next + 1) log (set views seat w)
    front_draws is all = record {
      fronts = each_others (λ (z : View E). Unit {0}) (λ (z : View E). IsLive z.stage → z.front ≤ next + 1) views seat w
          (λ j u n e l. let le : u.front ≤ next = f.fronts j u e l in omega arith) (λ _. let is' : w.front ≡ next + 1 = is in omega arith);
      newest = some_here (KnowsLast (next + 1)) views seat v w at (live, is);
      longest = some_set (HasSeenAll log) views seat v w at (λ t. (live, all t.1)) f.longest;
    }

    -- a pass leaves a history that it has seen
    pub front_leaves : w.front ≡ v.front → (log' : List E) → v.front ≤ next → w.seen ≡ log' → IsFronted next log' (set views seat w)
    front_leaves same log' le is = record {
      fronts = each_set (λ (z : View E). IsLive z.stage → z.front ≤ next) views seat w f.fronts (λ _. let same' : w.front ≡ v.front = same in omega arith);
      newest = some_set (KnowsLast next) views seat v w at (λ t. (live, same ∙ t.1)) f.newest;
      longest = some_here (HasSeenAll log') views seat v w at (live, is);
    }

  pub front_splits : (next : ℕ) (log : List E) (views : List (View E)) (seat : ℕ) (v : View E) → get_elem? views seat ≡ some v → v.front ≤ next → IsFronted next log views
      → IsFronted next log (set views seat (lower_half v) ++ upper_half v ∷ [])
  front_splits next log views seat v at le f = record {
    fronts = each_push (λ (z : View E). IsLive z.stage → z.front ≤ next) (set views seat (lower_half v)) (upper_half v)
        (each_set (λ (z : View E). IsLive z.stage → z.front ≤ next) views seat (lower_half v) f.fronts (λ _. le)) (λ _. le);
    newest = some_push (KnowsLast next) (set views seat (lower_half v)) (upper_half v) (some_set (KnowsLast next) views seat v (lower_half v) at (λ t. (tt, t.1)) f.newest);
    longest = some_push (HasSeenAll log) (set views seat (lower_half v)) (upper_half v) (some_set (HasSeenAll log) views seat v (lower_half v) at (λ t. (tt, t.1)) f.longest);
  }

  pub front_joins : (next : ℕ) (log : List E) (views : List (View E)) (seat other : ℕ) (v w : View E) → get_elem? views seat ≡ some v → get_elem? views other ≡ some w → other ≢ seat
      → v.front ≤ next → w.front ≤ next → (r : List E) → log ≡ v.seen ++ r → (s : List E) → log ≡ w.seen ++ s → IsFronted next log views → IsFronted next log (set (set views seat (joined v w)) other spent)
  front_joins next log views seat other v w at at' apart le le' r e s e' f = record {
    fronts = each_set (λ (z : View E). IsLive z.stage → z.front ≤ next) (set views seat (joined v w)) other spent
        (each_set (λ (z : View E). IsLive z.stage → z.front ≤ next) views seat (joined v w) f.fronts (λ _. let m : max v.front w.front ≤ next = omega arith in m)) (λ dead. absurd dead);
    newest = some_join (KnowsLast next) views seat other v w (joined v w) spent at at' apart
        (λ t. (tt, (let is : v.front ≡ next = t.1 in let m : max v.front w.front ≡ next = omega arith in m)))
        (λ t. (tt, (let is : w.front ≡ next = t.1 in let m : max v.front w.front ≡ next = omega arith in m))) f.newest;
    longest = some_join (HasSeenAll log) views seat other v w (joined v w) spent at at' apart
        (λ t. (tt, longer_whole v.seen w.seen r s log e e' (inl t.1)))
        (λ t. (tt, longer_whole v.seen w.seen r s log e e' (inr t.1))) f.longest;
  }
