-- The moves keep what the passes know.
use Rattle.std.proofs.Common.{◌≡◌, ◌≢◌, ℕ, ◌+◌, ◌<◌, ◌≤◌, ◌⊎◌, List, [], ◌∷◌, ◌++◌, set, sym, ◌∙◌, subst, ⊎_elim, arith}
use Rattle.std.specs.Prelude.{Some, All}
use Rattle.std.proofs.lemmas.List.Elements.{All-push}
use mathlib.Core.Option as maybe
use mathlib.Core.Option.{some}
use lib.ListN.{get_elem?}
use Rattle.atomic_table.proofs.Lists.{at_set}
use Rattle.ticket_lock.specs.declared.views.View.{View}
use Rattle.ticket_lock.specs.Entries.{Continues, longer_of}
use Rattle.ticket_lock.specs.Seats.{AtMostOne}
use Rattle.ticket_lock.specs.Views.{IsLive, HoldsWith, HasName, HasAllNames}
use Rattle.ticket_lock.specs.Rule.{Homes, IsPass, IsKnown}
use Rattle.ticket_lock.specs.Moves.{middle_of, idle, after_look, after_watch, after_draw, after_entry, after_leaving, lower_half, upper_half, joined, spent}
use Rattle.ticket_lock.proofs.Histories.{not_under, continues_itself, continues_push, continues_narrower, Meet, meet}
use Rattle.ticket_lock.proofs.SeatLists.{set_swap, same_view, each_others, each_set, each_push, one_new, one_set, one_push}

module _ {E : Type 0} (by : E → ℕ) (base : List ℕ) (log : List E) where
  -- a pass that asks for nothing and has seen a beginning of the history
  pub idle_pass : (low end : ℕ) (seen : List E) (fixed : List ℕ) (front : ℕ) → low < end → end ≤ 65536 → fixed ≡ base → Continues by low end seen log → IsPass by base log (idle low end seen fixed front)
  idle_pass low end seen fixed front some_name few same goes = record {
    some_name = some_name;
    few_names = few;
    same_base = same;
    seen = goes;
    left = continues_itself by low end seen;
    right = continues_itself by end end seen;
    whole = λ x h. absurd h;
  }

  pub looked_pass : (v : View E) (n : ℕ) → IsPass by base log v → IsPass by base log (after_look v n)
  looked_pass v n p = record { some_name = p.some_name; few_names = p.few_names; same_base = p.same_base; seen = p.seen; left = p.left; right = p.right; whole = p.whole }

  pub watched_pass : (v : View E) (n : ℕ) → IsPass by base log v → IsPass by base log (after_watch v n)
  watched_pass v n p = record { some_name = p.some_name; few_names = p.few_names; same_base = p.same_base; seen = p.seen; left = p.left; right = p.right; whole = p.whole }

  pub drawn_pass : (v : View E) (n : ℕ) → IsPass by base log v → IsPass by base log (after_draw v n)
  drawn_pass v n p = record { some_name = p.some_name; few_names = p.few_names; same_base = p.same_base; seen = p.seen; left = p.left; right = p.right; whole = λ x h. absurd h }

  pub entered_pass : (v : View E) (found : List E) → found ≡ log → IsPass by base log v → IsPass by base log (after_entry v found)
  entered_pass v found is p = record {
    some_name = p.some_name;
    few_names = p.few_names;
    same_base = p.same_base;
    seen = subst (Continues by v.low v.end found) is (continues_itself by v.low v.end found);
    left = continues_itself by v.low v.end found;
    right = continues_itself by v.end v.end found;
    whole = λ x h. is;
  }

  pub joined_pass : (v w : View E) → v.end ≡ w.low → IsPass by base log v → IsPass by base log w → IsPass by base log (joined v w)
  joined_pass v w adjacent p q =
      let names : v.low < v.end = p.some_name in
      let names' : w.low < w.end = q.some_name in
      let m : Meet by v.low v.end w.end v.seen w.seen (longer_of v.seen w.seen) log =
      meet by v.low v.end w.end v.seen w.seen log p.seen (subst (λ (k : ℕ). Continues by k w.end w.seen log) (sym adjacent) q.seen) in
      record {
        some_name = omega arith;
        few_names = q.few_names;
        same_base = p.same_base;
        seen = m.both;
        left = m.first;
        right = m.second;
        whole = λ x h. absurd h;
      }

  -- the middle of two names or more lies between
  pub above_low : (low end : ℕ) → low + 1 < end → low < middle_of low end
  above_low low end two = omega arith

  pub below_end : (low end : ℕ) → low + 1 < end → middle_of low end < end
  below_end low end two = omega arith

  pub lower_pass : (v : View E) → v.low + 1 < v.end → IsPass by base log v → IsPass by base log (lower_half v)
  lower_pass v two p =
      let a = above_low v.low v.end two in
      let b = below_end v.low v.end two in
      let few : v.end ≤ 65536 = p.few_names in
      let m : ℕ = middle_of v.low v.end in
      let b' : m < v.end = b in
      let a' : v.low < m = a in
      idle_pass v.low m v.seen v.base v.front a (omega arith) p.same_base (continues_narrower by v.low v.end v.low m (omega arith) (omega arith) v.seen log p.seen)

  pub upper_pass : (v : View E) → v.low + 1 < v.end → IsPass by base log v → IsPass by base log (upper_half v)
  upper_pass v two p =
      let a = above_low v.low v.end two in
      let b = below_end v.low v.end two in
      let m : ℕ = middle_of v.low v.end in
      let b' : m < v.end = b in
      let a' : v.low < m = a in
      idle_pass m v.end v.seen v.base v.front b p.few_names p.same_base (continues_narrower by v.low v.end m v.end (omega arith) (omega arith) v.seen log p.seen)

-- the history after a turn of a pass whose first name is `low`: as it was, or with one more entry under that name
abbrev pub Grows : {E : Type 0} → (E → ℕ) → ℕ → List E → List E → Type 0
Grows {E} by low log log' = (log' ≡ log) ⊎ ((e : E) × (log' ≡ log ++ e ∷ []) × (by e ≡ low))

module _ {T E : Type 0} (entries : T → List E) (base_of : T → List ℕ) (by : E → ℕ) (base : List ℕ) where
  abbrev Known : List E → Homes T → List (View E) → Type 0
  Known = IsKnown entries base_of by base

  -- one pass changes, and has no name that it had not
  pub known_set : (log : List E) (homes : Homes T) (views : List (View E)) (seat : ℕ) (v w : View E) → get_elem? views seat ≡ some v → ((x : ℕ) → HasName w x → HasName v x)
      → IsPass by base log w → Known log homes views → Known log homes (set views seat w)
  known_set log homes views seat v w at less p k = record {
    passes = each_set (λ (z : View E). IsLive z.stage → IsPass by base log z) views seat w k.passes (λ live. p);
    apart = one_set HasName views seat v w at less k.apart;
    callers = k.callers;
    same_base = k.same_base;
  }

  -- the value goes out
  pub known_out : (log : List E) (homes : Homes T) (views : List (View E)) → Known log homes views → Known log (maybe.none ∷ []) views
  known_out log homes views k = record { passes = k.passes; apart = k.apart; callers = k.callers; same_base = λ value e. cc }

  -- another pass, without this first name, has all of its own still
  others_continue : (low : ℕ) (u : View E) (log log' : List E) → ((u.low ≤ low) → (low < u.end) → ⊥) → Grows by low log log' → Continues by u.low u.end u.seen log → Continues by u.low u.end u.seen log'
  others_continue low u log log' other grows c = ⊎_elim
      (λ (e : log' ≡ log). subst (Continues by u.low u.end u.seen) (sym e) c)
      (λ (t : (e : E) × (log' ≡ log ++ e ∷ []) × (by e ≡ low)).
      subst (Continues by u.low u.end u.seen) (sym t.1)
      (continues_push by u.low u.end u.seen log t.0 c (not_under by u.low u.end t.0 (λ a b. let is : by t.0 ≡ low = t.2 in let a' : u.low ≤ by t.0 = a in let b' : by t.0 < u.end = b in other (omega arith) (omega arith)))))
      grows

  -- the value comes home from the turn of a pass
  pub known_leaves : (log : List E) (homes : Homes T) (views : List (View E)) (seat : ℕ) (v : View E) (value : T) → get_elem? views seat ≡ some v → IsLive v.stage → Grows by v.low log (entries value) → base_of value ≡ base
      → ((other : ℕ) (u : View E) → other ≢ seat → get_elem? views other ≡ some u → (x : ℕ) → HoldsWith u.stage x → ⊥)
      → Known log homes views → Known (entries value) (some (Some value) ∷ []) (set views seat (after_leaving v (entries value)))
  known_leaves log homes views seat v value at live grows same alone k = let p : IsPass by base log v = k.passes seat v at live in let names : v.low < v.end = p.some_name in let few : v.end ≤ 65536 = p.few_names in record {
    passes = each_others (λ (z : View E). Unit {0}) (λ (z : View E). IsLive z.stage → IsPass by base (entries value) z) views seat (after_leaving v (entries value))
        (λ j u n e live'. let q : IsPass by base log u = k.passes j u e live' in record {
          some_name = q.some_name;
          few_names = q.few_names;
          same_base = q.same_base;
          seen = others_continue v.low u log (entries value) (λ a b. n (k.apart j seat u v v.low e at (live', a, b) (live, omega arith, names))) grows q.seen;
          left = q.left;
          right = q.right;
          whole = λ x h. absurd (alone j u n e x h);
        })
        (λ live'. idle_pass by base (entries value) v.low v.end (entries value) v.base v.front names few p.same_base (continues_itself by v.low v.end (entries value)));
    apart = one_set HasName views seat v (after_leaving v (entries value)) at (λ x has. (live, has.1, has.2)) k.apart;
    callers = ⊎_elim
        (λ (e : entries value ≡ log). subst (All (λ d. by d < 65536)) (sym e) k.callers)
        (λ (t : (e : E) × (entries value ≡ log ++ e ∷ []) × (by e ≡ v.low)). subst (All (λ d. by d < 65536)) (sym t.1)
        (All-push (λ d. by d < 65536) log t.0 k.callers (let is : by t.0 ≡ v.low = t.2 in omega arith)))
        grows;
    same_base = λ other e. let is : value ≡ other = cc in subst (λ (x : T). base_of x ≡ base) is same;
  }

  -- a pass is cut in two
  pub known_splits : (log : List E) (homes : Homes T) (views : List (View E)) (seat : ℕ) (v : View E) → get_elem? views seat ≡ some v → IsLive v.stage → v.low + 1 < v.end
      → Known log homes views → Known log homes (set views seat (lower_half v) ++ upper_half v ∷ [])
  known_splits log homes views seat v at live two k =
      let p : IsPass by base log v = k.passes seat v at live in
      let m : ℕ = middle_of v.low v.end in
      let a : v.low < m = above_low by base log v.low v.end two in
      let b : m < v.end = below_end by base log v.low v.end two in
      record {
        passes = each_push (λ (z : View E). IsLive z.stage → IsPass by base log z) (set views seat (lower_half v)) (upper_half v)
            (each_set (λ (z : View E). IsLive z.stage → IsPass by base log z) views seat (lower_half v) k.passes (λ live'. lower_pass by base log v two p))
            (λ live'. upper_pass by base log v two p);
        apart = one_push HasName (set views seat (lower_half v)) (upper_half v)
            (λ x has j u e has'. let from : m ≤ x = has.1 in let to : x < v.end = has.2 in ⊎_elim
            (λ (t : (j ≡ seat) × (lower_half v ≡ u)). let up : x < m = (subst (λ (z : View E). HasName z x) (sym t.1) has').2 in let none : ⊥ = omega arith in none)
            (λ (t : (j ≢ seat) × (get_elem? views j ≡ some u)). t.0 (k.apart j seat u v x t.1 at has' (live, omega arith, to)))
            (at_set views seat j (lower_half v) u e))
            (one_set HasName views seat v (lower_half v) at (λ x has. let from : v.low ≤ x = has.1 in let to : x < m = has.2 in (live, from, omega arith)) k.apart);
        callers = k.callers;
        same_base = k.same_base;
      }

  -- two passes become one
  pub known_joins : (log : List E) (homes : Homes T) (views : List (View E)) (seat other : ℕ) (v w : View E) → get_elem? views seat ≡ some v → get_elem? views other ≡ some w → other ≢ seat → IsLive v.stage → IsLive w.stage
      → v.end ≡ w.low → Known log homes views → Known log homes (set (set views seat (joined v w)) other spent)
  known_joins log homes views seat other v w at at' apart live live' adjacent k =
      let p : IsPass by base log v = k.passes seat v at live in
      let q : IsPass by base log w = k.passes other w at' live' in
      let gone : AtMostOne HasName (set views other spent) = one_set HasName views other w spent at' (λ x has. absurd has.0) k.apart in
      let stays : get_elem? (set views other spent) seat ≡ some v = Rattle.atomic_table.proofs.Lists.set_else views other seat spent (λ e. apart (sym e)) ∙ at in
      record {
        passes = each_set (λ (z : View E). IsLive z.stage → IsPass by base log z) (set views seat (joined v w)) other spent
            (each_set (λ (z : View E). IsLive z.stage → IsPass by base log z) views seat (joined v w) k.passes (λ _. joined_pass by base log v w adjacent p q))
            (λ dead. absurd dead);
        apart = subst (AtMostOne HasName) (sym (set_swap views seat other (joined v w) spent (λ e. apart (sym e))))
            (one_new HasName (set views other spent) seat v (joined v w) stays
            (λ x has j u n e has'. ⊎_elim
            (λ (t : (j ≡ other) × (spent ≡ u)). (subst (λ (z : View E). HasName z x) (sym t.1) has').0)
            (λ (t : (j ≢ other) × (get_elem? views j ≡ some u)). let from : v.low ≤ x = has.1 in let to : x < w.end = has.2 in
            ⊎_elim
            (λ (below : x < v.end). n (k.apart j seat u v x t.1 at has' (live, from, below)))
            (λ (above : v.end ≤ x). t.0 (k.apart j other u w x t.1 at' has' (live', omega arith, to)))
            (cases x v.end))
            (at_set views other j spent u e))
            gone);
        callers = k.callers;
        same_base = k.same_base;
      }
    where
      cases : (x y : ℕ) → (x < y) ⊎ (y ≤ x)
      cases x y = Rattle.std.proofs.lemmas.Bool.cases_lt x y

  -- where one pass has all names, no other lives
  pub is_alone : (log : List E) (homes : Homes T) (views : List (View E)) (seat : ℕ) (v : View E) → get_elem? views seat ≡ some v → IsLive v.stage → HasAllNames v → Known log homes views
      → (other : ℕ) (u : View E) → get_elem? views other ≡ some u → IsLive u.stage → v ≡ u
  is_alone log homes views seat v at live all k other u at' live' =
      let q : IsPass by base log u = k.passes other u at' live' in
      let names : u.low < u.end = q.some_name in
      let few : u.end ≤ 65536 = q.few_names in
      let first : v.low ≡ 0 = all.0 in
      let last : v.end ≡ 65536 = all.1 in
      let same : other ≡ seat = k.apart other seat u v u.low at' at (live', omega arith, names) (live, omega arith, omega arith) in
      same_view views seat v u at (subst (λ (j : ℕ). get_elem? views j ≡ some u) same at')
