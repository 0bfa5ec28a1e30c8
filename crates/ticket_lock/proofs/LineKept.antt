-- The moves keep the line.
use Rattle.std.proofs.Common.{◌≡◌, ◌≢◌, ℕ, ◌+◌, ◌<◌, ◌≤◌, ◌^◌, ◌⊎◌, List, [], ◌∷◌, ◌++◌, length, set, sym, refl, ap, ◌∙◌, subst, inl, inr, ⊎_elim, arith}
use Rattle.std.specs.Prelude.{Some, All, AllPairs}
use mathlib.Core.Option as maybe
use mathlib.Core.Option.{some}
use lib.ListN.{get_elem?}
use Rattle.atomic_table.proofs.Lists.{at_set}
use Rattle.ticket_lock.specs.declared.views.Stage.{Stage}
use Rattle.ticket_lock.specs.declared.views.Stage.TheVariants.{Idle, Waiting, Holding, Spent}
use Rattle.ticket_lock.specs.declared.views.View.{View}
use Rattle.ticket_lock.specs.Entries.{IsBefore}
use Rattle.ticket_lock.specs.Seats.{SomeSeat}
use Rattle.ticket_lock.specs.Views.{HasTicket, HoldsWith}
use Rattle.ticket_lock.specs.Rule.{Homes, IsInLine, IsHome, IsOut, IsQueued}
use Rattle.ticket_lock.proofs.SeatLists.{same_view, at_push, each_others, each_set, some_set, some_here, some_push, some_join, one_new, one_set}

-- it neither waits nor holds
abbrev pub IsOutOfLine : Stage → Type 0
IsOutOfLine Idle = Unit {0}
IsOutOfLine (Waiting ticket) = ⊥
IsOutOfLine (Holding ticket) = ⊥
IsOutOfLine Spent = Unit {0}

out_in_line : (serving next : ℕ) (stage : Stage) → IsOutOfLine stage → IsInLine serving next stage
out_in_line serving next Idle o = tt
out_in_line serving next (Waiting ticket) o = absurd o
out_in_line serving next (Holding ticket) o = absurd o
out_in_line serving next Spent o = tt

out_has_none : (stage : Stage) (x : ℕ) → IsOutOfLine stage → HasTicket stage x → ⊥
out_has_none Idle x o h = h
out_has_none (Waiting ticket) x o h = o
out_has_none (Holding ticket) x o h = o
out_has_none Spent x o h = h

pub out_holds_none : (stage : Stage) (x : ℕ) → IsOutOfLine stage → HoldsWith stage x → ⊥
out_holds_none Idle x o h = h
out_holds_none (Waiting ticket) x o h = h
out_holds_none (Holding ticket) x o h = o
out_holds_none Spent x o h = h

holds_has : (stage : Stage) (x : ℕ) → HoldsWith stage x → HasTicket stage x
holds_has Idle x h = h
holds_has (Waiting ticket) x h = absurd h
holds_has (Holding ticket) x h = h
holds_has Spent x h = h

-- a ticket in line was drawn
was_drawn : (serving next : ℕ) (stage : Stage) (x : ℕ) → IsInLine serving next stage → HasTicket stage x → x < next
was_drawn serving next Idle x l h = absurd h
was_drawn serving next (Waiting ticket) x l h = let e : x ≡ ticket = h in omega arith
was_drawn serving next (Holding ticket) x l h = let e : x ≡ ticket = h in omega arith
was_drawn serving next Spent x l h = absurd h

-- who holds has the ticket that is served
served_holds : (serving next : ℕ) (stage : Stage) (x : ℕ) → IsInLine serving next stage → HoldsWith stage x → HasTicket stage serving
served_holds serving next Idle x l h = h
served_holds serving next (Waiting ticket) x l h = absurd h
served_holds serving next (Holding ticket) x l h = sym l.0
served_holds serving next Spent x l h = h

-- one more ticket is drawn
one_more : (serving next : ℕ) (stage : Stage) → IsInLine serving next stage → IsInLine serving (next + 1) stage
one_more serving next Idle l = tt
one_more serving next (Waiting ticket) l = (l.0, omega arith)
one_more serving next (Holding ticket) l = (l.0, omega arith)
one_more serving next Spent l = tt

-- the next ticket is served, and it is not another's that was
next_one : (serving next : ℕ) (stage : Stage) → (HasTicket stage serving → ⊥) → IsInLine serving next stage → IsInLine (serving + 1) next stage
next_one serving next Idle other l = tt
next_one serving next (Waiting ticket) other l = let n : serving ≢ ticket = other in (omega arith, l.1)
next_one serving next (Holding ticket) other l = absurd (other (sym l.0))
next_one serving next Spent other l = tt

module _ {E : Type 0} where
  -- who waits or holds after a change did so before, at the same seat, and who held still holds
  pub record SameLine (views views' : List (View E)) : Type 0 where
    pub forth : (seat : ℕ) (u : View E) → get_elem? views' seat ≡ some u → IsOutOfLine u.stage ⊎ ((v : View E) × (get_elem? views seat ≡ some v) × (u.stage ≡ v.stage))
    pub back : (x : ℕ) → SomeSeat (λ (v : View E). HoldsWith v.stage x) views → SomeSeat (λ (v : View E). HoldsWith v.stage x) views'

  -- one seat's view changes, and not where it stands
  pub same_stage : (views : List (View E)) (seat : ℕ) (v w : View E) → get_elem? views seat ≡ some v → w.stage ≡ v.stage → SameLine views (set views seat w)
  same_stage views seat v w at same = record {
    forth = λ j u e. ⊎_elim
        (λ (t : (j ≡ seat) × (w ≡ u)). inr (v, subst (λ (k : ℕ). get_elem? views k ≡ some v) (sym t.0) at, sym (ap (λ (z : View E). z.stage) t.1) ∙ same))
        (λ (t : (j ≢ seat) × (get_elem? views j ≡ some u)). inr (u, t.1, refl))
        (at_set views seat j w u e);
    back = λ x. some_set (λ (z : View E). HoldsWith z.stage x) views seat v w at (subst (λ (st : Stage). HoldsWith st x) (sym same));
  }

  -- a seat out of line is cut in two
  pub split_line : (views : List (View E)) (seat : ℕ) (v lower upper : View E) → get_elem? views seat ≡ some v → IsOutOfLine v.stage → IsOutOfLine lower.stage → IsOutOfLine upper.stage
      → SameLine views (set views seat lower ++ upper ∷ [])
  split_line views seat v lower upper at out lo up = record {
    forth = λ j u e. ⊎_elim
        (λ (here : get_elem? (set views seat lower) j ≡ some u). ⊎_elim
        (λ (t : (j ≡ seat) × (lower ≡ u)). inl (subst (λ (z : View E). IsOutOfLine z.stage) t.1 lo))
        (λ (t : (j ≢ seat) × (get_elem? views j ≡ some u)). inr (u, t.1, refl))
        (at_set views seat j lower u here))
        (λ (t : (j ≡ length (set views seat lower)) × (upper ≡ u)). inl (subst (λ (z : View E). IsOutOfLine z.stage) t.1 up))
        (at_push (set views seat lower) upper j u e);
    back = λ x some_one. some_push (λ (z : View E). HoldsWith z.stage x) (set views seat lower) upper
        (some_set (λ (z : View E). HoldsWith z.stage x) views seat v lower at (λ h. absurd (out_holds_none v.stage x out h)) some_one);
  }

  -- two seats out of line become one
  pub join_line : (views : List (View E)) (seat other : ℕ) (v w both left : View E) → get_elem? views seat ≡ some v → get_elem? views other ≡ some w → other ≢ seat
      → IsOutOfLine v.stage → IsOutOfLine w.stage → IsOutOfLine both.stage → IsOutOfLine left.stage → SameLine views (set (set views seat both) other left)
  join_line views seat other v w both left at at' apart out out' bo lo = record {
    forth = λ j u e. ⊎_elim
        (λ (t : (j ≡ other) × (left ≡ u)). inl (subst (λ (z : View E). IsOutOfLine z.stage) t.1 lo))
        (λ (t : (j ≢ other) × (get_elem? (set views seat both) j ≡ some u)). ⊎_elim
        (λ (s : (j ≡ seat) × (both ≡ u)). inl (subst (λ (z : View E). IsOutOfLine z.stage) s.1 bo))
        (λ (s : (j ≢ seat) × (get_elem? views j ≡ some u)). inr (u, s.1, refl))
        (at_set views seat j both u t.1))
        (at_set (set views seat both) other j left u e);
    back = λ x. some_join (λ (z : View E). HoldsWith z.stage x) views seat other v w both left at at' apart
        (λ h. absurd (out_holds_none v.stage x out h)) (λ h. absurd (out_holds_none w.stage x out' h));
  }

module _ {T E : Type 0} (entries : T → List E) (ticket : E → ℕ) where
  -- where nothing in the line changes, it is kept
  pub line_stays : (next serving : ℕ) (log : List E) (homes : Homes T) (views views' : List (View E)) → SameLine views views'
      → IsQueued entries ticket next serving log homes views → IsQueued entries ticket next serving log homes views'
  line_stays next serving log homes views views' same q = record {
    served = q.served;
    bounded = q.bounded;
    in_line = λ j u e. ⊎_elim
        (out_in_line serving next u.stage)
        (λ (t : (v : View E) × (get_elem? views j ≡ some v) × (u.stage ≡ v.stage)). subst (IsInLine serving next) (sym t.2) (q.in_line j t.0 t.1))
        (same.forth j u e);
    distinct = λ j k a b x ea eb pa pb. ⊎_elim
        (λ (o : IsOutOfLine a.stage). absurd (out_has_none a.stage x o pa))
        (λ (t : (v : View E) × (get_elem? views j ≡ some v) × (a.stage ≡ v.stage)). ⊎_elim
        (λ (o : IsOutOfLine b.stage). absurd (out_has_none b.stage x o pb))
        (λ (s : (v : View E) × (get_elem? views k ≡ some v) × (b.stage ≡ v.stage)).
        q.distinct j k t.0 s.0 x t.1 s.1 (subst (λ (st : Stage). HasTicket st x) t.2 pa) (subst (λ (st : Stage). HasTicket st x) s.2 pb))
        (same.forth k b eb))
        (same.forth j a ea);
    placed = ⊎_elim
        (λ (h : IsHome entries log homes views). inl (
          h.0,
          h.1,
          h.2,
          λ j u e x holds. ⊎_elim
              (λ (o : IsOutOfLine u.stage). out_holds_none u.stage x o holds)
              (λ (t : (v : View E) × (get_elem? views j ≡ some v) × (u.stage ≡ v.stage)). h.3 j t.0 t.1 x (subst (λ (st : Stage). HoldsWith st x) t.2 holds))
              (same.forth j u e),
        ))
        (λ (o : IsOut serving homes views). inr (o.0, same.back serving o.1))
        q.placed;
    rising = q.rising;
    below = q.below;
  }

  module _ (next serving : ℕ) (log : List E) (homes : Homes T) (views : List (View E)) (seat : ℕ) (v w : View E) (at : get_elem? views seat ≡ some v) (q : IsQueued entries ticket next serving log homes views) where
    -- the next ticket is drawn
    pub line_draws : IsOutOfLine v.stage → w.stage ≡ Waiting next → next < 2 ^ 63 → IsQueued entries ticket (next + 1) serving log homes (set views seat w)
    line_draws out waits few = let served : serving ≤ next = q.served in record {
      served = omega arith;
      bounded = omega arith;
      in_line = each_set (λ (z : View E). IsInLine serving (next + 1) z.stage) views seat w (λ j u e. one_more serving next u.stage (q.in_line j u e))
          (subst (IsInLine serving (next + 1)) (sym waits) (served, omega arith));
      distinct = one_new (λ (z : View E) x. HasTicket z.stage x) views seat v w at
          (λ x pw j u n e pu. let is : x ≡ next = subst (λ (st : Stage). HasTicket st x) waits pw in let lt : x < next = was_drawn serving next u.stage x (q.in_line j u e) pu in omega arith)
          q.distinct;
      placed = ⊎_elim
          (λ (h : IsHome entries log homes views). inl (h.0, h.1, h.2, each_set (λ (z : View E). (x : ℕ) → HoldsWith z.stage x → ⊥) views seat w h.3 (λ x holds. subst (λ (st : Stage). HoldsWith st x) waits holds)))
          (λ (o : IsOut serving homes views). inr (o.0, some_set (λ (z : View E). HoldsWith z.stage serving) views seat v w at (λ holds. absurd (out_holds_none v.stage serving out holds)) o.1))
          q.placed;
      rising = q.rising;
      below = q.below;
    }

    -- where a ticket that waits is served, the value is home
    pub value_is_home : v.stage ≡ Waiting serving → IsHome entries log homes views
    value_is_home waits = ⊎_elim
        (λ (h : IsHome entries log homes views). h)
        (λ (o : IsOut serving homes views).
        let (j, u, there, holds) = o.1 in
        let same : j ≡ seat = q.distinct j seat u v serving there at (holds_has u.stage serving holds) (subst (λ (st : Stage). HasTicket st serving) (sym waits) refl) in
        let is : u ≡ v = same_view views seat u v (subst (λ (k : ℕ). get_elem? views k ≡ some u) same there) at in
        absurd (subst (λ (st : Stage). HoldsWith st serving) (ap (λ (z : View E). z.stage) is ∙ waits) holds))
        q.placed

    -- it enters
    pub line_enters : v.stage ≡ Waiting serving → w.stage ≡ Holding serving → IsQueued entries ticket next serving log (maybe.none ∷ []) (set views seat w)
    line_enters waits holds = record {
      served = q.served;
      bounded = q.bounded;
      in_line = each_set (λ (z : View E). IsInLine serving next z.stage) views seat w q.in_line
          (subst (IsInLine serving next) (sym holds) (refl, was_drawn serving next v.stage serving (q.in_line seat v at) (subst (λ (st : Stage). HasTicket st serving) (sym waits) refl)));
      distinct = one_set (λ (z : View E) x. HasTicket z.stage x) views seat v w at
          (λ x pw. let is : x ≡ serving = subst (λ (st : Stage). HasTicket st x) holds pw in subst (λ (st : Stage). HasTicket st x) (sym waits) is)
          q.distinct;
      placed = inr (refl, some_here (λ (z : View E). HoldsWith z.stage serving) views seat v w at (subst (λ (st : Stage). HoldsWith st serving) (sym holds) refl));
      rising = q.rising;
      below = q.below;
    }

    -- no other seat has the ticket of the holder
    pub only_holder : v.stage ≡ Holding serving → (other : ℕ) (u : View E) → other ≢ seat → get_elem? views other ≡ some u → HasTicket u.stage serving → ⊥
    only_holder holds other u n e has = n (q.distinct other seat u v serving e at has (subst (λ (st : Stage). HasTicket st serving) (sym holds) refl))

    pub only_one_holds : v.stage ≡ Holding serving → (other : ℕ) (u : View E) → other ≢ seat → get_elem? views other ≡ some u → (x : ℕ) → HoldsWith u.stage x → ⊥
    only_one_holds holds other u n e x h = only_holder holds other u n e (served_holds serving next u.stage x (q.in_line other u e) h)

    -- while somebody holds, the value is out
    pub value_is_out : v.stage ≡ Holding serving → homes ≡ maybe.none ∷ []
    value_is_out holds = ⊎_elim
        (λ (h : IsHome entries log homes views). absurd (h.3 seat v at serving (subst (λ (st : Stage). HoldsWith st serving) (sym holds) refl)))
        (λ (o : IsOut serving homes views). o.0)
        q.placed

    -- the holder leaves a value with these entries, and the next ticket is served
    pub line_leaves : v.stage ≡ Holding serving → IsOutOfLine w.stage → (value : T) → AllPairs (IsBefore ticket) (entries value) → All (λ e. ticket e < serving + 1) (entries value)
        → IsQueued entries ticket next (serving + 1) (entries value) (some (Some value) ∷ []) (set views seat w)
    line_leaves holds out value rising below = let lt : serving < next = was_drawn serving next v.stage serving (q.in_line seat v at) (subst (λ (st : Stage). HasTicket st serving) (sym holds) refl) in record {
      served = omega arith;
      bounded = q.bounded;
      in_line = each_others (λ (z : View E). Unit {0}) (λ (z : View E). IsInLine (serving + 1) next z.stage) views seat w
          (λ j u n e. next_one serving next u.stage (only_holder holds j u n e) (q.in_line j u e)) (out_in_line (serving + 1) next w.stage out);
      distinct = one_set (λ (z : View E) x. HasTicket z.stage x) views seat v w at (λ x pw. absurd (out_has_none w.stage x out pw)) q.distinct;
      placed = inl (
        value,
        refl,
        refl,
        each_others (λ (z : View E). Unit {0}) (λ (z : View E). (x : ℕ) → HoldsWith z.stage x → ⊥) views seat w
            (λ j u n e x h. only_one_holds holds j u n e x h) (λ x h. out_holds_none w.stage x out h),
      );
      rising = rising;
      below = below;
    }
