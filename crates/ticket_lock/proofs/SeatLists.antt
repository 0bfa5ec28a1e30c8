-- What holds of all seats, of some seat or of one at most, after one seat's view changes or a new seat comes.
use Rattle.std.proofs.Common.{◌≡◌, ◌≢◌, ℕ, zero, suc, ◌⊎◌, List, [], ◌∷◌, ◌++◌, length, set, sym, refl, ap, ◌∙◌, subst, inl, inr, ⊎_elim}
use mathlib.Core.Option.{some, some-injective, some-ne-none}
use native.Mathlib.Decide.{ℕ_discrete}
use lib.ListN.{get_elem?}
use Rattle.atomic_table.proofs.Lists.{at_set, set_else, at_longer}
use Rattle.ticket_lock.specs.Seats.{Each, SomeSeat, AtMostOne}

module _ {V : Type 0} where
  -- a view that was written stands there
  pub set_there : (views : List V) (seat : ℕ) (v w : V) → get_elem? views seat ≡ some v → get_elem? (set views seat w) seat ≡ some w
  set_there [] seat v w e = absurd (some-ne-none v (sym e))
  set_there (x ∷ xs) zero v w e = refl
  set_there (x ∷ xs) (suc seat) v w e = set_there xs seat v w e

  -- the view at a seat is one view
  pub same_view : (views : List V) (seat : ℕ) (v w : V) → get_elem? views seat ≡ some v → get_elem? views seat ≡ some w → v ≡ w
  same_view views seat v w e f = some-injective v w (sym e ∙ f)

  pub at_push : (views : List V) (w : V) (seat : ℕ) (u : V) → get_elem? (views ++ w ∷ []) seat ≡ some u → (get_elem? views seat ≡ some u) ⊎ ((seat ≡ length views) × (w ≡ u))
  at_push [] w zero u e = inr (refl, some-injective w u e)
  at_push [] w (suc seat) u e = absurd (some-ne-none u (sym e))
  at_push (x ∷ xs) w zero u e = inl e
  at_push (x ∷ xs) w (suc seat) u e = ⊎_elim (λ (t : get_elem? xs seat ≡ some u). inl t) (λ (t : (seat ≡ length xs) × (w ≡ u)). inr (ap suc t.0, t.1)) (at_push xs w seat u e)

  pub pushed_there : (views : List V) (w : V) → get_elem? (views ++ w ∷ []) (length views) ≡ some w
  pushed_there [] w = refl
  pushed_there (x ∷ xs) w = pushed_there xs w

  -- two writes at two seats, in either order
  pub set_swap : (views : List V) (one two : ℕ) (v w : V) → one ≢ two → set (set views one v) two w ≡ set (set views two w) one v
  set_swap [] one two v w n = refl
  set_swap (x ∷ xs) zero zero v w n = absurd (n refl)
  set_swap (x ∷ xs) zero (suc two) v w n = refl
  set_swap (x ∷ xs) (suc one) zero v w n = refl
  set_swap (x ∷ xs) (suc one) (suc two) v w n = ap (λ (ys : List V). x ∷ ys) (set_swap xs one two v w (λ e. n (ap suc e)))

  module _ (P : V → Type 0) where
    pub each_others : (Q : V → Type 0) (views : List V) (seat : ℕ) (w : V) → ((other : ℕ) (u : V) → other ≢ seat → get_elem? views other ≡ some u → Q u) → Q w → Each Q (set views seat w)
    each_others Q views seat w others here j u e =
        ⊎_elim (λ (t : (j ≡ seat) × (w ≡ u)). subst Q t.1 here) (λ (t : (j ≢ seat) × (get_elem? views j ≡ some u)). others j u t.0 t.1) (at_set views seat j w u e)

    pub each_set : (views : List V) (seat : ℕ) (w : V) → Each P views → P w → Each P (set views seat w)
    each_set views seat w each here = each_others P views seat w (λ other u n e. each other u e) here

    pub each_push : (views : List V) (w : V) → Each P views → P w → Each P (views ++ w ∷ [])
    each_push views w each here j u e =
        ⊎_elim (each j u) (λ (t : (j ≡ length views) × (w ≡ u)). subst P t.1 here) (at_push views w j u e)

    -- the seat that changes keeps P, or gets it
    pub some_set : (views : List V) (seat : ℕ) (v w : V) → get_elem? views seat ≡ some v → (P v → P w) → SomeSeat P views → SomeSeat P (set views seat w)
    some_set views seat v w at keeps (j, u, there, p) = go (ℕ_discrete j seat)
      where
        go : Dec (j ≡ seat) → SomeSeat P (set views seat w)
        go (yes e) = (seat, w, set_there views seat v w at, keeps (subst P (same_view views seat u v (subst (λ (k : ℕ). get_elem? views k ≡ some u) e there) at) p))
        go (no n) = (j, u, set_else views seat j w n ∙ there, p)

    pub some_here : (views : List V) (seat : ℕ) (v w : V) → get_elem? views seat ≡ some v → P w → SomeSeat P (set views seat w)
    some_here views seat v w at p = (seat, w, set_there views seat v w at, p)

    pub some_push : (views : List V) (w : V) → SomeSeat P views → SomeSeat P (views ++ w ∷ [])
    some_push views w (j, u, there, p) = (j, u, at_longer views (w ∷ []) j u there, p)

    -- two seats change: the second gives what it had to the first
    pub some_join : (views : List V) (seat other : ℕ) (v w both left : V) → get_elem? views seat ≡ some v → get_elem? views other ≡ some w → other ≢ seat → (P v → P both) → (P w → P both)
        → SomeSeat P views → SomeSeat P (set (set views seat both) other left)
    some_join views seat other v w both left at at' apart one two (j, u, there, p) = go (ℕ_discrete j seat) (ℕ_discrete j other)
      where
        stays : get_elem? (set (set views seat both) other left) seat ≡ some both
        stays = set_else (set views seat both) other seat left (λ e. apart (sym e)) ∙ set_there views seat v both at

        go : Dec (j ≡ seat) → Dec (j ≡ other) → SomeSeat P (set (set views seat both) other left)
        go (yes e) d = (seat, both, stays, one (subst P (same_view views seat u v (subst (λ (k : ℕ). get_elem? views k ≡ some u) e there) at) p))
        go (no n) (yes e) = (seat, both, stays, two (subst P (same_view views other u w (subst (λ (k : ℕ). get_elem? views k ≡ some u) e there) at') p))
        go (no n) (no m) = (j, u, set_else (set views seat both) other j left m ∙ (set_else views seat j both n ∙ there), p)

  module _ (P : V → ℕ → Type 0) where
    -- a changed seat has no number of another
    pub one_new : (views : List V) (seat : ℕ) (v w : V) → get_elem? views seat ≡ some v
        → ((x : ℕ) → P w x → (other : ℕ) (u : V) → other ≢ seat → get_elem? views other ≡ some u → P u x → ⊥) → AtMostOne P views → AtMostOne P (set views seat w)
    one_new views seat v w at new one j k a b x ea eb pa pb = go (at_set views seat j w a ea) (at_set views seat k w b eb)
      where
        go : ((j ≡ seat) × (w ≡ a)) ⊎ ((j ≢ seat) × (get_elem? views j ≡ some a)) → ((k ≡ seat) × (w ≡ b)) ⊎ ((k ≢ seat) × (get_elem? views k ≡ some b)) → j ≡ k
        go (inl p) (inl q) = p.0 ∙ sym q.0
        go (inl p) (inr q) = absurd (new x (subst (λ (u : V). P u x) (sym p.1) pa) k b q.0 q.1 pb)
        go (inr p) (inl q) = absurd (new x (subst (λ (u : V). P u x) (sym q.1) pb) j a p.0 p.1 pa)
        go (inr p) (inr q) = one j k a b x p.1 q.1 pa pb

    -- it has no number that it had not
    pub one_set : (views : List V) (seat : ℕ) (v w : V) → get_elem? views seat ≡ some v → ((x : ℕ) → P w x → P v x) → AtMostOne P views → AtMostOne P (set views seat w)
    one_set views seat v w at less one = one_new views seat v w at (λ x pw other u n e pu. n (one other seat u v x e at pu (less x pw))) one

    pub one_push : (views : List V) (w : V) → ((x : ℕ) → P w x → (other : ℕ) (u : V) → get_elem? views other ≡ some u → P u x → ⊥) → AtMostOne P views → AtMostOne P (views ++ w ∷ [])
    one_push views w new one j k a b x ea eb pa pb = go (at_push views w j a ea) (at_push views w k b eb)
      where
        go : (get_elem? views j ≡ some a) ⊎ ((j ≡ length views) × (w ≡ a)) → (get_elem? views k ≡ some b) ⊎ ((k ≡ length views) × (w ≡ b)) → j ≡ k
        go (inl p) (inl q) = one j k a b x p q pa pb
        go (inl p) (inr q) = absurd (new x (subst (λ (u : V). P u x) (sym q.1) pb) j a p pa)
        go (inr p) (inl q) = absurd (new x (subst (λ (u : V). P u x) (sym p.1) pa) k b q pb)
        go (inr p) (inr q) = p.0 ∙ sym q.0
