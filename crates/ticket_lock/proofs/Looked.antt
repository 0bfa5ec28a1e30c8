-- A pass that has only looked at the line since it asked.
use Rattle.std.proofs.Common.{◌≡◌, ℕ, ◌<◌, ◌≤◌, ◌^◌, refl, ap, ◌∙◌, ⊎_elim, arith}
use Rattle.ticket_lock.specs.declared.views.Stage.TheVariants.{Idle}
use Rattle.ticket_lock.specs.declared.views.View.{View}
use Rattle.ticket_lock.specs.Views.{HasAllNames}
use Rattle.ticket_lock.specs.Moves.{Seated, after_look, after_watch, before_draw}
use Rattle.ticket_lock.proofs.Steps.{below_or_above}
use Rattle.ticket_lock.specs.Calls.{IsWorn, HasLooked}
use Rattle.ticket_lock.specs.private.Entered.{HasDrawn}

-- but for its front, and what it found in SERVING, it is as it was; the front has not fallen, and is the same where the pass has all names
pub record IsSince {E : Type 0} (v w : View E) : Type 0 where
  pub same : (n : ℕ) → after_look w n ≡ after_look v n
  pub front : v.front ≤ w.front
  pub all_names : HasAllNames v → v.front ≡ w.front

module _ {E : Type 0} where
  pub since_itself : (v : View E) → IsSince v v
  since_itself v = record { same = λ n. refl; front = omega arith; all_names = λ all. refl }

  module _ (v w : View E) (h : IsSince v w) where
    low_since : w.low ≡ v.low
    low_since = ap (λ (z : View E). z.low) (h.same 0)

    end_since : w.end ≡ v.end
    end_since = ap (λ (z : View E). z.end) (h.same 0)

    pub idle_now : v.stage ≡ Idle → w.stage ≡ Idle
    idle_now idle = ap (λ (z : View E). z.stage) (h.same 0) ∙ idle

    all_since : HasAllNames v → HasAllNames w
    all_since all = (low_since ∙ all.0, end_since ∙ all.1)

    pub since_looked : (u : View E) → HasLooked w u → IsSince v u
    since_looked u l = record {
      same = λ n. ap (λ (z : View E). after_look z n) l.same ∙ h.same n;
      front = let a : v.front ≤ w.front = h.front in let b : w.front ≤ u.front = l.front in omega arith;
      all_names = λ all. h.all_names all ∙ l.all_names (all_since all);
    }

    pub looked_since : (u : View E) → HasLooked w u → HasLooked v u
    looked_since u l = record {
      same = l.same ∙ h.same u.front;
      front = let a : v.front ≤ w.front = h.front in let b : w.front ≤ u.front = l.front in omega arith;
      all_names = λ all. h.all_names all ∙ l.all_names (all_since all);
    }

    pub drawn_since : (u : View E) (ticket : ℕ) → HasDrawn w u ticket → HasDrawn v u ticket
    drawn_since u ticket d = record { looked = looked_since (before_draw u ticket) d.looked; waits = d.waits; front = d.front; few = d.few }

    -- all tickets are drawn
    pub worn_since : (u : View E) → HasLooked w u → 2 ^ 63 ≤ u.front → u.front ≤ 2 ^ 63 → IsWorn v u
    worn_since u l all bounded =
        let looked = looked_since u l in
        let last : u.front ≡ 2 ^ 63 = omega arith in
        record { same = looked.same ∙ ap (λ (k : ℕ). after_look v k) last; all_names = λ names. looked.all_names names ∙ last }

module _ {T E : Type 0} where
  pub idle_since : (me now : Seated T E) (n : ℕ) → now ≡ (after_look me.0 n, me.1) → me.0.stage ≡ Idle → now.0.stage ≡ Idle
  idle_since me now n is idle = ap (λ (z : Seated T E). z.0.stage) is ∙ idle

  -- a look at SERVING, whatever it finds
  pub idle_watched : (now after : Seated T E) (serving : ℕ) → (now.0.front ≤ serving → after ≡ (after_watch now.0 serving, now.1)) → (serving < now.0.front → after ≡ now) → now.0.stage ≡ Idle → after.0.stage ≡ Idle
  idle_watched now after serving free busy idle =
      ⊎_elim
      (λ (le : now.0.front ≤ serving). ap (λ (z : Seated T E). z.0.stage) (free le) ∙ idle)
      (λ (lt : serving < now.0.front). ap (λ (z : Seated T E). z.0.stage) (busy lt) ∙ idle)
      (below_or_above now.0.front serving)
