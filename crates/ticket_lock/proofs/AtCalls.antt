-- The steps as the lock's calls make them, with the facts that are known there.
use Rattle.std.proofs.Common.{◌≡◌, ℕ, true, zero, suc, ◌+◌, ◌<◌, ◌≤◌, ◌^◌, List, [], ◌∷◌, sym, refl, ap, ◌∙◌, subst, inl, ⊎_elim, arith}
use Rattle.std.specs.Prelude.{Option, Some, All, AllPairs, Box}
use Rattle.std.specs.declared.alloc.Global.{Global}
use mathlib.Core.Option as maybe
use mathlib.Core.Option.{some, some-injective, some-ne-none}
use lib.ListN.{get_elem?}
use Rattle.atomic_table.specs.Table.{step, rest, Allows, opening, Final, Seen}
use Rattle.ticket_lock.specs.declared.views.Stage.{Stage}
use Rattle.ticket_lock.specs.declared.views.Stage.TheVariants.{Idle, Waiting, Holding, Spent}
use Rattle.ticket_lock.specs.declared.views.View.{View}
use Rattle.ticket_lock.specs.Entries.{IsBefore}
use Rattle.ticket_lock.specs.Seats.{Each, AtMostOne}
use Rattle.ticket_lock.specs.Views.{IsLive, HoldsWith, HasAllNames, is_idle, is_holding, is_blank}
use Rattle.ticket_lock.specs.Rule.{Homes, IsInLine, IsHome, IsOut, IsPass}
use Rattle.ticket_lock.specs.Moves.{Seated, ticket_of, root, before_draw, enters, leaves}
use Rattle.ticket_lock.specs.Boxes.{inside}
use Rattle.ticket_lock.specs.Calls.{MayLeave, Finds}
use Rattle.ticket_lock.proofs.Histories.{continues_itself, mine_continues}
use Rattle.ticket_lock.proofs.KnownKept.{idle_pass, is_alone}
use Rattle.ticket_lock.proofs.SeatFields.{holding_stage, blank_slot}
use Rattle.ticket_lock.proofs.Steps.{Sound, allows_leaving}

-- what holds of the one seat of a new table
each_one : {V : Type 0} (P : V → Type 0) (v : V) → P v → Each P (v ∷ [])
each_one P v p zero u e = subst P (some-injective v u e) p
each_one P v p (suc seat) u e = absurd (some-ne-none u (sym e))

one_alone : {V : Type 0} (P : V → ℕ → Type 0) (v : V) → AtMostOne P (v ∷ [])
one_alone P v zero zero a b x ea eb pa pb = refl
one_alone P v zero (suc k) a b x ea eb pa pb = absurd (some-ne-none b (sym eb))
one_alone P v (suc j) k a b x ea eb pa pb = absurd (some-ne-none a (sym ea))

holder_lives : (stage : Stage) (x : ℕ) → HoldsWith stage x → IsLive stage
holder_lives Idle x h = tt
holder_lives (Waiting ticket) x h = tt
holder_lives (Holding ticket) x h = tt
holder_lives Spent x h = h

module _ {T E : Type 0} (entries : T → List E) (base_of : T → List ℕ) (ticket by : E → ℕ) where
  -- a new lock
  pub opens : (first : ℕ) (value : T) → first ≤ 2 ^ 63 → AllPairs (IsBefore ticket) (entries value) → All (λ e. ticket e < first) (entries value) → All (λ e. by e < 65536) (entries value)
      → Sound entries base_of ticket by (base_of value) (opening (first ∷ first ∷ []) (Some value ∷ []) (root (entries value) (base_of value) first))
  opens first value few rising below callers = let v : View E = root (entries value) (base_of value) first in record {
    next = first;
    serving = first;
    log = entries value;
    words = refl;
    queued = record {
      served = omega arith;
      bounded = few;
      in_line = each_one (λ (z : View E). IsInLine first first z.stage) v tt;
      distinct = one_alone (λ (z : View E) x. Rattle.ticket_lock.specs.Views.HasTicket z.stage x) v;
      placed = inl (value, refl, refl, each_one (λ (z : View E). (x : ℕ) → HoldsWith z.stage x → ⊥) v (λ x h. h));
      rising = rising;
      below = below;
    };
    known = record {
      passes = each_one (λ (z : View E). IsLive z.stage → IsPass by (base_of value) (entries value) z) v
          (λ _. idle_pass by (base_of value) (entries value) 0 65536 (entries value) (base_of value) first (omega arith) (omega arith) refl (continues_itself by 0 65536 (entries value)));
      apart = one_alone Rattle.ticket_lock.specs.Views.HasName v;
      callers = callers;
      same_base = λ other e. let is : value ≡ other = cc in ap base_of (sym is);
    };
    fronted = record {
      fronts = each_one (λ (z : View E). IsLive z.stage → z.front ≤ first) v (λ _. let le : first ≤ first = omega arith in le);
      newest = (0, v, refl, (tt, refl));
      longest = (0, v, refl, (tt, refl));
    };
    watched = each_one (λ (z : View E). z.watched ≤ first) v (let le : 0 ≤ first = omega arith in le);
  }

  -- a new lock, of which the table was told the value and has it in its slot
  pub opens_at : (first : ℕ) (value told : T) (slots : List (Option T)) → told ≡ value → slots ≡ Some value ∷ [] → first ≤ 2 ^ 63 → AllPairs (IsBefore ticket) (entries value) → All (λ e. ticket e < first) (entries value)
      → All (λ e. by e < 65536) (entries value) → Sound entries base_of ticket by (base_of told) (opening (first ∷ first ∷ []) slots (root (entries told) (base_of told) first))
  opens_at first value told slots same is few rising below callers =
      subst (λ (x : T). Sound entries base_of ticket by (base_of x) (opening (first ∷ first ∷ []) slots (root (entries x) (base_of x) first))) (sym same)
      (subst (λ (xs : List (Option T)). Sound entries base_of ticket by (base_of value) (opening (first ∷ first ∷ []) xs (root (entries value) (base_of value) first))) (sym is) (opens first value few rising below callers))

  module _ (base : List ℕ) where
    -- a store to SERVING by a holder that has put the value into its slot
    pub leaves_now : (slots id t : ℕ) (me now : Seated T E) (value : T) → now ≡ (me.0, (0, Some value) ∷ rest me.1) → is_holding t me.0.stage ≡ true → is_blank me.1 ≡ true → base_of value ≡ me.0.base → MayLeave ticket by me.0 t (entries value)
        → Allows (Sound entries base_of ticket by base) slots id now 1 (λ _. t + 1) (λ _. leaves entries base_of ticket by (step slots 1 (t + 1) 0 maybe.none) now (t + 1))
    leaves_now slots id t me now value same holds blank fixed may =
        subst (λ (z : Seated T E). Allows (Sound entries base_of ticket by base) slots id z 1 (λ _. t + 1) (λ _. leaves entries base_of ticket by (step slots 1 (t + 1) 0 maybe.none) z (t + 1))) (sym same)
        (allows_leaving entries base_of ticket by base slots id t (me.0, (0, Some value) ∷ rest me.1) value (holding_stage t me.0.stage holds)
        (ap (λ (z : List (ℕ × Option T)). (0, Some value) ∷ rest z) (blank_slot me.1 blank)) fixed may)

    -- What the value of a lock is once the pass with all names closes it.
    pub record Closes (v : View E) (value : T) : Type 0 where
      pub entries_are : entries value ≡ v.seen
      pub base_is : base_of value ≡ v.base
      pub rising : AllPairs (IsBefore ticket) (entries value)
      pub callers : All (λ e. by e < 65536) (entries value)

    pub closes : (id : ℕ) (v : View E) (words : List ℕ) (slots : List (Option T)) (slot : Option T) → v.stage ≡ Idle → HasAllNames v → Final (Seen (Sound entries base_of ticket by base) id v) words slots → get_elem? slots 0 ≡ some slot
        → (value : T) × (slot ≡ Some value) × Closes v value
    closes id v words slots slot asks all (s, seen, is_words, long, home_slots) there =
        let r = seen.0 in
        let at = seen.1 in
        let live = subst IsLive (sym asks) tt in
        let alone = is_alone entries base_of by base r.log s.homes s.views id v at live all r.known in
        ⊎_elim
        (λ (h : IsHome entries r.log s.homes s.views).
        let value : T = h.0 in
        let slot_is : slot ≡ Some value = some-injective slot (Some value) (sym there ∙ home_slots 0 (Some value) (ap (λ (hs : Homes T). get_elem? hs 0) h.1)) in
        let (j, u, stands, longest) = r.fronted.longest in
        let whole : v.seen ≡ r.log = ap (λ (z : View E). z.seen) (alone j u stands longest.0) ∙ longest.1 in
        (value, slot_is, record { entries_are = h.2 ∙ sym whole; base_is = r.known.same_base value h.1 ∙ sym (r.known.passes id v at live).same_base; rising = subst (AllPairs (IsBefore ticket)) (sym h.2) r.queued.rising; callers = subst (All (λ e. by e < 65536)) (sym h.2) r.known.callers }))
        (λ (o : IsOut r.serving s.homes s.views).
        let (j, u, stands, holds) = o.1 in
        let same : v ≡ u = alone j u stands (holder_lives u.stage r.serving holds) in
        absurd (subst (λ (st : Stage). HoldsWith st r.serving) (sym (ap (λ (z : View E). z.stage) same) ∙ asks) holds))
        r.queued.placed

    -- the same of the value that was in the slot
    pub closes_some : (id : ℕ) (v : View E) (words : List ℕ) (slots : List (Option T)) (slot : Option T) (value : T) → v.stage ≡ Idle → HasAllNames v → Final (Seen (Sound entries base_of ticket by base) id v) words slots
        → get_elem? slots 0 ≡ some slot → slot ≡ Some value → Closes v value
    closes_some id v words slots slot value asks all final there is =
        let (other, is', closed) = closes id v words slots slot asks all final there in
        let same : other ≡ value = cc in
        subst (Closes v) same closed

  module _ (slots n t : ℕ) (me after : Seated T E) (waits : me.0.stage ≡ Waiting t) where
    -- what a seat has that has found its ticket served
    pub takes_slot : n ≡ t → enters entries base_of ticket by (step slots 1 0 0 maybe.none) me n after → (slot : Option T) × (after.1 ≡ (0, slot) ∷ rest after.1)
    takes_slot hit told =
        let (value, is, same_base, found) = told.3 (hit ∙ sym (ap ticket_of waits)) in
        (Some value, ap (λ (z : Seated T E). z.1) is ∙ ap (λ (z : List (ℕ × Option T)). (0, Some value) ∷ z) (sym (ap (λ (z : Seated T E). rest z.1) is)))

    -- what it finds then
    pub finds_served : (last : Seated T E) (carried : List (ℕ × Option T)) → n ≡ t → enters entries base_of ticket by (step slots 1 0 0 maybe.none) me n after → last ≡ (after.0, carried)
        → Finds ticket by (before_draw me.0 t) t last.0.seen
    finds_served last carried hit told left =
        let (value, is, same_base, found) = told.3 (hit ∙ sym (ap ticket_of waits)) in
        let seen : last.0.seen ≡ entries value = ap (λ (z : Seated T E). z.0.seen) (left ∙ ap (λ (z : Seated T E). (z.0, carried)) is) in
        subst (Finds ticket by (before_draw me.0 t) t) (sym seen)
        record {
          seen = found.seen;
          mine = mine_continues by me.0.low me.0.end me.0.seen (entries value) found.seen;
          rising = found.rising;
          below = subst (λ (k : ℕ). All (λ e. ticket e < k) (entries value)) (ap ticket_of waits) found.below;
          callers = found.callers;
        }

module _ {T E : Type 0} (entries : T → List E) (base_of : T → List ℕ) (ticket by : E → ℕ) where
  -- a new lock over the box in which the value lies
  pub opens_boxed : (first : ℕ) (value told : T) (box : Box T Global) (slots : List (Option (Box T Global))) → told ≡ value → box.value ≡ value → slots ≡ Some box ∷ [] → first ≤ 2 ^ 63 → AllPairs (IsBefore ticket) (entries value) → All (λ e. ticket e < first) (entries value)
      → All (λ e. by e < 65536) (entries value) → Sound (inside entries) (inside base_of) ticket by (base_of told) (opening (first ∷ first ∷ []) slots (root (entries told) (base_of told) first))
  opens_boxed first value told box slots same kept is few rising below callers =
      let back : value ≡ box.value = sym kept in
      subst (λ (x : T). Sound (inside entries) (inside base_of) ticket by (base_of x) (opening (first ∷ first ∷ []) slots (root (entries x) (base_of x) first))) (kept ∙ sym same)
      (opens_at (inside entries) (inside base_of) ticket by first box box slots refl is few
      (subst (λ (x : T). AllPairs (IsBefore ticket) (entries x)) back rising)
      (subst (λ (x : T). All (λ e. ticket e < first) (entries x)) back below)
      (subst (λ (x : T). All (λ e. by e < 65536) (entries x)) back callers))
