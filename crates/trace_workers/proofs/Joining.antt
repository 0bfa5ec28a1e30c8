-- How what workers did comes together where their passes are joined.
use Rattle.std.proofs.Common.{◌≡◌, ◌≢◌, ℕ, ◌≤◌, ◌<◌, ◌⊎◌, inl, inr, Bool, true, false, cond, nat_lt, List, [], ◌∷◌, ◌++◌, length, get_or, All, Any, refl, sym, ap, ◌∙◌, subst, append_assoc, arith}
use Rattle.std.proofs.lemmas.Bool.{cases_lt}
use Rattle.std.proofs.lemmas.List.{append_cancel_left}
use Rattle.std.proofs.lemmas.List.Elements.{All-append, All-weaker, All-push}
use Rattle.std.proofs.lemmas.List.Quantifiers.{Any-push, all_pairs_push}
use Rattle.ticket_lock.specs.declared.views.View.{View}
use Rattle.ticket_lock.specs.Entries.{longer_of}
use Rattle.ticket_lock.specs.Moves.{middle_of}
use Rattle.ticket_lock.specs.Calls.{AreHalves, IsMet}
use Rattle.tracer_specification.specs.History.{IsLegal}
use Rattle.tracer_specification.specs.Blocks.{Trail, StandsIn, IsUnworn}
use Rattle.shared_book.specs.Asks.{IsAhead}
use Rattle.trace_workers.specs.PartRuns.{IsNameOf, HasRun}
use Rattle.trace_command.specs.declared.command.Config.{Config}
use Rattle.trace_command.specs.declared.command.Entry.{Entry}
use Rattle.shared_book.proofs.Asking.{ahead_of}
use Rattle.tracer_specification.proofs.Trailing.{trail-grows}
use Rattle.trace_workers.proofs.Working.{none_under, without_name, only, any_append, of_any}

-- the middle is between the ends
middle_between : (low end : ℕ) → low ≤ end → (low ≤ middle_of low end) × (middle_of low end ≤ end)
middle_between low end order = (omega arith, omega arith)

chosen : {X : Type 0} (b : Bool) (xs ys : List X) → (cond b ys xs ≡ xs) ⊎ (cond b ys xs ≡ ys)
chosen true xs ys = inr refl
chosen false xs ys = inl refl

-- what others do later changes none of several trails
each_grows : (g : Config) (low end : ℕ) (before after rest : List Entry) (trails : List Trail)
    → All (λ (e : Entry). (low ≤ e.by) × (e.by < end) → ⊥) rest → All (λ (t : Trail). (low ≤ t.by) × (t.by < end)) trails
    → All (StandsIn g before after) trails → All (StandsIn g before (after ++ rest)) trails
each_grows g low end before after rest trails none named each = λ k d within.
    let t = get_or trails k d in
    let n : (low ≤ t.by) × (t.by < end) = named k d within in
    trail-grows g t.by before after rest t.commands t.replies (without_name low end t.by rest none n.0 n.1) (each k d within)

-- an entry under these names is of one of the trails, wherever it stands
callers_of : (low end : ℕ) (after rest : List Entry) (trails : List Trail)
    → All (λ (e : Entry). (low ≤ e.by) × (e.by < end) → ⊥) rest
    → All (λ (e : Entry). (low ≤ e.by) × (e.by < end) → Any (λ (t : Trail). t.by ≡ e.by) trails) after
    → All (λ (e : Entry). (low ≤ e.by) × (e.by < end) → Any (λ (t : Trail). t.by ≡ e.by) trails) (after ++ rest)
callers_of low end after rest trails none callers =
    All-append (λ (e : Entry). (low ≤ e.by) × (e.by < end) → Any (λ (t : Trail). t.by ≡ e.by) trails) after rest callers
    (All-weaker (λ (e : Entry). (low ≤ e.by) × (e.by < end) → ⊥) (λ (e : Entry). (low ≤ e.by) × (e.by < end) → Any (λ (t : Trail). t.by ≡ e.by) trails)
    (λ e none named. absurd (none named)) rest none)

-- a name is in the lower half or in the upper
either_half : (low middle end by : ℕ) (trails : List Trail) (trail : Trail)
    → (by < middle → Any (λ (t : Trail). t.by ≡ by) trails) → (middle ≤ by → Any (λ (t : Trail). t.by ≡ by) (trail ∷ []))
    → Any (λ (t : Trail). t.by ≡ by) (trails ++ trail ∷ [])
either_half low middle end by trails trail lower upper =
    elim (cases_lt by middle) [
      | inl below ↦ any_append (λ (t : Trail). t.by ≡ by) trails trail (lower below)
      | inr above ↦ Any-push (λ (t : Trail). t.by ≡ by) trails trail (of_any trail by (upper above))
    ]

-- the longer of two is one of them
longer_is : {X : Type 0} (xs ys : List X) → (longer_of xs ys ≡ xs) ⊎ (longer_of xs ys ≡ ys)
longer_is xs ys = chosen (nat_lt (length xs) (length ys)) xs ys

-- the front of passes that met is ahead where each of theirs is
meet_ahead : (v a b x y m : View Entry) → AreHalves v a b → IsMet (λ (e : Entry). e.ticket) (λ (e : Entry). e.by) x y m
    → IsAhead v → (IsAhead a → IsAhead x) → (IsAhead b → IsAhead y) → IsAhead m
meet_ahead v a b x y m halves met known first second =
    let P : List Entry → ℕ → Type 0 = λ es front. All (λ (e : Entry). e.ticket < front) es in
    let known_a : P a.seen a.front =
    subst (λ (es : List Entry). P es a.front) (sym halves.seen.0) (subst (λ (n : ℕ). P v.seen n) (sym halves.front.0) known) in
    let known_b : P b.seen b.front =
    subst (λ (es : List Entry). P es b.front) (sym halves.seen.1) (subst (λ (n : ℕ). P v.seen n) (sym halves.front.1) known) in
    elim (longer_is x.seen y.seen) [
      | inl e ↦ subst (λ (es : List Entry). P es m.front) (sym (met.seen ∙ e)) (ahead_of x.front m.front x.seen met.front.0 (first known_a))
      | inr e ↦ subst (λ (es : List Entry). P es m.front) (sym (met.seen ∙ e)) (ahead_of y.front m.front y.seen met.front.1 (second known_b))
    ]

-- what all did under the lower names and what one did under the upper
pub run_meet : (v a b x y m : View Entry) (trails : List Trail) (trail : Trail) → v.low < v.end
    → AreHalves v a b → HasRun a x trails → HasRun b y (trail ∷ []) → IsMet (λ (e : Entry). e.ticket) (λ (e : Entry). e.by) x y m
    → HasRun v m (trails ++ trail ∷ [])
run_meet v a b x y m trails trail some halves lower upper met =
    let mid = middle_between v.low v.end (omega arith) in
    let first : m.seen ≡ x.seen ++ met.first.0 = met.first.1 in
    let second : m.seen ≡ y.seen ++ met.second.0 = met.second.1 in
    let after : List Entry = lower.after ++ met.first.0 in
    let seen : m.seen ≡ v.seen ++ after =
    first ∙ ap (λ (es : List Entry). es ++ met.first.0) (lower.seen ∙ ap (λ (es : List Entry). es ++ lower.after) halves.seen.0)
    ∙ append_assoc v.seen lower.after met.first.0 in
    let seen' : m.seen ≡ v.seen ++ (upper.after ++ met.second.0) =
    second ∙ ap (λ (es : List Entry). es ++ met.second.0) (upper.seen ∙ ap (λ (es : List Entry). es ++ upper.after) halves.seen.1)
    ∙ append_assoc v.seen upper.after met.second.0 in
    let same : upper.after ++ met.second.0 ≡ after = append_cancel_left v.seen (upper.after ++ met.second.0) after (sym seen' ∙ seen) in
    let low_a : x.low ≡ v.low = lower.goes_on.low ∙ halves.low in
    let end_a : x.end ≡ middle_of v.low v.end = lower.goes_on.end ∙ halves.lower_end in
    let low_b : y.low ≡ middle_of v.low v.end = upper.goes_on.low ∙ halves.upper_low in
    let end_b : y.end ≡ v.end = upper.goes_on.end ∙ halves.end in
    let none_a : All (λ (e : Entry). (a.low ≤ e.by) × (e.by < a.end) → ⊥) met.first.0 =
    All-weaker (λ (e : Entry). (x.low ≤ e.by) × (e.by < x.end) → ⊥) (λ (e : Entry). (a.low ≤ e.by) × (e.by < a.end) → ⊥)
    (λ e none named. none (rw (lower.goes_on.low, lower.goes_on.end) named)) met.first.0 (none_under x.low x.end met.first.0 met.first.2) in
    let none_b : All (λ (e : Entry). (b.low ≤ e.by) × (e.by < b.end) → ⊥) met.second.0 =
    All-weaker (λ (e : Entry). (y.low ≤ e.by) × (e.by < y.end) → ⊥) (λ (e : Entry). (b.low ≤ e.by) × (e.by < b.end) → ⊥)
    (λ e none named. none (rw (upper.goes_on.low, upper.goes_on.end) named)) met.second.0 (none_under y.low y.end met.second.0 met.second.2) in
    let of_b : IsNameOf b trail.by = only (λ (t : Trail). IsNameOf b t.by) trail upper.named in
    record {
      goes_on = record {
        low = met.low ∙ low_a;
        end = met.end ∙ end_b;
        base = met.base ∙ lower.goes_on.base ∙ halves.base.0;
        front = omega (arith, halves.front.0, lower.goes_on.front, met.front.0);
        ahead = λ known. meet_ahead v a b x y m halves met known lower.goes_on.ahead upper.goes_on.ahead;
      };
      after = after;
      seen = seen;
      each = λ g is.
          All-push (StandsIn g v.seen after) trails trail
          (each_grows g a.low a.end v.seen lower.after met.first.0 trails none_a lower.named
          (subst (λ (es : List Entry). All (StandsIn g es lower.after) trails) halves.seen.0 (lower.each g (is ∙ sym halves.base.0))))
          (subst (λ (es : List Entry). StandsIn g v.seen es trail) same
          (trail-grows g trail.by v.seen upper.after met.second.0 trail.commands trail.replies
          (without_name b.low b.end trail.by met.second.0 none_b of_b.0 of_b.1)
          (subst (λ (es : List Entry). StandsIn g es upper.after trail) halves.seen.1
          (only (StandsIn g b.seen upper.after) trail (upper.each g (is ∙ sym halves.base.1))))));
      named = All-push (λ (t : Trail). IsNameOf v t.by) trails trail
          (All-weaker (λ (t : Trail). IsNameOf a t.by) (λ (t : Trail). IsNameOf v t.by)
          (λ t named. (omega (arith, named.0, halves.low), omega (arith, named.1, halves.lower_end, mid.1))) trails lower.named)
          (omega (arith, of_b.0, halves.upper_low, mid.0), omega (arith, of_b.1, halves.end));
      distinct = all_pairs_push (λ (one other : Trail). one.by ≢ other.by) trails trail lower.distinct
          (λ k d within is.
          let named : IsNameOf a (get_or trails k d).by = lower.named k d within in
          omega (arith, named.1, of_b.0, halves.lower_end, halves.upper_low, is));
      callers = λ g is k d within named.
          either_half (v.low) (middle_of v.low v.end) v.end (get_or after k d).by trails trail
          (λ below. callers_of a.low a.end lower.after met.first.0 trails none_a (lower.callers g (is ∙ sym halves.base.0)) k d within (rw halves.low named.0, rw halves.lower_end below))
          (λ above.
          let within' : k < length (upper.after ++ met.second.0) = rw same within in
          let there : (get_or (upper.after ++ met.second.0) k d) ≡ get_or after k d = ap (λ (es : List Entry). get_or es k d) same in
          subst (λ (e : Entry). Any (λ (t : Trail). t.by ≡ e.by) (trail ∷ [])) there
          (callers_of b.low b.end upper.after met.second.0 (trail ∷ []) none_b (upper.callers g (is ∙ sym halves.base.1)) k d within'
          (rw (there, halves.upper_low) above, rw (there, halves.end) named.1)));
      legal = λ g is legal.
          let l : IsLegal g x.seen = lower.legal g (is ∙ sym halves.base.0) (rw halves.seen.0 legal) in
          let u : IsLegal g y.seen = upper.legal g (is ∙ sym halves.base.1) (rw halves.seen.1 legal) in
          rw met.seen (elim (longer_is x.seen y.seen) [ inl e ↦ rw e l | inr e ↦ rw e u ]);
      unworn = λ below. All-push (λ (t : Trail). IsUnworn t.replies) trails trail
          (lower.unworn (omega (arith, met.front.0, below)))
          (only (λ (t : Trail). IsUnworn t.replies) trail (upper.unworn (omega (arith, met.front.1, below))));
    }
