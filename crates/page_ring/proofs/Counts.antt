-- What the statistics count.
use Rattle.std.proofs.Common.{zero-add, ◌≡◌, ℕ, ◌+◌, ◌<◌, ◌≤◌, ◌==◌, Bool, true, false, not, ◌&&◌, ◌||◌, cond, List, [], ◌∷◌, ◌++◌, length, take, filter, Some, refl, sym, ap, ◌∙◌, subst, inl, inr, arith, suc, length-append}
use Rattle.std.specs.List.{AllByRecursion, count_by, range_with_len, slice_get}
use Rattle.std.proofs.lemmas.Bool.{cases_Bool, false≢true, and_parts, ne_eqb, eqb-true, eq-eqb}
use Rattle.std.proofs.lemmas.List.{append_assoc, append-nil}
use Rattle.std.proofs.lemmas.List.Sums.{sum_by-cons, sum_by_push, sum_by-le-sum_by, length-filter}
use Rattle.std.proofs.lemmas.List.Elements.{All-from_recursion}
use Rattle.std.proofs.Math.Seq.{take-append_seam}
use Rattle.page_ring.specs.Events.{Event, Put, Take}
use Rattle.page_ring.specs.Cut.{Accepted, cut, next_page}
use Rattle.page_ring.specs.Account.{Account, account, nothing, after, kept, is_taken, accepts, with_accepted, with_first_taken, stats_of}
use Rattle.page_ring.specs.Sound.{IsRising}
use Rattle.page_ring.specs.Laws.{is_kept, is_refused, CountsAreOfRecords, DroppedAreRefused}
use Rattle.page_ring.proofs.Bridge.{IsFair, account-push, cut-push, is_cut, fold_keeps, fair_after, filter_filter, kept_after_read, list_any-push, not_taken}
use Rattle.page_ring.proofs.Losses.{none_from_filter}

-- two counts together are two others, where that is so at each element
pub counts_together : {X : Type 0} (p q p' q' : X → Bool) → ((x : X) → cond (p x) 1 0 + cond (q x) 1 0 ≡ cond (p' x) 1 0 + cond (q' x) 1 0) → (xs : List X) → count_by p xs + count_by q xs ≡ count_by p' xs + count_by q' xs
counts_together p q p' q' h [] = refl
counts_together {X = X} p q p' q' h (x ∷ xs) =
    let here = h x in
    let rest = counts_together p q p' q' h xs in
    let a = sum_by-cons (λ (y : X). cond (p y) 1 0) x xs in
    let b = sum_by-cons (λ (y : X). cond (q y) 1 0) x xs in
    let c = sum_by-cons (λ (y : X). cond (p' y) 1 0) x xs in
    let d = sum_by-cons (λ (y : X). cond (q' y) 1 0) x xs in
    omega arith

-- a test that passes where another does counts as much at least
pub count_by-more : {X : Type 0} (p q : X → Bool) → ((x : X) → p x ≡ true → q x ≡ true) → (xs : List X) → count_by p xs ≤ count_by q xs
count_by-more {X = X} p q h xs =
    sum_by-le-sum_by (λ (x : X). cond (p x) 1 0) (λ (x : X). cond (q x) 1 0) xs (λ x. elim (cases_Bool (p x)) [
      | inl t ↦ rw (t, h x t) (omega arith)
      | inr f ↦ rw f (omega arith)
    ])

-- of rising numbers none is below the first, and each is there once
pub none_below : (n low high : ℕ) (xs : List Accepted) → n < low → IsRising low high xs → count_by (λ x. n == x.number) xs ≡ 0
none_below n low high [] l h = refl
none_below n low high (x ∷ xs) l h =
    let k : low ≤ x.number = h.0 in
    sum_by-cons (λ (y : Accepted). cond (n == y.number) 1 0) x xs ∙ rw (ne_eqb n x.number (λ e. absurd (omega arith))) (omega (arith, none_below n (x.number + 1) high xs (omega arith) h.2))

pub once_at_most : (n low high : ℕ) (xs : List Accepted) → IsRising low high xs → count_by (λ x. n == x.number) xs ≤ 1
once_at_most n low high [] h = omega arith
once_at_most n low high (x ∷ xs) h =
    let step = sum_by-cons (λ (y : Accepted). cond (n == y.number) 1 0) x xs in
    elim (cases_Bool (n == x.number)) [
      | inl t ↦
          let same : n ≡ x.number = eqb-true n x.number t in
          let rest = none_below n (x.number + 1) high xs (omega arith) h.2 in
          let here : cond {A = ℕ} (n == x.number) 1 0 ≡ 1 = rw t refl in
          omega arith
      | inr f ↦
          let rest = once_at_most n (x.number + 1) high xs h.2 in
          let here : cond {A = ℕ} (n == x.number) 1 0 ≡ 0 = rw f refl in
          omega arith
    ]

-- what every account keeps: each accepted record is kept, lost or taken
pub record IsCounted (pages page_bytes : ℕ) (a : Account) : Type 0 where
  pub fair : IsFair pages page_bytes a
  pub parts : count_by (is_kept a) (cut page_bytes a.accepted) + count_by a.lost (cut page_bytes a.accepted) + length a.taken ≡ length a.accepted
  pub taken : count_by (is_taken a) (cut page_bytes a.accepted) ≡ length a.taken

pub kept_or_lost : (t l o : Bool) → cond (not t && not (l || (o && not t))) 1 0 + cond (l || (o && not t)) 1 0 ≡ cond (not t && not l) 1 0 + cond l 1 0
kept_or_lost true true o = refl
kept_or_lost true false true = refl
kept_or_lost true false false = refl
kept_or_lost false true o = refl
kept_or_lost false false true = refl
kept_or_lost false false false = refl

pub untaken_is_either : (t l : Bool) → t ≡ false → cond (not t && not l) 1 0 + cond l 1 0 ≡ 1
untaken_is_either t true e = rw e refl
untaken_is_either t false e = rw e refl

pub counted_accepted : (pages page_bytes : ℕ) (a : Account) (bytes : List ℕ) → IsFair pages page_bytes (with_accepted pages page_bytes a bytes) → IsCounted pages page_bytes a → IsCounted pages page_bytes (with_accepted pages page_bytes a bytes)
counted_accepted pages page_bytes a bytes fair h =
    let b = with_accepted pages page_bytes a bytes in
    let records = cut page_bytes a.accepted in
    let new : Accepted = record { number = length records; page = next_page page_bytes records (length bytes); bytes = bytes } in
    let pushed : cut page_bytes b.accepted ≡ records ++ new ∷ [] = cut-push page_bytes a.accepted bytes in
    let untaken : is_taken b new ≡ false = not_taken a (length a.accepted) new (is_cut page_bytes a.accepted).count a.taken h.fair.taken_before in
    let olds : count_by (is_kept b) records + count_by b.lost records ≡ count_by (is_kept a) records + count_by a.lost records =
    counts_together (is_kept b) b.lost (is_kept a) a.lost (λ r. kept_or_lost (is_taken a r) (a.lost r) _) records in
    let one : cond (is_kept b new) 1 0 + cond (b.lost new) 1 0 ≡ 1 = untaken_is_either (is_taken b new) (b.lost new) untaken in
    let none : cond {A = ℕ} (is_taken b new) 1 0 ≡ 0 = rw untaken refl in
    let kept_is = sum_by_push (λ (r : Accepted). cond (is_kept b r) 1 0) records new in
    let lost_is = sum_by_push (λ (r : Accepted). cond (b.lost r) 1 0) records new in
    let taken_is = sum_by_push (λ (r : Accepted). cond (is_taken b r) 1 0) records new in
    let was = h.parts in
    let took = h.taken in
    record {
      fair = fair;
      parts = rw (pushed, length-append) (omega arith);
      taken = rw pushed (omega arith);
    }

pub counted_taken : (pages page_bytes : ℕ) (a : Account) (r : Accepted) (rest : List Accepted) → kept page_bytes a ≡ r ∷ rest → IsFair pages page_bytes (record a { taken = a.taken ++ r ∷ [] }) → IsCounted pages page_bytes a → IsCounted pages page_bytes (record a { taken = a.taken ++ r ∷ [] })
counted_taken pages page_bytes a r rest e fair h =
    let b : Account = record a { taken = a.taken ++ r ∷ [] } in
    let records = cut page_bytes a.accepted in
    let this : Accepted → Bool = λ x. r.number == x.number in
    let new : Accepted → Bool = λ x. not (is_taken a x) && this x in
    let before : count_by (is_kept a) records ≡ length (r ∷ rest) = sym (length-filter (is_kept a) records) ∙ ap length e in
    let now : count_by (is_kept b) records ≡ length rest = sym (length-filter (is_kept b) records) ∙ ap length (kept_after_read page_bytes a r rest e) in
    let found : count_by (λ x. is_kept a x && this x) records ≡ suc (length (filter this rest)) =
    sym (length-filter (λ x. is_kept a x && this x) records) ∙ ap length (sym (filter_filter this (is_kept a) records)) ∙ ap (λ (xs : List Accepted). length (filter this xs)) e ∙ rw (eq-eqb r.number r.number refl) refl in
    let at_least : count_by (λ x. is_kept a x && this x) records ≤ count_by new records =
    count_by-more (λ x. is_kept a x && this x) new (λ x t. kept_is_untaken (is_taken a x) (a.lost x) (this x) t) records in
    let once : count_by this records ≤ 1 = once_at_most r.number 0 (length a.accepted) records (is_cut page_bytes a.accepted).rising in
    let at_most : count_by new records ≤ count_by this records = count_by-more new this (λ x t. (and_parts (not (is_taken a x)) (this x) t).1) records in
    let more : count_by (is_taken b) records + count_by (λ _. false) records ≡ count_by (is_taken a) records + count_by new records =
    counts_together (is_taken b) (λ _. false) (is_taken a) new (λ x. rw (list_any-push (λ t. t.number == x.number) a.taken r) (taken_or_this (is_taken a x) (this x))) records in
    let none = nothing_counts records in
    let was = h.parts in
    let took = h.taken in
    record {
      fair = fair;
      parts = rw length-append (omega arith);
      taken = rw length-append (omega arith);
    }
  where
    kept_is_untaken : (t l u : Bool) → ((not t && not l) && u) ≡ true → (not t && u) ≡ true
    kept_is_untaken true l u h = h
    kept_is_untaken false true u h = absurd (false≢true h)
    kept_is_untaken false false u h = h

    taken_or_this : (t u : Bool) → cond (t || u) 1 0 + cond false 1 0 ≡ cond t 1 0 + cond (not t && u) 1 0
    taken_or_this true u = refl
    taken_or_this false true = refl
    taken_or_this false false = refl

    nothing_counts : (xs : List Accepted) → count_by (λ _. false) xs ≡ 0
    nothing_counts [] = refl
    nothing_counts (x ∷ xs) = sum_by-cons (λ (_ : Accepted). cond false 1 0) x xs ∙ omega (arith, nothing_counts xs)

pub counted_after : (pages page_bytes : ℕ) (a : Account) (e : Event) → IsCounted pages page_bytes a → IsCounted pages page_bytes (after pages page_bytes a e)
counted_after pages page_bytes a (Put bytes overwrite) h =
    let fair = fair_after pages page_bytes a (Put bytes overwrite) h.fair in
    elim (cases_Bool (accepts pages page_bytes a bytes overwrite)) [
      | inl t ↦ rw t (counted_accepted pages page_bytes a bytes (rw t at fair) h)
      | inr f ↦ rw f (record { fair = rw f at fair; parts = h.parts; taken = h.taken })
    ]
counted_after pages page_bytes a Take h = read (kept page_bytes a) refl (fair_after pages page_bytes a Take h.fair)
  where
    read : (xs : List Accepted) → kept page_bytes a ≡ xs → IsFair pages page_bytes (with_first_taken a xs) → IsCounted pages page_bytes (with_first_taken a xs)
    read [] e fair = h
    read (r ∷ rest) e fair = counted_taken pages page_bytes a r rest e fair h

pub account_counted : (pages page_bytes : ℕ) (events : List Event) → IsCounted pages page_bytes (account pages page_bytes events)
unfolding account cut
account_counted pages page_bytes events =
    fold_keeps (IsCounted pages page_bytes) (after pages page_bytes) (counted_after pages page_bytes) nothing events (record {
      fair = record { taken_before = tt; lost_behind = λ r k. absurd (false≢true k) };
      parts = omega arith;
      taken = refl;
    })

-- no element passes both of two tests, where each passes one of them or a third
pub none_passes_both : {X : Type 0} (p q r both : X → Bool) → ((x : X) → cond (both x) 1 0 + 1 ≡ cond (p x) 1 0 + cond (q x) 1 0 + cond (r x) 1 0) → (xs : List X) → count_by both xs + length xs ≡ count_by p xs + count_by q xs + count_by r xs
none_passes_both p q r both h [] = refl
none_passes_both {X = X} p q r both h (x ∷ xs) =
    let here = h x in
    let rest = none_passes_both p q r both h xs in
    let a = sum_by-cons (λ (y : X). cond (p y) 1 0) x xs in
    let b = sum_by-cons (λ (y : X). cond (q y) 1 0) x xs in
    let c = sum_by-cons (λ (y : X). cond (r y) 1 0) x xs in
    let d = sum_by-cons (λ (y : X). cond (both y) 1 0) x xs in
    omega arith

pub taken_apart : (pages page_bytes : ℕ) (a : Account) → IsCounted pages page_bytes a → AllByRecursion (λ r. (is_taken a r && a.lost r) ≡ false) (cut page_bytes a.accepted)
taken_apart pages page_bytes a h =
    let records = cut page_bytes a.accepted in
    let both : Accepted → Bool = λ r. is_taken a r && a.lost r in
    let sums = none_passes_both (is_taken a) a.lost (is_kept a) both (λ r. one_of_three (is_taken a r) (a.lost r)) records in
    let count : length records ≡ length a.accepted = (is_cut page_bytes a.accepted).count in
    let parts = h.parts in
    let took = h.taken in
    let none : count_by both records ≡ 0 = omega arith in
    none_from_filter both records (length-filter both records ∙ none)
  where
    one_of_three : (t l : Bool) → cond (t && l) 1 0 + 1 ≡ cond t 1 0 + cond l 1 0 + cond (not t && not l) 1 0
    one_of_three true true = refl
    one_of_three true false = refl
    one_of_three false true = refl
    one_of_three false false = refl

-- the refused puts
abbrev pub refused_at : ℕ → ℕ → List Event → ℕ → Bool
refused_at pages page_bytes events i = is_refused pages page_bytes (take i events) (slice_get events i)

pub dropped_step : (pages page_bytes : ℕ) (done : List Event) (e : Event) → (account pages page_bytes (done ++ e ∷ [])).dropped ≡ (account pages page_bytes done).dropped + cond (is_refused pages page_bytes done (Some e)) 1 0
dropped_step pages page_bytes done (Put bytes overwrite) =
    elim (cases_Bool (accepts pages page_bytes (account pages page_bytes done) bytes overwrite)) [
      | inl t ↦ rw (account-push, t) (omega arith)
      | inr f ↦ rw (account-push, f) refl
    ]
dropped_step pages page_bytes done Take =
    let step = read (kept page_bytes (account pages page_bytes done)) in
    rw account-push (omega arith)
  where
    read : (xs : List Accepted) → (with_first_taken (account pages page_bytes done) xs).dropped ≡ (account pages page_bytes done).dropped
    read [] = refl
    read (x ∷ xs) = refl

pub slice_get-seam : {X : Type 0} (xs : List X) (y : X) (ys : List X) → slice_get (xs ++ y ∷ ys) (length xs) ≡ Some y
slice_get-seam [] y ys = refl
slice_get-seam (x ∷ xs) y ys = slice_get-seam xs y ys

pub dropped_from : (pages page_bytes : ℕ) (done later : List Event) → (account pages page_bytes (done ++ later)).dropped ≡ (account pages page_bytes done).dropped + count_by (refused_at pages page_bytes (done ++ later)) (range_with_len (length done) (length later))
dropped_from pages page_bytes done [] =
    ap (λ (es : List Event). (account pages page_bytes es).dropped) (append-nil done) ∙ omega arith
dropped_from pages page_bytes done (e ∷ later) =
    let regroup : (done ++ e ∷ []) ++ later ≡ done ++ e ∷ later = append_assoc done (e ∷ []) later in
    let P : List Event → Type 0 = λ es. (account pages page_bytes es).dropped ≡ (account pages page_bytes (done ++ e ∷ [])).dropped + count_by (refused_at pages page_bytes es) (range_with_len (length (done ++ e ∷ [])) (length later)) in
    let rest = rw length-append at (subst P regroup (dropped_from pages page_bytes (done ++ e ∷ []) later)) in
    let here : refused_at pages page_bytes (done ++ e ∷ later) (length done) ≡ is_refused pages page_bytes done (Some e) = rw (take-append_seam done (e ∷ later), slice_get-seam done e later) refl in
    let step = dropped_step pages page_bytes done e in
    let count = rw here at (sum_by-cons (λ (i : ℕ). cond (refused_at pages page_bytes (done ++ e ∷ later) i) 1 0) (length done) (range_with_len (length done + 1) (length later))) in
    omega arith

pub dropped_are_refused : DroppedAreRefused
unfolding stats_of account
dropped_are_refused pages page_bytes events =
    dropped_from pages page_bytes [] events ∙ zero-add (count_by (refused_at pages page_bytes events) (range_with_len 0 (length events)))

pub counts_are_of_records : CountsAreOfRecords
unfolding stats_of
counts_are_of_records pages page_bytes events =
    let a = account pages page_bytes events in
    let h = account_counted pages page_bytes events in
    let records = cut page_bytes a.accepted in
    let parts = h.parts in
    let entries : length (kept page_bytes a) ≡ count_by (is_kept a) records = length-filter (is_kept a) records in
    record {
      entries = entries;
      bytes = refl;
      overrun = omega arith;
      read = sym h.taken;
      apart = All-from_recursion (λ (r : Accepted). (is_taken a r && a.lost r) ≡ false) records (taken_apart pages page_bytes a h);
    }
