-- The step over the visible facts is what the definitions say.
use Rattle.std.proofs.Common.{zero-add, ◌≡◌, ℕ, ◌+◌, ◌<◌, ◌≤◌, ◌==◌, nat_le, Bool, true, false, not, ◌&&◌, ◌||◌, if◌then◌else◌, List, [], ◌∷◌, ◌++◌, length, fold, filter, refl, sym, ap, ◌∙◌, subst, inl, inr, arith, length-append}
use Rattle.std.specs.List.{AllByRecursion, list_any}
use Rattle.std.proofs.lemmas.Bool.{cases_Bool, lt-leb, leb-true, ne_eqb, eq-eqb, or_cases, and_parts, or_from, false≢true, false_from_ne_true, and_left}
use Rattle.std.proofs.lemmas.List.Sums.{fold_push, sum_by_push, sum_by-cons}
use Rattle.std.proofs.lemmas.List.Elements.{filter-append}
use Rattle.page_ring.specs.Events.{Event, Put, Take}
use Rattle.page_ring.specs.Cut.{Accepted, cut, with_record, next_page, last_page, filled}
use Rattle.page_ring.specs.Account.{Account, account, after, nothing, kept, is_taken, is_overrun, reader_page, with_accepted, with_first_taken, accepts}
use Rattle.page_ring.specs.Shown.{shown_by}
use Rattle.page_ring.specs.private.Step.{after_put, with_kept, without_first, without_first_of}
use Rattle.page_ring.specs.Sound.{IsRising}
use Rattle.page_ring.proofs.PageFacts.{all_weaker, all_append, rising_push, rising_filter}

-- what each step keeps, the fold keeps
pub fold_keeps : {A B : Type 0} (P : B → Type 0) (f : B → A → B) → ((b : B) (x : A) → P b → P (f b x)) → (b : B) (xs : List A) → P b → P (fold f b xs)
fold_keeps P f step b [] h = h
fold_keeps P f step b (x ∷ xs) h = fold_keeps P f step (f b x) xs (step b x h)

-- a list of records as the cut makes it: numbered from 0 without gaps, and no page is beyond the last one's
pub record IsCut (n : ℕ) (records : List Accepted) : Type 0 where
  pub count : length records ≡ n
  pub rising : IsRising 0 n records
  pub pages : AllByRecursion (λ r. r.page ≤ last_page records) records

pub last_page-push : (records : List Accepted) (r : Accepted) → last_page (records ++ r ∷ []) ≡ r.page
last_page-push records r = fold_push (λ (_ : ℕ) (x : Accepted). x.page) 0 records r

pub next_page-ge : (page_bytes : ℕ) (records : List Accepted) (size : ℕ) → last_page records ≤ next_page page_bytes records size
next_page-ge page_bytes records size =
    elim (cases_Bool (nat_le (filled (last_page records) records + size) page_bytes)) [
      | inl t ↦ rw t (omega arith)
      | inr f ↦ rw f (omega arith)
    ]

pub is_cut-push : (page_bytes n : ℕ) (records : List Accepted) (bytes : List ℕ) → IsCut n records → IsCut (n + 1) (with_record page_bytes records bytes)
is_cut-push page_bytes n records bytes h =
    let page = next_page page_bytes records (length bytes) in
    let new : Accepted = record { number = length records; page = page; bytes = bytes } in
    let ge = next_page-ge page_bytes records (length bytes) in
    let last = last_page-push records new in
    let count : length records ≡ n = h.count in
    record {
      count = rw length-append (omega arith);
      rising = rising_push 0 n new records (omega arith) h.count h.rising;
      pages = rw last (all_append _ records (new ∷ []) (all_weaker _ _ (λ r k. omega arith) records h.pages) (omega arith, tt));
    }

pub is_cut_from : (page_bytes n : ℕ) (records : List Accepted) (accepted : List (List ℕ)) → IsCut n records → IsCut (n + length accepted) (fold (with_record page_bytes) records accepted)
is_cut_from page_bytes n records [] h = let P : ℕ → Type 0 = λ m. IsCut m records in let e : n ≡ n + 0 = omega arith in subst P e h
is_cut_from page_bytes n records (x ∷ xs) h =
    let P : ℕ → Type 0 = λ m. IsCut m (fold (with_record page_bytes) (with_record page_bytes records x) xs) in
    let e : n + 1 + length xs ≡ n + length (x ∷ xs) = omega arith in
    subst P e (is_cut_from page_bytes (n + 1) (with_record page_bytes records x) xs (is_cut-push page_bytes n records x h))

pub is_cut : (page_bytes : ℕ) (accepted : List (List ℕ)) → IsCut (length accepted) (cut page_bytes accepted)
unfolding cut
is_cut page_bytes accepted =
    let P : ℕ → Type 0 = λ m. IsCut m (fold (with_record page_bytes) [] accepted) in
    let e : 0 + length accepted ≡ length accepted = omega arith in
    subst P e (is_cut_from page_bytes 0 [] accepted (record { count = refl; rising = tt; pages = tt }))

pub cut-push : (page_bytes : ℕ) (accepted : List (List ℕ)) (bytes : List ℕ) → cut page_bytes (accepted ++ bytes ∷ []) ≡ with_record page_bytes (cut page_bytes accepted) bytes
unfolding cut
cut-push page_bytes accepted bytes = fold_push (with_record page_bytes) [] accepted bytes

-- what every account keeps: taken records were accepted, and what is lost lies a round behind the last page
pub record IsFair (pages page_bytes : ℕ) (a : Account) : Type 0 where
  pub taken_before : AllByRecursion (λ t. t.number < length a.accepted) a.taken
  pub lost_behind : (r : Accepted) → a.lost r ≡ true → r.page + pages ≤ last_page (cut page_bytes a.accepted)

pub filter_filter : {X : Type 0} (p q : X → Bool) (xs : List X) → filter p (filter q xs) ≡ filter (λ x. q x && p x) xs
filter_filter p q [] = refl
filter_filter p q (x ∷ xs) =
    elim (cases_Bool (q x)) [
      | inl t ↦ rw (t, filter_filter p q xs) refl
      | inr f ↦ rw f (filter_filter p q xs)
    ]

pub filter_same : {X : Type 0} (p q : X → Bool) → ((x : X) → p x ≡ q x) → (xs : List X) → filter p xs ≡ filter q xs
filter_same p q h [] = refl
filter_same p q h (x ∷ xs) = rw (h x, filter_same p q h xs) refl

-- kept before and not overrun
pub kept_test : (taken lost overrun : Bool) → not taken && not (lost || (overrun && not taken)) ≡ (not taken && not lost) && not overrun
kept_test true lost overrun = refl
kept_test false true overrun = refl
kept_test false false true = refl
kept_test false false false = refl

-- a record that wasn't accepted wasn't taken
pub not_taken : (a : Account) (n : ℕ) (r : Accepted) → r.number ≡ n → (ts : List Accepted) → AllByRecursion (λ t. t.number < n) ts → list_any (λ t. t.number == r.number) ts ≡ false
not_taken a n r e [] h = refl
not_taken a n r e (t ∷ ts) h =
    let l : t.number < n = h.0 in
    or_from _ _ (ne_eqb t.number r.number (λ k. absurd (omega arith))) (not_taken a n r e ts h.1)

-- no record lies on a page beyond the last one
pub filled_beyond : (page : ℕ) (records : List Accepted) → AllByRecursion (λ r. r.page < page) records → filled page records ≡ 0
filled_beyond page [] h = refl
filled_beyond page (x ∷ xs) h =
    let l : x.page < page = h.0 in
    sum_by-cons (λ (r : Accepted). if r.page == page then length r.bytes else 0) x xs ∙ rw (ne_eqb x.page page (λ e. absurd (omega arith))) (zero-add (filled page xs) ∙ filled_beyond page xs h.1)

pub filled-push : (page : ℕ) (records : List Accepted) (r : Accepted) → r.page ≡ page → filled page (records ++ r ∷ []) ≡ filled page records + length r.bytes
filled-push page records r e =
    sum_by_push (λ (x : Accepted). if x.page == page then length x.bytes else 0) records r ∙ rw (eq-eqb r.page page e) refl

pub all_below : (records : List Accepted) (n : ℕ) → AllByRecursion (λ r. r.page ≤ n) records → AllByRecursion (λ r. r.page < n + 1) records
all_below records n h = all_weaker _ _ (λ r k. omega arith) records h

-- what lies on the page before the record comes
pub filled_on_page : (page_bytes n : ℕ) (records : List Accepted) (size : ℕ) → IsCut n records → filled (next_page page_bytes records size) records ≡ (if nat_le (filled (last_page records) records + size) page_bytes then filled (last_page records) records else 0)
filled_on_page page_bytes n records size is =
    elim (cases_Bool (nat_le (filled (last_page records) records + size) page_bytes)) [
      | inl t ↦ rw t refl
      | inr f ↦ rw f (filled_beyond (last_page records + 1) records (all_below records (last_page records) is.pages))
    ]

-- of the records kept before, those that aren't overrun are kept after
pub kept_olds : (pages page_bytes : ℕ) (a : Account) (bytes : List ℕ) → let b = with_accepted pages page_bytes a bytes in filter (λ r. not (is_taken b r) && not (b.lost r)) (cut page_bytes a.accepted) ≡ filter (λ r. not (is_overrun pages (reader_page a) (next_page page_bytes (cut page_bytes a.accepted) (length bytes)) r)) (kept page_bytes a)
kept_olds pages page_bytes a bytes =
    let records = cut page_bytes a.accepted in
    let over : Accepted → Bool = is_overrun pages (reader_page a) (next_page page_bytes records (length bytes)) in
    let test : Accepted → Bool = λ r. not (is_taken a r) && not (a.lost r) in
    filter_same _ (λ r. test r && not (over r)) (λ r. kept_test (is_taken a r) (a.lost r) (over r)) records ∙ sym (filter_filter (λ r. not (over r)) test records)

pub shown_after_accepted : (pages page_bytes : ℕ) (a : Account) (bytes : List ℕ) → 0 < pages → IsFair pages page_bytes a → shown_by page_bytes (with_accepted pages page_bytes a bytes) ≡ with_kept pages page_bytes (shown_by page_bytes a) bytes
unfolding shown_by
shown_after_accepted pages page_bytes a bytes some fair =
    let records = cut page_bytes a.accepted in
    let page = next_page page_bytes records (length bytes) in
    let new : Accepted = record { number = length records; page = page; bytes = bytes } in
    let is = is_cut page_bytes a.accepted in
    let b = with_accepted pages page_bytes a bytes in
    let ov : Accepted → Bool = is_overrun pages (reader_page a) page in
    let new_test : Accepted → Bool = λ r. not (is_taken b r) && not (b.lost r) in
    let ge = next_page-ge page_bytes records (length bytes) in
    let untaken : is_taken a new ≡ false = not_taken a (length a.accepted) new is.count a.taken fair.taken_before in
    let unlost : a.lost new ≡ false = false_from_ne_true (a.lost new) (λ k. let far = fair.lost_behind new k in absurd (omega arith)) in
    let near : ov new ≡ false = and_left _ _ (lt-leb (page + pages) page (omega arith)) in
    let passes : new_test new ≡ true = rw (untaken, unlost, near) refl in
    let pushed : cut page_bytes b.accepted ≡ records ++ new ∷ [] = cut-push page_bytes a.accepted bytes in
    let kept_is : kept page_bytes b ≡ filter (λ r. not (ov r)) (kept page_bytes a) ++ record { number = length a.accepted; page = page; bytes = bytes } ∷ [] =
    ap (filter new_test) pushed ∙ filter-append new_test records (new ∷ []) ∙ rw (kept_olds pages page_bytes a bytes, passes) (ap (λ (n : ℕ). filter (λ r. not (ov r)) (kept page_bytes a) ++ record { number = n; page = page; bytes = bytes } ∷ []) is.count) in
    let last_is : last_page (cut page_bytes b.accepted) ≡ page = ap last_page pushed ∙ last_page-push records new in
    let filled_is : filled page (records ++ new ∷ []) ≡ (if nat_le (filled (last_page records) records + length bytes) page_bytes then filled (last_page records) records else 0) + length bytes =
    filled-push page records new refl ∙ ap (λ (n : ℕ). n + length bytes) (filled_on_page page_bytes (length a.accepted) records (length bytes) is) in
    let last_filled_is : filled (last_page (cut page_bytes b.accepted)) (cut page_bytes b.accepted) ≡ (if nat_le (filled (last_page records) records + length bytes) page_bytes then filled (last_page records) records else 0) + length bytes =
    ap (λ (n : ℕ). filled n (cut page_bytes b.accepted)) last_is ∙ ap (filled page) pushed ∙ filled_is in
    rw (kept_is, last_filled_is, last_is, length-append) refl

pub shown_after_put : (pages page_bytes : ℕ) (a : Account) (bytes : List ℕ) (overwrite : Bool) → 0 < pages → IsFair pages page_bytes a → shown_by page_bytes (after pages page_bytes a (Put bytes overwrite)) ≡ after_put pages page_bytes (shown_by page_bytes a) bytes overwrite
unfolding after_put shown_by
shown_after_put pages page_bytes a bytes overwrite some fair =
    elim (cases_Bool (accepts pages page_bytes a bytes overwrite)) [
      | inl t ↦ rw t (shown_after_accepted pages page_bytes a bytes some fair)
      | inr f ↦ rw f refl
    ]

-- a read of the first kept record: the others stay
pub others_stay : (n low high : ℕ) (xs : List Accepted) → n < low → IsRising low high xs → filter (λ x. not (n == x.number)) xs ≡ xs
others_stay n low high [] l h = refl
others_stay n low high (x ∷ xs) l h =
    let k : low ≤ x.number = h.0 in
    rw (ne_eqb n x.number (λ e. absurd (omega arith)), others_stay n (x.number + 1) high xs (omega arith) h.2) refl

pub list_any-push : {X : Type 0} (p : X → Bool) (xs : List X) (y : X) → list_any p (xs ++ y ∷ []) ≡ list_any p xs || p y
list_any-push p [] y =
    elim (cases_Bool (p y)) [
      | inl t ↦ rw t refl
      | inr f ↦ rw f refl
    ]
list_any-push p (x ∷ xs) y =
    elim (cases_Bool (p x)) [
      | inl t ↦ rw t refl
      | inr f ↦ rw f (list_any-push p xs y)
    ]

pub taken_test : (taken this lost : Bool) → not (taken || this) && not lost ≡ (not taken && not lost) && not this
taken_test true this lost = refl
taken_test false true true = refl
taken_test false true false = refl
taken_test false false true = refl
taken_test false false false = refl

pub kept_rising : (page_bytes : ℕ) (a : Account) → IsRising 0 (length a.accepted) (kept page_bytes a)
kept_rising page_bytes a = rising_filter _ 0 (length a.accepted) (cut page_bytes a.accepted) (is_cut page_bytes a.accepted).rising

pub kept_after_read : (page_bytes : ℕ) (a : Account) (r : Accepted) (rest : List Accepted) → kept page_bytes a ≡ r ∷ rest → kept page_bytes (record a { taken = a.taken ++ r ∷ [] }) ≡ rest
kept_after_read page_bytes a r rest e =
    let Rising : List Accepted → Type 0 = IsRising 0 (length a.accepted) in
    let rising = subst Rising e (kept_rising page_bytes a) in
    let same = filter_same (λ x. not (is_taken (record a { taken = a.taken ++ r ∷ [] }) x) && not (a.lost x)) (λ x. (not (is_taken a x) && not (a.lost x)) && not (r.number == x.number)) (λ x. rw (list_any-push (λ t. t.number == x.number) a.taken r) (taken_test (is_taken a x) (r.number == x.number) (a.lost x))) (cut page_bytes a.accepted) in
    same ∙ sym (filter_filter (λ x. not (r.number == x.number)) (λ x. not (is_taken a x) && not (a.lost x)) (cut page_bytes a.accepted))
    ∙ ap (filter (λ x. not (r.number == x.number))) e
    ∙ rw (eq-eqb r.number r.number refl) (others_stay r.number (r.number + 1) (length a.accepted) rest (omega arith) rising.2)

pub shown_after_read : (page_bytes : ℕ) (a : Account) (xs : List Accepted) → kept page_bytes a ≡ xs → shown_by page_bytes (with_first_taken a xs) ≡ without_first_of (shown_by page_bytes a) xs
unfolding shown_by
shown_after_read page_bytes a [] e = refl
shown_after_read page_bytes a (r ∷ rest) e =
    rw (kept_after_read page_bytes a r rest e, fold_push, fold_push, length-append) refl

pub shown_after_take : (pages page_bytes : ℕ) (a : Account) → shown_by page_bytes (after pages page_bytes a Take) ≡ without_first (shown_by page_bytes a)
unfolding without_first shown_by
shown_after_take pages page_bytes a = unfold shown_by in shown_after_read page_bytes a (kept page_bytes a) refl

-- every account is fair
pub fair_after : (pages page_bytes : ℕ) (a : Account) (e : Event) → IsFair pages page_bytes a → IsFair pages page_bytes (after pages page_bytes a e)
fair_after pages page_bytes a (Put bytes overwrite) fair =
    elim (cases_Bool (accepts pages page_bytes a bytes overwrite)) [
      | inl t ↦ rw t (fair_accepted pages page_bytes a bytes fair)
      | inr f ↦ rw f (record { taken_before = fair.taken_before; lost_behind = fair.lost_behind })
    ]
  where
    fair_accepted : (pages page_bytes : ℕ) (a : Account) (bytes : List ℕ) → IsFair pages page_bytes a → IsFair pages page_bytes (with_accepted pages page_bytes a bytes)
    fair_accepted pages page_bytes a bytes fair =
        let records = cut page_bytes a.accepted in
        let page = next_page page_bytes records (length bytes) in
        let ge = next_page-ge page_bytes records (length bytes) in
        let last : last_page (cut page_bytes (a.accepted ++ bytes ∷ [])) ≡ page = ap last_page (cut-push page_bytes a.accepted bytes) ∙ last_page-push records _ in
        record {
          taken_before = rw length-append (all_weaker _ _ (λ t k. omega arith) a.taken fair.taken_before);
          lost_behind = λ r k. rw last (elim (or_cases (a.lost r) _ k) [
            | inl was ↦ let far = fair.lost_behind r was in omega arith
            | inr now ↦ leb-true (r.page + pages) page (and_parts _ _ (and_parts _ _ now).0).0
          ]);
        }
fair_after pages page_bytes a Take fair = fair_read (kept page_bytes a) (kept_rising page_bytes a)
  where
    fair_read : (xs : List Accepted) → IsRising 0 (length a.accepted) xs → IsFair pages page_bytes (with_first_taken a xs)
    fair_read [] h = fair
    fair_read (r ∷ rest) h = record {
      taken_before = all_append _ a.taken (r ∷ []) fair.taken_before (h.1, tt);
      lost_behind = fair.lost_behind;
    }

pub account_fair : (pages page_bytes : ℕ) (events : List Event) → IsFair pages page_bytes (account pages page_bytes events)
unfolding account
account_fair pages page_bytes events =
    fold_keeps (IsFair pages page_bytes) (after pages page_bytes) (fair_after pages page_bytes) nothing events (record { taken_before = tt; lost_behind = λ r k. absurd (false≢true k) })

pub account-push : (pages page_bytes : ℕ) (events : List Event) (e : Event) → account pages page_bytes (events ++ e ∷ []) ≡ after pages page_bytes (account pages page_bytes events) e
unfolding account
account-push pages page_bytes events e = fold_push (after pages page_bytes) nothing events e
