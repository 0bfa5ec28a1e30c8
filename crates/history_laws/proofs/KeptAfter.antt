-- What a ring keeps after a put or a read.
use Rattle.std.proofs.Common.{◌≡◌, ◌⊎◌, inl, inr, ℕ, ◌+◌, Bool, true, false, not, ◌&&◌, ◌||◌, List, [], ◌∷◌, ◌++◌, length, filter, map, refl, sym, ap, ◌∙◌}
use Rattle.std.proofs.lemmas.Bool.{cases_Bool, false≢true}
use Rattle.std.proofs.lemmas.List.Elements.{filter-append}
use Rattle.std.proofs.lemmas.List.Sums.{fold_push}
use Rattle.page_ring.specs.Account.{Account, Reading, account, accepts, after, is_taken, is_overrun, kept, nothing, reader_page, readings_from, readings_of, next_number, with_accepted, with_first_taken}
use Rattle.page_ring.specs.Cut.{Accepted, cut, next_page, with_record}
use Rattle.page_ring.specs.Events.{Event, Put, Take}
use Rattle.page_ring.specs.Laws.{is_kept}

pub account-push : (pages page_bytes : ℕ) (events : List Event) (e : Event)
    → account pages page_bytes (events ++ e ∷ []) ≡ after pages page_bytes (account pages page_bytes events) e
unfolding account
account-push pages page_bytes events e = fold_push (after pages page_bytes) nothing events e

pub cut-push : (page_bytes : ℕ) (accepted : List (List ℕ)) (bytes : List ℕ) → cut page_bytes (accepted ++ bytes ∷ []) ≡ with_record page_bytes (cut page_bytes accepted) bytes
unfolding cut
cut-push page_bytes accepted bytes = fold_push (with_record page_bytes) [] accepted bytes

-- ---- an accepted put

-- the record that is accepted next
abbrev pub next_record : ℕ → Account → List ℕ → Accepted
next_record page_bytes a bytes =
    let records = cut page_bytes a.accepted in
    record { number = length records; page = next_page page_bytes records (length bytes); bytes = bytes }

filter_within : {X : Type 0} (p q : X → Bool) → ((x : X) → p x ≡ true → q x ≡ true) → (xs : List X) → filter p (filter q xs) ≡ filter p xs
filter_within p q within [] = refl
filter_within p q within (x ∷ xs) =
    elim (cases_Bool (q x)) [
      | inl t ↦ elim (cases_Bool (p x)) [
        | inl u ↦ rw (t, u, filter_within p q within xs) refl
        | inr u ↦ rw (t, u, filter_within p q within xs) refl
      ]
      | inr f ↦ elim (cases_Bool (p x)) [
        | inl u ↦ absurd (false≢true (sym f ∙ within x u))
        | inr u ↦ rw (f, u, filter_within p q within xs) refl
      ]
    ]

kept-before : (taken lost over : Bool) → (not taken && not (lost || (over && not taken))) ≡ true → (not taken && not lost) ≡ true
kept-before true lost over h = h
kept-before false true over h = h
kept-before false false over h = refl

-- of what was kept, and the new record, what is kept then
pub kept-accepted : (pages page_bytes : ℕ) (a : Account) (bytes : List ℕ)
    → let b = with_accepted pages page_bytes a bytes in
    kept page_bytes b ≡ filter (is_kept b) (kept page_bytes a ++ next_record page_bytes a bytes ∷ [])
kept-accepted pages page_bytes a bytes =
    let b = with_accepted pages page_bytes a bytes in
    let records = cut page_bytes a.accepted in
    let new = next_record page_bytes a bytes in
    let over : Accepted → Bool = is_overrun pages (reader_page a) new.page in
    let olds : filter (is_kept b) records ≡ filter (is_kept b) (kept page_bytes a) =
    sym (filter_within (is_kept b) (is_kept a) (λ r. kept-before (is_taken a r) (a.lost r) (over r)) records) in
    ap (filter (is_kept b)) (cut-push page_bytes a.accepted bytes) ∙ filter-append (is_kept b) records (new ∷ [])
    ∙ ap (λ (rs : List Accepted). rs ++ filter (is_kept b) (new ∷ [])) olds ∙ sym (filter-append (is_kept b) (kept page_bytes a) (new ∷ []))

-- a put that is refused leaves what was kept, and one that is accepted some of it and of the new record
pub record IsLeft (page_bytes : ℕ) (a : Account) (bytes : List ℕ) (left : List Accepted) : Type 0 where
  pub test : Accepted → Bool
  pub is : left ≡ filter test (kept page_bytes a ++ next_record page_bytes a bytes ∷ [])

pub kept-put : (pages page_bytes : ℕ) (events : List Event) (bytes : List ℕ) (overwrite : Bool)
    → let before = account pages page_bytes events in
    let now = account pages page_bytes (events ++ Put bytes overwrite ∷ []) in
    (kept page_bytes now ≡ kept page_bytes before) ⊎ IsLeft page_bytes before bytes (kept page_bytes now)
kept-put pages page_bytes events bytes overwrite =
    let a = account pages page_bytes events in
    elim (cases_Bool (accepts pages page_bytes a bytes overwrite)) [
      | inl t ↦ inr (record {
        test = is_kept (with_accepted pages page_bytes a bytes);
        is = ap (kept page_bytes) (account-push pages page_bytes events (Put bytes overwrite)) ∙ rw t (kept-accepted pages page_bytes a bytes);
      })
      | inr f ↦ inl (ap (kept page_bytes) (account-push pages page_bytes events (Put bytes overwrite)) ∙ rw f refl)
    ]

-- ---- the bytes that are kept

readings_from-map : {A : Type 0} (f : List ℕ → A) (next : ℕ) (records : List Accepted)
    → map (λ (r : Reading). f r.rec) (readings_from next records) ≡ map (λ (r : Accepted). f r.bytes) records
readings_from-map f next [] = refl
readings_from-map f next (r ∷ records) = ap (λ l. f r.bytes ∷ l) (readings_from-map f (r.number + 1) records)

pub readings-map : {A : Type 0} (f : List ℕ → A) (pages page_bytes : ℕ) (events : List Event)
    → map (λ (r : Reading). f r.rec) (readings_of pages page_bytes events) ≡ map (λ (r : Accepted). f r.bytes) (kept page_bytes (account pages page_bytes events))
unfolding readings_of
readings-map f pages page_bytes events =
    let a = account pages page_bytes events in
    readings_from-map f (next_number a) (kept page_bytes a)

-- ---- what was taken

pub taken-put : (pages page_bytes : ℕ) (events : List Event) (bytes : List ℕ) (overwrite : Bool)
    → (account pages page_bytes (events ++ Put bytes overwrite ∷ [])).taken ≡ (account pages page_bytes events).taken
taken-put pages page_bytes events bytes overwrite =
    ap (λ (b : Account). b.taken) (account-push pages page_bytes events (Put bytes overwrite))
    ∙ elim (cases_Bool (accepts pages page_bytes (account pages page_bytes events) bytes overwrite)) [
      | inl t ↦ rw t refl
      | inr f ↦ rw f refl
    ]

-- the account after a read of the first record that is kept
pub read-is : (pages page_bytes : ℕ) (events : List Event) (rs : List Accepted) → kept page_bytes (account pages page_bytes events) ≡ rs
    → account pages page_bytes (events ++ Take ∷ []) ≡ with_first_taken (account pages page_bytes events) rs
read-is pages page_bytes events rs e = account-push pages page_bytes events Take ∙ ap (with_first_taken (account pages page_bytes events)) e
