-- The cut is greedy.
use Rattle.std.proofs.Common.{◌≡◌, ℕ, zero, suc, ◌+◌, ◌<◌, ◌≤◌, ◌⊎◌, List, [], ◌∷◌, ◌++◌, length, take, fold, Some, refl, sym, ap, ◌∙◌, subst, inl, inr, arith}
use Rattle.std.specs.List.{AllByRecursion, slice_get}
use Rattle.std.proofs.lemmas.Bool.{le-leb, lt-leb}
use Rattle.std.proofs.lemmas.List.{map-append, append_assoc, append-nil, take_all, take-append-le}
use Rattle.std.proofs.lemmas.List.Elements.{recursion_from_All}
use Rattle.std.proofs.lemmas.Option.{slice_get_within}
use Rattle.page_ring.specs.Cut.{Accepted, cut, with_record, next_page, last_page, filled}
use Rattle.page_ring.specs.Laws.{IsGreedy, CutIsGreedy}

pub slice_get-push : {X : Type 0} (xs : List X) (y : X) (i : ℕ) (r : X) → slice_get (xs ++ y ∷ []) i ≡ Some r → (slice_get xs i ≡ Some r) ⊎ ((i ≡ length xs) × (r ≡ y))
slice_get-push [] y zero r h = inr (refl, (cc))
slice_get-push [] y (suc i) r h = absurd (cc)
slice_get-push (x ∷ xs) y zero r h = inl h
slice_get-push (x ∷ xs) y (suc i) r h =
    elim (slice_get-push xs y i r h) [
      | inl e ↦ inl e
      | inr e ↦ inr (ap suc e.0, e.1)
    ]

-- the last place
pub last_at : (a : ℕ) (xs : List Accepted) (i : ℕ) (r : Accepted) → slice_get xs i ≡ Some r → i + 1 ≡ length xs → fold (λ (_ : ℕ) (x : Accepted). x.page) a xs ≡ r.page
last_at a [] i r h e = absurd (cc)
last_at a (x ∷ []) zero r h e = let same : x ≡ r = (cc) in ap (λ (y : Accepted). y.page) same
last_at a (x ∷ y ∷ ys) zero r h e = absurd (omega arith)
last_at a (x ∷ xs) (suc i) r h e = last_at x.page xs i r h (omega arith)

pub page-fits : (page_bytes : ℕ) (records : List Accepted) (size page : ℕ) → last_page records ≡ page → filled page records + size ≤ page_bytes → next_page page_bytes records size ≡ page
page-fits page_bytes records size page e h = rw (e, le-leb _ _ h) refl

pub page-next : (page_bytes : ℕ) (records : List Accepted) (size page : ℕ) → last_page records ≡ page → page_bytes < filled page records + size → next_page page_bytes records size ≡ page + 1
page-next page_bytes records size page e h = rw (e, lt-leb _ _ h) refl

pub greedy-push : (page_bytes : ℕ) (done : List (List ℕ)) (records : List Accepted) (bytes : List ℕ) → length bytes ≤ page_bytes → IsGreedy page_bytes done records → IsGreedy page_bytes (done ++ bytes ∷ []) (with_record page_bytes records bytes)
greedy-push page_bytes done records bytes fits h =
    let new : Accepted = record { number = length records; page = next_page page_bytes records (length bytes); bytes = bytes } in
    record {
      bytes = map-append (λ (r : Accepted). r.bytes) records (new ∷ []) ∙ ap (λ (xs : List (List ℕ)). xs ++ bytes ∷ []) h.bytes;
      number = λ i r e. elim (slice_get-push records new i r e) [
        | inl old ↦ h.number i r old
        | inr it ↦ ap (λ (x : Accepted). x.number) it.1 ∙ sym it.0
      ];
      begins = λ r e. elim (slice_get-push records new 0 r e) [
        | inl old ↦ h.begins r old
        | inr it ↦ ap (λ (x : Accepted). x.page) it.1 ∙ first_page page_bytes records (length bytes) (sym it.0) fits
      ];
      same_page = λ i r s e f l. elim (slice_get-push records new (i + 1) s f) [
        | inl old ↦
            let inside = slice_get_within records (i + 1) s old in
            let same : take (i + 1) (records ++ new ∷ []) ≡ take (i + 1) records = take-append-le (i + 1) records (new ∷ []) (omega arith) in
            h.same_page i r s (before_last page_bytes records new i r e (omega arith)) old (rw same at l)
        | inr it ↦
            let end : i + 1 ≡ length records = it.0 in
            let at : slice_get records i ≡ Some r = before_last page_bytes records new i r e (omega arith) in
            let all : take (i + 1) (records ++ new ∷ []) ≡ records = take-append-le (i + 1) records (new ∷ []) (omega arith) ∙ take_all (i + 1) records (omega arith) in
            let size : length s.bytes ≡ length bytes = ap (λ (x : Accepted). length x.bytes) it.1 in
            ap (λ (x : Accepted). x.page) it.1 ∙ page-fits page_bytes records (length bytes) r.page (last_at 0 records i r at end) (rw (all, size) at l)
      ];
      next_page = λ i r s e f l. elim (slice_get-push records new (i + 1) s f) [
        | inl old ↦
            let inside = slice_get_within records (i + 1) s old in
            let same : take (i + 1) (records ++ new ∷ []) ≡ take (i + 1) records = take-append-le (i + 1) records (new ∷ []) (omega arith) in
            h.next_page i r s (before_last page_bytes records new i r e (omega arith)) old (rw same at l)
        | inr it ↦
            let end : i + 1 ≡ length records = it.0 in
            let at : slice_get records i ≡ Some r = before_last page_bytes records new i r e (omega arith) in
            let all : take (i + 1) (records ++ new ∷ []) ≡ records = take-append-le (i + 1) records (new ∷ []) (omega arith) ∙ take_all (i + 1) records (omega arith) in
            let size : length s.bytes ≡ length bytes = ap (λ (x : Accepted). length x.bytes) it.1 in
            ap (λ (x : Accepted). x.page) it.1 ∙ page-next page_bytes records (length bytes) r.page (last_at 0 records i r at end) (rw (all, size) at l)
      ];
    }
  where
    first_page : (page_bytes : ℕ) (records : List Accepted) (size : ℕ) → length records ≡ 0 → size ≤ page_bytes → next_page page_bytes records size ≡ 0
    first_page page_bytes [] size e l = page-fits page_bytes [] size 0 refl (omega arith)
    first_page page_bytes (x ∷ xs) size e l = absurd (omega arith)

    before_last : (page_bytes : ℕ) (records : List Accepted) (new : Accepted) (i : ℕ) (r : Accepted) → slice_get (records ++ new ∷ []) i ≡ Some r → i < length records → slice_get records i ≡ Some r
    before_last page_bytes records new i r e l =
        elim (slice_get-push records new i r e) [
          | inl old ↦ old
          | inr it ↦ let end : i ≡ length records = it.0 in absurd (omega arith)
        ]

pub greedy_from : (page_bytes : ℕ) (done : List (List ℕ)) (records : List Accepted) (accepted : List (List ℕ)) → AllByRecursion (λ bytes. length bytes ≤ page_bytes) accepted → IsGreedy page_bytes done records → IsGreedy page_bytes (done ++ accepted) (fold (with_record page_bytes) records accepted)
greedy_from page_bytes done records [] fit h =
    let P : List (List ℕ) → Type 0 = λ xs. IsGreedy page_bytes xs records in
    subst P (sym (append-nil done)) h
greedy_from page_bytes done records (x ∷ xs) fit h =
    let P : List (List ℕ) → Type 0 = λ ys. IsGreedy page_bytes ys (fold (with_record page_bytes) (with_record page_bytes records x) xs) in
    subst P (append_assoc done (x ∷ []) xs) (greedy_from page_bytes (done ++ x ∷ []) (with_record page_bytes records x) xs fit.1 (greedy-push page_bytes done records x fit.0 h))

pub cut_is_greedy : CutIsGreedy
unfolding cut
cut_is_greedy page_bytes accepted fit =
    greedy_from page_bytes [] [] accepted (recursion_from_All (λ (bytes : List ℕ). length bytes ≤ page_bytes) accepted fit) (record {
      bytes = refl;
      number = λ i r e. absurd (cc);
      begins = λ r e. absurd (cc);
      same_page = λ i r s e f l. absurd (cc);
      next_page = λ i r s e f l. absurd (cc);
    })
