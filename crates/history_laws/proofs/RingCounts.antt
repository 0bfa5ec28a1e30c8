-- What the counts of a ring come to: each record that was put is one of those they count.
use Rattle.std.proofs.Common.{◌≡◌, ℕ, ◌+◌, ◌≤◌, Bool, true, false, not, ◌&&◌, cond, List, [], ◌∷◌, ◌++◌, length, replicate, zero, suc, refl, ◌∙◌, arith, length-append}
use Rattle.std.specs.List.{AllByRecursion, count_by, fold}
use Rattle.std.proofs.lemmas.List.Elements.{recursion_from_All}
use Rattle.std.proofs.lemmas.List.Sums.{sum_by-cons, sum_by-append}
use Rattle.page_ring.specs.Account.{Account, account, is_taken, kept, stats_of}
use Rattle.page_ring.specs.Cut.{Accepted, cut, with_record}
use Rattle.page_ring.specs.Events.{Event, Take}
use Rattle.page_ring.specs.Laws.{is_put, is_kept, OfferedIsPuts, CountsAreOfRecords}
use Rattle.page_ring.specs.Shown.{Seen, StandsFor, shown_by}
use Rattle.history_laws.specs.AccountedFor.{counted}

-- ---- each accepted record is kept, lost or taken

length-fold_cut : (page_bytes : ℕ) (records : List Accepted) (accepted : List (List ℕ))
    → length (fold (with_record page_bytes) records accepted) ≡ length records + length accepted
length-fold_cut page_bytes records [] = omega arith
length-fold_cut page_bytes records (bytes ∷ accepted) =
    let one : length (with_record page_bytes records bytes) ≡ length records + 1 = rw length-append (omega arith) in
    length-fold_cut page_bytes (with_record page_bytes records bytes) accepted ∙ omega (arith, one)

pub length-cut : (page_bytes : ℕ) (accepted : List (List ℕ)) → length (cut page_bytes accepted) ≡ length accepted
unfolding cut
length-cut page_bytes accepted = length-fold_cut page_bytes [] accepted ∙ omega arith

one-way : (t l : Bool) → (t && l) ≡ false → cond (not t && not l) 1 0 + cond l 1 0 + cond t 1 0 ≡ 1
one-way true true apart = absurd (cc)
one-way true false apart = refl
one-way false true apart = refl
one-way false false apart = refl

three-ways : (a : Account) (records : List Accepted) → AllByRecursion (λ r. (is_taken a r && a.lost r) ≡ false) records
    → count_by (is_kept a) records + count_by a.lost records + count_by (is_taken a) records ≡ length records
three-ways a [] apart = refl
three-ways a (r ∷ records) apart =
    let here = one-way (is_taken a r) (a.lost r) apart.0 in
    let rest = three-ways a records apart.1 in
    let kept = sum_by-cons (λ (x : Accepted). cond (is_kept a x) 1 0) r records in
    let lost = sum_by-cons (λ (x : Accepted). cond (a.lost x) 1 0) r records in
    let taken = sum_by-cons (λ (x : Accepted). cond (is_taken a x) 1 0) r records in
    omega (arith, here, rest, kept, lost, taken)

-- ---- and each put is accepted or dropped

offered-puts : OfferedIsPuts → (pages page_bytes : ℕ) (events : List Event)
    → let a = account pages page_bytes events in length a.accepted + a.dropped ≡ count_by is_put events
unfolding StandsFor shown_by
offered-puts puts pages page_bytes events =
    let ring : Seen = record { pages = pages; page_bytes = page_bytes; shown = shown_by page_bytes (account pages page_bytes events) } in
    puts ring events refl

-- those kept and consumed were accepted
pub kept-few : CountsAreOfRecords → (pages page_bytes : ℕ) (events : List Event)
    → let a = account pages page_bytes events in length (kept page_bytes a) + length a.taken ≤ length a.accepted
unfolding stats_of
kept-few counts pages page_bytes events =
    let a = account pages page_bytes events in
    let records = cut page_bytes a.accepted in
    let c = counts pages page_bytes events in
    let all = three-ways a records (recursion_from_All (λ (r : Accepted). (is_taken a r && a.lost r) ≡ false) records c.apart) in
    omega (arith, c.entries, c.read, all, length-cut page_bytes a.accepted)

stats-dropped : (pages page_bytes : ℕ) (events : List Event) → (stats_of pages page_bytes events).dropped ≡ (account pages page_bytes events).dropped
unfolding stats_of
stats-dropped pages page_bytes events = refl

pub counted-puts : OfferedIsPuts → CountsAreOfRecords → (pages page_bytes : ℕ) (events : List Event)
    → counted (stats_of pages page_bytes events) ≡ count_by is_put events
counted-puts puts counts pages page_bytes events =
    let a = account pages page_bytes events in
    let records = cut page_bytes a.accepted in
    let c = counts pages page_bytes events in
    let all = three-ways a records (recursion_from_All (λ (r : Accepted). (is_taken a r && a.lost r) ≡ false) records c.apart) in
    omega (arith, c.entries, c.overrun, c.read, stats-dropped pages page_bytes events, all, length-cut page_bytes a.accepted, offered-puts puts pages page_bytes events)

-- ---- puts among events

pub puts-append : (events more : List Event) → count_by is_put (events ++ more) ≡ count_by is_put events + count_by is_put more
puts-append events more = sum_by-append (λ (e : Event). cond (is_put e) 1 0) events more

pub puts-takes : (reads : ℕ) → count_by is_put (replicate reads Take) ≡ 0
puts-takes zero = refl
puts-takes (suc reads) = sum_by-cons (λ (e : Event). cond (is_put e) 1 0) Take (replicate reads Take) ∙ omega (arith, puts-takes reads)
