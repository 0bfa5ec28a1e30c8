-- What the records that a ring keeps tell of losses.
use Rattle.std.proofs.Common.{◌≡◌, inl, inr, ℕ, ◌+◌, ◌-◌, ◌<◌, ◌≤◌, ◌==◌, nat_le, Bool, true, false, not, ◌&&◌, if◌then◌else◌, List, [], ◌∷◌, ◌++◌, length, fold, filter, refl, sym, ap, ◌∙◌, subst, arith, length-append}
use Rattle.std.specs.List.{AllByRecursion, list_any, sum_by}
use Rattle.std.proofs.lemmas.Bool.{cases_Bool, and_parts, false≢true, false_from_ne_true, leb-true, ne_eqb, or_cases, or_from}
use Rattle.std.proofs.lemmas.List.{append-nil, append_assoc}
use Rattle.std.proofs.lemmas.List.Elements.{filter-append}
use Rattle.std.proofs.lemmas.List.Sums.{fold_push, sum_by-cons}
use Rattle.page_ring.specs.Account.{Account, Reading, account, accepts, is_overrun, is_taken, kept, next_number, reader_page, readings_from, readings_of, stats_of, with_accepted}
use Rattle.page_ring.specs.Cut.{Accepted, cut, filled, last_page, next_page}
use Rattle.page_ring.specs.Events.{Event, Put, Take}
use Rattle.page_ring.specs.Laws.{is_kept, CountsAreOfRecords, LeastIsRead}
use Rattle.page_ring.specs.Sound.{IsRising}
use Rattle.history_laws.proofs.KeptAfter.{account-push, cut-push, kept-accepted, next_record, read-is, taken-put}
use Rattle.history_laws.proofs.RingCounts.{kept-few, length-cut}
use Rattle.history_laws.proofs.RingReads.{overrun-is}

-- how many lost records some readings tell of
abbrev pub lost_in : List Reading → ℕ
lost_in readings = sum_by (λ r. r.lost) readings

-- the number after the last of some records, or after one that was consumed before
abbrev beyond : ℕ → List Accepted → ℕ
beyond next records = fold (λ _ r. r.number + 1) next records

-- ---- records with rising numbers

rising-lower : (low less high : ℕ) (rs : List Accepted) → less ≤ low → IsRising low high rs → IsRising less high rs
rising-lower low less high [] le h = tt
rising-lower low less high (r ∷ rs) le h = let k : low ≤ r.number = h.0 in (omega (arith, k, le), h.1, h.2)

rising-filter : (p : Accepted → Bool) (low high : ℕ) (rs : List Accepted) → IsRising low high rs → IsRising low high (filter p rs)
rising-filter p low high [] h = tt
rising-filter p low high (r ∷ rs) h =
    let rest = rising-filter p (r.number + 1) high rs h.2 in
    let k : low ≤ r.number = h.0 in
    elim (cases_Bool (p r)) [
      | inl t ↦ rw t (h.0, h.1, rest)
      | inr f ↦ rw f (rising-lower (r.number + 1) low high (filter p rs) (omega (arith, k)) rest)
    ]

rising-push : (low high : ℕ) (new : Accepted) (rs : List Accepted) → low ≤ high → new.number ≡ high → IsRising low high rs
    → IsRising low (high + 1) (rs ++ new ∷ [])
rising-push low high new [] le e h = (omega (arith, le, e), omega (arith, e), tt)
rising-push low high new (r ∷ rs) le e h =
    let k : r.number < high = h.1 in
    (h.0, omega (arith, k), rising-push (r.number + 1) high new rs (omega (arith, k)) e h.2)

-- the lost ones lie between them
lost_between : (next high : ℕ) (rs : List Accepted) → IsRising next high rs → lost_in (readings_from next rs) + length rs + next ≡ beyond next rs
lost_between next high [] h = omega arith
lost_between next high (r ∷ rs) h =
    let k : next ≤ r.number = h.0 in
    let rest = lost_between (r.number + 1) high rs h.2 in
    let first : Reading = record { lost = r.number - next; rec = r.bytes } in
    let all = sum_by-cons (λ (x : Reading). x.lost) first (readings_from (r.number + 1) rs) in
    omega (arith, k, rest, all)

beyond-above : (next high : ℕ) (rs : List Accepted) → IsRising next high rs → next ≤ beyond next rs
beyond-above next high rs h = omega (arith, lost_between next high rs h)

-- ---- what every account keeps

-- the records that were taken were accepted, the lost ones lie a round of pages behind the last one, the kept ones follow the one taken last, and
-- the last one accepted is among these, or was taken last
record IsReadInOrder (pages page_bytes : ℕ) (a : Account) : Type 0 where
  before : AllByRecursion (λ t. t.number < length a.accepted) a.taken
  behind : (r : Accepted) → a.lost r ≡ true → r.page + pages ≤ last_page (cut page_bytes a.accepted)
  rising : IsRising (next_number a) (length a.accepted) (kept page_bytes a)
  last : beyond (next_number a) (kept page_bytes a) ≡ length a.accepted

all-weaker : {X : Type 0} (P Q : X → Type 0) → ((x : X) → P x → Q x) → (xs : List X) → AllByRecursion P xs → AllByRecursion Q xs
all-weaker P Q step [] h = tt
all-weaker P Q step (x ∷ xs) h = (step x h.0, all-weaker P Q step xs h.1)

all-push : {X : Type 0} (P : X → Type 0) (xs : List X) (y : X) → AllByRecursion P xs → P y → AllByRecursion P (xs ++ y ∷ [])
all-push P [] y h here = (here, tt)
all-push P (x ∷ xs) y h here = (h.0, all-push P xs y h.1 here)

next_page-above : (page_bytes : ℕ) (records : List Accepted) (size : ℕ) → last_page records ≤ next_page page_bytes records size
next_page-above page_bytes records size =
    elim (cases_Bool (nat_le (filled (last_page records) records + size) page_bytes)) [
      | inl t ↦ rw t (omega arith)
      | inr f ↦ rw f (omega arith)
    ]

-- a record that wasn't accepted wasn't taken
not-taken : (n : ℕ) (number : ℕ) → number ≡ n → (ts : List Accepted) → AllByRecursion (λ t. t.number < n) ts
    → list_any (λ t. t.number == number) ts ≡ false
not-taken n number e [] h = refl
not-taken n number e (t ∷ ts) h =
    let l : t.number < n = h.0 in
    or_from _ _ (ne_eqb t.number number (λ k. absurd (omega (arith, l, e, k)))) (not-taken n number e ts h.1)

untouched : (taken lost : Bool) → taken ≡ false → lost ≡ false → (not taken && not lost) ≡ true
untouched taken lost untaken unlost = rw (untaken, unlost) refl

-- ---- an accepted put

in_order-accepted : (pages page_bytes : ℕ) (a : Account) (bytes : List ℕ) → 0 < pages → IsReadInOrder pages page_bytes a
    → IsReadInOrder pages page_bytes (with_accepted pages page_bytes a bytes)
in_order-accepted pages page_bytes a bytes some h = record {
  before = all-weaker (λ (t : Accepted). t.number < length a.accepted) (λ (t : Accepted). t.number < length b.accepted)
      (λ t k. omega (arith, k, more)) a.taken h.before;
  behind = λ r is. omega (arith, behind r is, last_is);
  rising = subst (λ (rs : List Accepted). IsRising (next_number a) (length b.accepted) rs) (sym kept_is)
      (subst (λ (n : ℕ). IsRising (next_number a) n (olds ++ new ∷ [])) (sym more)
      (rising-push (next_number a) (length a.accepted) new olds few number (rising-filter (is_kept b) (next_number a) (length a.accepted) (kept page_bytes a) h.rising)));
  last = ap (beyond (next_number a)) kept_is ∙ fold_push (λ (_ : ℕ) (r : Accepted). r.number + 1) (next_number a) olds new ∙ omega (arith, number, more);
}
  where
    b : Account
    b = with_accepted pages page_bytes a bytes

    new : Accepted
    new = next_record page_bytes a bytes

    olds : List Accepted
    olds = filter (is_kept b) (kept page_bytes a)

    number : new.number ≡ length a.accepted
    number = length-cut page_bytes a.accepted

    more : length b.accepted ≡ length a.accepted + 1
    more = rw length-append (omega arith)

    above : last_page (cut page_bytes a.accepted) ≤ new.page
    above = next_page-above page_bytes (cut page_bytes a.accepted) (length bytes)

    last_is : last_page (cut page_bytes b.accepted) ≡ new.page
    last_is = ap last_page (cut-push page_bytes a.accepted bytes) ∙ fold_push (λ (_ : ℕ) (r : Accepted). r.page) 0 (cut page_bytes a.accepted) new

    behind : (r : Accepted) → b.lost r ≡ true → r.page + pages ≤ new.page
    behind r is =
        elim (or_cases (a.lost r) (is_overrun pages (reader_page a) new.page r && not (is_taken a r)) is) [
          | inl was ↦ let far = h.behind r was in omega (arith, far, above)
          | inr now ↦ leb-true (r.page + pages) new.page (and_parts _ _ (and_parts _ _ now).0).0
        ]

    untaken : is_taken a new ≡ false
    untaken = not-taken (length a.accepted) new.number number a.taken h.before

    unlost : b.lost new ≡ false
    unlost = false_from_ne_true (b.lost new) (λ is. let far = behind new is in absurd (omega (arith, far, some)))

    passes : is_kept b new ≡ true
    passes = untouched (is_taken a new) (b.lost new) untaken unlost

    kept_is : kept page_bytes b ≡ olds ++ new ∷ []
    kept_is =
        kept-accepted pages page_bytes a bytes ∙ filter-append (is_kept b) (kept page_bytes a) (new ∷ [])
        ∙ ap (λ (is : Bool). olds ++ (if is then new ∷ [] else [])) passes

    few : next_number a ≤ length a.accepted
    few = omega (arith, beyond-above (next_number a) (length a.accepted) (kept page_bytes a) h.rising, h.last)

-- ---- every list of events

in_order-put : (pages page_bytes : ℕ) (events : List Event) (bytes : List ℕ) (overwrite : Bool) → 0 < pages
    → IsReadInOrder pages page_bytes (account pages page_bytes events)
    → IsReadInOrder pages page_bytes (account pages page_bytes (events ++ Put bytes overwrite ∷ []))
in_order-put pages page_bytes events bytes overwrite some h =
    subst (IsReadInOrder pages page_bytes) (sym (account-push pages page_bytes events (Put bytes overwrite)))
    (elim (cases_Bool (accepts pages page_bytes (account pages page_bytes events) bytes overwrite)) [
      | inl t ↦ rw t (in_order-accepted pages page_bytes (account pages page_bytes events) bytes some h)
      | inr f ↦ rw f (record { before = h.before; behind = h.behind; rising = h.rising; last = h.last })
    ])

in_order-read : LeastIsRead → (pages page_bytes : ℕ) (events : List Event) → IsReadInOrder pages page_bytes (account pages page_bytes events)
    → IsReadInOrder pages page_bytes (account pages page_bytes (events ++ Take ∷ []))
in_order-read least pages page_bytes events h = by (kept page_bytes a) refl
  where
    a : Account
    a = account pages page_bytes events

    by : (rs : List Accepted) → kept page_bytes a ≡ rs → IsReadInOrder pages page_bytes (account pages page_bytes (events ++ Take ∷ []))
    by [] e = subst (IsReadInOrder pages page_bytes) (sym (read-is pages page_bytes events [] e)) h
    by (r ∷ rest) e =
        let rising : IsRising (next_number a) (length a.accepted) (r ∷ rest) = subst (IsRising (next_number a) (length a.accepted)) e h.rising in
        let b : Account = record a { taken = a.taken ++ r ∷ [] } in
        let is : account pages page_bytes (events ++ Take ∷ []) ≡ b = read-is pages page_bytes events (r ∷ rest) e in
        let left : kept page_bytes b ≡ rest = ap (kept page_bytes) (sym is) ∙ (least pages page_bytes events r rest e).kept_after in
        let next : next_number b ≡ r.number + 1 = fold_push (λ (_ : ℕ) (t : Accepted). t.number + 1) 0 a.taken r in
        subst (IsReadInOrder pages page_bytes) (sym is) (record {
          before = all-push (λ (t : Accepted). t.number < length a.accepted) a.taken r h.before rising.1;
          behind = h.behind;
          rising = rw (next, left) rising.2;
          last = rw (next, left) (ap (beyond (next_number a)) (sym e) ∙ h.last);
        })

in_order-from : LeastIsRead → (pages page_bytes : ℕ) (events more : List Event) → 0 < pages → IsReadInOrder pages page_bytes (account pages page_bytes events)
    → IsReadInOrder pages page_bytes (account pages page_bytes (events ++ more))
in_order-from least pages page_bytes events [] some h =
    subst (λ (es : List Event). IsReadInOrder pages page_bytes (account pages page_bytes es)) (sym (append-nil events)) h
in_order-from least pages page_bytes events (e ∷ more) some h =
    subst (λ (es : List Event). IsReadInOrder pages page_bytes (account pages page_bytes es)) (append_assoc events (e ∷ []) more)
    (in_order-from least pages page_bytes (events ++ e ∷ []) more some (by e))
  where
    by : (e : Event) → IsReadInOrder pages page_bytes (account pages page_bytes (events ++ e ∷ []))
    by (Put bytes overwrite) = in_order-put pages page_bytes events bytes overwrite some h
    by Take = in_order-read least pages page_bytes events h

in_order : LeastIsRead → (pages page_bytes : ℕ) (events : List Event) → 0 < pages → IsReadInOrder pages page_bytes (account pages page_bytes events)
unfolding account cut
in_order least pages page_bytes events some =
    in_order-from least pages page_bytes [] events some (record {
      before = tt;
      behind = λ r lost. absurd (false≢true lost);
      rising = tt;
      last = refl;
    })

-- ---- what is told

lost_in-kept : LeastIsRead → (pages page_bytes : ℕ) (events : List Event) → 0 < pages
    → let a = account pages page_bytes events in
    lost_in (readings_of pages page_bytes events) + length (kept page_bytes a) + next_number a ≡ length a.accepted
unfolding readings_of
lost_in-kept least pages page_bytes events some =
    let a = account pages page_bytes events in
    let h = in_order least pages page_bytes events some in
    lost_between (next_number a) (length a.accepted) (kept page_bytes a) h.rising ∙ h.last

-- a put tells of those that it overwrites
pub lost_in-put : LeastIsRead → CountsAreOfRecords → (pages page_bytes : ℕ) (events : List Event) (bytes : List ℕ) (overwrite : Bool) → 0 < pages
    → let then_events = events ++ Put bytes overwrite ∷ [] in
    lost_in (readings_of pages page_bytes then_events) + (stats_of pages page_bytes events).overrun
    ≡ lost_in (readings_of pages page_bytes events) + (stats_of pages page_bytes then_events).overrun
lost_in-put least counts pages page_bytes events bytes overwrite some =
    let a = account pages page_bytes events in
    let then_events = events ++ Put bytes overwrite ∷ [] in
    let same = taken-put pages page_bytes events bytes overwrite in
    omega (
      arith,
      lost_in-kept least pages page_bytes events some,
      lost_in-kept least pages page_bytes then_events some,
      overrun-is pages page_bytes events,
      overrun-is pages page_bytes then_events,
      kept-few counts pages page_bytes events,
      kept-few counts pages page_bytes then_events,
      ap length same,
      ap (fold (λ (_ : ℕ) (t : Accepted). t.number + 1) 0) same,
    )

-- a ring that was never used
pub lost_in-new : (pages page_bytes : ℕ) → lost_in (readings_of pages page_bytes []) ≡ (stats_of pages page_bytes []).overrun
unfolding readings_of stats_of account cut
lost_in-new pages page_bytes = refl
