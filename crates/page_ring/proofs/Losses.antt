-- What is lost, accepted and read, in the words of the laws.
use Rattle.std.proofs.Common.{zero-add, ◌≡◌, ℕ, zero, suc, ◌+◌, ◌<◌, ◌≤◌, eqb, Bool, true, false, not, ◌&&◌, ◌||◌, cond, List, [], ◌∷◌, ◌++◌, length, replicate, drop, filter, fold, Option, Some, None, refl, sym, ap, ◌∙◌, subst, inl, inr, arith, length-append, drop-drop}
use Rattle.std.specs.List.{AllByRecursion, count_by}
use Rattle.std.proofs.lemmas.Bool.{cases_Bool, false≢true, or_cases, or_left, or_right, and_parts, and_from, eqb-true, eq-eqb, leb-true, le-leb, not-true, ne_eqb}
use Rattle.std.proofs.lemmas.List.{append_assoc, append-nil}
use Rattle.std.proofs.lemmas.List.Sums.{sum_by-cons, fold_push, fold-append}
use Rattle.std.proofs.lemmas.List.Elements.{All-from_recursion, recursion_from_All, filter-append}
use Rattle.page_ring.specs.Events.{Event, Put, Take}
use Rattle.page_ring.specs.Cut.{Accepted, cut, with_record, next_page, last_page}
use Rattle.page_ring.specs.Account.{Account, account, nothing, after, kept, is_taken, is_overrun, is_reader_page, reader_page, next_number, accepts, with_accepted, with_first_taken, readings_of, readings_from, Reading}
use Rattle.page_ring.specs.Shown.{StandsFor, shown_by}
use Rattle.page_ring.specs.Sound.{IsRising}
use Rattle.page_ring.specs.Laws.{is_put, OfferedIsPuts, IsAccepted, IsLostIn, LostBySomePut, AcceptedAlways, AcceptedWithoutLoss, DroppedOnly, LeastIsRead, LostIsBetween, ReadingsAreAhead, TakesLeaveTheRest, NothingToRead, puts_pass, KeptWerePut}
use Rattle.page_ring.proofs.PageFacts.{filter_none, all_filter, all_append, rising_filter, rising_push}
use Rattle.page_ring.proofs.Bridge.{account-push, cut-push, is_cut, fold_keeps, last_page-push, kept_rising, kept_after_read, kept_olds}

-- the number of puts
pub offers : (pages page_bytes : ℕ) (a : Account) (events : List Event) → let b = fold (after pages page_bytes) a events in length b.accepted + b.dropped ≡ length a.accepted + a.dropped + count_by is_put events
offers pages page_bytes a [] = omega arith
offers pages page_bytes a (e ∷ es) =
    let step = offers pages page_bytes (after pages page_bytes a e) es in
    let one = offers_one pages page_bytes a e in
    let count = sum_by-cons (λ (x : Event). cond (is_put x) 1 0) e es in
    omega arith
  where
    offers_none : (a : Account) (xs : List Accepted) → length (with_first_taken a xs).accepted + (with_first_taken a xs).dropped ≡ length a.accepted + a.dropped
    offers_none a [] = refl
    offers_none a (x ∷ xs) = refl

    offers_one : (pages page_bytes : ℕ) (a : Account) (e : Event) → length (after pages page_bytes a e).accepted + (after pages page_bytes a e).dropped ≡ length a.accepted + a.dropped + cond (is_put e) 1 0
    offers_one pages page_bytes a (Put bytes overwrite) =
        elim (cases_Bool (accepts pages page_bytes a bytes overwrite)) [
          | inl t ↦ rw (t, length-append) (omega arith)
          | inr f ↦ rw f (omega arith)
        ]
    offers_one pages page_bytes a Take = let k = offers_none a (kept page_bytes a) in omega arith

pub offered_is_puts : OfferedIsPuts
unfolding StandsFor shown_by account
offered_is_puts ring events h = rw h (offers ring.pages ring.page_bytes _ events ∙ zero-add (count_by is_put events))

-- acceptance
pub is_accepted : (pages page_bytes : ℕ) (events : List Event) (bytes : List ℕ) (overwrite : Bool) → accepts pages page_bytes (account pages page_bytes events) bytes overwrite ≡ true → IsAccepted pages page_bytes events bytes overwrite
is_accepted pages page_bytes events bytes overwrite t = rw (account-push, t) refl

pub is_dropped : (pages page_bytes : ℕ) (events : List Event) (bytes : List ℕ) (overwrite : Bool) → accepts pages page_bytes (account pages page_bytes events) bytes overwrite ≡ false → account pages page_bytes (events ++ Put bytes overwrite ∷ []) ≡ (let a = account pages page_bytes events in record a { dropped = a.dropped + 1 })
is_dropped pages page_bytes events bytes overwrite f = rw (account-push, f) refl

pub accepts_from : (pages page_bytes : ℕ) (events : List Event) (bytes : List ℕ) (overwrite : Bool) → IsAccepted pages page_bytes events bytes overwrite → accepts pages page_bytes (account pages page_bytes events) bytes overwrite ≡ true
accepts_from pages page_bytes events bytes overwrite h =
    elim (cases_Bool (accepts pages page_bytes (account pages page_bytes events) bytes overwrite)) [
      | inl t ↦ t
      | inr f ↦
          let same = ap (λ (a : Account). length a.accepted) (is_dropped pages page_bytes events bytes overwrite f) in
          let more = ap length h ∙ length-append (account pages page_bytes events).accepted (bytes ∷ []) in
          absurd (omega arith)
    ]

pub accepted_always : AcceptedAlways
accepted_always pages page_bytes events bytes = is_accepted pages page_bytes events bytes true refl

pub dropped_only : DroppedOnly
dropped_only pages page_bytes events bytes overwrite n =
    elim (cases_Bool (accepts pages page_bytes (account pages page_bytes events) bytes overwrite)) [
      | inl t ↦ absurd (n (is_accepted pages page_bytes events bytes overwrite t))
      | inr f ↦ is_dropped pages page_bytes events bytes overwrite f
    ]

pub lost_of_kept : (taken lost overrun : Bool) → (not taken && not lost) ≡ true → (lost || (overrun && not taken)) ≡ overrun
lost_of_kept true lost overrun h = absurd (false≢true h)
lost_of_kept false true overrun h = absurd (false≢true h)
lost_of_kept false false true h = refl
lost_of_kept false false false h = refl

-- what the accepted put of this record loses of the kept records
pub lost_by_accepted : (pages page_bytes : ℕ) (events : List Event) (bytes : List ℕ) (r : Accepted) → let a = account pages page_bytes events in (account pages page_bytes (events ++ Put bytes true ∷ [])).lost r ≡ (a.lost r || (is_overrun pages (reader_page a) (next_page page_bytes (cut page_bytes a.accepted) (length bytes)) r && not (is_taken a r)))
lost_by_accepted pages page_bytes events bytes r = rw account-push refl

pub all_map : {X : Type 0} (P Q : X → Type 0) (test : X → Bool) → ((x : X) → test x ≡ true → P x → Q x) → (xs : List X) → AllByRecursion P (filter test xs) → AllByRecursion Q (filter test xs)
all_map P Q test f [] h = tt
all_map P Q test f (x ∷ xs) h =
    elim (cases_Bool (test x)) [
      | inl t ↦ let both = rw t at h in rw t (f x t both.0, all_map P Q test f xs both.1)
      | inr n ↦ let rest = rw n at h in rw n (all_map P Q test f xs rest)
    ]

pub none_from_filter : {X : Type 0} (p : X → Bool) (xs : List X) → length (filter p xs) ≡ 0 → AllByRecursion (λ x. p x ≡ false) xs
none_from_filter p [] h = tt
none_from_filter p (x ∷ xs) h =
    elim (cases_Bool (p x)) [
      | inl t ↦ let some = rw t at h in absurd (omega arith)
      | inr f ↦ let rest = rw f at h in (f, none_from_filter p xs rest)
    ]

pub accepted_without_loss : AcceptedWithoutLoss
accepted_without_loss pages page_bytes events bytes =
    let a = account pages page_bytes events in
    let over : Accepted → Bool = is_overrun pages (reader_page a) (next_page page_bytes (cut page_bytes a.accepted) (length bytes)) in
    let test : Accepted → Bool = λ r. not (is_taken a r) && not (a.lost r) in
    let Gone : Accepted → Type 0 = λ r. (account pages page_bytes (events ++ Put bytes true ∷ [])).lost r ≡ false in
    let lost_is : (r : Accepted) → test r ≡ true → (account pages page_bytes (events ++ Put bytes true ∷ [])).lost r ≡ over r =
    λ r t. lost_by_accepted pages page_bytes events bytes r ∙ lost_of_kept (is_taken a r) (a.lost r) (over r) t in (
      λ accepted. All-from_recursion Gone (kept page_bytes a) (all_map (λ r. over r ≡ false) Gone test (λ r t f. lost_is r t ∙ f) (cut page_bytes a.accepted)
          (none_from_filter over (kept page_bytes a) (eqb-true _ 0 (accepts_from pages page_bytes events bytes false accepted)))),
      λ none. is_accepted pages page_bytes events bytes false
          (eq-eqb _ 0 (ap length (filter_none over (kept page_bytes a) (all_map Gone (λ r. over r ≡ false) test (λ r t f. sym (lost_is r t) ∙ f) (cut page_bytes a.accepted) (recursion_from_All Gone (kept page_bytes a) none))))),
    )

-- what is lost stays lost
pub lost_stays : (pages page_bytes : ℕ) (r : Accepted) (a : Account) (e : Event) → a.lost r ≡ true → (after pages page_bytes a e).lost r ≡ true
lost_stays pages page_bytes r a (Put bytes overwrite) h =
    elim (cases_Bool (accepts pages page_bytes a bytes overwrite)) [
      | inl t ↦ rw t (or_left (a.lost r) _ h)
      | inr f ↦ rw f h
    ]
lost_stays pages page_bytes r a Take h = read (kept page_bytes a)
  where
    read : (xs : List Accepted) → (with_first_taken a xs).lost r ≡ true
    read [] = h
    read (x ∷ xs) = h

pub lost_on : (pages page_bytes : ℕ) (r : Accepted) (a : Account) (es : List Event) → a.lost r ≡ true → (fold (after pages page_bytes) a es).lost r ≡ true
lost_on pages page_bytes r a [] h = h
lost_on pages page_bytes r a (e ∷ es) h = lost_on pages page_bytes r (after pages page_bytes a e) es (lost_stays pages page_bytes r a e h)

pub account-append : (pages page_bytes : ℕ) (before later : List Event) → account pages page_bytes (before ++ later) ≡ fold (after pages page_bytes) (account pages page_bytes before) later
unfolding account
account-append pages page_bytes before later = fold-append (after pages page_bytes) _ before later

pub not_reader : (reader : Option ℕ) (page : ℕ) → (reader ≡ Some page → ⊥) → is_reader_page reader page ≡ false
not_reader None page h = refl
not_reader (Some p) page h = ne_eqb p page (λ e. h (ap Some e))

pub is_not_reader : (reader : Option ℕ) (page : ℕ) → is_reader_page reader page ≡ false → reader ≡ Some page → ⊥
is_not_reader reader page f e =
    let P : Option ℕ → Type 0 = λ o. is_reader_page o page ≡ false in
    let same : eqb page page ≡ false = subst P e f in
    false≢true (sym same ∙ eq-eqb page page refl)

pub last_page_accepted : (pages page_bytes : ℕ) (events : List Event) (bytes : List ℕ) (overwrite : Bool) → IsAccepted pages page_bytes events bytes overwrite → last_page (cut page_bytes (account pages page_bytes (events ++ Put bytes overwrite ∷ [])).accepted) ≡ next_page page_bytes (cut page_bytes (account pages page_bytes events).accepted) (length bytes)
last_page_accepted pages page_bytes events bytes overwrite h =
    ap (λ (xs : List (List ℕ)). last_page (cut page_bytes xs)) h ∙ ap last_page (cut-push page_bytes (account pages page_bytes events).accepted bytes) ∙ last_page-push (cut page_bytes (account pages page_bytes events).accepted) _

pub lost_from : (pages page_bytes : ℕ) (events : List Event) (r : Accepted) → IsLostIn pages page_bytes events r → (account pages page_bytes events).lost r ≡ true
lost_from pages page_bytes events r h =
    let a = account pages page_bytes h.before in
    let accepted = accepts_from pages page_bytes h.before h.bytes h.overwrite h.accepted in
    let step : account pages page_bytes (h.before ++ Put h.bytes h.overwrite ∷ []) ≡ with_accepted pages page_bytes a h.bytes = rw (account-push, accepted) refl in
    let far = rw (last_page_accepted pages page_bytes h.before h.bytes h.overwrite h.accepted) at h.far in
    let untaken : is_taken a r ≡ false = rw step at h.untaken in
    let away : reader_page a ≡ Some r.page → ⊥ = rw step at h.away in
    let now : (with_accepted pages page_bytes a h.bytes).lost r ≡ true =
    or_right (a.lost r) _ (and_from _ _ (and_from _ _ (le-leb _ _ far) (ap not (not_reader (reader_page a) r.page away))) (ap not untaken)) in
    let parts : account pages page_bytes events ≡ fold (after pages page_bytes) (account pages page_bytes (h.before ++ Put h.bytes h.overwrite ∷ [])) h.later =
    ap (account pages page_bytes) h.parts ∙ account-append pages page_bytes (h.before ++ Put h.bytes h.overwrite ∷ []) h.later in
    rw (parts, step) (lost_on pages page_bytes r (with_accepted pages page_bytes a h.bytes) h.later now)

-- the step at which a record is lost
pub lost_at : (pages page_bytes : ℕ) (done : List Event) (e : Event) (later : List Event) (r : Accepted) → (account pages page_bytes done).lost r ≡ false → (account pages page_bytes (done ++ e ∷ [])).lost r ≡ true → IsLostIn pages page_bytes ((done ++ e ∷ []) ++ later) r
lost_at pages page_bytes done Take later r was now =
    let step = rw account-push at now in
    absurd (false≢true (sym was ∙ sym (unread (kept page_bytes (account pages page_bytes done))) ∙ step))
  where
    unread : (xs : List Accepted) → (with_first_taken (account pages page_bytes done) xs).lost r ≡ (account pages page_bytes done).lost r
    unread [] = refl
    unread (x ∷ xs) = refl
lost_at pages page_bytes done (Put bytes overwrite) later r was now =
    let a = account pages page_bytes done in
    elim (cases_Bool (accepts pages page_bytes a bytes overwrite)) [
      | inl t ↦
          let accepted = is_accepted pages page_bytes done bytes overwrite t in
          let step : account pages page_bytes (done ++ Put bytes overwrite ∷ []) ≡ with_accepted pages page_bytes a bytes = rw (account-push, t) refl in
          let Lost : Account → Type 0 = λ b. b.lost r ≡ true in
          let new : (with_accepted pages page_bytes a bytes).lost r ≡ true = subst Lost step now in
          elim (or_cases (a.lost r) _ new) [
            | inl old ↦ absurd (false≢true (sym was ∙ old))
            | inr it ↦
                let parts = and_parts _ _ it in
                let over = and_parts _ _ parts.0 in
                record {
                  before = done;
                  bytes = bytes;
                  overwrite = overwrite;
                  later = later;
                  parts = refl;
                  accepted = accepted;
                  far = rw (last_page_accepted pages page_bytes done bytes overwrite accepted) (leb-true _ _ over.0);
                  untaken = rw step (not-true _ parts.1);
                  away = rw step (is_not_reader (reader_page a) r.page (not-true _ over.1));
                }
          ]
      | inr f ↦
          let same = ap (λ (b : Account). b.lost r) (is_dropped pages page_bytes done bytes overwrite f) in
          absurd (false≢true (sym was ∙ sym same ∙ now))
    ]

pub lost_in : (pages page_bytes : ℕ) (done later : List Event) (r : Accepted) → (account pages page_bytes done).lost r ≡ false → (account pages page_bytes (done ++ later)).lost r ≡ true → IsLostIn pages page_bytes (done ++ later) r
lost_in pages page_bytes done [] r was now =
    let same = ap (λ (es : List Event). (account pages page_bytes es).lost r) (append-nil done) in
    absurd (false≢true (sym was ∙ sym same ∙ now))
lost_in pages page_bytes done (e ∷ later) r was now =
    let P : List Event → Type 0 = λ es. IsLostIn pages page_bytes es r in
    let Lost : List Event → Type 0 = λ es. (account pages page_bytes es).lost r ≡ true in
    let regroup = append_assoc done (e ∷ []) later in
    subst P regroup (elim (cases_Bool ((account pages page_bytes (done ++ e ∷ [])).lost r)) [
      | inl t ↦ lost_at pages page_bytes done e later r was t
      | inr f ↦ lost_in pages page_bytes (done ++ e ∷ []) later r f (subst Lost (sym regroup) now)
    ])

pub lost_by_some_put : LostBySomePut
unfolding account
lost_by_some_put pages page_bytes events r =
    (λ h. lost_in pages page_bytes [] events r refl h, lost_from pages page_bytes events r)

-- reads
pub rising_all : (low high n : ℕ) (xs : List Accepted) → n < low → IsRising low high xs → AllByRecursion (λ s. n < s.number) xs
rising_all low high n [] l h = tt
rising_all low high n (x ∷ xs) l h = let k : low ≤ x.number = h.0 in (omega arith, rising_all (x.number + 1) high n xs (omega arith) h.2)

pub read_step : (pages page_bytes : ℕ) (events : List Event) (xs : List Accepted) → kept page_bytes (account pages page_bytes events) ≡ xs → account pages page_bytes (events ++ Take ∷ []) ≡ with_first_taken (account pages page_bytes events) xs
read_step pages page_bytes events xs e = rw account-push (ap (with_first_taken (account pages page_bytes events)) e)

pub least_is_read : LeastIsRead
least_is_read pages page_bytes events r rest e =
    let a = account pages page_bytes events in
    let Rising : List Accepted → Type 0 = IsRising 0 (length a.accepted) in
    let rising = subst Rising e (kept_rising page_bytes a) in
    let step = read_step pages page_bytes events (r ∷ rest) e in
    record {
      least = All-from_recursion (λ (s : Accepted). r.number < s.number) rest (rising_all (r.number + 1) (length a.accepted) r.number rest (omega arith) rising.2);
      taken = ap (λ (b : Account). b.taken) step;
      kept_after = ap (kept page_bytes) step ∙ kept_after_read page_bytes a r rest e;
    }

pub nothing_to_read : NothingToRead
nothing_to_read pages page_bytes events e = read_step pages page_bytes events [] e

pub readings_are_ahead : ReadingsAreAhead
unfolding readings_of
readings_are_ahead pages page_bytes events = ahead (kept page_bytes (account pages page_bytes events)) refl
  where
    a : Account
    a = account pages page_bytes events

    ahead : (xs : List Accepted) → kept page_bytes (account pages page_bytes events) ≡ xs → readings_from (next_number (account pages page_bytes (events ++ Take ∷ []))) (kept page_bytes (account pages page_bytes (events ++ Take ∷ []))) ≡ drop 1 (readings_from (next_number (account pages page_bytes events)) (kept page_bytes (account pages page_bytes events)))
    ahead [] e = rw (read_step pages page_bytes events [] e, e) refl
    ahead (r ∷ rest) e = rw (read_step pages page_bytes events (r ∷ rest) e, kept_after_read page_bytes (account pages page_bytes events) r rest e, fold_push, e) refl

pub takes_leave_the_rest : TakesLeaveTheRest
takes_leave_the_rest pages page_bytes events zero = ap (readings_of pages page_bytes) (append-nil events)
takes_leave_the_rest pages page_bytes events (suc n) =
    ap (readings_of pages page_bytes) (sym (append_assoc events (Take ∷ []) (replicate n Take)))
    ∙ takes_leave_the_rest pages page_bytes (events ++ Take ∷ []) n
    ∙ ap (drop n) (readings_are_ahead pages page_bytes events)
    ∙ drop-drop n 1 (readings_of pages page_bytes events)
    ∙ (let next : 1 + n ≡ suc n = omega arith in ap (λ (k : ℕ). drop k (readings_of pages page_bytes events)) next)

-- what is kept comes after what was taken
pub record IsAhead (page_bytes : ℕ) (a : Account) : Type 0 where
  pub next : next_number a ≤ length a.accepted
  pub rising : IsRising (next_number a) (length a.accepted) (kept page_bytes a)

pub rising_higher : (low high high' : ℕ) (xs : List Accepted) → high ≤ high' → IsRising low high xs → IsRising low high' xs
rising_higher low high high' [] l h = tt
rising_higher low high high' (x ∷ xs) l h = let k : x.number < high = h.1 in (h.0, omega arith, rising_higher (x.number + 1) high high' xs l h.2)

pub ahead_accepted : (pages page_bytes : ℕ) (a : Account) (bytes : List ℕ) → IsAhead page_bytes a → IsAhead page_bytes (with_accepted pages page_bytes a bytes)
ahead_accepted pages page_bytes a bytes h =
    let b = with_accepted pages page_bytes a bytes in
    let records = cut page_bytes a.accepted in
    let page = next_page page_bytes records (length bytes) in
    let new : Accepted = record { number = length records; page = page; bytes = bytes } in
    let test : Accepted → Bool = λ r. not (is_taken b r) && not (b.lost r) in
    let more : length b.accepted ≡ length a.accepted + 1 = length-append a.accepted (bytes ∷ []) in
    let olds : List Accepted = filter (λ r. not (is_overrun pages (reader_page a) page r)) (kept page_bytes a) in
    let rising : IsRising (next_number a) (length a.accepted) olds = rising_filter _ (next_number a) (length a.accepted) (kept page_bytes a) h.rising in
    let parts : kept page_bytes b ≡ olds ++ filter test (new ∷ []) =
    ap (filter test) (cut-push page_bytes a.accepted bytes) ∙ filter-append test records (new ∷ []) ∙ ap (λ (xs : List Accepted). xs ++ filter test (new ∷ [])) (kept_olds pages page_bytes a bytes) in
    let l : next_number a ≤ length a.accepted = h.next in
    record {
      next = rw more (omega arith);
      rising = rw (parts, more) (elim (cases_Bool (test new)) [
        | inl t ↦ rw t (rising_push (next_number a) (length a.accepted) new olds l (is_cut page_bytes a.accepted).count rising)
        | inr f ↦ rw (f, append-nil) (rising_higher (next_number a) (length a.accepted) (length a.accepted + 1) olds (omega arith) rising)
      ]);
    }

pub ahead_after : (pages page_bytes : ℕ) (a : Account) (e : Event) → IsAhead page_bytes a → IsAhead page_bytes (after pages page_bytes a e)
ahead_after pages page_bytes a (Put bytes overwrite) h =
    elim (cases_Bool (accepts pages page_bytes a bytes overwrite)) [
      | inl t ↦ rw t (ahead_accepted pages page_bytes a bytes h)
      | inr f ↦ rw f (record { next = h.next; rising = h.rising })
    ]
ahead_after pages page_bytes a Take h = read (kept page_bytes a) refl
  where
    read : (xs : List Accepted) → kept page_bytes a ≡ xs → IsAhead page_bytes (with_first_taken a xs)
    read [] e = h
    read (r ∷ rest) e =
        let Rising : List Accepted → Type 0 = IsRising (next_number a) (length a.accepted) in
        let rising = subst Rising e h.rising in
        let k : r.number < length a.accepted = rising.1 in
        let next : next_number (record a { taken = a.taken ++ r ∷ [] }) ≡ r.number + 1 = fold_push (λ (_ : ℕ) (t : Accepted). t.number + 1) 0 a.taken r in
        record {
          next = rw next (omega arith);
          rising = rw (next, kept_after_read page_bytes a r rest e) rising.2;
        }

pub account_ahead : (pages page_bytes : ℕ) (events : List Event) → IsAhead page_bytes (account pages page_bytes events)
unfolding account cut
account_ahead pages page_bytes events =
    fold_keeps (IsAhead page_bytes) (after pages page_bytes) (ahead_after pages page_bytes) nothing events (record { next = omega arith; rising = tt })

pub lost_is_between : LostIsBetween
unfolding readings_of
lost_is_between pages page_bytes events r rest e =
    let a = account pages page_bytes events in
    let Rising : List Accepted → Type 0 = IsRising (next_number a) (length a.accepted) in
    let rising = subst Rising e (account_ahead pages page_bytes events).rising in
    let ge : next_number a ≤ r.number = rising.0 in
    rw e (record {
      rec = refl;
      from_beginning = λ t. rw t (omega arith);
      from_last = λ before last t.
          let next : next_number a ≡ last.number + 1 = ap (λ (ts : List Accepted). fold (λ (_ : ℕ) (x : Accepted). x.number + 1) 0 ts) t ∙ fold_push (λ (_ : ℕ) (x : Accepted). x.number + 1) 0 before last in
          omega arith;
    })

-- what holds of each put holds of each reading
pub accepted_pass : (pages page_bytes : ℕ) (test : List ℕ → Bool) (a : Account) (es : List Event) → AllByRecursion (λ bytes. test bytes ≡ true) a.accepted → AllByRecursion (λ e. puts_pass test e ≡ true) es → AllByRecursion (λ bytes. test bytes ≡ true) (fold (after pages page_bytes) a es).accepted
accepted_pass pages page_bytes test a [] h k = h
accepted_pass pages page_bytes test a (Put bytes overwrite ∷ es) h k =
    accepted_pass pages page_bytes test (after pages page_bytes a (Put bytes overwrite)) es (elim (cases_Bool (accepts pages page_bytes a bytes overwrite)) [
      | inl t ↦ rw t (all_append _ a.accepted (bytes ∷ []) h (k.0, tt))
      | inr f ↦ rw f h
    ]) k.1
accepted_pass pages page_bytes test a (Take ∷ es) h k = accepted_pass pages page_bytes test (after pages page_bytes a Take) es (read (kept page_bytes a)) k.1
  where
    read : (xs : List Accepted) → AllByRecursion (λ bytes. test bytes ≡ true) (with_first_taken a xs).accepted
    read [] = h
    read (x ∷ xs) = h

pub cut_pass : (page_bytes : ℕ) (test : List ℕ → Bool) (records : List Accepted) (accepted : List (List ℕ)) → AllByRecursion (λ r. test r.bytes ≡ true) records → AllByRecursion (λ bytes. test bytes ≡ true) accepted → AllByRecursion (λ r. test r.bytes ≡ true) (fold (with_record page_bytes) records accepted)
cut_pass page_bytes test records [] h k = h
cut_pass page_bytes test records (x ∷ xs) h k = cut_pass page_bytes test (with_record page_bytes records x) xs (all_append _ records _ h (k.0, tt)) k.1

pub readings_pass : (test : List ℕ → Bool) (next : ℕ) (xs : List Accepted) → AllByRecursion (λ r. test r.bytes ≡ true) xs → AllByRecursion (λ k. test k.rec ≡ true) (readings_from next xs)
readings_pass test next [] h = tt
readings_pass test next (x ∷ xs) h = (h.0, readings_pass test (x.number + 1) xs h.1)

pub kept_were_put : KeptWerePut
unfolding readings_of account cut
kept_were_put pages page_bytes events test h =
    let a = account pages page_bytes events in
    let accepted = accepted_pass pages page_bytes test nothing events tt (recursion_from_All (λ (e : Event). puts_pass test e ≡ true) events h) in
    let records = cut_pass page_bytes test [] a.accepted tt accepted in
    All-from_recursion (λ (k : Reading). test k.rec ≡ true) _ (readings_pass test (next_number a) (kept page_bytes a) (all_filter _ _ (cut page_bytes a.accepted) records))
