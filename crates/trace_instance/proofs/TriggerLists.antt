-- The list of an event's triggers, of either kind: what a change of it makes of those of each kind, and that it stays in order.
use Rattle.std.proofs.Common.{◌≡◌, ℕ, zero, suc, ◌+◌, ◌<◌, ◌≤◌, nat_lt, not, Bool, true, false, if◌then◌else◌, List, [], ◌∷◌, ◌++◌, length, map, filter, drop, get_or, All, IfSome, is_some, codes, Option, Some, None, refl, sym, ap, ◌∙◌, append_assoc, append-nil, arith, rules, tests}
use Rattle.std.specs.List.{filter_map, find, join_by, list_any}
use Rattle.std.specs.Option.{option_and_then}
use Rattle.std.proofs.lemmas.Bool.Decides.{nat_tests}
use Rattle.std.proofs.lemmas.List.{at_drop_all, at_drop_more, length-append, length-drop, length-map, map-append}
use Rattle.std.proofs.lemmas.List.Elements.{All-head, All-tail, filter-append, filter_map-append}
use Rattle.std.proofs.lemmas.List.Filters.{length-filter_both}
use Rattle.trace_text.specs.HistText.{hist_of as shown_hist, hist_text, one_hist}
use Rattle.trace_instance.specs.Changes.{IsNewest}
use Rattle.trace_instance.specs.Deliveries.{counted_down}
use Rattle.trace_instance.specs.FileAnswers.{AreThere}
use Rattle.trace_instance.specs.private.Commands.{shown_attached, shown_of}
use Rattle.trace_instance.specs.TriggerLists.{HasTable, IsOnly, counted, hist_of, hists_in, in_order, is_hist, is_snapshot, number_of, snapshot_in, snapshot_of, with_snapshot}
use Rattle.trace_instance.specs.declared.hists.AttachedHist.{AttachedHist}
use Rattle.trace_instance.specs.declared.tables.Table.{Table}
use Rattle.trace_instance.specs.declared.trigger.EventTrigger.{EventTrigger}
use Rattle.trace_instance.specs.declared.trigger.EventTrigger.TheVariants.{Snapshot, Hist}
use Rattle.trace_instance.specs.declared.trigger.AttachedSnapshot.{AttachedSnapshot}

-- it is its triggers of each kind in order of their numbers
abbrev pub IsOrdered : List EventTrigger → Type 0
IsOrdered list = list ≡ in_order (snapshot_in list) (hists_in list)

-- a list that has these in that order
pub record Holds (list : List EventTrigger) (snapshot : Option AttachedSnapshot) (hists : List AttachedHist) : Type 0 where
  pub order : list ≡ in_order snapshot hists
  pub those : hists_in list ≡ hists

after-older : (t : AttachedSnapshot) (older newer : List AttachedHist) → snapshot_in (map Hist older ++ Snapshot t ∷ map Hist newer) ≡ Some t
after-older t [] newer = refl
after-older t (a ∷ older) newer = after-older t older newer

none-in : (hists : List AttachedHist) → snapshot_in (map Hist hists) ≡ None
none-in [] = refl
none-in (a ∷ hists) = none-in hists

in-order : (snapshot : Option AttachedSnapshot) (hists : List AttachedHist) → snapshot_in (in_order snapshot hists) ≡ snapshot
in-order None hists = none-in hists
in-order (Some t) hists = after-older t (filter (λ (a : AttachedHist). nat_lt a.number t.number) hists) (filter (λ (a : AttachedHist). not (nat_lt a.number t.number)) hists)

pub snapshot-held : (list : List EventTrigger) (snapshot : Option AttachedSnapshot) (hists : List AttachedHist) → Holds list snapshot hists → snapshot_in list ≡ snapshot
snapshot-held list snapshot hists is = ap snapshot_in is.order ∙ in-order snapshot hists

-- the `invariant` of such a list
abbrev pub IsKept : List EventTrigger → Type 0
IsKept list = (length (hists_in list) ≤ 4) × IsOrdered list

ordered : (list : List EventTrigger) (snapshot : Option AttachedSnapshot) (hists : List AttachedHist) → Holds list snapshot hists → IsOrdered list
ordered list snapshot hists is = is.order ∙ (λ i. in_order (sym (snapshot-held list snapshot hists is) i) (sym is.those i))

pub kept : (list : List EventTrigger) (snapshot : Option AttachedSnapshot) (hists : List AttachedHist) → Holds list snapshot hists → length hists ≤ 4 → IsKept list
kept list snapshot hists is few = let many = ap length is.those in (omega (arith, few, many), ordered list snapshot hists is)

-- ---- one of them

pub snapshot-found : (list : List EventTrigger) → option_and_then snapshot_of (find is_snapshot list) ≡ snapshot_in list
snapshot-found [] = refl
snapshot-found (Snapshot t ∷ list) = refl
snapshot-found (Hist a ∷ list) = snapshot-found list

pub hist-found : (test : AttachedHist → Bool) (list : List EventTrigger)
    → option_and_then hist_of (find (is_hist test) list) ≡ find test (hists_in list)
hist-found test [] = refl
hist-found test (Snapshot t ∷ list) = hist-found test list
hist-found test (Hist a ∷ list) = by (test a) (hist-found test list)
  where
    by : (passes : Bool) → option_and_then hist_of (find (is_hist test) list) ≡ find test (hists_in list)
        → option_and_then hist_of (if passes then Some (Hist a) else find (is_hist test) list) ≡ (if passes then Some a else find test (hists_in list))
    by true rest = refl
    by false rest = rest

pub any-hist : (test : AttachedHist → Bool) (list : List EventTrigger) → list_any (is_hist test) list ≡ list_any test (hists_in list)
any-hist test [] = refl
any-hist test (Snapshot t ∷ list) = any-hist test list
any-hist test (Hist a ∷ list) = rw (any-hist test list) refl

-- ---- hist triggers that are removed

abbrev pub without : (AttachedHist → Bool) → List EventTrigger → List EventTrigger
without test list = filter (λ (t : EventTrigger). not (is_hist test t)) list

abbrev pub others : (AttachedHist → Bool) → List AttachedHist → List AttachedHist
others test hists = filter (λ (a : AttachedHist). not (test a)) hists

hists-without : (test : AttachedHist → Bool) (list : List EventTrigger) → hists_in (without test list) ≡ others test (hists_in list)
hists-without test [] = refl
hists-without test (Snapshot t ∷ list) = hists-without test list
hists-without test (Hist a ∷ list) = by (test a) (hists-without test list)
  where
    by : (out : Bool) → hists_in (without test list) ≡ others test (hists_in list)
        → hists_in (if not out then Hist a ∷ without test list else without test list)
        ≡ (if not out then a ∷ others test (hists_in list) else others test (hists_in list))
    by true rest = rest
    by false rest = ap (λ (l : List AttachedHist). a ∷ l) rest

without-hists : (test : AttachedHist → Bool) (hists : List AttachedHist) → without test (map Hist hists) ≡ map Hist (others test hists)
without-hists test [] = refl
without-hists test (a ∷ hists) = by (test a) (without-hists test hists)
  where
    by : (out : Bool) → without test (map Hist hists) ≡ map Hist (others test hists)
        → (if not out then Hist a ∷ without test (map Hist hists) else without test (map Hist hists))
        ≡ map Hist (if not out then a ∷ others test hists else others test hists)
    by true rest = rest
    by false rest = ap (λ (l : List EventTrigger). Hist a ∷ l) rest

-- two filters in either order
filters : (p q : AttachedHist → Bool) (hists : List AttachedHist) → filter p (filter q hists) ≡ filter q (filter p hists)
filters p q [] = refl
filters p q (a ∷ hists) = by (p a) refl (q a) refl (filters p q hists)
  where
    by : (one : Bool) → p a ≡ one → (other : Bool) → q a ≡ other → filter p (filter q hists) ≡ filter q (filter p hists)
        → filter p (if other then a ∷ filter q hists else filter q hists) ≡ filter q (if one then a ∷ filter p hists else filter p hists)
    by true is true also rest = rw (is, also) (ap (λ (l : List AttachedHist). a ∷ l) rest)
    by true is false also rest = rw also rest
    by false is true also rest = rw is rest
    by false is false also rest = rest

without-order : (test : AttachedHist → Bool) (snapshot : Option AttachedSnapshot) (hists : List AttachedHist)
    → without test (in_order snapshot hists) ≡ in_order snapshot (others test hists)
without-order test None hists = without-hists test hists
without-order test (Some t) hists =
    let out : AttachedHist → Bool = λ a. not (test a) in
    let older : AttachedHist → Bool = λ a. nat_lt a.number t.number in
    let newer : AttachedHist → Bool = λ a. not (nat_lt a.number t.number) in
    filter-append (λ (u : EventTrigger). not (is_hist test u)) (map Hist (filter older hists)) (Snapshot t ∷ map Hist (filter newer hists))
    ∙ (λ i. without-hists test (filter older hists) i ++ Snapshot t ∷ without-hists test (filter newer hists) i)
    ∙ (λ i. map Hist (filters out older hists i) ++ Snapshot t ∷ map Hist (filters out newer hists i))

pub others-left : (test : AttachedHist → Bool) (list : List EventTrigger) → IsOrdered list → Holds (without test list) (snapshot_in list) (others test (hists_in list))
others-left test list is = record {
  order = ap (without test) is ∙ without-order test (snapshot_in list) (hists_in list);
  those = hists-without test list;
}

pub fewer-left : (test : AttachedHist → Bool) (hists : List AttachedHist) → length hists ≤ 4 → length (others test hists) ≤ 4
fewer-left test hists few =
    let both = length-filter_both test (λ a. not (test a)) (λ a. refl) hists in
    omega (arith, few, both)

pub none-left : (hists : List AttachedHist) → others (λ a. true) hists ≡ []
none-left [] = refl
none-left (a ∷ hists) = none-left hists

pub snapshot-only : (t : EventTrigger) → is_snapshot t ≡ not (is_hist (λ a. true) t)
snapshot-only (Snapshot t) = refl
snapshot-only (Hist a) = refl

-- ---- the one for snapshots is removed

abbrev pub without_snapshot : List EventTrigger → List EventTrigger
without_snapshot list = filter (λ (t : EventTrigger). not (is_snapshot t)) list

snapshot-gone : (list : List EventTrigger) → without_snapshot list ≡ map Hist (hists_in list)
snapshot-gone [] = refl
snapshot-gone (Snapshot t ∷ list) = snapshot-gone list
snapshot-gone (Hist a ∷ list) = ap (λ (l : List EventTrigger). Hist a ∷ l) (snapshot-gone list)

all-in : (hists : List AttachedHist) → hists_in (map Hist hists) ≡ hists
all-in [] = refl
all-in (a ∷ hists) = ap (λ (l : List AttachedHist). a ∷ l) (all-in hists)

pub hists-left : (list : List EventTrigger) → Holds (without_snapshot list) None (hists_in list)
hists-left list = record { order = snapshot-gone list; those = ap hists_in (snapshot-gone list) ∙ all-in (hists_in list) }

-- ---- one more

newer-than : (m n : ℕ) → m < n → nat_lt n m ≡ false
newer-than m n less = first_of (search (rules, tests), grind (arith, nat_tests, less))

older-than : (m n : ℕ) → m < n → nat_lt m n ≡ true
older-than m n less = first_of (search (rules, tests), grind (arith, nat_tests, less))

hist-last : (snapshot : Option AttachedSnapshot) (hists : List AttachedHist) (a : AttachedHist) → IfSome snapshot (λ t. t.number < a.number)
    → in_order snapshot hists ++ Hist a ∷ [] ≡ in_order snapshot (hists ++ a ∷ [])
hist-last None hists a after = sym (map-append Hist hists (a ∷ []))
hist-last (Some t) hists a after =
    let older : AttachedHist → Bool = λ b. nat_lt b.number t.number in
    let newer : AttachedHist → Bool = λ b. not (nat_lt b.number t.number) in
    let last : nat_lt a.number t.number ≡ false = newer-than t.number a.number after in
    rw (filter-append older hists (a ∷ []), filter-append newer hists (a ∷ []), last, append-nil, map-append Hist (filter newer hists) (a ∷ []))
    (append_assoc (map Hist (filter older hists)) (Snapshot t ∷ map Hist (filter newer hists)) (Hist a ∷ []))

all-older : (t : AttachedSnapshot) (hists : List AttachedHist) → All (λ (a : AttachedHist). a.number < t.number) hists → in_order (Some t) hists ≡ map Hist hists ++ Snapshot t ∷ []
all-older t [] all = refl
all-older t (a ∷ hists) all =
    let less : nat_lt a.number t.number ≡ true = older-than a.number t.number (All-head (λ (b : AttachedHist). b.number < t.number) a hists all) in
    rw less (ap (λ (l : List EventTrigger). Hist a ∷ l) (all-older t hists (All-tail (λ (b : AttachedHist). b.number < t.number) a hists all)))

-- one that is newer than all
pub one-more : (list : List EventTrigger) (one : EventTrigger) → IsNewest (number_of one) (snapshot_in list) (hists_in list) → IsOnly one (snapshot_in list)
    → IsOrdered list → Holds (list ++ one ∷ []) (with_snapshot one (snapshot_in list)) (hists_in list ++ hists_in (one ∷ []))
one-more list (Snapshot t) newest none is = record {
  order = ap (λ (l : List EventTrigger). l ++ Snapshot t ∷ []) (is ∙ ap (λ (s : Option AttachedSnapshot). in_order s (hists_in list)) none)
      ∙ sym (all-older t (hists_in list) newest.after_hists) ∙ ap (in_order (Some t)) (sym (append-nil (hists_in list)));
  those = filter_map-append hist_of list (Snapshot t ∷ []);
}
one-more list (Hist a) newest only is = record {
  order = ap (λ (l : List EventTrigger). l ++ Hist a ∷ []) is ∙ hist-last (snapshot_in list) (hists_in list) a newest.after_snapshot;
  those = filter_map-append hist_of list (Hist a ∷ []);
}

pub few-more : (list : List EventTrigger) (one : EventTrigger) → length (hists_in list) < 4 → length (hists_in list ++ hists_in (one ∷ [])) ≤ 4
few-more list (Snapshot t) few = let many = length-append (hists_in list) [] in omega (arith, few, many)
few-more list (Hist a) few = let many = length-append (hists_in list) (a ∷ []) in omega (arith, few, many)

-- ---- the one for snapshots is counted down

hists-counted : (list : List EventTrigger) → hists_in (map counted list) ≡ hists_in list
hists-counted [] = refl
hists-counted (Snapshot t ∷ list) = hists-counted list
hists-counted (Hist a ∷ list) = ap (λ (l : List AttachedHist). a ∷ l) (hists-counted list)

counted-hists : (hists : List AttachedHist) → map counted (map Hist hists) ≡ map Hist hists
counted-hists [] = refl
counted-hists (a ∷ hists) = ap (λ (l : List EventTrigger). Hist a ∷ l) (counted-hists hists)

counted-order : (snapshot : Option AttachedSnapshot) (hists : List AttachedHist) → map counted (in_order snapshot hists) ≡ in_order (counted_down snapshot) hists
counted-order None hists = counted-hists hists
counted-order (Some t) hists =
    let older : List AttachedHist = filter (λ (b : AttachedHist). nat_lt b.number t.number) hists in
    let newer : List AttachedHist = filter (λ (b : AttachedHist). not (nat_lt b.number t.number)) hists in
    map-append counted (map Hist older) (Snapshot t ∷ map Hist newer)
    ∙ (λ i. counted-hists older i ++ counted (Snapshot t) ∷ counted-hists newer i)

pub counted-once : (list : List EventTrigger) → IsOrdered list → Holds (map counted list) (counted_down (snapshot_in list)) (hists_in list)
counted-once list is = record {
  order = ap (map counted) is ∙ counted-order (snapshot_in list) (hists_in list);
  those = hists-counted list;
}

-- ---- how many there are

many-hists : (hists : List AttachedHist) → length (map Hist hists) ≡ length hists
many-hists hists = length-map hists Hist

pub many-there : (list : List EventTrigger) → IsOrdered list → length list ≡ length (hists_in list) + (if is_some (snapshot_in list) then 1 else 0)
many-there list is = ap length is ∙ by (snapshot_in list) (hists_in list)
  where
    by : (snapshot : Option AttachedSnapshot) (hists : List AttachedHist) → length (in_order snapshot hists) ≡ length hists + (if is_some snapshot then 1 else 0)
    by None hists = omega (arith, many-hists hists)
    by (Some t) hists =
        let older : AttachedHist → Bool = λ a. nat_lt a.number t.number in
        let newer : AttachedHist → Bool = λ a. not (nat_lt a.number t.number) in
        let all = length-append (map Hist (filter older hists)) (Snapshot t ∷ map Hist (filter newer hists)) in
        let both = length-filter_both older newer (λ a. refl) hists in
        omega (arith, all, both, many-hists (filter older hists), many-hists (filter newer hists))

pub hist-only : (t : EventTrigger) → not (is_snapshot t) ≡ is_hist (λ a. true) t
hist-only (Snapshot t) = refl
hist-only (Hist a) = refl

-- ---- one after the other

-- a loop over a list is at an index: what is left of its hist triggers is what is left of these, from another index on
pub record IsAt (list : List EventTrigger) (hists : List AttachedHist) (i k : ℕ) : Type 0 where
  pub left : drop k hists ≡ hists_in (drop i list)
  pub few : length hists ≤ 4

pub past-snapshot : {list : List EventTrigger} {hists : List AttachedHist} {i k : ℕ} {one : EventTrigger} {t : AttachedSnapshot} → IsAt list hists i k
    → i < length list → one ≡ get_or list i one → one ≡ Snapshot t → IsAt list hists (i + 1) k
past-snapshot {list} {hists} {i} {k} {one} {t} at inside is snapshot = record {
  left = at.left ∙ at_drop_more hists_in list i one inside ∙ ap (λ (u : EventTrigger). hists_in (u ∷ drop (i + 1) list)) (sym is ∙ snapshot);
  few = at.few;
}

pub all-seen : {list : List EventTrigger} {hists : List AttachedHist} {i k : ℕ} → IsAt list hists i k → length list ≤ i → length hists ≤ k
all-seen {list} {hists} {i} {k} at past =
    let none = ap length (at.left ∙ at_drop_all hists_in list i past) in
    omega (arith, none, length-drop k hists)

-- it is at a hist trigger
pub record IsHere (list : List EventTrigger) (hists : List AttachedHist) (i k : ℕ) (a : AttachedHist) : Type 0 where
  pub inside : k < length hists
  pub small : k < 4
  pub is : a ≡ get_or hists k a
  pub next : IsAt list hists (i + 1) (k + 1)

first-left : (k : ℕ) (hists rest : List AttachedHist) (a : AttachedHist) → drop k hists ≡ a ∷ rest
    → (k < length hists) × (a ≡ get_or hists k a) × (drop (k + 1) hists ≡ rest)
first-left zero [] rest a is = absurd (cc)
first-left (suc k) [] rest a is = absurd (cc)
first-left zero (b ∷ hists) rest a is = (omega arith, sym (ap (λ (l : List AttachedHist). get_or l 0 a) is), ap (drop 1) is)
first-left (suc k) (b ∷ hists) rest a is =
    let next : suc k + 1 ≡ suc (k + 1) = omega arith in
    let at = first-left k hists rest a is in (omega (arith, at.0), at.1, rw next at.2)

pub here : {list : List EventTrigger} {hists : List AttachedHist} {i k : ℕ} {one : EventTrigger} {a : AttachedHist} → IsAt list hists i k → i < length list
    → one ≡ get_or list i one → one ≡ Hist a → IsHere list hists i k a
here {list} {hists} {i} {k} {one} {a} at inside is hist =
    let first = first-left k hists (hists_in (drop (i + 1) list)) a
    (at.left ∙ at_drop_more hists_in list i one inside ∙ ap (λ (u : EventTrigger). hists_in (u ∷ drop (i + 1) list)) (sym is ∙ hist)) in
    record { inside = first.0; small = omega (arith, at.few, first.0); is = first.1; next = record { left = first.2; few = at.few } }

-- ---- what files show

shown-hists : (tables : List Table) (list : List EventTrigger)
    → filter_map shown_hist (map (shown_of tables) list) ≡ filter_map shown_hist (map (shown_attached tables) (hists_in list))
shown-hists tables [] = refl
shown-hists tables (Snapshot t ∷ list) = shown-hists tables list
shown-hists tables (Hist a ∷ list) = rw (shown-hists tables list) refl

pub hists-shown : (tables : List Table) (list : List EventTrigger) → hist_text (map (shown_of tables) list) ≡ hist_text (map (shown_attached tables) (hists_in list))
unfolding hist_text
hists-shown tables list = ap (join_by one_hist (codes "\n")) (shown-hists tables list)

pub has-table : (tables : List Table) (list : List EventTrigger) (i : ℕ) (one : EventTrigger) → AreThere tables (hists_in list) → i < length list
    → one ≡ get_or list i one → HasTable tables one
has-table tables [] i one all inside is = absurd (omega (arith, inside))
has-table tables (Snapshot t ∷ list) zero one all inside is = rw is tt
has-table tables (Hist a ∷ list) zero one all inside is = rw is (all 0 a (omega arith))
has-table tables (Snapshot t ∷ list) (suc i) one all inside is = has-table tables list i one all (omega (arith, inside)) is
has-table tables (Hist a ∷ list) (suc i) one all inside is =
    has-table tables list i one (λ k d within. all (suc k) d (omega (arith, within))) (omega (arith, inside)) is
