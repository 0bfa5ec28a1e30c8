-- Filters that are written: of one event, and of all.
use Rattle.std.proofs.Common.{◌≡◌, ◌≢◌, ℕ, ◌+◌, ◌<◌, Bool, true, false, ◌||◌, List, [], ◌∷◌, ◌++◌, length, map, drop, get_or, append_assoc, Option, Some, None, Result, Ok, Err, refl, sym, ap, ◌∙◌, subst, arith}
use Rattle.std.proofs.lemmas.List.{at_drop_more}
use Rattle.std.specs.List.{list_any}
use Rattle.trace_filter.specs.declared.fault.FilterFault.{FilterFault}
use Rattle.trace_filter.specs.declared.fault.FilterFault.TheVariants as filter_fault
use Rattle.trace_filter.specs.Filters.{Parsed, IsFilterOf, IsAnswered, parsed_of, answer_of}
use Rattle.trace_format.specs.Definitions.{Definition}
use Rattle.tracer_specification.specs.History.{filter_answer, filter_of_all_answer}
use Rattle.trace_command.specs.Refusals.{refusal_of_filter, IsFoundEarly, IsRefusal}
use Rattle.tracer_specification.specs.Settings.{clears_filter, can_take}
use Rattle.trace_command.specs.declared.command.Reply.TheVariants as reply
use Rattle.trace_command.specs.declared.refusal.Refusal.{Refusal}
use Rattle.trace_command.specs.declared.refusal.Refusal.TheVariants as refusal
use Rattle.trace_instance.specs.Changes.{change_of, changed_filter, changed_filters, is_set}
use Rattle.trace_instance.specs.private.Commands.{IsWrittenFilter}
use Rattle.trace_instance.specs.declared.change.FilterChange.{FilterChange}
use Rattle.trace_instance.specs.declared.change.FilterChange.TheVariants as change
use Rattle.trace_instance.proofs.Calm.{either-same}

-- ---- one filter

kept-is : (event : Definition) (text : List ℕ) (kept : Parsed) → IsFilterOf event text kept → kept ≡ parsed_of event text
kept-is event text kept is = λ i. record { text = is.text i; subjects = is.subjects i }

pub filter-clears : (text : List ℕ) (event : Definition) → clears_filter text ≡ true → IsWrittenFilter text event (Ok None)
unfolding filter_answer
filter-clears text event off = (rw off refl, rw off refl)

pub filter-reads : (text : List ℕ) (event : Definition) (kept : Parsed) → clears_filter text ≡ false → IsFilterOf event text kept → answer_of event text ≡ Ok kept
    → IsWrittenFilter text event (Ok (Some kept))
unfolding filter_answer
filter-reads text event kept on is answered = (rw (on, answered) refl, rw on (ap Some (kept-is event text kept is)))

-- none of the refusals of a filter is found early
filter-late : (text : List ℕ) (event : Definition) → IsFoundEarly (filter_answer text event) → ⊥
unfolding filter_answer
filter-late text event early = by (clears_filter text) (answer_of event text) refl refl
  where
    by : (off : Bool) (answered : Result Parsed FilterFault) → clears_filter text ≡ off → answer_of event text ≡ answered → ⊥
    by true answered off is = rw off at early
    by false (Ok kept) off is = rw (off, is) at early
    by false (Err filter_fault.Memory) off is = absurd (let h = rw (off, is) at early in cc)
    by false (Err fault) off is = absurd (let h = rw (off, is) at early in cc)

pub filter-refuses : (text : List ℕ) (event : Definition) (fault : FilterFault) → clears_filter text ≡ false → IsAnswered (Err fault) (answer_of event text)
    → IsWrittenFilter text event (Err (refusal_of_filter fault))
unfolding filter_answer
filter-refuses text event filter_fault.Memory on is = (λ other. absurd (other refl), λ early. absurd (filter-late text event early))
filter-refuses text event fault on is = (λ other. rw (on, is) refl, λ early. rw (on, is) refl)

-- ---- a filter of all events

pub change-takes : (text : List ℕ) (event : Definition) (kept : Parsed) → IsFilterOf event text kept → answer_of event text ≡ Ok kept
    → change.Set kept ≡ change_of text event
unfolding can_take
change-takes text event kept is answered = rw answered (ap (λ (k : Parsed). change.Set k) (kept-is event text kept is))

pub change-keeps : (text : List ℕ) (event : Definition) (fault : FilterFault) → IsAnswered (Err fault) (answer_of event text)
    → fault ≢ filter_fault.Memory → change.Keep ≡ change_of text event
unfolding can_take
change-keeps text event filter_fault.Memory is other = absurd (other refl)
change-keeps text event fault is other =
    let answered : answer_of event text ≡ Err fault = is in
    rw answered refl

-- an event gets a filter exactly where it can take it
set-can : (text : List ℕ) (event : Definition) → is_set (change_of text event) ≡ can_take text event
set-can text event = by (can_take text event) refl
  where
    by : (can : Bool) → can_take text event ≡ can → is_set (change_of text event) ≡ can_take text event
    by true is = rw is refl
    by false is = rw is refl

some-can : (text : List ℕ) (events : List Definition)
    → list_any (λ (event : Definition). is_set (change_of text event)) events ≡ list_any (can_take text) events
some-can text events = λ i. list_any (λ (event : Definition). set-can text event i) events

pub all-done : (text : List ℕ) (event : Definition) (events : List Definition) → filter_answer text event ≡ Ok reply.Done
    → filter_of_all_answer text (event ∷ events) ≡ Ok reply.Done
unfolding filter_of_all_answer
all-done text event events done = rw done (either-same (list_any (can_take text) (event ∷ events)) (Ok reply.Done))

-- none of its refusals is found early, where there is an event
pub all-late : (text : List ℕ) (event : Definition) (events : List Definition) → IsFoundEarly (filter_of_all_answer text (event ∷ events)) → ⊥
unfolding filter_of_all_answer
all-late text event events early = by (list_any (can_take text) (event ∷ events)) refl
  where
    by : (some : Bool) → list_any (can_take text) (event ∷ events) ≡ some → ⊥
    by true is = rw is at early
    by false is = filter-late text event (rw is at early)

-- a first event
cons-at : (events : List Definition) (event : Definition) → 0 < length events → event ≡ get_or events 0 event → (rest : List Definition) × (events ≡ event ∷ rest)
cons-at [] event inside is = absurd (omega arith)
cons-at (first ∷ rest) event inside is = (rest, ap (λ (e : Definition). e ∷ rest) (sym is))

pub no-event-refused : (text : List ℕ) (events : List Definition) → length events ≡ 0 → filter_of_all_answer text events ≡ Err refusal.NoSuchEvent
unfolding filter_of_all_answer
no-event-refused text [] none = refl
no-event-refused text (event ∷ events) none = absurd (omega (arith, none))

-- where there is one, a text that clears is done
pub cleared-all : (text : List ℕ) (events : List Definition) → 0 < length events → clears_filter text ≡ true → filter_of_all_answer text events ≡ Ok reply.Done
unfolding filter_answer
cleared-all text [] inside off = absurd (omega arith)
cleared-all text (event ∷ events) inside off = all-done text event events (rw off refl)

pub taken-by-some : (text : List ℕ) (events : List Definition) → 0 < length events → list_any (λ (e : Definition). is_set (change_of text e)) events ≡ true
    → filter_of_all_answer text events ≡ Ok reply.Done
unfolding filter_of_all_answer
taken-by-some text [] inside some = absurd (omega arith)
taken-by-some text (event ∷ events) inside some =
    let can : list_any (can_take text) (event ∷ events) ≡ true = sym (some-can text (event ∷ events)) ∙ some in
    rw can refl

pub first-takes : (text : List ℕ) (events : List Definition) (event : Definition) (kept : Option Parsed) → 0 < length events → event ≡ get_or events 0 event
    → IsWrittenFilter text event (Ok kept) → filter_of_all_answer text events ≡ Ok reply.Done
first-takes text events event kept inside is written =
    let cons = cons-at events event inside is in
    rw cons.1 (all-done text event cons.0 written.0)

pub first-refuses : (text : List ℕ) (events : List Definition) (event : Definition) (r : Refusal) → 0 < length events → event ≡ get_or events 0 event
    → list_any (λ (e : Definition). is_set (change_of text e)) events ≡ false → IsWrittenFilter text event (Err r)
    → IsRefusal r (filter_of_all_answer text events)
unfolding filter_of_all_answer
first-refuses text events event r inside is none written =
    let cons = cons-at events event inside is in
    let can : list_any (can_take text) (event ∷ cons.0) ≡ false = sym (some-can text (event ∷ cons.0)) ∙ (rw cons.1 at none) in
    let refused : r ≢ refusal.Memory → filter_of_all_answer text events ≡ Err r = λ other. rw (cons.1, can, written.0 other) refl in
    (refused, λ early. absurd (all-late text event cons.0 (subst (λ (es : List Definition). IsFoundEarly (filter_of_all_answer text es)) cons.1 early)))

pub changed-map : (f : Definition → FilterChange) (h : Definition → Option Parsed) (events : List Definition)
    → changed_filters (map f events) (map h events) ≡ map (λ (e : Definition). changed_filter (f e) (h e)) events
changed-map f h [] = refl
changed-map f h (event ∷ events) = let rest = changed-map f h events in cc

-- ---- the changes so far

-- one more is pushed
pub map-step : {X Y : Type 0} (f : X → Y) (xs : List X) (i : ℕ) (x : X) (done new all : List Y) → i < length xs → x ≡ get_or xs i x
    → new ≡ done ++ f x ∷ [] → done ++ map f (drop i xs) ≡ all → new ++ map f (drop (i + 1) xs) ≡ all
map-step {X} {Y} f xs i x done new all inside here pushed was =
    ap (λ (l : List Y). l ++ map f (drop (i + 1) xs)) pushed ∙ append_assoc done (f x ∷ []) (map f (drop (i + 1) xs))
    ∙ ap (λ (l : List Y). done ++ l) (ap (λ (y : X). f y ∷ map f (drop (i + 1) xs)) here ∙ sym (at_drop_more (map f) xs i x inside))
    ∙ was

-- one more passes, or not
pub any-step : {X : Type 0} (p : X → Bool) (xs : List X) (i : ℕ) (x : X) (some all : Bool) → i < length xs → x ≡ get_or xs i x
    → (some || list_any p (drop i xs)) ≡ all → ((some || p x) || list_any p (drop (i + 1) xs)) ≡ all
any-step p xs i x true all inside here was = was
any-step {X} p xs i x false all inside here was =
    ap (λ (y : X). p y || list_any p (drop (i + 1) xs)) here ∙ sym (at_drop_more (list_any p) xs i x inside) ∙ was
