-- The filters that events have after requests that were done.
use Rattle.std.proofs.Common.{◌≡◌, ◌⊎◌, inl, inr, ℕ, Bool, true, false, if◌then◌else◌, List, [], ◌∷◌, bytes_eq, Option, None, Some, unwrap_or, IsOk, is_ok, is_some, Result, Ok, Err, refl, sym, ap, ◌∙◌, subst}
use Rattle.std.specs.Option.{option_to_list}
use Rattle.std.proofs.lemmas.Bool.{false≢true}
use Rattle.std.proofs.lemmas.Option.{none-some, same_Some}
use Rattle.std.proofs.lemmas.Slice.Eq.{bytes_eq-Decides}
use Rattle.trace_filter.specs.declared.fault.FilterFault.{FilterFault}
use Rattle.trace_filter.specs.Filters.{Parsed, IsFilter, IsRefused, answer_of}
use Rattle.trace_filter.proofs.FilterLemmas.{filter_or_refused, refusal_is_answered, holds_as_its_tree}
use Rattle.trace_format.specs.Definitions.{Definition}
use Rattle.trace_lex.proofs.Options.{if_some}
use Rattle.tracer_specification.specs.History.{answer_with_room, missing_event, unless_refused, named_filter_answer, filter_answer, taken_answer}
use Rattle.tracer_specification.specs.Laws.{FiltersAreOfTheirEvents, FiltersHoldAsTheirTrees}
use Rattle.tracer_specification.specs.Pasts.{AreDone}
use Rattle.trace_command.specs.Paths.{File, OfInstance, OfEvent}
use Rattle.trace_command.specs.Requests.{Request, WriteFile}
use Rattle.trace_command.specs.declared.file_name.EventFile.TheVariants as per_event
use Rattle.trace_command.specs.declared.file_name.TopFile.TheVariants as top
use Rattle.tracer_specification.specs.Emissions.{filter_holds}
use Rattle.tracer_specification.specs.Settings.{NumberedEvent, set_by, is_same, makes, event_named, declares, declared_events, clears_filter, can_take, written_filter, written_to_all, sets_filter, filter_of}
use Rattle.trace_command.specs.declared.command.Config.{Config}
use Rattle.trace_command.specs.declared.refusal.Refusal.TheVariants.{NoSuchEvent}
use Rattle.tracer_specification.proofs.Events.{named_in-fewer}
use Rattle.tracer_specification.proofs.LegalEvents.{asked-done, named_in-more, named-is_definition}

-- ---- what a write sets

-- a text that an event can take is a filter of it
takes-is_filter : (text : List ℕ) (event : Definition) → can_take text event ≡ true → IsFilter event text
unfolding can_take
takes-is_filter text event can = by (filter_or_refused event text)
  where
    by : IsFilter event text ⊎ ((fault : FilterFault) × IsRefused event text fault) → IsFilter event text
    by (inl is) = is
    by (inr refused) =
        let answered : answer_of event text ≡ Err refused.0 = (refusal_is_answered event text refused.0).0 refused.1 in
        absurd (let h : false ≡ true = rw answered at can in false≢true h)

-- a request that sets something by a write to a file of an instance
record IsWrite {A : Type 0} (instance : Option (List ℕ)) (sets : File → List ℕ → Option A) (request : Request) (v : A) : Type 0 where
  other : Option (List ℕ)
  file : File
  append : Bool
  written : List ℕ
  is : request ≡ WriteFile other (Some file) append written
  sets_it : sets file written ≡ Some v

set-is_write : {A : Type 0} (instance : Option (List ℕ)) (sets : File → List ℕ → Option A) (request : Request) (v : A) → set_by instance sets request ≡ Some v
    → IsWrite instance sets request v
set-is_write instance sets (WriteFile other (Some file) append written) v is = by (is_same instance other) is
  where
    by : (same : Bool) → (if same then sets file written else None) ≡ Some v
        → IsWrite instance sets (WriteFile other (Some file) append written) v
    by true h = record { other = other; file = file; append = append; written = written; is = refl; sets_it = h }
    by false h = absurd (none-some v h)
set-is_write instance sets _ v is = absurd (none-some v is)

-- what the write of a filter that was done says of its event
asked-named : (g : Config) (other : Option (List ℕ)) (past : List Request) (append : Bool) (event written name : List ℕ) (found : Option NumberedEvent)
    → IsOk (answer_with_room g past (WriteFile other (Some (OfEvent event per_event.Filter)) append written)) → bytes_eq name event ≡ true → event_named name past ≡ found
    → IsOk (unless_refused (if is_some found then None else Some NoSuchEvent) (named_filter_answer written found))
asked-named g other past append event written name found done named is =
    let same : name ≡ event = (bytes_eq-Decides name event).0 named in
    let there : event_named event past ≡ found = ap (λ (n : List ℕ). event_named n past) (sym same) ∙ is in
    let asked : IsOk (unless_refused (missing_event past event) (named_filter_answer written (event_named event past))) =
    asked-done other past (unless_refused (missing_event past event) (named_filter_answer written (event_named event past))) done in
    rw there at asked

-- a filter that a write sets for an event is one that the event can take
taken-by : (g : Config) (other : Option (List ℕ)) (past : List Request) (append : Bool) (file : File) (written name : List ℕ) (k : NumberedEvent) (text : List ℕ)
    → IsOk (answer_with_room g past (WriteFile other (Some file) append written)) → event_named name past ≡ Some k
    → sets_filter name past file written ≡ Some (Some text) → can_take text k.event ≡ true
unfolding filter_answer can_take
taken-by g other past append (OfEvent event per_event.Filter) written name k text done there sets =
    let set = if_some (bytes_eq name event) sets in
    by_clears (clears_filter written) refl (asked-named g other past append event written name (Some k) done set.0 there) set.1
  where
    by_answer : (answered : Result Parsed FilterFault) → answer_of k.event written ≡ answered → IsOk (taken_answer answered) → is_ok (answer_of k.event written) ≡ true
    by_answer (Ok filter) is d = rw is refl
    by_answer (Err fault) is d = absurd (false≢true d)

    by_clears : (off : Bool) → clears_filter written ≡ off → IsOk (filter_answer written k.event) → written_filter written ≡ Some text → can_take text k.event ≡ true
    by_clears true is d s = absurd (let h : None ≡ Some text = rw is at s in none-some text h)
    by_clears false is d s =
        let h : Some written ≡ Some text = rw is at s in
        let same : written ≡ text = same_Some _ _ h in
        rw (← same) (by_answer (answer_of k.event written) refl (rw is at d))
taken-by g other past append (OfInstance top.EventsFilter) written name k text done there sets =
    by (clears_filter written) (can_take written k.event) refl refl (rw there at sets)
  where
    by : (off can : Bool) → clears_filter written ≡ off → can_take written k.event ≡ can → written_to_all written (Some k) ≡ Some (Some text) → can_take text k.event ≡ true
    by true can is are s = absurd (let h : Some None ≡ Some (Some text) = rw is at s in none-some text (same_Some _ _ h))
    by false false is are s = absurd (let h : None ≡ Some (Some text) = rw (is, are) at s in none-some (Some text) h)
    by false true is are s =
        let h : Some (Some written) ≡ Some (Some text) = rw (is, are) at s in
        let same : written ≡ text = same_Some _ _ (same_Some _ _ h) in
        rw (← same) are
taken-by g other past append _ written name k text done there sets = absurd (none-some (Some text) sets)

-- a write sets none for an event that is not declared
none-by : (g : Config) (other : Option (List ℕ)) (past : List Request) (append : Bool) (file : File) (written name : List ℕ)
    → IsOk (answer_with_room g past (WriteFile other (Some file) append written)) → event_named name past ≡ None → sets_filter name past file written ≡ None
none-by g other past append (OfEvent event per_event.Filter) written name done none = by (bytes_eq name event) refl
  where
    by : (same : Bool) → bytes_eq name event ≡ same → (if same then Some (written_filter written) else None) ≡ None
    by false is = refl
    by true is = absurd (let h : false ≡ true = asked-named g other past append event written name None done is none in false≢true h)
none-by g other past append (OfInstance top.EventsFilter) written name done none = rw none refl
none-by g other past append _ written name done none = refl

-- the filter that a request sets for an event of an instance
abbrev filter_set : Option (List ℕ) → List ℕ → List Request → Request → Option (Option (List ℕ))
filter_set instance name past request = set_by instance (sets_filter name past) request

set-is_taken : (g : Config) (instance : Option (List ℕ)) (past : List Request) (request : Request) (name : List ℕ) (k : NumberedEvent) (text : List ℕ)
    → IsOk (answer_with_room g past request) → event_named name past ≡ Some k → filter_set instance name past request ≡ Some (Some text)
    → can_take text k.event ≡ true
set-is_taken g instance past request name k text done there sets =
    let write = set-is_write instance (sets_filter name past) request (Some text) sets in
    taken-by g write.other past write.append write.file write.written name k text
    (subst (λ (r : Request). IsOk (answer_with_room g past r)) write.is done) there write.sets_it

set-none : (g : Config) (instance : Option (List ℕ)) (past : List Request) (request : Request) (name : List ℕ) → IsOk (answer_with_room g past request)
    → event_named name past ≡ None → filter_set instance name past request ≡ None
set-none g instance past (WriteFile other (Some file) append written) name done none = by (is_same instance other)
  where
    by : (same : Bool) → (if same then sets_filter name past file written else None) ≡ None
    by true = none-by g other past append file written name done none
    by false = refl
set-none g instance past _ name done none = refl

-- ---- the filter that an event has

-- the filter after a request that sets one or not, where one stood before: none where a life of the instance begins
abbrev left : Option (List ℕ) → Bool → Option (Option (List ℕ)) → Option (List ℕ)
left before new set = if new then None else unwrap_or set before

-- none before the event is declared, and then one that it can take
record IsTaken (instance : Option (List ℕ)) (name : List ℕ) (past : List Request) : Type 0 where
  unfiltered : event_named name past ≡ None → filter_of instance name past ≡ None
  taken : (k : NumberedEvent) (text : List ℕ) → event_named name past ≡ Some k → filter_of instance name past ≡ Some text → can_take text k.event ≡ true

taken-after : (g : Config) (instance : Option (List ℕ)) (past : List Request) (request : Request) (name : List ℕ) → IsOk (answer_with_room g past request)
    → IsTaken instance name past → IsTaken instance name (request ∷ past)
taken-after g instance past request name done before = record { unfiltered = unfiltered; taken = taken }
  where
    more : List Definition
    more = option_to_list (declares request)

    none_left : (new : Bool) → event_named name past ≡ None → left (filter_of instance name past) new (filter_set instance name past request) ≡ None
    none_left true none = refl
    none_left false none =
        ap (λ (o : Option (Option (List ℕ))). unwrap_or o (filter_of instance name past)) (set-none g instance past request name done none)
        ∙ before.unfiltered none

    unfiltered : event_named name (request ∷ past) ≡ None → filter_of instance name (request ∷ past) ≡ None
    unfiltered none = none_left (makes instance request) (named_in-fewer name (declared_events past) more none)

    taken : (k : NumberedEvent) (text : List ℕ) → event_named name (request ∷ past) ≡ Some k → filter_of instance name (request ∷ past) ≡ Some text
        → can_take text k.event ≡ true
    taken k text there stands = by (event_named name past) refl
      where
        by_set : (old : NumberedEvent) → event_named name past ≡ Some old → old ≡ k → (set : Option (Option (List ℕ))) → filter_set instance name past request ≡ set
            → unwrap_or set (filter_of instance name past) ≡ Some text → can_take text k.event ≡ true
        by_set old was same None is s = before.taken k text (was ∙ ap Some same) s
        by_set old was same (Some None) is s = absurd (none-some text s)
        by_set old was same (Some (Some written)) is s =
            let text_same : written ≡ text = same_Some _ _ s in
            set-is_taken g instance past request name k text done (was ∙ ap Some same) (is ∙ ap (λ (t : List ℕ). Some (Some t)) text_same)

        by_life : (old : NumberedEvent) → event_named name past ≡ Some old → old ≡ k → (new : Bool)
            → left (filter_of instance name past) new (filter_set instance name past request) ≡ Some text → can_take text k.event ≡ true
        by_life old was same true s = absurd (none-some text s)
        by_life old was same false s = by_set old was same (filter_set instance name past request) refl s

        by : (old : Option NumberedEvent) → event_named name past ≡ old → can_take text k.event ≡ true
        by None none = absurd (none-some text (sym (none_left (makes instance request) none) ∙ stands))
        by (Some old) was =
            let e : Some old ≡ Some k = sym (named_in-more name (declared_events past) more old was) ∙ there in
            let same : old ≡ k = same_Some _ _ e in
            by_life old was same (makes instance request) stands

taken-done : (g : Config) (past : List Request) (instance : Option (List ℕ)) (name : List ℕ) → AreDone g past → IsTaken instance name past
taken-done g [] instance name done = record { unfiltered = λ none. refl; taken = λ k text there stands. absurd (none-some text stands) }
taken-done g (request ∷ past) instance name done = taken-after g instance past request name done.0 (taken-done g past instance name done.1)

-- ---- the theorems

pub standing_filters_are_filters : FiltersAreOfTheirEvents
standing_filters_are_filters g past instance name k text done there stands =
    takes-is_filter text k.event ((taken-done g past instance name done).taken k text there stands)

pub filters_hold_as_their_trees : FiltersHoldAsTheirTrees
unfolding filter_holds
filters_hold_as_their_trees g past instance name k text row cpu pid done there stands is_row =
    holds_as_its_tree k.event text row (record { values = row.values; cpu = cpu; pid = pid })
    (standing_filters_are_filters g past instance name k text done there stands) (named-is_definition g past name k done there) is_row refl
