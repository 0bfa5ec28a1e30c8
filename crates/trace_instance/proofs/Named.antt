-- The table that a text names: the trigger that a book finds in its lists has the same one as the trigger that the requests name.
use Rattle.std.proofs.Common.{◌≡◌, ℕ, Bool, true, false, if◌then◌else◌, List, [], ◌∷◌, ◌++◌, length, map, set, Option, None, Some, option_map, refl, sym, ap, ◌∙◌}
use Rattle.std.specs.List.{find, flat_map}
use Rattle.std.proofs.lemmas.Bool.{false≢true}
use Rattle.std.proofs.lemmas.List.{map-append, map-set}
use Rattle.trace_format.specs.Definitions.{Definition}
use Rattle.trace_trigger.specs.FittingSpecs.{is_fitting}
use Rattle.trace_trigger.specs.HistSpecs.{SpecSeen}
use Rattle.trace_trigger.proofs.FittingLaws.{fitting_is_transitive}
use Rattle.trace_command.specs.Requests.{Request}
use Rattle.tracer_specification.specs.HistTriggers.{HistTrigger, fits_that, hist_triggers, is_name_of, left_by, named_by, names_table_of, table_or}
use Rattle.tracer_specification.specs.Settings.{declared_events}
use Rattle.tracer_specification.proofs.EventHists.{tables-apart}
use Rattle.tracer_specification.proofs.Members.{IsIn, each-in}
use Rattle.tracer_specification.proofs.NamedTables.{AllFit, one-table}
use Rattle.tracer_specification.proofs.OwnFiles.{all-named}
use Rattle.tracer_specification.proofs.Tables.{AreApart, IsFound, found-in, name-same, none-found}
use Rattle.trace_instance.specs.KeptHists.{attached_as, kept_hists}
use Rattle.trace_instance.specs.private.Attaching.{AreKept}
use Rattle.trace_instance.specs.private.SharedTables as sharing
use Rattle.trace_instance.specs.private.SharedTables.{left_of, named_in}
use Rattle.trace_instance.specs.declared.attach.EventTriggers.{EventTriggers}
use Rattle.trace_instance.specs.declared.hists.AttachedHist.{AttachedHist}
use Rattle.trace_instance.proofs.BookLists.{flat, event_lists, lists_left, lists-left, left-lists}
use Rattle.trace_instance.proofs.FittingTables.{left-there, tables-fit}

-- ---- what a book finds

find-map : {A B : Type 0} (test : B → Bool) (f : A → B) (xs : List A) → find test (map f xs) ≡ option_map f (find (λ (x : A). test (f x)) xs)
find-map test f [] = refl
find-map {A = A} test f (x ∷ xs) = by (test (f x)) (find-map test f xs)
  where
    by : (passes : Bool) → find test (map f xs) ≡ option_map f (find (λ (y : A). test (f y)) xs)
        → (if passes then Some (f x) else find test (map f xs)) ≡ option_map f (if passes then Some x else find (λ (y : A). test (f y)) xs)
    by true rest = refl
    by false rest = rest

-- triggers as they are kept
abbrev all_as : List HistTrigger → List AttachedHist
all_as hists = map attached_as hists

flat-as : (lists : List (List HistTrigger)) → flat_map (λ (hists : List AttachedHist). hists) (map all_as lists) ≡ all_as (flat lists)
flat-as [] = refl
flat-as (hists ∷ lists) = ap (λ (rest : List AttachedHist). all_as hists ++ rest) (flat-as lists) ∙ sym (map-append attached_as hists (flat lists))

lists-as : (name : Option (List ℕ)) (past : List Request) (events : List Definition)
    → map (kept_hists name past) events ≡ map all_as (event_lists (hist_triggers name past) events)
lists-as name past [] = refl
lists-as name past (event ∷ events) = ap (λ (rest : List (List AttachedHist)). kept_hists name past event ∷ rest) (lists-as name past events)

-- the hist triggers of a book that a text leaves
abbrev pub book_left : Option (List ℕ) → List Request → EventTriggers → Bool → List HistTrigger
book_left name past triggers append = flat (lists_left (hist_triggers name past) (declared_events past) triggers.event append)

left-as : (name : Option (List ℕ)) (past : List Request) (event : Definition) (triggers : EventTriggers) (append : Bool) → AreKept name past event triggers
    → left_of triggers append ≡ map all_as (lists_left (hist_triggers name past) (declared_events past) triggers.event append)
left-as name past event triggers true are = are.all ∙ lists-as name past (declared_events past)
left-as name past event triggers false are =
    ap (λ (all : List (List AttachedHist)). set all triggers.event []) (are.all ∙ lists-as name past (declared_events past))
    ∙ sym (map-set all_as (event_lists (hist_triggers name past) (declared_events past)) triggers.event [])

-- a book finds one of the hist triggers
pub found-as : (name : Option (List ℕ)) (past : List Request) (event : Definition) (triggers : EventTriggers) (append : Bool) (spec : SpecSeen)
    → AreKept name past event triggers
    → named_in spec (left_of triggers append) ≡ option_map attached_as (named_by spec (book_left name past triggers append))
found-as name past event triggers append spec are =
    ap (λ (lists : List (List AttachedHist)). named_in spec lists) (left-as name past event triggers append are)
    ∙ ap (find (sharing.names_table_of spec)) (flat-as (lists_left (hist_triggers name past) (declared_events past) triggers.event append))
    ∙ find-map (sharing.names_table_of spec) attached_as (book_left name past triggers append)

-- ---- the table that a text names

-- two lists name the same table, and a text fits it in both or in none
pub record NameAlike (number : ℕ) (spec : SpecSeen) (one other : Option HistTrigger) : Type 0 where
  pub table : table_or number one ≡ table_or number other
  pub fits : fits_that spec one ≡ fits_that spec other

both-ways : (a b : Bool) → (a ≡ true → b ≡ true) → (b ≡ true → a ≡ true) → a ≡ b
both-ways true true there back = refl
both-ways true false there back = absurd (false≢true (there refl))
both-ways false true there back = absurd (false≢true (back refl))
both-ways false false there back = refl

named-alike : (number : ℕ) (spec : SpecSeen) (all one other : List HistTrigger) → AreApart all → AllFit all
    → ((t : HistTrigger) → IsIn t one → IsIn t other) → ((t : HistTrigger) → IsIn t other → IsIn t one) → ((t : HistTrigger) → IsIn t other → IsIn t all)
    → NameAlike number spec (named_by spec one) (named_by spec other)
named-alike number spec all one other apart fit there back among = by (named_by spec one) (named_by spec other) refl refl
  where
    lost : (hists : List HistTrigger) (t : HistTrigger) → named_by spec hists ≡ None → IsIn t hists → names_table_of spec t ≡ true → ⊥
    lost hists t none in_it names =
        false≢true (sym (each-in (λ (u : HistTrigger). names_table_of spec u ≡ false) t hists (none-found spec hists none) in_it) ∙ names)

    by : (first second : Option HistTrigger) → named_by spec one ≡ first → named_by spec other ≡ second → NameAlike number spec first second
    by None None none also = record { table = refl; fits = refl }
    by None (Some v) none found =
        let is = found-in spec other v found in
        absurd (lost one v none (back v is.there) is.names)
    by (Some t) None found none =
        let is = found-in spec one t found in
        absurd (lost other t none (there t is.there) is.names)
    by (Some t) (Some v) found also = record {
      table = shared;
      fits = both-ways (is_fitting spec t.spec) (is_fitting spec v.spec)
          (λ is. fitting_is_transitive spec t.spec v.spec is (fit t v first second shared))
          (λ is. fitting_is_transitive spec v.spec t.spec is (fit v t second first (sym shared)));
    }
      where
        mine : IsFound spec one t
        mine = found-in spec one t found

        yours : IsFound spec other v
        yours = found-in spec other v also

        first : IsIn t all
        first = among t (there t mine.there)

        second : IsIn v all
        second = among v yours.there

        one_name : is_name_of t.spec.name v.spec.name ≡ true
        one_name = ap (λ (n : Option (List ℕ)). is_name_of n v.spec.name) (sym (name-same spec.name t.spec.name mine.names)) ∙ yours.names

        shared : t.table ≡ v.table
        shared = one-table t v all apart first second one_name

-- those that a book has left are those that the requests say
pub book-there : (name : Option (List ℕ)) (past : List Request) (event : Definition) (triggers : EventTriggers) (append : Bool)
    → AreKept name past event triggers → (t : HistTrigger) → IsIn t (book_left name past triggers append) → IsIn t (left_by event append (hist_triggers name past))
book-there name past event triggers append are = lists-left past (hist_triggers name past) event triggers.event append are.distinct are.index

pub book-alike : (name : Option (List ℕ)) (past : List Request) (event : Definition) (triggers : EventTriggers) (append : Bool) (spec : SpecSeen)
    → AreKept name past event triggers
    → NameAlike (length past) spec (named_by spec (book_left name past triggers append)) (named_by spec (left_by event append (hist_triggers name past)))
book-alike name past event triggers append spec are =
    let hists = hist_triggers name past in
    named-alike (length past) spec hists (book_left name past triggers append) (left_by event append hists) (tables-apart name past)
    (tables-fit name past are.fitting) (book-there name past event triggers append are)
    (left-lists past hists event triggers.event append are.index (all-named name past)) (left-there name past event append)
