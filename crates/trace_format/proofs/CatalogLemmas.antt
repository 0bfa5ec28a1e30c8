-- The table of events by their names.
use Rattle.std.proofs.Common.{◌≡◌, ℕ, zero, suc, ◌+◌, ◌<◌, ◌≤◌, Bool, true, false, not, cond, nat_le, nat_lt, if◌then◌else◌, List, [], ◌∷◌, ◌++◌, length, take, map, bytes_eq, slice_get, position, Option, None, Some, is_some, option_map, Result, Ok, Err, Vec, Global, refl, sym, ap, ◌∙◌, subst, arith, append_assoc, append-nil, add-one, one-add, ⊎_elim, ltb-false}
use Rattle.std.specs.List.{AllByRecursion, position_or_len}
use Rattle.std.proofs.lemmas.List.{length-map, length_push, map-append}
use Rattle.std.proofs.lemmas.Bool.{cond-true, cond-false, cases_lt, true≢false, lt-ltb, le-ltb}
use Rattle.std.proofs.lemmas.Bool.Decides.{nat_tests}
use Rattle.std.proofs.lemmas.Slice.Eq.{bytes_eq-Decides}
use Rattle.std.specs.Map.{lookup}
use Rattle.indexmap.specs.IndexMap.{insert_entry}
use Rattle.indexmap.proofs.MapLemmas.{some_index}
use Rattle.trace_format.specs.Definitions.{Definition, IsDefinition}
use Rattle.trace_format.specs.declared.fault.CatalogFault.{CatalogFault}
use Rattle.trace_format.specs.declared.fault.CatalogFault.TheVariants.{EventExists, TooBig, TooManyFields, TooManyEvents}
use Rattle.trace_format.specs.Cells.{record_size_of}
use Rattle.trace_format.specs.Catalogs.{id_of, event_of, id_for, IsCatalog, IsEvent, AreEvents}
use Rattle.trace_lex.proofs.Lists.{AllByRecursion-push}
use Rattle.trace_lex.proofs.Options.{map_some, some_is}

abbrev pub Entry : Type 0
Entry = Vec ℕ Global × Definition

abbrev pub events_of : List Entry → List Definition
events_of entries = map (λ (e : Entry). e.1) entries

abbrev keys : List Entry → List (Vec ℕ Global)
keys entries = map (λ (e : Entry). e.0) entries

module _ (name : List ℕ) where
  -- the index of a name among the keys is its index among the events
  same_len : (entries : List Entry) → AllByRecursion (λ e. e.0.items ≡ e.1.name) entries
      → position_or_len (λ (k : Vec ℕ Global). bytes_eq name k.items) (keys entries) ≡ position_or_len (λ (e : Definition). bytes_eq name e.name) (events_of entries)
  same_len [] named = refl
  same_len (entry ∷ entries) named = (λ i. cond (not (bytes_eq name (named.0 i))) (1 + same_len entries named.1 i) 0)

  pub same_index : (entries : List Entry) → AllByRecursion (λ e. e.0.items ≡ e.1.name) entries
      → position (λ (k : Vec ℕ Global). bytes_eq name k.items) (keys entries) ≡ position (λ (e : Definition). bytes_eq name e.name) (events_of entries)
  same_index entries named =
      let index = same_len entries named in
      let size : length (keys entries) ≡ length (events_of entries) = length-map entries (λ (e : Entry). e.0) ∙ sym (length-map entries (λ (e : Entry). e.1)) in
      (λ i. cond (nat_lt (index i) (size i)) (Some (index i)) None)

  pub id_is : (entries : List Entry) → AllByRecursion (λ e. e.0.items ≡ e.1.name) entries
      → id_of (events_of entries) name ≡ option_map (λ index. index + 1) (position (λ (k : Vec ℕ Global). bytes_eq name k.items) (keys entries))
  id_is entries named = ap (option_map (λ index. index + 1)) (sym (same_index entries named))

AreEvents-push : (before events : List Definition) (event : Definition) → AreEvents before events → IsEvent (before ++ events) event → AreEvents before (events ++ event ∷ [])
AreEvents-push before [] event are is = (subst (λ (b : List Definition). IsEvent b event) (append-nil before) is, tt)
AreEvents-push before (first ∷ events) event are is =
    (are.0, AreEvents-push (before ++ first ∷ []) events event are.1 (subst (λ (b : List Definition). IsEvent b event) (sym (append_assoc before (first ∷ []) events)) is))

pub events-push : (entries : List Entry) (key : Vec ℕ Global) (event : Definition) → events_of (entries ++ (key, event) ∷ []) ≡ events_of entries ++ event ∷ []
events-push entries key event = map-append (λ (e : Entry). e.1) entries ((key, event) ∷ [])

pub one_more : (entries : List Entry) (key : Vec ℕ Global) (event : Definition) → IsCatalog entries → length entries < 64 → key.items ≡ event.name → IsEvent (events_of entries) event
    → IsCatalog (entries ++ (key, event) ∷ [])
one_more entries key event is room named new = record {
  named = AllByRecursion-push (λ e. e.0.items ≡ e.1.name) entries (key, event) is.named named;
  few = omega (arith, length_push entries (let e : Entry = (key, event) in e));
  events = subst (AreEvents []) (sym (events-push entries key event)) (AreEvents-push [] (events_of entries) event is.events new);
}

pub event_at : (entries : List Entry) (index : ℕ) → event_of (events_of entries) (suc index) ≡ option_map (λ (e : Entry). e.1) (slice_get entries index)
event_at [] index = refl
event_at (entry ∷ entries) zero = refl
event_at (entry ∷ entries) (suc index) = event_at entries index

some-map : {A B : Type 0} (f : A → B) (o : Option A) → is_some (option_map f o) ≡ is_some o
some-map f None = refl
some-map f (Some x) = refl

none_from : {A : Type 0} (o : Option A) → is_some o ≡ false → o ≡ None
none_from None h = refl
none_from (Some x) h = absurd (true≢false h)

-- an event that may be added
pub new_event : (events : List Definition) (event : Definition) → IsDefinition event → length event.fields ≤ 16 → is_some (id_of events event.name) ≡ false → IsEvent events event
new_event events event defined few absent = record { defined = defined; few = few; new = none_from (id_of events event.name) absent }

-- a name without a number is no key
pub no_key : (entries : List Entry) (key : Vec ℕ Global) (name : List ℕ) → AllByRecursion (λ e. e.0.items ≡ e.1.name) entries → key.items ≡ name
    → is_some (id_of (events_of entries) name) ≡ false → lookup (λ (k : Vec ℕ Global). bytes_eq key.items k.items) entries ≡ None
no_key entries key name named is none =
    let test = λ (n : List ℕ) (k : Vec ℕ Global). bytes_eq n k.items in
    none_from _ (sym (some_index (test key.items) entries) ∙ ap (λ n. is_some (position (test n) (keys entries))) is ∙ sym (some-map (λ index. index + 1) (position (test name) (keys entries))) ∙ ap is_some (sym (id_is name entries named)) ∙ none)

no_fault : (test : Bool) (rest : Result ℕ CatalogFault) (fault : CatalogFault) (id : ℕ) → (if test then Err fault else rest) ≡ Ok id → (test ≡ false) × (rest ≡ Ok id)
no_fault true rest fault id h = absurd (cc)
no_fault false rest fault id h = (refl, h)

-- an event that gets a number: its name has none yet, its fields are few, and there is room for it
pub record IsNext (events : List Definition) (definition : Definition) : Type 0 where
  pub new : is_some (id_of events definition.name) ≡ false
  pub few : length definition.fields ≤ 16
  pub room : length events < 64

pub id_for_next : (events : List Definition) (definition : Definition) (page_bytes id : ℕ) → id_for events definition page_bytes ≡ Ok id → IsNext events definition
id_for_next events definition page_bytes id h =
    let named = no_fault (is_some (id_of events definition.name)) _ EventExists id h in
    let wide = no_fault (nat_lt 16 (length definition.fields)) _ TooManyFields id named.1 in
    let full = no_fault (nat_le 64 (length events)) _ TooManyEvents id wide.1 in
    record {
      new = named.0;
      few = let no = wide.0 in grind (arith, nat_tests);
      room = let no = full.0 in grind (arith, nat_tests);
    }

-- its record is no larger than a page
pub id_for_fits : (events : List Definition) (definition : Definition) (page_bytes id : ℕ) → id_for events definition page_bytes ≡ Ok id → record_size_of definition ≤ page_bytes
id_for_fits events definition page_bytes id h =
    let named = no_fault (is_some (id_of events definition.name)) _ EventExists id h in
    let wide = no_fault (nat_lt 16 (length definition.fields)) _ TooManyFields id named.1 in
    let full = no_fault (nat_le 64 (length events)) _ TooManyEvents id wide.1 in
    ltb-false _ _ (no_fault (nat_lt page_bytes (record_size_of definition)) _ TooBig id full.1).0

-- an entry whose key is new goes last
insert_last : (entries : List Entry) (key : Vec ℕ Global) (event : Definition) → lookup (λ (k : Vec ℕ Global). bytes_eq key.items k.items) entries ≡ None
    → insert_entry (λ (a b : Vec ℕ Global). bytes_eq a.items b.items) entries key event ≡ entries ++ (key, event) ∷ []
insert_last [] key event none = refl
insert_last (entry ∷ entries) key event none = by (bytes_eq key.items entry.0.items) none (insert_last entries key event)
  where
    by : (here : Bool) → cond here (Some entry.1) (lookup (λ (k : Vec ℕ Global). bytes_eq key.items k.items) entries) ≡ None
        → (lookup (λ (k : Vec ℕ Global). bytes_eq key.items k.items) entries ≡ None → insert_entry (λ (a b : Vec ℕ Global). bytes_eq a.items b.items) entries key event ≡ entries ++ (key, event) ∷ [])
        → (if here then (entry.0, event) ∷ entries else entry ∷ insert_entry (λ (a b : Vec ℕ Global). bytes_eq a.items b.items) entries key event) ≡ entry ∷ (entries ++ (key, event) ∷ [])
    by true h others = absurd (cc)
    by false h others = ap (λ (es : List Entry). entry ∷ es) (others h)

-- a table before and after an event that got a number was put into it under its name
pub record IsPut (before after : List Entry) (events : List Definition) (key : Vec ℕ Global) (event : Definition) : Type 0 where
  pub is : IsCatalog before
  pub view : events_of before ≡ events
  pub next : IsNext events event
  pub named : key.items ≡ event.name
  pub put : after ≡ insert_entry (λ (a b : Vec ℕ Global). bytes_eq a.items b.items) before key event

module _ {before after : List Entry} {events : List Definition} {key : Vec ℕ Global} {event : Definition} (p : IsPut before after events key event) where
  next_in : IsNext (events_of before) event
  next_in = subst (λ (es : List Definition). IsNext es event) (sym p.view) p.next

  put_last : after ≡ before ++ (key, event) ∷ []
  put_last = p.put ∙ insert_last before key event (no_key before key event.name p.is.named p.named next_in.new)

  -- it is a catalog's table, with the event behind the others
  pub put_catalog : IsDefinition event → IsCatalog after
  put_catalog defined =
      subst (λ (es : List Entry). IsCatalog es) (sym put_last)
      (one_more before key event p.is (subst (λ n. n < 64) (length-map before (λ (e : Entry). e.1)) next_in.room) p.named (new_event (events_of before) event defined next_in.few next_in.new))

  pub put_events : events_of after ≡ events ++ event ∷ []
  put_events = ap (λ (es : List Entry). events_of es) put_last ∙ events-push before key event ∙ ap (λ (es : List Definition). es ++ event ∷ []) p.view

-- ---- indexes of names

abbrev index_of : List Definition → List ℕ → Option ℕ
index_of events name = position (λ (event : Definition). bytes_eq name event.name) events

-- the index of a name is 0, or one more than its index behind the first event
index-step : (event : Definition) (events : List Definition) (name : List ℕ) → index_of (event ∷ events) name ≡ (if bytes_eq name event.name then Some 0 else option_map (λ index. suc index) (index_of events name))
index-step event events name = by (bytes_eq name event.name) (position_or_len (λ (e : Definition). bytes_eq name e.name) events) (length events)
  where
    by : (here : Bool) (index size : ℕ) → cond (nat_lt (cond (not here) (1 + index) 0) (suc size)) (Some (cond (not here) (1 + index) 0)) None
        ≡ (if here then Some 0 else option_map (λ p. suc p) (cond (nat_lt index size) (Some index) None))
    by true index size = cond-true _ _ _ (lt-ltb 0 (suc size) (omega arith))
    by false index size =
        ⊎_elim (λ (a : index < size). cond-true _ _ _ (lt-ltb (1 + index) (suc size) (omega (arith, a))) ∙ ap Some (one-add index) ∙ sym (ap (option_map (λ p. suc p)) (cond-true _ _ _ (lt-ltb index size a))))
        (λ (a : size ≤ index). cond-false _ _ _ (le-ltb (1 + index) (suc size) (omega (arith, a))) ∙ sym (ap (option_map (λ p. suc p)) (cond-false _ _ _ (le-ltb index size a)))) (cases_lt index size)

-- the event at the index of a name has it
named_at : (events : List Definition) (name : List ℕ) (index : ℕ) → index_of events name ≡ Some index → option_map (λ (e : Definition). e.name) (slice_get events index) ≡ Some name
named_at [] name index h = absurd (cc)
named_at (event ∷ events) name index h = by (bytes_eq name event.name) (bytes_eq-Decides name event.name).0 (sym (index-step event events name) ∙ h) (named_at events name)
  where
    by : (here : Bool) → (here ≡ true → name ≡ event.name) → (if here then Some 0 else option_map (λ p. suc p) (index_of events name)) ≡ Some index
        → ((p : ℕ) → index_of events name ≡ Some p → option_map (λ (e : Definition). e.name) (slice_get events p) ≡ Some name)
        → option_map (λ (e : Definition). e.name) (slice_get (event ∷ events) index) ≡ Some name
    by true same h' others = subst (λ p. option_map (λ (e : Definition). e.name) (slice_get (event ∷ events) p) ≡ Some name) (some_is h') (ap Some (sym (same refl)))
    by false same h' others =
        let there = map_some (λ p. suc p) (index_of events name) index h' in
        subst (λ p. option_map (λ (e : Definition). e.name) (slice_get (event ∷ events) p) ≡ Some name) there.gives (others there.value there.was)

-- a name that no event before an index has
own_at : (events : List Definition) (index : ℕ) (event : Definition) → slice_get events index ≡ Some event → index_of (take index events) event.name ≡ None → index_of events event.name ≡ Some index
own_at [] index event h none = absurd (cc)
own_at (first ∷ events) zero event h none = index-step first events event.name ∙ cond-true _ _ _ ((bytes_eq-Decides event.name first.name).1 (ap (λ (e : Definition). e.name) (sym (some_is h))))
own_at (first ∷ events) (suc index) event h none =
    index-step first events event.name ∙ by (bytes_eq event.name first.name) (sym (index-step first (take index events) event.name) ∙ none) (own_at events index event h)
  where
    by : (here : Bool) → (if here then Some 0 else option_map (λ p. suc p) (index_of (take index events) event.name)) ≡ None
        → (index_of (take index events) event.name ≡ None → index_of events event.name ≡ Some index)
        → (if here then Some 0 else option_map (λ p. suc p) (index_of events event.name)) ≡ Some (suc index)
    by true h' others = absurd (cc)
    by false h' others =
        ap (option_map (λ p. suc p)) (others (none_from (index_of (take index events) event.name) (sym (some-map (λ p. suc p) (index_of (take index events) event.name)) ∙ ap is_some h')))

-- ---- the event of a number

pub id_named : (events : List Definition) (name : List ℕ) (id : ℕ) → id_of events name ≡ Some id → option_map (λ (e : Definition). e.name) (event_of events id) ≡ Some name
id_named events name id h =
    let index = map_some (λ p. p + 1) (index_of events name) id h in
    subst (λ i. option_map (λ (e : Definition). e.name) (event_of events i) ≡ Some name) (sym (add-one index.value) ∙ index.gives) (named_at events name index.value index.was)

is_event : (before events : List Definition) (index : ℕ) (event : Definition) → AreEvents before events → slice_get events index ≡ Some event → IsEvent (before ++ take index events) event
is_event before [] index event are h = absurd (cc)
is_event before (first ∷ events) zero event are h = subst (λ (b : List Definition). IsEvent b event) (sym (append-nil before)) (subst (IsEvent before) (some_is h) are.0)
is_event before (first ∷ events) (suc index) event are h =
    subst (λ (b : List Definition). IsEvent b event) (append_assoc before (first ∷ []) (take index events)) (is_event (before ++ first ∷ []) events index event are.1 h)

-- an event that a number finds
pub record IsFound (events : List Definition) (id : ℕ) (event : Definition) : Type 0 where
  pub defined : IsDefinition event
  pub few : length event.fields ≤ 16
  pub named : id_of events event.name ≡ Some id

pub found_event : (events : List Definition) (id : ℕ) (event : Definition) → AreEvents [] events → event_of events id ≡ Some event → IsFound events id event
found_event events zero event are h = absurd (cc)
found_event events (suc index) event are h =
    let is = is_event [] events index event are h in
    let none = none_from (index_of (take index events) event.name) (sym (some-map (λ p. p + 1) (index_of (take index events) event.name)) ∙ ap is_some is.new) in
    record { defined = is.defined; few = is.few; named = ap (option_map (λ p. p + 1)) (own_at events index event h none) ∙ ap Some (add-one index) }
