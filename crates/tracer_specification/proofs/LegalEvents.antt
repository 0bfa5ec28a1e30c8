-- The events that are declared by requests that were done.
use Rattle.std.proofs.Common.{◌≡◌, ℕ, ◌+◌, ◌<◌, ◌≤◌, Bool, true, false, nat_lt, nat_le, not, ◌&&◌, if◌then◌else◌, List, [], ◌∷◌, ◌++◌, length, bytes_eq, is_some, Option, None, Some, IsOk, Result, Ok, Err, ok_or, refl, sym, ap, ◌∙◌, subst, arith, append-nil, length-append, ltb-true}
use Rattle.std.specs.List.{AllByRecursion}
use Rattle.std.specs.Option.{option_to_list}
use Rattle.std.specs.Result.{result_ok}
use Rattle.std.proofs.lemmas.Bool.{ltb-false, leb-false, false≢true}
use Rattle.std.proofs.lemmas.Option.{none-some, same_Some}
use Rattle.trace_format.specs.Catalogs.{id_of, event_of, id_for, IsEvent, AreEvents}
use Rattle.trace_format.specs.Cells.{record_size_of}
use Rattle.trace_format.specs.Definitions.{Definition, IsDefinition}
use Rattle.trace_format.specs.Reading.{Standing, step, start, finish, reading, definition_of, cause_in}
use Rattle.trace_format.specs.Words.{Spot, spots_of}
use Rattle.trace_format.specs.declared.fault.CatalogFault.TheVariants as catalog
use Rattle.trace_format.proofs.CatalogLemmas.{found_event, new_event}
use Rattle.trace_lex.proofs.Options.{and_then_some, map_some}
use Rattle.trace_format.proofs.Standings.{Stands, stands-start, stands-step, declares as declares_by}
use Rattle.tracer_specification.specs.History.{answer, answer_with_room, instance_answer, added_answer, read_declaration_answer, declaration_answer, unless_full, requests_of, IsLegalNewestFirst}
use Rattle.trace_command.specs.Paths.{SyntheticEvents}
use Rattle.trace_command.specs.Requests.{Request, WriteFile, request_of}
use Rattle.tracer_specification.specs.Settings.{NumberedEvent, event_named, event_named_in, is_there, numbered_event, declares, declared_events}
use Rattle.tracer_specification.specs.Declarations.{IsFit}
use Rattle.tracer_specification.specs.Pasts.{AreDone}
use Rattle.trace_command.specs.declared.command.Config.{Config}
use Rattle.trace_command.specs.declared.command.Entry.{Entry}
use Rattle.trace_command.specs.declared.command.Reply.{Reply}
use Rattle.trace_command.specs.declared.refusal.Refusal.{Refusal}
use Rattle.trace_command.specs.declared.refusal.Refusal.TheVariants as refusal
use Rattle.tracer_specification.proofs.EventLists.{AreEvents-push}
use Rattle.tracer_specification.proofs.Events.{named_in-found, found_from, fit-push}

-- ---- requests that were done

pub done-had_room : (g : Config) (past : List Request) (request : Request) → IsOk (answer g past request)
    → IsOk (answer_with_room g past request) × (length past < g.history_limit)
unfolding answer
done-had_room g past request done = by (answer_with_room g past request) done
  where
    by : (r : Result Reply Refusal) → IsOk (unless_full g.history_limit (length past) r) → IsOk r × (length past < g.history_limit)
    by (Err refusal) d = absurd (false≢true d)
    by (Ok reply) d = by_room (nat_lt (length past) g.history_limit) refl d
      where
        by_room : (room : Bool) → nat_lt (length past) g.history_limit ≡ room → IsOk (unless_full g.history_limit (length past) (Ok reply))
            → IsOk (let r : Result Reply Refusal = Ok reply in r) × (length past < g.history_limit)
        by_room true is d' = (refl, ltb-true (length past) g.history_limit is)
        by_room false is d' = absurd (let h : false ≡ true = rw is at d' in false≢true h)

-- the requests of a legal history were done
pub done-legal : (g : Config) (entries : List Entry) → IsLegalNewestFirst g entries → AreDone g (requests_of entries)
done-legal g [] legal = tt
done-legal g (entry ∷ entries) legal =
    ((done-had_room g (requests_of entries) (request_of entry.command) legal.2).0, done-legal g entries legal.3)

-- as many as the limit at most
pub legal-short : (g : Config) (entries : List Entry) → IsLegalNewestFirst g entries → length (requests_of entries) ≤ g.history_limit
legal-short g [] legal = omega arith
legal-short g (entry ∷ entries) legal = let room = (done-had_room g (requests_of entries) (request_of entry.command) legal.2).1 in omega (arith, room)

-- what an instance was asked was done only where the instance is there
pub asked-done : (instance : Option (List ℕ)) (past : List Request) (answered : Result Reply Refusal) → IsOk (instance_answer instance past answered) → IsOk answered
asked-done instance past answered done = by (is_there instance past) done
  where
    by : (there : Bool) → IsOk (if there then answered else Err refusal.NoSuchInstance) → IsOk answered
    by true d = d
    by false d = absurd (false≢true d)

-- ---- declarations

-- what is read from a text is a definition
read-is_definition : (standing : Standing) (words : List (List ℕ)) (spots : List Spot) (len : ℕ) (event : Definition) → Stands standing words
    → reading standing spots len ≡ Ok event → IsDefinition event
read-is_definition standing words [] len event stands read = by (finish standing) refl read
  where
    by : (last : Option Definition) → finish standing ≡ last → ok_or last len ≡ Ok event → IsDefinition event
    by None is h = absurd (cc)
    by (Some found) is h =
        let same : found ≡ event = cc in
        (declares_by standing words event stands (is ∙ ap Some same)).defined
read-is_definition standing words (spot ∷ spots) len event stands read =
    by (step standing spot.word) refl (λ next. read-is_definition next (words ++ spot.word ∷ []) spots len event) read
  where
    by : (next : Option Standing) → step standing spot.word ≡ next
        → ((n : Standing) → Stands n (words ++ spot.word ∷ []) → reading n spots len ≡ Ok event → IsDefinition event)
        → reading standing (spot ∷ spots) len ≡ Ok event → IsDefinition event
    by None is rest h = absurd (let e = rw is at h in cc)
    by (Some next) is rest h = rest next (stands-step standing words spot.word next stands is) (rw is at h)

definition_of-is_definition : (text : List ℕ) (event : Definition) → definition_of text ≡ Ok event → IsDefinition event
unfolding definition_of
definition_of-is_definition text event read = read-is_definition start [] (spots_of text) (length text) event stands-start read

-- an event that may be declared after others
pub record IsNew (g : Config) (past : List Request) (event : Definition) : Type 0 where
  pub is_event : IsEvent (declared_events past) event
  pub room : length (declared_events past) < 64
  pub fit : IsFit g.page_bytes event

added-is_new : (g : Config) (past : List Request) (event : Definition) → IsDefinition event → IsOk (added_answer (id_for (declared_events past) event g.page_bytes))
    → IsNew g past event
added-is_new g past event defined done =
    by (is_some (id_of events event.name)) (nat_lt 16 (length event.fields)) (nat_le 64 (length events)) (nat_lt g.page_bytes (record_size_of event)) refl refl refl refl done
  where
    events : List Definition
    events = declared_events past

    by : (there many full big : Bool) → is_some (id_of events event.name) ≡ there → nat_lt 16 (length event.fields) ≡ many
        → nat_le 64 (length events) ≡ full → nat_lt g.page_bytes (record_size_of event) ≡ big
        → IsOk (added_answer (if there then Err catalog.EventExists else if many then Err catalog.TooManyFields else if full then Err catalog.TooManyEvents else if big then Err catalog.TooBig else Ok (length events + 1)))
        → IsNew g past event
    by true many full big a b c e done = absurd (false≢true done)
    by false true full big a b c e done = absurd (false≢true done)
    by false false true big a b c e done = absurd (false≢true done)
    by false false false true a b c e done = absurd (false≢true done)
    by false false false false a b c e done =
        let few = ltb-false 16 (length event.fields) b in
        record {
          is_event = new_event events event defined few a;
          room = leb-false 64 (length events) c;
          fit = record { fields = few; size = ltb-false g.page_bytes (record_size_of event) e };
        }

declared-is_new : (g : Config) (past : List Request) (request : Request) (event : Definition) → IsOk (answer_with_room g past request) → declares request ≡ Some event
    → IsNew g past event
unfolding declaration_answer
declared-is_new g past (WriteFile instance (Some SyntheticEvents) append text) event done is =
    by (definition_of text) refl (asked-done instance past (declaration_answer g past append text) done) is
  where
    by_busy : (busy : Bool) → IsDefinition event
        → IsOk (if busy then Err refusal.Busy else added_answer (id_for (declared_events past) event g.page_bytes)) → IsNew g past event
    by_busy true defined d = absurd (false≢true d)
    by_busy false defined d = added-is_new g past event defined d

    by : (read : Result Definition ℕ) → definition_of text ≡ read → IsOk (read_declaration_answer g past append (cause_in text) read) → result_ok read ≡ Some event → IsNew g past event
    by (Err at) was d e = absurd (none-some event e)
    by (Ok found) was d e =
        let same : found ≡ event = same_Some _ _ e in
        by_busy (not append && nat_lt 0 (length (declared_events past))) (definition_of-is_definition text event (was ∙ ap Ok same)) (rw same at d)
declared-is_new g past _ event done is = absurd (none-some event is)

-- ---- the events of such requests

-- they are few, each may be declared after those before it, and its record fits a page
pub record AreLegalEvents (g : Config) (events : List Definition) : Type 0 where
  pub few : length events ≤ 64
  pub are : AreEvents [] events
  pub fit : AllByRecursion (IsFit g.page_bytes) events

pub done-events : (g : Config) (past : List Request) → AreDone g past → AreLegalEvents g (declared_events past)
done-events g [] done = record { few = omega arith; are = tt; fit = tt }
done-events g (request ∷ past) done = by (declares request) refl (done-events g past done.1)
  where
    by : (declared : Option Definition) → declares request ≡ declared → AreLegalEvents g (declared_events past)
        → AreLegalEvents g (declared_events past ++ option_to_list (declares request))
    by None is before = rw (is, append-nil) before
    by (Some event) is before =
        let new = declared-is_new g past request event done.0 is in
        rw is (record {
          few = omega (arith, length-append (declared_events past) (event ∷ []), new.room);
          are = AreEvents-push [] (declared_events past) event before.are new.is_event;
          fit = fit-push g.page_bytes (declared_events past) event before.fit new.fit;
        })

-- an event that was found has the number and stands there
pub record IsNumbered (events : List Definition) (name : List ℕ) (k : NumberedEvent) : Type 0 where
  pub named : id_of events name ≡ Some k.id
  pub there : event_of events k.id ≡ Some k.event

pub named-is_numbered : (events : List Definition) (name : List ℕ) (k : NumberedEvent) → event_named_in events name ≡ Some k → IsNumbered events name k
named-is_numbered events name k found =
    let number = and_then_some (numbered_event events) (id_of events name) k found in
    let event = map_some (λ (e : Definition). let n : NumberedEvent = record { id = number.value; event = e } in n) (event_of events number.value) k number.gives in
    subst (IsNumbered events name) event.gives (record { named = number.was; there = event.was })

-- and so it is a definition
pub named-is_definition : (g : Config) (past : List Request) (name : List ℕ) (k : NumberedEvent) → AreDone g past
    → event_named name past ≡ Some k → IsDefinition k.event
named-is_definition g past name k done found =
    let events = declared_events past in
    (found_event events k.id k.event (done-events g past done).are (named-is_numbered events name k found).there).defined

-- ---- later declarations

-- an event that is among events is among more
found-more : (id : ℕ) (name : List ℕ) (events more : List Definition) (k : NumberedEvent) → found_from id name events ≡ Some k → found_from id name (events ++ more) ≡ Some k
found-more id name [] more k found = absurd (none-some k found)
found-more id name (event ∷ events) more k found = by (bytes_eq name event.name) refl (found-more (id + 1) name events more k) found
  where
    by : (same : Bool) → bytes_eq name event.name ≡ same → (found_from (id + 1) name events ≡ Some k → found_from (id + 1) name (events ++ more) ≡ Some k)
        → found_from id name (event ∷ events) ≡ Some k → found_from id name ((event ∷ events) ++ more) ≡ Some k
    by true is rest h = rw is (rw is at h)
    by false is rest h = rw is (rest (rw is at h))

pub named_in-more : (name : List ℕ) (events more : List Definition) (k : NumberedEvent) → event_named_in events name ≡ Some k → event_named_in (events ++ more) name ≡ Some k
named_in-more name events more k found =
    named_in-found name (events ++ more) ∙ found-more 1 name events more k (sym (named_in-found name events) ∙ found)
