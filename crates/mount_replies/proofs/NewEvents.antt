-- A declaration that is done declares a new event.
use Rattle.std.proofs.Common.{◌≡◌, ℕ, ◌+◌, Bool, true, false, nat_lt, nat_le, not, ◌&&◌, if◌then◌else◌, List, [], ◌∷◌, ◌++◌, length, is_some, Option, None, Some, IsOk, Result, Ok, Err, ok_or, refl, ap, ◌∙◌}
use Rattle.std.specs.Result.{result_ok}
use Rattle.std.proofs.lemmas.Bool.{ltb-false, false≢true}
use Rattle.std.proofs.lemmas.Option.{none-some, same_Some}
use Rattle.trace_format.proofs.CatalogLemmas.{new_event}
use Rattle.trace_format.proofs.Standings.{Stands, stands-start, stands-step, declares as declares_by}
use Rattle.trace_format.specs.Catalogs.{id_of, id_for, IsEvent}
use Rattle.trace_format.specs.Cells.{record_size_of}
use Rattle.trace_format.specs.Definitions.{Definition, IsDefinition}
use Rattle.trace_format.specs.Reading.{Standing, step, start, finish, reading, definition_of, cause_in}
use Rattle.trace_format.specs.Words.{Spot, spots_of}
use Rattle.trace_format.specs.declared.fault.CatalogFault.TheVariants as catalog
use Rattle.trace_command.specs.Paths.{SyntheticEvents}
use Rattle.trace_command.specs.Requests.{Request, WriteFile}
use Rattle.trace_command.specs.declared.command.Config.{Config}
use Rattle.trace_command.specs.declared.refusal.Refusal.TheVariants as refusal
use Rattle.tracer_specification.proofs.LegalEvents.{asked-done}
use Rattle.tracer_specification.specs.History.{answer_with_room, added_answer, read_declaration_answer, declaration_answer}
use Rattle.tracer_specification.specs.Settings.{declares, declared_events}

-- what is read from a text is a definition
read-defined : (standing : Standing) (words : List (List ℕ)) (spots : List Spot) (len : ℕ) (event : Definition) → Stands standing words
    → reading standing spots len ≡ Ok event → IsDefinition event
read-defined standing words [] len event stands read = by (finish standing) refl read
  where
    by : (last : Option Definition) → finish standing ≡ last → ok_or last len ≡ Ok event → IsDefinition event
    by None is h = absurd (cc)
    by (Some found) is h =
        let same : found ≡ event = cc in
        (declares_by standing words event stands (is ∙ ap Some same)).defined
read-defined standing words (spot ∷ spots) len event stands read =
    by (step standing spot.word) refl (λ next. read-defined next (words ++ spot.word ∷ []) spots len event) read
  where
    by : (next : Option Standing) → step standing spot.word ≡ next
        → ((n : Standing) → Stands n (words ++ spot.word ∷ []) → reading n spots len ≡ Ok event → IsDefinition event)
        → reading standing (spot ∷ spots) len ≡ Ok event → IsDefinition event
    by None is rest h = absurd (let e = rw is at h in cc)
    by (Some next) is rest h = rest next (stands-step standing words spot.word next stands is) (rw is at h)

text-defined : (text : List ℕ) (event : Definition) → definition_of text ≡ Ok event → IsDefinition event
unfolding definition_of
text-defined text event read = read-defined start [] (spots_of text) (length text) event stands-start read

added-new : (g : Config) (past : List Request) (event : Definition) → IsDefinition event → IsOk (added_answer (id_for (declared_events past) event g.page_bytes))
    → IsEvent (declared_events past) event
added-new g past event defined done =
    by (is_some (id_of events event.name)) (nat_lt 16 (length event.fields)) (nat_le 64 (length events)) (nat_lt g.page_bytes (record_size_of event)) refl refl done
  where
    events : List Definition
    events = declared_events past

    by : (there many full big : Bool) → is_some (id_of events event.name) ≡ there → nat_lt 16 (length event.fields) ≡ many
        → IsOk (added_answer (if there then Err catalog.EventExists else if many then Err catalog.TooManyFields else if full then Err catalog.TooManyEvents else if big then Err catalog.TooBig else Ok (length events + 1)))
        → IsEvent events event
    by true many full big a b done = absurd (false≢true done)
    by false true full big a b done = absurd (false≢true done)
    by false false true big a b done = absurd (false≢true done)
    by false false false true a b done = absurd (false≢true done)
    by false false false false a b done = new_event events event defined (ltb-false 16 (length event.fields) b) a

pub declared-new : (g : Config) (past : List Request) (request : Request) (event : Definition) → IsOk (answer_with_room g past request) → declares request ≡ Some event
    → IsEvent (declared_events past) event
unfolding declaration_answer
declared-new g past (WriteFile instance (Some SyntheticEvents) append text) event done is =
    by (definition_of text) refl (asked-done instance past (declaration_answer g past append text) done) is
  where
    by_busy : (busy : Bool) → IsDefinition event
        → IsOk (if busy then Err refusal.Busy else added_answer (id_for (declared_events past) event g.page_bytes)) → IsEvent (declared_events past) event
    by_busy true defined d = absurd (false≢true d)
    by_busy false defined d = added-new g past event defined d

    by : (read : Result Definition ℕ) → definition_of text ≡ read → IsOk (read_declaration_answer g past append (cause_in text) read) → result_ok read ≡ Some event
        → IsEvent (declared_events past) event
    by (Err at) was d e = absurd (none-some event e)
    by (Ok found) was d e =
        let same : found ≡ event = same_Some _ _ e in
        by_busy (not append && nat_lt 0 (length (declared_events past))) (text-defined text event (was ∙ ap Ok same)) (rw same at d)
declared-new g past _ event done is = absurd (none-some event is)
