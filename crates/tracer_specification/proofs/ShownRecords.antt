-- The lines of the records that emissions bring.
use Rattle.std.proofs.Common.{◌≡◌, ℕ, zero, suc, ℤ, FitsSigned, w32, ◌+◌, ◌*◌, ◌/◌, ◌<◌, ◌≤◌, ◌^◌, List, [], ◌∷◌, ◌++◌, length, filter_map, replicate, slice_get, Option, None, Some, Result, Ok, Err, refl, sym, ap, ◌∙◌, subst, arith, length-append}
use Rattle.std.specs.List.{AllZip}
use Rattle.std.specs.Option.{option_to_list}
use Rattle.std.proofs.lemmas.Option.{get_or_from_slice_get, slice_get_within, none-some, same_Some}
use Rattle.trace_record.specs.declared.head.Head.{Head}
use Rattle.trace_format.specs.declared.bad_row.BadRow.{BadRow}
use Rattle.trace_format.specs.declared.kind.Kind.{Kind}
use Rattle.trace_format.specs.declared.pair.Pair.{Pair}
use Rattle.trace_format.specs.Catalogs.{event_of}
use Rattle.trace_format.specs.Cells.{Datum, Cells, Holds, IsRowOf, kinds_of, field_bytes, bytes_of, payload_of, size_of_all, payload_size_of}
use Rattle.trace_format.specs.Definitions.{Definition}
use Rattle.trace_format.specs.Rows.{first_wrong, first_missing, given, row_unless, row_of}
use Rattle.trace_format.proofs.BuildLemmas.{row_held}
use Rattle.trace_format.proofs.Payloads.{length-field_bytes}
use Rattle.record_text.specs.Laws.{IsHeadOf}
use Rattle.record_text.proofs.RecordLemmas.{record_shows_its_row}
use Rattle.trace_command.specs.Configs.{IsInRange}
use Rattle.tracer_specification.specs.Laws.{RecordsShowTheirRows}
use Rattle.tracer_specification.specs.Pasts.{AreDone}
use Rattle.trace_command.specs.Requests.{Request, Emission, MakeInstance, RemoveInstance, WriteFile, ReadFile, FitsItsTypes}
use Rattle.tracer_specification.specs.Emissions.{record_bytes, Emitted, emitted, emitted_event, emitted_row}
use Rattle.trace_record.specs.Record.{padding}
use Rattle.tracer_specification.specs.Settings.{NumberedEvent, event_named, declares, declared_events, ticks, now_of}
use Rattle.tracer_specification.specs.Declarations.{IsFit}
use Rattle.trace_command.specs.declared.command.Config.{Config}
use Rattle.tracer_specification.proofs.Events.{fit_at}
use Rattle.tracer_specification.proofs.LegalEvents.{done-events, named-is_numbered}

-- ---- rows

-- what pairs give is a row of the event
pub row_of-is_row : (event : Definition) (pairs : List Pair) (row : Cells) → row_of event pairs ≡ Ok row → IsRowOf event row
unfolding row_of
row_of-is_row event pairs row built = by (first_wrong event.fields [] pairs) (first_missing event.fields pairs) refl built
  where
    given_row : Cells
    given_row = record { kinds = kinds_of event; values = filter_map (given pairs) event.fields }

    by : (wrong : Option BadRow) (missing : Option (List ℕ)) → first_missing event.fields pairs ≡ missing → row_unless wrong missing given_row ≡ Ok row → IsRowOf event row
    by (Some name) missing is h = absurd (cc)
    by None (Some name) is h = absurd (cc)
    by None None is h =
        let same : given_row ≡ row = cc in
        subst (IsRowOf event) same (record { kinds = refl; values = row_held event.fields pairs is })

length-bytes_of : (kinds : List Kind) (values : List Datum) → AllZip Holds kinds values → length (bytes_of kinds values) ≡ size_of_all kinds
length-bytes_of [] [] held = refl
length-bytes_of [] (value ∷ values) held = elim held [ ]
length-bytes_of (kind ∷ kinds) [] held = elim held [ ]
length-bytes_of (kind ∷ kinds) (value ∷ values) held =
    omega (arith, length-append (field_bytes kind value) (bytes_of kinds values), length-field_bytes kind value held.0, length-bytes_of kinds values held.1)

-- a row's payload has the size that its event says
length-payload : (event : Definition) (row : Cells) → IsRowOf event row → length (payload_of row) ≡ payload_size_of event
length-payload event row is = length-bytes_of row.kinds row.values is.values ∙ ap size_of_all is.kinds

-- ---- events by number

slice_get-more : (events more : List Definition) (index : ℕ) (event : Definition) → slice_get events index ≡ Some event → slice_get (events ++ more) index ≡ Some event
slice_get-more [] more index event there = absurd (none-some event there)
slice_get-more (first ∷ events) more zero event there = there
slice_get-more (first ∷ events) more (suc index) event there = slice_get-more events more index event there

event_of-more : (events more : List Definition) (id : ℕ) (event : Definition) → event_of events id ≡ Some event → event_of (events ++ more) id ≡ Some event
event_of-more events more zero event there = absurd (none-some event there)
event_of-more events more (suc index) event there = slice_get-more events more index event there

-- an event keeps its number
event_of-later : (later past : List Request) (id : ℕ) (event : Definition) → event_of (declared_events past) id ≡ Some event
    → event_of (declared_events (later ++ past)) id ≡ Some event
event_of-later [] past id event there = there
event_of-later (request ∷ later) past id event there =
    event_of-more (declared_events (later ++ past)) (option_to_list (declares request)) id event (event_of-later later past id event there)

-- ---- an event's number, its record's size and the clock are small

event_of-small : (events : List Definition) (id : ℕ) (event : Definition) → event_of events id ≡ Some event → id ≤ length events
event_of-small events zero event there = absurd (none-some event there)
event_of-small events (suc index) event there = let within = slice_get_within events index event there in omega (arith, within)

event_of-fit : (g : Config) (past : List Request) (id : ℕ) (event : Definition) → AreDone g past
    → event_of (declared_events past) id ≡ Some event → IsFit g.page_bytes event
event_of-fit g past zero event done there = absurd (none-some event there)
event_of-fit g past (suc index) event done there =
    let events = declared_events past in
    fit_at g.page_bytes events index event (done-events g past done).fit (slice_get_within events index event there) (sym (get_or_from_slice_get events index event event there))

ticks-le : (request : Request) → ticks request ≤ 1
ticks-le (Emission event cpu pid pairs) = omega arith
ticks-le (MakeInstance path) = omega arith
ticks-le (RemoveInstance path) = omega arith
ticks-le (WriteFile instance file append text) = omega arith
ticks-le (ReadFile instance file limit) = omega arith

now_of-le : (past : List Request) → now_of past ≤ length past
now_of-le [] = omega arith
now_of-le (request ∷ past) = omega (arith, now_of-le past, ticks-le request)

payload-small : (g : Config) (event : Definition) (size : ℕ) → IsInRange g → IsFit g.page_bytes event → size ≡ payload_size_of event → size < 2 ^ 16
payload-small g event size in_range fit is = by (payload_size_of event) fit.size is
  where
    by : (n : ℕ) → 16 + 8 * ((n + 7) / 8) ≤ g.page_bytes → size ≡ n → size < 2 ^ 16
    by n fits e = omega (arith, in_range.few_bytes)

-- ---- emissions

-- the emission that a request is
pub record IsEmission (past : List Request) (request : Request) (e : Emitted) : Type 0 where
  pub name : List ℕ
  pub pairs : List Pair
  pub emission : request ≡ Emission name e.cpu e.pid pairs
  pub named : event_named name past ≡ Some e.k
  pub built : row_of e.k.event pairs ≡ Ok e.row
  pub time : e.timestamp ≡ now_of past + 1

pub emission-is : (past : List Request) (request : Request) (e : Emitted) → emitted past request ≡ Some e → IsEmission past request e
emission-is past (Emission name cpu pid pairs) e is = by_event (event_named name past) refl is
  where
    by_row : (k : NumberedEvent) (built : Result Cells BadRow) → event_named name past ≡ Some k → row_of k.event pairs ≡ built
        → emitted_row (now_of past + 1) cpu pid k built ≡ Some e → IsEmission past (Emission name cpu pid pairs) e
    by_row k (Err bad) named built h = absurd (none-some e h)
    by_row k (Ok row) named built h =
        let this : Emitted = record { k = k; row = row; cpu = cpu; pid = pid; timestamp = now_of past + 1 } in
        let same : this ≡ e = same_Some _ _ h in
        let found : IsEmission past (Emission name cpu pid pairs) this =
        record { name = name; pairs = pairs; emission = refl; named = named; built = built; time = refl } in
        subst (IsEmission past (Emission name cpu pid pairs)) same found

    by_event : (found : Option NumberedEvent) → event_named name past ≡ found → emitted_event (now_of past + 1) cpu pid pairs found ≡ Some e
        → IsEmission past (Emission name cpu pid pairs) e
    by_event None named h = absurd (none-some e h)
    by_event (Some k) named h = by_row k (row_of k.event pairs) named refl h
emission-is past _ e is = absurd (none-some e is)

-- the process of an emission has a number in 32 bits
pid_of-fits : (request : Request) (name : List ℕ) (cpu : ℕ) (pid : ℤ) (pairs : List Pair) → FitsItsTypes request → request ≡ Emission name cpu pid pairs
    → FitsSigned w32 pid
pid_of-fits request name cpu pid pairs fits emission = (subst FitsItsTypes emission fits).1

-- ---- the theorem

pub records_show_their_rows : RecordsShowTheirRows
unfolding record_bytes
records_show_their_rows g request before later e in_range done short fits emitted_is =
    record_shows_its_row (declared_events (later ++ request ∷ before)) e.cpu e.k.event e.row head
    (replicate (padding (length (payload_of e.row))) 0) is_row is_head
  where
    is : IsEmission before request e
    is = emission-is before request e emitted_is

    head : Head
    head = record { ts = e.timestamp; pid = e.pid; event = e.k.id; payload = length (payload_of e.row) }

    is_row : IsRowOf e.k.event e.row
    is_row = row_of-is_row e.k.event is.pairs e.row is.built

    at_number : event_of (declared_events before) e.k.id ≡ Some e.k.event
    at_number = (named-is_numbered (declared_events before) is.name e.k is.named).there

    at_number_then : event_of (declared_events (later ++ request ∷ before)) e.k.id ≡ Some e.k.event
    at_number_then = event_of-later later (request ∷ before) e.k.id e.k.event (event_of-later (request ∷ []) before e.k.id e.k.event at_number)

    is_head : IsHeadOf (declared_events (later ++ request ∷ before)) e.k.event e.row head
    is_head = record {
      event = at_number_then;
      payload = refl;
      event_fits = omega (arith, event_of-small (declared_events before) e.k.id e.k.event at_number, (done-events g before done).few);
      payload_fits = payload-small g e.k.event (length (payload_of e.row)) in_range (event_of-fit g before e.k.id e.k.event done at_number) (length-payload e.k.event e.row is_row);
      ts_fits = omega (arith, is.time, now_of-le before, short);
      pid_fits = pid_of-fits request is.name e.cpu e.pid is.pairs fits is.emission;
    }
