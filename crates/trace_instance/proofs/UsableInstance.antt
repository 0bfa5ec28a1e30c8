-- An instance that stands for a past is fit for one more request.
use Rattle.std.proofs.Common.{◌≡◌, inl, inr, ℕ, zero, suc, ◌+◌, ◌*◌, ◌<◌, ◌≤◌, Bool, true, false, not, if◌then◌else◌, List, [], ◌∷◌, ◌++◌, length, length-append, map, get_or, All, is_some, IfSome, Option, Some, None, option_map, Result, Ok, Err, refl, sym, ap, ◌∙◌, subst, arith}
use Rattle.std.proofs.lemmas.List.{length-map}
use Rattle.std.proofs.lemmas.List.Elements.{All-map}
use Rattle.std.specs.List.{AllByRecursion}
use Rattle.std.proofs.lemmas.Slice.Eq.{bytes_eq-Decides}
use Rattle.trace_filter.specs.Filters.{Parsed}
use Rattle.trace_format.specs.declared.bad_row.BadRow.{BadRow}
use Rattle.trace_format.specs.Cells.{Cells}
use Rattle.trace_format.specs.Definitions.{Definition}
use Rattle.trace_format.specs.Rows.{row_of}
use Rattle.trace_command.specs.Requests.{Request, Emission}
use Rattle.trace_command.specs.declared.command.Config.{Config}
use Rattle.tracer_specification.specs.Settings.{NumberedEvent, declared_events, event_named, is_enabled, kept_filter, now_of}
use Rattle.page_ring.specs.Shown.{most_offered}
use Rattle.trace_instance.specs.Deliveries.{most_requests}
use Rattle.trace_instance.specs.Instances.{InstanceSeen, InstanceStandsFor, TablesFit, kept_trigger, IsUsableInstance}
use Rattle.std.proofs.lemmas.List.Filters.{length-filter_both}
use Rattle.trace_hist.specs.Groups.{admitted, grouped}
use Rattle.hist_entries.specs.HistEntries.{is_among}
use Rattle.trace_trigger.specs.HistSpecs.{SpecSeen}
use Rattle.trace_trigger.specs.HistTexts.{spec_of}
use Rattle.trace_trigger.proofs.FittingLaws.{fitting_specs_of_one_event_read_alike}
use Rattle.trace_hist.specs.Hists.{Seen, counted}
use Rattle.hist_entries.specs.RowPlaces.{most_rows}
use Rattle.hist_entries.specs.Hits.{Hit}
use Rattle.tracer_specification.specs.Emissions.{Emitted, emitted, emitted_event, emitted_row}
use Rattle.tracer_specification.specs.History.{trigger_count}
use Rattle.tracer_specification.specs.Pasts.{AreDone}
use Rattle.tracer_specification.specs.HistTriggers.{HistTrigger, asked_by, counted_by, empties, hist_triggers, hists_of, hits_of, is_of, is_paused, those_of}
use Rattle.tracer_specification.specs.Triggers as triggers
use Rattle.tracer_specification.specs.Triggers.{snapshot_trigger_of}
use Rattle.tracer_specification.proofs.SaidHists.{said-spec}
use Rattle.tracer_specification.proofs.AttachedHists.{hist_triggers_are_those_attached}
use Rattle.tracer_specification.proofs.FewTriggers.{few-triggers}
use Rattle.tracer_specification.proofs.Members.{IsIn, each-in, in-contains, in-filter}
use Rattle.tracer_specification.proofs.OwnFiles.{IsNamed, all-named}
use Rattle.tracer_specification.proofs.TableSteps.{nothing-counted, rows-few}
use Rattle.trace_instance.specs.KeptHists.{HasRoomToCount, KeptTable, KeysAgree, TableStandsFor, attached_as, kept_hists, kept_table, table_numbered}
use Rattle.trace_instance.specs.declared.hists.AttachedHist.{AttachedHist}
use Rattle.trace_instance.specs.declared.tables.Table.{Table}
use Rattle.trace_instance.specs.declared.trigger.AttachedSnapshot.{AttachedSnapshot}

-- ---- tables

-- a table that is kept is there
kept-there : (found : Option Seen) (k : KeptTable) → option_map kept_table found ≡ Some k → is_some found ≡ true
kept-there None k there = absurd (cc)
kept-there (Some hist) k there = refl

-- a trigger at an index is one of the requests' own
record IsAt (hists : List HistTrigger) (attached : List AttachedHist) (j : ℕ) (d : AttachedHist) : Type 0 where
  t : HistTrigger
  there : IsIn t hists
  is : attached_as t ≡ get_or attached j d

attached-at : (hists : List HistTrigger) (j : ℕ) (d : AttachedHist) → j < length (map attached_as hists) → IsAt hists (map attached_as hists) j d
attached-at [] j d inside = absurd (omega (arith, inside))
attached-at (t ∷ hists) zero d inside = record { t = t; there = inl refl; is = refl }
attached-at (t ∷ hists) (suc j) d inside =
    let rest = attached-at hists j d (omega (arith, inside)) in
    record { t = rest.t; there = inr rest.there; is = rest.is }

-- what a text said of its event
said-by : (name : Option (List ℕ)) (past : List Request) (t : HistTrigger) → IsIn t (hist_triggers name past)
    → (text : List ℕ) × (spec_of t.event text ≡ Ok t.spec)
said-by name past t there =
    let was = (hist_triggers_are_those_attached name t past).0 (in-contains t (hist_triggers name past) there) in
    (was.by.text, said-spec t.event was.by.text t.spec was.by.said)

-- triggers of one name's event are of one event
one-event : (name : Option (List ℕ)) (past : List Request) (event : Definition) (t u : HistTrigger) → IsIn t (hist_triggers name past)
    → IsIn u (hist_triggers name past) → is_of event t ≡ true → is_of event u ≡ true → u.event ≡ t.event
one-event name past event t u first second is other =
    let all = all-named name past in
    let one = each-in (IsNamed past) t (hist_triggers name past) all first in
    let two = each-in (IsNamed past) u (hist_triggers name past) all second in
    let names : u.event.name ≡ t.event.name =
    sym ((bytes_eq-Decides event.name u.event.name).0 other) ∙ (bytes_eq-Decides event.name t.event.name).0 is in
    let found : Some two.k ≡ Some one.k = sym two.there ∙ ap (λ (n : List ℕ). event_named n past) names ∙ one.there in
    let same : two.k ≡ one.k = cc in
    sym two.event ∙ ap (λ (k : NumberedEvent). k.event) same ∙ one.event

-- of one event those that share a table have the same keys
keys-agree : (name : Option (List ℕ)) (past : List Request) (event : Definition) → TablesFit name past → KeysAgree (kept_hists name past event)
keys-agree name past event fitting j k d inside within same =
    let hists = hist_triggers name past in
    let one = attached-at (those_of event hists) j d inside in
    let two = attached-at (those_of event hists) k d within in
    let first = in-filter one.t (is_of event) hists one.there in
    let second = in-filter two.t (is_of event) hists two.there in
    let tables : one.t.table ≡ two.t.table =
    ap (λ (a : AttachedHist). a.table) one.is ∙ same ∙ sym (ap (λ (a : AttachedHist). a.table) two.is) in
    let fits = fitting one.t two.t (in-contains one.t hists first.0) (in-contains two.t hists second.0) tables in
    let said = said-by name past one.t first.0 in
    let other = said-by name past two.t second.0 in
    let event_is : two.t.event ≡ one.t.event = one-event name past event one.t two.t first.0 second.0 first.1 second.1 in
    let of_one : spec_of one.t.event other.0 ≡ Ok two.t.spec =
    subst (λ (e : Definition). spec_of e other.0 ≡ Ok two.t.spec) event_is other.1 in
    let alike = fitting_specs_of_one_event_read_alike one.t.event said.0 other.0 one.t.spec two.t.spec said.1 of_one fits in
    sym (ap (λ (a : AttachedHist). a.spec.keys) one.is) ∙ alike.0 ∙ ap (λ (a : AttachedHist). a.spec.keys) two.is

-- ---- a state that stands for a past

pub usable-stands : (g : Config) (name : Option (List ℕ)) (past : List Request) (i : InstanceSeen) → InstanceStandsFor g name past i
    → IsUsableInstance g (length (declared_events past)) i
usable-stands g name past i stands = record {
  enabled = ap (λ (l : List Bool). length l) stands.enabled ∙ length-map (declared_events past) (λ (event : Definition). is_enabled name event.name past);
  filters = ap (λ (l : List (Option Parsed)). length l) stands.filters ∙ length-map (declared_events past) (kept_filter name past);
  triggers = ap (λ (l : List (Option AttachedSnapshot)). length l) stands.triggers ∙ length-map (declared_events past) (kept_trigger name past);
  hists = ap (λ (l : List (List AttachedHist)). length l) stands.hists ∙ length-map (declared_events past) (kept_hists name past);
  tables = λ k d inside j e within.
      let table = stands.tables k d inside j e within in
      kept-there (table_numbered (get_or (get_or i.hists k d) j e).table i.tables) table.kept table.there;
  agree = subst (λ (hists : List (List AttachedHist)). All KeysAgree hists) (sym stands.hists)
      (All-map KeysAgree (kept_hists name past) (declared_events past)
      (λ k d inside. keys-agree name past (get_or (declared_events past) k d) stands.fitting));
  shaped = stands.shaped;
}

-- where the history has room for one more, the clock and each ring's count have too
pub few_offers : (most : ℕ) (counts : List ℕ) → most < most_offered → AllByRecursion (λ n. n ≤ most) counts → AllByRecursion (λ n. n < most_offered) counts
few_offers most [] small all = tt
few_offers most (n ∷ counts) small all = (omega (arith, all.0, small), few_offers most counts small all.1)

-- a grouping has as many hits and dropped rows as there are rows
all_counted : (spec : SpecSeen) (hits : List Hit) → (grouped spec hits).hits + (grouped spec hits).dropped ≡ length hits
unfolding grouped
all_counted spec hits =
    let among : Hit → Bool = λ hit. is_among (admitted spec.size hits) hit.key in
    length-filter_both among (λ (hit : Hit). not (among hit)) (λ (hit : Hit). refl) hits

-- an emission is of an event that was declared
emitted-named : (past : List Request) (request : Request) (e : Emitted) → emitted past request ≡ Some e
    → (name : List ℕ) × (event_named name past ≡ Some e.k)
emitted-named past (Emission name cpu pid pairs) e is = (name, found (event_named name past) is)
  where
    built : (k : NumberedEvent) (row : Result Cells BadRow) → emitted_row (now_of past + 1) cpu pid k row ≡ Some e → Some k ≡ Some e.k
    built k (Ok row) same = ap (option_map (λ (brought : Emitted). brought.k)) same
    built k (Err wrong) same = absurd (cc)

    found : (o : Option NumberedEvent) → emitted_event (now_of past + 1) cpu pid pairs o ≡ Some e → o ≡ Some e.k
    found None same = absurd (cc)
    found (Some k) same = built k (row_of k.event pairs) same
emitted-named past _ e is = absurd (cc)

-- where each request was done a table counts at most four rows of the next, one for each trigger of its event
hists-few : (trigger : Option triggers.Trigger) (hists : List HistTrigger) → trigger_count trigger hists ≤ 4 → length hists ≤ 4
hists-few None hists few = few
hists-few (Some t) hists few = omega (arith, few)

few_counted : (g : Config) (name : Option (List ℕ)) (table : ℕ) (paused : Bool) (past : List Request) (request : Request) (o : Option Emitted)
    → AreDone g past → emitted past request ≡ o → length (counted_by table paused (hist_triggers name past) o) ≤ 4
few_counted g name table true past request o done is = omega arith
few_counted g name table false past request None done is =
    let none = ap (λ (rows : List Hit). length rows) (nothing-counted table false (hist_triggers name past)) in
    omega (arith, none)
few_counted g name table false past request (Some e) done is =
    let named = emitted-named past request e is in
    let all = few-triggers g past name named.0 e.k done named.1 in
    let few = hists-few (snapshot_trigger_of name e.k.event past) (hists_of name e.k.event past) all in
    let rows = rows-few table e (hist_triggers name past) in
    omega (arith, few, rows)

pub hits_within : (g : Config) (name : Option (List ℕ)) (table : ℕ) (past : List Request) → AreDone g past
    → length (hits_of name table past) ≤ 4 * length past
hits_within g name table [] done = omega arith
hits_within g name table (request ∷ past) done =
    by (empties (asked_by name table past request)) (hits_within g name table past done.1)
  where
    rows : List Hit
    rows = counted_by table (is_paused name table past) (hist_triggers name past) (emitted past request)

    few : length rows ≤ 4
    few = few_counted g name table (is_paused name table past) past request (emitted past request) done.1 refl

    by : (emptied : Bool) → length (hits_of name table past) ≤ 4 * length past
        → length (if emptied then [] else hits_of name table past ++ rows) ≤ 4 * length (request ∷ past)
    by true before = omega arith
    by false before = omega (arith, before, few, length-append (hits_of name table past) rows)

-- so it has room for four more
pub has_room : (name : Option (List ℕ)) (past : List Request) (tables : List Table) (a : AttachedHist) → TableStandsFor name past tables a
    → length (hits_of name a.table past) ≤ 4 * length past → length past < most_requests → HasRoomToCount tables a
has_room name past tables a stands within short = by (table_numbered a.table tables) stands.there
  where
    by : (found : Option Seen) → option_map kept_table found ≡ Some stands.kept → IfSome found (λ hist. counted hist + 4 ≤ most_rows)
    by None there = tt
    by (Some hist) there =
        let same : kept_table hist ≡ stands.kept = cc in
        let table : hist.table ≡ grouped stands.kept.spec (hits_of name a.table past) = ap (λ (k : KeptTable). k.table) same ∙ stands.table in
        let all = all_counted stands.kept.spec (hits_of name a.table past) in
        rw table (omega (arith, all, within, short))
