-- The conditions with which triggers were attached, and the emissions of which they hold.
use Rattle.std.proofs.Common.{◌≡◌, inl, ℕ, Bool, true, false, if◌then◌else◌, List, [], ◌∷◌, ◌++◌, length, bytes_eq, IsTrue, ◌↔◌, Option, Some, None, unwrap_or, Result, Ok, Err, refl, sym, ap, ◌∙◌, subst}
use Rattle.std.specs.Option.{option_map, option_to_list}
use Rattle.std.proofs.lemmas.Option.{none-some, same_Some}
use Rattle.std.proofs.lemmas.Slice.Eq.{bytes_eq-Decides}
use Rattle.trace_filter.specs.Filters.{Parsed}
use Rattle.trace_filter.specs.Laws.{HoldsAsItsTree}
use Rattle.trace_format.specs.Cells.{IsRowOf}
use Rattle.trace_format.specs.Definitions.{Definition, IsDefinition}
use Rattle.trace_trigger.specs.Frames.{IsReadAs}
use Rattle.trace_trigger.specs.HistLaws.{OkIsWritten}
use Rattle.trace_trigger.specs.Laws.{AttachIsWritten, HistIsRead}
use Rattle.trace_trigger.specs.TriggerTexts.{said_of}
use Rattle.trace_trigger.specs.declared.fault.TriggerFault.{TriggerFault}
use Rattle.trace_trigger.specs.declared.trigger.TriggerText.{TriggerText}
use Rattle.trace_trigger.specs.declared.trigger.TriggerText.TheVariants.{Nothing, AttachSnapshot, RemoveSnapshot, Hist, RemoveHist}
use Rattle.trace_command.specs.Paths.{OfEvent}
use Rattle.trace_command.specs.Requests.{Request, WriteFile}
use Rattle.trace_command.specs.declared.file_name.EventFile.TheVariants as per_event
use Rattle.tracer_specification.specs.HistTriggers.{HistTrigger, Written, hist_triggers, written_to}
use Rattle.tracer_specification.specs.Laws.{HistTriggersAreThoseAttached, IsAttached}
use Rattle.tracer_specification.specs.Settings.{NumberedEvent, declared_events, declares, event_named, is_same, makes, set_by}
use Rattle.tracer_specification.specs.Triggers.{Trigger, passes, sets_trigger, snapshot_trigger_of, written_trigger}
use Rattle.tracer_specification.proofs.Events.{index_of_id}
use Rattle.tracer_specification.proofs.LegalEvents.{named-is_definition, named-is_numbered, named_in-more}
use Rattle.tracer_specification.proofs.Members.{contains-in, each-in}
use Rattle.tracer_specification.proofs.OwnFiles.{IsNamed, all-named}
use Rattle.tracer_specification.proofs.ShownRecords.{emission-is, row_of-is_row}
use Rattle.tracer_specification.proofs.Spares.{same-instance}
use Rattle.history_laws.specs.TriggerTrees.{EmissionsHaveTheirRows, HistMeets, HistTriggersMeetAsTheirTrees, HoldsOf, MeetsAsItsTree, SnapshotTriggersMeetAsTheirTrees, WasWritten}

-- ---- what a filter that was read comes to

meets-as-read : HoldsAsItsTree → (event : Definition) (condition : Option (List ℕ)) (filter : Option Parsed) → IsDefinition event
    → IsReadAs event condition filter → MeetsAsItsTree event filter condition
meets-as-read tree event None None defined read e row = (λ h. tt, λ h. refl)
meets-as-read tree event None (Some filter) defined read e row = absurd read
meets-as-read tree event (Some condition) None defined read e row = absurd read
meets-as-read tree event (Some condition) (Some filter) defined read e row =
    subst (λ (f : Parsed). IsTrue (passes (Some f) e) ↔ HoldsOf event (Some condition) e) (sym read.1)
    (tree event condition e.row (record { values = e.row.values; cpu = e.cpu; pid = e.pid }) read.0 defined row refl)

-- ---- rows

pub named-itself : (name : List ℕ) (past : List Request) (k : NumberedEvent) → event_named name past ≡ Some k → name ≡ k.event.name
named-itself name past k there =
    let numbered = named-is_numbered (declared_events past) name k there in
    let index = index_of_id (declared_events past) name k.id k.event numbered.named numbered.there in
    (bytes_eq-Decides name k.event.name).0 index.named

still-named : (name : List ℕ) (later past : List Request) (k : NumberedEvent) → event_named name past ≡ Some k → event_named name (later ++ past) ≡ Some k
still-named name [] past k there = there
still-named name (request ∷ later) past k there =
    named_in-more name (declared_events (later ++ past)) (option_to_list (declares request)) k (still-named name later past k there)

pub emissions_have_their_rows : EmissionsHaveTheirRows
emissions_have_their_rows past later request e k is named =
    let emission = emission-is past request e is in
    let own : event_named e.k.event.name past ≡ Some e.k =
    ap (λ (n : List ℕ). event_named n past) (sym (named-itself emission.name past e.k emission.named)) ∙ emission.named in
    let then_named = still-named e.k.event.name later (request ∷ past) e.k (still-named e.k.event.name (request ∷ []) past e.k own) in
    let same : e.k ≡ k = same_Some _ _ (sym then_named ∙ named) in
    (same, subst (λ (j : NumberedEvent). IsRowOf j.event e.row) same (row_of-is_row e.k.event emission.pairs e.row emission.built))

-- ---- snapshot triggers

-- the string that attached one
record IsAttachedAs (instance : Option (List ℕ)) (event : Definition) (t : Trigger) (past : List Request) : Type 0 where
  text : List ℕ
  by : WasWritten instance event t.number text past
  said : said_of event text ≡ Ok (AttachSnapshot t.spec)

attached-later : (instance : Option (List ℕ)) (event : Definition) (t : Trigger) (past : List Request) (request : Request)
    → IsAttachedAs instance event t past → IsAttachedAs instance event t (request ∷ past)
attached-later instance event t past request was = record {
  text = was.text;
  by = record {
    later = request ∷ was.by.later;
    append = was.by.append;
    before = was.by.before;
    cut = ap (λ (rs : List Request). request ∷ rs) was.by.cut;
    after = was.by.after;
  };
  said = was.said;
}

record IsSaidBy (number : ℕ) (said : Result TriggerText TriggerFault) (t : Trigger) : Type 0 where
  then_number : t.number ≡ number
  says : said ≡ Ok (AttachSnapshot t.spec)

written-says : (number : ℕ) (said : Result TriggerText TriggerFault) (t : Trigger) → written_trigger number said ≡ Some (Some t) → IsSaidBy number said t
written-says number (Ok (AttachSnapshot spec)) t is =
    let made : Trigger = record { number = number; spec = spec } in
    let same : made ≡ t = same_Some _ _ (same_Some _ _ is) in
    record {
      then_number = ap (λ (u : Trigger). u.number) (sym same);
      says = ap (λ (u : Trigger). let r : Result TriggerText TriggerFault = Ok (AttachSnapshot u.spec) in r) same;
    }
written-says number (Ok RemoveSnapshot) t is = absurd (none-some t (same_Some _ _ is))
written-says number (Ok Nothing) t is = absurd (none-some (Some t) is)
written-says number (Ok (Hist spec)) t is = absurd (none-some (Some t) is)
written-says number (Ok (RemoveHist spec)) t is = absurd (none-some (Some t) is)
written-says number (Err fault) t is = absurd (none-some (Some t) is)

attached-by : (instance : Option (List ℕ)) (event : Definition) (t : Trigger) (past : List Request) (request : Request)
    → set_by instance (sets_trigger event past) request ≡ Some (Some t) → IsAttachedAs instance event t (request ∷ past)
attached-by instance event t past (WriteFile other (Some (OfEvent name per_event.Trigger)) append text) is =
    by (is_same instance other) (bytes_eq event.name name) refl refl is
  where
    by : (same own : Bool) → is_same instance other ≡ same → bytes_eq event.name name ≡ own
        → (if same then (if own then written_trigger (length past) (said_of event text) else None) else None) ≡ Some (Some t)
        → IsAttachedAs instance event t (WriteFile other (Some (OfEvent name per_event.Trigger)) append text ∷ past)
    by true true same own h =
        let says = written-says (length past) (said_of event text) t h in record {
          text = text;
          by = record {
            later = [];
            append = append;
            before = past;
            cut = ap (λ (o : Option (List ℕ)). let rs : List Request = WriteFile o (Some (OfEvent name per_event.Trigger)) append text ∷ past in rs)
                (sym (same-instance instance other same))
                ∙ ap (λ (n : List ℕ). let rs : List Request = WriteFile instance (Some (OfEvent n per_event.Trigger)) append text ∷ past in rs)
                (sym ((bytes_eq-Decides event.name name).0 own));
            after = says.then_number;
          };
          said = says.says;
        }
    by true false same own h = absurd (none-some (Some t) h)
    by false own same is h = absurd (none-some (Some t) h)
attached-by instance event t past (WriteFile other (Some file) append text) is = by (is_same instance other) is
  where
    by : (same : Bool) → (if same then sets_trigger event past file text else None) ≡ Some (Some t)
        → IsAttachedAs instance event t (WriteFile other (Some file) append text ∷ past)
    by true h = absurd (none-some (Some t) h)
    by false h = absurd (none-some (Some t) h)
attached-by instance event t past request is = absurd (none-some (Some t) is)

was-attached : (instance : Option (List ℕ)) (event : Definition) (t : Trigger) (past : List Request) → snapshot_trigger_of instance event past ≡ Some t
    → IsAttachedAs instance event t past
was-attached instance event t [] is = absurd (none-some t is)
was-attached instance event t (request ∷ past) is =
    by (makes instance request) (set_by instance (sets_trigger event past) request) refl (was-attached instance event t past) is
  where
    by : (new : Bool) (set : Option (Option Trigger)) → set_by instance (sets_trigger event past) request ≡ set
        → (snapshot_trigger_of instance event past ≡ Some t → IsAttachedAs instance event t past)
        → (if new then None else unwrap_or set (snapshot_trigger_of instance event past)) ≡ Some t → IsAttachedAs instance event t (request ∷ past)
    by true set was older h = absurd (none-some t h)
    by false None was older h = attached-later instance event t past request (older h)
    by false (Some set) was older h = attached-by instance event t past request (was ∙ ap Some h)

pub snapshot_triggers_meet_as_their_trees : HoldsAsItsTree → AttachIsWritten → SnapshotTriggersMeetAsTheirTrees
snapshot_triggers_meet_as_their_trees tree attach g past instance name k t done there is =
    let was = was-attached instance k.event t past is in
    let writes = (attach k.event was.text t.spec).0 was.said in
    record {
      text = was.text;
      condition = writes.condition;
      by = was.by;
      written = writes.written;
      meets = meets-as-read tree k.event writes.condition t.spec.filter (named-is_definition g past name k done there) writes.filtered;
    }

-- ---- hist triggers

written-is : (instance : Option (List ℕ)) (past : List Request) (request : Request) (w : Written) → written_to instance past request ≡ Some w
    → request ≡ WriteFile instance (Some (OfEvent w.event.name per_event.Trigger)) w.append w.text
written-is instance past (WriteFile other (Some (OfEvent name per_event.Trigger)) append text) w is =
    by (is_same instance other) (event_named name past) refl refl is
  where
    of : NumberedEvent → Written
    of k = record { event = k.event; append = append; text = text }

    request : Option (List ℕ) → List ℕ → Bool → List ℕ → Request
    request o n a t = WriteFile o (Some (OfEvent n per_event.Trigger)) a t

    by : (same : Bool) (found : Option NumberedEvent) → is_same instance other ≡ same → event_named name past ≡ found
        → (if same then option_map of found else None) ≡ Some w → request other name append text ≡ request instance w.event.name w.append w.text
    by true (Some k) same there h =
        let made : of k ≡ w = same_Some _ _ h in
        ap (λ (o : Option (List ℕ)). request o name append text) (sym (same-instance instance other same))
        ∙ ap (λ (n : List ℕ). request instance n append text) (named-itself name past k there)
        ∙ ap (λ (v : Written). request instance v.event.name v.append v.text) made
    by true None same there h = absurd (none-some w h)
    by false found same there h = absurd (none-some w h)
written-is instance past (WriteFile other (Some file) append text) w is = absurd (none-some w is)
written-is instance past request w is = absurd (none-some w is)

hist-meets : HoldsAsItsTree → HistIsRead → OkIsWritten → (instance : Option (List ℕ)) (t : HistTrigger) (past : List Request) → IsDefinition t.event
    → IsAttached instance t past → HistMeets instance t past
hist-meets tree read ok instance t past defined was =
    let by = was.by in
    let said = (read t.event by.text t.spec).0 by.said in
    let says = (ok t.event by.text t.spec (inl said.0)).0 said.1 in
    record {
      text = by.text;
      settings = says.settings;
      condition = says.condition;
      by = record {
        later = was.later;
        append = by.append;
        before = was.before;
        cut = was.cut ∙ ap (λ (r : Request). was.later ++ r ∷ was.before)
            (written-is instance was.before was.request (record { event = t.event; append = by.append; text = by.text }) by.written);
        after = ap (λ (u : HistTrigger). u.number) by.is;
      };
      begins = said.0;
      written = says.written;
      meets = meets-as-read tree t.event says.condition t.spec.filter defined says.fits.filter;
    }

pub hist_triggers_meet_as_their_trees : HoldsAsItsTree → HistIsRead → OkIsWritten → HistTriggersAreThoseAttached → HistTriggersMeetAsTheirTrees
hist_triggers_meet_as_their_trees tree read ok attached g past instance t done there =
    let named = each-in (IsNamed past) t (hist_triggers instance past) (all-named instance past) (contains-in t (hist_triggers instance past) there) in
    let defined : IsDefinition t.event = subst IsDefinition named.event (named-is_definition g past t.event.name named.k done named.there) in
    hist-meets tree read ok instance t past defined ((attached instance t past).0 there)
