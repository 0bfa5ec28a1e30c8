-- What a trigger text changes of an event's triggers, and what it asks of tables.
use Rattle.std.proofs.Common.{◌≡◌, ℕ, ◌==◌, Bool, true, false, not, ◌&&◌, ◌||◌, if◌then◌else◌, unwrap_or, List, [], ◌∷◌, ◌++◌, length, map, filter, bytes_eq, Option, None, Some, option_map, Result, Ok, refl, ap, ◌∙◌, append-nil, arith}
use Rattle.std.specs.List.{AllPairs, find, list_any}
use Rattle.std.proofs.lemmas.Slice.Eq.{bytes_eq-Decides}
use Rattle.std.proofs.lemmas.List.{map-append}
use Rattle.hist_entries.specs.Hits.{Hit}
use Rattle.trace_format.specs.Definitions.{Definition}
use Rattle.trace_trigger.specs.HistSpecs.{SpecSeen}
use Rattle.trace_trigger.specs.SameSpecs.{IsSame, is_same}
use Rattle.trace_trigger.specs.declared.spec.Action.{Action}
use Rattle.trace_trigger.specs.TriggerTexts.{said_of}
use Rattle.trace_trigger.specs.declared.fault.TriggerFault.{TriggerFault}
use Rattle.trace_trigger.specs.declared.trigger.SnapshotTrigger.{SnapshotTrigger}
use Rattle.trace_trigger.specs.declared.trigger.TriggerText.{TriggerText}
use Rattle.trace_trigger.specs.declared.trigger.TriggerText.TheVariants as said
use Rattle.trace_command.specs.Paths as paths
use Rattle.trace_command.specs.Requests.{Request, WriteFile}
use Rattle.trace_command.specs.declared.file_name.EventFile.TheVariants as per_event
use Rattle.tracer_specification.specs.HistTriggers.{HistTrigger, Written, asked_by, asked_in, asked_of, counted_by, empties, has_same, hist_triggers, hists_after, hists_of, hists_said, hits_of, is_paused, kept_by, left_by, new_hist, paused_after, says_same, speaks_of, written_to}
use Rattle.tracer_specification.specs.Settings.{event_named}
use Rattle.tracer_specification.specs.Triggers as triggers
use Rattle.tracer_specification.specs.Triggers.{snapshot_trigger_of, written_trigger}
use Rattle.tracer_specification.proofs.EventHists.{hists_of-after, own_after, own_said}
use Rattle.tracer_specification.proofs.HistTriggers.{hist_triggers_differ, same-itself}
use Rattle.tracer_specification.proofs.OwnFiles.{OwnWritten, as_written, own-declared, own_written, trigger_after, snapshot_trigger_of-after}
use Rattle.tracer_specification.proofs.TableSteps.{nothing-counted}
use Rattle.tracer_specification.proofs.Triggered.{number-before, times_left-attached, times_left-same}
use Rattle.trace_instance.specs.Changes.{IsAsked}
use Rattle.trace_instance.specs.Instances.{kept_trigger}
use Rattle.trace_instance.specs.Instances as instances
use Rattle.trace_instance.specs.KeptHists as kept
use Rattle.trace_instance.specs.KeptHists.{attached_as, kept_hists, without_same}
use Rattle.trace_instance.specs.declared.hists.AttachedHist.{AttachedHist}
use Rattle.trace_instance.specs.declared.trigger.AttachedSnapshot.{AttachedSnapshot}
use Rattle.trace_instance.proofs.Calm.{kept-as_left}
use Rattle.trace_instance.proofs.Effects.{same_instance}
use Rattle.trace_instance.proofs.OneSays.{one-speaks, or-none, speaks_for}

-- the request that writes a text to an event's trigger file
abbrev pub text_request : Option (List ℕ) → Definition → Bool → List ℕ → Request
text_request name event append text = WriteFile name (Some (paths.OfEvent event.name per_event.Trigger)) append text

-- an event is declared under this number
abbrev pub IsNamed : List Request → Definition → ℕ → Type 0
IsNamed past event id = event_named event.name past ≡ Some (record { id = id; event = event })

-- ---- hist triggers that are left, and one that is attached

-- those of the event that `>` or `>>` leaves, and those of all events
abbrev pub own_left : Option (List ℕ) → List Request → Definition → Bool → List HistTrigger
own_left name past event append = kept_by append (hists_of name event past)

abbrev pub all_left : Option (List ℕ) → List Request → Definition → Bool → List HistTrigger
all_left name past event append = left_by event append (hist_triggers name past)

-- and those after a text that says this
abbrev pub own_then : Option (List ℕ) → List Request → Definition → Bool → Result TriggerText TriggerFault → List HistTrigger
own_then name past event append r = own_said (length past) event (all_left name past event append) (own_left name past event append) r

left-kept : (name : Option (List ℕ)) (past : List Request) (event : Definition) (append : Bool)
    → map attached_as (own_left name past event append) ≡ (if append then kept_hists name past event else [])
left-kept name past event true = refl
left-kept name past event false = refl

without-kept : (spec : SpecSeen) (hists : List HistTrigger)
    → map attached_as (filter (λ (t : HistTrigger). not (says_same spec t)) hists) ≡ without_same spec (map attached_as hists)
without-kept spec [] = refl
without-kept spec (t ∷ hists) = by (is_same spec t.spec) (without-kept spec hists)
  where
    by : (same : Bool) → map attached_as (filter (λ (u : HistTrigger). not (says_same spec u)) hists) ≡ without_same spec (map attached_as hists)
        → map attached_as (if not same then t ∷ filter (λ (u : HistTrigger). not (says_same spec u)) hists else filter (λ (u : HistTrigger). not (says_same spec u)) hists)
        ≡ (if not same then attached_as t ∷ without_same spec (map attached_as hists) else without_same spec (map attached_as hists))
    by true rest = rest
    by false rest = λ i. attached_as t ∷ rest i

-- those after a text for one that is there, and for one that is not
then-same : (name : Option (List ℕ)) (past : List Request) (event : Definition) (append : Bool) (spec : SpecSeen)
    → has_same spec (own_left name past event append) ≡ true
    → own_then name past event append (Ok (said.Hist spec)) ≡ own_left name past event append
then-same name past event append spec same = rw same refl

-- the one that a text attaches
abbrev pub new_of : Option (List ℕ) → List Request → Definition → Bool → SpecSeen → HistTrigger
new_of name past event append spec = new_hist (length past) event (all_left name past event append) spec

then-new : (name : Option (List ℕ)) (past : List Request) (event : Definition) (append : Bool) (spec : SpecSeen)
    → has_same spec (own_left name past event append) ≡ false
    → own_then name past event append (Ok (said.Hist spec)) ≡ own_left name past event append ++ new_of name past event append spec ∷ []
then-new name past event append spec none = rw none refl

any-speaks : (spec : SpecSeen) (number : ℕ) (hists : List HistTrigger)
    → list_any (speaks_of spec number) hists ≡ list_any (speaks_for spec number) (map attached_as hists)
any-speaks spec number [] = refl
any-speaks spec number (t ∷ hists) = ap (λ (b : Bool). (is_same spec t.spec && (t.table == number)) || b) (any-speaks spec number hists)

new-speaks : (spec : SpecSeen) (number : ℕ) (new : HistTrigger) (hists : List HistTrigger) → new.spec ≡ spec → has_same spec hists ≡ false
    → list_any (speaks_of spec number) (hists ++ new ∷ []) ≡ (new.table == number)
new-speaks spec number new [] is none =
    let same : is_same spec new.spec ≡ true = ap (is_same spec) is ∙ same-itself spec in
    rw same (or-none (new.table == number))
new-speaks spec number new (t ∷ hists) is none = by (is_same spec t.spec) refl none (new-speaks spec number new hists is)
  where
    by : (same : Bool) → is_same spec t.spec ≡ same → (same || has_same spec hists) ≡ false
        → (has_same spec hists ≡ false → list_any (speaks_of spec number) (hists ++ new ∷ []) ≡ (new.table == number))
        → list_any (speaks_of spec number) ((t ∷ hists) ++ new ∷ []) ≡ (new.table == number)
    by true at none rest = absurd (cc)
    by false at none rest = rw at (rest none)

-- ---- a text

module _ (name : Option (List ℕ)) (past : List Request) (event : Definition) (append : Bool) (text : List ℕ) where
  abbrev request : Request
  request = text_request name event append text

  wrote : own_written name event request ≡ Some (record { append = append; text = text })
  wrote =
      let own : bytes_eq event.name event.name ≡ true = (bytes_eq-Decides event.name event.name).1 refl in
      rw (same_instance name, own) refl

  trigger-said : (r : Result TriggerText TriggerFault) → said_of event text ≡ r
      → snapshot_trigger_of name event (request ∷ past) ≡ unwrap_or (written_trigger (length past) r) (snapshot_trigger_of name event past)
  trigger-said r is =
      snapshot_trigger_of-after name event past request refl
      ∙ ap (λ (o : Option OwnWritten). trigger_after event (length past) o (snapshot_trigger_of name event past)) wrote
      ∙ ap (λ (s : Result TriggerText TriggerFault). unwrap_or (written_trigger (length past) s) (snapshot_trigger_of name event past)) is

  -- the trigger for snapshots stays where the text sets none
  pub snapshot-stays : (r : Result TriggerText TriggerFault) → said_of event text ≡ r → written_trigger (length past) r ≡ None
      → kept_trigger name (request ∷ past) event ≡ kept_trigger name past event
  snapshot-stays r is none =
      ap (option_map (instances.kept_as (request ∷ past) event))
      (trigger-said r is ∙ ap (λ (o : Option (Option triggers.Trigger)). unwrap_or o (snapshot_trigger_of name event past)) none)
      ∙ kept-as_left past request event (snapshot_trigger_of name event past)
      (λ t there. times_left-same event t past request (number-before name event past t there) refl)

  pub snapshot-attached : (spec : SnapshotTrigger) → said_of event text ≡ Ok (said.AttachSnapshot spec)
      → kept_trigger name (request ∷ past) event ≡ Some (record { number = length past; left = spec.count; filter = spec.filter })
  snapshot-attached spec is =
      let attached : triggers.Trigger = record { number = length past; spec = spec } in
      ap (option_map (instances.kept_as (request ∷ past) event)) (trigger-said (Ok (said.AttachSnapshot spec)) is)
      ∙ ap (λ (n : Option ℕ). (let t : Option AttachedSnapshot = Some (record { number = length past; left = n; filter = spec.filter }) in t))
      (times_left-attached event attached past request refl)

  pub snapshot-removed : said_of event text ≡ Ok said.RemoveSnapshot → kept_trigger name (request ∷ past) event ≡ None
  snapshot-removed is = ap (option_map (instances.kept_as (request ∷ past) event)) (trigger-said (Ok said.RemoveSnapshot) is)

  -- what is asked of a table is done to it
  pub asked-table : (asked : Option Action) (number : ℕ) → asked_by name number past request ≡ asked → IsAsked name past request asked number
  asked-table asked number is =
      let old : List Hit = hits_of name number past in
      let paused : Bool = is_paused name number past in
      let none : old ++ counted_by number paused (hist_triggers name past) None ≡ old =
      ap (λ (rows : List Hit). old ++ rows) (nothing-counted number paused (hist_triggers name past)) ∙ append-nil old in
      record {
        paused = ap (λ (a : Option Action). paused_after a paused) is;
        hits = ap (λ (a : Option Action). if empties a then [] else old ++ counted_by number paused (hist_triggers name past) None) is
            ∙ ap (λ (rows : List Hit). if empties asked then [] else rows) none;
      }

-- ---- a text for an event of this number

module _ (name : Option (List ℕ)) (past : List Request) (event : Definition) (id : ℕ) (append : Bool) (text : List ℕ) (named : IsNamed past event id) where
  abbrev request_for : Request
  request_for = text_request name event append text

  written-here : written_to name past request_for ≡ Some (record { event = event; append = append; text = text })
  written-here = rw (same_instance name, named) refl

  hists-are : (r : Result TriggerText TriggerFault) → said_of event text ≡ r → hists_of name event (request_for ∷ past) ≡ own_then name past event append r
  hists-are r is =
      hists_of-after name event past request_for refl
      ∙ ap (λ (o : Option Written). own_after (length past) (hist_triggers name past) o (hists_of name event past))
      (own-declared name event past request_for (record { id = id; event = event }) named refl
      ∙ ap (option_map (as_written event)) (wrote name past event append text))
      ∙ ap (own_then name past event append) is

  -- those of all events
  pub all-are : (r : Result TriggerText TriggerFault) → said_of event text ≡ r
      → hist_triggers name (request_for ∷ past) ≡ hists_said (length past) event (all_left name past event append) r
  all-are r is =
      ap (λ (o : Option Written). hists_after (length past) o (hist_triggers name past)) written-here
      ∙ ap (hists_said (length past) event (all_left name past event append)) is

  -- a text that says nothing of which there are
  pub hists-stay : (r : Result TriggerText TriggerFault) → said_of event text ≡ r → own_then name past event append r ≡ own_left name past event append
      → kept_hists name (request_for ∷ past) event ≡ (if append then kept_hists name past event else [])
  hists-stay r is left = ap (map attached_as) (hists-are r is ∙ left) ∙ left-kept name past event append

  -- the same ones are removed
  pub hists-removed : (spec : SpecSeen) → said_of event text ≡ Ok (said.RemoveHist spec)
      → kept_hists name (request_for ∷ past) event ≡ without_same spec (if append then kept_hists name past event else [])
  hists-removed spec is =
      ap (map attached_as) (hists-are (Ok (said.RemoveHist spec)) is)
      ∙ without-kept spec (own_left name past event append)
      ∙ ap (without_same spec) (left-kept name past event append)

  pub hists-asked : (spec : SpecSeen) → said_of event text ≡ Ok (said.Hist spec) → has_same spec (own_left name past event append) ≡ true
      → kept_hists name (request_for ∷ past) event ≡ (if append then kept_hists name past event else [])
  hists-asked spec is same = hists-stay (Ok (said.Hist spec)) is (then-same name past event append spec same)

  pub hists-attached : (spec : SpecSeen) → said_of event text ≡ Ok (said.Hist spec) → has_same spec (own_left name past event append) ≡ false
      → kept_hists name (request_for ∷ past) event
      ≡ (if append then kept_hists name past event else []) ++ attached_as (new_of name past event append spec) ∷ []
  hists-attached spec is none =
      let new = new_of name past event append spec in
      ap (map attached_as) (hists-are (Ok (said.Hist spec)) is ∙ then-new name past event append spec none)
      ∙ map-append attached_as (own_left name past event append) (new ∷ [])
      ∙ ap (λ (hists : List AttachedHist). hists ++ attached_as new ∷ []) (left-kept name past event append)

  -- what it asks of a table
  asked-by : (r : Result TriggerText TriggerFault) (number : ℕ) → said_of event text ≡ r
      → asked_by name number past request_for ≡ asked_of number (own_then name past event append r) r
  asked-by r number is =
      ap (asked_in number (hist_triggers name (request_for ∷ past))) written-here
      ∙ ap (λ (hists : List HistTrigger). asked_of number hists (said_of event text)) (hists-are r is)
      ∙ ap (asked_of number (own_then name past event append r)) is

  -- nothing, where it says nothing of a hist trigger that is to be there
  pub tables-stay : (r : Result TriggerText TriggerFault) (number : ℕ) → said_of event text ≡ r
      → asked_of number (own_then name past event append r) r ≡ None → IsAsked name past request_for None number
  tables-stay r number is none = asked-table name past event append text None number (asked-by r number is ∙ none)

  -- the table of the one that says the same is asked
  pub tables-asked : (spec : SpecSeen) (a : AttachedHist) (number : ℕ) → said_of event text ≡ Ok (said.Hist spec)
      → has_same spec (own_left name past event append) ≡ true → find (kept.says_same spec) (if append then kept_hists name past event else []) ≡ Some a
      → IsAsked name past request_for (if a.table == number then Some spec.action else None) number
  tables-asked spec a number is same found =
      let r : Result TriggerText TriggerFault = Ok (said.Hist spec) in
      let left : List HistTrigger = own_left name past event append in
      let speaks : list_any (speaks_of spec number) left ≡ (a.table == number) =
      any-speaks spec number left
      ∙ one-speaks spec number left a (left-differ append) (ap (find (kept.says_same spec)) (left-kept name past event append) ∙ found) in
      asked-table name past event append text (if a.table == number then Some spec.action else None) number
      (asked-by r number is
      ∙ ap (λ (hists : List HistTrigger). asked_of number hists r) (then-same name past event append spec same)
      ∙ ap (λ (b : Bool). (let a : Option Action = if b then Some spec.action else None in a)) speaks)
    where
      left-differ : (b : Bool) → AllPairs (λ (t u : HistTrigger). IsSame t.spec u.spec → ⊥) (own_left name past event b)
      left-differ true = hist_triggers_differ name event past
      left-differ false = λ j k d less within. absurd (omega (arith, within))

  -- the table of the one that the text attaches is asked
  pub tables-attached : (spec : SpecSeen) (number : ℕ) → said_of event text ≡ Ok (said.Hist spec)
      → has_same spec (own_left name past event append) ≡ false
      → IsAsked name past request_for (if (new_of name past event append spec).table == number then Some spec.action else None) number
  tables-attached spec number is none =
      let r : Result TriggerText TriggerFault = Ok (said.Hist spec) in
      let new : HistTrigger = new_of name past event append spec in
      asked-table name past event append text (if new.table == number then Some spec.action else None) number
      (asked-by r number is
      ∙ ap (λ (hists : List HistTrigger). asked_of number hists r) (then-new name past event append spec none)
      ∙ ap (λ (b : Bool). (let a : Option Action = if b then Some spec.action else None in a))
      (new-speaks spec number new (own_left name past event append) refl none))
