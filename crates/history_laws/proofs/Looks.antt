-- What requests come to with one more among them that changes nothing else: a look, or the second of two reads that are one.
use Rattle.std.proofs.Common.{◌≡◌, inl, inr, ℕ, suc, ◌+◌, ◌-◌, ◌≤◌, ◌%◌, ◌==◌, nat_lt, Bool, true, false, ◌&&◌, if◌then◌else◌, is_some, bytes_eq, List, [], ◌∷◌, ◌++◌, length, filter, Option, None, Some, option_map, unwrap_or, Result, Ok, Err, refl, sym, ap, ◌∙◌, arith}
use Rattle.std.specs.List.{list_any}
use Rattle.std.specs.Option.{option_to_list}
use Rattle.std.proofs.lemmas.Bool.{cases_Bool, cond-false, cond-true, ltb-true, ltb-false}
use Rattle.std.proofs.lemmas.List.{append-nil, length-append}
use Rattle.page_ring.specs.Events as ring
use Rattle.trace_filter.specs.Filters.{Parsed}
use Rattle.trace_format.specs.Definitions.{Definition}
use Rattle.trace_trigger.specs.TriggerTexts.{said_of}
use Rattle.trace_trigger.specs.declared.fault.TriggerFault.{TriggerFault}
use Rattle.trace_trigger.specs.declared.trigger.TriggerText.{TriggerText}
use Rattle.trace_trigger.specs.declared.trigger.TriggerText.TheVariants.{Nothing, AttachSnapshot, RemoveSnapshot, Hist, RemoveHist}
use Rattle.trace_command.specs.Paths.{File, OfInstance, OfEvent}
use Rattle.trace_command.specs.Requests.{Request, Emission, MakeInstance, RemoveInstance, WriteFile, ReadFile}
use Rattle.trace_command.specs.declared.command.Config.{Config}
use Rattle.trace_command.specs.declared.file_name.EventFile.TheVariants as per_event
use Rattle.trace_command.specs.declared.file_name.TopFile.TheVariants as top
use Rattle.tracer_specification.specs.Emissions.{Emitted, emitted, emitted_event, is_recorded}
use Rattle.tracer_specification.specs.HistTriggers.{hist_triggers, hits_of, is_paused}
use Rattle.tracer_specification.specs.Rings.{rings, other_rings, rings_after, rings_of_side, spare_after, spare_rings, with_emitted}
use Rattle.tracer_specification.specs.Settings.{NumberedEvent, declared_events, declares, event_named, event_named_in, filter_of, instance_names, is_enabled, is_same, is_there, is_tracing, made, makes, now_of, overwrites, removed, set_by, sets_filter, sets_overwrite, sets_tracing, setting, switches, ticks, without as names_without, written_flag, written_to_all}
use Rattle.tracer_specification.specs.Snapshots.{exchange_count, exchanges, has_spare, is_exchanged_by, live_side, sets_spare, spare_armed_for}
use Rattle.tracer_specification.specs.Triggers.{Trigger, acts, is_left, met, met_by, passes, sets_trigger, times_left, snapshot_trigger_of, written_trigger}
use Rattle.tracer_specification.proofs.Triggered.{number-before}
use Rattle.history_laws.proofs.Renumbered.{early-trigger, later_trigger, up, up-cases, up-late, up-less}

some-same : {A : Type 0} (o : Option A) → o ≡ option_map (λ (x : A). x) o
some-same None = refl
some-same (Some x) = refl

met-unmade : (event : Definition) (filter : Option Parsed) (number : ℕ) (done : List Request) → length done ≤ number → met event filter number done ≡ []
met-unmade event filter number [] le = refl
met-unmade event filter number (request ∷ done) le = elim (cases_Bool (nat_lt number (length done))) [
  | inl less ↦ absurd (let l = ltb-true number (length done) less in omega (arith, l, le))
  | inr not_less ↦ cond-false _ (met event filter number done ++ met_by event filter (emitted done request)) [] not_less
]

-- a read meets no trigger
pub met-read : (past : List Request) (reader : Option (List ℕ)) (file : Option File) (limit : Option ℕ) (event : Definition) (filter : Option Parsed) (number : ℕ)
    → met event filter number (ReadFile reader file limit ∷ past) ≡ met event filter number past
met-read past reader file limit event filter number = elim (cases_Bool (nat_lt number (length past))) [
  | inl less ↦ cond-true _ (met event filter number past ++ []) [] less ∙ append-nil (met event filter number past)
  | inr not_less ↦
      cond-false _ (met event filter number past ++ []) [] not_less
      ∙ sym (met-unmade event filter number past (ltb-false number (length past) not_less))
]

-- two pasts, one with a request more, of which all is the same
pub record IsOneMore (more less : List Request) : Type 0 where
  pub number : length more ≡ suc (length less)
  pub events : declared_events more ≡ declared_events less
  pub instances : instance_names more ≡ instance_names less
  pub now : now_of more ≡ now_of less
  pub enabled : (instance : Option (List ℕ)) (event : List ℕ) → is_enabled instance event more ≡ is_enabled instance event less
  pub filters : (instance : Option (List ℕ)) (event : List ℕ) → filter_of instance event more ≡ filter_of instance event less
  pub overwriting : (instance : Option (List ℕ)) → overwrites instance more ≡ overwrites instance less
  pub tracing : (instance : Option (List ℕ)) → is_tracing instance more ≡ is_tracing instance less
  pub spare : (instance : Option (List ℕ)) → has_spare instance more ≡ has_spare instance less
  pub trigger : (instance : Option (List ℕ)) (event : Definition) → snapshot_trigger_of instance event more ≡ snapshot_trigger_of instance event less
  pub meets : (event : Definition) (filter : Option Parsed) (n : ℕ) → met event filter n more ≡ met event filter n less
  pub count : (instance : Option (List ℕ)) → exchange_count instance more ≡ exchange_count instance less
  pub sides : (g : Config) (instance : Option (List ℕ)) (side : ℕ) → rings_of_side g instance side more ≡ rings_of_side g instance side less
  pub hists : (instance : Option (List ℕ)) → hist_triggers instance more ≡ hist_triggers instance less
  pub paused : (instance : Option (List ℕ)) (table : ℕ) → is_paused instance table more ≡ is_paused instance table less
  pub hits : (instance : Option (List ℕ)) (table : ℕ) → hits_of instance table more ≡ hits_of instance table less

-- two such pasts, and what is done after them
module _ (more less : List Request) (one_more : IsOneMore more less) where
  abbrev pub with_look : List Request → List Request
  with_look later = later ++ more

  abbrev pub without : List Request → List Request
  without later = later ++ less

  abbrev first : ℕ
  first = length less

  late : (later : List Request) → first ≤ length (without later)
  late later = let both = length-append later less in omega (arith, both)

  pub length-later : (later : List Request) → length (with_look later) ≡ up first (length (without later))
  length-later later =
      let one = length-append later more in
      let other = length-append later less in
      let longer : length (with_look later) ≡ suc (length (without later)) = omega (arith, one, other, one_more.number) in
      longer ∙ sym (up-late first (length (without later)) (late later))

  -- ---- instances, events and the clock

  pub events-same : (later : List Request) → declared_events (with_look later) ≡ declared_events (without later)
  events-same [] = one_more.events
  events-same (request ∷ later) = ap (λ (es : List Definition). es ++ option_to_list (declares request)) (events-same later)

  pub named-same : (name : List ℕ) (later : List Request) → event_named name (with_look later) ≡ event_named name (without later)
  named-same name later = ap (λ (es : List Definition). event_named_in es name) (events-same later)

  pub instances-same : (later : List Request) → instance_names (with_look later) ≡ instance_names (without later)
  instances-same [] = one_more.instances
  instances-same (request ∷ later) =
      ap (λ (names : List (List ℕ)). names_without (removed request) names ++ option_to_list (made request)) (instances-same later)

  there-same : (instance : Option (List ℕ)) (later : List Request) → is_there instance (with_look later) ≡ is_there instance (without later)
  there-same None later = refl
  there-same (Some name) later = ap (list_any (bytes_eq name)) (instances-same later)

  pub now-same : (later : List Request) → now_of (with_look later) ≡ now_of (without later)
  now-same [] = one_more.now
  now-same (request ∷ later) = ap (λ (n : ℕ). n + ticks request) (now-same later)

  pub emitted-same : (later : List Request) (request : Request) → emitted (with_look later) request ≡ emitted (without later) request
  emitted-same later (Emission name cpu pid pairs) =
      ap (λ (n : ℕ). emitted_event (n + 1) cpu pid pairs (event_named name (with_look later))) (now-same later)
      ∙ ap (emitted_event (now_of (without later) + 1) cpu pid pairs) (named-same name later)
  emitted-same later (MakeInstance name) = refl
  emitted-same later (RemoveInstance name) = refl
  emitted-same later (WriteFile instance file append text) = refl
  emitted-same later (ReadFile instance file limit) = refl

  -- ---- settings

  set-same : {A : Type 0} (instance : Option (List ℕ)) (sets : List Request → File → List ℕ → Option A) (change : A → A) (later : List Request)
      → ((file : File) (text : List ℕ) → sets (with_look later) file text ≡ option_map change (sets (without later) file text)) → (request : Request)
      → set_by instance (sets (with_look later)) request ≡ option_map change (set_by instance (sets (without later)) request)
  set-same instance sets change later each (WriteFile other (Some file) append text) = by (is_same instance other)
    where
      by : (same : Bool) → (if same then sets (with_look later) file text else None) ≡ option_map change (if same then sets (without later) file text else None)
      by true = each file text
      by false = refl
  set-same instance sets change later each (WriteFile other None append text) = refl
  set-same instance sets change later each (Emission name cpu pid pairs) = refl
  set-same instance sets change later each (MakeInstance name) = refl
  set-same instance sets change later each (RemoveInstance name) = refl
  set-same instance sets change later each (ReadFile other file limit) = refl

  setting-changed : {A : Type 0} (instance : Option (List ℕ)) (sets : List Request → File → List ℕ → Option A) (default : A) (change : A → A)
      → default ≡ change default → setting instance sets default more ≡ change (setting instance sets default less)
      → ((later : List Request) (file : File) (text : List ℕ) → sets (with_look later) file text ≡ option_map change (sets (without later) file text))
      → (later : List Request) → setting instance sets default (with_look later) ≡ change (setting instance sets default (without later))
  setting-changed instance sets default change stays before each [] = before
  setting-changed {A} instance sets default change stays before each (request ∷ later) =
      by (makes instance request) (set_by instance (sets (with_look later)) request) (set_by instance (sets (without later)) request)
      (set-same instance sets change later (each later) request) (setting-changed instance sets default change stays before each later)
    where
      by : (new : Bool) (set set_without : Option A) → set ≡ option_map change set_without
          → setting instance sets default (with_look later) ≡ change (setting instance sets default (without later))
          → (if new then default else unwrap_or set (setting instance sets default (with_look later)))
          ≡ change (if new then default else unwrap_or set_without (setting instance sets default (without later)))
      by true set set_without is rest = stays
      by false set None is rest = ap (λ (o : Option A). unwrap_or o (setting instance sets default (with_look later))) is ∙ rest
      by false set (Some v) is rest = ap (λ (o : Option A). unwrap_or o (setting instance sets default (with_look later))) is

  setting-same : {A : Type 0} (instance : Option (List ℕ)) (sets : List Request → File → List ℕ → Option A) (default : A)
      → setting instance sets default more ≡ setting instance sets default less
      → ((later : List Request) (file : File) (text : List ℕ) → sets (with_look later) file text ≡ sets (without later) file text)
      → (later : List Request) → setting instance sets default (with_look later) ≡ setting instance sets default (without later)
  setting-same {A} instance sets default before each later =
      setting-changed instance sets default (λ (x : A). x) refl before (λ l file text. each l file text ∙ some-same (sets (without l) file text)) later

  pub enabled-same : (instance : Option (List ℕ)) (event : List ℕ) (later : List Request)
      → is_enabled instance event (with_look later) ≡ is_enabled instance event (without later)
  enabled-same instance event later = setting-same instance (switches event) false (one_more.enabled instance event) sets later
    where
      sets : (l : List Request) (file : File) (text : List ℕ) → switches event (with_look l) file text ≡ switches event (without l) file text
      sets l (OfEvent name per_event.Enable) text = refl
      sets l (OfInstance top.EventsEnable) text =
          ap (λ (o : Option NumberedEvent). if is_some o then written_flag text else None) (named-same event l)
      sets l file text = refl

  pub filter-same : (instance : Option (List ℕ)) (event : List ℕ) (later : List Request)
      → filter_of instance event (with_look later) ≡ filter_of instance event (without later)
  filter-same instance event later = setting-same instance (sets_filter event) None (one_more.filters instance event) sets later
    where
      sets : (l : List Request) (file : File) (text : List ℕ) → sets_filter event (with_look l) file text ≡ sets_filter event (without l) file text
      sets l (OfEvent name per_event.Filter) text = refl
      sets l (OfInstance top.EventsFilter) text = ap (written_to_all text) (named-same event l)
      sets l file text = refl

  pub overwrites-same : (instance : Option (List ℕ)) (later : List Request) → overwrites instance (with_look later) ≡ overwrites instance (without later)
  overwrites-same instance later = setting-same instance sets_overwrite true (one_more.overwriting instance) sets later
    where
      sets : (l : List Request) (file : File) (text : List ℕ) → sets_overwrite (with_look l) file text ≡ sets_overwrite (without l) file text
      sets l (OfInstance top.Overwrite) text = refl
      sets l (OfInstance top.TraceOptions) text = refl
      sets l file text = refl

  pub tracing-same : (instance : Option (List ℕ)) (later : List Request) → is_tracing instance (with_look later) ≡ is_tracing instance (without later)
  tracing-same instance later = setting-same instance sets_tracing true (one_more.tracing instance) sets later
    where
      sets : (l : List Request) (file : File) (text : List ℕ) → sets_tracing (with_look l) file text ≡ sets_tracing (without l) file text
      sets l (OfInstance top.TracingOn) text = refl
      sets l file text = refl

  spare-same : (instance : Option (List ℕ)) (later : List Request) → has_spare instance (with_look later) ≡ has_spare instance (without later)
  spare-same instance later = setting-same instance sets_spare false (one_more.spare instance) sets later
    where
      sets : (l : List Request) (file : File) (text : List ℕ) → sets_spare (with_look l) file text ≡ sets_spare (without l) file text
      sets l (OfInstance top.Snapshot) text = refl
      sets l (OfEvent name per_event.Trigger) text = ap (λ (o : Option NumberedEvent). spare_armed_for o text) (named-same name l)
      sets l file text = refl

  -- ---- triggers for snapshots

  later-written : (number : ℕ) (said : Result TriggerText TriggerFault)
      → written_trigger (up first number) said ≡ option_map (option_map (later_trigger first)) (written_trigger number said)
  later-written number (Ok (AttachSnapshot spec)) = refl
  later-written number (Ok RemoveSnapshot) = refl
  later-written number (Ok Nothing) = refl
  later-written number (Ok (Hist spec)) = refl
  later-written number (Ok (RemoveHist spec)) = refl
  later-written number (Err fault) = refl

  pub trigger-later : (instance : Option (List ℕ)) (event : Definition) (later : List Request)
      → snapshot_trigger_of instance event (with_look later) ≡ option_map (later_trigger first) (snapshot_trigger_of instance event (without later))
  trigger-later instance event later =
      setting-changed instance (sets_trigger event) None (option_map (later_trigger first)) refl
      (one_more.trigger instance event ∙ before (snapshot_trigger_of instance event less) refl) sets later
    where
      before : (t : Option Trigger) → snapshot_trigger_of instance event less ≡ t → t ≡ option_map (later_trigger first) t
      before None is = refl
      before (Some t) is = ap Some (sym (early-trigger first t (number-before instance event less t is)))

      own : (l : List Request) (text : List ℕ) (same : Bool)
          → (if same then written_trigger (length (with_look l)) (said_of event text) else None)
          ≡ option_map (option_map (later_trigger first)) (if same then written_trigger (length (without l)) (said_of event text) else None)
      own l text true =
          ap (λ (n : ℕ). written_trigger n (said_of event text)) (length-later l) ∙ later-written (length (without l)) (said_of event text)
      own l text false = refl

      sets : (l : List Request) (file : File) (text : List ℕ)
          → sets_trigger event (with_look l) file text ≡ option_map (option_map (later_trigger first)) (sets_trigger event (without l) file text)
      sets l (OfEvent name per_event.Trigger) text = own l text (bytes_eq event.name name)
      sets l file text = refl

  met-same : (event : Definition) (filter : Option Parsed) (number : ℕ) (later : List Request)
      → met event filter (up first number) (with_look later) ≡ met event filter number (without later)
  met-same event filter number [] = elim (up-cases first number) [
    | inl early ↦ ap (λ (n : ℕ). met event filter n more) early.1 ∙ one_more.meets event filter number
    | inr behind ↦
        ap (λ (n : ℕ). met event filter n more) behind.1
        ∙ met-unmade event filter (suc number) more (let le = behind.0 in omega (arith, le, one_more.number))
        ∙ sym (met-unmade event filter number less behind.0)
  ]
  met-same event filter number (request ∷ later) =
      ap (λ (b : Bool). if b then met event filter (up first number) (with_look later) ++ met_by event filter (emitted (with_look later) request) else [])
      (ap (nat_lt (up first number)) (length-later later) ∙ up-less first number (length (without later)))
      ∙ ap (λ (es : List Emitted). if nat_lt number (length (without later)) then es ++ met_by event filter (emitted (with_look later) request) else [])
      (met-same event filter number later)
      ∙ ap (λ (o : Option Emitted). if nat_lt number (length (without later)) then met event filter number (without later) ++ met_by event filter o else [])
      (emitted-same later request)

  pub times-same : (event : Definition) (t : Trigger) (later : List Request)
      → times_left event (later_trigger first t) (with_look later) ≡ times_left event t (without later)
  times-same event t later =
      ap (λ (es : List Emitted). option_map (λ (most : ℕ). most - length es) t.spec.count) (met-same event t.spec.filter t.number later)

  acts-same : (e : Emitted) (later : List Request) (t : Option Trigger)
      → acts (with_look later) e (option_map (later_trigger first) t) ≡ acts (without later) e t
  acts-same e later None = refl
  acts-same e later (Some t) = ap (λ (times : Option ℕ). is_left times && passes t.spec.filter e) (times-same e.k.event t later)

  -- ---- the sides

  by-emission : (instance : Option (List ℕ)) (later : List Request) (o : Option Emitted)
      → is_exchanged_by instance (with_look later) o ≡ is_exchanged_by instance (without later) o
  by-emission instance later None = refl
  by-emission instance later (Some e) =
      ap (acts (with_look later) e) (trigger-later instance e.k.event later) ∙ acts-same e later (snapshot_trigger_of instance e.k.event (without later))

  exchanges-same : (instance : Option (List ℕ)) (later : List Request) (request : Request)
      → exchanges instance (with_look later) request ≡ exchanges instance (without later) request
  exchanges-same instance later (WriteFile other (Some (OfInstance top.Snapshot)) append text) = refl
  exchanges-same instance later (Emission name cpu pid pairs) =
      ap (is_exchanged_by instance (with_look later)) (emitted-same later (Emission name cpu pid pairs))
      ∙ by-emission instance later (emitted (without later) (Emission name cpu pid pairs))
  exchanges-same instance later request = refl

  count-same : (instance : Option (List ℕ)) (later : List Request) → exchange_count instance (with_look later) ≡ exchange_count instance (without later)
  count-same instance [] = one_more.count instance
  count-same instance (request ∷ later) =
      ap (λ (b : Bool). if makes instance request then 0 else exchange_count instance (with_look later) + (if b then 1 else 0)) (exchanges-same instance later request)
      ∙ ap (λ (n : ℕ). if makes instance request then 0 else n + (if exchanges instance (without later) request then 1 else 0)) (count-same instance later)

  live-same : (instance : Option (List ℕ)) (later : List Request) → live_side instance (with_look later) ≡ live_side instance (without later)
  live-same instance later = ap (λ (n : ℕ). n % 2) (count-same instance later)

  recorded-same : (instance : Option (List ℕ)) (later : List Request) (e : Emitted)
      → is_recorded instance (with_look later) e ≡ is_recorded instance (without later) e
  recorded-same instance later e =
      rw (tracing-same instance later, enabled-same instance e.k.event.name later, filter-same instance e.k.event.name later) refl

  with-same : (instance : Option (List ℕ)) (later : List Request) (o : Option Emitted) (family : List (List ring.Event))
      → with_emitted instance (with_look later) o family ≡ with_emitted instance (without later) o family
  with-same instance later None family = refl
  with-same instance later (Some e) family = rw (recorded-same instance later e, overwrites-same instance later) refl

  after-same : (g : Config) (instance : Option (List ℕ)) (later : List Request) (request : Request) (family : List (List ring.Event))
      → rings_after g instance (with_look later) request family ≡ rings_after g instance (without later) request family
  after-same g instance later (Emission name cpu pid pairs) family =
      ap (λ (o : Option Emitted). with_emitted instance (with_look later) o family) (emitted-same later (Emission name cpu pid pairs))
      ∙ with-same instance later (emitted (without later) (Emission name cpu pid pairs)) family
  after-same g instance later (WriteFile other file append text) family = refl
  after-same g instance later (ReadFile other file limit) family = refl
  after-same g instance later request family = refl

  pub side-same : (g : Config) (instance : Option (List ℕ)) (side : ℕ) (later : List Request)
      → rings_of_side g instance side (with_look later) ≡ rings_of_side g instance side (without later)
  side-same g instance side [] = one_more.sides g instance side
  side-same g instance side (request ∷ later) =
      ap (λ (n : ℕ). if side == n then rings_after g instance (with_look later) request (rings_of_side g instance side (with_look later))
      else spare_after g instance request (rings_of_side g instance side (with_look later))) (live-same instance later)
      ∙ ap (λ (f : List (List ring.Event)). if side == live_side instance (without later) then rings_after g instance (with_look later) request f
      else spare_after g instance request f) (side-same g instance side later)
      ∙ ap (λ (f : List (List ring.Event)). if side == live_side instance (without later) then f
      else spare_after g instance request (rings_of_side g instance side (without later)))
      (after-same g instance later request (rings_of_side g instance side (without later)))

  pub rings-same : (g : Config) (instance : Option (List ℕ)) (later : List Request) → rings g instance (with_look later) ≡ rings g instance (without later)
  rings-same g instance later =
      ap (λ (s : ℕ). rings_of_side g instance s (with_look later)) (live-same instance later) ∙ side-same g instance (live_side instance (without later)) later

  pub spare_rings-same : (g : Config) (instance : Option (List ℕ)) (later : List Request)
      → spare_rings g instance (with_look later) ≡ spare_rings g instance (without later)
  spare_rings-same g instance later =
      ap (λ (there : Bool). if there then Some (other_rings g instance (with_look later)) else None) (spare-same instance later)
      ∙ ap (λ (s : ℕ). if has_spare instance (without later) then Some (rings_of_side g instance (1 - s) (with_look later)) else None) (live-same instance later)
      ∙ ap (λ (f : List (List ring.Event)). if has_spare instance (without later) then Some f else None)
      (side-same g instance (1 - live_side instance (without later)) later)
