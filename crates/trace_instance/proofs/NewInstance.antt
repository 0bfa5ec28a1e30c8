-- An instance as it is made stands for no request, and for the request that makes it.
use Rattle.std.proofs.Common.{◌≡◌, ℕ, suc, ◌≤◌, true, false, List, [], ◌∷◌, length, replicate, All, is_some, Option, Some, None, IfSome, refl, sym, ap, ◌∙◌, subst, append-nil, arith}
use Rattle.std.specs.List.{AllByRecursion, Contains, list_any}
use Rattle.std.proofs.lemmas.List.Elements.{All-nil, All-replicate}
use Rattle.std.proofs.lemmas.List.Folds.{list_any_none}
use Rattle.std.specs.Str.{bytes_eq}
use Rattle.std.proofs.lemmas.Bool.{false≢true}
use Rattle.std.proofs.lemmas.Slice.Eq.{bytes_eq-Decides}
use Rattle.page_ring.specs.Events.{Event}
use Rattle.trace_buffer.specs.Buffers as buffers
use Rattle.trace_format.specs.Definitions.{Definition}
use Rattle.trace_command.specs.Requests.{Request, MakeInstance}
use Rattle.trace_command.specs.declared.command.Config.{Config}
use Rattle.tracer_specification.specs.HistTriggers.{HistTrigger, hist_triggers}
use Rattle.tracer_specification.specs.Rings.{spare_rings}
use Rattle.tracer_specification.specs.Settings.{declared_events, is_enabled, kept_filter}
use Rattle.tracer_specification.specs.Triggers.{snapshot_trigger_of}
use Rattle.tracer_specification.proofs.EventLists.{map-constant}
use Rattle.tracer_specification.proofs.Sides.{AreMade, rings-made}
use Rattle.trace_snapshot.specs.Sides.{IsNewSide, SpareStandsFor}
use Rattle.trace_instance.specs.Instances.{HasShape, InstanceSeen, InstanceStandsFor, IsShaped, TablesFit, WasOffered, WereOffered, kept_trigger}
use Rattle.trace_instance.specs.KeptHists.{TableStandsFor, kept_at, kept_hists}
use Rattle.trace_instance.specs.declared.hists.AttachedHist.{AttachedHist}
use Rattle.trace_instance.proofs.Calm.{no_event}
use Rattle.trace_instance.proofs.KeptLists.{AllOfEach}
use Rattle.trace_instance.proofs.LiveSide.{all-none}

-- an instance as it is made, where so many events are declared
pub record IsNew (g : Config) (events : ℕ) (i : InstanceSeen) : Type 0 where
  pub enabled : i.enabled ≡ replicate events false
  pub filters : i.filters ≡ replicate events None
  pub triggers : i.triggers ≡ replicate events None
  pub hists : i.hists ≡ replicate events []
  pub tables : i.tables ≡ []
  pub overwrite : i.overwrite ≡ true
  pub tracing : i.tracing ≡ true
  pub live : IsNewSide g.cpus g.pages g.page_bytes i.sides.live
  pub spare : i.sides.spare ≡ None
  pub cpus : i.sides.cpus ≡ g.cpus
  pub pages : i.sides.pages ≡ g.pages
  pub page_bytes : i.sides.page_bytes ≡ g.page_bytes

shaped_new : (g : Config) (events : ℕ) (i : InstanceSeen) → IsNew g events i → IsShaped g i.sides
shaped_new g events i new = record {
  cpus = new.cpus;
  pages = new.pages;
  page_bytes = new.page_bytes;
  live = record { cpus = new.live.cpus; pages = new.live.pages; page_bytes = new.live.page_bytes };
  spare = subst (λ (o : Option buffers.Seen). IfSome o (HasShape g)) (sym new.spare) tt;
}

offered_new : (g : Config) (events : ℕ) (i : InstanceSeen) (most : ℕ) → IsNew g events i → WereOffered most i.sides
offered_new g events i most new = (
  subst (AllByRecursion (λ n. n ≤ most)) (sym new.live.offers) (all-none most g.cpus),
  subst (λ (o : Option buffers.Seen). IfSome o (WasOffered most)) (sym new.spare) tt,
)

spareless : (i : InstanceSeen) (families : Option (List (List Event))) → i.sides.spare ≡ None → families ≡ None → SpareStandsFor i.sides.spare families
spareless i families none unspared =
    let empty : SpareStandsFor i.sides.spare None = subst (λ (o : Option buffers.Seen). SpareStandsFor o None) (sym none) tt in
    subst (SpareStandsFor i.sides.spare) (sym unspared) empty

-- no trigger is attached, so none shares a table
no_tables : (name : Option (List ℕ)) (past : List Request) (events : ℕ) (i : InstanceSeen) → i.hists ≡ replicate events []
    → AllOfEach (TableStandsFor name past i.tables) i.hists
no_tables name past events i none =
    let P : List AttachedHist → Type 0 = λ attached. All (TableStandsFor name past i.tables) attached in
    subst (λ (hists : List (List AttachedHist)). All P hists) (sym none) (All-replicate P events [] (All-nil (TableStandsFor name past i.tables)))

none_share : (name : Option (List ℕ)) (past : List Request) → hist_triggers name past ≡ [] → TablesFit name past
none_share name past none t u first second same =
    let there = subst (λ (hists : List HistTrigger). Contains hists t) none first in
    absurd (omega (arith, there.1))

-- ---- the top instance, where nothing was done

pub top_instance_stands : (g : Config) (i : InstanceSeen) → IsNew g 0 i → InstanceStandsFor g None [] i
top_instance_stands g i new = record {
  enabled = new.enabled;
  filters = new.filters;
  triggers = new.triggers;
  hists = new.hists;
  tables = no_tables None [] 0 i new.hists;
  used = λ number unused. ap (kept_at number) new.tables;
  fitting = none_share None [] refl;
  overwrite = new.overwrite;
  tracing = new.tracing;
  sides = record { live = new.live.stands; spare = spareless i None new.spare refl };
  shaped = shaped_new g 0 i new;
  offered = offered_new g 0 i 0 new;
  spared = record { unused = λ e. refl; armed = λ e. absurd (false≢true e) };
}

-- ---- an instance that was just made

-- an instance stands for the request that makes it: it is as new
pub made-stands : (g : Config) (past : List Request) (name : List ℕ) (i : InstanceSeen) → IsNew g (length (declared_events past)) i
    → InstanceStandsFor g (Some name) (MakeInstance (Some name) ∷ past) i
made-stands g past name i new = record {
  enabled = rw append-nil (new.enabled
      ∙ sym (map-constant (λ (e : Definition). is_enabled (Some name) e.name now) false events no_event (λ j inside. rw itself refl)));
  filters = rw append-nil (new.filters ∙ sym (map-constant (kept_filter (Some name) now) None events no_event (λ j inside. rw itself refl)));
  triggers = rw append-nil (new.triggers ∙ sym (map-constant (kept_trigger (Some name) now) None events no_event (λ j inside. rw itself refl)));
  hists = rw append-nil (new.hists ∙ sym (map-constant (kept_hists (Some name) now) [] events no_event (λ j inside. rw itself refl)));
  tables = no_tables (Some name) now (length events) i new.hists;
  used = λ number unused. ap (kept_at number) new.tables;
  fitting = none_share (Some name) now (rw itself refl);
  overwrite = rw itself new.overwrite;
  tracing = rw itself new.tracing;
  sides = record {
    live = subst (buffers.StandsFor i.sides.live) (sym made.live) new.live.stands;
    spare = spareless i (spare_rings g (Some name) now) new.spare (rw itself refl);
  };
  shaped = shaped_new g (length events) i new;
  offered = offered_new g (length events) i (suc (length past)) new;
  spared = record { unused = λ e. made.spare; armed = λ e. absurd (false≢true (sym (untriggered (declared_events now)) ∙ e)) };
}
  where
    events : List Definition
    events = declared_events past

    now : List Request
    now = MakeInstance (Some name) ∷ past

    itself : bytes_eq name name ≡ true
    itself = (bytes_eq-Decides name name).1 refl

    made : AreMade g (Some name) past (MakeInstance (Some name))
    made = rings-made g (Some name) past (MakeInstance (Some name)) itself

    untriggered : (all : List Definition) → list_any (λ (event : Definition). is_some (snapshot_trigger_of (Some name) event now)) all ≡ false
    untriggered all = list_any_none (λ (event : Definition). is_some (snapshot_trigger_of (Some name) event now)) all (λ k event inside. rw itself refl)
