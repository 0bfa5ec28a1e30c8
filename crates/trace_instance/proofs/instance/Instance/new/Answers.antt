use Rattle.std.proofs.Common.{◌≡◌, ◌∙◌, ◌++◌, ◌∷◌, [], List, Bool, false, Option, None, ap, subst, sym, arith}
use Rattle.std.proofs.lemmas.List.{replicate_more}
use Rattle.trace_filter.specs.Filters.{Parsed}
use Rattle.trace_snapshot.specs.Sides.{IsNewSide}
use Rattle.trace_instance.specs.Instances.{InstanceSeen}
use Rattle.trace_instance.specs.declared.hists.AttachedHist.{AttachedHist}
use Rattle.trace_instance.specs.declared.trigger.AttachedSnapshot.{AttachedSnapshot}
use Rattle.trace_instance.proofs.instance.Instance.new.Goals as goal

pub loop-event-preserved : goal.loop-event-preserved
loop-event-preserved c =
    let was = c.loop-event.invariant in
    let added = c.add_event.ensures in
    record {
      enabled = ap (λ (i : InstanceSeen). i.enabled) added ∙ ap (λ (l : List Bool). l ++ false ∷ []) was.enabled ∙ replicate_more c.loop-event._event false;
      filters = ap (λ (i : InstanceSeen). i.filters) added ∙ ap (λ (l : List (Option Parsed)). l ++ None ∷ []) was.filters ∙ replicate_more c.loop-event._event None;
      triggers = ap (λ (i : InstanceSeen). i.triggers) added ∙ ap (λ (l : List (Option AttachedSnapshot)). l ++ None ∷ []) was.triggers ∙ replicate_more c.loop-event._event None;
      hists = ap (λ (i : InstanceSeen). i.hists) added ∙ ap (λ (l : List (List AttachedHist)). l ++ [] ∷ []) was.hists ∙ replicate_more c.loop-event._event [];
      tables = ap (λ (i : InstanceSeen). i.tables) added ∙ was.tables;
      overwrite = ap (λ (i : InstanceSeen). i.overwrite) added ∙ was.overwrite;
      tracing = ap (λ (i : InstanceSeen). i.tracing) added ∙ was.tracing;
      live = subst (λ (i : InstanceSeen). IsNewSide c.args.cpus c.args.pages c.args.page_bytes i.sides.live) (sym added) was.live;
      spare = ap (λ (i : InstanceSeen). i.sides.spare) added ∙ was.spare;
      cpus = ap (λ (i : InstanceSeen). i.sides.cpus) added ∙ was.cpus;
      pages = ap (λ (i : InstanceSeen). i.sides.pages) added ∙ was.pages;
      page_bytes = ap (λ (i : InstanceSeen). i.sides.page_bytes) added ∙ was.page_bytes;
    }

pub returns : goal.returns
returns c =
    let was = c.loop-event.invariant in
    let all : c.loop-event._event ≡ c.args.events = omega arith in
    record {
      enabled = rw (← all) was.enabled;
      filters = rw (← all) was.filters;
      triggers = rw (← all) was.triggers;
      hists = rw (← all) was.hists;
      tables = was.tables;
      overwrite = was.overwrite;
      tracing = was.tracing;
      live = was.live;
      spare = was.spare;
      cpus = was.cpus;
      pages = was.pages;
      page_bytes = was.page_bytes;
    }
