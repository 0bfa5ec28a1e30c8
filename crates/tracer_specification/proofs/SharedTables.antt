-- Hist triggers that share a table show it alike: each says what some string says of its event, and strings that fit count alike.
use Rattle.std.proofs.Common.{◌≡◌, ℕ, true, List, Option, Ok}
use Rattle.std.specs.List.{Contains}
use Rattle.trace_hist.specs.Groups.{group, grouped}
use Rattle.trace_format.specs.Definitions.{Definition}
use Rattle.trace_trigger.specs.FittingLaws.{CountsAlike}
use Rattle.trace_trigger.specs.FittingSpecs.{is_fitting}
use Rattle.trace_trigger.specs.HistSpecs.{SpecSeen}
use Rattle.trace_trigger.specs.TriggerTexts.{said_of}
use Rattle.trace_trigger.specs.declared.trigger.TriggerText.TheVariants.{Hist}
use Rattle.trace_trigger.proofs.FittingLaws.{fitting_specs_count_alike}
use Rattle.trace_command.specs.Requests.{Request}
use Rattle.tracer_specification.specs.HistTriggers.{HistTrigger, hist_triggers, hits_of}
use Rattle.tracer_specification.specs.TableLaws.{SharedTablesAreShownAlike}
use Rattle.tracer_specification.proofs.AttachedHists.{hist_triggers_are_those_attached}
use Rattle.tracer_specification.proofs.Members.{contains-in}
use Rattle.tracer_specification.proofs.NamedTables.{fit-done}
use Rattle.tracer_specification.proofs.SaidHists.{said-spec}

-- ---- triggers that share a table

-- what fits a trigger counts as that does
pub said-alike : (instance : Option (List ℕ)) (past : List Request) (event : Definition) (text : List ℕ) (spec : SpecSeen) (t : HistTrigger)
    → Contains (hist_triggers instance past) t → said_of event text ≡ Ok (Hist spec) → is_fitting spec t.spec ≡ true → CountsAlike spec t.spec
said-alike instance past event text spec t there said fit =
    let by = ((hist_triggers_are_those_attached instance t past).0 there).by in
    fitting_specs_count_alike event t.event text by.text spec t.spec (said-spec event text spec said) (said-spec t.event by.text t.spec by.said) fit

-- two that fit count alike
pub triggers-alike : (instance : Option (List ℕ)) (past : List Request) (t u : HistTrigger)
    → Contains (hist_triggers instance past) t → Contains (hist_triggers instance past) u
    → is_fitting t.spec u.spec ≡ true → CountsAlike t.spec u.spec
triggers-alike instance past t u first second fit =
    let by = ((hist_triggers_are_those_attached instance t past).0 first).by in
    said-alike instance past t.event by.text t.spec u second by.said fit

pub shared_tables_are_shown_alike : SharedTablesAreShownAlike
unfolding grouped
shared_tables_are_shown_alike g past instance t u done first second same = (
  λ i. group (alike.size i) (alike.values i) (hits_of instance (same i) past),
  alike.sort_sources,
)
  where
    hists : List HistTrigger
    hists = hist_triggers instance past

    alike : CountsAlike t.spec u.spec
    alike =
        triggers-alike instance past t u first second
        (fit-done g past instance done t u (contains-in t hists first) (contains-in u hists second) same)
