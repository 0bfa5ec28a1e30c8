-- Hist triggers and their tables one request later, where that writes to no trigger file: they stay, and nothing is asked of a table.
use Rattle.std.proofs.Common.{◌≡◌, ℕ, Bool, true, false, if◌then◌else◌, List, [], ◌∷◌, ◌++◌, length, map, Option, None, sym, ap, ◌∙◌, subst, append-nil}
use Rattle.std.specs.List.{Contains}
use Rattle.trace_format.specs.Definitions.{Definition}
use Rattle.hist_entries.specs.Hits.{Hit}
use Rattle.trace_trigger.specs.FittingSpecs.{is_fitting}
use Rattle.trace_trigger.specs.declared.spec.Action.{Action}
use Rattle.trace_command.specs.Requests.{Request}
use Rattle.tracer_specification.specs.Emissions.{Emitted, emitted}
use Rattle.tracer_specification.specs.HistTriggers.{HistTrigger, Written, asked_by, asked_in, counted_by, empties, hist_triggers, hists_after, hits_of, is_paused, paused_after, those_of, written_to}
use Rattle.tracer_specification.specs.Settings.{makes}
use Rattle.tracer_specification.proofs.TableSteps.{nothing-counted}
use Rattle.trace_instance.specs.Changes.{IsAsked}
use Rattle.trace_instance.specs.Instances.{TablesFit}
use Rattle.trace_instance.specs.KeptHists.{attached_as, kept_hists}

-- a request writes to no trigger file of the instance, and does not make it
pub record KeepsHists (name : Option (List ℕ)) (past : List Request) (request : Request) : Type 0 where
  pub alive : makes name request ≡ false
  pub unwritten : written_to name past request ≡ None

pub triggers-calm : (name : Option (List ℕ)) (past : List Request) (request : Request) → KeepsHists name past request
    → hist_triggers name (request ∷ past) ≡ hist_triggers name past
triggers-calm name past request is =
    ap (λ (made : Bool). if made then [] else hists_after (length past) (written_to name past request) (hist_triggers name past)) is.alive
    ∙ ap (λ (o : Option Written). hists_after (length past) o (hist_triggers name past)) is.unwritten

-- ---- triggers

pub all-hists-calm : (name : Option (List ℕ)) (past : List Request) (request : Request) (events : List Definition) → KeepsHists name past request
    → map (kept_hists name (request ∷ past)) events ≡ map (kept_hists name past) events
all-hists-calm name past request events is =
    ap (λ (hists : List HistTrigger). map (λ (event : Definition). map attached_as (those_of event hists)) events) (triggers-calm name past request is)

pub fitting-calm : (name : Option (List ℕ)) (past : List Request) (request : Request) → KeepsHists name past request
    → TablesFit name past → TablesFit name (request ∷ past)
fitting-calm name past request is fitting =
    subst (λ (hists : List HistTrigger). (t u : HistTrigger) → Contains hists t → Contains hists u → t.table ≡ u.table → is_fitting t.spec u.spec ≡ true)
    (sym (triggers-calm name past request is)) fitting

-- ---- tables

asked-calm : (name : Option (List ℕ)) (past : List Request) (request : Request) (table : ℕ) → KeepsHists name past request
    → asked_by name table past request ≡ None
asked-calm name past request table is = ap (asked_in table (hist_triggers name (request ∷ past))) is.unwritten

pub paused-calm : (name : Option (List ℕ)) (past : List Request) (request : Request) (table : ℕ) → KeepsHists name past request
    → is_paused name table (request ∷ past) ≡ is_paused name table past
paused-calm name past request table is =
    ap (λ (a : Option Action). paused_after a (is_paused name table past)) (asked-calm name past request table is)

pub hits-calm : (name : Option (List ℕ)) (past : List Request) (request : Request) (table : ℕ) → KeepsHists name past request
    → hits_of name table (request ∷ past)
    ≡ hits_of name table past ++ counted_by table (is_paused name table past) (hist_triggers name past) (emitted past request)
hits-calm name past request table is =
    ap (λ (a : Option Action). if empties a then []
    else hits_of name table past ++ counted_by table (is_paused name table past) (hist_triggers name past) (emitted past request))
    (asked-calm name past request table is)

-- a request that emits nothing either asks nothing of a table
pub unasked : (name : Option (List ℕ)) (past : List Request) (request : Request) (table : ℕ) → KeepsHists name past request
    → emitted past request ≡ None → IsAsked name past request None table
unasked name past request table is quiet = record {
  paused = paused-calm name past request table is;
  hits = hits-calm name past request table is
      ∙ ap (λ (e : Option Emitted). hits_of name table past ++ counted_by table (is_paused name table past) (hist_triggers name past) e) quiet
      ∙ ap (λ (rows : List Hit). hits_of name table past ++ rows) (nothing-counted table (is_paused name table past) (hist_triggers name past))
      ∙ append-nil (hits_of name table past);
}
