-- Whether a table is paused: until something is asked of it, it stays as it is.
use Rattle.std.proofs.Common.{◌≡◌, Bool, false, if◌then◌else◌, List, [], ◌∷◌, ◌++◌, is_some, Option, None, Some, refl, ap, ◌∙◌, append-nil}
use Rattle.hist_entries.specs.Hits.{Hit}
use Rattle.trace_trigger.specs.declared.spec.Action.{Action}
use Rattle.tracer_specification.specs.Emissions.{emitted}
use Rattle.tracer_specification.specs.HistTriggers.{asked_by, counted_by, empties, hist_triggers, hits_of, is_paused, paused_after}
use Rattle.tracer_specification.specs.Laws.{some_later}
use Rattle.tracer_specification.specs.TableLaws.{OnlyAskingPauses, PausesCountNothing, asks}
use Rattle.tracer_specification.proofs.Members.{both-false}

-- what is not asked of a table does not empty it
unasked-kept : (asked : Option Action) → is_some asked ≡ false → empties asked ≡ false
unasked-kept None is = refl
unasked-kept (Some asked) is = absurd (cc)

unasked-paused : (asked : Option Action) (paused : Bool) → is_some asked ≡ false → paused_after asked paused ≡ paused
unasked-paused None paused is = refl
unasked-paused (Some asked) paused is = absurd (cc)

pub only_asking_pauses : OnlyAskingPauses
only_asking_pauses instance table [] past unasked = refl
only_asking_pauses instance table (next ∷ later) past unasked =
    let parts = both-false (asks instance table (later ++ past) next) (some_later (asks instance table) later past) unasked in
    unasked-paused (asked_by instance table (later ++ past) next) (is_paused instance table (later ++ past)) parts.0
    ∙ only_asking_pauses instance table later past parts.1

pub pauses_count_nothing : PausesCountNothing
pauses_count_nothing instance table [] past paused unasked = (paused, refl)
pauses_count_nothing instance table (next ∷ later) past paused unasked =
    let parts = both-false (asks instance table (later ++ past) next) (some_later (asks instance table) later past) unasked in
    let older = pauses_count_nothing instance table later past paused parts.1 in
    let asked = asked_by instance table (later ++ past) next in
    let hists = hist_triggers instance (later ++ past) in
    let new : counted_by table (is_paused instance table (later ++ past)) hists (emitted (later ++ past) next) ≡ [] =
    ap (λ (b : Bool). counted_by table b hists (emitted (later ++ past) next)) older.0 in (
      unasked-paused asked (is_paused instance table (later ++ past)) parts.0 ∙ older.0,
      ap (λ (b : Bool). if b then [] else hits_of instance table (later ++ past)
          ++ counted_by table (is_paused instance table (later ++ past)) hists (emitted (later ++ past) next)) (unasked-kept asked parts.0)
          ∙ ap (λ (rows : List Hit). hits_of instance table (later ++ past) ++ rows) new
          ∙ append-nil (hits_of instance table (later ++ past)) ∙ older.1,
    )
