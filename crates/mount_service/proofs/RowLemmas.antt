-- The lines of a mounted tracer's records show what was emitted.
use Rattle.std.proofs.Common.{◌≡◌, ℕ, ◌^◌, ◌<◌, ◌≤◌, List, [], ◌∷◌, ◌++◌, length, ap, subst, ◌∙◌, arith, length-append}
use Rattle.std.proofs.lemmas.List.Elements.{All-head, All-tail}
use Rattle.std.specs.List.{All}
use Rattle.trace_command.specs.Requests.{FitsItsTypes, Request}
use Rattle.trace_command.specs.declared.command.Config.{Config}
use Rattle.tracer_specification.specs.Emissions.{emitted_bytes}
use Rattle.tracer_specification.specs.Laws.{KeptRecordsShowEmissions, KeptSpareRecordsShowEmissions, RecordsShowTheirRows}
use Rattle.tracer_specification.specs.Pasts.{AreDone}
use Rattle.tracer_specification.specs.Settings.{declared_events}
use Rattle.tracer.specs.Lives.{most_done}
use Rattle.record_text.specs.RecordText.{record_line}
use Rattle.mount_replies.proofs.TurnLemmas.{turns-fit, serves-turns}
use Rattle.mount_replies.specs.Calls.{turns_of}
use Rattle.mount_replies.specs.PastLaws.{PastsAreDone, PastsFitTheirTypes, just_mounted}
use Rattle.mount_service.specs.RecordRows.{ServedRecordsShowEmissions, ServedRecordsShowTheirRows}

done-before : (g : Config) (later past : List Request) → AreDone g (later ++ past) → AreDone g past
done-before g [] past done = done
done-before g (one ∷ later) past done = done-before g later past done.1

fits-between : (later : List Request) (request : Request) (before : List Request) → All FitsItsTypes (later ++ request ∷ before) → FitsItsTypes request
fits-between [] request before all = All-head FitsItsTypes request before all
fits-between (one ∷ later) request before all = fits-between later request before (All-tail FitsItsTypes one (later ++ request ∷ before) all)

pub show_rows : RecordsShowTheirRows → PastsAreDone → PastsFitTheirTypes → ServedRecordsShowTheirRows
show_rows rows pasts fits g requests messages after later request before e range served cut emission =
    let was = pasts g (turns_of requests messages) after (serves-turns g just_mounted requests messages after served) in
    let all : AreDone g.config (later ++ request ∷ before) = subst (AreDone g.config) cut was.done in
    let fit : All FitsItsTypes (later ++ request ∷ before) = subst (All FitsItsTypes) cut (fits g (turns_of requests messages) after range (turns-fit requests messages) (serves-turns g just_mounted requests messages after served)) in
    let few : length (later ++ request ∷ before) ≤ most_done = subst (λ (p : List Request). length p ≤ most_done) cut was.few in
    let short : length (request ∷ before) < 2 ^ 64 = omega (arith, few, length-append later (request ∷ before)) in
    ap (λ (p : List Request). record_line (declared_events p) e.cpu (emitted_bytes e)) cut
    ∙ rows g.config request before later e range (done-before g.config later (request ∷ before) all).1 short (fits-between later request before fit) emission

pub show_emissions : KeptRecordsShowEmissions → KeptSpareRecordsShowEmissions → PastsAreDone → PastsFitTheirTypes → ServedRecordsShowEmissions
show_emissions live spare pasts fits g requests messages after instance cpu range served =
    let was = pasts g (turns_of requests messages) after (serves-turns g just_mounted requests messages after served) in
    let few : length after.past ≤ most_done = was.few in
    let short : length after.past < 2 ^ 64 = omega (arith, few) in
    let fit = fits g (turns_of requests messages) after range (turns-fit requests messages) (serves-turns g just_mounted requests messages after served) in (
      live g.config after.past instance cpu range was.done short fit,
      spare g.config after.past instance cpu range was.done short fit,
    )
