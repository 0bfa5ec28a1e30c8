-- Legal histories are of requests that were done.
use Rattle.std.proofs.Common.{List, [], ◌∷◌, All, arith}
use Rattle.std.proofs.lemmas.List.Elements.{All-cons, All-nil}
use Rattle.trace_command.specs.Requests.{FitsItsTypes, request_of}
use Rattle.trace_command.specs.declared.command.Config.{Config}
use Rattle.trace_command.specs.declared.command.Entry.{Entry}
use Rattle.tracer_specification.specs.History.{requests_of, IsLegalNewestFirst}
use Rattle.tracer_specification.proofs.LegalEvents.{done-legal, legal-short}
use Rattle.history_laws.specs.LegalPasts.{LegalPastsWereDone}

fit-legal : (g : Config) (entries : List Entry) → IsLegalNewestFirst g entries → All FitsItsTypes (requests_of entries)
fit-legal g [] legal = All-nil FitsItsTypes
fit-legal g (entry ∷ entries) legal =
    All-cons FitsItsTypes (request_of entry.command) (requests_of entries) legal.0.2 (fit-legal g entries legal.3)

pub legal_pasts_were_done : LegalPastsWereDone
legal_pasts_were_done g entries legal = record {
  done = done-legal g entries legal;
  fit = fit-legal g entries legal;
  few = λ in_range. omega (arith, legal-short g entries legal, in_range.few_entries);
}
