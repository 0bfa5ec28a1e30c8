-- What holds of requests that were done holds of a book's legal history, and of a mounted tracer's and a library's, which keep none. The newest comes
-- first.
use Rattle.std.specs.Prelude.{◌^◌, ◌<◌, List, length, All}
use Rattle.trace_command.specs.Configs.{IsInRange}
use Rattle.trace_command.specs.Requests.{FitsItsTypes}
use Rattle.trace_command.specs.declared.command.Config.{Config}
use Rattle.trace_command.specs.declared.command.Entry.{Entry}
use Rattle.tracer_specification.specs.History.{requests_of, IsLegalNewestFirst}
use Rattle.tracer_specification.specs.Pasts.{AreDone}

-- the requests of a legal history: they were done, their numbers fit their types, and with a configuration in range there are fewer than 2^64
pub record WereDone (g : Config) (entries : List Entry) : Type 0 where
  pub done : AreDone g (requests_of entries)
  pub fit : All FitsItsTypes (requests_of entries)
  pub few : IsInRange g → length (requests_of entries) < 2 ^ 64

abbrev pub LegalPastsWereDone : Type 0
LegalPastsWereDone = (g : Config) (entries : List Entry) → IsLegalNewestFirst g entries → WereDone g entries
