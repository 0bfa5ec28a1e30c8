-- What the lines of records show, whatever a mounted tracer served: the rows that were emitted. Theorems that speak of no program.
use Rattle.std.specs.Prelude.{◌≡◌, ℕ, List, ◌∷◌, ◌++◌, Option, Some}
use Rattle.std.specs.List.{All}
use Rattle.page_ring.specs.Account.{Reading}
use Rattle.trace_command.specs.Configs.{IsInRange}
use Rattle.trace_command.specs.Requests.{Request}
use Rattle.tracer_specification.specs.Emissions.{Emitted, emitted, emitted_bytes}
use Rattle.tracer_specification.specs.Laws.{ShowsEmission, emitted_line, kept_readings, spare_readings}
use Rattle.tracer_specification.specs.Settings.{declared_events}
use Rattle.record_text.specs.RecordText.{record_line}
use Rattle.mount_replies.specs.Mounted.{Serves}
use Rattle.mount_replies.specs.PastLaws.{just_mounted}
use Rattle.mount_replies.specs.Services.{Service, Terms}

-- Of each emission that was done the record's line shows the row that was emitted, whatever was done after it.
abbrev pub ServedRecordsShowTheirRows : Type 0
ServedRecordsShowTheirRows =
    (g : Terms) (requests messages : List (List ℕ)) (after : Service) (later : List Request) (request : Request) (before : List Request) (e : Emitted)
    → IsInRange g.config → Serves g just_mounted requests messages after → after.past ≡ later ++ request ∷ before → emitted before request ≡ Some e
    → record_line (declared_events after.past) e.cpu (emitted_bytes e) ≡ emitted_line e

-- these records of a CPU of an instance have lines that show emissions that were done
abbrev pub AreOfEmissions : Option (List ℕ) → ℕ → Service → List Reading → Type 0
AreOfEmissions instance cpu after readings =
    All (λ (r : Reading). ShowsEmission instance cpu after.past (record_line (declared_events after.past) cpu r.rec)) readings

-- And each record that a CPU's ring keeps, of the live side or of the other one, is such a one: of an emission on that CPU, since the instance was made,
-- that the instance recorded.
abbrev pub ServedRecordsShowEmissions : Type 0
ServedRecordsShowEmissions =
    (g : Terms) (requests messages : List (List ℕ)) (after : Service) (instance : Option (List ℕ)) (cpu : ℕ)
    → IsInRange g.config → Serves g just_mounted requests messages after
    → AreOfEmissions instance cpu after (kept_readings g.config instance cpu after.past) × AreOfEmissions instance cpu after (spare_readings g.config instance cpu after.past)
