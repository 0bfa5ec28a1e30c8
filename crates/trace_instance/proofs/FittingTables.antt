-- Hist triggers of an instance that share a table fit each other, after a string too that is written to `trigger`.
use Rattle.std.proofs.Common.{ℕ, Bool, List, Option}
use Rattle.trace_format.specs.Definitions.{Definition}
use Rattle.trace_command.specs.Requests.{Request}
use Rattle.tracer_specification.specs.HistTriggers.{HistTrigger, hist_triggers, left_by}
use Rattle.tracer_specification.proofs.Members.{IsIn, contains-in, in-contains, left-in}
use Rattle.tracer_specification.proofs.NamedTables.{AllFit, left-fit as left-of_fitting}
use Rattle.trace_instance.specs.Instances.{TablesFit}

pub tables-fit : (name : Option (List ℕ)) (past : List Request) → TablesFit name past → AllFit (hist_triggers name past)
tables-fit name past fit t u one other same = fit t u (in-contains t (hist_triggers name past) one) (in-contains u (hist_triggers name past) other) same

pub fit-tables : (name : Option (List ℕ)) (past : List Request) → AllFit (hist_triggers name past) → TablesFit name past
fit-tables name past fit t u one other same = fit t u (contains-in t (hist_triggers name past) one) (contains-in u (hist_triggers name past) other) same

-- all that a string leaves were there, and fit each other
pub left-there : (name : Option (List ℕ)) (past : List Request) (event : Definition) (append : Bool) (t : HistTrigger)
    → IsIn t (left_by event append (hist_triggers name past)) → IsIn t (hist_triggers name past)
left-there name past event append t there = (left-in t event append (hist_triggers name past) there).0

pub left-fit : (name : Option (List ℕ)) (past : List Request) (event : Definition) (append : Bool) → TablesFit name past
    → AllFit (left_by event append (hist_triggers name past))
left-fit name past event append fit = left-of_fitting event append (hist_triggers name past) (tables-fit name past fit)
