-- What contracts see of passes, and what is true of their fields.
use Rattle.std.specs.Prelude.{◌≡◌, List, length, map, Option, IfSome}
use Rattle.std.specs.Arc.{arc_value}
use Rattle.std.specs.Option.{option_map}
use Rattle.shared_mount.specs.MountCallers.{terms_of}
use Rattle.shared_mount.specs.declared.caller.Caller.{Caller}
use Rattle.shared_mount.specs.declared.shared.SharedMount.{SharedMount}
use Rattle.library_tracer.specs.ConsolesSeen.{Known}
use Rattle.library_tracer.specs.Inner.{known_by}
use Rattle.library_tracer.specs.PassNames.{pass_count}
use Rattle.library_tracer.specs.Tiled.{AreTiles}
use Rattle.library_tracer.specs.PassesSeen.{PassesSeen}
use Rattle.library_tracer.specs.declared.passes.Passes.TheInside.{Inside}

-- each by what it knows
abbrev pub seen_callers : List (Option Caller) → List (Option Known)
seen_callers callers = map (λ caller. option_map known_by caller) callers

abbrev pub seen_of : SharedMount → List (Option Caller) → PassesSeen
seen_of shared callers = record {
  tracer = shared.lock.table.shared.table_id;
  terms = terms_of shared;
  callers = seen_callers callers;
}

abbrev pub seen : Inside → Option PassesSeen
seen p = option_map (λ tracer. seen_of (arc_value tracer) p.callers.items) p.tracer

-- the callers of a tracer, by name
pub record AreItsCallers (shared : SharedMount) (callers : List (Option Caller)) : Type 0 where
  pub count : length callers ≡ pass_count
  pub tiles : AreTiles shared 0 callers

abbrev pub IsSound : Inside → Type 0
IsSound p = IfSome p.tracer (λ tracer. AreItsCallers (arc_value tracer) p.callers.items)
