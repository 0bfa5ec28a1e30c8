-- Emissions of idle events, any number of them one after another.
use Rattle.std.proofs.Common.{◌≡◌, ℕ, suc, nat_lt, Bool, true, false, ◌&&◌, List, [], ◌∷◌, ◌++◌, length, Option, None, Some, Result, Ok, Err, refl, ap, ◌∙◌, arith, lt-ltb}
use Rattle.std.specs.List.{list_all}
use Rattle.std.proofs.lemmas.Bool.{false≢true}
use Rattle.std.proofs.lemmas.List.{length-append}
use Rattle.trace_command.specs.Requests.{Request, Emission, MakeInstance, RemoveInstance, WriteFile, ReadFile}
use Rattle.trace_command.specs.declared.command.Reply.{Reply}
use Rattle.trace_command.specs.declared.refusal.Refusal.{Refusal}
use Rattle.tracer_specification.specs.History.{answer, answer_with_room, unless_full}
use Rattle.tracer_specification.specs.Settings.{NumberedEvent, event_named}
use Rattle.tracer_specification.specs.IdleEvents.{emits_idle, is_found_idle}
use Rattle.history_laws.specs.IdleEmissions.{IdleEmissionsLeaveAnswers, IdleEmissionsLeaveReads, IdleEmissionsLeaveWaiting, IdleEmissionsLeaveWants, IdleEmissionsMoveTheClock, IdleEmissionsOnlyTick, IdleEmissionsTakeOnlyRoom, IsUnchanged, OnlyTicks}
use Rattle.history_laws.proofs.IdleAnswers.{answer-same, clock-moves, idle-same, named, read-leaves, there, waiting-same, wants-same}
use Rattle.history_laws.proofs.IdleEmissions.{ticks-once}

-- ---- one after another

unchanged-twice : (count : ℕ) (past between after : List Request) (instance : Option (List ℕ)) → OnlyTicks count past between → IsUnchanged instance past between
    → IsUnchanged instance between after → IsUnchanged instance past after
unchanged-twice count past between after instance ticks one other = record {
  tracing = other.tracing ∙ one.tracing;
  enabled = λ name. other.enabled name ∙ one.enabled name;
  filters = λ name. other.filters name ∙ one.filters name;
  overwriting = other.overwriting ∙ one.overwriting;
  sides = λ g side. other.sides g side ∙ one.sides g side;
  live = other.live ∙ one.live;
  spare = other.spare ∙ one.spare;
  snapshot_triggers = λ event. other.snapshot_triggers event ∙ one.snapshot_triggers event;
  times = λ name k t declared attached.
      other.times name k t (named count past between ticks name ∙ declared) (one.snapshot_triggers k.event ∙ attached)
      ∙ one.times name k t declared attached;
  hists = other.hists ∙ one.hists;
  paused = λ table. other.paused table ∙ one.paused table;
  hits = λ table. other.hits table ∙ one.hits table;
  tables = λ t. other.tables t ∙ one.tables t;
}

ticks-more : (count : ℕ) (past between after : List Request) → OnlyTicks count past between → OnlyTicks 1 between after → OnlyTicks (suc count) past after
ticks-more count past between after one other = record {
  now = let a = one.now in let b = other.now in omega (arith, a, b);
  events = other.events ∙ one.events;
  names = other.names ∙ one.names;
  each = λ instance is.
      unchanged-twice count past between after instance one (one.each instance is) (other.each instance (there count past between one instance ∙ is));
}

nothing-ticks : (past : List Request) → OnlyTicks 0 past past
nothing-ticks past = record {
  now = omega arith;
  events = refl;
  names = refl;
  each = λ instance is. record {
    tracing = refl;
    enabled = λ name. refl;
    filters = λ name. refl;
    overwriting = refl;
    sides = λ g side. refl;
    live = refl;
    spare = refl;
    snapshot_triggers = λ event. refl;
    times = λ name k t declared attached. refl;
    hists = refl;
    paused = λ table. refl;
    hits = λ table. refl;
    tables = λ t. refl;
  };
}

both-true : (x y : Bool) → (x && y) ≡ true → (x ≡ true) × (y ≡ true)
both-true true y is = (refl, is)
both-true false y is = absurd (false≢true is)

pub idle_emissions_only_tick : IdleEmissionsOnlyTick
idle_emissions_only_tick past [] idle = nothing-ticks past
idle_emissions_only_tick past (request ∷ emissions) idle =
    let both = both-true (emits_idle past request) (list_all (emits_idle past) emissions) idle in
    let older = idle_emissions_only_tick past emissions both.1 in
    ticks-more (length emissions) past (emissions ++ past) (request ∷ emissions ++ past) older (once request older both.0)
  where
    once : (next : Request) → OnlyTicks (length emissions) past (emissions ++ past) → emits_idle past next ≡ true
        → OnlyTicks 1 (emissions ++ past) (next ∷ emissions ++ past)
    once (Emission name cpu pid pairs) older is = by (event_named name past) refl is
      where
        by : (found : Option NumberedEvent) → event_named name past ≡ found → is_found_idle found past ≡ true
            → OnlyTicks 1 (emissions ++ past) (Emission name cpu pid pairs ∷ emissions ++ past)
        by None none not_idle = absurd (false≢true not_idle)
        by (Some k) declared idle_then =
            ticks-once (emissions ++ past) name cpu pid pairs k (named (length emissions) past (emissions ++ past) older name ∙ declared)
            (idle-same (length emissions) past (emissions ++ past) older name k declared ∙ idle_then)
    once (MakeInstance name) older is = absurd (false≢true is)
    once (RemoveInstance name) older is = absurd (false≢true is)
    once (WriteFile instance file append text) older is = absurd (false≢true is)
    once (ReadFile instance file limit) older is = absurd (false≢true is)

-- ---- what follows

pub idle_emissions_leave_wants : IdleEmissionsLeaveWants
idle_emissions_leave_wants past emissions name k idle declared =
    let ticks = idle_emissions_only_tick past emissions idle in (
      named (length emissions) past (emissions ++ past) ticks name ∙ declared,
      idle-same (length emissions) past (emissions ++ past) ticks name k declared,
      λ instance is. wants-same past (emissions ++ past) instance (ticks.each instance is) name k declared,
    )

pub idle_emissions_leave_answers : IdleEmissionsLeaveAnswers
idle_emissions_leave_answers g past emissions next idle quiet =
    answer-same (length emissions) past (emissions ++ past) (idle_emissions_only_tick past emissions idle) g next quiet

pub idle_emissions_take_only_room : IdleEmissionsTakeOnlyRoom
unfolding answer
idle_emissions_take_only_room g past emissions next idle quiet room =
    ap (unless_full g.history_limit (length (emissions ++ past))) (idle_emissions_leave_answers g past emissions next idle quiet)
    ∙ by (answer_with_room g past next)
  where
    one : nat_lt (length (emissions ++ past)) g.history_limit ≡ true
    one = lt-ltb (length (emissions ++ past)) g.history_limit room

    other : nat_lt (length past) g.history_limit ≡ true
    other = lt-ltb (length past) g.history_limit (let all = length-append emissions past in omega (arith, all, room))

    by : (answered : Result Reply Refusal)
        → unless_full g.history_limit (length (emissions ++ past)) answered ≡ unless_full g.history_limit (length past) answered
    by (Err refusal) = refl
    by (Ok reply) = rw (one, other) refl

pub idle_emissions_move_the_clock : IdleEmissionsMoveTheClock
idle_emissions_move_the_clock g past emissions instance cpu limit idle =
    clock-moves (length emissions) past (emissions ++ past) (idle_emissions_only_tick past emissions idle) g instance cpu limit

pub idle_emissions_leave_reads : IdleEmissionsLeaveReads
idle_emissions_leave_reads g past emissions reader file limit instance side idle is =
    read-leaves (length emissions) past (emissions ++ past) (idle_emissions_only_tick past emissions idle) g reader file limit instance side is

pub idle_emissions_leave_waiting : IdleEmissionsLeaveWaiting
idle_emissions_leave_waiting g past emissions instance file idle =
    waiting-same (length emissions) past (emissions ++ past) (idle_emissions_only_tick past emissions idle) g instance file
