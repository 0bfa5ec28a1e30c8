-- Memory for rows is not part of what a state stands for.
use Rattle.std.proofs.Common.{ℕ, ◌<◌, ◌∙◌, List, length, get_or, Option, refl, sym, subst, arith}
use Rattle.trace_command.specs.Requests.{Request}
use Rattle.trace_command.specs.declared.command.Config.{Config}
use Rattle.tracer_state.specs.States.{IsStateAlike, IsUnchanged, StandsFor}
use Rattle.trace_instance.specs.Instances.{InstanceSeen, InstanceStandsFor, IsAlike}
use Rattle.tracer_state.specs.declared.state.State.{State}
use Rattle.tracer_state.proofs.EachInstance.{names-same}
use Rattle.tracer_state.proofs.PlanSteps.{plan-alike, plans-stay}
use Rattle.trace_instance.proofs.TableStands.{table-alike}

alike-stands : (g : Config) (name : Option (List ℕ)) (past : List Request) (i j : InstanceSeen) → IsAlike i j → InstanceStandsFor g name past i
    → InstanceStandsFor g name past j
alike-stands g name past i j alike stands = rw alike.rest (record {
  enabled = stands.enabled;
  filters = stands.filters;
  triggers = stands.triggers;
  hists = stands.hists;
  tables = λ k d inside n a within. table-alike name past i.tables j.tables _ (alike.tables _) (stands.tables k d inside n a within);
  used = λ number unused. alike.tables number ∙ stands.used number unused;
  fitting = stands.fitting;
  overwrite = stands.overwrite;
  tracing = stands.tracing;
  sides = stands.sides;
  shaped = stands.shaped;
  offered = stands.offered;
  spared = stands.spared;
})

pub state_alike-stands : (g : Config) (old new : State) (past : List Request) → IsStateAlike old new → StandsFor g old past → StandsFor g new past
state_alike-stands g old new past alike stands = record {
  events = alike.catalog ∙ stands.events;
  few_events = stands.few_events;
  fit = stands.fit;
  distinct = stands.distinct;
  unknown = stands.unknown;
  unfiltered = stands.unfiltered;
  untriggered = stands.untriggered;
  unwatched = stands.unwatched;
  clock = alike.clock ∙ stands.clock;
  early = omega (arith, alike.clock, stands.early);
  names = names-same old.instances.items new.instances.items alike.instances.many alike.instances.names ∙ stands.names;
  few_instances = stands.few_instances;
  distinct_names = stands.distinct_names;
  each = λ k d inside.
      let within : k < length old.instances.items = omega (arith, inside, alike.instances.many) in
      subst (λ (name : Option (List ℕ)). InstanceStandsFor g name past (get_or new.instances.items k d).instance) (sym (alike.instances.names k d within))
      (alike-stands g _ past _ _ (alike.instances.came k d within) (stands.each k d within));
  planned = plans-stay old new alike.catalog alike.plans alike.instances.many
      (λ event k n within. plan-alike _ _ event (alike.instances.came k n within)) stands.planned;
}

-- a state is alike itself
pub alike-self : (state : State) → IsStateAlike state state
alike-self state = record {
  catalog = refl;
  clock = refl;
  instances = record {
    many = refl;
    names = λ k d inside. refl;
    came = λ k d inside. record { rest = refl; tables = λ number. refl };
  };
  plans = refl;
}

pub unchanged-stands : (g : Config) (old new : State) (past : List Request) → IsUnchanged old new → StandsFor g old past → StandsFor g new past
unchanged-stands g old new past same = state_alike-stands g old new past (record {
  catalog = same.catalog;
  clock = same.clock;
  instances = rw same.instances (alike-self old).instances;
  plans = same.plans;
})
