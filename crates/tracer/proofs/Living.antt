-- A tracer that keeps no history: what it is fit for, and what led to it after one command more.
use Rattle.std.proofs.Common.{◌≡◌, ◌+◌, ◌<◌, List, [], ◌∷◌, All, IsOk, Ok, refl, ◌∙◌, arith}
use Rattle.trace_command.specs.Configs.{IsInRange}
use Rattle.trace_command.specs.Requests.{Request}
use Rattle.trace_command.specs.declared.command.Config.{Config}
use Rattle.trace_command.specs.declared.command.Reply.{Reply}
use Rattle.trace_command.specs.declared.command.Reply.TheVariants.{Done}
use Rattle.tracer_specification.specs.History.{answer_with_room}
use Rattle.trace_instance.specs.Deliveries.{HasFew, HasFewRows}
use Rattle.tracer_state.specs.States.{IsEmitted, IsPrepared, IsPreparedEmission, IsStateAlike, IsStep, IsUnchanged, IsUsable, StandsFor}
use Rattle.tracer_state.specs.declared.state.Named.{Named}
use Rattle.tracer_state.specs.declared.state.Prepared.{Prepared}
use Rattle.tracer_state.proofs.Alike.{state_alike-stands, unchanged-stands}
use Rattle.tracer_state.proofs.Stands.{stands_after, stands_after_emission}
use Rattle.tracer_state.proofs.Usable.{few_from_stands, few_rows_from_stands, usable_from_stands}
use Rattle.tracer.specs.LiveSeen.{LiveSeen}
use Rattle.tracer.specs.Lives.{IsLive, most_done}

-- ---- what it is fit for

pub live-usable : (g : Config) (past : List Request) (live : LiveSeen) → IsLive g past live → IsUsable g live.state
live-usable g past live is = usable_from_stands g live.state past is.in_range is.stands is.few

pub live-early : (g : Config) (past : List Request) (live : LiveSeen) → IsLive g past live → live.done < most_done → live.state.clock < most_done
live-early g past live is room = omega (arith, is.stands.early, is.count, room)

pub live-few : (g : Config) (past : List Request) (live : LiveSeen) → IsLive g past live → live.done < most_done
    → All (λ (n : Named). HasFew n.instance) live.state.instances.items
live-few g past live is room = few_from_stands g live.state past is.stands (omega (arith, is.count, room))

pub live-few_rows : (g : Config) (past : List Request) (live : LiveSeen) → IsLive g past live → live.done < most_done
    → All (λ (n : Named). HasFewRows n.instance) live.state.instances.items
live-few_rows g past live is room = few_rows_from_stands g live.state past is.are_done is.stands (omega (arith, is.count, room))

-- ---- where no command is done

with_state : (g : Config) (past : List Request) (old new : LiveSeen) → IsLive g past old → new.done ≡ old.done → StandsFor g new.state past
    → IsLive g past new
with_state g past old new is done stands = record {
  in_range = is.in_range;
  are_done = is.are_done;
  count = done ∙ is.count;
  few = is.few;
  stands = stands;
}

pub live-alike : (g : Config) (past : List Request) (old new : LiveSeen) → IsLive g past old → new.done ≡ old.done → IsStateAlike old.state new.state
    → IsLive g past new
live-alike g past old new is done alike = with_state g past old new is done (state_alike-stands g old.state new.state past alike is.stands)

pub live-unchanged : (g : Config) (past : List Request) (old new : LiveSeen) → IsLive g past old → new.done ≡ old.done
    → IsUnchanged old.state new.state → IsLive g past new
live-unchanged g past old new is done same = with_state g past old new is done (unchanged-stands g old.state new.state past same is.stands)

-- ---- after one command more

more : (g : Config) (past : List Request) (old new : LiveSeen) (request : Request) (reply : Reply) → IsLive g past old → old.done < most_done
    → new.done ≡ old.done + 1 → answer_with_room g past request ≡ Ok reply → StandsFor g new.state (request ∷ past) → IsLive g (request ∷ past) new
more g past old new request reply is room done given stands =
    let answered : IsOk (answer_with_room g past request) = rw given refl in record {
      in_range = is.in_range;
      are_done = (answered, is.are_done);
      count = omega (arith, is.count, done);
      few = omega (arith, is.count, room);
      stands = stands;
    }

pub live-changed : (g : Config) (past : List Request) (old new : LiveSeen) (request : Request) (prepared : Prepared) → IsLive g past old
    → old.done < most_done → new.done ≡ old.done + 1 → IsPrepared g past request old.state (Ok prepared)
    → IsStep old.state new.state prepared.change → IsLive g (request ∷ past) new
live-changed g past old new request prepared is room done ready step =
    more g past old new request prepared.reply is room done ready.0
    (stands_after g old.state new.state past request prepared is.in_range is.stands ready step)

pub live-emitted : (g : Config) (past : List Request) (old new : LiveSeen) (request : Request) → IsLive g past old → old.done < most_done
    → new.done ≡ old.done + 1 → IsPreparedEmission g past request old.state old.delivery → IsEmitted old.state new.state old.delivery
    → IsLive g (request ∷ past) new
live-emitted g past old new request is room done ready emitted =
    more g past old new request Done is room done ready.0
    (stands_after_emission g old.state new.state past request old.delivery is.stands ready emitted)

-- ---- a new one

pub live-new : (g : Config) (live : LiveSeen) → IsInRange g → live.done ≡ 0 → StandsFor g live.state [] → IsLive g [] live
live-new g live range none stands = record {
  in_range = range;
  are_done = tt;
  count = none;
  few = omega arith;
  stands = stands;
}
