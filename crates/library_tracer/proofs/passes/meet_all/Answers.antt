use Rattle.std.proofs.Common.{◌≡◌, refl, sym, subst, ◌∙◌}
use Rattle.library_tracer.specs.Tiled.{AreParts}
use Rattle.library_tracer.proofs.TileLemmas.{all_met, first_one, goes_on, meets, next_tile, none_missing}
use Rattle.library_tracer.proofs.passes.meet_all.Goals as goal

pub loop-caller-init : goal.loop-caller-init
loop-caller-init c =
    let every = c.args.callers.items in
    subst (λ xs. AreParts c.args.tracer.now 0 1024 xs × (every ≡ xs)) (sym c.into_iter-caller-iterator.ensures.into_iter_gives.0) (c.requires, refl)

pub meet-requires-clause-first : goal.meet-requires-clause-first
meet-requires-clause-first c =
    (meets c.args.tracer.now _ _ _ _ _ _ _ c.in-Some.ensures.steps.0 c.in-Some-Some.is-0 c.in-Some-Some.is-1 c.loop-caller.invariant).of

pub meet-requires-clause-second : goal.meet-requires-clause-second
meet-requires-clause-second c =
    (next_tile _ _ _ _ _ (meets c.args.tracer.now _ _ _ _ _ _ _ c.in-Some.ensures.steps.0 c.in-Some-Some.is-0 c.in-Some-Some.is-1 c.loop-caller.invariant)).of

pub meet-requires-clause-adjacent : goal.meet-requires-clause-adjacent
meet-requires-clause-adjacent c =
    sym (next_tile _ _ _ _ _ (meets c.args.tracer.now _ _ _ _ _ _ _ c.in-Some.ensures.steps.0 c.in-Some-Some.is-0 c.in-Some-Some.is-1 c.loop-caller.invariant)).low_is

pub loop-caller-preserved-in-Some-Some : goal.loop-caller-preserved-in-Some-Some
loop-caller-preserved-in-Some-Some c =
    goes_on _ _ _ _ _ _ (meets c.args.tracer.now _ _ _ _ _ _ _ c.in-Some.ensures.steps.0 c.in-Some-Some.is-0 c.in-Some-Some.is-1 c.loop-caller.invariant)
    c.meet.ensures.of c.meet.ensures.met

pub loop-caller-preserved-in_default-None : goal.loop-caller-preserved-in_default-None
loop-caller-preserved-in_default-None c =
    absurd (none_missing c.args.tracer.now _ _ _ _ _ c.in-Some.ensures.steps.0 c.in_default-None.is-1 c.loop-caller.invariant)

pub loop-caller-preserved : goal.loop-caller-preserved
loop-caller-preserved c = first_one c.args.tracer.now _ _ _ _ _ c.in-Some.ensures.steps.0 c.in-None-default.is-0 c.loop-caller.invariant

pub returns-clause-some : goal.returns-clause-some
returns-clause-some c =
    (all_met c.args.tracer.now _ c.loop-caller.met c.loop-caller.caller-iterator.rest.items
    (sym c.loop-caller.caller-iterator.rest.ok.0 ∙ c.in-None.ensures.steps.0) c.loop-caller.invariant).0

pub returns-clause-all : goal.returns-clause-all
returns-clause-all c =
    (all_met c.args.tracer.now _ c.loop-caller.met c.loop-caller.caller-iterator.rest.items
    (sym c.loop-caller.caller-iterator.rest.ok.0 ∙ c.in-None.ensures.steps.0) c.loop-caller.invariant).1
