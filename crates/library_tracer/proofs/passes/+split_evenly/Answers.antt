use Rattle.std.proofs.Common.{◌-◌, ◌^◌, ◌++◌, [], ◌∷◌, Some, ap, subst, ◌∙◌, arith}
use Rattle.library_tracer.specs.Tiled.{AreParts}
use Rattle.library_tracer.proofs.TileLemmas.{appended, falls, one_part, twice, lower_end, upper_low, upper_end, parts_append, fresh_append}
use Rattle.library_tracer.proofs.passes.+split_evenly.Goals as goal

pub returns-then-times-eq0-clause-added : goal.returns-then-times-eq0-clause-added
returns-then-times-eq0-clause-added m c = (
  Some c.args.caller ∷ [],
  c.push_reserved.ensures.items,
  one_part c.args.tracer.now c.args.caller c.args.times c.if-times-eq0.true c.requires.of c.requires.names,
  (c.requires.fresh, tt),
)

pub returns-then-times-eq0-clause-len : goal.returns-then-times-eq0-clause-len
returns-then-times-eq0-clause-len m c =
    let one = ap (λ t. 2 ^ t) c.if-times-eq0.true in
    let len = c.push_reserved.ensures.len in omega (arith, one, len)

pub split_evenly-requires : goal.split_evenly-requires
split_evenly-requires m c =
    let other = c.if-times-eq0.false in
    let two = twice c.args.times other in
    let room = c.requires.room in
    let least = c.decreases in
    let halves = c.in-Ok.ensures.halves in (
      falls c.args.times m other least,
      (
        c.in-Ok.ensures.of.0,
        (
          lower_end _ _ _ c.args.times other halves c.requires.names,
          (halves.seen.0 ∙ c.requires.fresh, omega (arith, two, room)),
        ),
      ),
    )

pub split_evenly-requires-in-Ok : goal.split_evenly-requires-in-Ok
split_evenly-requires-in-Ok m c =
    let other = c.if-times-eq0.false in
    let two = twice c.args.times other in
    let room = c.requires.room in
    let len = c.split_evenly.ensures.len in
    let capacity = c.split_evenly.ensures.capacity in
    let least = c.decreases in
    let halves = c.in-Ok.ensures.halves in (
      falls c.args.times m other least,
      (
        c.in-Ok.ensures.of.1,
        (
          upper_end _ _ _ c.args.times other halves c.requires.names,
          (halves.seen.1 ∙ c.requires.fresh, omega (arith, two, room, len, capacity)),
        ),
      ),
    )

pub returns-clause-added : goal.returns-clause-added
returns-clause-added m c =
    let other = c.if-times-eq0.false in
    let first = c.split_evenly.ensures.added in
    let second = c.split_evenly-in-Ok.ensures.added in
    let halves = c.in-Ok.ensures.halves in (
      first.0 ++ second.0,
      appended c.args.callers.now.items _ _ first.0 second.0 first.1 second.1,
      parts_append c.args.tracer.now _ _ _ _ first.0 second.0 (upper_low _ _ _ c.args.times other halves c.requires.names)
          (twice c.args.times other)
          (subst (λ k. AreParts c.args.tracer.now k (2 ^ (c.args.times - 1)) first.0) halves.low first.2) second.2,
      fresh_append first.0 second.0 first.3 second.3,
    )

pub returns-clause-len : goal.returns-clause-len
returns-clause-len m c =
    let two = twice c.args.times c.if-times-eq0.false in
    let first = c.split_evenly.ensures.len in
    let second = c.split_evenly-in-Ok.ensures.len in omega (arith, two, first, second)
