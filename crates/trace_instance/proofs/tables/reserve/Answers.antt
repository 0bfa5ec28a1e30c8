use Rattle.std.proofs.Common.{◌≡◌, None, Some, get_or, refl, rules}
use Rattle.std.specs.List.{position}
use Rattle.trace_instance.proofs.Lookups.{alike-at, here-at, is_numbered, kept-reserved, none-found, others-at, read-at, ready-reserved}
use Rattle.trace_instance.proofs.tables.reserve.Goals as goal

pub returns-in_default-clause-ready : goal.returns-in_default-clause-ready
returns-in_default-clause-ready c =
    let none : position (is_numbered c.args.number) c.args.tables.now ≡ None = search rules in
    rw (none-found c.args.number c.args.tables.now none) tt

pub returns-clause-alike : goal.returns-clause-alike
returns-clause-alike c = λ other.
    let found : position (is_numbered c.args.number) c.args.tables.now ≡ Some c.in-Some.index = search rules in
    let reserved = c.reserve_hit_as.ensures in
    alike-at c.args.number c.args.tables.now c.in-Some.index c.index-tables-index.result
    (get_or c.args.tables.now c.in-Some.index c.index-tables-index.result) c.reserve_hit_as.new.self found refl
    (kept-reserved c.args.by.now c.args.emission.now
    (get_or c.args.tables.now c.in-Some.index c.index-tables-index.result).hist c.reserve_hit_as.new.self c.reserve_hit_as.result reserved.reserved reserved.err) other

pub returns-clause-others : goal.returns-clause-others
returns-clause-others c = λ other apart.
    let found : position (is_numbered c.args.number) c.args.tables.now ≡ Some c.in-Some.index = search rules in
    others-at c.args.number c.args.tables.now c.in-Some.index c.index-tables-index.result
    (get_or c.args.tables.now c.in-Some.index c.index-tables-index.result) (record (get_or c.args.tables.now c.in-Some.index c.index-tables-index.result) { hist = c.reserve_hit_as.new.self }) found refl refl other apart

pub returns-clause-ready : goal.returns-clause-ready
returns-clause-ready c =
    let found : position (is_numbered c.args.number) c.args.tables.now ≡ Some c.in-Some.index = search rules in
    rw (here-at c.args.number c.args.tables.now c.in-Some.index c.index-tables-index.result
    (get_or c.args.tables.now c.in-Some.index c.index-tables-index.result) (record (get_or c.args.tables.now c.in-Some.index c.index-tables-index.result) { hist = c.reserve_hit_as.new.self }) found refl refl)
    (ready-reserved c.args.by.now c.args.emission.now
    (get_or c.args.tables.now c.in-Some.index c.index-tables-index.result).hist c.reserve_hit_as.new.self c.reserve_hit_as.result c.reserve_hit_as.ensures.reserved)

pub returns-clause-memory : goal.returns-clause-memory
returns-clause-memory c =
    let found : position (is_numbered c.args.number) c.args.tables.now ≡ Some c.in-Some.index = search rules in
    rw (read-at c.args.number c.args.tables.now c.in-Some.index c.index-tables-index.result (get_or c.args.tables.now c.in-Some.index c.index-tables-index.result) found refl)
    c.reserve_hit_as.ensures.memory
