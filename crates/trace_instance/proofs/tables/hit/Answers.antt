use Rattle.std.proofs.Common.{◌≡◌, None, Some, get_or, refl, rules}
use Rattle.std.specs.List.{position}
use Rattle.trace_instance.proofs.Lookups.{here-at, is_numbered, none-found, others-at, read-at}
use Rattle.trace_instance.proofs.tables.hit.Goals as goal

pub hit_as-requires-clause-reserved : goal.hit_as-requires-clause-reserved
hit_as-requires-clause-reserved c =
    let found : position (is_numbered c.args.number) c.args.tables.now ≡ Some c.in-Some.index = search rules in
    let was = read-at c.args.number c.args.tables.now c.in-Some.index c.index-tables-index.result
    (get_or c.args.tables.now c.in-Some.index c.index-tables-index.result) found refl in
    rw was at c.requires.ready

pub hit_as-requires-clause-few : goal.hit_as-requires-clause-few
hit_as-requires-clause-few c =
    let found : position (is_numbered c.args.number) c.args.tables.now ≡ Some c.in-Some.index = search rules in
    let was = read-at c.args.number c.args.tables.now c.in-Some.index c.index-tables-index.result
    (get_or c.args.tables.now c.in-Some.index c.index-tables-index.result) found refl in
    rw was at c.requires.few

pub returns-in-Some-clause-hit : goal.returns-in-Some-clause-hit
returns-in-Some-clause-hit c =
    let found : position (is_numbered c.args.number) c.args.tables.now ≡ Some c.in-Some.index = search rules in
    let read = get_or c.args.tables.now c.in-Some.index c.index-tables-index.result in
    rw (
      read-at c.args.number c.args.tables.now c.in-Some.index c.index-tables-index.result read found refl,
      here-at c.args.number c.args.tables.now c.in-Some.index c.index-tables-index.result read (record read { hist = c.hit_as.new.self }) found refl refl,
    )
    c.hit_as.ensures

pub returns-in-Some-clause-others : goal.returns-in-Some-clause-others
returns-in-Some-clause-others c = λ other apart.
    let found : position (is_numbered c.args.number) c.args.tables.now ≡ Some c.in-Some.index = search rules in
    others-at c.args.number c.args.tables.now c.in-Some.index c.index-tables-index.result
    (get_or c.args.tables.now c.in-Some.index c.index-tables-index.result) (record (get_or c.args.tables.now c.in-Some.index c.index-tables-index.result) { hist = c.hit_as.new.self }) found refl refl other apart

pub returns-in_default-clause-hit : goal.returns-in_default-clause-hit
returns-in_default-clause-hit c =
    let none : position (is_numbered c.args.number) c.args.tables.now ≡ None = search rules in
    rw (none-found c.args.number c.args.tables.now none) tt
