use Rattle.std.proofs.Common.{◌≡◌, None, Some, get_or, refl, rules}
use Rattle.std.specs.List.{position}
use Rattle.trace_instance.proofs.Lookups.{asked-at, is_numbered, unasked-at}
use Rattle.trace_instance.proofs.tables.ask.Goals as goal

pub returns-in-Some : goal.returns-in-Some
returns-in-Some c = λ other.
    let found : position (is_numbered c.args.number) c.args.tables.now ≡ Some c.in-Some.index = search rules in
    let asked = c.ask.ensures in
    asked-at c.args.number c.args.tables.now c.in-Some.index c.index-tables-index.result
    (get_or c.args.tables.now c.in-Some.index c.index-tables-index.result) c.ask.new.self c.args.action found refl asked.number
    asked.asked other

pub returns-in_default : goal.returns-in_default
returns-in_default c = λ other.
    let none : position (is_numbered c.args.number) c.args.tables.now ≡ None = search rules in
    unasked-at c.args.number c.args.tables.now c.args.action none other
