use Rattle.std.proofs.Common.{◌≡◌, None, Some, get_or, refl, sym, rules}
use Rattle.std.specs.List.{position}
use Rattle.trace_instance.proofs.Lookups.{is_numbered, none-found, read-at}
use Rattle.trace_instance.proofs.tables.hist_of.Goals as goal

pub returns-in_err-index : goal.returns-in_err-index
returns-in_err-index c =
    let none : position (is_numbered c.args.number) c.args.tables.now ≡ None = search rules in
    search (rules, none-found c.args.number c.args.tables.now none)

pub returns : goal.returns
returns c =
    let found : position (is_numbered c.args.number) c.args.tables.now ≡ Some c.in_ok-index.index = search rules in
    sym (read-at c.args.number c.args.tables.now c.in_ok-index.index c.index-tables-index.result (get_or c.args.tables.now c.in_ok-index.index c.index-tables-index.result) found refl)
