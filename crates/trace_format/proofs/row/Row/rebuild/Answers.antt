use Rattle.std.proofs.Common.{map, Ok, Err}
use Rattle.trace_format.specs.Cells.{Cells, datum_of}
use Rattle.trace_format.proofs.PairLemmas.{build_map, build_names, build_only}
use Rattle.trace_format.proofs.RowCauseLemmas.{build_refused}
use Rattle.trace_format.proofs.row.Row.rebuild.Goals as goal

pub returns-in-Ok-clause-map : goal.returns-in-Ok-clause-map
returns-in-Ok-clause-map c =
    let row : Cells = record { kinds = c.fill.new.kinds.items; values = map datum_of c.fill.new.values.items } in
    build_map c.args.def.now c.args.pairs.now (Ok row) c.in-Ok.ensures.exact

pub returns-in-Ok-clause-only : goal.returns-in-Ok-clause-only
returns-in-Ok-clause-only c =
    let row : Cells = record { kinds = c.fill.new.kinds.items; values = map datum_of c.fill.new.values.items } in
    build_only c.args.def.now c.args.pairs.now (Ok row) c.in-Ok.ensures.exact c.fill.ensures.definition

pub returns-in-Ok-clause-names : goal.returns-in-Ok-clause-names
returns-in-Ok-clause-names c =
    let row : Cells = record { kinds = c.fill.new.kinds.items; values = map datum_of c.fill.new.values.items } in
    build_names c.args.def.now c.args.pairs.now (Ok row) c.fill.ensures.definition c.in-Ok.ensures.row

pub returns-in-Err-clause-only : goal.returns-in-Err-clause-only
returns-in-Err-clause-only c =
    build_only c.args.def.now c.args.pairs.now (Err c.in-Err.fault) c.in-Err.ensures.exact c.fill.ensures.definition

pub returns-in-Err-clause-refused : goal.returns-in-Err-clause-refused
returns-in-Err-clause-refused c =
    build_refused c.args.def.now c.fill.ensures.definition c.args.pairs.now (Err c.in-Err.fault) c.in-Err.ensures.exact
