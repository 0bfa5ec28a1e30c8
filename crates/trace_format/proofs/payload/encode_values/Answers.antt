use Rattle.std.proofs.Common.{◌≡◌, ◌≤◌, length, drop, map, min, ap, arith}
use Rattle.std.proofs.lemmas.List.{drop_all, length-map, length_push}
use Rattle.std.proofs.lemmas.Slice.Zip.{zip_end, zip_turn, AllZip-long}
use Rattle.trace_format.specs.Cells.{datum_of, Holds, size_of_all}
use Rattle.trace_format.proofs.Payloads.{all_written, held_here}
use Rattle.trace_format.proofs.LoopLemmas.{left}
use Rattle.trace_format.proofs.WritingLemmas.{still_held, value_written}
use Rattle.trace_format.proofs.payload.encode_values.Goals as goal

pub returns : goal.returns
returns c =
    let kinds = c.args.kinds.now in
    let values = c.args.values.now in
    let turns : length c.loop-kind.yielded ≡ min (length kinds) (length values) =
    zip_end kinds values c.loop-kind.yielded c.into_iter-kind-iterator.result c.loop-kind.kind-iterator c.next.new.self c.next.result (cc) (cc) c.loop-kind.yielded_by c.in-None.is c.next.ensures.steps in
    let same = AllZip-long Holds kinds (map datum_of values) c.requires.row in
    let end : length kinds ≤ length c.loop-kind.yielded = omega (arith, turns, same, length-map values datum_of) in
    all_written c.loop-kind.out _ c.loop-kind.at (drop (length c.loop-kind.yielded) kinds) (map datum_of (drop (length c.loop-kind.yielded) values))
    (drop_all (length c.loop-kind.yielded) kinds end) c.loop-kind.invariant.1 c.loop-kind.invariant.2

pub encode_field-requires-clause-room : goal.encode_field-requires-clause-room
encode_field-requires-clause-room c =
    let kinds = c.args.kinds.now in
    let turn = zip_turn kinds c.args.values.now c.loop-kind.yielded c.into_iter-kind-iterator.result c.loop-kind.kind-iterator c.next.new.self c.next.result (cc) (cc) c.loop-kind.yielded_by
    (c.in-Some.kind, c.in-Some.value) c.in-Some.is c.next.ensures.steps in
    let sizes = ap size_of_all (left kinds (length c.loop-kind.yielded) c.in-Some.kind.now turn.0 (turn.2 c.in-Some.kind.now)) in
    omega (arith, c.loop-kind.invariant.1, sizes)

pub encode_field-requires-clause-held : goal.encode_field-requires-clause-held
encode_field-requires-clause-held c =
    let kinds = c.args.kinds.now in
    let values = c.args.values.now in
    let turn = zip_turn kinds values c.loop-kind.yielded c.into_iter-kind-iterator.result c.loop-kind.kind-iterator c.next.new.self c.next.result (cc) (cc) c.loop-kind.yielded_by
    (c.in-Some.kind, c.in-Some.value) c.in-Some.is c.next.ensures.steps in
    held_here kinds values (length c.loop-kind.yielded) c.loop-kind.invariant.0 turn.0 c.in-Some.kind.now c.in-Some.value.now (turn.2 c.in-Some.kind.now) (turn.3 c.in-Some.value.now)

pub loop-kind-preserved : goal.loop-kind-preserved
loop-kind-preserved c =
    let kinds = c.args.kinds.now in
    let values = c.args.values.now in
    let n = length c.loop-kind.yielded in
    let kind = c.in-Some.kind.now in
    let value = c.in-Some.value.now in
    let turn = zip_turn kinds values c.loop-kind.yielded c.into_iter-kind-iterator.result c.loop-kind.kind-iterator c.next.new.self c.next.result (cc) (cc) c.loop-kind.yielded_by
    (c.in-Some.kind, c.in-Some.value) c.in-Some.is c.next.ensures.steps in
    let kinds_left = left kinds n kind turn.0 (turn.2 kind) in
    let values_left = left values n value turn.1 (turn.3 value) in
    let sizes = ap size_of_all kinds_left in
    let held = held_here kinds values n c.loop-kind.invariant.0 turn.0 kind value (turn.2 kind) (turn.3 value) in
    rw (length_push c.loop-kind.yielded (c.in-Some.kind, c.in-Some.value)) (
      still_held kinds values n kind value kinds_left values_left c.loop-kind.invariant.0,
      omega (arith, c.loop-kind.invariant.1, sizes, c.size-size.ensures.size, c.encode_field.auto.out),
      value_written kinds values n kind value kinds_left values_left c.loop-kind.out c.encode_field.new.out c.loop-kind.at c.size-size.result _ c.encode_field.ensures c.size-size.ensures.size
          (omega (arith, c.loop-kind.invariant.1, sizes)) held c.loop-kind.invariant.2,
    )
