use Rattle.std.proofs.Common.{◌<◌, length, drop, sym, ap, ◌∙◌, arith, false, not, ◌&&◌}
use Rattle.std.proofs.lemmas.List.{nil_from_length}
use Rattle.trace_filter.specs.Globs.{parts_from, class_piece}
use Rattle.trace_filter.specs.Marks.{advance_all, mark_at}
use Rattle.trace_filter.proofs.RowLemmas.{part_step, take_rest, mark_at-get}
use Rattle.trace_filter.proofs.ClassLemmas.{still_closed}
use Rattle.trace_filter.proofs.glob.match_parts.Goals as goal

pub next_part-piece-requires-clause-closed : goal.next_part-piece-requires-clause-closed
next_part-piece-requires-clause-closed c = λ closed. ap (λ bytes. class_piece (drop 1 bytes)) (sym c.in-Some.ensures.cases.0) ∙ c.parts.invariant.closed closed 1

pub parts-preserved : goal.parts-preserved
parts-preserved c = record {
  same = ap (λ r. advance_all (parts_from 0 r) c.advance.new.row c.args.text.now) (take_rest c.next_part-piece.result.more c.in-Some.others.now)
      ∙ part_step c.parts.rest.now c.in-Some.others.now c.in-Some.first.now c.parts.row c.advance.new.row c.args.text.now c.next_part-piece.result c.in-Some.ensures.cases.0 c.next_part-piece.ensures c.advance.ensures
      ∙ c.parts.invariant.same;
  closed = λ closed n.
      ap (λ r. class_piece (drop n r)) (take_rest c.next_part-piece.result.more c.in-Some.others.now)
      ∙ still_closed c.parts.rest.now c.in-Some.others.now c.in-Some.first.now c.next_part-piece.result c.in-Some.ensures.cases.0 c.next_part-piece.ensures
      c.parts.may_close (c.parts.may_close && not c.is_unclosed.result) c.parts.invariant.closed (ap (λ u. c.parts.may_close && not u) c.is_unclosed.ensures) closed n;
}

pub returns : goal.returns
returns c =
    let inside : length c.args.text.now < length c.parts.row = omega (arith, c.parts.auto.row, c.requires) in
    sym (mark_at-get (length c.args.text.now) c.parts.row false inside)
    ∙ ap (mark_at (length c.args.text.now)) (ap (λ r. advance_all (parts_from 0 r) c.parts.row c.args.text.now) (sym (nil_from_length c.parts.rest.now c.in_default.ensures.cases)) ∙ c.parts.invariant.same)
