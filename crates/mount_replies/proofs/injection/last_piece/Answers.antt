use Rattle.std.proofs.Common.{ℕ, ◌+◌, ◌<◌, ◌≤◌, List, length, drop, refl, sym, ap, subst, ◌∙◌, arith, rules, length-drop}
use Rattle.mount_replies.specs.Lines.{last_piece, pieces_of}
use Rattle.mount_replies.proofs.PieceLemmas.{found}
use Rattle.mount_replies.proofs.StreamLemmas.{last-after, last-alone, none-of, rest-is}
use Rattle.mount_replies.proofs.injection.last_piece.Goals as goal

pub loop-at-init : goal.loop-at-init
loop-at-init c = record { within = omega arith; still = refl }

pub overflow_add-rest : goal.overflow_add-rest
overflow_add-rest c =
    let within : c.in-Some.at < length c.loop-at.rest.now = (found c.loop-at.rest.now c.in-Some.at c.in-Some.ensures).0 in
    let short : length c.loop-at.rest.now ≤ length c.args.bytes.now = c.loop-at.invariant.within in
    first_of (search rules, omega arith)

pub loop-at-preserved : goal.loop-at-preserved
loop-at-preserved c =
    let rest = drop (c.in-Some.at + 1) c.loop-at.rest.now in
    let is = rest-is (c.in-Some.at + 1) c.loop-at.rest.now in
    let short : length c.loop-at.rest.now ≤ length c.args.bytes.now = c.loop-at.invariant.within in
    let shorter : length rest ≤ length c.args.bytes.now = omega (arith, length-drop (c.in-Some.at + 1) c.loop-at.rest.now) in
    record {
      within = subst (λ (l : List ℕ). length l ≤ length c.args.bytes.now) (sym is) shorter;
      still = ap (λ (l : List ℕ). last_piece (pieces_of l)) is ∙ sym (last-after c.loop-at.rest.now c.in-Some.at c.in-Some.ensures) ∙ c.loop-at.invariant.still;
    }

pub returns : goal.returns
returns c =
    last-alone c.loop-at.rest.now (none-of c.newline_at.result _ c.newline_at.ensures c.in_default.not-Some) ∙ c.loop-at.invariant.still
