use Rattle.std.proofs.Common.{◌≡◌, ◌==◌, ap, true, false, sym, ◌∙◌, arith}
use Rattle.std.proofs.lemmas.Bool.{eqb-true}
use Rattle.trace_script.specs.private.Bytes.{highest_rank}
use Rattle.trace_script.proofs.BareEmissions.{line_said, rest_is_bare, plain_bare, plain_short, plain_rest}
use Rattle.trace_script.proofs.emission.bare_after_emit.Goals as goal
use Rattle.trace_script.proofs.emission.bare_after_emit.Goals.{then-line-gt-MOST_BYTES-via-then-line-gt-MOST_BYTES, then-line-gt-MOST_BYTES-via-else-line-gt-MOST_BYTES+then-not-is_bare}

pub returns-in_err-rest-clause-none : goal.returns-in_err-rest-clause-none
returns-in_err-rest-clause-none c = rw c.from_residual.ensures (λ plain. c.in_err-rest.ensures.none plain.rest plain.begins)

pub returns-then-line-gt-MOST_BYTES-clause-none : goal.returns-then-line-gt-MOST_BYTES-clause-none
returns-then-line-gt-MOST_BYTES-clause-none c =
    elim c.then-line-gt-MOST_BYTES.branch [
      | then-line-gt-MOST_BYTES-via-then-line-gt-MOST_BYTES w ↦ λ plain. omega (arith, w.if-line-gt-MOST_BYTES.true, plain_short c.args.line.now plain)
      | then-line-gt-MOST_BYTES-via-else-line-gt-MOST_BYTES+then-not-is_bare w ↦ λ plain. absurd (
          let e : false ≡ true = w.if-not-is_bare.ensures ∙ ap (λ n. n == 0) (plain_bare c.args.line.now plain) in cc
          )
    ]

pub returns-clause-bare : goal.returns-clause-bare
returns-clause-bare c =
    rest_is_bare c.args.line.now c.in_ok-rest.rest.now c.in_ok-rest.ensures.some (eqb-true (highest_rank c.args.line.now) 0 (sym c.if-not-is_bare.ensures))

pub returns-clause-said : goal.returns-clause-said
returns-clause-said c =
    line_said c.args.line.now c.in_ok-rest.rest.now c.in_ok-rest.ensures.some c.if-line-gt-MOST_BYTES.false
    (eqb-true (highest_rank c.args.line.now) 0 (sym c.if-not-is_bare.ensures))

pub returns-clause-spaced : goal.returns-clause-spaced
returns-clause-spaced c = λ plain. plain_rest c.args.line.now c.in_ok-rest.rest.now c.in_ok-rest.ensures.some plain
