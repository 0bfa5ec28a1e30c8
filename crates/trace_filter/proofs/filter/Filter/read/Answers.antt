use Rattle.std.proofs.Common.{◌≡◌, ◌≤◌, None, false, length, map, sym, ap, ◌∙◌, subst, arith}
use Rattle.std.proofs.lemmas.Result.{err_from_is_err_and}
use Rattle.trace_filter.specs.declared.syntax.Verdict.TheVariants.{Fine}
use Rattle.trace_format.specs.declared.operand.Operand.TheVariants as operands
use Rattle.trace_filter.specs.declared.token.Comparison.TheVariants as comparisons
use Rattle.trace_lex.specs.Blanks.{trimmed}
use Rattle.trace_filter.specs.Tokens.{spots_of, spots_from, tokens_of}
use Rattle.trace_filter.specs.Syntax.{start, reading}
use Rattle.trace_filter.specs.Subjects.{first_fault, IsToldAs}
use Rattle.trace_filter.specs.Steps.{move_of, moves_from}
use Rattle.trace_filter.proofs.FilterLemmas.{moves_kept, filter_made, fault_made}
use Rattle.trace_filter.proofs.filter.Filter.read.Goals as goal

pub invariant_of-result : goal.invariant_of-result
invariant_of-result c =
    let items_is : c.in_ok-from_slice.field-0.items ≡ trimmed c.args.text.now = c.in_ok-from_slice.ensures.items ∙ c.trim-trimmed.ensures in
    let moves_is : map move_of c.in_ok-steps.steps.items ≡ moves_from c.args.def.now.fields operands.Pid comparisons.Eq (tokens_of (spots_of c.args.text.now)) =
    c.in_ok-steps.ensures.steps ∙ (λ i. moves_from (c.fields.ensures.fields i) operands.Pid comparisons.Eq (tokens_of (spots_from false 0 0 (c.trim_end-body.ensures i)))) in
    moves_kept c.args.def.now c.args.text.now c.in_ok-from_slice.field-0.items (map move_of c.in_ok-steps.steps.items) items_is moves_is

pub returns-clause-exact : goal.returns-clause-exact
returns-clause-exact c =
    let items_is : c.in_ok-from_slice.field-0.items ≡ trimmed c.args.text.now = c.in_ok-from_slice.ensures.items ∙ c.trim-trimmed.ensures in
    let moves_is : map move_of c.in_ok-steps.steps.items ≡ moves_from c.args.def.now.fields operands.Pid comparisons.Eq (tokens_of (spots_of c.args.text.now)) =
    c.in_ok-steps.ensures.steps ∙ (λ i. moves_from (c.fields.ensures.fields i) operands.Pid comparisons.Eq (tokens_of (spots_from false 0 0 (c.trim_end-body.ensures i)))) in
    let short : length (trimmed c.args.text.now) ≤ 1024 = omega (arith, c.if-trimmed-gt-LONGEST.false, ap length (c.trim-trimmed.ensures)) in
    let fine : reading start (spots_of c.args.text.now) (length c.args.text.now) ≡ Fine =
    ap (λ w. reading start (spots_from false 0 0 w) (length c.args.text.now)) (sym c.trim_end-body.ensures) ∙ sym c.read_syntax-verdict.ensures.verdict ∙ c.in-Fine.is in
    let fits : first_fault c.args.def.now.fields operands.Pid (spots_of c.args.text.now) ≡ None = (λ i. first_fault (sym c.fields.ensures.fields i) operands.Pid (spots_from false 0 0 (sym c.trim_end-body.ensures i))) ∙ c.in_ok-steps.ensures.fits in
    filter_made c.args.def.now c.args.text.now c.in_ok-from_slice.field-0.items (map move_of c.in_ok-steps.steps.items) items_is moves_is short fine fits

pub returns-in_err-steps-clause-exact : goal.returns-in_err-steps-clause-exact
returns-in_err-steps-clause-exact c =
    let short : length (trimmed c.args.text.now) ≤ 1024 = omega (arith, c.if-trimmed-gt-LONGEST.false, ap length (c.trim-trimmed.ensures)) in
    let fine : reading start (spots_of c.args.text.now) (length c.args.text.now) ≡ Fine =
    ap (λ w. reading start (spots_from false 0 0 w) (length c.args.text.now)) (sym c.trim_end-body.ensures) ∙ sym c.read_syntax-verdict.ensures.verdict ∙ c.in-Fine.is in
    let same : first_fault c.fields.result.now operands.Pid (spots_from false 0 0 c.trim_end-body.result.now) ≡ first_fault c.args.def.now.fields operands.Pid (spots_of c.args.text.now) =
    (λ i. first_fault (c.fields.ensures.fields i) operands.Pid (spots_from false 0 0 (c.trim_end-body.ensures i))) in
    let p = err_from_is_err_and c.from_residual.result c.from_residual.ensures.1 in
    rw (p.1, p.2) (fault_made c.args.def.now c.args.text.now short fine c.in_err-steps.field-0.0 (subst (λ o. IsToldAs o c.in_err-steps.field-0.0) same c.in_err-steps.ensures.refused))
