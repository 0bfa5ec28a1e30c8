use Rattle.std.proofs.Common.{List, sym, ap, ◌∙◌, arith}
use Rattle.trace_script.specs.Tokens.{behind, tokens_of}
use Rattle.trace_script.specs.declared.token.Token.{Token}
use Rattle.trace_script.proofs.TakenCommands.{fails_so}
use Rattle.trace_script.proofs.WordLemmas.{none_before, not_empty, token_pushed, tokens_done, tokens_unclosed}
use Rattle.trace_script.proofs.cut.cut.Goals as goal

pub loop-rest-init : goal.loop-rest-init
loop-rest-init c =
    let rest = c.without_blanks-rest in
    record {
      found = ap (λ (items : List Token). behind items (tokens_of rest.result.now)) c.clear.ensures ∙ (none_before (tokens_of rest.result.now) ∙ rest.ensures.tokens);
      begins = rest.ensures.first;
    }

pub list_token-requires : goal.list_token-requires
list_token-requires c =
    c.loop-rest.invariant.begins (not_empty c.loop-rest.rest.now (sym c.is_empty.ensures ∙ c.loop-rest-test.true))

pub returns-in_err-after : goal.returns-in_err-after
returns-in_err-after c =
    fails_so _ _ _ _ c.from_residual.ensures.1
    (tokens_unclosed c.loop-rest.room.list c.args.line.now c.loop-rest.rest.now _ c.loop-rest.invariant.found c.in_err-after.ensures.err)

pub loop-rest-preserved : goal.loop-rest-preserved
loop-rest-preserved c =
    let next = c.without_blanks-rest-in-loop-rest in
    record {
      found =
          let token = c.in_ok-after.ensures.token in
          rw token.2 (token_pushed _ token.0 _ _ _ _ c.loop-rest.invariant.found token.1 next.ensures.tokens);
      begins = next.ensures.first;
    }

pub loop-rest-smaller : goal.loop-rest-smaller
loop-rest-smaller c = omega (arith, c.in_ok-after.ensures.shorter, c.without_blanks-rest-in-loop-rest.ensures.shorter)

pub returns : goal.returns
returns c =
    tokens_done c.loop-rest.room.list c.args.line.now c.loop-rest.rest.now c.loop-rest.invariant.found (sym c.is_empty.ensures ∙ c.loop-rest-test.false)
