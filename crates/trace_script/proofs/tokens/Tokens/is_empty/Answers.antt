use Rattle.std.proofs.Common.{ap, sym, ◌∙◌}
use Rattle.trace_script.specs.private.TokensIn.{tokens_in}
use Rattle.trace_script.proofs.ListedLemmas.{is_listed_empty}
use Rattle.trace_script.proofs.tokens.Tokens.is_empty.Goals as goal

pub returns-in-Listed : goal.returns-in-Listed
returns-in-Listed c =
    is_listed_empty c.in-Listed.words.now c.in-Listed.tokens.now _ c.args.self.now c.is_empty-in-Listed.ensures
    (sym c.self.view_is ∙ ap tokens_in c.in-Listed.is)
