use Rattle.std.proofs.Common.{◌≡◌, [], drop}
use Rattle.trace_script.specs.Tokens.{InWord, tokens_from}
use Rattle.trace_script.specs.private.Words.{state_in}
use Rattle.trace_script.proofs.cut.quoted_word.Given as goal

abbrev pub invariant-loop-index : goal.invariant-loop-index
invariant-loop-index l =
    tokens_from (state_in l.within) l.word.items (drop l.index l.line) ≡ tokens_from InWord [] l.line
