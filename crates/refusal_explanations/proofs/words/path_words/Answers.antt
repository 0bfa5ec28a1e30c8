use Rattle.std.proofs.Common.{Bool, ap, ◌∙◌}
use Rattle.std.specs.Prelude.{codes, if◌then◌else◌}
use Rattle.refusal_explanations.specs.Words.{unknown_words}
use Rattle.refusal_explanations.proofs.words.path_words.Goals as goal

pub returns-then-begins : goal.returns-then-begins
returns-then-begins c =
    ap (λ (is : Bool). if is then codes "paths begin below `/sys/kernel/debug/tracing/`" else unknown_words c.args.subject) c.if-begins.ensures

pub returns-else-begins : goal.returns-else-begins
returns-else-begins c =
    c.unknown_words.ensures
    ∙ ap (λ (is : Bool). if is then codes "paths begin below `/sys/kernel/debug/tracing/`" else unknown_words c.args.subject) c.if-begins.ensures
