use Rattle.std.proofs.Common.{◌≡◌, Ok, Err, subst, ◌∙◌}
use Rattle.refusal_explanations.specs.Words.{command_words}
use Rattle.trace_command.specs.Commands.{Command}
use Rattle.library_tracer.specs.Inner.{words_in}
use Rattle.library_tracer.proofs.console.copying.keep_read.Goals as goal

pub returns-in-Ok-clause-kept : goal.returns-in-Ok-clause-kept
returns-in-Ok-clause-kept c = (Ok c.in-Ok.reply, c.in-Ok.ensures, c.tell.ensures.kept, c.tell.ensures.words)

pub returns-in-Err-clause-kept : goal.returns-in-Err-clause-kept
returns-in-Err-clause-kept c = (
  Err c.in-Err.refusal,
  c.in-Err.ensures,
  c.tell-in-Err.ensures.kept,
  subst (λ (asked : Command). words_in c.tell-in-Err.new.last ≡ command_words asked c.in-Err.refusal) c.read.ensures
      (c.tell-in-Err.ensures.words ∙ c.command_words-words.ensures),
)
