-- Of what was done there are no words.
use Rattle.std.proofs.Common.{◌≡◌, ℕ, List, [], ap}
use Rattle.trace_command.specs.declared.command.Reply.TheVariants.{Done}
use Rattle.trace_script.specs.declared.outcome.Outcome.{Outcome}
use Rattle.trace_script.specs.declared.outcome.Outcome.TheVariants.{Replied}
use Rattle.library_tracer.specs.Sentences.{words_of}

pub no_words : (outcome : Outcome) (words : List ℕ) → outcome ≡ Replied Done → words_of outcome words ≡ []
no_words outcome words is = ap (λ (o : Outcome). words_of o words) is
