-- What is wrong with what was asked and refused.
use Rattle.std.specs.Prelude.{ℕ, List}
use Rattle.refusal_explanations.specs.Words.{command_words}
use Rattle.trace_command.specs.declared.refusal.Refusal.{Refusal}
use Rattle.shared_mount.specs.declared.asked.Asked.{Asked}
use Rattle.shared_mount.specs.declared.asked.Asked.TheVariants as asks
use Rattle.library_tracer.specs.Consoles.{values_words}

-- the words of each refusal of it
abbrev pub words_asked : Asked → Refusal → List ℕ
words_asked (asks.Command command) = command_words command.now
words_asked (asks.Values emission) = values_words
