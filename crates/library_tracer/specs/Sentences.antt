-- What is wrong with a call, in words.
use Rattle.std.specs.Prelude.{ℕ, List, [], codes, Result, Ok, Err}
use Rattle.refusal_explanations.specs.FaultWords.{line_words}
use Rattle.refusal_explanations.specs.Words.{sentence_of}
use Rattle.trace_command.specs.declared.command.Reply.{Reply}
use Rattle.trace_command.specs.declared.refusal.Refusal.{Refusal}
use Rattle.trace_script.specs.declared.outcome.Outcome.{Outcome}
use Rattle.trace_script.specs.declared.outcome.Outcome.TheVariants.{Replied, Refused, Fault}

-- words of a call with this outcome: what was done has none
abbrev pub words_of : Outcome → List ℕ → List ℕ
words_of (Replied reply) words = []
words_of _ words = words

-- those of a call that was answered so, by the words of each refusal of it
abbrev pub answer_words : (Refusal → List ℕ) → Result Reply Refusal → List ℕ
answer_words words (Ok reply) = []
answer_words words (Err refusal) = words refusal

-- those of a line that asks for nothing, and of one for which memory was refused
abbrev pub told_words : List ℕ → Outcome → List ℕ
told_words line (Replied reply) = []
told_words line (Refused refusal) = codes "out of memory"
told_words line (Fault fault) = line_words line fault

-- the sentence of a call with this outcome, and these words
abbrev pub explanation_in : Outcome → List ℕ → List ℕ
explanation_in (Refused refusal) words = sentence_of refusal words
explanation_in _ words = words
