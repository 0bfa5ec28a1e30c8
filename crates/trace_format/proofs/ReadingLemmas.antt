-- Lemmas on reading a declaration word by word.
use Rattle.std.proofs.Common.{◌≡◌, ℕ, List, ap, sym, ◌∙◌}
use Rattle.trace_format.specs.declared.reader.Due.{Due}
use Rattle.trace_format.specs.Reading.{Standing, step, step_at}

-- a step is that of what is due
pub step_is : (standing : Standing) (word : List ℕ) (due : Due) → standing.due ≡ due → step standing word ≡ step_at due standing word
unfolding step
step_is standing word due is = ap (λ d. step_at d standing word) is

pub due_is : {inside standing : Standing} {due : Due} → inside ≡ standing → inside.due ≡ due → standing.due ≡ due
due_is same is = ap (λ (s : Standing). s.due) (sym same) ∙ is
