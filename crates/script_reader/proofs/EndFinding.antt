-- Where the `end` of a part is looked for.
use Rattle.std.proofs.Common.{◌≡◌, ℕ, Bool, true, false, ◌||◌, List, ◌∷◌, Result, Ok, Err, refl, ap, sym, ◌∙◌}
use Rattle.std.specs.List.{list_any}
use Rattle.trace_script.specs.Lines.{line_of}
use Rattle.trace_script.specs.declared.fault.ScriptFault.{ScriptFault}
use Rattle.trace_script.specs.declared.line.Line.{Line}
use Rattle.trace_script.specs.declared.line.Line.TheVariants.{Blank, Ask, Parallel, Thread, End}
use Rattle.script_reader.specs.Items.{ends_with, is_end}

-- a line that is no `end`
not_end : (read : Result Line ScriptFault) → (read ≡ Ok End → ⊥) → false ≡ ends_with read
not_end (Ok Blank) none = refl
not_end (Ok (Ask command)) none = refl
not_end (Ok Parallel) none = refl
not_end (Ok Thread) none = refl
not_end (Ok End) none = absurd (none refl)
not_end (Err fault) none = refl

-- a line that may be no `end` is none
pub no_end : (line : List ℕ) (may : Bool) → (line_of line ≡ Ok End → may ≡ true) → may ≡ false → false ≡ is_end line
no_end line may if_end not = not_end (line_of line) (λ e. let both : true ≡ false = sym (if_end e) ∙ not in absurd cc)

module _ (left more : List (List ℕ)) (line : List ℕ) (is : left ≡ line ∷ more) where
  pub found_here : true ≡ is_end line → list_any is_end left ≡ true
  found_here end = ap (list_any is_end) is ∙ ap (λ (b : Bool). b || list_any is_end more) (sym end)

  pub not_here : false ≡ is_end line → list_any is_end left ≡ list_any is_end more
  not_here end = ap (list_any is_end) is ∙ ap (λ (b : Bool). b || list_any is_end more) (sym end)
