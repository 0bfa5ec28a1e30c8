use Rattle.std.proofs.Common.{◌≡◌, ◌++◌, if◌then◌else◌, ap, ◌∙◌, ℕ, List, OnOk, Result, Ok, Err}
use Rattle.std.specs.Result.{is_ok}
use Rattle.std.proofs.lemmas.List.{take-replicate}
use Rattle.trace_text.proofs.entry.push_blanks.Goals as goal

where-ok : {T E : Type 0} (result : Result T E) (new more old left : List ℕ) → new ≡ (if is_ok result then more else old) → more ≡ left
    → OnOk result (new ≡ left)
where-ok (Ok x) new more old left e same = e ∙ same
where-ok (Err x) new more old left e same = tt

pub returns : goal.returns
returns c =
    where-ok c.extend_from_slice.result _ _ _ _ c.extend_from_slice.ensures.items
    (ap (λ (blanks : List ℕ). c.args.out.now.items ++ blanks) (take-replicate c.args.count 16 32 c.requires))
