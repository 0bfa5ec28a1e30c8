-- How what is written for the commands of a thread is put together.
use Rattle.std.proofs.Common.{◌≡◌, ◌≢◌, ℕ, ◌+◌, ◌<◌, Bool, true, false, ◌||◌, Err, List, [], ◌∷◌, ◌++◌, drop, get_or, is_err, length, All, Result, refl, sym, ap, subst, ◌∙◌, append_assoc}
use Rattle.std.proofs.Math.Bool.{or_assoc}
use Rattle.std.proofs.lemmas.List.{drop_more}
use Rattle.std.proofs.lemmas.List.Elements.{All-cons}
use Rattle.std.specs.List.{list_any}
use Rattle.trace_command.specs.declared.command.Reply.{Reply}
use Rattle.trace_command.specs.declared.refusal.Refusal.{Refusal}
use Rattle.trace_command.specs.declared.refusal.Refusal.TheVariants.{Worn}
use Rattle.parallel_output.specs.ThreadLines.{outcome_of}
use Rattle.parallel_output.specs.ThreadTexts.{numbered_text, numbered_outcomes, outcome_at, told_if}
use Rattle.parallel_output.specs.declared.outcome_at.OutcomeAt.{OutcomeAt}
use Rattle.trace_script.specs.Rendering.{rendered}

-- what is told of several is what is told of each
pub told_append : (is_told : Bool) (ones others : List OutcomeAt) → told_if is_told (ones ++ others) ≡ told_if is_told ones ++ told_if is_told others
told_append true ones others = refl
told_append false ones others = refl

module _ (numbers : List ℕ) (i : ℕ) (replies more : List (Result Reply Refusal)) (reply : Result Reply Refusal)
    (within : i < length numbers) (next : replies ≡ reply ∷ more)
  where
    -- a fact of what is left, at its first command
    left_is : (P : List ℕ → List (Result Reply Refusal) → Type 0) → P (drop i numbers) replies → P (get_or numbers i 0 ∷ drop (i + 1) numbers) (reply ∷ more)
    left_is P p =
        subst (λ (rs : List (Result Reply Refusal)). P (get_or numbers i 0 ∷ drop (i + 1) numbers) rs) next
        (subst (λ (ns : List ℕ). P ns replies) (drop_more numbers i 0 within) p)

    pub text_left : (text new all : List ℕ) → text ++ numbered_text (drop i numbers) replies ≡ all → new ≡ text ++ rendered (get_or numbers i 0) (outcome_of reply)
        → new ++ numbered_text (drop (i + 1) numbers) more ≡ all
    text_left text new all written grown =
        let rest : List ℕ = numbered_text (drop (i + 1) numbers) more in
        ap (λ (bytes : List ℕ). bytes ++ rest) grown ∙ append_assoc text (rendered (get_or numbers i 0) (outcome_of reply)) rest
        ∙ left_is (λ ns rs. text ++ numbered_text ns rs ≡ all) written

    pub outcomes_left : (is_told : Bool) (told new all : List OutcomeAt) → told ++ told_if is_told (numbered_outcomes (drop i numbers) replies) ≡ all
        → new ≡ told ++ told_if is_told (outcome_at (get_or numbers i 0) reply ∷ []) → new ++ told_if is_told (numbered_outcomes (drop (i + 1) numbers) more) ≡ all
    outcomes_left is_told told new all written grown =
        let one : List OutcomeAt = outcome_at (get_or numbers i 0) reply ∷ [] in
        let rest : List OutcomeAt = numbered_outcomes (drop (i + 1) numbers) more in
        ap (λ (outcomes : List OutcomeAt). outcomes ++ told_if is_told rest) grown ∙ append_assoc told (told_if is_told one) (told_if is_told rest)
        ∙ ap (λ (outcomes : List OutcomeAt). told ++ outcomes) (sym (told_append is_told one rest))
        ∙ left_is (λ ns rs. told ++ told_if is_told (numbered_outcomes ns rs) ≡ all) written

    pub refused_left : (before now all : Bool) → (before || list_any is_err replies) ≡ all → now ≡ (before || is_err reply) → (now || list_any is_err more) ≡ all
    refused_left before now all told grown =
        ap (λ (b : Bool). b || list_any is_err more) grown ∙ or_assoc before (is_err reply) (list_any is_err more)
        ∙ left_is (λ ns rs. (before || list_any is_err rs) ≡ all) told

    pub unworn_left : (X : Type 0) → (All (λ (one : Result Reply Refusal). one ≢ Err Worn) replies → X) → reply ≢ Err Worn
        → All (λ (one : Result Reply Refusal). one ≢ Err Worn) more → X
    unworn_left X told first others =
        left_is (λ ns rs. All (λ (one : Result Reply Refusal). one ≢ Err Worn) rs → X) told
        (All-cons (λ (one : Result Reply Refusal). one ≢ Err Worn) reply more first others)
