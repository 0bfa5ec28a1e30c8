-- How what is written for the threads of a part is put together.
use Rattle.std.proofs.Common.{◌≡◌, ℕ, ◌+◌, ◌<◌, Bool, false, ◌||◌, if◌then◌else◌, Option, Some, Ok, Err, Vec, List, [], ◌∷◌, ◌++◌, drop, get_or, is_err, length, map, All, Result, refl, sym, ap, subst, ◌∙◌, arith, append_assoc}
use Rattle.std.proofs.Math.Bool.{or_assoc}
use Rattle.std.proofs.lemmas.List.{drop_more, map-append}
use Rattle.std.proofs.lemmas.List.Elements.{All-cons}
use Rattle.std.proofs.lemmas.List.Folds.{list_any-append}
use Rattle.std.specs.List.{list_any}
use Rattle.std.specs.declared.alloc.Global.{Global}
use Rattle.tracer_specification.specs.Blocks.{IsUnworn}
use Rattle.script_reader.specs.declared.part.Numbered.{Numbered}
use Rattle.trace_script.specs.Rendering.{rendered}
use Rattle.trace_script.specs.declared.outcome.Outcome.{Outcome}
use Rattle.parallel_output.proofs.ThreadWriting.{told_append}
use Rattle.parallel_output.specs.ThreadLines.{outcome_of, thread_line}
use Rattle.parallel_output.specs.ThreadTexts.{numbered_text, numbered_outcomes, told_if}
use Rattle.trace_session.specs.Parts.{outcomes_in, replies_text, threads_text}
use Rattle.trace_session.specs.Sessions.{is_fault, is_refusal, status_of}
use Rattle.parallel_output.specs.declared.outcome_at.OutcomeAt.{OutcomeAt}
use Rattle.trace_session.specs.declared.status.Status.{Status}
use Rattle.trace_session.specs.declared.status.Status.TheVariants as statuses
use Rattle.trace_session.specs.PartTexts.{numbered_threads, outcomes_of_threads, replies_in, items_in, AreNumbered, AreOutcomesOf}
use Rattle.trace_command.specs.declared.command.Reply.{Reply}
use Rattle.trace_command.specs.declared.refusal.Refusal.{Refusal}
use Rattle.trace_workers.specs.declared.part.Part.{Part}

module _ (numbers : List (Vec ℕ Global)) (thread : ℕ) (own : Vec ℕ Global) (parts more : List Part) (part : Part)
    (within : thread < length numbers) (at : own ≡ get_or numbers thread own) (next : parts ≡ part ∷ more)
  where
    here : drop thread numbers ≡ own ∷ drop (thread + 1) numbers
    here = drop_more numbers thread own within ∙ ap (λ (one : Vec ℕ Global). one ∷ drop (thread + 1) numbers) (sym at)

    -- a fact of what is left, at its first thread
    left_is : (P : List (Vec ℕ Global) → List Part → Type 0) → P (drop thread numbers) parts → P (own ∷ drop (thread + 1) numbers) (part ∷ more)
    left_is P p = subst (λ (ps : List Part). P (own ∷ drop (thread + 1) numbers) ps) next (subst (λ (os : List (Vec ℕ Global)). P os parts) here p)

    -- so many numbers are left as replies
    pub numbered_later : AreNumbered (items_in (drop thread numbers)) (replies_in parts) → AreNumbered (items_in (drop (thread + 1) numbers)) (replies_in more)
    numbered_later same =
        let all = left_is (λ os ps. AreNumbered (items_in os) (replies_in ps)) same in
        cc

    pub text_later : (text new all : List ℕ) → text ++ numbered_threads thread (items_in (drop thread numbers)) (replies_in parts) ≡ all
        → new ≡ text ++ (thread_line thread ++ numbered_text own.items part.replies.items)
        → new ++ numbered_threads (thread + 1) (items_in (drop (thread + 1) numbers)) (replies_in more) ≡ all
    text_later text new all written grown =
        let rest : List ℕ = numbered_threads (thread + 1) (items_in (drop (thread + 1) numbers)) (replies_in more) in
        let these : List ℕ = thread_line thread ++ numbered_text own.items part.replies.items in
        ap (λ (bytes : List ℕ). bytes ++ rest) grown ∙ append_assoc text these rest
        ∙ left_is (λ os ps. text ++ numbered_threads thread (items_in os) (replies_in ps) ≡ all) written

    pub outcomes_later : (is_told : Bool) (told new all : List OutcomeAt)
        → told ++ told_if is_told (outcomes_of_threads (items_in (drop thread numbers)) (replies_in parts)) ≡ all
        → new ≡ told ++ told_if is_told (numbered_outcomes own.items part.replies.items)
        → new ++ told_if is_told (outcomes_of_threads (items_in (drop (thread + 1) numbers)) (replies_in more)) ≡ all
    outcomes_later is_told told new all written grown =
        let rest : List OutcomeAt = outcomes_of_threads (items_in (drop (thread + 1) numbers)) (replies_in more) in
        let these : List OutcomeAt = numbered_outcomes own.items part.replies.items in
        ap (λ (outcomes : List OutcomeAt). outcomes ++ told_if is_told rest) grown ∙ append_assoc told (told_if is_told these) (told_if is_told rest)
        ∙ ap (λ (outcomes : List OutcomeAt). told ++ outcomes) (sym (told_append is_told these rest))
        ∙ left_is (λ os ps. told ++ told_if is_told (outcomes_of_threads (items_in os) (replies_in ps)) ≡ all) written

    pub refused_later : (before now all : Bool) → (before || list_any (list_any is_err) (replies_in parts)) ≡ all
        → now ≡ (before || list_any is_err part.replies.items) → (now || list_any (list_any is_err) (replies_in more)) ≡ all
    refused_later before now all told grown =
        ap (λ (b : Bool). b || list_any (list_any is_err) (replies_in more)) grown
        ∙ or_assoc before (list_any is_err part.replies.items) (list_any (list_any is_err) (replies_in more))
        ∙ left_is (λ os ps. (before || list_any (list_any is_err) (replies_in ps)) ≡ all) told

    pub unworn_later : (X : Type 0) → (All IsUnworn (replies_in parts) → X) → IsUnworn part.replies.items → All IsUnworn (replies_in more) → X
    unworn_later X told first others =
        left_is (λ os ps. All IsUnworn (replies_in ps) → X) told
        (All-cons (λ (replies : List (Result Reply Refusal)). IsUnworn replies) part.replies.items (replies_in more) first others)

-- ---- what commands come to

-- no command's outcome is a fault
no_fault : (replies : List (Result Reply Refusal)) → list_any is_fault (map (λ (reply : Result Reply Refusal). Some (outcome_of reply)) replies) ≡ false
no_fault [] = refl
no_fault (Ok reply ∷ replies) = no_fault replies
no_fault (Err refusal ∷ replies) = no_fault replies

pub no_fault_in : (replies : List (List (Result Reply Refusal))) → list_any is_fault (outcomes_in replies) ≡ false
no_fault_in [] = refl
no_fault_in (own ∷ replies) =
    list_any-append is_fault (map (λ (reply : Result Reply Refusal). Some (outcome_of reply)) own) (outcomes_in replies)
    ∙ ap (λ (b : Bool). b || list_any is_fault (outcomes_in replies)) (no_fault own) ∙ no_fault_in replies

refusals : (replies : List (Result Reply Refusal)) → list_any is_refusal (map (λ (reply : Result Reply Refusal). Some (outcome_of reply)) replies) ≡ list_any is_err replies
refusals [] = refl
refusals (Ok reply ∷ replies) = refusals replies
refusals (Err refusal ∷ replies) = refl

refusals_in : (replies : List (List (Result Reply Refusal))) → list_any is_refusal (outcomes_in replies) ≡ list_any (list_any is_err) replies
refusals_in [] = refl
refusals_in (own ∷ replies) =
    list_any-append is_refusal (map (λ (reply : Result Reply Refusal). Some (outcome_of reply)) own) (outcomes_in replies)
    ∙ ap (λ (b : Bool). b || list_any is_refusal (outcomes_in replies)) (refusals own)
    ∙ ap (λ (b : Bool). list_any is_err own || b) (refusals_in replies)

-- the status of a part's commands is told by whether any was refused
pub status_is : (replies : List (List (Result Reply Refusal))) (refused : Bool) → refused ≡ list_any (list_any is_err) replies
    → (if refused then statuses.Refused else statuses.Done) ≡ status_of (outcomes_in replies)
status_is replies refused is =
    let told : Bool → Status = λ b. if b then statuses.Refused else statuses.Done in
    ap told (is ∙ sym (refusals_in replies))
    ∙ sym (ap (λ (b : Bool). if b then statuses.Fault else told (list_any is_refusal (outcomes_in replies))) (no_fault_in replies))

-- ---- numbers in place of commands

numbered_replies : (thread : List Numbered) (replies : List (Result Reply Refusal))
    → numbered_text (map (λ (asked : Numbered). asked.number) thread) replies ≡ replies_text thread replies
numbered_replies [] replies = refl
numbered_replies (asked ∷ thread) [] = refl
numbered_replies (asked ∷ thread) (reply ∷ replies) =
    ap (λ (text : List ℕ). rendered asked.number (outcome_of reply) ++ text) (numbered_replies thread replies)

-- what is written by the numbers is what is written for the threads
pub numbered_is : (first : ℕ) (threads : List (List Numbered)) (replies : List (List (Result Reply Refusal)))
    → numbered_threads first (map (map (λ (asked : Numbered). asked.number)) threads) replies ≡ threads_text first threads replies
numbered_is first [] replies = refl
numbered_is first (thread ∷ threads) [] = refl
numbered_is first (thread ∷ threads) (own ∷ replies) =
    ap (λ (text : List ℕ). thread_line first ++ text ++ numbered_threads (first + 1) (map (map (λ (asked : Numbered). asked.number)) threads) replies) (numbered_replies thread own)
    ∙ ap (λ (text : List ℕ). thread_line first ++ replies_text thread own ++ text) (numbered_is (first + 1) threads replies)

-- ---- what became of numbered commands

numbers_told : (numbers : List ℕ) (replies : List (Result Reply Refusal)) → length numbers ≡ length replies
    → map (λ (one : OutcomeAt). one.number) (numbered_outcomes numbers replies) ≡ numbers
numbers_told [] replies same = refl
numbers_told (number ∷ numbers) [] same = absurd (omega (arith, same))
numbers_told (number ∷ numbers) (reply ∷ replies) same = ap (λ (ns : List ℕ). number ∷ ns) (numbers_told numbers replies (omega (arith, same)))

outcomes_told : (numbers : List ℕ) (replies : List (Result Reply Refusal)) → length numbers ≡ length replies
    → map (λ (one : OutcomeAt). Some one.outcome) (numbered_outcomes numbers replies) ≡ map (λ (reply : Result Reply Refusal). Some (outcome_of reply)) replies
outcomes_told [] [] same = refl
outcomes_told [] (reply ∷ replies) same = absurd (omega (arith, same))
outcomes_told (number ∷ numbers) [] same = absurd (omega (arith, same))
outcomes_told (number ∷ numbers) (reply ∷ replies) same =
    ap (λ (os : List (Option Outcome)). Some (outcome_of reply) ∷ os) (outcomes_told numbers replies (omega (arith, same)))

-- what is told by the numbers is what became of the threads' commands
pub are_outcomes : (threads : List (List Numbered)) (replies : List (List (Result Reply Refusal))) → AreNumbered (map (map (λ (asked : Numbered). asked.number)) threads) replies
    → AreOutcomesOf threads (outcomes_in replies) (outcomes_of_threads (map (map (λ (asked : Numbered). asked.number)) threads) replies)
are_outcomes [] [] same = record { numbers = refl; outcomes = refl }
are_outcomes [] (own ∷ replies) same = absurd (let h = ap (λ (ns : List ℕ). length ns) same in cc)
are_outcomes (thread ∷ threads) [] same = absurd (let h = ap (λ (ns : List ℕ). length ns) same in cc)
are_outcomes (thread ∷ threads) (own ∷ replies) same =
    let numbers : List ℕ = map (λ (asked : Numbered). asked.number) thread in
    let first : length numbers ≡ length own = cc in
    let others = are_outcomes threads replies cc in
    let more = outcomes_of_threads (map (map (λ (asked : Numbered). asked.number)) threads) replies in
    record {
      numbers = map-append (λ (one : OutcomeAt). one.number) (numbered_outcomes numbers own) more
          ∙ ap (λ (ns : List ℕ). ns ++ map (λ (one : OutcomeAt). one.number) more) (numbers_told numbers own first)
          ∙ ap (λ (ns : List ℕ). numbers ++ ns) others.numbers;
      outcomes = map-append (λ (one : OutcomeAt). Some one.outcome) (numbered_outcomes numbers own) more
          ∙ ap (λ (os : List (Option Outcome)). os ++ map (λ (one : OutcomeAt). Some one.outcome) more) (outcomes_told numbers own first)
          ∙ ap (λ (os : List (Option Outcome)). map (λ (reply : Result Reply Refusal). Some (outcome_of reply)) own ++ os) others.outcomes;
    }
