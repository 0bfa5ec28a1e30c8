-- Lines that are done one after another.
use Rattle.std.proofs.Common.{◌≡◌, inl, inr, ℕ, ◌+◌, ◌≤◌, suc, List, [], ◌∷◌, ◌++◌, length, Ok, Err, sym, ap, subst, ◌∙◌, append_assoc, length-append, arith}
use Rattle.std.specs.List.{AllByRecursion}
use Rattle.trace_command.specs.Requests.{Request}
use Rattle.trace_command.specs.declared.command.Reply.{Reply as Answer}
use Rattle.mount_replies.proofs.AnswerLemmas.{may-line}
use Rattle.mount_replies.specs.Mounted.{IsLineRun, IsRun, MayAnswer, MayRun}
use Rattle.mount_replies.specs.Services.{Terms}
use Rattle.mount_replies.specs.Steps.{Asking, AsksFor, AsksNothing, IsTooLong, IsWrongLine, LineAsked, Ran}

-- ---- what holds after each command holds after a run

-- what is asked for a line is such a request, if it is one
abbrev pub OnlyAsks : (Request → Type 0) → Asking → Type 0
OnlyAsks Q (AsksFor request) = Q request
OnlyAsks Q _ = Unit {0}

abbrev pub AllAsk : (Request → Type 0) → List LineAsked → Type 0
AllAsk Q lines = AllByRecursion (λ (line : LineAsked). OnlyAsks Q line.asking) lines

any-asking : (asking : Asking) → OnlyAsks (λ request. Unit {0}) asking
any-asking AsksNothing = tt
any-asking IsWrongLine = tt
any-asking IsTooLong = tt
any-asking (AsksFor request) = tt

pub any-lines : (lines : List LineAsked) → AllAsk (λ request. Unit {0}) lines
any-lines [] = tt
any-lines (line ∷ lines) = (any-asking line.asking, any-lines lines)

-- such a request that is done leaves it so
abbrev pub IsLeft : Terms → (List Request → Type 0) → (Request → Type 0) → Type 0
IsLeft g P Q =
    (now : List Request) (request : Request) (answer : Answer) → P now → Q request → MayAnswer g now request (Ok answer) → P (request ∷ now)

run-keeps : (g : Terms) (P : List Request → Type 0) (Q : Request → Type 0) → IsLeft g P Q → (past : List Request) (done : ℕ) (lines : List LineAsked) (ran : Ran)
    → AllAsk Q lines → P past → IsRun g past done lines ran → P ran.past
run-keeps g P Q left past done [] ran asks holds is = subst (λ (r : Ran). P r.past) (sym is) holds
run-keeps g P Q left past done (line ∷ lines) ran asks holds is =
    by line.asking asks.0 (λ now. run-keeps g P Q left now line.end lines ran asks.1) is
  where
    by : (asking : Asking) → OnlyAsks Q asking → ((now : List Request) → P now → IsRun g now line.end lines ran → P ran.past)
        → IsLineRun g past done line.text (λ (now : List Request). IsRun g now line.end lines ran) ran asking → P ran.past
    by AsksNothing only rest runs = rest past holds runs
    by IsWrongLine only rest (inl stops) = subst (λ (r : Ran). P r.past) (sym stops) holds
    by IsWrongLine only rest (inr stops) = subst (λ (r : Ran). P r.past) (sym stops) holds
    by IsTooLong only rest (inl stops) = subst (λ (r : Ran). P r.past) (sym stops) holds
    by IsTooLong only rest (inr stops) = subst (λ (r : Ran). P r.past) (sym stops) holds
    by (AsksFor request) only rest (Ok answer, answered, runs) = rest (request ∷ past) (left past request answer holds only (may-line g past request (Ok answer) answered)) runs
    by (AsksFor request) only rest (Err refusal, answered, runs) = subst (λ (r : Ran). P r.past) (sym runs) holds

pub lines-keep : (g : Terms) (P : List Request → Type 0) (Q : Request → Type 0) → IsLeft g P Q → (past : List Request) (lines : List LineAsked) (ran : Ran)
    → AllAsk Q lines → P past → MayRun g past lines ran → P ran.past
lines-keep g P Q left past lines ran asks holds (inl runs) = run-keeps g P Q left past 0 lines ran asks holds runs
lines-keep g P Q left past lines ran asks holds (inr stops) = subst (λ (r : Ran). P r.past) (sym stops.0) holds

-- ---- how many commands it does

-- no more than so many were done after these
pub record Adds (past now : List Request) (most : ℕ) : Type 0 where
  pub done : List Request
  pub is : now ≡ done ++ past
  pub few : length done ≤ most

pub adds-none : (past now : List Request) (most : ℕ) → now ≡ past → Adds past now most
adds-none past now most is = record { done = []; is = is; few = omega arith }

adds-after : (past now : List Request) (request : Request) (most : ℕ) → Adds (request ∷ past) now most → Adds past now (suc most)
adds-after past now request most adds =
    let few = adds.few in
    let long : length (adds.done ++ request ∷ []) ≡ length adds.done + 1 = length-append adds.done (request ∷ []) in record {
      done = adds.done ++ request ∷ [];
      is = adds.is ∙ sym (append_assoc adds.done (request ∷ []) past);
      few = omega (arith, few, long);
    }

adds-more : (past now : List Request) (most : ℕ) → Adds past now most → Adds past now (suc most)
adds-more past now most adds = let few = adds.few in record { done = adds.done; is = adds.is; few = omega (arith, few) }

run-adds : (g : Terms) (past : List Request) (done : ℕ) (lines : List LineAsked) (ran : Ran) → IsRun g past done lines ran → Adds past ran.past (length lines)
run-adds g past done [] ran is = adds-none past ran.past 0 (ap (λ (r : Ran). r.past) is)
run-adds g past done (line ∷ lines) ran is = by line.asking (λ now. run-adds g now line.end lines ran) is
  where
    stopped : ran.past ≡ past → Adds past ran.past (suc (length lines))
    stopped same = adds-none past ran.past (suc (length lines)) same

    by : (asking : Asking) → ((now : List Request) → IsRun g now line.end lines ran → Adds now ran.past (length lines))
        → IsLineRun g past done line.text (λ (now : List Request). IsRun g now line.end lines ran) ran asking → Adds past ran.past (suc (length lines))
    by AsksNothing rest runs = adds-more past ran.past (length lines) (rest past runs)
    by IsWrongLine rest (inl stops) = stopped (ap (λ (r : Ran). r.past) stops)
    by IsWrongLine rest (inr stops) = stopped (ap (λ (r : Ran). r.past) stops)
    by IsTooLong rest (inl stops) = stopped (ap (λ (r : Ran). r.past) stops)
    by IsTooLong rest (inr stops) = stopped (ap (λ (r : Ran). r.past) stops)
    by (AsksFor request) rest (Ok answer, answered, runs) = adds-after past ran.past request (length lines) (rest (request ∷ past) runs)
    by (AsksFor request) rest (Err refusal, answered, runs) = stopped (ap (λ (r : Ran). r.past) runs)

pub lines-add : (g : Terms) (past : List Request) (lines : List LineAsked) (ran : Ran) → MayRun g past lines ran → Adds past ran.past (length lines)
lines-add g past lines ran (inl runs) = run-adds g past 0 lines ran runs
lines-add g past lines ran (inr stops) = adds-none past ran.past (length lines) (ap (λ (r : Ran). r.past) stops.0)
