-- A book's answers are those of a tracer with no history, but where its history is full.
use Rattle.std.proofs.Common.{◌≡◌, ◌≢◌, ℕ, ◌<◌, ◌≤◌, Bool, true, false, nat_lt, List, [], ◌∷◌, ◌++◌, length, reverse, IsOk, Result, Ok, Err, refl, ap, ◌∙◌, subst, sym, arith, append_assoc, ltb-true}
use Rattle.std.proofs.lemmas.Bool.{lt-ltb}
use Rattle.std.proofs.lemmas.List.{reverse-append}
use Rattle.trace_command.specs.Configs.{IsInRange}
use Rattle.trace_command.specs.Requests.{Request, request_of}
use Rattle.trace_command.specs.declared.command.Config.{Config}
use Rattle.trace_command.specs.declared.command.Entry.{Entry}
use Rattle.trace_command.specs.declared.command.Reply.{Reply}
use Rattle.trace_command.specs.declared.refusal.Refusal.{Refusal}
use Rattle.trace_command.specs.declared.refusal.Refusal.TheVariants.{HistoryFull}
use Rattle.tracer_specification.specs.History.{answer, answer_with_room, past_of, unless_full, IsLegal, IsLegalNewestFirst}
use Rattle.tracer_specification.proofs.LegalEvents.{done-legal}
use Rattle.tracer.specs.LiveLaws.{LegalHistoriesWereDone, HistoriesAreAnsweredAlike, RefusalsAreAlike, LimitsAreAlike}
use Rattle.tracer.specs.Lives.{limited_answer, most_done}

-- a book's limit is one like any other
pub book-answer : (g : Config) (past : List Request) (request : Request) → answer g past request ≡ limited_answer g.history_limit g past request
unfolding answer limited_answer
book-answer g past request = refl

-- a higher limit makes no difference but where the history is full
answers-alike : (limit : ℕ) (g : Config) (past : List Request) (request : Request) → g.history_limit ≤ limit → answer g past request ≢ Err HistoryFull
    → limited_answer limit g past request ≡ answer g past request
unfolding answer limited_answer
answers-alike limit g past request above other = by (answer_with_room g past request) other
  where
    by : (r : Result Reply Refusal) → unless_full g.history_limit (length past) r ≢ Err HistoryFull
        → unless_full limit (length past) r ≡ unless_full g.history_limit (length past) r
    by (Err refusal) differs = refl
    by (Ok reply) differs = by_room (nat_lt (length past) g.history_limit) refl
      where
        by_room : (room : Bool) → nat_lt (length past) g.history_limit ≡ room
            → unless_full limit (length past) (Ok reply) ≡ unless_full g.history_limit (length past) (Ok reply)
        by_room true is =
            let few : length past < g.history_limit = ltb-true (length past) g.history_limit is in
            let room : length past < limit = omega arith in
            rw (is, lt-ltb (length past) limit room) refl
        by_room false is = absurd (differs (rw is refl))

pub limits_are_alike : LimitsAreAlike
limits_are_alike g entries command = sym (book-answer g (past_of entries) (request_of command))

few_in_range : (g : Config) → IsInRange g → g.history_limit ≤ most_done
few_in_range g range = omega (arith, range.few_entries)

pub refusals_are_alike : RefusalsAreAlike
refusals_are_alike g entries command range other = answers-alike most_done g (past_of entries) _ (few_in_range g range) other

pub legal_histories_were_done : LegalHistoriesWereDone
unfolding IsLegal past_of
legal_histories_were_done g entries legal = done-legal g (reverse entries) legal

-- a legal history without its newest entries
without-newest : (g : Config) (newest entries : List Entry) → IsLegalNewestFirst g (newest ++ entries) → IsLegalNewestFirst g entries
without-newest g [] entries legal = legal
without-newest g (entry ∷ newest) entries legal = without-newest g newest entries legal.3

newest-first : (before after : List Entry) (entry : Entry) → reverse (before ++ entry ∷ after) ≡ reverse after ++ entry ∷ reverse before
newest-first before after entry =
    reverse-append before (entry ∷ after) ∙ ap (λ (l : List Entry). l ++ reverse before) (reverse-append (entry ∷ []) after)
    ∙ append_assoc (reverse after) (entry ∷ []) (reverse before)

-- each of its entries was done
done-there : (g : Config) (before after : List Entry) (entry : Entry) → IsLegal g (before ++ entry ∷ after)
    → IsOk (answer g (past_of before) (request_of entry.command))
unfolding IsLegal past_of
done-there g before after entry legal =
    (without-newest g (reverse after) (entry ∷ reverse before) (subst (IsLegalNewestFirst g) (newest-first before after entry) legal)).2

done-differs : (r : Result Reply Refusal) → IsOk r → r ≢ Err HistoryFull
done-differs (Ok reply) done = λ same. cc
done-differs (Err refusal) done = absurd (cc)

pub histories_are_answered_alike : HistoriesAreAnsweredAlike
histories_are_answered_alike g before after entry range legal =
    answers-alike most_done g (past_of before) (request_of entry.command) (few_in_range g range)
    (done-differs _ (done-there g before after entry legal))
