-- What was asked of a history, over one with the same commands whose tickets are others: the answers are the same. So a part that ran can run after
-- any history with the same commands, with the next tickets there are.
use Rattle.std.proofs.Common.{◌≡◌, ◌≢◌, ℕ, ◌+◌, ◌<◌, ◌^◌, List, [], ◌∷◌, ◌++◌, length, All, Any, Result, Ok, Err, IsOk, refl, sym, ap, subst, ◌∙◌, append_assoc, append-nil, reverse, arith}
use Rattle.std.proofs.lemmas.List.{reverse-append}
use Rattle.std.proofs.lemmas.List.Elements.{All-nil, All-cons, All-head, All-tail, All-weaker}
use Rattle.trace_command.specs.Configs.{IsInRange}
use Rattle.trace_command.specs.Requests.{Request, request_of}
use Rattle.trace_command.specs.Commands.{Command}
use Rattle.trace_command.specs.declared.command.Config.{Config}
use Rattle.trace_command.specs.declared.command.Entry.{Entry}
use Rattle.trace_command.specs.declared.command.Reply.{Reply}
use Rattle.trace_command.specs.declared.refusal.Refusal.{Refusal}
use Rattle.tracer_specification.specs.Blocks.{Trail, StandsIn}
use Rattle.tracer_specification.specs.History.{IsEntry, IsLegal, IsLegalNewestFirst, answer, answer_to, past_of}
use Rattle.tracer_specification.specs.Trails.{IsTrail}
use Rattle.trace_session.specs.Parts.{Given, PartMayGive}
use Rattle.trace_session.specs.Sessions.{Progress, so_far}
use Rattle.script_reader.specs.declared.part.Numbered.{Numbered}
use Rattle.session_laws.proofs.ReadyHistories.{IsReady, Follows, entry_by, after_one, ready_after, same_push}

abbrev Answer : Type 0
Answer = Result Reply Refusal

-- with this ticket
abbrev numbered : ℕ → Entry → Entry
numbered ticket entry = record { ticket = ticket; by = entry.by; command = entry.command }

-- with tickets from this one on
abbrev pub renumbered : ℕ → List Entry → List Entry
renumbered ticket [] = []
renumbered ticket (entry ∷ entries) = numbered ticket entry ∷ renumbered (ticket + 1) entries

pub renumbered-append : (ticket : ℕ) (xs ys : List Entry) → renumbered ticket (xs ++ ys) ≡ renumbered ticket xs ++ renumbered (ticket + length xs) ys
renumbered-append ticket [] ys = ap (λ (t : ℕ). renumbered t ys) (omega arith)
renumbered-append ticket (entry ∷ xs) ys =
    let next : ticket + 1 + length xs ≡ ticket + length (entry ∷ xs) = omega arith in
    ap (λ (es : List Entry). numbered ticket entry ∷ es)
    (renumbered-append (ticket + 1) xs ys ∙ ap (λ (t : ℕ). renumbered (ticket + 1) xs ++ renumbered t ys) next)

-- what holds of the callers of entries
pub callers_same : (P : ℕ → Type 0) (ticket : ℕ) (entries : List Entry) → All (λ (entry : Entry). P entry.by) entries
    → All (λ (entry : Entry). P entry.by) (renumbered ticket entries)
callers_same P ticket [] all = All-nil (λ (entry : Entry). P entry.by)
callers_same P ticket (entry ∷ entries) all =
    let Q : Entry → Type 0 = λ entry. P entry.by in
    All-cons Q (numbered ticket entry) (renumbered (ticket + 1) entries) (All-head Q entry entries all)
    (callers_same P (ticket + 1) entries (All-tail Q entry entries all))

pub same_after : (given now : List Entry) (ticket : ℕ) (since : List Entry) → past_of given ≡ past_of now
    → past_of (given ++ since) ≡ past_of (now ++ renumbered ticket since)
same_after given now ticket [] same = ap past_of (append-nil given) ∙ same ∙ ap past_of (sym (append-nil now))
same_after given now ticket (entry ∷ since) same =
    ap past_of (sym (append_assoc given (entry ∷ []) since))
    ∙ same_after (given ++ entry ∷ []) (now ++ numbered ticket entry ∷ []) (ticket + 1) since (same_push given now entry (numbered ticket entry) same refl)
    ∙ ap past_of (append_assoc now (numbered ticket entry ∷ []) (renumbered (ticket + 1) since))

-- ---- trails

module _ (g : Config) where
  same_answer : (given now : List Entry) (command : Command) (reply : Answer) → past_of given ≡ past_of now → answer_to g given command ≡ reply
      → answer_to g now command ≡ reply
  same_answer given now command reply same is = ap (λ (past : List Request). answer g past (request_of command)) (sym same) ∙ is

  pub trail_renumbered : (by : ℕ) (given now after : List Entry) (ticket : ℕ) (commands : List Command) (replies : List Answer)
      → past_of given ≡ past_of now → IsTrail g by given after commands replies → IsTrail g by now (renumbered ticket after) commands replies
  trail_renumbered by given now after ticket [] [] same trail = callers_same (λ (caller : ℕ). caller ≢ by) ticket after trail
  trail_renumbered by given now after ticket [] (reply ∷ replies) same trail = absurd trail
  trail_renumbered by given now after ticket (command ∷ commands) [] same trail = absurd trail
  trail_renumbered by given now after ticket (command ∷ commands) (Ok reply ∷ replies) same (others, entry, later, cut, idle, done, trail) =
      let own = ticket + length others in
      let same' : past_of (given ++ others) ≡ past_of (now ++ renumbered ticket others) = same_after given now ticket others same in (
        renumbered ticket others,
        numbered own entry,
        renumbered (own + 1) later,
        ap (renumbered ticket) cut ∙ renumbered-append ticket others (entry ∷ later),
        callers_same (λ (caller : ℕ). caller ≢ by) ticket others idle,
        record {
          answer = same_answer (given ++ others) (now ++ renumbered ticket others) command (Ok reply) same' done.answer;
          of_caller = done.of_caller;
          of_command = done.of_command;
        },
        trail_renumbered by (given ++ others ++ entry ∷ []) (now ++ renumbered ticket others ++ numbered own entry ∷ []) later (own + 1) commands replies
            (same_push (given ++ others) (now ++ renumbered ticket others) entry (numbered own entry) same' refl) trail,
      )
  trail_renumbered by given now after ticket (command ∷ commands) (Err refusal ∷ replies) same (others, later, cut, idle, refused, trail) =
      let same' : past_of (given ++ others) ≡ past_of (now ++ renumbered ticket others) = same_after given now ticket others same in (
        renumbered ticket others,
        renumbered (ticket + length others) later,
        ap (renumbered ticket) cut ∙ renumbered-append ticket others later,
        callers_same (λ (caller : ℕ). caller ≢ by) ticket others idle,
        λ not. same_answer (given ++ others) (now ++ renumbered ticket others) command (Err refusal) same' (refused not),
        trail_renumbered by (given ++ others) (now ++ renumbered ticket others) later (ticket + length others) commands replies same' trail,
      )

-- ---- legal histories

without_newest : (g : Config) (newest entries : List Entry) → IsLegalNewestFirst g (newest ++ entries) → IsLegalNewestFirst g entries
without_newest g [] entries legal = legal
without_newest g (entry ∷ newest) entries legal = without_newest g newest entries legal.3

newest_first : (before after : List Entry) (entry : Entry) → reverse (before ++ entry ∷ after) ≡ reverse after ++ entry ∷ reverse before
newest_first before after entry =
    reverse-append before (entry ∷ after) ∙ ap (λ (l : List Entry). l ++ reverse before) (reverse-append (entry ∷ []) after)
    ∙ append_assoc (reverse after) (entry ∷ []) (reverse before)

-- each entry of a legal history was done, and its numbers fit
legal_there : (g : Config) (before after : List Entry) (entry : Entry) → IsLegal g (before ++ entry ∷ after)
    → IsEntry entry × IsOk (answer_to g before entry.command)
unfolding IsLegal past_of
legal_there g before after entry legal =
    let there = without_newest g (reverse after) (entry ∷ reverse before) (subst (IsLegalNewestFirst g) (newest_first before after entry) legal) in
    (there.0, there.2)

-- where a history went on, so can one with the same commands
module _ (g : Config) (items : ℕ) (range : IsInRange g) (some_left : items < 2 ^ 63 + 2) where
  pub ready_since : (since given : List Entry) (now : Progress) → past_of given ≡ past_of now.entries → IsLegal g (given ++ since) → IsReady g items now
      → IsReady g items (so_far (now.entries ++ renumbered now.asked since) (now.asked + length since))
  ready_since [] given now same legal ready =
      let none : now.asked ≡ now.asked + 0 = omega arith in
      subst (λ (es : List Entry). IsReady g items (so_far es (now.asked + 0))) (sym (append-nil now.entries))
      (subst (λ (n : ℕ). IsReady g items (so_far now.entries n)) none ready)
  ready_since (entry ∷ since) given now same legal ready =
      let there = legal_there g given since entry legal in
      let next : Progress = after_one now entry.by entry.command in
      let done : IsOk (answer_to g now.entries entry.command) =
      subst (λ (past : List Request). IsOk (answer g past (request_of entry.command))) same there.1 in
      let ready' : IsReady g items next = ready_after g items range some_left now entry.by entry.command ready there.0.1 there.0.2 done in
      let all = ready_since since (given ++ entry ∷ []) next (same_push given now.entries entry (entry_by now entry.by entry.command) same refl)
      (subst (IsLegal g) (sym (append_assoc given (entry ∷ []) since)) legal) ready' in
      let count : now.asked + 1 + length since ≡ now.asked + length (entry ∷ since) = omega arith in
      subst (λ (es : List Entry). IsReady g items (so_far es (now.asked + length (entry ∷ since))))
      (append_assoc now.entries (entry_by now entry.by entry.command ∷ []) (renumbered (now.asked + 1) since))
      (subst (λ (n : ℕ). IsReady g items (so_far (next.entries ++ renumbered next.asked since) n)) count all)

  -- so a part that ran can run after it, and give the same
  pub part_follows : (threads : List (List Numbered)) (before after now : Progress) (given : Given) → Follows g items before now
      → PartMayGive g threads before after given
      → (next : Progress) × PartMayGive g threads now next given × Follows g items after next
  part_follows threads before after now given follows ran =
      let block = ran.done.block in
      let since = renumbered now.asked ran.since in
      let next : Progress = so_far (now.entries ++ since) (now.asked + length ran.since) in
      let ready : IsReady g items next = ready_since ran.since before.entries now follows.same block.legal follows.ready in (
        next,
        record {
          since = since;
          entries = refl;
          replies = ran.replies;
          done = record {
            trails = ran.done.trails;
            commands = ran.done.commands;
            replied = ran.done.replied;
            block = record {
              each = All-weaker (StandsIn g before.entries ran.since) (StandsIn g now.entries since)
                  (λ trail stands. trail_renumbered g trail.by before.entries now.entries ran.since now.asked trail.commands trail.replies follows.same stands) ran.done.trails block.each;
              distinct = block.distinct;
              callers = callers_same (λ (caller : ℕ). Any (λ (trail : Trail). trail.by ≡ caller) ran.done.trails) now.asked ran.since block.callers;
              legal = ready.legal;
            };
            unworn = ran.done.unworn;
          };
          asked = omega arith;
          tickets = ready.below;
          text = ran.text;
          outcomes = ran.outcomes;
        },
        record {
          same = ap past_of ran.entries ∙ same_after before.entries now.entries now.asked ran.since follows.same;
          ready = ready;
        },
      )
