-- An item runs after any history that is ready for it, and after one with the same commands it gives the same.
use Rattle.std.proofs.Common.{◌≡◌, ℕ, ◌+◌, ◌<◌, ◌^◌, List, length, map, Some, Result, Ok, Err, refl, sym, ap, subst, ◌∙◌, arith}
use Rattle.std.proofs.lemmas.List.{length-map}
use Rattle.trace_command.specs.Configs.{IsInRange}
use Rattle.trace_command.specs.Requests.{Request, request_of, FitsItsTypes}
use Rattle.trace_command.specs.Commands.{Command}
use Rattle.trace_command.specs.declared.command.Config.{Config}
use Rattle.trace_command.specs.declared.command.Reply.{Reply}
use Rattle.trace_command.specs.declared.refusal.Refusal.{Refusal}
use Rattle.tracer_specification.specs.Blocks.{Trail}
use Rattle.tracer_specification.specs.History.{IsLegal, answer, answer_to}
use Rattle.script_reader.specs.FewThreads.{HasFewThreads}
use Rattle.script_reader.specs.Items.{Item, Single, Threads, Faulty}
use Rattle.script_reader.specs.declared.part.Numbered.{Numbered}
use Rattle.trace_script.specs.Lines.{line_of}
use Rattle.trace_script.specs.declared.fault.ScriptFault.{ScriptFault}
use Rattle.trace_script.specs.declared.line.Line.{Line}
use Rattle.trace_script.specs.declared.line.Line.TheVariants.{Blank, Ask, Parallel, Thread, End}
use Rattle.trace_script.specs.declared.outcome.Outcome.TheVariants as outcomes
use Rattle.trace_session.specs.Parts.{Given, given_by, MayGive, PartMayGive, outcomes_in, threads_text}
use Rattle.trace_session.specs.Sessions.{Progress, Turn, entry_of, answered, taken, turn_of}
use Rattle.session_laws.proofs.FitCommands.{IsFit, asked_fits}
use Rattle.session_laws.proofs.LoneThreads.{run_in_turn}
use Rattle.session_laws.proofs.ReadyHistories.{IsReady, Follows, is_done, ready_after, ready_asked, ready_more, same_push}
use Rattle.session_laws.proofs.Renumbering.{part_follows}

abbrev Answer : Type 0
Answer = Result Reply Refusal

-- two turns say the same, and lead to histories with the same commands
abbrev AreAlike : Config → ℕ → Turn → Turn → Type 0
AreAlike g items one other = (one.outcome ≡ other.outcome) × Follows g items one.progress other.progress

-- a thing that an item gives after one history, it gives after the other
abbrev pub GivesAgain : Config → ℕ → Item → Progress → Progress → Given → Type 0
GivesAgain g items item after now given = (next : Progress) × MayGive g item now next given × Follows g (items + 1) after next

pub follows_more : (g : Config) (items : ℕ) (given now : Progress) → Follows g items given now → Follows g (items + 1) given now
follows_more g items given now follows = record { same = follows.same; ready = ready_more g items now follows.ready }

pub follows_itself : (g : Config) (items : ℕ) (now : Progress) → IsReady g items now → Follows g items now now
follows_itself g items now ready = record { same = refl; ready = ready }

module _ (g : Config) (items : ℕ) (range : IsInRange g) (some_left : items < 2 ^ 63 + 2) where
  -- ---- lines

  module _ (before now : Progress) (follows : Follows g items before now) where
    still : Follows g (items + 1) before now
    still = follows_more g items before now follows

    command_alike : (command : Command) → FitsItsTypes (request_of command) → (reply : Answer) → answer_to g now.entries command ≡ reply
        → AreAlike g (items + 1) (answered before command reply) (answered now command reply)
    command_alike command fits (Ok reply) is = (
      refl,
      record {
        same = same_push before.entries now.entries (entry_of before command) (entry_of now command) follows.same refl;
        ready = ready_more g items (answered now command (Ok reply)).progress
            (ready_after g items range some_left now 0 command follows.ready (omega arith) fits (is_done (answer_to g now.entries command) reply is));
      },
    )
    command_alike command fits (Err refusal) is = (refl, record { same = follows.same; ready = ready_asked g items now follows.ready })

    line_alike : (read : Result Line ScriptFault) → ((command : Command) → read ≡ Ok (Ask command) → FitsItsTypes (request_of command))
        → AreAlike g (items + 1) (taken g before read) (taken g now read)
    line_alike (Ok Blank) fit = (refl, still)
    line_alike (Ok (Ask command)) fit =
        let same : answer_to g now.entries command ≡ answer_to g before.entries command =
        sym (ap (λ (past : List Request). answer g past (request_of command)) follows.same) in
        subst (λ (reply : Answer). AreAlike g (items + 1) (answered before command reply) (answered now command (answer_to g now.entries command))) same
        (command_alike command (fit command refl) (answer_to g now.entries command) refl)
    line_alike (Ok Parallel) fit = (refl, still)
    line_alike (Ok Thread) fit = (refl, still)
    line_alike (Ok End) fit = (refl, still)
    line_alike (Err fault) fit = (refl, still)

    turns_alike : (line : List ℕ) → AreAlike g (items + 1) (turn_of g before line) (turn_of g now line)
    unfolding turn_of
    turns_alike line = line_alike (line_of line) (asked_fits line)

  -- ---- items that gave something

  pub gives_again : (item : Item) (before after now : Progress) (given : Given) → Follows g items before now → MayGive g item before after given
      → GivesAgain g items item after now given
  gives_again (Single number line) before after now given follows (is, to) =
      let alike = turns_alike before now follows line in (
        (turn_of g now line).progress,
        (is ∙ ap (given_by number) alike.0, refl),
        subst (λ (p : Progress). Follows g (items + 1) p (turn_of g now line).progress) (sym to) alike.1,
      )
  gives_again (Threads threads) before after now given follows gave =
      let again = part_follows g items range some_left threads before after now given follows gave in
      (again.0, again.1, follows_more g items after again.0 again.2)
  gives_again (Faulty at) before after now given follows (is, to) =
      (now, (is, refl), subst (λ (p : Progress). Follows g (items + 1) p now) (sym to) (follows_more g items before now follows))

  -- ---- items that give something

  pub part_runs : (threads : List (List Numbered)) (now : Progress) → IsFit (Threads threads) → HasFewThreads (Threads threads) → IsReady g items now
      → (next : Progress) × (given : Given) × PartMayGive g threads now next given × IsReady g items next
  part_runs threads now fit few ready =
      let commands = map (map (λ (asked : Numbered). asked.command)) threads in
      let count : length commands ≡ length threads = length-map threads (map (λ (asked : Numbered). asked.command)) in
      let ran = run_in_turn g items range some_left commands 0 now (omega (arith, count, few)) fit ready in
      let replies = map (λ (trail : Trail). trail.replies) ran.trails in (
        ran.after,
        record { text = threads_text 0 threads replies; outcomes = outcomes_in replies },
        record {
          since = ran.since;
          entries = ran.entries;
          replies = replies;
          done = record {
            trails = ran.trails;
            commands = ran.commands;
            replied = refl;
            block = record {
              each = ran.each;
              distinct = ran.distinct;
              callers = ran.callers;
              legal = subst (IsLegal g) ran.entries ran.ready.legal;
            };
            unworn = ran.unworn;
          };
          asked = ran.asked;
          tickets = ran.ready.below;
          text = refl;
          outcomes = refl;
        },
        ran.ready,
      )

  pub item_runs : (item : Item) (now : Progress) → IsFit item → HasFewThreads item → IsReady g items now
      → (next : Progress) × (given : Given) × MayGive g item now next given × IsReady g (items + 1) next
  item_runs (Single number line) now fit few ready =
      let alike = turns_alike now now (follows_itself g items now ready) line in
      ((turn_of g now line).progress, given_by number (turn_of g now line).outcome, (refl, refl), alike.1.ready)
  item_runs (Threads threads) now fit few ready =
      let ran = part_runs threads now fit few ready in
      (ran.0, ran.1, ran.2, ready_more g items ran.0 ran.3)
  item_runs (Faulty at) now fit few ready =
      (now, given_by at.number (Some (outcomes.Fault at.fault)), (refl, refl), ready_more g items now ready)
