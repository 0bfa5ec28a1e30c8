-- What a block of parts comes to for a session.
use Rattle.std.proofs.Common.{◌≡◌, ℕ, Bool, Vec, List, [], ◌∷◌, ◌++◌, length, map, All, Result, Ok, Err, refl, sym, ap, subst, ◌∙◌, arith}
use Rattle.std.proofs.lemmas.List.{length-map}
use Rattle.std.proofs.lemmas.List.Elements.{All-head, All-tail}
use Rattle.std.specs.declared.alloc.Global.{Global}
use Rattle.shared_book.specs.Bases.{numbers_of}
use Rattle.ticket_lock.specs.declared.views.View.{View}
use Rattle.tracer_specification.specs.Blocks.{Trail, IsBlock, IsUnworn, StandsIn}
use Rattle.tracer_specification.specs.History.{IsLegal}
use Rattle.tracer_specification.specs.Trails.{IsTrail}
use Rattle.trace_command.specs.Commands.{Command}
use Rattle.trace_command.specs.declared.command.Config.{Config}
use Rattle.trace_command.specs.declared.command.Entry.{Entry}
use Rattle.trace_command.specs.declared.command.Reply.{Reply}
use Rattle.trace_command.specs.declared.refusal.Refusal.{Refusal}
use Rattle.script_reader.specs.declared.part.Numbered.{Numbered}
use Rattle.trace_session.specs.Parts.{Given, PartMayGive, outcomes_in}
use Rattle.trace_session.specs.declared.part_line.AskedLine.{AskedLine}
use Rattle.parallel_output.specs.ThreadTexts.{told_if}
use Rattle.trace_session.specs.PartTexts.{asked_command, numbered_threads, outcomes_of_threads, replies_in, AreNumbered, AreOutcomesOf}
use Rattle.trace_session.specs.Passes.{IsSessionPass, progress_of}
use Rattle.trace_session.specs.Sessions.{status_of}
use Rattle.parallel_output.specs.declared.outcome_at.OutcomeAt.{OutcomeAt}
use Rattle.trace_session.specs.declared.status.Status.{Status}
use Rattle.trace_session.proofs.PartWriting.{numbered_is, are_outcomes}
use Rattle.trace_workers.specs.BlockRuns.{trails_of, commands_of as commands_asked, IsAfterBlock}
use Rattle.trace_workers.specs.declared.part.Part.{Part}

-- what was done after a legal history is a block
is_block : (g : Config) (v w : View Entry) (trails : List Trail) (after : IsAfterBlock v w trails) → numbers_of g ≡ v.base → IsLegal g v.seen
    → IsBlock g v.seen after.after trails
is_block g v w trails after is legal = record {
  each = after.each g is;
  distinct = after.distinct;
  callers = after.callers g is;
  legal = after.legal g is legal;
}

abbrev Answer : Type 0
Answer = Result Reply Refusal

-- the commands of the threads
abbrev pub commands_of : List (List Numbered) → List (List Command)
commands_of threads = map (map (λ (asked : Numbered). asked.command)) threads

-- and the numbers of their lines
abbrev pub numbers_of_lines : List (List Numbered) → List (List ℕ)
numbers_of_lines threads = map (map (λ (asked : Numbered). asked.number)) threads

-- a trail has as many replies as commands
trail_is_whole : (g : Config) (by : ℕ) (before after : List Entry) (commands : List Command) (replies : List Answer)
    → IsTrail g by before after commands replies → length commands ≡ length replies
trail_is_whole g by before after [] [] trail = refl
trail_is_whole g by before after [] (reply ∷ replies) trail = absurd trail
trail_is_whole g by before after (command ∷ commands) [] trail = absurd trail
trail_is_whole g by before after (command ∷ commands) (Ok reply ∷ replies) (others, entry, later, cut, idle, done, trail) =
    omega (arith, trail_is_whole g by (before ++ others ++ entry ∷ []) later commands replies trail)
trail_is_whole g by before after (command ∷ commands) (Err refusal ∷ replies) (others, later, cut, idle, refused, trail) =
    omega (arith, trail_is_whole g by (before ++ others) later commands replies trail)

-- the parts of a block are as its threads
module _ (g : Config) (before after : List Entry) where
  pub are_numbered : (threads : List (List Numbered)) (done : List Part) → length done ≡ length threads
      → All (StandsIn g before after) (trails_of (commands_of threads) done) → AreNumbered (numbers_of_lines threads) (replies_in done)
  are_numbered [] [] same each = refl
  are_numbered [] (part ∷ done) same each = absurd (omega (arith, same))
  are_numbered (thread ∷ threads) [] same each = absurd (omega (arith, same))
  are_numbered (thread ∷ threads) (part ∷ done) same each =
      let P : Trail → Type 0 = StandsIn g before after in
      let trail : Trail = record { by = part.by; commands = map (λ (asked : Numbered). asked.command) thread; replies = part.replies.items } in
      let whole = trail_is_whole g part.by before after trail.commands part.replies.items (All-head P trail (trails_of (commands_of threads) done) each) in
      let first : length (map (λ (asked : Numbered). asked.number) thread) ≡ length part.replies.items =
      length-map thread (λ asked. asked.number) ∙ (sym (length-map thread (λ asked. asked.command)) ∙ whole) in
      let others = are_numbered threads done (omega (arith, same)) (All-tail P trail (trails_of (commands_of threads) done) each) in
      ap (λ (n : ℕ). n ∷ map (λ (own : List ℕ). length own) (numbers_of_lines threads)) first
      ∙ ap (λ (ns : List ℕ). length part.replies.items ∷ ns) others

trail_commands : (parts : List (List Command)) (done : List Part) → length done ≡ length parts
    → map (λ (trail : Trail). trail.commands) (trails_of parts done) ≡ parts
trail_commands [] [] same = refl
trail_commands [] (part ∷ done) same = absurd (omega (arith, same))
trail_commands (commands ∷ parts) [] same = absurd (omega (arith, same))
trail_commands (commands ∷ parts) (part ∷ done) same =
    ap (λ (cs : List (List Command)). commands ∷ cs) (trail_commands parts done (omega (arith, same)))

trail_replies : (parts : List (List Command)) (done : List Part) → length done ≡ length parts
    → map (λ (trail : Trail). trail.replies) (trails_of parts done) ≡ replies_in done
trail_replies [] [] same = refl
trail_replies [] (part ∷ done) same = absurd (omega (arith, same))
trail_replies (commands ∷ parts) [] same = absurd (omega (arith, same))
trail_replies (commands ∷ parts) (part ∷ done) same =
    ap (λ (rs : List (List Answer)). part.replies.items ∷ rs) (trail_replies parts done (omega (arith, same)))

-- a session's pass is one after a block, whatever that came to
pub pass_after : (g : Config) (v w : View Entry) (trails : List Trail) → IsSessionPass g v → IsAfterBlock v w trails → IsSessionPass g w
pass_after g v w trails pass after = record {
  names = after.names;
  base = pass.base ∙ sym after.base;
  legal = subst (λ (es : List Entry). IsLegal g es) (sym after.seen) (after.legal g pass.base pass.legal);
  below = after.ahead pass.below;
}

-- what a block of the threads' commands comes to
pub of_threads : (v w : View Entry) (threads : List (List Numbered)) (lines : List (Vec AskedLine Global)) (done : List Part)
    → commands_asked asked_command lines ≡ commands_of threads → length done ≡ length lines
    → IsAfterBlock v w (trails_of (commands_asked asked_command lines) done)
    → (length done ≡ length threads) × IsAfterBlock v w (trails_of (commands_of threads) done)
of_threads v w threads lines done is same after = (
  same ∙ sym (length-map lines (λ (own : Vec AskedLine Global). map asked_command own.items)) ∙ ap (λ (cs : List (List Command)). length cs) is
      ∙ length-map threads (map (λ (asked : Numbered). asked.command)),
  subst (λ (cs : List (List Command)). IsAfterBlock v w (trails_of cs done)) is after,
)

-- there is a number for each reply of a block
pub block_numbered : (g : Config) (v w : View Entry) (threads : List (List Numbered)) (done : List Part) → IsSessionPass g v → length done ≡ length threads
    → IsAfterBlock v w (trails_of (commands_of threads) done) → AreNumbered (numbers_of_lines threads) (replies_in done)
block_numbered g v w threads done pass same after =
    are_numbered g v.seen after.after threads done same (after.each g pass.base)

-- the part may give what was written for it
pub may_give : (g : Config) (v w : View Entry) (threads : List (List Numbered)) (done : List Part) (text : List ℕ) (status : Status) (is_told : Bool)
    (written_outcomes : List OutcomeAt)
    → IsSessionPass g v → length done ≡ length threads → IsAfterBlock v w (trails_of (commands_of threads) done) → All IsUnworn (replies_in done)
    → text ≡ numbered_threads 0 (numbers_of_lines threads) (replies_in done) → status ≡ status_of (outcomes_in (replies_in done))
    → written_outcomes ≡ told_if is_told (outcomes_of_threads (numbers_of_lines threads) (replies_in done))
    → (given : Given) × PartMayGive g threads (progress_of v) (progress_of w) given × (given.text ≡ text) × (status ≡ status_of given.outcomes)
    × (told : List OutcomeAt) × AreOutcomesOf threads given.outcomes told × (written_outcomes ≡ told_if is_told told)
may_give g v w threads done text status is_told written_outcomes pass same after unworn written ended became =
    let same' : length done ≡ length (commands_of threads) = same ∙ sym (length-map threads (map (λ asked. asked.command))) in (
      record { text = text; outcomes = outcomes_in (replies_in done) },
      record {
        since = after.after;
        entries = after.seen;
        replies = replies_in done;
        done = record {
          trails = trails_of (commands_of threads) done;
          commands = trail_commands (commands_of threads) done same';
          replied = trail_replies (commands_of threads) done same';
          block = is_block g v w (trails_of (commands_of threads) done) after pass.base pass.legal;
          unworn = unworn;
        };
        asked = after.front;
        tickets = after.ahead pass.below;
        text = written ∙ numbered_is 0 threads (replies_in done);
        outcomes = refl;
      },
      refl,
      ended,
      outcomes_of_threads (numbers_of_lines threads) (replies_in done),
      are_outcomes threads (replies_in done) (block_numbered g v w threads done pass same after),
      became,
    )
