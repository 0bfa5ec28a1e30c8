-- One thread after another: what each is answered, and the trails of all of them.
use Rattle.std.proofs.Common.{◌≡◌, ◌≢◌, ℕ, zero, suc, ◌+◌, ◌≤◌, ◌<◌, ◌^◌, List, [], ◌∷◌, ◌++◌, length, map, get_or, All, Any, AllPairs, Result, Ok, Err, refl, sym, ap, subst, ◌∙◌, append_assoc, append-nil, arith}
use Rattle.std.proofs.lemmas.List.Elements.{All-nil, All-cons, All-append, All-weaker}
use Rattle.std.proofs.lemmas.List.Kept.{AllPairs-cons}
use Rattle.trace_command.specs.Configs.{IsInRange}
use Rattle.trace_command.specs.Commands.{Command}
use Rattle.trace_command.specs.declared.command.Config.{Config}
use Rattle.trace_command.specs.declared.command.Entry.{Entry}
use Rattle.trace_command.specs.declared.command.Reply.{Reply}
use Rattle.trace_command.specs.declared.refusal.Refusal.{Refusal}
use Rattle.trace_command.specs.declared.refusal.Refusal.TheVariants.{Worn}
use Rattle.tracer_specification.proofs.Trailing.{trail-grows, trail-later}
use Rattle.tracer_specification.proofs.Unworn.{worn_is_no_answer}
use Rattle.tracer_specification.specs.Blocks.{Trail, IsUnworn, StandsIn}
use Rattle.tracer_specification.specs.History.{answer_to}
use Rattle.tracer_specification.specs.Trails.{IsTrail}
use Rattle.trace_session.specs.Sessions.{Progress}
use Rattle.session_laws.proofs.FitCommands.{AreFit, AllFit}
use Rattle.session_laws.proofs.ReadyHistories.{IsReady, entry_by, after_one, is_done, ready_after}

abbrev Answer : Type 0
Answer = Result Reply Refusal

-- ---- one thread

-- a caller asked these commands, and nobody else asked any
pub record HasRunAlone (g : Config) (items by : ℕ) (before : Progress) (commands : List Command) : Type 0 where
  pub after : Progress
  pub since : List Entry
  pub entries : after.entries ≡ before.entries ++ since
  pub asked : before.asked ≤ after.asked
  pub replies : List Answer
  pub trail : IsTrail g by before.entries since commands replies
  pub own : All (λ (entry : Entry). entry.by ≡ by) since
  pub unworn : IsUnworn replies
  pub ready : IsReady g items after

-- ---- threads

-- callers, numbered from the first on, asked the commands of these threads one after another
pub record HaveRun (g : Config) (items first : ℕ) (before : Progress) (threads : List (List Command)) : Type 0 where
  pub after : Progress
  pub since : List Entry
  pub entries : after.entries ≡ before.entries ++ since
  pub asked : before.asked ≤ after.asked
  pub trails : List Trail
  pub commands : map (λ (trail : Trail). trail.commands) trails ≡ threads
  pub each : All (StandsIn g before.entries since) trails
  pub numbered : All (λ (trail : Trail). first ≤ trail.by) trails
  pub distinct : AllPairs (λ (one other : Trail). one.by ≢ other.by) trails
  pub callers : All (λ (entry : Entry). Any (λ (trail : Trail). trail.by ≡ entry.by) trails) since
  pub later : All (λ (entry : Entry). first ≤ entry.by) since
  pub unworn : All IsUnworn (map (λ (trail : Trail). trail.replies) trails)
  pub ready : IsReady g items after

-- ---- they run

-- no command of theirs stands before
at_once : (g : Config) (by : ℕ) (entries since : List Entry) (commands : List Command) (replies : List Answer)
    → IsTrail g by entries since commands replies → IsTrail g by (entries ++ []) since commands replies
at_once g by entries since commands replies = subst (λ (es : List Entry). IsTrail g by es since commands replies) (sym (append-nil entries))

unworn_cons : (reply : Answer) (replies : List Answer) → reply ≢ Err Worn → IsUnworn replies → IsUnworn (reply ∷ replies)
unworn_cons reply replies = All-cons (λ (reply : Answer). reply ≢ Err Worn) reply replies

module _ (g : Config) (items : ℕ) (range : IsInRange g) (some_left : items < 2 ^ 63 + 2) where
  module _ (by : ℕ) (caller : by < 2 ^ 32) where
    after_done : (before : Progress) (command : Command) (commands : List Command) (reply : Reply) → answer_to g before.entries command ≡ Ok reply
        → HasRunAlone g items by (after_one before by command) commands → HasRunAlone g items by before (command ∷ commands)
    after_done before command commands reply is rest =
        let entry = entry_by before by command in
        let nobody : before.entries ≡ before.entries ++ [] = sym (append-nil before.entries) in record {
          after = rest.after;
          since = entry ∷ rest.since;
          entries = rest.entries ∙ append_assoc before.entries (entry ∷ []) rest.since;
          asked = omega (arith, rest.asked);
          replies = Ok reply ∷ rest.replies;
          trail = (
            [],
            entry,
            rest.since,
            refl,
            All-nil (λ (entry : Entry). entry.by ≢ by),
            record {
              answer = subst (λ (es : List Entry). answer_to g es command ≡ Ok reply) nobody is;
              of_caller = refl;
              of_command = refl;
            },
            subst (λ (es : List Entry). IsTrail g by (es ++ entry ∷ []) rest.since commands rest.replies) nobody rest.trail,
          );
          own = All-cons (λ (entry : Entry). entry.by ≡ by) entry rest.since refl rest.own;
          unworn = unworn_cons (Ok reply) rest.replies (λ same. cc) rest.unworn;
          ready = rest.ready;
        }

    after_refused : (before : Progress) (command : Command) (commands : List Command) (refusal : Refusal) → answer_to g before.entries command ≡ Err refusal
        → HasRunAlone g items by before commands → HasRunAlone g items by before (command ∷ commands)
    after_refused before command commands refusal is rest =
        let nobody : before.entries ≡ before.entries ++ [] = sym (append-nil before.entries) in record {
          after = rest.after;
          since = rest.since;
          entries = rest.entries;
          asked = rest.asked;
          replies = Err refusal ∷ rest.replies;
          trail = (
            [],
            rest.since,
            refl,
            All-nil (λ (entry : Entry). entry.by ≢ by),
            λ not. subst (λ (es : List Entry). answer_to g es command ≡ Err refusal) nobody is,
            at_once g by before.entries rest.since commands rest.replies rest.trail,
          );
          own = rest.own;
          unworn = unworn_cons (Err refusal) rest.replies (λ same. worn_is_no_answer g before.entries command (is ∙ same)) rest.unworn;
          ready = rest.ready;
        }

    after_either : (before : Progress) (command : Command) (commands : List Command) (answered : Answer) → answer_to g before.entries command ≡ answered
        → ((reply : Reply) → answer_to g before.entries command ≡ Ok reply → HasRunAlone g items by (after_one before by command) commands)
        → HasRunAlone g items by before commands → HasRunAlone g items by before (command ∷ commands)
    after_either before command commands (Ok reply) is done refused = after_done before command commands reply is (done reply is)
    after_either before command commands (Err refusal) is done refused = after_refused before command commands refusal is refused

    pub runs_alone : (commands : List Command) (before : Progress) → AreFit commands → IsReady g items before → HasRunAlone g items by before commands
    runs_alone [] before fit ready = record {
      after = before;
      since = [];
      entries = sym (append-nil before.entries);
      asked = omega arith;
      replies = [];
      trail = All-nil (λ (entry : Entry). entry.by ≢ by);
      own = All-nil (λ (entry : Entry). entry.by ≡ by);
      unworn = All-nil (λ (reply : Answer). reply ≢ Err Worn);
      ready = ready;
    }
    runs_alone (command ∷ commands) before fit ready =
        after_either before command commands (answer_to g before.entries command) refl
        (λ reply is. runs_alone commands (after_one before by command) fit.1
        (ready_after g items range some_left before by command ready caller fit.0 (is_done (answer_to g before.entries command) reply is)))
        (runs_alone commands before fit.1 ready)

  nothing_runs : (first : ℕ) (before : Progress) → IsReady g items before → HaveRun g items first before []
  nothing_runs first before ready = record {
    after = before;
    since = [];
    entries = sym (append-nil before.entries);
    asked = omega arith;
    trails = [];
    commands = refl;
    each = All-nil (StandsIn g before.entries []);
    numbered = All-nil (λ (trail : Trail). first ≤ trail.by);
    distinct = λ i j d before within. absurd (omega (arith, within));
    callers = All-nil (λ (entry : Entry). Any (λ (trail : Trail). trail.by ≡ entry.by) []);
    later = All-nil (λ (entry : Entry). first ≤ entry.by);
    unworn = All-nil IsUnworn;
    ready = ready;
  }

  -- a thread more, before the others
  first_runs : (first : ℕ) (before : Progress) (commands : List Command) (threads : List (List Command)) (one : HasRunAlone g items first before commands)
      → HaveRun g items (first + 1) one.after threads → HaveRun g items first before (commands ∷ threads)
  first_runs first before commands threads one rest =
      let trail : Trail = record { by = first; commands = commands; replies = one.replies } in
      let since = one.since ++ rest.since in
      let Later : ℕ → Entry → Type 0 = λ least entry. least ≤ entry.by in
      let LaterTrail : ℕ → Trail → Type 0 = λ least trail. least ≤ trail.by in
      let IsOf : Trail → Entry → Type 0 = λ trail entry. trail.by ≡ entry.by in
      record {
        after = rest.after;
        since = since;
        entries = rest.entries ∙ ap (λ (es : List Entry). es ++ rest.since) one.entries ∙ append_assoc before.entries one.since rest.since;
        asked = omega (arith, one.asked, rest.asked);
        trails = trail ∷ rest.trails;
        commands = ap (λ (cs : List (List Command)). commands ∷ cs) rest.commands;
        each = All-cons (StandsIn g before.entries since) trail rest.trails
            (trail-grows g first before.entries one.since rest.since commands one.replies
            (All-weaker (Later (first + 1)) (λ entry. entry.by ≢ first) (λ entry later same. omega (arith, later, same)) rest.since rest.later) one.trail)
            (λ k d within. let other = get_or rest.trails k d in
            trail-later g other.by before.entries one.since rest.since other.commands other.replies
            (All-weaker (λ entry. entry.by ≡ first) (λ entry. entry.by ≢ other.by)
            (λ entry own same. let least : first + 1 ≤ other.by = rest.numbered k d within in omega (arith, own, same, least)) one.since one.own)
            (subst (λ (es : List Entry). IsTrail g other.by es rest.since other.commands other.replies) one.entries (rest.each k d within)));
        numbered = All-cons (LaterTrail first) trail rest.trails (omega arith)
            (All-weaker (LaterTrail (first + 1)) (LaterTrail first) (λ trail later. omega (arith, later)) rest.trails rest.numbered);
        distinct = AllPairs-cons (λ (one other : Trail). one.by ≢ other.by) trail rest.trails
            (All-weaker (LaterTrail (first + 1)) (λ other. first ≢ other.by) (λ other later same. omega (arith, later, same)) rest.trails rest.numbered) rest.distinct;
        callers = All-append (λ (entry : Entry). Any (λ (trail : Trail). trail.by ≡ entry.by) (trail ∷ rest.trails)) one.since rest.since
            (All-weaker (λ entry. entry.by ≡ first) (λ entry. Any (λ (trail : Trail). trail.by ≡ entry.by) (trail ∷ rest.trails))
            (λ entry own. (zero, trail, omega arith, refl, sym own)) one.since one.own)
            (All-weaker (λ entry. Any (λ (trail : Trail). trail.by ≡ entry.by) rest.trails) (λ entry. Any (λ (trail : Trail). trail.by ≡ entry.by) (trail ∷ rest.trails))
            (λ entry there. (suc there.0, there.1, omega (arith, there.2), there.3, there.4)) rest.since rest.callers);
        later = All-append (Later first) one.since rest.since
            (All-weaker (λ entry. entry.by ≡ first) (Later first) (λ entry own. omega (arith, own)) one.since one.own)
            (All-weaker (Later (first + 1)) (Later first) (λ entry later. omega (arith, later)) rest.since rest.later);
        unworn = All-cons IsUnworn one.replies (map (λ (trail : Trail). trail.replies) rest.trails) one.unworn rest.unworn;
        ready = rest.ready;
      }

  pub run_in_turn : (threads : List (List Command)) (first : ℕ) (before : Progress) → first + length threads ≤ 2 ^ 32 → AllFit threads
      → IsReady g items before → HaveRun g items first before threads
  run_in_turn [] first before few fit ready = nothing_runs first before ready
  run_in_turn (commands ∷ threads) first before few fit ready =
      let one = runs_alone first (omega (arith, few)) commands before fit.0 ready in
      first_runs first before commands threads one (run_in_turn threads (first + 1) one.after (omega (arith, few)) fit.1 one.ready)
