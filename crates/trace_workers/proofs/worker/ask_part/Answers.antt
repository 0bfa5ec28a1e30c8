use Rattle.std.proofs.Common.{◌≡◌, ◌∷◌, ◌++◌, [], map, length, vec_len, None, Some, refl, sym, ap, ◌∙◌, append_assoc, arith, rules, List}
use Rattle.std.proofs.lemmas.List.{map-append}
use Rattle.std.specs.Vec.Iter.{into_iter_items}
use Rattle.ticket_lock.specs.Calls.{view_of}
use Rattle.trace_workers.specs.PartRuns.{HasAsked, IsGated}
use Rattle.trace_command.specs.Commands.{Command}
use Rattle.trace_workers.proofs.Gating.{gated_none, gated_more}
use Rattle.trace_workers.proofs.Working.{asked_none, asked_then, asked_stop}
use Rattle.trace_workers.proofs.worker.ask_part.Goals as goal

pub loop-command-init : goal.loop-command-init
loop-command-init g c =
    let v = view_of c.args.worker.pass in (
      search rules,
      search rules,
      c.requires.of,
      c.requires.named,
      search rules,
      search rules,
      rw c.requires.empty (asked_none v [] None c.requires.named (λ e. refl)),
      rw c.requires.empty (gated_none (g.G.Gate.may_answer c.args.env.now.gate.now c.args.thread) [] None (λ e. absurd cc)),
    )

-- what is asked is what was asked so far, this one and the rest
items_cut : {C : Type 0} (all yielded rest : List C) (one : C) (more : List C) → all ≡ yielded ++ rest → rest ≡ one ∷ more
    → all ≡ (yielded ++ one ∷ []) ++ more
items_cut {C} all yielded rest one more whole next =
    whole ∙ ap (λ (xs : List C). yielded ++ xs) next ∙ sym (append_assoc yielded (one ∷ []) more)

-- and so are the commands
cut : {C : Type 0} (command : C → Command) (all yielded rest : List C) (one : C) (more : List C) → all ≡ yielded ++ rest → rest ≡ one ∷ more
    → map command all ≡ (map command yielded ++ command one ∷ []) ++ map command more
cut {C} command all yielded rest one more whole next =
    ap (λ (xs : List C). map command xs) (items_cut all yielded rest one more whole next)
    ∙ map-append command (yielded ++ one ∷ []) more
    ∙ ap (λ (cs : List Command). cs ++ map command more) (map-append command yielded (one ∷ []))

-- the rest was not asked
pub returns-in-Some-fault-clause-asked : goal.returns-in-Some-fault-clause-asked
returns-in-Some-fault-clause-asked g c =
    let l = c.loop-command in
    let turn = c.take_turn-next in
    let v = view_of c.args.worker.pass in
    let w = view_of l.mine.pass in
    let x = view_of turn.result.0.pass in
    let command = g.C.Asked.command in
    let asked = map command l.yielded ++ command c.in-Some.command ∷ [] in
    let rest = map command (into_iter_items c.next.new.self) in
    let whole : map command c.args.commands.items ≡ asked ++ rest =
    cut command c.args.commands.items l.yielded (into_iter_items l.command-iterator) c.in-Some.command (into_iter_items c.next.new.self) l.invariant.5 c.in-Some.ensures.steps.0 in
    let answers = turn.ensures.asked.0 in
    let one : HasAsked w x (command c.in-Some.command ∷ []) answers (Some c.in-Some-fault.fault) =
    rw c.in-Some-fault.is at turn.ensures.asked.2 in
    let all : HasAsked v x asked (l.mine.replies.items ++ answers) (Some c.in-Some-fault.fault) =
    asked_then v w x (map command l.yielded) (command c.in-Some.command ∷ []) l.mine.replies.items answers (Some c.in-Some-fault.fault) l.invariant.6 one in
    rw (whole, turn.ensures.asked.1) (asked_stop v x asked rest (l.mine.replies.items ++ answers) c.in-Some-fault.fault all)

-- and the gate was not asked for it
pub returns-in-Some-fault-clause-gate : goal.returns-in-Some-fault-clause-gate
returns-in-Some-fault-clause-gate g c =
    let l = c.loop-command in
    let turn = c.take_turn-next in
    let may = g.G.Gate.may_answer c.args.env.now.gate.now c.args.thread in
    let command = g.C.Asked.command in
    let asked = map command l.yielded ++ command c.in-Some.command ∷ [] in
    let rest = map command (into_iter_items c.next.new.self) in
    let whole : map command c.args.commands.items ≡ asked ++ rest =
    cut command c.args.commands.items l.yielded (into_iter_items l.command-iterator) c.in-Some.command (into_iter_items c.next.new.self) l.invariant.5 c.in-Some.ensures.steps.0 in
    let so_far : length l.mine.replies.items ≡ length (map command l.yielded) = l.invariant.6.whole refl in
    let same : length (map command l.yielded) ≡ vec_len l.mine.replies = omega (arith, so_far, l.mine.replies.ok.0) in
    let gated : IsGated may asked turn.result.0.replies.items (Some c.in-Some-fault.fault) =
    rw c.in-Some-fault.is at (turn.ensures.gate (map command l.yielded) same l.invariant.7) in
    rw whole (gated_more may asked rest turn.result.0.replies.items (Some c.in-Some-fault.fault) gated)

pub loop-command-preserved : goal.loop-command-preserved
loop-command-preserved g c =
    let l = c.loop-command in
    let turn = c.take_turn-next in
    let v = view_of c.args.worker.pass in
    let w = view_of l.mine.pass in
    let x = view_of turn.result.0.pass in
    let command = g.C.Asked.command in
    let rest = into_iter_items c.next.new.self in
    let mapped : map command (l.yielded ++ c.in-Some.command ∷ []) ≡ map command l.yielded ++ command c.in-Some.command ∷ [] =
    map-append command l.yielded (c.in-Some.command ∷ []) in
    let whole : c.args.commands.items ≡ (l.yielded ++ c.in-Some.command ∷ []) ++ rest =
    items_cut c.args.commands.items l.yielded (into_iter_items l.command-iterator) c.in-Some.command (into_iter_items c.next.new.self) l.invariant.5 c.in-Some.ensures.steps.0 in
    let answers = turn.ensures.asked.0 in
    let one : HasAsked w x (command c.in-Some.command ∷ []) answers None = rw c.in_default.is at turn.ensures.asked.2 in
    let so_far : length l.mine.replies.items ≡ length (map command l.yielded) = l.invariant.6.whole refl in
    let same : length (map command l.yielded) ≡ vec_len l.mine.replies = omega (arith, so_far, l.mine.replies.ok.0) in
    let grown = turn.ensures.len c.in_default.is in (
      search rules,
      search rules,
      turn.ensures.of,
      rw (one.run.goes_on.low, one.run.goes_on.end) l.invariant.3,
      omega (arith, grown, turn.ensures.capacity, l.invariant.4, c.in-Some.ensures.steps.1),
      whole,
      rw (turn.ensures.asked.1, mapped) (asked_then v w x (map command l.yielded) (command c.in-Some.command ∷ []) l.mine.replies.items answers None l.invariant.6 one),
      rw mapped (rw c.in_default.is at (turn.ensures.gate (map command l.yielded) same l.invariant.7)),
    )
