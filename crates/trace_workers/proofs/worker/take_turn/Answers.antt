use Rattle.std.proofs.Common.{◌≡◌, ◌≢◌, ◌∷◌, [], length, Err, sym, subst, append-nil, arith}
use Rattle.ticket_lock.specs.Calls.{view_of}
use Rattle.trace_workers.specs.declared.fault.BlockFault.TheVariants as faults
use Rattle.trace_workers.specs.declared.gate.Point.TheVariants.{Asking, Answered}
use Rattle.trace_command.specs.declared.refusal.Refusal.TheVariants.{Memory}
use Rattle.trace_workers.proofs.Gating.{gated_before, gated_memory, gated_after, gated_stop}
use Rattle.trace_workers.proofs.Working.{asked_none, asked_answered, asked_refused_memory, is_not_memory, is_memory}
use Rattle.trace_workers.proofs.worker.take_turn.Goals as goal
use Rattle.trace_workers.proofs.worker.take_turn.Goals.{then-goes_on, else-goes_on}

-- nothing was asked
pub returns-then-not-arrive-clause-asked : goal.returns-then-not-arrive-clause-asked
returns-then-not-arrive-clause-asked g c =
    ([], sym (append-nil c.args.worker.replies.items), asked_none (view_of c.args.worker.pass) (g.C.Asked.command c.args.command ∷ []) _ c.requires.named (λ e. absurd cc))

-- the call took its turn for nothing
pub returns-then-is_memory-clause-asked : goal.returns-then-is_memory-clause-asked
returns-then-is_memory-clause-asked g c =
    let asked = c.ask_in-pass in
    let memory : asked.result.1 ≡ Err Memory = is_memory c.is_memory.result asked.result.1 c.is_memory.ensures c.if-is_memory.true in (
      [],
      sym (append-nil c.args.worker.replies.items),
      asked_refused_memory (view_of c.args.worker.pass) (view_of asked.result.0) (g.C.Asked.command c.args.command) asked.result.1 faults.Memory c.requires.named memory
          asked.ensures.goes_on asked.ensures.memory asked.ensures.legal,
    )

-- it was answered
pub returns-clause-asked : goal.returns-clause-asked
returns-clause-asked g c =
    let asked = c.ask_in-pass in
    let known : asked.result.1 ≢ Err Memory = is_not_memory c.is_memory.result asked.result.1 c.is_memory.ensures c.if-is_memory.false in (
      asked.result.1 ∷ [],
      c.push_reserved.ensures.items,
      asked_answered (view_of c.args.worker.pass) (view_of asked.result.0) (g.C.Asked.command c.args.command) asked.result.1 c.if-goes_on.fault c.requires.named known
          asked.ensures.goes_on asked.ensures.done asked.ensures.refused asked.ensures.legal,
    )

-- the gate did not let it be asked
pub returns-then-not-arrive-clause-gate : goal.returns-then-not-arrive-clause-gate
returns-then-not-arrive-clause-gate g c asked same before =
    let may = g.G.Gate.may_answer c.args.env.now.gate.now c.args.thread in
    let call = c.len-call.result in
    let replies = c.args.worker.replies in
    let is : length replies.items ≡ call = omega (arith, c.len-call.ensures, replies.ok.0) in
    gated_before may asked replies.items (g.C.Asked.command c.args.command) call (omega (arith, same, replies.ok.0)) is
    (subst (may call Asking) c.if-not-arrive.true c.arrive.ensures.named) before

-- memory was refused to it
pub returns-then-is_memory-clause-gate : goal.returns-then-is_memory-clause-gate
returns-then-is_memory-clause-gate g c asked same before =
    gated_memory (g.G.Gate.may_answer c.args.env.now.gate.now c.args.thread) asked c.args.worker.replies.items (g.C.Asked.command c.args.command)
    (omega (arith, same, c.args.worker.replies.ok.0)) before

-- it was answered, and the gate was asked again
pub returns-clause-gate : goal.returns-clause-gate
returns-clause-gate g c asked same before =
    let may = g.G.Gate.may_answer c.args.env.now.gate.now c.args.thread in
    let call = c.len-call.result in
    let replies = c.args.worker.replies in
    let all = c.push_reserved.new.self.items in
    let answer = c.ask_in-pass.result.1 in
    let is : length replies.items ≡ call = omega (arith, c.len-call.ensures, replies.ok.0) in
    let first = subst (may call Asking) c.if-not-arrive.false c.arrive.ensures.named in
    elim c.if-goes_on.branch [
      | then-goes_on w ↦
          rw w.fault-is
          (gated_after may asked replies.items all (g.C.Asked.command c.args.command) answer call c.push_reserved.ensures.items is first
          (subst (may call Answered) w.if-goes_on.true c.arrive-goes_on.ensures.named) before)
      | else-goes_on w ↦
          rw w.fault-is
          (gated_stop may asked replies.items all (g.C.Asked.command c.args.command) answer call c.push_reserved.ensures.items (omega (arith, same, replies.ok.0)) is first
          (subst (may call Answered) w.if-goes_on.false c.arrive-goes_on.ensures.named) before)
    ]
