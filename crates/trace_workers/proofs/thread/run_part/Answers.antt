use Rattle.std.proofs.Common.{◌≡◌, [], Some, map, rules}
use Rattle.ticket_lock.specs.Calls.{view_of}
use Rattle.trace_workers.specs.declared.fault.BlockFault.TheVariants.{Stopped}
use Rattle.trace_workers.proofs.Gating.{gated_none}
use Rattle.trace_workers.proofs.Working.{asked_none}
use Rattle.trace_workers.proofs.thread.run_part.Goals as goal

-- no command ran
pub returns-in-Err-clause-asked : goal.returns-in-Err-clause-asked
returns-in-Err-clause-asked g c =
    let none : c.new-replies.result.items ≡ [] = search rules in
    rw none
    (asked_none (view_of c.args.pass) (map g.C.Asked.command c.args.commands.items) (Some c.in-Err.fault) c.requires.named (λ e. absurd cc))

pub returns-in-Err-clause-gate : goal.returns-in-Err-clause-gate
returns-in-Err-clause-gate g c =
    let none : c.new-replies.result.items ≡ [] = search rules in
    rw none
    (gated_none (g.G.Gate.may_answer c.args.env.now.gate.now c.args.thread) (map g.C.Asked.command c.args.commands.items) (Some c.in-Err.fault)
    (λ e. let same : c.in-Err.fault ≡ Stopped = cc in absurd (c.in-Err.ensures.fault same)))
