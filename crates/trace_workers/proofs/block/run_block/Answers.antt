use Rattle.std.proofs.Common.{◌≡◌, IfOk, IfErr, List, Option, Some, vec_len, subst}
use Rattle.std.specs.List.{AllZip}
use Rattle.ticket_lock.specs.Calls.{view_of}
use Rattle.trace_command.specs.Commands.{Command}
use Rattle.trace_workers.specs.BlockRuns.{trails_of, Begins, IsAfterBlock}
use Rattle.trace_workers.specs.Gates.{LetsAllPass, LetsBegunPass, StopsOne}
use Rattle.tracer_specification.specs.Blocks.{Trail}
use Rattle.trace_workers.specs.Ends.{EndAs, reported}
use Rattle.trace_workers.specs.declared.fault.BlockFault.{BlockFault}
use Rattle.trace_workers.specs.declared.fault.BlockFault.TheVariants.{Stopped}
use Rattle.trace_workers.proofs.Blocking.{parts_same}
use Rattle.trace_workers.proofs.block.run_block.Goals as goal

-- what was asked are the commands themselves
pub returns-clause-done : goal.returns-clause-done
returns-clause-done g c =
    subst
    (λ (parts : List (List Command)). IfOk c.run_block_of.result.1 (λ done. (vec_len done ≡ vec_len c.args.parts)
    × IsAfterBlock (view_of c.args.root) (view_of c.run_block_of.result.0) (trails_of parts done.items)))
    (parts_same c.args.parts.items) c.run_block_of.ensures.done

pub returns-clause-gate : goal.returns-clause-gate
returns-clause-gate g c =
    subst (λ (parts : List (List Command)). IfOk c.run_block_of.result.1 (λ done. LetsAllPass (g.G.Gate.may_answer c.args.gate.now) parts))
    (parts_same c.args.parts.items) c.run_block_of.ensures.gate

pub returns-clause-stopped : goal.returns-clause-stopped
returns-clause-stopped g c =
    subst (λ (parts : List (List Command)). IfErr c.run_block_of.result.1 (λ fault. fault ≡ Stopped → StopsOne (g.G.Gate.may_answer c.args.gate.now) parts))
    (parts_same c.args.parts.items) c.run_block_of.ensures.stopped

pub returns-clause-fault : goal.returns-clause-fault
returns-clause-fault g c =
    let may = g.G.Gate.may_answer c.args.gate.now in
    subst
    (λ (parts : List (List Command)). IfErr c.run_block_of.result.1 (λ fault. (trails : List Trail) × AllZip Begins parts trails
    × IsAfterBlock (view_of c.args.root) (view_of c.run_block_of.result.0) trails × LetsBegunPass may trails
    × (ends : List (Option BlockFault)) × (Some fault ≡ reported ends) × EndAs may 0 parts trails ends))
    (parts_same c.args.parts.items) c.run_block_of.ensures.fault
