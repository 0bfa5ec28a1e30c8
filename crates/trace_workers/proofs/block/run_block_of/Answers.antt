use Rattle.std.proofs.Common.{◌≡◌, ◌∙◌, map, length, List, sym, arith, rules, vec_len, Option, None, ◌+◌, ◌<◌}
use Rattle.std.proofs.lemmas.List.{length-map}
use Rattle.ticket_lock.specs.Calls.{view_of}
use Rattle.trace_workers.specs.Ends.{EndAs, reported}
use Rattle.trace_workers.specs.declared.fault.BlockFault.{BlockFault}
use Rattle.trace_workers.specs.Gates.{LetsBegunPass}
use Rattle.trace_workers.specs.BlockRuns.{commands_of}
use Rattle.trace_workers.specs.PartRuns.{begun_trails, HasRun, AreWhole, SeesCallers}
use Rattle.trace_command.specs.Commands.{Command}
use Rattle.trace_workers.proofs.Blocking.{not_begun, comes, whole_begun, begun_begins}
use Rattle.trace_workers.proofs.block.run_block_of.Goals as goal

pub returns-in_default-clause-fault : goal.returns-in_default-clause-fault
returns-in_default-clause-fault g c =
    let parts = commands_of g.C.Asked.command c.args.parts.items in
    let many : length parts ≡ length c.args.parts.items = length-map c.args.parts.items (λ part. map g.C.Asked.command part.items) in
    let some : 0 < vec_len c.args.parts = search rules in
    not_begun (view_of c.args.root) parts (g.G.Gate.may_answer c.args.gate.now) c.requires.names (omega (arith, many, some, c.args.parts.ok.0))

-- all parts ran
pub returns-in-None-clause-done : goal.returns-in-None-clause-done
returns-in-None-clause-done g c =
    let v = view_of c.args.root in
    let ended = c.scoped-ended.result in
    let w = view_of ended.pass in
    let parts : List (List Command) = commands_of g.C.Asked.command c.args.parts.items in
    let runs : HasRun v w (begun_trails parts ended.done.items) = search rules in
    let callers : SeesCallers v w = search rules in
    let all : ended.fault ≡ None → AreWhole parts ended.done.items = search rules in
    let many : vec_len ended.done ≡ vec_len c.in-Ok.done + vec_len c.args.parts = search rules in
    let none : vec_len c.in-Ok.done ≡ 0 = search rules in (
      omega (arith, many, none),
      rw (← whole_begun parts ended.done.items (all c.in-None.is)) (comes v w (begun_trails parts ended.done.items) c.requires.names callers ended.pass.bounded runs),
    )

-- some stopped
pub returns-clause-fault : goal.returns-clause-fault
returns-clause-fault g c =
    let v = view_of c.args.root in
    let ended = c.scoped-ended.result in
    let w = view_of ended.pass in
    let parts : List (List Command) = commands_of g.C.Asked.command c.args.parts.items in
    let runs : HasRun v w (begun_trails parts ended.done.items) = search rules in
    let callers : SeesCallers v w = search rules in
    let many : length ended.done.items ≡ length c.args.parts.items = search rules in
    let passed : LetsBegunPass (g.G.Gate.may_answer c.args.gate.now) (begun_trails parts ended.done.items) = search rules in
    let ends : (ends : List (Option BlockFault)) × (ended.fault ≡ reported ends)
    × EndAs (g.G.Gate.may_answer c.args.gate.now) 0 parts (begun_trails parts ended.done.items) ends = search rules in (
      begun_trails parts ended.done.items,
      begun_begins parts ended.done.items (many ∙ sym (length-map c.args.parts.items (λ part. map g.C.Asked.command part.items))),
      comes v w (begun_trails parts ended.done.items) c.requires.names callers ended.pass.bounded runs,
      passed,
      ends.0,
      sym c.in-Some.is ∙ ends.1,
      ends.2,
    )
