use Rattle.std.proofs.Common.{◌≡◌, ℕ, Vec, List, length, ap, subst, ◌∙◌, arith}
use Rattle.std.specs.declared.alloc.Global.{Global}
use Rattle.ticket_lock.specs.Calls.{view_of}
use Rattle.trace_command.specs.Commands.{Command}
use Rattle.script_reader.specs.PartReads.{commands_in}
use Rattle.parallel_output.specs.ThreadTexts.{told_if}
use Rattle.trace_session.specs.PartTexts.{items_in, numbered_threads, outcomes_of_threads, replies_in}
use Rattle.trace_workers.specs.Gates.{LetsAllPass}
use Rattle.trace_session.proofs.PartRunning.{numbers_of_lines, of_threads, block_numbered, may_give}
use Rattle.trace_session.proofs.part_run.run_part.Goals as goal

-- there is a number for each reply
pub write_threads-requires : goal.write_threads-requires
write_threads-requires g c =
    let v = view_of c.args.pass in
    let w = view_of c.run_block_of-pass.result.0 in
    let threads = commands_in c.args.threads.items in
    let commands = c.in-Ok.lines.items in
    let done = c.in-Ok-replied.done.items in
    let came = rw c.in-Ok-replied.is at c.run_block_of-pass.ensures.done in
    let same : length done ≡ length commands = omega (arith, came.0) in
    let after = of_threads v w threads commands done c.in-Ok.ensures.commands same came.1 in
    rw (c.deref.ensures.value, c.in-Ok.ensures.numbers)
    (block_numbered c.requires.session.0 v w threads done c.requires.session.1 after.0 after.1)

-- what was written is what the part may give
pub returns-in-Ok-write_threads-clause-given : goal.returns-in-Ok-write_threads-clause-given
returns-in-Ok-write_threads-clause-given g c config pass =
    let v = view_of c.args.pass in
    let w = view_of c.run_block_of-pass.result.0 in
    let threads = commands_in c.args.threads.items in
    let commands = c.in-Ok.lines.items in
    let done = c.in-Ok-replied.done.items in
    let came = rw c.in-Ok-replied.is at c.run_block_of-pass.ensures.done in
    let same : length done ≡ length commands = omega (arith, came.0) in
    let after = of_threads v w threads commands done c.in-Ok.ensures.commands same came.1 in
    let written = c.in-Ok-write_threads in
    let text : written.written.text.items ≡ numbered_threads 0 (numbers_of_lines threads) (replies_in done) =
    written.ensures.text ∙ ap (λ (own : List (Vec ℕ Global)). numbered_threads 0 (items_in own) (replies_in done)) c.deref.ensures.value
    ∙ ap (λ (numbers : List (List ℕ)). numbered_threads 0 numbers (replies_in done)) c.in-Ok.ensures.numbers in
    let outcomes : written.written.outcomes.items ≡ told_if c.args.is_told (outcomes_of_threads (numbers_of_lines threads) (replies_in done)) =
    written.ensures.outcomes ∙ ap (λ (own : List (Vec ℕ Global)). told_if c.args.is_told (outcomes_of_threads (items_in own) (replies_in done))) c.deref.ensures.value
    ∙ ap (λ (numbers : List (List ℕ)). told_if c.args.is_told (outcomes_of_threads numbers (replies_in done))) c.in-Ok.ensures.numbers in
    may_give config v w threads done written.written.text.items written.written.status c.args.is_told written.written.outcomes.items pass after.0 after.1 written.ensures.unworn text
    written.ensures.status outcomes

-- the gate was asked for the commands of the threads' lines
pub returns-in-Ok-write_threads-clause-gate : goal.returns-in-Ok-write_threads-clause-gate
returns-in-Ok-write_threads-clause-gate g c =
    let may = g.G.Gate.may_answer c.args.env.now.gate.now in
    subst (λ (asked : List (List Command)). LetsAllPass may asked) c.in-Ok.ensures.commands (rw c.in-Ok-replied.is at c.run_block_of-pass.ensures.gate)
