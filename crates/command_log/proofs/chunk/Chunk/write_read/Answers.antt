use Rattle.std.proofs.Common.{◌<◌, ◌^◌, arith, Some, None}
use Rattle.std.proofs.lemmas.Result.{on_ok_weaker}
use Rattle.trace_command.specs.declared.command.CommandOf.TheVariants.{Read}
use Rattle.trace_command.specs.declared.command.Entry.{Entry}
use Rattle.command_log.proofs.WrittenEntries.{entry_written}
use Rattle.command_log.proofs.chunk.Chunk.write_read.Goals as goal

pub returns-in-None-clause-entry : goal.returns-in-None-clause-entry
returns-in-None-clause-entry c =
    let entry : Entry = record { ticket = c.args.ticket; by = c.args.by; command = Read c.args.path.now None } in
    rw c.in-None.is
    (on_ok_weaker c.write_path.result (λ e. entry_written entry c.write_path.new.self.ahead e c.ranges.ticket.fits c.ranges.by.fits c.write_path.ensures.short) c.write_path.ensures.ahead)

pub returns-in-Some-clause-entry : goal.returns-in-Some-clause-entry
returns-in-Some-clause-entry c =
    let limit = c.in-Some.limit in
    let entry : Entry = record { ticket = c.args.ticket; by = c.args.by; command = Read c.args.path.now (Some limit) } in
    let fits : limit < 2 ^ 64 = omega arith in
    rw c.in-Some.is
    (on_ok_weaker c.write_path-in-Some.result (λ e. entry_written entry c.write_path-in-Some.new.self.ahead e c.ranges.ticket.fits c.ranges.by.fits (c.write_path-in-Some.ensures.short, fits)) c.write_path-in-Some.ensures.ahead)
