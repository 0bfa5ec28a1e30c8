use Rattle.std.proofs.Common.{◌≡◌, true, false}
use Rattle.std.proofs.lemmas.Result.{on_ok_weaker}
use Rattle.trace_command.specs.declared.command.CommandOf.TheVariants.{Mkdir, Rmdir, Write}
use Rattle.trace_command.specs.declared.command.Entry.{Entry}
use Rattle.command_log.proofs.WrittenEntries.{entry_written}
use Rattle.command_log.proofs.chunk.Chunk.write_other_entry.Goals as goal

pub returns-in-Mkdir-clause-entry : goal.returns-in-Mkdir-clause-entry
returns-in-Mkdir-clause-entry c =
    let entry : Entry = record { ticket = c.args.ticket; by = c.args.by; command = Mkdir c.in-Mkdir.path } in
    let path = c.as_bytes.ensures in
    let written = rw path at c.write_path.ensures.ahead in
    let short = rw path at c.write_path.ensures.short in
    rw c.in-Mkdir.is (on_ok_weaker c.write_path.result (λ e. entry_written entry c.write_path.new.self.ahead e c.ranges.ticket.fits c.ranges.by.fits short) written)

pub returns-in-Rmdir-clause-entry : goal.returns-in-Rmdir-clause-entry
returns-in-Rmdir-clause-entry c =
    let is : c.args.command.now ≡ Rmdir c.in-Rmdir.path = cc in
    let entry : Entry = record { ticket = c.args.ticket; by = c.args.by; command = Rmdir c.in-Rmdir.path } in
    let written = rw c.as_bytes-in-Rmdir.ensures at c.write_path-in-Rmdir.ensures.ahead in
    let short = rw c.as_bytes-in-Rmdir.ensures at c.write_path-in-Rmdir.ensures.short in
    rw is (on_ok_weaker c.write_path-in-Rmdir.result (λ e. entry_written entry c.write_path-in-Rmdir.new.self.ahead e c.ranges.ticket.fits c.ranges.by.fits short) written)

pub returns-in-Write-default-false-default-clause-entry : goal.returns-in-Write-default-false-default-clause-entry
returns-in-Write-default-false-default-clause-entry c =
    let is : c.args.command.now ≡ Write c.in-Write-default-false-default.path false c.in-Write-default-false-default.text = cc in
    let entry : Entry = record { ticket = c.args.ticket; by = c.args.by; command = Write c.in-Write-default-false-default.path false c.in-Write-default-false-default.text } in
    let written = rw (c.as_bytes-in-Write-default-false-default.ensures, c.as_bytes-in-Write-default-false-default-2.ensures) at c.write_other-in-Write-default-false-default.ensures.ahead in
    let short = rw (c.as_bytes-in-Write-default-false-default.ensures, c.as_bytes-in-Write-default-false-default-2.ensures) at c.write_other-in-Write-default-false-default.ensures.short in
    rw is (on_ok_weaker c.write_other-in-Write-default-false-default.result (λ e. entry_written entry c.write_other-in-Write-default-false-default.new.self.ahead e c.ranges.ticket.fits c.ranges.by.fits (short.0, short.1)) written)

pub returns-in-Write-default-true-default-clause-entry : goal.returns-in-Write-default-true-default-clause-entry
returns-in-Write-default-true-default-clause-entry c =
    let is : c.args.command.now ≡ Write c.in-Write-default-true-default.path true c.in-Write-default-true-default.text = cc in
    let entry : Entry = record { ticket = c.args.ticket; by = c.args.by; command = Write c.in-Write-default-true-default.path true c.in-Write-default-true-default.text } in
    let written = rw (c.as_bytes-in-Write-default-true-default.ensures, c.as_bytes-in-Write-default-true-default-2.ensures) at c.write_other.ensures.ahead in
    let short = rw (c.as_bytes-in-Write-default-true-default.ensures, c.as_bytes-in-Write-default-true-default-2.ensures) at c.write_other.ensures.short in
    rw is (on_ok_weaker c.write_other.result (λ e. entry_written entry c.write_other.new.self.ahead e c.ranges.ticket.fits c.ranges.by.fits (short.0, short.1)) written)
