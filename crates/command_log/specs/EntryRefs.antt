-- Entries that are read where they lie: the entry and the command that each shows.
use Rattle.trace_command.specs.Commands.{Command}
use Rattle.trace_command.specs.declared.command.CommandOf.TheVariants.{Emit, Mkdir, Rmdir, Write, Read}
use Rattle.trace_command.specs.declared.command.Entry.{Entry}
use Rattle.command_log.specs.declared.entry_ref.EntryRef.{EntryRef}
use Rattle.command_log.specs.declared.entry_ref.CommandRef.{CommandRef}
use Rattle.command_log.specs.declared.entry_ref.CommandRef.TheVariants as lent

abbrev pub command_shown : CommandRef → Command
command_shown (lent.Emit event cpu pid pairs) = Emit event.now cpu pid pairs
command_shown (lent.Mkdir path) = Mkdir path.now
command_shown (lent.Rmdir path) = Rmdir path.now
command_shown (lent.Write path append text) = Write path.now append text.now
command_shown (lent.Read path limit) = Read path.now limit

abbrev pub entry_shown : EntryRef → Entry
entry_shown entry = record { ticket = entry.ticket; by = entry.by; command = command_shown entry.command }
