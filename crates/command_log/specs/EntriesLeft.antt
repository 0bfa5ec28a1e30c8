-- What an iterator over the entries of a history has left.
use Rattle.std.specs.Prelude.{◌≡◌, List, ◌++◌, length}
use Rattle.std.specs.Slice.Iter.{iter_rest}
use Rattle.trace_command.specs.declared.command.Entry.{Entry}
use Rattle.command_log.specs.ChunkSeen.{entries_of}
use Rattle.command_log.specs.declared.entries.Entries.TheInside.{Inside}

abbrev pub entries_left : Inside → List Entry
entries_left it = it.chunk ++ entries_of (iter_rest it.full) ++ it.last

abbrev pub IsCounted : Inside → Type 0
IsCounted it = it.left ≡ length (entries_left it)
