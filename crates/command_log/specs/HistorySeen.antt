-- A history as contracts see it.
use Rattle.std.specs.Prelude.{List}
use Rattle.trace_command.specs.declared.command.Entry.{Entry}

-- the entries, oldest first, and what is written ahead and does not count yet: one entry, or none
pub record HistorySeen : Type 0 where
  pub entries : List Entry
  pub ahead : List Entry
