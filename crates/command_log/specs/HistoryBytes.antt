-- How a history's fields show, and what is true of them at every moment.
use Rattle.std.specs.Prelude.{◌≡◌, ◌++◌, length}
use Rattle.command_log.specs.HistorySeen.{HistorySeen}
use Rattle.command_log.specs.PackedEntries.{entries_in, ArePacked}
use Rattle.command_log.specs.ChunkSeen.{entries_of}
use Rattle.command_log.specs.declared.history.History.TheInside.{Inside}

abbrev pub seen_history : Inside → HistorySeen
seen_history history = record {
  entries = entries_of history.full.items ++ history.last.entries;
  ahead = entries_in history.ahead history.last.ahead;
}

pub record IsHistory (history : Inside) : Type 0 where
  pub count : history.count ≡ length (entries_of history.full.items ++ history.last.entries)
  pub ahead : ArePacked history.ahead history.last.ahead
