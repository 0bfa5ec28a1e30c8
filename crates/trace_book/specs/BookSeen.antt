-- A book as its configuration and its history, and a book with its next ticket.
use Rattle.std.specs.Prelude.{ℕ, List}
use Rattle.trace_command.specs.declared.command.Config.{Config}
use Rattle.trace_command.specs.declared.command.Entry.{Entry}

-- what the book was made with, and what was done, oldest first
pub record BookSeen : Type 0 where
  pub config : Config
  pub entries : List Entry

-- a tracer as its book and its next ticket
pub record TracerSeen : Type 0 where
  pub book : BookSeen
  pub next : ℕ
