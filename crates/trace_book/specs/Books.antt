-- What contracts see of a book.
use Rattle.tracer_specification.specs.History.{past_of, IsLegal}
use Rattle.tracer.specs.Lives.{IsLive}
use Rattle.trace_book.specs.BookSeen.{BookSeen}
use Rattle.trace_book.specs.declared.book.Book.TheInside.{Inside}

abbrev pub seen : Inside → BookSeen
seen book = record { config = book.live.config; entries = book.history.entries }

-- the entries are a legal history, and led to the tracer
pub record IsSound (book : Inside) : Type 0 where
  pub legal : IsLegal book.live.config book.history.entries
  pub lives : IsLive book.live.config (past_of book.history.entries) book.live
