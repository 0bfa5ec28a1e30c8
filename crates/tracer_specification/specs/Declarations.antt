-- What holds of declared events: their places, and that they fit a book.
use Rattle.std.specs.Prelude.{◌≡◌, ℕ, ◌<◌, ◌≤◌, true, slice_index_or, List, length}
use Rattle.std.specs.Str.{bytes_eq}
use Rattle.trace_format.specs.Cells.{record_size_of}
use Rattle.trace_format.specs.Definitions.{Definition}

-- the event has this name, and so many events were declared before it
pub record IsIndexOf (events : List Definition) (name : List ℕ) (index : ℕ) (event : Definition) : Type 0 where
  pub inside : index < length events
  pub there : event ≡ slice_index_or events index event
  pub named : bytes_eq name event.name ≡ true

-- an event's fields are few, and its record fits a page
pub record IsFit (page_bytes : ℕ) (event : Definition) : Type 0 where
  pub fields : length event.fields ≤ 16
  pub size : record_size_of event ≤ page_bytes
