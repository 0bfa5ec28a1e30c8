-- What happens to a ring.
use Rattle.std.specs.Prelude.{ℕ, Bool, List}

-- a record that is written, with whether it may overwrite older ones, and a consuming read
pub data Event : Type 0 where
  Put : (bytes : List ℕ) (overwrite : Bool) → Event
  Take : Event
