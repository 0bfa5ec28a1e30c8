-- How many threads the parts of a script have.
use Rattle.std.specs.Prelude.{ℕ, ◌≤◌, List, length, All}
use Rattle.script_reader.specs.Items.{Item, Threads, items_of, most_threads}

-- the item has no more threads than a part may have
abbrev pub HasFewThreads : Item → Type 0
HasFewThreads (Threads threads) = length threads ≤ most_threads
HasFewThreads _ = Unit {0}

-- no part has more threads than it may have
abbrev pub PartsHaveFewThreads : Type 0
PartsHaveFewThreads = (script : List ℕ) → All HasFewThreads (items_of script)
