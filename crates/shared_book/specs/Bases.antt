-- What a lock sees of a book's configuration.
use Rattle.std.specs.Prelude.{ℕ, List, [], ◌∷◌}
use Rattle.trace_command.specs.declared.command.Config.{Config}

-- its numbers, in the order of its fields. They determine it
abbrev pub numbers_of : Config → List ℕ
numbers_of g = g.cpus ∷ g.pages ∷ g.page_bytes ∷ g.history_limit ∷ []
