-- Which numbers a book may be made with.
use Rattle.std.specs.Prelude.{◌≡◌, ◌%◌, ◌^◌, ◌≤◌}
use Rattle.trace_command.specs.declared.command.Config.{Config}

-- each number is in its range
pub record IsInRange (g : Config) : Type 0 where
  pub some_cpus : 1 ≤ g.cpus
  pub few_cpus : g.cpus ≤ 8
  pub some_pages : 2 ≤ g.pages
  pub few_pages : g.pages ≤ 1024
  pub some_bytes : 64 ≤ g.page_bytes
  pub few_bytes : g.page_bytes ≤ 4080
  pub whole_words : g.page_bytes % 8 ≡ 0
  pub some_entries : 1 ≤ g.history_limit
  pub few_entries : g.history_limit ≤ 2 ^ 32
