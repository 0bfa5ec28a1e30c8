-- Which option of the command line is told where a configuration is out of its range.
use Rattle.std.specs.Prelude.{◌≡◌, ◌≤◌, ◌⊎◌, ◌%◌, ℕ, List, codes}
use Rattle.trace_command.specs.declared.command.Config.{Config}
use Rattle.program_arguments.specs.declared.options.OutOfRange.{OutOfRange}

-- an option of this name and number is told
abbrev pub Tells : OutOfRange → List ℕ → ℕ → Type 0
Tells told name number = (told.option.now ≡ name) × (told.number ≡ number)

-- the option for CPUs, for pages or for the bytes of a page is told, with its number, which is out of its range
abbrev pub TellsWrong : OutOfRange → Config → Type 0
TellsWrong told g = (Tells told (codes "cpus") g.cpus × (((1 ≤ g.cpus) × (g.cpus ≤ 8)) → ⊥))
    ⊎ ((Tells told (codes "pages") g.pages × (((2 ≤ g.pages) × (g.pages ≤ 1024)) → ⊥))
    ⊎ (Tells told (codes "page-bytes") g.page_bytes × (((64 ≤ g.page_bytes) × ((g.page_bytes ≤ 4080) × (g.page_bytes % 8 ≡ 0))) → ⊥)))
