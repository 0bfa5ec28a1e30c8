-- The text of a `stats` file: the eight lines of ftrace.rst, "The File System", under `per_cpu/cpu0/stats`, the numbers in decimal. That
-- `bytes` adds up the sizes of the kept records, and that the clock is a counter, was chosen by this project.
use Rattle.std.specs.Prelude.{ℕ, List, [], ◌∷◌, ◌++◌, codes}
use Rattle.std.specs.Fmt.{decimal}
use Rattle.page_ring.specs.declared.rings.RingStats.{RingStats}

-- a label, a number and the end of the line
unfoldable pub stats_line : List ℕ → ℕ → List ℕ
stats_line label n = label ++ (decimal n ++ 10 ∷ [])

-- what a ring holds and has lost; `commit overrun` always reads 0, since no writer interrupts another
unfoldable pub stats_text : RingStats → ℕ → List ℕ
stats_text stats now =
    stats_line (codes "entries: ") stats.entries
    ++ stats_line (codes "overrun: ") stats.overrun
    ++ stats_line (codes "commit overrun: ") 0
    ++ stats_line (codes "bytes: ") stats.bytes
    ++ stats_line (codes "oldest event ts: ") stats.oldest
    ++ stats_line (codes "now ts: ") now
    ++ stats_line (codes "dropped events: ") stats.dropped
    ++ stats_line (codes "read events: ") stats.read
