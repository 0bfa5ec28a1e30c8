-- What stands round the records' lines in the `trace` and `trace_pipe` files (ftrace.rst, "The File System", "Output format"); that the head
-- comes without its drawn lines was chosen by this project.
use Rattle.std.specs.Prelude.{ℕ, ◌==◌, if◌then◌else◌, List, [], ◌++◌, codes}
use Rattle.std.specs.Fmt.{decimal}

-- the line before a record that says how many were lost between it and the one consumed before
unfoldable pub lost_line : ℕ → ℕ → List ℕ
lost_line cpu lost = if lost == 0 then [] else codes "CPU:" ++ decimal cpu ++ codes " [LOST " ++ decimal lost ++ codes " EVENTS]\n"

-- what stands before the counts in the head of a trace
unfoldable pub trace_title : List ℕ
trace_title = codes "# tracer: nop\n#\n# entries-in-buffer/entries-written: "

-- the head of a trace: how many records are kept, and how many are kept or were lost to overwriting; the number of CPUs
unfoldable pub trace_head : ℕ → ℕ → ℕ → List ℕ
trace_head kept written cpus =
    trace_title ++ decimal kept ++ codes "/" ++ decimal written ++ codes "   #P:" ++ decimal cpus ++ codes "\n#\n"
