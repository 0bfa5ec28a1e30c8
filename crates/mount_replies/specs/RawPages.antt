-- The binary pages of a CPU's ring, which `trace_pipe_raw` gives (ftrace.rst, "The File System"): each is one consuming read of the CPU's pipe, of as
-- many records as the page tells.
use Rattle.std.specs.Prelude.{ℕ, List, take, Some}
use Rattle.trace_command.specs.declared.file_name.CpuFile.TheVariants as per_cpu
use Rattle.tracer_specification.specs.Rings.{cpu_pipe_read, rings}
use Rattle.tracer_specification.specs.Settings.{declared_events}
use Rattle.kernel_pages.specs.declared.page_row.PageRow.{PageRow}
use Rattle.kernel_pages.specs.Pages.{page_of}
use Rattle.kernel_pages.specs.Rows.{rows_of}
use Rattle.kernel_pages.specs.Taking.{taken_of}
use Rattle.file_list.specs.FileTable.{file_index}
use Rattle.file_list.specs.declared.file.File.TheVariants.{OfCpu}
use Rattle.mount_tree.specs.NodePaths.{owner_name}
use Rattle.mount_tree.specs.declared.node.Node.{Node}
use Rattle.mount_tree.specs.declared.node.Node.TheVariants as nodes
use Rattle.mount_tree.specs.declared.node.Owner.{Owner}
use Rattle.mount_replies.specs.Services.{OpenSeen, Service, Terms, scene_of}

-- the records that wait on a CPU, as many as a page may tell, as rows: a page tells at most 340, since each takes 12 of its 4,080 bytes or more
abbrev pub next_rows : Terms → Service → Owner → ℕ → List PageRow
next_rows g s owner cpu =
    rows_of (declared_events s.past)
    (cpu_pipe_read g.config cpu (Some 340) (rings g.config (owner_name (scene_of g s) owner) s.past)).taken

-- as many of them as one page tells, so many as are in the longest prefix that is one page (law `longest`), and that page
abbrev pub next_count : Terms → Service → Owner → ℕ → ℕ
next_count g s owner cpu = taken_of (next_rows g s owner cpu)

abbrev pub next_page : Terms → Service → Owner → ℕ → List ℕ
next_page g s owner cpu = page_of (take (next_count g s owner cpu) (next_rows g s owner cpu))

-- the file by which it is taken: the CPU's pipe
abbrev pub pipe_node : OpenSeen → Node
pipe_node file = nodes.File file.owner (OfCpu (file_index file.file) per_cpu.TracePipe)
