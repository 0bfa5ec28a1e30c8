-- Binary pages, as theorems that speak of no program.
use Rattle.std.specs.Prelude.{◌≡◌, ◌⊎◌, ⊤, ℕ, ◌^◌, ◌<◌, ◌≤◌, true, false, List, [], ◌∷◌, length, map, Option, Some}
use Rattle.std.specs.List.{AllByRecursion}
use Rattle.fuse_wire.specs.declared.errno.Errno.{Errno}
use Rattle.fuse_wire.specs.declared.reply.Reply.{Reply}
use Rattle.fuse_wire.specs.declared.reply.Reply.TheVariants as replies
use Rattle.fuse_wire.specs.declared.request.Operation.TheVariants as operations
use Rattle.fuse_wire.specs.declared.request.Request.{Request as Asked}
use Rattle.trace_command.specs.Requests.{Request}
use Rattle.tracer_specification.specs.Rings.{cpu_pipe_read, rings}
use Rattle.tracer_specification.specs.Settings.{declared_events}
use Rattle.kernel_pages.specs.declared.page_row.PageRow.{PageRow}
use Rattle.kernel_pages.specs.Laws.{event_of}
use Rattle.kernel_pages.specs.Pages.{lost_before, IsOnePage}
use Rattle.kernel_pages.specs.ReadPages.{read_page}
use Rattle.kernel_pages.specs.Rows.{rows_of}
use Rattle.file_list.specs.FileKinds.{kind_of_file}
use Rattle.file_list.specs.FileTable.{file_index}
use Rattle.file_list.specs.declared.file.File.TheVariants.{RawPipe}
use Rattle.file_list.specs.declared.file.FileKind.TheVariants as kinds
use Rattle.mount_tree.specs.Children.{is_there}
use Rattle.mount_tree.specs.NodePaths.{owner_name}
use Rattle.mount_tree.specs.declared.node.Node.TheVariants as nodes
use Rattle.mount_tree.specs.declared.node.Owner.{Owner}
use Rattle.mount_replies.specs.Calls.{TakesTurns, Turn}
use Rattle.mount_replies.specs.Mounted.{IsServed}
use Rattle.mount_replies.specs.PastLaws.{IsReason, just_mounted}
use Rattle.mount_replies.specs.Pipes.{is_dry, is_used_up}
use Rattle.mount_replies.specs.RawPages.{next_count, next_page, pipe_node}
use Rattle.mount_replies.specs.Served.{is_cached, part_of}
use Rattle.mount_replies.specs.Services.{OpenSeen, Service, Terms, file_at, node_of, scene_of}
use Rattle.mount_replies.specs.Steps.{read_of}

-- ---- whole pages

-- a page, or an error
abbrev pub IsPageOrError : Option Reply → Type 0
IsPageOrError (Some (replies.Data bytes)) = length bytes ≡ 4096
IsPageOrError (Some (replies.Error errno)) = ⊤
IsPageOrError _ = ⊥

-- A READ by the page cache of a CPU's pages does not wait, and gets a page of 4,096 bytes, whatever room it has, or an error: for the page cache less is
-- the file's end.
abbrev pub PageCacheGetsPages : Type 0
PageCacheGetsPages =
    (g : Terms) (before after : Service) (request : Asked) (bytes : List ℕ) (handle offset size read_flags flags : ℕ) (file : OpenSeen)
    → (served : IsServed g before request bytes after) → request.operation ≡ operations.Read handle offset size read_flags flags
    → is_cached read_flags ≡ true → file_at handle before.files ≡ Some file → kind_of_file file.file ≡ kinds.RawPipe → IsPageOrError served.reply

-- ---- what a page has

-- A READ of a CPU's pages does no command, or the one that takes as many records from the CPU's pipe as the next page has, and then its reply is the
-- beginning of that page.
abbrev pub PageReadsTake : Type 0
PageReadsTake =
    (g : Terms) (before after : Service) (request : Asked) (bytes : List ℕ) (handle offset size read_flags flags : ℕ) (file : OpenSeen)
    → (served : IsServed g before request bytes after) → request.operation ≡ operations.Read handle offset size read_flags flags
    → file_at handle before.files ≡ Some file → kind_of_file file.file ≡ kinds.RawPipe
    → (after.past ≡ before.past)
    ⊎ ((after.past ≡ read_of (scene_of g before) (pipe_node file) (Some (next_count g before file.owner (file_index file.file))) ∷ before.past)
    × (served.reply ≡ Some (replies.Data (part_of 0 size (next_page g before file.owner (file_index file.file))))))

-- the records that a `take` of so many from a CPU's pipe takes, as rows
abbrev pub taken_rows : Terms → Service → Owner → ℕ → ℕ → List PageRow
taken_rows g s owner cpu count =
    rows_of (declared_events s.past)
    (cpu_pipe_read g.config cpu (Some count) (rings g.config (owner_name (scene_of g s) owner) s.past)).taken

-- times and numbers of lost records of 64 bits
abbrev pub FitWords : List PageRow → Type 0
FitWords rows = AllByRecursion (λ (row : PageRow). (row.time < 2 ^ 64) × (row.lost < 2 ^ 64)) rows

-- And that page is read, by Linux's rules alone, as the records which that command takes: each with its time and its data, and how many were lost before
-- the first.
abbrev pub PagesAreReadAsTaken : Type 0
PagesAreReadAsTaken =
    (g : Terms) (s : Service) (owner : Owner) (cpu : ℕ) (rows : List PageRow) → rows ≡ taken_rows g s owner cpu (next_count g s owner cpu) → FitWords rows
    → read_page (next_page g s owner cpu) ≡ record { events = map event_of rows; lost = Some (lost_before rows) }

-- What is taken is the longest prefix of the records that wait which is one page: it is a page of so many records, and a take of more that would also be
-- one page takes no more of them.
pub record TakesLongestPage (g : Terms) (s : Service) (owner : Owner) (cpu : ℕ) : Type 0 where
  pub many : length (taken_rows g s owner cpu (next_count g s owner cpu)) ≡ next_count g s owner cpu
  pub page : IsOnePage (taken_rows g s owner cpu (next_count g s owner cpu))
  pub longest : (count : ℕ) → IsOnePage (taken_rows g s owner cpu count) → length (taken_rows g s owner cpu count) ≤ next_count g s owner cpu

abbrev pub PagesTakeAllThatFits : Type 0
PagesTakeAllThatFits = (g : Terms) (s : Service) (owner : Owner) (cpu : ℕ) → TakesLongestPage g s owner cpu

-- So where a record waits, one is taken at least, if its data fit a page.
abbrev pub PagesTakeSome : Type 0
PagesTakeSome =
    (g : Terms) (s : Service) (owner : Owner) (cpu : ℕ) (row : PageRow) → taken_rows g s owner cpu 1 ≡ row ∷ [] → length row.bytes ≤ 4056
    → 1 ≤ next_count g s owner cpu

-- ---- where a record waits

-- Where a record waits in a CPU's pages, whatever was served and called, the next page has one at least: its event was declared, so that its data fit a page.
abbrev pub PagesTakeWhatWaits : Type 0
PagesTakeWhatWaits =
    (g : Terms) (turns : List Turn) (s : Service) (owner : Owner) (cpu : ℕ) → TakesTurns g just_mounted turns s
    → is_there (scene_of g s) (nodes.File owner (RawPipe cpu)) ≡ true → is_dry g s owner (RawPipe cpu) ≡ false → 1 ≤ next_count g s owner cpu

-- the command that takes the next page of an open file
abbrev pub page_command : Terms → Service → OpenSeen → Request
page_command g s file = read_of (scene_of g s) (pipe_node file) (Some (next_count g s file.owner (file_index file.file)))

-- it was done, and the beginning of a page that has a record was given
pub record GivesSome (g : Terms) (before : Service) (file : OpenSeen) (size : ℕ) (reply : Option Reply) (after : Service) : Type 0 where
  pub some : 1 ≤ next_count g before file.owner (file_index file.file)
  pub told : reply ≡ Some (replies.Data (part_of 0 size (next_page g before file.owner (file_index file.file))))
  pub took : after.past ≡ page_command g before file ∷ before.past

-- or it was refused, or there was no memory, and nothing has changed
pub record IsPageRefused (g : Terms) (before : Service) (file : OpenSeen) (reply : Option Reply) (after : Service) : Type 0 where
  pub errno : Errno
  pub why : IsReason g before.past (page_command g before file) errno
  pub told : reply ≡ Some (replies.Error errno)
  pub now : after ≡ before

-- So a READ of a CPU's pages gives some where a record waits and nothing is left of the page before; one by the page cache, if it has room for a page.
abbrev pub PageReadsGiveSome : Type 0
PageReadsGiveSome =
    (g : Terms) (turns : List Turn) (before after : Service) (request : Asked) (bytes : List ℕ) (handle offset size read_flags flags : ℕ) (file : OpenSeen)
    → TakesTurns g just_mounted turns before → (served : IsServed g before request bytes after)
    → request.operation ≡ operations.Read handle offset size read_flags flags → file_at handle before.files ≡ Some file
    → kind_of_file file.file ≡ kinds.RawPipe → is_there (scene_of g before) (node_of file) ≡ true → is_used_up file ≡ true
    → is_dry g before file.owner file.file ≡ false → (is_cached read_flags ≡ true → 4096 ≤ size)
    → GivesSome g before file size served.reply after ⊎ IsPageRefused g before file served.reply after
