-- What turns take and give of binary pages: records go to one of all readers. Theorems that speak of no program.
use Rattle.std.specs.Prelude.{◌≡◌, ◌⊎◌, ℕ, ◌==◌, Bool, false, true, ◌&&◌, if◌then◌else◌, List, [], ◌∷◌, ◌++◌, length, Option, Some, None, Ok, Err}
use Rattle.fuse_wire.specs.declared.errno.Errno.{Errno}
use Rattle.fuse_wire.specs.declared.reply.Reply.{Reply}
use Rattle.fuse_wire.specs.declared.reply.Reply.TheVariants as replies
use Rattle.fuse_wire.specs.declared.request.Operation.{Operation}
use Rattle.fuse_wire.specs.declared.request.Operation.TheVariants as operations
use Rattle.fuse_wire.specs.declared.request.Request.{Request as Asked}
use Rattle.kernel_pages.specs.Pages.{page_of}
use Rattle.file_list.specs.FileKinds.{kind_of_file}
use Rattle.file_list.specs.FileTable.{file_index}
use Rattle.file_list.specs.declared.file.FileKind.TheVariants as kinds
use Rattle.mount_replies.specs.Calls.{Called, Exchanged, IsTurned, Turn, Shows}
use Rattle.mount_replies.specs.Mounted.{AreServed, Does, IsExchanged, IsServed, Right, TellsOwed, Unframed, Wrong}
use Rattle.mount_replies.specs.Owed.{Owed, ReplyAt, WakeupAt, owed, step_of_parked}
use Rattle.mount_replies.specs.ParkedLaws.{given_in, is_read_of, kept_for}
use Rattle.mount_replies.specs.RawPages.{next_count, next_page, pipe_node}
use Rattle.mount_replies.specs.Served.{is_cached, step_of}
use Rattle.mount_replies.specs.Services.{OpenSeen, Service, Terms, file_at, scene_of, without_read}
use Rattle.mount_replies.specs.Steps.{Asks, AsksLines, AsksNoting, Counts, Interrupts, Parks, Plain, Step, Takes, Tells, read_of}

-- ---- no record is lost, or told twice

-- the page that a read of an open file takes next
abbrev pub page_next : Terms → Service → OpenSeen → List ℕ
page_next g s file = next_page g s file.owner (file_index file.file)

-- the page that a step took, if it did a command
abbrev pub page_by : (g : Terms) (before : Service) (file : OpenSeen) (step : Step) (reply : Option Reply) (after : Service) → Does g before step reply after
    → List ℕ
page_by g before file (Asks request outcome) reply after (Ok answer, answered, told, same) = page_next g before file
page_by g before file (Asks request outcome) reply after (Err refusal, answered, told, same) = []
page_by g before file (Plain outcome) reply after does = []
page_by g before file (Takes outcome) reply after does = []
page_by g before file (Parks read) reply after does = []
page_by g before file (Interrupts unique) reply after does = []
page_by g before file (AsksNoting request takes outcome noting) reply after does = []
page_by g before file (Tells noting takes outcome) reply after does = []
page_by g before file (AsksLines lines outcome noting) reply after does = []
page_by g before file (Counts count outcome) reply after does = []

-- what a request took for the open file of a handle: nothing, if it is no READ of it
abbrev pub page_asked : (handle : ℕ) (file : OpenSeen) (g : Terms) (before : Service) (asked bytes : List ℕ) (after : Service)
    → AreServed g before asked bytes after → List ℕ
page_asked handle file g before asked bytes after (Right request is served) =
    if is_read_of handle request.operation
    then page_by g before file (step_of g before request.unique request.pid served.node request.operation) served.reply after served.does
    else []
page_asked handle file g before asked bytes after (Wrong opcode unique framed none told same) = []
page_asked handle file g before asked bytes after (Unframed none told same) = []

-- what the reply of a parked read took for it
abbrev pub page_told : (handle : ℕ) (file : OpenSeen) (g : Terms) (before : Service) (what : Option Owed) (bytes : List ℕ) (after : Service)
    → TellsOwed g before what bytes after → List ℕ
page_told handle file g before None bytes after told = []
page_told handle file g before (Some (ReplyAt index)) bytes after told =
    if told.read.handle == handle
    then page_by g (without_read index before) file (step_of_parked g before told.read) (Some told.reply) after told.does
    else []
page_told handle file g before (Some (WakeupAt other)) bytes after told = []

-- what an exchange took for it, and a turn
abbrev pub page_for : (handle : ℕ) (file : OpenSeen) (g : Terms) (before : Service) (asked bytes : List ℕ) (after : Service)
    → IsExchanged g before asked bytes after → List ℕ
page_for handle file g before [] bytes after told = page_told handle file g before (owed g before) bytes after told
page_for handle file g before (byte ∷ asked) bytes after (quiet, served) = page_asked handle file g before (byte ∷ asked) bytes after served

abbrev pub page_in : (handle : ℕ) (file : OpenSeen) (g : Terms) (before : Service) (turn : Turn) (after : Service) → IsTurned g before turn after → List ℕ
page_in handle file g before (Exchanged asked bytes) after one = page_for handle file g before asked bytes after one
page_in handle file g before (Called limit request answer) after one = []
page_in handle file g before (Shows shown asked bytes) after one = []

-- a READ of the handle by the page cache; what waits is none
abbrev pub is_cached_read_of : ℕ → Operation → Bool
is_cached_read_of handle (operations.Read other offset size read_flags flags) = other == handle && is_cached read_flags
is_cached_read_of handle _ = false

abbrev pub cached_asked : (handle : ℕ) (g : Terms) (before : Service) (asked bytes : List ℕ) (after : Service) → AreServed g before asked bytes after → Bool
cached_asked handle g before asked bytes after (Right request is served) = is_cached_read_of handle request.operation
cached_asked handle g before asked bytes after (Wrong opcode unique framed none told same) = false
cached_asked handle g before asked bytes after (Unframed none told same) = false

abbrev pub cached_for : (handle : ℕ) (g : Terms) (before : Service) (asked bytes : List ℕ) (after : Service) → IsExchanged g before asked bytes after → Bool
cached_for handle g before [] bytes after told = false
cached_for handle g before (byte ∷ asked) bytes after (quiet, served) = cached_asked handle g before (byte ∷ asked) bytes after served

abbrev pub cached_in : (handle : ℕ) (g : Terms) (before : Service) (turn : Turn) (after : Service) → IsTurned g before turn after → Bool
cached_in handle g before (Exchanged asked bytes) after one = cached_for handle g before asked bytes after one
cached_in handle g before (Called limit request answer) after one = false
cached_in handle g before (Shows shown asked bytes) after one = false

-- Of a file of binary pages that is open before a turn and after it: what was kept of a page, and then the page that was taken, is what was given, and then
-- what is kept. A turn that is no read of the file's handle takes and gives nothing, so it leaves what is kept as it was. What is kept when the file is
-- closed is lost. READs by the page cache are told below.
abbrev pub NoPageIsLostOrToldTwice : Type 0
NoPageIsLostOrToldTwice =
    (g : Terms) (before : Service) (turn : Turn) (after : Service) (one : IsTurned g before turn after) (handle : ℕ) (old new : OpenSeen)
    → file_at handle before.files ≡ Some old → kind_of_file old.file ≡ kinds.RawPipe → file_at handle after.files ≡ Some new
    → cached_in handle g before turn after one ≡ false
    → kept_for handle before ++ page_in handle old g before turn after one ≡ given_in handle g before turn after one ++ kept_for handle after

-- ---- the page cache gets whole pages

-- A page was given whole, where nothing was left of a page before, and the command that took it is the only one that was done.
pub record GivesPage (g : Terms) (before : Service) (handle : ℕ) (file : OpenSeen) (reply : Option Reply) (after : Service) : Type 0 where
  pub page : reply ≡ Some (replies.Data (page_next g before file))
  pub whole : length (page_next g before file) ≡ 4096
  pub took : after.past ≡ read_of (scene_of g before) (pipe_node file) (Some (next_count g before file.owner (file_index file.file))) ∷ before.past
  pub none : kept_for handle before ≡ []
  pub left : kept_for handle after ≡ []

-- No record was taken or given, and what is kept is as it was: the reply is a page of no record, or an error.
pub record GivesNoRecord (before : Service) (handle : ℕ) (reply : Option Reply) (after : Service) : Type 0 where
  pub told : ((reply ≡ Some (replies.Data (page_of []))) × (length (page_of []) ≡ 4096)) ⊎ ((errno : Errno) × (reply ≡ Some (replies.Error errno)))
  pub took : after.past ≡ before.past
  pub left : kept_for handle after ≡ kept_for handle before

-- a READ of binary pages by the page cache gets a page of 4,096 bytes, or an error
abbrev pub CachedReadsKeepNothing : Type 0
CachedReadsKeepNothing =
    (g : Terms) (before after : Service) (request : Asked) (bytes : List ℕ) (handle offset size read_flags flags : ℕ) (file : OpenSeen)
    → (served : IsServed g before request bytes after) → request.operation ≡ operations.Read handle offset size read_flags flags
    → is_cached read_flags ≡ true → file_at handle before.files ≡ Some file → kind_of_file file.file ≡ kinds.RawPipe
    → GivesPage g before handle file served.reply after ⊎ GivesNoRecord before handle served.reply after

-- ---- a page is of one read

-- What a turn took for a file of binary pages that is open is one page, and a read of the CPU's pipe that takes as many records as the page tells is the
-- only command that was done.
pub record IsPageOfRead (g : Terms) (before after : Service) (file : OpenSeen) (page : List ℕ) : Type 0 where
  pub is : page ≡ page_next g before file
  pub took : after.past ≡ read_of (scene_of g before) (pipe_node file) (Some (next_count g before file.owner (file_index file.file))) ∷ before.past

abbrev pub PagesAreOfOneRead : Type 0
PagesAreOfOneRead =
    (g : Terms) (before : Service) (turn : Turn) (after : Service) (one : IsTurned g before turn after) (handle : ℕ) (file : OpenSeen)
    → file_at handle before.files ≡ Some file → kind_of_file file.file ≡ kinds.RawPipe
    → (page_in handle file g before turn after one ≡ []) ⊎ IsPageOfRead g before after file (page_in handle file g before turn after one)
