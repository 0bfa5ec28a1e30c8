-- Requests that are served of a text which was made beside the turns: one that a file showed after earlier commands. Whoever serves copies what it shows in one
-- turn, makes the text while others have theirs, and serves the request of it in a later turn.
use Rattle.std.specs.Prelude.{◌≡◌, ℕ, ◌==◌, Bool, true, false, not, ◌&&◌, List, ◌++◌, length, Option, Some, None, Ok, if◌then◌else◌}
use Rattle.std.specs.Option.{option_map}
use Rattle.fuse_wire.specs.Requests.{IsRequest}
use Rattle.fuse_wire.specs.declared.reply.Reply.{Reply}
use Rattle.fuse_wire.specs.declared.reply.Reply.TheVariants as replies
use Rattle.fuse_wire.specs.declared.request.Operation.{Operation}
use Rattle.fuse_wire.specs.declared.request.Operation.TheVariants as operations
use Rattle.fuse_wire.specs.declared.request.Request.{Request as Asked}
use Rattle.trace_command.specs.Requests.{Request}
use Rattle.trace_command.specs.declared.command.Reply.TheVariants as answers
use Rattle.trace_command.specs.declared.file_name.CpuFile.TheVariants as per_cpu
use Rattle.trace_command.specs.declared.file_name.EventFile.TheVariants as per_event
use Rattle.trace_command.specs.declared.file_name.TopFile.TheVariants as top
use Rattle.trace_instance.specs.LateReplies.{reply_of}
use Rattle.tracer.specs.Lives.{live_answer}
use Rattle.file_list.specs.declared.file.File.{File}
use Rattle.file_list.specs.declared.file.File.TheVariants.{OfCpu, OfEvent, OfInstance}
use Rattle.mount_tree.specs.Children.{is_there}
use Rattle.mount_tree.specs.Nodes.{number_of}
use Rattle.mount_tree.specs.Scenes.{SceneSeen}
use Rattle.mount_tree.specs.ScenesAfter.{scene_after}
use Rattle.mount_tree.specs.declared.node.Node.{Node}
use Rattle.mount_tree.specs.declared.node.Node.TheVariants as nodes
use Rattle.mount_tree.specs.declared.node.Owner.{Owner}
use Rattle.mount_replies.specs.Mounted.{AreServed, Does, IsMounted, IsNamed, MountSeen, bytes_of_reply, service_of, terms_of}
use Rattle.mount_replies.specs.Owed.{owed}
use Rattle.mount_replies.specs.Served.{is_cached, part_of}
use Rattle.mount_replies.specs.Services.{OpenSeen, Service, Terms, file_at, node_of, scene_of, with_reading}
use Rattle.mount_replies.specs.Sizes.{Telling, entry_number}
use Rattle.mount_replies.specs.Steps.{Counts, Step, plain, read_of, told}
use Rattle.mount_replies.specs.Told.{attributes_of, found_in, known}
use Rattle.mount_replies.specs.declared.counted.Counted.{Counted}
use Rattle.mount_replies.specs.declared.shown.CopiedText.{CopiedText}
use Rattle.mount_replies.specs.declared.shown.ShownText.{ShownText}

-- ---- which text is wanted

-- the file has a text that may be long: it shows a trace, a live side or a spare one, of all CPUs or of one, or an event's histograms
abbrev pub shows_long_text : File → Bool
shows_long_text (OfInstance top.Trace) = true
shows_long_text (OfInstance top.Snapshot) = true
shows_long_text (OfCpu cpu per_cpu.Trace) = true
shows_long_text (OfEvent event per_event.Hist) = true
shows_long_text _ = false

abbrev pub long_text_node : Option Node → Option Node
long_text_node None = None
long_text_node (Some (nodes.Folder owner folder)) = None
long_text_node (Some (nodes.File owner file)) = if shows_long_text file then Some (nodes.File owner file) else None

-- The file whose text a request shows, about this node, if its number is one's: one of which the size is told, or one that is read from its beginning by
-- read(2). What the page cache reads is what was counted for it.
abbrev pub text_wanted : SceneSeen → List (Option OpenSeen) → Option Node → Operation → Option Node
text_wanted scene files target (operations.Lookup name) = long_text_node (found_in scene name target)
text_wanted scene files target operations.GetAttr = long_text_node (known scene target)
text_wanted scene files target (operations.Read handle offset size read_flags flags) =
    if offset == 0 && not (is_cached read_flags) then long_text_node (known scene (option_map node_of (file_at handle files))) else None
text_wanted scene files target _ = None

-- ---- what was shown

abbrev pub node_shown : ShownText → Node
node_shown shown = nodes.File shown.owner shown.file

-- the file has a long text and is there after these commands, so many of them, and its text is this
pub record IsText (g : Terms) (past : List Request) (owner : Owner) (file : File) (after : ℕ) (text : List ℕ) : Type 0 where
  pub long : shows_long_text file ≡ true
  pub after_is : after ≡ length past
  pub there : is_there (scene_after g.config.cpus past) (nodes.File owner file) ≡ true
  pub shows : live_answer g.config past (read_of (scene_after g.config.cpus past) (nodes.File owner file) None) ≡ Ok (answers.Text text)

-- it was this after some of these commands
pub record WasShown (g : Terms) (past : List Request) (shown : ShownText) : Type 0 where
  pub later : List Request
  pub earlier : List Request
  pub is : past ≡ later ++ earlier
  pub was : IsText g earlier shown.owner shown.file shown.after shown.text

-- a copy is of what a file shows after these commands
abbrev pub IsCopied : Terms → List Request → CopiedText → Type 0
IsCopied g past copied = (text : List ℕ) × (reply_of copied.late ≡ answers.Text text) × IsText g past copied.owner copied.file copied.after text

-- ---- what is told of it

-- it was counted then, and is remembered as texts are that are counted
abbrev pub count_then : ShownText → Counted
count_then shown = record {
  node = number_of (node_shown shown);
  size = length shown.text;
  after = shown.after;
  text = Some shown.text;
}

abbrev pub tell_shown : Service → ShownText → Telling → Step
tell_shown s shown telling = Counts (count_then shown) (told (telling (length shown.text)) s.files)

-- A request that wants the text gets its size, or its beginning: the reads that follow go on in it. Nothing is asked of the tracer.
abbrev pub shown_step : Terms → Service → ℕ → ShownText → Operation → Step
shown_step g s unique shown (operations.Lookup name) =
    tell_shown s shown (λ size. replies.Entry (entry_number unique (node_shown shown)) (attributes_of g (node_shown shown) size))
shown_step g s unique shown (operations.Read handle offset size read_flags flags) =
    plain (replies.Data (part_of 0 size shown.text)) (with_reading 0 size shown.text handle s.files)
shown_step g s unique shown operation = tell_shown s shown (λ size. replies.Attributes (attributes_of g (node_shown shown) size))

-- A request that wants a text was served of the one that its file showed after earlier commands.
pub record IsShownServed (g : Terms) (before : Service) (shown : ShownText) (asked bytes : List ℕ) (after : Service) : Type 0 where
  pub quiet : owed g before ≡ None
  pub was : WasShown g before.past shown
  pub request : Asked
  pub framed : IsRequest asked request
  pub node : Option Node
  pub named : IsNamed request.node node
  pub wanted : text_wanted (scene_of g before) before.files node request.operation ≡ Some (node_shown shown)
  pub reply : Option Reply
  pub does : Does g before (shown_step g before request.unique shown request.operation) reply after
  pub told : bytes ≡ bytes_of_reply request.unique reply

-- ---- what serving it comes to

-- of the text, or as ever
abbrev pub AreServedOf : Bool → Terms → Service → ShownText → List ℕ → List ℕ → Service → Type 0
AreServedOf true g before shown asked bytes after = IsShownServed g before shown asked bytes after
AreServedOf false g before shown asked bytes after = (owed g before ≡ None) × AreServed g before asked bytes after

-- These bytes were served of a text that was made beside the turns (`of_text`), or as ever.
pub record IsServedOf (of_text : Bool) (past : List Request) (old new : MountSeen) (shown : ShownText) (asked bytes : List ℕ) : Type 0 where
  pub after : List Request
  pub mounted : IsMounted after new
  pub terms : terms_of new ≡ terms_of old
  pub served : AreServedOf of_text (terms_of old) (service_of past old) shown asked bytes (service_of after new)
