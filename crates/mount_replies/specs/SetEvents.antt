-- What is written to `set_event` is what reads of it show then. A theorem that speaks of no program.
use Rattle.std.specs.Prelude.{◌≡◌, ◌⊎◌, ℕ, Bool, true, false, if◌then◌else◌, List, [], ◌∷◌, Some}
use Rattle.std.specs.List.{flat_map}
use Rattle.fuse_wire.specs.Replies.{reply_bytes}
use Rattle.fuse_wire.specs.declared.errno.Errno.{Errno}
use Rattle.fuse_wire.specs.declared.reply.Reply.TheVariants as replies
use Rattle.fuse_wire.specs.declared.request.Operation.TheVariants as operations
use Rattle.fuse_wire.specs.declared.request.Request.{Request as Asked}
use Rattle.trace_command.specs.Configs.{IsInRange}
use Rattle.trace_command.specs.Paths as paths
use Rattle.trace_command.specs.Requests.{Request}
use Rattle.trace_command.specs.declared.file_name.EventFile.TheVariants as per_event
use Rattle.mount_tree.specs.Children.{is_there}
use Rattle.mount_tree.specs.Scenes.{event_at}
use Rattle.file_list.specs.declared.file.File.TheVariants.{OfEvent, Tool}
use Rattle.mount_tree.specs.declared.scene.Event.{Event}
use Rattle.file_list.specs.declared.files.ToolFile.TheVariants as tools
use Rattle.mount_stub_files.specs.ToolTexts.{enabled_line, event_line, tool_text}
use Rattle.mount_stub_files.specs.ToolWrites.{tool_write}
use Rattle.mount_stub_files.specs.declared.write.ToolWrite.TheVariants.{Switch}
use Rattle.mount_replies.specs.FileWrites.{switch_text}
use Rattle.mount_replies.specs.Calls.{TakesTurns, Turn}
use Rattle.mount_replies.specs.Mounted.{IsServed}
use Rattle.mount_replies.specs.PastLaws.{IsReason, instance_of, just_mounted, write_once}
use Rattle.mount_replies.specs.Services.{OpenSeen, Service, Terms, file_at, node_of, scene_of}

-- the command that switches an event, in the instance of an open file
abbrev pub switch_command : Terms → Service → OpenSeen → Event → Bool → Request
switch_command g s file event on = write_once (instance_of g s file) (paths.OfEvent event.name per_event.Enable) false (switch_text on)

-- An event was switched in the instance of an open `set_event`, and so many bytes are done. That file has then a line of each event that is enabled, and
-- of this one just if it was switched on.
pub record SetsEvent (g : Terms) (before : Service) (file : OpenSeen) (event : Event) (on : Bool) (unique size : ℕ) (bytes : List ℕ) (after : Service) : Type 0 where
  pub told : bytes ≡ reply_bytes unique (replies.Written size)
  pub asked : after.past ≡ switch_command g before file event on ∷ before.past
  pub text : tool_text g.config after.past file.owner (Tool tools.SetEvent)
      ≡ Some (flat_map (enabled_line (instance_of g before file) after.past) (scene_of g before).events)
  pub line : enabled_line (instance_of g before file) after.past event ≡ (if on then event_line event.name else [])

-- or that command was refused, by its answer or for want of memory, and none was done
pub record LeavesEvents (g : Terms) (before : Service) (file : OpenSeen) (event : Event) (on : Bool) (unique : ℕ) (bytes : List ℕ) (after : Service) : Type 0 where
  pub errno : Errno
  pub why : IsReason g before.past (switch_command g before file event on) errno
  pub told : bytes ≡ reply_bytes unique (replies.Error errno)
  pub past : after.past ≡ before.past

-- A WRITE to `set_event` whose first word is to switch an event that is there, as `echo tick >> set_event`, whatever was served before it.
abbrev pub SetEventsAreShown : Type 0
SetEventsAreShown =
    (g : Terms) (turns : List Turn) (before after : Service) (request : Asked) (bytes : List ℕ) (handle offset lock_owner : ℕ) (own : List ℕ)
    (file : OpenSeen) (event : Event) (on : Bool) (size : ℕ)
    → IsInRange g.config → TakesTurns g just_mounted turns before → IsServed g before request bytes after
    → request.operation ≡ operations.Write handle offset lock_owner own → file_at handle before.files ≡ Some file → file.file ≡ Tool tools.SetEvent
    → is_there (scene_of g before) (node_of file) ≡ true → event_at event.index (scene_of g before).events ≡ Some event
    → tool_write g.config (scene_of g before) file.owner file.file own ≡ Switch (OfEvent event.index per_event.Enable) on size
    → SetsEvent g before file event on request.unique size bytes after ⊎ LeavesEvents g before file event on request.unique bytes after
