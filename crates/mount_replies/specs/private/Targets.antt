-- An open file that is written to, as the functions that write have it, and how a write of lines ends.
use Rattle.std.specs.Prelude.{◌≡◌, ◌⊎◌, ℕ, List, Option, Some, None, Result, Ok, Err, not}
use Rattle.std.specs.List.{slice_get}
use Rattle.fuse_wire.specs.declared.reply.Reply.{Reply}
use Rattle.trace_command.specs.Requests.{Request}
use Rattle.trace_format.specs.Definitions.{Definition}
use Rattle.trace_command.specs.declared.refusal.Refusal.TheVariants.{Memory}
use Rattle.tracer_specification.specs.Settings.{declared_events, now_of}
use Rattle.error_log.specs.Errors.{ErrorSeen, begun}
use Rattle.mount_tree.specs.NodePaths.{path_of}
use Rattle.mount_tree.specs.Scenes.{SceneSeen}
use Rattle.file_list.specs.declared.file.File.{File}
use Rattle.mount_tree.specs.declared.node.Node.TheVariants as nodes
use Rattle.mount_tree.specs.declared.node.Owner.{Owner}
use Rattle.mount_replies.specs.FileWrites.{begun_now}
use Rattle.mount_replies.specs.Lines.{injected, line_at_once, noted_command, noted_if_first, noted_line, written}
use Rattle.mount_replies.specs.Mounted.{HasLedTo, IsRun, MountSeen, service_of, terms_of}
use Rattle.mount_replies.specs.Services.{OpenSeen}
use Rattle.mount_replies.specs.Steps.{Asking, LineRefused, Noting, Outcome, errors_after}
use Rattle.mount_replies.specs.declared.fault.LineFault.{LineFault}
use Rattle.mount_replies.specs.declared.fault.LineFault.TheVariants.{Refused}
use Rattle.mount_replies.specs.declared.fault.Progress.{Progress}
use Rattle.mount_replies.specs.declared.fault.Stop.{Stop}
use Rattle.mount_replies.specs.declared.stream.Stream.{Stream}
use Rattle.mount_replies.specs.declared.writing.Target.{Target}

pub record IsTarget (file : OpenSeen) (target : Target) : Type 0 where
  pub owner : file.owner ≡ target.owner
  pub file_is : file.file ≡ target.file
  pub append : not file.starts_over ≡ target.append

-- A write of lines came so far. Then this is told, and noted or not; nothing else has changed.
pub record Ends (old new : MountSeen) (outcome : Outcome) (noting : Noting) (before : List ErrorSeen) (reply : Reply) : Type 0 where
  pub told : outcome.reply ≡ Some reply
  pub now : new ≡ record old { files = outcome.files; errors = errors_after noting before }

-- why a line was not done, or that there was no memory to note it
abbrev pub IsToldFor : LineFault → LineFault → Type 0
IsToldFor fault told = (told ≡ fault) ⊎ (told ≡ Refused Memory)

-- so noted, of a line that is a command, in a write that came at this time
abbrev pub noted_target : SceneSeen → Target → ℕ → List ℕ → LineFault → Noting
noted_target scene target time text fault =
    noted_command (begun target.owner time (path_of scene (nodes.File target.owner target.file))) (path_of scene (nodes.File target.owner target.file)) target.file text fault

abbrev pub NotesLine : MountSeen → MountSeen → Target → ℕ → Stop → LineFault → Type 0
NotesLine old new target time stop told =
    IsToldFor stop.fault told × (new ≡ record old { errors = errors_after (noted_target old.scene target time stop.line.now told) old.errors })

-- likewise of a line that was to be an event
abbrev pub NotesInjection : Owner → File → ℕ → MountSeen → MountSeen → Stop → LineFault → Type 0
NotesInjection owner file index old new stop told =
    IsToldFor stop.fault told
    × ((past : List Request) (event : Definition) → HasLedTo past old → slice_get (declared_events past) index ≡ Some event
    → new ≡ record old { errors = errors_after (noted_line (begun owner (now_of past) (path_of old.scene (nodes.File owner file))) stop.line.now told) old.errors })

abbrev pub IsRefusedFor : Option Stop → Option LineRefused → Type 0
IsRefusedFor None refused = refused ≡ None
IsRefusedFor (Some stop) refused = (told : LineFault) × IsToldFor stop.fault told × (refused ≡ Some (record { text = stop.line.now; fault = told }))

abbrev pub EndsCommands : MountSeen → MountSeen → Target → ℕ → ℕ → Progress → Reply → Type 0
EndsCommands old new target time size progress reply =
    (refused : Option LineRefused) × IsRefusedFor progress.stop refused
    × Ends old new (written target.handle size old.files progress.done refused)
    (noted_if_first (noted_target old.scene target time) progress.done refused) old.errors reply

-- likewise for lines that are events, where this is the stream if all were done
abbrev pub EndsStream : MountSeen → MountSeen → Target → ℕ → Stream → ℕ → Progress → Reply → Type 0
EndsStream old new target index after size progress reply =
    (past : List Request) (event : Definition) → HasLedTo past old → slice_get (declared_events past) index ≡ Some event
    → (refused : Option LineRefused) × IsRefusedFor progress.stop refused
    × Ends old new (injected target.handle after size old.files progress.done refused)
    (noted_if_first (noted_line (begun target.owner (now_of past) (path_of old.scene (nodes.File target.owner target.file)))) progress.done refused) old.errors reply

-- what ending a line comes to: the line was done, or not, which is noted
pub record EndsLineAs (past : List Request) (old new : MountSeen) (file : OpenSeen) (event : Definition) (asking : List ℕ → Asking) (line : List ℕ) (refused : Option LineRefused) : Type 0 where
  pub after : List Request
  pub mounted : HasLedTo after new
  pub terms : terms_of new ≡ terms_of old
  pub files : new.files ≡ old.files
  pub parked : new.parked ≡ old.parked
  pub counted : new.counted ≡ old.counted
  pub done : ℕ
  pub runs : IsRun (terms_of old) past 0 (line_at_once asking line) (record { past = after; done = done; refused = refused })
  pub errors : new.errors ≡ errors_after (noted_if_first (noted_line (begun_now (terms_of old) (service_of after old) file)) done refused) old.errors

abbrev pub refused_by : List ℕ → Result (Unit {0}) LineFault → Option LineRefused
refused_by line (Ok done) = None
refused_by line (Err fault) = Some (record { text = line; fault = fault })

abbrev pub EndsLine : List Request → MountSeen → MountSeen → OpenSeen → Definition → (List ℕ → Asking) → List ℕ → Result (Unit {0}) LineFault → Type 0
EndsLine past old new file event asking line result = EndsLineAs past old new file event asking line (refused_by line result)
