-- What doing one line of a write comes to, and lines one after another, for the functions that do so.
use Rattle.std.specs.Prelude.{◌≡◌, ℕ, Bool, true, List, ◌∷◌, Option, Some, None, Result, Ok, Err}
use Rattle.trace_command.specs.Requests.{Request}
use Rattle.tracer_specification.specs.Settings.{declared_events}
use Rattle.file_list.specs.declared.file.File.{File}
use Rattle.mount_tree.specs.Children.{is_there}
use Rattle.mount_tree.specs.NodePaths.{path_of}
use Rattle.mount_tree.specs.Scenes.{SceneSeen}
use Rattle.mount_tree.specs.declared.node.Node.TheVariants as nodes
use Rattle.mount_tree.specs.declared.node.Owner.{Owner}
use Rattle.mount_replies.specs.Lines.{line_command}
use Rattle.mount_replies.specs.Mounted.{HasLedTo, IsRun, MountSeen, stopped_at, terms_of}
use Rattle.mount_replies.specs.Steps.{Asking, LineAsked, LineRefused, Ran}
use Rattle.mount_replies.specs.declared.fault.LineFault.{LineFault}
use Rattle.mount_replies.specs.declared.fault.Progress.{Progress}
use Rattle.mount_replies.specs.declared.fault.Stop.{Stop}
use Rattle.mount_replies.specs.declared.writing.Target.{Target}

-- nothing but what was done has changed
pub record IsKept (old new : MountSeen) : Type 0 where
  pub terms : terms_of new ≡ terms_of old
  pub files : new.files ≡ old.files
  pub parked : new.parked ≡ old.parked
  pub errors : new.errors ≡ old.errors
  pub counted : new.counted ≡ old.counted

-- a line for which this is asked was done, so that others may follow
pub record IsLineDone (past : List Request) (old new : MountSeen) (asking : Asking) : Type 0 where
  pub after : List Request
  pub mounted : HasLedTo after new
  pub kept : IsKept old new
  pub runs : (done : ℕ) (line : LineAsked) (lines : List LineAsked) (ran : Ran) → line.asking ≡ asking
      → IsRun (terms_of old) after line.end lines ran → IsRun (terms_of old) past done (line ∷ lines) ran

-- or it was not, and is the last one
pub record IsLineStopped (past : List Request) (old new : MountSeen) (asking : Asking) (fault : LineFault) : Type 0 where
  pub mounted : HasLedTo past new
  pub kept : IsKept old new
  pub runs : (done : ℕ) (line : LineAsked) (lines : List LineAsked) → line.asking ≡ asking
      → IsRun (terms_of old) past done (line ∷ lines) (stopped_at past done line.text fault)

-- the line that was not done, as a run has it
abbrev pub refused_line : Option Stop → Option LineRefused
refused_line None = None
refused_line (Some stop) = Some (record { text = stop.line.now; fault = stop.fault })

-- lines were done so far, where so many bytes were before them
pub record RunsFrom (past : List Request) (done : ℕ) (old new : MountSeen) (lines : List LineAsked) (progress : Progress) : Type 0 where
  pub after : List Request
  pub mounted : HasLedTo after new
  pub kept : IsKept old new
  pub runs : IsRun (terms_of old) past done lines (record { past = after; done = progress.done; refused = refused_line progress.stop })

abbrev pub RunsTo : List Request → MountSeen → MountSeen → List LineAsked → Progress → Type 0
RunsTo past old new lines progress = RunsFrom past 0 old new lines progress

-- what a call that does a line gives
abbrev pub DoesLine : List Request → MountSeen → MountSeen → Asking → Result (Unit {0}) LineFault → Type 0
DoesLine past old new asking (Ok done) = IsLineDone past old new asking
DoesLine past old new asking (Err fault) = IsLineStopped past old new asking fault

-- the file that is written to is there still, by the same path: only a declaration changes what is there
pub record StaysThere (old new : SceneSeen) (owner : Owner) (file : File) : Type 0 where
  pub there : is_there new (nodes.File owner file) ≡ true
  pub path : path_of new (nodes.File owner file) ≡ path_of old (nodes.File owner file)

-- the command that a line is for the file of a target
abbrev pub target_command : SceneSeen → Target → Bool → List ℕ → Asking
target_command scene target append line = line_command scene (nodes.File target.owner target.file) target.file append line

-- a line that is an event declares none
pub record IsEventDone (past : List Request) (old new : MountSeen) (asking : Asking) : Type 0 where
  pub is : IsLineDone past old new asking
  pub declared : declared_events is.after ≡ declared_events past

abbrev pub DoesInjection : List Request → MountSeen → MountSeen → Asking → Result (Unit {0}) LineFault → Type 0
DoesInjection past old new asking (Ok done) = IsEventDone past old new asking
DoesInjection past old new asking (Err fault) = IsLineStopped past old new asking fault

pub record InjectsTo (past : List Request) (old new : MountSeen) (lines : List LineAsked) (progress : Progress) : Type 0 where
  pub is : RunsTo past old new lines progress
  pub declared : declared_events is.after ≡ declared_events past
