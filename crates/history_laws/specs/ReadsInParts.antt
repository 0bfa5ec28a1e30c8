-- Reads of a pipe add up: so many records, and then others, are one read of all of them (ftrace.rst, "The File System", `trace_pipe`). The newest
-- request comes first.
use Rattle.std.specs.Prelude.{◌≡◌, ℕ, ◌+◌, Bool, true, false, List, ◌∷◌, ◌++◌, IsOk, Option, Some, None, Ok}
use Rattle.trace_command.specs.Paths.{File, OfInstance, OfCpu}
use Rattle.trace_command.specs.Requests.{Request, ReadFile}
use Rattle.trace_command.specs.declared.command.Config.{Config}
use Rattle.trace_command.specs.declared.command.Reply.TheVariants.{Text}
use Rattle.trace_command.specs.declared.file_name.CpuFile.TheVariants as per_cpu
use Rattle.trace_command.specs.declared.file_name.TopFile.TheVariants as top
use Rattle.tracer_specification.specs.History.{answer_with_room}
use Rattle.tracer_specification.specs.Rings.{rings, other_rings}
use Rattle.tracer_specification.specs.Waiting.{waiting}

-- the pipes of an instance
abbrev pub is_pipe : File → Bool
is_pipe (OfInstance top.TracePipe) = true
is_pipe (OfCpu cpu per_cpu.TracePipe) = true
is_pipe file = false

-- the limit of one read in place of two: both limits together, or none where the second read has none
abbrev pub in_all : ℕ → Option ℕ → Option ℕ
in_all first None = None
in_all first (Some second) = Some (first + second)

-- two reads of a pipe show in turn what the one read shows
pub record AreShownInTurn (g : Config) (past : List Request) (instance : Option (List ℕ)) (pipe : File) (first : ℕ) (second : Option ℕ) : Type 0 where
  pub text : List ℕ
  pub rest : List ℕ
  pub begins : answer_with_room g past (ReadFile instance (Some pipe) (Some first)) ≡ Ok (Text text)
  pub goes_on : answer_with_room g (ReadFile instance (Some pipe) (Some first) ∷ past) (ReadFile instance (Some pipe) second) ≡ Ok (Text rest)
  pub whole : answer_with_room g past (ReadFile instance (Some pipe) (in_all first second)) ≡ Ok (Text (text ++ rest))

abbrev pub ReadsShowInTurn : Type 0
ReadsShowInTurn =
    (g : Config) (past : List Request) (instance : Option (List ℕ)) (pipe : File) (first : ℕ) (second : Option ℕ) → is_pipe pipe ≡ true
    → IsOk (answer_with_room g past (ReadFile instance (Some pipe) (Some first)))
    → AreShownInTurn g past instance pipe first second

-- and they leave the same rings, of this instance and of every other
abbrev pub ReadsLeaveTheSame : Type 0
ReadsLeaveTheSame =
    (g : Config) (past : List Request) (instance other : Option (List ℕ)) (pipe : File) (first : ℕ) (second : Option ℕ) → is_pipe pipe ≡ true
    → (rings g other (ReadFile instance (Some pipe) second ∷ ReadFile instance (Some pipe) (Some first) ∷ past)
    ≡ rings g other (ReadFile instance (Some pipe) (in_all first second) ∷ past))
    × (other_rings g other (ReadFile instance (Some pipe) second ∷ ReadFile instance (Some pipe) (Some first) ∷ past)
    ≡ other_rings g other (ReadFile instance (Some pipe) (in_all first second) ∷ past))

-- so every later answer is the same after the two as after the one, whatever is done then, were there no limit on the history
abbrev pub ReadsLeaveAnswers : Type 0
ReadsLeaveAnswers =
    (g : Config) (past later : List Request) (instance : Option (List ℕ)) (pipe : File) (first : ℕ) (second : Option ℕ) (next : Request) → is_pipe pipe ≡ true
    → answer_with_room g (later ++ ReadFile instance (Some pipe) second ∷ ReadFile instance (Some pipe) (Some first) ∷ past) next
    ≡ answer_with_room g (later ++ ReadFile instance (Some pipe) (in_all first second) ∷ past) next

-- and a look at whether a record waits in a pipe tells the same
abbrev pub ReadsLeaveWaiting : Type 0
ReadsLeaveWaiting =
    (g : Config) (past later : List Request) (instance at : Option (List ℕ)) (pipe : File) (first : ℕ) (second : Option ℕ) (file : Option File)
    → is_pipe pipe ≡ true
    → waiting g (later ++ ReadFile instance (Some pipe) second ∷ ReadFile instance (Some pipe) (Some first) ∷ past) at file
    ≡ waiting g (later ++ ReadFile instance (Some pipe) (in_all first second) ∷ past) at file
