-- A script with looks at pipes and what they tell, worked by hand (ftrace.rst, "The File System", "Instances", "Snapshot"). The checker computes it.
use Rattle.std.specs.Prelude.{◌≡◌, ℕ, Bool, true, false, IsOk, List, [], ◌∷◌, Result, Ok, Err, ⊤, codes}
use Rattle.trace_command.specs.Paths.{address_of}
use Rattle.trace_command.specs.Requests.{Request, request_of}
use Rattle.trace_command.specs.Commands.{Command}
use Rattle.trace_command.specs.declared.command.CommandOf.TheVariants.{Mkdir}
use Rattle.trace_command.specs.declared.command.Config.{Config}
use Rattle.trace_command.specs.declared.refusal.Refusal.{Refusal}
use Rattle.trace_command.specs.declared.refusal.Refusal.TheVariants.{NoSuchFile, NotReadable, BadValue, NoSuchEvent, NoSuchInstance, NoSuchCpu}
use Rattle.tracer_specification.specs.Examples.{echo, take, tick}
use Rattle.tracer_specification.specs.History.{answer}
use Rattle.tracer_specification.specs.SnapshotExamples.{in_instance}
use Rattle.tracer_specification.specs.Waiting.{waiting}

-- a command that is done, or a look at a path with what it tells
pub data Step : Type 0 where
  Does : Command → Step
  Looks : List ℕ → Result Bool Refusal → Step

infix 90 ◌tells◌
abbrev pub ◌tells◌ : List ℕ → Result Bool Refusal → Step
path tells told = Looks path told

-- after this past each command is done, one after another, and each look tells of those before it what stands beside it
abbrev pub AreTold : Config → List Request → List Step → Type 0
AreTold g past [] = ⊤
AreTold g past (Does command ∷ steps) = IsOk (answer g past (request_of command)) × AreTold g (request_of command ∷ past) steps
AreTold g past (Looks path told ∷ steps) = (waiting g past (address_of path).instance (address_of path).file ≡ told) × AreTold g past steps

-- ---- paths

abbrev pub pipe : List ℕ
pipe = codes "trace_pipe"

abbrev pub pipe_0 : List ℕ
pipe_0 = codes "per_cpu/cpu0/trace_pipe"

abbrev pub pipe_1 : List ℕ
pipe_1 = codes "per_cpu/cpu1/trace_pipe"

-- ---- the script

-- A record waits in the pipe of its CPU, and in that of all, of each instance that recorded it. A read of one instance takes it from no other. A
-- snapshot takes what waited to the spare side, where no look finds it, and the next one brings it back. Only a pipe that is there is looked at.
abbrev pub looks : List Step
looks =
    Does (echo (codes "tick u64 n") (codes "synthetic_events"))
    ∷ Does (Mkdir (codes "instances/a"))
    ∷ Does (echo (codes "1") (codes "events/enable"))
    ∷ Does (echo (codes "1") (in_instance (codes "events/enable")))
    ∷ pipe tells Ok false
    ∷ Does (tick 1 (codes "1"))
    ∷ pipe tells Ok true
    ∷ pipe_0 tells Ok false
    ∷ pipe_1 tells Ok true
    ∷ Does (echo (codes "1") (codes "snapshot"))
    ∷ pipe tells Ok false
    ∷ in_instance pipe tells Ok true
    ∷ Does (tick 0 (codes "2"))
    ∷ Does (take 1 (in_instance pipe))
    ∷ pipe_0 tells Ok true
    ∷ pipe_1 tells Ok false
    ∷ in_instance pipe tells Ok true
    ∷ in_instance pipe_0 tells Ok true
    ∷ in_instance pipe_1 tells Ok false
    ∷ Does (echo (codes "1") (codes "snapshot"))
    ∷ pipe_0 tells Ok false
    ∷ pipe_1 tells Ok true
    ∷ codes "per_cpu/cpu2/trace_pipe" tells Err NoSuchCpu
    ∷ codes "trace" tells Err BadValue
    ∷ codes "synthetic_events" tells Err BadValue
    ∷ codes "events/synthetic/filter" tells Err NotReadable
    ∷ codes "events/synthetic/tock/hist" tells Err NoSuchEvent
    ∷ in_instance (codes "synthetic_events") tells Err NoSuchFile
    ∷ codes "instances/b/trace_pipe" tells Err NoSuchInstance
    ∷ []
