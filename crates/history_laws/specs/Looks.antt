-- Looking changes nothing: a read of a file that is no pipe leaves every later answer as it is without the read (ftrace.rst, "The File System"). The
-- newest request comes first.
use Rattle.std.specs.Prelude.{◌≡◌, ◌<◌, ℕ, ◌+◌, false, List, ◌∷◌, ◌++◌, length, Option, Some}
use Rattle.trace_command.specs.Paths.{File}
use Rattle.trace_command.specs.Requests.{Request, ReadFile, request_of}
use Rattle.trace_command.specs.declared.command.Config.{Config}
use Rattle.trace_command.specs.declared.command.Entry.{Entry}
use Rattle.tracer_specification.specs.History.{answer, answer_with_room, IsLegalNewestFirst}
use Rattle.tracer_specification.specs.Pasts.{AreDone}
use Rattle.tracer_specification.specs.Waiting.{waiting}
use Rattle.history_laws.specs.ReadsInParts.{is_pipe}

-- whatever was done before it and after it, the answer to a request is the same with it and without it, were there no limit on the history
abbrev pub LookingChangesNothing : Type 0
LookingChangesNothing =
    (g : Config) (past later : List Request) (instance : Option (List ℕ)) (file : File) (limit : Option ℕ) (next : Request) → is_pipe file ≡ false
    → answer_with_room g (later ++ ReadFile instance (Some file) limit ∷ past) next ≡ answer_with_room g (later ++ past) next

-- and so it is with the limit, as long as that leaves room for the read too
abbrev pub LookingTakesOnlyRoom : Type 0
LookingTakesOnlyRoom =
    (g : Config) (past later : List Request) (instance : Option (List ℕ)) (file : File) (limit : Option ℕ) (next : Request) → is_pipe file ≡ false
    → length (later ++ past) + 1 < g.history_limit
    → answer g (later ++ ReadFile instance (Some file) limit ∷ past) next ≡ answer g (later ++ past) next

-- a look at whether a record waits in a pipe tells the same too
abbrev pub LookingLeavesWaiting : Type 0
LookingLeavesWaiting =
    (g : Config) (past later : List Request) (instance at : Option (List ℕ)) (file : File) (limit : Option ℕ) (pipe : Option File)
    → is_pipe file ≡ false
    → waiting g (later ++ ReadFile instance (Some file) limit ∷ past) at pipe ≡ waiting g (later ++ past) at pipe

-- so requests that were done were done without it
abbrev pub LooksCanBeDoneWithout : Type 0
LooksCanBeDoneWithout =
    (g : Config) (past later : List Request) (instance : Option (List ℕ)) (file : File) (limit : Option ℕ) → is_pipe file ≡ false
    → AreDone g (later ++ ReadFile instance (Some file) limit ∷ past) → AreDone g (later ++ past)

-- and an entry that only looked can be left out of a legal history
abbrev pub LooksCanBeLeftOut : Type 0
LooksCanBeLeftOut =
    (g : Config) (before later : List Entry) (look : Entry) (instance : Option (List ℕ)) (file : File) (limit : Option ℕ)
    → request_of look.command ≡ ReadFile instance (Some file) limit → is_pipe file ≡ false
    → IsLegalNewestFirst g (later ++ look ∷ before) → IsLegalNewestFirst g (later ++ before)
