-- Requests: commands whose paths were read.
use Rattle.std.specs.Prelude.{ℕ, ℤ, ◌<◌, ◌^◌, FitsSigned, Bool, List, Option, Some, ⊤}
use Rattle.std.specs.Int.{w32}
use Rattle.trace_command.specs.Paths.{File, address_of, instance_of}
use Rattle.trace_format.specs.declared.pair.Pair.{Pair}
use Rattle.trace_command.specs.Commands.{Command}
use Rattle.trace_command.specs.declared.command.CommandOf.TheVariants.{Emit, Mkdir, Rmdir, Write, Read}

-- what is asked: an emission; an instance made or removed; a string written to a file of an instance, to append it or not; such a file read,
-- with a limit or to its end. In a write or a read no name is the top instance; no file: the path names none. A path to make or remove that
-- is not `instances/NAME` names none, and is refused.
pub data Request : Type 0 where
  Emission : (event : List ℕ) (cpu : ℕ) (pid : ℤ) (pairs : List Pair) → Request
  MakeInstance : (name : Option (List ℕ)) → Request
  RemoveInstance : (name : Option (List ℕ)) → Request
  WriteFile : (instance : Option (List ℕ)) (file : Option File) (append : Bool) (text : List ℕ) → Request
  ReadFile : (instance : Option (List ℕ)) (file : Option File) (limit : Option ℕ) → Request

-- the request that a command makes
abbrev pub request_of : Command → Request
request_of (Emit event cpu pid pairs) = Emission event cpu pid pairs
request_of (Mkdir path) = MakeInstance (instance_of path)
request_of (Rmdir path) = RemoveInstance (instance_of path)
request_of (Write path append text) = WriteFile (address_of path).instance (address_of path).file append text
request_of (Read path limit) = ReadFile (address_of path).instance (address_of path).file limit

-- the numbers of a request fit their types: the CPU of an emission 32 bits, its process 32 bits with a sign, the limit of a read 64 bits
abbrev pub FitsItsTypes : Request → Type 0
FitsItsTypes (Emission event cpu pid pairs) = (cpu < 2 ^ 32) × FitsSigned w32 pid
FitsItsTypes (ReadFile instance file (Some limit)) = limit < 2 ^ 64
FitsItsTypes _ = ⊤
