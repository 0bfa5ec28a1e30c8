-- Requests by an address: a file is read or written that is known, so that no path is read.
use Rattle.std.specs.Prelude.{◌≡◌, ℕ, Bool, true, List, Option, is_some}
use Rattle.trace_command.specs.FileNames.{address_at}
use Rattle.trace_command.specs.Paths.{file_of_instance}
use Rattle.trace_command.specs.Requests.{Request, ReadFile, WriteFile}
use Rattle.trace_command.specs.declared.address.Address.{Address}

-- a read of the file at an address; of a pipe of at most so many records
abbrev pub read_at : Address → Option ℕ → Request
read_at address limit = ReadFile (address_at address).instance (address_at address).file limit

-- a string written to it, to append it or not
abbrev pub write_at : Address → Bool → List ℕ → Request
write_at address append text = WriteFile (address_at address).instance (address_at address).file append text

-- events are declared at the top alone, as no path leads to the declarations in an instance
abbrev pub DeclaresAtTop : Address → Type 0
DeclaresAtTop address = is_some (address_at address).instance ≡ true → file_of_instance (address_at address).file ≡ (address_at address).file
