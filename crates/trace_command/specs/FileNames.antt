-- The file and the address that borrowed parts of a path name.
use Rattle.std.specs.Prelude.{ℕ, List, [], Option, Some, None}
use Rattle.std.specs.Borrow.{Bor}
use Rattle.trace_lex.specs.Decimals.{value_after}
use Rattle.trace_command.specs.Paths.{File, SyntheticEvents, OfInstance, OfCpu, OfEvent, Address, parts}
use Rattle.std.specs.Option.{option_map}
use Rattle.trace_command.specs.declared.address.Address.{Address as Borrowed}
use Rattle.trace_command.specs.declared.file_name.FileName.{FileName}
use Rattle.trace_command.specs.declared.file_name.FileName.TheVariants as names

-- the parts after a slash, none if there is no slash
abbrev pub parts_of : Option (Bor (List ℕ)) → List (List ℕ)
parts_of None = []
parts_of (Some rest) = parts rest.now

-- the CPU's number that digits write
abbrev pub cpu_at : Bor (List ℕ) → ℕ
cpu_at digits = value_after 0 digits.now

abbrev pub file_at : FileName → File
file_at names.SyntheticEvents = SyntheticEvents
file_at (names.OfInstance file) = OfInstance file
file_at (names.OfCpu digits file) = OfCpu (cpu_at digits) file
file_at (names.OfEvent name file) = OfEvent name.now file

-- the bytes of a borrowed string
abbrev pub bytes_now : Bor (List ℕ) → List ℕ
bytes_now bytes = bytes.now

-- the address as the definitions have it
abbrev pub address_at : Borrowed → Address
address_at a = record { instance = option_map bytes_now a.instance; file = option_map file_at a.file }
