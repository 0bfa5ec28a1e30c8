-- What is written to `inject`: a line an event, each with the pairs of an emission's line in a script; a field that is left out is 0 or empty.
use Rattle.std.specs.Prelude.{ℕ, pos, List, [], ◌∷◌, ◌++◌, Option, Some, None, Result, Ok, codes, if◌then◌else◌}
use Rattle.std.specs.List.{list_any}
use Rattle.std.specs.Str.{bytes_eq}
use Rattle.trace_format.specs.Definitions.{Definition}
use Rattle.trace_format.specs.Kinds.{is_text_kind}
use Rattle.trace_format.specs.declared.event.Field.{Field}
use Rattle.trace_format.specs.declared.pair.Pair.{Pair}
use Rattle.trace_command.specs.Requests.{Request, Emission}
use Rattle.trace_command.specs.declared.command.CommandOf.TheVariants.{Emit}
use Rattle.trace_script.specs.Lines.{line_of}
use Rattle.trace_script.specs.declared.fault.ScriptFault.{ScriptFault}
use Rattle.trace_script.specs.declared.line.Line.{Line}
use Rattle.trace_script.specs.declared.line.Line.TheVariants.{Ask}

-- the pairs of a line that asks for an emission
abbrev pub pairs_asked : Result Line ScriptFault → Option (List Pair)
pairs_asked (Ok (Ask (Emit event cpu pid pairs))) = Some pairs
pairs_asked _ = None

-- the pairs of a line that is not blank, written as after `emit 0 0 e ` in a script
unfoldable pub pairs_of_line : List ℕ → Option (List Pair)
pairs_of_line line = pairs_asked (line_of (codes "emit 0 0 e " ++ line))

-- a field that is left out is 0, or empty
abbrev pub default_pair : Field → Pair
default_pair field = record { name = field.name; value = if is_text_kind field.kind then [] else codes "0" }

unfoldable pub left_out : List Pair → List Field → List Pair
left_out pairs [] = []
left_out pairs (field ∷ fields) =
    if list_any (λ (pair : Pair). bytes_eq pair.name field.name) pairs then left_out pairs fields
    else default_pair field ∷ left_out pairs fields

-- the emission of an event with these pairs on a CPU, by a process
abbrev pub injection : ℕ → Definition → ℕ → List Pair → Request
injection cpu event pid pairs = Emission event.name cpu (pos pid) (pairs ++ left_out pairs event.fields)
