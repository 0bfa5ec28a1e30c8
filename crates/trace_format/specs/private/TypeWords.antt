-- The later tests of `type_of`, which the program makes in functions of their own.
use Rattle.std.specs.Prelude.{if◌then◌else◌, bytes_eq, codes, List, ℕ, Option, None, Some}
use Rattle.trace_format.specs.declared.kind.NumberType.{NumberType}
use Rattle.trace_format.specs.declared.kind.NumberType.TheVariants.{S8, S16, S32, S64, Int, PidT, Long}

-- a type of C
abbrev pub c_type_of : List ℕ → Option NumberType
c_type_of word = if bytes_eq word (codes "int") then Some Int
    else if bytes_eq word (codes "pid_t") then Some PidT
    else if bytes_eq word (codes "long") then Some Long
    else None

-- a type with a sign
abbrev pub signed_type_of : List ℕ → Option NumberType
signed_type_of word = if bytes_eq word (codes "s8") then Some S8
    else if bytes_eq word (codes "s16") then Some S16
    else if bytes_eq word (codes "s32") then Some S32
    else if bytes_eq word (codes "s64") then Some S64
    else c_type_of word
