-- Lines of a parallel part, and those of a command.
use Rattle.std.proofs.Common.{◌≡◌, ◌≢◌, ℕ, Bool, true, false, ◌||◌, if◌then◌else◌, List, [], ◌∷◌, codes, Result, Ok, Err, refl, ap, ◌∙◌}
use Rattle.std.specs.Str.{bytes_eq}
use Rattle.trace_command.specs.Commands.{Command}
use Rattle.trace_script.specs.Lines.{alone, named_command, named_line}
use Rattle.trace_script.specs.Outcomes.{Fails, ◌>>=◌}
use Rattle.trace_script.specs.private.Words.{is_block_word, block_line}
use Rattle.trace_script.specs.declared.fault.LineError.{LineError}
use Rattle.trace_script.specs.declared.fault.LineError.TheVariants.{Fault, Memory}
use Rattle.trace_script.specs.declared.fault.ScriptFault.{ScriptFault}
use Rattle.trace_script.specs.declared.fault.ScriptFault.TheVariants.{WrongWords}
use Rattle.trace_script.specs.declared.line.Line.{Line}
use Rattle.trace_script.specs.declared.line.Line.TheVariants.{Ask, Parallel, Thread, End}
use Rattle.trace_script.specs.declared.token.Token.{Token}

-- a line by whether its name is each of the three
abbrev by_name : Bool → Bool → Bool → List Token → Result Line ScriptFault → Result Line ScriptFault
by_name x y z tokens other =
    if x then alone Parallel tokens else (if y then alone Thread tokens else (if z then alone End tokens else other))

block_named : (name : List ℕ) (tokens : List Token) → is_block_word name ≡ true → named_line name tokens ≡ alone (block_line name) tokens
unfolding named_line
block_named name tokens is = by_tests (bytes_eq name (codes "parallel")) (bytes_eq name (codes "thread")) (bytes_eq name (codes "end")) is
  where
    by_tests : (x y z : Bool) → (x || (y || z)) ≡ true
        → by_name x y z tokens (named_command name tokens >>= λ command. Ok (Ask command)) ≡ alone (if x then Parallel else (if y then Thread else End)) tokens
    by_tests true y z e = refl
    by_tests false true z e = refl
    by_tests false false true e = refl
    by_tests false false false e = absurd cc

command_named : (name : List ℕ) (tokens : List Token) → is_block_word name ≡ false → named_line name tokens ≡ (named_command name tokens >>= λ command. Ok (Ask command))
unfolding named_line
command_named name tokens is = by_tests (bytes_eq name (codes "parallel")) (bytes_eq name (codes "thread")) (bytes_eq name (codes "end")) is
  where
    by_tests : (x y z : Bool) → (x || (y || z)) ≡ false
        → by_name x y z tokens (named_command name tokens >>= λ command. Ok (Ask command)) ≡ (named_command name tokens >>= λ command. Ok (Ask command))
    by_tests true y z e = absurd cc
    by_tests false true z e = absurd cc
    by_tests false false true e = absurd cc
    by_tests false false false e = refl

-- no token follows
pub block_alone : (name : List ℕ) (tokens : List Token) → is_block_word name ≡ true → tokens ≡ [] → named_line name tokens ≡ Ok (block_line name)
block_alone name tokens is none = block_named name tokens is ∙ ap (alone (block_line name)) none

-- a token follows
pub block_followed : (name : List ℕ) (tokens : List Token) → is_block_word name ≡ true → tokens ≢ [] → named_line name tokens ≡ Err WrongWords
block_followed name [] is some = absurd (some refl)
block_followed name (t ∷ ts) is some = block_named name (t ∷ ts) is

-- a command
pub asks_command : (name : List ℕ) (tokens : List Token) (command : Command) → is_block_word name ≡ false → named_command name tokens ≡ Ok command → named_line name tokens ≡ Ok (Ask command)
asks_command name tokens command is found = command_named name tokens is ∙ ap (λ (r : Result Command ScriptFault). r >>= λ command. Ok (Ask command)) found

pub no_command : (name : List ℕ) (tokens : List Token) (error : LineError) → is_block_word name ≡ false → Fails error (named_command name tokens) → Fails error (named_line name tokens)
no_command name tokens Memory is fails = tt
no_command name tokens (Fault fault) is fails = command_named name tokens is ∙ ap (λ (r : Result Command ScriptFault). r >>= λ command. Ok (Ask command)) fails
