-- The lines of a script: which words and redirections each command is written of, and what a line asks for.
use Rattle.std.specs.Prelude.{◌≡◌, ◌≢◌, ◌≤◌, ℕ, ℤ, ◌-◌, ◌^◌, Bool, true, false, List, [], ◌∷◌, ◌++◌, length, map, Some, None, codes}
use Rattle.std.specs.List.{AllByRecursion, list_all, join_with_byte}
use Rattle.trace_format.specs.declared.pair.Pair.{Pair}
use Rattle.trace_command.specs.Commands.{Command}
use Rattle.trace_command.specs.declared.command.CommandOf.TheVariants.{Emit, Mkdir, Rmdir, Write, Read}
use Rattle.trace_script.specs.Grammar.{IsWritten}
use Rattle.trace_script.specs.Lines.{number_up_to, process_id, is_line_byte, says_nothing}
use Rattle.trace_script.specs.declared.line.Line.{Line}
use Rattle.trace_script.specs.declared.line.Line.TheVariants.{Blank, Ask, Parallel, Thread, End}
use Rattle.trace_script.specs.declared.token.Token.{Token}
use Rattle.trace_script.specs.declared.token.Token.TheVariants.{Word, Redirect}

-- the word of a pair: the name, a `=` and the value
abbrev pub pair_word : Pair → Token
pair_word pair = Word (pair.name ++ 61 ∷ pair.value)

-- a name that a word can write has no `=`
abbrev pub IsPair : Pair → Type 0
IsPair pair = AllByRecursion (λ b. b ≢ 61) pair.name

-- `CPU PID EVENT FIELD=VALUE ..`, with one pair or more
pub record IsEmissionOf (tokens : List Token) (command : Command) : Type 0 where
  pub cpu_digits : List ℕ
  pub pid_digits : List ℕ
  pub event : List ℕ
  pub first : Pair
  pub more : List Pair
  pub cpu : ℕ
  pub pid : ℤ
  pub written : tokens ≡ Word cpu_digits ∷ Word pid_digits ∷ Word event ∷ map pair_word (first ∷ more)
  pub pairs : AllByRecursion IsPair (first ∷ more)
  pub cpu_number : number_up_to (2 ^ 32 - 1) cpu_digits ≡ Some cpu
  pub pid_number : process_id pid_digits ≡ Some pid
  pub meaning : command ≡ Emit event cpu pid (first ∷ more)

-- words or none, a redirection and a path: the command writes the words, joined by one space, to the path
pub record IsWriteOf (tokens : List Token) (command : Command) : Type 0 where
  pub words : List (List ℕ)
  pub append : Bool
  pub path : List ℕ
  pub written : tokens ≡ map Word words ++ Redirect append ∷ Word path ∷ []
  pub meaning : command ≡ Write path append (join_with_byte 32 words)

-- `N PATH`: a read of at most N records
pub record IsTakeOf (tokens : List Token) (command : Command) : Type 0 where
  pub digits : List ℕ
  pub path : List ℕ
  pub limit : ℕ
  pub written : tokens ≡ Word digits ∷ Word path ∷ []
  pub number : number_up_to (2 ^ 64 - 1) digits ≡ Some limit
  pub meaning : command ≡ Read path (Some limit)

-- `PATH`, and what the command does with it
pub record IsOfPath (of_path : List ℕ → Command) (tokens : List Token) (command : Command) : Type 0 where
  pub path : List ℕ
  pub written : tokens ≡ Word path ∷ []
  pub meaning : command ≡ of_path path

-- a command: its name, and then what it takes
pub data IsCommandOf (tokens : List Token) (command : Command) : Type 0 where
  AnEmit : (rest : List Token) → tokens ≡ Word (codes "emit") ∷ rest → IsEmissionOf rest command → IsCommandOf tokens command
  AnEcho : (rest : List Token) → tokens ≡ Word (codes "echo") ∷ rest → IsWriteOf rest command → IsCommandOf tokens command
  ACat : (rest : List Token) → tokens ≡ Word (codes "cat") ∷ rest → IsOfPath (λ path. Read path None) rest command → IsCommandOf tokens command
  ATake : (rest : List Token) → tokens ≡ Word (codes "take") ∷ rest → IsTakeOf rest command → IsCommandOf tokens command
  AMkdir : (rest : List Token) → tokens ≡ Word (codes "mkdir") ∷ rest → IsOfPath Mkdir rest command → IsCommandOf tokens command
  ARmdir : (rest : List Token) → tokens ≡ Word (codes "rmdir") ∷ rest → IsOfPath Rmdir rest command → IsCommandOf tokens command

-- what tokens ask for: a command, or a line of a parallel part, which is its name alone
pub data IsAskedBy (tokens : List Token) (line : Line) : Type 0 where
  ACommand : (command : Command) → IsCommandOf tokens command → line ≡ Ask command → IsAskedBy tokens line
  AParallel : tokens ≡ Word (codes "parallel") ∷ [] → line ≡ Parallel → IsAskedBy tokens line
  AThread : tokens ≡ Word (codes "thread") ∷ [] → line ≡ Thread → IsAskedBy tokens line
  AnEnd : tokens ≡ Word (codes "end") ∷ [] → line ≡ End → IsAskedBy tokens line

-- at most 4,096 bytes, each of them printed or a tab
pub record IsLawful (text : List ℕ) : Type 0 where
  pub short : length text ≤ 4096
  pub bytes : list_all is_line_byte text ≡ true

-- what a lawful line asks for: nothing, if it is blank or a comment, or else what the tokens that it is written of ask for
pub data AsksFor (text : List ℕ) (line : Line) : Type 0 where
  Nothing : IsLawful text → says_nothing text ≡ true → line ≡ Blank → AsksFor text line
  Something : IsLawful text → says_nothing text ≡ false → (tokens : List Token) → IsWritten text tokens → IsAskedBy tokens line → AsksFor text line
