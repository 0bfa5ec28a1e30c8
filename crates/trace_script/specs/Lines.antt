-- What a line of a script asks for, or the first fault that is found in it.
use Rattle.std.specs.Prelude.{ℕ, ℤ, pos, ◌+◌, ◌-◌, ◌^◌, Bool, true, nat_lt, nat_le, ◌&&◌, ◌||◌, ◌==◌, if◌then◌else◌, List, [], ◌∷◌, ◌++◌, length, take, drop, position, Option, Some, None, Result, Ok, Err, codes}
use Rattle.std.proofs.Common.{neg_ℤ}
use Rattle.std.specs.List.{list_all, join_with_byte}
use Rattle.std.specs.Option.{option_map, option_and_then}
use Rattle.std.specs.Str.{bytes_eq}
use Rattle.trace_lex.specs.Blanks.{is_blank}
use Rattle.trace_lex.specs.Decimals.{decimal_number, up_to}
use Rattle.trace_format.specs.declared.pair.Pair.{Pair}
use Rattle.trace_command.specs.Commands.{Command}
use Rattle.trace_command.specs.declared.command.CommandOf.TheVariants.{Emit, Mkdir, Rmdir, Write, Read}
use Rattle.trace_script.specs.Outcomes.{or_fault, ◌>>=◌}
use Rattle.trace_script.specs.Tokens.{tokens_of}
use Rattle.trace_script.specs.declared.line.Line.{Line}
use Rattle.trace_script.specs.declared.line.Line.TheVariants.{Blank, Ask, Parallel, Thread, End}
use Rattle.trace_script.specs.declared.token.Token.{Token}
use Rattle.trace_script.specs.declared.token.Token.TheVariants.{Word, Redirect}
use Rattle.trace_script.specs.declared.fault.ScriptFault.{ScriptFault}
use Rattle.trace_script.specs.declared.fault.ScriptFault.TheVariants.{LineTooLong, BadByte, UnclosedQuote, UnknownCommand, WrongWords, BadNumber}

-- ---- numbers

-- a decimal number of at most this much
abbrev pub number_up_to : ℕ → List ℕ → Option ℕ
number_up_to most text = up_to most (decimal_number text)

-- a decimal number from -2^31 to 2^31 - 1; a `-` may stand before it
unfoldable pub process_id : List ℕ → Option ℤ
process_id [] = None
process_id (b ∷ bs) =
    if b == 45 then option_map (λ n. neg_ℤ (pos n)) (number_up_to (2 ^ 31) bs) else option_map pos (number_up_to (2 ^ 31 - 1) (b ∷ bs))

-- ---- commands

-- a pair: its first `=` separates the name from the value
unfoldable pub pair_of : List ℕ → Option Pair
pair_of word = option_map (λ at. record { name = take at word; value = drop (at + 1) word }) (position (λ b. b == 61) word)

-- each of the tokens is a pair
unfoldable pub pairs_of : List Token → Option (List Pair)
pairs_of [] = Some []
pairs_of (Redirect append ∷ tokens) = None
pairs_of (Word word ∷ tokens) = option_and_then (λ pair. option_map (λ pairs. pair ∷ pairs) (pairs_of tokens)) (pair_of word)

-- the emission of these words and pairs
abbrev pub emission_with : List ℕ → List ℕ → List ℕ → List Pair → Result Command ScriptFault
emission_with cpu pid event pairs =
    or_fault BadNumber (number_up_to (2 ^ 32 - 1) cpu) >>= λ cpu. or_fault BadNumber (process_id pid) >>= λ pid. Ok (Emit event cpu pid pairs)

-- `emit CPU PID EVENT FIELD=VALUE ..`, with one pair or more
unfoldable pub emission_of : List Token → Result Command ScriptFault
emission_of (Word cpu ∷ Word pid ∷ Word event ∷ pair ∷ more) =
    or_fault WrongWords (pairs_of (pair ∷ more)) >>= λ pairs. emission_with cpu pid event pairs
emission_of _ = Err WrongWords

-- one word and nothing else
abbrev pub only_word : List Token → Result (List ℕ) ScriptFault
only_word (Word word ∷ []) = Ok word
only_word _ = Err WrongWords

-- a path follows the redirection, and nothing else
abbrev pub redirected_to : Bool → List ℕ → List Token → Result Command ScriptFault
redirected_to append text tokens = only_word tokens >>= λ path. Ok (Write path append text)

-- words, a redirection and a path, after these words
abbrev pub write_behind : List (List ℕ) → List Token → Result Command ScriptFault
write_behind words [] = Err WrongWords
write_behind words (Word word ∷ tokens) = write_behind (words ++ word ∷ []) tokens
write_behind words (Redirect append ∷ tokens) = redirected_to append (join_with_byte 32 words) tokens

-- an `echo`: words or none, a redirection and a path; what is written is the words with a space between each two
unfoldable pub write_of : List Token → Result Command ScriptFault
write_of tokens = write_behind [] tokens

-- `cat PATH`: to its end
unfoldable pub read_of : List Token → Result Command ScriptFault
read_of tokens = only_word tokens >>= λ path. Ok (Read path None)

-- `take N PATH`: at most N records
unfoldable pub take_of : List Token → Result Command ScriptFault
take_of (Word count ∷ Word path ∷ []) = or_fault BadNumber (number_up_to (2 ^ 64 - 1) count) >>= λ limit. Ok (Read path (Some limit))
take_of _ = Err WrongWords

-- `mkdir PATH`: an instance made
unfoldable pub mkdir_of : List Token → Result Command ScriptFault
mkdir_of tokens = only_word tokens >>= λ path. Ok (Mkdir path)

-- `rmdir PATH`: an instance removed
unfoldable pub rmdir_of : List Token → Result Command ScriptFault
rmdir_of tokens = only_word tokens >>= λ path. Ok (Rmdir path)

-- the command of this name
unfoldable pub named_command : List ℕ → List Token → Result Command ScriptFault
named_command name tokens =
    if bytes_eq name (codes "emit") then emission_of tokens
    else (if bytes_eq name (codes "echo") then write_of tokens
    else (if bytes_eq name (codes "cat") then read_of tokens
    else (if bytes_eq name (codes "take") then take_of tokens
    else (if bytes_eq name (codes "mkdir") then mkdir_of tokens
    else (if bytes_eq name (codes "rmdir") then rmdir_of tokens else Err UnknownCommand)))))

-- ---- lines

-- a line of one word: nothing follows its name
abbrev pub alone : Line → List Token → Result Line ScriptFault
alone line [] = Ok line
alone line _ = Err WrongWords

-- the line of this name: one of a parallel part, or a command
unfoldable pub named_line : List ℕ → List Token → Result Line ScriptFault
named_line name tokens =
    if bytes_eq name (codes "parallel") then alone Parallel tokens
    else (if bytes_eq name (codes "thread") then alone Thread tokens
    else (if bytes_eq name (codes "end") then alone End tokens
    else (named_command name tokens >>= λ command. Ok (Ask command))))

-- the first token names the line
unfoldable pub asked_of : List Token → Result Line ScriptFault
asked_of (Word name ∷ tokens) = named_line name tokens
asked_of _ = Err UnknownCommand

-- a tab, or a byte from 0x20 to 0x7e
abbrev pub is_line_byte : ℕ → Bool
is_line_byte b = b == 9 || (nat_le 32 b && nat_le b 126)

-- a line with no byte but blanks, or whose first other byte is a `#`
abbrev pub says_nothing : List ℕ → Bool
says_nothing [] = true
says_nothing (b ∷ bs) = if is_blank b then says_nothing bs else b == 35

-- a line of lawful length and bytes
unfoldable pub spoken : List ℕ → Result Line ScriptFault
spoken line =
    if says_nothing line then Ok Blank
    else (or_fault UnclosedQuote (tokens_of line) >>= λ tokens. asked_of tokens)

-- what a line asks for
unfoldable pub line_of : List ℕ → Result Line ScriptFault
line_of line =
    if nat_lt 4096 (length line) then Err LineTooLong
    else (if list_all is_line_byte line then spoken line else Err BadByte)
