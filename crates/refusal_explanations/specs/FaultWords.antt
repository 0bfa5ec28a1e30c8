-- What is wrong, in words, with a line that is no command.
use Rattle.std.specs.Prelude.{ℕ, Bool, ◌||◌, List, drop, codes, if◌then◌else◌}
use Rattle.std.specs.List.{prefix_len}
use Rattle.std.specs.Str.{bytes_eq}
use Rattle.trace_lex.specs.Blanks.{is_blank}
use Rattle.trace_script.specs.declared.fault.ScriptFault.{ScriptFault}
use Rattle.trace_script.specs.declared.fault.ScriptFault.TheVariants as fault
use Rattle.trace_trigger.specs.TriggerTexts.{word_of}

-- the first words of lines of a parallel part
abbrev pub is_block_word : List ℕ → Bool
is_block_word name = bytes_eq name (codes "parallel") || (bytes_eq name (codes "thread") || bytes_eq name (codes "end"))

-- how a line is written whose first word is this
unfoldable pub usage_words : List ℕ → List ℕ
usage_words name =
    if bytes_eq name (codes "emit") then codes "expected `emit CPU PID EVENT FIELD=VALUE ..`"
    else (if bytes_eq name (codes "echo") then codes "expected `echo WORD .. > PATH`, or `>>`"
    else (if bytes_eq name (codes "cat") then codes "expected `cat PATH`"
    else (if bytes_eq name (codes "take") then codes "expected `take N PATH`"
    else (if bytes_eq name (codes "mkdir") then codes "expected `mkdir PATH`"
    else (if bytes_eq name (codes "rmdir") then codes "expected `rmdir PATH`"
    else (if is_block_word name then codes "expected nothing more" else codes "too few words, or too many"))))))

-- what is wrong with a line that stands alone, and begins so
abbrev pub lone_words : List ℕ → ScriptFault → List ℕ
lone_words name fault.LineTooLong = codes "the line has over 4,096 bytes"
lone_words name fault.BadByte = codes "this byte is neither a tab nor one from 0x20 to 0x7e"
lone_words name fault.UnclosedQuote = codes "this quote is not closed"
lone_words name fault.UnknownCommand = codes "unknown command"
lone_words name fault.WrongWords = usage_words name
lone_words name fault.BadNumber = codes "expected a number in its range"
lone_words name fault.BlockOutOfPlace =
    if bytes_eq name (codes "parallel") then codes "only a script has parallel parts" else codes "no parallel part is open here"
lone_words name fault.TooManyThreads = codes "a parallel part has at most eight threads"

abbrev pub line_words : List ℕ → ScriptFault → List ℕ
line_words line fault = lone_words (word_of (drop (prefix_len is_blank line) line)) fault
