-- What a line asks for is what it is written of.
use Rattle.std.proofs.Common.{◌≡◌, ◌≤◌, ℕ, Bool, true, false, nat_lt, if◌then◌else◌, List, length, Option, Some, None, Result, Ok, Err, refl, arith}
use Rattle.std.proofs.lemmas.Bool.Decides.{nat_tests}
use Rattle.std.specs.List.{list_all}
use Rattle.trace_script.specs.Outcomes.{or_fault, ◌>>=◌}
use Rattle.trace_script.specs.Tokens.{tokens_of}
use Rattle.trace_script.specs.Lines.{asked_of, is_line_byte, says_nothing, spoken, line_of}
use Rattle.trace_script.specs.Commands.{AsksFor, Nothing, Something}
use Rattle.trace_script.specs.declared.fault.ScriptFault.{ScriptFault}
use Rattle.trace_script.specs.declared.fault.ScriptFault.TheVariants.{LineTooLong, BadByte, UnclosedQuote}
use Rattle.trace_script.specs.declared.line.Line.{Line}
use Rattle.trace_script.specs.declared.line.Line.TheVariants.{Blank}
use Rattle.trace_script.specs.declared.token.Token.{Token}
use Rattle.trace_script.proofs.GrammarLaws.{line_written, written_read}
use Rattle.trace_script.proofs.CommandLaws.{tokens_found, tokens_read}

pub fits : (n : ℕ) → n ≤ 4096 → nat_lt 4096 n ≡ false
fits n h = grind (arith, nat_tests)

pub is_short : (n : ℕ) → nat_lt 4096 n ≡ false → n ≤ 4096
is_short n e = grind (arith, nat_tests)

pub line_read : (text : List ℕ) (line : Line) → AsksFor text line → line_of text ≡ Ok line
unfolding line_of spoken
line_read text line (Nothing lawful says e) = rw (fits (length text) lawful.short, lawful.bytes, says, e) refl
line_read text line (Something lawful says tokens written asked) =
    rw (fits (length text) lawful.short, lawful.bytes, says, written_read text tokens written) (tokens_read tokens line asked)

-- the tests of a line, one by one
line_step : (text : List ℕ) (line : Line) (long lawful silent : Bool) (tokens : Option (List Token)) → nat_lt 4096 (length text) ≡ long
    → list_all is_line_byte text ≡ lawful → says_nothing text ≡ silent → tokens_of text ≡ tokens
    → ◌≡◌ {A = Result Line ScriptFault} (if long then Err LineTooLong else (if lawful then (if silent then Ok Blank
    else (or_fault UnclosedQuote tokens >>= λ tokens. asked_of tokens)) else Err BadByte)) (Ok line)
    → AsksFor text line
line_step text line true lawful silent tokens f g h i e = absurd (cc)
line_step text line false false silent tokens f g h i e = absurd (cc)
line_step text line false true true tokens f g h i e = Nothing (record { short = is_short (length text) f; bytes = g }) h (cc)
line_step text line false true false None f g h i e = absurd (cc)
line_step text line false true false (Some tokens) f g h i e =
    Something (record { short = is_short (length text) f; bytes = g }) h tokens (line_written text tokens i) (tokens_found tokens line e)

pub line_asks : (text : List ℕ) (line : Line) → line_of text ≡ Ok line → AsksFor text line
unfolding line_of spoken
line_asks text line e = line_step text line (nat_lt 4096 (length text)) (list_all is_line_byte text) (says_nothing text) (tokens_of text) refl refl refl refl e
