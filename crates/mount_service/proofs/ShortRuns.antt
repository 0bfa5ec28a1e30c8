-- Where memory is refused at a line after the first, fewer bytes are told as done than were written.
use Rattle.std.proofs.Common.{◌≡◌, inl, inr, ℕ, ◌+◌, ◌-◌, ◌<◌, ◌≤◌, ◌==◌, zero, suc, nat_lt, cond, Bool, true, false, ◌&&◌, if◌then◌else◌, List, [], ◌∷◌, ◌++◌, length, Some, None, Ok, Err, refl, sym, ap, subst, ◌∙◌, arith, length-append}
use Rattle.std.proofs.lemmas.Bool.{false≢true}
use Rattle.std.proofs.lemmas.Bool.Decides.{nat_tests}
use Rattle.std.specs.List.{onto_first}
use Rattle.fuse_wire.specs.declared.errno.Errno.TheVariants.{ENOMEM}
use Rattle.fuse_wire.specs.declared.reply.Reply.TheVariants as replies
use Rattle.trace_command.specs.Requests.{Request}
use Rattle.trace_command.specs.declared.refusal.Refusal.TheVariants.{Memory}
use Rattle.file_list.specs.FileKinds.{takes_lines}
use Rattle.file_list.specs.declared.file.File.{File}
use Rattle.mount_replies.proofs.PieceLemmas.{some-piece}
use Rattle.mount_replies.specs.Lines.{command_lines, has_newline, is_blank_line, is_newline, lines_of, most_kept, one_command, pieces_of, stream_lines, too_long, without_newline}
use Rattle.mount_replies.specs.Mounted.{IsLineRun, IsRun, MayRun, stopped_at}
use Rattle.mount_replies.specs.Services.{Terms}
use Rattle.mount_replies.specs.Steps.{Asking, AsksFor, AsksNothing, IsTooLong, IsWrongLine, LineAsked, Outcome, Ran}
use Rattle.mount_replies.specs.declared.fault.LineFault.{LineFault}
use Rattle.mount_replies.specs.declared.fault.LineFault.TheVariants.{NoCommand, Refused, TooLong}
use Rattle.mount_service.proofs.SameRuns.{IsStopped, Shows, either, refused_line}

-- if any bytes are done, not all are
abbrev pub IsShort : ℕ → ℕ → Type 0
IsShort size done = 0 < done → done < size

-- so it is before each of these lines
abbrev pub AreShort : ℕ → ℕ → List LineAsked → Type 0
AreShort size done [] = Unit {0}
AreShort size done (line ∷ lines) = IsShort size done × AreShort size line.end lines

-- ---- runs

run-short : (g : Terms) (size : ℕ) (past : List Request) (done : ℕ) (lines : List LineAsked) (ran : Ran) → AreShort size done lines
    → IsRun g past done lines ran → IsStopped ran → IsShort size ran.done
run-short g size past done [] ran short is stopped = absurd (let no : None ≡ refused_line stopped.0 Memory = sym (ap (λ (r : Ran). r.refused) is) ∙ stopped.1 in cc)
run-short g size past done (line ∷ lines) ran short is stopped =
    by line.asking (λ now runs. run-short g size now line.end lines ran short.1 runs stopped) is
  where
    stops : (fault : LineFault) → ran ≡ stopped_at past done line.text fault → IsShort size ran.done
    stops fault at = subst (IsShort size) (sym (ap (λ (r : Ran). r.done) at)) short.0

    by : (asking : Asking) → ((now : List Request) → IsRun g now line.end lines ran → IsShort size ran.done)
        → IsLineRun g past done line.text (λ (now : List Request). IsRun g now line.end lines ran) ran asking → IsShort size ran.done
    by AsksNothing rest runs = rest past runs
    by IsWrongLine rest (inl at) = stops NoCommand at
    by IsWrongLine rest (inr at) = stops (Refused Memory) at
    by IsTooLong rest (inl at) = stops TooLong at
    by IsTooLong rest (inr at) = stops (Refused Memory) at
    by (AsksFor request) rest (Ok answer, answered, runs) = rest (request ∷ past) runs
    by (AsksFor request) rest (Err refusal, answered, at) = stops (Refused refusal) at

pub lines-short : (g : Terms) (size : ℕ) (past : List Request) (lines : List LineAsked) (ran : Ran) → AreShort size 0 lines → MayRun g past lines ran
    → IsStopped ran → IsShort size ran.done
lines-short g size past lines ran short (inl runs) stopped = run-short g size past 0 lines ran short runs stopped
lines-short g size past lines ran short (inr stops) stopped =
    let none : ran.done ≡ 0 = ap (λ (r : Ran). r.done) stops.0 in λ some. omega (arith, some, none)

positive : (n : ℕ) → (n == 0) ≡ false → 0 < n
positive zero is = absurd (false≢true (sym is))
positive (suc n) is = omega arith

-- ENOMEM where none are done, and else how many
pub told-short : (t : Bool) (size done : ℕ) (one other : Outcome) → (done == 0) ≡ t → IsShort size done → one.reply ≡ Some (replies.Error ENOMEM)
    → other.reply ≡ Some (replies.Written done) → Shows size (if t then one else other).reply
told-short true size done one other is short first second = inl first
told-short false size done one other is short first second = inr (done, short (positive done is), second)

-- ---- pieces

-- how many bytes pieces have, with the newlines between them
joined : List (List ℕ) → ℕ
joined [] = 0
joined (piece ∷ []) = length piece
joined (piece ∷ next ∷ more) = length piece + 1 + joined (next ∷ more)

joined-more : (x : ℕ) (t : Bool) (parts : List (List ℕ)) → 0 < length parts → joined (cond t ([] ∷ parts) (onto_first x parts)) ≡ joined parts + 1
unfolding joined
joined-more x t [] some = absurd (omega arith)
joined-more x true (part ∷ parts) some = omega arith
joined-more x false (part ∷ []) some = omega arith
joined-more x false (part ∷ next ∷ more) some = omega arith

all-joined : (bytes : List ℕ) → joined (pieces_of bytes) ≡ length bytes
unfolding joined
all-joined [] = refl
all-joined (x ∷ xs) =
    joined-more x (is_newline x) (pieces_of xs) (some-piece xs) ∙ (let before : joined (pieces_of xs) ≡ length xs = all-joined xs in omega (arith, before))

-- ---- the lines of a stream

too-long : (size kept start : ℕ) (rest : List ℕ) → start + length rest ≡ kept + size → AreShort size (start - kept) (too_long size rest)
too-long size kept start rest all = by (nat_lt most_kept (length rest)) refl
  where
    by : (t : Bool) → nat_lt most_kept (length rest) ≡ t → AreShort size (start - kept) (if t then record { text = rest; asking = IsTooLong; end = size } ∷ [] else [])
    by true long = ((λ some. grind (arith, nat_tests)), tt)
    by false long = tt

stream-short : (asking : List ℕ → Asking) (kept size start : ℕ) (pieces : List (List ℕ)) → start + joined pieces ≡ kept + size
    → AreShort size (start - kept) (stream_lines asking kept size start pieces)
unfolding joined stream_lines
stream-short asking kept size start [] all = tt
stream-short asking kept size start (rest ∷ []) all = too-long size kept start rest all
stream-short asking kept size start (line ∷ next ∷ more) all =
    let whole : start + (length line + 1 + joined (next ∷ more)) ≡ kept + size = all in
    ((λ some. omega (arith, some, whole)), stream-short asking kept size (start + length line + 1) (next ∷ more) (omega (arith, whole)))

pub stream-lines-short : (asking : List ℕ → Asking) (rest bytes : List ℕ)
    → AreShort (length bytes) 0 (stream_lines asking (length rest) (length bytes) 0 (pieces_of (rest ++ bytes)))
stream-lines-short asking rest bytes =
    let all : joined (pieces_of (rest ++ bytes)) ≡ length rest + length bytes = all-joined (rest ++ bytes) ∙ length-append rest bytes in
    let none : 0 - length rest ≡ 0 = omega arith in
    subst (λ (n : ℕ). AreShort (length bytes) n (stream_lines asking (length rest) (length bytes) 0 (pieces_of (rest ++ bytes)))) none
    (stream-short asking (length rest) (length bytes) 0 (pieces_of (rest ++ bytes)) (omega (arith, all)))

-- ---- lines that are commands

one-short : (size done : ℕ) (line : LineAsked) → IsShort size done → AreShort size done (line ∷ [])
one-short size done line short = (short, tt)

some-bytes : (line : List ℕ) → is_blank_line line ≡ false → 0 < length line
some-bytes [] is = absurd (false≢true (sym is))
some-bytes (b ∷ line) is = omega arith

command-short : (asking : Bool → List ℕ → Asking) (append : Bool) (size start done : ℕ) (pieces : List (List ℕ)) → done ≤ start → start + joined pieces ≡ size
    → AreShort size done (command_lines asking append size start pieces)
unfolding joined command_lines
command-short asking append size start done [] before all = tt
command-short asking append size start done (line ∷ []) before all = by (is_blank_line line) refl
  where
    by : (t : Bool) → is_blank_line line ≡ t → AreShort size done (if t then [] else one_command asking append size line)
    by true blank = tt
    by false is =
        let some = some-bytes line is in
        let whole : start + length line ≡ size = all in ((λ more. omega (arith, before, whole, some)), tt)
command-short asking append size start done (line ∷ next ∷ more) before all =
    let whole : start + (length line + 1 + joined (next ∷ more)) ≡ size = all in
    either (AreShort size done) (is_blank_line line) (command_lines asking append size (start + length line + 1) (next ∷ more))
    (record { text = line; asking = asking append line; end = start + length line + 1 } ∷ command_lines asking true size (start + length line + 1) (next ∷ more))
    (command-short asking append size (start + length line + 1) done (next ∷ more) (omega (arith, before)) (omega (arith, whole)))
    ((λ some. omega (arith, before, whole)), command-short asking true size (start + length line + 1) (start + length line + 1) (next ∷ more) (omega arith) (omega (arith, whole)))

pub command-lines-short : (asking : Bool → List ℕ → Asking) (file : File) (append : Bool) (bytes : List ℕ) → AreShort (length bytes) 0 (lines_of asking file append bytes)
command-lines-short asking file append bytes =
    either (AreShort (length bytes) 0) (takes_lines file && has_newline (without_newline bytes)) (command_lines asking append (length bytes) 0 (pieces_of bytes))
    (one_command asking append (length bytes) (without_newline bytes))
    (command-short asking append (length bytes) 0 0 (pieces_of bytes) (omega arith) (let all = all-joined bytes in omega (arith, all)))
    ((λ some. absurd (omega (arith, some))), tt)
