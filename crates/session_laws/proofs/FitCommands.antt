-- The numbers that a line asks with fit their types, and a script has not more items than bytes and one.
use Rattle.std.proofs.Common.{◌≡◌, ℕ, zero, suc, ℤ, pos, neg_ℤ, ◌+◌, ◌-◌, ◌≤◌, ◌^◌, ◌==◌, Bool, true, false, if◌then◌else◌, List, [], ◌∷◌, length, map, All, Option, Some, None, Result, Ok, Err, FitsSigned, refl, sym, subst, arith}
use Rattle.std.specs.Int.{w32}
use Rattle.std.specs.List.{list_any}
use Rattle.std.specs.Option.{option_map}
use Rattle.std.proofs.lemmas.List.Elements.{All-nil, All-cons}
use Rattle.std.proofs.lemmas.List.Splits.{length-slice_split}
use Rattle.std.proofs.lemmas.List.Sums.{count_by-le-length}
use Rattle.trace_lex.specs.Decimals.{decimal_number}
use Rattle.trace_command.specs.Requests.{request_of, FitsItsTypes}
use Rattle.trace_command.specs.Commands.{Command}
use Rattle.script_reader.specs.Items.{Item, Single, Threads, Faulty, first_fault, own_with, own_commands, threads_with, threads_of, is_end, part_with, part_of, before_end, begun, taken_at, item_at, items_from, items_of}
use Rattle.script_reader.specs.ScriptLines.{lines_of}
use Rattle.script_reader.specs.declared.part.FaultAt.{FaultAt}
use Rattle.script_reader.specs.declared.part.Numbered.{Numbered}
use Rattle.trace_script.proofs.LineLaws.{line_asks}
use Rattle.trace_script.proofs.NumberLemmas.{found_le}
use Rattle.trace_script.specs.Commands.{IsCommandOf, AnEmit, AnEcho, ACat, ATake, AMkdir, ARmdir, IsAskedBy, ACommand, AParallel, AThread, AnEnd, AsksFor, Nothing, Something}
use Rattle.trace_script.specs.Lines.{number_up_to, process_id, line_of}
use Rattle.trace_script.specs.declared.fault.ScriptFault.{ScriptFault}
use Rattle.trace_script.specs.declared.line.Line.{Line}
use Rattle.trace_script.specs.declared.line.Line.TheVariants.{Blank, Ask, Parallel, Thread, End}

-- ---- lines

negative_fits : (n : ℕ) → n ≤ 2 ^ 31 → FitsSigned w32 (neg_ℤ (pos n))
negative_fits zero few = record { sfits = omega arith }
negative_fits (suc n) few = record { sfits = omega arith }

chosen_fits : (test : Bool) (low high : Option ℕ) (pid : ℤ) → ((n : ℕ) → low ≡ Some n → n ≤ 2 ^ 31) → ((n : ℕ) → high ≡ Some n → n ≤ 2 ^ 31 - 1)
    → (if test then option_map (λ n. neg_ℤ (pos n)) low else option_map pos high) ≡ Some pid → FitsSigned w32 pid
chosen_fits true None high pid few_low few_high is = absurd cc
chosen_fits true (Some n) high pid few_low few_high is =
    let same : neg_ℤ (pos n) ≡ pid = cc in
    subst (FitsSigned w32) same (negative_fits n (few_low n refl))
chosen_fits false low None pid few_low few_high is = absurd cc
chosen_fits false low (Some n) pid few_low few_high is =
    let same : pos n ≡ pid = cc in
    let few : n ≤ 2 ^ 31 - 1 = few_high n refl in
    subst (FitsSigned w32) same (record { sfits = omega arith })

process_fits : (digits : List ℕ) (pid : ℤ) → process_id digits ≡ Some pid → FitsSigned w32 pid
unfolding process_id
process_fits [] pid is = absurd cc
process_fits (b ∷ bs) pid is =
    chosen_fits (b == 45) (number_up_to (2 ^ 31) bs) (number_up_to (2 ^ 31 - 1) (b ∷ bs)) pid
    (λ n found. found_le (2 ^ 31) (decimal_number bs) n (sym found)) (λ n found. found_le (2 ^ 31 - 1) (decimal_number (b ∷ bs)) n (sym found)) is

abbrev Fits : Command → Type 0
Fits command = FitsItsTypes (request_of command)

-- trace_script keeps the type of a token to itself
command_fits : (tokens : _) (command : Command) → IsCommandOf tokens command → Fits command
command_fits tokens command (AnEmit rest named of) =
    let few : of.cpu ≤ 2 ^ 32 - 1 = found_le (2 ^ 32 - 1) (decimal_number of.cpu_digits) of.cpu (sym of.cpu_number) in
    subst Fits (sym of.meaning) (omega arith, process_fits of.pid_digits of.pid of.pid_number)
command_fits tokens command (AnEcho rest named of) = subst Fits (sym of.meaning) tt
command_fits tokens command (ACat rest named of) = subst Fits (sym of.meaning) tt
command_fits tokens command (ATake rest named of) =
    let few : of.limit ≤ 2 ^ 64 - 1 = found_le (2 ^ 64 - 1) (decimal_number of.digits) of.limit (sym of.number) in
    subst Fits (sym of.meaning) (omega arith)
command_fits tokens command (AMkdir rest named of) = subst Fits (sym of.meaning) tt
command_fits tokens command (ARmdir rest named of) = subst Fits (sym of.meaning) tt

tokens_fit : (tokens : _) (line : Line) (command : Command) → line ≡ Ask command → IsAskedBy tokens line → Fits command
tokens_fit tokens line command is (ACommand other of asks) =
    let same : other ≡ command = cc in
    subst Fits same (command_fits tokens other of)
tokens_fit tokens line command is (AParallel named asks) = absurd cc
tokens_fit tokens line command is (AThread named asks) = absurd cc
tokens_fit tokens line command is (AnEnd named asks) = absurd cc

text_fits : (text : List ℕ) (line : Line) (command : Command) → line ≡ Ask command → AsksFor text line → Fits command
text_fits text line command is (Nothing lawful says asks) = absurd cc
text_fits text line command is (Something lawful says tokens written asked) = tokens_fit tokens line command is asked

pub asked_fits : (line : List ℕ) (command : Command) → line_of line ≡ Ok (Ask command) → FitsItsTypes (request_of command)
asked_fits line command is = text_fits line (Ask command) command refl (line_asks line (Ask command) is)

-- ---- threads

-- the numbers of each of these commands fit
abbrev pub AreFit : List Command → Type 0
AreFit [] = Unit {0}
AreFit (command ∷ commands) = FitsItsTypes (request_of command) × AreFit commands

abbrev pub AllFit : List (List Command) → Type 0
AllFit [] = Unit {0}
AllFit (commands ∷ threads) = AreFit commands × AllFit threads

abbrev own_of : List Numbered → List Command
own_of own = map (λ (asked : Numbered). asked.command) own

own_with_fit : (number : ℕ) (line : List ℕ) (read : Result Line ScriptFault) (own : List Numbered) → line_of line ≡ read → AreFit (own_of own)
    → AreFit (own_of (own_with number read own))
own_with_fit number line (Ok Blank) own is fit = fit
own_with_fit number line (Ok (Ask command)) own is fit = (asked_fits line command is, fit)
own_with_fit number line (Ok Parallel) own is fit = fit
own_with_fit number line (Ok Thread) own is fit = tt
own_with_fit number line (Ok End) own is fit = fit
own_with_fit number line (Err fault) own is fit = fit

own_fit : (lines : List (List ℕ)) (number : ℕ) → AreFit (own_of (own_commands number lines))
own_fit [] number = tt
own_fit (line ∷ lines) number = own_with_fit number line (line_of line) (own_commands (number + 1) lines) refl (own_fit lines (number + 1))

threads_with_fit : (read : Result Line ScriptFault) (own : List Numbered) (threads : List (List Numbered)) → AreFit (own_of own) → AllFit (map own_of threads)
    → AllFit (map own_of (threads_with read own threads))
threads_with_fit (Ok Blank) own threads fit all = all
threads_with_fit (Ok (Ask command)) own threads fit all = all
threads_with_fit (Ok Parallel) own threads fit all = all
threads_with_fit (Ok Thread) own threads fit all = (fit, all)
threads_with_fit (Ok End) own threads fit all = all
threads_with_fit (Err fault) own threads fit all = all

threads_fit : (lines : List (List ℕ)) (number : ℕ) → AllFit (map own_of (threads_of number lines))
threads_fit [] number = tt
threads_fit (line ∷ lines) number =
    threads_with_fit (line_of line) (own_commands (number + 1) lines) (threads_of (number + 1) lines) (own_fit lines (number + 1)) (threads_fit lines (number + 1))

-- ---- items

-- so do those of a part's commands
abbrev pub IsFit : Item → Type 0
IsFit (Single number line) = Unit {0}
IsFit (Threads threads) = AllFit (map (map (λ (asked : Numbered). asked.command)) threads)
IsFit (Faulty at) = Unit {0}

part_fits : (number : ℕ) (lines : List (List ℕ)) → IsFit (part_of number lines)
part_fits number lines = go (first_fault number 0 lines)
  where
    go : (fault : Option FaultAt) → IsFit (part_with fault (threads_of number lines))
    go (Some at) = tt
    go None = threads_fit lines number

taken_fits : (number : ℕ) (line : List ℕ) (read : Result Line ScriptFault) (lines : List (List ℕ)) → IsFit (taken_at number line read lines).item
taken_fits number line (Ok Blank) lines = tt
taken_fits number line (Ok (Ask command)) lines = tt
taken_fits number line (Ok Parallel) lines = go (list_any is_end lines)
  where
    go : (ended : Bool) → IsFit (begun number line ended (before_end lines)).item
    go false = tt
    go true = part_fits (number + 1) (before_end lines)
taken_fits number line (Ok Thread) lines = tt
taken_fits number line (Ok End) lines = tt
taken_fits number line (Err fault) lines = tt

item_fits : (number : ℕ) (line : List ℕ) (lines : List (List ℕ)) → IsFit (item_at number line lines).item
unfolding item_at
item_fits number line lines = taken_fits number line (line_of line) lines

items_fit : (lines : List (List ℕ)) (number taken : ℕ) → All IsFit (items_from number taken lines)
items_fit [] number taken = All-nil IsFit
items_fit (line ∷ lines) number (suc taken) = items_fit lines (number + 1) taken
items_fit (line ∷ lines) number zero =
    let first = item_at number line lines in
    All-cons IsFit first.item (items_from (number + 1) first.behind lines) (item_fits number line lines) (items_fit lines (number + 1) first.behind)

pub script_fits : (script : List ℕ) → All IsFit (items_of script)
unfolding items_of
script_fits script = items_fit (lines_of script) 1 0

few_from : (lines : List (List ℕ)) (number taken : ℕ) → length (items_from number taken lines) ≤ length lines
few_from [] number taken = omega arith
few_from (line ∷ lines) number (suc taken) = omega (arith, few_from lines (number + 1) taken)
few_from (line ∷ lines) number zero = omega (arith, few_from lines (number + 1) (item_at number line lines).behind)

pub few_items : (script : List ℕ) → length (items_of script) ≤ length script + 1
unfolding items_of
few_items script =
    let test = λ (b : ℕ). b == 10 in
    omega (arith, few_from (lines_of script) 1 0, length-slice_split test script, count_by-le-length test script)
