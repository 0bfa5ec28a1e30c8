-- The threads of a part are few.
use Rattle.std.proofs.Common.{◌≡◌, ℕ, zero, suc, ◌+◌, ◌≤◌, ◌==◌, Bool, true, false, if◌then◌else◌, List, [], ◌∷◌, length, All, Option, Some, None, Result, Ok, Err, refl, arith}
use Rattle.std.proofs.lemmas.Bool.Decides.{nat_tests}
use Rattle.std.proofs.lemmas.List.Elements.{All-nil, All-cons}
use Rattle.std.specs.List.{list_any}
use Rattle.trace_script.specs.Lines.{line_of}
use Rattle.trace_script.specs.declared.fault.ScriptFault.{ScriptFault}
use Rattle.trace_script.specs.declared.line.Line.{Line}
use Rattle.trace_script.specs.declared.line.Line.TheVariants.{Blank, Ask, Parallel, Thread, End}
use Rattle.script_reader.specs.Items.{threads_after, fault_after, or_later, first_fault, own_commands, threads_with, threads_of, is_end, part_with, part_of, before_end, begun, taken_at, item_at, items_from, items_of}
use Rattle.script_reader.specs.FewThreads.{HasFewThreads, PartsHaveFewThreads}
use Rattle.script_reader.specs.ScriptLines.{lines_of}
use Rattle.script_reader.specs.declared.part.FaultAt.{FaultAt}
use Rattle.script_reader.specs.declared.part.Numbered.{Numbered}

-- where no fault is told, no line has one
none_or : (number : ℕ) (fault : Option ScriptFault) (later : Option FaultAt) → or_later number fault later ≡ None → (fault ≡ None) × (later ≡ None)
none_or number (Some fault) later is = absurd cc
none_or number None later is = (refl, is)

-- a test that finds no fault fails
passed : (test : Bool) (fault : ScriptFault) → (if test then Some fault else None) ≡ None → test ≡ false
passed true fault is = absurd cc
passed false fault is = refl

below_most : (threads : ℕ) → threads ≤ 8 → (threads == 8) ≡ false → threads + 1 ≤ 8
below_most threads some not = grind (arith, nat_tests, some, not)

-- a line without a fault
few_after : (line : Result Line ScriptFault) (threads : ℕ) → threads ≤ 8 → fault_after threads line ≡ None → threads_after threads line ≤ 8
few_after (Ok Blank) threads some none = some
few_after (Ok (Ask command)) threads some none = some
few_after (Ok Parallel) threads some none = some
few_after (Ok Thread) threads some none = below_most threads some (passed (threads == 8) _ none)
few_after (Ok End) threads some none = some
few_after (Err fault) threads some none = some

length_with : (line : Result Line ScriptFault) (threads : ℕ) (own : List Numbered) (more : List (List Numbered))
    → threads + length (threads_with line own more) ≡ threads_after threads line + length more
length_with (Ok Blank) threads own more = refl
length_with (Ok (Ask command)) threads own more = refl
length_with (Ok Parallel) threads own more = refl
length_with (Ok Thread) threads own more = omega arith
length_with (Ok End) threads own more = refl
length_with (Err fault) threads own more = refl

few : (lines : List (List ℕ)) (number threads : ℕ) → threads ≤ 8 → first_fault number threads lines ≡ None → threads + length (threads_of number lines) ≤ 8
few [] number threads some none = omega arith
few (line ∷ lines) number threads some none =
    let read = line_of line in
    let next = threads_after threads read in
    let both = none_or number (fault_after threads read) (first_fault (number + 1) next lines) none in
    omega (
      arith,
      length_with read threads (own_commands (number + 1) lines) (threads_of (number + 1) lines),
      few lines (number + 1) next (few_after read threads some both.0) both.1,
    )

few_part : (number : ℕ) (lines : List (List ℕ)) → HasFewThreads (part_of number lines)
few_part number lines = go (first_fault number 0 lines) refl
  where
    go : (fault : Option FaultAt) → first_fault number 0 lines ≡ fault → HasFewThreads (part_with fault (threads_of number lines))
    go (Some at) is = tt
    go None is = omega (arith, few lines number 0 (omega arith) is)

few_taken : (number : ℕ) (line : List ℕ) (read : Result Line ScriptFault) (lines : List (List ℕ)) → HasFewThreads (taken_at number line read lines).item
few_taken number line (Ok Blank) lines = tt
few_taken number line (Ok (Ask command)) lines = tt
few_taken number line (Ok Parallel) lines = go (list_any is_end lines)
  where
    go : (ended : Bool) → HasFewThreads (begun number line ended (before_end lines)).item
    go false = tt
    go true = few_part (number + 1) (before_end lines)
few_taken number line (Ok Thread) lines = tt
few_taken number line (Ok End) lines = tt
few_taken number line (Err fault) lines = tt

few_at : (number : ℕ) (line : List ℕ) (lines : List (List ℕ)) → HasFewThreads (item_at number line lines).item
unfolding item_at
few_at number line lines = few_taken number line (line_of line) lines

few_from : (lines : List (List ℕ)) (number taken : ℕ) → All HasFewThreads (items_from number taken lines)
few_from [] number taken = All-nil HasFewThreads
few_from (line ∷ lines) number (suc taken) = few_from lines (number + 1) taken
few_from (line ∷ lines) number zero =
    let first = item_at number line lines in
    All-cons HasFewThreads first.item (items_from (number + 1) first.behind lines) (few_at number line lines) (few_from lines (number + 1) first.behind)

pub parts_have_few_threads : PartsHaveFewThreads
unfolding items_of
parts_have_few_threads script = few_from (lines_of script) 1 0
