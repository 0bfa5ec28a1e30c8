-- The commands of a part stand in lines of its string, in order.
use Rattle.std.proofs.Common.{◌≡◌, ℕ, suc, ◌+◌, ◌≤◌, Bool, true, false, if◌then◌else◌, List, [], ◌∷◌, ◌++◌, map, Option, Some, None, Result, Ok, Err, refl, sym, subst, arith}
use Rattle.std.specs.List.{list_any}
use Rattle.script_reader.specs.Items.{Item, Threads, first_fault, own_with, own_commands, threads_with, threads_of, is_end, part_with, before_end, begun, taken_at, item_at, items_from}
use Rattle.script_reader.specs.NextItems.{item_read, HasItsText}
use Rattle.script_reader.specs.PartReads.{commands_in}
use Rattle.script_reader.specs.ScriptLines.{lines_of}
use Rattle.script_reader.specs.declared.item.ItemRead.TheVariants as reads
use Rattle.script_reader.specs.declared.item.ItemRead.{ItemRead}
use Rattle.script_reader.specs.declared.part.FaultAt.{FaultAt}
use Rattle.script_reader.specs.declared.part.Numbered.{Numbered}
use Rattle.trace_script.specs.Lines.{line_of}
use Rattle.trace_script.specs.declared.fault.ScriptFault.{ScriptFault}
use Rattle.trace_script.specs.declared.line.Line.{Line}
use Rattle.trace_script.specs.declared.line.Line.TheVariants.{Blank, Ask, Parallel, Thread, End}
use Rattle.trace_session.specs.Heard.{numbers_in}
use Rattle.trace_session.specs.private.HeardItems.{AreInOrder, HasItsLines}

-- from a lower number on
lower : (low from first : ℕ) (lines : List (List ℕ)) (numbers : List ℕ) → low ≤ from → AreInOrder from first lines numbers → AreInOrder low first lines numbers
lower low from first lines [] below order = tt
lower low from first lines (number ∷ numbers) below (above, at, order) = (omega (arith, below, above), at, order)

-- with one more line before them
shifted : (from first : ℕ) (line : List ℕ) (lines : List (List ℕ)) (numbers : List ℕ) → AreInOrder from (first + 1) lines numbers
    → AreInOrder from first (line ∷ lines) numbers
shifted from first line lines [] order = tt
shifted from first line lines (number ∷ numbers) (above, (at, (place, same, found)), order) =
    (above, (at, (suc place, omega (arith, same), found)), shifted number first line lines numbers order)

after_line : (number : ℕ) (line : List ℕ) (lines : List (List ℕ)) (numbers : List ℕ) → AreInOrder (number + 1) (number + 1) lines numbers
    → AreInOrder number number (line ∷ lines) numbers
after_line number line lines numbers order =
    lower number (number + 1) number (line ∷ lines) numbers (omega arith) (shifted (number + 1) number line lines numbers order)

-- without the first of them
later : (from first : ℕ) (lines : List (List ℕ)) (xs ys : List ℕ) → AreInOrder from first lines (xs ++ ys) → AreInOrder from first lines ys
later from first lines [] ys order = order
later from first lines (x ∷ xs) ys (above, at, order) = lower from x first lines ys above (later x first lines xs ys order)

abbrev numbers_of_own : List Numbered → List ℕ
numbers_of_own own = map (λ (asked : Numbered). asked.number) own

-- one line more, which is read as this
line_in_order : (number : ℕ) (line : List ℕ) (lines : List (List ℕ)) (read : Result Line ScriptFault) (own : List Numbered) (threads : List (List Numbered))
    → AreInOrder (number + 1) (number + 1) lines (numbers_of_own own ++ numbers_in threads)
    → AreInOrder number number (line ∷ lines) (numbers_of_own (own_with number read own) ++ numbers_in (threads_with read own threads))
line_in_order number line lines (Ok Blank) own threads order = after_line number line lines (numbers_of_own own ++ numbers_in threads) order
line_in_order number line lines (Ok (Ask command)) own threads order =
    (omega arith, (line, (0, omega arith, refl)), after_line number line lines (numbers_of_own own ++ numbers_in threads) order)
line_in_order number line lines (Ok Parallel) own threads order = after_line number line lines (numbers_of_own own ++ numbers_in threads) order
line_in_order number line lines (Ok Thread) own threads order = after_line number line lines (numbers_of_own own ++ numbers_in threads) order
line_in_order number line lines (Ok End) own threads order = after_line number line lines (numbers_of_own own ++ numbers_in threads) order
line_in_order number line lines (Err fault) own threads order = after_line number line lines (numbers_of_own own ++ numbers_in threads) order

-- the lines before an `end`, where the first of them is one or not
abbrev before : Bool → List ℕ → List (List ℕ) → List (List ℕ)
before ended line lines = if ended then [] else line ∷ before_end lines

-- the commands of the lines before an `end`
part_in_order : (lines : List (List ℕ)) (number : ℕ)
    → AreInOrder number number lines (numbers_of_own (own_commands number (before_end lines)) ++ numbers_in (threads_of number (before_end lines)))
part_in_order [] number = tt
part_in_order (line ∷ lines) number =
    go (is_end line)
    (line_in_order number line lines (line_of line) (own_commands (number + 1) (before_end lines)) (threads_of (number + 1) (before_end lines))
    (part_in_order lines (number + 1)))
  where
    go : (ended : Bool) → AreInOrder number number (line ∷ lines)
        (numbers_of_own (own_commands number (line ∷ before_end lines)) ++ numbers_in (threads_of number (line ∷ before_end lines)))
        → AreInOrder number number (line ∷ lines)
        (numbers_of_own (own_commands number (before ended line lines)) ++ numbers_in (threads_of number (before ended line lines)))
    go true order = tt
    go false order = order

-- the threads of a part behind its first line
threads_in_order : (number : ℕ) (line : List ℕ) (lines : List (List ℕ)) → AreInOrder number number (line ∷ lines) (numbers_in (threads_of (number + 1) (before_end lines)))
threads_in_order number line lines =
    after_line number line lines (numbers_in (threads_of (number + 1) (before_end lines)))
    (later (number + 1) (number + 1) lines (numbers_of_own (own_commands (number + 1) (before_end lines))) (numbers_in (threads_of (number + 1) (before_end lines)))
    (part_in_order lines (number + 1)))

-- the threads of an item that begins with this line
module _ (number : ℕ) (line : List ℕ) (lines : List (List ℕ)) (threads : List (List Numbered)) where
  of_part : (fault : Option FaultAt) → part_with fault (threads_of (number + 1) (before_end lines)) ≡ Threads threads → AreInOrder number number (line ∷ lines) (numbers_in threads)
  of_part (Some at) is = absurd (cc)
  of_part None is =
      let same : threads_of (number + 1) (before_end lines) ≡ threads = cc in
      subst (λ (ts : List (List Numbered)). AreInOrder number number (line ∷ lines) (numbers_in ts)) same (threads_in_order number line lines)

  of_begun : (ended : Bool) → (begun number line ended (before_end lines)).item ≡ Threads threads → AreInOrder number number (line ∷ lines) (numbers_in threads)
  of_begun true is = of_part (first_fault (number + 1) 0 (before_end lines)) is
  of_begun false is = absurd (cc)

  of_taken : (read : Result Line ScriptFault) → (taken_at number line read lines).item ≡ Threads threads → AreInOrder number number (line ∷ lines) (numbers_in threads)
  of_taken (Ok Blank) is = absurd (cc)
  of_taken (Ok (Ask command)) is = absurd (cc)
  of_taken (Ok Parallel) is = of_begun (list_any is_end lines) is
  of_taken (Ok Thread) is = absurd (cc)
  of_taken (Ok End) is = absurd (cc)
  of_taken (Err fault) is = absurd (cc)

  of_item : (item_at number line lines).item ≡ Threads threads → AreInOrder number number (line ∷ lines) (numbers_in threads)
  unfolding item_at
  of_item is = of_taken (line_of line) is

of_first : (number : ℕ) (lines : List (List ℕ)) (threads : List (List Numbered)) (rest : List Item) → items_from number 0 lines ≡ Threads threads ∷ rest
    → AreInOrder number number lines (numbers_in threads)
of_first number [] threads rest is = absurd (cc)
of_first number (line ∷ lines) threads rest is = of_item number line lines threads (cc)

-- so those of the item that a string begins with
pub has_its_lines : (number : ℕ) (script : List ℕ) (item : ItemRead) (rest : List Item) → items_from number 0 (lines_of script) ≡ item_read number item ∷ rest
    → HasItsText script item → HasItsLines number item
has_its_lines number script (reads.Line line said) rest is text = tt
has_its_lines number script (reads.Threads text threads) rest is same =
    subst (λ (bytes : List ℕ). AreInOrder number number (lines_of bytes) (numbers_in (commands_in threads.items))) (sym same)
    (of_first number (lines_of script) (commands_in threads.items) rest is)
has_its_lines number script (reads.Fault at line) rest is text = tt
