-- The lines of a part, read one after the other.
use Rattle.std.proofs.Common.{◌≡◌, ℕ, suc, ◌+◌, ◌||◌, Bool, true, false, if◌then◌else◌, List, [], ◌∷◌, ◌++◌, length, map, Option, Some, None, Result, Ok, Err, Vec, IsSome, refl, sym, ap, ◌∙◌, arith, append_assoc, append-nil}
use Rattle.std.proofs.lemmas.List.{length_push, length-map, map-append}
use Rattle.std.specs.List.{list_any, slice_get}
use Rattle.std.specs.declared.alloc.Global.{Global}
use Rattle.trace_command.specs.Commands.{Command}
use Rattle.trace_script.specs.Lines.{line_of}
use Rattle.trace_script.specs.declared.fault.ScriptFault.{ScriptFault}
use Rattle.trace_script.specs.declared.line.Line.{Line}
use Rattle.trace_script.specs.declared.line.Line.TheVariants.{Blank, Ask, Parallel, Thread, End}
use Rattle.script_reader.specs.AskingLines.{command_asked, command_in}
use Rattle.script_reader.specs.Items.{Item, Single, Threads, Faulty, threads_after, fault_after, or_later, first_fault, own_with, own_commands, threads_with, threads_of, part_with, part_of, is_end, before_end, after_end}
use Rattle.script_reader.specs.PartReads.{asked_of, commands_in, with_more, with_line, comes_to, IsPartRead, IsLineAt}
use Rattle.script_reader.specs.declared.part.Numbered.{Numbered}
use Rattle.script_reader.specs.declared.part_line.PartLine.{PartLine}

-- ---- a command

pub asks : (line : List ℕ) (said : Result Line ScriptFault) (command : Command) → said ≡ line_of line → said ≡ Ok (Ask command) → IsSome (command_asked (line_of line))
asks line said command is asked = rw (sym is, asked) refl

pub command_is : (line : List ℕ) (said : Result Line ScriptFault) (command : Command) → said ≡ line_of line → said ≡ Ok (Ask command) → command_in line ≡ command
command_is line said command is asked = rw (sym is, asked) refl

-- ---- threads

-- no line more
more_nothing : (threads : List (List Numbered)) → with_more threads [] [] ≡ threads
more_nothing [] = refl
more_nothing (own ∷ []) = ap (λ (last : List Numbered). last ∷ []) (append-nil own)
more_nothing (own ∷ next ∷ threads) = ap (λ (ts : List (List Numbered)). own ∷ ts) (more_nothing (next ∷ threads))

-- commands more for the last thread
more_last : (xs more : List (List Numbered)) (own added : List Numbered) → with_more (xs ++ own ∷ []) added more ≡ xs ++ (own ++ added) ∷ more
more_last [] more own added = refl
more_last (x ∷ []) more own added = refl
more_last (x ∷ y ∷ xs) more own added = ap (λ (ts : List (List Numbered)). x ∷ ts) (more_last (y ∷ xs) more own added)

-- after a thread that isn't the last
more_after : (one next : List Numbered) (threads more : List (List Numbered)) (first own : List Numbered)
    → with_more (one ∷ with_more (next ∷ threads) first []) own more ≡ one ∷ with_more (with_more (next ∷ threads) first []) own more
more_after one next [] more first own = refl
more_after one next (other ∷ threads) more first own = refl

-- one command first, and then what follows it
more_twice : (threads more : List (List Numbered)) (first own : List Numbered)
    → with_more threads (first ++ own) more ≡ with_more (with_more threads first []) own more
more_twice [] more first own = refl
more_twice (last ∷ []) more first own = ap (λ (xs : List Numbered). xs ∷ more) (sym (append_assoc last first own))
more_twice (one ∷ next ∷ threads) more first own =
    ap (λ (ts : List (List Numbered)). one ∷ ts) (more_twice (next ∷ threads) more first own) ∙ sym (more_after one next threads more first own)

-- one thread first, and then its commands
more_begun : (threads more : List (List Numbered)) (own : List Numbered) → with_more threads [] (own ∷ more) ≡ with_more (threads ++ [] ∷ []) own more
more_begun [] more own = refl
more_begun (last ∷ []) more own = ap (λ (xs : List Numbered). xs ∷ own ∷ more) (append-nil last)
more_begun (one ∷ next ∷ threads) more own = ap (λ (ts : List (List Numbered)). one ∷ ts) (more_begun (next ∷ threads) more own)

-- one line first, and then those that follow it
pub more_line : (number : ℕ) (line : Result Line ScriptFault) (threads : List (List Numbered)) (own : List Numbered) (more : List (List Numbered))
    → with_more threads (own_with number line own) (threads_with line own more) ≡ with_more (with_line number line threads) own more
more_line number (Ok Blank) threads own more = refl
more_line number (Ok (Ask command)) threads own more = more_twice threads more (record { number = number; command = command } ∷ []) own
more_line number (Ok Parallel) threads own more = refl
more_line number (Ok Thread) threads own more = more_begun threads more own
more_line number (Ok End) threads own more = refl
more_line number (Err fault) threads own more = refl

-- the last of some threads is taken away, and put back with a line more
pub added : (old left new : List (Vec PartLine Global)) (own next : Vec PartLine Global) (asked : PartLine) → old ≡ left ++ own ∷ [] → new ≡ left ++ next ∷ []
    → next.items ≡ own.items ++ asked ∷ []
    → commands_in new ≡ with_more (commands_in old) (asked_of asked ∷ []) []
added old left new own next asked was is more =
    let f : Vec PartLine Global → List Numbered = λ x. map asked_of x.items in
    ap (map f) is ∙ map-append f left (next ∷ [])
    ∙ ap (λ (last : List Numbered). map f left ++ last ∷ []) (ap (map asked_of) more ∙ map-append asked_of own.items (asked ∷ []))
    ∙ sym (more_last (map f left) [] (map asked_of own.items) (asked_of asked ∷ []))
    ∙ ap (λ (ts : List (List Numbered)). with_more ts (asked_of asked ∷ []) []) (sym (map-append f left (own ∷ [])) ∙ ap (map f) (sym was))

-- one thread more
pub begun_one : (old new : List (Vec PartLine Global)) (own : Vec PartLine Global) → new ≡ old ++ own ∷ [] → own.items ≡ []
    → commands_in new ≡ commands_in old ++ [] ∷ []
begun_one old new own is none =
    let f : Vec PartLine Global → List Numbered = λ x. map asked_of x.items in
    ap (map f) is ∙ map-append f old (own ∷ []) ∙ ap (λ (last : List Numbered). map f old ++ last ∷ []) (ap (map asked_of) none)

length_more : (threads : List (List Numbered)) (own : List Numbered) → length (with_more threads own []) ≡ length threads
length_more [] own = refl
length_more (last ∷ []) own = refl
length_more (one ∷ next ∷ threads) own = ap suc (length_more (next ∷ threads) own)

length_line : (number : ℕ) (line : Result Line ScriptFault) (threads : List (List Numbered)) → length (with_line number line threads) ≡ threads_after (length threads) line
length_line number (Ok Blank) threads = refl
length_line number (Ok (Ask command)) threads = length_more threads _
length_line number (Ok Parallel) threads = refl
length_line number (Ok Thread) threads = omega (arith, length_push threads [])
length_line number (Ok End) threads = refl
length_line number (Err fault) threads = refl

-- as many threads as lists of commands
pub length_commands : (threads : List (Vec PartLine Global)) → length (commands_in threads) ≡ length threads
length_commands threads = length-map threads (λ (x : Vec PartLine Global). map asked_of x.items)

-- ---- one line

module _ (threads : List (List Numbered)) (number : ℕ) (text : List ℕ) (lines : List (List ℕ)) (line : Result Line ScriptFault) (is : line ≡ line_of text) where
  pub at_fault_line : (fault : ScriptFault) → fault_after (length threads) line ≡ Some fault
      → comes_to (Threads threads) number (text ∷ lines) ≡ Faulty (record { number = number; fault = fault })
  at_fault_line fault found =
      ap (λ (f : Option ScriptFault).
      part_with (or_later number f (first_fault (number + 1) (threads_after (length threads) (line_of text)) lines))
      (with_more threads (own_with number (line_of text) (own_commands (number + 1) lines)) (threads_with (line_of text) (own_commands (number + 1) lines) (threads_of (number + 1) lines))))
      (ap (fault_after (length threads)) (sym is) ∙ found)

  at_line : fault_after (length threads) line ≡ None
      → comes_to (Threads threads) number (text ∷ lines) ≡ comes_to (Threads (with_line number line threads)) (number + 1) lines
  at_line none =
      let own : List Numbered = own_commands (number + 1) lines in
      let more : List (List Numbered) = threads_of (number + 1) lines in
      ap (λ (r : Result Line ScriptFault).
      part_with (or_later number (fault_after (length threads) r) (first_fault (number + 1) (threads_after (length threads) r) lines)) (with_more threads (own_with number r own) (threads_with r own more))) (sym is)
      ∙ ap (λ (f : Option ScriptFault).
      part_with (or_later number f (first_fault (number + 1) (threads_after (length threads) line) lines)) (with_more threads (own_with number line own) (threads_with line own more))) none
      ∙ ap (λ (ts : List (List Numbered)). part_with (first_fault (number + 1) (threads_after (length threads) line) lines) ts) (more_line number line threads own more)
      ∙ ap (λ (n : ℕ). part_with (first_fault (number + 1) n lines) (with_more (with_line number line threads) own more)) (sym (length_line number line threads))

pub at_line_with : (threads new : List (List Numbered)) (number : ℕ) (text : List ℕ) (lines : List (List ℕ)) (line : Result Line ScriptFault) → line ≡ line_of text
    → fault_after (length threads) line ≡ None → new ≡ with_line number line threads
    → comes_to (Threads threads) number (text ∷ lines) ≡ comes_to (Threads new) (number + 1) lines
at_line_with threads new number text lines line is none next =
    at_line threads number text lines line is none ∙ ap (λ (ts : List (List Numbered)). comes_to (Threads ts) (number + 1) lines) (sym next)

-- after the last line
comes_to_end : (item : Item) (number : ℕ) → comes_to item number [] ≡ item
comes_to_end (Single at line) number = refl
comes_to_end (Threads threads) number = ap Threads (more_nothing threads)
comes_to_end (Faulty at) number = refl

-- ---- where a part is

-- this much of a part was read, in so many lines, and these lines are left
pub record Reads (number : ℕ) (all : List (List ℕ)) (item : Item) (lines : ℕ) (left : List (List ℕ)) : Type 0 where
  pub whole : part_of number (before_end all) ≡ comes_to item (number + lines) (before_end left)
  pub any : list_any is_end all ≡ list_any is_end left
  pub count : length (before_end all) ≡ lines + length (before_end left)
  pub tail : after_end all ≡ after_end left
  pub places : (place : ℕ) → slice_get left place ≡ slice_get all (lines + place)

pub starts : (number : ℕ) (all : List (List ℕ)) (item : Item) → item ≡ Threads [] → Reads number all item 0 all
starts number all item none = record {
  whole =
      ap (λ (n : ℕ). part_of n (before_end all)) (omega arith)
      ∙ ap (λ (i : Item). comes_to i (number + 0) (before_end all)) (sym none);
  any = refl;
  count = omega arith;
  tail = refl;
  places = λ place. ap (slice_get all) (omega arith);
}

module _ (number : ℕ) (all : List (List ℕ)) (item : Item) (lines : ℕ) (left : List (List ℕ)) (reads : Reads number all item lines left) where
  module _ (line : List ℕ) (more : List (List ℕ)) (is : left ≡ line ∷ more) where
    any_is : (end : Bool) → is_end line ≡ end → list_any is_end left ≡ (end || list_any is_end more)
    any_is end ends = ap (list_any is_end) is ∙ ap (λ (b : Bool). b || list_any is_end more) ends

    before_is : (end : Bool) → is_end line ≡ end → before_end left ≡ (if end then [] else line ∷ before_end more)
    before_is end ends = ap before_end is ∙ ap (λ (b : Bool). if b then [] else line ∷ before_end more) ends

    after_is : (end : Bool) → is_end line ≡ end → after_end left ≡ (if end then more else after_end more)
    after_is end ends = ap after_end is ∙ ap (λ (b : Bool). if b then more else after_end more) ends

    pub goes_on : (next : Item) → is_end line ≡ false
        → ((rest : List (List ℕ)) → comes_to item (number + lines) (line ∷ rest) ≡ comes_to next (number + lines + 1) rest)
        → Reads number all next (lines + 1) more
    goes_on next goes step =
        let here : before_end left ≡ line ∷ before_end more = before_is false goes in
        let count : length (before_end left) ≡ length (line ∷ before_end more) = ap length here in
        record {
          whole =
              reads.whole ∙ ap (comes_to item (number + lines)) here ∙ step (before_end more)
              ∙ ap (λ (n : ℕ). comes_to next n (before_end more)) (omega arith);
          any = reads.any ∙ any_is false goes;
          count = omega (arith, reads.count, count);
          tail = reads.tail ∙ after_is false goes;
          places = λ place. sym (ap (λ (xs : List (List ℕ)). slice_get xs (suc place)) is) ∙ reads.places (suc place) ∙ ap (slice_get all) (omega arith);
        }

    -- the line is where its number says
    pub line_here : IsLineAt number all (number + lines) line
    line_here = (lines, refl, ap (slice_get all) (omega arith) ∙ sym (reads.places 0) ∙ ap (λ (xs : List (List ℕ)). slice_get xs 0) is)

    pub ends_here : is_end line ≡ true → IsPartRead number all item lines more
    ends_here end = (
      reads.any ∙ any_is true end,
      reads.whole ∙ ap (comes_to item (number + lines)) (before_is true end) ∙ comes_to_end item (number + lines),
      (let none : length (before_end left) ≡ 0 = ap length (before_is true end) in omega (arith, reads.count, none)),
      reads.tail ∙ after_is true end,
    )

  pub ends_not : left ≡ [] → list_any is_end all ≡ false
  ends_not none = reads.any ∙ ap (list_any is_end) none
