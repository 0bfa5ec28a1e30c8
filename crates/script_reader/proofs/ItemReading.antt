-- The items of a script, read one after the other.
use Rattle.std.proofs.Common.{◌≡◌, ℕ, suc, ◌+◌, ◌-◌, ◌||◌, Bool, true, false, if◌then◌else◌, List, [], ◌∷◌, drop, length, Result, Ok, Err, refl, ap, sym, subst, ◌∙◌, arith}
use Rattle.std.specs.List.{list_any, slice_get}
use Rattle.trace_command.specs.Commands.{Command}
use Rattle.trace_script.specs.Lines.{line_of}
use Rattle.trace_script.specs.PlainEmissions.{line_in, IsPlainEmission}
use Rattle.trace_script.specs.declared.fault.ScriptFault.{ScriptFault}
use Rattle.trace_script.specs.declared.line.Line.{Line}
use Rattle.trace_script.specs.declared.line.Line.TheVariants.{Blank, Ask, Parallel, Thread, End}
use Rattle.script_reader.specs.Items.{Item, Single, is_end, part_of, before_end, after_end, Taken, begun, taken_at, item_at, items_from}
use Rattle.script_reader.specs.NextItems.{begins_with}
use Rattle.script_reader.specs.PartReads.{IsPartRead, IsLineAt, HasItsLine}
use Rattle.script_reader.specs.ScriptLines.{lines_of}
use Rattle.script_reader.specs.declared.part.Part.{Part}
use Rattle.script_reader.specs.declared.part.Part.TheVariants as parts
use Rattle.script_reader.proofs.ScriptLemmas.{first_of}

-- ---- after a part

past_line : (end : Bool) (line : List ℕ) (lines : List (List ℕ)) (number : ℕ)
    → (list_any is_end lines ≡ true → items_from (number + 1) (suc (length (before_end lines))) lines ≡ items_from (number + 1 + suc (length (before_end lines))) 0 (after_end lines))
    → (end || list_any is_end lines) ≡ true
    → items_from number (suc (length (if end then [] else line ∷ before_end lines))) (line ∷ lines)
    ≡ items_from (number + suc (length (if end then [] else line ∷ before_end lines))) 0 (if end then lines else after_end lines)
past_line true line lines number rest any = refl
past_line false line lines number rest any = rest any ∙ ap (λ (n : ℕ). items_from n 0 (after_end lines)) (omega arith)

past_end : (lines : List (List ℕ)) (number : ℕ) → list_any is_end lines ≡ true
    → items_from number (suc (length (before_end lines))) lines ≡ items_from (number + suc (length (before_end lines))) 0 (after_end lines)
past_end [] number any = absurd cc
past_end (line ∷ lines) number any = past_line (is_end line) line lines number (past_end lines (number + 1)) any

-- ---- the first item

-- a line that begins a part, if an `end` follows it, is `parallel`
pub is_parallel : (line : List ℕ) (read : Result Line ScriptFault) → read ≡ line_of line → begins_with read ≡ true → Ok Parallel ≡ line_of line
is_parallel line (Ok Blank) says begins = absurd cc
is_parallel line (Ok (Ask command)) says begins = absurd cc
is_parallel line (Ok Parallel) says begins = says
is_parallel line (Ok Thread) says begins = absurd cc
is_parallel line (Ok End) says begins = absurd cc
is_parallel line (Err fault) says begins = absurd cc

-- a line that begins no part
single_taken : (number : ℕ) (line : List ℕ) (read : Result Line ScriptFault) (lines : List (List ℕ)) → begins_with read ≡ false
    → taken_at number line read lines ≡ record { item = Single number line; behind = 0 }
single_taken number line (Ok Blank) lines not = refl
single_taken number line (Ok (Ask command)) lines not = refl
single_taken number line (Ok Parallel) lines not = absurd cc
single_taken number line (Ok Thread) lines not = refl
single_taken number line (Ok End) lines not = refl
single_taken number line (Err fault) lines not = refl

-- a line that begins a part, if an `end` follows it
part_taken : (number : ℕ) (line : List ℕ) (read : Result Line ScriptFault) (lines : List (List ℕ)) → begins_with read ≡ true
    → taken_at number line read lines ≡ begun number line (list_any is_end lines) (before_end lines)
part_taken number line (Ok Blank) lines is = absurd cc
part_taken number line (Ok (Ask command)) lines is = absurd cc
part_taken number line (Ok Parallel) lines is = refl
part_taken number line (Ok Thread) lines is = absurd cc
part_taken number line (Ok End) lines is = absurd cc
part_taken number line (Err fault) lines is = absurd cc

-- the items of lines of which the first begins with this
first_taken : (number : ℕ) (line : List ℕ) (all lines : List (List ℕ)) (first : Taken) → all ≡ line ∷ lines → taken_at number line (line_of line) lines ≡ first
    → items_from number 0 all ≡ first.item ∷ items_from (number + 1) first.behind lines
unfolding item_at
first_taken number line all lines first is begins =
    ap (items_from number 0) is ∙ ap (λ (taken : Taken). taken.item ∷ items_from (number + 1) taken.behind lines) begins

module _ (number : ℕ) (line : List ℕ) (all lines : List (List ℕ)) (read : Result Line ScriptFault) (is : all ≡ line ∷ lines) (says : read ≡ line_of line) where
  single : taken_at number line (line_of line) lines ≡ record { item = Single number line; behind = 0 }
      → items_from number 0 all ≡ Single number line ∷ items_from (number + 1) 0 lines
  single taken = first_taken number line all lines (record { item = Single number line; behind = 0 }) is taken

  -- a line by itself
  pub line_next : begins_with read ≡ false → items_from number 0 all ≡ Single number line ∷ items_from (number + 1) 0 lines
  line_next not = single (single_taken number line (line_of line) lines (ap begins_with (sym says) ∙ not))

  -- a `parallel` that no `end` follows
  pub endless_next : begins_with read ≡ true → list_any is_end lines ≡ false
      → items_from number 0 all ≡ Single number line ∷ items_from (number + 1) 0 lines
  endless_next begins none =
      single
      (part_taken number line (line_of line) lines (ap begins_with (sym says) ∙ begins)
      ∙ ap (λ (ended : Bool). begun number line ended (before_end lines)) none)

  -- a `parallel`, and the part that follows it
  pub part_next : (item : Item) (count : ℕ) (rest : List (List ℕ)) → begins_with read ≡ true → IsPartRead (number + 1) lines item count rest
      → items_from number 0 all ≡ item ∷ items_from (number + 1 + count + 1) 0 rest
  part_next item count rest begins part =
      let before : ℕ = length (before_end lines) in
      let next : ℕ = number + 1 + suc before in
      first_taken number line all lines (begun number line true (before_end lines)) is
      (part_taken number line (line_of line) lines (ap begins_with (sym says) ∙ begins)
      ∙ ap (λ (ended : Bool). begun number line ended (before_end lines)) part.0)
      ∙ ap (λ (n : ℕ). part_of (number + 1) (before_end lines) ∷ items_from (number + 1) n lines) (omega arith)
      ∙ ap (λ (items : List Item). part_of (number + 1) (before_end lines) ∷ items) (past_end lines (number + 1) part.0)
      ∙ ap (λ (first : Item). first ∷ items_from next 0 (after_end lines)) part.1
      ∙ ap (λ (more : List (List ℕ)). item ∷ items_from next 0 more) part.3
      ∙ ap (λ (n : ℕ). item ∷ items_from n 0 rest) (omega (arith, part.2))

-- ---- the lines that are left

left_after : (end : Bool) (line : List ℕ) (lines : List (List ℕ)) → (list_any is_end lines ≡ true → after_end lines ≡ drop (suc (length (before_end lines))) lines)
    → (end || list_any is_end lines) ≡ true
    → (if end then lines else after_end lines) ≡ drop (suc (length (if end then [] else line ∷ before_end lines))) (line ∷ lines)
left_after true line lines rest any = refl
left_after false line lines rest any = rest any

left_after_end : (lines : List (List ℕ)) → list_any is_end lines ≡ true → after_end lines ≡ drop (suc (length (before_end lines))) lines
left_after_end [] any = absurd cc
left_after_end (line ∷ lines) any = left_after (is_end line) line lines (left_after_end lines) any

-- after a line by itself
pub line_left : (number : ℕ) (line : List ℕ) (all lines : List (List ℕ)) → all ≡ line ∷ lines → lines ≡ drop (number + 1 - number) all
line_left number line all lines is =
    let one : number + 1 - number ≡ 1 = omega arith in
    ap (drop 1) (sym is) ∙ ap (λ (n : ℕ). drop n all) (sym one)

-- after a part
pub part_left : (number : ℕ) (line : List ℕ) (all lines : List (List ℕ)) (item : Item) (count : ℕ) (rest : List (List ℕ)) → all ≡ line ∷ lines
    → IsPartRead (number + 1) lines item count rest → rest ≡ drop (number + 1 + count + 1 - number) all
part_left number line all lines item count rest is part =
    let many : number + 1 + count + 1 - number ≡ suc (suc count) = omega arith in
    sym part.3 ∙ left_after_end lines part.0 ∙ ap (λ (n : ℕ). drop (suc n) lines) part.2
    ∙ (ap (drop (suc (suc count))) (sym is) ∙ ap (λ (n : ℕ). drop n all) (sym many))

-- a command, which begins no part
pub plain_next : (number : ℕ) (line : List ℕ) (all lines : List (List ℕ)) (command : Command) → all ≡ line ∷ lines
    → line_of line ≡ Ok (Ask command) → items_from number 0 all ≡ Single number line ∷ items_from (number + 1) 0 lines
plain_next number line all lines command is says = line_next number line all lines (Ok (Ask command)) is (sym says) refl

-- a text's first line is the one that it begins with
pub plain_first : (text line : List ℕ) (lines : List (List ℕ)) → lines_of text ≡ line ∷ lines → IsPlainEmission line → IsPlainEmission (line_in text)
plain_first text line lines is plain =
    let first = first_of text in
    let it : line ≡ line_in text = cc (is, first.1) in
    subst IsPlainEmission it plain

-- ---- the line of a fault

line_after : (number at : ℕ) (line first : List ℕ) (all lines : List (List ℕ)) → all ≡ first ∷ lines → IsLineAt (number + 1) lines at line → IsLineAt number all at line
line_after number at line first all lines is (place, same, found) =
    (suc place, omega (arith, same), ap (λ (xs : List (List ℕ)). slice_get xs (suc place)) is ∙ found)

-- a part's fault is among the lines that begin with that of `parallel`
pub its_line_after : (number : ℕ) (part : Part) (first : List ℕ) (all lines : List (List ℕ)) → all ≡ first ∷ lines → HasItsLine (number + 1) lines part
    → HasItsLine number all part
its_line_after number (parts.Threads threads) first all lines is its = its
its_line_after number (parts.Fault at line) first all lines is its = line_after number at.number line.now first all lines is its
