-- What reading an item out of line comes to, in one word.
use Rattle.std.specs.Prelude.{◌≡◌, ℕ, ◌+◌, ◌-◌, ◌<◌, ◌≤◌, List, ◌∷◌, drop, length, Result, IfOk}
use Rattle.std.specs.Option.{option_copied}
use Rattle.script_reader.specs.Items.{items_from}
use Rattle.script_reader.specs.NextItems.{item_read, IsSaid, HasFaultLine, HasItsText}
use Rattle.script_reader.specs.ScriptLines.{lines_of, lines_left, bytes_left}
use Rattle.script_reader.specs.declared.item.OtherItem.{OtherItem}

-- the clauses of `other_item`, for a string whose first line has this number
pub record IsNextRead {E : Type 0} (first : ℕ) (script : List ℕ) (result : Result OtherItem E) : Type 0 where
  pub read : IfOk result (λ next. items_from first 0 (lines_of script)
      ≡ item_read first next.item ∷ items_from next.number 0 (lines_left (option_copied next.rest)))
  pub lines : IfOk result (λ next. lines_left (option_copied next.rest) ≡ drop (next.number - first) (lines_of script))
  pub number : IfOk result (λ next. first < next.number)
  pub said : IfOk result (λ next. IsSaid next.item)
  pub line : IfOk result (λ next. HasFaultLine first (lines_of script) next.item)
  pub text : IfOk result (λ next. HasItsText script next.item)
  pub shorter : IfOk result (λ next. bytes_left (option_copied next.rest) ≤ length script)
  pub room : IfOk result (λ next. next.number + bytes_left (option_copied next.rest) ≤ first + length script + 1)
