-- How the text of a snapshot trigger is written: what it is put together of. Nothing in this file goes over the text. That `TriggerTexts` says the same is
-- stated in `Laws`.
use Rattle.std.specs.Prelude.{◌≡◌, ℕ, ◌-◌, ◌≤◌, ◌^◌, Bool, codes, List, ◌++◌, Option, None, Some}
use Rattle.trace_format.specs.Definitions.{Definition}
use Rattle.trace_lex.specs.Decimals.{decimal_number}
use Rattle.trace_filter.specs.Filters.{Parsed}
use Rattle.trace_trigger.specs.Frames.{mark, IsTail, IsReadAs}

-- `snapshot:` and a decimal number, from 1 to 2^32 - 1
pub record IsCounted (word : List ℕ) (count : ℕ) : Type 0 where
  pub digits : List ℕ
  pub cut : word ≡ codes "snapshot:" ++ digits
  pub number : decimal_number digits ≡ Some count
  pub least : 1 ≤ count
  pub most : count ≤ 2 ^ 32 - 1

-- the first word, without a count or with one
abbrev pub IsWord : List ℕ → Option ℕ → Type 0
IsWord word None = word ≡ codes "snapshot"
IsWord word (Some count) = IsCounted word count

-- a text can be written so: with a `!` or without, with this count, and with the text of this filter, if there is one
pub record IsWritten (text : List ℕ) (removes : Bool) (count : Option ℕ) (condition : Option (List ℕ)) : Type 0 where
  pub word : List ℕ
  pub tail : List ℕ
  pub cut : text ≡ mark removes ++ word ++ tail
  pub counted : IsWord word count
  pub conditional : IsTail tail condition

-- a text is written so, and its filter is one of the event
pub record Writes (definition : Definition) (text : List ℕ) (removes : Bool) (count : Option ℕ) (filter : Option Parsed) : Type 0 where
  pub condition : Option (List ℕ)
  pub written : IsWritten text removes count condition
  pub filtered : IsReadAs definition condition filter
