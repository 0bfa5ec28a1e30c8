-- Why a text is badly written that is written to an event's `trigger` file (events.rst, "Event triggers", "snapshot"): what is wrong with its first
-- word, or with what follows it. That `TriggerTexts` tells no other cause is stated in `Laws`.
use Rattle.std.specs.Prelude.{◌≡◌, ◌≢◌, ◌⊎◌, ℕ, codes, List, ◌∷◌, ◌++◌, Option}
use Rattle.trace_lex.specs.Blanks.{AreBlanks}
use Rattle.trace_trigger.specs.Frames.{IsTail}
use Rattle.trace_trigger.specs.TriggerTexts.{word_of, after_word}
use Rattle.trace_trigger.specs.TriggerGrammar.{IsCounted, IsWord}
use Rattle.trace_trigger.specs.declared.fault.TextCause.{TextCause}
use Rattle.trace_trigger.specs.declared.fault.TextCause.TheVariants.{Kind, Count, AfterSnapshot, Condition, Filter}

-- it does not begin with `snapshot`; it has no count after `snapshot:`; or it goes on otherwise, with no `:` (58)
abbrev pub IsBadWord : List ℕ → TextCause → Type 0
IsBadWord word Kind = (rest : List ℕ) → word ≡ codes "snapshot" ++ rest → ⊥
IsBadWord word Count = (digits : List ℕ) × (word ≡ codes "snapshot:" ++ digits) × ((count : ℕ) → IsCounted word count → ⊥)
IsBadWord word AfterSnapshot = (b : ℕ) × (rest : List ℕ) × (word ≡ codes "snapshot" ++ b ∷ rest) × (b ≢ 58)
IsBadWord word Condition = ⊥
IsBadWord word Filter = ⊥

-- blanks, `if`, and nothing but blanks
pub record LacksFilter (tail : List ℕ) : Type 0 where
  pub front : List ℕ
  pub rest : List ℕ
  pub cut : tail ≡ front ++ (codes "if" ++ rest)
  pub before : AreBlanks front
  pub after : AreBlanks rest

-- it lacks a filter, or it is something else that can't follow the word
abbrev pub IsBadTail : List ℕ → TextCause → Type 0
IsBadTail tail Filter = LacksFilter tail
IsBadTail tail Condition = ((condition : Option (List ℕ)) → IsTail tail condition → ⊥) × (LacksFilter tail → ⊥)
IsBadTail tail Kind = ⊥
IsBadTail tail Count = ⊥
IsBadTail tail AfterSnapshot = ⊥

-- what follows a `!`, or a text without one: its first word is wrong for this cause; or the word is right, and what follows it is wrong
abbrev pub IsBadFor : List ℕ → TextCause → Type 0
IsBadFor body cause = IsBadWord (word_of body) cause ⊎ ((count : Option ℕ) × IsWord (word_of body) count × IsBadTail (after_word body) cause)
