-- Blanks, and texts without the blanks at their ends.
use Rattle.std.specs.Prelude.{◌≡◌, ◌⊎◌, ℕ, ◌-◌, Bool, false, ◌||◌, ◌==◌, List, [], ◌∷◌, ◌++◌, length, take, drop, reverse}
use Rattle.std.specs.List.{prefix_len, AllPass}

-- a space or a tab
abbrev pub is_blank : ℕ → Bool
is_blank b = b == 32 || b == 9

-- a text without the blanks at its end
abbrev pub without_end : List ℕ → List ℕ
without_end text = take (length text - prefix_len is_blank (reverse text)) text

-- and without those at both ends
abbrev pub trimmed : List ℕ → List ℕ
trimmed text = drop (prefix_len is_blank (without_end text)) (without_end text)

-- ---- the same with nothing that goes over the text; that both agree is stated in `Laws`, as `TrimmedIsBetween` and `WithoutEndIsBefore`

-- blanks and nothing else, or nothing at all
abbrev pub AreBlanks : List ℕ → Type 0
AreBlanks text = AllPass is_blank text

-- the first byte of a text is no blank
pub record BeginsUnblank (text : List ℕ) : Type 0 where
  pub first : ℕ
  pub rest : List ℕ
  pub cut : text ≡ first ∷ rest
  pub unblank : is_blank first ≡ false

-- the last byte of a text is no blank
pub record EndsUnblank (text : List ℕ) : Type 0 where
  pub rest : List ℕ
  pub last : ℕ
  pub cut : text ≡ rest ++ last ∷ []
  pub unblank : is_blank last ≡ false

-- in the text only blanks follow the body, which is empty or ends with no blank
pub record IsBeforeBlanks (text body : List ℕ) : Type 0 where
  pub back : List ℕ
  pub cut : text ≡ body ++ back
  pub after : AreBlanks back
  pub ends : (body ≡ []) ⊎ EndsUnblank body

-- in the text only blanks surround the body, which is empty or begins and ends with no blank
pub record IsBetweenBlanks (text body : List ℕ) : Type 0 where
  pub front : List ℕ
  pub back : List ℕ
  pub cut : text ≡ front ++ body ++ back
  pub before : AreBlanks front
  pub after : AreBlanks back
  pub ends : (body ≡ []) ⊎ (BeginsUnblank body × EndsUnblank body)
