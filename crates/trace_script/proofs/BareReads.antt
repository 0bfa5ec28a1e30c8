-- Reads read where they lie: their words are cut, and a limit is read.
use Rattle.std.proofs.Common.{◌≡◌, ℕ, ◌-◌, ◌^◌, ◌≤◌, nat_lt, true, false, List, [], ◌∷◌, ◌++◌, length, take, drop, Option, Some, None, Ok, codes, refl, ap, sym, ◌∙◌, arith}
use Rattle.std.proofs.lemmas.Bool.Decides.{nat_tests}
use Rattle.std.proofs.lemmas.List.{take-append-drop}
use Rattle.std.proofs.lemmas.Slice.Eq.{bytes_eq-Decides}
use Rattle.std.specs.Str.{bytes_eq}
use Rattle.trace_command.specs.declared.command.CommandOf.TheVariants.{Read}
use Rattle.trace_script.specs.Lines.{number_up_to, read_of, take_of, named_command, named_line, asked_of, says_nothing, spoken, line_of}
use Rattle.trace_script.specs.Outcomes.{or_fault, ◌>>=◌}
use Rattle.trace_script.specs.Tokens.{behind, tokens_of}
use Rattle.trace_script.specs.private.Bytes.{highest_rank}
use Rattle.trace_script.specs.private.Reads.{cat_in, take_in}
use Rattle.trace_script.specs.declared.fault.ScriptFault.TheVariants.{UnclosedQuote}
use Rattle.trace_script.specs.declared.line.Line.TheVariants.{Ask}
use Rattle.trace_script.specs.declared.token.Token.{Token}
use Rattle.trace_script.specs.declared.token.Token.TheVariants.{Word}
use Rattle.trace_script.proofs.ByteLemmas.{lawful}

-- a name at the front of a line
pub after_name : (count : ℕ) (line name : List ℕ) → bytes_eq (take count line) name ≡ true → line ≡ name ++ drop count line
after_name count line name is =
    sym (take-append-drop count line) ∙ ap (λ (front : List ℕ). front ++ drop count line) ((bytes_eq-Decides (take count line) name).0 is)

-- ---- words

-- a `cat` of one word
pub cat_read : (text : List ℕ) → tokens_of text ≡ Some (Word text ∷ []) → cat_in text ≡ Ok (Read text None)
unfolding read_of
cat_read text is = rw is refl

-- a `take` of a number and one word
pub take_read : (text count path : List ℕ) (limit : ℕ) → tokens_of text ≡ behind (Word count ∷ []) (tokens_of path) → tokens_of path ≡ Some (Word path ∷ [])
    → number_up_to (2 ^ 64 - 1) count ≡ Some limit → take_in text ≡ Ok (Read path (Some limit))
unfolding take_of
take_read text count path limit is alone number =
    let cut : tokens_of text ≡ Some (Word count ∷ Word path ∷ []) = is ∙ ap (behind (Word count ∷ [])) alone in
    rw (cut, number) refl

-- ---- lines

module _ (line rest : List ℕ) (is : line ≡ codes "cat " ++ rest) where
  cat_cut : tokens_of (codes "cat " ++ rest) ≡ behind (Word (codes "cat") ∷ []) (tokens_of rest)
  unfolding tokens_of
  cat_cut = refl

  cat_says : says_nothing line ≡ false
  cat_says = rw is refl

  cat_spoken : spoken line ≡ (cat_in rest >>= λ command. Ok (Ask command))
  unfolding spoken asked_of named_line named_command
  cat_spoken = rw (cat_says, ap tokens_of is ∙ cat_cut) (by_tokens (tokens_of rest))
    where
      by_tokens : (o : Option (List Token)) → (or_fault UnclosedQuote (behind (Word (codes "cat") ∷ []) o) >>= λ tokens. asked_of tokens)
          ≡ ((or_fault UnclosedQuote o >>= λ tokens. read_of tokens) >>= λ command. Ok (Ask command))
      by_tokens None = refl
      by_tokens (Some tokens) = refl

  pub cat_said : length line ≤ 4096 → highest_rank line ≡ 0 → line_of line ≡ (cat_in rest >>= λ command. Ok (Ask command))
  unfolding line_of
  cat_said short bare =
      let fits : nat_lt 4096 (length line) ≡ false = grind (arith, nat_tests) in
      rw (fits, lawful line (omega (arith, bare))) cat_spoken

  pub cat_bare : highest_rank line ≡ 0 → highest_rank rest ≡ 0
  cat_bare bare =
      let same : highest_rank line ≡ highest_rank (codes "cat " ++ rest) = ap highest_rank is in
      omega (arith, bare, same)

module _ (line rest : List ℕ) (is : line ≡ codes "take " ++ rest) where
  take_cut : tokens_of (codes "take " ++ rest) ≡ behind (Word (codes "take") ∷ []) (tokens_of rest)
  unfolding tokens_of
  take_cut = refl

  take_says : says_nothing line ≡ false
  take_says = rw is refl

  take_spoken : spoken line ≡ (take_in rest >>= λ command. Ok (Ask command))
  unfolding spoken asked_of named_line named_command
  take_spoken = rw (take_says, ap tokens_of is ∙ take_cut) (by_tokens (tokens_of rest))
    where
      by_tokens : (o : Option (List Token)) → (or_fault UnclosedQuote (behind (Word (codes "take") ∷ []) o) >>= λ tokens. asked_of tokens)
          ≡ ((or_fault UnclosedQuote o >>= λ tokens. take_of tokens) >>= λ command. Ok (Ask command))
      by_tokens None = refl
      by_tokens (Some tokens) = refl

  pub take_said : length line ≤ 4096 → highest_rank line ≡ 0 → line_of line ≡ (take_in rest >>= λ command. Ok (Ask command))
  unfolding line_of
  take_said short bare =
      let fits : nat_lt 4096 (length line) ≡ false = grind (arith, nat_tests) in
      rw (fits, lawful line (omega (arith, bare))) take_spoken

  pub take_bare : highest_rank line ≡ 0 → highest_rank rest ≡ 0
  take_bare bare =
      let same : highest_rank line ≡ highest_rank (codes "take " ++ rest) = ap highest_rank is in
      omega (arith, bare, same)
