-- The line that a text begins with, if it is a read.
use Rattle.std.proofs.Common.{◌≡◌, ℕ, ◌+◌, ◌≤◌, ◌==◌, not, List, ◌++◌, length, take, Result, Ok, codes, refl, ap, sym, ◌∙◌, arith}
use Rattle.std.proofs.Common.{length-append}
use Rattle.std.proofs.Math.Seq.{take-append-add}
use Rattle.std.proofs.lemmas.List.{length-take-le}
use Rattle.std.proofs.lemmas.List.Sums.{prefix_len-le-length}
use Rattle.trace_command.specs.Commands.{Command}
use Rattle.trace_script.specs.Lines.{line_of}
use Rattle.trace_script.specs.Outcomes.{◌>>=◌}
use Rattle.trace_script.specs.PlainEmissions.{line_len, line_in}
use Rattle.trace_script.specs.private.Bytes.{highest_rank}
use Rattle.trace_script.specs.private.Reads.{cat_in, take_in}
use Rattle.trace_script.specs.declared.fault.ScriptFault.{ScriptFault}
use Rattle.trace_script.specs.declared.line.Line.TheVariants.{Ask}
use Rattle.trace_script.proofs.BareReads.{cat_said, take_said}

-- the words of a line have all its bytes after its name
length_words : (rest words : List ℕ) → words ≡ line_in rest → length words ≡ line_len rest
length_words rest words is = ap length is ∙ length-take-le (line_len rest) rest (prefix_len-le-length (λ b. not (b == 10)) rest)

-- the line of a text that begins with a name in which there is no newline
line_named : (name text rest words : List ℕ) (count : ℕ) → text ≡ name ++ rest → count ≡ length name → count + line_len rest ≡ line_len text → words ≡ line_in rest
    → line_in text ≡ name ++ words
line_named name text rest words count is counted len words_are =
    ap (λ (n : ℕ). take n text) (sym len ∙ ap (λ (n : ℕ). n + line_len rest) counted) ∙ ap (take (length name + line_len rest)) is
    ∙ take-append-add name rest (line_len rest) ∙ ap (λ (front : List ℕ). name ++ front) (sym words_are)

asked_is : (asked : Result Command ScriptFault) (read : Command) → asked ≡ Ok read → (asked >>= λ command. Ok (Ask command)) ≡ Ok (Ask read)
asked_is asked read is = ap (λ (r : Result Command ScriptFault). r >>= λ command. Ok (Ask command)) is

-- ---- a `cat`

module _ (text rest words : List ℕ) (is : text ≡ codes "cat " ++ rest) (words_are : words ≡ line_in rest) where
  cat_to : 4 + line_len rest ≡ line_len text
  cat_to = sym (ap line_len is ∙ omega arith)

  pub cat_len : 4 + length words ≡ line_len text
  cat_len = omega (arith, length_words rest words words_are, cat_to)

  cat_line : line_in text ≡ codes "cat " ++ words
  cat_line = line_named (codes "cat ") text rest words 4 is refl cat_to words_are

  cat_rank : highest_rank words ≡ 0 → highest_rank (codes "cat " ++ words) ≡ 0
  cat_rank bare = omega (arith, bare)

  pub cat_first : (read : Command) → highest_rank words ≡ 0 → 4 + length words ≤ 4096 → cat_in words ≡ Ok read
      → line_of (line_in text) ≡ Ok (Ask read)
  cat_first read bare short asked =
      let long : length (line_in text) ≡ 4 + length words = ap length cat_line ∙ length-append (codes "cat ") words in
      cat_said (line_in text) words cat_line (omega (arith, long, short)) (ap highest_rank cat_line ∙ cat_rank bare) ∙ asked_is (cat_in words) read asked

-- ---- a `take`

module _ (text rest words : List ℕ) (is : text ≡ codes "take " ++ rest) (words_are : words ≡ line_in rest) where
  take_to : 5 + line_len rest ≡ line_len text
  take_to = sym (ap line_len is ∙ omega arith)

  pub take_len : 5 + length words ≡ line_len text
  take_len = omega (arith, length_words rest words words_are, take_to)

  take_line : line_in text ≡ codes "take " ++ words
  take_line = line_named (codes "take ") text rest words 5 is refl take_to words_are

  take_rank : highest_rank words ≡ 0 → highest_rank (codes "take " ++ words) ≡ 0
  take_rank bare = omega (arith, bare)

  pub take_first : (read : Command) → highest_rank words ≡ 0 → 5 + length words ≤ 4096 → take_in words ≡ Ok read
      → line_of (line_in text) ≡ Ok (Ask read)
  take_first read bare short asked =
      let long : length (line_in text) ≡ 5 + length words = ap length take_line ∙ length-append (codes "take ") words in
      take_said (line_in text) words take_line (omega (arith, long, short)) (ap highest_rank take_line ∙ take_rank bare) ∙ asked_is (take_in words) read asked
