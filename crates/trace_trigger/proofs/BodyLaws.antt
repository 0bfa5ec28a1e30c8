-- What follows the `!` of a trigger text, if one is there, is as its grammar says: a word and a tail.
use Rattle.std.proofs.Common.{◌≡◌, ℕ, codes, List, ◌∷◌, ◌++◌, Option, Some, None, Ok, ap, sym, ◌∙◌}
use Rattle.std.proofs.lemmas.List.{take-append-drop}
use Rattle.std.specs.List.{prefix_len}
use Rattle.trace_trigger.specs.Frames.{is_unblank, IsTail}
use Rattle.trace_trigger.specs.TriggerTexts.{word_of, after_word, count_of, condition_of}
use Rattle.trace_trigger.specs.TriggerGrammar.{IsWord}
use Rattle.trace_trigger.proofs.Cuts.{run_taken, run_dropped, run_stops}
use Rattle.trace_trigger.proofs.WordLaws.{word_is, count_is, word_unblank}
use Rattle.trace_trigger.proofs.TailLaws.{tail_begins, tail_is, condition_is}

pub record IsBody (body : List ℕ) (count : Option ℕ) (condition : Option (List ℕ)) : Type 0 where
  pub word : List ℕ
  pub tail : List ℕ
  pub cut : body ≡ word ++ tail
  pub counted : IsWord word count
  pub conditional : IsTail tail condition

pub body_counts : (body : List ℕ) (count : Option ℕ) (condition : Option (List ℕ)) → IsBody body count condition → count_of (word_of body) ≡ Ok count
body_counts body count condition is =
    let found : word_of body ≡ is.word = ap word_of is.cut ∙ run_taken is_unblank is.word is.tail (word_unblank is.word count is.counted) (tail_begins is.tail condition is.conditional) in
    ap count_of found ∙ count_is is.word count is.counted

pub body_conditions : (body : List ℕ) (count : Option ℕ) (condition : Option (List ℕ)) → IsBody body count condition → condition_of (after_word body) ≡ Ok condition
body_conditions body count condition is =
    let found : after_word body ≡ is.tail = ap after_word is.cut ∙ run_dropped is_unblank is.word is.tail (word_unblank is.word count is.counted) (tail_begins is.tail condition is.conditional) in
    ap condition_of found ∙ condition_is is.tail condition is.conditional

pub body_is : (body : List ℕ) (count : Option ℕ) (condition : Option (List ℕ)) → count_of (word_of body) ≡ Ok count → condition_of (after_word body) ≡ Ok condition → IsBody body count condition
body_is body count condition e f =
    record {
      word = word_of body;
      tail = after_word body;
      cut = sym (take-append-drop (prefix_len is_unblank body) body);
      counted = word_is (word_of body) count e;
      conditional = tail_is (after_word body) (run_stops is_unblank body) condition f;
    }

-- a word begins with an `s` (115)
pub record Begins (text : List ℕ) : Type 0 where
  pub rest : List ℕ
  pub cut : text ≡ 115 ∷ rest

pub word_begins : (word : List ℕ) (count : Option ℕ) → IsWord word count → Begins word
word_begins word None is = record { rest = codes "napshot"; cut = is }
word_begins word (Some n) is = record { rest = codes "napshot:" ++ is.digits; cut = is.cut }
