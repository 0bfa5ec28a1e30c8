-- The first word of a trigger text is as its grammar says.
use Rattle.std.proofs.Common.{◌≡◌, ℕ, ◌-◌, ◌^◌, Bool, true, false, ◌&&◌, ◌==◌, nat_lt, nat_le, codes, List, [], ◌∷◌, ◌++◌, Option, Some, None, Ok, Err, if◌then◌else◌, refl, ap, ◌∙◌, subst, arith, lt-ltb, ltb-true}
use Rattle.std.specs.List.{list_all, AllPass}
use Rattle.std.proofs.lemmas.Bool.{eqb-true, le-leb, leb-true}
use Rattle.std.proofs.lemmas.Bool.Decides.{nat_tests}
use Rattle.std.proofs.lemmas.List.Sums.{AllPass-from_list_all}
use Rattle.trace_lex.specs.Decimals.{is_digit, value_after, decimal_number, up_to}
use Rattle.trace_trigger.specs.Frames.{is_unblank}
use Rattle.trace_trigger.specs.declared.fault.TriggerFault.{TriggerFault}
use Rattle.trace_trigger.specs.declared.fault.TriggerFault.TheVariants.{BadText}
use Rattle.trace_trigger.specs.declared.fault.TextCause.TheVariants.{Kind, Count, AfterSnapshot}
use Rattle.trace_trigger.specs.TriggerAnswers.{IsBadText}
use Rattle.trace_trigger.specs.TriggerTexts.{after, count_from, count_after, count_of}
use Rattle.trace_trigger.specs.TriggerGrammar.{IsCounted, IsWord}
use Rattle.trace_trigger.proofs.Cuts.{after_append, after_is}

-- ---- what is read is written so

counted_from : (word digits : List ℕ) (count : Option ℕ) (found limited : Option ℕ) → word ≡ codes "snapshot:" ++ digits → decimal_number digits ≡ found → up_to (2 ^ 32 - 1) found ≡ limited
    → count_from limited ≡ Ok count → IsWord word count
counted_from word digits count found None cut number limit is = absurd (cc)
counted_from word digits count None (Some n) cut number limit is = absurd (cc)
counted_from word digits count (Some m) (Some n) cut number limit is = by (nat_le m (2 ^ 32 - 1)) refl limit (nat_lt 0 n) refl is
  where
    by : (b : Bool) → nat_le m (2 ^ 32 - 1) ≡ b → (if b then Some m else None) ≡ Some n → (c : Bool) → nat_lt 0 n ≡ c → (if c then Ok (Some n) else Err (BadText Count)) ≡ Ok count → IsWord word count
    by false e f c g h = absurd (cc)
    by true e f false g h = absurd (cc)
    by true e f true g h =
        let same : m ≡ n = cc in
        let it : Some n ≡ count = cc in
        let counted : IsCounted word n = record { digits = digits; cut = cut; number = number ∙ ap Some same; least = omega (arith, ltb-true 0 n g); most = omega (arith, leb-true m (2 ^ 32 - 1) e, same) } in
        subst (IsWord word) it counted

read_after : (word : List ℕ) (count : Option ℕ) (rest : Option (List ℕ)) → after (codes "snapshot") word ≡ rest → count_after rest ≡ Ok count → IsWord word count
read_after word count None e is = absurd (cc)
read_after word count (Some []) e is =
    let it : None ≡ count = cc in
    subst (IsWord word) it (after_is (codes "snapshot") word [] e)
read_after word count (Some (b ∷ digits)) e is = by (b == 58) refl is
  where
    by : (c : Bool) → (b == 58) ≡ c → (if c then count_from (up_to (2 ^ 32 - 1) (decimal_number digits)) else Err (BadText AfterSnapshot)) ≡ Ok count → IsWord word count
    by false f h = absurd (cc)
    by true f h =
        let cut : word ≡ codes "snapshot:" ++ digits = after_is (codes "snapshot") word (b ∷ digits) e ∙ ap (λ c. codes "snapshot" ++ c ∷ digits) (eqb-true b 58 f) in
        counted_from word digits count (decimal_number digits) (up_to (2 ^ 32 - 1) (decimal_number digits)) cut refl refl h

pub word_is : (word : List ℕ) (count : Option ℕ) → count_of word ≡ Ok count → IsWord word count
unfolding count_of
word_is word count is = read_after word count (after (codes "snapshot") word) refl is

-- ---- and what is written so is read

pub count_is : (word : List ℕ) (count : Option ℕ) → IsWord word count → count_of word ≡ Ok count
unfolding count_of
count_is word None is = ap (λ (w : List ℕ). count_after (after (codes "snapshot") w)) is
count_is word (Some n) is =
    let limited : up_to (2 ^ 32 - 1) (Some n) ≡ Some n = rw (le-leb n (2 ^ 32 - 1) is.most) refl in
    let least : nat_lt 0 n ≡ true = lt-ltb 0 n (omega (arith, is.least)) in
    ap (λ (w : List ℕ). count_after (after (codes "snapshot") w)) is.cut ∙ ap count_after (after_append (codes "snapshot") (58 ∷ is.digits))
    ∙ ap (λ o. count_from (up_to (2 ^ 32 - 1) o)) is.number ∙ ap count_from limited ∙ ap (λ b. if b then Ok (Some n) else Err (BadText Count)) least

-- a word is refused as no trigger's only
bad_from : (limited : Option ℕ) (fault : TriggerFault) → count_from limited ≡ Err fault → IsBadText fault
bad_from None fault is = let same : fault ≡ BadText Count = cc in (Count, same)
bad_from (Some n) fault is = by (nat_lt 0 n) is
  where
    by : (b : Bool) → (if b then Ok (Some n) else Err (BadText Count)) ≡ Err fault → IsBadText fault
    by true h = absurd (cc)
    by false h = let same : fault ≡ BadText Count = cc in (Count, same)

bad_after : (rest : Option (List ℕ)) (fault : TriggerFault) → count_after rest ≡ Err fault → IsBadText fault
bad_after None fault is = let same : fault ≡ BadText Kind = cc in (Kind, same)
bad_after (Some []) fault is = absurd (cc)
bad_after (Some (b ∷ digits)) fault is = by (b == 58) is
  where
    by : (c : Bool) → (if c then count_from (up_to (2 ^ 32 - 1) (decimal_number digits)) else Err (BadText AfterSnapshot)) ≡ Err fault → IsBadText fault
    by true h = bad_from (up_to (2 ^ 32 - 1) (decimal_number digits)) fault h
    by false h = let same : fault ≡ BadText AfterSnapshot = cc in (AfterSnapshot, same)

pub bad_word : (word : List ℕ) (fault : TriggerFault) → count_of word ≡ Err fault → IsBadText fault
unfolding count_of
bad_word word fault is = bad_after (after (codes "snapshot") word) fault is

-- ---- a word has no blank

digit_unblank : (b : ℕ) → is_digit b ≡ true → is_unblank b ≡ true
digit_unblank b is = grind (arith, nat_tests)

digits_unblank : (digits : List ℕ) → list_all is_digit digits ≡ true → list_all is_unblank digits ≡ true
digits_unblank [] is = refl
digits_unblank (d ∷ ds) is = by (is_digit d) refl is (digits_unblank ds)
  where
    by : (b : Bool) → is_digit d ≡ b → (b && list_all is_digit ds) ≡ true → (list_all is_digit ds ≡ true → list_all is_unblank ds ≡ true) → (is_unblank d && list_all is_unblank ds) ≡ true
    by false e h more = absurd (cc)
    by true e h more = rw (digit_unblank d e) (more h)

number_unblank : (digits : List ℕ) (n : ℕ) → decimal_number digits ≡ Some n → list_all is_unblank digits ≡ true
number_unblank [] n is = absurd (cc)
number_unblank (d ∷ ds) n is = by (list_all is_digit (d ∷ ds)) refl is
  where
    by : (b : Bool) → list_all is_digit (d ∷ ds) ≡ b → (if b then Some (value_after 0 (d ∷ ds)) else None) ≡ Some n → list_all is_unblank (d ∷ ds) ≡ true
    by false e h = absurd (cc)
    by true e h = digits_unblank (d ∷ ds) e

pub word_unblank : (word : List ℕ) (count : Option ℕ) → IsWord word count → AllPass is_unblank word
word_unblank word None is = AllPass-from_list_all is_unblank word (ap (list_all is_unblank) is)
word_unblank word (Some n) is = AllPass-from_list_all is_unblank word (ap (list_all is_unblank) is.cut ∙ number_unblank is.digits n is.number)
