-- What follows the word of a trigger text is as its grammar says.
use Rattle.std.proofs.Common.{◌≡◌, ℕ, ◌+◌, ◌<◌, Bool, true, false, not, ◌&&◌, nat_lt, codes, List, [], ◌∷◌, ◌++◌, length, take, Option, Some, None, Ok, Err, if◌then◌else◌, refl, sym, ap, ◌∙◌, subst, arith, lt-ltb, ltb-true}
use Rattle.std.specs.List.{prefix_len, list_all}
use Rattle.std.proofs.lemmas.Bool.{cond-true}
use Rattle.std.proofs.lemmas.List.{take-append-drop}
use Rattle.std.proofs.lemmas.List.Elements.{All-head}
use Rattle.std.proofs.lemmas.List.Folds.{length-prefix_len, list_all-append}
use Rattle.std.proofs.lemmas.List.Sums.{AllPass-from_list_all, list_all-from_AllPass}
use Rattle.trace_lex.specs.Blanks.{is_blank, AreBlanks, BeginsUnblank}
use Rattle.trace_lex.proofs.Lists.{BeginsNot, run_ends}
use Rattle.trace_trigger.specs.declared.fault.TriggerFault.{TriggerFault}
use Rattle.trace_trigger.specs.declared.fault.TriggerFault.TheVariants.{BadText}
use Rattle.trace_trigger.specs.declared.fault.TextCause.TheVariants.{Condition}
use Rattle.trace_trigger.specs.TriggerAnswers.{IsBadText}
use Rattle.trace_trigger.specs.TriggerTexts.{after, condition_cause, condition_after, condition_of}
use Rattle.trace_trigger.specs.Frames.{is_unblank, after_blanks, IsConditional, IsTail}
use Rattle.trace_trigger.proofs.Cuts.{after_append, after_is, run_dropped, run_passes, run_stops}

-- ---- the first byte of what follows a word is a blank

unblank_not : (b : ℕ) → is_blank b ≡ true → is_unblank b ≡ false
unblank_not b e = ap not e

blank_not : (b : ℕ) → is_unblank b ≡ false → is_blank b ≡ true
blank_not b e = by (is_blank b) refl e
  where
    by : (c : Bool) → is_blank b ≡ c → not c ≡ false → is_blank b ≡ true
    by true f h = f
    by false f h = absurd (cc)

blanks_begin : (bs : List ℕ) → AreBlanks bs → BeginsNot is_unblank bs
blanks_begin [] all = tt
blanks_begin (b ∷ bs) all =
    let P : ℕ → Type 0 = λ c. is_blank c ≡ true in
    unblank_not b (All-head P b bs all)

behind_blanks : (front rest : List ℕ) → AreBlanks front → 0 < length front → BeginsNot is_unblank (front ++ rest)
behind_blanks [] rest all some = absurd (omega (arith, some))
behind_blanks (b ∷ bs) rest all some =
    let P : ℕ → Type 0 = λ c. is_blank c ≡ true in
    unblank_not b (All-head P b bs all)

pub tail_begins : (tail : List ℕ) (condition : Option (List ℕ)) → IsTail tail condition → BeginsNot is_unblank tail
tail_begins tail None is = blanks_begin tail is
tail_begins tail (Some filter) is = subst (BeginsNot is_unblank) (sym is.cut) (behind_blanks is.front (codes "if" ++ (is.between ++ filter)) is.before is.some_before)

-- ---- what is read is written so

begins_unblank : (bs : List ℕ) → BeginsNot is_blank bs → 0 < length bs → BeginsUnblank bs
begins_unblank [] none some = absurd (omega (arith, some))
begins_unblank (b ∷ bs) none some = record { first = b; rest = bs; cut = refl; unblank = none }

-- a tail that is not blank begins with a blank
some_blank : (tail : List ℕ) → list_all is_blank tail ≡ false → BeginsNot is_unblank tail → 0 < prefix_len is_blank tail
some_blank [] some begins = absurd (cc)
some_blank (b ∷ bs) some begins = omega (arith, cond-true (is_blank b) (1 + prefix_len is_blank bs) 0 (blank_not b begins))

module _ (tail : List ℕ) (begins : BeginsNot is_unblank tail) where
  conditional : (condition : Option (List ℕ)) (text : List ℕ) → list_all is_blank tail ≡ false → after_blanks tail ≡ codes "if" ++ text → condition_after (Some text) ≡ Ok condition → IsTail tail condition
  conditional condition text more cut is = by (nat_lt 0 (prefix_len is_blank text)) refl (nat_lt 0 (length (after_blanks text))) refl is
    where
      by : (b : Bool) → nat_lt 0 (prefix_len is_blank text) ≡ b → (c : Bool) → nat_lt 0 (length (after_blanks text)) ≡ c
          → (if b && c then Ok (Some (after_blanks text)) else Err (BadText (condition_cause (after_blanks text)))) ≡ Ok condition → IsTail tail condition
      by false e c f h = absurd (cc)
      by true e false f h = absurd (cc)
      by true e true f h =
          let it : Some (after_blanks text) ≡ condition = cc in
          let whole : tail ≡ take (prefix_len is_blank tail) tail ++ (codes "if" ++ (take (prefix_len is_blank text) text ++ after_blanks text)) =
          sym (take-append-drop (prefix_len is_blank tail) tail) ∙ ap (λ (bs : List ℕ). take (prefix_len is_blank tail) tail ++ bs) cut
          ∙ ap (λ (bs : List ℕ). take (prefix_len is_blank tail) tail ++ (codes "if" ++ bs)) (sym (take-append-drop (prefix_len is_blank text) text)) in
          let written : IsConditional tail (after_blanks text) =
          record {
            front = take (prefix_len is_blank tail) tail;
            between = take (prefix_len is_blank text) text;
            cut = whole;
            before = run_passes is_blank tail;
            some_before = omega (arith, some_blank tail more begins, length-prefix_len is_blank tail);
            after = run_passes is_blank text;
            some_after = omega (arith, ltb-true 0 (prefix_len is_blank text) e, length-prefix_len is_blank text);
            begins = begins_unblank (after_blanks text) (run_stops is_blank text) (ltb-true 0 (length (after_blanks text)) f);
          } in
          subst (IsTail tail) it written

  read_after : (condition : Option (List ℕ)) (rest : Option (List ℕ)) → list_all is_blank tail ≡ false → after (codes "if") (after_blanks tail) ≡ rest → condition_after rest ≡ Ok condition → IsTail tail condition
  read_after condition None more e is = absurd (cc)
  read_after condition (Some text) more e is = conditional condition text more (after_is (codes "if") (after_blanks tail) text e) is

  pub tail_is : (condition : Option (List ℕ)) → condition_of tail ≡ Ok condition → IsTail tail condition
  unfolding condition_of
  tail_is condition is = by (list_all is_blank tail) refl is
    where
      by : (b : Bool) → list_all is_blank tail ≡ b → (if b then Ok None else condition_after (after (codes "if") (after_blanks tail))) ≡ Ok condition → IsTail tail condition
      by true e h =
          let it : None ≡ condition = cc in
          subst (IsTail tail) it (AllPass-from_list_all is_blank tail e)
      by false e h = read_after condition (after (codes "if") (after_blanks tail)) e refl h

-- ---- and what is written so is read

begins_not : (filter : List ℕ) → BeginsUnblank filter → BeginsNot is_blank filter
begins_not filter begins = subst (BeginsNot is_blank) (sym begins.cut) begins.unblank

and_false : (b : Bool) → (b && false) ≡ false
and_false true = refl
and_false false = refl

pub condition_is : (tail : List ℕ) (condition : Option (List ℕ)) → IsTail tail condition → condition_of tail ≡ Ok condition
unfolding condition_of
condition_is tail None is = rw (list_all-from_AllPass is_blank tail is) refl
condition_is tail (Some filter) is =
    let rest : List ℕ = is.between ++ filter in
    let not_blank : list_all is_blank tail ≡ false = ap (list_all is_blank) is.cut ∙ list_all-append is_blank is.front (codes "if" ++ rest) ∙ and_false (list_all is_blank is.front) in
    let found : after_blanks tail ≡ codes "if" ++ rest = ap after_blanks is.cut ∙ run_dropped is_blank is.front (codes "if" ++ rest) is.before refl in
    let blanks : nat_lt 0 (prefix_len is_blank rest) ≡ true = lt-ltb 0 (prefix_len is_blank rest) (omega (arith, run_ends is_blank is.between filter is.after (begins_not filter is.begins), is.some_after)) in
    let left : after_blanks rest ≡ filter = run_dropped is_blank is.between filter is.after (begins_not filter is.begins) in
    let some : nat_lt 0 (length (after_blanks rest)) ≡ true = lt-ltb 0 (length (after_blanks rest)) (omega (arith, ap length left, ap length is.begins.cut)) in
    ap (λ b. if b then Ok None else condition_after (after (codes "if") (after_blanks tail))) not_blank
    ∙ ap (λ (bs : List ℕ). condition_after (after (codes "if") bs)) found
    ∙ ap condition_after (after_append (codes "if") rest)
    ∙ (λ i. if blanks i && some i then Ok (Some (after_blanks rest)) else Err (BadText (condition_cause (after_blanks rest))))
    ∙ ap (λ (bs : List ℕ). Ok (Some bs)) left

-- it is refused as no trigger's only
bad_after : (rest : Option (List ℕ)) (fault : TriggerFault) → condition_after rest ≡ Err fault → IsBadText fault
bad_after None fault is = let same : fault ≡ BadText Condition = cc in (Condition, same)
bad_after (Some text) fault is = by (nat_lt 0 (prefix_len is_blank text) && nat_lt 0 (length (after_blanks text))) is
  where
    by : (b : Bool) → (if b then Ok (Some (after_blanks text)) else Err (BadText (condition_cause (after_blanks text)))) ≡ Err fault → IsBadText fault
    by true h = absurd (cc)
    by false h = let same : fault ≡ BadText (condition_cause (after_blanks text)) = cc in (condition_cause (after_blanks text), same)

pub bad_tail : (tail : List ℕ) (fault : TriggerFault) → condition_of tail ≡ Err fault → IsBadText fault
unfolding condition_of
bad_tail tail fault is = by (list_all is_blank tail) is
  where
    by : (b : Bool) → (if b then Ok None else condition_after (after (codes "if") (after_blanks tail))) ≡ Err fault → IsBadText fault
    by true h = absurd (cc)
    by false h = bad_after (after (codes "if") (after_blanks tail)) fault h
