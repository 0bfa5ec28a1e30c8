-- The leftmost mistake of a list, looked for from its front.
use Rattle.std.proofs.Common.{◌≡◌, ℕ, ◌+◌, ◌<◌, ◌≤◌, Bool, true, false, nat_lt, if◌then◌else◌, List, [], ◌∷◌, ◌++◌, length, take, drop, get_or, refl, sym, ap, ◌∙◌, arith, lt-ltb, ltb-true, ltb-false, le-ltb}
use Rattle.std.proofs.lemmas.List.{at_drop_more, take_more, drop_all}
use Rattle.std.specs.Prelude.{Option, Some, None}
use Rattle.trace_trigger.specs.declared.offset.Mistake.{Mistake}
use Rattle.trace_trigger.specs.HistOffsets.{mistakes_in, further_left, leftmost}

pub further-assoc : (a b c : Option Mistake) → further_left (further_left a b) c ≡ further_left a (further_left b c)
further-assoc None b c = refl
further-assoc (Some m) None c = refl
further-assoc (Some m) (Some n) None = by (nat_lt n.at m.at)
  where
    by : (b : Bool) → further_left (if b then Some n else Some m) None ≡ (if b then Some n else Some m)
    by true = refl
    by false = refl
further-assoc (Some m) (Some n) (Some o) = by (nat_lt n.at m.at) (nat_lt o.at n.at) refl refl
  where
    by : (b c : Bool) → nat_lt n.at m.at ≡ b → nat_lt o.at n.at ≡ c → further_left (if b then Some n else Some m) (Some o) ≡ further_left (Some m) (if c then Some o else Some n)
    by true true e f =
        let less : nat_lt o.at m.at ≡ true = lt-ltb o.at m.at (omega (arith, ltb-true n.at m.at e, ltb-true o.at n.at f)) in
        ap (λ (x : Bool). if x then Some o else Some n) f ∙ sym (ap (λ (x : Bool). if x then Some o else Some m) less)
    by true false e f = ap (λ (x : Bool). if x then Some o else Some n) f ∙ sym (ap (λ (x : Bool). if x then Some n else Some m) e)
    by false true e f = refl
    by false false e f =
        let more : nat_lt o.at m.at ≡ false = le-ltb o.at m.at (omega (arith, ltb-false n.at m.at e, ltb-false o.at n.at f)) in
        ap (λ (x : Bool). if x then Some o else Some m) more ∙ sym (ap (λ (x : Bool). if x then Some n else Some m) e)

pub further-none : (a : Option Mistake) → further_left a None ≡ a
further-none None = refl
further-none (Some m) = refl

pub leftmost_append : (xs ys : List Mistake) → leftmost (xs ++ ys) ≡ further_left (leftmost xs) (leftmost ys)
leftmost_append [] ys = refl
leftmost_append (x ∷ xs) ys = ap (further_left (Some x)) (leftmost_append xs ys) ∙ sym (further-assoc (Some x) (leftmost xs) (leftmost ys))

module _ {X : Type 0} (mistake : List X → X → Mistake) (is_wrong : List X → X → Bool) where
  -- the leftmost mistake of a list with some before it
  abbrev pub leftmost_after : List X → List X → Option Mistake
  leftmost_after before xs = leftmost (mistakes_in is_wrong mistake before xs)

  -- from an element on
  abbrev pub leftmost_from : List X → ℕ → Option Mistake
  leftmost_from xs i = leftmost_after (take i xs) (drop i xs)

  told : Bool → Mistake → Option Mistake → Option Mistake
  told true here later = further_left (Some here) later
  told false here later = later

  told-leftmost : (wrong : Bool) (here : Mistake) (ys : List Mistake) → leftmost (if wrong then here ∷ ys else ys) ≡ told wrong here (leftmost ys)
  unfolding told
  told-leftmost true here ys = refl
  told-leftmost false here ys = refl

  from-step : (xs : List X) (i : ℕ) (x : X) → i < length xs → x ≡ get_or xs i x → leftmost_from xs i ≡ told (is_wrong (take i xs) x) (mistake (take i xs) x) (leftmost_from xs (i + 1))
  from-step xs i x within is =
      let item : drop i xs ≡ x ∷ drop (i + 1) xs = at_drop_more (λ r. r) xs i x within ∙ ap (λ y. y ∷ drop (i + 1) xs) (sym is) in
      let more : take i xs ++ x ∷ [] ≡ take (i + 1) xs = ap (λ y. take i xs ++ y ∷ []) is ∙ sym (take_more xs i x within) in
      ap (λ r. leftmost_after (take i xs) r) item
      ∙ told-leftmost (is_wrong (take i xs) x) (mistake (take i xs) x) (mistakes_in is_wrong mistake (take i xs ++ x ∷ []) (drop (i + 1) xs))
      ∙ ap (λ b. told (is_wrong (take i xs) x) (mistake (take i xs) x) (leftmost_after b (drop (i + 1) xs))) more

  -- what is found up to an element, and what comes from there on
  pub from_wrong : (xs : List X) (i : ℕ) (x : X) (found whole : Option Mistake) → i < length xs → x ≡ get_or xs i x → is_wrong (take i xs) x ≡ true
      → further_left found (leftmost_from xs i) ≡ whole → further_left (further_left found (Some (mistake (take i xs) x))) (leftmost_from xs (i + 1)) ≡ whole
  unfolding told
  from_wrong xs i x found whole within is wrong so_far =
      further-assoc found (Some (mistake (take i xs) x)) (leftmost_from xs (i + 1))
      ∙ ap (further_left found) (sym (from-step xs i x within is ∙ ap (λ b. told b (mistake (take i xs) x) (leftmost_from xs (i + 1))) wrong))
      ∙ so_far

  pub from_right : (xs : List X) (i : ℕ) (x : X) (found whole : Option Mistake) → i < length xs → x ≡ get_or xs i x → is_wrong (take i xs) x ≡ false
      → further_left found (leftmost_from xs i) ≡ whole → further_left found (leftmost_from xs (i + 1)) ≡ whole
  unfolding told
  from_right xs i x found whole within is right so_far =
      ap (further_left found) (sym (from-step xs i x within is ∙ ap (λ b. told b (mistake (take i xs) x) (leftmost_from xs (i + 1))) right)) ∙ so_far

  pub from_end : (xs : List X) (i : ℕ) (found whole : Option Mistake) → length xs ≤ i → further_left found (leftmost_from xs i) ≡ whole → found ≡ whole
  from_end xs i found whole past so_far =
      sym (further-none found) ∙ ap (λ r. further_left found (leftmost_after (take i xs) r)) (sym (drop_all i xs past)) ∙ so_far

  -- the same, where what is found next is given
  pub wrong_step : (xs : List X) (i : ℕ) (x : X) (found next whole : Option Mistake) → i < length xs → x ≡ get_or xs i x → is_wrong (take i xs) x ≡ true
      → next ≡ further_left found (Some (mistake (take i xs) x)) → further_left found (leftmost_from xs i) ≡ whole → further_left next (leftmost_from xs (i + 1)) ≡ whole
  wrong_step xs i x found next whole within is wrong told so_far =
      ap (λ o. further_left o (leftmost_from xs (i + 1))) told ∙ from_wrong xs i x found whole within is wrong so_far

  pub right_step : (xs : List X) (i : ℕ) (x : X) (found next whole : Option Mistake) → i < length xs → x ≡ get_or xs i x → is_wrong (take i xs) x ≡ false → next ≡ found
      → further_left found (leftmost_from xs i) ≡ whole → further_left next (leftmost_from xs (i + 1)) ≡ whole
  right_step xs i x found next whole within is right told so_far =
      ap (λ o. further_left o (leftmost_from xs (i + 1))) told ∙ from_right xs i x found whole within is right so_far
