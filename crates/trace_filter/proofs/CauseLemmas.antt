-- What could go on at the offset of a fault.
use Rattle.std.proofs.Common.{◌≡◌, ◌⊎◌, ◌↔◌, IsTrue, ℕ, zero, suc, ◌+◌, ◌-◌, ◌≤◌, nat_lt, Bool, true, false, if◌then◌else◌, List, [], ◌∷◌, length, reverse, take, Option, None, Some, option_map, option_and_then, Err, refl, sym, ap, ◌∙◌, subst, inl, inr, arith, lt-ltb}
use Rattle.std.specs.List.{list_all, last_or, prefix_len}
use Rattle.std.proofs.lemmas.List.{length-take}
use Rattle.std.proofs.lemmas.Bool.{cond-true, cond-false, le-ltb}
use Rattle.trace_format.specs.declared.event.Field.{Field}
use Rattle.trace_format.specs.Definitions.{Definition}
use Rattle.trace_filter.specs.declared.token.Comparison.{Comparison}
use Rattle.trace_filter.specs.declared.fault.FilterCause.{FilterCause}
use Rattle.trace_filter.specs.declared.fault.FilterCause.TheVariants as cause
use Rattle.trace_filter.specs.declared.fault.FilterFault.TheVariants.{FilterSyntax, WrongOperator}
use Rattle.trace_filter.specs.declared.syntax.Due.{Due}
use Rattle.trace_filter.specs.declared.syntax.Due.TheVariants as due
use Rattle.trace_filter.specs.declared.syntax.Verdict.TheVariants.{Fine, TooDeep, WrongAt}
use Rattle.trace_lex.specs.Blanks.{is_blank, without_end}
use Rattle.trace_filter.specs.Tokens.{Literal, Word, Quoted, Token, Open, Close, Bang, AndAnd, OrOr, Compare, Name, Value, Illegible, piece_of, is_comparison, Spot, spots_from, spots_of, tokens_of}
use Rattle.trace_filter.specs.Grammar.{open_count}
use Rattle.trace_filter.specs.Syntax.{Standing, is_inside, next_due, moved, step, start, may_end, going_on, reading}
use Rattle.trace_filter.specs.FilterCauses.{is_sign, cause_after, cause_from, cause_at, due_at, standing_before, last_before, IsAfterSigns}
use Rattle.trace_filter.specs.Fields.{is_text_named, takes_at, fits_at, unless, or_later, test_fault, first_misfit}
use Rattle.trace_filter.specs.Filters.{ComesTo, Misfits, IsWrong, answer_of}
use Rattle.trace_filter.proofs.Options.{some_is, map_some}
use Rattle.trace_filter.proofs.TestedMoves.{InTests, tree_in_tests}
use Rattle.trace_filter.proofs.Verdicts.{only}
use Rattle.trace_filter.proofs.FilterLemmas.{refused_of}

-- ---- offsets rise

-- each token begins after the first byte of the one before it, and within a text of the length
abbrev Rises : ℕ → List Spot → ℕ → Type 0
Rises from [] len = from ≤ len
Rises from (spot ∷ spots) len = (from ≤ spot.at) × Rises (suc spot.at) spots len

lower : (a b len : ℕ) (spots : List Spot) → a ≤ b → Rises b spots len → Rises a spots len
lower a b len [] h r = omega arith
lower a b len (spot ∷ spots) h r = (omega (arith, r.0), r.1)

rises : (value_due : Bool) (skip at len : ℕ) (bs : List ℕ) → at + length bs ≤ len → Rises at (spots_from value_due skip at bs) len
rises value_due zero at len [] h = omega arith
rises value_due (suc skip) at len [] h = omega arith
rises value_due (suc skip) at len (b ∷ bs) h = lower at (at + 1) len (spots_from value_due skip (at + 1) bs) (omega arith) (rises value_due skip (at + 1) len bs (omega arith))
rises value_due zero at len (b ∷ bs) h =
    by (spots_from value_due 0 (at + 1) bs) (spots_from (is_comparison (piece_of value_due b bs).token) (piece_of value_due b bs).more (at + 1) bs) (piece_of value_due b bs).token (is_blank b)
    (lower at (at + 1) len (spots_from value_due 0 (at + 1) bs) (omega arith) (rises value_due 0 (at + 1) len bs (omega arith)))
    (lower (suc at) (at + 1) len (spots_from (is_comparison (piece_of value_due b bs).token) (piece_of value_due b bs).more (at + 1) bs) (omega arith)
    (rises (is_comparison (piece_of value_due b bs).token) (piece_of value_due b bs).more (at + 1) len bs (omega arith)))
  where
    by : (u v : List Spot) (token : Token) (blank : Bool) → Rises at u len → Rises (suc at) v len → Rises at (if blank then u else (record { at = at; token = token } ∷ v)) len
    by u v token true r s = r
    by u v token false r s = (omega arith, s)

-- ---- the cause after a token

-- a token that comes before the offset
pub after_one : (before : FilterCause) (spot : Spot) (spots : List Spot) (at : ℕ) → suc spot.at ≤ at → cause_from before (spot ∷ spots) at ≡ cause_from (cause_after spot.token) spots at
after_one before spot spots at h = cond-true (nat_lt spot.at at) _ _ (lt-ltb spot.at at (omega (arith, h)))

-- the token at the offset
pub before_one : (before : FilterCause) (spot : Spot) (spots : List Spot) (at : ℕ) → at ≤ spot.at → cause_from before (spot ∷ spots) at ≡ before
before_one before spot spots at h = cond-false (nat_lt spot.at at) _ _ (le-ltb spot.at at h)

-- ---- the standing there

joint_due : (signs : Bool) → due.Joint ≡ due_at (if signs then cause.JointAfterSigns else cause.Joint)
joint_due true = refl
joint_due false = refl

next_due_is : (d : Due) (outer : List ℕ) (token : Token) (next : Due) → next_due d outer token ≡ Some next → next ≡ due_at (cause_after token)
next_due_is due.Operand outer Open next h = sym (some_is h)
next_due_is due.Operand outer Bang next h = sym (some_is h)
next_due_is due.Operand outer (Name bytes) next h = sym (some_is h)
next_due_is due.Operand outer _ next h = absurd (cc)
next_due_is due.Operator outer (Compare comparison) next h = sym (some_is h)
next_due_is due.Operator outer _ next h = absurd (cc)
next_due_is due.Value outer (Value (Word bytes)) next h = sym (some_is h) ∙ joint_due (list_all is_sign bytes)
next_due_is due.Value outer (Value (Quoted bytes)) next h = sym (some_is h)
next_due_is due.Value outer _ next h = absurd (cc)
next_due_is due.Joint outer AndAnd next h = sym (some_is h)
next_due_is due.Joint outer OrOr next h = sym (some_is h)
next_due_is due.Joint outer Close next h = by (is_inside outer) h
  where
    by : (inside : Bool) → (if inside then Some due.Joint else None) ≡ Some next → next ≡ due.Joint
    by true h = sym (some_is h)
    by false h = absurd (cc)
next_due_is due.Joint outer _ next h = absurd (cc)

step_due : (standing next : Standing) (token : Token) → step standing token ≡ Some next → next.due ≡ due_at (cause_after token)
unfolding step
step_due standing next token h =
    let made = map_some (moved standing.opened token) (next_due standing.due standing.opened.outer token) next h in
    ap (λ (s : Standing). s.due) (sym made.gives) ∙ next_due_is standing.due standing.opened.outer token made.value made.was

-- the standing before an offset has due what the cause names
abbrev IsDue : Standing → FilterCause → List Spot → ℕ → Type 0
IsDue standing before spots at = option_map (λ (s : Standing). s.due) (standing_before standing spots at) ≡ Some (due_at (cause_from before spots at))

wrong_from : (standing : Standing) (before : FilterCause) (from len at : ℕ) (spots : List Spot) → standing.due ≡ due_at before → Rises from spots len → reading standing spots len ≡ WrongAt at
    → (from ≤ at) × IsDue standing before spots at
wrong_from standing before from len at [] d r h = by (may_end standing.due standing.opened.outer) h
  where
    by : (may : Bool) → (if may then Fine else WrongAt len) ≡ WrongAt at → (from ≤ at) × (Some standing.due ≡ Some (due_at before))
    by true e = absurd (cc)
    by false e = let same : len ≡ at = cc in (omega (arith, same, r), ap (λ x. Some x) d)
wrong_from standing before from len at (spot ∷ spots) d r h =
    by (λ next e f. wrong_from next (cause_after spot.token) (suc spot.at) len at spots e r.1 f) (step standing spot.token) refl h
  where
    here : (t : Bool) → t ≡ false
        → option_map (λ (s : Standing). s.due) (if t then option_and_then (λ next. standing_before next spots at) (step standing spot.token) else Some standing) ≡ Some (due_at (if t then cause_from (cause_after spot.token) spots at else before))
    here true e = absurd (cc)
    here false e = ap (λ x. Some x) d

    there : (next : Standing) → step standing spot.token ≡ Some next → IsDue next (cause_after spot.token) spots at → (t : Bool) → t ≡ true
        → option_map (λ (s : Standing). s.due) (if t then option_and_then (λ next. standing_before next spots at) (step standing spot.token) else Some standing) ≡ Some (due_at (if t then cause_from (cause_after spot.token) spots at else before))
    there next e f true g = ap (λ o. option_map (λ (s : Standing). s.due) (option_and_then (λ n. standing_before n spots at) o)) e ∙ f
    there next e f false g = absurd (cc)

    deep_or_on : ((next : Standing) → next.due ≡ due_at (cause_after spot.token) → reading next spots len ≡ WrongAt at → (suc spot.at ≤ at) × IsDue next (cause_after spot.token) spots at)
        → (next : Standing) → step standing spot.token ≡ Some next → (deep : Bool) → (if deep then TooDeep else reading next spots len) ≡ WrongAt at
        → (from ≤ at) × IsDue standing before (spot ∷ spots) at
    deep_or_on on next e true f = absurd (cc)
    deep_or_on on next e false f =
        let later = on next (step_due standing next spot.token e) f in
        (omega (arith, r.0, later.0), there next e later.1 (nat_lt spot.at at) (lt-ltb spot.at at (omega (arith, later.0))))

    by : ((next : Standing) → next.due ≡ due_at (cause_after spot.token) → reading next spots len ≡ WrongAt at → (suc spot.at ≤ at) × IsDue next (cause_after spot.token) spots at)
        → (o : Option Standing) → step standing spot.token ≡ o → going_on o spot.at (λ next. reading next spots len) ≡ WrongAt at
        → (from ≤ at) × IsDue standing before (spot ∷ spots) at
    by on None e f =
        let same : spot.at ≡ at = cc in
        (omega (arith, r.0, same), here (nat_lt spot.at at) (le-ltb spot.at at (omega (arith, same))))
    by on (Some next) e f = deep_or_on on next e (nat_lt 16 (open_count next.opened)) f

-- ---- a value that does not fit

-- the cause of a misfit is the one at its offset
abbrev Told : List Field → List Spot → Type 0
Told fields spots = (before : FilterCause) (from len at : ℕ) (why : FilterCause) → InTests (tokens_of spots) → Rises from spots len → first_misfit fields spots ≡ Some (FilterSyntax at why)
    → (from ≤ at) × (why ≡ cause_from before spots at)

pass : (before why : FilterCause) (spot : Spot) (spots : List Spot) (from at : ℕ) → from ≤ spot.at → (suc spot.at ≤ at) × (why ≡ cause_from (cause_after spot.token) spots at)
    → (from ≤ at) × (why ≡ cause_from before (spot ∷ spots) at)
pass before why spot spots from at h later = (omega (arith, h, later.0), later.1 ∙ sym (after_one before spot spots at later.0))

module _ (fields : List Field) where
  one_test : (name : List ℕ) (name_at : ℕ) (by : Comparison) (by_at : ℕ) (literal : Literal) (value_at : ℕ) (rest : List Spot) → Told fields rest
      → Told fields (record { at = name_at; token = Name name } ∷ record { at = by_at; token = Compare by } ∷ record { at = value_at; token = Value literal } ∷ rest)
  one_test name name_at by by_at literal value_at rest told before from len at why t r h =
      pass before why (record { at = name_at; token = Name name }) (record { at = by_at; token = Compare by } ∷ record { at = value_at; token = Value literal } ∷ rest) from at r.0
      (pass cause.Operator why (record { at = by_at; token = Compare by }) (record { at = value_at; token = Value literal } ∷ rest) (suc name_at) at r.1.0
      (named (is_text_named fields name) h))
    where
      value : (takes fits : Bool) → or_later (or_later (unless takes (WrongOperator by_at)) (unless fits (FilterSyntax value_at cause.Value))) (first_misfit fields rest) ≡ Some (FilterSyntax at why)
          → (suc by_at ≤ at) × (why ≡ cause_from cause.Value (record { at = value_at; token = Value literal } ∷ rest) at)
      value true true f =
          pass cause.Value why (record { at = value_at; token = Value literal }) rest (suc by_at) at r.1.1.0 (told (cause_after (Value literal)) (suc value_at) len at why t r.1.1.1 f)
      value true false f =
          let same : value_at ≡ at = cc in
          let is : cause.Value ≡ why = cc in
          (omega (arith, same, r.1.1.0), sym is ∙ sym (before_one cause.Value (record { at = value_at; token = Value literal }) rest at (omega (arith, same))))
      value false fits f = absurd (cc)

      named : (o : Option Bool) → or_later (test_fault o name_at (record { at = by_at; token = Compare by }) (record { at = value_at; token = Value literal })) (first_misfit fields rest) ≡ Some (FilterSyntax at why)
          → (suc by_at ≤ at) × (why ≡ cause_from cause.Value (record { at = value_at; token = Value literal } ∷ rest) at)
      named None f = absurd (cc)
      named (Some text) f = value (takes_at text by) (fits_at text literal) f

  -- after a token that is of no test
  passed : (spot : Spot) (spots : List Spot) → Told fields spots → (before : FilterCause) (from len at : ℕ) (why : FilterCause) → InTests (tokens_of spots) → Rises from (spot ∷ spots) len
      → first_misfit fields spots ≡ Some (FilterSyntax at why) → (from ≤ at) × (why ≡ cause_from before (spot ∷ spots) at)
  passed spot spots later before from len at why t r h =
      pass before why spot spots from at r.0 (later (cause_after spot.token) (suc spot.at) len at why t r.1 h)

  last_token : (token : Token) (token_at : ℕ) → Told fields [] → Told fields (record { at = token_at; token = token } ∷ [])
  last_token Open token_at later before from len at why t r h = passed (record { at = token_at; token = Open }) [] later before from len at why t r h
  last_token Close token_at later before from len at why t r h = passed (record { at = token_at; token = Close }) [] later before from len at why t r h
  last_token Bang token_at later before from len at why t r h = passed (record { at = token_at; token = Bang }) [] later before from len at why t r h
  last_token AndAnd token_at later before from len at why t r h = passed (record { at = token_at; token = AndAnd }) [] later before from len at why t r h
  last_token OrOr token_at later before from len at why t r h = passed (record { at = token_at; token = OrOr }) [] later before from len at why t r h
  last_token (Compare by) token_at later before from len at why t r h = absurd t
  last_token (Name name) token_at later before from len at why t r h = absurd t
  last_token (Value literal) token_at later before from len at why t r h = absurd t
  last_token Illegible token_at later before from len at why t r h = absurd t

  two_tokens : (token : Token) (token_at : ℕ) (next : Token) (next_at : ℕ) → Told fields (record { at = next_at; token = next } ∷ []) → Told fields (record { at = token_at; token = token } ∷ record { at = next_at; token = next } ∷ [])
  two_tokens Open token_at next next_at later before from len at why t r h = passed (record { at = token_at; token = Open }) (record { at = next_at; token = next } ∷ []) later before from len at why t r h
  two_tokens Close token_at next next_at later before from len at why t r h = passed (record { at = token_at; token = Close }) (record { at = next_at; token = next } ∷ []) later before from len at why t r h
  two_tokens Bang token_at next next_at later before from len at why t r h = passed (record { at = token_at; token = Bang }) (record { at = next_at; token = next } ∷ []) later before from len at why t r h
  two_tokens AndAnd token_at next next_at later before from len at why t r h = passed (record { at = token_at; token = AndAnd }) (record { at = next_at; token = next } ∷ []) later before from len at why t r h
  two_tokens OrOr token_at next next_at later before from len at why t r h = passed (record { at = token_at; token = OrOr }) (record { at = next_at; token = next } ∷ []) later before from len at why t r h
  two_tokens (Compare by) token_at next next_at later before from len at why t r h = absurd t
  two_tokens (Name name) token_at (Compare by) next_at later before from len at why t r h = absurd t
  two_tokens (Name name) token_at _ next_at later before from len at why t r h = absurd t
  two_tokens (Value literal) token_at next next_at later before from len at why t r h = absurd t
  two_tokens Illegible token_at next next_at later before from len at why t r h = absurd t

  more_tokens : (token : Token) (token_at : ℕ) (next : Token) (next_at : ℕ) (third : Token) (third_at : ℕ) (rest : List Spot) → Told fields (record { at = next_at; token = next } ∷ record { at = third_at; token = third } ∷ rest) → Told fields rest
      → Told fields (record { at = token_at; token = token } ∷ record { at = next_at; token = next } ∷ record { at = third_at; token = third } ∷ rest)
  more_tokens Open token_at next next_at third third_at rest later latest before from len at why t r h = passed (record { at = token_at; token = Open }) (record { at = next_at; token = next } ∷ record { at = third_at; token = third } ∷ rest) later before from len at why t r h
  more_tokens Close token_at next next_at third third_at rest later latest before from len at why t r h = passed (record { at = token_at; token = Close }) (record { at = next_at; token = next } ∷ record { at = third_at; token = third } ∷ rest) later before from len at why t r h
  more_tokens Bang token_at next next_at third third_at rest later latest before from len at why t r h = passed (record { at = token_at; token = Bang }) (record { at = next_at; token = next } ∷ record { at = third_at; token = third } ∷ rest) later before from len at why t r h
  more_tokens AndAnd token_at next next_at third third_at rest later latest before from len at why t r h = passed (record { at = token_at; token = AndAnd }) (record { at = next_at; token = next } ∷ record { at = third_at; token = third } ∷ rest) later before from len at why t r h
  more_tokens OrOr token_at next next_at third third_at rest later latest before from len at why t r h = passed (record { at = token_at; token = OrOr }) (record { at = next_at; token = next } ∷ record { at = third_at; token = third } ∷ rest) later before from len at why t r h
  more_tokens (Compare by) token_at next next_at third third_at rest later latest before from len at why t r h = absurd t
  more_tokens (Name name) token_at (Compare by) next_at (Value literal) third_at rest later latest before from len at why t r h = one_test name token_at by next_at literal third_at rest latest before from len at why t r h
  more_tokens (Name name) token_at _ next_at _ third_at rest later latest before from len at why t r h = absurd t
  more_tokens (Value literal) token_at next next_at third third_at rest later latest before from len at why t r h = absurd t
  more_tokens Illegible token_at next next_at third third_at rest later latest before from len at why t r h = absurd t

  misfit_told : (spots : List Spot) → Told fields spots
  misfit_told [] before from len at why t r h = absurd (cc)
  misfit_told (spot ∷ []) before from len at why t r h = last_token spot.token spot.at (misfit_told []) before from len at why t r h
  misfit_told (spot ∷ next ∷ []) before from len at why t r h = two_tokens spot.token spot.at next.token next.at (misfit_told (next ∷ [])) before from len at why t r h
  misfit_told (spot ∷ next ∷ third ∷ rest) before from len at why t r h =
      more_tokens spot.token spot.at next.token next.at third.token third.at rest (misfit_told (next ∷ third ∷ rest)) (misfit_told rest) before from len at why t r h

-- ---- the laws

-- the front of a text is no longer than it
pub end_cut : (text : List ℕ) → length (without_end text) ≤ length text
end_cut text = omega (arith, length-take (length text - prefix_len is_blank (reverse text)) text)

spots_rise : (text : List ℕ) → Rises 0 (spots_of text) (length text)
spots_rise text = rises false 0 0 (length text) (without_end text) (omega (arith, end_cut text))

pub cause_is_there : (definition : Definition) (text : List ℕ) (at : ℕ) (why : FilterCause) → answer_of definition text ≡ Err (FilterSyntax at why) → why ≡ cause_at (spots_of text) at
cause_is_there definition text at why h = by (refused_of definition text (FilterSyntax at why) h)
  where
    by : IsWrong text at why ⊎ Misfits definition text (FilterSyntax at why) → why ≡ cause_at (spots_of text) at
    by (inl wrong) = wrong.2
    by (inr misfit) =
        let tests : InTests (tokens_of (spots_of text)) = subst InTests misfit.1.whole.spelled (tree_in_tests misfit.1.whole.tree) in
        (misfit_told definition.fields (spots_of text) cause.Operand 0 (length text) at why tests (spots_rise text) misfit.2).1

pub cause_is_due : (text : List ℕ) (at : ℕ) → ComesTo text (WrongAt at) → option_map (λ (s : Standing). s.due) (standing_before start (spots_of text) at) ≡ Some (due_at (cause_at (spots_of text) at))
cause_is_due text at comes = (wrong_from start cause.Operand 0 (length text) at (spots_of text) refl (spots_rise text) (only (length text) (spots_of text) (WrongAt at) comes)).1

-- ---- the cause by the last token before the offset

-- what could go on after it, or at the beginning
abbrev after_last : Option Token → FilterCause
after_last None = cause.Operand
after_last (Some token) = cause_after token

by_last : (last : Option Token) (spots : List Spot) (at : ℕ)
    → cause_from (after_last last) spots at ≡ after_last (last_or last (tokens_of (take (prefix_len (λ spot. nat_lt spot.at at) spots) spots)))
by_last last [] at = refl
by_last last (spot ∷ spots) at = by (nat_lt spot.at at) (by_last (Some spot.token) spots at)
  where
    by : (t : Bool) → cause_from (cause_after spot.token) spots at ≡ after_last (last_or (Some spot.token) (tokens_of (take (prefix_len (λ spot. nat_lt spot.at at) spots) spots)))
        → (if t then cause_from (cause_after spot.token) spots at else after_last last)
        ≡ after_last (last_or last (tokens_of (take (if t then 1 + prefix_len (λ spot. nat_lt spot.at at) spots else 0) (spot ∷ spots))))
    by true h =
        let more : 1 + prefix_len (λ s. nat_lt s.at at) spots ≡ suc (prefix_len (λ s. nat_lt s.at at) spots) = omega arith in
        h ∙ ap (λ n. after_last (last_or last (tokens_of (take n (spot ∷ spots))))) (sym more)
    by false h = refl

-- a bare word of bytes of operators alone
record AreSigns (token : Token) : Type 0 where
  word : List ℕ
  is : token ≡ Value (Word word)
  signs : IsTrue (list_all is_sign word)

signs_of : (token : Token) → cause_after token ≡ cause.JointAfterSigns → AreSigns token
signs_of (Value (Word word)) h = by (list_all is_sign word) refl h
  where
    by : (t : Bool) → list_all is_sign word ≡ t → (if t then cause.JointAfterSigns else cause.Joint) ≡ cause.JointAfterSigns → AreSigns (Value (Word word))
    by true e f = record { word = word; is = refl; signs = e }
    by false e f = absurd (cc)
signs_of (Value (Quoted bytes)) h = absurd (cc)
signs_of Open h = absurd (cc)
signs_of Close h = absurd (cc)
signs_of Bang h = absurd (cc)
signs_of AndAnd h = absurd (cc)
signs_of OrOr h = absurd (cc)
signs_of (Compare comparison) h = absurd (cc)
signs_of (Name bytes) h = absurd (cc)
signs_of Illegible h = absurd (cc)

pub signs_are_told : (spots : List Spot) (at : ℕ) → (cause_at spots at ≡ cause.JointAfterSigns) ↔ IsAfterSigns spots at
signs_are_told spots at = (λ h. there (last_before spots at) refl (sym (by_last None spots at) ∙ h), back)
  where
    there : (last : Option Token) → last_before spots at ≡ last → after_last last ≡ cause.JointAfterSigns → IsAfterSigns spots at
    there None e f = absurd (cc)
    there (Some token) e f = let signs = signs_of token f in record { word = signs.word; last = e ∙ ap (λ t. Some t) signs.is; signs = signs.signs }

    back : IsAfterSigns spots at → cause_at spots at ≡ cause.JointAfterSigns
    back is = by_last None spots at ∙ ap after_last is.last ∙ cond-true (list_all is_sign is.word) _ _ is.signs
