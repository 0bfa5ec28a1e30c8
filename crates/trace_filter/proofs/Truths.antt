-- The value of a filter's steps is the truth of each tree that its tokens spell.
use Rattle.std.proofs.Common.{◌≡◌, ◌⊎◌, ◌↔◌, ℕ, zero, suc, ◌+◌, ◌<◌, ◌≤◌, nat_lt, Bool, true, false, not, ◌&&◌, ◌||◌, List, [], ◌∷◌, ◌++◌, length, Option, None, Some, option_and_then, refl, sym, ap, ◌∙◌, subst, inl, inr, arith, append_assoc, append-nil, lt-ltb}
use Rattle.std.proofs.lemmas.Bool.{cond-true, and_parts, and_from}
use Rattle.trace_format.specs.declared.event.Field.{Field}
use Rattle.trace_format.specs.declared.operand.Operand.{Operand}
use Rattle.trace_format.specs.Operands.{Emission, operand_named, is_text, operand_value}
use Rattle.trace_filter.specs.declared.token.Comparison.{Comparison}
use Rattle.trace_filter.specs.declared.frames.Frame.{Frame}
use Rattle.trace_filter.specs.declared.fault.FilterFault.{FilterFault}
use Rattle.trace_filter.specs.declared.fault.FilterFault.TheVariants.{FilterSyntax, NoSuchField, WrongOperator}
use Rattle.trace_filter.specs.declared.fault.FilterCause.TheVariants as cause
use Rattle.trace_filter.specs.Tokens.{Literal, Token, Open, Close, Bang, AndAnd, OrOr, Compare, Name, Value, Illegible, Spot, tokens_of}
use Rattle.trace_filter.specs.Grammar.{Expr, AllOf, Or, Conj, Only, And, Unary, Not, Group, Test, expr_tokens, conj_tokens, unary_tokens, deepest}
use Rattle.trace_filter.specs.Fields.{takes_at, fits_at, unless, or_later}
use Rattle.trace_filter.specs.Subjects.{unless_named, fault_at, named_or, subject_behind, first_fault}
use Rattle.trace_filter.specs.Truth.{DatumCompares, Holds, ConjHolds, UnaryHolds}
use Rattle.trace_filter.specs.Steps.{moves_from, datum_at, Move, Opens, Closes, Inverts, AndThen, OrElse, Checks, fresh, inverted, with_operand, total, test_of, evaluated, at_start}
use Rattle.trace_filter.proofs.Verdicts.{deepest-first}

-- ---- values where any depth is allowed

abbrev free : Emission → Frame → List Frame → List Move → Bool
free emission frame outer [] = total frame
free emission frame outer (Opens ∷ moves) = free emission fresh (frame ∷ outer) moves
free emission frame [] (Closes ∷ moves) = free emission frame [] moves
free emission frame (before ∷ outer) (Closes ∷ moves) = free emission (with_operand before (total frame)) outer moves
free emission frame outer (Inverts ∷ moves) = free emission (record { any = frame.any; all = frame.all; odd = not frame.odd }) outer moves
free emission frame outer (AndThen ∷ moves) = free emission frame outer moves
free emission frame outer (OrElse ∷ moves) = free emission (record { any = total frame; all = true; odd = false }) outer moves
free emission frame outer (Checks subject by b ∷ moves) = free emission (with_operand frame (test_of by (operand_value emission subject) b)) outer moves

-- no more than 16 `(` are open
abbrev Shallow : ℕ → List Move → Type 0
Shallow n [] = Unit {0}
Shallow n (Opens ∷ moves) = (n < 16) × Shallow (suc n) moves
Shallow zero (Closes ∷ moves) = Shallow zero moves
Shallow (suc n) (Closes ∷ moves) = Shallow n moves
Shallow n (Inverts ∷ moves) = Shallow n moves
Shallow n (AndThen ∷ moves) = Shallow n moves
Shallow n (OrElse ∷ moves) = Shallow n moves
Shallow n (Checks subject by b ∷ moves) = Shallow n moves

module _ (emission : Emission) where
  free_is : (frame : Frame) (outer : List Frame) (moves : List Move) → Shallow (length outer) moves → evaluated emission (record { frame = frame; outer = outer }) moves ≡ free emission frame outer moves
  free_is frame outer [] h = refl
  free_is frame outer (Opens ∷ moves) h =
      ap (λ s. evaluated emission s moves) (cond-true (nat_lt (length outer) 16) (record { frame = fresh; outer = frame ∷ outer }) (record { frame = frame; outer = outer }) (lt-ltb (length outer) 16 h.0))
      ∙ free_is fresh (frame ∷ outer) moves h.1
  free_is frame [] (Closes ∷ moves) h = free_is frame [] moves h
  free_is frame (before ∷ outer) (Closes ∷ moves) h = free_is (with_operand before (total frame)) outer moves h
  free_is frame outer (Inverts ∷ moves) h = free_is (record { any = frame.any; all = frame.all; odd = not frame.odd }) outer moves h
  free_is frame outer (AndThen ∷ moves) h = free_is frame outer moves h
  free_is frame outer (OrElse ∷ moves) h = free_is (record { any = total frame; all = true; odd = false }) outer moves h
  free_is frame outer (Checks subject by b ∷ moves) h = free_is (with_operand frame (test_of by (operand_value emission subject) b)) outer moves h

module _ (fields : List Field) where
  shallow_moves : (subject : Operand) (by : Comparison) (bangs : ℕ) (outer : List ℕ) (tokens : List Token) → deepest (record { bangs = bangs; outer = outer }) tokens ≤ 16 → Shallow (length outer) (moves_from fields subject by tokens)
  shallow_moves subject by bangs outer [] h = tt
  shallow_moves subject by bangs outer (Open ∷ tokens) h =
      let less : deepest (record { bangs = 0; outer = bangs ∷ outer }) tokens ≤ 16 = omega arith in
      (omega (arith, deepest-first (record { bangs = 0; outer = bangs ∷ outer }) tokens, less), shallow_moves subject by 0 (bangs ∷ outer) tokens less)
  shallow_moves subject by bangs [] (Close ∷ tokens) h = shallow_moves subject by 0 [] tokens (omega arith)
  shallow_moves subject by bangs (b ∷ outer) (Close ∷ tokens) h = shallow_moves subject by 0 outer tokens (omega arith)
  shallow_moves subject by bangs outer (Bang ∷ tokens) h = shallow_moves subject by (bangs + 1) outer tokens (omega arith)
  shallow_moves subject by bangs outer (AndAnd ∷ tokens) h = shallow_moves subject by bangs outer tokens (omega arith)
  shallow_moves subject by bangs outer (OrOr ∷ tokens) h = shallow_moves subject by bangs outer tokens (omega arith)
  shallow_moves subject by bangs outer (Compare c ∷ tokens) h = shallow_moves subject c bangs outer tokens (omega arith)
  shallow_moves subject by bangs outer (Name name ∷ tokens) h = shallow_moves (named_or (operand_named fields name) subject) by bangs outer tokens (omega arith)
  shallow_moves subject by bangs outer (Value literal ∷ tokens) h = shallow_moves subject by 0 outer tokens (omega arith)
  shallow_moves subject by bangs outer (Illegible ∷ tokens) h = shallow_moves subject by bangs outer tokens (omega arith)

-- ---- tokens with no fault

abbrev pub AllFit : List Field → Operand → List Token → Type 0
AllFit fields subject [] = Unit {0}
AllFit fields subject (token ∷ tokens) = (fault_at fields subject token 0 ≡ None) × AllFit fields (subject_behind fields subject token) tokens

pub unless_true : (b : Bool) (f : FilterFault) → unless b f ≡ None → b ≡ true
unless_true true f h = refl
unless_true false f h = absurd (cc)

pub record Named (o : Option Operand) : Type 0 where
  pub subject : Operand
  pub is : o ≡ Some subject

pub unless_some : (o : Option Operand) (f : FilterFault) → unless_named o f ≡ None → Named o
unless_some (Some s) f h = record { subject = s; is = refl }
unless_some None f h = absurd (cc)

no_fault : (fields : List Field) (subject : Operand) (token : Token) (at offset : ℕ) → fault_at fields subject token at ≡ None → fault_at fields subject token offset ≡ None
no_fault fields subject Open at offset h = refl
no_fault fields subject Close at offset h = refl
no_fault fields subject Bang at offset h = refl
no_fault fields subject AndAnd at offset h = refl
no_fault fields subject OrOr at offset h = refl
no_fault fields subject Illegible at offset h = refl
no_fault fields subject (Compare by) at offset h = ap (λ b. unless b (WrongOperator offset)) (unless_true (takes_at (is_text subject) by) (WrongOperator at) h)
no_fault fields subject (Value literal) at offset h = ap (λ b. unless b (FilterSyntax offset cause.Value)) (unless_true (fits_at (is_text subject) literal) (FilterSyntax at cause.Value) h)
no_fault fields subject (Name name) at offset h = ap (λ o. unless_named o (NoSuchField offset)) (unless_some (operand_named fields name) (NoSuchField at) h).is

pub all_fit : (fields : List Field) (subject : Operand) (spots : List Spot) → first_fault fields subject spots ≡ None → AllFit fields subject (tokens_of spots)
all_fit fields subject [] h = tt
all_fit fields subject (spot ∷ spots) h =
    let parts = both (fault_at fields subject spot.token spot.at) (first_fault fields (subject_behind fields subject spot.token) spots) h in
    (no_fault fields subject spot.token spot.at 0 parts.0, all_fit fields (subject_behind fields subject spot.token) spots parts.1)
  where
    both : (a b : Option FilterFault) → or_later a b ≡ None → (a ≡ None) × (b ≡ None)
    both None b h = (refl, h)
    both (Some f) b h = absurd (cc)

-- ---- trees

-- what the test of each name decides, in an emission whose values fit the fields
abbrev pub TestsDecide : List Field → Emission → Type 0
TestsDecide fields emission = (name : List ℕ) (subject : Operand) (by : Comparison) (literal : Literal) → operand_named fields name ≡ Some subject → takes_at (is_text subject) by ≡ true → fits_at (is_text subject) literal ≡ true
    → (test_of by (operand_value emission subject) (datum_at (is_text subject) literal) ≡ true) ↔ DatumCompares by (operand_value emission subject) literal

and_assoc : (a b c : Bool) → (a && b && c) ≡ (a && (b && c))
and_assoc true b c = refl
and_assoc false b c = refl

invert_twice : (odd holds : Bool) → inverted (not odd) holds ≡ inverted odd (not holds)
invert_twice true true = refl
invert_twice true false = refl
invert_twice false holds = refl

pub not_decides : (P : Type 0) (b : Bool) → (b ≡ true) ↔ P → (not b ≡ true) ↔ (P → ⊥)
not_decides P true d = ((λ h. absurd (wrong h)), (λ n. absurd (n (d.0 refl))))
  where
    wrong : false ≡ true → ⊥
    wrong h = cc
not_decides P false d = ((λ h p. wrong (d.1 p)), (λ n. refl))
  where
    wrong : false ≡ true → ⊥
    wrong h = cc

and_decides : (P Q : Type 0) (a b : Bool) → (a ≡ true) ↔ P → (b ≡ true) ↔ Q → ((a && b) ≡ true) ↔ (P × Q)
and_decides P Q a b d e = ((λ h. let parts = and_parts a b h in (d.0 parts.0, e.0 parts.1)), (λ h. and_from a b (d.1 h.0) (e.1 h.1)))

or_decides : (P Q : Type 0) (a b : Bool) → (a ≡ true) ↔ P → (b ≡ true) ↔ Q → ((a || b) ≡ true) ↔ (P ⊎ Q)
or_decides P Q true b d e = ((λ h. inl (d.0 refl)), (λ h. refl))
or_decides P Q false b d e = ((λ h. inr (e.0 h)), back)
  where
    wrong : false ≡ true → ⊥
    wrong h = cc

    back : P ⊎ Q → b ≡ true
    back (inl p) = absurd (wrong (d.1 p))
    back (inr q) = e.1 q

module _ (fields : List Field) (emission : Emission) where
  -- an operand: its truth, and where its tokens lead
  record UnaryValue (tokens rest : List Token) (subject : Operand) (by : Comparison) (P : Type 0) : Type 0 where
    holds : Bool
    decides : (holds ≡ true) ↔ P
    last : Operand
    last_by : Comparison
    fit : AllFit fields last rest
    gives : (frame : Frame) (outer : List Frame) → free emission frame outer (moves_from fields subject by (tokens ++ rest)) ≡ free emission (with_operand frame holds) outer (moves_from fields last last_by rest)

  record Product (tokens rest : List Token) (subject : Operand) (by : Comparison) (P : Type 0) : Type 0 where
    holds : Bool
    decides : (holds ≡ true) ↔ P
    last : Operand
    last_by : Comparison
    fit : AllFit fields last rest
    gives : (any all : Bool) (outer : List Frame) → free emission (record { any = any; all = all; odd = false }) outer (moves_from fields subject by (tokens ++ rest)) ≡ free emission (record { any = any; all = all && holds; odd = false }) outer (moves_from fields last last_by rest)

  record Whole (tokens rest : List Token) (subject : Operand) (by : Comparison) (P : Type 0) : Type 0 where
    any : Bool
    all : Bool
    decides : ((any || all) ≡ true) ↔ P
    last : Operand
    last_by : Comparison
    fit : AllFit fields last rest
    gives : (outer : List Frame) → free emission fresh outer (moves_from fields subject by (tokens ++ rest)) ≡ free emission (record { any = any; all = all; odd = false }) outer (moves_from fields last last_by rest)

  module _ (tests : TestsDecide fields emission) where
    mutual
      expr_value : (e : Expr) (rest : List Token) (subject : Operand) (by : Comparison) → AllFit fields subject (expr_tokens e ++ rest) → Whole (expr_tokens e) rest subject by (Holds fields emission e)
      expr_value (AllOf c) rest subject by fit =
          let one = conj_value c rest subject by fit in
          record { any = false; all = one.holds; decides = one.decides; last = one.last; last_by = one.last_by; fit = one.fit; gives = λ outer. one.gives false true outer }
      expr_value (Or e c) rest subject by fit =
          let cut = append_assoc (expr_tokens e) (OrOr ∷ conj_tokens c) rest in
          let one = expr_value e (OrOr ∷ (conj_tokens c ++ rest)) subject by (subst (AllFit fields subject) cut fit) in
          let two = conj_value c rest one.last one.last_by one.fit.1 in
          record {
            any = one.any || one.all;
            all = two.holds;
            decides = or_decides (Holds fields emission e) (ConjHolds fields emission c) (one.any || one.all) two.holds one.decides two.decides;
            last = two.last;
            last_by = two.last_by;
            fit = two.fit;
            gives = λ outer. ap (λ t. free emission fresh outer (moves_from fields subject by t)) cut ∙ one.gives outer ∙ two.gives (one.any || one.all) true outer;
          }

      conj_value : (c : Conj) (rest : List Token) (subject : Operand) (by : Comparison) → AllFit fields subject (conj_tokens c ++ rest) → Product (conj_tokens c) rest subject by (ConjHolds fields emission c)
      conj_value (Only u) rest subject by fit =
          let one = unary_value u rest subject by fit in
          record { holds = one.holds; decides = one.decides; last = one.last; last_by = one.last_by; fit = one.fit; gives = λ any all outer. one.gives (record { any = any; all = all; odd = false }) outer }
      conj_value (And c u) rest subject by fit =
          let cut = append_assoc (conj_tokens c) (AndAnd ∷ unary_tokens u) rest in
          let one = conj_value c (AndAnd ∷ (unary_tokens u ++ rest)) subject by (subst (AllFit fields subject) cut fit) in
          let two = unary_value u rest one.last one.last_by one.fit.1 in
          record {
            holds = one.holds && two.holds;
            decides = and_decides (ConjHolds fields emission c) (UnaryHolds fields emission u) one.holds two.holds one.decides two.decides;
            last = two.last;
            last_by = two.last_by;
            fit = two.fit;
            gives = λ any all outer. ap (λ t. free emission (record { any = any; all = all; odd = false }) outer (moves_from fields subject by t)) cut
                ∙ one.gives any all outer ∙ two.gives (record { any = any; all = all && one.holds; odd = false }) outer
                ∙ ap (λ a. free emission (record { any = any; all = a; odd = false }) outer (moves_from fields two.last two.last_by rest)) (and_assoc all one.holds two.holds);
          }

      unary_value : (u : Unary) (rest : List Token) (subject : Operand) (by : Comparison) → AllFit fields subject (unary_tokens u ++ rest) → UnaryValue (unary_tokens u) rest subject by (UnaryHolds fields emission u)
      unary_value (Not u) rest subject by fit =
          let one = unary_value u rest subject by fit.1 in
          record {
            holds = not one.holds;
            decides = not_decides (UnaryHolds fields emission u) one.holds one.decides;
            last = one.last;
            last_by = one.last_by;
            fit = one.fit;
            gives = λ frame outer. one.gives (record { any = frame.any; all = frame.all; odd = not frame.odd }) outer
                ∙ ap (λ h. free emission (record { any = frame.any; all = frame.all && h; odd = false }) outer (moves_from fields one.last one.last_by rest)) (invert_twice frame.odd one.holds);
          }
      unary_value (Group e) rest subject by fit =
          let cut = append_assoc (expr_tokens e) (Close ∷ []) rest in
          let one = expr_value e (Close ∷ rest) subject by (subst (AllFit fields subject) cut fit.1) in
          record {
            holds = one.any || one.all;
            decides = one.decides;
            last = one.last;
            last_by = one.last_by;
            fit = one.fit.1;
            gives = λ frame outer. ap (λ t. free emission fresh (frame ∷ outer) (moves_from fields subject by t)) cut ∙ one.gives (frame ∷ outer);
          }
      unary_value (Test name c literal) rest subject by fit =
          let found = unless_some (operand_named fields name) (NoSuchField 0) fit.0 in
          let same : named_or (operand_named fields name) subject ≡ found.subject = ap (λ o. named_or o subject) found.is in
          let takes : takes_at (is_text found.subject) c ≡ true = ap (λ s. takes_at (is_text s) c) (sym same) ∙ unless_true (takes_at (is_text (named_or (operand_named fields name) subject)) c) (WrongOperator 0) fit.1.0 in
          let fits : fits_at (is_text found.subject) literal ≡ true = ap (λ s. fits_at (is_text s) literal) (sym same) ∙ unless_true (fits_at (is_text (named_or (operand_named fields name) subject)) literal) (FilterSyntax 0 cause.Value) fit.1.1.0 in
          let decided = tests name found.subject c literal found.is takes fits in
          record {
            holds = test_of c (operand_value emission found.subject) (datum_at (is_text found.subject) literal);
            decides = subst (λ o. (test_of c (operand_value emission found.subject) (datum_at (is_text found.subject) literal) ≡ true) ↔ DatumCompares c o literal) (sym (ap (option_and_then (operand_value emission)) found.is)) decided;
            last = named_or (operand_named fields name) subject;
            last_by = c;
            fit = fit.1.1.1;
            gives = λ frame outer. ap (λ s. free emission (with_operand frame (test_of c (operand_value emission s) (datum_at (is_text s) literal))) outer (moves_from fields (named_or (operand_named fields name) subject) c rest)) same;
          }

    -- the value of the steps is the truth of the tree
    pub value_is : (e : Expr) (subject : Operand) (by : Comparison) → AllFit fields subject (expr_tokens e) → deepest (record { bangs = 0; outer = [] }) (expr_tokens e) ≤ 16
        → (evaluated emission at_start (moves_from fields subject by (expr_tokens e)) ≡ true) ↔ Holds fields emission e
    value_is e subject by fit shallow =
        let whole = expr_value e [] subject by (subst (AllFit fields subject) (sym (append-nil (expr_tokens e))) fit) in
        let value : evaluated emission at_start (moves_from fields subject by (expr_tokens e)) ≡ (whole.any || whole.all) =
        free_is emission fresh [] (moves_from fields subject by (expr_tokens e)) (shallow_moves fields subject by 0 [] (expr_tokens e) shallow)
        ∙ ap (λ t. free emission fresh [] (moves_from fields subject by t)) (sym (append-nil (expr_tokens e))) ∙ whole.gives [] in
        ((λ h. whole.decides.0 (sym value ∙ h)), (λ h. value ∙ whole.decides.1 h))
