-- What `Filter::parse` and `Filter::passes` say.
use Rattle.std.proofs.Common.{◌≡◌, ◌⊎◌, ◌↔◌, ℕ, ◌≤◌, nat_lt, Bool, true, false, IsTrue, List, [], ◌∷◌, length, Option, None, Some, Result, Ok, Err, IfOk, IfErr, refl, sym, ap, ◌∙◌, subst, inl, inr, ltb-true, lt-ltb}
use Rattle.std.proofs.lemmas.Bool.{ltb-false, le-ltb}
use Rattle.trace_format.specs.declared.event.Field.{Field}
use Rattle.trace_format.specs.Cells.{Cells, IsRowOf}
use Rattle.trace_format.specs.Definitions.{Definition, IsDefinition}
use Rattle.trace_filter.specs.declared.fault.FilterFault.{FilterFault}
use Rattle.trace_filter.specs.declared.fault.FilterFault.TheVariants.{TooLong, TooDeep, FilterSyntax, NoSuchField, WrongOperator, Memory}
use Rattle.trace_filter.specs.declared.fault.FilterCause.{FilterCause}
use Rattle.trace_filter.specs.declared.fault.FilterCause.TheVariants as cause
use Rattle.trace_filter.specs.declared.syntax.Verdict.{Verdict}
use Rattle.trace_filter.specs.declared.syntax.Verdict.TheVariants.{Fine, WrongAt}
use Rattle.trace_filter.specs.declared.syntax.Verdict.TheVariants as verdicts
use Rattle.trace_format.specs.declared.operand.Operand.TheVariants as operands
use Rattle.trace_filter.specs.declared.token.Comparison.TheVariants as comparisons
use Rattle.trace_lex.specs.Blanks.{trimmed}
use Rattle.trace_filter.specs.Tokens.{Token, Compare, Name, Value, Spot, spots_of, tokens_of}
use Rattle.trace_filter.specs.Grammar.{Expr, Spells, expr_tokens, depth_of}
use Rattle.trace_filter.specs.FilterCauses.{cause_at}
use Rattle.trace_filter.specs.Syntax.{start, reading}
use Rattle.trace_filter.specs.Fields.{is_text_named, takes_at, fits_at, unless, or_later, operator_fault, value_fault, test_fault, fault_of_test, first_misfit}
use Rattle.trace_filter.specs.Subjects.{subjects_in, first_fault, IsToldAs}
use Rattle.trace_format.specs.Operands.{Emission}
use Rattle.trace_filter.specs.Truth.{Holds}
use Rattle.trace_filter.specs.Steps.{Move, moves_from, moves_about, subjects_tested, evaluated, at_start}
use Rattle.trace_filter.specs.Values.{holds_of}
use Rattle.trace_filter.specs.Filters.{ComesTo, misfit_of, IsFilter, IsRefused, IsTold, Parsed, IsFilterOf, Passes, IsOkUnlessMemory, IsAsTold, answer_from, parsed_of, answer_of, IsAnswered}
use Rattle.trace_filter.proofs.Options.{some_is}
use Rattle.trace_filter.proofs.Verdicts.{law, only}
use Rattle.trace_filter.proofs.Truths.{AllFit, all_fit, value_is}
use Rattle.trace_filter.proofs.RowTruths.{tests_decide}
use Rattle.trace_filter.proofs.TrimLemmas.{trimmed_tokens}
use Rattle.trace_filter.proofs.Misfits.{fault_is_misfit}
use Rattle.trace_filter.proofs.TestedMoves.{InTests, tree_in_tests, tested_is, about_is}

-- a test is refused as syntax, for its field or for its operator alone
record NoTestFault (fault : FilterFault) : Type 0 where
  syntax : (at : ℕ) (why : FilterCause) → FilterSyntax at why ≡ fault → ⊥
  field : (at : ℕ) → NoSuchField at ≡ fault → ⊥
  operator : (at : ℕ) → WrongOperator at ≡ fault → ⊥

never_told : (fault : FilterFault) → NoTestFault fault → (fields : List Field) (spots : List Spot) → first_misfit fields spots ≡ Some fault → ⊥
never_told fault none fields [] h = cc
never_told fault none fields (spot ∷ spots) h = by (fault_of_test fields spot.token spot.at spots) (first_misfit fields spots) (here spot.token spot.at spots) (never_told fault none fields spots) h
  where
    by : (o later : Option FilterFault) → (o ≡ Some fault → ⊥) → (later ≡ Some fault → ⊥) → or_later o later ≡ Some fault → ⊥
    by None later first rest h = rest h
    by (Some f) later first rest h = first h

    operator : (b : Bool) (at : ℕ) → unless b (WrongOperator at) ≡ Some fault → ⊥
    operator true at h = cc
    operator false at h = none.operator at (some_is h)

    syntax : (b : Bool) (at : ℕ) → unless b (FilterSyntax at cause.Value) ≡ Some fault → ⊥
    syntax true at h = cc
    syntax false at h = none.syntax at cause.Value (some_is h)

    wrong_operator : (text : Bool) (token : Token) (at : ℕ) → operator_fault text token at ≡ Some fault → ⊥
    wrong_operator text (Compare by) at h = operator (takes_at text by) at h
    wrong_operator text _ at h = cc

    wrong_value : (text : Bool) (token : Token) (at : ℕ) → value_fault text token at ≡ Some fault → ⊥
    wrong_value text (Value literal) at h = syntax (fits_at text literal) at h
    wrong_value text _ at h = cc

    wrong_test : (o : Option Bool) (at : ℕ) (op value : Spot) → test_fault o at op value ≡ Some fault → ⊥
    wrong_test None at op value h = none.field at (some_is h)
    wrong_test (Some text) at op value h =
        by (operator_fault text op.token op.at) (value_fault text value.token value.at) (wrong_operator text op.token op.at) (wrong_value text value.token value.at) h

    here : (token : Token) (at : ℕ) (rest : List Spot) → fault_of_test fields token at rest ≡ Some fault → ⊥
    here (Name name) at (op ∷ value ∷ rest) h = wrong_test (is_text_named fields name) at op value h
    here _ at rest h = cc

no_too_long : NoTestFault TooLong
no_too_long = record { syntax = λ at why h. cc; field = λ at h. cc; operator = λ at h. cc }

no_too_deep : NoTestFault TooDeep
no_too_deep = record { syntax = λ at why h. cc; field = λ at h. cc; operator = λ at h. cc }

no_memory : NoTestFault Memory
no_memory = record { syntax = λ at why h. cc; field = λ at h. cc; operator = λ at h. cc }

module _ (definition : Definition) (text : List ℕ) where
  -- the cases of an answer
  record WasRead (long : Bool) (verdict : Verdict) (misfit : Option FilterFault) (filter found : Parsed) : Type 0 where
    short : long ≡ false
    fine : verdict ≡ Fine
    fits : misfit ≡ None
    same : filter ≡ found

  read_from : (long : Bool) (verdict : Verdict) (misfit : Option FilterFault) (filter found : Parsed) → answer_from (spots_of text) long verdict misfit filter ≡ Ok found → WasRead long verdict misfit filter found
  read_from false Fine None filter found h = record { short = refl; fine = refl; fits = refl; same = cc }
  read_from false Fine (Some fault) filter found h = absurd (cc)
  read_from false verdicts.TooDeep misfit filter found h = absurd (cc)
  read_from false (WrongAt at) misfit filter found h = absurd (cc)
  read_from true verdict misfit filter found h = absurd (cc)

  verdict_is : ComesTo text (reading start (spots_of text) (length text))
  verdict_is = law (length text) (spots_of text)

  was_read : (found : Parsed) → answer_of definition text ≡ Ok found → WasRead (nat_lt 1024 (length (trimmed text))) (reading start (spots_of text) (length text)) (misfit_of definition text) (parsed_of definition text) found
  unfolding answer_of
  was_read found h = read_from (nat_lt 1024 (length (trimmed text))) (reading start (spots_of text) (length text)) (misfit_of definition text) (parsed_of definition text) found h

  is_filter : (found : Parsed) → answer_of definition text ≡ Ok found → IsFilter definition text
  is_filter found h =
      let was = was_read found h in
      record { short = ltb-false 1024 (length (trimmed text)) was.short; syntax = subst (ComesTo text) was.fine verdict_is; fits = was.fits }

  filter_of : (found : Parsed) → answer_of definition text ≡ Ok found → IsDefinition definition → IsFilterOf definition text found
  filter_of found h defined =
      let was = was_read found h in
      record { defined = defined; is_filter = is_filter found h; text = ap (λ (f : Parsed). f.text) (sym was.same); subjects = ap (λ (f : Parsed). f.subjects) (sym was.same) }

  fault_told : (fault : FilterFault) → length (trimmed text) ≤ 1024 → ComesTo text Fine → misfit_of definition text ≡ Some fault → IsTold definition text fault
  fault_told TooLong short fine h = absurd (never_told TooLong no_too_long definition.fields (spots_of text) h)
  fault_told TooDeep short fine h = absurd (never_told TooDeep no_too_deep definition.fields (spots_of text) h)
  fault_told (FilterSyntax at why) short fine h = inr (short, fine, h)
  fault_told (NoSuchField at) short fine h = (short, fine, h)
  fault_told (WrongOperator at) short fine h = (short, fine, h)
  fault_told Memory short fine h = tt

  told_from : (b : Bool) (v : Verdict) (m : Option FilterFault) (filter : Parsed) (fault : FilterFault) → nat_lt 1024 (length (trimmed text)) ≡ b → ComesTo text v → misfit_of definition text ≡ m → answer_from (spots_of text) b v m filter ≡ Err fault → IsTold definition text fault
  told_from true v m filter fault b_is comes m_is h =
      let same : TooLong ≡ fault = cc in
      subst (IsTold definition text) same (ltb-true 1024 (length (trimmed text)) b_is)
  told_from false Fine None filter fault b_is comes m_is h = absurd (cc)
  told_from false Fine (Some f) filter fault b_is comes m_is h =
      let same : f ≡ fault = cc in
      fault_told fault (ltb-false 1024 (length (trimmed text)) b_is) comes (m_is ∙ ap (λ g. Some g) same)
  told_from false verdicts.TooDeep m filter fault b_is comes m_is h =
      let same : TooDeep ≡ fault = cc in
      subst (IsTold definition text) same (ltb-false 1024 (length (trimmed text)) b_is, comes)
  told_from false (WrongAt at) m filter fault b_is comes m_is h =
      let same : FilterSyntax at (cause_at (spots_of text) at) ≡ fault = cc in
      subst (IsTold definition text) same (inl (ltb-false 1024 (length (trimmed text)) b_is, comes, refl))

  told : (fault : FilterFault) → answer_of definition text ≡ Err fault → IsTold definition text fault
  unfolding answer_of
  told fault h = told_from (nat_lt 1024 (length (trimmed text))) (reading start (spots_of text) (length text)) (misfit_of definition text) (parsed_of definition text) fault refl verdict_is refl h

  -- and back
  short_answer : (v : Verdict) (m : Option FilterFault) → length (trimmed text) ≤ 1024 → ComesTo text v → misfit_of definition text ≡ m → answer_of definition text ≡ answer_from (spots_of text) false v m (parsed_of definition text)
  unfolding answer_of
  short_answer v m short comes fits = λ i. answer_from (spots_of text) (le-ltb 1024 (length (trimmed text)) short i) (only (length text) (spots_of text) v comes i) (fits i) (parsed_of definition text)

  filter_answer : IsFilter definition text → answer_of definition text ≡ Ok (parsed_of definition text)
  filter_answer is = short_answer Fine None is.short is.syntax is.fits

  refused_answer : (fault : FilterFault) → IsRefused definition text fault → answer_of definition text ≡ Err fault
  unfolding answer_of
  refused_answer TooLong more = ap (λ b. answer_from (spots_of text) b (reading start (spots_of text) (length text)) (misfit_of definition text) (parsed_of definition text)) (lt-ltb 1024 (length (trimmed text)) more)
  refused_answer TooDeep h = short_answer verdicts.TooDeep (misfit_of definition text) h.0 h.1 refl
  refused_answer (FilterSyntax at why) (inl h) = short_answer (WrongAt at) (misfit_of definition text) h.0 h.1 refl ∙ ap (λ w. Err (FilterSyntax at w)) (sym h.2)
  refused_answer (FilterSyntax at why) (inr h) = short_answer Fine (Some (FilterSyntax at why)) h.0 h.1 h.2
  refused_answer (NoSuchField at) h = short_answer Fine (Some (NoSuchField at)) h.0 h.1 h.2
  refused_answer (WrongOperator at) h = short_answer Fine (Some (WrongOperator at)) h.0 h.1 h.2
  refused_answer Memory h = absurd h

  never_memory : answer_of definition text ≡ Err Memory → ⊥
  unfolding answer_of
  never_memory h = from (nat_lt 1024 (length (trimmed text))) (reading start (spots_of text) (length text)) (misfit_of definition text) (parsed_of definition text) (never_told Memory no_memory definition.fields (spots_of text)) h
    where
      from : (b : Bool) (v : Verdict) (m : Option FilterFault) (filter : Parsed) → (m ≡ Some Memory → ⊥) → answer_from (spots_of text) b v m filter ≡ Err Memory → ⊥
      from true v m filter never h = cc
      from false Fine None filter never h = cc
      from false Fine (Some f) filter never h = let same : f ≡ Memory = cc in never (ap (λ g. Some g) same)
      from false verdicts.TooDeep m filter never h = cc
      from false (WrongAt at) m filter never h = cc

  -- ---- the laws

  err_is : {f g : FilterFault} → answer_of definition text ≡ Err f → answer_of definition text ≡ Err g → f ≡ g
  err_is a b = cc

  pub refused_of : (fault : FilterFault) → answer_of definition text ≡ Err fault → IsRefused definition text fault
  refused_of TooLong h = told TooLong h
  refused_of TooDeep h = told TooDeep h
  refused_of (FilterSyntax at why) h = told (FilterSyntax at why) h
  refused_of (NoSuchField at) h = told (NoSuchField at) h
  refused_of (WrongOperator at) h = told (WrongOperator at) h
  refused_of Memory h = never_memory h

  pub filter_is_answered : IsFilter definition text ↔ (answer_of definition text ≡ Ok (parsed_of definition text))
  filter_is_answered = (filter_answer, is_filter (parsed_of definition text))

  pub refusal_is_answered : (fault : FilterFault) → IsRefused definition text fault ↔ (answer_of definition text ≡ Err fault)
  refusal_is_answered fault = (refused_answer fault, refused_of fault)

  pub filter_or_refused : IsFilter definition text ⊎ ((fault : FilterFault) × IsRefused definition text fault)
  filter_or_refused = by (answer_of definition text) refl
    where
      by : (r : Result Parsed FilterFault) → answer_of definition text ≡ r → IsFilter definition text ⊎ ((fault : FilterFault) × IsRefused definition text fault)
      by (Ok found) h = inl (is_filter found h)
      by (Err fault) h = inr (fault, refused_of fault h)

  pub never_both : (fault : FilterFault) → IsFilter definition text → IsRefused definition text fault → ⊥
  never_both fault is refused = let h : Ok (parsed_of definition text) ≡ Err fault = sym (filter_answer is) ∙ refused_answer fault refused in cc

  pub one_refusal : (one other : FilterFault) → IsRefused definition text one → IsRefused definition text other → one ≡ other
  one_refusal one other h k = err_is (refused_answer one h) (refused_answer other k)

  pub never_refused : IsFilter definition text ↔ ((fault : FilterFault) → IsRefused definition text fault → ⊥)
  never_refused = ((λ is fault refused. never_both fault is refused), (λ none. by none filter_or_refused))
    where
      by : ((fault : FilterFault) → IsRefused definition text fault → ⊥) → IsFilter definition text ⊎ ((fault : FilterFault) × IsRefused definition text fault) → IsFilter definition text
      by none (inl is) = is
      by none (inr h) = absurd (none h.0 h.1)

  -- ---- what `read` makes

  fine_in_tests : ComesTo text Fine → InTests (tokens_of (spots_of text))
  fine_in_tests fine = subst InTests fine.whole.spelled (tree_in_tests fine.whole.tree)

  pub misfit_found : ComesTo text Fine → first_fault definition.fields operands.Pid (spots_of text) ≡ misfit_of definition text
  misfit_found fine = fault_is_misfit definition.fields (spots_of text) operands.Pid (fine_in_tests fine)

  pub no_fault_in : ComesTo text Fine → misfit_of definition text ≡ None → first_fault definition.fields operands.Pid (spots_of text) ≡ None
  no_fault_in fine fits = misfit_found fine ∙ fits

  pub tested_subjects : ComesTo text Fine → misfit_of definition text ≡ None
      → subjects_tested (moves_from definition.fields operands.Pid comparisons.Eq (tokens_of (spots_of text))) ≡ subjects_in definition.fields (tokens_of (spots_of text))
  tested_subjects fine fits = tested_is definition.fields operands.Pid comparisons.Eq (tokens_of (spots_of text)) (fine_in_tests fine) (all_fit definition.fields operands.Pid (spots_of text) (no_fault_in fine fits))

  module _ (items : List ℕ) (moves : List Move) (items_is : items ≡ trimmed text) (moves_is : moves ≡ moves_from definition.fields operands.Pid comparisons.Eq (tokens_of (spots_of text))) where
    -- the steps are those of the trimmed text
    pub moves_kept : moves ≡ moves_about (subjects_tested moves) comparisons.Eq (tokens_of (spots_of items))
    moves_kept =
        let same : tokens_of (spots_of text) ≡ tokens_of (spots_of items) = sym (trimmed_tokens text) ∙ ap (λ t. tokens_of (spots_of t)) (sym items_is) in
        moves_is ∙ about_is definition.fields operands.Pid comparisons.Eq (tokens_of (spots_of text)) ∙ (λ i. moves_about (subjects_tested (sym moves_is i)) comparisons.Eq (same i))

    pub filter_made : length (trimmed text) ≤ 1024 → reading start (spots_of text) (length text) ≡ Fine → first_fault definition.fields operands.Pid (spots_of text) ≡ None → answer_of definition text ≡ Ok (record { text = items; subjects = subjects_tested moves })
    unfolding answer_of
    filter_made short fine found =
        let comes = subst (ComesTo text) fine verdict_is in
        let fits : misfit_of definition text ≡ None = sym (misfit_found comes) ∙ found in
        let tested : subjects_tested moves ≡ subjects_in definition.fields (tokens_of (spots_of text)) = ap subjects_tested moves_is ∙ tested_subjects comes fits in
        (λ i. answer_from (spots_of text) (le-ltb 1024 (length (trimmed text)) short i) (fine i) (fits i) (parsed_of definition text))
        ∙ (λ i. Ok (record { text = sym items_is i; subjects = sym tested i }))

  -- ---- what `read` tells

  pub fault_made : length (trimmed text) ≤ 1024 → reading start (spots_of text) (length text) ≡ Fine → (fault : FilterFault) → IsToldAs (first_fault definition.fields operands.Pid (spots_of text)) fault → IsAnswered (Err fault) (answer_of definition text)
  fault_made short fine fault found = by fault found
    where
      answer : (f : FilterFault) → first_fault definition.fields operands.Pid (spots_of text) ≡ Some f → answer_of definition text ≡ Err f
      answer f h = let comes = subst (ComesTo text) fine verdict_is in short_answer Fine (Some f) short comes (sym (misfit_found comes) ∙ h)

      by : (f : FilterFault) → IsToldAs (first_fault definition.fields operands.Pid (spots_of text)) f → IsAnswered (Err f) (answer_of definition text)
      by TooLong h = answer TooLong h
      by TooDeep h = answer TooDeep h
      by (FilterSyntax at why) h = answer (FilterSyntax at why) h
      by (NoSuchField at) h = answer (NoSuchField at) h
      by (WrongOperator at) h = answer (WrongOperator at) h
      by Memory h = tt

  -- ---- what `parse` says

  pub parse_read : (r : Result Parsed FilterFault) → IsAnswered r (answer_of definition text) → IfOk r (λ _. IsDefinition definition) → IfOk r (IsFilterOf definition text)
  parse_read (Ok found) e defined = filter_of found e defined
  parse_read (Err fault) e defined = tt

  pub parse_refused : (r : Result Parsed FilterFault) → IsAnswered r (answer_of definition text) → IfErr r (IsTold definition text)
  parse_refused (Ok found) e = tt
  parse_refused (Err TooLong) e = told TooLong e
  parse_refused (Err TooDeep) e = told TooDeep e
  parse_refused (Err (FilterSyntax at why)) e = told (FilterSyntax at why) e
  parse_refused (Err (NoSuchField at)) e = told (NoSuchField at) e
  parse_refused (Err (WrongOperator at)) e = told (WrongOperator at) e
  parse_refused (Err Memory) e = tt

  pub parse_only : (r : Result Parsed FilterFault) → IsAnswered r (answer_of definition text) → IsFilter definition text → IsOkUnlessMemory r
  parse_only (Ok found) e is = tt
  parse_only (Err TooLong) e is = let h : Ok (parsed_of definition text) ≡ Err TooLong = sym (filter_answer is) ∙ e in cc
  parse_only (Err TooDeep) e is = let h : Ok (parsed_of definition text) ≡ Err TooDeep = sym (filter_answer is) ∙ e in cc
  parse_only (Err (FilterSyntax at why)) e is = let h : Ok (parsed_of definition text) ≡ Err (FilterSyntax at why) = sym (filter_answer is) ∙ e in cc
  parse_only (Err (NoSuchField at)) e is = let h : Ok (parsed_of definition text) ≡ Err (NoSuchField at) = sym (filter_answer is) ∙ e in cc
  parse_only (Err (WrongOperator at)) e is = let h : Ok (parsed_of definition text) ≡ Err (WrongOperator at) = sym (filter_answer is) ∙ e in cc
  parse_only (Err Memory) e is = tt

  pub parse_told : (r : Result Parsed FilterFault) → IsAnswered r (answer_of definition text) → (fault : FilterFault) → IsRefused definition text fault → IsAsTold r fault
  parse_told (Ok found) e fault is = let h : Ok found ≡ Err fault = sym e ∙ refused_answer fault is in cc
  parse_told (Err TooLong) e fault is = err_is e (refused_answer fault is)
  parse_told (Err TooDeep) e fault is = err_is e (refused_answer fault is)
  parse_told (Err (FilterSyntax at why)) e fault is = err_is e (refused_answer fault is)
  parse_told (Err (NoSuchField at)) e fault is = err_is e (refused_answer fault is)
  parse_told (Err (WrongOperator at)) e fault is = err_is e (refused_answer fault is)
  parse_told (Err Memory) e fault is = tt

-- ---- what `passes` says

module _ (definition : Definition) (written : List ℕ) (filter : Parsed) (row : Cells) (emission : Emission) (same : emission.values ≡ row.values)
    (is : IsFilterOf definition written filter) (is_row : IsRowOf definition row)
    (moves : List Move) (tested : subjects_tested moves ≡ filter.subjects) (kept : moves ≡ moves_about (subjects_tested moves) comparisons.Eq (tokens_of (spots_of filter.text)))
    (result : Bool) (result_is : result ≡ evaluated emission at_start moves) where
  moves_are : moves ≡ moves_from definition.fields operands.Pid comparisons.Eq (tokens_of (spots_of written))
  moves_are =
      let tokens : tokens_of (spots_of filter.text) ≡ tokens_of (spots_of written) = ap (λ t. tokens_of (spots_of t)) is.text ∙ trimmed_tokens written in
      let about : subjects_tested moves ≡ subjects_tested (moves_from definition.fields operands.Pid comparisons.Eq (tokens_of (spots_of written))) = tested ∙ is.subjects ∙ sym (tested_subjects definition written is.is_filter.syntax is.is_filter.fits) in
      kept ∙ (λ i. moves_about (about i) comparisons.Eq (tokens i)) ∙ sym (about_is definition.fields operands.Pid comparisons.Eq (tokens_of (spots_of written)))

  pub each_holds : (tree : Expr) → Spells (tokens_of (spots_of written)) tree → IsTrue result ↔ Holds definition.fields emission tree
  each_holds tree spelled =
      let fits = subst (AllFit definition.fields operands.Pid) (sym spelled) (all_fit definition.fields operands.Pid (spots_of written) (no_fault_in definition written is.is_filter.syntax is.is_filter.fits)) in
      let shallow = subst (λ t. depth_of t ≤ 16) (sym spelled) is.is_filter.syntax.shallow in
      let value = value_is definition.fields emission (tests_decide definition row emission is.defined is_row same) tree operands.Pid comparisons.Eq fits shallow in
      let there : result ≡ evaluated emission at_start (moves_from definition.fields operands.Pid comparisons.Eq (tokens_of (spots_of written))) = result_is ∙ ap (evaluated emission at_start) moves_are in
      let whole : result ≡ evaluated emission at_start (moves_from definition.fields operands.Pid comparisons.Eq (expr_tokens tree)) = there ∙ ap (λ t. evaluated emission at_start (moves_from definition.fields operands.Pid comparisons.Eq t)) (sym spelled) in
      ((λ h. value.0 (sym whole ∙ h)), (λ h. whole ∙ value.1 h))

  pub some_passes : IsTrue result ↔ Passes definition written emission
  some_passes =
      let whole = is.is_filter.syntax.whole in
      ((λ h. record { tree = whole.tree; spelled = whole.spelled; holds = (each_holds whole.tree whole.spelled).0 h }), (λ p. (each_holds p.tree p.spelled).1 p.holds))

-- ---- a filter's value as one function

pub value_of_filter : (filter : Parsed) (emission : Emission)
    → evaluated emission at_start (moves_about filter.subjects comparisons.Eq (tokens_of (spots_of filter.text))) ≡ holds_of filter emission
unfolding holds_of
value_of_filter filter emission = refl

pub holds_as_its_tree : (definition : Definition) (text : List ℕ) (row : Cells) (emission : Emission) → IsFilter definition text → IsDefinition definition → IsRowOf definition row
    → emission.values ≡ row.values → IsTrue (holds_of (parsed_of definition text) emission) ↔ Passes definition text emission
holds_as_its_tree definition text row emission filter defined is_row same =
    let tokens = tokens_of (spots_of text) in
    let moves = moves_from definition.fields operands.Pid comparisons.Eq tokens in
    let tested : subjects_tested moves ≡ subjects_in definition.fields tokens = tested_subjects definition text filter.syntax filter.fits in
    let trimmed_same : tokens_of (spots_of (trimmed text)) ≡ tokens = trimmed_tokens text in
    let kept : moves ≡ moves_about (subjects_tested moves) comparisons.Eq (tokens_of (spots_of (trimmed text))) =
    about_is definition.fields operands.Pid comparisons.Eq tokens ∙ ap (λ ts. moves_about (subjects_tested moves) comparisons.Eq ts) (sym trimmed_same) in
    let value : holds_of (parsed_of definition text) emission ≡ evaluated emission at_start moves =
    sym (value_of_filter (parsed_of definition text) emission)
    ∙ ap (λ ss. evaluated emission at_start (moves_about ss comparisons.Eq (tokens_of (spots_of (trimmed text))))) (sym tested)
    ∙ ap (evaluated emission at_start) (sym kept) in
    some_passes definition text (parsed_of definition text) row emission same (record { defined = defined; is_filter = filter; text = refl; subjects = refl }) is_row moves tested kept
    (holds_of (parsed_of definition text) emission) value
