-- What is read token by token is what the grammar says of the tokens, and nothing else is.
use Rattle.std.proofs.Common.{◌≡◌, ◌⊎◌, ℕ, ◌<◌, ◌≤◌, nat_lt, max, Bool, true, false, if◌then◌else◌, List, [], ◌∷◌, ◌++◌, Option, None, Some, option_and_then, refl, sym, ap, ◌∙◌, subst, inl, inr, arith, append_assoc, append-nil, ltb-true}
use Rattle.std.proofs.lemmas.List.{map-append}
use Rattle.std.proofs.lemmas.Bool.{cond-false}
use Rattle.trace_filter.specs.declared.syntax.Due.{Due}
use Rattle.trace_filter.specs.declared.syntax.Due.TheVariants as due
use Rattle.trace_filter.specs.Tokens.{Token, Spot, tokens_of}
use Rattle.trace_filter.specs.declared.syntax.Verdict.{Verdict}
use Rattle.trace_filter.specs.declared.syntax.Verdict.TheVariants.{Fine, TooDeep, WrongAt}
use Rattle.trace_filter.specs.Grammar.{Opened, behind, open_count, nothing_open, deepest, depth_of, IsMisplaced, EndsEarly, IsVerdict}
use Rattle.trace_filter.specs.Syntax.{Standing, next_due, moved, step, start, ended, going_on, reading}
use Rattle.trace_filter.proofs.Options.{some_is, and_then_some, map_some}
use Rattle.trace_filter.proofs.Runs.{run, run-append, standing_at, tree_runs, whole_runs, begins_run, opened_behind}
use Rattle.trace_filter.proofs.Trees.{Stands, stands-start, stands-step, stands-run, begins, whole_at, stands_joint}

tokens-push : (front : List Spot) (spot : Spot) → tokens_of (front ++ spot ∷ []) ≡ tokens_of front ++ spot.token ∷ []
tokens-push front spot = map-append (λ (s : Spot). s.token) front (spot ∷ [])

-- ---- depth

pub step_opened : (standing next : Standing) (token : Token) → step standing token ≡ Some next → next.opened ≡ behind standing.opened token
unfolding step
step_opened standing next token h =
    let made = map_some (moved standing.opened token) (next_due standing.due standing.opened.outer token) next h in
    ap (λ (s : Standing). s.opened) (sym made.gives)

run_opened : (standing last : Standing) (tokens : List Token) → run standing tokens ≡ Some last → last.opened ≡ opened_behind standing.opened tokens
run_opened standing last [] h = ap (λ (s : Standing). s.opened) (sym (some_is h))
run_opened standing last (token ∷ tokens) h =
    let made = and_then_some (λ next. run next tokens) (step standing token) last h in
    run_opened made.value last tokens made.gives ∙ ap (λ o. opened_behind o tokens) (step_opened standing made.value token made.was)

max_assoc : (a b c : ℕ) → max a (max b c) ≡ max (max a b) c
max_assoc a b c = omega arith

deepest-push : (opened : Opened) (tokens : List Token) (token : Token) → deepest opened (tokens ++ token ∷ []) ≡ max (deepest opened tokens) (open_count (behind (opened_behind opened tokens) token))
deepest-push opened [] token = refl
deepest-push opened (t ∷ tokens) token = ap (max (open_count opened)) (deepest-push (behind opened t) tokens token) ∙ max_assoc (open_count opened) (deepest (behind opened t) tokens) (open_count (behind (opened_behind (behind opened t) tokens) token))

pub deepest-first : (opened : Opened) (tokens : List Token) → open_count opened ≤ deepest opened tokens
deepest-first opened [] = omega arith
deepest-first opened (token ∷ tokens) = omega arith

not_below : (a b : ℕ) → nat_lt a b ≡ false → b ≤ a
not_below a b h = grind arith

below_not : (a b : ℕ) → b ≤ a → nat_lt a b ≡ false
below_not a b h = grind arith

-- ---- what is read is so

module _ (len : ℕ) where
  fine_or_early : (front : List Spot) (standing : Standing) → Stands standing (tokens_of front) → run start (tokens_of front) ≡ Some standing → depth_of (tokens_of front) ≤ 16 → IsVerdict front len (ended standing len)
  fine_or_early front standing stands leads shallow = by standing.due standing.opened.bangs standing.opened.outer stands leads
    where
      early : (s : Standing) → Stands s (tokens_of front) → run start (tokens_of front) ≡ Some s → (s ≡ standing_at due.Joint 0 [] → ⊥) → IsMisplaced front len ⊎ (EndsEarly front × (len ≡ len))
      early s stood led other = inr (
        record {
          begins = begins s (tokens_of front) stood;
          unfinished = λ whole. other (some_is (sym led ∙ whole_runs (tokens_of front) whole));
          shallow = shallow;
        },
        refl,
      )

      by : (d : Due) (bangs : ℕ) (outer : List ℕ) → Stands (standing_at d bangs outer) (tokens_of front) → run start (tokens_of front) ≡ Some (standing_at d bangs outer) → IsVerdict front len (ended (standing_at d bangs outer) len)
      by due.Operand bangs outer s h = early (standing_at due.Operand bangs outer) s h (λ e. let f : due.Operand ≡ due.Joint = ap (λ (s : Standing). s.due) e in cc)
      by due.Operator bangs outer s h = early (standing_at due.Operator bangs outer) s h (λ e. let f : due.Operator ≡ due.Joint = ap (λ (s : Standing). s.due) e in cc)
      by due.Value bangs outer s h = early (standing_at due.Value bangs outer) s h (λ e. let f : due.Value ≡ due.Joint = ap (λ (s : Standing). s.due) e in cc)
      by due.Joint bangs [] s h = record { whole = whole_at bangs (tokens_of front) (stands_joint bangs [] (tokens_of front) s); shallow = shallow }
      by due.Joint bangs (b ∷ outer) s h = early (standing_at due.Joint bangs (b ∷ outer)) s h (λ e. let f : (b ∷ outer) ≡ [] = ap (λ (s : Standing). s.opened.outer) e in cc)

  wrong_here : (front back : List Spot) (spot : Spot) (standing : Standing) → Stands standing (tokens_of front) → run start (tokens_of front) ≡ Some standing → depth_of (tokens_of front) ≤ 16
      → step standing spot.token ≡ None → IsMisplaced (front ++ spot ∷ back) spot.at
  wrong_here front back spot standing stands leads shallow none = record {
    front = front;
    wrong = spot;
    back = back;
    cut = refl;
    at = refl;
    begins = begins standing (tokens_of front) stands;
    wrong_there = λ b.
        let led : None ≡ Some (standing_at due.Joint 0 []) =
        sym (ap (run start) (append_assoc (tokens_of front) (spot.token ∷ []) b.rest) ∙ run-append start (tokens_of front) (spot.token ∷ b.rest) ∙ ap (option_and_then (λ next. run next (spot.token ∷ b.rest))) leads ∙ ap (option_and_then (λ next. run next b.rest)) none)
        ∙ ap (run start) (sym b.spelled) ∙ tree_runs b.tree in
        cc;
    shallow = shallow;
  }

  verdict_is : (front back : List Spot) (standing : Standing) → Stands standing (tokens_of front) → run start (tokens_of front) ≡ Some standing → depth_of (tokens_of front) ≤ 16
      → IsVerdict (front ++ back) len (reading standing back len)
  verdict_is front [] standing stands leads shallow = subst (λ spots. IsVerdict spots len (ended standing len)) (sym (append-nil front)) (fine_or_early front standing stands leads shallow)
  verdict_is front (spot ∷ back) standing stands leads shallow =
      by (λ next s l d. verdict_is (front ++ spot ∷ []) back next s l d) (step standing spot.token) refl
    where
      longer : (next : Standing) → step standing spot.token ≡ Some next → run start (tokens_of (front ++ spot ∷ [])) ≡ Some next
      longer next e = ap (run start) (tokens-push front spot) ∙ run-append start (tokens_of front) (spot.token ∷ []) ∙ ap (option_and_then (λ n. run n (spot.token ∷ []))) leads ∙ ap (option_and_then (λ n. Some n)) e

      stood : (next : Standing) → step standing spot.token ≡ Some next → Stands next (tokens_of (front ++ spot ∷ []))
      stood next e = subst (Stands next) (sym (tokens-push front spot)) (stands-step standing next (tokens_of front) spot.token stands e)

      depth : (next : Standing) → step standing spot.token ≡ Some next → depth_of (tokens_of (front ++ spot ∷ [])) ≡ max (depth_of (tokens_of front)) (open_count next.opened)
      depth next e = ap depth_of (tokens-push front spot) ∙ deepest-push nothing_open (tokens_of front) spot.token
          ∙ ap (λ o. max (depth_of (tokens_of front)) (open_count o)) (ap (λ o. behind o spot.token) (sym (run_opened start standing (tokens_of front) leads)) ∙ sym (step_opened standing next spot.token e))

      deep_or_on : ((next : Standing) → Stands next (tokens_of (front ++ spot ∷ [])) → run start (tokens_of (front ++ spot ∷ [])) ≡ Some next → depth_of (tokens_of (front ++ spot ∷ [])) ≤ 16 → IsVerdict (front ++ spot ∷ [] ++ back) len (reading next back len))
          → (next : Standing) → step standing spot.token ≡ Some next → (t : Bool) → nat_lt 16 (open_count next.opened) ≡ t → IsVerdict (front ++ spot ∷ back) len (if t then TooDeep else reading next back len)
      deep_or_on on next e true h =
          let more : 16 < open_count next.opened = ltb-true 16 (open_count next.opened) h in
          record {
            front = front ++ spot ∷ [];
            back = back;
            cut = sym (append_assoc front (spot ∷ []) back);
            begins = begins next (tokens_of (front ++ spot ∷ [])) (stood next e);
            deep = omega (arith, depth next e, more);
          }
      deep_or_on on next e false h =
          let few : open_count next.opened ≤ 16 = not_below 16 (open_count next.opened) h in
          subst (λ spots. IsVerdict spots len (reading next back len)) (append_assoc front (spot ∷ []) back)
          (on next (stood next e) (longer next e) (omega (arith, depth next e, few, shallow)))

      by : ((next : Standing) → Stands next (tokens_of (front ++ spot ∷ [])) → run start (tokens_of (front ++ spot ∷ [])) ≡ Some next → depth_of (tokens_of (front ++ spot ∷ [])) ≤ 16 → IsVerdict (front ++ spot ∷ [] ++ back) len (reading next back len))
          → (o : Option Standing) → step standing spot.token ≡ o → IsVerdict (front ++ spot ∷ back) len (going_on o spot.at (λ next. reading next back len))
      by on None e = inl (wrong_here front back spot standing stands leads shallow e)
      by on (Some next) e = deep_or_on on next e (nat_lt 16 (open_count next.opened)) refl

  pub law : (spots : List Spot) → IsVerdict spots len (reading start spots len)
  law spots = verdict_is [] spots start stands-start refl (omega arith)

  -- ---- what is so is read

  past : (standing last : Standing) (front back : List Spot) → run standing (tokens_of front) ≡ Some last → deepest standing.opened (tokens_of front) ≤ 16 → reading standing (front ++ back) len ≡ reading last back len
  past standing last [] back h few = ap (λ s. reading s back len) (some_is h)
  past standing last (spot ∷ front) back h few =
      let made = and_then_some (λ next. run next (tokens_of front)) (step standing spot.token) last h in
      let opened = step_opened standing made.value spot.token made.was in
      let fewer : deepest made.value.opened (tokens_of front) ≤ 16 = subst (λ o. deepest o (tokens_of front) ≤ 16) (sym opened) (omega (arith, few)) in
      let here : open_count made.value.opened ≤ 16 = omega (arith, fewer, deepest-first made.value.opened (tokens_of front)) in
      ap (λ o. going_on o spot.at (λ next. reading next (front ++ back) len)) made.was
      ∙ cond-false (nat_lt 16 (open_count made.value.opened)) TooDeep (reading made.value (front ++ back) len) (below_not 16 (open_count made.value.opened) here)
      ∙ past made.value last front back made.gives fewer

  too_deep : (standing last : Standing) (front back : List Spot) → run standing (tokens_of front) ≡ Some last → open_count standing.opened ≤ 16 → 16 < deepest standing.opened (tokens_of front) → reading standing (front ++ back) len ≡ TooDeep
  too_deep standing last [] back h few deep = absurd (omega (arith, few, deep))
  too_deep standing last (spot ∷ front) back h few deep =
      let made = and_then_some (λ next. run next (tokens_of front)) (step standing spot.token) last h in
      let opened = step_opened standing made.value spot.token made.was in
      let deeper : 16 < deepest made.value.opened (tokens_of front) = subst (λ o. 16 < deepest o (tokens_of front)) (sym opened) (omega (arith, few, deep)) in
      ap (λ o. going_on o spot.at (λ next. reading next (front ++ back) len)) made.was
      ∙ by (λ next led few deeper. too_deep next last front back led few deeper) made.value made.gives deeper (nat_lt 16 (open_count made.value.opened)) refl
    where
      by : ((next : Standing) → run next (tokens_of front) ≡ Some last → open_count next.opened ≤ 16 → 16 < deepest next.opened (tokens_of front) → reading next (front ++ back) len ≡ TooDeep)
          → (next : Standing) → run next (tokens_of front) ≡ Some last → 16 < deepest next.opened (tokens_of front) → (t : Bool) → nat_lt 16 (open_count next.opened) ≡ t → (if t then TooDeep else reading next (front ++ back) len) ≡ TooDeep
      by on next led deeper true e = refl
      by on next led deeper false e = on next led (not_below 16 (open_count next.opened) e) deeper

  pub only : (spots : List Spot) (verdict : Verdict) → IsVerdict spots len verdict → reading start spots len ≡ verdict
  only spots Fine fine =
      let led = whole_runs (tokens_of spots) fine.whole in
      ap (λ s. reading start s len) (sym (append-nil spots)) ∙ past start (standing_at due.Joint 0 []) spots [] led fine.shallow
  only spots TooDeep deep =
      let led = begins_run (tokens_of deep.front) deep.begins in
      ap (λ s. reading start s len) deep.cut ∙ too_deep start led.to deep.front deep.back led.leads (omega arith) deep.deep
  only spots (WrongAt at) (inl wrong) =
      let led = begins_run (tokens_of wrong.front) wrong.begins in
      ap (λ s. reading start s len) wrong.cut
      ∙ past start led.to wrong.front (wrong.wrong ∷ wrong.back) led.leads wrong.shallow
      ∙ by led.to (stands-run start led.to [] (tokens_of wrong.front) stands-start led.leads) (step led.to wrong.wrong.token) refl
      ∙ ap WrongAt wrong.at
    where
      by : (s : Standing) → Stands s (tokens_of wrong.front) → (o : Option Standing) → step s wrong.wrong.token ≡ o → going_on o wrong.wrong.at (λ next. reading next wrong.back len) ≡ WrongAt wrong.wrong.at
      by s stood None e = refl
      by s stood (Some next) e = absurd (wrong.wrong_there (begins next (tokens_of wrong.front ++ wrong.wrong.token ∷ []) (stands-step s next (tokens_of wrong.front) wrong.wrong.token stood e)))
  only spots (WrongAt at) (inr early) =
      let led = begins_run (tokens_of spots) early.0.begins in
      ap (λ s. reading start s len) (sym (append-nil spots))
      ∙ past start led.to spots [] led.leads early.0.shallow
      ∙ by led.to.due led.to.opened.bangs led.to.opened.outer (stands-run start led.to [] (tokens_of spots) stands-start led.leads)
      ∙ ap WrongAt (sym early.1)
    where
      by : (d : Due) (bangs : ℕ) (outer : List ℕ) → Stands (standing_at d bangs outer) (tokens_of spots) → ended (standing_at d bangs outer) len ≡ WrongAt len
      by due.Operand bangs outer s = refl
      by due.Operator bangs outer s = refl
      by due.Value bangs outer s = refl
      by due.Joint bangs [] s = absurd (early.0.unfinished (whole_at bangs (tokens_of spots) (stands_joint bangs [] (tokens_of spots) s)))
      by due.Joint bangs (b ∷ outer) s = refl
