-- The law of reading: a text is read exactly where it is a declaration, and refused where the leftmost word cannot stand.
use Rattle.std.proofs.Common.{◌≡◌, ℕ, zero, suc, ◌+◌, ◌^◌, ◌<◌, ◌≤◌, ◌⊎◌, List, [], ◌∷◌, ◌++◌, length, flat_map, Option, None, Some, option_and_then, ok_or, Result, Ok, Err, IfOk, IfErr, refl, sym, ap, ◌∙◌, subst, inl, inr, ⊎_elim, arith, append_assoc, append-nil, lt-ltb}
use Rattle.std.proofs.lemmas.Bool.{and_from, or_from, not_from_false, cond-true, cond_both}
use Rattle.std.proofs.lemmas.List.{length-append, length-map, map-append}
use Rattle.trace_format.specs.declared.kind.NumberType.{NumberType}
use Rattle.trace_format.specs.declared.kind.NumberType.TheVariants.{U8, U16, U32, U64, S8, S16, S32, S64, Int, PidT, UnsignedInt, Long, UnsignedLong}
use Rattle.trace_format.specs.declared.kind.Kind.{Kind}
use Rattle.trace_format.specs.declared.kind.Kind.TheVariants.{Number, Char}
use Rattle.trace_format.specs.declared.event.Field.{Field}
use Rattle.trace_format.specs.declared.fault.DefinitionFault.{DefinitionFault}
use Rattle.trace_format.specs.declared.fault.DefinitionFault.TheVariants.{BadDefinition, Memory}
use Rattle.trace_format.specs.declared.reader.Due.{Due}
use Rattle.trace_format.specs.declared.reader.Due.TheVariants as due
use Rattle.trace_lex.specs.Blanks.{is_blank}
use Rattle.trace_format.specs.Words.{Spot, semicolon, more_of, spots_from, spots_of, words_of}
use Rattle.trace_format.specs.Kinds.{type_words}
use Rattle.trace_format.specs.Definitions.{Definition, IsField, AreFields, IsDefinition, field_words, closed_words, Declares, IsWrongAt, EndsEarly}
use Rattle.trace_format.specs.Reading.{Standing, step, step_at, with_field, finish, start, ◌>>=◌, reading, definition_of, IsRead, IsRefusal}
use Rattle.trace_format.specs.DeclarationCauses.{standing_after as run}
use Rattle.trace_lex.proofs.Options.{some_is, and_then_some}
use Rattle.trace_format.proofs.TextFields.{text_field-spelled}
use Rattle.trace_format.proofs.Standings.{Stands, stands-start, stands-step, declares, begins}

pub run-append : (standing : Standing) (front back : List (List ℕ)) → run standing (front ++ back) ≡ option_and_then (λ next. run next back) (run standing front)
run-append standing [] back = refl
run-append standing (word ∷ front) back = by (step standing word) (λ next. run-append next front back)
  where
    by : (next : Option Standing) → ((s : Standing) → run s (front ++ back) ≡ option_and_then (λ t. run t back) (run s front))
        → option_and_then (λ s. run s (front ++ back)) next ≡ option_and_then (λ t. run t back) (option_and_then (λ s. run s front) next)
    by None rest = refl
    by (Some s) rest = rest s

-- ---- what is spelled is read

abbrev behind : List ℕ → List Field → Standing
behind name fields = record { due = due.Type; name = name; fields = fields }

abbrev at_field : NumberType → List ℕ → List Field → Standing
at_field t name fields = record { due = due.NumberField t; name = name; fields = fields }

module _ (name : List ℕ) (before : List Field) where
  added : (d : Due) (field : Field) → IsField before field → with_field (record { due = d; name = name; fields = before }) field ≡ Some (record { due = due.Joint; name = name; fields = before ++ field ∷ [] })
  added d field is = cond-true _ _ _ (and_from _ _ is.named (not_from_false _ (or_from _ _ is.free is.new)))

  number_field : (t : NumberType) (field_name : List ℕ) → IsField before (record { name = field_name; kind = Number t })
      → run (at_field t name before) ((field_name ++ []) ∷ semicolon ∷ []) ≡ Some (behind name (before ++ record { name = field_name; kind = Number t } ∷ []))
  unfolding step
  number_field t field_name is =
      ap (λ w. run (at_field t name before) (w ∷ semicolon ∷ [])) (append-nil field_name)
      ∙ ap (option_and_then (λ next. run next (semicolon ∷ []))) (added (due.NumberField t) (record { name = field_name; kind = Number t }) is)

  type_read : (t : NumberType) (rest : List (List ℕ)) → run (behind name before) (type_words t ++ rest) ≡ run (at_field t name before) rest
  unfolding step
  type_read U8 rest = refl
  type_read U16 rest = refl
  type_read U32 rest = refl
  type_read U64 rest = refl
  type_read S8 rest = refl
  type_read S16 rest = refl
  type_read S32 rest = refl
  type_read S64 rest = refl
  type_read Int rest = refl
  type_read PidT rest = refl
  type_read UnsignedInt rest = refl
  type_read Long rest = refl
  type_read UnsignedLong rest = refl

  field_read : (kind : Kind) (field_name : List ℕ) → IsField before (record { name = field_name; kind = kind })
      → run (behind name before) (field_words (record { name = field_name; kind = kind }) ++ semicolon ∷ []) ≡ Some (behind name (before ++ record { name = field_name; kind = kind } ∷ []))
  unfolding step
  field_read (Number t) field_name is =
      ap (run (behind name before)) (append_assoc (type_words t) ((field_name ++ []) ∷ []) (semicolon ∷ []))
      ∙ type_read t ((field_name ++ []) ∷ semicolon ∷ []) ∙ number_field t field_name is
  field_read (Char n) field_name is =
      let field : Field = record { name = field_name; kind = Char n } in
      let standing : Standing = record { due = due.TextField; name = name; fields = before } in
      ap (λ o. option_and_then (λ next. run next (semicolon ∷ [])) (option_and_then (with_field standing) o)) (text_field-spelled field_name n is.named is.sized)
      ∙ ap (option_and_then (λ next. run next (semicolon ∷ []))) (added due.TextField field is)

abbrev field_spelling : Field → List (List ℕ)
field_spelling field = field_words field ++ semicolon ∷ []

fields_read : (name : List ℕ) (before fields : List Field) → AreFields before fields → run (behind name before) (flat_map field_spelling fields) ≡ Some (behind name (before ++ fields))
fields_read name before [] are = ap (λ x. Some (behind name x)) (sym (append-nil before))
fields_read name before (field ∷ fields) are =
    run-append (behind name before) (field_spelling field) (flat_map field_spelling fields)
    ∙ ap (option_and_then (λ next. run next (flat_map field_spelling fields))) (field_read name before field.kind field.name are.0)
    ∙ fields_read name (before ++ field ∷ []) fields are.1 ∙ ap (λ x. Some (behind name x)) (append_assoc before (field ∷ []) fields)

closed_read : (definition : Definition) → IsDefinition definition → run start (closed_words definition) ≡ Some (behind definition.name definition.fields)
unfolding step
closed_read definition is =
    ap (option_and_then (λ next. run next (flat_map field_spelling definition.fields))) (cond-true _ _ _ is.named)
    ∙ fields_read definition.name [] definition.fields is.fields

-- where no step is, none leads anywhere
no_step : {P : Type 0} (next : Standing) → ◌≡◌ {A = Option Standing} None (Some next) → P
no_step next h = absurd (cc)

-- a `;` leads to the same end
semicolon_at : (d : Due) (name : List ℕ) (fields : List Field) (next : Standing) → step_at d (record { due = d; name = name; fields = fields }) semicolon ≡ Some next → finish (record { due = d; name = name; fields = fields }) ≡ finish next
semicolon_at due.Name name fields next h = no_step next h
semicolon_at due.Type name fields next h = no_step next h
semicolon_at due.Unsigned name fields next h = no_step next h
semicolon_at (due.NumberField t) name fields next h = no_step next h
semicolon_at due.TextField name fields next h = no_step next h
semicolon_at due.Joint name fields next h = ap finish (some_is h)

semicolon_step : (standing next : Standing) → step standing semicolon ≡ Some next → finish standing ≡ finish next
unfolding step
semicolon_step standing next h = semicolon_at standing.due standing.name standing.fields next h

-- words that are read whole
record IsWhole (words : List (List ℕ)) (definition : Definition) : Type 0 where
  standing : Standing
  leads : run start words ≡ Some standing
  ends : finish standing ≡ Some definition

closed_ends : (definition : Definition) → IsDefinition definition → finish (behind definition.name definition.fields) ≡ Some definition
closed_ends definition is = cond-true _ _ _ (lt-ltb _ _ is.some_field)

whole : (words : List (List ℕ)) (definition : Definition) → Declares words definition → IsWhole words definition
whole words definition h = ⊎_elim
    (λ e. record { standing = behind definition.name definition.fields; leads = ap (run start) e ∙ closed_read definition h.defined; ends = closed_ends definition h.defined })
    (λ e.
    let all : run start (words ++ semicolon ∷ []) ≡ Some (behind definition.name definition.fields) = ap (run start) e ∙ closed_read definition h.defined in
    let front = and_then_some (λ next. run next (semicolon ∷ [])) (run start words) (behind definition.name definition.fields) (sym (run-append start words (semicolon ∷ [])) ∙ all) in
    let last = and_then_some (λ next. Some next) (step front.value semicolon) (behind definition.name definition.fields) front.gives in
    record {
      standing = front.value;
      leads = front.was;
      ends = semicolon_step front.value last.value last.was ∙ ap finish (some_is last.gives) ∙ closed_ends definition h.defined;
    })
    h.spelled

-- ---- the law

-- what the words of a text, which ends at `len`, come to
abbrev pub IsVerdict : List Spot → ℕ → Result Definition ℕ → Type 0
IsVerdict spots len (Ok definition) = Declares (words_of spots) definition
IsVerdict spots len (Err offset) = IsWrongAt spots offset ⊎ (EndsEarly spots × (offset ≡ len))

pub words-push : (front : List Spot) (spot : Spot) → words_of (front ++ spot ∷ []) ≡ words_of front ++ spot.word ∷ []
words-push front spot = map-append (λ (s : Spot). s.word) front (spot ∷ [])

module _ (len : ℕ) where
  verdict_end : (front : List Spot) (standing : Standing) → Stands standing (words_of front) → run start (words_of front) ≡ Some standing → length (words_of front) < 2 ^ 64
      → (ended : Option Definition) → finish standing ≡ ended → IsVerdict front len (ok_or ended len)
  verdict_end front standing stands leads small (Some definition) e = declares standing (words_of front) definition stands e
  verdict_end front standing stands leads small None e = inr (
    record {
      begins = begins standing (words_of front) stands small;
      unfinished = λ definition declared.
          let all = whole (words_of front) definition declared in
          let same : standing ≡ all.standing = some_is (sym leads ∙ all.leads) in
          let none : None ≡ Some definition = sym e ∙ ap finish same ∙ all.ends in
          cc;
    },
    refl,
  )

  -- the word after which nothing goes on
  wrong_here : (front back : List Spot) (spot : Spot) (standing : Standing) → Stands standing (words_of front) → run start (words_of front) ≡ Some standing → length (words_of front) < 2 ^ 64
      → step standing spot.word ≡ None → IsWrongAt (front ++ spot ∷ back) spot.at
  wrong_here front back spot standing stands leads small none = record {
    front = front;
    wrong = spot;
    back = back;
    cut = refl;
    at = refl;
    begins = begins standing (words_of front) stands small;
    ends = λ h.
        let all = whole (words_of (front ++ spot ∷ []) ++ h.rest) h.definition h.whole in
        let words : words_of (front ++ spot ∷ []) ++ h.rest ≡ words_of front ++ spot.word ∷ h.rest =
        ap (λ w. w ++ h.rest) (words-push front spot) ∙ append_assoc (words_of front) (spot.word ∷ []) h.rest in
        let led : None ≡ Some all.standing =
        sym (ap (run start) words ∙ run-append start (words_of front) (spot.word ∷ h.rest) ∙ ap (option_and_then (λ next. run next (spot.word ∷ h.rest))) leads ∙ ap (option_and_then (λ next. run next h.rest)) none) ∙ all.leads in
        cc;
  }

  verdict : (front back : List Spot) (standing : Standing) → Stands standing (words_of front) → run start (words_of front) ≡ Some standing → length (front ++ back) < 2 ^ 64
      → IsVerdict (front ++ back) len (reading standing back len)
  verdict front [] standing stands leads small =
      let few : length (words_of front) < 2 ^ 64 = simp length-map (omega (arith, length-append front [], small)) in
      subst (λ spots. IsVerdict spots len (reading standing [] len)) (sym (append-nil front)) (verdict_end front standing stands leads few (finish standing) refl)
  verdict front (spot ∷ back) standing stands leads small =
      let few : length (words_of front) < 2 ^ 64 = simp length-map (omega (arith, length-append front (spot ∷ back), small)) in
      by (step standing spot.word)
      (λ none. inl (wrong_here front back spot standing stands leads few none))
      (λ next e. subst (λ spots. IsVerdict spots len (reading next back len)) (append_assoc front (spot ∷ []) back)
      (verdict (front ++ spot ∷ []) back next
      (subst (Stands next) (sym (words-push front spot)) (stands-step standing (words_of front) spot.word next stands e))
      (ap (run start) (words-push front spot) ∙ run-append start (words_of front) (spot.word ∷ []) ∙ ap (option_and_then (λ n. run n (spot.word ∷ []))) leads ∙ ap (option_and_then (λ n. Some n)) e)
      (subst (λ spots. length spots < 2 ^ 64) (sym (append_assoc front (spot ∷ []) back)) small)))
      refl
    where
      by : (o : Option Standing) → (step standing spot.word ≡ None → IsVerdict (front ++ spot ∷ back) len (Err spot.at)) → ((next : Standing) → step standing spot.word ≡ Some next → IsVerdict (front ++ spot ∷ back) len (reading next back len))
          → step standing spot.word ≡ o → IsVerdict (front ++ spot ∷ back) len (ok_or o spot.at >>= λ next. reading next back len)
      by None wrong on e = wrong e
      by (Some next) wrong on e = on next e

few_spots : (skip at : ℕ) (bytes : List ℕ) → length (spots_from skip at bytes) ≤ length bytes
few_spots skip at [] = omega arith
few_spots (suc skip) at (b ∷ bytes) = omega (arith, few_spots skip (at + 1) bytes)
few_spots zero at (b ∷ bytes) = cond_both (is_blank b) (spots_from 0 (at + 1) bytes) _ (λ spots. length spots ≤ suc (length bytes))
    (λ _. omega (arith, few_spots 0 (at + 1) bytes))
    (λ _. omega (arith, few_spots (more_of b bytes) (at + 1) bytes))

pub law : (text : List ℕ) → length text < 2 ^ 64 → IsVerdict (spots_of text) (length text) (definition_of text)
unfolding definition_of
law text small = verdict (length text) [] (spots_of text) start stands-start refl (omega (arith, few_spots 0 0 text))

-- ---- what `parse` says

reading-run : (standing last : Standing) (spots : List Spot) (len : ℕ) (definition : Definition) → run standing (words_of spots) ≡ Some last → finish last ≡ Some definition → reading standing spots len ≡ Ok definition
reading-run standing last [] len definition h e = ap (λ o. ok_or o len) (ap finish (some_is h) ∙ e)
reading-run standing last (spot ∷ spots) len definition h e =
    let step_is = and_then_some (λ next. run next (words_of spots)) (step standing spot.word) last h in
    ap (λ o. ok_or o spot.at >>= λ next. reading next spots len) step_is.was ∙ reading-run step_is.value last spots len definition step_is.gives e

pub definition_is : (text : List ℕ) (definition : Definition) → Declares (words_of (spots_of text)) definition → definition_of text ≡ Ok definition
unfolding definition_of
definition_is text definition h =
    let all = whole (words_of (spots_of text)) definition h in
    reading-run start all.standing (spots_of text) (length text) definition all.leads all.ends

module _ (text : List ℕ) (small : length text < 2 ^ 64) where
  pub read_declared : (r : Result Definition DefinitionFault) → IsRead r (definition_of text) → IfOk r (Declares (words_of (spots_of text)))
  read_declared (Ok definition) e = subst (IsVerdict (spots_of text) (length text)) e (law text small)
  read_declared (Err fault) e = tt

  pub read_only : (r : Result Definition DefinitionFault) → IsRead r (definition_of text) → (definition : Definition) → Declares (words_of (spots_of text)) definition → IsRead r (Ok definition)
  read_only r e definition h = subst (IsRead r) (definition_is text definition h) e

  pub read_refused : (r : Result Definition DefinitionFault) → IsRead r (definition_of text) → IfErr r (IsRefusal text)
  read_refused (Ok definition) e = tt
  read_refused (Err (BadDefinition offset cause)) e = subst (IsVerdict (spots_of text) (length text)) e (law text small)
  read_refused (Err Memory) e = tt
