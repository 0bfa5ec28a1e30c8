-- What was read so far: where the words that were read lead, they spell a part of a declaration, which can be completed.
use Rattle.std.proofs.Common.{◌≡◌, ℕ, ◌^◌, ◌<◌, ◌≤◌, Bool, true, false, if◌then◌else◌, IsTrue, List, [], ◌∷◌, ◌++◌, length, flat_map, bytes_eq, codes, Some, option_map, refl, sym, ap, ◌∙◌, subst, inl, inr, arith, append_assoc, append-nil, ltb-true}
use Rattle.std.proofs.lemmas.Bool.{and_parts, or_parts, not-true}
use Rattle.std.proofs.lemmas.List.{length_push}
use Rattle.std.proofs.lemmas.Slice.Eq.{bytes_eq-Decides}
use Rattle.trace_format.specs.declared.kind.NumberType.TheVariants.{U8, UnsignedInt}
use Rattle.trace_format.specs.declared.kind.Kind.{Kind}
use Rattle.trace_format.specs.declared.kind.Kind.TheVariants.{Number, Char}
use Rattle.trace_format.specs.declared.event.Field.{Field}
use Rattle.trace_format.specs.declared.reader.Due.{Due}
use Rattle.trace_format.specs.declared.reader.Due.TheVariants as due
use Rattle.trace_lex.specs.Names.{is_name}
use Rattle.trace_format.specs.Words.{semicolon}
use Rattle.trace_format.specs.Kinds.{type_words, kind_words, type_of, unsigned_type_of}
use Rattle.trace_format.specs.Definitions.{Definition, is_kind, IsField, AreFields, length_suffix, field_words, closed_words, Declares, Begins}
use Rattle.trace_format.specs.Reading.{Standing, step, step_at, with_field, with_due, text_field_of, finish, start}
use Rattle.trace_lex.proofs.Options.{if_some, some_is, map_some, and_then_some}
use Rattle.trace_format.proofs.FreshNames.{open_name}
use Rattle.trace_format.proofs.TextFields.{text_field-read}
use Rattle.trace_format.proofs.Types.{type_of-read, unsigned_type_of-read}

abbrev closed : List ℕ → List Field → List (List ℕ)
closed name fields = closed_words (record { name = name; fields = fields })

regroup : {A : Type 0} (a b c d : List A) → a ++ b ++ c ++ d ≡ a ++ (b ++ c ++ d)
regroup a b c d = simp append_assoc

-- ---- one more field

closed-push : (name : List ℕ) (fields : List Field) (field : Field) → closed name (fields ++ field ∷ []) ≡ closed name fields ++ (field_words field ++ semicolon ∷ [])
closed-push name fields field = ap (λ words. name ∷ words) (behind fields)
  where
    behind : (fields : List Field) → flat_map (λ f. field_words f ++ semicolon ∷ []) (fields ++ field ∷ []) ≡ flat_map (λ f. field_words f ++ semicolon ∷ []) fields ++ (field_words field ++ semicolon ∷ [])
    behind [] = append-nil (field_words field ++ semicolon ∷ [])
    behind (f ∷ fs) = ap (λ words. (field_words f ++ semicolon ∷ []) ++ words) (behind fs) ∙ sym (append_assoc (field_words f ++ semicolon ∷ []) (flat_map (λ f. field_words f ++ semicolon ∷ []) fs) (field_words field ++ semicolon ∷ []))

pub AreFields-push : (before fields : List Field) (field : Field) → AreFields before fields → IsField (before ++ fields) field → AreFields before (fields ++ field ∷ [])
AreFields-push before [] field h f = (subst (λ b. IsField b field) (append-nil before) f, tt)
AreFields-push before (g ∷ gs) field h f = (h.0, AreFields-push (before ++ g ∷ []) gs field h.1 (subst (λ b. IsField b field) (sym (append_assoc before (g ∷ []) gs)) f))

-- ---- where words lead

abbrev Spelled : Due → List ℕ → List Field → List (List ℕ) → Type 0
Spelled due.Name name fields words = (words ≡ []) × (fields ≡ [])
Spelled due.Type name fields words = words ≡ closed name fields
Spelled due.Unsigned name fields words = words ≡ closed name fields ++ codes "unsigned" ∷ []
Spelled (due.NumberField t) name fields words = words ≡ closed name fields ++ type_words t
Spelled due.TextField name fields words = words ≡ closed name fields ++ codes "char" ∷ []
Spelled due.Joint name fields words = (words ++ semicolon ∷ [] ≡ closed name fields) × (0 < length fields)

abbrev Named : Due → List ℕ → Type 0
Named due.Name name = Unit {0}
Named due.Type name = IsTrue (is_name name)
Named due.Unsigned name = IsTrue (is_name name)
Named (due.NumberField t) name = IsTrue (is_name name)
Named due.TextField name = IsTrue (is_name name)
Named due.Joint name = IsTrue (is_name name)

pub record Stands (standing : Standing) (words : List (List ℕ)) : Type 0 where
  spelled : Spelled standing.due standing.name standing.fields words
  named : Named standing.due standing.name
  fields : AreFields [] standing.fields
  few : length standing.fields ≤ length words

pub stands-start : Stands start []
stands-start = record { spelled = (refl, refl); named = tt; fields = tt; few = omega arith }

module _ (name : List ℕ) (fields : List Field) (words : List (List ℕ)) (word : List ℕ) (next : Standing) where
  -- behind a field
  field_stands : (field : Field) → IsTrue (is_name name) → AreFields [] fields → length fields ≤ length words → IsTrue (is_kind field.kind)
      → words ≡ closed name fields ++ kind_words field.kind → word ≡ field.name ++ length_suffix field.kind
      → with_field (record { due = due.Name; name = name; fields = fields }) field ≡ Some next → Stands next (words ++ word ∷ [])
  field_stands field named are few sized front back h =
      let test = if_some _ h in
      let parts = and_parts _ _ test.0 in
      let open' = or_parts _ _ (not-true _ parts.1) in
      let all : words ++ word ∷ [] ++ semicolon ∷ [] ≡ closed name (fields ++ field ∷ []) =
      (λ i. front i ++ back i ∷ [] ++ semicolon ∷ []) ∙ regroup (closed name fields) (kind_words field.kind) ((field.name ++ length_suffix field.kind) ∷ []) (semicolon ∷ []) ∙ sym (closed-push name fields field) in
      subst (λ s. Stands s (words ++ word ∷ [])) test.1 (record {
        spelled = (all, omega (arith, length_push fields field));
        named = named;
        fields = AreFields-push [] fields field are (record { named = parts.0; free = open'.0; new = open'.1; sized = sized });
        few = omega (arith, few, length_push fields field, length_push words word);
      })

-- one more word leads to words that are one more
stands_at : (d : Due) (name : List ℕ) (fields : List Field) (words : List (List ℕ)) (word : List ℕ) (next : Standing) → Stands (record { due = d; name = name; fields = fields }) words
    → step_at d (record { due = d; name = name; fields = fields }) word ≡ Some next → Stands next (words ++ word ∷ [])
stands_at due.Name name fields words word next s h =
    let test = if_some _ h in
    subst (λ n. Stands n (words ++ word ∷ [])) test.1 (record {
      spelled = ap (λ w. w ++ word ∷ []) s.spelled.0 ∙ ap (closed word) (sym s.spelled.1);
      named = test.0;
      fields = s.fields;
      few = omega (arith, s.few, length_push words word);
    })
stands_at due.Type name fields words word next s h = by (bytes_eq word (codes "unsigned")) (bytes_eq word (codes "char")) (bytes_eq-Decides word (codes "unsigned")).0 (bytes_eq-Decides word (codes "char")).0 h
  where
    few : length fields ≤ length (words ++ word ∷ [])
    few = omega (arith, s.few, length_push words word)

    standing : Standing
    standing = record { due = due.Type; name = name; fields = fields }

    by : (u c : Bool) → (u ≡ true → word ≡ codes "unsigned") → (c ≡ true → word ≡ codes "char")
        → (if u then Some (with_due standing due.Unsigned) else (if c then Some (with_due standing due.TextField) else option_map (λ t. with_due standing (due.NumberField t)) (type_of word))) ≡ Some next
        → Stands next (words ++ word ∷ [])
    by true c unsigned char h' = subst (λ n. Stands n (words ++ word ∷ [])) (some_is h') (record { spelled = (λ i. s.spelled i ++ unsigned refl i ∷ []); named = s.named; fields = s.fields; few = few })
    by false true unsigned char h' = subst (λ n. Stands n (words ++ word ∷ [])) (some_is h') (record { spelled = (λ i. s.spelled i ++ char refl i ∷ []); named = s.named; fields = s.fields; few = few })
    by false false unsigned char h' =
        let made = map_some (λ t. with_due standing (due.NumberField t)) (type_of word) next h' in
        subst (λ n. Stands n (words ++ word ∷ [])) made.gives (record {
          spelled = ap (λ w. w ++ word ∷ []) s.spelled ∙ ap (λ w. closed name fields ++ w) (sym (type_of-read word made.value made.was));
          named = s.named;
          fields = s.fields;
          few = few;
        })
stands_at due.Unsigned name fields words word next s h =
    let standing : Standing = record { due = due.Unsigned; name = name; fields = fields } in
    let made = map_some (λ t. with_due standing (due.NumberField t)) (unsigned_type_of word) next h in
    subst (λ n. Stands n (words ++ word ∷ [])) made.gives (record {
      spelled = ap (λ w. w ++ word ∷ []) s.spelled ∙ append_assoc (closed name fields) (codes "unsigned" ∷ []) (word ∷ []) ∙ ap (λ w. closed name fields ++ w) (sym (unsigned_type_of-read word made.value made.was));
      named = s.named;
      fields = s.fields;
      few = omega (arith, s.few, length_push words word);
    })
stands_at (due.NumberField t) name fields words word next s h = field_stands name fields words word next (record { name = word; kind = Number t }) s.named s.fields s.few refl s.spelled (sym (append-nil word)) h
stands_at due.TextField name fields words word next s h =
    let standing : Standing = record { due = due.TextField; name = name; fields = fields } in
    let made = and_then_some (with_field standing) (text_field_of word) next h in
    let read = text_field-read word made.value made.was in
    field_stands name fields words word next made.value s.named s.fields s.few read.sized (s.spelled ∙ ap (λ k. closed name fields ++ kind_words k) (sym read.kind)) read.spelled made.gives
stands_at due.Joint name fields words word next s h =
    let test = if_some _ h in
    subst (λ n. Stands n (words ++ word ∷ [])) test.1 (record {
      spelled = ap (λ w. words ++ w ∷ []) ((bytes_eq-Decides word semicolon).0 test.0) ∙ s.spelled.0;
      named = s.named;
      fields = s.fields;
      few = omega (arith, s.few, length_push words word);
    })

pub stands-step : (standing : Standing) (words : List (List ℕ)) (word : List ℕ) (next : Standing) → Stands standing words → step standing word ≡ Some next → Stands next (words ++ word ∷ [])
unfolding step
stands-step standing words word next s h = stands_at standing.due standing.name standing.fields words word next s h

-- ---- the end

-- where it may end, the words declare what was read
declares_at : (d : Due) (name : List ℕ) (fields : List Field) (words : List (List ℕ)) (definition : Definition) → Stands (record { due = d; name = name; fields = fields }) words
    → finish (record { due = d; name = name; fields = fields }) ≡ Some definition → Declares words definition
declares_at due.Name name fields words definition s h = absurd (cc)
declares_at due.Type name fields words definition s h =
    let test = if_some _ h in
    subst (Declares words) test.1 (record { defined = record { named = s.named; some_field = ltb-true _ _ test.0; fields = s.fields }; spelled = inl s.spelled })
declares_at due.Unsigned name fields words definition s h = absurd (cc)
declares_at (due.NumberField t) name fields words definition s h = absurd (cc)
declares_at due.TextField name fields words definition s h = absurd (cc)
declares_at due.Joint name fields words definition s h =
    let test = if_some _ h in
    subst (Declares words) test.1 (record { defined = record { named = s.named; some_field = ltb-true _ _ test.0; fields = s.fields }; spelled = inr s.spelled.0 })

pub declares : (standing : Standing) (words : List (List ℕ)) (definition : Definition) → Stands standing words → finish standing ≡ Some definition → Declares words definition
declares standing words definition s h = declares_at standing.due standing.name standing.fields words definition s h

-- ---- what can follow

-- a type that was begun can be completed, with a new name behind it
completed : (name : List ℕ) (fields : List Field) (words front back : List (List ℕ)) (kind : Kind) → length fields < 2 ^ 64 → IsTrue (is_name name) → AreFields [] fields → IsTrue (is_kind kind)
    → words ≡ closed name fields ++ front → kind_words kind ≡ front ++ back → Begins words
completed name fields words front back kind few named are sized spelled type =
    let open' = open_name fields few in
    let field : Field = record { name = open'.name; kind = kind } in
    let last = (open'.name ++ length_suffix kind) ∷ [] in
    record {
      definition = record { name = name; fields = fields ++ field ∷ [] };
      rest = back ++ (last ++ semicolon ∷ []);
      whole = record {
        defined = record {
          named = named;
          some_field = omega (arith, length_push fields field);
          fields = AreFields-push [] fields field are (record { named = open'.named; free = open'.free; new = open'.new; sized = sized });
        };
        spelled = inl (ap (λ w. w ++ (back ++ (last ++ semicolon ∷ []))) spelled ∙ regroup_all (closed name fields) front back last (semicolon ∷ []) ∙ ap (λ w. closed name fields ++ (w ++ last ++ semicolon ∷ [])) (sym type) ∙ sym (closed-push name fields field));
      };
    }
  where
    regroup_all : {A : Type 0} (a b c d e : List A) → a ++ b ++ (c ++ (d ++ e)) ≡ a ++ (b ++ c ++ d ++ e)
    regroup_all a b c d e = simp append_assoc

begins_at : (d : Due) (name : List ℕ) (fields : List Field) (words : List (List ℕ)) → Stands (record { due = d; name = name; fields = fields }) words → length fields < 2 ^ 64 → Begins words
begins_at due.Name name fields words s few =
    let field : Field = record { name = codes "a"; kind = Number U8 } in
    record {
      definition = record { name = codes "a"; fields = field ∷ [] };
      rest = closed (codes "a") (field ∷ []);
      whole = record {
        defined = record { named = refl; some_field = omega arith; fields = (record { named = refl; free = refl; new = refl; sized = refl }, tt) };
        spelled = inl (ap (λ w. w ++ closed (codes "a") (field ∷ [])) s.spelled.0);
      };
    }
begins_at due.Type name fields words s few = completed name fields words [] (codes "u8" ∷ []) (Number U8) few s.named s.fields refl (s.spelled ∙ sym (append-nil (closed name fields))) refl
begins_at due.Unsigned name fields words s few = completed name fields words (codes "unsigned" ∷ []) (codes "int" ∷ []) (Number UnsignedInt) few s.named s.fields refl s.spelled refl
begins_at (due.NumberField t) name fields words s few = completed name fields words (type_words t) [] (Number t) few s.named s.fields refl s.spelled (sym (append-nil (type_words t)))
begins_at due.TextField name fields words s few = completed name fields words (codes "char" ∷ []) [] (Char 1) few s.named s.fields refl s.spelled refl
begins_at due.Joint name fields words s few = record {
  definition = record { name = name; fields = fields };
  rest = semicolon ∷ [];
  whole = record { defined = record { named = s.named; some_field = s.spelled.1; fields = s.fields }; spelled = inl s.spelled.0 };
}

pub begins : (standing : Standing) (words : List (List ℕ)) → Stands standing words → length words < 2 ^ 64 → Begins words
begins standing words s few = begins_at standing.due standing.name standing.fields words s (let small : length standing.fields < 2 ^ 64 = omega (arith, s.few) in small)
