-- The cause for which a text declares no event is that of the offset at which it is refused.
use Rattle.std.proofs.Common.{◌≡◌, ℕ, Bool, true, false, not, ◌&&◌, ◌||◌, if◌then◌else◌, IsTrue, List, [], ◌∷◌, ◌++◌, length, Option, None, Some, option_and_then, ok_or, Err, refl, sym, ap, ◌∙◌, append_assoc}
use Rattle.trace_format.specs.declared.fault.DeclarationCause.TheVariants.{FieldName, ReservedName, RepeatedName}
use Rattle.trace_format.specs.declared.reader.Due.{Due}
use Rattle.trace_format.specs.declared.reader.Due.TheVariants as due
use Rattle.trace_lex.specs.Names.{is_name}
use Rattle.trace_format.specs.Words.{Spot, spots_of, words_of}
use Rattle.trace_format.specs.Definitions.{Definition, is_reserved, has_field}
use Rattle.trace_format.specs.Reading.{Standing, start, step, step_at, finish, ◌>>=◌, reading, definition_of, cause_of, cause_or, cause_from, cause_in}
use Rattle.trace_format.specs.DeclarationCauses.{standing_after, first_word, CannotGoOn, IsRefusedFor}
use Rattle.trace_format.proofs.Verdicts.{run-append, words-push}

-- a name that cannot stand there, though it is one and none that no field may have, is one that a field has
name_there : (named reserved there : Bool) (next : Standing) → (if named && not (reserved || there) then Some next else None) ≡ None
    → (if not named then FieldName else (if reserved then ReservedName else RepeatedName)) ≡ RepeatedName → there ≡ true
name_there true false true next none h = refl
name_there true false false next none h = absurd (cc)
name_there true true there next none h = absurd (cc)
name_there false reserved there next none h = absurd (cc)

repeated_at : (d : Due) (standing : Standing) (word : List ℕ) → step_at d standing word ≡ None → cause_of d word ≡ RepeatedName → IsTrue (has_field standing.fields word)
repeated_at due.Name standing word none h = absurd (cc)
repeated_at due.Type standing word none h = absurd (cc)
repeated_at due.Unsigned standing word none h = absurd (cc)
repeated_at (due.NumberField t) standing word none h = name_there (is_name word) (is_reserved word) (has_field standing.fields word) _ none h
repeated_at due.TextField standing word none h = absurd (cc)
repeated_at due.Joint standing word none h = absurd (cc)

-- nothing is no name
none_repeated : (d : Due) → cause_of d [] ≡ RepeatedName → ⊥
none_repeated due.Name h = cc
none_repeated due.Type h = cc
none_repeated due.Unsigned h = cc
none_repeated (due.NumberField t) h = cc
none_repeated due.TextField h = cc
none_repeated due.Joint h = cc

repeated_there : (standing : Standing) (rest : List Spot) → CannotGoOn standing rest → cause_of standing.due (first_word rest) ≡ RepeatedName
    → IsTrue (has_field standing.fields (first_word rest))
unfolding step
repeated_there standing [] none h = absurd (none_repeated standing.due h)
repeated_there standing (spot ∷ spots) none h = repeated_at standing.due standing spot.word none h

module _ (text : List ℕ) where
  refused_after : (front back : List Spot) (standing : Standing) → spots_of text ≡ front ++ back → standing_after start (words_of front) ≡ Some standing
      → (offset : ℕ) → reading standing back (length text) ≡ Err offset → IsRefusedFor text offset (cause_from standing back)
  refused_after front [] standing cut taken offset h = by (finish standing) refl h
    where
      by : (ended : Option Definition) → finish standing ≡ ended → ok_or ended (length text) ≡ Err offset → IsRefusedFor text offset (cause_of standing.due [])
      by None e f = record {
        front = front;
        rest = [];
        cut = cut;
        standing = standing;
        taken = taken;
        wrong = e;
        at = cc;
        told = refl;
        repeated = repeated_there standing [] e;
      }
      by (Some definition) e f = absurd (cc)
  refused_after front (spot ∷ back) standing cut taken offset h =
      by (step standing spot.word) refl h
      (λ next e f. refused_after (front ++ spot ∷ []) back next (cut ∙ sym (append_assoc front (spot ∷ []) back)) (moved next e) offset f)
    where
      moved : (next : Standing) → step standing spot.word ≡ Some next → standing_after start (words_of (front ++ spot ∷ [])) ≡ Some next
      moved next e =
          ap (standing_after start) (words-push front spot) ∙ run-append start (words_of front) (spot.word ∷ [])
          ∙ ap (option_and_then (λ n. standing_after n (spot.word ∷ []))) taken ∙ ap (option_and_then (λ n. Some n)) e

      by : (o : Option Standing) → step standing spot.word ≡ o → (ok_or o spot.at >>= λ next. reading next back (length text)) ≡ Err offset
          → ((next : Standing) → step standing spot.word ≡ Some next → reading next back (length text) ≡ Err offset → IsRefusedFor text offset (cause_from next back))
          → IsRefusedFor text offset (cause_or o (cause_of standing.due spot.word) (λ next. cause_from next back))
      by None e f on = record {
        front = front;
        rest = spot ∷ back;
        cut = cut;
        standing = standing;
        taken = taken;
        wrong = e;
        at = cc;
        told = refl;
        repeated = repeated_there standing (spot ∷ back) e;
      }
      by (Some next) e f on = on next e f

pub cause_is_at_the_offset : (text : List ℕ) (offset : ℕ) → definition_of text ≡ Err offset → IsRefusedFor text offset (cause_in text)
unfolding definition_of cause_in
cause_is_at_the_offset text offset h = refused_after text [] (spots_of text) start refl refl offset h
