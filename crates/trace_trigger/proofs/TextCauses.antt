-- A text that is badly written is so for the cause that is told.
use Rattle.std.proofs.Common.{◌≡◌, ◌≢◌, ◌⊎◌, inl, inr, refl, ℕ, ◌-◌, ◌^◌, Bool, true, false, ◌&&◌, ◌==◌, nat_lt, codes, List, [], ◌∷◌, ◌++◌, length, take, Option, Some, None, Result, Ok, Err, if◌then◌else◌, ap, sym, ◌∙◌, subst, append-nil}
use Rattle.std.specs.Prelude.{unwrap_or}
use Rattle.std.specs.List.{prefix_len, list_all}
use Rattle.std.proofs.lemmas.Bool.Decides.{eqb_tells}
use Rattle.std.proofs.lemmas.List.{take-append-drop}
use Rattle.trace_lex.specs.Blanks.{is_blank, AreBlanks}
use Rattle.trace_lex.specs.Decimals.{decimal_number, up_to}
use Rattle.trace_format.specs.Definitions.{Definition}
use Rattle.trace_filter.specs.Filters.{Parsed}
use Rattle.trace_trigger.specs.Frames.{after_blanks, filter_of, IsTail}
use Rattle.trace_trigger.specs.declared.fault.TriggerFault.{TriggerFault}
use Rattle.trace_trigger.specs.declared.fault.TriggerFault.TheVariants.{BadText}
use Rattle.trace_trigger.specs.declared.fault.TextCause.{TextCause}
use Rattle.trace_trigger.specs.declared.fault.TextCause.TheVariants.{Kind, Count, AfterSnapshot, Condition}
use Rattle.trace_trigger.specs.declared.trigger.SnapshotTrigger.{SnapshotTrigger}
use Rattle.trace_trigger.specs.declared.trigger.TriggerText.{TriggerText}
use Rattle.trace_trigger.specs.declared.trigger.TriggerText.TheVariants.{Nothing, AttachSnapshot, RemoveSnapshot, Hist, RemoveHist}
use Rattle.trace_trigger.specs.TriggerAnswers.{◌>>=◌}
use Rattle.trace_trigger.specs.HistTexts.{spec_of}
use Rattle.trace_trigger.specs.TriggerTexts.{after, begins, word_of, after_word, count_from, count_after, count_of, condition_cause, condition_after, condition_of, snapshot_trigger_of, said_after, snapshot_said, said_of, body_of}
use Rattle.trace_trigger.specs.TextCauses.{IsBadWord, LacksFilter, IsBadTail, IsBadFor}
use Rattle.trace_trigger.proofs.Cuts.{after_append, after_is, run_dropped, run_passes}
use Rattle.trace_trigger.proofs.WordLaws.{word_is, count_is}
use Rattle.trace_trigger.proofs.TailLaws.{condition_is}
use Rattle.trace_trigger.proofs.LaterFaults.{never_bad}
use Rattle.trace_trigger.proofs.TextLaws.{filter_not_bad}

-- ---- the word

count_cause : (limited : Option ℕ) (why : TextCause) → count_from limited ≡ Err (BadText why) → Count ≡ why
count_cause None why e = cc
count_cause (Some n) why e = by (nat_lt 0 n) e
  where
    by : (b : Bool) → (if b then Ok (Some n) else Err (BadText Count)) ≡ Err (BadText why) → Count ≡ why
    by true f = absurd (cc)
    by false f = cc

never_counted : (word : List ℕ) (why : TextCause) → count_of word ≡ Err (BadText why) → (count : Option ℕ) → count_of word ≡ Ok count → ⊥
never_counted word why e count f = cc

byte_cause : (word : List ℕ) (why : TextCause) (b : ℕ) (digits : List ℕ) → count_of word ≡ Err (BadText why) → after (codes "snapshot") word ≡ Some (b ∷ digits)
    → count_after (Some (b ∷ digits)) ≡ Err (BadText why) → IsBadWord word why
byte_cause word why b digits e f g = by (b == 58) (eqb_tells b 58) refl g
  where
    by : (c : Bool) → ((b == 58) ≡ true) × (b ≡ 58) ⊎ (((b == 58) ≡ false) × (b ≢ 58)) → (b == 58) ≡ c
        → (if c then count_from (up_to (2 ^ 32 - 1) (decimal_number digits)) else Err (BadText AfterSnapshot)) ≡ Err (BadText why) → IsBadWord word why
    by true (inl is) h k =
        let cut : word ≡ codes "snapshot:" ++ digits = after_is (codes "snapshot") word (b ∷ digits) f ∙ ap (λ c. codes "snapshot" ++ c ∷ digits) is.1 in
        subst (IsBadWord word) (count_cause (up_to (2 ^ 32 - 1) (decimal_number digits)) why k)
        (digits, cut, λ count counted. never_counted word why e (Some count) (count_is word (Some count) counted))
    by true (inr is) h k = let other = is.0 in absurd (cc)
    by false (inl is) h k = let other = is.0 in absurd (cc)
    by false (inr is) h k =
        let same : AfterSnapshot ≡ why = cc in
        subst (IsBadWord word) same (b, digits, after_is (codes "snapshot") word (b ∷ digits) f, is.1)

rest_cause : (word : List ℕ) (why : TextCause) (rest : Option (List ℕ)) → count_of word ≡ Err (BadText why) → after (codes "snapshot") word ≡ rest → count_after rest ≡ Err (BadText why) → IsBadWord word why
rest_cause word why None e f g =
    let same : Kind ≡ why = cc in
    subst (IsBadWord word) same
    (λ rest cut. let there : after (codes "snapshot") word ≡ Some rest = ap (after (codes "snapshot")) cut ∙ after_append (codes "snapshot") rest in cc)
rest_cause word why (Some []) e f g = absurd (cc)
rest_cause word why (Some (b ∷ digits)) e f g = byte_cause word why b digits e f g

word_cause : (word : List ℕ) (why : TextCause) → count_of word ≡ Err (BadText why) → IsBadWord word why
unfolding count_of
word_cause word why e = rest_cause word why (after (codes "snapshot") word) e refl e

-- ---- what follows it

unwritten : (tail : List ℕ) (why : TextCause) → condition_of tail ≡ Err (BadText why) → (condition : Option (List ℕ)) → IsTail tail condition → ⊥
unwritten tail why e condition is = let found = condition_is tail condition is in cc

if_there : (tail : List ℕ) (lacks : LacksFilter tail) → after (codes "if") (after_blanks tail) ≡ Some lacks.rest
if_there tail lacks =
    ap (after (codes "if")) (ap after_blanks lacks.cut ∙ run_dropped is_blank lacks.front (codes "if" ++ lacks.rest) lacks.before refl) ∙ after_append (codes "if") lacks.rest

none_after : (blanks : List ℕ) → AreBlanks blanks → after_blanks blanks ≡ []
none_after blanks all = ap after_blanks (sym (append-nil blanks)) ∙ run_dropped is_blank blanks [] all tt

left_cause : (tail rest : List ℕ) → ((condition : Option (List ℕ)) → IsTail tail condition → ⊥) → after (codes "if") (after_blanks tail) ≡ Some rest → (left : List ℕ) → after_blanks rest ≡ left
    → IsBadTail tail (condition_cause left)
left_cause tail rest never f [] g =
    let whole : take (prefix_len is_blank rest) rest ≡ rest =
    sym (append-nil (take (prefix_len is_blank rest) rest)) ∙ ap (λ (bs : List ℕ). take (prefix_len is_blank rest) rest ++ bs) (sym g) ∙ take-append-drop (prefix_len is_blank rest) rest in
    record {
      front = take (prefix_len is_blank tail) tail;
      rest = rest;
      cut = sym (take-append-drop (prefix_len is_blank tail) tail) ∙ ap (λ (bs : List ℕ). take (prefix_len is_blank tail) tail ++ bs) (after_is (codes "if") (after_blanks tail) rest f);
      before = run_passes is_blank tail;
      after = subst AreBlanks whole (run_passes is_blank rest);
    }
left_cause tail rest never f (b ∷ left) g = (
  never,
  λ lacks.
      let there = if_there tail lacks in
      let same : lacks.rest ≡ rest = cc in
      let none : after_blanks rest ≡ [] = ap after_blanks (sym same) ∙ none_after lacks.rest lacks.after in
      cc,
)

after_cause : (tail : List ℕ) (why : TextCause) (rest : Option (List ℕ)) → ((condition : Option (List ℕ)) → IsTail tail condition → ⊥) → after (codes "if") (after_blanks tail) ≡ rest
    → condition_after rest ≡ Err (BadText why) → IsBadTail tail why
after_cause tail why None never f g =
    let same : Condition ≡ why = cc in
    subst (IsBadTail tail) same (never, λ lacks. let there = if_there tail lacks in cc)
after_cause tail why (Some rest) never f g = by (nat_lt 0 (prefix_len is_blank rest) && nat_lt 0 (length (after_blanks rest))) g
  where
    by : (b : Bool) → (if b then Ok (Some (after_blanks rest)) else Err (BadText (condition_cause (after_blanks rest)))) ≡ Err (BadText why) → IsBadTail tail why
    by true h = absurd (cc)
    by false h = let same : condition_cause (after_blanks rest) ≡ why = cc in subst (IsBadTail tail) same (left_cause tail rest never f (after_blanks rest) refl)

tail_cause : (tail : List ℕ) (why : TextCause) → ((condition : Option (List ℕ)) → IsTail tail condition → ⊥) → condition_of tail ≡ Err (BadText why) → IsBadTail tail why
unfolding condition_of
tail_cause tail why never e = by (list_all is_blank tail) e
  where
    by : (b : Bool) → (if b then Ok None else condition_after (after (codes "if") (after_blanks tail))) ≡ Err (BadText why) → IsBadTail tail why
    by true f = absurd (cc)
    by false f = after_cause tail why (after (codes "if") (after_blanks tail)) never refl f

-- ---- the whole text

passed_on : {A B : Type 0} (answer : Result A TriggerFault) (made : A → B) (fault : TriggerFault) → (answer >>= λ value. Ok (made value)) ≡ Err fault → answer ≡ Err fault
passed_on (Ok value) made fault e = absurd (cc)
passed_on (Err other) made fault e = let same : other ≡ fault = cc in ap (λ (f : TriggerFault). Err f) same

module _ (definition : Definition) (text : List ℕ) (why : TextCause) where
  abbrev trigger_as : Option ℕ → Option Parsed → SnapshotTrigger
  trigger_as count only_if = record { count = count; filter = only_if }

  body_cause : (body : List ℕ) → snapshot_trigger_of definition text body ≡ Err (BadText why) → IsBadFor body why
  unfolding snapshot_trigger_of
  body_cause body e = by (count_of (word_of body)) (condition_of (after_word body)) refl refl e
    where
      by : (counted : Result (Option ℕ) TriggerFault) (conditional : Result (Option (List ℕ)) TriggerFault) → count_of (word_of body) ≡ counted → condition_of (after_word body) ≡ conditional
          → (counted >>= λ count. conditional >>= λ condition. filter_of definition text condition >>= λ only_if. Ok (trigger_as count only_if)) ≡ Err (BadText why) → IsBadFor body why
      by (Err fault) conditional f g h = let same : fault ≡ BadText why = cc in inl (word_cause (word_of body) why (f ∙ ap (λ (x : TriggerFault). Err x) same))
      by (Ok count) (Err fault) f g h =
          let same : fault ≡ BadText why = cc in
          let bad : condition_of (after_word body) ≡ Err (BadText why) = g ∙ ap (λ (x : TriggerFault). Err x) same in
          inr (count, word_is (word_of body) count f, tail_cause (after_word body) why (unwritten (after_word body) why bad) bad)
      by (Ok count) (Ok condition) f g h =
          absurd (filter_not_bad definition text condition why (passed_on (filter_of definition text condition) (trigger_as count) (BadText why) h))

  after_mark : (rest : Option (List ℕ)) → said_after definition text rest ≡ Err (BadText why) → IsBadFor (unwrap_or rest text) why
  after_mark None e =
      let made : SnapshotTrigger → TriggerText = λ trigger. AttachSnapshot trigger in
      body_cause text (passed_on (snapshot_trigger_of definition text text) made (BadText why) e)
  after_mark (Some body) e =
      let made : SnapshotTrigger → TriggerText = λ trigger. RemoveSnapshot in
      body_cause body (passed_on (snapshot_trigger_of definition text body) made (BadText why) e)

  pub bad_text_has_cause : said_of definition text ≡ Err (BadText why) → IsBadFor (body_of text) why
  unfolding said_of snapshot_said
  bad_text_has_cause e = by (list_all is_blank text) (begins (codes "hist:") text) (begins (codes "!hist:") text) e
    where
      by : (blank attaches removes : Bool)
          → (if blank then Ok Nothing
          else if attaches then (spec_of definition text >>= λ spec. Ok (Hist spec))
          else if removes then (spec_of definition text >>= λ spec. Ok (RemoveHist spec))
          else said_after definition text (after (codes "!") text)) ≡ Err (BadText why) → IsBadFor (body_of text) why
      by true attaches removes f = absurd (cc)
      by false true removes f = absurd (never_bad definition text why (passed_on (spec_of definition text) (λ spec. Hist spec) (BadText why) f))
      by false false true f = absurd (never_bad definition text why (passed_on (spec_of definition text) (λ spec. RemoveHist spec) (BadText why) f))
      by false false false f = after_mark (after (codes "!") text) f
