-- Trigger texts are as their grammar says.
use Rattle.std.proofs.Common.{◌≡◌, ◌↔◌, ◌⊎◌, inl, inr, ℕ, ◌-◌, Bool, true, false, codes, List, ◌∷◌, ◌++◌, length, take, drop, Option, Some, None, Result, Ok, Err, if◌then◌else◌, refl, sym, ap, ◌∙◌, subst}
use Rattle.std.specs.List.{list_all}
use Rattle.std.proofs.lemmas.List.{take-append-drop}
use Rattle.std.proofs.lemmas.List.Sums.{AllPass-from_list_all, list_all-from_AllPass}
use Rattle.trace_format.specs.Definitions.{Definition}
use Rattle.trace_lex.specs.Blanks.{is_blank, AreBlanks}
use Rattle.trace_filter.specs.declared.fault.FilterFault.{FilterFault}
use Rattle.trace_filter.specs.Filters.{Parsed, IsRefused}
use Rattle.trace_trigger.specs.Frames.{moved, filter_of}
use Rattle.trace_trigger.specs.TriggerAnswers.{◌>>=◌}
use Rattle.trace_trigger.specs.HistSpecs.{SpecSeen}
use Rattle.trace_trigger.specs.HistTexts.{IsHistText, spec_of}
use Rattle.trace_trigger.specs.declared.fault.TriggerFault.{TriggerFault}
use Rattle.trace_trigger.specs.declared.fault.TriggerFault.TheVariants.{BadText}
use Rattle.trace_trigger.specs.declared.fault.TextCause.{TextCause}
use Rattle.trace_trigger.specs.declared.trigger.SnapshotTrigger.{SnapshotTrigger}
use Rattle.trace_trigger.specs.declared.trigger.TriggerText.{TriggerText}
use Rattle.trace_trigger.specs.declared.trigger.TriggerText.TheVariants.{Nothing, AttachSnapshot, RemoveSnapshot, Hist, RemoveHist}
use Rattle.trace_trigger.specs.TriggerTexts.{after, word_of, after_word, count_of, condition_of, snapshot_trigger_of, said_after, snapshot_said, begins, said_of}
use Rattle.trace_trigger.specs.TriggerGrammar.{IsWritten, Writes}
use Rattle.trace_trigger.specs.Laws.{WritesRemoval, IsBad}
use Rattle.trace_trigger.proofs.FilterLaws.{filter_given, filter_refused, filter_found}
use Rattle.trace_trigger.proofs.LaterFaults.{IsAnyLater, filter_later, never_bad}
use Rattle.trace_trigger.proofs.Cuts.{after_append, after_is, begins_so, so_begins}
use Rattle.trace_trigger.proofs.WordLaws.{bad_word}
use Rattle.trace_trigger.proofs.TailLaws.{bad_tail}
use Rattle.trace_trigger.proofs.BodyLaws.{IsBody, body_counts, body_conditions, body_is, Begins, word_begins}

-- ---- the filter

module _ (definition : Definition) (text : List ℕ) where
  pub filter_not_bad : (condition : Option (List ℕ)) (cause : TextCause) → filter_of definition text condition ≡ Err (BadText cause) → ⊥
  filter_not_bad condition cause e = let P : Result (Option Parsed) TriggerFault → Type 0 = λ answer. IsAnyLater answer in subst P e (filter_later definition text condition)

  -- ---- what a written text says, once its filter is read

  abbrev trigger_as : Option ℕ → Option Parsed → SnapshotTrigger
  trigger_as count read = record { count = count; filter = read }

  abbrev text_as : Bool → Option ℕ → Option Parsed → TriggerText
  text_as true count read = RemoveSnapshot
  text_as false count read = AttachSnapshot (trigger_as count read)

  abbrev said_as : Bool → Option ℕ → Result (Option Parsed) TriggerFault → Result TriggerText TriggerFault
  said_as removes count read = read >>= λ only_if. Ok (text_as removes count only_if)

  record Said : Type 0 where
    removes : Bool
    count : Option ℕ
    condition : Option (List ℕ)
    written : IsWritten text removes count condition
    is : said_of definition text ≡ said_as removes count (filter_of definition text condition)

  -- ---- what is written so is read

  trigger_is : (body : List ℕ) (count : Option ℕ) (condition : Option (List ℕ)) → IsBody body count condition → snapshot_trigger_of definition text body ≡ (filter_of definition text condition >>= λ only_if. Ok (trigger_as count only_if))
  unfolding snapshot_trigger_of
  trigger_is body count condition is =
      (λ i. body_counts body count condition is i >>= λ count. condition_of (after_word body) >>= λ condition. filter_of definition text condition >>= λ only_if. Ok (trigger_as count only_if))
      ∙ (λ i. body_conditions body count condition is i >>= λ condition. filter_of definition text condition >>= λ only_if. Ok (trigger_as count only_if))

  both_attach : (count : Option ℕ) (read : Result (Option Parsed) TriggerFault) → ((read >>= λ only_if. Ok (trigger_as count only_if)) >>= λ trigger. Ok (AttachSnapshot trigger)) ≡ said_as false count read
  both_attach count (Ok read) = refl
  both_attach count (Err fault) = refl

  both_remove : (count : Option ℕ) (read : Result (Option Parsed) TriggerFault) → ((read >>= λ only_if. Ok (trigger_as count only_if)) >>= λ trigger. Ok RemoveSnapshot) ≡ said_as true count read
  both_remove count (Ok read) = refl
  both_remove count (Err fault) = refl

  body_of : (removes : Bool) (count : Option ℕ) (condition : Option (List ℕ)) → (is : IsWritten text removes count condition) → IsBody (is.word ++ is.tail) count condition
  body_of removes count condition is = record { word = is.word; tail = is.tail; cut = refl; counted = is.counted; conditional = is.conditional }

  marked : (count : Option ℕ) (condition : Option (List ℕ)) → (is : IsWritten text true count condition) → text ≡ codes "!" ++ (is.word ++ is.tail)
  marked count condition is = is.cut

  unmarked : (count : Option ℕ) (condition : Option (List ℕ)) → IsWritten text false count condition → Begins text
  unmarked count condition is =
      let begins = word_begins is.word count is.counted in
      record { rest = begins.rest ++ is.tail; cut = is.cut ∙ ap (λ (w : List ℕ). w ++ is.tail) begins.cut }

  -- it begins with `!s`, or with `s`, so it is neither blank nor a text of a hist trigger
  record IsApart : Type 0 where
    unblank : list_all is_blank text ≡ false
    no_hist : begins (codes "hist:") text ≡ false
    no_removal : begins (codes "!hist:") text ≡ false

  is_apart : (removes : Bool) (count : Option ℕ) (condition : Option (List ℕ)) → IsWritten text removes count condition → IsApart
  is_apart true count condition is =
      let first = word_begins is.word count is.counted in
      let cut : text ≡ 33 ∷ 115 ∷ (first.rest ++ is.tail) = marked count condition is ∙ ap (λ (w : List ℕ). codes "!" ++ (w ++ is.tail)) first.cut in
      record { unblank = ap (list_all is_blank) cut; no_hist = ap (begins (codes "hist:")) cut; no_removal = ap (begins (codes "!hist:")) cut }
  is_apart false count condition is =
      let cut = (unmarked count condition is).cut in
      record { unblank = ap (list_all is_blank) cut; no_hist = ap (begins (codes "hist:")) cut; no_removal = ap (begins (codes "!hist:")) cut }

  -- ---- which kind of text it is

  abbrev chosen : Bool → Bool → Bool → Result TriggerText TriggerFault
  chosen blank attaches removes =
      if blank then Ok Nothing
      else if attaches then (spec_of definition text >>= λ spec. Ok (Hist spec))
      else if removes then (spec_of definition text >>= λ spec. Ok (RemoveHist spec))
      else snapshot_said definition text

  said_if : (blank attaches removes : Bool) → list_all is_blank text ≡ blank → begins (codes "hist:") text ≡ attaches → begins (codes "!hist:") text ≡ removes
      → said_of definition text ≡ chosen blank attaches removes
  unfolding said_of
  said_if blank attaches removes e f g = λ i. chosen (e i) (f i) (g i)

  snapshot_if : (rest : Option (List ℕ)) → after (codes "!") text ≡ rest → snapshot_said definition text ≡ said_after definition text rest
  unfolding snapshot_said
  snapshot_if rest e = ap (said_after definition text) e

  apart_is : (rest : Option (List ℕ)) → IsApart → after (codes "!") text ≡ rest → said_of definition text ≡ said_after definition text rest
  apart_is rest apart e = said_if false false false apart.unblank apart.no_hist apart.no_removal ∙ snapshot_if rest e

  written_is : (removes : Bool) (count : Option ℕ) (condition : Option (List ℕ)) → IsWritten text removes count condition → said_of definition text ≡ said_as removes count (filter_of definition text condition)
  written_is true count condition is =
      let body : List ℕ = is.word ++ is.tail in
      apart_is (Some body) (is_apart true count condition is) (ap (after (codes "!")) (marked count condition is) ∙ after_append (codes "!") body)
      ∙ ap (λ (r : Result SnapshotTrigger TriggerFault). r >>= λ trigger. Ok RemoveSnapshot) (trigger_is body count condition (body_of true count condition is))
      ∙ both_remove count (filter_of definition text condition)
  written_is false count condition is =
      let itself : IsBody text count condition = record { word = is.word; tail = is.tail; cut = is.cut; counted = is.counted; conditional = is.conditional } in
      apart_is None (is_apart false count condition is) (ap (after (codes "!")) (unmarked count condition is).cut)
      ∙ ap (λ (r : Result SnapshotTrigger TriggerFault). r >>= λ trigger. Ok (AttachSnapshot trigger)) (trigger_is text count condition itself)
      ∙ both_attach count (filter_of definition text condition)

  blank_is : list_all is_blank text ≡ true → said_of definition text ≡ Ok Nothing
  blank_is e = said_if true (begins (codes "hist:") text) (begins (codes "!hist:") text) e refl refl

  -- ---- a text of a hist trigger

  abbrev hist_text_as : Bool → SpecSeen → TriggerText
  hist_text_as false spec = Hist spec
  hist_text_as true spec = RemoveHist spec

  abbrev hist_as : Bool → Result SpecSeen TriggerFault → Result TriggerText TriggerFault
  hist_as removes read = read >>= λ spec. Ok (hist_text_as removes spec)

  abbrev BeginsHist : Bool → Type 0
  BeginsHist false = take 5 text ≡ codes "hist:"
  BeginsHist true = take 6 text ≡ codes "!hist:"

  hist_is : (removes : Bool) → BeginsHist removes → said_of definition text ≡ hist_as removes (spec_of definition text)
  hist_is false is =
      let cut : text ≡ codes "hist:" ++ drop 5 text = sym (take-append-drop 5 text) ∙ ap (λ (b : List ℕ). b ++ drop 5 text) is in
      said_if false true (begins (codes "!hist:") text) (ap (list_all is_blank) cut) (begins_so (codes "hist:") text is) refl
  hist_is true is =
      let cut : text ≡ codes "!hist:" ++ drop 6 text = sym (take-append-drop 6 text) ∙ ap (λ (b : List ℕ). b ++ drop 6 text) is in
      said_if false false true (ap (list_all is_blank) cut) (ap (begins (codes "hist:")) cut) (begins_so (codes "!hist:") text is)

  record HistSaid : Type 0 where
    removes : Bool
    begins : BeginsHist removes
    is : said_of definition text ≡ hist_as removes (spec_of definition text)

  hist_said : (removes : Bool) → BeginsHist removes → HistSaid
  hist_said removes is = record { removes = removes; begins = is; is = hist_is removes is }

  of_hist_text : IsHistText text → HistSaid
  of_hist_text (inl is) = hist_said false is
  of_hist_text (inr is) = hist_said true is

  -- ---- a body is read so, or badly written

  record HasBody (body : List ℕ) : Type 0 where
    count : Option ℕ
    condition : Option (List ℕ)
    is : IsBody body count condition

  body_or_bad : (body : List ℕ) → HasBody body ⊎ ((cause : TextCause) × (snapshot_trigger_of definition text body ≡ Err (BadText cause)))
  unfolding snapshot_trigger_of
  body_or_bad body = by (count_of (word_of body)) (condition_of (after_word body)) refl refl
    where
      by : (counted : Result (Option ℕ) TriggerFault) (conditional : Result (Option (List ℕ)) TriggerFault) → count_of (word_of body) ≡ counted → condition_of (after_word body) ≡ conditional
          → HasBody body ⊎ ((cause : TextCause) × ((count_of (word_of body) >>= λ count. condition_of (after_word body) >>= λ condition. filter_of definition text condition >>= λ only_if. Ok (trigger_as count only_if)) ≡ Err (BadText cause)))
      by (Err fault) conditional e f = let bad = bad_word (word_of body) fault e in inr (bad.0, rw e (ap (λ (b : TriggerFault). Err b) bad.1))
      by (Ok count) (Err fault) e f = let bad = bad_tail (after_word body) fault f in inr (bad.0, rw (e, f) (ap (λ (b : TriggerFault). Err b) bad.1))
      by (Ok count) (Ok condition) e f = inl (record { count = count; condition = condition; is = body_is body count condition e f })

  -- ---- each text is blank, one of a hist trigger, written so, or badly written

  record BadlySaid : Type 0 where
    no_hist : IsHistText text → ⊥
    cause : TextCause
    is : said_of definition text ≡ Err (BadText cause)

  data Kind : Type 0 where
    is_blank_text : AreBlanks text → Kind
    is_hist_text : HistSaid → Kind
    is_written : Said → Kind
    is_bad : BadlySaid → Kind

  marked_so : (body : List ℕ) → after (codes "!") text ≡ Some body → HasBody body → Said
  marked_so body e has =
      let written : IsWritten text true has.count has.condition =
      record { word = has.is.word; tail = has.is.tail; cut = after_is (codes "!") text body e ∙ ap (λ (b : List ℕ). codes "!" ++ b) has.is.cut; counted = has.is.counted; conditional = has.is.conditional } in
      record { removes = true; count = has.count; condition = has.condition; written = written; is = written_is true has.count has.condition written }

  unmarked_so : HasBody text → Said
  unmarked_so has =
      let written : IsWritten text false has.count has.condition = record { word = has.is.word; tail = has.is.tail; cut = has.is.cut; counted = has.is.counted; conditional = has.is.conditional } in
      record { removes = false; count = has.count; condition = has.condition; written = written; is = written_is false has.count has.condition written }

  apart_no_hist : IsApart → IsHistText text → ⊥
  apart_no_hist apart (inl is) = let begun = begins_so (codes "hist:") text is in let not_begun = apart.no_hist in cc
  apart_no_hist apart (inr is) = let begun = begins_so (codes "!hist:") text is in let not_begun = apart.no_removal in cc

  apart_kind : IsApart → Kind
  apart_kind apart = by (after (codes "!") text) refl
    where
      marked_by : (body : List ℕ) → after (codes "!") text ≡ Some body → HasBody body ⊎ ((cause : TextCause) × (snapshot_trigger_of definition text body ≡ Err (BadText cause))) → Kind
      marked_by body e (inl has) = is_written (marked_so body e has)
      marked_by body e (inr wrong) = is_bad (record {
        no_hist = apart_no_hist apart;
        cause = wrong.0;
        is = apart_is (Some body) apart e ∙ ap (λ (r : Result SnapshotTrigger TriggerFault). r >>= λ trigger. Ok RemoveSnapshot) wrong.1;
      })

      unmarked_by : after (codes "!") text ≡ None → HasBody text ⊎ ((cause : TextCause) × (snapshot_trigger_of definition text text ≡ Err (BadText cause))) → Kind
      unmarked_by e (inl has) = is_written (unmarked_so has)
      unmarked_by e (inr wrong) = is_bad (record {
        no_hist = apart_no_hist apart;
        cause = wrong.0;
        is = apart_is None apart e ∙ ap (λ (r : Result SnapshotTrigger TriggerFault). r >>= λ trigger. Ok (AttachSnapshot trigger)) wrong.1;
      })

      by : (rest : Option (List ℕ)) → after (codes "!") text ≡ rest → Kind
      by (Some body) e = marked_by body e (body_or_bad body)
      by None e = unmarked_by e (body_or_bad text)

  kind : Kind
  kind = by (list_all is_blank text) refl (begins (codes "hist:") text) refl (begins (codes "!hist:") text) refl
    where
      by : (blanks : Bool) → list_all is_blank text ≡ blanks → (attaches : Bool) → begins (codes "hist:") text ≡ attaches → (removes : Bool) → begins (codes "!hist:") text ≡ removes → Kind
      by true e attaches f removes g = is_blank_text (AllPass-from_list_all is_blank text e)
      by false e true f removes g = is_hist_text (hist_said false (so_begins (codes "hist:") text f))
      by false e false f true g = is_hist_text (hist_said true (so_begins (codes "!hist:") text g))
      by false e false f false g = apart_kind (record { unblank = e; no_hist = f; no_removal = g })

  -- ---- what each kind never says

  abbrev OfSnapshot : TriggerText → Type 0
  OfSnapshot Nothing = ⊥
  OfSnapshot (AttachSnapshot trigger) = Unit {0}
  OfSnapshot RemoveSnapshot = Unit {0}
  OfSnapshot (Hist spec) = ⊥
  OfSnapshot (RemoveHist spec) = ⊥

  abbrev OfHist : TriggerText → Type 0
  OfHist Nothing = ⊥
  OfHist (AttachSnapshot trigger) = ⊥
  OfHist RemoveSnapshot = ⊥
  OfHist (Hist spec) = Unit {0}
  OfHist (RemoveHist spec) = Unit {0}

  written_says : (said : TriggerText) (removes : Bool) (count : Option ℕ) (read : Result (Option Parsed) TriggerFault) → said_as removes count read ≡ Ok said → OfSnapshot said
  written_says said removes count (Err fault) is = absurd (cc)
  written_says said true count (Ok read) is = let same : RemoveSnapshot ≡ said = cc in subst OfSnapshot same tt
  written_says said false count (Ok read) is = let same : AttachSnapshot (trigger_as count read) ≡ said = cc in subst OfSnapshot same tt

  hist_says : (said : TriggerText) (removes : Bool) (read : Result SpecSeen TriggerFault) → hist_as removes read ≡ Ok said → OfHist said
  hist_says said removes (Err fault) is = absurd (cc)
  hist_says said true (Ok spec) is = let same : RemoveHist spec ≡ said = cc in subst OfHist same tt
  hist_says said false (Ok spec) is = let same : Hist spec ≡ said = cc in subst OfHist same tt

  of_written : (said : TriggerText) → Said → said_of definition text ≡ Ok said → OfSnapshot said
  of_written said it is = written_says said it.removes it.count (filter_of definition text it.condition) (sym it.is ∙ is)

  of_hist_said : (said : TriggerText) → HistSaid → said_of definition text ≡ Ok said → OfHist said
  of_hist_said said it is = hist_says said it.removes (spec_of definition text) (sym it.is ∙ is)

  bad_never : (said : TriggerText) → BadlySaid → said_of definition text ≡ Ok said → ⊥
  bad_never said it is = let wrong = it.is in cc

  blanks_say_nothing : AreBlanks text → said_of definition text ≡ Ok Nothing
  blanks_say_nothing blanks = blank_is (list_all-from_AllPass is_blank text blanks)

  blanks_say : (said : TriggerText) → AreBlanks text → said_of definition text ≡ Ok said → Nothing ≡ said
  blanks_say said blanks is = let nothing = blanks_say_nothing blanks in cc

  written_never_bad : (removes : Bool) (count : Option ℕ) (read : Result (Option Parsed) TriggerFault) (cause : TextCause) → (read ≡ Err (BadText cause) → ⊥)
      → said_as removes count read ≡ Err (BadText cause) → ⊥
  written_never_bad removes count (Err fault) cause fine is = let same : fault ≡ BadText cause = cc in fine (ap (λ (f : TriggerFault). Err f) same)
  written_never_bad removes count (Ok read) cause fine is = cc

  hist_never_bad : (removes : Bool) (read : Result SpecSeen TriggerFault) (cause : TextCause) → (read ≡ Err (BadText cause) → ⊥) → hist_as removes read ≡ Err (BadText cause) → ⊥
  hist_never_bad removes (Err fault) cause fine is = let same : fault ≡ BadText cause = cc in fine (ap (λ (f : TriggerFault). Err f) same)
  hist_never_bad removes (Ok spec) cause fine is = cc

  -- ---- the laws

  pub nothing_is_blanks : (said_of definition text ≡ Ok Nothing) ↔ AreBlanks text
  nothing_is_blanks = (λ is. by is kind, blanks_say_nothing)
    where
      by : said_of definition text ≡ Ok Nothing → Kind → AreBlanks text
      by is (is_blank_text blanks) = blanks
      by is (is_hist_text it) = absurd (of_hist_said Nothing it is)
      by is (is_written it) = absurd (of_written Nothing it is)
      by is (is_bad it) = absurd (bad_never Nothing it is)

  pub bad_is_unwritten : ((cause : TextCause) × (said_of definition text ≡ Err (BadText cause))) ↔ IsBad text
  bad_is_unwritten = (λ is. bad is.0 is.1, λ un. by un kind)
    where
      bad : (cause : TextCause) → said_of definition text ≡ Err (BadText cause) → IsBad text
      bad cause is = record {
        unblank = λ blanks. let nothing = blanks_say_nothing blanks in cc;
        no_hist = λ begins. let it = of_hist_text begins in hist_never_bad it.removes (spec_of definition text) cause (never_bad definition text cause) (sym it.is ∙ is);
        unwritten = λ removes count condition written. written_never_bad removes count (filter_of definition text condition) cause (filter_not_bad condition cause) (sym (written_is removes count condition written) ∙ is);
      }

      begun : (removes : Bool) → BeginsHist removes → IsHistText text
      begun false is = inl is
      begun true is = inr is

      by : IsBad text → Kind → (cause : TextCause) × (said_of definition text ≡ Err (BadText cause))
      by un (is_blank_text blanks) = absurd (un.unblank blanks)
      by un (is_hist_text it) = absurd (un.no_hist (begun it.removes it.begins))
      by un (is_written it) = absurd (un.unwritten it.removes it.count it.condition it.written)
      by un (is_bad it) = (it.cause, it.is)

  -- what a written text attaches or removes
  attached : (trigger : SnapshotTrigger) (removes : Bool) (count : Option ℕ) (condition : Option (List ℕ)) (read : Result (Option Parsed) TriggerFault) → IsWritten text removes count condition → filter_of definition text condition ≡ read
      → said_as removes count read ≡ Ok (AttachSnapshot trigger) → Writes definition text false trigger.count trigger.filter
  attached trigger removes count condition (Err fault) written found is = absurd (cc)
  attached trigger true count condition (Ok read) written found is = absurd (cc)
  attached trigger false count condition (Ok read) written found is =
      let same : trigger_as count read ≡ trigger = cc in
      let writes : Writes definition text false count read = record { condition = condition; written = written; filtered = filter_found definition text condition read found } in
      subst (λ (t : SnapshotTrigger). Writes definition text false t.count t.filter) same writes

  removed : (removes : Bool) (count : Option ℕ) (condition : Option (List ℕ)) (read : Result (Option Parsed) TriggerFault) → IsWritten text removes count condition → filter_of definition text condition ≡ read
      → said_as removes count read ≡ Ok RemoveSnapshot → WritesRemoval definition text
  removed removes count condition (Err fault) written found is = absurd (cc)
  removed false count condition (Ok read) written found is = absurd (cc)
  removed true count condition (Ok read) written found is = record { count = count; filter = read; writes = record { condition = condition; written = written; filtered = filter_found definition text condition read found } }

  pub attach_is_written : (trigger : SnapshotTrigger) → (said_of definition text ≡ Ok (AttachSnapshot trigger)) ↔ Writes definition text false trigger.count trigger.filter
  attach_is_written trigger = (
    λ is. by is kind,
    λ writes. written_is false trigger.count writes.condition writes.written ∙ ap (said_as false trigger.count) (filter_given definition text writes.condition trigger.filter writes.filtered),
  )
    where
      by : said_of definition text ≡ Ok (AttachSnapshot trigger) → Kind → Writes definition text false trigger.count trigger.filter
      by is (is_blank_text blanks) = let same = blanks_say (AttachSnapshot trigger) blanks is in absurd (cc)
      by is (is_hist_text it) = absurd (of_hist_said (AttachSnapshot trigger) it is)
      by is (is_written it) = attached trigger it.removes it.count it.condition (filter_of definition text it.condition) it.written refl (sym it.is ∙ is)
      by is (is_bad it) = absurd (bad_never (AttachSnapshot trigger) it is)

  pub remove_is_written : (said_of definition text ≡ Ok RemoveSnapshot) ↔ WritesRemoval definition text
  remove_is_written = (
    λ is. by is kind,
    λ is. written_is true is.count is.writes.condition is.writes.written ∙ ap (said_as true is.count) (filter_given definition text is.writes.condition is.filter is.writes.filtered),
  )
    where
      by : said_of definition text ≡ Ok RemoveSnapshot → Kind → WritesRemoval definition text
      by is (is_blank_text blanks) = let same = blanks_say RemoveSnapshot blanks is in absurd (cc)
      by is (is_hist_text it) = absurd (of_hist_said RemoveSnapshot it is)
      by is (is_written it) = removed it.removes it.count it.condition (filter_of definition text it.condition) it.written refl (sym it.is ∙ is)
      by is (is_bad it) = absurd (bad_never RemoveSnapshot it is)

  -- which trigger a text of a hist trigger names
  hist_named : (spec : SpecSeen) (removes : Bool) (read : Result SpecSeen TriggerFault) → BeginsHist removes → hist_as removes read ≡ Ok (Hist spec) → (take 5 text ≡ codes "hist:") × (read ≡ Ok spec)
  hist_named spec removes (Err fault) begins is = absurd (cc)
  hist_named spec true (Ok read) begins is = absurd (cc)
  hist_named spec false (Ok read) begins is = let same : read ≡ spec = cc in (begins, ap (λ (s : SpecSeen). Ok s) same)

  removal_named : (spec : SpecSeen) (removes : Bool) (read : Result SpecSeen TriggerFault) → BeginsHist removes → hist_as removes read ≡ Ok (RemoveHist spec) → (take 6 text ≡ codes "!hist:") × (read ≡ Ok spec)
  removal_named spec removes (Err fault) begins is = absurd (cc)
  removal_named spec false (Ok read) begins is = absurd (cc)
  removal_named spec true (Ok read) begins is = let same : read ≡ spec = cc in (begins, ap (λ (s : SpecSeen). Ok s) same)

  pub hist_is_read : (spec : SpecSeen) → (said_of definition text ≡ Ok (Hist spec)) ↔ ((take 5 text ≡ codes "hist:") × (spec_of definition text ≡ Ok spec))
  hist_is_read spec = (λ is. by is kind, λ is. hist_is false is.0 ∙ ap (hist_as false) is.1)
    where
      by : said_of definition text ≡ Ok (Hist spec) → Kind → (take 5 text ≡ codes "hist:") × (spec_of definition text ≡ Ok spec)
      by is (is_blank_text blanks) = let same = blanks_say (Hist spec) blanks is in absurd (cc)
      by is (is_hist_text it) = hist_named spec it.removes (spec_of definition text) it.begins (sym it.is ∙ is)
      by is (is_written it) = absurd (of_written (Hist spec) it is)
      by is (is_bad it) = absurd (bad_never (Hist spec) it is)

  pub remove_hist_is_read : (spec : SpecSeen) → (said_of definition text ≡ Ok (RemoveHist spec)) ↔ ((take 6 text ≡ codes "!hist:") × (spec_of definition text ≡ Ok spec))
  remove_hist_is_read spec = (λ is. by is kind, λ is. hist_is true is.0 ∙ ap (hist_as true) is.1)
    where
      by : said_of definition text ≡ Ok (RemoveHist spec) → Kind → (take 6 text ≡ codes "!hist:") × (spec_of definition text ≡ Ok spec)
      by is (is_blank_text blanks) = let same = blanks_say (RemoveHist spec) blanks is in absurd (cc)
      by is (is_hist_text it) = removal_named spec it.removes (spec_of definition text) it.begins (sym it.is ∙ is)
      by is (is_written it) = absurd (of_written (RemoveHist spec) it is)
      by is (is_bad it) = absurd (bad_never (RemoveHist spec) it is)

  pub hist_fault_is_told : (fault : TriggerFault) → IsHistText text → spec_of definition text ≡ Err fault → said_of definition text ≡ Err fault
  hist_fault_is_told fault begins refused = let it = of_hist_text begins in it.is ∙ ap (hist_as it.removes) refused

  pub filter_fault_is_moved : (removes : Bool) (count : Option ℕ) (condition : List ℕ) (fault : FilterFault) → IsWritten text removes count (Some condition) → IsRefused definition condition fault
      → said_of definition text ≡ Err (moved (length text - length condition) fault)
  filter_fault_is_moved removes count condition fault written refused =
      written_is removes count (Some condition) written ∙ ap (said_as removes count) (filter_refused definition text condition fault refused)
