-- What is read of a text that is written is never refused for memory: the definitions take none.
use Rattle.std.proofs.Common.{◌≡◌, ◌≢◌, ◌⊎◌, inl, inr, ℕ, ◌+◌, ◌-◌, ◌^◌, Bool, true, false, if◌then◌else◌, codes, List, [], ◌∷◌, Option, None, Some, Result, Ok, Err, refl, ap}
use Rattle.std.specs.List.{list_all, prefix_len}
use Rattle.std.specs.Prelude.{nat_lt, nat_le, ◌==◌, ◌&&◌, is_some, length}
use Rattle.trace_filter.specs.declared.fault.FilterFault.{FilterFault}
use Rattle.trace_filter.specs.declared.fault.FilterFault.TheVariants as filters
use Rattle.trace_filter.specs.Filters.{Parsed, answer_of, IsRefused}
use Rattle.trace_filter.proofs.FilterLemmas.{refusal_is_answered}
use Rattle.trace_format.specs.Catalogs.{id_for, id_of}
use Rattle.trace_format.specs.Cells.{record_size_of}
use Rattle.trace_format.specs.Definitions.{Definition}
use Rattle.trace_format.specs.declared.operand.Operand.{Operand}
use Rattle.trace_format.specs.Operands.{operand_named, is_text}
use Rattle.trace_format.specs.declared.fault.CatalogFault.TheVariants as catalogs
use Rattle.trace_lex.specs.Blanks.{is_blank}
use Rattle.trace_lex.specs.Decimals.{decimal_number, up_to}
use Rattle.trace_trigger.specs.HistTexts.{IsHistText, spec_of}
use Rattle.trace_trigger.specs.HistGrammar.{Setting}
use Rattle.trace_trigger.specs.HistRefusals.{IsRefusedAs, IsRefusal, ForMany, ForKey, ForValue, ForSize, ForFilter, CannotBeValue, IsOverBy, ByKeys, ByValues, BySortKeys}
use Rattle.trace_trigger.proofs.CauseLaws.{refusal_is_as_written}
use Rattle.trace_trigger.proofs.Cuts.{so_begins}
use Rattle.trace_trigger.specs.Frames.{after_blanks, moved, filter_read, filter_of}
use Rattle.trace_trigger.specs.TriggerAnswers.{◌>>=◌}
use Rattle.trace_trigger.specs.TriggerTexts.{said_of, after, word_of, after_word, count_from, count_after, count_of, condition_after, condition_of, snapshot_trigger_of, said_after, snapshot_said, begins}
use Rattle.trace_trigger.specs.declared.fault.OperatorCause.TheVariants.{Modified, Summed}
use Rattle.trace_trigger.specs.declared.fault.TextCause.{TextCause}
use Rattle.trace_trigger.specs.declared.fault.TriggerFault.{TriggerFault}
use Rattle.trace_trigger.specs.declared.fault.TriggerFault.TheVariants as faults
use Rattle.trace_trigger.specs.declared.trigger.TriggerText.TheVariants as texts

-- ---- events and filters

pub adding_takes_none : (events : List Definition) (definition : Definition) (page_bytes : ℕ) → id_for events definition page_bytes ≡ Err catalogs.Memory → ⊥
adding_takes_none events definition page_bytes =
    by (is_some (id_of events definition.name)) (nat_lt 16 (length definition.fields)) (nat_le 64 (length events)) (nat_lt page_bytes (record_size_of definition))
  where
    by : (known wide many big : Bool)
        → (if known then Err catalogs.EventExists
        else if wide then Err catalogs.TooManyFields
        else if many then Err catalogs.TooManyEvents
        else if big then Err catalogs.TooBig
        else Ok (length events + 1)) ≡ Err catalogs.Memory → ⊥
    by true wide many big e = cc
    by false true many big e = cc
    by false false true big e = cc
    by false false false true e = cc
    by false false false false e = cc

pub filter_takes_none : (event : Definition) (text : List ℕ) → answer_of event text ≡ Err filters.Memory → ⊥
filter_takes_none event text e = (refusal_is_answered event text filters.Memory).1 e

-- ---- hist triggers

hist_refused : (definition : Definition) (text : List ℕ) → IsRefusedAs definition text faults.Memory → ⊥
hist_refused definition text (inl h) = let same : faults.Memory ≡ faults.HistSyntax h.0 h.1 = h.2 in cc
hist_refused definition text (inr is) = by is.refusal
  where
    value : (name : List ℕ) (offset : ℕ) → CannotBeValue definition name offset faults.Memory → ⊥
    value name offset (inl h) = let same : faults.Memory ≡ faults.NoSuchField offset = h.1 in cc
    value name offset (inr h) = let same : faults.Memory ≡ faults.WrongOperator offset Summed = h.3 in cc

    condition : (filter : List ℕ) (before : ℕ) (told : FilterFault) → IsRefused definition filter told → faults.Memory ≡ moved before told → ⊥
    condition filter before filters.TooLong is same = cc
    condition filter before filters.TooDeep is same = cc
    condition filter before (filters.FilterSyntax at cause) is same = cc
    condition filter before (filters.NoSuchField at) is same = cc
    condition filter before (filters.WrongOperator at) is same = cc
    condition filter before filters.Memory is same = is

    many : {settings : List Setting} → IsOverBy settings faults.Memory → ⊥
    many (ByKeys over same) = cc
    many (ByValues keys over same) = cc
    many (BySortKeys keys values over same) = cc

    by : {settings : List Setting} {only_if : Option (List ℕ)} → IsRefusal definition text settings only_if faults.Memory → ⊥
    by (ForMany over) = many over
    by (ForKey within is) = key is.wrong.wrong
      where
        key : ((operand_named definition.fields is.wrong.name ≡ None) × (faults.Memory ≡ faults.NoSuchField is.offset))
            ⊎ ((operand : Operand) × (operand_named definition.fields is.wrong.name ≡ Some operand) × (is_text operand ≡ true) × (is.wrong.suffix ≢ []) × (faults.Memory ≡ faults.WrongOperator is.offset Modified)) → ⊥
        key (inl h) = let same : faults.Memory ≡ faults.NoSuchField is.offset = h.1 in cc
        key (inr h) = let same : faults.Memory ≡ faults.WrongOperator is.offset Modified = h.4 in cc
    by (ForValue within keys is) = value is.name is.offset is.wrong
    by (ForSize within keys values size same) = cc
    by (ForFilter within keys values size sized filter at told refused same) = condition filter _ told refused same

hist_takes_none : (definition : Definition) (text : List ℕ) → IsHistText text → spec_of definition text ≡ Err faults.Memory → ⊥
hist_takes_none definition text is e = hist_refused definition text ((refusal_is_as_written definition text faults.Memory is).0 e)

-- ---- triggers for snapshots

bad_text : {A : Type 0} {cause : TextCause} → ◌≡◌ {A = Result A TriggerFault} (Err (faults.BadText cause)) (Err faults.Memory) → ⊥
bad_text e = cc

no_fault : {A : Type 0} (a : A) → ◌≡◌ {A = Result A TriggerFault} (Ok a) (Err faults.Memory) → ⊥
no_fault a e = cc

then_none : {A B : Type 0} (r : Result A TriggerFault) (next : A → Result B TriggerFault) → (r ≡ Err faults.Memory → ⊥)
    → ((a : A) → next a ≡ Err faults.Memory → ⊥) → (r >>= next) ≡ Err faults.Memory → ⊥
then_none (Ok a) next first later e = later a e
then_none (Err fault) next first later e = let same : fault ≡ faults.Memory = cc in first (ap (λ (f : TriggerFault). Err f) same)

either_none : {A : Type 0} (b : Bool) (x y : Result A TriggerFault) → (x ≡ Err faults.Memory → ⊥) → (y ≡ Err faults.Memory → ⊥)
    → (if b then x else y) ≡ Err faults.Memory → ⊥
either_none true x y p q e = p e
either_none false x y p q e = q e

count_takes_none : (word : List ℕ) → count_of word ≡ Err faults.Memory → ⊥
unfolding count_of
count_takes_none word e = by (after (codes "snapshot") word) e
  where
    from : (n : Option ℕ) → count_from n ≡ Err faults.Memory → ⊥
    from None h = bad_text h
    from (Some n) h = either_none (nat_lt 0 n) _ _ (no_fault (Some n)) bad_text h

    by : (rest : Option (List ℕ)) → count_after rest ≡ Err faults.Memory → ⊥
    by None h = bad_text h
    by (Some []) h = no_fault None h
    by (Some (b ∷ digits)) h = either_none (b == 58) _ _ (from (up_to (2 ^ 32 - 1) (decimal_number digits))) bad_text h

condition_takes_none : (tail : List ℕ) → condition_of tail ≡ Err faults.Memory → ⊥
unfolding condition_of
condition_takes_none tail e = either_none (list_all is_blank tail) _ _ (no_fault None) (by (after (codes "if") (after_blanks tail))) e
  where
    by : (rest : Option (List ℕ)) → condition_after rest ≡ Err faults.Memory → ⊥
    by None h = bad_text h
    by (Some text) h =
        either_none (nat_lt 0 (prefix_len is_blank text) && nat_lt 0 (length (after_blanks text))) _ _ (no_fault (Some (after_blanks text))) bad_text h

only_if_takes_none : (definition : Definition) (text : List ℕ) (condition : Option (List ℕ)) → filter_of definition text condition ≡ Err faults.Memory → ⊥
unfolding filter_of
only_if_takes_none definition text None e = no_fault None e
only_if_takes_none definition text (Some condition) e = by (answer_of definition condition) (filter_takes_none definition condition) e
  where
    by : (r : Result Parsed FilterFault) → (r ≡ Err filters.Memory → ⊥) → filter_read (length text - length condition) r ≡ Err faults.Memory → ⊥
    by (Ok read) never h = cc
    by (Err filters.TooLong) never h = cc
    by (Err filters.TooDeep) never h = cc
    by (Err (filters.FilterSyntax at cause)) never h = cc
    by (Err (filters.NoSuchField at)) never h = cc
    by (Err (filters.WrongOperator at)) never h = cc
    by (Err filters.Memory) never h = never refl

trigger_takes_none : (definition : Definition) (text body : List ℕ) → snapshot_trigger_of definition text body ≡ Err faults.Memory → ⊥
unfolding snapshot_trigger_of
trigger_takes_none definition text body e =
    then_none (count_of (word_of body)) _ (count_takes_none (word_of body))
    (λ count. then_none (condition_of (after_word body)) _ (condition_takes_none (after_word body))
    (λ condition. then_none (filter_of definition text condition) _ (only_if_takes_none definition text condition) (λ only_if. no_fault _))) e

snapshot_takes_none : (definition : Definition) (text : List ℕ) → snapshot_said definition text ≡ Err faults.Memory → ⊥
unfolding snapshot_said
snapshot_takes_none definition text e = by (after (codes "!") text) e
  where
    by : (body : Option (List ℕ)) → said_after definition text body ≡ Err faults.Memory → ⊥
    by None h = then_none (snapshot_trigger_of definition text text) _ (trigger_takes_none definition text text) (λ t. no_fault _) h
    by (Some body) h = then_none (snapshot_trigger_of definition text body) _ (trigger_takes_none definition text body) (λ t. no_fault _) h

-- ---- all texts

pub trigger_text_takes_none : (definition : Definition) (text : List ℕ) → said_of definition text ≡ Err faults.Memory → ⊥
unfolding said_of
trigger_text_takes_none definition text e =
    either_none (list_all is_blank text) _ _ (no_fault texts.Nothing) (by (begins (codes "hist:") text) refl (begins (codes "!hist:") text) refl) e
  where
    by : (one : Bool) → begins (codes "hist:") text ≡ one → (two : Bool) → begins (codes "!hist:") text ≡ two
        → (if one then (spec_of definition text >>= λ spec. Ok (texts.Hist spec)) else if two then (spec_of definition text >>= λ spec. Ok (texts.RemoveHist spec)) else snapshot_said definition text) ≡ Err faults.Memory → ⊥
    by true is two h k = then_none (spec_of definition text) _ (hist_takes_none definition text (inl (so_begins (codes "hist:") text is))) (λ s. no_fault _) k
    by false not_one true is k = then_none (spec_of definition text) _ (hist_takes_none definition text (inr (so_begins (codes "!hist:") text is))) (λ s. no_fault _) k
    by false not_one false not_two k = snapshot_takes_none definition text k
