-- The first item of a list that is refused, at its offset.
use Rattle.std.proofs.Common.{◌≡◌, ◌≢◌, ◌⊎◌, inl, inr, refl, ℕ, ◌+◌, Bool, true, false, not, ◌&&◌, if◌then◌else◌, cond, bytes_eq, codes, List, [], ◌∷◌, ◌++◌, length, filter, Option, Some, None, Result, Ok, Err, ap, sym, ◌∙◌, arith}
use Rattle.std.specs.List.{AllByRecursion, AllZip}
use Rattle.std.proofs.lemmas.Bool.{and_from, false_from_ne_true, not_from_false}
use Rattle.std.proofs.lemmas.Slice.Eq.{bytes_eq-Decides}
use Rattle.trace_format.specs.Definitions.{Definition}
use Rattle.trace_format.specs.declared.operand.Operand.{Operand}
use Rattle.trace_format.specs.Operands.{operand_named, is_text}
use Rattle.trace_trigger.specs.declared.fault.TriggerFault.{TriggerFault}
use Rattle.trace_trigger.specs.declared.fault.OperatorCause.TheVariants.{Modified, Summed}
use Rattle.trace_trigger.specs.declared.fault.TriggerFault.TheVariants.{NoSuchField, WrongOperator}
use Rattle.trace_trigger.specs.declared.piece.ListItem.{ListItem}
use Rattle.trace_trigger.specs.TriggerAnswers.{◌>>=◌}
use Rattle.trace_trigger.specs.HistLists.{item_name, item_suffix}
use Rattle.trace_trigger.specs.HistMeanings.{each, key_as, key_meant, key_in, value_meant}
use Rattle.trace_trigger.specs.HistGrammar.{summed_names, IsValueOf}
use Rattle.trace_trigger.specs.HistRefusals.{CannotBeKey, CanBeValue, CannotBeValue}
use Rattle.trace_trigger.proofs.CutLemmas.{located}
use Rattle.trace_trigger.proofs.NameLaws.{item_split, item_is}
use Rattle.trace_trigger.proofs.MeaningLaws.{bound, never_ok, as_number}
use Rattle.trace_trigger.proofs.OffsetLemmas.{size, size_first}

-- ---- results

pub record IsPassed {A B : Type 0} (first : Result A TriggerFault) (next : A → Result B TriggerFault) (fault : TriggerFault) : Type 0 where
  pub found : A
  pub is : first ≡ Ok found
  pub after : next found ≡ Err fault

pub refused : {A B : Type 0} (first : Result A TriggerFault) (next : A → Result B TriggerFault) (fault : TriggerFault) → (first >>= next) ≡ Err fault → (first ≡ Err fault) ⊎ IsPassed first next fault
refused (Ok found) next fault e = inr (record { found = found; is = refl; after = e })
refused (Err other) next fault e = let same : other ≡ fault = cc in inl (ap (λ (f : TriggerFault). Err f) same)

-- ---- the first of the items that are kept

module _ {B : Type 0} (read : ListItem → Result B TriggerFault) (keep : ListItem → Bool) where
  pub record IsFirstFault (start : ℕ) (items : List (List ℕ)) (fault : TriggerFault) : Type 0 where
    pub before : List (List ℕ)
    pub item : List ℕ
    pub after : List (List ℕ)
    pub cut : items ≡ before ++ item ∷ after
    pub kept : keep (record { at = start + size 44 before; bytes = item }) ≡ true
    pub fault_there : read (record { at = start + size 44 before; bytes = item }) ≡ Err fault
    pub values : List B
    pub first : each read (filter keep (located start before)) ≡ Ok values

  abbrev those : ℕ → List (List ℕ) → List ListItem
  those start items = filter keep (located start items)

  none_yet : (start : ℕ) (item : List ℕ) (rest : List (List ℕ)) (fault : TriggerFault) → keep (record { at = start; bytes = item }) ≡ true → read (record { at = start; bytes = item }) ≡ Err fault → IsFirstFault start (item ∷ rest) fault
  none_yet start item rest fault e f =
      let here : start ≡ start + size 44 [] = omega arith in
      record {
        before = [];
        item = item;
        after = rest;
        cut = refl;
        kept = ap (λ n. keep (record { at = n; bytes = item })) (sym here) ∙ e;
        fault_there = ap (λ n. read (record { at = n; bytes = item })) (sym here) ∙ f;
        values = [];
        first = refl;
      }

  further : (start : ℕ) (item : List ℕ) (rest : List (List ℕ)) (fault : TriggerFault) (values : List B)
      → (is : IsFirstFault (start + 1 + length item) rest fault) → each read (filter keep (located start (item ∷ is.before))) ≡ Ok values → IsFirstFault start (item ∷ rest) fault
  further start item rest fault values is first =
      let there : start + 1 + length item + size 44 is.before ≡ start + size 44 (item ∷ is.before) = omega (arith, size_first 44 item is.before) in
      record {
        before = item ∷ is.before;
        item = is.item;
        after = is.after;
        cut = ap (λ (items : List (List ℕ)). item ∷ items) is.cut;
        kept = ap (λ n. keep (record { at = n; bytes = is.item })) (sym there) ∙ is.kept;
        fault_there = ap (λ n. read (record { at = n; bytes = is.item })) (sym there) ∙ is.fault_there;
        values = values;
        first = first;
      }

  pub first_fault : (start : ℕ) (items : List (List ℕ)) (fault : TriggerFault) → each read (filter keep (located start items)) ≡ Err fault → IsFirstFault start items fault
  first_fault start [] fault e = absurd (cc)
  first_fault start (item ∷ rest) fault e = by (keep (record { at = start; bytes = item })) refl e (first_fault (start + 1 + length item) rest fault)
    where
      kept_first : keep (record { at = start; bytes = item }) ≡ true → (read (record { at = start; bytes = item }) ≡ Err fault) ⊎ IsPassed (read (record { at = start; bytes = item })) (λ y. each read (those (start + 1 + length item) rest) >>= λ ys. Ok (y ∷ ys)) fault
          → (each read (those (start + 1 + length item) rest) ≡ Err fault → IsFirstFault (start + 1 + length item) rest fault) → IsFirstFault start (item ∷ rest) fault
      kept_first f (inl g) next = none_yet start item rest fault f g
      kept_first f (inr passed) next = of (refused (each read (those (start + 1 + length item) rest)) (λ ys. Ok (passed.found ∷ ys)) fault passed.after)
        where
          of : (each read (those (start + 1 + length item) rest) ≡ Err fault) ⊎ IsPassed (each read (those (start + 1 + length item) rest)) (λ ys. Ok (passed.found ∷ ys)) fault → IsFirstFault start (item ∷ rest) fault
          of (inl g) =
              let is = next g in
              further start item rest fault (passed.found ∷ is.values) is
              (ap (λ b. each read (cond b (record { at = start; bytes = item } ∷ those (start + 1 + length item) is.before) (those (start + 1 + length item) is.before))) f
              ∙ ap (λ (r : Result B TriggerFault). r >>= λ y. each read (those (start + 1 + length item) is.before) >>= λ ys. Ok (y ∷ ys)) passed.is
              ∙ ap (λ (r : Result (List B) TriggerFault). r >>= λ ys. Ok (passed.found ∷ ys)) is.first)
          of (inr never) = let wrong = never.after in absurd (cc)

      by : (b : Bool) → keep (record { at = start; bytes = item }) ≡ b
          → each read (cond b (record { at = start; bytes = item } ∷ those (start + 1 + length item) rest) (those (start + 1 + length item) rest)) ≡ Err fault
          → (each read (those (start + 1 + length item) rest) ≡ Err fault → IsFirstFault (start + 1 + length item) rest fault) → IsFirstFault start (item ∷ rest) fault
      by true f g next = kept_first f (refused (read (record { at = start; bytes = item })) (λ y. each read (those (start + 1 + length item) rest) >>= λ ys. Ok (y ∷ ys)) fault g) next
      by false f g next =
          let is = next g in
          further start item rest fault is.values is
          (ap (λ b. each read (cond b (record { at = start; bytes = item } ∷ those (start + 1 + length item) is.before) (those (start + 1 + length item) is.before))) f ∙ is.first)

  -- and there it is told
  pub fault_first : (start : ℕ) (before : List (List ℕ)) (item : List ℕ) (after : List (List ℕ)) (fault : TriggerFault) (values : List B)
      → keep (record { at = start + size 44 before; bytes = item }) ≡ true → read (record { at = start + size 44 before; bytes = item }) ≡ Err fault
      → each read (filter keep (located start before)) ≡ Ok values → each read (filter keep (located start (before ++ item ∷ after))) ≡ Err fault
  fault_first start [] item after fault values e f first =
      let here : start + size 44 [] ≡ start = omega arith in
      let kept : keep (record { at = start; bytes = item }) ≡ true = ap (λ n. keep (record { at = n; bytes = item })) (sym here) ∙ e in
      let wrong : read (record { at = start; bytes = item }) ≡ Err fault = ap (λ n. read (record { at = n; bytes = item })) (sym here) ∙ f in
      ap (λ b. each read (cond b (record { at = start; bytes = item } ∷ those (start + 1 + length item) after) (those (start + 1 + length item) after))) kept
      ∙ ap (λ (r : Result B TriggerFault). r >>= λ y. each read (those (start + 1 + length item) after) >>= λ ys. Ok (y ∷ ys)) wrong
  fault_first start (other ∷ before) item after fault values e f first =
      by (keep (record { at = start; bytes = other })) refl first
      (λ ys g. fault_first (start + 1 + length other) before item after fault ys (ap (λ n. keep (record { at = n; bytes = item })) there ∙ e) (ap (λ n. read (record { at = n; bytes = item })) there ∙ f) g)
    where
      there : start + 1 + length other + size 44 before ≡ start + size 44 (other ∷ before)
      there = omega (arith, size_first 44 other before)

      by : (b : Bool) → keep (record { at = start; bytes = other }) ≡ b
          → each read (cond b (record { at = start; bytes = other } ∷ those (start + 1 + length other) before) (those (start + 1 + length other) before)) ≡ Ok values
          → ((ys : List B) → each read (those (start + 1 + length other) before) ≡ Ok ys → each read (those (start + 1 + length other) (before ++ item ∷ after)) ≡ Err fault)
          → each read (filter keep (located start ((other ∷ before) ++ item ∷ after))) ≡ Err fault
      by true g h next =
          let head = bound (read (record { at = start; bytes = other })) (λ y. each read (those (start + 1 + length other) before) >>= λ ys. Ok (y ∷ ys)) values h in
          let tail = bound (each read (those (start + 1 + length other) before)) (λ ys. Ok (head.found ∷ ys)) values head.after in
          ap (λ b. each read (cond b (record { at = start; bytes = other } ∷ those (start + 1 + length other) (before ++ item ∷ after)) (those (start + 1 + length other) (before ++ item ∷ after)))) g
          ∙ ap (λ (r : Result B TriggerFault). r >>= λ y. each read (those (start + 1 + length other) (before ++ item ∷ after)) >>= λ ys. Ok (y ∷ ys)) head.is
          ∙ ap (λ (r : Result (List B) TriggerFault). r >>= λ ys. Ok (head.found ∷ ys)) (next tail.found tail.is)
      by false g h next =
          ap (λ b. each read (cond b (record { at = start; bytes = other } ∷ those (start + 1 + length other) (before ++ item ∷ after)) (those (start + 1 + length other) (before ++ item ∷ after)))) g
          ∙ next values h

-- ---- keys

pub filter_all : {X : Type 0} (xs : List X) → filter (λ _. true) xs ≡ xs
filter_all [] = refl
filter_all (x ∷ xs) = ap (λ (ys : List _). x ∷ ys) (filter_all xs)

module _ (definition : Definition) where
  abbrev Wrong : ListItem → TriggerFault → Type 0
  Wrong item fault = ((operand_named definition.fields (item_name item.bytes) ≡ None) × (fault ≡ NoSuchField item.at))
      ⊎ ((operand : Operand) × (operand_named definition.fields (item_name item.bytes) ≡ Some operand) × (is_text operand ≡ true) × (item_suffix item.bytes ≢ []) × (fault ≡ WrongOperator item.at Modified))

  pub key_refused : (item : ListItem) (fault : TriggerFault) → key_in definition.fields item ≡ Err fault → CannotBeKey definition item.bytes item.at fault
  key_refused item fault e = record { name = item_name item.bytes; suffix = item_suffix item.bytes; cut = item_split item.bytes; wrong = by (operand_named definition.fields (item_name item.bytes)) refl e }
    where
      of : (operand : Operand) → operand_named definition.fields (item_name item.bytes) ≡ Some operand → (text unmodified : Bool) → is_text operand ≡ text → bytes_eq (item_suffix item.bytes) [] ≡ unmodified
          → (if text && not unmodified then Err (WrongOperator item.at Modified) else Ok (key_as item operand)) ≡ Err fault → Wrong item fault
      of operand f true false g h k =
          let same : WrongOperator item.at Modified ≡ fault = cc in
          inr (operand, f, g, λ none. (let equal : bytes_eq (item_suffix item.bytes) [] ≡ true = (bytes_eq-Decides (item_suffix item.bytes) []).1 none in let other = h in cc), sym same)
      of operand f true true g h k = absurd (never_ok (key_as item operand) fault k)
      of operand f false unmodified g h k = absurd (never_ok (key_as item operand) fault k)

      by : (found : Option Operand) → operand_named definition.fields (item_name item.bytes) ≡ found → key_meant item found ≡ Err fault → Wrong item fault
      by None f g = let same : NoSuchField item.at ≡ fault = cc in inl (f, sym same)
      by (Some operand) f g = of operand f (is_text operand) (bytes_eq (item_suffix item.bytes) []) refl refl g

  pub refused_key : (item : ListItem) (fault : TriggerFault) → CannotBeKey definition item.bytes item.at fault → key_in definition.fields item ≡ Err fault
  refused_key item fault is = by is.wrong
    where
      parts : (item_name item.bytes ≡ is.name) × (item_suffix item.bytes ≡ is.suffix)
      parts = item_is item.bytes is.name is.suffix is.cut

      some : is.suffix ≢ [] → not (bytes_eq (item_suffix item.bytes) []) ≡ true
      some other =
          not_from_false (bytes_eq (item_suffix item.bytes) []) (false_from_ne_true (bytes_eq (item_suffix item.bytes) []) (λ equal. other (sym parts.1 ∙ (bytes_eq-Decides (item_suffix item.bytes) []).0 equal)))

      by : ((operand_named definition.fields is.name ≡ None) × (fault ≡ NoSuchField item.at))
          ⊎ ((operand : Operand) × (operand_named definition.fields is.name ≡ Some operand) × (is_text operand ≡ true) × (is.suffix ≢ []) × (fault ≡ WrongOperator item.at Modified)) → key_in definition.fields item ≡ Err fault
      by (inl none) = ap (λ (name : List ℕ). key_meant item (operand_named definition.fields name)) parts.0 ∙ ap (key_meant item) none.0 ∙ ap (λ (f : TriggerFault). Err f) (sym none.1)
      by (inr text) =
          ap (λ (name : List ℕ). key_meant item (operand_named definition.fields name)) parts.0 ∙ ap (key_meant item) text.1
          ∙ ap (λ (b : Bool). if b then Err (WrongOperator item.at Modified) else Ok (key_as item text.0)) (and_from (is_text text.0) (not (bytes_eq (item_suffix item.bytes) [])) text.2 (some text.3))
          ∙ ap (λ (f : TriggerFault). Err f) (sym text.4)

  -- ---- values

  pub value_refused : (at : ℕ) (name : List ℕ) (fault : TriggerFault) → value_meant at (operand_named definition.fields name) ≡ Err fault → CannotBeValue definition name at fault
  value_refused at name fault e = by (operand_named definition.fields name) refl e
    where
      text_or_number : (named : Operand) → operand_named definition.fields name ≡ Some named → (b : Bool) → is_text named ≡ b → (if b then Err (WrongOperator at Summed) else Ok named) ≡ Err fault → CannotBeValue definition name at fault
      text_or_number named f true g h = let same : WrongOperator at Summed ≡ fault = cc in inr (named, f, g, sym same)
      text_or_number named f false g h = absurd (cc)

      by : (found : Option Operand) → operand_named definition.fields name ≡ found → value_meant at found ≡ Err fault → CannotBeValue definition name at fault
      by None f g = let same : NoSuchField at ≡ fault = cc in inl (f, sym same)
      by (Some named) f g = text_or_number named f (is_text named) refl g

  pub refused_value : (at : ℕ) (name : List ℕ) (fault : TriggerFault) → CannotBeValue definition name at fault → value_meant at (operand_named definition.fields name) ≡ Err fault
  refused_value at name fault (inl is) = ap (value_meant at) is.0 ∙ ap (λ (f : TriggerFault). Err f) (sym is.1)
  refused_value at name fault (inr is) = ap (value_meant at) is.1 ∙ ap (as_number at is.0) is.2 ∙ ap (λ (f : TriggerFault). Err f) (sym is.3)

  pub values_can : (names : List (List ℕ)) (sources : List Operand) → AllZip (IsValueOf definition) (summed_names names) sources → AllByRecursion (CanBeValue definition) names
  values_can [] sources zip = tt
  values_can (name ∷ names) sources zip = by (bytes_eq name (codes "hitcount")) refl sources zip (values_can names)
    where
      by : (b : Bool) → bytes_eq name (codes "hitcount") ≡ b → (sources : List Operand) → AllZip (IsValueOf definition) (cond (not b) (name ∷ summed_names names) (summed_names names)) sources
          → ((rest : List Operand) → AllZip (IsValueOf definition) (summed_names names) rest → AllByRecursion (CanBeValue definition) names) → AllByRecursion (CanBeValue definition) (name ∷ names)
      by true e sources zip next = (inl ((bytes_eq-Decides name (codes "hitcount")).0 e), next sources zip)
      by false e [] zip next = absurd zip
      by false e (source ∷ sources) zip next = (inr (source, zip.0), next sources zip.1)

  pub can_values : (names : List (List ℕ)) → AllByRecursion (CanBeValue definition) names → (sources : List Operand) × AllZip (IsValueOf definition) (summed_names names) sources
  can_values [] all = ([], tt)
  can_values (name ∷ names) all = by (bytes_eq name (codes "hitcount")) refl all.0 (can_values names all.1)
    where
      by : (b : Bool) → bytes_eq name (codes "hitcount") ≡ b → CanBeValue definition name → (sources : List Operand) × AllZip (IsValueOf definition) (summed_names names) sources
          → (sources : List Operand) × AllZip (IsValueOf definition) (cond (not b) (name ∷ summed_names names) (summed_names names)) sources
      by true e can rest = rest
      by false e (inl same) rest = let equal : bytes_eq name (codes "hitcount") ≡ true = (bytes_eq-Decides name (codes "hitcount")).1 same in absurd (cc)
      by false e (inr is) rest = (is.0 ∷ rest.0, (is.1, rest.1))
