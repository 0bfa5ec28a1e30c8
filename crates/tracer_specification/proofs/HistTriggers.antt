-- The hist triggers of an event: no two say the same, and they are in the order in which they were attached.
use Rattle.std.proofs.Common.{◌≡◌, ℕ, zero, suc, ◌<◌, Bool, true, false, not, if◌then◌else◌, List, [], ◌∷◌, ◌++◌, length, get_or, All, bytes_eq, Option, None, Some, Result, Ok, Err, refl, sym, ap, ◌∙◌, subst, arith, true≢false}
use Rattle.std.specs.Bool.{beq}
use Rattle.std.specs.Cmp.Lexicographic.{pointwise}
use Rattle.std.specs.List.{AllPairs}
use Rattle.std.proofs.lemmas.List.Elements.{All-nil, All-append, All-filter}
use Rattle.std.proofs.lemmas.List.Folds.{list_any_at}
use Rattle.std.proofs.lemmas.List.Kept.{AllPairs-cons, AllPairs-filter}
use Rattle.std.proofs.lemmas.Slice.Eq.{bytes_eq-Decides}
use Rattle.trace_format.specs.Definitions.{Definition}
use Rattle.trace_trigger.specs.HistSpecs.{SpecSeen, written_of}
use Rattle.trace_trigger.specs.SameSpecs.{IsSame, is_same as is_same_spec, same_sort_key, same_text, filter_text}
use Rattle.trace_trigger.specs.declared.spec.SortKey.{SortKey}
use Rattle.trace_trigger.specs.TriggerTexts.{said_of}
use Rattle.trace_trigger.specs.declared.fault.TriggerFault.{TriggerFault}
use Rattle.trace_trigger.specs.declared.trigger.TriggerText.{TriggerText}
use Rattle.trace_trigger.specs.declared.trigger.TriggerText.TheVariants.{Nothing, AttachSnapshot, RemoveSnapshot, Hist, RemoveHist}
use Rattle.trace_command.specs.Requests.{Request}
use Rattle.tracer_specification.specs.HistTriggers.{HistTrigger, Written, has_same, hist_triggers, hists_of, kept_by, left_by, new_hist, says_same, written_for, written_to}
use Rattle.tracer_specification.specs.Laws.{HistTriggersDiffer, HistTriggersAreInOrder}
use Rattle.tracer_specification.specs.Settings.{makes}
use Rattle.tracer_specification.proofs.EventHists.{hists_of-after, hists_of-made, own_after, own_said}

-- ---- lists

pairs-none : {X : Type 0} (R : X → X → Type 0) → AllPairs R []
pairs-none R i j d lt within = absurd (omega arith)

-- one more, to which each that is there is related
pairs-push : {X : Type 0} (R : X → X → Type 0) (xs : List X) (y : X) → All (λ x. R x y) xs → AllPairs R xs → AllPairs R (xs ++ y ∷ [])
pairs-push R [] y all pairs = AllPairs-cons R y [] (All-nil (R y)) (pairs-none R)
pairs-push R (x ∷ xs) y all pairs =
    AllPairs-cons R x (xs ++ y ∷ []) (All-append (R x) xs (y ∷ []) (λ k d within. pairs 0 (suc k) d (omega arith) (omega (arith, within))) last)
    (pairs-push R xs y (λ k d within. all (suc k) d (omega (arith, within))) (λ i j d lt within. pairs (suc i) (suc j) d (omega (arith, lt)) (omega (arith, within))))
  where
    last : All (R x) (y ∷ [])
    last zero d within = all 0 x (omega arith)
    last (suc k) d within = absurd (omega (arith, within))

-- ---- the same

names-same : (names : List (List ℕ)) → pointwise bytes_eq names names ≡ true
names-same [] = refl
names-same (name ∷ names) = rw ((bytes_eq-Decides name name).1 refl) (names-same names)

bool-same : (b : Bool) → beq b b ≡ true
bool-same true = refl
bool-same false = refl

sort-same : (keys : List SortKey) → pointwise same_sort_key keys keys ≡ true
sort-same [] = refl
sort-same (key ∷ keys) = rw ((bytes_eq-Decides key.name key.name).1 refl, bool-same key.descending) (sort-same keys)

text-same : (text : Option (List ℕ)) → same_text text text ≡ true
text-same None = refl
text-same (Some text) = (bytes_eq-Decides text text).1 refl

-- of two triggers that are the same the second is also the same as the first
pub same-back : (left right : SpecSeen) → IsSame left right → is_same_spec right left ≡ true
unfolding is_same_spec
same-back left right same =
    let name : same_text right.name left.name ≡ true = ap (same_text right.name) same.name ∙ text-same right.name in
    let keys : pointwise bytes_eq (written_of right.keys) (written_of left.keys) ≡ true =
    ap (pointwise bytes_eq (written_of right.keys)) same.keys ∙ names-same (written_of right.keys) in
    let values : pointwise bytes_eq right.values left.values ≡ true = ap (pointwise bytes_eq right.values) same.values ∙ names-same right.values in
    let sort : pointwise same_sort_key right.sort left.sort ≡ true = ap (pointwise same_sort_key right.sort) same.sort ∙ sort-same right.sort in
    let filter : same_text (filter_text right.filter) (filter_text left.filter) ≡ true =
    ap (same_text (filter_text right.filter)) same.filter ∙ text-same (filter_text right.filter) in
    rw (name, keys, values, sort, filter) refl

pub same-itself : (spec : SpecSeen) → is_same_spec spec spec ≡ true
same-itself spec = same-back spec spec (record { name = refl; keys = refl; values = refl; sort = refl; filter = refl })

pub same-there : (left right : SpecSeen) → IsSame left right → is_same_spec left right ≡ true
same-there left right same = same-back right left (record {
  name = sym same.name;
  keys = sym same.keys;
  values = sym same.values;
  sort = sym same.sort;
  filter = sym same.filter;
})

-- ---- no two say the same

abbrev Differ : HistTrigger → HistTrigger → Type 0
Differ earlier later = IsSame earlier.spec later.spec → ⊥

differ-new : (spec : SpecSeen) (new : HistTrigger) (hists : List HistTrigger) → new.spec ≡ spec → has_same spec hists ≡ false → All (λ t. Differ t new) hists
differ-new spec new hists is none k d within same =
    true≢false (sym (list_any_at (says_same spec) hists k d within (same-back _ spec (subst (IsSame (get_or hists k d).spec) is same))) ∙ none)

differ-said : (number : ℕ) (event : Definition) (all hists : List HistTrigger) (said : Result TriggerText TriggerFault) → AllPairs Differ hists
    → AllPairs Differ (own_said number event all hists said)
differ-said number event all hists (Ok (Hist spec)) pairs = by (has_same spec hists) refl
  where
    by : (same : Bool) → has_same spec hists ≡ same
        → AllPairs Differ (if same then hists else hists ++ new_hist number event all spec ∷ [])
    by true is = pairs
    by false is = pairs-push Differ hists (new_hist number event all spec) (differ-new spec (new_hist number event all spec) hists refl is) pairs
differ-said number event all hists (Ok (RemoveHist spec)) pairs = AllPairs-filter Differ (λ t. not (says_same spec t)) hists pairs
differ-said number event all hists (Ok (AttachSnapshot spec)) pairs = pairs
differ-said number event all hists (Ok RemoveSnapshot) pairs = pairs
differ-said number event all hists (Ok Nothing) pairs = pairs
differ-said number event all hists (Err fault) pairs = pairs

differ-kept : (append : Bool) (hists : List HistTrigger) → AllPairs Differ hists → AllPairs Differ (kept_by append hists)
differ-kept true hists pairs = pairs
differ-kept false hists pairs = pairs-none Differ

differ-after : (number : ℕ) (all : List HistTrigger) (written : Option Written) (hists : List HistTrigger) → AllPairs Differ hists
    → AllPairs Differ (own_after number all written hists)
differ-after number all None hists pairs = pairs
differ-after number all (Some w) hists pairs =
    differ-said number w.event (left_by w.event w.append all) (kept_by w.append hists) (said_of w.event w.text) (differ-kept w.append hists pairs)

pub hist_triggers_differ : HistTriggersDiffer
hist_triggers_differ instance event [] = pairs-none Differ
hist_triggers_differ instance event (request ∷ past) = by (makes instance request) refl (hist_triggers_differ instance event past)
  where
    by : (new : Bool) → makes instance request ≡ new → AllPairs Differ (hists_of instance event past) → AllPairs Differ (hists_of instance event (request ∷ past))
    by true made before = subst (AllPairs Differ) (sym (hists_of-made instance event past request made)) (pairs-none Differ)
    by false alive before =
        subst (AllPairs Differ) (sym (hists_of-after instance event past request alive))
        (differ-after (length past) (hist_triggers instance past) (written_for event (written_to instance past request)) (hists_of instance event past) before)

-- ---- the order in which they were attached

abbrev Before : HistTrigger → HistTrigger → Type 0
Before earlier later = earlier.number < later.number

-- triggers in order, all of them attached before a request of this number
record AreInOrder (number : ℕ) (hists : List HistTrigger) : Type 0 where
  pairs : AllPairs Before hists
  all : All (λ t. t.number < number) hists

none-in_order : (number : ℕ) → AreInOrder number []
none-in_order number = record { pairs = pairs-none Before; all = All-nil (λ t. t.number < number) }

later-in_order : (number : ℕ) (hists : List HistTrigger) → AreInOrder number hists → AreInOrder (suc number) hists
later-in_order number hists are = record { pairs = are.pairs; all = λ k d within. let less = are.all k d within in omega (arith, less) }

said-in_order : (number : ℕ) (event : Definition) (all hists : List HistTrigger) (said : Result TriggerText TriggerFault) → AreInOrder number hists
    → AreInOrder (suc number) (own_said number event all hists said)
said-in_order number event all hists (Ok (Hist spec)) are = by (has_same spec hists)
  where
    new : HistTrigger
    new = new_hist number event all spec

    last : All (λ t. t.number < suc number) (new ∷ [])
    last zero d within = omega arith
    last (suc k) d within = absurd (omega (arith, within))

    by : (same : Bool) → AreInOrder (suc number) (if same then hists else hists ++ new ∷ [])
    by true = later-in_order number hists are
    by false = record {
      pairs = pairs-push Before hists new are.all are.pairs;
      all = All-append (λ t. t.number < suc number) hists (new ∷ []) (later-in_order number hists are).all last;
    }
said-in_order number event all hists (Ok (RemoveHist spec)) are = record {
  pairs = AllPairs-filter Before (λ t. not (says_same spec t)) hists are.pairs;
  all = All-filter (λ t. not (says_same spec t)) (λ t. t.number < suc number) hists (later-in_order number hists are).all;
}
said-in_order number event all hists (Ok (AttachSnapshot spec)) are = later-in_order number hists are
said-in_order number event all hists (Ok RemoveSnapshot) are = later-in_order number hists are
said-in_order number event all hists (Ok Nothing) are = later-in_order number hists are
said-in_order number event all hists (Err fault) are = later-in_order number hists are

kept-in_order : (append : Bool) (number : ℕ) (hists : List HistTrigger) → AreInOrder number hists → AreInOrder number (kept_by append hists)
kept-in_order true number hists are = are
kept-in_order false number hists are = none-in_order number

after-in_order : (number : ℕ) (all : List HistTrigger) (written : Option Written) (hists : List HistTrigger) → AreInOrder number hists
    → AreInOrder (suc number) (own_after number all written hists)
after-in_order number all None hists are = later-in_order number hists are
after-in_order number all (Some w) hists are =
    said-in_order number w.event (left_by w.event w.append all) (kept_by w.append hists) (said_of w.event w.text) (kept-in_order w.append number hists are)

are-in_order : (instance : Option (List ℕ)) (event : Definition) (past : List Request) → AreInOrder (length past) (hists_of instance event past)
are-in_order instance event [] = none-in_order 0
are-in_order instance event (request ∷ past) = by (makes instance request) refl (are-in_order instance event past)
  where
    by : (new : Bool) → makes instance request ≡ new → AreInOrder (length past) (hists_of instance event past)
        → AreInOrder (suc (length past)) (hists_of instance event (request ∷ past))
    by true made before = subst (AreInOrder (suc (length past))) (sym (hists_of-made instance event past request made)) (none-in_order (suc (length past)))
    by false alive before =
        subst (AreInOrder (suc (length past))) (sym (hists_of-after instance event past request alive))
        (after-in_order (length past) (hist_triggers instance past) (written_for event (written_to instance past request)) (hists_of instance event past) before)

pub hist_triggers_are_in_order : HistTriggersAreInOrder
hist_triggers_are_in_order instance event past = let are = are-in_order instance event past in (are.pairs, are.all)
