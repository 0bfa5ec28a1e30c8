-- Where a session is between two items, and how it goes on and ends.
use Rattle.std.proofs.Common.{◌≡◌, ◌≢◌, ℕ, Bool, true, false, cond, ◌||◌, List, [], ◌∷◌, ◌++◌, length, take, map, flat_map, All, Option, Some, None, IfSome, refl, ap, sym, subst, ◌∙◌, ◌-◌, ◌≤◌, drop, IsSome, append_assoc, arith}
use Rattle.std.proofs.lemmas.List.{append-nil, map-append, take_at}
use Rattle.std.proofs.lemmas.List.Elements.{All-head, All-drop}
use Rattle.std.proofs.lemmas.List.{drop_at}
use Rattle.std.proofs.lemmas.List.Folds.{list_any-append}
use Rattle.std.proofs.lemmas.Grind.{flat_map-append}
use Rattle.std.specs.List.{concat, list_any}
use Rattle.std.specs.Io.KnownBytes.{Appends}
use Rattle.trace_command.specs.declared.command.Config.{Config}
use Rattle.script_reader.specs.Items.{Item, Single, Threads, Faulty, items_from, items_of}
use Rattle.script_reader.specs.FewThreads.{HasFewThreads}
use Rattle.script_reader.specs.ScriptLines.{lines_of, lines_left}
use Rattle.script_reader.proofs.PartThreads.{parts_have_few_threads}
use Rattle.trace_script.specs.declared.outcome.Outcome.{Outcome}
use Rattle.trace_session.specs.Devices.{AppendsFront, Passes}
use Rattle.trace_session.specs.Heard.{Heard, Hears, heard_lines, numbers_told, IsWrittenFirst, HoldsTexts, HearsAll}
use Rattle.trace_session.specs.Gated.{LetsPass, Stops, LetsGivenPass}
use Rattle.trace_session.specs.Fronts.{HasGiven, IsStopped, AppendsBegun, AppendsBegunFront, AppendsStopped, AppendsSession}
use Rattle.trace_session.specs.private.StepFronts.{PassesItem, AppendsItem, PassesSession, PassesBegun, PassesStopped}
use Rattle.trace_session.specs.Parts.{Given, MayGive, ends, EndsOr, MayGiveAll, session_with, IsBegun}
use Rattle.trace_session.specs.Sessions.{Progress, Session, beginning, is_fault, is_refusal, status_of, IsWhole}
use Rattle.trace_session.specs.declared.status.Status.{Status}
use Rattle.trace_session.specs.declared.status.Status.TheVariants as statuses
use Rattle.trace_workers.specs.declared.gate.Point.{Point}
use Rattle.trace_session.proofs.HearingAll.{holds, hears_none, hears_more, hears_front, first_given, all_given}
use Rattle.trace_session.proofs.DeviceLemmas.{Appends_nothing, Passes_append, Passes_front, Passes_flush, Passes_cut}

-- ---- what items give

-- the texts of what was given
abbrev pub texts_in : List Given → List (List ℕ)
texts_in given = map (λ (one : Given). one.text) given

-- what became of the lines and commands of what was given
abbrev pub outcomes_given : List Given → List (Option Outcome)
outcomes_given given = flat_map (λ (one : Given). one.outcomes) given

concat-append : (xs ys : List (List ℕ)) → concat (xs ++ ys) ≡ concat xs ++ concat ys
concat-append [] ys = refl
concat-append (x ∷ xs) ys = ap (λ (rest : List ℕ). x ++ rest) (concat-append xs ys) ∙ sym (append_assoc x (concat xs) (concat ys))

-- the texts so far, and one more
texts_push : (given : List Given) (one : Given) → concat (texts_in given) ++ one.text ≡ concat (texts_in (given ++ one ∷ []))
texts_push given one =
    ap (λ (text : List ℕ). concat (texts_in given) ++ text) (sym (append-nil one.text))
    ∙ sym (concat-append (texts_in given) (one.text ∷ []))
    ∙ ap concat (sym (map-append (λ (x : Given). x.text) given (one ∷ [])))

outcomes_push : (given : List Given) (one : Given) → outcomes_given (given ++ one ∷ []) ≡ outcomes_given given ++ one.outcomes
outcomes_push given one =
    flat_map-append (λ (x : Given). x.outcomes) given (one ∷ [])
    ∙ ap (λ (os : List (Option Outcome)). outcomes_given given ++ os) (append-nil one.outcomes)

-- one more item that doesn't end the session
pub given_push : (g : Config) (items : List Item) (given : List Given) (before now after : Progress) (item : Item) (one : Given)
    → HasGiven g before items given now → MayGive g item now after one → ends one ≡ false → HasGiven g before (items ++ item ∷ []) (given ++ one ∷ []) after
given_push g [] [] before now after item one has may goes_on = (after, subst (λ (p : Progress). MayGive g item p after one) has may, goes_on, refl)
given_push g [] (other ∷ given) before now after item one has may goes_on = absurd has
given_push g (first ∷ items) [] before now after item one has may goes_on = absurd has
given_push g (first ∷ items) (other ∷ given) before now after item one (next, may_first, on, has) may goes_on =
    (next, may_first, on, given_push g items given next now after item one has may goes_on)

-- and then all that the items after them may give
pub given_all : (g : Config) (items rest : List Item) (given more : List Given) (before now : Progress)
    → HasGiven g before items given now → MayGiveAll g now rest more → MayGiveAll g before (items ++ rest) (given ++ more)
given_all g [] rest [] more before now has all = subst (λ (p : Progress). MayGiveAll g p rest more) has all
given_all g [] rest (other ∷ given) more before now has all = absurd has
given_all g (first ∷ items) rest [] more before now has all = absurd has
given_all g (first ∷ items) rest (other ∷ given) more before now (next, may, on, has) all =
    let P : Bool → Type 0 = λ ended. EndsOr ended (given ++ more) (MayGiveAll g next (items ++ rest) (given ++ more)) in
    (next, may, subst P (sym on) (given_all g items rest given more next now has all))

-- what was given so far is a front
pub given_front : (g : Config) (items : List Item) (given : List Given) (before now : Progress) → HasGiven g before items given now → MayGiveAll g before items given
given_front g items given before now has =
    subst (λ (xs : List Given). MayGiveAll g before items xs) (append-nil given)
    (subst (λ (xs : List Item). MayGiveAll g before xs (given ++ [])) (append-nil items) (given_all g items [] given [] before now has tt))

-- one item alone, whether it ends the session or not
pub one_alone : (g : Config) (item : Item) (now after : Progress) (one : Given) → MayGive g item now after one → MayGiveAll g now (item ∷ []) (one ∷ [])
one_alone g item now after one may = (after, may, go (ends one))
  where
    go : (ended : Bool) → EndsOr ended [] (MayGiveAll g after [] [])
    go true = refl
    go false = tt

-- an item that ends the session
pub one_last : (g : Config) (item : Item) (rest : List Item) (now after : Progress) (one : Given) → MayGive g item now after one → ends one ≡ true
    → MayGiveAll g now (item ∷ rest) (one ∷ [])
one_last g item rest now after one may ended = (after, may, subst (λ (b : Bool). EndsOr b [] (MayGiveAll g after rest [])) (sym ended) refl)

-- ---- what the gate let pass

module _ (may : ℕ → ℕ → Point → Bool → Type 0) where
  -- items after those that gave something are not asked for
  pub passed_front : (g : Config) (items rest : List Item) (given : List Given) (before now : Progress) → HasGiven g before items given now → LetsGivenPass may items given
      → LetsGivenPass may (items ++ rest) given
  passed_front g [] [] [] before now has passed = tt
  passed_front g [] (item ∷ rest) [] before now has passed = tt
  passed_front g [] rest (one ∷ given) before now has passed = absurd has
  passed_front g (item ∷ items) rest [] before now has passed = absurd has
  passed_front g (item ∷ items) rest (one ∷ given) before now (next, can, on, has) passed =
      (passed.0, passed_front g items rest given next now has passed.1)

  -- one item more
  pub passed_more : (g : Config) (items rest : List Item) (given : List Given) (before now : Progress) (item : Item) (one : Given)
      → HasGiven g before items given now → LetsGivenPass may items given → LetsPass may item → LetsGivenPass may (items ++ item ∷ rest) (given ++ one ∷ [])
  passed_more g [] [] [] before now item one has passed lets = (lets, tt)
  passed_more g [] (next ∷ rest) [] before now item one has passed lets = (lets, tt)
  passed_more g [] rest (other ∷ given) before now item one has passed lets = absurd has
  passed_more g (first ∷ items) rest [] before now item one has passed lets = absurd has
  passed_more g (first ∷ items) rest (other ∷ given) before now item one (next, can, on, has) passed lets =
      (passed.0, passed_more g items rest given next now item one has passed.1 lets)

-- ---- statuses

status_cases : (F R f r : Bool) (status item new : Status) → F ≡ false → status ≡ cond F statuses.Fault (cond R statuses.Refused statuses.Done)
    → item ≡ cond f statuses.Fault (cond r statuses.Refused statuses.Done) → item ≢ statuses.Fault → (item ≡ statuses.Refused → new ≡ statuses.Refused)
    → (item ≢ statuses.Refused → new ≡ status) → new ≡ cond (F || f) statuses.Fault (cond (R || r) statuses.Refused statuses.Done)
status_cases true R f r status item new e told item_is no_fault refused other = absurd (cc)
status_cases false R true r status item new e told item_is no_fault refused other = absurd (no_fault item_is)
status_cases false true false true status item new e told item_is no_fault refused other = refused item_is
status_cases false false false true status item new e told item_is no_fault refused other = refused item_is
status_cases false true false false status item new e told item_is no_fault refused other = other (λ h. absurd (cc)) ∙ told
status_cases false false false false status item new e told item_is no_fault refused other = other (λ h. absurd (cc)) ∙ told

status_append : (xs ys : List (Option Outcome))
    → status_of (xs ++ ys) ≡ cond (list_any is_fault xs || list_any is_fault ys) statuses.Fault (cond (list_any is_refusal xs || list_any is_refusal ys) statuses.Refused statuses.Done)
status_append xs ys =
    ap (λ (t : Bool). cond t statuses.Fault (cond (list_any is_refusal (xs ++ ys)) statuses.Refused statuses.Done)) (list_any-append is_fault xs ys)
    ∙ ap (λ (t : Bool). cond (list_any is_fault xs || list_any is_fault ys) statuses.Fault (cond t statuses.Refused statuses.Done)) (list_any-append is_refusal xs ys)

-- an item whose own status is no fault doesn't end the session
no_fault_is : (f r : Bool) (item : Status) → item ≡ cond f statuses.Fault (cond r statuses.Refused statuses.Done) → item ≢ statuses.Fault → f ≡ false
no_fault_is true r item e h = absurd (h e)
no_fault_is false r item e h = refl

fault_is : (f r : Bool) (item : Status) → item ≡ cond f statuses.Fault (cond r statuses.Refused statuses.Done) → item ≡ statuses.Fault → f ≡ true
fault_is true r item e h = refl
fault_is false true item e h = absurd (cc)
fault_is false false item e h = absurd (cc)

-- the status of outcomes is that of a whole session
pub IsWhole-status_of : (outcomes : List (Option Outcome)) → IsWhole (status_of outcomes)
IsWhole-status_of outcomes = whole_cases (list_any is_fault outcomes) (list_any is_refusal outcomes)
  where
    whole_cases : (f r : Bool) → IsWhole (cond f statuses.Fault (cond r statuses.Refused statuses.Done))
    whole_cases true r = tt
    whole_cases false true = tt
    whole_cases false false = tt

-- ---- a session that was stopped

-- where the item after what was done is a part
stopped_at : (g : Config) (may : ℕ → ℕ → Point → Bool → Type 0) (wants : Bool) (script : List ℕ) (done rest : List Item) (given : List Given) (after : Progress) (item : Item)
    (before : Option (List ℕ)) (first hears : Option (List Heard)) → items_of script ≡ done ++ item ∷ rest
    → HasGiven g beginning done given after → LetsGivenPass may done given → HearsAll wants script before done given first hears → Stops may item
    → (is : IsStopped g may script (texts_in given)) × HearsAll wants script before is.done is.given first hears
stopped_at g may wants script done rest given after (Single number line) before first hears items gives passed heard is = absurd is
stopped_at g may wants script done rest given after (Threads threads) before first hears items gives passed heard is = (
  record { done = done; part = threads; rest = rest; items = items; given = given; after = after; gives = gives; told = refl; passed = passed; stopped = is },
  heard,
)
stopped_at g may wants script done rest given after (Faulty at) before first hears items gives passed heard is = absurd is

-- what was done is what the first items may give
stopped_begun : (g : Config) (may : ℕ → ℕ → Point → Bool → Type 0) (script : List ℕ) (texts : List (List ℕ)) → IsStopped g may script texts
    → (is : IsBegun g script texts) × LetsGivenPass may (items_of script) is.1
stopped_begun g may script texts s =
    let taken : take (length s.done) (items_of script) ≡ s.done =
    ap (take (length s.done)) s.items ∙ take_at s.done (Threads s.part ∷ s.rest) (length s.done) refl in (
      (length s.done, s.given, subst (λ (xs : List Item). MayGiveAll g beginning xs s.given) (sym taken) (given_front g s.done s.given beginning s.after s.gives), s.told),
      subst (λ (xs : List Item). LetsGivenPass may xs s.given) (sym s.items)
          (passed_front may g s.done (Threads s.part ∷ s.rest) s.given beginning s.after s.gives s.passed),
    )

-- ---- where a session is

-- these items gave this, none of them a fault, and it was written but for what waits
pub record Stands (g : Config) (may : ℕ → ℕ → Point → Bool → Type 0) (wants : Bool) (script : List ℕ) (before now : Option (List ℕ)) (waiting : List ℕ) (first hears : Option (List Heard)) (progress : Progress) (left : Option (List ℕ)) (number : ℕ) (status : Status) : Type 0 where
  pub done : List Item
  pub given : List Given
  pub items : items_of script ≡ done ++ items_from number 0 (lines_left left)
  pub gives : HasGiven g beginning done given progress
  pub faultless : list_any is_fault (outcomes_given given) ≡ false
  pub told : status ≡ status_of (outcomes_given given)
  pub written : Passes before [] now waiting (concat (texts_in given))
  pub passed : LetsGivenPass may done given
  pub some : 1 ≤ number
  pub is_left : lines_left left ≡ drop (number - 1) (lines_of script)
  pub heard : HearsAll wants script before done given first hears

pub begins : (g : Config) (may : ℕ → ℕ → Point → Bool → Type 0) (wants : Bool) (script : List ℕ) (before : Option (List ℕ)) (first : Option (List Heard)) (progress : Progress) → progress ≡ beginning
    → Stands g may wants script before before [] first first progress (Some script) 1 statuses.Done
unfolding items_of
begins g may wants script before first progress e =
    record { done = []; given = []; items = refl; gives = e; faultless = refl; told = refl; written = ([], refl, Appends_nothing before); passed = tt; some = omega arith; is_left = refl; heard = hears_none wants script before [] first }

module _ (g : Config) (may : ℕ → ℕ → Point → Bool → Type 0) (wants : Bool) (script : List ℕ) (before now : Option (List ℕ)) (waiting : List ℕ) (first hears : Option (List Heard))
    (progress : Progress) (text : List ℕ) (number : ℕ) (status : Status) (s : Stands g may wants script before now waiting first hears progress (Some text) number status) where
  -- what was heard so far
  begun_heard : (hears_new : Option (List Heard)) → hears_new ≡ hears → HearsAll wants script before (items_of script) s.given first hears_new
  begun_heard hears_new unheard =
      subst (λ (h : Option (List Heard)). HearsAll wants script before (items_of script) s.given first h) (sym unheard)
      (subst (λ (xs : List Item). HearsAll wants script before xs s.given first hears) (sym s.items)
      (hears_front wants script before g s.done (items_from number 0 (lines_of text)) s.given beginning progress first hears s.gives s.heard))

  module _ (item : Item) (after : Option (List ℕ)) (next_number : ℕ) (e : items_from number 0 (lines_of text) ≡ item ∷ items_from next_number 0 (lines_left after)) where
    abbrev rest : List Item
    rest = items_from next_number 0 (lines_left after)

    all_items : items_of script ≡ s.done ++ (item ∷ rest)
    all_items = s.items ∙ ap (λ (xs : List Item). s.done ++ xs) e

    all_with : items_of script ≡ (s.done ++ item ∷ []) ++ rest
    all_with = all_items ∙ sym (append_assoc s.done (item ∷ []) rest)

    -- a part among the items has few threads
    pub few : HasFewThreads item
    few =
        All-head HasFewThreads item rest
        (subst (λ (xs : List Item). All HasFewThreads xs) (drop_at s.done (item ∷ rest) (length s.done) refl)
        (All-drop HasFewThreads (length s.done) (s.done ++ (item ∷ rest)) (subst (λ (xs : List Item). All HasFewThreads xs) all_items (parts_have_few_threads script))))

    all_passed : (one : Given) → LetsPass may item → LetsGivenPass may (items_of script) (s.given ++ one ∷ [])
    all_passed one lets =
        subst (λ (xs : List Item). LetsGivenPass may xs (s.given ++ one ∷ [])) (sym all_items)
        (passed_more may g s.done rest s.given beginning progress item one s.gives s.passed lets)

    module _ (new : Option (List ℕ)) (waits : List ℕ) (next : Progress) (item_is : Status) (more : PassesItem g item progress next item_is now waiting new waits) where
      abbrev one : Given
      one = more.0

      passes : Passes before [] new waits (concat (texts_in (s.given ++ one ∷ [])))
      passes =
          subst (λ (t : List ℕ). Passes before [] new waits t) (texts_push s.given one)
          (Passes_append before now new [] waiting waits (concat (texts_in s.given)) one.text s.written more.3)

      -- what the writer holds as it hears of the item
      holds_here : (IsSome hears → IsWrittenFirst wants item_is → waits ≡ []) → IsSome hears → HoldsTexts wants before new (concat (texts_in s.given) ++ one.text) (status_of one.outcomes)
      holds_here flushed tells =
          holds wants before new waits (concat (texts_in s.given) ++ one.text) (status_of one.outcomes)
          (Passes_append before now new [] waiting waits (concat (texts_in s.given)) one.text s.written more.3)
          (λ first. flushed tells (subst (IsWrittenFirst wants) (sym more.2) first))

      hears_here : (hears_new : Option (List Heard)) (others : List Item) → Hears hears hears_new (heard_lines 1 (lines_of script) new (numbers_told item) one.outcomes)
          → (IsSome hears → IsWrittenFirst wants item_is → waits ≡ []) → HearsAll wants script before (s.done ++ item ∷ others) (s.given ++ one ∷ []) first hears_new
      hears_here hears_new others heard flushed =
          hears_more wants script before g s.done others s.given beginning progress item one new first hears hears_new s.gives s.heard heard (holds_here flushed)

      -- an item that is no fault
      pub keeps : (later : Status) (hears_new : Option (List Heard)) → LetsPass may item
          → Hears hears hears_new (heard_lines 1 (lines_of script) new (numbers_told item) one.outcomes) → (IsSome hears → IsWrittenFirst wants item_is → waits ≡ [])
          → 1 ≤ next_number → lines_left after ≡ drop (next_number - 1) (lines_of script) → item_is ≢ statuses.Fault → (item_is ≡ statuses.Refused → later ≡ statuses.Refused) → (item_is ≢ statuses.Refused → later ≡ status)
          → Stands g may wants script before new waits first hears_new next after next_number later
      keeps later hears_new lets heard flushed positive left no_fault refused other =
          let goes_on : ends one ≡ false = no_fault_is (list_any is_fault one.outcomes) (list_any is_refusal one.outcomes) item_is more.2 no_fault in
          let outcomes : outcomes_given (s.given ++ one ∷ []) ≡ outcomes_given s.given ++ one.outcomes = outcomes_push s.given one in
          record {
            done = s.done ++ item ∷ [];
            given = s.given ++ one ∷ [];
            items = all_with;
            gives = given_push g s.done s.given beginning progress next item one s.gives more.1 goes_on;
            faultless =
                ap (list_any is_fault) outcomes
                ∙ list_any-append is_fault (outcomes_given s.given) one.outcomes
                ∙ (ap (λ (b : Bool). b || list_any is_fault one.outcomes) s.faultless ∙ goes_on);
            told =
                status_cases (list_any is_fault (outcomes_given s.given)) (list_any is_refusal (outcomes_given s.given)) (list_any is_fault one.outcomes)
                (list_any is_refusal one.outcomes) status item_is later s.faultless s.told more.2 no_fault refused other
                ∙ sym (ap status_of outcomes ∙ status_append (outcomes_given s.given) one.outcomes);
            written = passes;
            passed = passed_more may g s.done [] s.given beginning progress item one s.gives s.passed lets;
            some = positive;
            is_left = left;
            heard = hears_here hears_new [] heard flushed;
          }

      -- an item that is a fault
      pub at_fault : (hears_new : Option (List Heard)) → LetsPass may item
          → Hears hears hears_new (heard_lines 1 (lines_of script) new (numbers_told item) one.outcomes) → (IsSome hears → IsWrittenFirst wants item_is → waits ≡ [])
          → item_is ≡ statuses.Fault → PassesSession g may wants script statuses.Fault before new waits first hears_new
      at_fault hears_new lets heard flushed fault =
          let ended : ends one ≡ true = fault_is (list_any is_fault one.outcomes) (list_any is_refusal one.outcomes) item_is more.2 fault in
          let all : MayGiveAll g beginning (items_of script) (s.given ++ one ∷ []) =
          subst (λ (xs : List Item). MayGiveAll g beginning xs (s.given ++ one ∷ [])) (sym all_items)
          (given_all g s.done (item ∷ rest) s.given (one ∷ []) beginning progress s.gives (one_last g item rest progress next one more.1 ended)) in
          let faulty : (list_any is_fault (outcomes_given s.given) || list_any is_fault one.outcomes) ≡ true =
          ap (λ (b : Bool). b || list_any is_fault one.outcomes) s.faultless ∙ ended in
          let status_is : status_of (outcomes_given (s.given ++ one ∷ [])) ≡ statuses.Fault =
          ap status_of (outcomes_push s.given one)
          ∙ status_append (outcomes_given s.given) one.outcomes
          ∙ ap (λ (b : Bool). cond b statuses.Fault (cond (list_any is_refusal (outcomes_given s.given) || list_any is_refusal one.outcomes) statuses.Refused statuses.Done)) faulty in (
            session_with (s.given ++ one ∷ []),
            (s.given ++ one ∷ [], all, refl),
            sym status_is,
            passes,
            all_passed one lets,
            subst (λ (xs : List Item). HearsAll wants script before xs (s.given ++ one ∷ []) first hears_new) (sym all_items) (hears_here hears_new rest heard flushed),
          )

    -- a write failed
    pub at_device : (new : Option (List ℕ)) (next : Progress) (hears_new : Option (List Heard)) → hears_new ≡ hears → LetsPass may item
        → AppendsItem g item progress next now waiting new → AppendsBegunFront g may wants script before new first hears_new
    at_device new next hears_new unheard lets (one, can, cut) =
        let given : List Given = s.given ++ one ∷ [] in
        let taken : take (length (s.done ++ item ∷ [])) (items_of script) ≡ s.done ++ item ∷ [] =
        ap (take (length (s.done ++ item ∷ []))) all_with ∙ take_at (s.done ++ item ∷ []) rest (length (s.done ++ item ∷ [])) refl in
        let all : MayGiveAll g beginning (take (length (s.done ++ item ∷ [])) (items_of script)) given =
        subst (λ (xs : List Item). MayGiveAll g beginning xs given) (sym taken)
        (given_all g s.done (item ∷ []) s.given (one ∷ []) beginning progress s.gives (one_alone g item progress next one can)) in (
          texts_in given,
          (length (s.done ++ item ∷ []), given, all, refl),
          subst (λ (t : List ℕ). AppendsFront before new t) (texts_push s.given one)
              (Passes_front before now new [] waiting (concat (texts_in s.given)) one.text s.written cut),
          all_passed one lets,
          length s.given,
          subst (λ (xs : List Given). HearsAll wants script before (items_of script) xs first hears_new) (sym (first_given s.given (one ∷ []))) (begun_heard hears_new unheard),
        )

    -- a part was stopped
    pub at_part : (new : Option (List ℕ)) (waits : List ℕ) (hears_new : Option (List Heard)) → hears_new ≡ hears → Stops may item → Passes now waiting new waits []
        → PassesStopped g may wants script before new waits first hears_new
    at_part new waits hears_new unheard is more =
        let stopped = stopped_at g may wants script s.done rest s.given progress item before first hears all_items s.gives s.passed s.heard is in (
          texts_in s.given,
          stopped.0,
          subst (λ (t : List ℕ). Passes before [] new waits t) (append-nil (concat (texts_in s.given)))
              (Passes_append before now new [] waiting waits (concat (texts_in s.given)) [] s.written more),
          subst (λ (h : Option (List Heard)). HearsAll wants script before stopped.0.done stopped.0.given first h) (sym unheard) stopped.1,
        )

  -- the first items, as many as were done
  begun : IsBegun g script (texts_in s.given)
  begun =
      let taken : take (length s.done) (items_of script) ≡ s.done =
      ap (take (length s.done)) s.items ∙ take_at s.done (items_from number 0 (lines_of text)) (length s.done) refl in
      (length s.done, s.given, subst (λ (xs : List Item). MayGiveAll g beginning xs s.given) (sym taken) (given_front g s.done s.given beginning progress s.gives), refl)

  begun_passed : LetsGivenPass may (items_of script) s.given
  begun_passed =
      subst (λ (xs : List Item). LetsGivenPass may xs s.given) (sym s.items)
      (passed_front may g s.done (items_from number 0 (lines_of text)) s.given beginning progress s.gives s.passed)

  -- no more of the script was done
  pub at_stop : (new : Option (List ℕ)) (waits : List ℕ) (hears_new : Option (List Heard)) → hears_new ≡ hears → Passes now waiting new waits []
      → PassesBegun g may wants script before new waits first hears_new
  unfolding begun
  at_stop new waits hears_new unheard more = (
    texts_in s.given,
    begun,
    subst (λ (t : List ℕ). Passes before [] new waits t) (append-nil (concat (texts_in s.given)))
        (Passes_append before now new [] waiting waits (concat (texts_in s.given)) [] s.written more),
    begun_passed,
    begun_heard hears_new unheard,
  )

  pub at_stop_here : PassesBegun g may wants script before now waiting first hears
  unfolding begun
  at_stop_here = (texts_in s.given, begun, s.written, begun_passed, begun_heard hears refl)

-- no item is left
pub at_end : (g : Config) (may : ℕ → ℕ → Point → Bool → Type 0) (wants : Bool) (script : List ℕ) (before now : Option (List ℕ)) (waiting : List ℕ) (first hears : Option (List Heard))
    (progress : Progress) (number : ℕ) (status : Status)
    → Stands g may wants script before now waiting first hears progress None number status → PassesSession g may wants script status before now waiting first hears
at_end g may wants script before now waiting first hears progress number status s =
    let items : items_of script ≡ s.done = s.items ∙ append-nil s.done in
    let all : MayGiveAll g beginning (items_of script) s.given =
    subst (λ (xs : List Item). MayGiveAll g beginning xs s.given) (sym items) (given_front g s.done s.given beginning progress s.gives) in (
      session_with s.given,
      (s.given, all, refl),
      s.told,
      s.written,
      subst (λ (xs : List Item). LetsGivenPass may xs s.given) (sym items) s.passed,
      subst (λ (xs : List Item). HearsAll wants script before xs s.given first hears) (sym items) s.heard,
    )

-- a status is that of a session, so it is a whole one's
pub whole : (g : Config) (may : ℕ → ℕ → Point → Bool → Type 0) (wants : Bool) (script : List ℕ) (status : Status) (before now : Option (List ℕ)) (waiting : List ℕ) (first hears : Option (List Heard))
    → PassesSession g may wants script status before now waiting first hears → IsWhole status
whole g may wants script status before now waiting first hears (session, (given, all, is), told, written, passed, heard) =
    subst IsWhole (sym (told ∙ ap (λ (s : Session). s.status) is)) (IsWhole-status_of (outcomes_given given))

-- ---- what waits is written, and nothing is heard as it is

module _ (g : Config) (may : ℕ → ℕ → Point → Bool → Type 0) (wants : Bool) (script : List ℕ) (before now new : Option (List ℕ)) (waiting : List ℕ) (first hears hears_new : Option (List Heard))
    (unheard : hears_new ≡ hears) where
  same_heard : (items : List Item) (given : List Given) → HearsAll wants script before items given first hears → HearsAll wants script before items given first hears_new
  same_heard items given heard = subst (λ (h : Option (List Heard)). HearsAll wants script before items given first h) (sym unheard) heard

  pub session_flushed : (status : Status) → PassesSession g may wants script status before now waiting first hears → Appends now new waiting
      → AppendsSession g may wants script status before new first hears_new
  session_flushed status (session, is, told, written, passed, heard) more =
      (session, is, told, Passes_flush before now new [] waiting (concat session.texts) written more, passed, same_heard (items_of script) is.0 heard)

  pub begun_flushed : PassesBegun g may wants script before now waiting first hears → Appends now new waiting → AppendsBegun g may wants script before new first hears_new
  begun_flushed (texts, is, written, passed, heard) more =
      (texts, is, Passes_flush before now new [] waiting (concat texts) written more, passed, same_heard (items_of script) is.1 heard)

  pub stopped_flushed : PassesStopped g may wants script before now waiting first hears → Appends now new waiting → AppendsStopped g may wants script before new first hears_new
  stopped_flushed (texts, is, written, heard) more =
      (texts, is, Passes_flush before now new [] waiting (concat texts) written more, same_heard is.done is.given heard)

  -- and not all of it
  pub begun_cut : PassesBegun g may wants script before now waiting first hears → AppendsFront now new waiting → AppendsBegunFront g may wants script before new first hears_new
  begun_cut (texts, is, written, passed, heard) more = (
    texts,
    is,
    Passes_cut before now new [] waiting (concat texts) written more,
    passed,
    length is.1,
    subst (λ (xs : List Given). HearsAll wants script before (items_of script) xs first hears_new) (sym (all_given is.1)) (same_heard (items_of script) is.1 heard),
  )

  pub stopped_cut : PassesStopped g may wants script before now waiting first hears → AppendsFront now new waiting → AppendsBegunFront g may wants script before new first hears_new
  stopped_cut (texts, is, written, heard) more =
      let taken : take (length is.done) (items_of script) ≡ is.done =
      ap (take (length is.done)) is.items ∙ take_at is.done (Threads is.part ∷ is.rest) (length is.done) refl in
      let begun : IsBegun g script texts =
      (length is.done, is.given, subst (λ (xs : List Item). MayGiveAll g beginning xs is.given) (sym taken) (given_front g is.done is.given beginning is.after is.gives), is.told) in
      begun_cut (
        texts,
        begun,
        written,
        subst (λ (xs : List Item). LetsGivenPass may xs is.given) (sym is.items)
            (passed_front may g is.done (Threads is.part ∷ is.rest) is.given beginning is.after is.gives is.passed),
        subst (λ (xs : List Item). HearsAll wants script before xs is.given first hears) (sym is.items)
            (hears_front wants script before g is.done (Threads is.part ∷ is.rest) is.given beginning is.after first hears is.gives heard),
      ) more

  pub session_cut : (status : Status) → PassesSession g may wants script status before now waiting first hears → AppendsFront now new waiting
      → AppendsBegunFront g may wants script before new first hears_new
  session_cut status (session, (given, all, is), told, written, passed, heard) more =
      let taken : take (length (items_of script)) (items_of script) ≡ items_of script =
      ap (take (length (items_of script))) (sym (append-nil (items_of script))) ∙ take_at (items_of script) [] (length (items_of script)) refl in (
        session.texts,
        (length (items_of script), given, subst (λ (xs : List Item). MayGiveAll g beginning xs given) (sym taken) all, ap (λ (s : Session). s.texts) is),
        Passes_cut before now new [] waiting (concat session.texts) written more,
        passed,
        length given,
        subst (λ (xs : List Given). HearsAll wants script before (items_of script) xs first hears_new) (sym (all_given given)) (same_heard (items_of script) given heard),
      )

-- ---- nothing was done

begun_none : (g : Config) (script : List ℕ) → IsBegun g script []
begun_none g script = (0, [], tt, refl)

passed_none : (may : ℕ → ℕ → Point → Bool → Type 0) (items : List Item) → LetsGivenPass may items []
passed_none may [] = tt
passed_none may (item ∷ items) = tt

pub nothing_begun : (g : Config) (may : ℕ → ℕ → Point → Bool → Type 0) (wants : Bool) (bytes old : Option (List ℕ)) (first : Option (List Heard))
    → IfSome bytes (λ (script : List ℕ). AppendsBegun g may wants script old old first first)
unfolding begun_none
nothing_begun g may wants None old first = tt
nothing_begun g may wants (Some script) old first =
    ([], begun_none g script, Appends_nothing old, passed_none may (items_of script), hears_none wants script old (items_of script) first)

pub nothing_begun_front : (g : Config) (may : ℕ → ℕ → Point → Bool → Type 0) (wants : Bool) (bytes old : Option (List ℕ)) (first : Option (List Heard))
    → IfSome bytes (λ (script : List ℕ). AppendsBegunFront g may wants script old old first first)
unfolding begun_none
nothing_begun_front g may wants None old first = tt
nothing_begun_front g may wants (Some script) old first =
    ([], begun_none g script, ([], [], refl, Appends_nothing old), passed_none may (items_of script), 0, hears_none wants script old (items_of script) first)
