-- The hist triggers that are there are just those that were attached and not taken away since.
use Rattle.std.proofs.Common.{◌≡◌, ◌⊎◌, inl, inr, ℕ, Bool, true, false, not, ◌&&◌, ◌||◌, if◌then◌else◌, List, [], ◌∷◌, ◌++◌, length, Option, None, Some, Result, Ok, Err, refl, sym, ap, ◌∙◌, subst, arith}
use Rattle.trace_format.specs.Definitions.{Definition}
use Rattle.trace_trigger.specs.HistSpecs.{SpecSeen}
use Rattle.trace_trigger.specs.TriggerTexts.{said_of}
use Rattle.trace_trigger.specs.declared.fault.TriggerFault.{TriggerFault}
use Rattle.trace_trigger.specs.declared.trigger.TriggerText.{TriggerText}
use Rattle.trace_trigger.specs.declared.trigger.TriggerText.TheVariants.{Nothing, AttachSnapshot, RemoveSnapshot, Hist, RemoveHist}
use Rattle.trace_command.specs.Requests.{Request}
use Rattle.tracer_specification.specs.HistTriggers.{HistTrigger, Written, has_same, hist_triggers, hists_after, hists_said, is_of, left_by, new_hist, says_same, those_of, written_to}
use Rattle.tracer_specification.specs.Laws.{HistTriggersAreThoseAttached, IsAttached, IsAttachedBy, removes, some_later, takes, takes_away}
use Rattle.tracer_specification.specs.Settings.{makes}
use Rattle.tracer_specification.proofs.EventHists.{own-left, tables-made_before}
use Rattle.tracer_specification.proofs.Members.{IsIn, and-nothing, each-in, both-false, contains-in, filter-in, in-contains, in-filter, in-left, in-push, left-in, not-false, not-true, push-new, push-old}
use Rattle.tracer_specification.proofs.Tables.{IsBefore}

-- ---- one request later

-- what a text that is for its event or not does to one
stays-by : (own gone removed : Bool) → (own && gone) ≡ false → (own && removed) ≡ false → (own && (gone || removed)) ≡ false
stays-by true gone removed first second = ap (λ (b : Bool). b || removed) first ∙ second
stays-by false gone removed first second = refl

by-stays : (own gone removed : Bool) → (own && (gone || removed)) ≡ false → ((own && gone) ≡ false) × ((own && removed) ≡ false)
by-stays true gone removed is = both-false gone removed is
by-stays false gone removed is = (refl, refl)

-- one that a text leaves was there, or the text attached it
pub record IsNew (number : ℕ) (event : Definition) (hists : List HistTrigger) (said : Result TriggerText TriggerFault) (t : HistTrigger) : Type 0 where
  pub spec : SpecSeen
  pub says : said ≡ Ok (Hist spec)
  pub none : has_same spec (those_of event hists) ≡ false
  pub is : new_hist number event hists spec ≡ t

said-in : (number : ℕ) (event : Definition) (hists : List HistTrigger) (said : Result TriggerText TriggerFault) (t : HistTrigger)
    → IsIn t (hists_said number event hists said)
    → (IsIn t hists × ((is_of event t && removes t said) ≡ false)) ⊎ IsNew number event hists said t
said-in number event hists (Ok (Hist spec)) t there = by (has_same spec (those_of event hists)) refl there
  where
    by : (same : Bool) → has_same spec (those_of event hists) ≡ same → IsIn t (if same then hists else hists ++ new_hist number event hists spec ∷ [])
        → (IsIn t hists × ((is_of event t && false) ≡ false)) ⊎ IsNew number event hists (Ok (Hist spec)) t
    by true is older = inl (older, and-nothing (is_of event t))
    by false is pushed = elim (in-push t (new_hist number event hists spec) hists pushed) [
      | inl older ↦ inl (older, and-nothing (is_of event t))
      | inr same ↦ inr (record { spec = spec; says = refl; none = is; is = same })
    ]
said-in number event hists (Ok (RemoveHist spec)) t there =
    let older = in-filter t (λ u. not (is_of event u && says_same spec u)) hists there in
    inl (older.0, not-true (is_of event t && says_same spec t) older.1)
said-in number event hists (Ok (AttachSnapshot spec)) t there = inl (there, and-nothing (is_of event t))
said-in number event hists (Ok RemoveSnapshot) t there = inl (there, and-nothing (is_of event t))
said-in number event hists (Ok Nothing) t there = inl (there, and-nothing (is_of event t))
said-in number event hists (Err fault) t there = inl (there, and-nothing (is_of event t))

in-said : (number : ℕ) (event : Definition) (hists : List HistTrigger) (said : Result TriggerText TriggerFault) (t : HistTrigger) → IsIn t hists
    → (is_of event t && removes t said) ≡ false → IsIn t (hists_said number event hists said)
in-said number event hists (Ok (Hist spec)) t there stays = by (has_same spec (those_of event hists))
  where
    by : (same : Bool) → IsIn t (if same then hists else hists ++ new_hist number event hists spec ∷ [])
    by true = there
    by false = push-old t (new_hist number event hists spec) hists there
in-said number event hists (Ok (RemoveHist spec)) t there stays =
    filter-in t (λ u. not (is_of event u && says_same spec u)) hists there (not-false (is_of event t && says_same spec t) stays)
in-said number event hists (Ok (AttachSnapshot spec)) t there stays = there
in-said number event hists (Ok RemoveSnapshot) t there stays = there
in-said number event hists (Ok Nothing) t there stays = there
in-said number event hists (Err fault) t there stays = there

-- what was written attached it
pub record IsMade (number : ℕ) (written : Option Written) (hists : List HistTrigger) (t : HistTrigger) : Type 0 where
  pub w : Written
  pub is : written ≡ Some w
  pub new : IsNew number w.event (left_by w.event w.append hists) (said_of w.event w.text) t

pub after-in : (number : ℕ) (written : Option Written) (hists : List HistTrigger) (t : HistTrigger) → IsIn t (hists_after number written hists)
    → (IsIn t hists × (takes t written ≡ false)) ⊎ IsMade number written hists t
after-in number None hists t there = inl (there, refl)
after-in number (Some w) hists t there = elim (said-in number w.event (left_by w.event w.append hists) (said_of w.event w.text) t there) [
  | inl (older, kept) ↦ let left = left-in t w.event w.append hists older in
      inl (left.0, stays-by (is_of w.event t) (not w.append) (removes t (said_of w.event w.text)) left.1 kept)
  | inr new ↦ inr (record { w = w; is = refl; new = new })
]

in-after : (number : ℕ) (written : Option Written) (hists : List HistTrigger) (t : HistTrigger) → IsIn t hists → takes t written ≡ false
    → IsIn t (hists_after number written hists)
in-after number None hists t there stays = there
in-after number (Some w) hists t there stays =
    let parts = by-stays (is_of w.event t) (not w.append) (removes t (said_of w.event w.text)) stays in
    in-said number w.event (left_by w.event w.append hists) (said_of w.event w.text) t (in-left t w.event w.append hists there parts.0) parts.1

-- ---- what is there was attached

attached-now : (instance : Option (List ℕ)) (past : List Request) (request : Request) (t : HistTrigger) → makes instance request ≡ false
    → IsMade (length past) (written_to instance past request) (hist_triggers instance past) t → IsAttachedBy instance t past request
attached-now instance past request t alive made =
    subst (λ (u : HistTrigger). IsAttachedBy instance u past request) made.new.is (record {
      alive = alive;
      append = made.w.append;
      text = made.w.text;
      written = made.is;
      said = made.new.says;
      new = ap (has_same made.new.spec) (sym (own-left made.w.event made.w.append (hist_triggers instance past))) ∙ made.new.none;
      is = refl;
    })

-- one whose table is made then is attached then
pub attached-then : (instance : Option (List ℕ)) (past : List Request) (request : Request) (t : HistTrigger)
    → IsIn t (hist_triggers instance (request ∷ past)) → t.table ≡ length past → IsAttachedBy instance t past request
attached-then instance past request t there is = by (makes instance request) refl there
  where
    by : (new : Bool) → makes instance request ≡ new
        → IsIn t (if new then [] else hists_after (length past) (written_to instance past request) (hist_triggers instance past))
        → IsAttachedBy instance t past request
    by true made none = absurd none
    by false alive there = elim (after-in (length past) (written_to instance past request) (hist_triggers instance past) t there) [
      | inl (older, stays) ↦ let before = (each-in (IsBefore (length past)) t (hist_triggers instance past) (tables-made_before instance past) older).table in
          absurd (omega (arith, before, is))
      | inr made ↦ attached-now instance past request t alive made
    ]

was-attached : (instance : Option (List ℕ)) (t : HistTrigger) (past : List Request) → IsIn t (hist_triggers instance past) → IsAttached instance t past
was-attached instance t [] there = absurd there
was-attached instance t (request ∷ past) there = by (makes instance request) refl there (was-attached instance t past)
  where
    by : (new : Bool) → makes instance request ≡ new
        → IsIn t (if new then [] else hists_after (length past) (written_to instance past request) (hist_triggers instance past))
        → (IsIn t (hist_triggers instance past) → IsAttached instance t past) → IsAttached instance t (request ∷ past)
    by true made none older = absurd none
    by false alive there older = elim (after-in (length past) (written_to instance past request) (hist_triggers instance past) t there) [
      | inl (before, stays) ↦ let was = older before in
          let here : takes_away instance t (was.later ++ was.request ∷ was.before) request ≡ false =
          ap (λ (p : List Request). takes_away instance t p request) (sym was.cut) ∙ (λ i. alive i || stays i) in
          record {
            later = request ∷ was.later;
            request = was.request;
            before = was.before;
            cut = ap (λ (rs : List Request). request ∷ rs) was.cut;
            by = was.by;
            stays = λ i. here i || was.stays i;
          }
      | inr made ↦ record {
        later = [];
        request = request;
        before = past;
        cut = refl;
        by = attached-now instance past request t alive made;
        stays = refl;
      }
    ]

-- ---- what was attached is there

pub is-there : (instance : Option (List ℕ)) (t : HistTrigger) (past : List Request) (request : Request) → IsAttachedBy instance t past request
    → IsIn t (hist_triggers instance (request ∷ past))
is-there instance t past request by = subst (IsIn t) (sym after) (subst (λ (u : HistTrigger). IsIn u (left ++ new ∷ [])) (sym by.is) (push-new new left))
  where
    left : List HistTrigger
    left = left_by t.event by.append (hist_triggers instance past)

    new : HistTrigger
    new = new_hist (length past) t.event left t.spec

    none : has_same t.spec (those_of t.event left) ≡ false
    none = ap (has_same t.spec) (own-left t.event by.append (hist_triggers instance past)) ∙ by.new

    after : hist_triggers instance (request ∷ past) ≡ left ++ new ∷ []
    after =
        ap (λ (b : Bool). if b then [] else hists_after (length past) (written_to instance past request) (hist_triggers instance past)) by.alive
        ∙ ap (λ (o : Option Written). hists_after (length past) o (hist_triggers instance past)) by.written
        ∙ ap (λ (s : Result TriggerText TriggerFault). hists_said (length past) t.event left s) by.said
        ∙ ap (λ (b : Bool). if b then left else left ++ new ∷ []) none

still-there : (instance : Option (List ℕ)) (t : HistTrigger) (later past : List Request) → IsIn t (hist_triggers instance past)
    → some_later (takes_away instance t) later past ≡ false → IsIn t (hist_triggers instance (later ++ past))
still-there instance t [] past there stays = there
still-there instance t (next ∷ later) past there stays =
    let parts = both-false (takes_away instance t (later ++ past) next) (some_later (takes_away instance t) later past) stays in
    let kept = both-false (makes instance next) (takes t (written_to instance (later ++ past) next)) parts.0 in
    let before = still-there instance t later past there parts.1 in
    subst (IsIn t)
    (sym (ap (λ (b : Bool). if b then [] else hists_after (length (later ++ past)) (written_to instance (later ++ past) next) (hist_triggers instance (later ++ past))) kept.0))
    (in-after (length (later ++ past)) (written_to instance (later ++ past) next) (hist_triggers instance (later ++ past)) t before kept.1)

pub hist_triggers_are_those_attached : HistTriggersAreThoseAttached
hist_triggers_are_those_attached instance t past = (
  λ there. was-attached instance t past (contains-in t (hist_triggers instance past) there),
  λ is. in-contains t (hist_triggers instance past) (subst (λ (p : List Request). IsIn t (hist_triggers instance p)) (sym is.cut)
      (still-there instance t is.later (is.request ∷ is.before) (is-there instance t is.before is.request is.by) is.stays)),
)
