-- What a try leaves of a console.
use Rattle.std.proofs.Common.{◌≡◌, ◌⊎◌, ◌<◌, ◌^◌, inl, inr, ℕ, true, false, List, Bool, Option, Some, None, Result, Ok, Err}
use Rattle.std.proofs.Common.{MatchResult, IfSome, IsSome, refl, sym, ap, subst, ◌∙◌}
use Rattle.std.specs.Arc.{arc_value}
use Rattle.std.specs.Option.{MatchOption}
use Rattle.ticket_lock.specs.Calls.{HasLooked, IsWorn}
use Rattle.ticket_lock.specs.declared.views.View.{View}
use Rattle.trace_command.specs.Paths.{address_of}
use Rattle.trace_command.specs.Requests.{Request}
use Rattle.trace_command.specs.declared.command.Config.{Config}
use Rattle.trace_command.specs.declared.command.Reply.{Reply}
use Rattle.trace_command.specs.declared.refusal.Refusal.{Refusal}
use Rattle.trace_command.specs.declared.refusal.Refusal.TheVariants.{Worn}
use Rattle.tracer_specification.specs.Waiting.{waiting}
use Rattle.tracer.specs.LiveSeen.{LiveSeen}
use Rattle.tracer.specs.Lives.{IsLive}
use Rattle.shared_mount.specs.LiveMountSeen.{SharedTerms, numbers_of}
use Rattle.shared_mount.specs.MountCallers.{caller_view, calls, line_view, terms_of, HasNoTurn, IsCallerOf, IsInLineOf, IsLookedAt, IsToldOf, Serves, TakesTurn}
use Rattle.shared_mount.specs.MountEntries.{EntrySeen, done_in}
use Rattle.shared_mount.specs.declared.caller.Caller.{Caller}
use Rattle.shared_mount.specs.declared.served.Served.{Served}
use Rattle.trace_script.specs.declared.outcome.Outcome.{Outcome}
use Rattle.library_tracer.specs.ConsolesSeen.{ConsoleSeen, Known}
use Rattle.library_tracer.specs.Consoles.{outcome_of, shows_waiting, HasSeen, HasServed, IsAnswered, IsBusy, IsTooLate, IsWornOut, Looks, TellsWaiting}
use Rattle.library_tracer.specs.declared.console.Tried.TheVariants.{Told}
use Rattle.library_tracer.specs.Inner.{known_by, known_in, seen, words_in, IsSound}
use Rattle.library_tracer.specs.Sentences.{answer_words}
use Rattle.library_tracer.specs.declared.last.Last.{Last}
use Rattle.library_tracer.specs.private.Turns.{IsSeenNow}
use Rattle.library_tracer.specs.declared.console.Console.TheInside.{Inside}
use Rattle.library_tracer.specs.declared.queued.Queued.{Queued}

-- ---- by fields

abbrev pub terms_in : Inside → SharedTerms
terms_in i = terms_of (arc_value i.tracer)

-- a console whose caller knows this
abbrev pub knowing : Inside → Known → Bool → ConsoleSeen
knowing i known in_line = record {
  tracer = (arc_value i.tracer).lock.table.shared.table_id;
  terms = terms_in i;
  has = Some known;
  is_in_line = in_line;
  last = i.last.outcome;
  words = words_in i.last;
}

-- one that is idle is not in line
pub not_in_line : (i : Inside) (caller : Caller) → i.idle ≡ Some caller → IsSound i → i.queued ≡ None
not_in_line i caller e sound = sound.one (subst (λ o. IsSome o) (sym e) refl)

pub idle_is : (i : Inside) (caller : Caller) → i.idle ≡ Some caller → IsSound i → seen i ≡ knowing i (known_by caller) false
idle_is i caller e sound =
    ap (λ o. seen (record i { idle = o })) e ∙ ap (λ q. seen (record i { idle = Some caller; queued = q })) (not_in_line i caller e sound)

pub still_idle : (i : Inside) (caller next : Caller) → i.idle ≡ Some caller → IsSound i → seen (record i { idle = Some next }) ≡ knowing i (known_by next) false
still_idle i caller next e sound = ap (λ q. seen (record i { idle = Some next; queued = q })) (not_in_line i caller e sound)

-- and one that is in line is not idle
not_idle : (i : Inside) (queued : Queued) → i.queued ≡ Some queued → IsSound i → i.idle ≡ None
not_idle i queued e sound = by i.idle sound.one
  where
    by : (idle : Option Caller) → (IsSome idle → i.queued ≡ None) → idle ≡ None
    by None one = refl
    by (Some caller) one = let none : i.queued ≡ None = one refl in absurd (cc)

pub line_is : (i : Inside) (queued : Queued) → i.queued ≡ Some queued → IsSound i → seen i ≡ knowing i (known_in queued) true
line_is i queued e sound =
    ap (λ q. seen (record i { queued = q })) e ∙ ap (λ o. seen (record i { idle = o; queued = Some queued })) (not_idle i queued e sound)

still_in_line : (i : Inside) (queued next : Queued) → i.queued ≡ Some queued → IsSound i → seen (record i { queued = Some next }) ≡ knowing i (known_in next) true
still_in_line i queued next e sound = ap (λ o. seen (record i { idle = o; queued = Some next })) (not_idle i queued e sound)

-- the numbers of the tracer that a caller knows
pub idle_base : (i : Inside) (caller : Caller) → i.idle ≡ Some caller → IsSound i → (caller_view caller).base ≡ numbers_of (terms_in i)
idle_base i caller e sound = by i.idle e sound.idle
  where
    by : (idle : Option Caller) → idle ≡ Some caller → IfSome idle (IsCallerOf (arc_value i.tracer)) → (caller_view caller).base ≡ numbers_of (terms_in i)
    by None e of = absurd (cc)
    by (Some other) e of = let same : other ≡ caller = cc in subst (λ c. (caller_view c).base ≡ numbers_of (terms_in i)) same of.asks.base

pub line_base : (i : Inside) (queued : Queued) → i.queued ≡ Some queued → IsSound i → (line_view queued.line).base ≡ numbers_of (terms_in i)
line_base i queued e sound = by i.queued e sound.in_line
  where
    by : (was : Option Queued) → was ≡ Some queued → IfSome was (λ queued. IsInLineOf (arc_value i.tracer) queued.line)
        → (line_view queued.line).base ≡ numbers_of (terms_in i)
    by None e of = absurd (cc)
    by (Some other) e of = let same : other ≡ queued = cc in subst (λ q. (line_view q.line).base ≡ numbers_of (terms_in i)) same of.asks.base

-- ---- nothing was run

busy : (i : Inside) (was now : Known) (in_line : Bool) (before after : ConsoleSeen) → before ≡ knowing i was in_line → after ≡ knowing i now in_line
    → HasLooked was.view now.view ⊎ (now.view ≡ was.view) → (in_line ≡ false → now.view.front < 2 ^ 63) → IsBusy before after
busy i was now in_line before after before_is after_is view tickets =
    subst (λ b. IsBusy b after) (sym before_is)
    (subst (λ a. IsBusy (knowing i was in_line) a) (sym after_is)
    (record { was = was; now = now; had = refl; left = refl; view = view; tickets = tickets }))

pub idle_busy : (i : Inside) (caller next : Caller) → i.idle ≡ Some caller → IsSound i → HasNoTurn (caller_view caller) (caller_view next)
    → IsBusy (seen i) (seen (record i { idle = Some next }))
idle_busy i caller next e sound looked =
    busy i (known_by caller) (known_by next) false _ _ (idle_is i caller e sound) (still_idle i caller next e sound) (inl looked.0)
    (λ out. looked.1)

pub line_busy : (i : Inside) (queued next : Queued) → i.queued ≡ Some queued → IsSound i → line_view next.line ≡ line_view queued.line
    → IsBusy (seen i) (seen (record i { queued = Some next }))
line_busy i queued next e sound same =
    busy i (known_in queued) (known_in next) true _ _ (line_is i queued e sound) (still_in_line i queued next e sound) (inr same)
    (λ out. absurd (cc))

-- one that is in line stays as it was
pub line_stays : (i : Inside) (queued next : Queued) → i.queued ≡ Some queued → IsSound i → line_view next.line ≡ line_view queued.line
    → seen (record i { queued = Some next }) ≡ seen i
line_stays i queued next e sound same =
    let known : known_in next ≡ known_in queued = ap (λ (v : View EntrySeen). let k : Known = record { view = v } in k) same in
    still_in_line i queued next e sound ∙ ap (λ (k : Known). knowing i k true) known ∙ sym (line_is i queued e sound)

-- ---- an answer

answered : (i : Inside) (was now : Known) (in_line : Bool) (request : List EntrySeen → Request) (words : Refusal → List ℕ) (answer : Result Reply Refusal)
    (owes : Bool) (before mid after : ConsoleSeen) → before ≡ knowing i was in_line → mid ≡ knowing i now false
    → after ≡ record mid { last = outcome_of answer; words = answer_words words answer } → was.view.base ≡ numbers_of (terms_in i)
    → TakesTurn (terms_in i) was.view now.view (calls request answer) owes → IsAnswered request words answer owes before after
answered i was now in_line request words answer owes before mid after before_is mid_is after_is base turn =
    let told : ConsoleSeen → ConsoleSeen = λ c. record c { last = outcome_of answer; words = answer_words words answer } in
    let left : after ≡ told (knowing i now false) = after_is ∙ ap told mid_is in
    subst (λ b. IsAnswered request words answer owes b after) (sym before_is)
    (subst (λ a. IsAnswered request words answer owes (knowing i was in_line) a) (sym left)
    (record { was = was; now = now; had = refl; left = refl; base = base; turn = turn }))

-- what is kept of a call is its answer
abbrev pub Answers : Last → (Refusal → List ℕ) → Result Reply Refusal → Type 0
Answers last words answer = (last.outcome ≡ outcome_of answer) × (words_in last ≡ answer_words words answer)

kept : (console : ConsoleSeen) (last : Last) (words : Refusal → List ℕ) (answer : Result Reply Refusal) → Answers last words answer
    → record console { last = last.outcome; words = words_in last } ≡ record console { last = outcome_of answer; words = answer_words words answer }
kept console last words answer is =
    ap (λ (o : Outcome). record console { last = o; words = words_in last }) is.0
    ∙ ap (λ (w : List ℕ). record console { last = outcome_of answer; words = w }) is.1

pub idle_answered : (i : Inside) (caller next : Caller) (last : Last) (request : List EntrySeen → Request) (words : Refusal → List ℕ)
    (answer : Result Reply Refusal) (owes : Bool) → i.idle ≡ Some caller → IsSound i → Answers last words answer
    → TakesTurn (terms_in i) (caller_view caller) (caller_view next) (calls request answer) owes
    → IsAnswered request words answer owes (seen i) (seen (record i { idle = Some next; last = last }))
idle_answered i caller next last request words answer owes e sound is turn =
    answered i (known_by caller) (known_by next) false request words answer owes _ (seen (record i { idle = Some next })) _ (idle_is i caller e sound)
    (still_idle i caller next e sound) (kept (seen (record i { idle = Some next })) last words answer is) (idle_base i caller e sound) turn

pub line_answered : (i : Inside) (queued : Queued) (next : Caller) (rest : Option Queued) (last : Last) (request : List EntrySeen → Request)
    (words : Refusal → List ℕ) (answer : Result Reply Refusal) (owes : Bool) → i.queued ≡ Some queued → IsSound i → rest ≡ None → Answers last words answer
    → TakesTurn (terms_in i) (line_view queued.line) (caller_view next) (calls request answer) owes
    → IsAnswered request words answer owes (seen i) (seen (record i { idle = Some next; queued = rest; last = last }))
line_answered i queued next rest last request words answer owes e sound none is turn =
    answered i (known_in queued) (known_by next) true request words answer owes _ (seen (record i { idle = Some next; queued = None })) _
    (line_is i queued e sound) refl
    (ap (λ (q : Option Queued). seen (record i { idle = Some next; queued = q; last = last })) none
    ∙ kept (seen (record i { idle = Some next; queued = None })) last words answer is) (line_base i queued e sound) turn

-- ---- what was seen in the turn of a call

pub saw : {A : Type 0} (i : Inside) (next : Caller) (rest : Option Queued) (last : Last) (tells : LiveSeen → A → Type 0) (answer : A) (status : ℕ) (owes : Bool)
    → IsToldOf (terms_in i) tells (caller_view next).seen answer
    → IsSeenNow (IsToldOf (seen i).terms tells) (seen (record i { idle = Some next; queued = rest; last = last })) (Told status owes) answer
saw i next rest last tells answer status owes told =
    record { now = known_by next; has = refl; shown_is = told; had_turn = λ is. absurd (cc) }

-- ---- a look

looked : {A : Type 0} (i : Inside) (was now : Known) (in_line : Bool) (tells : LiveSeen → A → Type 0) (answer : A) (before after : ConsoleSeen)
    → before ≡ knowing i was in_line → after ≡ knowing i now false → was.view.base ≡ numbers_of (terms_in i)
    → IsLookedAt (terms_in i) tells was.view now.view answer → HasSeen (λ entries. IsToldOf before.terms tells entries answer) before after
looked i was now in_line tells answer before after before_is after_is base look =
    subst (λ b. HasSeen (λ entries. IsToldOf b.terms tells entries answer) b after) (sym before_is)
    (subst (λ a. HasSeen (λ entries. IsToldOf (terms_in i) tells entries answer) (knowing i was in_line) a) (sym after_is)
    (record { was = was; now = now; had = refl; left = refl; base = base; idle = look.idle; shown_is = look.told }))

pub idle_looked : {A : Type 0} (i : Inside) (caller next : Caller) (tells : LiveSeen → A → Type 0) (answer : A) → i.idle ≡ Some caller → IsSound i
    → IsLookedAt (terms_in i) tells (caller_view caller) (caller_view next) answer
    → HasSeen (λ entries. IsToldOf (seen i).terms tells entries answer) (seen i) (seen (record i { idle = Some next }))
idle_looked i caller next tells answer e sound look =
    looked i (known_by caller) (known_by next) false tells answer _ _ (idle_is i caller e sound) (still_idle i caller next e sound)
    (idle_base i caller e sound) look

pub line_looked : {A : Type 0} (i : Inside) (queued : Queued) (next : Caller) (tells : LiveSeen → A → Type 0) (answer : A) → i.queued ≡ Some queued → IsSound i
    → IsLookedAt (terms_in i) tells (line_view queued.line) (caller_view next) answer
    → HasSeen (λ entries. IsToldOf (seen i).terms tells entries answer) (seen i) (seen (record i { idle = Some next; queued = None }))
line_looked i queued next tells answer e sound look =
    looked i (known_in queued) (known_by next) true tells answer _ _ (line_is i queued e sound) refl (line_base i queued e sound) look

worn : (i : Inside) (was now : Known) (before after : ConsoleSeen) → before ≡ knowing i was false → after ≡ knowing i now false
    → IsWorn was.view now.view → IsWornOut before after
worn i was now before after before_is after_is is =
    subst (λ b. IsWornOut b after) (sym before_is)
    (subst (λ a. IsWornOut (knowing i was false) a) (sym after_is) (record { was = was; now = now; had = refl; left = refl; worn = is }))

pub idle_worn : (i : Inside) (caller next : Caller) → i.idle ≡ Some caller → IsSound i → IsWorn (caller_view caller) (caller_view next)
    → IsWornOut (seen i) (seen (record i { idle = Some next }))
idle_worn i caller next e sound is =
    worn i (known_by caller) (known_by next) _ _ (idle_is i caller e sound) (still_idle i caller next e sound) is

-- a call that came when all were drawn
pub too_late : (i : Inside) (caller next : Caller) (last : Last) (words : Refusal → List ℕ) → i.idle ≡ Some caller → IsSound i
    → Answers last words (Err Worn) → IsWorn (caller_view caller) (caller_view next) → IsTooLate words (seen i) (seen (record i { idle = Some next; last = last }))
too_late i caller next last words e sound is drawn =
    record { worn = idle_worn i caller next e sound drawn; keeps = is; idle = ap (λ (c : ConsoleSeen). c.is_in_line) (idle_is i caller e sound) }

-- what is shown says something else
pub seen_as : (one other : List EntrySeen → Type 0) → ((entries : List EntrySeen) → one entries → other entries) → (before after : ConsoleSeen)
    → HasSeen one before after → HasSeen other before after
seen_as one other to before after h = record {
  was = h.was;
  now = h.now;
  had = h.had;
  left = h.left;
  base = h.base;
  idle = h.idle;
  shown_is = to h.now.view.seen h.shown_is;
}

-- ---- a turn that serves

served : (i : Inside) (was now : Known) (in_line : Bool) (asked bytes : List ℕ) (owes : Bool) (what : Served) (before after : ConsoleSeen)
    → before ≡ knowing i was in_line → after ≡ knowing i now false → was.view.base ≡ numbers_of (terms_in i)
    → Serves (terms_in i) asked bytes owes was.view now.view what → HasServed asked bytes owes what before after
served i was now in_line asked bytes owes what before after before_is after_is base serves =
    subst (λ b. HasServed asked bytes owes what b after) (sym before_is)
    (subst (λ a. HasServed asked bytes owes what (knowing i was in_line) a) (sym after_is)
    (record { was = was; now = now; had = refl; left = refl; base = base; serves = serves }))

pub idle_served : (i : Inside) (caller next : Caller) (asked bytes : List ℕ) (owes : Bool) (what : Served) → i.idle ≡ Some caller → IsSound i
    → Serves (terms_in i) asked bytes owes (caller_view caller) (caller_view next) what
    → HasServed asked bytes owes what (seen i) (seen (record i { idle = Some next }))
idle_served i caller next asked bytes owes what e sound serves =
    served i (known_by caller) (known_by next) false asked bytes owes what _ _ (idle_is i caller e sound) (still_idle i caller next e sound)
    (idle_base i caller e sound) serves

pub line_served : (i : Inside) (queued : Queued) (next : Caller) (asked bytes : List ℕ) (owes : Bool) (what : Served) → i.queued ≡ Some queued → IsSound i
    → Serves (terms_in i) asked bytes owes (line_view queued.line) (caller_view next) what
    → HasServed asked bytes owes what (seen i) (seen (record i { idle = Some next; queued = None }))
line_served i queued next asked bytes owes what e sound serves =
    served i (known_in queued) (known_by next) true asked bytes owes what _ _ (line_is i queued e sound) refl (line_base i queued e sound) serves

-- whether a record waits
abbrev tells_waiting : List ℕ → LiveSeen → Result Bool Refusal → Type 0
tells_waiting path live waits =
    (past : List Request) → IsLive live.config past live → waits ≡ waiting live.config past (address_of path).instance (address_of path).file

waiting_seen : (path : List ℕ) (waits : Result Bool Refusal) (before after : ConsoleSeen)
    → HasSeen (λ entries. IsToldOf before.terms (tells_waiting path) entries waits) before after
    → HasSeen (λ entries. shows_waiting before.terms.mount.config path entries waits) before after
waiting_seen path waits before after looks =
    seen_as (λ entries. IsToldOf before.terms (tells_waiting path) entries waits) (λ entries. shows_waiting before.terms.mount.config path entries waits)
    (λ entries told.
    let a = address_of path in
    told.told (done_in entries) told.lives ∙ ap (λ (g : Config). waiting g (done_in entries) a.instance a.file) told.config) before after looks

pub waiting_told : (path : List ℕ) (seen : Option (Result (Result Bool Refusal) Refusal)) (told : Option (Result Bool Refusal)) (before after : ConsoleSeen)
    → MatchOption seen (told ≡ None) (λ one. MatchResult one (λ waits. told ≡ Some waits) (λ refusal. told ≡ Some (Err refusal)))
    → Looks (IsToldOf before.terms (tells_waiting path)) before after seen → TellsWaiting path before after told
waiting_told path None told before after is looks = subst (λ t. TellsWaiting path before after t) (sym is) looks
waiting_told path (Some (Ok waits)) told before after is looks =
    subst (λ t. TellsWaiting path before after t) (sym is) (inl (waiting_seen path waits before after looks))
waiting_told path (Some (Err refusal)) told before after is looks =
    let worn : Err refusal ≡ Err Worn = ap (λ (r : Refusal). Err r) looks.0 in
    subst (λ t. TellsWaiting path before after t) (sym is) (inr (worn, looks.1))

-- ---- a ticket

pub drawn : (i : Inside) (caller : Caller) (next : Queued) → i.idle ≡ Some caller → IsSound i → HasLooked (caller_view caller) (line_view next.line)
    → IsBusy (record (seen i) { is_in_line = true }) (seen (record i { idle = None; queued = Some next }))
drawn i caller next e sound looked =
    busy i (known_by caller) (known_in next) true _ _ (ap (λ (c : ConsoleSeen). record c { is_in_line = true }) (idle_is i caller e sound)) refl
    (inl looked) (λ out. absurd (cc))

pub not_drawn : (i : Inside) (caller next : Caller) → i.idle ≡ Some caller → IsSound i → HasNoTurn (caller_view caller) (caller_view next)
    → IsBusy (record (seen i) { is_in_line = false }) (seen (record i { idle = Some next }))
not_drawn i caller next e sound looked =
    busy i (known_by caller) (known_by next) false _ _ (ap (λ (c : ConsoleSeen). record c { is_in_line = false }) (idle_is i caller e sound))
    (still_idle i caller next e sound) (inl looked.0) (λ out. looked.1)
