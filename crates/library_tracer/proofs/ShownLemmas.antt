-- Requests that are served of a text which was made beside the turns.
use Rattle.std.proofs.Common.{◌≡◌, inl, inr, ℕ, true, false, List, [], ◌++◌, append-nil, Bool, Option, Some, None, Result, Ok, Err, IfSome}
use Rattle.std.proofs.Common.{refl, sym, ap, subst, ◌∙◌}
use Rattle.ticket_lock.specs.Moves.{after_look}
use Rattle.ticket_lock.specs.declared.views.View.{View}
use Rattle.trace_command.specs.Requests.{Request}
use Rattle.trace_command.specs.declared.command.Reply.TheVariants.{Text}
use Rattle.trace_command.specs.declared.refusal.Refusal.{Refusal}
use Rattle.file_list.specs.declared.file.File.{File}
use Rattle.mount_tree.specs.declared.node.Owner.{Owner}
use Rattle.mount_replies.specs.Services.{Terms}
use Rattle.mount_replies.specs.ShownTexts.{IsCopied, IsText}
use Rattle.mount_replies.specs.declared.shown.CopiedText.{CopiedText}
use Rattle.mount_replies.specs.declared.shown.ShownText.{ShownText}
use Rattle.shared_mount.specs.LiveMountSeen.{SharedTerms, numbers_of}
use Rattle.shared_mount.specs.MountCallers.{caller_view, exchanges, line_view, IsIdle, Serves, TakesTurn}
use Rattle.shared_mount.specs.MountEntries.{Deed, EntrySeen, done_in}
use Rattle.shared_mount.specs.ShownMounts.{IsShownIn, ServesOf, shows}
use Rattle.shared_mount.specs.declared.caller.Caller.{Caller}
use Rattle.shared_mount.specs.declared.served.Served.{Served}
use Rattle.shared_mount.specs.declared.served.Served.TheVariants.{Done, NotNow}
use Rattle.library_tracer.specs.Consoles.{HasSeen, ServesOnce}
use Rattle.library_tracer.specs.ConsolesSeen.{ConsoleSeen, Known}
use Rattle.library_tracer.specs.Inner.{known_by, known_in, seen, IsSound}
use Rattle.library_tracer.specs.ShownReplies.{answers, Answers, AnswersOnce, HasAnswered, IsShownAfter, IsShownTo, ServesAny}
use Rattle.library_tracer.specs.declared.console.Console.TheInside.{Inside}
use Rattle.library_tracer.specs.declared.queued.Queued.{Queued}
use Rattle.library_tracer.specs.private.MadeTexts.{IsMadeOf}
use Rattle.library_tracer.proofs.ConsoleLemmas.{idle_base, idle_is, knowing, line_base, line_is, line_stays, still_idle, terms_in}

-- ---- a text that is kept

-- after all turns that were seen is after some of them
shown_in : (g : SharedTerms) (seen : List EntrySeen) (shown : ShownText) → IsShownAfter g seen shown → IsShownIn g seen shown
shown_in g seen shown is = record { earlier = seen; later = []; is = sym (append-nil seen); text = is }

-- it is known to whoever has seen the same
same_seen : (g : SharedTerms) (seen other : List EntrySeen) (shown : Option ShownText) → other ≡ seen → IfSome shown (IsShownAfter g seen)
    → IfSome shown (IsShownAfter g other)
same_seen g seen other shown e is = subst (λ (es : List EntrySeen). IfSome shown (IsShownAfter g es)) (sym e) is

pub idle_knows : (i : Inside) (caller : Caller) (shown : Option ShownText) → i.idle ≡ Some caller → IsSound i → IfSome shown (IsShownTo (seen i))
    → IfSome shown (IsShownAfter (terms_in i) (caller_view caller).seen)
idle_knows i caller shown e sound is = subst (λ (c : ConsoleSeen). IfSome shown (IsShownTo c)) (idle_is i caller e sound) is

pub line_knows : (i : Inside) (queued : Queued) (shown : Option ShownText) → i.queued ≡ Some queued → IsSound i → IfSome shown (IsShownTo (seen i))
    → IfSome shown (IsShownAfter (terms_in i) (line_view queued.line).seen)
line_knows i queued shown e sound is = subst (λ (c : ConsoleSeen). IfSome shown (IsShownTo c)) (line_is i queued e sound) is

-- so a request may be served of it
pub idle_shows : (i : Inside) (caller : Caller) (shown : ShownText) → i.idle ≡ Some caller → IsSound i → IsShownTo (seen i) shown
    → IsShownIn (terms_in i) (caller_view caller).seen shown
idle_shows i caller shown e sound is = shown_in (terms_in i) (caller_view caller).seen shown (idle_knows i caller (Some shown) e sound is)

pub line_shows : (i : Inside) (queued : Queued) (shown : ShownText) → i.queued ≡ Some queued → IsSound i → IsShownTo (seen i) shown
    → IsShownIn (terms_in i) (line_view queued.line).seen shown
line_shows i queued shown e sound is = shown_in (terms_in i) (line_view queued.line).seen shown (line_knows i queued (Some shown) e sound is)

-- a look at the tickets shows no more of the history
pub still_known : (i : Inside) (caller : Caller) (next : View EntrySeen) (front : ℕ) (shown : Option ShownText) → i.idle ≡ Some caller → IsSound i
    → next ≡ after_look (caller_view caller) front → IfSome shown (IsShownTo (seen i)) → IfSome shown (IsShownAfter (terms_in i) next.seen)
still_known i caller next front shown e sound looked is =
    same_seen (terms_in i) (caller_view caller).seen next.seen shown (ap (λ (v : View EntrySeen). v.seen) looked) (idle_knows i caller shown e sound is)

pub still_known_in_line : (i : Inside) (queued next : Queued) (shown : Option ShownText) → i.queued ≡ Some queued → IsSound i
    → line_view next.line ≡ line_view queued.line → IfSome shown (IsShownTo (seen i)) → IfSome shown (IsShownTo (seen (record i { queued = Some next })))
still_known_in_line i queued next shown e sound same is =
    subst (λ (c : ConsoleSeen). IfSome shown (IsShownTo c)) (sym (line_stays i queued next e sound same)) is

-- ---- a turn that serves

does_as : (g : SharedTerms) (v w : View EntrySeen) (may other : List EntrySeen → Deed → Type 0) (owes : Bool)
    → ((found : List EntrySeen) (deed : Deed) → may found deed → other found deed) → TakesTurn g v w may owes → TakesTurn g v w other owes
does_as g v w may other owes to t = record {
  goes_on = t.goes_on;
  others = t.others;
  entry = t.entry;
  seen = t.seen;
  by_others = t.by_others;
  alone = t.alone;
  mine = t.mine;
  by = t.by;
  ticket = t.ticket;
  deed = to (v.seen ++ t.others) t.entry.deed t.deed;
  next = t.next;
}

-- as ever
serves_as_ever : (g : SharedTerms) (asked bytes : List ℕ) (v w : View EntrySeen) (served : Served) → Serves g asked bytes true v w served
    → ServesAny g asked bytes v w served
serves_as_ever g asked bytes v w (Done owes) serves =
    does_as g v w (exchanges asked bytes) (answers g v.seen asked bytes) owes (λ found deed did. inr did) serves
serves_as_ever g asked bytes v w NotNow serves = serves

pub as_ever : (asked bytes : List ℕ) (before after : ConsoleSeen) (tried : Option (Result Served Refusal)) → ServesOnce asked bytes true before after tried
    → AnswersOnce asked bytes before after tried
as_ever asked bytes before after None h = h
as_ever asked bytes before after (Some (Ok served)) h = record {
  was = h.was;
  now = h.now;
  had = h.had;
  left = h.left;
  base = h.base;
  serves = serves_as_ever before.terms asked bytes h.was.view h.now.view served h.serves;
}
as_ever asked bytes before after (Some (Err refusal)) h = h

-- of a text
shown_does : (g : SharedTerms) (seen : List EntrySeen) (shown : ShownText) (asked bytes : List ℕ) → IsShownAfter g seen shown → (of_text : Bool)
    (found : List EntrySeen) (deed : Deed) → shows of_text shown asked bytes found deed → answers g seen asked bytes found deed
shown_does g seen shown asked bytes was true found deed is = inl (shown, was, is)
shown_does g seen shown asked bytes was false found deed is = inr is

serves_of : (g : SharedTerms) (shown : ShownText) (asked bytes : List ℕ) (v w : View EntrySeen) (served : Served) → IsShownAfter g v.seen shown
    → ServesOf g shown asked bytes v w served → ServesAny g asked bytes v w served
serves_of g shown asked bytes v w (Done owes) was (of_text, turn) =
    does_as g v w (shows of_text shown asked bytes) (answers g v.seen asked bytes) owes (shown_does g v.seen shown asked bytes was of_text) turn
serves_of g shown asked bytes v w NotNow was serves = serves

answered_of : (i : Inside) (was now : Known) (in_line : Bool) (shown : ShownText) (asked bytes : List ℕ) (what : Served) (before after : ConsoleSeen)
    → before ≡ knowing i was in_line → after ≡ knowing i now false → was.view.base ≡ numbers_of (terms_in i)
    → IsShownAfter (terms_in i) was.view.seen shown → ServesOf (terms_in i) shown asked bytes was.view now.view what → HasAnswered asked bytes what before after
answered_of i was now in_line shown asked bytes what before after before_is after_is base is serves =
    subst (λ b. HasAnswered asked bytes what b after) (sym before_is)
    (subst (λ a. HasAnswered asked bytes what (knowing i was in_line) a) (sym after_is)
    (record {
      was = was;
      now = now;
      had = refl;
      left = refl;
      base = base;
      serves = serves_of (terms_in i) shown asked bytes was.view now.view what is serves;
    }))

pub idle_shown : (i : Inside) (caller next : Caller) (shown : ShownText) (asked bytes : List ℕ) (what : Served) → i.idle ≡ Some caller → IsSound i
    → IsShownTo (seen i) shown → ServesOf (terms_in i) shown asked bytes (caller_view caller) (caller_view next) what
    → HasAnswered asked bytes what (seen i) (seen (record i { idle = Some next }))
idle_shown i caller next shown asked bytes what e sound is serves =
    answered_of i (known_by caller) (known_by next) false shown asked bytes what _ _ (idle_is i caller e sound) (still_idle i caller next e sound)
    (idle_base i caller e sound) (idle_knows i caller (Some shown) e sound is) serves

pub line_shown : (i : Inside) (queued : Queued) (next : Caller) (shown : ShownText) (asked bytes : List ℕ) (what : Served) → i.queued ≡ Some queued
    → IsSound i → IsShownTo (seen i) shown → ServesOf (terms_in i) shown asked bytes (line_view queued.line) (caller_view next) what
    → HasAnswered asked bytes what (seen i) (seen (record i { idle = Some next; queued = None }))
line_shown i queued next shown asked bytes what e sound is serves =
    answered_of i (known_in queued) (known_by next) true shown asked bytes what _ _ (line_is i queued e sound) refl (line_base i queued e sound)
    (line_knows i queued (Some shown) e sound is) serves

-- ---- a turn in which a trace is copied

-- what it showed of the entries that were found
abbrev pub copies : SharedTerms → Option CopiedText → List EntrySeen → Type 0
copies g copied entries = IfSome copied (IsCopied g.mount (done_in entries))

copied_in : (i : Inside) (was now : Known) (in_line : Bool) (copied : Option CopiedText) (before after : ConsoleSeen) → before ≡ knowing i was in_line
    → after ≡ knowing i now false → was.view.base ≡ numbers_of (terms_in i) → IsIdle (terms_in i) was.view now.view → copies (terms_in i) copied now.view.seen
    → HasSeen (copies before.terms copied) before after
copied_in i was now in_line copied before after before_is after_is base idle is =
    subst (λ b. HasSeen (copies b.terms copied) b after) (sym before_is)
    (subst (λ a. HasSeen (copies (terms_in i) copied) (knowing i was in_line) a) (sym after_is)
    (record { was = was; now = now; had = refl; left = refl; base = base; idle = idle; shown_is = is }))

pub idle_copied : (i : Inside) (caller next : Caller) (copied : Option CopiedText) → i.idle ≡ Some caller → IsSound i
    → IsIdle (terms_in i) (caller_view caller) (caller_view next) → copies (terms_in i) copied (caller_view next).seen
    → HasSeen (copies (seen i).terms copied) (seen i) (seen (record i { idle = Some next }))
idle_copied i caller next copied e sound idle is =
    copied_in i (known_by caller) (known_by next) false copied _ _ (idle_is i caller e sound) (still_idle i caller next e sound) (idle_base i caller e sound)
    idle is

pub line_copied : (i : Inside) (queued : Queued) (next : Caller) (copied : Option CopiedText) → i.queued ≡ Some queued → IsSound i
    → IsIdle (terms_in i) (line_view queued.line) (caller_view next) → copies (terms_in i) copied (caller_view next).seen
    → HasSeen (copies (seen i).terms copied) (seen i) (seen (record i { idle = Some next; queued = None }))
line_copied i queued next copied e sound idle is =
    copied_in i (known_in queued) (known_by next) true copied _ _ (line_is i queued e sound) refl (line_base i queued e sound) idle is

-- ---- a text of it

is_text : (g : Terms) (past : List Request) (copied : CopiedText) (shown : ShownText) → IsCopied g past copied → IsMadeOf copied shown
    → IsText g past shown.owner shown.file shown.after shown.text
is_text g past copied shown (text, reply, is) made =
    let same : Text text ≡ Text shown.text = sym reply ∙ made.text in
    let the_text : text ≡ shown.text = cc in
    subst (λ (o : Owner). IsText g past o shown.file shown.after shown.text) (sym made.owner)
    (subst (λ (f : File). IsText g past copied.owner f shown.after shown.text) (sym made.file)
    (subst (λ (n : ℕ). IsText g past copied.owner copied.file n shown.text) (sym made.after)
    (subst (λ (t : List ℕ). IsText g past copied.owner copied.file copied.after t) the_text is)))

-- that was made of a copy which was taken last
pub made_to : (before between : ConsoleSeen) (copied : Option CopiedText) (shown : Option ShownText) → HasSeen (copies before.terms copied) before between
    → IfSome shown (λ shown. (one : CopiedText) × (copied ≡ Some one) × IsMadeOf one shown) → IfSome shown (IsShownTo between)
made_to before between copied None h made = tt
made_to before between copied (Some shown) h (one, is, made) =
    let of : IsCopied before.terms.mount (done_in h.now.view.seen) one =
    subst (λ (c : Option CopiedText). copies before.terms c h.now.view.seen) is h.shown_is in
    subst (λ (c : ConsoleSeen). IsShownTo c shown) (sym h.left) (is_text before.terms.mount (done_in h.now.view.seen) one shown of made)

-- one try more after it
pub after_copy : (asked bytes : List ℕ) (before between after : ConsoleSeen) (copied : Option CopiedText) (tried : Option (Result Served Refusal))
    → HasSeen (copies before.terms copied) before between → AnswersOnce asked bytes between after tried → Answers asked bytes before after tried
after_copy asked bytes before between after copied tried h once = inr (
  between,
  record {
    was = h.was;
    now = h.now;
    had = h.had;
    left = h.left;
    base = h.base;
    idle = h.idle;
    shown_is = tt;
  },
  once,
)
