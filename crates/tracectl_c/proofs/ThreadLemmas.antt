-- When a thread's handle has a console, and which.
use Rattle.std.proofs.Common.{◌≡◌, Bool, true, false, ◌==◌, if◌then◌else◌, Option, Some, None, is_some, refl, ap, ◌∙◌}
use Rattle.std.proofs.lemmas.Bool.{eqb-true}
use Rattle.tracectl_c.specs.Handles.{console_of}
use Rattle.tracectl_c.specs.Owned.{Seen, has_caller}
use Rattle.tracectl_c.specs.declared.thread_handle.ThreadHandle.{ThreadHandle}
use Rattle.tracectl_c.specs.declared.thread_handle.TheConstants.{JOINED}

is_there : (held : Option Seen) → has_caller held ≡ true → is_some held ≡ true
is_there None e = e
is_there (Some console) e = refl

by_test : (h : ThreadHandle) (t : Bool) → h.state == JOINED ≡ t → is_some (if t then h.sealed.console else None) ≡ t
by_test h true e = is_there h.sealed.console (h.fits (eqb-true h.state JOINED e))
by_test h false e = refl

-- it has one exactly if its state says so
pub is_joined : (h : ThreadHandle) → is_some (console_of h) ≡ (h.state == JOINED)
is_joined h = by_test h (h.state == JOINED) refl

-- the handle of one that has joined has the console that it points to
pub open_console : (h : ThreadHandle) → h.state == JOINED ≡ true → console_of h ≡ h.sealed.console
open_console h e = ap (λ (t : Bool). if t then h.sealed.console else None) e

-- that of one that has not has none
pub no_console : (h : ThreadHandle) → h.state == JOINED ≡ false → console_of h ≡ None
no_console h e = ap (λ (t : Bool). if t then h.sealed.console else None) e

-- that of one that has joined points to a console
pub has_console : (h : ThreadHandle) → h.state == JOINED ≡ true → is_some h.sealed.console ≡ true
has_console h e = is_there h.sealed.console (h.fits (eqb-true h.state JOINED e))

-- whose caller is there
pub console_has : (h : ThreadHandle) (console : Seen) → h.state == JOINED ≡ true → Some console ≡ h.sealed.console → is_some console.has ≡ true
console_has h console e at = ap has_caller at ∙ h.fits (eqb-true h.state JOINED e)

-- a console whose caller is there may be kept
pub may_keep : (held : Option Seen) (console : Seen) → held ≡ Some console → is_some console.has ≡ true → has_caller held ≡ true
may_keep held console e has = ap has_caller e ∙ has
