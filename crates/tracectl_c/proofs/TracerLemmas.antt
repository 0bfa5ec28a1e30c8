-- When a tracer's handle has passes, and which.
use Rattle.std.proofs.Common.{◌≡◌, Bool, true, false, ◌==◌, if◌then◌else◌, None, is_some, refl, ap}
use Rattle.std.proofs.lemmas.Bool.{eqb-true}
use Rattle.tracectl_c.specs.Handles.{passes_of}
use Rattle.tracectl_c.specs.declared.tracer_handle.TracerHandle.{TracerHandle}
use Rattle.tracectl_c.specs.declared.tracer_handle.TheConstants.{OPEN}

by_test : (h : TracerHandle) (t : Bool) → h.state == OPEN ≡ t → is_some (if t then h.sealed.passes else None) ≡ t
by_test h true e = h.fits (eqb-true h.state OPEN e)
by_test h false e = refl

-- it has one exactly if its state says so
pub is_open : (h : TracerHandle) → is_some (passes_of h) ≡ (h.state == OPEN)
is_open h = by_test h (h.state == OPEN) refl

-- an open handle has the passes that it points to
pub open_passes : (h : TracerHandle) → h.state == OPEN ≡ true → passes_of h ≡ h.sealed.passes
open_passes h e = ap (λ (t : Bool). if t then h.sealed.passes else None) e

-- a handle that is not open has none
pub no_passes : (h : TracerHandle) → h.state == OPEN ≡ false → passes_of h ≡ None
no_passes h e = ap (λ (t : Bool). if t then h.sealed.passes else None) e
