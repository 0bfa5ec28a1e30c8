use Rattle.std.proofs.Common.{◌≡◌, ℕ, Option, Some, None, ap, sym, subst}
use Rattle.std.specs.Option.{option_map}
use Rattle.trace_record.specs.Record.{timestamp}
use Rattle.page_ring.specs.Account.{Reading, first}
use Rattle.page_ring.specs.Pages.{kept_in}
use Rattle.page_ring.specs.PageReads.{lent}
use Rattle.page_ring.specs.Shown.{Seen}
use Rattle.page_ring.specs.private.Step.{readings_shown}
use Rattle.page_ring.proofs.Readings.{circle_full, first_reading, no_reading}
use Rattle.page_ring.proofs.rings.Ring.peek_ts_step.Goals as goal

pub first-requires : goal.first-requires
first-requires c = circle_full c.self.inside c.self.invariant

pub returns-in-Some : goal.returns-in-Some
unfolding readings_shown
returns-in-Some c =
    let a = c.self.inside in
    let r = lent c.in-Some.record in
    let P : Seen → Type 0 = λ s. Some c.timestamp.result ≡ option_map (λ (k : Reading). timestamp k.rec) (first (readings_shown s.shown)) in
    subst P c.self.view_is (rw c.timestamp.ensures (ap (option_map (λ (k : Reading). timestamp k.rec)) (sym (first_reading a.next (kept_in a.pages) r c.in-Some.ensures))))

pub returns-in-None : goal.returns-in-None
unfolding readings_shown
returns-in-None c =
    let a = c.self.inside in
    let none : Option ℕ = None in
    let P : Seen → Type 0 = λ s. none ≡ option_map (λ (k : Reading). timestamp k.rec) (first (readings_shown s.shown)) in
    subst P c.self.view_is (ap (option_map (λ (k : Reading). timestamp k.rec)) (sym (no_reading a.next (kept_in a.pages) c.in-None.ensures)))
