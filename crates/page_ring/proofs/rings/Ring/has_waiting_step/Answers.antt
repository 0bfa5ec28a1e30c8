use Rattle.std.proofs.Common.{◌≡◌, ◌∙◌, ℕ, nat_lt, length, ap, sym, subst}
use Rattle.page_ring.specs.Pages.{kept_in}
use Rattle.page_ring.specs.Shown.{Seen}
use Rattle.page_ring.specs.private.Step.{readings_shown}
use Rattle.page_ring.proofs.Readings.{length-readings_from}
use Rattle.page_ring.proofs.rings.Ring.has_waiting_step.Goals as goal

pub returns : goal.returns
unfolding readings_shown
returns c =
    let a = c.self.inside in
    let P : Seen → Type 0 = λ s. nat_lt 0 a.entries ≡ nat_lt 0 (length (readings_shown s.shown)) in
    subst P c.self.view_is (ap (λ (n : ℕ). nat_lt 0 n) (c.self.invariant.entries ∙ sym (length-readings_from a.next (kept_in a.pages))))
