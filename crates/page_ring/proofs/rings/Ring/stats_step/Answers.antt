use Rattle.std.proofs.Common.{◌≡◌, ◌-◌, ◌<◌, length, subst, refl}
use Rattle.std.proofs.lemmas.List.Elements.{All-from_recursion}
use Rattle.page_ring.specs.StoredPage.{StoredPage}
use Rattle.page_ring.specs.Shown.{Seen}
use Rattle.page_ring.specs.Pages.{kept_in}
use Rattle.page_ring.specs.Sound.{page_after, IsStorable}
use Rattle.page_ring.specs.private.Step.{stats_shown}
use Rattle.page_ring.proofs.PageFacts.{circle_nonempty, all_weaker}
use Rattle.page_ring.proofs.rings.Ring.stats_step.Goals as goal

pub oldest-requires-clause-circle : goal.oldest-requires-clause-circle
oldest-requires-clause-circle c =
    let a = c.self.inside in
    All-from_recursion (λ (p : StoredPage). 0 < length p.records) a.pages.circle.items (circle_nonempty a.page_count a.pages.tail.number (page_after a.reader_page) a.pages.circle.items c.self.invariant.arranged.circle)

pub oldest-requires-clause-records : goal.oldest-requires-clause-records
oldest-requires-clause-records c =
    all_weaker IsStorable _ (λ r h. h.0) (kept_in c.self.inside.pages) c.self.invariant.storable

pub returns : goal.returns
unfolding stats_shown
returns c =
    let a = c.self.inside in
    let s = c.self.invariant in
    let P : Seen → Type 0 = λ v. record { entries = a.entries; overrun = a.accepted - a.entries - a.read; bytes = a.bytes; oldest = c.oldest.result; dropped = a.dropped; read = a.read } ≡ stats_shown v.shown in
    subst P c.self.view_is (rw (s.entries, s.bytes, c.oldest.ensures) refl)
