use Rattle.std.proofs.Common.{◌≡◌, ◌+◌, ◌∙◌, nat_lt, length, subst}
use Rattle.page_ring.specs.Shown.{Seen}
use Rattle.page_ring.specs.private.Step.{overrun_by}
use Rattle.page_ring.proofs.SoundFacts.{loses_at_next}
use Rattle.page_ring.proofs.rings.Ring.has_to_drop.Goals as goal

pub returns : goal.returns
returns c =
    let P : Seen → Type 0 = λ s. c.head_is_in_the_way.result ≡ nat_lt 0 (length (overrun_by s.pages s.shown (s.shown.last_page + 1))) in
    let loses = subst P c.self.view_is (c.head_is_in_the_way.ensures ∙ loses_at_next c.self.inside c.self.invariant) in
    rw c.if-overwrite.false loses
