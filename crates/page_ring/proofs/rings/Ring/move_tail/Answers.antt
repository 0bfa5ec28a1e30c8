use Rattle.std.proofs.Common.{◌≡◌, ◌<◌, ◌+◌, length, sym, subst, arith}
use Rattle.page_ring.specs.Shown.{Seen}
use Rattle.page_ring.specs.Sound.{seen}
use Rattle.page_ring.specs.private.Step.{moved, overrun_by}
use Rattle.page_ring.proofs.SoundFacts.{sound_moved, shown_moved, lost_le_entries, lost_le_bytes, lost_at_next}
use Rattle.page_ring.proofs.rings.Ring.move_tail.Goals as goal

pub overflow_sub-self : goal.overflow_sub-self
overflow_sub-self c =
    let e = lost_le_entries c.self.inside c.self.invariant c.move_tail-lost.result.0 c.move_tail-lost.ensures.lost.records in
    omega arith

pub overflow_sub-self-2 : goal.overflow_sub-self-2
overflow_sub-self-2 c =
    let e = lost_le_bytes c.self.inside c.self.invariant c.move_tail-lost.result.1 c.move_tail-lost.ensures.lost.bytes in
    omega arith

pub invariant_of-self : goal.invariant_of-self
invariant_of-self c =
    let a = c.self.inside in
    let lost = c.move_tail-lost in
    let Filled : Seen → Type 0 = λ s. 0 < s.shown.last_filled in
    sound_moved a c.move_tail-lost.new.self lost.result.0 lost.result.1 c.self.invariant lost.ensures.lost.records lost.ensures.lost.bytes (subst Filled (sym c.self.view_is) c.requires) c.move_tail-lost.ensures.moves

pub returns-clause-shown : goal.returns-clause-shown
returns-clause-shown c =
    let a = c.self.inside in
    let P : Seen → Type 0 = λ v. (seen (record a { pages = c.move_tail-lost.new.self })).shown ≡ moved v.pages v.shown in
    subst P c.self.view_is (shown_moved a c.move_tail-lost.new.self c.self.invariant c.move_tail-lost.ensures.moves)

pub returns-clause-lost : goal.returns-clause-lost
returns-clause-lost c =
    let P : Seen → Type 0 = λ s. c.move_tail-lost.result.0 ≡ length (overrun_by s.pages s.shown (s.shown.last_page + 1)) in
    subst P c.self.view_is (lost_at_next c.self.inside c.self.invariant c.move_tail-lost.result.0 c.move_tail-lost.ensures.lost.records)
