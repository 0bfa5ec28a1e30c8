use Rattle.std.proofs.Common.{◌≡◌, ◌+◌, ◌-◌, ◌<◌, ◌^◌, ◌∷◌, List, subst, arith}
use Rattle.page_ring.specs.StoredPage.{Stored}
use Rattle.page_ring.specs.Packed.{records_in}
use Rattle.page_ring.proofs.PackedFacts.{packed_first}
use Rattle.page_ring.proofs.page.PageRecords.next_record.Goals as goal

pub invariant_of-self : goal.invariant_of-self
invariant_of-self c =
    let it = c.self.inside in
    let begins = packed_first it.number it.left it.bytes.now c.if-self-eq0.false c.self.invariant.packed in
    let small : it.number + it.left < 2 ^ 64 = c.self.invariant.small in
    record { packed = rw (c.split_at.ensures.back, c.told_length.ensures) begins.packed; small = omega arith }

pub returns : goal.returns
returns c =
    let it = c.self.inside in
    let begins = packed_first it.number it.left it.bytes.now c.if-self-eq0.false c.self.invariant.packed in
    let P : List Stored → Type 0 = λ rs. rs ≡ record { number = it.number; bytes = c.split_at.result.0.now } ∷ records_in (it.number + 1) (it.left - 1) c.split_at.result.1.now in
    subst P c.self.view_is (rw (c.split_at.ensures.front, c.split_at.ensures.back, c.told_length.ensures) begins.records)
