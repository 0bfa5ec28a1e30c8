use Rattle.std.proofs.Common.{◌≡◌, ℕ, ◌+◌, ◌-◌, ◌<◌, ◌^◌, [], drop, subst, ap, refl, ◌∙◌, arith}
use Rattle.page_ring.specs.Packed.{records_in}
use Rattle.trace_record.specs.Record.{told_length}
use Rattle.page_ring.specs.StoredPage.{StoredPage}
use Rattle.page_ring.specs.PageReads.{TakesFrom}
use Rattle.page_ring.specs.PageBytes.{seen_page}
use Rattle.page_ring.proofs.PageBytesFacts.{page_taken, takes_from, rest_of, unread_head, unread_ends}
use Rattle.page_ring.proofs.page.Page.take_first.Goals as goal

pub invariant_of-self : goal.invariant_of-self
invariant_of-self c =
    page_taken c.self.inside c.told_length-length.result c.self.invariant c.if-self-eq0.false (c.told_length-length.ensures ∙ ap told_length (rest_of c.self.inside.cursor c.deref.result.now c.self.inside.bytes.items c.deref.ensures.value))

pub returns : goal.returns
returns c =
    let a = c.self.inside in
    let size = c.told_length-length.result in
    let P : StoredPage → Type 0 = λ p. TakesFrom p (seen_page (record a { cursor = a.cursor + size; first = a.first + 1; unread = a.unread - 1 })) a.first size in
    subst P c.self.view_is (takes_from a size c.self.invariant c.if-self-eq0.false (c.told_length-length.ensures ∙ ap told_length (rest_of c.self.inside.cursor c.deref.result.now c.self.inside.bytes.items c.deref.ensures.value)))

pub returns-then-self-eq0 : goal.returns-then-self-eq0
returns-then-self-eq0 c =
    let a = c.self.inside in
    let P : StoredPage → Type 0 = λ p. (p.records ≡ []) × (p ≡ p) in
    subst P c.self.view_is (ap (λ (n : ℕ). records_in a.first n (drop a.cursor a.bytes.items)) c.if-self-eq0.true, refl)

pub told_length-length-requires : goal.told_length-length-requires
told_length-length-requires c =
    unread_head c.self.inside _ c.self.invariant c.if-self-eq0.false (rest_of c.self.inside.cursor c.deref.result.now c.self.inside.bytes.items c.deref.ensures.value)

pub overflow_add-self : goal.overflow_add-self
overflow_add-self c =
    let ends = unread_ends c.self.inside c.told_length-length.result c.self.invariant c.if-self-eq0.false (c.told_length-length.ensures ∙ ap told_length (rest_of c.self.inside.cursor c.deref.result.now c.self.inside.bytes.items c.deref.ensures.value)) in
    omega arith

pub overflow_add-self-2 : goal.overflow_add-self-2
overflow_add-self-2 c =
    let small : c.self.inside.first + c.self.inside.unread < 2 ^ 64 = c.self.invariant.small in
    omega arith
