use Rattle.std.proofs.Common.{◌≡◌, ◌+◌, ◌<◌, ◌≤◌, length, sym, subst, arith}
use Rattle.trace_record.proofs.HeadBytes.{sixteen_in}
use Rattle.page_ring.specs.Shown.{Seen, offered, most_offered}
use Rattle.page_ring.specs.Sound.{seen}
use Rattle.page_ring.specs.private.Step.{appended}
use Rattle.page_ring.proofs.Moves.{appends_from}
use Rattle.page_ring.proofs.SoundFacts.{bytes_small, sound_appended, shown_appended}
use Rattle.page_ring.proofs.rings.Ring.append.Goals as goal

pub overflow_add-self-2 : goal.overflow_add-self-2
overflow_add-self-2 c =
    let small = bytes_small c.self.inside c.self.invariant in
    let short : c.self.inside.page_bytes ≤ 4080 = c.self.invariant.short_pages in
    let P : Seen → Type 0 = λ s. s.shown.last_filled + length c.args.rec.now ≤ s.page_bytes in
    let fits = subst P (sym c.self.view_is) c.requires.fits in
    omega arith

pub invariant_of-self : goal.invariant_of-self
invariant_of-self c =
    let a = c.self.inside in
    let s = c.self.invariant in
    let rec = c.args.rec.now in
    let Fits : Seen → Type 0 = λ s. s.shown.last_filled + length rec ≤ s.page_bytes in
    let Few : Seen → Type 0 = λ s. offered s < most_offered in
    sound_appended a c.append.new.self rec s (appends_from a.pages c.append.new.self a.accepted rec s.tail_next c.append.ensures) (sixteen_in rec c.requires.is_record)
    (subst Fits (sym c.self.view_is) c.requires.fits) (subst Few (sym c.self.view_is) c.requires.few)

pub returns-clause-shown : goal.returns-clause-shown
returns-clause-shown c =
    let a = c.self.inside in
    let rec = c.args.rec.now in
    let P : Seen → Type 0 = λ v. (seen (record a { pages = c.append.new.self; accepted = a.accepted + 1 })).shown ≡ appended v.shown rec in
    subst P c.self.view_is (shown_appended a c.append.new.self rec (appends_from a.pages c.append.new.self a.accepted rec c.self.invariant.tail_next c.append.ensures))

pub append-requires-clause-room : goal.append-requires-clause-room
append-requires-clause-room c =
    let a = c.self.inside in
    let P : Seen → Type 0 = λ s. s.shown.last_filled + length c.args.rec.now ≤ s.page_bytes in
    let fits = subst P (sym c.self.view_is) c.requires.fits in
    let room : a.page_bytes ≤ a.pages.tail.room = c.self.invariant.room.tail.room in
    omega arith

pub append-requires-clause-few : goal.append-requires-clause-few
append-requires-clause-few c =
    let a = c.self.inside in
    let Few : Seen → Type 0 = λ s. offered s < most_offered in
    let few = subst Few (sym c.self.view_is) c.requires.few in
    let next : a.pages.tail.next ≡ a.accepted = c.self.invariant.tail_next in
    omega arith
