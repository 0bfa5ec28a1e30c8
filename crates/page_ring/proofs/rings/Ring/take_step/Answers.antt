use Rattle.std.proofs.Common.{◌≡◌, ◌+◌, ◌-◌, ◌∙◌, Some, ap, sym, subst}
use Rattle.std.specs.Option.{option_map}
use Rattle.page_ring.specs.Account.{Reading, first}
use Rattle.page_ring.specs.Pages.{kept_in}
use Rattle.page_ring.specs.Shown.{Seen}
use Rattle.page_ring.specs.Sound.{seen}
use Rattle.page_ring.specs.private.Step.{without_first, readings_shown}
use Rattle.page_ring.proofs.Readings.{circle_full, no_reading, shown_none, without_none, shown_taken, reading_taken, sound_taken, sound_none}
use Rattle.page_ring.proofs.rings.Ring.take_step.Goals as goal

pub take_first-requires-clause-full : goal.take_first-requires-clause-full
take_first-requires-clause-full c = circle_full c.self.inside c.self.invariant

pub invariant_of-self : goal.invariant_of-self
invariant_of-self c = sound_none c.self.inside c.take_first.new.self c.self.invariant c.in_err-taken.ensures

pub returns-in_err-taken-clause-shown : goal.returns-in_err-taken-clause-shown
returns-in_err-taken-clause-shown c =
    let a = c.self.inside in
    let h = c.in_err-taken.ensures in
    let P : Seen → Type 0 = λ s. (seen (record a { pages = c.take_first.new.self })).shown ≡ without_first s.shown in
    subst P c.self.view_is (shown_none a c.take_first.new.self h ∙ sym (without_none (seen a).shown h.before))

pub returns-in_err-taken-clause-answer : goal.returns-in_err-taken-clause-answer
unfolding readings_shown
returns-in_err-taken-clause-answer c =
    let a = c.self.inside in
    let h = c.in_err-taken.ensures in
    let P : Seen → Type 0 = λ s. c.from_residual.result ≡ option_map (λ (k : Reading). k.lost) (first (readings_shown s.shown)) in
    subst P c.self.view_is (c.from_residual.ensures ∙ ap (option_map (λ (k : Reading). k.lost)) (sym (no_reading a.next (kept_in a.pages) h.before)))

pub invariant_of-self-2 : goal.invariant_of-self-2
invariant_of-self-2 c =
    sound_taken c.self.inside c.take_first.new.self c.in_ok-taken.taken c.self.invariant c.in_ok-taken.ensures

pub returns-clause-shown : goal.returns-clause-shown
returns-clause-shown c =
    let a = c.self.inside in
    let taken = c.in_ok-taken.taken in
    let P : Seen → Type 0 = λ s. (seen (record a { pages = c.take_first.new.self; read = a.read + 1; next = taken.number + 1; reader_page = Some taken.page })).shown ≡ without_first s.shown in
    subst P c.self.view_is (shown_taken a c.take_first.new.self taken c.in_ok-taken.ensures)

pub returns-clause-answer : goal.returns-clause-answer
returns-clause-answer c =
    let a = c.self.inside in
    let taken = c.in_ok-taken.taken in
    let P : Seen → Type 0 = λ s. Some (taken.number - a.next) ≡ option_map (λ (k : Reading). k.lost) (first (readings_shown s.shown)) in
    subst P c.self.view_is (reading_taken a c.take_first.new.self taken c.in_ok-taken.ensures)
