use Rattle.std.proofs.lemmas.Bool.{ltb-true, ltb-false, false≢true}
use Rattle.std.proofs.Common.{ℕ, ◌≡◌, ◌<◌, nat_lt, not, ◌&&◌, ◌⊎◌, Bool, arith, true, false, refl, sym, ap, ◌∙◌, inl, inr}
use Rattle.page_ring.specs.private.Step.{appended}
use Rattle.page_ring.specs.Shown.{Shown}
use Rattle.page_ring.proofs.Steps.{put_here, put_there, put_refused, kept_losing-none, kept_losing-some}
use Rattle.page_ring.proofs.rings.Ring.put_step.Goals as goal

pub returns-then-fits_tail-clause-shown : goal.returns-then-fits_tail-clause-shown
returns-then-fits_tail-clause-shown c =
    let s = c.args.self.now in
    c.append.ensures.shown ∙ sym (put_here s.pages s.page_bytes s.shown c.args.rec.now c.args.overwrite (sym c.fits_tail.ensures.fits ∙ c.if-fits_tail.true) c.fits_tail.ensures.none c.fits_tail.ensures.all).0

pub returns-then-fits_tail-clause-answer : goal.returns-then-fits_tail-clause-answer
returns-then-fits_tail-clause-answer c =
    let s = c.args.self.now in
    sym (put_here s.pages s.page_bytes s.shown c.args.rec.now c.args.overwrite (sym c.fits_tail.ensures.fits ∙ c.if-fits_tail.true) c.fits_tail.ensures.none c.fits_tail.ensures.all).1

-- it was allowed to overwrite, or there was nothing to lose
allowed : (drops overwrite : Bool) (gone : ℕ) → drops ≡ not overwrite && nat_lt 0 gone → drops ≡ false → (overwrite ≡ true) ⊎ (gone ≡ 0)
allowed drops true gone e f = inl refl
allowed drops false gone e f = let none = ltb-false 0 gone (sym e ∙ f) in inr (omega arith)

-- it wasn't, and there was
forbidden : (drops overwrite : Bool) (gone : ℕ) → drops ≡ not overwrite && nat_lt 0 gone → drops ≡ true → (overwrite ≡ false) × (0 < gone)
forbidden drops true gone e t = absurd (false≢true (sym e ∙ t))
forbidden drops false gone e t = (refl, ltb-true 0 gone (sym e ∙ t))

pub returns-then-has_to_drop-clause-shown : goal.returns-then-has_to_drop-clause-shown
returns-then-has_to_drop-clause-shown c =
    let s = c.args.self.now in
    let both = forbidden _ _ _ c.has_to_drop.ensures c.if-has_to_drop.true in
    c.refuse.ensures.shown ∙ sym (put_refused s.pages s.page_bytes s.shown c.args.rec.now c.args.overwrite (sym c.fits_tail.ensures.fits ∙ c.if-fits_tail.false) both.0 both.1).0

pub returns-then-has_to_drop-clause-answer : goal.returns-then-has_to_drop-clause-answer
returns-then-has_to_drop-clause-answer c =
    let s = c.args.self.now in
    let both = forbidden _ _ _ c.has_to_drop.ensures c.if-has_to_drop.true in
    sym (put_refused s.pages s.page_bytes s.shown c.args.rec.now c.args.overwrite (sym c.fits_tail.ensures.fits ∙ c.if-fits_tail.false) both.0 both.1).1

pub returns-then-lost-eq0-clause-shown : goal.returns-then-lost-eq0-clause-shown
returns-then-lost-eq0-clause-shown c =
    let s = c.args.self.now in
    c.append-2.ensures.shown ∙ ap (λ (x : Shown). appended x c.args.rec.now) c.move_tail-lost.ensures.shown ∙ sym (put_there s.pages s.page_bytes s.shown c.args.rec.now c.args.overwrite (sym c.fits_tail.ensures.fits ∙ c.if-fits_tail.false) (allowed _ _ _ c.has_to_drop.ensures c.if-has_to_drop.false)).0

pub returns-then-lost-eq0-clause-answer : goal.returns-then-lost-eq0-clause-answer
returns-then-lost-eq0-clause-answer c =
    let s = c.args.self.now in
    kept_losing-none _ (sym c.move_tail-lost.ensures.lost ∙ c.if-lost-eq0.true) ∙ sym (put_there s.pages s.page_bytes s.shown c.args.rec.now c.args.overwrite (sym c.fits_tail.ensures.fits ∙ c.if-fits_tail.false) (allowed _ _ _ c.has_to_drop.ensures c.if-has_to_drop.false)).1

pub returns-else-lost-eq0-clause-shown : goal.returns-else-lost-eq0-clause-shown
returns-else-lost-eq0-clause-shown c =
    let s = c.args.self.now in
    c.append-2.ensures.shown ∙ ap (λ (x : Shown). appended x c.args.rec.now) c.move_tail-lost.ensures.shown ∙ sym (put_there s.pages s.page_bytes s.shown c.args.rec.now c.args.overwrite (sym c.fits_tail.ensures.fits ∙ c.if-fits_tail.false) (allowed _ _ _ c.has_to_drop.ensures c.if-has_to_drop.false)).0

pub returns-else-lost-eq0-clause-answer : goal.returns-else-lost-eq0-clause-answer
returns-else-lost-eq0-clause-answer c =
    let s = c.args.self.now in
    kept_losing-some _ _ c.if-lost-eq0.false c.move_tail-lost.ensures.lost ∙ sym (put_there s.pages s.page_bytes s.shown c.args.rec.now c.args.overwrite (sym c.fits_tail.ensures.fits ∙ c.if-fits_tail.false) (allowed _ _ _ c.has_to_drop.ensures c.if-has_to_drop.false)).1
