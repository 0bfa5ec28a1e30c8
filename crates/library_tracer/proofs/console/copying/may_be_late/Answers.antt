use Rattle.std.proofs.Common.{◌≡◌, inl, inr, true}
use Rattle.std.proofs.lemmas.Bool.Decides.{Decides-eqb}
use Rattle.std.proofs.lemmas.Slice.Eq.{ends_is}
use Rattle.library_tracer.proofs.LateNames.{ends_late, EndsLate}
use Rattle.library_tracer.proofs.console.copying.may_be_late.Goals.{then-ends_with, else-ends_with}
use Rattle.library_tracer.proofs.console.copying.may_be_late.Goals as goal

pub returns-else-ends_with-2 : goal.returns-else-ends_with-2
returns-else-ends_with-2 c late = by (ends_late c.args.path.now late)
  where
    by : EndsLate c.args.path.now → c.ends_with-else-ends_with-2.result ≡ true
    by (inl (front, is)) =
        let yes : c.ends_with.result ≡ true = (ends_is Decides-eqb _ _ _ c.ends_with.ensures.value).1 front is in
        elim c.if-ends_with.branch [ then-ends_with w ↦ absurd (cc (w.value-is, yes)) | else-ends_with w ↦ absurd (cc (w.if-ends_with.false, yes)) ]
    by (inr (inl (front, is))) =
        elim c.if-ends_with.branch [
          | then-ends_with w ↦ absurd (cc (w.value-is, w.if-ends_with.true))
          | else-ends_with w ↦
              let yes : w.ends_with-else-ends_with.result ≡ true = (ends_is Decides-eqb _ _ _ w.ends_with-else-ends_with.ensures.value).1 front is in
              absurd (cc (w.value-is, yes))
        ]
    by (inr (inr (front, is))) = (ends_is Decides-eqb _ _ _ c.ends_with-else-ends_with-2.ensures.value).1 front is
