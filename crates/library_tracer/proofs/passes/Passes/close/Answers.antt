use Rattle.std.proofs.Common.{ap, sym, subst, ◌∙◌}
use Rattle.shared_mount.specs.MountCallers.{terms_of}
use Rattle.shared_mount.specs.MountHistories.{IsOneHistory}
use Rattle.library_tracer.specs.Tiled.{AreParts, ContinuesEach}
use Rattle.library_tracer.proofs.PassLemmas.{are_parts, closed_of, view}
use Rattle.library_tracer.proofs.passes.Passes.close.Goals as goal

pub end-requires : goal.end-requires
end-requires c =
    let p = c.self.inside in
    let parts = are_parts p.tracer c.in-Some.tracer p.callers.items _ (sym c.replace.ensures.value ∙ c.in-Some.is) c.self.view_is c.self.invariant
    (c.is_whole.ensures.0 c.if-not-is_whole.false) in
    subst (λ v. AreParts c.in-Ok.tracer 0 1024 v.items) (sym c.replace-in-Ok.ensures.value)
    (subst (λ s. AreParts s 0 1024 p.callers.items) (sym c.in-Ok.ensures.ok) parts)

pub returns-in-Ok-clause-closed : goal.returns-in-Ok-clause-closed
returns-in-Ok-clause-closed c = λ _.
    let p = c.self.inside in
    let history = c.end.ensures.0 in
    let each = subst (λ v. ContinuesEach history 0 v.items) c.replace-in-Ok.ensures.value c.end.ensures.2 in
    let here = subst (λ s. IsOneHistory (terms_of s) history) c.in-Ok.ensures.ok c.end.ensures.1 in
    closed_of p.tracer c.in-Some.tracer p.callers.items _ _ history (sym c.replace.ensures.value ∙ c.in-Some.is) c.self.view_is
    (c.is_whole.ensures.0 c.if-not-is_whole.false) here each (ap (λ t. view t c.replace-in-Ok.new.dest.items) c.replace.ensures.after)
