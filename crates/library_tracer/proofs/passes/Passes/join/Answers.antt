use Rattle.std.proofs.Common.{slice_set, Some, None, IfOk, refl, sym, ap, subst, ◌∙◌}
use Rattle.std.proofs.lemmas.Option.{slice_get_read}
use Rattle.shared_mount.specs.MountCallers.{IsCallerOf}
use Rattle.library_tracer.specs.PassesSeen.{HasTaken}
use Rattle.library_tracer.specs.Tiled.{IsFirstThere}
use Rattle.library_tracer.proofs.PassLemmas.{is_its, none_seen, new_console, ok_with, some_seen, sound_without, taken_of, view}
use Rattle.library_tracer.proofs.passes.Passes.join.Goals as goal
use Rattle.library_tracer.proofs.passes.Passes.join.Goals.{in-Some-replace, in-None}

pub returns-in_default-first_there-clause-err : goal.returns-in_default-first_there-clause-err
returns-in_default-first_there-clause-err c =
    let p = c.self.inside in (
      refl,
      λ _. none_seen p.tracer p.callers.items _ c.self.view_is
          (subst (λ xs. IsFirstThere xs None) c.deref.ensures.value c.in_default-first_there.ensures),
    )

pub returns-in_default-try_clone-clause-none : goal.returns-in_default-try_clone-clause-none
returns-in_default-try_clone-clause-none c =
    let p = c.self.inside in
    let first = subst (λ xs. IsFirstThere xs (Some c.in-Some-first_there.index)) c.deref.ensures.value c.in-Some-first_there.ensures in
    λ m. absurd (some_seen p.tracer c.in-Some.tracer p.callers.items _ _ c.in-Some.is c.self.view_is first m)

pub new-requires : goal.new-requires
new-requires c =
    let p = c.self.inside in
    let index = c.in-Some-first_there.index in
    let first = subst (λ xs. IsFirstThere xs (Some index)) c.deref.ensures.value c.in-Some-first_there.ensures in
    let there = slice_get_read p.callers.items _ index _ refl first.0 c.index_mut.ensures.value
    ∙ ap (λ o. Some o) (sym c.replace.ensures.value ∙ c.in-Some-replace.is) in
    subst (λ s. IsCallerOf s c.in-Some-replace.caller) (sym c.in-Ok.ensures)
    (is_its p.tracer c.in-Some.tracer p.callers.items index _ c.in-Some.is c.self.invariant there)

pub invariant_of-self : goal.invariant_of-self
invariant_of-self c = sound_without c.self.inside.tracer c.self.inside.callers.items _ _ c.replace.ensures.after c.self.invariant

pub returns-clause-taken : goal.returns-clause-taken
returns-clause-taken c =
    let p = c.self.inside in
    let index = c.in-Some-first_there.index in
    let first = subst (λ xs. IsFirstThere xs (Some index)) c.deref.ensures.value c.in-Some-first_there.ensures in
    let after = view p.tracer (slice_set p.callers.items index c.replace.new.dest) in
    elim c.match-replace.branch [
      | in-Some-replace w ↦
          let caller = w.in-Some-replace.caller in
          let there = slice_get_read p.callers.items _ index _ refl first.0 c.index_mut.ensures.value
          ∙ ap (λ o. Some o) (sym c.replace.ensures.value ∙ w.in-Some-replace.is) in
          let console = w.new.ensures ∙ ap (λ s. new_console s caller) c.in-Ok.ensures in
          ok_with c.match-replace.result (HasTaken c.args.self.now after) w.new.result w.result-is
          (subst (λ s. HasTaken c.args.self.now after s) (sym console)
          (taken_of p.tracer c.in-Some.tracer p.callers.items _ index _ caller c.in-Some.is c.self.view_is c.self.invariant c.replace.ensures.after first.2 there))
      | in-None w ↦ subst (λ r. IfOk r (HasTaken c.args.self.now after)) (sym w.result-is) tt
    ]
