use Rattle.std.proofs.Common.{◌≡◌, Option, Some, ap, subst, sym, ◌∙◌}
use Rattle.library_tracer.specs.ConsolesSeen.{ConsoleSeen}
use Rattle.library_tracer.specs.PassesSeen.{IsOfPasses}
use Rattle.tracectl_c.specs.Handles.{console_of}
use Rattle.tracectl_c.proofs.PassLemmas.{may_leave}
use Rattle.tracectl_c.proofs.handles.leave.Goals as goal

pub put_back-requires : goal.put_back-requires
put_back-requires c =
    let at : console_of c.args.thread.now ≡ Some c.deref_mut.result.now = sym c.in-Some.ensures.taken ∙ ap Some (sym c.deref_mut.ensures.value) in
    may_leave c.args.passes.now c.deref_mut.result.now c.leave.new.self c.in-Some-leave.caller
    (subst (λ (console : Option ConsoleSeen). IsOfPasses (Some c.args.passes.now) console) at c.requires) c.in-Some-leave.ensures.gone
    c.in-Some-leave.ensures.of
