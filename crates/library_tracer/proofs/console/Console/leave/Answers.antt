use Rattle.std.proofs.Common.{IsSome, sym, subst, ◌∙◌}
use Rattle.library_tracer.specs.ConsolesSeen.{ConsoleSeen}
use Rattle.library_tracer.proofs.LeavingLemmas.{idle_leaves, idle_of, idle_stays}
use Rattle.library_tracer.proofs.console.Console.leave.Goals as goal

pub returns-clause-gone : goal.returns-clause-gone
returns-clause-gone c =
    rw (← c.self.view_is) (idle_leaves c.self.inside c.replace.result c.replace.new.dest (sym c.replace.ensures.value) c.replace.ensures.after c.self.invariant)

pub returns-clause-of : goal.returns-clause-of
returns-clause-of c = rw (← c.self.view_is) (idle_of c.self.inside c.replace.result (sym c.replace.ensures.value) c.self.invariant)

pub returns-clause-busy : goal.returns-clause-busy
returns-clause-busy c =
    let some = subst (λ (s : ConsoleSeen). IsSome s.has) (sym c.self.view_is) c.requires in
    rw (← c.self.view_is) (idle_stays c.self.inside c.replace.result _ (sym c.replace.ensures.value) (sym c.is_some.ensures ∙ c.if-is_some.false) some)
