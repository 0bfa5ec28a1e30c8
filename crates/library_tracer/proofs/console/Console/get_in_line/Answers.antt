use Rattle.std.proofs.Common.{inl, inr, sym, ◌∙◌}
use Rattle.library_tracer.proofs.ConsoleLemmas.{drawn, idle_worn, not_drawn}
use Rattle.library_tracer.proofs.console.Console.get_in_line.Goals as goal

pub returns-in-Ok-clause-same : goal.returns-in-Ok-clause-same
returns-in-Ok-clause-same c =
    rw (← c.self.view_is, c.replace.ensures.after, c.line_up.ensures) (inl (drawn c.self.inside c.in-Some.caller (record { line = c.in-Ok.line })
    (sym c.replace.ensures.value ∙ c.in-Some.is) c.self.invariant c.in-Ok.ensures.looked))

pub returns-in-Err-Busy-clause-same : goal.returns-in-Err-Busy-clause-same
returns-in-Err-Busy-clause-same c =
    rw (← c.self.view_is, c.settle.ensures) (inl (not_drawn c.self.inside c.in-Some.caller c.in-Err-Busy.caller (sym c.replace.ensures.value ∙ c.in-Some.is)
    c.self.invariant (rw c.in-Err-Busy.field-0-is at c.in-Err-Busy.ensures.failed)))

pub returns-in-Err-Worn-clause-same : goal.returns-in-Err-Worn-clause-same
returns-in-Err-Worn-clause-same c =
    rw (← c.self.view_is, c.settle-in-Err-Worn.ensures) (inr (idle_worn c.self.inside c.in-Some.caller c.in-Err-Worn.caller (sym c.replace.ensures.value ∙ c.in-Some.is)
    c.self.invariant (rw c.in-Err-Worn.field-0-is at c.in-Err-Worn.ensures.failed)))
