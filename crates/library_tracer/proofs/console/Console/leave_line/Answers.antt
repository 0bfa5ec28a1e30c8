use Rattle.std.proofs.Common.{sym, ◌∙◌}
use Rattle.library_tracer.proofs.LeavingLemmas.{line_gives, line_leaves, line_of}
use Rattle.library_tracer.proofs.console.Console.leave_line.Goals as goal
use Rattle.library_tracer.proofs.console.Console.leave_line.Goals.{in-Some, in-None}

pub returns-clause-gone : goal.returns-clause-gone
returns-clause-gone c = elim c.match-look_in_line.branch [
  | in-Some w ↦ rw (w.result-is, w.self-is) (line_leaves c.self.inside _ c.args.self.now c.look_in_line.new.self _ w.replace.result w.replace.new.dest
      c.self.view_is w.in-Some.ensures.in_line w.in-Some.ensures.comes (sym w.replace.ensures.value) w.replace.ensures.after c.self.invariant c.requires)
  | in-None w ↦ rw w.result-is tt
]

pub returns-clause-of : goal.returns-clause-of
returns-clause-of c = elim c.match-look_in_line.branch [
  | in-Some w ↦ rw w.result-is (line_of c.self.inside _ c.args.self.now c.look_in_line.new.self _ w.replace.result w.replace.new.dest
      c.self.view_is w.in-Some.ensures.in_line w.in-Some.ensures.comes (sym w.replace.ensures.value) c.self.invariant)
  | in-None w ↦ rw w.result-is (λ shared same. tt)
]

pub returns-clause-busy : goal.returns-clause-busy
returns-clause-busy c = elim c.match-look_in_line.branch [
  | in-Some w ↦ rw w.result-is (line_gives c.self.inside _ c.args.self.now c.look_in_line.new.self _ w.replace.result w.replace.new.dest
      c.self.view_is w.in-Some.ensures.in_line w.in-Some.ensures.comes (sym w.replace.ensures.value) _)
  | in-None w ↦ rw w.result-is (w.self-is ∙ w.in-None.ensures.waits)
]
