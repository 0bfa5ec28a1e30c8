use Rattle.std.proofs.Common.{◌≡◌, ℤ, ◌≤◌, length, take, inl, subst, sym, to_z, of_z, w32, rules, arith}
use Rattle.std.proofs.lemmas.Int.{to_z-of_z}
use Rattle.std.proofs.lemmas.List.{length-take-le}
use Rattle.library_tracer.specs.Consoles.{Comes, said_values}
use Rattle.tracectl_c.proofs.asking.emit_several.Goals as goal

pub returns-then-values-gt-FEW-clause-asked : goal.returns-then-values-gt-FEW-clause-asked
returns-then-values-gt-FEW-clause-asked c =
    let process : to_z w32 (of_z w32 c.args.process) ≡ c.args.process = to_z-of_z w32 c.args.process (search rules) in rw process at c.emit_list.ensures.asked

pub slice_bounds-room-end : goal.slice_bounds-room-end
slice_bounds-room-end c = omega (arith, c.put_few.ensures.size)

pub slice_bounds-emit_values-end : goal.slice_bounds-emit_values-end
slice_bounds-emit_values-end c = sym (length-take-le (length c.args.values.now) c.put_few.new.room (omega (arith, c.put_few.ensures.size)))

pub returns-then-put_few-clause-asked : goal.returns-then-put_few-clause-asked
returns-then-put_few-clause-asked c =
    let process : to_z w32 (of_z w32 c.args.process) ≡ c.args.process = to_z-of_z w32 c.args.process (search rules) in
    rw (sym (c.put_few.ensures.all c.if-put_few.true))
    (inl (subst (λ (p : ℤ). Comes (said_values c.args.event c.args.cpu p (take (length c.args.values.now) c.put_few.new.room)) c.args.console.now
    c.emit_values.new.self c.emit_values.result) process c.emit_values.ensures.comes))

pub returns-else-put_few-clause-asked : goal.returns-else-put_few-clause-asked
returns-else-put_few-clause-asked c = rw (sym (c.put_few.ensures.none c.if-put_few.false)) (inl c.refuse.ensures.comes)
