use Rattle.std.proofs.Common.{sym, arith}
use Rattle.mount_tree.proofs.EntryLemmas.{cpu_named_here, cpu_named_later}
use Rattle.mount_tree.proofs.entry.cpu_named.Goals as goal

pub returns-then-eq : goal.returns-then-eq
returns-then-eq c =
    let same = rw (c.as_bytes.ensures.value, c.cpu_name.ensures) at c.if-eq.ensures in
    sym (cpu_named_here c.args.name.now c.args.owner c.args.cpus c.loop-cpu.cpu (omega arith) c.loop-cpu.invariant (sym same))

pub loop-cpu-preserved : goal.loop-cpu-preserved
loop-cpu-preserved c =
    let differs = rw (c.as_bytes.ensures.value, c.cpu_name.ensures) at c.if-eq.ensures in
    cpu_named_later c.args.name.now c.args.owner c.loop-cpu.cpu c.loop-cpu.invariant (sym differs)
