use Rattle.file_list.proofs.Lines.{cpu_more}
use Rattle.file_list.proofs.listing.push_cpus.Goals as goal

pub loop-cpu-preserved : goal.loop-cpu-preserved
loop-cpu-preserved c =
    cpu_more c.args.out.now.items c.loop-cpu.out.items c.push_cpu.new.out.items c.args.instance.now c.loop-cpu.cpu c.loop-cpu.invariant c.in_ok-push_cpu.ensures
