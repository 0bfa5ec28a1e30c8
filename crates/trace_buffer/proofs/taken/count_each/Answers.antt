use Rattle.std.proofs.Common.{arith, length-set}
use Rattle.trace_buffer.proofs.EachCpu.{counted_few, one_counted, none_counted}
use Rattle.trace_buffer.proofs.taken.count_each.Goals.{then-cpu-lt-CPUS, else-cpu-lt-CPUS}
use Rattle.trace_buffer.proofs.taken.count_each.Goals as goal

pub overflow_add-counts : goal.overflow_add-counts
overflow_add-counts c =
    let few = counted_few c.loop-i.counts c.loop-i.i c.args.records.now _ c.if-cpu-lt-CPUS.true c.loop-i.invariant.counts in
    omega (arith, few, c.loop-i-test.true)

pub loop-i-preserved : goal.loop-i-preserved
loop-i-preserved c =
    let i = c.loop-i.invariant in
    elim c.if-cpu-lt-CPUS.branch [
      | then-cpu-lt-CPUS w ↦ record {
        counts = rw w.counts-is (one_counted c.loop-i.counts c.loop-i.i c.args.records.now _ c.loop-i-test.true i.eight w.if-cpu-lt-CPUS.true i.counts);
        eight = rw w.counts-is (rw length-set i.eight);
        all = i.all;
      }
      | else-cpu-lt-CPUS w ↦ record {
        counts = rw w.counts-is (none_counted c.loop-i.counts c.loop-i.i c.args.records.now _ c.loop-i-test.true w.if-cpu-lt-CPUS.false i.counts);
        eight = rw w.counts-is i.eight;
        all = i.all;
      }
    ]
