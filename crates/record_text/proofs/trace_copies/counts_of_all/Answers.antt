use Rattle.std.proofs.Common.{◌∙◌, ap, arith}
use Rattle.page_ring.specs.Copies.{Copied}
use Rattle.page_ring.specs.declared.rings.RingStats.{RingStats}
use Rattle.record_text.proofs.BufferLemmas.{no_copy, sum_with_next, sum_of_all}
use Rattle.record_text.proofs.trace_copies.counts_of_all.Goals as goal

pub loop-cpu-preserved : goal.loop-cpu-preserved
loop-cpu-preserved c =
    let copies = c.args.copy.now in
    let counts = c.stats-counts.ensures no_copy in
    record {
      kept = sum_with_next (λ (copy : Copied). copy.stats.entries) copies c.loop-cpu.cpu _ _ (omega arith) c.loop-cpu.invariant.kept
          (c.from-kept.ensures ∙ ap (λ (s : RingStats). s.entries) counts);
      overrun = sum_with_next (λ (copy : Copied). copy.stats.overrun) copies c.loop-cpu.cpu _ _ (omega arith) c.loop-cpu.invariant.overrun
          (c.from-overrun.ensures ∙ ap (λ (s : RingStats). s.overrun) counts);
      few = omega arith;
      few_overrun = omega arith;
    }

pub returns-clause-kept : goal.returns-clause-kept
returns-clause-kept c =
    sum_of_all (λ (copy : Copied). copy.stats.entries) c.args.copy.now c.loop-cpu.cpu _ (omega arith) c.loop-cpu.invariant.kept

pub returns-clause-overrun : goal.returns-clause-overrun
returns-clause-overrun c =
    sum_of_all (λ (copy : Copied). copy.stats.overrun) c.args.copy.now c.loop-cpu.cpu _ (omega arith) c.loop-cpu.invariant.overrun
