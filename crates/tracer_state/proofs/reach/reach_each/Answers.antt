use Rattle.std.proofs.Common.{◌≡◌, ◌∙◌, false, [], arith, get_or, length-set, subst}
use Rattle.std.proofs.lemmas.List.{get_or_default}
use Rattle.trace_instance.specs.Rows.{reach_of}
use Rattle.tracer_state.specs.States.{no_reach}
use Rattle.tracer_state.specs.declared.state.Named.{Named}
use Rattle.tracer_state.proofs.EachInstance.{reached_more, unless_more}
use Rattle.tracer_state.proofs.reach.reach_each.Goals as goal

pub loop-i-preserved : goal.loop-i-preserved
loop-i-preserved c =
    let was = c.loop-i.invariant in
    let instances = c.args.instances.now in
    let one = c.reach_one-here.result in
    let met = c.reach_one-here.ensures in
    let same = λ (n : Named). get_or_default instances c.loop-i.i c.index-instances-i.result n (omega arith) in
    let here : (n : Named) → one.reach ≡ reach_of (get_or instances c.loop-i.i n).instance c.args.event c.args.emission.now =
    λ n. subst (λ (m : Named). one.reach ≡ reach_of m.instance c.args.event c.args.emission.now) (same n) met.reach in
    let none : one.triggered ≡ false → (n : Named) → get_or (get_or instances c.loop-i.i n).instance.hists c.args.event [] ≡ [] =
    λ off n. subst (λ (m : Named). get_or m.instance.hists c.args.event [] ≡ []) (same n) (met.hists off) in record {
      many = length-set _ _ _ ∙ was.many;
      each = reached_more no_reach (λ k r. (n : Named) → r ≡ reach_of (get_or instances k n).instance c.args.event c.args.emission.now)
          c.loop-i.reaches c.loop-i.i one.reach (omega (arith, was.many)) here was.each;
      none = unless_more no_reach (λ k r. r.records ≡ false) c.loop-i.reaches c.loop-i.i one.reach c.loop-i.recorded one.reach.records
          (omega (arith, was.many)) (λ off. off) was.none;
      quiet = unless_more no_reach (λ k r. (r.snapshot_fires ≡ false) × ((n : Named) → get_or (get_or instances k n).instance.hists c.args.event [] ≡ []))
          c.loop-i.reaches c.loop-i.i one.reach c.loop-i.triggered one.triggered (omega (arith, was.many)) (λ off. (met.snapshot_fires off, none off)) was.quiet;
    }

pub returns-clause-quiet : goal.returns-clause-quiet
returns-clause-quiet c = λ off k n inside.
    let quiet = c.loop-i.invariant.quiet off k (omega (arith, inside)) in
    (quiet.0, quiet.1 n)
