use Rattle.std.proofs.Common.{◌≡◌, to_z, of_z, w32, rules}
use Rattle.std.proofs.lemmas.Int.{to_z-of_z}
use Rattle.tracer_state.proofs.EachInstance.{neither}
use Rattle.tracer_state.proofs.emission.prepare_row.Goals as goal

pub reserve_if-requires-clause-none : goal.reserve_if-requires-clause-none
reserve_if-requires-clause-none c = λ off k n inside. (c.reach_planned-reached.ensures.quiet off k n inside).1

pub returns-clause-reserved : goal.returns-clause-reserved
returns-clause-reserved c =
    let d = c.args.delivery.now in
    let pid : to_z w32 (of_z w32 d.pid) ≡ d.pid = to_z-of_z w32 d.pid (search rules) in record {
      recorded = c.reach_planned-reached.result.recorded;
      reached = rw pid at c.reach_planned-reached.ensures.reached;
      idle = λ k n inside off.
          let both = neither c.reach_planned-reached.result.recorded c.reach_planned-reached.result.triggered off in
          let quiet = c.reach_planned-reached.ensures.quiet both.1 k n inside in
          (c.reach_planned-reached.ensures.reached.none both.0 k n inside, quiet.0, quiet.1);
      ahead = rw pid at c.in_ok-write_ahead.ensures.ahead;
      sized = c.in_ok-write_ahead.ensures.length;
      passed = rw pid at c.in_ok-reserve_if.ensures.passed;
      counted = rw pid at c.in_ok-reserve_if.ensures.counted;
    }
