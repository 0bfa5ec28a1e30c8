use Rattle.std.proofs.Common.{◌≡◌, ℕ, ◌+◌, ◌-◌, ◌<◌, ◌≤◌, List, length, refl, sym, subst, arith, rules}
use Rattle.mount_replies.specs.Lines.{asked_by_line, most_kept}
use Rattle.mount_replies.proofs.PieceLemmas.{found}
use Rattle.mount_replies.proofs.StreamLemmas.{StreamsSoFar, done-of, none-of, one-line, rest-is, still-together, stream-begun, stream-ended, stream-stopped, stream-too-long}
use Rattle.mount_replies.proofs.mount.Mount.do_stream.Goals as goal

pub loop-at-init : goal.loop-at-init
loop-at-init c = record {
  so_far = λ past own mounted is.
      stream-begun past c.args.self.now (asked_by_line c.args.self.now.live.config.cpus c.args.pid own) c.args.kept c.args.size c.args.bytes.now mounted;
  together = omega arith;
  done_is = omega arith;
}

pub returns-in-Err-clause-runs : goal.returns-in-Err-clause-runs
returns-in-Err-clause-runs c = λ past own mounted is.
    stream-stopped past c.args.self.now c.loop-at.self c.do_injection.new.self c.args.event c.args.pid own c.args.kept c.args.size c.loop-at.from c.loop-at.done
    c.in-Some.at c.loop-at.rest.now c.args.bytes.now _ c.in-Err.fault (c.loop-at.invariant.so_far past own mounted is) is c.in-Some.ensures refl c.in-Err.ensures

pub returns-in-Err-clause-few : goal.returns-in-Err-clause-few
returns-in-Err-clause-few c = omega (arith, c.loop-at.invariant.together, c.loop-at.invariant.done_is)

pub overflow_add-from : goal.overflow_add-from
overflow_add-from c =
    let within : c.in-Some.at < length c.loop-at.rest.now = (found c.loop-at.rest.now c.in-Some.at c.in-Some.ensures).0 in
    let together = c.loop-at.invariant.together in
    first_of (search rules, omega arith)

pub overflow_add-rest : goal.overflow_add-rest
overflow_add-rest c =
    let within : c.in-Some.at < length c.loop-at.rest.now = (found c.loop-at.rest.now c.in-Some.at c.in-Some.ensures).0 in
    let together = c.loop-at.invariant.together in
    first_of (search rules, omega arith)

pub overflow_add-from-in-Some : goal.overflow_add-from-in-Some
overflow_add-from-in-Some c =
    let within : c.in-Some.at < length c.loop-at.rest.now = (found c.loop-at.rest.now c.in-Some.at c.in-Some.ensures).0 in
    let together = c.loop-at.invariant.together in
    first_of (search rules, omega arith)

pub loop-at-preserved : goal.loop-at-preserved
loop-at-preserved c =
    let within : c.in-Some.at < length c.loop-at.rest.now = (found c.loop-at.rest.now c.in-Some.at c.in-Some.ensures).0 in
    let ends : c.saturating_sub-done.result ≡ (c.loop-at.from + (c.in-Some.at + 1)) - c.args.kept = c.saturating_sub-done.ensures in
    record {
      so_far = λ past own mounted is.
          subst (λ (r : List ℕ). StreamsSoFar past c.args.self.now c.do_injection.new.self (asked_by_line c.args.self.now.live.config.cpus c.args.pid own)
          c.args.kept c.args.size (c.loop-at.from + (c.in-Some.at + 1)) c.saturating_sub-done.result r c.args.bytes.now) (sym (rest-is (c.in-Some.at + 1) c.loop-at.rest.now))
          (one-line past c.args.self.now c.loop-at.self c.do_injection.new.self c.args.event c.args.pid own c.args.kept c.args.size c.loop-at.from
          (c.loop-at.from + (c.in-Some.at + 1)) c.loop-at.done c.saturating_sub-done.result c.in-Some.at c.loop-at.rest.now c.args.bytes.now
          (c.loop-at.invariant.so_far past own mounted is) is c.in-Some.ensures refl ends
          (λ before seen led there. done-of before c.loop-at.self c.do_injection.new.self _ c.do_injection.result c.in_default-do_injection.not-Err
          (c.do_injection.ensures before seen led there)));
      together = still-together c.loop-at.from c.in-Some.at (length c.args.bytes.now) c.loop-at.rest.now within c.loop-at.invariant.together;
      done_is = ends;
    }

pub returns-then-rest-gt-MOST_KEPT-clause-runs : goal.returns-then-rest-gt-MOST_KEPT-clause-runs
returns-then-rest-gt-MOST_KEPT-clause-runs c =
    let long : most_kept < length c.loop-at.rest.now = first_of (omega arith, search rules) in
    λ past own mounted is.
    stream-too-long past c.args.self.now c.loop-at.self (asked_by_line c.args.self.now.live.config.cpus c.args.pid own) c.args.kept c.args.size c.loop-at.from c.loop-at.done
    c.loop-at.rest c.loop-at.rest.now c.args.bytes.now (c.loop-at.invariant.so_far past own mounted is)
    (none-of c.newline_at.result _ c.newline_at.ensures c.in_default.not-Some) refl long

pub returns-then-rest-gt-MOST_KEPT-clause-few : goal.returns-then-rest-gt-MOST_KEPT-clause-few
returns-then-rest-gt-MOST_KEPT-clause-few c = omega (arith, c.loop-at.invariant.together, c.loop-at.invariant.done_is)

pub returns-clause-runs : goal.returns-clause-runs
returns-clause-runs c =
    let short : length c.loop-at.rest.now ≤ most_kept = first_of (omega arith, search rules) in
    λ past own mounted is.
    stream-ended past c.args.self.now c.loop-at.self (asked_by_line c.args.self.now.live.config.cpus c.args.pid own) c.args.kept c.args.size c.loop-at.from c.loop-at.done
    c.loop-at.rest.now c.args.bytes.now (c.loop-at.invariant.so_far past own mounted is)
    (none-of c.newline_at.result _ c.newline_at.ensures c.in_default.not-Some) short

pub returns-clause-few : goal.returns-clause-few
returns-clause-few c = omega (arith, c.loop-at.invariant.together, c.loop-at.invariant.done_is)
