use Rattle.std.proofs.Common.{◌-◌, ◌+◌, ◌≤◌, ◌≡◌, not, length, drop}
use Rattle.std.specs.List.{prefix_len}
use Rattle.trace_script.specs.private.Bytes.{is_rare}
use Rattle.trace_script.proofs.bytes.bare_len.Given as goal

abbrev pub invariant-loop-at : goal.invariant-loop-at
invariant-loop-at l =
    record {
      counted : prefix_len (λ b. not (is_rare b)) l.text ≡ l.at + prefix_len (λ b. not (is_rare b)) (drop l.at l.text);
      within : l.at ≤ length l.text;
    }

abbrev pub decreases-loop-at : goal.decreases-loop-at
decreases-loop-at l = length l.text - l.at
