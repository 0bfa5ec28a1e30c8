use Rattle.std.proofs.Common.{◌≡◌, ◌++◌, length}
use Rattle.std.specs.Option.{option_map}
use Rattle.trace_script.specs.private.Bytes.{highest_rank}
use Rattle.trace_script.specs.private.Emissions.{pairs_in}
use Rattle.trace_script.specs.private.Marks.{IsMarked}
use Rattle.trace_script.proofs.marked.marked_pairs.Given as goal

abbrev pub invariant-loop-pair : goal.invariant-loop-pair
invariant-loop-pair l =
    record {
      bare : highest_rank l.rest.text.now ≡ 0;
      marked : IsMarked l.rest;
      taken : option_map (λ more. l.pairs.items ++ more) (pairs_in l.rest.text.now) ≡ pairs_in l.line.text.now;
    }

abbrev pub decreases-loop-pair : goal.decreases-loop-pair
decreases-loop-pair l = length l.rest.text.now
