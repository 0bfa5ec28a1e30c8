use Rattle.std.proofs.Common.{◌≡◌, ◌++◌, true, length}
use Rattle.std.specs.Option.{option_map}
use Rattle.trace_script.specs.PlainEmissions.{is_spaced}
use Rattle.trace_script.specs.private.Bytes.{highest_rank}
use Rattle.trace_script.specs.private.Emissions.{pairs_in}
use Rattle.trace_script.proofs.emission.cut_pairs.Given as goal

abbrev pub invariant-loop-pair : goal.invariant-loop-pair
invariant-loop-pair l =
    record {
      bare : highest_rank l.rest ≡ 0;
      taken : option_map (λ more. l.pairs.items ++ more) (pairs_in l.rest) ≡ pairs_in l.line;
      spaced : is_spaced true l.line ≡ true → is_spaced true l.rest ≡ true;
    }

abbrev pub decreases-loop-pair : goal.decreases-loop-pair
decreases-loop-pair l = length l.rest
