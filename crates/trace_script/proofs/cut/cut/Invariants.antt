use Rattle.std.proofs.Common.{◌≡◌, ◌≢◌, [], length}
use Rattle.trace_script.specs.Tokens.{behind, tokens_of}
use Rattle.trace_script.specs.private.Words.{BeginsToken}
use Rattle.trace_script.proofs.cut.cut.Given as goal

abbrev pub invariant-loop-rest : goal.invariant-loop-rest
invariant-loop-rest l =
    record {
      found : behind l.room.list (tokens_of l.rest) ≡ tokens_of l.line;
      begins : l.rest ≢ [] → BeginsToken l.rest;
    }

abbrev pub decreases-loop-rest : goal.decreases-loop-rest
decreases-loop-rest l = length l.rest
