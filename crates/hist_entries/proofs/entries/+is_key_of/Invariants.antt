use Rattle.std.proofs.Common.{length}
use Rattle.hist_entries.proofs.entries.+is_key_of.Given as goal

abbrev pub decreases-is_key_of : goal.decreases-is_key_of
decreases-is_key_of l = length l.keys.now
