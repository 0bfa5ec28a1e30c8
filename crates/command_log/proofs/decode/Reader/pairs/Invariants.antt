use Rattle.std.proofs.Common.{◌≡◌, ◌-◌}
use Rattle.command_log.specs.EntryDecoding.{after_pairs}
use Rattle.command_log.proofs.decode.Reader.pairs.Given as goal

-- the pairs that are left to pass over
abbrev pub invariant-loop-index : goal.invariant-loop-index
invariant-loop-index l = after_pairs (l.count - l._index) l.self ≡ after_pairs l.count l.initial.self
