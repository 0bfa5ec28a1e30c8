use Rattle.std.proofs.Common.{◌≡◌, ◌≤◌, length, drop}
use Rattle.trace_buffer.specs.private.Nexts.{next_of}
use Rattle.trace_buffer.proofs.cursor.next_read.Given as goal

abbrev pub invariant-loop-cpu : goal.invariant-loop-cpu
invariant-loop-cpu l = record {
  next : l.next ≡ next_of l.cpu (drop l.cpu l.cursors);
  all : l.cpu ≤ length l.cursors;
}
