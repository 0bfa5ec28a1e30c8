use Rattle.std.proofs.Common.{◌≡◌, ◌++◌, false, take, drop}
use Rattle.trace_filter.specs.Marks.{shift}
use Rattle.trace_filter.specs.private.SeenGlobs.{class_of}
use Rattle.trace_filter.proofs.glob.shift.Given as goal

abbrev pub invariant-loop-offset : goal.invariant-loop-offset
invariant-loop-offset l = take l.offset l.row ++ shift (class_of l.class) l.carry (drop l.offset l.row) (drop l.offset l.text) ≡ shift (class_of l.class) false l.fn.row l.text
