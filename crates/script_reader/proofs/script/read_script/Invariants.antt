use Rattle.std.proofs.Common.{◌≡◌, ◌≤◌, ◌++◌, length}
use Rattle.std.specs.Io.KnownBytes.{Consumes}
use Rattle.script_reader.proofs.script.read_script.Given as goal

abbrev pub invariant-loop : goal.invariant-loop
invariant-loop g l =
    let remaining = g.R.Source.remaining in
    let failures = g.R.Source.failures in
    record {
      consumed : Consumes (remaining l.fn.reader) (remaining l.reader) l.script.items;
      turns : l.counter ≤ length l.script.items;
      short : length l.script.items ≤ 16777216;
      given : g.R.Source.given l.reader ≡ g.R.Source.given l.fn.reader ++ l.script.items;
      unfailed : failures l.reader ≡ failures l.fn.reader;
      room : length l.chunk ≡ 4096;
    }
