use Rattle.std.proofs.Common.{◌≡◌, ◌∷◌, ap, sym, ◌∙◌, arith}
use Rattle.std.specs.Option.{option_copied}
use Rattle.script_reader.specs.Items.{ends_with}
use Rattle.script_reader.specs.PartReads.{item_of}
use Rattle.script_reader.specs.ScriptLines.{lines_left}
use Rattle.script_reader.proofs.PartReading.{goes_on, ends_here, line_here}
use Rattle.script_reader.proofs.part.read_part.Goals as goal

pub returns-then-ends-clause-read : goal.returns-then-ends-clause-read
returns-then-ends-clause-read c =
    ends_here c.args.number (lines_left (option_copied c.args.text)) (item_of c.loop-rest.part) c.loop-rest.lines (lines_left (option_copied c.loop-rest.rest))
    c.loop-rest.invariant.reads c.first_line.result.0.now (lines_left (option_copied c.first_line.result.1)) (rw c.in-Some.is c.first_line.ensures.lines)
    (ap ends_with (sym c.in_ok-said.ensures.read) ∙ sym c.if-ends.ensures)

pub loop-rest-preserved : goal.loop-rest-preserved
loop-rest-preserved c =
    let all = lines_left (option_copied c.args.text) in
    let left = lines_left (option_copied c.loop-rest.rest) in
    let line = c.first_line.result.0.now in
    let more = lines_left (option_copied c.first_line.result.1) in
    let is : left ≡ line ∷ more = rw c.in-Some.is c.first_line.ensures.lines in
    record {
      reads =
          goes_on c.args.number all (item_of c.loop-rest.part) c.loop-rest.lines left c.loop-rest.invariant.reads line more is (item_of c.in_ok-part.part)
          (ap ends_with (sym c.in_ok-said.ensures.read) ∙ sym c.if-ends.ensures) c.in_ok-part.ensures.reads;
      kept =
          c.in_ok-part.ensures.line c.args.number all
          (line_here c.args.number all (item_of c.loop-rest.part) c.loop-rest.lines left c.loop-rest.invariant.reads line more is) c.loop-rest.invariant.kept;
      room = omega (arith, rw c.in-Some.is at c.loop-rest.invariant.room, c.first_line.ensures.shorter);
    }
