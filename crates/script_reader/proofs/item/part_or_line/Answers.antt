use Rattle.std.proofs.Common.{Ok, refl, arith}
use Rattle.std.specs.Option.{option_copied}
use Rattle.trace_script.specs.declared.line.Line.TheVariants.{Parallel}
use Rattle.script_reader.specs.ScriptLines.{lines_of, lines_left}
use Rattle.script_reader.specs.PartReads.{item_of}
use Rattle.script_reader.proofs.ItemReading.{endless_next, its_line_after, line_left, part_left, part_next}
use Rattle.script_reader.proofs.item.part_or_line.Goals as goal

pub returns-in-Some : goal.returns-in-Some
returns-in-Some c =
    let all = lines_of c.args.text.now in
    let after = lines_left (option_copied c.args.after) in
    let rest = lines_left (option_copied c.in-Some.read.rest) in
    let item = item_of c.in-Some.read.part in
    let part = rw c.in-Some.is at c.in_ok-read.ensures.read in
    let shorter = rw c.in-Some.is at c.in_ok-read.ensures.shorter in
    record {
      read =
          rw (c.part_item.ensures.item c.args.number)
          (part_next c.args.number c.args.line.now all after (Ok Parallel) c.requires.lines c.requires.says item c.in-Some.read.lines rest refl part);
      lines = part_left c.args.number c.args.line.now all after item c.in-Some.read.lines rest c.requires.lines part;
      number = omega arith;
      said = c.part_item.ensures.said;
      line =
          c.part_item.ensures.line c.args.number all
          (its_line_after c.args.number c.in-Some.read.part c.args.line.now all after c.requires.lines (rw c.in-Some.is at c.in_ok-read.ensures.line));
      text = c.part_item.ensures.text;
      shorter = omega (arith, c.requires.shorter, shorter);
      room = omega (arith, c.requires.shorter, shorter);
    }

pub returns-in-None : goal.returns-in-None
returns-in-None c =
    let all = lines_of c.args.text.now in
    let after = lines_left (option_copied c.args.after) in
    record {
      read =
          endless_next c.args.number c.args.line.now all after (Ok Parallel) c.requires.lines c.requires.says refl
          ((rw c.in-None.is at c.in_ok-read.ensures.none) refl);
      lines = line_left c.args.number c.args.line.now all after c.requires.lines;
      number = omega arith;
      said = c.requires.says;
      line = tt;
      text = tt;
      shorter = c.requires.shorter;
      room = omega (arith, c.requires.shorter);
    }
