use Rattle.std.proofs.Common.{◌≡◌, ℕ, ◌+◌, ◌-◌, ◌∷◌, [], drop, refl, ap, ◌∙◌, arith}
use Rattle.std.specs.Option.{option_copied}
use Rattle.script_reader.specs.ScriptLines.{lines_left}
use Rattle.script_reader.proofs.LineFinding.{behind_all, next_left, is_found, left_alike}
use Rattle.script_reader.proofs.lines_from.LinesFrom.find.Goals as goal

pub returns-in_default-clause-line : goal.returns-in_default-clause-line
returns-in_default-clause-line c line at =
    let none : lines_left (option_copied c.loop.rest) ≡ [] = rw c.in_default.is refl in
    behind_all (lines_left (option_copied c.args.self.now.rest)) (lines_left (option_copied c.loop.rest)) c.args.self.now.number c.args.number (c.loop.counter - c.args.self.now.number) line
    c.loop.invariant.left none (omega (arith, c.loop.invariant.low, c.loop.invariant.high)) at

pub loop-preserved : goal.loop-preserved
loop-preserved c =
    let first = c.args.self.now.number in
    let all = lines_left (option_copied c.args.self.now.rest) in
    let left = lines_left (option_copied c.loop.rest) in
    let more = lines_left (option_copied c.first_line.result.1) in
    let is : left ≡ c.first_line.result.0.now ∷ more = rw c.in-Some.is c.first_line.ensures.lines in
    let same : c.loop.counter - first + 1 ≡ c.loop.counter + 1 - first = omega (arith, c.loop.invariant.low) in
    record {
      low = omega (arith, c.loop.invariant.low);
      high = omega (arith, c.loop-test.true);
      left = next_left all left more (c.loop.counter - first) c.first_line.result.0.now c.loop.invariant.left is ∙ ap (λ (n : ℕ). drop n all) same;
    }

pub returns-in_default-rest-clause-line : goal.returns-in_default-rest-clause-line
returns-in_default-rest-clause-line c line at =
    let none : lines_left (option_copied c.loop.rest) ≡ [] = rw c.in_default-rest.is refl in
    behind_all (lines_left (option_copied c.args.self.now.rest)) (lines_left (option_copied c.loop.rest)) c.args.self.now.number c.args.number (c.loop.counter - c.args.self.now.number) line
    c.loop.invariant.left none (omega (arith, c.loop.invariant.low, c.loop.invariant.high)) at

pub returns-clause-line : goal.returns-clause-line
returns-clause-line c =
    let first = c.args.self.now.number in
    let all = lines_left (option_copied c.args.self.now.rest) in
    let left = lines_left (option_copied c.loop.rest) in
    let more = lines_left (option_copied c.first_line-2.result.1) in
    let is : left ≡ c.first_line-2.result.0.now ∷ more = rw c.in-Some-rest.is c.first_line-2.ensures.lines in
    let passed : c.loop.counter - first ≡ c.args.number - first = omega (arith, c.loop.invariant.low, c.loop.invariant.high, c.loop-test.false) in
    is_found all left more first c.args.number c.first_line-2.result.0.now (omega (arith, c.loop.invariant.low, c.loop.invariant.high))
    (c.loop.invariant.left ∙ ap (λ (n : ℕ). drop n all) passed) is

pub returns-clause-later : goal.returns-clause-later
returns-clause-later c later line from =
    let first = c.args.self.now.number in
    let all = lines_left (option_copied c.args.self.now.rest) in
    let passed : c.loop.counter - first ≡ c.args.number - first = omega (arith, c.loop.invariant.low, c.loop.invariant.high, c.loop-test.false) in
    left_alike all (lines_left (option_copied c.loop.rest)) first c.args.number later line (omega (arith, c.loop.invariant.low, c.loop.invariant.high))
    (c.loop.invariant.left ∙ ap (λ (n : ℕ). drop n all) passed) from
