use Rattle.std.proofs.Common.{◌≡◌, ◌-◌, length, take, drop, ap, ◌∙◌, arith, length-drop}
use Rattle.std.proofs.lemmas.List.{take_all}
use Rattle.command_log.proofs.ShortEntries.{ends_put}
use Rattle.command_log.proofs.short.put_ends.Goals as goal

pub returns-clause-bytes : goal.returns-clause-bytes
returns-clause-bytes g c =
    let text = c.args.text.now in
    let k = length text - g.row.N in
    let all : take (length text - k) (drop k text) ≡ drop k text = take_all (length text - k) (drop k text) (omega (arith, length-drop k text)) in
    let last = ap (take g.row.N) all ∙ take_all g.row.N (drop k text) (omega (arith, length-drop k text)) in
    ends_put c.args.out.now c.put_first.new.out c.put_first-2.new.out text _ _ _ c.args.at g.row.N k (omega arith) (omega arith) (omega arith) c.put_first.ensures.bytes c.put_first-2.ensures.bytes last
