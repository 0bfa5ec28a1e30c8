use Rattle.std.proofs.Common.{◌≡◌, length, arith, length-take, length-drop}
use Rattle.std.proofs.lemmas.Slice.{take-put_mid}
use Rattle.command_log.proofs.ShortEntries.{part_put}
use Rattle.command_log.proofs.short.put_short.Goals as goal

pub returns-clause-bytes : goal.returns-clause-bytes
returns-clause-bytes c =
    let room = c.put_emission.new.out in
    let long : length room ≡ 128 = grind (arith, length-take, length-drop, c.put_emission.ensures.length, c.requires.room) in
    part_put c.args.out.now _ room _ c.args.at c.in_ok-end.end 128
    (take-put_mid c.args.at _ c.args.out.now room _ (omega (arith, long)) (omega (arith, c.requires.room)))
    (omega (arith, c.requires.room)) long (omega (arith, c.in_ok-end.ensures.end, c.put_emission.ensures.length, long)) c.in_ok-end.ensures.bytes
