use Rattle.std.proofs.Common.{◌≡◌, length, take}
use Rattle.std.proofs.lemmas.List.{length-take-le}
use Rattle.command_log.proofs.ShortEntries.{first_put}
use Rattle.command_log.proofs.short.put_first.Goals as goal

pub returns-clause-bytes : goal.returns-clause-bytes
returns-clause-bytes g c =
    let text = c.args.text.now in
    let long : length (take g.row.N text) ≡ g.row.N = length-take-le g.row.N text c.requires.0 in
    first_put c.args.out.now (take g.row.N text) c.args.at g.row.N long c.requires.1
