use Rattle.std.proofs.Common.{◌∙◌}
use Rattle.std.proofs.lemmas.Result.{err_from_is_err_and}
use Rattle.script_reader.proofs.SourceLemmas.{ConsumesAtMost_append, GivesAtMost_append, device_since}
use Rattle.script_reader.proofs.script.read_script.Goals as goal

pub returns-in_err-read_more-clause-memory : goal.returns-in_err-read_more-clause-memory
returns-in_err-read_more-clause-memory g c h =
    let remaining = g.R.Source.remaining in
    let given = g.R.Source.given in
    let p = err_from_is_err_and c.from_residual.result c.from_residual.ensures.1 in
    let kept = c.loop.invariant in
    let failed = c.in_err-read_more.ensures.memory (cc (h, p.1, p.2)) in (
      failed.0 ∙ kept.unfailed,
      ConsumesAtMost_append (remaining c.args.reader.now) (remaining c.loop.reader) (remaining c.read_more.new.reader) c.loop.script.items 16777216 kept.consumed kept.short failed.1,
      GivesAtMost_append (given c.args.reader.now) (given c.loop.reader) (given c.read_more.new.reader) c.loop.script.items 16777216 kept.given kept.short failed.2,
    )

pub returns-in_err-read_more-clause-device : goal.returns-in_err-read_more-clause-device
returns-in_err-read_more-clause-device g c h =
    let remaining = g.R.Source.remaining in
    let given = g.R.Source.given in
    let failures = g.R.Source.failures in
    let p = err_from_is_err_and c.from_residual.result c.from_residual.ensures.1 in
    let kept = c.loop.invariant in
    device_since (remaining c.args.reader.now) (remaining c.loop.reader) (given c.args.reader.now) (given c.loop.reader) (given c.read_more.new.reader)
    c.loop.script.items 16777216 (failures c.args.reader.now) (failures c.loop.reader) (failures c.read_more.new.reader) kept.consumed kept.given kept.short kept.unfailed (c.in_err-read_more.ensures.device (cc (h, p.1, p.2)))
