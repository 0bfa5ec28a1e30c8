use Rattle.std.proofs.Common.{◌<◌, length, arith}
use Rattle.std.proofs.lemmas.Bool.Decides.{nat_tests}
use Rattle.std.proofs.lemmas.List.{take_rest}
use Rattle.trace_command.proofs.PathLemmas.{parts_at}
use Rattle.trace_command.proofs.address.cut.Goals as goal

pub returns-clause-parts : goal.returns-clause-parts
returns-clause-parts c =
    let within : c.len_before-len.result < length c.args.path.now = grind (arith, nat_tests) in
    rw take_rest (parts_at c.args.path.now c.len_before-len.result c.len_before-len.ensures.value within)
