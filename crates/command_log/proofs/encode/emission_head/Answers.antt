use Rattle.std.proofs.Common.{◌≡◌, ℤ, ap, ◌∙◌, rules, to_z, of_z, w32}
use Rattle.std.specs.Int.{to_le_bytes, cast_unsigned}
use Rattle.std.proofs.lemmas.Int.{to_z-of_z}
use Rattle.command_log.proofs.WrittenEntries.{emission_head}
use Rattle.command_log.proofs.encode.emission_head.Goals as goal

pub returns : goal.returns
returns c =
    let fits : to_z w32 (of_z w32 c.args.pid) ≡ c.args.pid = to_z-of_z w32 c.args.pid (search rules) in
    let pid : c.to_le_bytes-p.result ≡ to_le_bytes w32 (cast_unsigned w32 c.args.pid) =
    c.to_le_bytes-p.ensures ∙ ap (λ (z : ℤ). to_le_bytes w32 (cast_unsigned w32 z)) fits in
    emission_head c.args.ticket c.args.by c.args.cpu c.args.pid _ _ _ _ c.to_le_bytes-t.ensures c.to_le_bytes-b.ensures c.to_le_bytes-c.ensures pid
