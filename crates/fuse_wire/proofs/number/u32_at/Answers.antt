use Rattle.std.proofs.Common.{rules, arith}
use Rattle.fuse_wire.proofs.NumberLemmas.{four_read}
use Rattle.fuse_wire.proofs.number.u32_at.Goals as goal

pub returns : goal.returns
returns c = four_read c.args.bytes.now c.args.at c.from_le_bytes.result (λ i. omega (arith, c.type_inv.bytes i)) c.requires (search rules) c.from_le_bytes.ensures
