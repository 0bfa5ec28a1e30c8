use Rattle.std.proofs.Common.{rules, arith}
use Rattle.fuse_wire.proofs.NumberLemmas.{eight_read}
use Rattle.fuse_wire.proofs.number.u64_at.Goals as goal

pub returns : goal.returns
returns c = eight_read c.args.bytes.now c.args.at c.from_le_bytes.result (λ i. omega (arith, c.type_inv.bytes i)) c.requires (search rules) c.from_le_bytes.ensures
