use Rattle.std.proofs.Common.{ℕ, take, length, sym, ◌∙◌, subst}
use Rattle.std.proofs.lemmas.Bool.{eqb-true, eq-eqb}
use Rattle.fuse_wire.specs.Parts.{U32, IsPart}
use Rattle.fuse_wire.proofs.NumberLemmas.{value_32}
use Rattle.fuse_wire.proofs.decoder.is_framed.Goals as goal

pub returns-then-bytes-ge-HEADER_SIZE : goal.returns-then-bytes-ge-HEADER_SIZE
returns-then-bytes-ge-HEADER_SIZE c =
    let bytes = c.args.bytes.now in
    let len = c.u32_at.result in (
      λ same. record { whole = c.if-bytes-ge-HEADER_SIZE.true; len = subst (λ (n : ℕ). IsPart (U32 n) (take 4 bytes)) (eqb-true len (length bytes) same) c.u32_at.ensures },
      λ frame. eq-eqb len (length bytes) (sym (value_32 len (take 4 bytes) c.u32_at.ensures) ∙ value_32 (length bytes) (take 4 bytes) frame.len),
    )
