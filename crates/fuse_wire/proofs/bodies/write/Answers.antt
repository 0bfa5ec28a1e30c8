use Rattle.std.proofs.Common.{◌≡◌, ◌-◌, ℕ, List, refl, sym, ap, ◌∙◌, arith, subst, drop, take, length, length-take, length-drop}
use Rattle.std.specs.Int.{w32}
use Rattle.std.proofs.lemmas.List.{take_rest}
use Rattle.fuse_wire.specs.Parts.{U32, U64, Bytes, IsPart}
use Rattle.fuse_wire.proofs.NumberLemmas.{value, value_32}
use Rattle.fuse_wire.proofs.PartLemmas.{part_at, ignored_at, alone}
use Rattle.fuse_wire.proofs.Opcodes.{long_at, number_at}
use Rattle.fuse_wire.proofs.Decoding.{decodes, none_decoded, too_few}
use Rattle.fuse_wire.proofs.bodies.write.Goals as goal

pub returns-then-body-lt-FUSE_WRITE_IN : goal.returns-then-body-lt-FUSE_WRITE_IN
returns-then-body-lt-FUSE_WRITE_IN c = too_few 16 c.args.body.now (λ l. omega arith)

pub returns-then-u32_at-bytes : goal.returns-then-u32_at-bytes
returns-then-u32_at-bytes c =
    let body = c.args.body.now in
    let rest = take_rest body 40 in
    none_decoded 16 body (λ are.
    let handle = long_at _ _ body 0 8 refl are in
    let offset = long_at _ _ body 8 16 refl handle.1 in
    let told : value w32 (take 4 (drop 16 body)) ≡ length (drop 40 body) = (number_at _ _ body 16 20 refl offset.1).0 in
    omega (arith, told, length-take (length body - 40) (drop 40 body), length-drop 40 body, value_32 c.u32_at.result (take 4 (drop 16 body)) c.u32_at.ensures))

pub returns : goal.returns
returns c =
    let body = c.args.body.now in
    let bytes : List ℕ = c.new.result in
    let is : bytes ≡ drop 40 body = rw c.new.ensures (take_rest body 40) in
    let size : c.u32_at.result ≡ length bytes = c.if-u32_at-bytes.false ∙ sym (ap length c.new.ensures) in
    decodes 16 body _ (record {
      opcode_is = refl;
      own_opcode = tt;
      parts =
          part_at (U64 c.u64_at.result) _ body 0 8 8 refl c.u64_at.ensures
          (part_at (U64 c.u64_at-2.result) _ body 8 8 16 refl c.u64_at-2.ensures
          (part_at (U32 (length bytes)) _ body 16 4 20 refl (subst (λ (n : ℕ). IsPart (U32 n) (take 4 (drop 16 body))) size c.u32_at.ensures)
          (ignored_at 4 _ body 20 24 refl (omega arith)
          (part_at (U64 c.u64_at-3.result) _ body 24 8 32 refl c.u64_at-3.ensures
          (ignored_at 8 _ body 32 40 refl (omega arith) (alone (Bytes bytes) (drop 40 body) (rw is refl)))))));
    })
