use Rattle.std.proofs.Common.{◌≡◌, length, refl, sym, ◌∙◌, arith}
use Rattle.std.proofs.lemmas.Bool.{eqb-true}
use Rattle.fuse_wire.proofs.PartLemmas.{end_at}
use Rattle.fuse_wire.proofs.Decoding.{decodes}
use Rattle.fuse_wire.proofs.bodies.destroy.Goals as goal

pub returns : goal.returns
returns c =
    let body = c.args.body.now in
    let none : length body ≡ 0 = eqb-true (length body) 0 (sym c.is_empty.ensures ∙ c.if-not-is_empty.false) in
    decodes 38 body _ (record { opcode_is = refl; own_opcode = tt; parts = end_at body 0 (omega arith) })
