use Rattle.std.proofs.Common.{refl, sym, arith}
use Rattle.fuse_wire.specs.Parts.{Anything}
use Rattle.fuse_wire.specs.Requests.{known_opcodes}
use Rattle.fuse_wire.proofs.PartLemmas.{alone}
use Rattle.fuse_wire.proofs.Opcodes.{DiffersFrom, none_of}
use Rattle.fuse_wire.proofs.Decoding.{decodes, only_one}
use Rattle.fuse_wire.proofs.bodies.operation_of.Goals as goal

pub returns-in_default : goal.returns-in_default
returns-in_default c =
    let differs : DiffersFrom known_opcodes c.args.opcode =
    (λ e. omega arith, (λ e. omega arith, (λ e. omega arith, (λ e. omega arith, (λ e. omega arith, (λ e. omega arith, (λ e. omega arith, (λ e. omega arith, (λ e. omega arith, (λ e. omega arith, (λ e. omega arith, (λ e. omega arith, (λ e. omega arith, (λ e. omega arith, (λ e. omega arith, (λ e. omega arith, (λ e. omega arith, (λ e. omega arith, (λ e. omega arith, (λ e. omega arith, (λ e. omega arith, (λ e. omega arith, (λ e. omega arith, (λ e. omega arith, tt)))))))))))))))))))))))) in
    decodes c.args.opcode c.args.body.now _ (record { opcode_is = refl; own_opcode = none_of known_opcodes c.args.opcode differs; parts = alone Anything c.args.body.now tt })

pub unread-requires-clause-only : goal.unread-requires-clause-only
unread-requires-clause-only c = λ bytes other is. sym (only_one _ bytes other is)

pub unread-requires-in-3-clause-only : goal.unread-requires-in-3-clause-only
unread-requires-in-3-clause-only c = λ bytes other is. sym (only_one _ bytes other is)

pub unread-requires-in-20-clause-only : goal.unread-requires-in-20-clause-only
unread-requires-in-20-clause-only c = λ bytes other is. sym (only_one _ bytes other is)

pub unread-requires-in-23-clause-only : goal.unread-requires-in-23-clause-only
unread-requires-in-23-clause-only c = λ bytes other is. sym (only_one _ bytes other is)

pub unread-requires-in-27-clause-only : goal.unread-requires-in-27-clause-only
unread-requires-in-27-clause-only c = λ bytes other is. sym (only_one _ bytes other is)
