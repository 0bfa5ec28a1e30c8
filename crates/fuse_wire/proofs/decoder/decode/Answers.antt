use Rattle.std.proofs.Common.{Ok, Some, ap, drop}
use Rattle.std.proofs.lemmas.Bool.{iff_false}
use Rattle.fuse_wire.specs.private.Answers.{Decodes}
use Rattle.fuse_wire.specs.declared.request.Request.{Request}
use Rattle.fuse_wire.proofs.Framing.{Header, HasHeader, is_request, request_framed, frame_framed, is_framed, after_header, found_body, only_request, no_request}
use Rattle.fuse_wire.proofs.decoder.decode.Goals as goal
use Rattle.fuse_wire.proofs.decoder.decode.Goals.{After-u32_at-in-Some-2}

pub returns-then-not-is_framed-clause-only : goal.returns-then-not-is_framed-clause-only
returns-then-not-is_framed-clause-only c = λ request is. absurd (iff_false c.is_framed.ensures c.if-not-is_framed.true (request_framed c.args.bytes.now request is))

pub returns-then-not-is_framed-clause-wrong : goal.returns-then-not-is_framed-clause-wrong
returns-then-not-is_framed-clause-wrong c = λ opcode unique is. iff_false c.is_framed.ensures c.if-not-is_framed.true (frame_framed c.args.bytes.now opcode unique is)

header : After-u32_at-in-Some-2 → Header
header c = record {
  opcode = c.u32_at-opcode.result;
  unique = c.u64_at-unique.result;
  node = c.u64_at.result;
  uid = c.u32_at.result;
  gid = c.u32_at-in-Some.result;
  pid = c.u32_at-in-Some-2.result;
}

has_header : (c : After-u32_at-in-Some-2) → HasHeader c.args.bytes.now (header c)
unfolding header
has_header c = record {
  frame = c.is_framed.ensures.0 c.if-not-is_framed.false;
  opcode = c.u32_at-opcode.ensures;
  unique = c.u64_at-unique.ensures;
  node = c.u64_at.ensures;
  uid = c.u32_at.ensures;
  gid = c.u32_at-in-Some.ensures;
  pid = c.u32_at-in-Some-2.ensures;
}

decoded : (c : After-u32_at-in-Some-2) → Decodes (header c).opcode (drop 40 c.args.bytes.now) (Some c.in-Some.operation)
unfolding header
decoded c = after_header c.args.bytes.now c.u32_at-opcode.result c.operation_of.result _ c.operation_of.ensures c.in-Some.is

pub returns-in-Some-clause-found : goal.returns-in-Some-clause-found
unfolding header
returns-in-Some-clause-found c =
    let body = found_body (header c).opcode (drop 40 c.args.bytes.now) c.in-Some.operation (decoded c) in
    is_request c.args.bytes.now (header c) c.in-Some.operation (has_header c) body

pub returns-in-Some-clause-only : goal.returns-in-Some-clause-only
unfolding header
returns-in-Some-clause-only c = λ request is.
    ap (λ (r : Request). Ok r) (only_request c.args.bytes.now (header c) c.in-Some.operation request (has_header c) (decoded c) is)

pub returns-in-None-clause-only : goal.returns-in-None-clause-only
returns-in-None-clause-only c =
    let bytes = c.args.bytes.now in
    let opcode = c.u32_at-opcode.result in
    λ request is. absurd (no_request bytes opcode request c.u32_at-opcode.ensures (after_header bytes opcode c.operation_of.result _ c.operation_of.ensures c.in-None.is) is)

pub returns-in-None-clause-wrong : goal.returns-in-None-clause-wrong
returns-in-None-clause-wrong c =
    is_framed c.args.bytes.now c.u32_at-opcode.result c.u64_at-unique.result (c.is_framed.ensures.0 c.if-not-is_framed.false) c.u32_at-opcode.ensures c.u64_at-unique.ensures
