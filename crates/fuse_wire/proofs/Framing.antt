-- A request's header and its body.
use Rattle.std.proofs.Common.{◌≡◌, ℕ, ◌-◌, ◌≤◌, List, ◌∷◌, length, take, drop, Option, Some, None, refl, sym, subst, ◌∙◌, arith}
use Rattle.std.proofs.lemmas.List.{take_rest}
use Rattle.std.proofs.lemmas.Option.{same_Some, none-some}
use Rattle.fuse_wire.specs.Parts.{Part, U32, U64, Anything, IsPart, Are}
use Rattle.fuse_wire.specs.Requests.{opcode_of, body, IsRequest, IsFramed}
use Rattle.fuse_wire.specs.private.Answers.{IsBody, Decodes, HasFrame}
use Rattle.fuse_wire.specs.declared.request.Operation.{Operation}
use Rattle.fuse_wire.specs.declared.request.Request.{Request}
use Rattle.fuse_wire.proofs.NumberLemmas.{value_32, value_64}
use Rattle.fuse_wire.proofs.PartLemmas.{first_part, parts_fit, part_at, ignored_at, alone}
use Rattle.fuse_wire.proofs.Opcodes.{first_32, first_64, number_at, long_at, after_ignored}

-- the numbers that lie in a header
pub record Header : Type 0 where
  pub opcode : ℕ
  pub unique : ℕ
  pub node : ℕ
  pub uid : ℕ
  pub gid : ℕ
  pub pid : ℕ

-- the bytes have a frame, and these numbers lie in their header
pub record HasHeader (bytes : List ℕ) (header : Header) : Type 0 where
  pub frame : HasFrame bytes
  pub opcode : IsPart (U32 header.opcode) (take 4 (drop 4 bytes))
  pub unique : IsPart (U64 header.unique) (take 8 (drop 8 bytes))
  pub node : IsPart (U64 header.node) (take 8 (drop 16 bytes))
  pub uid : IsPart (U32 header.uid) (take 4 (drop 24 bytes))
  pub gid : IsPart (U32 header.gid) (take 4 (drop 28 bytes))
  pub pid : IsPart (U32 header.pid) (take 4 (drop 32 bytes))

-- the request that these numbers and an operation are
abbrev pub request_of : Header → Operation → Request
request_of header operation = record { unique = header.unique; node = header.node; uid = header.uid; gid = header.gid; pid = header.pid; operation = operation }

pub is_request : (bytes : List ℕ) (header : Header) (operation : Operation) → HasHeader bytes header → IsBody header.opcode (drop 40 bytes) operation → IsRequest bytes (request_of header operation)
is_request bytes header operation has is = record {
  parts =
      part_at (U32 (length bytes)) _ bytes 0 4 4 refl has.frame.len
      (part_at (U32 (opcode_of operation)) _ bytes 4 4 8 refl (subst (λ (n : ℕ). IsPart (U32 n) (take 4 (drop 4 bytes))) (sym is.opcode_is) has.opcode)
      (part_at (U64 header.unique) _ bytes 8 8 16 refl has.unique
      (part_at (U64 header.node) _ bytes 16 8 24 refl has.node
      (part_at (U32 header.uid) _ bytes 24 4 28 refl has.uid
      (part_at (U32 header.gid) _ bytes 28 4 32 refl has.gid
      (part_at (U32 header.pid) _ bytes 32 4 36 refl has.pid
      (ignored_at 4 _ bytes 36 40 refl has.frame.whole is.parts)))))));
  own_opcode = is.own_opcode;
}

-- a request's bytes have a frame, and its numbers lie in their header
framed : (bytes : List ℕ) (parts : List Part) → Are (U32 (length bytes) ∷ parts) bytes → 40 ≤ length bytes → HasFrame bytes
framed bytes parts are l = record { whole = l; len = (first_part (U32 (length bytes)) parts bytes refl are).0 }

pub request_framed : (bytes : List ℕ) (request : Request) → IsRequest bytes request → HasFrame bytes
request_framed bytes request is = framed bytes _ is.parts (let l = parts_fit _ bytes is.parts in omega arith)

pub frame_framed : (bytes : List ℕ) (opcode unique : ℕ) → IsFramed bytes opcode unique → HasFrame bytes
frame_framed bytes opcode unique are = framed bytes _ are (let l = parts_fit _ bytes are in omega arith)

-- its numbers are those that lie in the header, and its operation's body follows it
pub record IsIn (bytes : List ℕ) (request : Request) : Type 0 where
  pub opcode : first_32 (drop 4 bytes) ≡ opcode_of request.operation
  pub unique : first_64 (drop 8 bytes) ≡ request.unique
  pub node : first_64 (drop 16 bytes) ≡ request.node
  pub uid : first_32 (drop 24 bytes) ≡ request.uid
  pub gid : first_32 (drop 28 bytes) ≡ request.gid
  pub pid : first_32 (drop 32 bytes) ≡ request.pid
  pub parts : Are (body request.operation) (drop 40 bytes)

pub request_in : (bytes : List ℕ) (request : Request) → IsRequest bytes request → IsIn bytes request
request_in bytes request is =
    let len = number_at (length bytes) _ bytes 0 4 refl is.parts in
    let opcode = number_at (opcode_of request.operation) _ bytes 4 8 refl len.1 in
    let unique = long_at request.unique _ bytes 8 16 refl opcode.1 in
    let node = long_at request.node _ bytes 16 24 refl unique.1 in
    let uid = number_at request.uid _ bytes 24 28 refl node.1 in
    let gid = number_at request.gid _ bytes 28 32 refl uid.1 in
    let pid = number_at request.pid _ bytes 32 36 refl gid.1 in
    let rest = after_ignored 4 (body request.operation) bytes 36 40 refl pid.1 in
    record { opcode = opcode.0; unique = unique.0; node = node.0; uid = uid.0; gid = gid.0; pid = pid.0; parts = rest }

body_in : (bytes : List ℕ) (opcode : ℕ) (request : Request) → IsPart (U32 opcode) (take 4 (drop 4 bytes)) → IsRequest bytes request → IsBody opcode (drop 40 bytes) request.operation
body_in bytes opcode request read is =
    let i = request_in bytes request is in
    record { opcode_is = sym i.opcode ∙ value_32 opcode (take 4 (drop 4 bytes)) read; own_opcode = is.own_opcode; parts = i.parts }

-- a header before any body
pub is_framed : (bytes : List ℕ) (opcode unique : ℕ) → HasFrame bytes → IsPart (U32 opcode) (take 4 (drop 4 bytes)) → IsPart (U64 unique) (take 8 (drop 8 bytes)) → IsFramed bytes opcode unique
is_framed bytes opcode unique frame o u =
    part_at (U32 (length bytes)) _ bytes 0 4 4 refl frame.len
    (part_at (U32 opcode) _ bytes 4 4 8 refl o (part_at (U64 unique) _ bytes 8 8 16 refl u (ignored_at 24 _ bytes 16 40 refl frame.whole (alone Anything (drop 40 bytes) tt))))

-- what is decoded of the bytes after the header
pub after_header : (bytes : List ℕ) (opcode : ℕ) (answer result : Option Operation) → Decodes opcode (take (length bytes - 40) (drop 40 bytes)) answer → answer ≡ result → Decodes opcode (drop 40 bytes) result
after_header bytes opcode answer result decodes is =
    subst (λ (o : Option Operation). Decodes opcode (drop 40 bytes) o) is (subst (λ (x : List ℕ). Decodes opcode x answer) (take_rest bytes 40) decodes)

pub found_body : (opcode : ℕ) (bytes : List ℕ) (operation : Operation) → Decodes opcode bytes (Some operation) → IsBody opcode bytes operation
found_body opcode bytes operation decodes = decodes.found

-- the operation decoded makes the one request
pub only_request : (bytes : List ℕ) (header : Header) (operation : Operation) (request : Request) → HasHeader bytes header → Decodes header.opcode (drop 40 bytes) (Some operation) → IsRequest bytes request → request_of header operation ≡ request
only_request bytes header operation request has decodes is =
    let i = request_in bytes request is in
    let unique : header.unique ≡ request.unique = sym (value_64 header.unique (take 8 (drop 8 bytes)) has.unique) ∙ i.unique in
    let node : header.node ≡ request.node = sym (value_64 header.node (take 8 (drop 16 bytes)) has.node) ∙ i.node in
    let uid : header.uid ≡ request.uid = sym (value_32 header.uid (take 4 (drop 24 bytes)) has.uid) ∙ i.uid in
    let gid : header.gid ≡ request.gid = sym (value_32 header.gid (take 4 (drop 28 bytes)) has.gid) ∙ i.gid in
    let pid : header.pid ≡ request.pid = sym (value_32 header.pid (take 4 (drop 32 bytes)) has.pid) ∙ i.pid in
    let same : operation ≡ request.operation = same_Some operation request.operation (decodes.only request.operation (body_in bytes header.opcode request has.opcode is)) in
    rw (unique, node, uid, gid, pid, same) refl

pub no_request : (bytes : List ℕ) (opcode : ℕ) (request : Request) → IsPart (U32 opcode) (take 4 (drop 4 bytes)) → Decodes opcode (drop 40 bytes) None → IsRequest bytes request → ⊥
no_request bytes opcode request read decodes is = none-some request.operation (decodes.only request.operation (body_in bytes opcode request read is))
