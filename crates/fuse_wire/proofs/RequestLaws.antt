-- Requests have bytes, and no bytes are two.
use Rattle.std.proofs.Common.{◌≡◌, ℕ, ◌+◌, List, [], ◌∷◌, ◌++◌, length, drop, refl, sym, ap, subst, ◌∙◌, arith}
use Rattle.std.proofs.lemmas.List.{length-replicate}
use Rattle.fuse_wire.specs.Parts.{Part, U16, U32, U64, Ignored, Name, Bytes, Anything, Are, nothing, followed, bytes_of}
use Rattle.fuse_wire.specs.Requests.{opcode_of, body, in_header, IsRequest}
use Rattle.fuse_wire.specs.Laws.{AreWritable, parts_of, RequestsHaveBytes, RequestsDiffer}
use Rattle.fuse_wire.specs.declared.request.Request.{Request}
use Rattle.fuse_wire.proofs.PartLemmas.{length-bytes_of}
use Rattle.fuse_wire.proofs.Opcodes.{operation_at, operation_is, first_32}
use Rattle.fuse_wire.proofs.Framing.{request_in}

-- what is written is the parts
pub written : (parts : List Part) → AreWritable parts → Are parts (bytes_of parts)
written [] writable = nothing
written (U16 number ∷ parts) writable = followed _ (bytes_of parts) (writable.0, refl) (written parts writable.1)
written (U32 number ∷ parts) writable = followed _ (bytes_of parts) (writable.0, refl) (written parts writable.1)
written (U64 number ∷ parts) writable = followed _ (bytes_of parts) (writable.0, refl) (written parts writable.1)
written (Ignored count ∷ parts) writable = followed _ (bytes_of parts) (length-replicate count 0) (written parts writable)
written (Name name ∷ parts) writable = followed _ (bytes_of parts) (writable.0, refl) (written parts writable.1)
written (Bytes own ∷ parts) writable = followed own (bytes_of parts) refl (written parts writable)
written (Anything ∷ parts) writable = followed [] (bytes_of parts) tt (written parts writable)

pub requests_have_bytes : RequestsHaveBytes
requests_have_bytes request writable own =
    let bytes = bytes_of (parts_of request) in
    let len : length bytes ≡ 40 + length (bytes_of (body request.operation)) = omega (arith, length-bytes_of (parts_of request), length-bytes_of (body request.operation)) in
    record {
      parts =
          subst
          (λ (n : ℕ). Are (in_header n (opcode_of request.operation) request.unique request.node request.uid request.gid request.pid ++ body request.operation) bytes)
          (sym len) (written (parts_of request) writable);
      own_opcode = own;
    }

-- the operation that lies in the bytes
operation_in : (bytes : List ℕ) (request : Request) → IsRequest bytes request → operation_at (first_32 (drop 4 bytes)) (drop 40 bytes) ≡ request.operation
operation_in bytes request is =
    let i = request_in bytes request is in
    ap (λ (k : ℕ). operation_at k (drop 40 bytes)) i.opcode ∙ operation_is request.operation (drop 40 bytes) is.own_opcode i.parts

same_request : (a b : Request) → a.unique ≡ b.unique → a.node ≡ b.node → a.uid ≡ b.uid → a.gid ≡ b.gid → a.pid ≡ b.pid → a.operation ≡ b.operation → a ≡ b
same_request a b unique node uid gid pid operation =
    let same : ◌≡◌ {A = Request} (record { unique = a.unique; node = a.node; uid = a.uid; gid = a.gid; pid = a.pid; operation = a.operation }) (record { unique = b.unique; node = b.node; uid = b.uid; gid = b.gid; pid = b.pid; operation = b.operation }) = rw (unique, node, uid, gid, pid, operation) refl in
    same

pub requests_differ : RequestsDiffer
requests_differ bytes a b is_a is_b =
    let i = request_in bytes a is_a in
    let j = request_in bytes b is_b in
    same_request a b (sym i.unique ∙ j.unique) (sym i.node ∙ j.node) (sym i.uid ∙ j.uid) (sym i.gid ∙ j.gid) (sym i.pid ∙ j.pid) (sym (operation_in bytes a is_a) ∙ operation_in bytes b is_b)
