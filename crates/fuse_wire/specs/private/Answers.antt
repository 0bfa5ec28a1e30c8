-- What the decoders of bodies and names answer.
use Rattle.std.specs.Prelude.{◌≡◌, ℕ, ◌≤◌, List, [], ◌∷◌, length, take, drop, Option, Some, IfSome}
use Rattle.fuse_wire.specs.Parts.{U32, Name, IsPart, Are}
use Rattle.fuse_wire.specs.Requests.{opcode_of, HasOwnOpcode, body}
use Rattle.fuse_wire.specs.declared.request.Operation.{Operation}

-- these bytes are the body of this operation, which has this opcode
pub record IsBody (opcode : ℕ) (bytes : List ℕ) (operation : Operation) : Type 0 where
  pub opcode_is : opcode_of operation ≡ opcode
  pub own_opcode : HasOwnOpcode operation
  pub parts : Are (body operation) bytes

-- the operation that these bytes are the body of, if they are one
pub record Decodes (opcode : ℕ) (bytes : List ℕ) (answer : Option Operation) : Type 0 where
  pub found : IfSome answer (IsBody opcode bytes)
  pub only : (operation : Operation) → IsBody opcode bytes operation → answer ≡ Some operation

-- the name that these bytes are, with its zero byte, if they are one
pub record ReadsName (bytes : List ℕ) (answer : Option (List ℕ)) : Type 0 where
  pub found : IfSome answer (λ name. Are (Name name ∷ []) bytes)
  pub only : (name : List ℕ) → Are (Name name ∷ []) bytes → answer ≡ Some name

-- these bytes have a whole header, whose `len` is their number
pub record HasFrame (bytes : List ℕ) : Type 0 where
  pub whole : 40 ≤ length bytes
  pub len : IsPart (U32 (length bytes)) (take 4 (drop 0 bytes))
