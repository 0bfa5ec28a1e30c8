-- What the layouts of requests and replies say together, as theorems that speak of no program.
use Rattle.std.specs.Prelude.{◌≡◌, ℕ, ◌+◌, ◌<◌, ◌^◌, List, [], ◌∷◌, ◌++◌, length, take}
use Rattle.std.specs.Int.{w32}
use Rattle.fuse_wire.specs.Parts.{Part, U16, U32, U64, Ignored, Name, Bytes, Anything, IsName, number_bytes, bytes_of}
use Rattle.fuse_wire.specs.Requests.{opcode_of, HasOwnOpcode, body, in_header, IsRequest}
use Rattle.fuse_wire.specs.Replies.{reply_body, error_of, reply_bytes}
use Rattle.fuse_wire.specs.declared.request.Request.{Request}
use Rattle.fuse_wire.specs.declared.reply.Reply.{Reply}
use Rattle.fuse_wire.specs.declared.reply.Reply.TheVariants as replies

-- the numbers of the parts have room, and their names are names
abbrev pub AreWritable : List Part → Type 0
AreWritable [] = Unit {0}
AreWritable (U16 number ∷ parts) = (number < 2 ^ 16) × AreWritable parts
AreWritable (U32 number ∷ parts) = (number < 2 ^ 32) × AreWritable parts
AreWritable (U64 number ∷ parts) = (number < 2 ^ 64) × AreWritable parts
AreWritable (Ignored count ∷ parts) = AreWritable parts
AreWritable (Name name ∷ parts) = IsName name × AreWritable parts
AreWritable (Bytes own ∷ parts) = AreWritable parts
AreWritable (Anything ∷ parts) = AreWritable parts

-- the parts of a request
abbrev pub parts_of : Request → List Part
parts_of request =
    in_header (40 + length (bytes_of (body request.operation))) (opcode_of request.operation) request.unique request.node request.uid request.gid request.pid
    ++ body request.operation

-- each request has bytes, with zeros for what is ignored
abbrev pub RequestsHaveBytes : Type 0
RequestsHaveBytes = (request : Request) → AreWritable (parts_of request) → HasOwnOpcode request.operation → IsRequest (bytes_of (parts_of request)) request

-- no bytes are two requests
abbrev pub RequestsDiffer : Type 0
RequestsDiffer = (bytes : List ℕ) (a b : Request) → IsRequest bytes a → IsRequest bytes b → a ≡ b

-- a reply begins with how many bytes it has
abbrev pub RepliesTellTheirLength : Type 0
RepliesTellTheirLength = (unique : ℕ) (reply : Reply) → take 4 (reply_bytes unique reply) ≡ number_bytes w32 (length (reply_bytes unique reply))

-- replies with the same bytes are to the same request, and have the same error and the same body
pub record AreAlike (u v : ℕ) (a b : Reply) : Type 0 where
  pub unique : u ≡ v
  pub error : error_of a ≡ error_of b
  pub body : bytes_of (reply_body a) ≡ bytes_of (reply_body b)

abbrev pub RepliesDiffer : Type 0
RepliesDiffer = (u v : ℕ) (a b : Reply) → u < 2 ^ 64 → v < 2 ^ 64 → reply_bytes u a ≡ reply_bytes v b → AreAlike u v a b

-- which kind of reply
abbrev pub kind_of : Reply → ℕ
kind_of (replies.Error errno) = 0
kind_of replies.Done = 1
kind_of (replies.Init agreement) = 2
kind_of (replies.Entry node attributes) = 3
kind_of (replies.Attributes attributes) = 4
kind_of (replies.Opened handle flags) = 5
kind_of (replies.Data bytes) = 6
kind_of (replies.Written size) = 7
kind_of (replies.StatFs block_size name_length) = 8
kind_of (replies.Poll events) = 9

abbrev pub HasTwelveBits : Reply → Type 0
HasTwelveBits (replies.Entry node attributes) = attributes.permissions < 4096
HasTwelveBits (replies.Attributes attributes) = attributes.permissions < 4096
HasTwelveBits _ = Unit {0}

-- its bytes tell all of it: its numbers have room, and no permission bit is above the twelfth
pub record IsTold (reply : Reply) : Type 0 where
  pub numbers : AreWritable (reply_body reply)
  pub permissions : HasTwelveBits reply

-- replies of one kind with the same bytes are the same reply
abbrev pub RepliesOfAKindDiffer : Type 0
RepliesOfAKindDiffer =
    (u v : ℕ) (a b : Reply) → u < 2 ^ 64 → v < 2 ^ 64 → kind_of a ≡ kind_of b → IsTold a → IsTold b → reply_bytes u a ≡ reply_bytes v b → a ≡ b
