-- Turns are served as they are computed, by the bytes of their requests.
use Rattle.std.proofs.Common.{◌≡◌, ℕ, ◌%◌, ◌^◌, Bool, true, false, ◌&&◌, is_none, nat_lt, List, [], ◌∷◌, ◌++◌, length, map, Option, Some, None, refl, subst, arith}
use Rattle.std.proofs.lemmas.Bool.{and_parts, ltb-true}
use Rattle.std.specs.List.{slice_get}
use Rattle.fuse_wire.proofs.Examples.{are, parts}
use Rattle.fuse_wire.specs.Replies.{reply_bytes, wakeup_bytes}
use Rattle.fuse_wire.specs.Requests.{HasOwnOpcode, IsRequest, body, in_header, opcode_of}
use Rattle.fuse_wire.specs.declared.reply.Reply.{Reply}
use Rattle.fuse_wire.specs.declared.request.Operation.{Operation}
use Rattle.file_list.specs.FileTable.{file_index}
use Rattle.mount_tree.specs.Nodes.{FitsItsTypes, number_of}
use Rattle.file_list.specs.declared.file.File.{File}
use Rattle.mount_tree.specs.declared.node.Node.{Node}
use Rattle.mount_tree.specs.declared.node.Node.TheVariants as nodes
use Rattle.mount_tree.specs.declared.node.Owner.TheVariants.{Top}
use Rattle.mount_tree.proofs.NumberLemmas.{place-below}
use Rattle.mount_replies.proofs.ComputedSteps.{steps_are_computed}
use Rattle.mount_replies.specs.ComputedSteps.{Asked, Did, Message, Replied, Silence, Turn, Waited, Woken, did, message_of, messages, told_owed, told_poll, told_read, turned}
use Rattle.mount_replies.specs.Mounted.{Does, IsExchanged, IsReplied, IsWoken, Right, Serves, TellsOwed, bytes_of_reply}
use Rattle.mount_replies.specs.Owed.{Owed, ReplyAt, WakeupAt, owed, step_of_parked}
use Rattle.mount_replies.specs.Served.{step_of}
use Rattle.mount_replies.specs.Services.{Service, Terms, wakeup_at, without_read}
use Rattle.mount_replies.specs.declared.parked.Parked.{Parked}

-- the bytes that are told
abbrev pub message_bytes : Message → List ℕ
message_bytes Silence = []
message_bytes (Replied unique reply) = reply_bytes unique reply
message_bytes (Woken wakeup) = wakeup_bytes wakeup

-- these bytes are what is asked in a turn
abbrev pub IsAskedBy : List ℕ → Turn → Type 0
IsAskedBy [] Waited = Unit {0}
IsAskedBy [] (Asked unique pid node operation) = ⊥
IsAskedBy (byte ∷ asked) Waited = ⊥
IsAskedBy (byte ∷ asked) (Asked unique pid node operation) =
    IsRequest (byte ∷ asked) (record { unique = unique; node = number_of node; uid = 0; gid = 0; pid = pid; operation = operation })
    × FitsItsTypes node

abbrev pub AreAskedBy : List (List ℕ) → List Turn → Type 0
AreAskedBy [] [] = Unit {0}
AreAskedBy [] (turn ∷ turns) = ⊥
AreAskedBy (asked ∷ requests) [] = ⊥
AreAskedBy (asked ∷ requests) (turn ∷ turns) = IsAskedBy asked turn × AreAskedBy requests turns

abbrev is_told : Message → Bool
is_told Silence = false
is_told (Replied unique reply) = true
is_told (Woken wakeup) = true

-- a request comes where nothing is owed, and what is owed is told where something is
abbrev comes : Terms → Service → Turn → Bool
comes g s (Asked unique pid node operation) = is_none (owed g s)
comes g s Waited = is_told (turned g s Waited).message

abbrev pub come : Terms → Service → List Turn → Bool
come g s [] = true
come g s (turn ∷ turns) = comes g s turn && come g (turned g s turn).now turns

-- ---- a turn

replied : (unique : ℕ) (reply : Option Reply) → message_bytes (message_of unique reply) ≡ bytes_of_reply unique reply
replied unique None = refl
replied unique (Some reply) = refl

none_owed : (what : Option Owed) → is_none what ≡ true → what ≡ None
none_owed None none = refl
none_owed (Some what) none = absurd (cc)

-- a node's own number has no other bits
own-number : (node : Node) → FitsItsTypes node → number_of node ≡ number_of node % 2 ^ 47
unfolding number_of
own-number node fits = omega (arith, fits.owner, fits.index, place-below node)

module _ (g : Terms) (s : Service) where
  reply_told : (index : ℕ) (read : Parked) → slice_get s.parked index ≡ Some read → (done : Did)
      → Does g (without_read index s) (step_of_parked g s read) done.reply done.now
      → (reply : Option Reply) → done.reply ≡ reply → is_told (message_of read.unique reply) ≡ true
      → IsReplied g s index (message_bytes (message_of read.unique reply)) done.now
  reply_told index read is done does None gives told = absurd (cc)
  reply_told index read is done does (Some reply) gives told = record {
    read = read;
    is = is;
    reply = reply;
    does = subst (λ (r : Option Reply). Does g (without_read index s) (step_of_parked g s read) r done.now) gives does;
    told = refl;
  }

  read_told : (index : ℕ) (read : Option Parked) → slice_get s.parked index ≡ read → is_told (told_read g s index read).message ≡ true
      → IsReplied g s index (message_bytes (told_read g s index read).message) (told_read g s index read).now
  read_told index None is told = absurd (cc)
  read_told index (Some read) is told =
      let done : Did = did g (without_read index s) (step_of_parked g s read) in
      reply_told index read is done (steps_are_computed g (without_read index s) (step_of_parked g s read)) done.reply refl told

  poll_told : (handle : ℕ) (wakeup : Option ℕ) → wakeup_at handle s.files ≡ wakeup → is_told (told_poll s handle wakeup).message ≡ true
      → IsWoken s handle (message_bytes (told_poll s handle wakeup).message) (told_poll s handle wakeup).now
  poll_told handle None is told = absurd (cc)
  poll_told handle (Some wakeup) is told = record { wakeup = wakeup; is = is; told = refl; now = refl }

  owed_told : (what : Option Owed) → is_told (told_owed g s what).message ≡ true
      → TellsOwed g s what (message_bytes (told_owed g s what).message) (told_owed g s what).now
  owed_told None told = absurd (cc)
  owed_told (Some (ReplyAt index)) told = read_told index (slice_get s.parked index) refl told
  owed_told (Some (WakeupAt handle)) told = poll_told handle (wakeup_at handle s.files) refl told

  exchanged : (asked : List ℕ) (turn : Turn) → IsAskedBy asked turn → comes g s turn ≡ true
      → IsExchanged g s asked (message_bytes (turned g s turn).message) (turned g s turn).now
  exchanged [] (Asked unique pid node operation) is now = absurd is
  exchanged [] Waited is now = owed_told (owed g s) now
  exchanged (byte ∷ asked) Waited is now = absurd is
  exchanged (byte ∷ asked) (Asked unique pid node operation) is now =
      let done : Did = did g s (step_of g s unique pid (Some node) operation) in (
        none_owed (owed g s) now,
        Right _ is.0 (record {
          node = Some node;
          named = (is.1, own-number node is.1);
          reply = done.reply;
          does = steps_are_computed g s (step_of g s unique pid (Some node) operation);
          told = replied unique done.reply;
        }),
      )

-- ---- a session

pub turns_are_served : (g : Terms) (s : Service) (requests : List (List ℕ)) (turns : List Turn) → AreAskedBy requests turns → come g s turns ≡ true
    → (after : Service) × Serves g s requests (map message_bytes (messages g s turns)) after
turns_are_served g s [] [] are come = (s, refl)
turns_are_served g s [] (turn ∷ turns) are come = absurd are
turns_are_served g s (asked ∷ requests) [] are come = absurd are
turns_are_served g s (asked ∷ requests) (turn ∷ turns) are now =
    let both = and_parts (comes g s turn) (come g (turned g s turn).now turns) now in
    let rest = turns_are_served g (turned g s turn).now requests turns are.1 both.1 in
    (rest.0, ((turned g s turn).now, exchanged g s asked turn are.0 both.0, rest.1))

-- ---- a request about a file of the top instance

pub is_asked : (unique pid : ℕ) (file : File) (operation : Operation) (byte : ℕ) (asked : List ℕ) → HasOwnOpcode operation
    → are (in_header (length (byte ∷ asked)) (opcode_of operation) unique (number_of (nodes.File Top file)) 0 0 pid ++ body operation) (byte ∷ asked) ≡ true
    → nat_lt (file_index file) 256 ≡ true
    → IsAskedBy (byte ∷ asked) (Asked unique pid (nodes.File Top file) operation)
is_asked unique pid file operation byte asked own are fits =
    (record { parts = parts _ (byte ∷ asked) are; own_opcode = own }, record { owner = omega arith; index = ltb-true (file_index file) 256 fits })
