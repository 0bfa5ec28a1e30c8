-- What requests come to.
use Rattle.std.proofs.Common.{◌≡◌, ◌≢◌, ◌⊎◌, ℕ, ◌%◌, ◌^◌, Bool, true, false, List, [], ◌++◌, length, map, Option, Some, None, is_some, IfSome, IfNone, Ok, Err, refl, sym, ap, ◌∙◌, inl, inr}
use Rattle.fuse_wire.specs.Parts.{Are}
use Rattle.fuse_wire.proofs.PartLemmas.{first_part}
use Rattle.fuse_wire.specs.Replies.{reply_bytes}
use Rattle.fuse_wire.specs.Requests.{IsFramed, IsRequest, body, in_header, opcode_of}
use Rattle.fuse_wire.specs.declared.errno.Errno.TheVariants.{ENOMEM}
use Rattle.fuse_wire.specs.declared.reply.Reply.{Reply}
use Rattle.fuse_wire.specs.declared.reply.Reply.TheVariants as replies
use Rattle.fuse_wire.specs.declared.request.DecodeError.{DecodeError}
use Rattle.fuse_wire.specs.declared.request.Operation.{Operation}
use Rattle.fuse_wire.specs.declared.request.Operation.TheVariants as operations
use Rattle.fuse_wire.specs.declared.request.Request.{Request as Asked}
use Rattle.trace_command.specs.Requests.{Request}
use Rattle.mount_tree.specs.Nodes.{FitsItsTypes, number_of}
use Rattle.mount_tree.specs.Scenes.{SceneSeen}
use Rattle.mount_tree.specs.declared.node.Node.{Node}
use Rattle.mount_replies.specs.Mounted.{HasLedTo, IsCalled, IsMounted, IsNamed, IsServed, IsServedBy, IsStep, IsSteppedBy, IsTold, MountSeen, Right, Wrong, service_of, terms_of, wrong_reply}
use Rattle.mount_replies.specs.Owed.{Owed, owed}
use Rattle.mount_replies.specs.Served.{is_cached, read_file, step_of}
use Rattle.mount_replies.specs.Services.{Service, Terms, file_at, interrupted_if, read_of_pipe, scene_of}
use Rattle.mount_replies.specs.Steps.{plain}
use Rattle.mount_replies.specs.Told.{read_folder}
use Rattle.mount_replies.specs.private.StillReplies.{HasFewBytes, changes, is_change, is_still, still_reply}
use Rattle.mount_replies.specs.declared.parked.Parked.{Parked}

-- what changes nothing
still-step : (g : Terms) (s : Service) (unique pid : ℕ) (node : Option Node) (operation : Operation) → is_still operation ≡ true
    → step_of g s unique pid node operation ≡ plain (still_reply g (scene_of g s) node operation) s.files
still-step g s unique pid target (operations.Lookup name) still = absurd (cc)
still-step g s unique pid target operations.Forget still = absurd (cc)
still-step g s unique pid target operations.GetAttr still = absurd (cc)
still-step g s unique pid target (operations.SetAttr valid size) still = absurd (cc)
still-step g s unique pid target (operations.MkDir name) still = absurd (cc)
still-step g s unique pid target (operations.RmDir name) still = absurd (cc)
still-step g s unique pid target (operations.Open flags) still = absurd (cc)
still-step g s unique pid target (operations.Read handle offset size read_flags flags) still = absurd (cc)
still-step g s unique pid target (operations.Write handle offset lock_owner bytes) still = absurd (cc)
still-step g s unique pid target operations.StatFs still = refl
still-step g s unique pid target (operations.Release handle) still = absurd (cc)
still-step g s unique pid target operations.Fsync still = refl
still-step g s unique pid target (operations.GetXAttr name) still = refl
still-step g s unique pid target operations.ListXAttr still = refl
still-step g s unique pid target (operations.Flush handle lock_owner) still = absurd (cc)
still-step g s unique pid target (operations.Init major minor max_readahead flags) still = refl
still-step g s unique pid target operations.OpenDir still = refl
still-step g s unique pid target (operations.ReadDir handle offset size) still = absurd (cc)
still-step g s unique pid target (operations.ReleaseDir handle) still = refl
still-step g s unique pid target (operations.Access mask) still = refl
still-step g s unique pid target (operations.Interrupt number) still = absurd (cc)
still-step g s unique pid target operations.Destroy still = refl
still-step g s unique pid target (operations.Poll handle wakeup flags events) still = absurd (cc)
still-step g s unique pid target (operations.BatchForget count) still = absurd (cc)
still-step g s unique pid target (operations.Other opcode) still = refl

pub still-left : (operation : Operation) → false ≡ changes operation → ((handle offset size : ℕ) → operation ≢ operations.ReadDir handle offset size)
    → operation ≢ operations.Forget → ((count : ℕ) → operation ≢ operations.BatchForget count) → is_still operation ≡ true
still-left (operations.Lookup name) still a b d = absurd (cc)
still-left operations.Forget still a b d = absurd (b refl)
still-left operations.GetAttr still a b d = absurd (cc)
still-left (operations.SetAttr valid size) still a b d = absurd (cc)
still-left (operations.MkDir name) still a b d = absurd (cc)
still-left (operations.RmDir name) still a b d = absurd (cc)
still-left (operations.Open flags) still a b d = absurd (cc)
still-left (operations.Read handle offset size read_flags flags) still a b d = absurd (cc)
still-left (operations.Write handle offset lock_owner bytes) still a b d = absurd (cc)
still-left operations.StatFs still a b d = refl
still-left (operations.Release handle) still a b d = absurd (cc)
still-left operations.Fsync still a b d = refl
still-left (operations.GetXAttr name) still a b d = refl
still-left operations.ListXAttr still a b d = refl
still-left (operations.Flush handle lock_owner) still a b d = absurd (cc)
still-left (operations.Init major minor max_readahead flags) still a b d = refl
still-left operations.OpenDir still a b d = refl
still-left (operations.ReadDir handle offset size) still a b d = absurd (a handle offset size refl)
still-left (operations.ReleaseDir handle) still a b d = refl
still-left (operations.Access mask) still a b d = refl
still-left (operations.Interrupt number) still a b d = absurd (cc)
still-left operations.Destroy still a b d = refl
still-left (operations.Poll handle wakeup flags events) still a b d = absurd (cc)
still-left (operations.BatchForget count) still a b d = absurd (d count refl)
still-left (operations.Other opcode) still a b d = refl

pub none-left : (operation : Operation) → is_change operation ≡ true → ((name : List ℕ) → operation ≢ operations.Lookup name)
    → operation ≢ operations.GetAttr → ((valid size : ℕ) → operation ≢ operations.SetAttr valid size)
    → ((name : List ℕ) → operation ≢ operations.MkDir name) → ((name : List ℕ) → operation ≢ operations.RmDir name)
    → ((flags : ℕ) → operation ≢ operations.Open flags)
    → ((handle offset lock_owner : ℕ) (bytes : List ℕ) → operation ≢ operations.Write handle offset lock_owner bytes)
    → ((handle lock_owner : ℕ) → operation ≢ operations.Flush handle lock_owner) → ((handle : ℕ) → operation ≢ operations.Release handle)
    → ((handle wakeup flags events : ℕ) → operation ≢ operations.Poll handle wakeup flags events) → ⊥
none-left (operations.Lookup name) change a b d e f h i j k l = a name refl
none-left operations.Forget change a b d e f h i j k l = let no : false ≡ true = change in cc
none-left operations.GetAttr change a b d e f h i j k l = b refl
none-left (operations.SetAttr valid size) change a b d e f h i j k l = d valid size refl
none-left (operations.MkDir name) change a b d e f h i j k l = e name refl
none-left (operations.RmDir name) change a b d e f h i j k l = f name refl
none-left (operations.Open flags) change a b d e f h i j k l = h flags refl
none-left (operations.Read handle offset size read_flags flags) change a b d e f h i j k l = let no : false ≡ true = change in cc
none-left (operations.Write handle offset lock_owner bytes) change a b d e f h i j k l = i handle offset lock_owner bytes refl
none-left operations.StatFs change a b d e f h i j k l = let no : false ≡ true = change in cc
none-left (operations.Release handle) change a b d e f h i j k l = k handle refl
none-left operations.Fsync change a b d e f h i j k l = let no : false ≡ true = change in cc
none-left (operations.GetXAttr name) change a b d e f h i j k l = let no : false ≡ true = change in cc
none-left operations.ListXAttr change a b d e f h i j k l = let no : false ≡ true = change in cc
none-left (operations.Flush handle lock_owner) change a b d e f h i j k l = j handle lock_owner refl
none-left (operations.Init major minor max_readahead flags) change a b d e f h i j k l = let no : false ≡ true = change in cc
none-left operations.OpenDir change a b d e f h i j k l = let no : false ≡ true = change in cc
none-left (operations.ReadDir handle offset size) change a b d e f h i j k l = let no : false ≡ true = change in cc
none-left (operations.ReleaseDir handle) change a b d e f h i j k l = let no : false ≡ true = change in cc
none-left (operations.Access mask) change a b d e f h i j k l = let no : false ≡ true = change in cc
none-left (operations.Interrupt number) change a b d e f h i j k l = let no : false ≡ true = change in cc
none-left operations.Destroy change a b d e f h i j k l = let no : false ≡ true = change in cc
none-left (operations.Poll handle wakeup flags events) change a b d e f h i j k l = l handle wakeup flags events refl
none-left (operations.BatchForget count) change a b d e f h i j k l = let no : false ≡ true = change in cc
none-left (operations.Other opcode) change a b d e f h i j k l = let no : false ≡ true = change in cc

pub still-served : (past : List Request) (old : MountSeen) (request : Asked) (node : Option Node) (reply : Reply) (bytes : List ℕ) → HasLedTo past old
    → is_still request.operation ≡ true → IsNamed request.node node → reply ≡ still_reply (terms_of old) old.scene node request.operation
    → bytes ≡ reply_bytes request.unique reply → IsServed (terms_of old) (service_of past old) request bytes (service_of past old)
still-served past old request node reply bytes mounted still name is told =
    let g = terms_of old in
    let s = service_of past old in
    let same : reply ≡ still_reply g (scene_of g s) node request.operation =
    is ∙ ap (λ (scene : SceneSeen). still_reply g scene node request.operation) mounted.scene in
    record {
      node = node;
      named = name;
      reply = Some (still_reply g (scene_of g s) node request.operation);
      does = rw (still-step g s request.unique request.pid node request.operation still) (refl, refl);
      told = told ∙ ap (λ (r : Reply). reply_bytes request.unique r) same;
    }

-- ---- requests that may change something

pub read-served : (past : List Request) (old new : MountSeen) (request : Asked) (node : Option Node) (handle offset size read_flags flags : ℕ)
    (read : Parked) (cached : Bool) (bytes : List ℕ) → request.operation ≡ operations.Read handle offset size read_flags flags → IsNamed request.node node
    → read ≡ read_of_pipe request.unique handle size → cached ≡ is_cached read_flags
    → IsTold past old new (read_file (terms_of old) (service_of past old) read offset cached flags (file_at read.handle old.files)) read.unique bytes
    → IsSteppedBy past old new request bytes
read-served past old new request node handle offset size read_flags flags read cached bytes is name same page_cache told =
    let step : IsTold past old new (read_file (terms_of old) (service_of past old) (read_of_pipe request.unique handle size) offset (is_cached read_flags)
    flags (file_at handle old.files)) request.unique bytes = rw (same, page_cache) at told in
    record {
      after = step.is.after;
      mounted = step.is.mounted;
      terms = step.is.terms;
      served = record { node = node; named = name; reply = step.reply; does = rw is step.is.does; told = step.bytes_are };
    }

pub interrupt-served : (past : List Request) (old : MountSeen) (request : Asked) (node : Option Node) (unique : ℕ) (now : List Parked) (bytes : List ℕ)
    → HasLedTo past old → request.operation ≡ operations.Interrupt unique → IsNamed request.node node → now ≡ map (interrupted_if unique) old.parked
    → bytes ≡ [] → IsSteppedBy past old (record old { parked = now }) request bytes
interrupt-served past old request node unique now bytes mounted is name are told = record {
  after = past;
  mounted = record { lives = mounted.lives; scene = mounted.scene };
  terms = refl;
  served = record {
    node = node;
    named = name;
    reply = None;
    does = rw is (refl, ap (λ (p : List Parked). record { past = past; files = old.files; parked = p; errors = old.errors; counted = old.counted }) are);
    told = told;
  };
}

pub change-served : (past : List Request) (old new : MountSeen) (request : Asked) (node : Option Node) (reply : Reply) (bytes : List ℕ)
    → IsNamed request.node node
    → IsStep past old new (step_of (terms_of old) (service_of past old) request.unique request.pid node request.operation) (Some reply)
    → bytes ≡ reply_bytes request.unique reply → IsSteppedBy past old new request bytes
change-served past old new request node reply bytes name step told = record {
  after = step.after;
  mounted = step.mounted;
  terms = step.terms;
  served = record { node = node; named = name; reply = Some reply; does = step.does; told = told };
}

-- the node of a number
pub named : (number : ℕ) (node : Option Node) → IfSome node (λ (n : Node). FitsItsTypes n × (number_of n ≡ number % 2 ^ 47))
    → IfNone node ((n : Node) → FitsItsTypes n → number_of n ≢ number % 2 ^ 47) → IsNamed number node
named number None found none = none
named number (Some node) found none = found

-- a list
pub list-served : (past : List Request) (old : MountSeen) (request : Asked) (node : Option Node) (handle offset size : ℕ) (bytes : List ℕ) → HasLedTo past old
    → request.operation ≡ operations.ReadDir handle offset size → IsNamed request.node node
    → (bytes ≡ reply_bytes request.unique (read_folder old.scene node offset size)) ⊎ (bytes ≡ reply_bytes request.unique (replies.Error ENOMEM))
    → IsServed (terms_of old) (service_of past old) request bytes (service_of past old)
list-served past old request node handle offset size bytes mounted is name (inl told) = record {
  node = node;
  named = name;
  reply = Some (read_folder (scene_of (terms_of old) (service_of past old)) node offset size);
  does = rw is (inl (refl, refl));
  told = told ∙ ap (λ (scene : SceneSeen). reply_bytes request.unique (read_folder scene node offset size)) mounted.scene;
}
list-served past old request node handle offset size bytes mounted is name (inr told) =
    record { node = node; named = name; reply = Some (replies.Error ENOMEM); does = rw is (inr (refl, refl)); told = told }

-- what is written at once
pub few : (operation : Operation) (asked : List ℕ) (len opcode unique node uid gid pid : ℕ)
    → Are (in_header len opcode unique node uid gid pid ++ body operation) asked → HasFewBytes operation
few (operations.Write handle offset lock_owner bytes) asked len opcode unique node uid gid pid are =
    let p1 = first_part _ _ _ refl are in
    let p2 = first_part _ _ _ refl p1.1 in
    let p3 = first_part _ _ _ refl p2.1 in
    let p4 = first_part _ _ _ refl p3.1 in
    let p5 = first_part _ _ _ refl p4.1 in
    let p6 = first_part _ _ _ refl p5.1 in
    let p7 = first_part _ _ _ refl p6.1 in
    let p8 = first_part _ _ _ refl p7.1 in
    let p9 = first_part _ _ _ refl p8.1 in
    let p10 = first_part _ _ _ refl p9.1 in
    let p11 = first_part _ _ _ refl p10.1 in
    p11.0.0
few (operations.Lookup name) asked len opcode unique node uid gid pid are = tt
few operations.Forget asked len opcode unique node uid gid pid are = tt
few operations.GetAttr asked len opcode unique node uid gid pid are = tt
few (operations.SetAttr valid size) asked len opcode unique node uid gid pid are = tt
few (operations.MkDir name) asked len opcode unique node uid gid pid are = tt
few (operations.RmDir name) asked len opcode unique node uid gid pid are = tt
few (operations.Open flags) asked len opcode unique node uid gid pid are = tt
few (operations.Read handle offset size read_flags flags) asked len opcode unique node uid gid pid are = tt
few operations.StatFs asked len opcode unique node uid gid pid are = tt
few (operations.Release handle) asked len opcode unique node uid gid pid are = tt
few operations.Fsync asked len opcode unique node uid gid pid are = tt
few (operations.GetXAttr name) asked len opcode unique node uid gid pid are = tt
few operations.ListXAttr asked len opcode unique node uid gid pid are = tt
few (operations.Flush handle lock_owner) asked len opcode unique node uid gid pid are = tt
few (operations.Init major minor max_readahead flags) asked len opcode unique node uid gid pid are = tt
few operations.OpenDir asked len opcode unique node uid gid pid are = tt
few (operations.ReadDir handle offset size) asked len opcode unique node uid gid pid are = tt
few (operations.ReleaseDir handle) asked len opcode unique node uid gid pid are = tt
few (operations.Access mask) asked len opcode unique node uid gid pid are = tt
few (operations.Interrupt number) asked len opcode unique node uid gid pid are = tt
few operations.Destroy asked len opcode unique node uid gid pid are = tt
few (operations.Poll handle wakeup flags events) asked len opcode unique node uid gid pid are = tt
few (operations.BatchForget count) asked len opcode unique node uid gid pid are = tt
few (operations.Other code) asked len opcode unique node uid gid pid are = tt

pub few-asked : (asked : List ℕ) (request : Asked) → IsRequest asked request → HasFewBytes request.operation
few-asked asked request is =
    few request.operation asked (length asked) (opcode_of request.operation) request.unique request.node request.uid request.gid request.pid is.parts

-- ---- calls

-- nothing is owed
pub none-owed : (past : List Request) (old : MountSeen) → IsMounted past old → old.owes ≡ false → owed (terms_of old) (service_of past old) ≡ None
none-owed past old mounted quiet = by (owed (terms_of old) (service_of past old)) (sym quiet ∙ mounted.owes)
  where
    by : (o : Option Owed) → false ≡ is_some o → o ≡ None
    by None e = refl
    by (Some o) e = absurd (cc)

pub has-led : (past : List Request) (old : MountSeen) → IsMounted past old → HasLedTo past old
has-led past old mounted = record { lives = mounted.lives; scene = mounted.scene }

-- what is owed was worked out
pub acted : (past : List Request) (old mid new : MountSeen) (request : Asked) (bytes : List ℕ) → IsSteppedBy past old mid request bytes
    → new ≡ record mid { owes = new.owes }
    → ((after : List Request) → HasLedTo after mid → new.owes ≡ is_some (owed (terms_of mid) (service_of after mid)))
    → IsServedBy past old new request bytes
acted past old mid new request bytes step rest owes =
    rw rest (record {
      after = step.after;
      mounted = record { lives = step.mounted.lives; scene = step.mounted.scene; owes = owes step.after step.mounted };
      terms = step.terms;
      served = step.served;
    })

-- nothing changed
pub looked : (past : List Request) (old : MountSeen) (request : Asked) (bytes : List ℕ) → IsMounted past old
    → IsServed (terms_of old) (service_of past old) request bytes (service_of past old) → IsServedBy past old old request bytes
looked past old request bytes mounted served = record { after = past; mounted = mounted; terms = refl; served = served }

-- a request
pub right-called : (past : List Request) (old new : MountSeen) (asked bytes : List ℕ) (request : Asked) → IsMounted past old → old.owes ≡ false
    → IsRequest asked request → IsServedBy past old new request bytes → IsCalled past old new asked bytes
right-called past old new asked bytes request mounted quiet is step = record {
  after = step.after;
  mounted = step.mounted;
  terms = step.terms;
  nothing_owed = none-owed past old mounted quiet;
  served = Right request is step.served;
}

-- a wrong body
pub wrong-called : (past : List Request) (old : MountSeen) (asked bytes : List ℕ) (error : DecodeError) (opcode unique : ℕ) → IsMounted past old
    → old.owes ≡ false → IsFramed asked opcode unique → ((request : Asked) → IsRequest asked request → Err error ≡ Ok request)
    → bytes ≡ wrong_reply opcode unique → IsCalled past old old asked bytes
wrong-called past old asked bytes error opcode unique mounted quiet framed only told = record {
  after = past;
  mounted = mounted;
  terms = refl;
  nothing_owed = none-owed past old mounted quiet;
  served = Wrong opcode unique framed (λ request is. absurd (let no : Err error ≡ Ok request = only request is in cc)) told refl;
}
