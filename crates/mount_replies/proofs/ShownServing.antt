-- What serving a request of a text that was made beside the turns comes to.
use Rattle.std.proofs.Common.{◌≡◌, ◌≢◌, ℕ, false, ◌<◌, List, length, Option, Some, None, Ok, true, is_some, refl, sym, ap, subst, ◌∙◌}
use Rattle.fuse_wire.specs.Replies.{reply_bytes}
use Rattle.fuse_wire.specs.Requests.{IsRequest}
use Rattle.fuse_wire.specs.declared.reply.Reply.{Reply}
use Rattle.fuse_wire.specs.declared.reply.Reply.TheVariants as replies
use Rattle.fuse_wire.specs.declared.request.Operation.{Operation}
use Rattle.fuse_wire.specs.declared.request.Operation.TheVariants as operations
use Rattle.fuse_wire.specs.declared.request.Request.{Request as Asked}
use Rattle.trace_command.specs.Requests.{Request}
use Rattle.trace_command.specs.declared.command.Reply.{Reply as Answer}
use Rattle.tracer_specification.specs.History.{answer_with_room}
use Rattle.tracer.specs.Lives.{live_answer, most_done}
use Rattle.tracer.proofs.Limits.{limited-done}
use Rattle.mount_tree.specs.Scenes.{SceneSeen}
use Rattle.mount_tree.specs.declared.node.Node.{Node}
use Rattle.mount_tree.specs.declared.node.Node.TheVariants as nodes
use Rattle.mount_tree.specs.declared.node.Owner.{Owner}
use Rattle.file_list.specs.declared.file.File.{File}
use Rattle.mount_replies.proofs.ServeLemmas.{none-owed}
use Rattle.mount_replies.specs.Mounted.{HasLedTo, IsCalled, IsMounted, IsNamed, IsStep, IsTold, MountSeen, service_of, terms_of}
use Rattle.mount_replies.specs.Owed.{owed}
use Rattle.mount_replies.specs.Served.{part_of}
use Rattle.mount_replies.specs.Services.{Service, Terms, read_of_pipe, with_reading}
use Rattle.mount_replies.specs.ShownTexts.{IsServedOf, WasShown, node_shown, shown_step, tell_shown, text_wanted}
use Rattle.mount_replies.specs.Steps.{Step, read_of}
use Rattle.mount_replies.specs.Told.{attributes_of}
use Rattle.mount_replies.specs.declared.parked.Parked.{Parked}
use Rattle.mount_replies.specs.declared.shown.ShownText.{ShownText}

-- a read that was prepared has the answer of the command
pub copied-live : (past : List Request) (now : MountSeen) (owner : Owner) (file : File) (request : Request) (reply : Answer) → HasLedTo past now
    → request ≡ read_of now.scene (nodes.File owner file) None → answer_with_room now.live.config past request ≡ Ok reply → now.live.done < most_done
    → live_answer now.live.config past (read_of now.scene (nodes.File owner file) None) ≡ Ok reply
copied-live past now owner file request reply mounted is given room =
    let few : length past < most_done = subst (λ (n : ℕ). n < most_done) mounted.lives.count room in
    subst (λ (r : Request). live_answer now.live.config past r ≡ Ok reply) is (limited-done most_done now.live.config past request reply given few)

-- ---- what is told

pub read-shown : (past : List Request) (old new : MountSeen) (unique : ℕ) (operation : Operation) (shown : ShownText)
    (handle offset size read_flags flags : ℕ) (read : Parked) (bytes : List ℕ) → HasLedTo past old
    → operation ≡ operations.Read handle offset size read_flags flags → read ≡ read_of_pipe unique handle size
    → new ≡ record old { files = with_reading 0 read.size shown.text read.handle old.files }
    → bytes ≡ reply_bytes read.unique (replies.Data (part_of 0 read.size shown.text))
    → IsTold past old new (shown_step (terms_of old) (service_of past old) unique shown operation) unique bytes
read-shown past old new unique operation shown handle offset size read_flags flags read bytes mounted is same now told =
    let left : new ≡ record old { files = with_reading 0 size shown.text handle old.files } = rw same at now in
    let gives : bytes ≡ reply_bytes unique (replies.Data (part_of 0 size shown.text)) = rw same at told in
    rw (is, left) (record {
      reply = Some (replies.Data (part_of 0 size shown.text));
      is = record {
        after = past;
        mounted = record { lives = mounted.lives; scene = mounted.scene };
        terms = refl;
        does = (refl, refl);
      };
      bytes_are = gives;
    })

other-shown : (g : Terms) (s : Service) (unique : ℕ) (shown : ShownText) (operation : Operation) → ((name : List ℕ) → operation ≢ operations.Lookup name)
    → ((handle offset size read_flags flags : ℕ) → operation ≢ operations.Read handle offset size read_flags flags)
    → tell_shown s shown (λ size. replies.Attributes (attributes_of g (node_shown shown) size)) ≡ shown_step g s unique shown operation
other-shown g s unique shown (operations.Lookup name) no_name no_read = absurd (no_name name refl)
other-shown g s unique shown (operations.Read handle offset size read_flags flags) no_name no_read =
    absurd (no_read handle offset size read_flags flags refl)
other-shown g s unique shown _ no_name no_read = refl

pub other-told : (past : List Request) (old new : MountSeen) (unique : ℕ) (operation : Operation) (shown : ShownText) (reply : Reply) (bytes : List ℕ)
    → ((name : List ℕ) → operation ≢ operations.Lookup name)
    → ((handle offset size read_flags flags : ℕ) → operation ≢ operations.Read handle offset size read_flags flags)
    → IsStep past old new (tell_shown (service_of past old) shown (λ size. replies.Attributes (attributes_of (terms_of old) (node_shown shown) size))) (Some reply)
    → bytes ≡ reply_bytes unique reply
    → IsTold past old new (shown_step (terms_of old) (service_of past old) unique shown operation) unique bytes
other-told past old new unique operation shown reply bytes no_name no_read step told = record {
  reply = Some reply;
  is = subst (λ (s : Step). IsStep past old new s (Some reply)) (other-shown (terms_of old) (service_of past old) unique shown operation no_name no_read) step;
  bytes_are = told;
}

-- ---- what is served

pub shown-served : (past : List Request) (old mid new : MountSeen) (shown : ShownText) (asked bytes : List ℕ) (request : Asked) (node wanted : Option Node)
    → IsMounted past old → old.owes ≡ false → WasShown (terms_of old) past shown → IsRequest asked request → IsNamed request.node node
    → wanted ≡ text_wanted old.scene old.files node request.operation → wanted ≡ Some (node_shown shown)
    → IsTold past old mid (shown_step (terms_of old) (service_of past old) request.unique shown request.operation) request.unique bytes
    → new ≡ record mid { owes = new.owes }
    → ((after : List Request) → HasLedTo after mid → new.owes ≡ is_some (owed (terms_of mid) (service_of after mid)))
    → IsServedOf true past old new shown asked bytes
shown-served past old mid new shown asked bytes request node wanted mounted quiet was framed named wants is told rest owes =
    rw rest (record {
      after = told.is.after;
      mounted = record { lives = told.is.mounted.lives; scene = told.is.mounted.scene; owes = owes told.is.after told.is.mounted };
      terms = told.is.terms;
      served = record {
        quiet = none-owed past old mounted quiet;
        was = was;
        request = request;
        framed = framed;
        node = node;
        named = named;
        wanted = ap (λ (scene : SceneSeen). text_wanted scene old.files node request.operation) (sym mounted.scene) ∙ sym wants ∙ is;
        reply = told.reply;
        does = told.is.does;
        told = told.bytes_are;
      };
    })

-- or as ever
pub plain-served : (past : List Request) (old new : MountSeen) (shown : ShownText) (asked bytes : List ℕ) → IsCalled past old new asked bytes
    → IsServedOf false past old new shown asked bytes
plain-served past old new shown asked bytes is =
    record { after = is.after; mounted = is.mounted; terms = is.terms; served = (is.nothing_owed, is.served) }
