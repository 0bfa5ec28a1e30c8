-- Services that are asked the same.
use Rattle.std.proofs.Common.{◌≡◌, ◌≢◌, ◌⊎◌, inl, inr, ℕ, ◌<◌, Bool, true, false, is_some, List, [], ◌∷◌, drop, length, Option, Some, None, Ok, refl, sym, ap, subst, ◌∙◌, arith}
use Rattle.std.proofs.lemmas.Bool.{false≢true}
use Rattle.std.proofs.lemmas.Bool.Decides.{not_from_Decides}
use Rattle.std.proofs.lemmas.List.Elements.{All-head, All-tail}
use Rattle.std.proofs.lemmas.Slice.Eq.{bytes_eq-Decides}
use Rattle.std.specs.List.{concat}
use Rattle.std.specs.Str.{bytes_eq}
use Rattle.fuse_serve.specs.Calls.{Call}
use Rattle.fuse_serve.specs.Endings.{EndsAs}
use Rattle.fuse_serve.specs.Exchanges.{Exchange, requests_in, with_bytes}
use Rattle.fuse_serve.specs.declared.fault.Ended.{Ended}
use Rattle.fuse_serve.specs.declared.fault.Ended.TheVariants.{AtEnd, Gone, Asked}
use Rattle.fuse_wire.proofs.Framing.{is_framed, request_framed}
use Rattle.fuse_wire.proofs.Opcodes.{first_32, first_64, long_at, number_at}
use Rattle.fuse_wire.proofs.PartLemmas.{first_part}
use Rattle.fuse_wire.proofs.RequestLaws.{requests_differ}
use Rattle.fuse_wire.specs.Parts.{U32, U64}
use Rattle.fuse_wire.specs.Replies.{reply_bytes, wakeup_bytes}
use Rattle.fuse_wire.specs.Requests.{IsFramed, IsRequest, opcode_of}
use Rattle.fuse_wire.specs.declared.reply.Reply.{Reply}
use Rattle.fuse_wire.specs.declared.request.Operation.{Operation}
use Rattle.fuse_wire.specs.declared.request.Operation.TheVariants as operations
use Rattle.fuse_wire.specs.declared.request.Request.{Request as Asking}
use Rattle.mount_tree.proofs.NumberLemmas.{same_number}
use Rattle.mount_tree.specs.declared.node.Node.{Node}
use Rattle.mount_replies.specs.Mounted.{AreServed, Does, IsExchanged, IsNamed, IsReplied, IsServed, IsWoken, Right, TellsOwed, Unframed, Wrong, bytes_of_reply, wrong_reply}
use Rattle.mount_replies.specs.Owed.{Owed, ReplyAt, WakeupAt, owed, step_of_parked}
use Rattle.mount_replies.specs.PastLaws.{just_mounted}
use Rattle.mount_replies.specs.Served.{step_of}
use Rattle.mount_replies.specs.Services.{Service, Terms, without_read}
use Rattle.mount_replies.specs.declared.parked.Parked.{Parked}
use Rattle.mount_service.proofs.FrankSteps.{parked-frank, step-frank, written_by}
use Rattle.mount_service.proofs.KnownBytes.{calls_are_served}
use Rattle.mount_service.proofs.SameRuns.{AreOne, Shows, does-one}
use Rattle.mount_service.specs.SameReplies.{AreAlike, AreOneUntilTheyPart, DoneInPart, Leads, OutOfMemory, Part, RecordingsReplay, ServicesAreOneUntilTheyPart, ServicesAskedTheSame, TellsOfMemory, asked_by, replies_by}
use Rattle.mount_service.specs.TracerServices.{has_destroy, owes_after}

-- ---- exchanges

-- replies to the same and what follows them are one, or one of them tells of refused memory
abbrev AreOneOrTell : List ℕ → List ℕ → List ℕ → Service → Service → Type 0
AreOneOrTell asked bytes others after last =
    ((bytes ≡ others) × (after ≡ last)) ⊎ (TellsOfMemory asked bytes ⊎ TellsOfMemory asked others)

-- what a reply shows its bytes tell
shown : (asked bytes : List ℕ) (request : Asking) (reply : Option Reply) → IsRequest asked request → bytes ≡ bytes_of_reply request.unique reply
    → Shows (written_by request.operation) reply → TellsOfMemory asked bytes
shown asked bytes request reply is told (inl memory) = OutOfMemory request.unique (told ∙ ap (bytes_of_reply request.unique) memory)
shown asked bytes request reply is told (inr (done, few, says)) = by request.operation refl few
  where
    by : (operation : Operation) → request.operation ≡ operation → done < written_by operation → TellsOfMemory asked bytes
    by (operations.Write handle offset lock_owner written) same less =
        DoneInPart request handle offset lock_owner written done is same less (told ∙ ap (bytes_of_reply request.unique) says)
    by _ same less = absurd (let none : done < 0 = less in omega (arith, none))

-- a number names one node, or none
named-once : (number : ℕ) (one other : Option Node) → IsNamed number one → IsNamed number other → one ≡ other
named-once number None None named also = refl
named-once number None (Some node) named also = absurd (named node also.0 also.1)
named-once number (Some node) None named also = absurd (also node named.0 named.1)
named-once number (Some node) (Some other) named also = ap Some (same_number node other named.0 also.0 (named.1 ∙ sym also.1))

served-one : (g : Terms) (before : Service) (asked : List ℕ) (request : Asking) (bytes others : List ℕ) (after last : Service) → IsRequest asked request
    → IsServed g before request bytes after → IsServed g before request others last → AreOneOrTell asked bytes others after last
served-one g before asked request bytes others after last is served also =
    by (does-one g before (written_by request.operation) (step_of g before request.unique request.pid served.node request.operation)
    (step-frank g before request.unique request.pid served.node request.operation) served.reply also.reply after last served.does
    (subst (λ (n : Option Node). Does g before (step_of g before request.unique request.pid n request.operation) also.reply last)
    (named-once request.node also.node served.node also.named served.named) also.does))
  where
    by : AreOne (written_by request.operation) served.reply after also.reply last → AreOneOrTell asked bytes others after last
    by (inl one) = inl (served.told ∙ (ap (bytes_of_reply request.unique) one.0 ∙ sym also.told), one.1)
    by (inr (inl first)) = inr (inl (shown asked bytes request served.reply is served.told first))
    by (inr (inr second)) = inr (inr (shown asked others request also.reply is also.told second))

-- a request has a frame, and a frame one opcode and one number
is-framed : (asked : List ℕ) (request : Asking) → IsRequest asked request → IsFramed asked (opcode_of request.operation) request.unique
is-framed asked request is =
    let len = number_at (length asked) _ asked 0 4 refl is.parts in
    let opcode = number_at (opcode_of request.operation) _ asked 4 8 refl len.1 in
    is_framed asked (opcode_of request.operation) request.unique (request_framed asked request is)
    (first_part (U32 (opcode_of request.operation)) _ (drop 4 asked) refl len.1).0 (first_part (U64 request.unique) _ (drop 8 asked) refl opcode.1).0

framed-as : (asked : List ℕ) (opcode unique : ℕ) → IsFramed asked opcode unique → (first_32 (drop 4 asked) ≡ opcode) × (first_64 (drop 8 asked) ≡ unique)
framed-as asked opcode unique framed =
    let len = number_at (length asked) _ asked 0 4 refl framed in
    let first = number_at opcode _ asked 4 8 refl len.1 in
    let second = long_at unique _ asked 8 16 refl first.1 in (first.0, second.0)

asked-one : (g : Terms) (before : Service) (asked bytes others : List ℕ) (after last : Service) → AreServed g before asked bytes after
    → AreServed g before asked others last → AreOneOrTell asked bytes others after last
asked-one g before asked bytes others after last (Right request is served) (Right other also fellow) =
    served-one g before asked request bytes others after last is served
    (subst (λ (r : Asking). IsServed g before r others last) (requests_differ asked other request also is) fellow)
asked-one g before asked bytes others after last (Right request is served) (Wrong opcode unique framed none told same) = absurd (none request is)
asked-one g before asked bytes others after last (Right request is served) (Unframed none told same) = absurd (none _ _ (is-framed asked request is))
asked-one g before asked bytes others after last (Wrong opcode unique framed none told same) (Right request is served) = absurd (none request is)
asked-one g before asked bytes others after last (Wrong opcode unique framed none told same) (Wrong code number also neither says kept) =
    let one = framed-as asked opcode unique framed in
    let other = framed-as asked code number also in
    inl (told ∙ (ap (λ (n : ℕ). wrong_reply n unique) (sym one.0 ∙ other.0) ∙ (ap (wrong_reply code) (sym one.1 ∙ other.1) ∙ sym says)), same ∙ sym kept)
asked-one g before asked bytes others after last (Wrong opcode unique framed none told same) (Unframed neither says kept) = absurd (neither opcode unique framed)
asked-one g before asked bytes others after last (Unframed none told same) (Right request is served) = absurd (none _ _ (is-framed asked request is))
asked-one g before asked bytes others after last (Unframed none told same) (Wrong opcode unique framed neither says kept) = absurd (none opcode unique framed)
asked-one g before asked bytes others after last (Unframed none told same) (Unframed neither says kept) = inl (told ∙ sym says, same ∙ sym kept)

-- ---- what is owed

replied-one : (g : Terms) (before : Service) (index : ℕ) (bytes others : List ℕ) (after last : Service) → IsReplied g before index bytes after
    → IsReplied g before index others last → AreOneOrTell [] bytes others after last
replied-one g before index bytes others after last told also =
    by (does-one g (without_read index before) 0 (step_of_parked g before told.read) (parked-frank g before 0 told.read) (Some told.reply) (Some also.reply) after last
    told.does (subst (λ (r : Parked). Does g (without_read index before) (step_of_parked g before r) (Some also.reply) last) (sym same) also.does))
  where
    same : told.read ≡ also.read
    same = let reads : Some told.read ≡ Some also.read = sym told.is ∙ also.is in cc

    shows : (unique : ℕ) (reply : Reply) (said : List ℕ) → said ≡ reply_bytes unique reply → Shows 0 (Some reply) → TellsOfMemory [] said
    shows unique reply said is (inl memory) = OutOfMemory unique (is ∙ ap (bytes_of_reply unique) memory)
    shows unique reply said is (inr (done, few, says)) = absurd (omega (arith, few))

    by : AreOne 0 (Some told.reply) after (Some also.reply) last → AreOneOrTell [] bytes others after last
    by (inl one) =
        inl (told.told ∙ (ap (bytes_of_reply told.read.unique) one.0 ∙ (ap (λ (r : Parked). reply_bytes r.unique also.reply) same ∙ sym also.told)), one.1)
    by (inr (inl first)) = inr (inl (shows told.read.unique told.reply bytes told.told first))
    by (inr (inr second)) = inr (inr (shows also.read.unique also.reply others also.told second))

woken-one : (before : Service) (handle : ℕ) (bytes others : List ℕ) (after last : Service) → IsWoken before handle bytes after
    → IsWoken before handle others last → AreOneOrTell [] bytes others after last
woken-one before handle bytes others after last told also =
    let wakeups : Some told.wakeup ≡ Some also.wakeup = sym told.is ∙ also.is in
    let same : told.wakeup ≡ also.wakeup = cc in
    inl (told.told ∙ (ap wakeup_bytes same ∙ sym also.told), told.now ∙ sym also.now)

owed-one : (g : Terms) (before : Service) (what : Option Owed) (bytes others : List ℕ) (after last : Service) → TellsOwed g before what bytes after
    → TellsOwed g before what others last → AreOneOrTell [] bytes others after last
owed-one g before None bytes others after last told also = absurd told
owed-one g before (Some (ReplyAt index)) bytes others after last told also = replied-one g before index bytes others after last told also
owed-one g before (Some (WakeupAt handle)) bytes others after last told also = woken-one before handle bytes others after last told also

exchange-one : (g : Terms) (before : Service) (asked bytes others : List ℕ) (after last : Service) → IsExchanged g before asked bytes after
    → IsExchanged g before asked others last → AreOneOrTell asked bytes others after last
exchange-one g before [] bytes others after last told also = owed-one g before (owed g before) bytes others after last told also
exchange-one g before (byte ∷ asked) bytes others after last (quiet, served) (still, also) =
    asked-one g before (byte ∷ asked) bytes others after last served also

-- nothing is told where nothing is owed
none-owed : (g : Terms) (before : Service) (bytes : List ℕ) (after : Service) → IsExchanged g before [] bytes after → owed g before ≡ None → ⊥
none-owed g before bytes after told none = subst (λ (what : Option Owed). TellsOwed g before what bytes after) none told

-- ---- until they part

asked-apart : (g : Terms) (before : Service) (asked fellow bytes others : List ℕ) (after last : Service) → IsExchanged g before asked bytes after
    → IsExchanged g before fellow others last → asked ≢ fellow → (asked ≢ []) × (fellow ≢ []) × (asked ≢ fellow)
asked-apart g before [] [] bytes others after last told also apart = absurd (apart refl)
asked-apart g before [] (byte ∷ fellow) bytes others after last told (quiet, also) apart = absurd (none-owed g before bytes after told quiet)
asked-apart g before (byte ∷ asked) [] bytes others after last (quiet, told) also apart = absurd (none-owed g before others last also quiet)
asked-apart g before (byte ∷ asked) (other ∷ fellow) bytes others after last told also apart = ((λ none. absurd (cc)), (λ none. absurd (cc)), apart)

pub until-they-part : ServicesAreOneUntilTheyPart
until-they-part g before [] other after last led also = record {
  done = [];
  later = [];
  are = refl;
  also_done = [];
  also_later = other;
  also_are = refl;
  alike = record { asked = refl; replied = refl };
  now = before;
  led = refl;
  more = led;
  also_more = also;
  part = tt;
}
until-they-part g before (x ∷ xs) [] after last led also = record {
  done = [];
  later = x ∷ xs;
  are = refl;
  also_done = [];
  also_later = [];
  also_are = refl;
  alike = record { asked = refl; replied = refl };
  now = before;
  led = refl;
  more = led;
  also_more = also;
  part = tt;
}
until-they-part g before (x ∷ xs) (y ∷ ys) after last (next, first, rest) (following, second, others) =
    by (bytes_eq x.request y.request) refl (λ also. until-they-part g next xs ys after last rest also)
  where
    -- here
    parts : Part (x ∷ xs) (y ∷ ys) → AreOneUntilTheyPart g before (x ∷ xs) (y ∷ ys) after last
    parts why = record {
      done = [];
      later = x ∷ xs;
      are = refl;
      also_done = [];
      also_later = y ∷ ys;
      also_are = refl;
      alike = record { asked = refl; replied = refl };
      now = before;
      led = refl;
      more = (next, first, rest);
      also_more = (following, second, others);
      part = why;
    }

    -- or later
    goes-on : x.request ≡ y.request → x.reply ≡ y.reply → AreOneUntilTheyPart g next xs ys after last → AreOneUntilTheyPart g before (x ∷ xs) (y ∷ ys) after last
    goes-on same says on = record {
      done = x ∷ on.done;
      later = on.later;
      are = ap (λ (l : List Exchange). x ∷ l) on.are;
      also_done = y ∷ on.also_done;
      also_later = on.also_later;
      also_are = ap (λ (l : List Exchange). y ∷ l) on.also_are;
      alike = record {
        asked = ap (λ (l : List (List ℕ)). x.request ∷ l) on.alike.asked ∙ ap (λ (r : List ℕ). r ∷ asked_by on.also_done) same;
        replied = ap (λ (l : List (List ℕ)). x.reply ∷ l) on.alike.replied ∙ ap (λ (r : List ℕ). r ∷ replies_by on.also_done) says;
      };
      now = on.now;
      led = (next, first, on.led);
      more = on.more;
      also_more = on.also_more;
      part = on.part;
    }

    comes : x.request ≡ y.request → AreOneOrTell x.request x.reply y.reply next following → (Leads g next ys last → AreOneUntilTheyPart g next xs ys after last)
        → AreOneUntilTheyPart g before (x ∷ xs) (y ∷ ys) after last
    comes same (inl one) later = goes-on same one.0 (later (subst (λ (s : Service). Leads g s ys last) (sym one.1) others))
    comes same (inr (inl tells)) later = parts (inr (inl tells))
    comes same (inr (inr tells)) later = parts (inr (inr (subst (λ (r : List ℕ). TellsOfMemory r y.reply) same tells)))

    by : (t : Bool) → bytes_eq x.request y.request ≡ t → (Leads g next ys last → AreOneUntilTheyPart g next xs ys after last)
        → AreOneUntilTheyPart g before (x ∷ xs) (y ∷ ys) after last
    by true is later =
        let same = (bytes_eq-Decides x.request y.request).0 is in
        comes same (exchange-one g before x.request x.reply y.reply next following first
        (subst (λ (r : List ℕ). IsExchanged g before r y.reply following) (sym same) second)) later
    by false is later =
        parts (inl (asked-apart g before x.request y.request x.reply y.reply next following first second
        (not_from_Decides (bytes_eq x.request y.request) (bytes_eq-Decides x.request y.request) is)))

-- ---- asked the same

abbrev IsQuiet : Exchange → Type 0
IsQuiet one = TellsOfMemory one.request one.reply → ⊥

-- a service that owes nothing is told nothing more without a request
quiet-end : (g : Terms) (before : Service) (asked : List ℕ) (more : List (List ℕ)) (bytes : List ℕ) (after : Service) → IsExchanged g before asked bytes after
    → owes_after g before ≡ false → [] ≡ with_bytes asked more → ⊥
quiet-end g before [] more bytes after told quiet none = by (owed g before) quiet told
  where
    by : (what : Option Owed) → is_some what ≡ false → TellsOwed g before what bytes after → ⊥
    by None quiet told = told
    by (Some owes) quiet told = false≢true (sym quiet)
quiet-end g before (byte ∷ asked) more bytes after told quiet none = let no : [] ≡ (byte ∷ asked) ∷ more = none in cc

-- where requests are the same, these are: so is where something is told
asked-same : (g : Terms) (before : Service) (asked fellow bytes others : List ℕ) (after last : Service) (more rest : List (List ℕ))
    → IsExchanged g before asked bytes after → IsExchanged g before fellow others last → with_bytes asked more ≡ with_bytes fellow rest
    → (asked ≡ fellow) × (more ≡ rest)
asked-same g before [] [] bytes others after last more rest told also same = (refl, same)
asked-same g before [] (byte ∷ fellow) bytes others after last more rest told (quiet, also) same = absurd (none-owed g before bytes after told quiet)
asked-same g before (byte ∷ asked) [] bytes others after last more rest (quiet, told) also same = absurd (none-owed g before others last also quiet)
asked-same g before (byte ∷ asked) (other ∷ fellow) bytes others after last more rest told also same =
    let lists : (byte ∷ asked) ∷ more ≡ (other ∷ fellow) ∷ rest = same in (cc, cc)

pub asked-the-same : ServicesAskedTheSame
asked-the-same g before [] [] after last led also same quiet still none neither = (record { asked = refl; replied = refl }, led ∙ sym also)
asked-the-same g before [] (y ∷ ys) after last led (following, second, others) same quiet still none neither =
    absurd (quiet-end g before y.request (requests_in ys) y.reply following second (subst (λ (s : Service). owes_after g s ≡ false) led quiet) same)
asked-the-same g before (x ∷ xs) [] after last (next, first, rest) also same quiet still none neither =
    absurd (quiet-end g before x.request (requests_in xs) x.reply next first (subst (λ (s : Service). owes_after g s ≡ false) also still) (sym same))
asked-the-same g before (x ∷ xs) (y ∷ ys) after last (next, first, rest) (following, second, others) same quiet still none neither =
    let both = asked-same g before x.request y.request x.reply y.reply next following (requests_in xs) (requests_in ys) first second same in
    by both.0 (exchange-one g before x.request x.reply y.reply next following first
    (subst (λ (r : List ℕ). IsExchanged g before r y.reply following) (sym both.0) second))
    (λ also. asked-the-same g next xs ys after last rest also both.1 quiet still (All-tail IsQuiet x xs none) (All-tail IsQuiet y ys neither))
  where
    goes-on : x.request ≡ y.request → x.reply ≡ y.reply → AreAlike xs ys × (after ≡ last) → AreAlike (x ∷ xs) (y ∷ ys) × (after ≡ last)
    goes-on asked says (alike, is) = (
      record {
        asked = ap (λ (l : List (List ℕ)). x.request ∷ l) alike.asked ∙ ap (λ (r : List ℕ). r ∷ asked_by ys) asked;
        replied = ap (λ (l : List (List ℕ)). x.reply ∷ l) alike.replied ∙ ap (λ (r : List ℕ). r ∷ replies_by ys) says;
      },
      is,
    )

    by : x.request ≡ y.request → AreOneOrTell x.request x.reply y.reply next following → (Leads g next ys last → AreAlike xs ys × (after ≡ last))
        → AreAlike (x ∷ xs) (y ∷ ys) × (after ≡ last)
    by asked (inl one) later = goes-on asked one.0 (later (subst (λ (s : Service). Leads g s ys last) (sym one.1) others))
    by asked (inr (inl tells)) later = absurd (All-head IsQuiet x xs none tells)
    by asked (inr (inr tells)) later = absurd (All-head IsQuiet y ys neither (subst (λ (r : List ℕ). TellsOfMemory r y.reply) asked tells))

-- ---- recordings

-- a service that was not asked to end owes nothing
nothing-owed : (how : Ended) (ends owes : Bool) (remaining : Option (List ℕ)) (calls : List Call) (exchanges : List Exchange) (left : List ℕ) → how ≢ Asked
    → EndsAs (Ok how) ends owes remaining calls exchanges left → owes ≡ false
nothing-owed AtEnd ends owes remaining calls exchanges left on ended = ended.0.1
nothing-owed Gone ends owes remaining calls exchanges left on ended = ended.0.1
nothing-owed Asked ends owes remaining calls exchanges left on ended = absurd (on refl)

pub recordings-replay : RecordingsReplay
recordings-replay g requests one other whole none neither =
    let first = calls_are_served g requests one.old one.new one.exchanges one.left one.after one.serving one.ended whole one.gave one.unasked one.ends one.uninterrupted in
    let second = calls_are_served g requests other.old other.new other.exchanges other.left other.after other.serving other.ended whole other.gave other.unasked other.ends other.uninterrupted in
    let quiet = nothing-owed one.ended (has_destroy one.exchanges) (owes_after g one.after) one.new.remaining one.serving.calls one.exchanges one.left one.unasked one.ends in
    let still = nothing-owed other.ended (has_destroy other.exchanges) (owes_after g other.after) other.new.remaining other.serving.calls other.exchanges other.left other.unasked other.ends in
    let same = asked-the-same g just_mounted one.exchanges other.exchanges one.after other.after first.0 second.0 (first.1 ∙ sym second.1) quiet still none neither in
    (first.2 ∙ (ap concat same.0.replied ∙ sym second.2), same.1)
