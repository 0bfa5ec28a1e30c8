-- From the states of the server to the service that mount_replies defines.
use Rattle.std.proofs.Common.{◌≡◌, ◌⊎◌, ℕ, Bool, true, false, ◌||◌, List, [], ◌∷◌, map, Option, Result, Err, refl, sym, ap, subst, ◌∙◌}
use Rattle.std.proofs.lemmas.Bool.{false≢true}
use Rattle.std.proofs.lemmas.List.Elements.{All-cons, All-nil}
use Rattle.fuse_serve.proofs.CallLemmas.{no_call}
use Rattle.fuse_serve.proofs.CutLemmas.{next_whole}
use Rattle.fuse_serve.proofs.Serving.{served_none}
use Rattle.fuse_serve.specs.Endings.{EndsAs}
use Rattle.fuse_serve.specs.Calls.{Call}
use Rattle.fuse_serve.specs.Exchanges.{AnswersAll, AreDelivered, AreWhole, DeviceSeen, Exchange, HasServed, device_seen}
use Rattle.fuse_serve.specs.Exchanges as service
use Rattle.fuse_serve.specs.Framing.{IsRequest}
use Rattle.fuse_serve.specs.declared.fault.Ended.{Ended}
use Rattle.fuse_serve.specs.declared.fault.Fault.{Fault}
use Rattle.fuse_serve.specs.declared.fault.Fault.TheVariants.{Memory}
use Rattle.mount_service.specs.TracerServices.{AreServed, HasBeenServed, IsReadNext, IsServed, StopsAtDestroy, failure_of, has_destroy, is_destroy, owes_after}
use Rattle.mount_service.specs.declared.mount_server.MountServer.{MountServer}
use Rattle.mount_service.specs.private.MountServers.{Answers, IsTurn, destroyed_after}
use Rattle.trace_command.specs.Requests.{Request}
use Rattle.trace_command.specs.declared.refusal.Refusal.{Refusal}
use Rattle.trace_command.specs.declared.refusal.Refusal.TheVariants as refusals
use Rattle.mount_replies.specs.Mounted.{IsExchanged, IsMounted, MountSeen, Serves, service_of, terms_of}
use Rattle.mount_replies.specs.PastLaws.{just_mounted}
use Rattle.mount_replies.specs.Services.{Service, Terms}

abbrev pub ends : MountServer → Bool
ends server = server.is_destroyed

abbrev pub owes : MountServer → Bool
owes server = server.mount.owes

-- what a service came to, from a server to which these requests led
pub record IsAnswered (g : Terms) (past : List Request) (before : MountServer) (exchanges : List Exchange) (after : MountServer) : Type 0 where
  pub last : Service
  pub served : Serves g (service_of past before.mount) (map (λ (one : Exchange). one.request) exchanges) (map (λ (one : Exchange). one.reply) exchanges) last
  pub whole : AreWhole exchanges
  pub stops : StopsAtDestroy exchanges
  pub ends : before.is_destroyed ≡ false → after.is_destroyed ≡ has_destroy exchanges
  pub owes : after.mount.owes ≡ owes_after g last
  past_after : List Request
  mounted : IsMounted past_after after.mount
  terms : terms_of after.mount ≡ g
  is_last : service_of past_after after.mount ≡ last

-- after a DESTROY nothing is answered
none_after : (before : MountServer) (exchanges : List Exchange) (after : MountServer) → AnswersAll Answers ends owes before exchanges after
    → before.is_destroyed ≡ true → exchanges ≡ []
none_after before [] after h destroyed = refl
none_after before (one ∷ more) after h destroyed = absurd (false≢true (sym h.0 ∙ destroyed))

-- it is a DESTROY, or one of those after it is
destroyed_by : (destroys : Bool) (next : MountServer) (more : List Exchange) (after : MountServer) → AnswersAll Answers ends owes next more after
    → next.is_destroyed ≡ destroys → (next.is_destroyed ≡ false → after.is_destroyed ≡ has_destroy more)
    → after.is_destroyed ≡ (destroys || has_destroy more)
destroyed_by true next [] after h is rest = ap (λ (s : MountServer). s.is_destroyed) h ∙ is
destroyed_by true next (one ∷ more) after h is rest = absurd (false≢true (sym h.0 ∙ is))
destroyed_by false next more after h is rest = rest is

-- what one exchange came to
record HasTurned (past : List Request) (old new : MountSeen) (request reply : List ℕ) : Type 0 where
  after : List Request
  mounted : IsMounted after new
  terms : terms_of new ≡ terms_of old
  served : IsExchanged (terms_of old) (service_of past old) request reply (service_of after new)

turned : (past : List Request) (old new : MountSeen) (request reply : List ℕ) → IsTurn past old new request reply → HasTurned past old new request reply
turned past old new [] reply turn = record { after = turn.after; mounted = turn.mounted; terms = turn.terms; served = turn.told }
turned past old new (byte ∷ request) reply turn =
    record { after = turn.after; mounted = turn.mounted; terms = turn.terms; served = (turn.nothing_owed, turn.served) }

destroyed_is : (was : Bool) (request : List ℕ) → was ≡ false → destroyed_after was request ≡ is_destroy request
destroyed_is was [] begun = begun
destroyed_is was (byte ∷ request) begun = refl

pub answered : (g : Terms) (past : List Request) (before : MountServer) (exchanges : List Exchange) (after : MountServer)
    → IsMounted past before.mount → terms_of before.mount ≡ g → AnswersAll Answers ends owes before exchanges after
    → IsAnswered g past before exchanges after
answered g past before [] after mounted terms h = record {
  last = service_of past before.mount;
  served = refl;
  whole = All-nil (λ (one : Exchange). (one.request ≡ []) ⊎ IsRequest one.request);
  stops = tt;
  ends = λ begun. ap (λ (s : MountServer). s.is_destroyed) h ∙ begun;
  owes = ap (λ (s : MountServer). s.mount.owes) h ∙ (mounted.owes ∙ ap (λ (t : Terms). owes_after t (service_of past before.mount)) terms);
  past_after = past;
  mounted = subst (λ (s : MountServer). IsMounted past s.mount) (sym h) mounted;
  terms = ap (λ (s : MountServer). terms_of s.mount) h ∙ terms;
  is_last = ap (λ (s : MountServer). service_of past s.mount) h;
}
answered g past before (one ∷ more) after mounted terms h =
    let next : MountServer = h.2 in
    let turn = turned past before.mount next.mount one.request one.reply (h.3.called past mounted) in
    let rest = answered g turn.after next more after turn.mounted (turn.terms ∙ terms) h.4 in
    let destroys : before.is_destroyed ≡ false → next.is_destroyed ≡ is_destroy one.request =
    λ begun. h.3.destroyed ∙ destroyed_is before.is_destroyed one.request begun in record {
      last = rest.last;
      served = (service_of turn.after next.mount, subst (λ (t : Terms). IsExchanged t (service_of past before.mount) one.request one.reply (service_of turn.after next.mount)) terms turn.served, rest.served);
      whole = All-cons (λ (x : Exchange). (x.request ≡ []) ⊎ IsRequest x.request) one more (next_whole (owes before) one.request h.1) rest.whole;
      stops = (λ destroyed. none_after next more after h.4 (destroys h.0 ∙ destroyed), rest.stops);
      ends = λ begun. destroyed_by (is_destroy one.request) next more after h.4 (destroys begun) rest.ends;
      owes = rest.owes;
      past_after = rest.past_after;
      mounted = rest.mounted;
      terms = rest.terms;
      is_last = rest.is_last;
    }

-- a mounted tracer is one state, but for the requests that led to it
same-state : (mount : MountSeen) (past others : List Request) (one other : Service) → service_of past mount ≡ one → service_of others mount ≡ other
    → one ≡ record other { past = one.past }
same-state mount past others one other is also =
    subst (λ (s : Service). s ≡ record other { past = s.past }) is (subst (λ (s : Service). service_of past mount ≡ record s { past = past }) also refl)

module _ (g : Terms) (before : MountServer) (mounted : IsMounted [] before.mount) (terms : terms_of before.mount ≡ g) (closed : before.mount.files ≡ []) (unparked : before.mount.parked ≡ [])
    (unrefused : before.mount.errors ≡ []) (uncounted : before.mount.counted ≡ []) (begun : before.is_destroyed ≡ false) where
  all_served : (exchanges : List Exchange) (after : MountServer) (h : AnswersAll Answers ends owes before exchanges after) → AreServed g exchanges (answered g [] before exchanges after mounted terms h).last
  all_served exchanges after h =
      let all = answered g [] before exchanges after mounted terms h in
      let first : service_of [] before.mount ≡ just_mounted = rw (closed, unparked, unrefused, uncounted) refl in
      subst (λ (s : Service). Serves g s (map (λ (one : Exchange). one.request) exchanges) (map (λ (one : Exchange). one.reply) exchanges) all.last) first all.served

  -- where a read comes next
  read_next : (after : MountServer) (calls : List Call) (exchanges : List Exchange) (whole : IsAnswered g [] before exchanges after)
      → service.IsReadNext Answers ends owes before after calls exchanges → IsReadNext g whole.last calls exchanges
  read_next after calls exchanges whole h =
      let all = answered g [] before h.done h.now mounted terms h.answered in
      let rest = answered g all.past_after h.now h.later after all.mounted all.terms h.more in record {
        done = h.done;
        later = h.later;
        are = h.are;
        left = h.left;
        gave = h.gave;
        none_left = h.none_left;
        took = h.took;
        now = all.last;
        served = all_served h.done h.now h.answered;
        last = rest.last;
        more = subst (λ (s : Service). Serves g s (map (λ (one : Exchange). one.request) h.later) (map (λ (one : Exchange). one.reply) h.later) rest.last) all.is_last rest.served;
        last_is = same-state after.mount rest.past_after whole.past_after rest.last whole.last rest.is_last whole.is_last;
        last_owes = sym rest.owes ∙ whole.owes;
        nothing_owed = sym all.owes ∙ h.waiting.1;
        mounted = sym (all.ends begun) ∙ h.waiting.0;
      }

  -- what a service came to, from a tracer that was just mounted
  pub is_served : (result : Result Ended Fault) (after : MountServer) (old new : DeviceSeen) (calls : List Call) (exchanges : List Exchange) (left : List ℕ)
      → HasServed Answers ends owes before after old new calls exchanges left → EndsAs result after.is_destroyed after.mount.owes new.remaining calls exchanges left
      → IsServed g result old new
  is_served result after old new calls exchanges left h ended =
      let all = answered g [] before exchanges after mounted terms h.answered in (
        exchanges,
        left,
        all.last,
        record {
          calls = calls;
          made = h.made;
          gave = h.gave;
          whole = all.whole;
          served = all_served exchanges after h.answered;
          stops = all.stops;
          took = h.took;
          delivered = h.delivered;
          in_order = λ earlier one later e is. read_next after earlier exchanges all (h.in_order earlier one later e is);
          read = h.read;
          written = h.written;
        },
        subst (λ (b : Bool). EndsAs result (has_destroy exchanges) b new.remaining calls exchanges left) all.owes
            (subst (λ (b : Bool). EndsAs result b after.mount.owes new.remaining calls exchanges left) (all.ends begun) ended),
      )

-- where nothing was read or written
pub never_begun : (g : Terms) (calls : List Call) (remaining contents : Option (List ℕ))
    → IsServed g (Err Memory) (device_seen calls remaining contents) (device_seen calls remaining contents)
never_begun g calls remaining contents =
    let h = served_none (λ (before : ℕ) (request : List ℕ) (after : ℕ) (reply : List ℕ). ⊥) (λ (server : ℕ). false) (λ (server : ℕ). false) 0 calls remaining contents in (
      [],
      [],
      just_mounted,
      record {
        calls = [];
        made = h.made;
        gave = h.gave;
        whole = All-nil (λ (one : Exchange). (one.request ≡ []) ⊎ IsRequest one.request);
        served = refl;
        stops = tt;
        took = h.took;
        delivered = h.delivered;
        in_order = λ earlier one later e is. absurd (no_call earlier one later e);
        read = h.read;
        written = h.written;
      },
      (refl, refl),
    )

-- a tracer that can't be made
pub not_made : (g : Terms) (refusal : Refusal) (calls : List Call) (remaining contents : Option (List ℕ))
    → HasBeenServed g (Err (failure_of refusal)) (device_seen calls remaining contents) (device_seen calls remaining contents)
not_made g refusals.Memory calls remaining contents = never_begun g calls remaining contents
not_made g _ calls remaining contents = tt
