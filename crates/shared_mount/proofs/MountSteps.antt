-- What a call and an exchange come to, after a history.
use Rattle.std.proofs.Common.{◌≡◌, ◌≢◌, ◌≤◌, ℕ, List, [], ◌∷◌, ◌++◌, None, Result, Ok, Err, is_some, refl, sym, ap, subst}
use Rattle.trace_command.specs.Requests.{Request}
use Rattle.trace_command.specs.declared.command.Reply.{Reply}
use Rattle.trace_command.specs.declared.refusal.Refusal.{Refusal}
use Rattle.tracer.specs.Lives.{most_done}
use Rattle.mount_replies.specs.Calls.{Called, IsCommanded, IsTurned}
use Rattle.mount_replies.specs.Mounted.{AreServed, IsExchanged, IsMounted, MountSeen, past_after, service_of, terms_of}
use Rattle.mount_replies.specs.Owed.{owed}
use Rattle.mount_replies.specs.Services.{Service, Terms}
use Rattle.shared_mount.specs.LiveMountSeen.{SharedTerms}
use Rattle.shared_mount.specs.MountEntries.{Deed, DidCall, DidExchange, EntrySeen, commands_of, done_in}
use Rattle.shared_mount.specs.MountHistories.{HaveLed, IsNext, IsOwing, Leads, WereTaken}
use Rattle.shared_mount.specs.private.Exchanges.{IsDoneIn}
use Rattle.shared_mount.specs.declared.exchange.Exchange.{Exchange}
use Rattle.shared_mount.proofs.CalledTurns.{called-turned, promised}
use Rattle.shared_mount.proofs.ExchangeLemmas.{Adds, exchange-adds}
use Rattle.shared_mount.proofs.HistoryLemmas.{done_in-push, have-led-push}

-- ---- one more turn

abbrev pub within : ℕ → Terms → SharedTerms
within limit g = record { mount = g; limit = limit }

-- a mounted tracer to which these turns led
pub record Stands (limit : ℕ) (entries : List EntrySeen) (mount : MountSeen) : Type 0 where
  pub mounted : IsMounted (done_in entries) mount
  pub led : HaveLed (within limit (terms_of mount)) entries (service_of (done_in entries) mount)

-- a turn after which it is this one
pub record Steps (limit : ℕ) (entries : List EntrySeen) (old new : MountSeen) (deed : Deed) : Type 0 where
  pub terms : terms_of new ≡ terms_of old
  pub mounted : IsMounted (commands_of deed ++ done_in entries) new
  pub leads : Leads (within limit (terms_of old)) (service_of (done_in entries) old) deed (service_of (commands_of deed ++ done_in entries) new)

pub steps-next : (limit : ℕ) (entries : List EntrySeen) (old new : MountSeen) (deed : Deed) → Stands limit entries old → Steps limit entries old new deed
    → IsNext (within limit (terms_of old)) entries deed new.owes
steps-next limit entries old new deed stands steps = record {
  before = service_of (done_in entries) old;
  after = service_of (commands_of deed ++ done_in entries) new;
  led = stands.led;
  leads = steps.leads;
  owes_is = subst (λ (g : Terms). new.owes ≡ is_some (owed g (service_of (commands_of deed ++ done_in entries) new))) steps.terms steps.mounted.owes;
}

pub steps-stand : (limit : ℕ) (entries : List EntrySeen) (old new : MountSeen) (entry : EntrySeen) → Stands limit entries old → Steps limit entries old new entry.deed
    → Stands limit (entries ++ entry ∷ []) new
steps-stand limit entries old new entry stands steps =
    let past : commands_of entry.deed ++ done_in entries ≡ done_in (entries ++ entry ∷ []) = sym (done_in-push entries entry) in
    let led : HaveLed (within limit (terms_of old)) (entries ++ entry ∷ []) (service_of (commands_of entry.deed ++ done_in entries) new) =
    have-led-push (within limit (terms_of old)) entries (service_of (done_in entries) old) entry (service_of (commands_of entry.deed ++ done_in entries) new) stands.led steps.leads in
    record {
      mounted = subst (λ (done : List Request). IsMounted done new) past steps.mounted;
      led = subst (λ (done : List Request). HaveLed (within limit (terms_of new)) (entries ++ entry ∷ []) (service_of done new)) past
          (subst (λ (g : Terms). HaveLed (within limit g) (entries ++ entry ∷ []) (service_of (commands_of entry.deed ++ done_in entries) new)) (sym steps.terms) led);
    }

-- a tracer that was just mounted
pub first-stands : (limit : ℕ) (mount : MountSeen) → IsMounted [] mount → (mount.files ≡ []) × (mount.parked ≡ []) × (mount.errors ≡ []) × (mount.counted ≡ [])
    → Stands limit [] mount
first-stands limit mount mounted (files, parked, errors, counted) =
    record { mounted = mounted; led = record { led = rw (files, parked, errors, counted) refl; past = refl } }

pub stands-taken : (limit : ℕ) (entries : List EntrySeen) (mount : MountSeen) → Stands limit entries mount → WereTaken (within limit (terms_of mount)) entries
stands-taken limit entries mount stands = record { after = service_of (done_in entries) mount; led = stands.led }

pub stands-owing : (limit : ℕ) (entries : List EntrySeen) (mount : MountSeen) → Stands limit entries mount
    → IsOwing (within limit (terms_of mount)) entries mount.owes
stands-owing limit entries mount stands =
    record { after = service_of (done_in entries) mount; led = stands.led; owes_is = stands.mounted.owes }

-- ---- a call

-- what a call does comes before what was done
pub called-past : (answer : Result Reply Refusal) (request : Request) (past : List Request)
    → past_after answer request past ≡ commands_of (DidCall request answer) ++ past
called-past (Ok reply) request past = refl
called-past (Err refusal) request past = refl

pub call-steps : (limit : ℕ) (entries : List EntrySeen) (old new : MountSeen) (request : Request) (answer : Result Reply Refusal) → limit ≤ most_done
    → IsMounted (done_in entries) old → IsCommanded limit (done_in entries) old new request answer → Steps limit entries old new (DidCall request answer)
call-steps limit entries old new request answer few mounted is =
    let past = done_in entries in
    let grown = called-past answer request past in
    record {
      terms = is.terms;
      mounted = subst (λ (done : List Request). IsMounted done new) grown is.mounted;
      leads = record {
        turned = subst (λ (done : List Request). IsTurned (terms_of old) (service_of past old) (Called limit request answer) (service_of done new)) grown
            (called-turned limit past old new request answer few mounted is);
        past = refl;
        promised = promised limit old.live.config past new.live request answer (ap (λ (g : Terms). g.config) is.terms) is.call;
      };
    }

-- ---- an exchange

pub done-steps : (limit : ℕ) (e : Exchange) (commands : List Request) → IsDoneIn e commands
    → Steps limit e.past.value.items e.before.value e.after.value (DidExchange e.asked.items e.bytes.items commands)
done-steps limit e commands is =
    record { terms = is.terms; mounted = is.mounted; leads = record { turned = is.exchanged; past = refl; promised = tt } }

-- where an exchange led to this mounted tracer, some commands were done in it
pub was_done : (e : Exchange) (after : List Request) → IsMounted after e.after.value → terms_of e.after.value ≡ terms_of e.before.value
    → IsExchanged (terms_of e.before.value) (service_of (done_in e.past.value.items) e.before.value) e.asked.items e.bytes.items (service_of after e.after.value)
    → (commands : List Request) × IsDoneIn e commands
was_done e after mounted terms exchanged =
    let g = terms_of e.before.value in
    let before = service_of (done_in e.past.value.items) e.before.value in
    let adds : Adds (done_in e.past.value.items) after = exchange-adds g before e.asked.items e.bytes.items (service_of after e.after.value) exchanged in (
      adds.commands,
      record {
        mounted = subst (λ (done : List Request). IsMounted done e.after.value) adds.is mounted;
        terms = terms;
        exchanged = subst (λ (done : List Request). IsExchanged g before e.asked.items e.bytes.items (service_of done e.after.value)) adds.is exchanged;
      },
    )

-- a request that is not empty is served in an exchange
pub served-exchanged : (g : Terms) (before : Service) (asked bytes : List ℕ) (after : Service) → asked ≢ [] → owed g before ≡ None
    → AreServed g before asked bytes after → IsExchanged g before asked bytes after
served-exchanged g before [] bytes after some none served = absurd (some refl)
served-exchanged g before (byte ∷ asked) bytes after some none served = (none, served)

-- what was done in an exchange that led from a mounted tracer to another
pub exchange-done : (e : Exchange) (entries : List EntrySeen) (old new : MountSeen) (asked bytes : List ℕ) → e.past.value.items ≡ entries
    → e.before.value ≡ old → e.after.value ≡ new → e.asked.items ≡ asked → e.bytes.items ≡ bytes → (after : List Request) → IsMounted after new
    → terms_of new ≡ terms_of old → IsExchanged (terms_of old) (service_of (done_in entries) old) asked bytes (service_of after new)
    → (commands : List Request) × IsDoneIn e commands
exchange-done e entries old new asked bytes past_is before_is after_is asked_is bytes_is after mounted terms exchanged =
    was_done e after (rw after_is mounted) (rw (after_is, before_is) terms) (rw (past_is, before_is, after_is, asked_is, bytes_is) exchanged)

-- ---- what they leave

pub call-stands : (limit : ℕ) (entries : List EntrySeen) (old new : MountSeen) (request : Request) (answer : Result Reply Refusal) (ticket by : ℕ) (left : List EntrySeen)
    → limit ≤ most_done → Stands limit entries old → IsCommanded limit (done_in entries) old new request answer
    → left ≡ entries ++ record { ticket = ticket; by = by; deed = DidCall request answer } ∷ [] → Stands limit left new
call-stands limit entries old new request answer ticket by left few stands is left_is =
    let entry : EntrySeen = record { ticket = ticket; by = by; deed = DidCall request answer } in
    subst (λ (es : List EntrySeen). Stands limit es new) (sym left_is)
    (steps-stand limit entries old new entry stands (call-steps limit entries old new request answer few stands.mounted is))

pub exchange-stands : (limit : ℕ) (e : Exchange) (entries : List EntrySeen) (old new : MountSeen) (ticket by : ℕ) (left : List EntrySeen)
    → e.past.value.items ≡ entries → e.before.value ≡ old → e.after.value ≡ new → Stands limit entries old
    → (commands : List Request) × IsDoneIn e commands
    × (left ≡ e.past.value.items ++ record { ticket = ticket; by = by; deed = DidExchange e.asked.items e.bytes.items commands } ∷ [])
    → Stands limit left new
exchange-stands limit e entries old new ticket by left past_is before_is after_is stands (commands, is, left_is) =
    let entry : EntrySeen = record { ticket = ticket; by = by; deed = DidExchange e.asked.items e.bytes.items commands } in
    let first : Stands limit e.past.value.items e.before.value =
    subst (λ (m : MountSeen). Stands limit e.past.value.items m) (sym before_is) (subst (λ (es : List EntrySeen). Stands limit es old) (sym past_is) stands) in
    subst (λ (m : MountSeen). Stands limit left m) after_is
    (subst (λ (es : List EntrySeen). Stands limit es e.after.value) (sym left_is)
    (steps-stand limit e.past.value.items e.before.value e.after.value entry first (done-steps limit e commands is)))

-- the entry of an exchange, and what follows from it
abbrev pub LeavesExchange : ℕ → List EntrySeen → MountSeen → MountSeen → List ℕ → List ℕ → ℕ → ℕ → List EntrySeen → Type 0
LeavesExchange limit entries old new asked bytes ticket by left =
    (commands : List Request) × (left ≡ entries ++ record { ticket = ticket; by = by; deed = DidExchange asked bytes commands } ∷ [])
    × IsNext (within limit (terms_of old)) entries (DidExchange asked bytes commands) new.owes

pub exchange-left : (limit : ℕ) (e : Exchange) (entries : List EntrySeen) (old new : MountSeen) (asked bytes : List ℕ) (ticket by : ℕ) (left : List EntrySeen)
    → e.past.value.items ≡ entries → e.before.value ≡ old → e.after.value ≡ new → e.asked.items ≡ asked → e.bytes.items ≡ bytes → Stands limit entries old
    → (commands : List Request) × IsDoneIn e commands
    × (left ≡ e.past.value.items ++ record { ticket = ticket; by = by; deed = DidExchange e.asked.items e.bytes.items commands } ∷ [])
    → LeavesExchange limit entries old new asked bytes ticket by left
exchange-left limit e entries old new asked bytes ticket by left past_is before_is after_is asked_is bytes_is stands (commands, is, left_is) =
    let first : Stands limit e.past.value.items e.before.value = rw (past_is, before_is) stands in
    let here : LeavesExchange limit e.past.value.items e.before.value e.after.value e.asked.items e.bytes.items ticket by left = (
      commands,
      left_is,
      steps-next limit e.past.value.items e.before.value e.after.value (DidExchange e.asked.items e.bytes.items commands) first (done-steps limit e commands is),
    ) in
    subst (λ (es : List EntrySeen). LeavesExchange limit es old new asked bytes ticket by left) past_is
    (subst (λ (m : MountSeen). LeavesExchange limit e.past.value.items m new asked bytes ticket by left) before_is
    (subst (λ (m : MountSeen). LeavesExchange limit e.past.value.items e.before.value m asked bytes ticket by left) after_is
    (subst (λ (bs : List ℕ). LeavesExchange limit e.past.value.items e.before.value e.after.value bs bytes ticket by left) asked_is
    (subst (λ (bs : List ℕ). LeavesExchange limit e.past.value.items e.before.value e.after.value e.asked.items bs ticket by left) bytes_is here))))
