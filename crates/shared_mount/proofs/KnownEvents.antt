-- What is known of the events that instances of watched pipes want, from turn to turn.
use Rattle.std.proofs.Common.{◌≡◌, ℕ, All, IfSome, List, [], ◌∷◌, ◌++◌, Option, Some, None, Result, sym, ap, subst, ◌∙◌}
use Rattle.std.specs.Option.{option_map}
use Rattle.trace_command.specs.Requests.{Request}
use Rattle.trace_command.specs.declared.command.Config.{Config}
use Rattle.trace_command.specs.declared.command.Reply.{Reply}
use Rattle.trace_command.specs.declared.refusal.Refusal.{Refusal}
use Rattle.mount_replies.specs.Mounted.{MountSeen, past_after, terms_of}
use Rattle.mount_replies.specs.Services.{OpenSeen, Terms}
use Rattle.mount_replies.specs.Watches.{AreKnown, Covers, WatchSeen, slots_of}
use Rattle.mount_replies.specs.declared.parked.Parked.{Parked}
use Rattle.mount_replies.specs.declared.wanted_events.Wanted.{Wanted}
use Rattle.mount_replies.specs.declared.wanted_events.Wanted.TheVariants.{Unknown}
use Rattle.mount_replies.proofs.PipeLemmas.{mapped}
use Rattle.mount_replies.proofs.WatchLemmas.{nothing-known}
use Rattle.shared_mount.specs.MountEntries.{DidCall, EntrySeen, done_in}
use Rattle.shared_mount.proofs.HistoryLemmas.{done_in-push}
use Rattle.shared_mount.proofs.MountSteps.{called-past}

-- where nothing is known, all of it is so
pub fresh_known : (cpus : ℕ) (past : List Request) (watch : Option WatchSeen) → IfSome watch (λ w. All (λ (wanted : Wanted). wanted ≡ Unknown) w.events)
    → IfSome watch (AreKnown cpus past)
fresh_known cpus past watch unknown =
    mapped (λ (w : WatchSeen). All (λ (wanted : Wanted). wanted ≡ Unknown) w.events) (AreKnown cpus past) watch (λ w none. nothing-known cpus past w none) unknown

-- the reads wait for the same pipes
pub covers-kept : (old new : Option WatchSeen) (files : List (Option OpenSeen)) (parked : List Parked) → option_map slots_of new ≡ option_map slots_of old
    → IfSome old (λ w. Covers files parked w.slots) → IfSome new (λ w. Covers files parked w.slots)
covers-kept None None files parked same covers = tt
covers-kept None (Some watch) files parked same covers = absurd (cc)
covers-kept (Some watch) None files parked same covers = tt
covers-kept (Some before) (Some after) files parked same covers =
    let slots : after.slots ≡ before.slots = cc in rw slots covers

-- after a call
pub called-known : (entries left : List EntrySeen) (old new : MountSeen) (request : Request) (answer : Result Reply Refusal) (ticket by : ℕ)
    (watch : Option WatchSeen) → terms_of new ≡ terms_of old → left ≡ entries ++ record { ticket = ticket; by = by; deed = DidCall request answer } ∷ []
    → IfSome watch (AreKnown old.live.config.cpus (past_after answer request (done_in entries))) → IfSome watch (AreKnown new.live.config.cpus (done_in left))
called-known entries left old new request answer ticket by watch terms left_is known =
    let entry : EntrySeen = record { ticket = ticket; by = by; deed = DidCall request answer } in
    let past : past_after answer request (done_in entries) ≡ done_in left =
    called-past answer request (done_in entries) ∙ sym (done_in-push entries entry) ∙ ap done_in (sym left_is) in
    let cpus : new.live.config.cpus ≡ old.live.config.cpus = ap (λ (g : Terms). g.config.cpus) terms in
    rw cpus (subst (λ (done : List Request). IfSome watch (AreKnown old.live.config.cpus done)) past known)
