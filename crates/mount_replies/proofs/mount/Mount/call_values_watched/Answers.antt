use Rattle.std.proofs.Common.{◌≡◌, Result, rules, subst, sym, to_z, of_z, w32}
use Rattle.std.proofs.lemmas.Int.{to_z-of_z}
use Rattle.trace_command.specs.declared.command.Config.{Config}
use Rattle.trace_command.specs.declared.command.Reply.{Reply}
use Rattle.trace_command.specs.declared.refusal.Refusal.{Refusal}
use Rattle.tracer_specification.specs.Settings.{declared_events}
use Rattle.tracer_state.specs.ValueEmissions.{emission_by}
use Rattle.tracer.specs.Lives.{IsCallWithin}
use Rattle.mount_replies.specs.Calls.{IsCommanded}
use Rattle.mount_replies.specs.Mounted.{MountSeen, past_after}
use Rattle.mount_replies.specs.Watches.{AreKnown}
use Rattle.mount_replies.specs.contracts.mount.Mount.{the_view}
use Rattle.mount_replies.proofs.CallLemmas.{looked-after, values-commanded}
use Rattle.mount_replies.proofs.ServeLemmas.{has-led}
use Rattle.mount_replies.proofs.WatchLemmas.{kept-quiet, known-after, quiet-after}
use Rattle.mount_replies.proofs.mount.Mount.call_values_watched.Goals as goal

pub returns-then-stays_quiet-clause-commanded : goal.returns-then-stays_quiet-clause-commanded
returns-then-stays_quiet-clause-commanded c =
    let pid : to_z w32 (of_z w32 c.args.emission.now.pid) ≡ c.args.emission.now.pid = to_z-of_z w32 c.args.emission.now.pid (search rules) in
    let covers = rw (← c.self.view_is) at c.requires.covers in
    rw (← c.self.view_is) (λ past mounted known.
    let old = the_view c.self.inside in
    let live = c.ask_values_within-given.new.self in
    let answer = c.ask_values_within-given.result in
    let call : IsCallWithin c.args.limit past live (emission_by (declared_events past) c.args.emission.now) answer =
    rw pid at c.ask_values_within-given.ensures.call past mounted.lives in
    let request = emission_by (declared_events past) c.args.emission.now in
    let mid : MountSeen = record old { live = live } in
    subst (λ (a : Result Reply Refusal). IsCommanded c.args.limit past old mid request a) (sym c.put-is_done.ensures)
    (kept-quiet c.args.limit past old mid request answer
    (values-commanded c.args.limit past old live (declared_events past) c.args.emission.now answer (has-led past old mounted) c.ask_values_within-given.ensures.config call)
    (quiet-after past old live c.args.watch.now.slots c.args.emission.now answer mounted c.ask_values_within-given.ensures.config
    (c.stays_quiet.ensures.owes c.if-stays_quiet.true) covers (c.stays_quiet.ensures.polls c.if-stays_quiet.true)
    (known c.args.emission.now.event (c.stays_quiet.ensures.unwanted c.if-stays_quiet.true)))))

pub returns-then-stays_quiet-clause-known : goal.returns-then-stays_quiet-clause-known
returns-then-stays_quiet-clause-known c =
    rw (← c.self.view_is) (λ past mounted known.
    let cpus = c.self.inside.live.config.cpus in
    let request = emission_by (declared_events past) c.args.emission.now in
    subst (λ (a : Result Reply Refusal). AreKnown cpus (past_after a request past) c.args.watch.now) (sym c.put-is_done.ensures)
    (known-after cpus past c.args.watch.now c.args.emission.now c.ask_values_within-given.result known))

pub returns-clause-commanded : goal.returns-clause-commanded
returns-clause-commanded c =
    let pid : to_z w32 (of_z w32 c.args.emission.now.pid) ≡ c.args.emission.now.pid = to_z-of_z w32 c.args.emission.now.pid (search rules) in
    rw (← c.self.view_is) (λ past mounted known.
    let old = the_view c.self.inside in
    let live = c.ask_values_within-given.new.self in
    let answer = c.ask_values_within-given.result in
    let call : IsCallWithin c.args.limit past live (emission_by (declared_events past) c.args.emission.now) answer =
    rw pid at c.ask_values_within-given.ensures.call past mounted.lives in
    let request = emission_by (declared_events past) c.args.emission.now in
    subst (λ (a : Result Reply Refusal). IsCommanded c.args.limit past old c.look_at_watched.new.self request a) (sym c.put-is_done.ensures)
    (looked-after c.args.limit past old (record old { live = live }) c.look_at_watched.new.self request answer
    (values-commanded c.args.limit past old live (declared_events past) c.args.emission.now answer (has-led past old mounted) c.ask_values_within-given.ensures.config call)
    c.look_at_watched.ensures.rest c.look_at_watched.ensures.owes))

pub returns-clause-known : goal.returns-clause-known
returns-clause-known c =
    let pid : to_z w32 (of_z w32 c.args.emission.now.pid) ≡ c.args.emission.now.pid = to_z-of_z w32 c.args.emission.now.pid (search rules) in
    rw (← c.self.view_is) (λ past mounted known.
    let old = the_view c.self.inside in
    let live = c.ask_values_within-given.new.self in
    let answer = c.ask_values_within-given.result in
    let call : IsCallWithin c.args.limit past live (emission_by (declared_events past) c.args.emission.now) answer =
    rw pid at c.ask_values_within-given.ensures.call past mounted.lives in
    let request = emission_by (declared_events past) c.args.emission.now in
    let after = past_after answer request past in
    let config = c.ask_values_within-given.ensures.config in
    let is = values-commanded c.args.limit past old live (declared_events past) c.args.emission.now answer (has-led past old mounted) config call in
    let before : AreKnown old.live.config.cpus after c.args.watch.now =
    known-after old.live.config.cpus past c.args.watch.now c.args.emission.now answer known in
    let noted : AreKnown live.config.cpus after c.look_at_watched.new.watch =
    c.look_at_watched.ensures.known after is.mounted (subst (λ (g : Config). AreKnown g.cpus after c.args.watch.now) (sym config) before) in
    subst (λ (a : Result Reply Refusal). AreKnown old.live.config.cpus (past_after a request past) c.look_at_watched.new.watch) (sym c.put-is_done.ensures)
    (subst (λ (g : Config). AreKnown g.cpus after c.look_at_watched.new.watch) config noted))
