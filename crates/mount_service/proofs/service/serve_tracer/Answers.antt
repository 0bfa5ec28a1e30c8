use Rattle.std.proofs.Common.{[], Ok, Err, sym, ap, subst, ◌∙◌}
use Rattle.fuse_serve.specs.Exchanges.{device_seen}
use Rattle.mount_service.proofs.ServiceLemmas.{is_served, not_made}
use Rattle.mount_service.proofs.service.serve_tracer.Goals as goal
use Rattle.mount_replies.specs.Mounted.{IsMounted, MountSeen, terms_of}

pub returns-in-Err-clause-service : goal.returns-in-Err-clause-service
returns-in-Err-clause-service g c =
    let device = g.D.Device in
    rw c.failure_of.ensures (not_made (record { config = c.args.config; uid = c.args.owners.uid; gid = c.args.owners.gid; mode = c.args.owners.mode }) c.in-Err.refusal (device.calls c.args.device.now)
    (device.remaining c.args.device.now) (device.contents c.args.device.now))

pub returns-in-Ok-serve-clause-service : goal.returns-in-Ok-serve-clause-service
returns-in-Ok-serve-clause-service g c =
    let device = g.D.Device in
    let all = c.in-Ok-serve.ensures.service in
    let same = c.new-server.ensures.mount in
    is_served (record { config = c.args.config; uid = c.args.owners.uid; gid = c.args.owners.gid; mode = c.args.owners.mode }) c.new-server.result
    (subst (IsMounted []) (sym same) c.in-Ok.ensures.made) (ap terms_of same ∙ c.in-Ok.ensures.terms)
    (ap (λ (m : MountSeen). m.files) same ∙ c.in-Ok.ensures.closed.0) (ap (λ (m : MountSeen). m.parked) same ∙ c.in-Ok.ensures.closed.1)
    (ap (λ (m : MountSeen). m.errors) same ∙ c.in-Ok.ensures.closed.2) (ap (λ (m : MountSeen). m.counted) same ∙ c.in-Ok.ensures.closed.3)
    c.new-server.ensures.lives (Ok c.in-Ok-serve.ended) c.serve.new.server
    (device_seen (device.calls c.args.device.now) (device.remaining c.args.device.now) (device.contents c.args.device.now))
    (device_seen (device.calls c.serve.new.device) (device.remaining c.serve.new.device) (device.contents c.serve.new.device))
    all.0 all.1 all.2 all.3 all.4

pub returns-clause-service : goal.returns-clause-service
returns-clause-service g c =
    let device = g.D.Device in
    let all = c.in-Err-serve.ensures.service in
    let same = c.new-server.ensures.mount in
    is_served (record { config = c.args.config; uid = c.args.owners.uid; gid = c.args.owners.gid; mode = c.args.owners.mode }) c.new-server.result
    (subst (IsMounted []) (sym same) c.in-Ok.ensures.made) (ap terms_of same ∙ c.in-Ok.ensures.terms)
    (ap (λ (m : MountSeen). m.files) same ∙ c.in-Ok.ensures.closed.0) (ap (λ (m : MountSeen). m.parked) same ∙ c.in-Ok.ensures.closed.1)
    (ap (λ (m : MountSeen). m.errors) same ∙ c.in-Ok.ensures.closed.2) (ap (λ (m : MountSeen). m.counted) same ∙ c.in-Ok.ensures.closed.3)
    c.new-server.ensures.lives (Err c.in-Err-serve.fault) c.serve.new.server
    (device_seen (device.calls c.args.device.now) (device.remaining c.args.device.now) (device.contents c.args.device.now))
    (device_seen (device.calls c.serve.new.device) (device.remaining c.serve.new.device) (device.contents c.serve.new.device))
    all.0 all.1 all.2 all.3 all.4
