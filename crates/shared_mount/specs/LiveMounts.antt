-- What contracts see of a live mount, and what is true of its fields.
use Rattle.std.specs.Prelude.{◌≤◌, IfSome}
use Rattle.tracer.specs.Lives.{most_done}
use Rattle.mount_replies.specs.Mounted.{IsMounted, service_of, terms_of}
use Rattle.mount_replies.specs.Watches.{AreKnown, Covers}
use Rattle.shared_mount.specs.LiveMountSeen.{LiveMountSeen}
use Rattle.shared_mount.specs.MountEntries.{done_in}
use Rattle.shared_mount.specs.MountHistories.{HaveLed}
use Rattle.shared_mount.specs.declared.live_mount.LiveMount.TheInside.{Inside}

abbrev pub seen : Inside → LiveMountSeen
seen m = record { terms = record { mount = terms_of m.mount; limit = m.limit }; entries = m.past.items; owes = m.mount.owes }

-- the turns led to the mounted tracer, the limit is one that tracers heed, and if pipes are watched, the parked reads wait for them, and
-- what is known of the events that their instances want is so
pub record IsSound (m : Inside) : Type 0 where
  pub mounted : IsMounted (done_in m.past.items) m.mount
  pub few : m.limit ≤ most_done
  pub covers : IfSome m.watch (λ watch. Covers m.mount.files m.mount.parked watch.slots)
  pub known : IfSome m.watch (AreKnown m.mount.live.config.cpus (done_in m.past.items))
  pub led : HaveLed (record { mount = terms_of m.mount; limit = m.limit }) m.past.items (service_of (done_in m.past.items) m.mount)
