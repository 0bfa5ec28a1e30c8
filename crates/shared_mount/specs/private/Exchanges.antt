-- An exchange and the commands that were done in it.
use Rattle.std.specs.Prelude.{◌≡◌, List, ◌++◌}
use Rattle.trace_command.specs.Requests.{Request}
use Rattle.mount_replies.specs.Mounted.{IsExchanged, IsMounted, service_of, terms_of}
use Rattle.shared_mount.specs.MountEntries.{done_in}
use Rattle.shared_mount.specs.declared.exchange.Exchange.{Exchange}

-- these commands were done in it, the last one first
pub record IsDoneIn (e : Exchange) (commands : List Request) : Type 0 where
  pub mounted : IsMounted (commands ++ done_in e.past.value.items) e.after.value
  pub terms : terms_of e.after.value ≡ terms_of e.before.value
  pub exchanged : IsExchanged (terms_of e.before.value) (service_of (done_in e.past.value.items) e.before.value) e.asked.items e.bytes.items
      (service_of (commands ++ done_in e.past.value.items) e.after.value)
