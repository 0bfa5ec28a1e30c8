use Rattle.mount_replies.proofs.SetEvents.{set_events_are_shown}
use Rattle.mount_replies.proofs.laws.set_events_are_shown.Goals as goal

pub returns : goal.returns
returns c = set_events_are_shown
