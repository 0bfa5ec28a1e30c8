use Rattle.mount_service.proofs.SameServices.{asked-the-same, recordings-replay, until-they-part}
use Rattle.mount_service.proofs.laws.services_asked_the_same_are_one.Goals as goal

pub returns-clause-until : goal.returns-clause-until
returns-clause-until c = until-they-part

pub returns-clause-same : goal.returns-clause-same
returns-clause-same c = asked-the-same

pub returns-clause-replays : goal.returns-clause-replays
returns-clause-replays c = recordings-replay
