use Rattle.mount_service.proofs.KnownBytes.{calls_are_served, known_bytes}
use Rattle.mount_service.proofs.laws.known_bytes_are_served.Goals as goal

pub returns-clause-calls : goal.returns-clause-calls
returns-clause-calls c = calls_are_served

pub returns-clause-bytes : goal.returns-clause-bytes
returns-clause-bytes c = known_bytes
