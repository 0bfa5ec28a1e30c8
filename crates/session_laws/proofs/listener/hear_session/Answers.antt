use Rattle.std.proofs.Common.{ap, map}
use Rattle.session_laws.specs.HeardSessions.{heard_in}
use Rattle.session_laws.proofs.Hearing.{has_heard}
use Rattle.session_laws.proofs.listener.hear_session.Goals as goal

pub returns : goal.returns
returns g c whole =
    let told = c.run_session-status.ensures.session whole in
    let unheard = ap (map heard_in) c.new-listener.ensures.heard in
    let s = told.2.1 in
    (told.0, told.1, (told.2.0, has_heard _ _ _ _ _ _ _ s.0 s.1 c.new-listener.ensures.written unheard s.2 s.3 s.5))
