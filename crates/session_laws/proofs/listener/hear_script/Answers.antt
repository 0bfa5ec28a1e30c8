use Rattle.std.proofs.Common.{List, ℕ, map, ap, subst, ◌∙◌}
use Rattle.session_laws.specs.HeardSessions.{HasHeard, heard_in}
use Rattle.session_laws.proofs.listener.hear_script.Goals as goal

pub returns : goal.returns
returns g c whole =
    let told = c.hear_session.ensures whole in
    let heard = c.hear_session.result in
    subst (λ (bytes : List ℕ). HasHeard c.args.config bytes heard.0 heard.1.written.bytes (map heard_in heard.1.heard.lines))
    (told.2.0 ∙ ap (λ device. device.now) c.new-reader.ensures.device) told.2.1
