use Rattle.mount_replies.specs.contracts.mount.Mount.{the_view}
use Rattle.mount_replies.proofs.WriteLemmas.{text-step}
use Rattle.mount_replies.proofs.mount.Mount.write_text.Goals as goal

pub returns-clause-step : goal.returns-clause-step
returns-clause-step c =
    let runs = rw (← c.self.view_is) at c.do_commands-progress.ensures.runs in
    let stays = rw (← c.self.view_is) at c.do_commands-progress.ensures.stays in
    rw (← c.self.view_is) (λ past own mounted is.
    text-step past (the_view c.self.inside) c.do_commands-progress.new.self c.end_commands.new.self own c.args.target c.args.bytes.now
    c.now-time.result c.do_commands-progress.result c.end_commands.result mounted is (c.now-time.ensures past mounted.lives)
    stays.path (runs past mounted) c.end_commands.ensures.ends)
