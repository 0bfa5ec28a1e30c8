use Rattle.mount_replies.specs.contracts.mount.Mount.{the_view}
use Rattle.mount_replies.proofs.WriteLemmas.{switch-done, switch-refused}
use Rattle.mount_replies.proofs.mount.Mount.write_switch.Goals as goal

pub returns-in-Ok-clause-step : goal.returns-in-Ok-clause-step
returns-in-Ok-clause-step c = λ past own mounted is.
    switch-done past c.args.self.now c.ask_noted.new.self (the_view c.self.inside) own c.args.target c.args.bytes.now c.switch_text.result.now c.args.switch
    c.args.on c.args.size c.wrong_offset-at.result c.note_write.new.self c.in-Ok.field-0 mounted is c.switch_text.ensures c.wrong_offset-at.ensures
    (c.in-Ok.ensures past mounted) c.self.view_is c.note_write.ensures

pub returns-in-Err-clause-step : goal.returns-in-Err-clause-step
returns-in-Err-clause-step c = λ past own mounted is.
    switch-refused past c.args.self.now c.ask_noted.new.self own c.args.target c.args.bytes.now c.switch_text.result.now c.args.switch
    c.args.on c.args.size c.wrong_offset-at.result c.in-Err.errno mounted is c.switch_text.ensures c.wrong_offset-at.ensures (c.in-Err.ensures past mounted)
