use Rattle.std.proofs.Common.{sym, ◌∙◌}
use Rattle.mount_replies.specs.Lines.{asked_by_line}
use Rattle.file_list.specs.declared.file.File.TheVariants as files
use Rattle.mount_replies.proofs.StreamLemmas.{blank-asks}
use Rattle.mount_replies.proofs.StreamSteps.{blank-ended, line-made, line-refused}
use Rattle.mount_replies.proofs.mount.Mount.end_line.Goals as goal

pub returns-then-is_blank : goal.returns-then-is_blank
returns-then-is_blank c = λ past own is mounted owner file there.
    blank-ended past c.args.self.now own is (asked_by_line c.args.self.now.live.config.cpus c.args.pid is) c.args.line.now mounted
    (blank-asks c.args.self.now.live.config.cpus c.args.pid is c.args.line.now (sym c.is_blank.ensures ∙ c.if-is_blank.true))

pub returns-in-Ok : goal.returns-in-Ok
returns-in-Ok c = λ past own is mounted owner file there.
    line-made past c.args.self.now c.do_injection.new.self own is c.args.pid c.args.line.now (c.in-Ok.ensures past is mounted there)

pub returns-in-Err : goal.returns-in-Err
returns-in-Err c = λ past own is mounted owner file there.
    line-refused past c.args.self.now c.do_injection.new.self c.note_injection.new.self own is c.args.owner (files.Inject c.args.event) c.args.event c.args.pid c.args.line
    c.in-Err.fault c.note_injection.result owner file (c.in-Err.ensures past is mounted there) there c.note_injection.ensures
