use Rattle.std.proofs.Common.{ap, ◌∙◌}
use Rattle.trace_command.specs.declared.command.Config.{Config}
use Rattle.shared_mount.specs.MountEntries.{done_in}
use Rattle.library_tracer.specs.ListedFiles.{files_after}
use Rattle.library_tracer.proofs.FilesLemmas.{lists_no_memory, lists_text, lists_worn}
use Rattle.library_tracer.proofs.console.Console.files.Goals as goal

pub returns-in-Some-Ok-Ok-clause-comes : goal.returns-in-Some-Ok-Ok-clause-comes
returns-in-Some-Ok-Ok-clause-comes c =
    lists_text c.args.self.now c.look.new.self c.told.new.self c.told.result c.from.result _
    (rw (c.in-Some-Ok-Ok.field-0-is, c.in-Some-Ok-Ok.field-0-0-is) at c.in-Some-Ok-Ok.ensures.comes)
    (λ entries told. c.from.ensures ∙ told.told (done_in entries) told.lives ∙ ap (λ (g : Config). files_after g (done_in entries)) told.config)
    c.told.ensures.comes

pub returns-in-Some-Ok-Err-clause-comes : goal.returns-in-Some-Ok-Err-clause-comes
returns-in-Some-Ok-Err-clause-comes c =
    lists_no_memory c.args.self.now c.look.new.self c.told-in-Some-Ok-Err.new.self c.told-in-Some-Ok-Err.result _
    (rw (c.in-Some-Ok-Err.field-0-is, c.in-Some-Ok-Err.field-0-0-is) at c.in-Some-Ok-Err.ensures.comes) c.told-in-Some-Ok-Err.ensures.comes

pub returns-in-Some-Err-clause-comes : goal.returns-in-Some-Err-clause-comes
returns-in-Some-Err-clause-comes c =
    lists_worn c.args.self.now c.look.new.self c.told-in-Some-Err.new.self c.told-in-Some-Err.result c.in-Some-Err.refusal
    (rw c.in-Some-Err.field-0-is at c.in-Some-Err.ensures.comes) c.told-in-Some-Err.ensures.comes
