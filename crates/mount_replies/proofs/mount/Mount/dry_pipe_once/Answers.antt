use Rattle.std.proofs.Common.{Option, IfSome, Some, sym}
use Rattle.std.proofs.lemmas.List.Elements.{All-contains}
use Rattle.mount_replies.specs.declared.dry_pipes.DryPipe.{DryPipe}
use Rattle.mount_replies.specs.private.DryPipes.{IsDryNow}
use Rattle.mount_replies.proofs.mount.Mount.dry_pipe_once.Goals as goal

pub returns-in-Some-clause-is : goal.returns-in-Some-clause-is
returns-in-Some-clause-is c = λ past mounted.
    sym (All-contains (λ (slot : Option DryPipe). IfSome slot (IsDryNow past c.args.self.now)) c.args.pipes.now
    (Some (record { owner = c.args.owner; file = c.args.file; tracing = c.in-Some.tracing })) (c.requires.dry past mounted) c.in-Some.ensures).0

pub returns-in-Some-clause-tracing : goal.returns-in-Some-clause-tracing
returns-in-Some-clause-tracing c = λ past mounted.
    (All-contains (λ (slot : Option DryPipe). IfSome slot (IsDryNow past c.args.self.now)) c.args.pipes.now
    (Some (record { owner = c.args.owner; file = c.args.file; tracing = c.in-Some.tracing })) (c.requires.dry past mounted) c.in-Some.ensures).1
