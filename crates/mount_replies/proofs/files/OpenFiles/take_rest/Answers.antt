use Rattle.std.proofs.Common.{ap, ◌∙◌}
use Rattle.mount_replies.specs.Services.{OpenSeen}
use Rattle.mount_replies.proofs.FileLemmas.{changed, same-file}
use Rattle.mount_replies.proofs.files.OpenFiles.take_rest.Goals as goal

pub returns-clause-value : goal.returns-clause-value
returns-clause-value c file has =
    c.take_rest-rest.ensures.value ∙ ap (λ (f : OpenSeen). f.stream.rest) (same-file _ _ file c.in-Some.ensures.value has)

pub returns-clause-after : goal.returns-clause-after
returns-clause-after c = changed _ _ _ _ _ _ _ c.in-Some.ensures.value c.take.ensures.after c.take_rest-rest.ensures.after c.put.ensures
