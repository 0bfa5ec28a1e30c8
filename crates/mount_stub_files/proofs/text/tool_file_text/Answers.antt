use Rattle.std.proofs.Common.{ap, ◌∙◌}
use Rattle.mount_tree.specs.Scenes.{SceneSeen}
use Rattle.mount_stub_files.specs.private.Flags.{flagged_lines}
use Rattle.mount_stub_files.proofs.EventFlags.{kept_lines}
use Rattle.mount_stub_files.proofs.Owners.{if_ok}
use Rattle.mount_stub_files.proofs.text.tool_file_text.Goals as goal

pub returns-in-SetEvent : goal.returns-in-SetEvent
returns-in-SetEvent c name past is stands =
    let kept = c.args.instance.now in
    rw c.in-SetEvent.is (if_ok c.enabled_events.result (λ text shown. shown
    ∙ ap (λ (scene : SceneSeen). flagged_lines kept.enabled scene.events) is
    ∙ kept_lines c.args.config.now name past kept stands) c.enabled_events.ensures)
