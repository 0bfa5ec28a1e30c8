use Rattle.history_laws.proofs.TriggerConditions.{emissions_have_their_rows, snapshot_triggers_meet_as_their_trees, hist_triggers_meet_as_their_trees}
use Rattle.history_laws.proofs.files.triggers_meet_as_their_trees.Goals as goal

pub returns-clause-snapshot : goal.returns-clause-snapshot
returns-clause-snapshot c =
    snapshot_triggers_meet_as_their_trees c.filters_hold_as_their_trees.ensures c.trigger_texts_are_as_written.ensures.attach

pub returns-clause-hist : goal.returns-clause-hist
returns-clause-hist c =
    hist_triggers_meet_as_their_trees c.filters_hold_as_their_trees.ensures c.trigger_texts_are_as_written.ensures.hist
    c.hist_triggers_are_as_written.ensures.ok c.triggers_are_few_and_differ.ensures.attached

pub returns-clause-rows : goal.returns-clause-rows
returns-clause-rows c = emissions_have_their_rows
