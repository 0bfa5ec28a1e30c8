use Rattle.history_laws.proofs.LookedTables.{looking_changes_nothing, looking_takes_only_room, looking_leaves_waiting, looks_can_be_done_without, looks_can_be_left_out}
use Rattle.history_laws.proofs.files.looking_changes_nothing.Goals as goal

pub returns-clause-later : goal.returns-clause-later
returns-clause-later c = looking_changes_nothing

pub returns-clause-room : goal.returns-clause-room
returns-clause-room c = looking_takes_only_room

pub returns-clause-waiting : goal.returns-clause-waiting
returns-clause-waiting c = looking_leaves_waiting

pub returns-clause-legal : goal.returns-clause-legal
returns-clause-legal c = looks_can_be_left_out

pub returns-clause-done : goal.returns-clause-done
returns-clause-done c = looks_can_be_done_without
