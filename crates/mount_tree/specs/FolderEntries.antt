-- Entries, whose names are borrowed, as the definitions have them.
use Rattle.mount_tree.specs.Children.{Child}
use Rattle.mount_tree.specs.declared.entry.Entry.{Entry}

abbrev pub child_of : Entry → Child
child_of entry = record { name = entry.name.now; node = entry.node }
