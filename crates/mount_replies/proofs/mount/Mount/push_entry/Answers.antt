use Rattle.std.proofs.Common.{refl, sym}
use Rattle.mount_tree.specs.FolderLists.{folder_list}
use Rattle.mount_tree.specs.FolderEntries.{child_of}
use Rattle.mount_replies.proofs.ListingLemmas.{ended-if, more-if, none-listed}
use Rattle.mount_replies.proofs.mount.Mount.push_entry.Goals as goal

pub returns-in_default-clause-ended : goal.returns-in_default-clause-ended
returns-in_default-clause-ended c =
    rw (← c.self.view_is) (λ e. (refl, λ room left. none-listed room c.args.index (folder_list c.self.inside.scene c.args.folder) (sym c.in_default.ensures)))

pub returns-clause-ended : goal.returns-clause-ended
returns-clause-ended c =
    rw (← c.self.view_is)
    (ended-if c.push.result c.args.data.now.items c.push.new.out.items c.args.size c.args.index (folder_list c.self.inside.scene c.args.folder)
    (child_of c.in-Some.entry) (sym c.in-Some.ensures) (rw c.dirent_of.ensures at c.push.ensures.fits) (rw c.dirent_of.ensures at c.push.ensures.ok))

pub returns-clause-more : goal.returns-clause-more
returns-clause-more c =
    rw (← c.self.view_is)
    (more-if c.push.result c.args.data.now.items c.push.new.out.items c.args.size c.args.index (folder_list c.self.inside.scene c.args.folder)
    (child_of c.in-Some.entry) (sym c.in-Some.ensures) (rw c.dirent_of.ensures at c.push.ensures.fits) (rw c.dirent_of.ensures at c.push.ensures.ok))
