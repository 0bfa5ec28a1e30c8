use Rattle.mount_tree.specs.FolderLists.{folder_list}
use Rattle.mount_replies.proofs.ListingLemmas.{all-listed}
use Rattle.mount_replies.proofs.mount.Mount.push_entries.Goals as goal

pub returns-then-not-pushed-clause-entries : goal.returns-then-not-pushed-clause-entries
returns-then-not-pushed-clause-entries c =
    let ended = c.in_ok-pushed.ensures.ended c.if-not-pushed.true in
    all-listed c.loop-count.data.items c.push_entry.new.data.items c.args.size c.args.first _
    (folder_list c.args.self.now.scene c.args.folder) ended.0 c.loop-count.invariant.fits ended.1 c.loop-count.invariant.so_far
