use Rattle.std.proofs.Common.{◌∙◌, refl}
use Rattle.page_ring.proofs.BufferFacts.{same_read}
use Rattle.page_ring.proofs.RoomFacts.{room_begun}
use Rattle.page_ring.proofs.pages.Pages.clear.Goals as goal

pub returns : goal.returns
returns c =
    let freed = c.free_circle.ensures in
    record {
      reader = c.begin.ensures ∙ rw freed.reader refl;
      circle = freed.circle;
      tail = c.begin-2.ensures ∙ rw freed.tail refl;
      buffers = same_read c.args.self.now c.free_circle.new.self c.begin.new.self c.begin-2.new.self (room_begun _ _ 0 0 c.begin.ensures) (room_begun _ _ 0 0 c.begin-2.ensures) freed.buffers;
    }
