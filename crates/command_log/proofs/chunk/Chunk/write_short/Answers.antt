use Rattle.std.proofs.Common.{◌++◌, length, drop, ap, ◌∙◌}
use Rattle.std.specs.Vec.{with_items}
use Rattle.command_log.specs.ChunkSeen.{ChunkSeen}
use Rattle.command_log.specs.EntryEncoding.{text_bytes, length_bytes, pairs_bytes}
use Rattle.command_log.specs.PackedEntries.{entries_in}
use Rattle.command_log.proofs.ChunkFacts.{room_front, room_chunk, front_stays, more_ahead, longer_chunk, put_same, put_fits, put_more}
use Rattle.command_log.proofs.chunk.Chunk.write_short.Goals as goal

-- there is room, or less than before
pub invariant_of-self : goal.invariant_of-self
invariant_of-self c = room_chunk c.self.inside c.make_room.new.bytes c.self.invariant c.make_room.ensures.kept c.make_room.ensures.within

pub returns-in_err-make_room-clause-entries : goal.returns-in_err-make_room-clause-entries
returns-in_err-make_room-clause-entries c =
    let a = c.self.inside in
    ap (entries_in a.count) (room_front a c.make_room.new.bytes c.self.invariant c.make_room.ensures.kept c.make_room.ensures.within)
    ∙ ap (λ (seen : ChunkSeen). seen.entries) c.self.view_is

-- the entry is short
pub invariant_of-self-in-Some : goal.invariant_of-self-in-Some
invariant_of-self-in-Some c =
    let a = c.self.inside in
    let v = c.make_room.new.bytes in
    let out = c.put_short.new.out in
    let entry = c.args.head.now ++ text_bytes c.args.event.now ++ length_bytes (length c.args.pairs.now) ++ pairs_bytes c.args.pairs.now in
    longer_chunk a (with_items v out) c.in-Some.end entry c.self.invariant
    (put_more a v _ out c.self.invariant c.make_room.ensures.kept c.deref_mut.ensures.value c.put_short.ensures.length c.in-Some.end entry c.in-Some.ensures.bytes)
    (put_fits a v _ out c.self.invariant c.make_room.ensures.kept c.deref_mut.ensures.value c.put_short.ensures.length c.in-Some.end c.in-Some.ensures.end)

pub returns-in-Some-clause-entries : goal.returns-in-Some-clause-entries
returns-in-Some-clause-entries c =
    let a = c.self.inside in
    let v = c.make_room.new.bytes in
    let out = c.put_short.new.out in
    let entry = c.args.head.now ++ text_bytes c.args.event.now ++ length_bytes (length c.args.pairs.now) ++ pairs_bytes c.args.pairs.now in
    ap (entries_in a.count)
    (front_stays a (with_items v out) c.in-Some.end entry c.self.invariant
    (put_more a v _ out c.self.invariant c.make_room.ensures.kept c.deref_mut.ensures.value c.put_short.ensures.length c.in-Some.end entry c.in-Some.ensures.bytes)
    (put_fits a v _ out c.self.invariant c.make_room.ensures.kept c.deref_mut.ensures.value c.put_short.ensures.length c.in-Some.end c.in-Some.ensures.end))
    ∙ ap (λ (seen : ChunkSeen). seen.entries) c.self.view_is

pub returns-in-Some-clause-ahead : goal.returns-in-Some-clause-ahead
returns-in-Some-clause-ahead c = λ _.
    let a = c.self.inside in
    let v = c.make_room.new.bytes in
    let out = c.put_short.new.out in
    let entry = c.args.head.now ++ text_bytes c.args.event.now ++ length_bytes (length c.args.pairs.now) ++ pairs_bytes c.args.pairs.now in
    more_ahead a (with_items v out) c.in-Some.end entry c.self.invariant
    (put_more a v _ out c.self.invariant c.make_room.ensures.kept c.deref_mut.ensures.value c.put_short.ensures.length c.in-Some.end entry c.in-Some.ensures.bytes)
    (put_fits a v _ out c.self.invariant c.make_room.ensures.kept c.deref_mut.ensures.value c.put_short.ensures.length c.in-Some.end c.in-Some.ensures.end)
    ∙ ap (λ (seen : ChunkSeen). seen.ahead ++ entry) c.self.view_is

-- it isn't
pub invariant_of-self-in-None : goal.invariant_of-self-in-None
invariant_of-self-in-None c =
    let a = c.self.inside in
    let v = c.make_room.new.bytes in
    let out = c.put_short.new.out in
    room_chunk a (with_items v out) c.self.invariant
    (put_same a v _ out c.self.invariant c.make_room.ensures.kept c.deref_mut.ensures.value c.put_short.ensures.length c.put_short.ensures.kept)
    (put_fits a v _ out c.self.invariant c.make_room.ensures.kept c.deref_mut.ensures.value c.put_short.ensures.length a.end (rw c.deref_mut.ensures.value c.make_room.ensures.within))

pub returns-in-None-clause-entries : goal.returns-in-None-clause-entries
returns-in-None-clause-entries c =
    let a = c.self.inside in
    let v = c.make_room.new.bytes in
    let out = c.put_short.new.out in
    ap (entries_in a.count)
    (room_front a (with_items v out) c.self.invariant
    (put_same a v _ out c.self.invariant c.make_room.ensures.kept c.deref_mut.ensures.value c.put_short.ensures.length c.put_short.ensures.kept)
    (put_fits a v _ out c.self.invariant c.make_room.ensures.kept c.deref_mut.ensures.value c.put_short.ensures.length a.end (rw c.deref_mut.ensures.value c.make_room.ensures.within)))
    ∙ ap (λ (seen : ChunkSeen). seen.entries) c.self.view_is

pub returns-in-None-clause-other : goal.returns-in-None-clause-other
returns-in-None-clause-other c = λ _.
    let a = c.self.inside in
    let v = c.make_room.new.bytes in
    let out = c.put_short.new.out in
    ap (drop a.filled) (put_same a v _ out c.self.invariant c.make_room.ensures.kept c.deref_mut.ensures.value c.put_short.ensures.length c.put_short.ensures.kept)
    ∙ ap (λ (seen : ChunkSeen). seen.ahead) c.self.view_is
