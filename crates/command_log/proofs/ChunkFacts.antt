-- What a chunk shows after bytes were written ahead, were taken away, or were kept.
use Rattle.std.proofs.Common.{◌≡◌, ℕ, ◌+◌, ◌≤◌, List, [], ◌++◌, length, take, drop, sym, ap, ◌∙◌, arith, length-append, Vec, Global}
use Rattle.std.specs.Vec.{with_items}
use Rattle.std.proofs.lemmas.List.{drop_all, take-append-drop, take-append-le, drop-append-le, length-take-le, take-take, with_items_is}
use Rattle.command_log.specs.PackedEntries.{entries_in, ArePacked}
use Rattle.command_log.specs.ChunkBytes.{seen_chunk, IsChunk}
use Rattle.command_log.specs.declared.chunk.Chunk.TheInside.{Inside}
use Rattle.command_log.proofs.PackedLemmas.{packed_join, entries_join}

-- the bytes up to the end of what is written ahead
abbrev pub used : Inside → List ℕ
used a = take a.end a.bytes.items

used_length : (a : Inside) → IsChunk a → length (used a) ≡ a.end
used_length a is = length-take-le a.end a.bytes.items is.room

-- those of them that count
counted : (a : Inside) → IsChunk a → take a.filled (used a) ≡ take a.filled a.bytes.items
counted a is = take-take a.filled a.end a.bytes.items is.mark

whole : (a : Inside) → IsChunk a → used a ≡ take a.filled a.bytes.items ++ drop a.filled (used a)
whole a is = sym (take-append-drop a.filled (used a)) ∙ ap (λ (xs : List ℕ). xs ++ drop a.filled (used a)) (counted a is)

-- what is written ahead is so many entries, and counts
module _ (a : Inside) (count : ℕ) (is : IsChunk a) where
  nothing_left : drop a.end (used a) ≡ []
  nothing_left = drop_all a.end (used a) (omega (arith, used_length a is))

  pub kept_chunk : ArePacked count (drop a.filled (used a)) → IsChunk (record a { filled = a.end; count = a.count + count })
  kept_chunk ahead = record {
    mark = omega arith;
    room = is.room;
    packed = rw (whole a is) (packed_join a.count count (take a.filled a.bytes.items) (drop a.filled (used a)) is.packed ahead);
  }

  pub kept_seen : seen_chunk (record a { filled = a.end; count = a.count + count }) ≡ record (seen_chunk a) { entries = (seen_chunk a).entries ++ entries_in count (seen_chunk a).ahead; ahead = [] }
  kept_seen =
      let none = nothing_left in
      let all = ap (entries_in (a.count + count)) (whole a is) ∙ entries_join a.count count (take a.filled a.bytes.items) (drop a.filled (used a)) is.packed in
      (λ i. record { entries = all i; ahead = none i; room = (seen_chunk a).room })

-- more bytes are written ahead
module _ (a : Inside) (bytes : Vec ℕ Global) (end : ℕ) (more : List ℕ) (is : IsChunk a) (e : take end bytes.items ≡ used a ++ more) (fits : end ≤ length bytes.items) where
  longer : a.filled ≤ end
  longer = omega (arith, is.mark, used_length a is, length-take-le end bytes.items fits, ap length e, length-append (used a) more)

  pub front_stays : take a.filled bytes.items ≡ take a.filled a.bytes.items
  front_stays =
      sym (take-take a.filled end bytes.items longer) ∙ ap (take a.filled) e
      ∙ take-append-le a.filled (used a) more (omega (arith, is.mark, used_length a is)) ∙ counted a is

  pub more_ahead : drop a.filled (take end bytes.items) ≡ drop a.filled (used a) ++ more
  more_ahead = ap (drop a.filled) e ∙ drop-append-le a.filled (used a) more (omega (arith, is.mark, used_length a is))

  pub longer_chunk : IsChunk (record a { bytes = bytes; end = end })
  longer_chunk = record {
    mark = longer;
    room = fits;
    packed = rw front_stays is.packed;
  }

-- the bytes after the end are others
module _ (a : Inside) (bytes : Vec ℕ Global) (is : IsChunk a) (same : take a.end bytes.items ≡ used a) (fits : a.end ≤ length bytes.items) where
  pub room_front : take a.filled bytes.items ≡ take a.filled a.bytes.items
  room_front = sym (take-take a.filled a.end bytes.items is.mark) ∙ ap (take a.filled) same ∙ counted a is

  pub room_chunk : IsChunk (record a { bytes = bytes })
  room_chunk = record {
    mark = is.mark;
    room = fits;
    packed = rw room_front is.packed;
  }

-- bytes are written into the room
module _ (a : Inside) (bytes : Vec ℕ Global) (seen out : List ℕ) (is : IsChunk a) (same : take a.end bytes.items ≡ used a) (shown : seen ≡ bytes.items) (long : length out ≡ length seen) where
  put_items : (with_items bytes out).items ≡ out
  put_items = with_items_is bytes out (long ∙ ap length shown ∙ sym bytes.ok.0)

  pub put_same : take a.end out ≡ take a.end seen → take a.end (with_items bytes out).items ≡ used a
  put_same kept = ap (take a.end) put_items ∙ kept ∙ ap (take a.end) shown ∙ same

  pub put_fits : (end : ℕ) → end ≤ length seen → end ≤ length (with_items bytes out).items
  put_fits end fits = omega (arith, fits, long, ap length put_items)

  pub put_more : (end : ℕ) (more : List ℕ) → take end out ≡ take a.end seen ++ more → take end (with_items bytes out).items ≡ used a ++ more
  put_more end more e =
      ap (take end) put_items ∙ e ∙ ap (λ (xs : List ℕ). take a.end xs ++ more) shown ∙ ap (λ (xs : List ℕ). xs ++ more) same

-- what is written ahead is taken away
module _ (a : Inside) (is : IsChunk a) where
  pub cut_chunk : IsChunk (record a { end = a.filled })
  cut_chunk = record {
    mark = omega arith;
    room = omega (arith, is.mark, is.room);
    packed = is.packed;
  }

  pub cut_ahead : (seen_chunk (record a { end = a.filled })).ahead ≡ []
  cut_ahead = drop_all a.filled (take a.filled a.bytes.items) (omega (arith, length-take-le a.filled a.bytes.items (omega (arith, is.mark, is.room))))
