-- What a put and a read leave of a page's bytes.
use Rattle.std.proofs.Common.{◌≡◌, ◌≢◌, ℕ, ◌+◌, ◌-◌, ◌<◌, ◌≤◌, ◌^◌, List, ◌∷◌, ◌++◌, length, take, drop, refl, sym, ◌∙◌, arith, length-append, length-drop, length-take, suc}
use Rattle.std.proofs.Common.{Vec, Global}
use Rattle.std.specs.Vec.{vec_capacity}
use Rattle.std.proofs.lemmas.List.{drop-append-le, drop-drop, take_all}
use Rattle.trace_record.specs.Record.{IsRecord, told_length}
use Rattle.page_ring.specs.Packed.{records_in}
use Rattle.page_ring.specs.PageBytes.{seen_page, IsPage}
use Rattle.page_ring.specs.PageReads.{AppendsTo, TakesFrom}
use Rattle.page_ring.specs.declared.page.Page.TheInside.{Inside}
use Rattle.page_ring.proofs.PackedFacts.{packed_push, records_in_push, packed_first, told_length-head}

one_more : (n : ℕ) → suc n ≡ n + 1
one_more n = omega arith

-- a slice from a place to the end
pub rest_of : (n : ℕ) (items bytes : List ℕ) → items ≡ bytes → take (length items - n) (drop n items) ≡ drop n bytes
rest_of n items bytes e =
    rw e (take_all (length bytes - n) (drop n bytes) (omega (arith, length-drop n bytes)))

-- a record is written at the fill
pub page_appended : (a : Inside) (bytes : Vec ℕ Global) (rec : List ℕ) → IsPage a → IsRecord rec → bytes.items ≡ a.bytes.items ++ rec → a.first + a.unread + 1 < 2 ^ 64 → IsPage (record a { bytes = bytes; unread = a.unread + 1 })
page_appended a bytes rec s is e small = record {
  cursor = rw (e, length-append) (let l : a.cursor ≤ length a.bytes.items = s.cursor in omega arith);
  packed = rw (e, drop-append-le a.cursor a.bytes.items rec s.cursor, ← one_more a.unread) (packed_push a.unread (drop a.cursor a.bytes.items) rec s.packed is);
  small = omega arith;
}

pub appends_to : (a : Inside) (bytes : Vec ℕ Global) (rec : List ℕ) → IsPage a → IsRecord rec → bytes.items ≡ a.bytes.items ++ rec → vec_capacity a.bytes ≤ vec_capacity bytes → AppendsTo (seen_page a) (seen_page (record a { bytes = bytes; unread = a.unread + 1 })) rec
appends_to a bytes rec s is e room = record {
  number = refl;
  filled = rw (e, length-append) refl;
  records = rw (e, drop-append-le a.cursor a.bytes.items rec s.cursor, ← one_more a.unread) (records_in_push a.first a.unread (drop a.cursor a.bytes.items) rec s.packed is);
  next = omega arith;
  room = room;
}

-- what is unread has the head of a record
pub unread_head : (a : Inside) (unread : List ℕ) → IsPage a → a.unread ≢ 0 → unread ≡ drop a.cursor a.bytes.items → 16 ≤ length unread
unread_head a unread s some e =
    let begins = packed_first a.first a.unread (drop a.cursor a.bytes.items) some s.packed in
    let whole : told_length (drop a.cursor a.bytes.items) ≤ length (drop a.cursor a.bytes.items) = begins.whole in
    rw e (omega (arith, told_length-head (drop a.cursor a.bytes.items)))

-- the record at the read cursor ends at the fill or before it
pub unread_ends : (a : Inside) (size : ℕ) → IsPage a → a.unread ≢ 0 → size ≡ told_length (drop a.cursor a.bytes.items) → a.cursor + size ≤ length a.bytes.items
unread_ends a size s some e =
    let begins = packed_first a.first a.unread (drop a.cursor a.bytes.items) some s.packed in
    let whole : told_length (drop a.cursor a.bytes.items) ≤ length (drop a.cursor a.bytes.items) = begins.whole in
    let cursor : a.cursor ≤ length a.bytes.items = s.cursor in
    omega (arith, length-drop a.cursor a.bytes.items)

-- the record at the read cursor is read
pub page_taken : (a : Inside) (size : ℕ) → IsPage a → a.unread ≢ 0 → size ≡ told_length (drop a.cursor a.bytes.items) → IsPage (record a { cursor = a.cursor + size; first = a.first + 1; unread = a.unread - 1 })
page_taken a size s some e =
    let begins = packed_first a.first a.unread (drop a.cursor a.bytes.items) some s.packed in
    let whole : told_length (drop a.cursor a.bytes.items) ≤ length (drop a.cursor a.bytes.items) = begins.whole in
    let behind : a.cursor ≤ length a.bytes.items = s.cursor in
    let length_is : length (drop a.cursor a.bytes.items) ≡ length a.bytes.items - a.cursor = length-drop a.cursor a.bytes.items in
    record {
      cursor = omega arith;
      packed = rw (e, ← drop-drop (told_length (drop a.cursor a.bytes.items)) a.cursor a.bytes.items) begins.packed;
      small = let k : a.first + a.unread < 2 ^ 64 = s.small in omega arith;
    }

pub takes_from : (a : Inside) (size : ℕ) → IsPage a → a.unread ≢ 0 → size ≡ told_length (drop a.cursor a.bytes.items) → TakesFrom (seen_page a) (seen_page (record a { cursor = a.cursor + size; first = a.first + 1; unread = a.unread - 1 })) a.first size
takes_from a size s some e =
    let unread = drop a.cursor a.bytes.items in
    let begins = packed_first a.first a.unread unread some s.packed in
    let whole : told_length unread ≤ length unread = begins.whole in
    let next : a.first + 1 + (a.unread - 1) ≡ a.first + a.unread = omega arith in
    let bytes : List ℕ = take (told_length unread) unread in
    let there : records_in a.first a.unread unread ≡ record { number = a.first; bytes = bytes } ∷ records_in (a.first + 1) (a.unread - 1) (drop (a.cursor + size) a.bytes.items) =
    rw (e, ← drop-drop (told_length unread) a.cursor a.bytes.items) begins.records in
    record {
      bytes = bytes;
      size = e ∙ sym (length-take-le (told_length unread) unread whole);
      taken = rw (next, there) refl;
    }
  where
    length-take-le : (n : ℕ) (xs : List ℕ) → n ≤ length xs → length (take n xs) ≡ n
    length-take-le n xs l = omega (arith, length-take n xs)
