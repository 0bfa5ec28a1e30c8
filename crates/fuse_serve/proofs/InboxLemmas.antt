-- Bytes in a buffer, from a start to an end.
use Rattle.std.proofs.Common.{◌≡◌, ℕ, ◌+◌, ◌-◌, ◌≤◌, min, List, ◌++◌, length, take, drop, sym, ap, refl, ◌∙◌, arith, length-take, length-drop, length-append}
use Rattle.std.proofs.lemmas.List.{drop-drop, drop-take, take_at, take-append-le}
use Rattle.std.proofs.Math.Seq.{take-append-add}
use Rattle.std.specs.List.{copy_within}
use Rattle.std.proofs.lemmas.List.{with_items_is}
use Rattle.std.specs.declared.vec.Vec.{Vec}
use Rattle.std.specs.Vec.{with_items}
use borrow.Rule.Slice.PartMut.{put_mid, post_of}

-- how many they are
pub length_between : (buffer : List ℕ) (start end : ℕ) → end ≤ length buffer → length (take (end - start) (drop start buffer)) ≡ end - start
length_between buffer start end within =
    let left : length (drop start buffer) ≡ length buffer - start = length-drop start buffer in
    length-take (end - start) (drop start buffer) ∙ omega (arith, left, within)

-- without the first bytes
pub later : (buffer : List ℕ) (start end count : ℕ) → count ≤ length (take (end - start) (drop start buffer))
    → take (end - (start + count)) (drop (start + count) buffer) ≡ drop count (take (end - start) (drop start buffer))
later buffer start end count fits =
    let waiting : length (take (end - start) (drop start buffer)) ≡ min (end - start) (length (drop start buffer)) = length-take (end - start) (drop start buffer) in
    let rest = end - (start + count) in
    let whole : end - start ≡ count + rest = omega (arith, fits, waiting) in
    ap (take rest) (sym (drop-drop count start buffer))
    ∙ (sym (drop-take count rest (drop start buffer))
    ∙ ap (λ (n : ℕ). drop count (take n (drop start buffer))) (sym whole))

-- the bytes that wait, moved to the beginning, have not changed
pub moved : (buffer front : List ℕ) (start end : ℕ) → end ≤ length buffer → front ≡ copy_within buffer start end 0
    → take (end - start) front ≡ take (end - start) (drop start buffer)
moved buffer front start end within copied =
    let size = end - start in
    let bytes = take size (drop start buffer) in
    ap (take size) copied ∙ take_at bytes (drop (0 + size) buffer) size (length_between buffer start end within)

length_put : (front bytes : List ℕ) (size room : ℕ) → size ≤ length front → room ≡ length front - size → length bytes ≡ room
    → length (put_mid size room front bytes) ≡ length front
length_put front bytes size room within left same =
    let first : length (take size front) ≡ size = length-take size front ∙ omega (arith, within) in
    let rest : length (drop room (drop size front)) ≡ 0 =
    length-drop room (drop size front) ∙ omega (arith, length-drop size front, left) in
    length-append (take size front) (bytes ++ post_of size room front)
    ∙ omega (arith, length-append bytes (drop room (drop size front)), first, rest, left, same, within)

-- after a read into the room
pub added : (front bytes : List ℕ) (size room count : ℕ) → size ≤ length front → count ≤ length bytes
    → take (size + count) (put_mid size room front bytes) ≡ take size front ++ take count bytes
added front bytes size room count within fits =
    let kept = take size front in
    let known : length kept ≡ size = length-take size front ∙ omega (arith, within) in
    ap (λ (n : ℕ). take (n + count) (put_mid size room front bytes)) (sym known)
    ∙ (take-append-add kept (bytes ++ post_of size room front) count
    ∙ ap (λ (xs : List ℕ). kept ++ xs) (take-append-le count bytes (post_of size room front) fits))

-- and after one that gave nothing
pub kept : (front bytes : List ℕ) (size room : ℕ) → size ≤ length front → take size (put_mid size room front bytes) ≡ take size front
kept front bytes size room within = take_at (take size front) (bytes ++ post_of size room front) size (length-take size front ∙ omega (arith, within))

-- a read into the room of a vector, after the bytes that wait were moved
module _ {Z : Type 0} (v : Vec ℕ Z) (buffer middle front bytes : List ℕ) (start end : ℕ) (within : end ≤ length buffer) (same : end - start ≤ length front)
    (lent : front ≡ middle) (copied : middle ≡ copy_within buffer start end 0) (room : length bytes ≡ length front - (end - start)) (size : length front ≡ v.len) where
  abbrev after : List ℕ
  after = put_mid (end - start) (length front - (end - start)) front bytes

  items : (with_items v after).items ≡ after
  items = with_items_is v after (length_put front bytes (end - start) (length front - (end - start)) same refl room ∙ size)

  pub came_in : (waited : List ℕ) (count : ℕ) → take (end - start) (drop start buffer) ≡ waited → count ≤ length bytes
      → take (end - start + count - 0) (drop 0 (with_items v after).items) ≡ waited ++ take count bytes
  came_in waited count is fits =
      let none : end - start + count - 0 ≡ end - start + count = omega arith in
      ap (λ (xs : List ℕ). take (end - start + count - 0) (drop 0 xs)) items
      ∙ (ap (λ (n : ℕ). take n after) none
      ∙ (added front bytes (end - start) (length front - (end - start)) count same fits
      ∙ ap (λ (xs : List ℕ). xs ++ take count bytes) (moved buffer front start end within (lent ∙ copied) ∙ is)))

  pub stayed : take (end - start - 0) (drop 0 (with_items v after).items) ≡ take (end - start) (drop start buffer)
  stayed =
      let none : end - start - 0 ≡ end - start = omega arith in
      ap (λ (xs : List ℕ). take (end - start - 0) (drop 0 xs)) items
      ∙ (ap (λ (n : ℕ). take n after) none
      ∙ (kept front bytes (end - start) (length front - (end - start)) same ∙ moved buffer front start end within (lent ∙ copied)))
