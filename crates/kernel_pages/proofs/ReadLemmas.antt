-- What is read of the events that are written.
use Rattle.std.proofs.Common.{◌≡◌, ℕ, suc, zero, ◌+◌, ◌-◌, ◌*◌, ◌/◌, ◌%◌, ◌^◌, ◌<◌, ◌≤◌, ◌==◌, ltb, leb, Bool, if◌then◌else◌, true, false, List, [], ◌∷◌, ◌++◌, length, take, drop, map, refl, sym, ap, ◌∙◌, subst, append_assoc, arith, lit<, length-append, le-ltb}
use Rattle.std.specs.Int.{w32, to_le_bytes}
use Rattle.std.specs.List.{AllByRecursion}
use Rattle.std.proofs.lemmas.Bool.Decides.{nat_tests}
use Rattle.std.proofs.lemmas.List.{take_at, drop_at, drop-drop}
use Rattle.std.proofs.lemmas.Nat.{from_le_bytes-to_le_bytes_4}
use Rattle.trace_record.specs.Record.{number_at}
use Rattle.kernel_pages.specs.declared.page_row.PageRow.{PageRow}
use Rattle.kernel_pages.specs.Pages.{data_event, extend_event, event_bytes, events_from, InTime}
use Rattle.kernel_pages.specs.ReadPages.{read_events}
use Rattle.kernel_pages.specs.Laws.{IsPageRow, event_of}
use Rattle.kernel_pages.proofs.EventLemmas.{length-data_event, first_is_small, rest_is_small}

-- ---- one of the cases

module _ {X : Type 0} (short : Bool) (t : ℕ) (p q r s u v : X) (long : short ≡ false) where
  pub pick_data : 1 ≤ t → t ≤ 28 → (if short then p else if t == 0 then q else if t == 29 then r else if t == 30 then s else if t == 31 then u else v) ≡ v
  pick_data low high =
      let a : (t == 0) ≡ false = grind (arith, nat_tests) in
      let b : (t == 29) ≡ false = grind (arith, nat_tests) in
      let c : (t == 30) ≡ false = grind (arith, nat_tests) in
      let d : (t == 31) ≡ false = grind (arith, nat_tests) in
      rw (long, a, b, c, d) refl

  pub pick_long : t ≡ 0 → (if short then p else if t == 0 then q else if t == 29 then r else if t == 30 then s else if t == 31 then u else v) ≡ q
  pick_long is =
      let a : (t == 0) ≡ true = grind (arith, nat_tests) in
      rw (long, a) refl

  pub pick_extend : t ≡ 30 → (if short then p else if t == 0 then q else if t == 29 then r else if t == 30 then s else if t == 31 then u else v) ≡ s
  pick_extend is =
      let a : (t == 0) ≡ false = grind (arith, nat_tests) in
      let b : (t == 29) ≡ false = grind (arith, nat_tests) in
      let c : (t == 30) ≡ true = grind (arith, nat_tests) in
      rw (long, a, b, c) refl

module _ (most time : ℕ) (bytes : List ℕ) (long : 4 ≤ length bytes) where
  step_data : (head : ℕ) → number_at w32 0 bytes ≡ head → 1 ≤ head % 32 → head % 32 ≤ 28
      → read_events (suc most) time bytes
      ≡ record { time = time + head / 32; bytes = take (4 * (head % 32)) (drop 4 bytes) } ∷ read_events most (time + head / 32) (drop (4 + 4 * (head % 32)) bytes)
  unfolding read_events
  step_data head is low high =
      pick_data (ltb (length bytes) 4) (number_at w32 0 bytes % 32) _ _ _ _ _ _ (le-ltb _ _ long) (subst (λ h. 1 ≤ h % 32) (sym is) low) (subst (λ h. h % 32 ≤ 28) (sym is) high)
      ∙ ap (λ h. record { time = time + h / 32; bytes = take (4 * (h % 32)) (drop 4 bytes) } ∷ read_events most (time + h / 32) (drop (4 + 4 * (h % 32)) bytes)) is

  step_long : (head second : ℕ) → number_at w32 0 bytes ≡ head → number_at w32 4 bytes ≡ second → head % 32 ≡ 0
      → read_events (suc most) time bytes
      ≡ record { time = time + head / 32; bytes = take (second - 4) (drop 8 bytes) } ∷ read_events most (time + head / 32) (drop (4 + second) bytes)
  unfolding read_events
  step_long head second is then_is none =
      pick_long (ltb (length bytes) 4) (number_at w32 0 bytes % 32) _ _ _ _ _ _ (le-ltb _ _ long) (ap (λ h. h % 32) is ∙ none)
      ∙ (λ i. record { time = time + is i / 32; bytes = take (then_is i - 4) (drop 8 bytes) } ∷ read_events most (time + is i / 32) (drop (4 + then_is i) bytes))

  step_extend : (head second : ℕ) → number_at w32 0 bytes ≡ head → number_at w32 4 bytes ≡ second → head % 32 ≡ 30
      → read_events (suc most) time bytes ≡ read_events most (time + (head / 32 + 2 ^ 27 * second)) (drop 8 bytes)
  unfolding read_events
  step_extend head second is then_is extend =
      pick_extend (ltb (length bytes) 4) (number_at w32 0 bytes % 32) _ _ _ _ _ _ (le-ltb _ _ long) (ap (λ h. h % 32) is ∙ extend)
      ∙ (λ i. read_events most (time + (is i / 32 + 2 ^ 27 * then_is i)) (drop 8 bytes))

-- ---- one event

-- bytes of whole words, some and not too many
pub record IsData (bytes : List ℕ) : Type 0 where
  pub words : length bytes % 4 ≡ 0
  pub some : 4 ≤ length bytes
  pub few : length bytes ≤ 4080

-- some bytes, and others after them
after_first : (front bytes rest : List ℕ) (n : ℕ) → n ≡ length bytes → take n (bytes ++ rest) ≡ bytes
after_first front bytes rest n e = take_at bytes rest n (sym e)

read_short : (most time delta : ℕ) (bytes rest : List ℕ) → delta < 2 ^ 27 → IsData bytes → length bytes ≤ 112
    → read_events (suc most) time ((to_le_bytes w32 (length bytes / 4 + 32 * delta) ++ bytes) ++ rest) ≡ record { time = time + delta; bytes = bytes } ∷ read_events most (time + delta) rest
read_short most time delta bytes rest fits is short =
    let head = length bytes / 4 + 32 * delta in
    let all = (to_le_bytes w32 head ++ bytes) ++ rest in
    let words = is.words in
    let some = is.some in
    let four : 4 ≤ length all = omega (arith, length-append bytes rest) in
    let low : head % 32 ≡ length bytes / 4 = omega arith in
    let high : head / 32 ≡ delta = omega arith in
    let size : 4 * (head % 32) ≡ length bytes = omega arith in
    let front : take (4 * (head % 32)) (bytes ++ rest) ≡ bytes = take_at bytes rest (4 * (head % 32)) (sym size) in
    let back : drop (4 + 4 * (head % 32)) all ≡ rest = sym (drop-drop (4 * (head % 32)) 4 all) ∙ drop_at bytes rest (4 * (head % 32)) (sym size) in
    step_data most time all four head (from_le_bytes-to_le_bytes_4 head (omega arith)) (omega arith) (omega arith)
    ∙ (λ i. record { time = time + high i; bytes = front i } ∷ read_events most (time + high i) (back i))

read_long : (most time delta : ℕ) (bytes rest : List ℕ) → delta < 2 ^ 27 → IsData bytes
    → read_events (suc most) time ((to_le_bytes w32 (32 * delta) ++ (to_le_bytes w32 (length bytes + 4) ++ bytes)) ++ rest)
    ≡ record { time = time + delta; bytes = bytes } ∷ read_events most (time + delta) rest
read_long most time delta bytes rest fits is =
    let all = (to_le_bytes w32 (32 * delta) ++ (to_le_bytes w32 (length bytes + 4) ++ bytes)) ++ rest in
    let few = is.few in
    let four : 4 ≤ length all = omega (arith, length-append bytes rest) in
    let none : 32 * delta % 32 ≡ 0 = omega arith in
    let high : 32 * delta / 32 ≡ delta = omega arith in
    let front : take (length bytes + 4 - 4) (bytes ++ rest) ≡ bytes = take_at bytes rest (length bytes + 4 - 4) (omega arith) in
    let sum : 8 + length bytes ≡ 4 + (length bytes + 4) = omega arith in
    let back : drop (4 + (length bytes + 4)) all ≡ rest = ap (λ n. drop n all) (sym sum) ∙ sym (drop-drop (length bytes) 8 all) ∙ drop_at bytes rest (length bytes) refl in
    step_long most time all four (32 * delta) (length bytes + 4) (from_le_bytes-to_le_bytes_4 (32 * delta) (omega arith)) (from_le_bytes-to_le_bytes_4 (length bytes + 4) (omega arith)) none
    ∙ (λ i. record { time = time + high i; bytes = front i } ∷ read_events most (time + high i) (back i))

read_data : (most time delta : ℕ) (bytes rest : List ℕ) → delta < 2 ^ 27 → IsData bytes
    → read_events (suc most) time (data_event delta bytes ++ rest) ≡ record { time = time + delta; bytes = bytes } ∷ read_events most (time + delta) rest
read_data most time delta bytes rest fits is = by (leb (length bytes) 112) refl
  where
    by : (b : Bool) → leb (length bytes) 112 ≡ b
        → read_events (suc most) time ((if b then to_le_bytes w32 (length bytes / 4 + 32 * delta) ++ bytes else to_le_bytes w32 (32 * delta) ++ (to_le_bytes w32 (length bytes + 4) ++ bytes)) ++ rest)
        ≡ record { time = time + delta; bytes = bytes } ∷ read_events most (time + delta) rest
    by true e = read_short most time delta bytes rest fits is (grind (arith, nat_tests))
    by false e = read_long most time delta bytes rest fits is

read_extend : (most time delta : ℕ) (rest : List ℕ) → delta < 2 ^ 59 → read_events (suc most) time (extend_event delta ++ rest) ≡ read_events most (time + delta) rest
read_extend most time delta rest fits =
    let head = 30 + 32 * (delta % 2 ^ 27) in
    let second = delta / 2 ^ 27 in
    let all = extend_event delta ++ rest in
    let extend : head % 32 ≡ 30 = omega arith in
    let sum : head / 32 + 2 ^ 27 * second ≡ delta = omega arith in
    step_extend most time all (omega arith) head second (from_le_bytes-to_le_bytes_4 head (omega arith)) (from_le_bytes-to_le_bytes_4 second (omega arith)) extend
    ∙ ap (λ n. read_events most (time + n) rest) sum

-- an event is read, and then the rest, of which no more bytes are left than may be read
record IsRead (most time delta : ℕ) (bytes event rest : List ℕ) : Type 0 where
  then_most : ℕ
  enough : length rest ≤ then_most
  is : read_events most time (event ++ rest) ≡ record { time = time + delta; bytes = bytes } ∷ read_events then_most (time + delta) rest

is_read_data : (most time delta : ℕ) (bytes rest : List ℕ) → delta < 2 ^ 27 → IsData bytes → length (data_event delta bytes) + length rest ≤ most → IsRead most time delta bytes (data_event delta bytes) rest
is_read_data zero time delta bytes rest fits is enough = let some = is.some in absurd (omega (arith, length-data_event delta bytes))
is_read_data (suc most) time delta bytes rest fits is enough =
    let some = is.some in
    record { then_most = most; enough = omega (arith, length-data_event delta bytes); is = read_data most time delta bytes rest fits is }

is_read_extended : (most time delta : ℕ) (bytes rest : List ℕ) → delta < 2 ^ 59 → IsData bytes → 8 + length (data_event 0 bytes) + length rest ≤ most → IsRead most time delta bytes (extend_event delta ++ data_event 0 bytes) rest
is_read_extended zero time delta bytes rest fits is enough = absurd (omega arith)
is_read_extended (suc most) time delta bytes rest fits is enough =
    let later = is_read_data most (time + delta) 0 bytes rest (lit< tt) is (omega arith) in
    let none : time + delta + 0 ≡ time + delta = omega arith in
    record {
      then_most = later.then_most;
      enough = later.enough;
      is = ap (read_events (suc most) time) (append_assoc (extend_event delta) (data_event 0 bytes) rest)
          ∙ read_extend most time delta (data_event 0 bytes ++ rest) fits ∙ later.is
          ∙ ap (λ t. record { time = t; bytes = bytes } ∷ read_events later.then_most t rest) none;
    }

is_read : (most time delta : ℕ) (bytes rest : List ℕ) → delta < 2 ^ 59 → IsData bytes → length (event_bytes delta bytes) + length rest ≤ most → IsRead most time delta bytes (event_bytes delta bytes) rest
unfolding event_bytes
is_read most time delta bytes rest fits is = by (ltb delta (2 ^ 27)) refl
  where
    by : (b : Bool) → ltb delta (2 ^ 27) ≡ b → length (if b then data_event delta bytes else extend_event delta ++ data_event 0 bytes) + length rest ≤ most
        → IsRead most time delta bytes (if b then data_event delta bytes else extend_event delta ++ data_event 0 bytes) rest
    by true e enough = is_read_data most time delta bytes rest (grind (arith, nat_tests)) is enough
    by false e enough = is_read_extended most time delta bytes rest fits is (omega (arith, length-append (extend_event delta) (data_event 0 bytes)))

-- ---- all events

read_nothing : (most time : ℕ) → read_events most time [] ≡ []
unfolding read_events
read_nothing zero time = refl
read_nothing (suc most) time = refl

pub read_rows : (most time : ℕ) (rows : List PageRow) → length (events_from time rows) ≤ most → length (events_from time rows) ≤ 4080 → InTime time rows → AllByRecursion IsPageRow rows
    → read_events most time (events_from time rows) ≡ map event_of rows
read_rows most time [] enough small in_time are = read_nothing most time
read_rows most time (row ∷ rows) enough small in_time are =
    let bytes = row.bytes in
    let rest = events_from row.time rows in
    let sizes = length-append (event_bytes (row.time - time) bytes) rest in
    let is : IsData bytes = record { words = are.0.words; some = are.0.some; few = first_is_small time row (row ∷ rows) rows refl small } in
    let first = is_read most time (row.time - time) bytes rest in_time.1 is (omega arith) in
    let not_before = in_time.0 in
    let now : time + (row.time - time) ≡ row.time = omega arith in
    first.is
    ∙ ap (λ t. record { time = t; bytes = bytes } ∷ read_events first.then_most t rest) now
    ∙ ap (λ events. event_of row ∷ events) (read_rows first.then_most row.time rows first.enough (rest_is_small time row (row ∷ rows) rows refl small) in_time.2 are.1)
