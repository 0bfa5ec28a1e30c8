-- The rows that are taken are one page, and no more of them are.
use Rattle.std.proofs.Common.{◌≡◌, ℕ, suc, zero, ◌+◌, ◌-◌, ◌^◌, ◌<◌, ◌≤◌, ◌==◌, ltb, leb, Bool, ◌&&◌, if◌then◌else◌, true, false, List, [], ◌∷◌, length, take, Option, Some, None, refl, sym, ap, ◌∙◌, subst, arith, length-append}
use Rattle.std.specs.Option.{option_map_or}
use Rattle.std.specs.List.{AllByRecursion}
use Rattle.std.proofs.lemmas.Bool.Decides.{nat_tests}
use Rattle.kernel_pages.specs.declared.page_row.PageRow.{PageRow}
use Rattle.kernel_pages.specs.Pages.{event_bytes, events_from, lost_bytes, InTime, IsOnePage}
use Rattle.kernel_pages.specs.Taking.{event_head_size, room_left, room_after, taken_after, taken_of}
use Rattle.kernel_pages.proofs.EventLemmas.{length-event_bytes}

-- ---- steps of the count

module _ (room time : ℕ) (row : PageRow) (left rest : List PageRow) (first : left ≡ row ∷ rest) where
  pub count_ends : None ≡ room_after room time row → taken_after room time left ≡ 0
  count_ends none = ap (taken_after room time) first ∙ ap (λ o. option_map_or (λ l. suc (taken_after l row.time rest)) o 0) (sym none)

  pub count_more : (more : ℕ) → Some more ≡ room_after room time row → taken_after room time left ≡ suc (taken_after more row.time rest)
  count_more more some = ap (taken_after room time) first ∙ ap (λ o. option_map_or (λ l. suc (taken_after l row.time rest)) o 0) (sym some)

-- ---- what the tests say

cond_some : (b : Bool) (o : Option ℕ) (left : ℕ) → (if b then o else None) ≡ Some left → (b ≡ true) × (o ≡ Some left)
cond_some true o left e = (refl, e)
cond_some false o left e = absurd (cc)

and_true : (a b : Bool) → (a && b) ≡ true → (a ≡ true) × (b ≡ true)
and_true true b e = (refl, e)
and_true false b e = absurd (cc)

is_zero : (n : ℕ) → (n == 0) ≡ true → n ≡ 0
is_zero n e = grind (arith, nat_tests)

is_le : (m n : ℕ) → leb m n ≡ true → m ≤ n
is_le m n e = grind (arith, nat_tests)

is_lt : (m n : ℕ) → ltb m n ≡ true → m < n
is_lt m n e = grind (arith, nat_tests)

-- a row that can follow one of a time
record Follows (time : ℕ) (row : PageRow) : Type 0 where
  none_lost : row.lost ≡ 0
  not_before : time ≤ row.time
  told : row.time - time < 2 ^ 59

room_left-some : (room delta left : ℕ) (bytes : List ℕ) → room_left room delta (length bytes) ≡ Some left → left + length (event_bytes delta bytes) ≡ room
unfolding room_left
room_left-some room delta left bytes e =
    let size = event_head_size delta (length bytes) + length bytes in
    let tests = cond_some (leb size room) (Some (room - size)) left e in
    let fits = is_le size room tests.0 in
    let same : room - size ≡ left = cc (tests.1) in
    omega (arith, length-event_bytes delta bytes)

pub room_left-fits : (room delta : ℕ) (bytes : List ℕ) → length (event_bytes delta bytes) ≤ room → room_left room delta (length bytes) ≡ Some (room - length (event_bytes delta bytes))
unfolding room_left
room_left-fits room delta bytes fits =
    let size = event_head_size delta (length bytes) + length bytes in
    let e = length-event_bytes delta bytes in
    let test : leb size room ≡ true = grind (arith, nat_tests) in
    ap (λ b. if b then Some (room - size) else None) test ∙ ap (λ n. Some (room - n)) (sym e)

room_after-some : (room time left : ℕ) (row : PageRow) → room_after room time row ≡ Some left → Follows time row × (left + length (event_bytes (row.time - time) row.bytes) ≡ room)
unfolding room_after
room_after-some room time left row e =
    let tests = cond_some ((row.lost == 0 && leb time row.time) && ltb (row.time - time) (2 ^ 59)) (room_left room (row.time - time) (length row.bytes)) left e in
    let two = and_true (row.lost == 0 && leb time row.time) (ltb (row.time - time) (2 ^ 59)) tests.0 in
    let one = and_true (row.lost == 0) (leb time row.time) two.0 in (
      record { none_lost = is_zero row.lost one.0; not_before = is_le time row.time one.1; told = is_lt (row.time - time) (2 ^ 59) two.1 },
      room_left-some room (row.time - time) left row.bytes tests.1,
    )

room_after-fits : (room time : ℕ) (row : PageRow) → Follows time row → length (event_bytes (row.time - time) row.bytes) ≤ room
    → room_after room time row ≡ Some (room - length (event_bytes (row.time - time) row.bytes))
unfolding room_after
room_after-fits room time row follows fits =
    let none : (row.lost == 0) ≡ true = let e = follows.none_lost in grind (arith, nat_tests) in
    let late : leb time row.time ≡ true = let e = follows.not_before in grind (arith, nat_tests) in
    let told : ltb (row.time - time) (2 ^ 59) ≡ true = let e = follows.told in grind (arith, nat_tests) in
    let all : ((row.lost == 0 && leb time row.time) && ltb (row.time - time) (2 ^ 59)) ≡ true = (λ i. (none i && late i) && told i) in
    ap (λ b. if b then room_left room (row.time - time) (length row.bytes) else None) all ∙ room_left-fits room (row.time - time) row.bytes fits

-- ---- rows that follow

-- rows that can follow one of a time, and have so much room
pub record Fit (room time : ℕ) (rows : List PageRow) : Type 0 where
  pub in_time : InTime time rows
  pub none_lost : AllByRecursion (λ row. row.lost ≡ 0) rows
  pub enough : length (events_from time rows) ≤ room

fit_nil : (room time : ℕ) → Fit room time []
fit_nil room time = record { in_time = tt; none_lost = tt; enough = omega arith }

fit_cons : (room time left : ℕ) (row : PageRow) (rows : List PageRow) → Follows time row → left + length (event_bytes (row.time - time) row.bytes) ≡ room → Fit left row.time rows → Fit room time (row ∷ rows)
fit_cons room time left row rows follows is fit = record {
  in_time = (follows.not_before, follows.told, fit.in_time);
  none_lost = (follows.none_lost, fit.none_lost);
  enough = omega (arith, fit.enough, length-append (event_bytes (row.time - time) row.bytes) (events_from row.time rows));
}

pub taken_fit : (room time : ℕ) (rows : List PageRow) → Fit room time (take (taken_after room time rows) rows)
taken_fit room time [] = fit_nil room time
taken_fit room time (row ∷ rows) = by (room_after room time row) refl (λ left. taken_fit left row.time rows)
  where
    by : (o : Option ℕ) → room_after room time row ≡ o → ((left : ℕ) → Fit left row.time (take (taken_after left row.time rows) rows))
        → Fit room time (take (option_map_or (λ left. suc (taken_after left row.time rows)) o 0) (row ∷ rows))
    by None e rest = fit_nil room time
    by (Some left) e rest =
        let is = room_after-some room time left row e in
        fit_cons room time left row (take (taken_after left row.time rows) rows) is.0 is.1 (rest left)

pub taken_are_all : (room time : ℕ) (rows : List PageRow) (n : ℕ) → n ≤ length rows → Fit room time (take n rows) → n ≤ taken_after room time rows
taken_are_all room time [] n within fit = omega arith
taken_are_all room time (row ∷ rows) zero within fit = omega arith
taken_are_all room time (row ∷ rows) (suc n) within fit =
    let size = length (event_bytes (row.time - time) row.bytes) in
    let sizes = length-append (event_bytes (row.time - time) row.bytes) (events_from row.time (take n rows)) in
    let fits : size ≤ room = omega (arith, fit.enough) in
    let some = room_after-fits room time row (record { none_lost = fit.none_lost.0; not_before = fit.in_time.0; told = fit.in_time.1 }) fits in
    let rest : n ≤ taken_after (room - size) row.time rows = taken_are_all (room - size) row.time rows n (omega arith) (record {
      in_time = fit.in_time.2;
      none_lost = fit.none_lost.1;
      enough = omega (arith, fit.enough);
    }) in
    let count = count_more room time row (row ∷ rows) rows refl (room - size) (sym some) in
    omega arith

-- ---- a page

-- no time passes between a row and itself
pub at_once : (row : PageRow) → event_bytes (row.time - row.time) row.bytes ≡ event_bytes 0 row.bytes
at_once row = ap (λ n. event_bytes n row.bytes) (let e : row.time - row.time ≡ 0 = omega arith in e)

nothing_is_a_page : IsOnePage []
nothing_is_a_page = record { in_time = tt; none_lost = tt; room = omega arith }

page_of_first : (row : PageRow) (rows : List PageRow) (left : ℕ) → left + length (event_bytes 0 row.bytes) ≡ 4080 - length (lost_bytes row.lost) → length (lost_bytes row.lost) ≤ 8
    → Fit left row.time rows → IsOnePage (row ∷ rows)
page_of_first row rows left is few fit =
    let same = ap length (at_once row) in
    let sizes = length-append (event_bytes (row.time - row.time) row.bytes) (events_from row.time rows) in
    record {
      in_time = (omega arith, omega arith, fit.in_time);
      none_lost = fit.none_lost;
      room = omega (arith, fit.enough);
    }

pub lost_is_small : (lost : ℕ) → length (lost_bytes lost) ≤ 8
lost_is_small lost = grind (arith, nat_tests)

pub taken_are_a_page : (rows : List PageRow) → IsOnePage (take (taken_of rows) rows)
taken_are_a_page [] = nothing_is_a_page
taken_are_a_page (row ∷ rows) = by (room_left (4080 - length (lost_bytes row.lost)) 0 (length row.bytes)) refl
  where
    by : (o : Option ℕ) → room_left (4080 - length (lost_bytes row.lost)) 0 (length row.bytes) ≡ o
        → IsOnePage (take (option_map_or (λ left. suc (taken_after left row.time rows)) o 0) (row ∷ rows))
    by None e = nothing_is_a_page
    by (Some left) e =
        page_of_first row (take (taken_after left row.time rows) rows) left (room_left-some (4080 - length (lost_bytes row.lost)) 0 left row.bytes e)
        (lost_is_small row.lost) (taken_fit left row.time rows)

pub page_is_all : (rows : List PageRow) (n : ℕ) → n ≤ length rows → IsOnePage (take n rows) → n ≤ taken_of rows
page_is_all [] n within page = omega arith
page_is_all (row ∷ rows) zero within page = omega arith
page_is_all (row ∷ rows) (suc n) within page =
    let size = length (event_bytes 0 row.bytes) in
    let lost = length (lost_bytes row.lost) in
    let same = ap length (at_once row) in
    let sizes = length-append (event_bytes (row.time - row.time) row.bytes) (events_from row.time (take n rows)) in
    let fits : size ≤ 4080 - lost = omega (arith, page.room) in
    let some = room_left-fits (4080 - lost) 0 row.bytes fits in
    let rest : n ≤ taken_after (4080 - lost - size) row.time rows = taken_are_all (4080 - lost - size) row.time rows n (omega arith) (record {
      in_time = page.in_time.2;
      none_lost = page.none_lost;
      enough = omega (arith, page.room);
    }) in
    let count : taken_of (row ∷ rows) ≡ suc (taken_after (4080 - lost - size) row.time rows) = ap (λ o. option_map_or (λ left. suc (taken_after left row.time rows)) o 0) some in
    omega arith

-- the same of a number that is the count
pub counted_are_a_page : (rows : List PageRow) (n : ℕ) → n ≡ taken_of rows → IsOnePage (take n rows)
counted_are_a_page rows n e = subst (λ m. IsOnePage (take m rows)) (sym e) (taken_are_a_page rows)

pub counted_are_all : (rows : List PageRow) (count : ℕ) → count ≡ taken_of rows → (n : ℕ) → n ≤ length rows → IsOnePage (take n rows) → n ≤ count
counted_are_all rows count e n within page = subst (λ m. n ≤ m) (sym e) (page_is_all rows n within page)
