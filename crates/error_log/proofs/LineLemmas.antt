-- The line to blame, cut out of a text and shown.
use Rattle.std.proofs.Common.{◌≡◌, ◌≢◌, ◌≤◌, ◌<◌, ℕ, suc, ◌+◌, ◌-◌, Bool, not, cond, List, [], ◌∷◌, ◌++◌, length, get_or, take, drop, map, reverse, codes, ap, sym, ◌∙◌, zero-add, arith}
use Rattle.std.specs.List.{prefix_len}
use Rattle.std.proofs.lemmas.Bool.{ne_eqb}
use Rattle.std.proofs.lemmas.List.{drop-append-le, drop_more, get_or-append-add, get_or-drop, get_or-map, get_or-take, length-append, length-drop, length-map, length-take, length-take-le, take-append-drop}
use Rattle.std.proofs.lemmas.List.Folds.{length-prefix_len}
use Rattle.error_log.specs.Errors.{caret_of, column_at, first_line, is_in_line, last_line, line_at, shift_of, window}
use Rattle.refusal_explanations.specs.Layout.{pad_byte, shown_byte}
use Rattle.error_log.specs.LogLaws.{CaretStandsUnder}

-- ---- cutting

take_over : (xs ys : List ℕ) (n : ℕ) → take (length xs + n) (xs ++ ys) ≡ xs ++ take n ys
take_over [] ys n = ap (λ (m : ℕ). take m ys) (zero-add n)
take_over (x ∷ xs) ys n =
    let more : suc (length xs) + n ≡ suc (length xs + n) = omega arith in
    ap (λ (m : ℕ). take m (x ∷ (xs ++ ys))) more ∙ ap (λ (zs : List ℕ). x ∷ zs) (take_over xs ys n)

-- what begins `column` bytes before a cut of a text and ends `len` bytes after it
cut_around : (text before rest : List ℕ) (column len : ℕ) → before ++ rest ≡ text → column ≤ length before
    → take (length before + len - (length before - column)) (drop (length before - column) text) ≡ drop (length before - column) before ++ take len rest
cut_around text before rest column len whole within =
    let start : ℕ = length before - column in
    let size : length before + len - start ≡ length (drop start before) + len = omega (arith, within, length-drop start before) in
    let starts : start ≤ length before = omega arith in
    ap (λ (n : ℕ). take n (drop start text)) size
    ∙ ap (λ (xs : List ℕ). take (length (drop start before) + len) (drop start xs)) (sym whole)
    ∙ ap (take (length (drop start before) + len)) (drop-append-le start before rest starts)
    ∙ take_over (drop start before) rest len

pub line_cut : (text before rest : List ℕ) (offset column len : ℕ) → before ≡ take offset text → column ≡ prefix_len is_in_line (reverse before)
    → column ≤ length before → rest ≡ drop offset text → len ≡ prefix_len is_in_line rest
    → take (length before + len - (length before - column)) (drop (length before - column) text) ≡ line_at text offset
line_cut text before rest offset column len before_is column_is within rest_is len_is =
    let whole : before ++ rest ≡ text =
    ap (λ (front : List ℕ). front ++ rest) before_is ∙ ap (λ (back : List ℕ). take offset text ++ back) rest_is ∙ take-append-drop offset text in
    cut_around text before rest column len whole within
    ∙ ap (λ (n : ℕ). drop (length before - n) before ++ take len rest) column_is
    ∙ ap (λ (n : ℕ). last_line before ++ take n rest) len_is
    ∙ ap (λ (front : List ℕ). last_line front ++ first_line rest) before_is
    ∙ ap (λ (back : List ℕ). last_line (take offset text) ++ first_line back) rest_is

-- ---- the window

-- a column of a line, or its end, is one of what is kept
kept_to : (line : List ℕ) (column : ℕ) → column ≤ length line → caret_of column ≤ length (window line column)
kept_to line column within =
    let kept = length-take 256 (drop (shift_of column) line) in
    let left = length-drop (shift_of column) line in
    omega (arith, kept, left, within)

kept_below : (line : List ℕ) (column : ℕ) → column < length line → caret_of column < length (window line column)
kept_below line column within =
    let kept = length-take 256 (drop (shift_of column) line) in
    let left = length-drop (shift_of column) line in
    omega (arith, kept, left, within)

kept_byte : (line : List ℕ) (column : ℕ) → get_or (window line column) (caret_of column) 0 ≡ get_or line column 0
kept_byte line column =
    let few : caret_of column < 256 = omega arith in
    let sum : shift_of column + caret_of column ≡ column = omega arith in
    get_or-take 256 (drop (shift_of column) line) (caret_of column) 0 few
    ∙ get_or-drop (shift_of column) line (caret_of column) 0
    ∙ ap (λ (n : ℕ). get_or line n 0) sum

-- ---- the byte to blame

-- a byte that is no newline is in the line that begins with it
line_begins : (text : List ℕ) (offset : ℕ) → offset < length text → get_or text offset 0 ≢ 10 → 0 < prefix_len is_in_line (drop offset text)
line_begins text offset within other =
    let more = prefix_len is_in_line (drop (offset + 1) text) in
    let begins : prefix_len is_in_line (drop offset text) ≡ 1 + more =
    ap (prefix_len is_in_line) (drop_more text offset 0 within)
    ∙ ap (λ (is : Bool). cond (not is) (1 + more) 0) (ne_eqb (get_or text offset 0) 10 other) in
    omega (arith, begins)

line_byte : (text : List ℕ) (offset : ℕ) → offset < length text → get_or text offset 0 ≢ 10 → get_or (line_at text offset) (column_at text offset) 0 ≡ get_or text offset 0
line_byte text offset within other =
    let rest : List ℕ = drop offset text in
    let column : column_at text offset ≡ column_at text offset + 0 = omega arith in
    let itself : offset + 0 ≡ offset = omega arith in
    ap (λ (n : ℕ). get_or (line_at text offset) n 0) column
    ∙ get_or-append-add (last_line (take offset text)) (first_line rest) 0 0
    ∙ get_or-take (prefix_len is_in_line rest) rest 0 0 (line_begins text offset within other)
    ∙ get_or-drop offset text 0 0
    ∙ ap (λ (n : ℕ). get_or text n 0) itself

line_has : (text : List ℕ) (offset : ℕ) → column_at text offset ≤ length (line_at text offset)
line_has text offset =
    let sum = length-append (last_line (take offset text)) (first_line (drop offset text)) in
    omega (arith, sum)

line_goes_on : (text : List ℕ) (offset : ℕ) → offset < length text → get_or text offset 0 ≢ 10 → column_at text offset < length (line_at text offset)
line_goes_on text offset within other =
    let sum = length-append (last_line (take offset text)) (first_line (drop offset text)) in
    let len = length-prefix_len is_in_line (drop offset text) in
    let some = line_begins text offset within other in
    omega (arith, sum, len, some)

-- ---- the law

padded : (written : List ℕ) (at : ℕ) → at ≤ length written → length (codes "           " ++ map pad_byte (take at written)) ≡ length (codes "  Command: ") + at
padded written at within =
    length-append (codes "           ") (map pad_byte (take at written))
    ∙ ap (λ (n : ℕ). 11 + n) (length-map (take at written) pad_byte ∙ length-take-le at written within)

shown_there : (written : List ℕ) (at : ℕ) → at < length written
    → get_or (codes "  Command: " ++ map shown_byte written) (length (codes "  Command: ") + at) 0 ≡ shown_byte (get_or written at 0)
shown_there written at within =
    get_or-append-add (codes "  Command: ") (map shown_byte written) at 0 ∙ get_or-map shown_byte written at 0 0 within

pub caret_stands_under : CaretStandsUnder
caret_stands_under owner time path text sentence offset =
    let line : List ℕ = line_at text offset in
    let column : ℕ = column_at text offset in
    let written : List ℕ = window line column in
    let at : ℕ = caret_of column in
    let kept = length-take 256 (drop (shift_of column) line) in
    let under = padded written at (kept_to line column (line_has text offset)) in
    record {
      few = omega (arith, kept);
      under = under;
      blamed = λ within other.
          ap (λ (n : ℕ). get_or (codes "  Command: " ++ map shown_byte written) n 0) under
          ∙ shown_there written at (kept_below line column (line_goes_on text offset within other))
          ∙ ap shown_byte (kept_byte line column ∙ line_byte text offset within other);
    }
