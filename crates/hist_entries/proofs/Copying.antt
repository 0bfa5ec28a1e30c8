-- Copied entries: what one more comes to, and what is left when one was read.
use Rattle.std.proofs.Common.{◌≡◌, ℕ, suc, ◌+◌, ◌≤◌, ℤ, List, [], ◌∷◌, ◌++◌, length, map, take, drop, slice_get, Some, refl, sym, ap, ◌∙◌, arith}
use Rattle.std.specs.Global.{Vec}
use Rattle.std.proofs.lemmas.List.{take_all, take-append-le, drop-append-le, length-append, length-drop}
use Rattle.trace_format.specs.Cells.{Datum, Whole, Bytes}
use Rattle.hist_entries.specs.declared.entries_copy.Head.{Head}
use Rattle.hist_entries.specs.declared.entry.HistRow.{HistRow}
use Rattle.hist_entries.specs.declared.flat_cells.FlatCell.{FlatCell}
use Rattle.hist_entries.specs.declared.flat_cells.FlatCell.TheVariants.{Num, Text}
use Rattle.hist_entries.specs.declared.key_cell.KeyCell.{KeyCell}
use Rattle.hist_entries.specs.declared.tally.Tally.{Tally}
use Rattle.hist_entries.specs.EntriesCopies.{entries_of, cell_count, sum_count, AreAll}
use Rattle.hist_entries.specs.FlatCells.{cells_of, text_length}
use Rattle.hist_entries.specs.HistEntries.{Entry}
use Rattle.hist_entries.specs.KeptEntries.{cells_in, entry_in, entries_in}
use Rattle.hist_entries.specs.PrintOrder.{row_in}
use Rattle.hist_entries.proofs.TableLemmas.{entries-more}

-- ---- cells

pub cells_of-number : (cells : List FlatCell) (bytes : List ℕ) (n : ℤ) → cells_of (cells ++ Num n ∷ []) bytes ≡ cells_of cells bytes ++ Whole n ∷ []
cells_of-number [] bytes n = refl
cells_of-number (Num m ∷ cells) bytes n = ap (λ (ds : List Datum). Whole m ∷ ds) (cells_of-number cells bytes n)
cells_of-number (Text l ∷ cells) bytes n = ap (λ (ds : List Datum). Bytes (take l bytes) ∷ ds) (cells_of-number cells (drop l bytes) n)

pub text_length-number : (cells : List FlatCell) (n : ℤ) → text_length (cells ++ Num n ∷ []) ≡ text_length cells
text_length-number [] n = refl
text_length-number (Num m ∷ cells) n = text_length-number cells n
text_length-number (Text l ∷ cells) n = ap (λ (k : ℕ). l + k) (text_length-number cells n)

pub text_length-text : (cells : List FlatCell) (l : ℕ) → text_length (cells ++ Text l ∷ []) ≡ text_length cells + l
text_length-text [] l = omega arith
text_length-text (Num m ∷ cells) l = text_length-text cells l
text_length-text (Text k ∷ cells) l = let h = text_length-text cells l in omega (arith, h)

-- nothing, and then all that is taken
all_after : {X : Type 0} (none xs : List X) (n : ℕ) → 0 ≡ length none → n ≡ length xs → take n (none ++ xs) ≡ xs
all_after [] xs n empty is = take_all n xs (omega (arith, is))
all_after (x ∷ none) xs n empty is = absurd (omega (arith, empty))

pub cells_of-text : (cells : List FlatCell) (bytes text : List ℕ) → text_length cells ≡ length bytes
    → cells_of (cells ++ Text (length text) ∷ []) (bytes ++ text) ≡ cells_of cells bytes ++ Bytes text ∷ []
cells_of-text [] bytes text all = ap (λ (t : List ℕ). Bytes t ∷ []) (all_after bytes text (length text) all refl)
cells_of-text (Num m ∷ cells) bytes text all = ap (λ (ds : List Datum). Whole m ∷ ds) (cells_of-text cells bytes text all)
cells_of-text (Text l ∷ cells) bytes text all =
    let within : l ≤ length bytes = omega (arith, all) in
    let rest : text_length cells ≡ length (drop l bytes) = omega (arith, all, length-drop l bytes) in
    rw (take-append-le l bytes text within, drop-append-le l bytes text within)
    (ap (λ (ds : List Datum). Bytes (take l bytes) ∷ ds) (cells_of-text cells (drop l bytes) text rest))

-- ---- entries

pub cell_count-more : (heads : List Head) (head : Head) → cell_count (heads ++ head ∷ []) ≡ cell_count heads + head.cells
cell_count-more [] head = omega arith
cell_count-more (h ∷ heads) head = let more = cell_count-more heads head in omega (arith, more)

pub sum_count-more : (heads : List Head) (head : Head) → sum_count (heads ++ head ∷ []) ≡ sum_count heads + head.sums
sum_count-more [] head = omega arith
sum_count-more (h ∷ heads) head = let more = sum_count-more heads head in omega (arith, more)

-- a head is that of an entry
pub record IsHead (head : Head) (entry : Entry) : Type 0 where
  pub cells_are : head.cells ≡ length entry.key
  pub count_is : head.hitcount ≡ entry.hitcount
  pub sums_are : head.sums ≡ length entry.sums

entries_of-more : (heads : List Head) (cells : List Datum) (sums : List ℤ) (head : Head) (entry : Entry) → cell_count heads ≡ length cells
    → sum_count heads ≡ length sums → IsHead head entry
    → entries_of (heads ++ head ∷ []) (cells ++ entry.key) (sums ++ entry.sums) ≡ entries_of heads cells sums ++ entry ∷ []
entries_of-more [] cells sums head entry all also is =
    rw (all_after cells entry.key head.cells all is.cells_are, all_after sums entry.sums head.sums also is.sums_are, is.count_is) refl
entries_of-more (h ∷ heads) cells sums head entry all also is =
    let within : h.cells ≤ length cells = omega (arith, all) in
    let inside : h.sums ≤ length sums = omega (arith, also) in
    let rest : cell_count heads ≡ length (drop h.cells cells) = omega (arith, all, length-drop h.cells cells) in
    let others : sum_count heads ≡ length (drop h.sums sums) = omega (arith, also, length-drop h.sums sums) in
    let first : Entry = record { key = take h.cells cells; hitcount = h.hitcount; sums = take h.sums sums } in
    rw (take-append-le h.cells cells entry.key within, drop-append-le h.cells cells entry.key within, take-append-le h.sums sums entry.sums inside, drop-append-le h.sums sums entry.sums inside)
    (ap (λ (es : List Entry). first ∷ es) (entries_of-more heads (drop h.cells cells) (drop h.sums sums) head entry rest others is))

-- as many entries as were copied, and one more
pub record IsCopyOf (entries : List Entry) (heads : List Head) (cells : List Datum) (sums : List ℤ) : Type 0 where
  pub all : AreAll heads cells sums
  pub are : entries_of heads cells sums ≡ entries

pub copied-more : (pairs : List (Vec KeyCell × Tally)) (i : ℕ) (pair : Vec KeyCell × Tally) → Some pair ≡ slice_get pairs i
    → (heads more : List Head) (head : Head) (cells more_cells : List Datum) (sums totals : List ℤ) → IsCopyOf (take i (entries_in pairs)) heads cells sums
    → IsHead head (entry_in pair) → more ≡ heads ++ head ∷ [] → more_cells ≡ cells ++ cells_in pair.0 → totals ≡ sums ++ pair.1.sums.items
    → IsCopyOf (take (i + 1) (entries_in pairs)) more more_cells totals
copied-more pairs i pair at heads more head cells more_cells sums totals copy is put key own =
    let next : i + 1 ≡ suc i = omega arith in
    let cells_are : cell_count heads ≡ length cells = copy.all.cells_are in
    let sums_are : sum_count heads ≡ length sums = copy.all.sums_are in
    let grown : entries_of (heads ++ head ∷ []) (cells ++ cells_in pair.0) (sums ++ pair.1.sums.items) ≡ entries_of heads cells sums ++ entry_in pair ∷ [] =
    entries_of-more heads cells sums head (entry_in pair) cells_are sums_are is in
    let head_cells : head.cells ≡ length (cells_in pair.0) = is.cells_are in
    let head_sums : head.sums ≡ length pair.1.sums.items = is.sums_are in
    rw (put, key, own, next) (record {
      all = record {
        cells_are = omega (arith, cell_count-more heads head, length-append cells (cells_in pair.0), cells_are, head_cells);
        sums_are = omega (arith, sum_count-more heads head, length-append sums pair.1.sums.items, sums_are, head_sums);
      };
      are = grown ∙ ap (λ (es : List Entry). es ++ entry_in pair ∷ []) copy.are ∙ sym (entries-more pairs i pair at);
    })

-- ---- reading

-- what was read and what is left to read are all
pub record IsLeft (rows : List HistRow) (heads : List Head) (cells : List Datum) (sums : List ℤ) (all : List Entry) : Type 0 where
  pub cells_are : cell_count heads ≡ length cells
  pub sums_are : sum_count heads ≡ length sums
  pub left : map row_in rows ++ entries_of heads cells sums ≡ all
