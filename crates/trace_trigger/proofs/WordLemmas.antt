-- The bytes of names, of names to sort by, and of how attributes begin.
use Rattle.std.proofs.Common.{◌≡◌, ◌≢◌, ◌⊎◌, inl, inr, refl, ℕ, Bool, true, false, ◌&&◌, ◌||◌, nat_le, bytes_eq, codes, List, [], ◌∷◌, ◌++◌, length, take, drop, ap, sym, ◌∙◌, append-nil}
use Rattle.std.specs.List.{AllPass, list_all, prefix_len}
use Rattle.std.proofs.Math.Seq.{take-append_seam, drop-append_seam}
use Rattle.std.proofs.lemmas.Bool.{and_parts, or_cases}
use Rattle.std.proofs.lemmas.List.{take-append-drop}
use Rattle.std.proofs.lemmas.List.Elements.{All-weaker}
use Rattle.std.proofs.lemmas.List.Sums.{AllPass-from_list_all}
use Rattle.std.proofs.lemmas.Slice.Eq.{bytes_eq-Decides}
use Rattle.trace_lex.specs.Names.{is_letter, is_name_byte, is_name}
use Rattle.trace_lex.specs.Prefixes.{is_not}
use Rattle.trace_lex.proofs.Lists.{BeginsNot, run_ends}
use Rattle.trace_trigger.specs.declared.spec.SortKey.{SortKey}
use Rattle.trace_trigger.specs.HistLists.{item_name, item_suffix, is_descending, is_direction}
use Rattle.trace_trigger.specs.HistGrammar.{IsDirected, IsSortItem}
use Rattle.trace_trigger.proofs.CutLemmas.{IsFree, free_passes}

-- ---- a run, and what follows it

pub run_taken : {X : Type 0} (p : X → Bool) (xs rest : List X) → AllPass p xs → BeginsNot p rest → take (prefix_len p (xs ++ rest)) (xs ++ rest) ≡ xs
run_taken p xs rest all none = ap (λ n. take n (xs ++ rest)) (run_ends p xs rest all none) ∙ take-append_seam xs rest

pub run_dropped : {X : Type 0} (p : X → Bool) (xs rest : List X) → AllPass p xs → BeginsNot p rest → drop (prefix_len p (xs ++ rest)) (xs ++ rest) ≡ rest
run_dropped p xs rest all none = ap (λ n. drop n (xs ++ rest)) (run_ends p xs rest all none) ∙ drop-append_seam xs rest

-- ---- names

letter_is_named : (b : ℕ) → is_letter b ≡ true → is_name_byte b ≡ true
letter_is_named b e = rw e refl

name_bytes : (name : List ℕ) → is_name name ≡ true → list_all is_name_byte name ≡ true
name_bytes [] e = refl
name_bytes (b ∷ bs) e =
    let parts = and_parts (nat_le (length (b ∷ bs)) 32 && is_letter b) (list_all is_name_byte bs) e in
    let first = and_parts (nat_le (length (b ∷ bs)) 32) (is_letter b) parts.0 in
    rw (letter_is_named b first.1) parts.1

pub name_passes : (name : List ℕ) → is_name name ≡ true → AllPass is_name_byte name
name_passes name e = AllPass-from_list_all is_name_byte name (name_bytes name e)

apart : (b c : ℕ) → is_name_byte b ≡ true → is_name_byte c ≡ false → b ≢ c
apart b c e f same = let g : is_name_byte b ≡ is_name_byte c = ap is_name_byte same in cc

-- a byte that is in no name is not in this one
pub name_is_free : (byte : ℕ) (name : List ℕ) → is_name_byte byte ≡ false → is_name name ≡ true → IsFree byte name
name_is_free byte name other e = All-weaker (λ b. is_name_byte b ≡ true) (λ b. b ≢ byte) (λ b named. apart b byte named other) name (name_passes name e)

-- ---- names to sort by

-- nothing, or a `.` and more
pub begins_dotted : (name rest : List ℕ) → is_name name ≡ true → BeginsNot (is_not 46) rest → (item_name (name ++ rest) ≡ name) × (item_suffix (name ++ rest) ≡ rest)
begins_dotted name rest e dot =
    let passes : AllPass (is_not 46) name = free_passes 46 name (name_is_free 46 name refl e) in
    (run_taken (is_not 46) name rest passes dot, run_dropped (is_not 46) name rest passes dot)

pub record IsSortRead (item : List ℕ) (key : SortKey) : Type 0 where
  pub name : item_name item ≡ key.name
  pub direction : is_direction (item_suffix item) ≡ true
  pub descending : is_descending (item_suffix item) ≡ key.descending

read_sort : (item name suffix : List ℕ) (key : SortKey) → is_name name ≡ true → BeginsNot (is_not 46) suffix → item ≡ name ++ suffix → name ≡ key.name
    → is_direction suffix ≡ true → is_descending suffix ≡ key.descending → IsSortRead item key
read_sort item name suffix key e dot cut same direction descending =
    let parts = begins_dotted name suffix e dot in
    let first : item_name item ≡ name = ap item_name cut ∙ parts.0 in
    let second : item_suffix item ≡ suffix = ap item_suffix cut ∙ parts.1 in
    record { name = first ∙ same; direction = ap is_direction second ∙ direction; descending = ap is_descending second ∙ descending }

pub sort_read : (item : List ℕ) (key : SortKey) → IsSortItem item key → IsSortRead item key
sort_read item key is = by key.descending refl is.directed
  where
    by : (descending : Bool) → key.descending ≡ descending → IsDirected item key.name descending → IsSortRead item key
    by true e cut = read_sort item key.name (codes ".descending") key is.named refl cut refl refl (sym e)
    by false e (inl cut) = read_sort item key.name [] key is.named tt (cut ∙ sym (append-nil key.name)) refl refl (sym e)
    by false e (inr cut) = read_sort item key.name (codes ".ascending") key is.named refl cut refl refl (sym e)

-- and what is read so is written so
abbrev pub sort_key_in : List ℕ → SortKey
sort_key_in item = record { name = item_name item; descending = is_descending (item_suffix item) }

sort_cut : (item : List ℕ) → item ≡ item_name item ++ item_suffix item
sort_cut item = sym (take-append-drop (prefix_len (is_not 46) item) item)

directed_so : (item name suffix : List ℕ) → item ≡ name ++ suffix → is_direction suffix ≡ true → IsDirected item name (is_descending suffix)
directed_so item name suffix cut e = by (is_descending suffix) refl
  where
    by : (descending : Bool) → is_descending suffix ≡ descending → IsDirected item name descending
    by true f = cut ∙ ap (λ (bs : List ℕ). name ++ bs) ((bytes_eq-Decides suffix (codes ".descending")).0 f)
    by false f = either (or_cases (bytes_eq suffix [] || bytes_eq suffix (codes ".ascending")) (is_descending suffix) e)
      where
        plain : (bytes_eq suffix [] ≡ true) ⊎ (bytes_eq suffix (codes ".ascending") ≡ true) → IsDirected item name false
        plain (inl g) = inl (cut ∙ ap (λ (bs : List ℕ). name ++ bs) ((bytes_eq-Decides suffix []).0 g) ∙ append-nil name)
        plain (inr g) = inr (cut ∙ ap (λ (bs : List ℕ). name ++ bs) ((bytes_eq-Decides suffix (codes ".ascending")).0 g))

        either : ((bytes_eq suffix [] || bytes_eq suffix (codes ".ascending")) ≡ true) ⊎ (is_descending suffix ≡ true) → IsDirected item name false
        either (inl g) = plain (or_cases (bytes_eq suffix []) (bytes_eq suffix (codes ".ascending")) g)
        either (inr g) = absurd (cc)

pub sort_written : (item : List ℕ) → is_name (item_name item) ≡ true → is_direction (item_suffix item) ≡ true → IsSortItem item (sort_key_in item)
sort_written item named e = record { named = named; directed = directed_so item (item_name item) (item_suffix item) (sort_cut item) e }

-- an item is of one key
pub sort_key_is : (item : List ℕ) (key : SortKey) → IsSortItem item key → sort_key_in item ≡ key
sort_key_is item key is = let read = sort_read item key is in (λ i. record { name = read.name i; descending = read.descending i })
