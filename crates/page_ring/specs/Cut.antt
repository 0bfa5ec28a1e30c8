-- How accepted records fall on pages, by their sizes alone.
use Rattle.std.specs.Prelude.{ℕ, ◌+◌, ◌==◌, nat_le, List, [], ◌∷◌, ◌++◌, length, fold, sum_by, if◌then◌else◌}

-- a record that was accepted: how many were accepted before it, its page, its bytes
pub record Accepted : Type 0 where
  pub number : ℕ
  pub page : ℕ
  pub bytes : List ℕ

-- the page of the last record, 0 where there is none
abbrev pub last_page : List Accepted → ℕ
last_page records = fold (λ _ r. r.page) 0 records

-- how many bytes the records of a page take together
abbrev pub filled : ℕ → List Accepted → ℕ
filled page records = sum_by (λ r. if r.page == page then length r.bytes else 0) records

-- the page of one more record: the last page where it fits, else the next one
abbrev pub next_page : ℕ → List Accepted → ℕ → ℕ
next_page page_bytes records size =
    if nat_le (filled (last_page records) records + size) page_bytes then last_page records else last_page records + 1

-- the records and one more
abbrev pub with_record : ℕ → List Accepted → List ℕ → List Accepted
with_record page_bytes records bytes =
    records ++ record { number = length records; page = next_page page_bytes records (length bytes); bytes = bytes } ∷ []

-- the greedy cut: each record with its number and page
unfoldable pub cut : ℕ → List (List ℕ) → List Accepted
cut page_bytes accepted = fold (with_record page_bytes) [] accepted
