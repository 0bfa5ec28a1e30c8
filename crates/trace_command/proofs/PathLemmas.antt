-- The parts of a path.
use Rattle.std.proofs.Common.{◌≡◌, ℕ, ◌+◌, ◌<◌, Bool, true, false, not, ◌==◌, eqb, List, [], ◌∷◌, length, get_or, take, drop, refl, sym, subst, Option, Some, None, Bor, bytes_eq, codes, if◌then◌else◌, arith}
use Rattle.std.specs.List.{prefix_len}
use Rattle.std.proofs.lemmas.List.Elements.{All-from_get_or}
use Rattle.std.proofs.lemmas.List.Splits.{slice_split_first, slice_split_none, length-slice_split}
use Rattle.std.proofs.lemmas.List.Sums.{prefix_len_passes}
use Rattle.std.proofs.lemmas.Slice.Eq.{bytes_eq-Decides}
use Rattle.trace_lex.specs.Prefixes.{is_not}
use Rattle.trace_command.specs.Paths.{File, address_in, file_in, file_of_instance, instance_in, is_instance, parts, top_file}
use Rattle.trace_command.specs.FileNames.{parts_of}

not_slash : (b : ℕ) → is_not 47 b ≡ true → (b == 47) ≡ false
not_slash b is = by_test (b == 47) is
  where
    by_test : (t : Bool) → not t ≡ true → t ≡ false
    by_test true is = absurd cc
    by_test false is = refl

-- the first part ends at the first slash
pub parts_at : (path : List ℕ) (len : ℕ) → len ≡ prefix_len (is_not 47) path → len < length path
    → parts path ≡ take len path ∷ parts (drop (len + 1) path)
parts_at path len is within =
    subst (λ (n : ℕ). parts path ≡ take n path ∷ parts (drop (n + 1) path)) (sym is)
    (slice_split_first (λ b. b == 47) path 0 (omega (arith, is, within)))

-- where there is no slash, the path is the one part
pub parts_none : (path : List ℕ) (len : ℕ) → len ≡ prefix_len (is_not 47) path → len ≡ length path → parts path ≡ path ∷ []
parts_none path len is all =
    slice_split_none (λ b. b == 47) path
    (All-from_get_or (λ b. (b == 47) ≡ false) path 0
    (λ k within. not_slash (get_or path k 0) (prefix_len_passes (is_not 47) path k 0 (omega (arith, is, all, within)))))

-- a path that is a word without a slash
one_part : (path word : List ℕ) → parts word ≡ word ∷ [] → bytes_eq path word ≡ true → parts path ≡ path ∷ []
one_part path word whole same = let is : path ≡ word = (bytes_eq-Decides path word).0 same in rw is whole

by_word : (path word : List ℕ) (this other : Option File) (file : File) → parts word ≡ word ∷ []
    → (other ≡ Some file → parts path ≡ path ∷ []) → (if bytes_eq path word then this else other) ≡ Some file → parts path ≡ path ∷ []
by_word path word this other file whole rest found = by_test (bytes_eq path word) refl found
  where
    by_test : (t : Bool) → bytes_eq path word ≡ t → (if t then this else other) ≡ Some file → parts path ≡ path ∷ []
    by_test true same found = one_part path word whole same
    by_test false same found = rest found

-- no name of a file at the top has a slash
pub top_file_alone : (path : List ℕ) (file : File) → top_file path ≡ Some file → parts path ≡ path ∷ []
unfolding top_file
top_file_alone path file =
    by_word path (codes "trace") _ _ file refl
    (by_word path (codes "trace_pipe") _ _ file refl
    (by_word path (codes "trace_options") _ _ file refl
    (by_word path (codes "tracing_on") _ _ file refl
    (by_word path (codes "snapshot") _ _ file refl
    (by_word path (codes "synthetic_events") _ _ file refl (λ found. absurd cc))))))

more_than_four : (a b c d : List ℕ) (ps : List (List ℕ)) → 0 < length ps → file_in (a ∷ b ∷ c ∷ d ∷ ps) ≡ None
more_than_four a b c d [] h = absurd (omega arith)
more_than_four a b c d (p ∷ ps) h = refl

-- no file has a path of more than four parts
pub file_in-five : (a b c d : List ℕ) (rest : Option (Bor (List ℕ))) (below : Bor (List ℕ)) → rest ≡ Some below
    → file_in (a ∷ b ∷ c ∷ d ∷ parts_of rest) ≡ None
file_in-five a b c d rest below is =
    rw is (more_than_four a b c d (parts below.now) (omega (arith, length-slice_split (λ b. eqb b 47) below.now)))

-- a path has a part
some_part : (path : List ℕ) → 0 < length (parts path)
some_part path = omega (arith, length-slice_split (λ b. eqb b 47) path)

instance_in-more : (a b : List ℕ) (ps : List (List ℕ)) → 0 < length ps → instance_in (a ∷ b ∷ ps) ≡ None
instance_in-more a b [] h = absurd (omega arith)
instance_in-more a b (p ∷ ps) h = refl

-- more than two parts are no instance's path
pub instance_in-three : (a b : List ℕ) (rest : Option (Bor (List ℕ))) (below : Bor (List ℕ)) → rest ≡ Some below
    → instance_in (a ∷ b ∷ parts_of rest) ≡ None
instance_in-three a b rest below is = rw is (instance_in-more a b (parts below.now) (some_part below.now))

address_in-more : (a b : List ℕ) (ps : List (List ℕ)) → 0 < length ps → is_instance a b ≡ true
    → address_in (a ∷ b ∷ ps) ≡ record { instance = Some b; file = file_of_instance (file_in ps) }
address_in-more a b [] h is = absurd (omega arith)
address_in-more a b (p ∷ ps) h is = rw is refl

-- the rest of a path below an instance
pub address_in-instance : (a b rest : List ℕ) → is_instance a b ≡ true
    → address_in (a ∷ b ∷ parts rest) ≡ record { instance = Some b; file = file_of_instance (file_in (parts rest)) }
address_in-instance a b rest is = address_in-more a b (parts rest) (some_part rest) is
