-- Lines that are written one after the other.
use Rattle.std.proofs.Common.{◌≡◌, ◌++◌, ◌+◌, ◌<◌, ◌∷◌, List, ℕ, suc, drop, get_or, length, ap, sym, ◌∙◌, add-one, append_assoc, drop-cons}
use Rattle.std.specs.List.{flat_map}
use Rattle.file_list.specs.Files.{lines_of_cpu, lines_of_cpus}

pub three_lines : (old one two all a b d : List ℕ) → one ≡ old ++ a → two ≡ one ++ b → all ≡ two ++ d → all ≡ old ++ (a ++ b ++ d)
three_lines old one two all a b d p q r =
    r ∙ ap (λ (text : List ℕ). text ++ d) (q ∙ ap (λ (text : List ℕ). text ++ b) p)
    ∙ append_assoc (old ++ a) b d
    ∙ append_assoc old a (b ++ d)
    ∙ ap (λ (text : List ℕ). old ++ text) (sym (append_assoc a b d))

-- the lines of one more CPU
pub cpu_more : (old now new instance : List ℕ) (cpu : ℕ) → now ≡ old ++ lines_of_cpus instance cpu
    → new ≡ now ++ lines_of_cpu instance cpu → new ≡ old ++ lines_of_cpus instance (cpu + 1)
cpu_more old now new instance cpu before step =
    rw add-one
    (step ∙ ap (λ (text : List ℕ). text ++ lines_of_cpu instance cpu) before
    ∙ append_assoc old (lines_of_cpus instance cpu) (lines_of_cpu instance cpu))

-- what is left after the first of some that are left
rest_of : (A : Type 0) (xs : List A) (i : ℕ) (x : A) → i < length xs → x ≡ get_or xs i x → drop i xs ≡ x ∷ drop (i + 1) xs
rest_of A xs i x within is = rw add-one (drop-cons xs i x within ∙ ap (λ (first : A). first ∷ drop (suc i) xs) (sym is))

-- the bytes of one more, where those of all that are left are still to come
pub one_written : (A : Type 0) (f : A → List ℕ) (xs : List A) (i : ℕ) (x : A) (all now new : List ℕ) → i < length xs → x ≡ get_or xs i x
    → now ++ flat_map f (drop i xs) ≡ all → new ≡ now ++ f x → new ++ flat_map f (drop (i + 1) xs) ≡ all
one_written A f xs i x all now new within is before step =
    ap (λ (text : List ℕ). text ++ flat_map f (drop (i + 1) xs)) step
    ∙ append_assoc now (f x) (flat_map f (drop (i + 1) xs))
    ∙ ap (λ (left : List A). now ++ flat_map f left) (sym (rest_of A xs i x within is))
    ∙ before
