-- Reads and writes, one after another.
use Rattle.std.proofs.Common.{◌≡◌, ℕ, ◌-◌, List, [], ◌++◌, length, take, drop, Option, Some, None, ap, sym, refl, ◌∙◌, append_assoc}
use Rattle.std.proofs.lemmas.List.{append-nil, take-append-drop, take_rest}
use Rattle.std.specs.Io.KnownBytes.{Appends, Consumes, Keeps}

pub Appends_append : (a b c : Option (List ℕ)) (xs ys : List ℕ) → Appends a b xs → Appends b c ys → Appends a c (xs ++ ys)
Appends_append None b c xs ys p q = tt
Appends_append (Some us) None c xs ys p q = absurd p
Appends_append (Some us) (Some bs) None xs ys p q = absurd q
Appends_append (Some us) (Some bs) (Some cs) xs ys p q = q ∙ (ap (λ (front : List ℕ). front ++ ys) p ∙ append_assoc us xs ys)

pub Appends_nothing : (a : Option (List ℕ)) → Appends a a []
Appends_nothing None = tt
Appends_nothing (Some us) = sym (append-nil us)

pub Consumes_append : (a b c : Option (List ℕ)) (xs ys : List ℕ) → Consumes a b xs → Consumes b c ys → Consumes a c (xs ++ ys)
Consumes_append None b c xs ys p q = tt
Consumes_append (Some us) None c xs ys p q = absurd p
Consumes_append (Some us) (Some bs) None xs ys p q = absurd q
Consumes_append (Some us) (Some bs) (Some cs) xs ys p q = p ∙ (ap (λ (rest : List ℕ). xs ++ rest) q ∙ sym (append_assoc xs ys cs))

pub Consumes_nothing : (a : Option (List ℕ)) → Consumes a a []
Consumes_nothing None = tt
Consumes_nothing (Some us) = refl

-- what is left after some more bytes from the front
pub more_of_front : (text front rest : List ℕ) (n : ℕ) → text ≡ front ++ rest → text ≡ front ++ take n rest ++ take (length rest - n) (drop n rest)
more_of_front text front rest n e =
    e ∙ (ap (λ (xs : List ℕ). front ++ xs) (sym (take-append-drop n rest))
    ∙ (sym (append_assoc front (take n rest) (drop n rest)) ∙ ap (λ (xs : List ℕ). front ++ take n rest ++ xs) (sym (take_rest rest n))))

-- known bytes that stayed as they were
pub Consumes_kept : (a b : Option (List ℕ)) → Keeps a b → Consumes a b []
Consumes_kept None b h = tt
Consumes_kept (Some us) None h = absurd h
Consumes_kept (Some us) (Some bs) h = sym h
