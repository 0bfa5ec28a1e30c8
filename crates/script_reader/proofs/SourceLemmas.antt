-- Reads one behind the other.
use Rattle.std.proofs.Common.{◌≡◌, ℕ, ◌-◌, ◌<◌, ◌≤◌, ◌⊎◌, List, [], ◌++◌, length, Option, Some, None, IfSome, inl, inr, refl, ap, subst, sym, ◌∙◌, arith, append_assoc, length-append}
use Rattle.std.proofs.lemmas.List.{append-nil}
use Rattle.std.specs.Io.KnownBytes.{Consumes, IsAtEnd}
use Rattle.script_reader.specs.Sources.{ConsumesAtMost, GivesAtMost, GivesMore, HasRisen}

pub Consumes_append : (a b c : Option (List ℕ)) (xs ys : List ℕ) → Consumes a b xs → Consumes b c ys → Consumes a c (xs ++ ys)
Consumes_append None b c xs ys p q = tt
Consumes_append (Some us) None c xs ys p q = absurd p
Consumes_append (Some us) (Some bs) None xs ys p q = absurd q
Consumes_append (Some us) (Some bs) (Some cs) xs ys p q = p ∙ (ap (λ (rest : List ℕ). xs ++ rest) q ∙ sym (append_assoc xs ys cs))

pub Consumes_nothing : (a : Option (List ℕ)) → Consumes a a []
Consumes_nothing None = tt
Consumes_nothing (Some us) = refl

pub Consumes_whole : (a b : Option (List ℕ)) (xs : List ℕ) → Consumes a b xs → IsAtEnd b → IfSome a (λ bytes. xs ≡ bytes)
Consumes_whole None b xs p e = tt
Consumes_whole (Some us) None xs p e = absurd p
Consumes_whole (Some us) (Some bs) xs p e = sym (append-nil xs) ∙ (ap (λ (rest : List ℕ). xs ++ rest) (sym e) ∙ sym p)

pub Consumes_long : (a b : Option (List ℕ)) (xs : List ℕ) (n : ℕ) → Consumes a b xs → n < length xs → IfSome a (λ bytes. n < length bytes)
Consumes_long None b xs n p h = tt
Consumes_long (Some us) None xs n p h = absurd p
Consumes_long (Some us) (Some bs) xs n p h = omega (arith, ap length p, length-append xs bs)

-- what was consumed before, and as much more as is left
pub ConsumesAtMost_append : (a b c : Option (List ℕ)) (xs : List ℕ) (most : ℕ) → Consumes a b xs → length xs ≤ most → ConsumesAtMost (most - length xs) b c
    → ConsumesAtMost most a c
ConsumesAtMost_append a b c xs most p h q = (xs ++ q.0, simp length-append (omega (arith, h, q.1)), Consumes_append a b c xs q.0 p q.2)

-- more is left than there is room for after what was consumed: there was too much
Consumes_longer : (a b : Option (List ℕ)) (xs : List ℕ) (most : ℕ) → Consumes a b xs → length xs ≤ most → IfSome b (λ bytes. most - length xs < length bytes)
    → IfSome a (λ bytes. most < length bytes)
Consumes_longer None b xs most p h q = tt
Consumes_longer (Some us) None xs most p h q = absurd p
Consumes_longer (Some us) (Some bs) xs most p h q = omega (arith, ap length p, length-append xs bs, q, h)

-- what was given before, and as much more
pub GivesAtMost_append : (a b c : List ℕ) (xs : List ℕ) (most : ℕ) → b ≡ a ++ xs → length xs ≤ most → GivesAtMost (most - length xs) b c → GivesAtMost most a c
GivesAtMost_append a b c xs most p h q =
    (xs ++ q.0, q.1 ∙ (ap (λ (front : List ℕ). front ++ q.0) p ∙ append_assoc a xs q.0), simp length-append (omega (arith, h, q.2)))

-- more was given than there is room for after what was given before: there was too much
GivesMore_append : (a b : Option (List ℕ)) (given gave gives : List ℕ) (xs : List ℕ) (most : ℕ) → Consumes a b xs → gave ≡ given ++ xs → length xs ≤ most
    → GivesMore (most - length xs) gave gives b → GivesMore most given gives a
GivesMore_append a b given gave gives xs most p e h q =
    (xs ++ q.0, q.1 ∙ (ap (λ (front : List ℕ). front ++ q.0) e ∙ append_assoc given xs q.0), (simp length-append (omega (arith, h, q.2.0)), Consumes_longer a b xs most p h q.2.1))

-- why a device stopped the reads is the same from their beginning
pub device_since : (a b : Option (List ℕ)) (given gave gives : List ℕ) (xs : List ℕ) (most first before after : ℕ) → Consumes a b xs → gave ≡ given ++ xs → length xs ≤ most
    → before ≡ first → ((HasRisen before after × (gives ≡ gave)) ⊎ GivesMore (most - length xs) gave gives b)
    → (HasRisen first after × GivesAtMost most given gives) ⊎ GivesMore most given gives a
device_since a b given gave gives xs most first before after p e h same (inl (risen, kept)) = inl (subst (λ (n : ℕ). HasRisen n after) same risen, (xs, kept ∙ e, h))
device_since a b given gave gives xs most first before after p e h same (inr long) = inr (GivesMore_append a b given gave gives xs most p e h long)
