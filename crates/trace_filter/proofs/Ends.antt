-- Bytes up to the first of one kind.
use Rattle.std.proofs.Common.{◌≡◌, ◌≢◌, ℕ, suc, ◌+◌, ◌==◌, nat_lt, Bool, true, false, not, List, [], ◌∷◌, ◌++◌, length, refl, sym, ap, ◌∙◌, ◌⊎◌, inl, inr, one-add, arith}
use Rattle.std.specs.List.{prefix_len, AllByRecursion}
use Rattle.std.proofs.lemmas.Bool.{cond-true, cond-false, eq-eqb, eqb-true}
use Rattle.std.proofs.lemmas.Bool.Decides.{nat_tests}
use Rattle.trace_lex.specs.Prefixes.{is_not}

pub differs : (a b : ℕ) → (a == b) ≡ false → a ≢ b
differs a b d same = let t : (a == b) ≡ true = eq-eqb a b same in absurd (cc)

pub other : (a b : ℕ) → a ≢ b → (a == b) ≡ false
other a b h = grind (arith, nat_tests)

-- bytes up to the first that is the last byte
abbrev pub EndsAt : ℕ → List ℕ → Type 0
EndsAt last bs = (front : List ℕ) × (rest : List ℕ) × AllByRecursion (λ b. b ≢ last) front × (front ++ last ∷ rest ≡ bs)

pub end_len : (last : ℕ) (front rest : List ℕ) → AllByRecursion (λ b. b ≢ last) front → prefix_len (is_not last) (front ++ last ∷ rest) ≡ length front
end_len last [] rest h = cond-false (not (last == last)) _ _ (ap not (eq-eqb last last refl))
end_len last (b ∷ front) rest h = cond-true (not (b == last)) _ _ (ap not (other b last h.0)) ∙ ap (λ n. 1 + n) (end_len last front rest h.1) ∙ one-add (length front)

-- there is such a byte, or the bytes before one are all
pub ends : (last : ℕ) (bs : List ℕ) → EndsAt last bs ⊎ (nat_lt (prefix_len (is_not last) bs) (length bs) ≡ false)
ends last [] = inr refl
ends last (b ∷ bs) = by (b == last) refl (ends last bs)
  where
    by : (t : Bool) → (b == last) ≡ t → EndsAt last bs ⊎ (nat_lt (prefix_len (is_not last) bs) (length bs) ≡ false)
        → EndsAt last (b ∷ bs) ⊎ (nat_lt (prefix_len (is_not last) (b ∷ bs)) (length (b ∷ bs)) ≡ false)
    by true e h = inl ([], bs, tt, ap (λ x. x ∷ bs) (sym (eqb-true b last e)))
    by false e (inl h) = inl (b ∷ h.0, h.1, (differs b last e, h.2), ap (λ xs. b ∷ xs) h.3)
    by false e (inr h) =
        let size : prefix_len (is_not last) (b ∷ bs) ≡ suc (prefix_len (is_not last) bs) = cond-true (not (b == last)) _ _ (ap not e) ∙ one-add (prefix_len (is_not last) bs) in
        let more : nat_lt (suc (prefix_len (is_not last) bs)) (suc (length bs)) ≡ false = grind (arith, nat_tests) in
        inr (ap (λ n. nat_lt n (suc (length bs))) size ∙ more)
