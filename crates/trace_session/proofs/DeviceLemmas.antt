-- Writes one behind the other.
use Rattle.std.proofs.Common.{◌≡◌, ℕ, ◌-◌, List, [], ◌++◌, length, take, drop, Option, Some, None, ap, sym, subst, ◌∙◌, append_assoc}
use Rattle.std.proofs.lemmas.List.{append-nil, take-append-drop, take_rest}
use Rattle.std.specs.Io.KnownBytes.{Appends}
use Rattle.trace_session.specs.Devices.{AppendsFront, Passes}

pub Appends_append : (a b c : Option (List ℕ)) (xs ys : List ℕ) → Appends a b xs → Appends b c ys → Appends a c (xs ++ ys)
Appends_append None b c xs ys p q = tt
Appends_append (Some us) None c xs ys p q = absurd p
Appends_append (Some us) (Some bs) None xs ys p q = absurd q
Appends_append (Some us) (Some bs) (Some cs) xs ys p q = q ∙ (ap (λ (front : List ℕ). front ++ ys) p ∙ append_assoc us xs ys)

pub Appends_nothing : (a : Option (List ℕ)) → Appends a a []
Appends_nothing None = tt
Appends_nothing (Some us) = sym (append-nil us)

-- what is left after some more bytes from the front
pub more_of_front : (text front rest : List ℕ) (n : ℕ) → text ≡ front ++ rest → text ≡ front ++ take n rest ++ take (length rest - n) (drop n rest)
more_of_front text front rest n e =
    e ∙ (ap (λ (xs : List ℕ). front ++ xs) (sym (take-append-drop n rest))
    ∙ (sym (append_assoc front (take n rest) (drop n rest)) ∙ ap (λ (xs : List ℕ). front ++ take n rest ++ xs) (sym (take_rest rest n))))

-- one text after the other
pub Passes_append : (a b c : Option (List ℕ)) (u v w xs ys : List ℕ) → Passes a u b v xs → Passes b v c w ys → Passes a u c w (xs ++ ys)
Passes_append a b c u v w xs ys p q = (
  p.0 ++ q.0,
  sym (append_assoc u xs ys)
      ∙ (ap (λ (text : List ℕ). text ++ ys) p.1
      ∙ (append_assoc p.0 v ys
      ∙ (ap (λ (text : List ℕ). p.0 ++ text) q.1 ∙ sym (append_assoc p.0 q.0 w)))),
  Appends_append a b c p.0 q.0 p.2 q.2,
)

-- after some text a write of what waits and of more text failed
pub Passes_front : (a b c : Option (List ℕ)) (u v xs ys : List ℕ) → Passes a u b v xs → AppendsFront b c (v ++ ys) → AppendsFront a c (u ++ (xs ++ ys))
Passes_front a b c u v xs ys p q = (
  p.0 ++ q.0,
  q.1,
  sym (append_assoc u xs ys)
      ∙ (ap (λ (text : List ℕ). text ++ ys) p.1
      ∙ (append_assoc p.0 v ys
      ∙ (ap (λ (text : List ℕ). p.0 ++ text) q.2 ∙ sym (append_assoc p.0 q.0 q.1)))),
  Appends_append a b c p.0 q.0 p.2 q.3,
)

-- nothing was written, and all waits on
pub Passes_nothing : (a : Option (List ℕ)) (u : List ℕ) → Passes a u a u []
Passes_nothing a u = ([], append-nil u, Appends_nothing a)

-- what waited was written, and no more
pub Passes_all : (a b : Option (List ℕ)) (u waits : List ℕ) → waits ≡ [] → Appends a b u → Passes a u b waits []
Passes_all a b u waits e p = (u, ap (λ (xs : List ℕ). u ++ xs) (sym e), p)

-- and then what waits, or nothing, was written
pub Passes_flushed : (a b c : Option (List ℕ)) (u v w xs : List ℕ) → Passes a u b v xs → Passes b v c w [] → Passes a u c w xs
Passes_flushed a b c u v w xs p q = subst (λ (text : List ℕ). Passes a u c w text) (append-nil xs) (Passes_append a b c u v w xs [] p q)

-- what waited was written
pub Passes_flush : (a b c : Option (List ℕ)) (u v xs : List ℕ) → Passes a u b v xs → Appends b c v → Appends a c (u ++ xs)
Passes_flush a b c u v xs p q = rw p.1 (Appends_append a b c p.0 v p.2 q)

-- what waited was not all written
pub Passes_cut : (a b c : Option (List ℕ)) (u v xs : List ℕ) → Passes a u b v xs → AppendsFront b c v → AppendsFront a c (u ++ xs)
Passes_cut a b c u v xs p q = (
  p.0 ++ q.0,
  q.1,
  p.1 ∙ (ap (λ (text : List ℕ). p.0 ++ text) q.2 ∙ sym (append_assoc p.0 q.0 q.1)),
  Appends_append a b c p.0 q.0 p.2 q.3,
)

-- a front of a text, and of a longer one
pub AppendsFront_longer : (a c : Option (List ℕ)) (xs ys : List ℕ) → AppendsFront a c xs → AppendsFront a c (xs ++ ys)
AppendsFront_longer a c xs ys p =
    (p.0, p.1 ++ ys, ap (λ (text : List ℕ). text ++ ys) p.2 ∙ append_assoc p.0 p.1 ys, p.3)

-- ---- a text in two, of which the front filled what waits

module _ (a b c : Option (List ℕ)) (u kept front rest text : List ℕ) (filled : kept ≡ u ++ front) (split : text ≡ front ++ rest) where
  whole : u ++ text ≡ kept ++ rest
  whole = ap (λ (xs : List ℕ). u ++ xs) split ∙ (sym (append_assoc u front rest) ∙ ap (λ (xs : List ℕ). xs ++ rest) (sym filled))

  -- it was written, and the rest waits
  pub rest_waits : (waits : List ℕ) → waits ≡ [] ++ rest → Appends a b kept → Passes a u b waits text
  rest_waits waits e p = (kept, whole ∙ ap (λ (xs : List ℕ). kept ++ xs) (sym e), p)

  -- it was written, and the rest too
  pub rest_written : (waits : List ℕ) → waits ≡ [] → Appends a b kept → Appends b c rest → Passes a u c waits text
  rest_written waits e p q =
      (kept ++ rest, whole ∙ (sym (append-nil (kept ++ rest)) ∙ ap (λ (xs : List ℕ). kept ++ rest ++ xs) (sym e)), Appends_append a b c kept rest p q)

  -- it was not all written
  pub front_cut : AppendsFront a b kept → AppendsFront a b (u ++ text)
  front_cut p = (p.0, p.1 ++ rest, whole ∙ (ap (λ (xs : List ℕ). xs ++ rest) p.2 ∙ append_assoc p.0 p.1 rest), p.3)

  -- it was written, and the rest was not all written
  pub rest_cut : Appends a b kept → AppendsFront b c rest → AppendsFront a c (u ++ text)
  rest_cut p q = (
    kept ++ q.0,
    q.1,
    whole ∙ (ap (λ (xs : List ℕ). kept ++ xs) q.2 ∙ sym (append_assoc kept q.0 q.1)),
    Appends_append a b c kept q.0 p q.3,
  )
