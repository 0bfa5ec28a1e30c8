-- The rings of a buffer, one by one: what holds of the ring of a CPU, and of all rings once that of a CPU has changed.
use Rattle.std.proofs.Common.{◌≡◌, ℕ, zero, suc, ◌+◌, ◌<◌, List, [], ◌∷◌, ◌++◌, drop, length, map, get_or, set, replicate, refl, sym, ap, ◌∙◌, subst, arith, length-set}
use Rattle.std.proofs.lemmas.List.{set-get_or, map-set, get_or-map, append-nil, append_assoc, drop_all, drop_more, set_at, length-replicate, replicate_more}
use Rattle.page_ring.specs.Events.{Event}
use Rattle.page_ring.specs.Shown as ring
use Rattle.trace_buffer.specs.Families.{events_of}
use Rattle.trace_buffer.specs.Buffers.{Seen, EachStandsFor, StandsFor, cpus}
use Rattle.std.specs.Vec.{with_item}
use Rattle.trace_buffer.specs.Sound.{HasShape, IsSound, seen}
use Rattle.trace_buffer.specs.declared.buffer.Buffer.TheInside.{Inside}

pub stands_length : (rings : List ring.Seen) (family : List (List Event)) → EachStandsFor rings family → length family ≡ length rings
stands_length [] [] h = refl
stands_length [] (events ∷ family) h = elim h [ ]
stands_length (r ∷ rings) [] h = elim h [ ]
stands_length (r ∷ rings) (events ∷ family) h = ap suc (stands_length rings family h.1)

pub stands_at : (rings : List ring.Seen) (family : List (List Event)) (i : ℕ) (d : ring.Seen) → i < length rings → EachStandsFor rings family
    → ring.StandsFor (get_or rings i d) (events_of family i)
stands_at [] family i d inside h = absurd (omega arith)
stands_at (r ∷ rings) [] i d inside h = elim h [ ]
stands_at (r ∷ rings) (events ∷ family) zero d inside h = h.0
stands_at (r ∷ rings) (events ∷ family) (suc i) d inside h = stands_at rings family i d (omega arith) h.1

-- the ring of a CPU stands for other events, and the others stand for what they stood for
pub stands-set : (rings : List ring.Seen) (family : List (List Event)) (i : ℕ) (r : ring.Seen) (events : List Event) → EachStandsFor rings family
    → ring.StandsFor r events → EachStandsFor (set rings i r) (set family i events)
stands-set [] [] i r events h new = h
stands-set [] (old ∷ family) i r events h new = elim h [ ]
stands-set (s ∷ rings) [] i r events h new = elim h [ ]
stands-set (s ∷ rings) (old ∷ family) zero r events h new = (new, h.1)
stands-set (s ∷ rings) (old ∷ family) (suc i) r events h new = (h.0, stands-set rings family i r events h.1 new)

-- the same, where the ring was read at its place
pub stands_step : (rings : List ring.Seen) (family : List (List Event)) (i : ℕ) (old new : ring.Seen) (events : List Event)
    → old ≡ get_or rings i old → i < length rings → EachStandsFor rings family
    → (ring.StandsFor old (events_of family i) → ring.StandsFor new events) → EachStandsFor (set rings i new) (set family i events)
stands_step rings family i old new events is inside h step =
    stands-set rings family i new events h
    (step (subst (λ (r : ring.Seen). ring.StandsFor r (events_of family i)) (sym is) (stands_at rings family i old inside h)))

-- the same, where the ring stands for what it stood for
pub stands_still : (rings : List ring.Seen) (family : List (List Event)) (i : ℕ) (old new : ring.Seen)
    → old ≡ get_or rings i old → i < length rings → EachStandsFor rings family
    → (ring.StandsFor old (events_of family i) → ring.StandsFor new (events_of family i)) → EachStandsFor (set rings i new) family
stands_still rings family i old new is inside h step =
    subst (λ (f : List (List Event)). EachStandsFor (set rings i new) f) (set-get_or family i [])
    (stands_step rings family i old new (events_of family i) is inside h step)

pub shape_at : (pages page_bytes : ℕ) (rings : List ring.Seen) (i : ℕ) (r : ring.Seen) → r ≡ get_or rings i r → i < length rings
    → HasShape pages page_bytes rings → (r.pages ≡ pages) × (r.page_bytes ≡ page_bytes)
shape_at pages page_bytes [] i r is inside h = absurd (omega arith)
shape_at pages page_bytes (s ∷ rings) zero r is inside h = (ap (λ (x : ring.Seen). x.pages) is ∙ h.0, ap (λ (x : ring.Seen). x.page_bytes) is ∙ h.1)
shape_at pages page_bytes (s ∷ rings) (suc i) r is inside h = shape_at pages page_bytes rings i r is (omega arith) h.2

pub shape-set : (pages page_bytes : ℕ) (rings : List ring.Seen) (i : ℕ) (r : ring.Seen) → r.pages ≡ pages → r.page_bytes ≡ page_bytes
    → HasShape pages page_bytes rings → HasShape pages page_bytes (set rings i r)
shape-set pages page_bytes [] i r p b h = h
shape-set pages page_bytes (s ∷ rings) zero r p b h = (p, b, h.2)
shape-set pages page_bytes (s ∷ rings) (suc i) r p b h = (h.0, h.1, shape-set pages page_bytes rings i r p b h.2)

-- a number of each ring, at the ring of a CPU
pub number_at : (f : ring.Seen → ℕ) (rings : List ring.Seen) (i : ℕ) (r : ring.Seen) → r ≡ get_or rings i r → i < length rings
    → get_or (map f rings) i 0 ≡ f r
number_at f rings i r is inside = get_or-map f rings i r 0 inside ∙ ap f (sym is)

-- and where the ring of a CPU has it as before
pub number_still : (f : ring.Seen → ℕ) (rings : List ring.Seen) (i : ℕ) (old new : ring.Seen) → old ≡ get_or rings i old → i < length rings
    → f new ≡ f old → map f (set rings i new) ≡ map f rings
number_still f rings i old new is inside same =
    map-set f rings i new ∙ ap (λ (n : ℕ). set (map f rings) i n) (same ∙ sym (number_at f rings i old is inside))
    ∙ set-get_or (map f rings) i 0

-- ---- the same of a buffer whose fields were read: b is what they show, and now the buffer as clauses see it

-- the ring of a CPU in a buffer
pub record IsRingOf (now : Seen) (cpu : ℕ) (r : ring.Seen) : Type 0 where
  pub pages : r.pages ≡ now.pages
  pub page_bytes : r.page_bytes ≡ now.page_bytes
  pub stands : (family : List (List Event)) → StandsFor now family → ring.StandsFor r (events_of family cpu)

pub ring_read : (b now : Seen) (i : ℕ) (r : ring.Seen) → b ≡ now → HasShape b.pages b.page_bytes b.rings → r ≡ get_or b.rings i r → i < cpus now
    → IsRingOf now i r
unfolding StandsFor
ring_read b now i r e shape is inside =
    let P : Seen → Type 0 = λ s. HasShape s.pages s.page_bytes s.rings → r ≡ get_or s.rings i r → IsRingOf now i r in
    subst P (sym e)
    (λ shape is. record {
      pages = (shape_at now.pages now.page_bytes now.rings i r is inside shape).0;
      page_bytes = (shape_at now.pages now.page_bytes now.rings i r is inside shape).1;
      stands = λ family h. subst (λ (s : ring.Seen). ring.StandsFor s (events_of family i)) (sym is) (stands_at now.rings family i r inside h);
    }) shape is

pub stands_after : (b now : Seen) (i : ℕ) (old new : ring.Seen) (family : List (List Event)) (events : List Event)
    → b ≡ now → old ≡ get_or b.rings i old → i < cpus now → StandsFor now family
    → (ring.StandsFor old (events_of family i) → ring.StandsFor new events) → EachStandsFor (set b.rings i new) (set family i events)
unfolding StandsFor
stands_after b now i old new family events e is inside h step =
    let P : Seen → Type 0 = λ s. old ≡ get_or s.rings i old → EachStandsFor (set s.rings i new) (set family i events) in
    subst P (sym e) (λ is. stands_step now.rings family i old new events is inside h step) is

pub stands_as_before : (b now : Seen) (i : ℕ) (old new : ring.Seen) (family : List (List Event))
    → b ≡ now → old ≡ get_or b.rings i old → i < cpus now → StandsFor now family
    → (ring.StandsFor old (events_of family i) → ring.StandsFor new (events_of family i)) → EachStandsFor (set b.rings i new) family
stands_as_before b now i old new family e is inside h step =
    subst (λ (f : List (List Event)). EachStandsFor (set b.rings i new) f) (set-get_or family i [])
    (stands_after b now i old new family (events_of family i) e is inside h step)

pub number_read : (f : ring.Seen → ℕ) (b now : Seen) (i : ℕ) (r : ring.Seen) → b ≡ now → r ≡ get_or b.rings i r → i < cpus now
    → get_or (map f now.rings) i 0 ≡ f r
number_read f b now i r e is inside =
    let P : Seen → Type 0 = λ s. r ≡ get_or s.rings i r → get_or (map f now.rings) i 0 ≡ f r in
    subst P (sym e) (λ is. number_at f now.rings i r is inside) is

-- a number of each ring, once the ring of a CPU has changed
pub numbers_after : (f : ring.Seen → ℕ) (b now : Seen) (i : ℕ) (new : ring.Seen) (n : ℕ) → b ≡ now → f new ≡ n
    → map f (set b.rings i new) ≡ set (map f now.rings) i n
numbers_after f b now i new n e is =
    map-set f b.rings i new ∙ ap (λ (m : ℕ). set (map f b.rings) i m) is ∙ ap (λ (s : Seen). set (map f s.rings) i n) e

pub numbers_as_before : (f : ring.Seen → ℕ) (b now : Seen) (i : ℕ) (old new : ring.Seen)
    → b ≡ now → old ≡ get_or b.rings i old → i < cpus now → f new ≡ f old → map f (set b.rings i new) ≡ map f now.rings
numbers_as_before f b now i old new e is inside same =
    numbers_after f b now i new (f old) e same ∙ ap (λ (n : ℕ). set (map f now.rings) i n) (sym (number_read f b now i old e is inside))
    ∙ set-get_or (map f now.rings) i 0

-- a buffer stays sound where the ring of a CPU keeps its shape
pub sound_after : (b : Inside) (now : Seen) (i : ℕ) (old new : ring.Seen) → seen b ≡ now → old ≡ get_or b.rings.items i old → i < cpus now
    → new.pages ≡ old.pages → new.page_bytes ≡ old.page_bytes → IsSound b
    → IsSound (record { alloc = b.alloc; pages = b.pages; page_bytes = b.page_bytes; rings = with_item b.rings i new })
sound_after b now i old new e is inside pages page_bytes s =
    let many : length b.rings.items ≡ cpus now = ap cpus e in
    let shape = shape_at b.pages b.page_bytes b.rings.items i old is (omega (arith, many)) s.shape in
    record {
      some = rw length-set s.some;
      few = rw length-set s.few;
      shape = shape-set b.pages b.page_bytes b.rings.items i new (pages ∙ shape.0) (page_bytes ∙ shape.1) s.shape;
    }

-- ---- all rings

-- a buffer stands for as many lists as it has CPUs
pub stands_count : (buffer : Seen) (family : List (List Event)) → StandsFor buffer family → length family ≡ cpus buffer
unfolding StandsFor
stands_count buffer family h = stands_length buffer.rings family h

pub stands_push : (rings : List ring.Seen) (family : List (List Event)) (r : ring.Seen) (events : List Event) → EachStandsFor rings family
    → ring.StandsFor r events → EachStandsFor (rings ++ r ∷ []) (family ++ events ∷ [])
stands_push [] [] r events h new = (new, tt)
stands_push [] (old ∷ family) r events h new = elim h [ ]
stands_push (s ∷ rings) [] r events h new = elim h [ ]
stands_push (s ∷ rings) (old ∷ family) r events h new = (h.0, stands_push rings family r events h.1 new)

pub shape_push : (pages page_bytes : ℕ) (rings : List ring.Seen) (r : ring.Seen) → HasShape pages page_bytes rings → r.pages ≡ pages
    → r.page_bytes ≡ page_bytes → HasShape pages page_bytes (rings ++ r ∷ [])
shape_push pages page_bytes [] r h p b = (p, b, tt)
shape_push pages page_bytes (s ∷ rings) r h p b = (h.0, h.1, shape_push pages page_bytes rings r h.2 p b)

-- the first elements of a list were replaced, and now the next one is
pub set-replaced : {X : Type 0} (i : ℕ) (x : X) (xs : List X) → i < length xs
    → set (replicate i x ++ drop i xs) i x ≡ replicate (i + 1) x ++ drop (i + 1) xs
set-replaced i x xs inside =
    ap (λ rest. set (replicate i x ++ rest) i x) (drop_more xs i x inside)
    ∙ set_at (replicate i x) (get_or xs i x) (drop (i + 1) xs) x i (length-replicate i x)
    ∙ sym (append_assoc (replicate i x) (x ∷ []) (drop (i + 1) xs))
    ∙ ap (λ front. front ++ drop (i + 1) xs) (replicate_more i x)

pub all_replaced : {X : Type 0} (n : ℕ) (x : X) (xs : List X) → length xs ≡ n → replicate n x ++ drop n xs ≡ replicate n x
all_replaced n x xs e = ap (λ rest. replicate n x ++ rest) (drop_all n xs (omega (arith, e))) ∙ append-nil (replicate n x)
