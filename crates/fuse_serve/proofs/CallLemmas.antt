-- Calls, one after another.
use Rattle.std.proofs.Common.{◌≡◌, ◌⊎◌, inl, inr, ℕ, true, false, List, [], ◌∷◌, ◌++◌, length, not, refl, sym, ap, subst, ◌∙◌, arith, length-append}
use Rattle.std.proofs.lemmas.Bool.{false≢true}
use Rattle.std.proofs.lemmas.List.{append-nil}
use Rattle.std.proofs.lemmas.List.Concat.{flat_map-append}
use Rattle.std.proofs.lemmas.List.Elements.{All-cons, All-head, All-nil, All-tail, filter-append}
use Rattle.std.specs.List.{All}
use Rattle.fuse_serve.specs.Calls.{Call, given, given_by, is_read, reads_in, taken, taken_by, writes_in}
use Rattle.fuse_serve.specs.declared.outcome.Outcome.{Outcome}
use Rattle.fuse_serve.specs.declared.outcome.Outcome.TheVariants.{Read, Written}

-- an element of two lists, one after the other, is one of the first or of the second
pub split_append : {X : Type 0} (xs ys front : List X) (x : X) (more : List X) → xs ++ ys ≡ front ++ x ∷ more
    → ((rest : List X) × (xs ≡ front ++ x ∷ rest)) ⊎ ((middle : List X) × (front ≡ xs ++ middle) × (ys ≡ middle ++ x ∷ more))
split_append [] ys front x more e = inr (front, refl, e)
split_append {X} (a ∷ xs) ys [] x more e = let same : a ∷ xs ≡ x ∷ xs = cc in inl (xs, same)
split_append {X} (a ∷ xs) ys (b ∷ front) x more e =
    let first : a ≡ b = cc in
    let rest : xs ++ ys ≡ front ++ x ∷ more = cc in
    elim (split_append xs ys front x more rest) as (λ s. ((rest : List X) × (a ∷ xs ≡ (b ∷ front) ++ x ∷ rest)) ⊎ ((middle : List X) × (b ∷ front ≡ (a ∷ xs) ++ middle) × (ys ≡ middle ++ x ∷ more))) [
      | inl h ↦ let whole : a ∷ xs ≡ b ∷ (front ++ x ∷ h.0) = let e : xs ≡ front ++ x ∷ h.0 = h.1 in cc in inl (h.0, whole)
      | inr h ↦ let whole : b ∷ front ≡ a ∷ (xs ++ h.0) = let e : front ≡ xs ++ h.0 = h.1 in cc in inr (h.0, whole, h.2)
    ]

-- an element of a list and one more is one of the list, or that one
pub split_push : {X : Type 0} (xs : List X) (y : X) (front : List X) (x : X) (more : List X) → xs ++ y ∷ [] ≡ front ++ x ∷ more
    → ((rest : List X) × (xs ≡ front ++ x ∷ rest)) ⊎ ((front ≡ xs) × (x ≡ y))
split_push {X} xs y front x more e =
    elim (split_append xs (y ∷ []) front x more e) as (λ s. ((rest : List X) × (xs ≡ front ++ x ∷ rest)) ⊎ ((front ≡ xs) × (x ≡ y))) [
      | inl h ↦ inl h
      | inr h ↦ inr (only xs y front x more h.0 h.1 h.2)
    ]
  where
    only : (xs : List X) (y : X) (front : List X) (x : X) (more middle : List X) → front ≡ xs ++ middle → y ∷ [] ≡ middle ++ x ∷ more → (front ≡ xs) × (x ≡ y)
    only xs y front x more [] p q = (p ∙ append-nil xs, (cc))
    only xs y front x more (m ∷ middle) p q =
        let none : length {A = X} [] ≡ length (middle ++ x ∷ more) = ap length (let e : [] ≡ middle ++ x ∷ more = cc in e) in
        absurd (omega (arith, none, length-append middle (x ∷ more)))

pub no_call : {X : Type 0} (earlier : List X) (one : X) (later : List X) → [] ≡ earlier ++ one ∷ later → ⊥
no_call {X} earlier one later e = let none : length {A = X} [] ≡ length (earlier ++ one ∷ later) = ap length e in omega (arith, none, length-append earlier (one ∷ later))

-- what holds of all holds of each
pub all_at : {X : Type 0} (P : X → Type 0) (xs front : List X) (x : X) (more : List X) → xs ≡ front ++ x ∷ more → All P xs → P x
all_at {X} P xs front x more e h = here front (subst (All P) e h)
  where
    here : (front : List X) → All P (front ++ x ∷ more) → P x
    here [] h = All-head P x more h
    here (y ∷ front) h = here front (All-tail P y (front ++ x ∷ more) h)

pub all_push : {X : Type 0} (P : X → Type 0) (xs : List X) (x : X) → All P xs → P x → All P (xs ++ x ∷ [])
all_push P [] x h p = All-cons P x [] p h
all_push P (y ∷ xs) x h p = All-cons P y (xs ++ x ∷ []) (All-head P y xs h) (all_push P xs x (All-tail P y xs h) p)

-- ---- bytes

pub given-append : (xs ys : List Call) → given (xs ++ ys) ≡ given xs ++ given ys
given-append xs ys = flat_map-append (λ (call : Call). given_by call.bytes call.outcome) xs ys

pub taken-append : (xs ys : List Call) → taken (xs ++ ys) ≡ taken xs ++ taken ys
taken-append xs ys = flat_map-append (λ (call : Call). taken_by call.bytes call.outcome) xs ys

pub given_one : (call : Call) → given (call ∷ []) ≡ given_by call.bytes call.outcome
given_one call = append-nil (given_by call.bytes call.outcome)

pub taken_one : (call : Call) → taken (call ∷ []) ≡ taken_by call.bytes call.outcome
taken_one call = append-nil (taken_by call.bytes call.outcome)

write_gives : (bytes : List ℕ) (outcome : Outcome) → is_read outcome ≡ false → given_by bytes outcome ≡ []
write_gives bytes (Read result) h = absurd (false≢true (sym h))
write_gives bytes (Written result) h = refl

read_takes : (bytes : List ℕ) (outcome : Outcome) → is_read outcome ≡ true → taken_by bytes outcome ≡ []
read_takes bytes (Read result) h = refl
read_takes bytes (Written result) h = absurd (false≢true h)

abbrev pub AreWrites : List Call → Type 0
AreWrites calls = All (λ (call : Call). is_read call.outcome ≡ false) calls

pub writes_give : (writes : List Call) → AreWrites writes → given writes ≡ []
writes_give [] h = refl
writes_give (one ∷ more) h =
    let P : Call → Type 0 = λ call. is_read call.outcome ≡ false in
    ap (λ (xs : List ℕ). xs ++ given more) (write_gives one.bytes one.outcome (All-head P one more h)) ∙ writes_give more (All-tail P one more h)

take_more : (bytes : List ℕ) (outcome : Outcome) (more : List Call) → taken more ≡ taken (writes_in more)
    → taken (record { bytes = bytes; outcome = outcome } ∷ more) ≡ taken (writes_in (record { bytes = bytes; outcome = outcome } ∷ more))
take_more bytes (Read result) more h = h
take_more bytes (Written result) more h = ap (λ (xs : List ℕ). taken_by bytes (Written result) ++ xs) h

-- what calls took, their writes took
pub writes_take : (calls : List Call) → taken calls ≡ taken (writes_in calls)
writes_take [] = refl
writes_take (one ∷ more) = take_more one.bytes one.outcome more (writes_take more)

-- ---- reads and writes

pub writes_in-append : (xs ys : List Call) → writes_in (xs ++ ys) ≡ writes_in xs ++ writes_in ys
writes_in-append xs ys = filter-append (λ (call : Call). not (is_read call.outcome)) xs ys

pub reads_in-append : (xs ys : List Call) → reads_in (xs ++ ys) ≡ reads_in xs ++ reads_in ys
reads_in-append xs ys = filter-append (λ (call : Call). is_read call.outcome) xs ys

pub all_writes : (writes : List Call) → AreWrites writes → writes_in writes ≡ writes
all_writes [] h = refl
all_writes (one ∷ more) h =
    let P : Call → Type 0 = λ call. is_read call.outcome ≡ false in
    rw (All-head P one more h) (ap (λ (calls : List Call). one ∷ calls) (all_writes more (All-tail P one more h)))

pub no_reads : (writes : List Call) → AreWrites writes → reads_in writes ≡ []
no_reads [] h = refl
no_reads (one ∷ more) h =
    let P : Call → Type 0 = λ call. is_read call.outcome ≡ false in
    rw (All-head P one more h) (no_reads more (All-tail P one more h))

-- what holds of both lists together holds of each
pub all_parts : {X : Type 0} (P : X → Type 0) (xs ys : List X) → All P (xs ++ ys) → All P xs × All P ys
all_parts P [] ys h = (All-nil P, h)
all_parts P (x ∷ xs) ys h =
    let rest = all_parts P xs ys (All-tail P x (xs ++ ys) h) in
    (All-cons P x xs (All-head P x (xs ++ ys) h) rest.0, rest.1)
