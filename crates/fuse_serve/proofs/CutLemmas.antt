-- Bytes cut into requests.
use Rattle.std.proofs.Common.{◌≡◌, ◌⊎◌, inl, inr, true, false, ℕ, ◌≤◌, List, [], ◌∷◌, ◌++◌, length, get_or, take, drop, Bool, Option, Some, None, refl, sym, ap, subst, ◌∙◌, arith, append_assoc, length-take}
use Rattle.std.proofs.Math.ListN.{get_or-append}
use Rattle.std.proofs.lemmas.List.{append-nil, take_at, drop_at}
use Rattle.std.proofs.lemmas.List.Elements.{All-cons, All-head, All-tail, All-nil}
use Rattle.std.specs.List.{All, concat}
use Rattle.std.specs.Io.KnownBytes.{Consumes, IsAtEnd}
use Rattle.fuse_serve.specs.Exchanges.{AnswersAll, AreWhole, Exchange, IsNext, asked, requests_in, with_bytes}
use Rattle.fuse_serve.specs.Framing.{told_length, IsRequest, BeginsNoRequest}

-- what follows a request changes nothing of the length that it tells
told_length-append : (first rest : List ℕ) → 4 ≤ length first → told_length (first ++ rest) ≡ told_length first
told_length-append first rest h =
    let a : get_or (first ++ rest) 0 0 ≡ get_or first 0 0 = get_or-append first rest 0 0 (omega (arith, h)) in
    let b : get_or (first ++ rest) 1 0 ≡ get_or first 1 0 = get_or-append first rest 0 1 (omega (arith, h)) in
    let c : get_or (first ++ rest) 2 0 ≡ get_or first 2 0 = get_or-append first rest 0 2 (omega (arith, h)) in
    let d : get_or (first ++ rest) 3 0 ≡ get_or first 3 0 = get_or-append first rest 0 3 (omega (arith, h)) in
    omega (arith, a, b, c, d)

-- a request and what follows it have the length that they tell at their beginning
size_told : (first rest : List ℕ) → IsRequest first → length first ≡ told_length (first ++ rest)
size_told first rest request = sym request.told ∙ sym (told_length-append first rest (omega (arith, request.header)))

-- two requests at the beginning of the same bytes are the same
same_first : (first second left rest : List ℕ) → IsRequest first → IsRequest second → first ++ left ≡ second ++ rest → (first ≡ second) × (left ≡ rest)
same_first first second left rest one other e =
    let size : length first ≡ length second = size_told first left one ∙ (ap told_length e ∙ sym (size_told second rest other)) in (
      sym (take_at first left (length first) refl) ∙ (ap (take (length first)) e ∙ take_at second rest (length first) (sym size)),
      sym (drop_at first left (length first) refl) ∙ (ap (drop (length first)) e ∙ drop_at second rest (length first) (sym size)),
    )

none_first : (left first rest : List ℕ) → BeginsNoRequest left → IsRequest first → left ≡ first ++ rest → ⊥
none_first left first rest none request e = none (length first) (subst IsRequest (sym (ap (take (length first)) e ∙ take_at first rest (length first) refl)) request)

pub cut_one_way : (first second : List (List ℕ)) (left rest : List ℕ) → All IsRequest first → All IsRequest second → BeginsNoRequest left → BeginsNoRequest rest
    → concat first ++ left ≡ concat second ++ rest → (first ≡ second) × (left ≡ rest)
cut_one_way [] [] left rest h k none none' e = (refl, e)
cut_one_way [] (b ∷ bs) left rest h k none none' e =
    absurd (none_first left b (concat bs ++ rest) none (All-head IsRequest b bs k) (e ∙ append_assoc b (concat bs) rest))
cut_one_way (a ∷ as') [] left rest h k none none' e =
    absurd (none_first rest a (concat as' ++ left) none' (All-head IsRequest a as' h) (sym e ∙ append_assoc a (concat as') left))
cut_one_way (a ∷ as') (b ∷ bs) left rest h k none none' e =
    let both = same_first a b (concat as' ++ left) (concat bs ++ rest) (All-head IsRequest a as' h) (All-head IsRequest b bs k)
    (sym (append_assoc a (concat as') left) ∙ (e ∙ append_assoc b (concat bs) rest)) in
    let more = cut_one_way as' bs left rest (All-tail IsRequest a as' h) (All-tail IsRequest b bs k) none none' both.1 in
    (ap (λ (x : List ℕ). x ∷ as') both.0 ∙ ap (λ (xs : List (List ℕ)). b ∷ xs) more.0, more.1)

-- ---- the requests of exchanges

pub none_in_none : BeginsNoRequest []
none_in_none size request = let few : length (take {A = ℕ} size []) ≡ 0 = length-take {A = ℕ} size [] ∙ omega arith in omega (arith, request.header, few)

with_joined : (request : List ℕ) (more : List (List ℕ)) → concat (with_bytes request more) ≡ request ++ concat more
with_joined [] more = refl
with_joined (byte ∷ bytes) more = refl

joined : (exchanges : List Exchange) → asked exchanges ≡ concat (requests_in exchanges)
joined [] = refl
joined (one ∷ more) = ap (λ (xs : List ℕ). one.request ++ xs) (joined more) ∙ sym (with_joined one.request (requests_in more))

with_whole : (request : List ℕ) (more : List (List ℕ)) → (request ≡ []) ⊎ IsRequest request → All IsRequest more → All IsRequest (with_bytes request more)
with_whole [] more h rest = rest
with_whole (byte ∷ bytes) more (inl h) rest = absurd (let no : byte ∷ bytes ≡ [] = h in cc)
with_whole (byte ∷ bytes) more (inr h) rest = All-cons IsRequest (byte ∷ bytes) more h rest

-- the requests of exchanges are whole
pub requests_whole : (exchanges : List Exchange) → AreWhole exchanges → All IsRequest (requests_in exchanges)
requests_whole [] h = All-nil IsRequest
requests_whole (one ∷ more) h =
    let P : Exchange → Type 0 = λ x. (x.request ≡ []) ⊎ IsRequest x.request in
    with_whole one.request (requests_in more) (All-head P one more h) (requests_whole more (All-tail P one more h))

pub asked_are_served : (requests : List (List ℕ)) (exchanges : List Exchange) → All IsRequest requests → AreWhole exchanges → asked exchanges ≡ concat requests
    → requests_in exchanges ≡ requests
asked_are_served requests exchanges whole all same =
    (cut_one_way (requests_in exchanges) requests [] [] (requests_whole exchanges all) whole none_in_none none_in_none
    (ap (λ (ys : List ℕ). ys ++ []) (sym (joined exchanges) ∙ same))).0

pub all_are_served : (requests : List (List ℕ)) (exchanges : List Exchange) (new : Option (List ℕ)) → All IsRequest requests → AreWhole exchanges
    → Consumes (Some (concat requests)) new (asked exchanges) → IsAtEnd new
    → requests_in exchanges ≡ requests
all_are_served requests exchanges None whole all consumed end = absurd consumed
all_are_served requests exchanges (Some xs) whole all consumed end =
    asked_are_served requests exchanges whole all (sym (consumed ∙ (ap (λ (ys : List ℕ). asked exchanges ++ ys) end ∙ append-nil (asked exchanges))))

pub next_whole : (owes : Bool) (request : List ℕ) → IsNext owes request → (request ≡ []) ⊎ IsRequest request
next_whole true request h = inl h
next_whole false request h = inr h

-- what a server answered are whole requests
pub asked_whole : {S : Type 0} (answers : S → List ℕ → S → List ℕ → Type 0) (ends owes : S → Bool) (before : S) (exchanges : List Exchange) (after : S)
    → AnswersAll answers ends owes before exchanges after → AreWhole exchanges
asked_whole answers ends owes before [] after h = All-nil (λ (one : Exchange). (one.request ≡ []) ⊎ IsRequest one.request)
asked_whole answers ends owes before (one ∷ more) after h =
    All-cons (λ (x : Exchange). (x.request ≡ []) ⊎ IsRequest x.request) one more (next_whole (owes before) one.request h.1) (asked_whole answers ends owes h.2 more after h.4)
