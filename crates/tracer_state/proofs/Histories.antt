-- Histories with one entry more.
use Rattle.std.proofs.Common.{◌≡◌, suc, ◌-◌, ◌<◌, List, [], ◌∷◌, ◌++◌, length, reverse, All, IsOk, refl, ap, ◌∙◌, arith}
use Rattle.std.proofs.lemmas.List.{reverse-append, length-reverse, get_or-reverse}
use Rattle.trace_command.specs.Requests.{request_of}
use Rattle.tracer_specification.specs.History.{answer, requests_of, past_of, IsEntry, IsLegal}
use Rattle.trace_command.specs.declared.command.Config.{Config}
use Rattle.trace_command.specs.declared.command.Entry.{Entry}

-- ---- the requests of entries

length-requests_of : (entries : List Entry) → length (requests_of entries) ≡ length entries
length-requests_of [] = refl
length-requests_of (entry ∷ entries) = ap (λ n. suc n) (length-requests_of entries)

pub length-past_of : (entries : List Entry) → length (past_of entries) ≡ length entries
unfolding past_of
length-past_of entries = length-requests_of (reverse entries) ∙ length-reverse entries

pub past_of-push : (entries : List Entry) (entry : Entry) → past_of (entries ++ entry ∷ []) ≡ request_of entry.command ∷ past_of entries
unfolding past_of
past_of-push entries entry = rw reverse-append refl

-- ---- legal histories

-- what holds of each element of a list holds of each in the other order
All-reverse : {A : Type 0} (P : A → Type 0) (xs : List A) → All P xs → All P (reverse xs)
All-reverse P xs all = λ k d h.
    let inside : k < length xs = omega (arith, length-reverse xs) in
    rw (get_or-reverse xs k d inside) (all (length xs - 1 - k) d (omega arith))

pub IsLegal-push : (g : Config) (entries : List Entry) (entry : Entry) → IsLegal g entries → IsEntry entry → All (λ (e : Entry). e.ticket < entry.ticket) entries
    → IsOk (answer g (past_of entries) (request_of entry.command)) → IsLegal g (entries ++ entry ∷ [])
unfolding IsLegal past_of
IsLegal-push g entries entry legal fits below done = rw reverse-append (fits, below_back, done, legal)
  where
    below_back : All (λ (e : Entry). e.ticket < entry.ticket) (reverse entries)
    below_back = All-reverse (λ (e : Entry). e.ticket < entry.ticket) entries below
