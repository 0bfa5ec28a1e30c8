-- Consuming reads of one ring: whether there is a further record.
use Rattle.std.proofs.Common.{◌≡◌, ℕ, ◌<◌, ◌≤◌, List, [], ◌∷◌, ◌++◌, length, replicate, drop, Option, Some, None, refl, sym, ap, ◌∙◌, arith, length-drop}
use Rattle.std.specs.Option.{option_map}
use Rattle.page_ring.specs.Account.{Reading, readings_of, first}
use Rattle.page_ring.specs.Events.{Event, Take}
use Rattle.page_ring.specs.Laws.{TakesLeaveTheRest}

no_first : (readings : List Reading) → option_map (λ r. r.lost) (first readings) ≡ None → length readings ≡ 0
no_first [] e = refl
no_first (r ∷ rest) e = cc

some_first : (readings : List Reading) (lost : ℕ) → option_map (λ r. r.lost) (first readings) ≡ Some lost → 0 < length readings
some_first [] lost e = cc
some_first (r ∷ rest) lost e = omega arith

-- what a read answers after n reads: it is the rest of the records that counts
left_after : TakesLeaveTheRest → (p b p' b' : ℕ) (events : List Event) (n : ℕ) (result : Option ℕ) → p' ≡ p → b' ≡ b
    → result ≡ option_map (λ r. r.lost) (first (readings_of p' b' (events ++ replicate n Take)))
    → result ≡ option_map (λ r. r.lost) (first (drop n (readings_of p b events)))
left_after rest p b p' b' events n result e f answer =
    answer ∙ ap (λ (q : ℕ). option_map (λ r. r.lost) (first (readings_of q b' (events ++ replicate n Take)))) e
    ∙ ap (λ (q : ℕ). option_map (λ r. r.lost) (first (readings_of p q (events ++ replicate n Take)))) f
    ∙ ap (λ (rs : List Reading). option_map (λ r. r.lost) (first rs)) (rest p b events n)

pub none_left : TakesLeaveTheRest → (p b p' b' : ℕ) (events : List Event) (n : ℕ) (result : Option ℕ) → p' ≡ p → b' ≡ b
    → result ≡ option_map (λ r. r.lost) (first (readings_of p' b' (events ++ replicate n Take))) → result ≡ None
    → length (readings_of p b events) ≤ n
none_left rest p b p' b' events n result e f answer none =
    let left = no_first (drop n (readings_of p b events)) (sym (left_after rest p b p' b' events n result e f answer) ∙ none) in
    omega (arith, left, length-drop n (readings_of p b events))

pub some_left : TakesLeaveTheRest → (p b p' b' : ℕ) (events : List Event) (n : ℕ) (result : Option ℕ) → p' ≡ p → b' ≡ b
    → result ≡ option_map (λ r. r.lost) (first (readings_of p' b' (events ++ replicate n Take))) → (lost : ℕ) → result ≡ Some lost
    → n < length (readings_of p b events)
some_left rest p b p' b' events n result e f answer lost some =
    let left = some_first (drop n (readings_of p b events)) lost (sym (left_after rest p b p' b' events n result e f answer) ∙ some) in
    omega (arith, left, length-drop n (readings_of p b events))
