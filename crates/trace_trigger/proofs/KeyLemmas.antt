-- Keys, their names and their offsets.
use Rattle.std.proofs.Common.{◌≡◌, ℕ, ◌+◌, Bool, not, nat_lt, cond, bytes_eq, List, [], ◌∷◌, map, Some, None, refl, ap}
use Rattle.std.specs.List.{position, position_or_len}
use Rattle.std.proofs.lemmas.List.{length-map}
use Rattle.trace_format.specs.declared.key.Key.{Key}
use Rattle.trace_trigger.specs.HistSpecs.{key_names}

first-map : {A B : Type 0} (p : B → Bool) (f : A → B) (xs : List A) → position_or_len p (map f xs) ≡ position_or_len (λ x. p (f x)) xs
first-map p f [] = refl
first-map p f (x ∷ xs) = ap (λ n. cond (not (p (f x))) (1 + n) 0) (first-map p f xs)

position-map : {A B : Type 0} (p : B → Bool) (f : A → B) (xs : List A) → position p (map f xs) ≡ position (λ x. p (f x)) xs
position-map p f xs = (λ i. cond (nat_lt (first-map p f xs i) (length-map xs f i)) (Some (first-map p f xs i)) None)

pub key_position : (keys : List Key) (name : List ℕ) → position (bytes_eq name) (key_names keys) ≡ position (λ (key : Key). bytes_eq name key.name) keys
key_position keys name = position-map (bytes_eq name) (λ (key : Key). key.name) keys
