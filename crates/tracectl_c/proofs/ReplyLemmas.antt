-- What is left of a string without its first bytes.
use Rattle.std.proofs.Common.{◌≡◌, ◌<◌, ℕ, List, [], length, drop, arith}
use Rattle.std.proofs.lemmas.List.{drop_all}

pub none_left : (n : ℕ) (xs : List ℕ) → length xs < n → drop n xs ≡ []
none_left n xs low = drop_all n xs (omega (arith, low))
