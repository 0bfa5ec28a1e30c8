-- Sizes past what the program counts to are refused as others are.
use Rattle.std.proofs.Common.{◌≡◌, refl, ℕ, ◌-◌, ◌<◌, ◌^◌, List, ap, arith}
use Rattle.std.proofs.lemmas.Bool.Decides.{nat_tests}
use Rattle.std.specs.Prelude.{Option, Some, None, option_and_then}
use Rattle.trace_lex.specs.Decimals.{decimal_number, up_to}
use Rattle.trace_trigger.specs.HistSizes.{rounded_size}
use Rattle.trace_trigger.specs.HistMeanings.{size_written}

-- no size is that big
past_all : (n : ℕ) → 131072 < n → rounded_size n ≡ None
past_all n h = grind (arith, nat_tests)

up_to_none : (o : Option ℕ) → up_to (2 ^ 64 - 1) o ≡ None → option_and_then rounded_size o ≡ None
up_to_none None e = refl
up_to_none (Some n) e = past_all n (grind (arith, nat_tests))

up_to_some : (o : Option ℕ) (n : ℕ) → up_to (2 ^ 64 - 1) o ≡ Some n → o ≡ Some n
up_to_some None n e = cc
up_to_some (Some m) n e = grind (arith, nat_tests)

pub size_past : (digits : List ℕ) → up_to (2 ^ 64 - 1) (decimal_number digits) ≡ None → size_written digits ≡ None
size_past digits e = up_to_none (decimal_number digits) e

pub size_read : (digits : List ℕ) (n : ℕ) → up_to (2 ^ 64 - 1) (decimal_number digits) ≡ Some n → size_written digits ≡ rounded_size n
size_read digits n e = ap (λ o. option_and_then rounded_size o) (up_to_some (decimal_number digits) n e)
