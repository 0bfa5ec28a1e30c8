-- Tokens found one behind the other.
use Rattle.std.proofs.Common.{◌≡◌, List, ◌++◌, Option, Some, None, refl, ap, append_assoc}
use Rattle.trace_script.specs.Tokens.{behind}
use Rattle.trace_script.specs.declared.token.Token.{Token}

pub behind_append : (xs ys : List Token) (rest : Option (List Token)) → behind (xs ++ ys) rest ≡ behind xs (behind ys rest)
behind_append xs ys None = refl
behind_append xs ys (Some more) = ap Some (append_assoc xs ys more)
