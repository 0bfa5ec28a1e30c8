-- A line that `emit` names.
use Rattle.std.proofs.Common.{◌≡◌, ℕ, List, true, codes, Ok, refl, sym, subst}
use Rattle.std.proofs.lemmas.Slice.Eq.{bytes_eq-Decides}
use Rattle.std.specs.Str.{bytes_eq}
use Rattle.trace_script.specs.Outcomes.{◌>>=◌}
use Rattle.trace_script.specs.Lines.{named_line, named_command, emission_of}
use Rattle.trace_script.specs.declared.line.Line.TheVariants.{Ask}
use Rattle.trace_script.specs.declared.token.Token.{Token}

pub emission_line : (name : List ℕ) (tokens : List Token) → bytes_eq name (codes "emit") ≡ true → named_line name tokens ≡ (emission_of tokens >>= λ command. Ok (Ask command))
unfolding named_line named_command
emission_line name tokens is =
    let Asks : List ℕ → Type 0 = λ n. named_line n tokens ≡ (emission_of tokens >>= λ command. Ok (Ask command)) in
    subst Asks (sym ((bytes_eq-Decides name (codes "emit")).0 is)) refl
