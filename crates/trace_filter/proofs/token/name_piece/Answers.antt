use Rattle.std.proofs.Common.{◌≤◌, ◌+◌, ◌∷◌, List, ℕ, length, take, one-add, if◌then◌else◌, ap, subst, ◌∙◌}
use Rattle.trace_lex.specs.Names.{is_name}
use Rattle.trace_filter.specs.Tokens.{Token, Name, Illegible}
use Rattle.trace_filter.proofs.token.name_piece.Goals as goal

abbrev name_or_misfit : List ℕ → Token
name_or_misfit bytes = if is_name bytes then Name bytes else Illegible

pub returns : goal.returns
returns c = record {
  token = c.name_token.ensures ∙ ap name_or_misfit
      (ap (take (1 + c.name_len-more.result)) c.requires ∙ ap (λ k. take k (c.args.first ∷ c.args.rest.now)) (one-add c.name_len-more.result) ∙ ap (λ n. c.args.first ∷ take n c.args.rest.now) c.name_len-more.ensures.value);
  more = c.name_len-more.ensures.value;
  within = subst (λ n. n ≤ length c.args.rest.now) c.name_len-more.ensures.value c.name_len-more.ensures.bound;
}
