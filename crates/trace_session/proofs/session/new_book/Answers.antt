use Rattle.std.proofs.Common.{◌≡◌, ◌<◌, List, [], All, sym, ap, subst, ◌∙◌}
use Rattle.std.proofs.lemmas.List.Elements.{All-nil}
use Rattle.ticket_lock.specs.Calls.{view_of}
use Rattle.shared_book.specs.Bases.{numbers_of}
use Rattle.trace_command.specs.declared.command.Config.{Config}
use Rattle.trace_command.specs.declared.command.Entry.{Entry}
use Rattle.tracer_specification.specs.History.{IsLegal}
use Rattle.trace_session.proofs.session.new_book.Goals as goal

-- a history without entries is legal
none_legal : (g : Config) → IsLegal g []
unfolding IsLegal
none_legal g = tt

pub returns-clause-session : goal.returns-clause-session
returns-clause-session g c =
    let root = c.in_ok-made.ensures.root in
    let v = view_of c.in_ok-made.made.1 in
    let seen : v.seen ≡ [] = root.seen ∙ c.in-Ok.ensures.made.1 in
    record {
      names = root.names;
      base = sym (root.base ∙ g.met.B.SharedBook.bases c.in-Ok.book ∙ ap numbers_of c.in-Ok.ensures.made.0);
      legal = subst (λ (es : List Entry). IsLegal c.args.config es) (sym seen) (none_legal c.args.config);
      below = subst (λ (es : List Entry). All (λ (e : Entry). e.ticket < v.front) es) (sym seen) (All-nil (λ (e : Entry). e.ticket < v.front));
    }
