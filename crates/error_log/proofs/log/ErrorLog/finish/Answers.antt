use Rattle.std.specs.Prelude.{◌≡◌, ◌++◌, ◌∷◌, [], List}
use Rattle.std.proofs.Common.{ap, sym, ◌∙◌}
use Rattle.error_log.specs.Errors.{ErrorSeen, refused}
use Rattle.error_log.specs.Logs as logs
use Rattle.mount_tree.specs.declared.node.Owner.{Owner}
use Rattle.error_log.proofs.Ends.{one_end}
use Rattle.error_log.proofs.log.ErrorLog.finish.Goals as goal

pub returns : goal.returns
returns c =
    rw (← c.self.view_is) (λ before error is.
    let both = one_end c.pop.new.self.items before c.in-Some.error error (sym c.in-Some.ensures.items ∙ is) in
    let owner_is : c.owner-owner.result ≡ error.owner = c.owner-owner.ensures ∙ ap (λ (e : ErrorSeen). e.owner) both.1 in
    let told : ErrorSeen → ErrorSeen = λ (e : ErrorSeen). refused e c.args.text.now c.args.sentence.now c.args.at in
    let refused_is : c.refuse.new.self ≡ told error = c.refuse.ensures ∙ ap told both.1 in
    let items_are : c.push.new.self.items ≡ before ++ told error ∷ [] =
    c.in-Ok.ensures.items ∙ ap (λ (e : ErrorSeen). c.pop.new.self.items ++ e ∷ []) refused_is
    ∙ ap (λ (front : List ErrorSeen). front ++ told error ∷ []) both.0 in
    c.trim.ensures ∙ ap (λ (owner : Owner). logs.trimmed owner c.push.new.self.items) owner_is ∙ ap (logs.trimmed error.owner) items_are)
