use Rattle.std.proofs.Common.{◌≡◌, Option, None, [], is_some, rules, sym, ap, ◌∙◌}
use Rattle.mount_tree.specs.Children.{owner_is_there}
use Rattle.mount_tree.specs.NodePaths.{owner_name}
use Rattle.mount_replies.specs.Mounted.{service_of, terms_of}
use Rattle.mount_replies.proofs.PipeLemmas.{gone-told, no-pipe, pipe-told, there-is}
use Rattle.mount_replies.proofs.mount.Mount.dry_pipe.Goals as goal

pub returns-in_err-pipe-clause-is : goal.returns-in_err-pipe-clause-is
returns-in_err-pipe-clause-is c =
    let none : c.from_residual.result ≡ None = search rules in
    let lost : c.pipe_of.result ≡ None = search rules in
    rw none (λ past mounted.
    sym (no-pipe (terms_of c.args.self.now) (service_of past c.args.self.now) c.args.owner c.args.file (sym c.pipe_of.ensures ∙ lost)))

pub returns-in_err-instance-clause-is : goal.returns-in_err-instance-clause-is
returns-in_err-instance-clause-is c =
    let none : c.from_residual-in_err-instance.result ≡ None = search rules in
    let lost : c.instance_of.result ≡ None = search rules in
    rw none (λ past mounted.
    sym (gone-told past c.args.self.now c.args.owner c.args.file mounted (λ there.
    ap (λ (o : Option _). is_some o) (sym lost) ∙ c.instance_of.ensures.there past mounted.lives there)))

pub returns-then-is_no-clause-is : goal.returns-then-is_no-clause-is
returns-then-is_no-clause-is c = λ past mounted.
    let old = c.args.self.now in
    let there = there-is (owner_is_there old.scene c.args.owner) c.in_ok-instance.instance c.in_ok-instance.ensures.gone in
    sym (pipe-told past old c.args.owner c.args.file c.in_ok-pipe.pipe c.has_waiting.result mounted c.in_ok-pipe.ensures there
    (c.in_ok-instance.ensures.there past mounted.lives there)
    (c.has_waiting.ensures old.live.config (owner_name old.scene c.args.owner) past [] (c.in_ok-instance.ensures.stands past mounted.lives))
    ∙ sym c.is_no.ensures ∙ c.if-is_no.true)

pub returns-else-is_no-clause-is : goal.returns-else-is_no-clause-is
returns-else-is_no-clause-is c = λ past mounted.
    let old = c.args.self.now in
    let there = there-is (owner_is_there old.scene c.args.owner) c.in_ok-instance.instance c.in_ok-instance.ensures.gone in
    sym (pipe-told past old c.args.owner c.args.file c.in_ok-pipe.pipe c.has_waiting.result mounted c.in_ok-pipe.ensures there
    (c.in_ok-instance.ensures.there past mounted.lives there)
    (c.has_waiting.ensures old.live.config (owner_name old.scene c.args.owner) past [] (c.in_ok-instance.ensures.stands past mounted.lives))
    ∙ sym c.is_no.ensures ∙ c.if-is_no.false)
