use Rattle.std.proofs.Common.{◌≡◌, ◌∙◌, Bool, true, not, ap, sym}
use Rattle.mount_tree.specs.Children.{is_there}
use Rattle.mount_tree.specs.declared.node.Node.TheVariants as nodes
use Rattle.mount_replies.specs.contracts.mount.Mount.{the_view}
use Rattle.mount_replies.specs.declared.writing.Target.{Target}
use Rattle.mount_replies.specs.private.Targets.{IsTarget}
use Rattle.mount_replies.proofs.WriteLemmas.{writes-inject, writes-other}
use Rattle.mount_replies.proofs.mount.Mount.write.Goals as goal

pub returns-in-Inject-clause-step : goal.returns-in-Inject-clause-step
returns-in-Inject-clause-step c =
    let target : Target = record { handle = c.args.handle; owner = c.owner.result; file = c.file.result; append = not c.starts_over.result } in
    let is : IsTarget c.in-Some.open_file.now target = record {
      owner = sym c.owner.ensures;
      file_is = sym c.file.ensures;
      append = ap (λ (b : Bool). not b) (sym c.starts_over.ensures);
    } in
    let there : is_there c.self.inside.scene (nodes.File c.owner.result c.file.result) ≡ true = sym c.exists.ensures ∙ c.if-not-exists.false in
    let told = rw (← c.self.view_is) at c.inject.ensures.step in
    rw (← c.self.view_is) (λ past mounted.
    writes-inject past (the_view c.self.inside) c.inject.new.self c.args.lock_owner c.args.pid c.in-Inject.event c.args.bytes.now c.in-Some.open_file.now
    target c.inject.result mounted c.in-Some.ensures is there c.in-Inject.is
    (told past c.in-Some.open_file.now mounted (sym c.in-Some.ensures) is (sym c.file.ensures ∙ c.in-Inject.is)))

pub returns-in_default-file-clause-step : goal.returns-in_default-file-clause-step
returns-in_default-file-clause-step c =
    let target : Target = record { handle = c.args.handle; owner = c.owner.result; file = c.file.result; append = not c.starts_over.result } in
    let is : IsTarget c.in-Some.open_file.now target = record {
      owner = sym c.owner.ensures;
      file_is = sym c.file.ensures;
      append = ap (λ (b : Bool). not b) (sym c.starts_over.ensures);
    } in
    let there : is_there c.self.inside.scene (nodes.File c.owner.result c.file.result) ≡ true = sym c.exists.ensures ∙ c.if-not-exists.false in
    let told = rw (← c.self.view_is) at c.write_other.ensures.step in
    rw (← c.self.view_is) (λ past mounted.
    writes-other past (the_view c.self.inside) c.write_other.new.self c.args.lock_owner c.args.pid c.args.bytes.now c.in-Some.open_file.now
    target c.write_other.result mounted c.in-Some.ensures is there c.in_default-file.not-Inject (told past c.in-Some.open_file.now mounted is))
