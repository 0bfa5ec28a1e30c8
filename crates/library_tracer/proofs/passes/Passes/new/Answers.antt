use Rattle.std.proofs.Common.{◌++◌, Some, ap, subst, ◌∙◌, sym}
use Rattle.trace_command.specs.declared.command.Config.{Config as ConfigSeen}
use Rattle.library_tracer.specs.InnerPasses.{seen_of}
use Rattle.mount_replies.specs.declared.mount.Owners.{Owners as OwnersSeen}
use Rattle.library_tracer.specs.PassesSeen.{AreNew, made_with}
use Rattle.library_tracer.specs.Tiled.{AreParts}
use Rattle.library_tracer.proofs.PassLemmas.{made_new}
use Rattle.library_tracer.proofs.passes.Passes.new.Goals as goal

pub returns-in-Ok-clause-made : goal.returns-in-Ok-clause-made
returns-in-Ok-clause-made c =
    let added = c.split_evenly.ensures.added in
    let shared = c.in_ok-tracer.tracer in
    let g = made_with c.args.config c.args.owners c.args.limit in
    let items = sym (added.1 ∙ ap (λ xs. xs ++ added.0) c.in_ok-callers.ensures.items) in
    let same = c.in_ok-tracer.ensures.config in
    let terms = ap (λ (s : ConfigSeen). made_with s shared.owners shared.limit) same.0
    ∙ ap (λ (o : OwnersSeen). made_with c.args.config o shared.limit) same.1 ∙ ap (λ n. made_with c.args.config c.args.owners n) same.2 in
    let parts = subst (λ low. AreParts shared low 1024 added.0) c.in_ok-tracer.ensures.root.names.0 added.2 in
    subst (λ s. AreNew g (Some (seen_of s c.split_evenly.new.callers.items))) (sym c.in-Ok.ensures.ok)
    (subst (λ xs. AreNew g (Some (seen_of shared xs))) items (made_new g shared added.0 terms parts added.3))
