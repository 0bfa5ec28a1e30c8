use Rattle.std.proofs.Common.{◌≡◌, ◌<◌, true, nat_lt, None, is_some, rules, sym, ap, ◌∙◌, arith}
use Rattle.std.proofs.lemmas.Bool.{and_parts}
use Rattle.std.proofs.lemmas.Bool.Decides.{nat_tests}
use Rattle.mount_tree.specs.Children.{owner_is_there}
use Rattle.mount_tree.specs.Scenes.{SceneSeen}
use Rattle.mount_stub_files.proofs.Owners.{owner-named}
use Rattle.mount_replies.proofs.PageReads.{some-none}
use Rattle.mount_replies.proofs.mount.Mount.next_page.Goals as goal
use Rattle.mount_replies.proofs.mount.Mount.next_page.Goals.{in_default-via-in-Some+else-cpu-config, in_default-via-in_default}

pub returns-in_default : goal.returns-in_default
returns-in_default c = λ past mounted.
    let old = c.args.self.now in
    let both = and_parts (owner_is_there old.scene c.args.owner) (nat_lt c.args.cpu old.scene.cpus) c.requires in
    let lives = owner-named old.live.config.cpus past old.scene c.args.owner mounted.scene both.0 in
    let some : is_some c.instance_of.result ≡ true = c.instance_of.ensures.there past mounted.lives both.0 ∙ lives in
    let few : nat_lt c.args.cpu old.live.config.cpus ≡ true = ap (λ (s : SceneSeen). nat_lt c.args.cpu s.cpus) (sym mounted.scene) ∙ both.1 in
    let within : c.args.cpu < old.live.config.cpus = grind (arith, nat_tests, few) in
    let wrong : ⊥ = elim c.in_default.branch [
      | in_default-via-in-Some+else-cpu-config w ↦ grind (arith, rules)
      | in_default-via-in_default w ↦ let none : c.instance_of.result ≡ None = search rules in some-none c.instance_of.result some none
    ] in
    absurd wrong
